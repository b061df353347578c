use Rattle.std.proofs.Common.{◌≡◌, ◌^◌, ◌<◌, ◌≤◌, length}
use Rattle.sheet.specs.Numbers.{number_read}
use Rattle.sheet.proofs.Groups.{onto, left}
use Rattle.sheet.proofs.numbers.read_number.Given as goal

abbrev pub invariant-loop-index : goal.invariant-loop-index
invariant-loop-index l = record {
  few : length l.groups ≤ 4;
  reads : onto l.weight l.value l.index (left l.groups l.place l.index) ≡ number_read l.bytes l.place;
  weighs : l.weight ≡ 128 ^ l.index;
  below : l.value < l.weight;
}

use Rattle.std.proofs.Common.{◌≡◌, ◌-◌, length, take}
use Rattle.rehearsal.proofs.Arguments.{behind}
use Rattle.rehearsal.proofs.scripts.read_numbers.Given as goal
use Rattle.rehearsal.specs.Scripts.{numbers_in}
use Rattle.sheet.specs.Values.{left_of}

-- the numbers read so far, and those still to come
abbrev pub invariant-loop-number : goal.invariant-loop-number
invariant-loop-number g l =
    (length l.number-items ≡ g.row.N)
    × (numbers_in g.row.N (left_of l.fn.rest) ≡ behind (take l.number-index l.number-items) (numbers_in (g.row.N - l.number-index) (left_of l.rest)))

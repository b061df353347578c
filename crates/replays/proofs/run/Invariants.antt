use Rattle.std.proofs.Common.{◌≤◌}
use Rattle.replays.proofs.run.Given as goal

abbrev pub invariant-loop-number : goal.invariant-loop-number
invariant-loop-number l = l.agreed ≤ l.number-counter

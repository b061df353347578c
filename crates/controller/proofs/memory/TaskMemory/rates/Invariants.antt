use Rattle.std.proofs.Common.{◌≡◌, take}
use Rattle.controller.proofs.memory.TaskMemory.rates.Given as goal
use Rattle.controller.specs.Tasks.{rates}

-- the rates of the slots that were looked at
abbrev pub invariant-loop-slot : goal.invariant-loop-slot
invariant-loop-slot l = l.sum ≡ rates (take l.slot-index l.slot-items)

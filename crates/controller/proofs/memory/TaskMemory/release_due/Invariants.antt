use Rattle.std.proofs.Common.{◌≡◌, ◌++◌, map, take, drop}
use Rattle.controller.proofs.memory.TaskMemory.release_due.Given as goal
use Rattle.controller.specs.Tasks.{Mirrored}
use Rattle.rules.specs.Jobs.{due_at}

-- the slots that were looked at are dealt with, the others as they were
abbrev pub invariant-loop-place : goal.invariant-loop-place
invariant-loop-place g l =
    (l.slot-items ≡ map (due_at l.clock) (take l.place l.initial.slot-items) ++ drop l.place l.initial.slot-items)
    × Mirrored g.L.ReadyList l.slot-items l.list

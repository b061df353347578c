use Rattle.promise.proofs.Calls.{admission_keeps, change_keeps, deadline_is_met, empty_is_feasible, turn_keeps}
use Rattle.promise.proofs.feasibility_is_kept.Goals as goal

pub returns : goal.returns
returns c = record { start = empty_is_feasible; admission = admission_keeps; change = change_keeps; turn = turn_keeps; deadline = deadline_is_met }

-- A stage over the memory that is lent to its calls.
use Rattle.std.specs.Prelude.{Bool}
use Rattle.calls.specs.Answering.{State, at_rest, in_turn}
use Rattle.calls.specs.declared.stages.Stage.{Stage}
use Rattle.calls.specs.declared.stages.Stage.TheVariants.{Rest, Turning}
use Rattle.controller.specs.Tasks.{Tasks}
use Rattle.controller.specs.Tied.{Open, Tied}
use Rattle.order.specs.declared.entries.Entry.{Entry}
use Rattle.ready.specs.Held.{Held}
use Rattle.ready.specs.declared.ReadyList.{Ghosts}

-- the state of a controller, from its stage and its tasks
abbrev pub state_of : Stage → Tasks → State
state_of (Rest T) tasks = at_rest T tasks
state_of (Turning turn) tasks = in_turn turn tasks

-- what ties a stage to its memory: the tie of a resting controller or of an open turn
abbrev pub TiedAt : (Entry → Entry → Bool) → Stage → Tasks → Held → Type 0 → Type 0
TiedAt before (Rest T) tasks held ok = Tied T tasks held ok
TiedAt before (Turning turn) tasks held ok = Open before turn tasks held ok

-- the same, of the memory and the list that are lent to a call; `lists` says what a list of type L holds
abbrev pub TiedTo : {L O : Type 0} → Ghosts L O → (Entry → Entry → Bool) → Stage → Tasks → L → Type 0
TiedTo lists before stage tasks list = TiedAt before stage tasks (lists.held list) (lists.ok list)

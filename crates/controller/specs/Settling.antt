-- Settling a turn.
use Rattle.std.specs.Prelude.{ℕ, ◌+◌, ◌-◌, ◌≤◌, cond, map, None, Ok, Err, Result, nat_lt, slice_index_or, slice_set}
use Rattle.controller.specs.Tasks.{Tasks}
use Rattle.controller.specs.declared.states.Runs.{Runs}
use Rattle.controller.specs.declared.states.Runs.TheVariants.{Task, Idle}
use Rattle.controller.specs.declared.states.Turn.{Turn}
use Rattle.rules.specs.Jobs.{Chargeable, charged, due_at}
use Rattle.rules.specs.declared.refusals.Refusal.{Refusal}
use Rattle.rules.specs.declared.refusals.Refusal.TheVariants.{CountTooHigh}

-- the turn's task has run c ticks
abbrev pub charged_in : Runs → ℕ → Tasks → Tasks
charged_in Idle c tasks = tasks
charged_in (Task number deadline) c tasks = slice_set tasks (number - 1) (charged c (slice_index_or tasks (number - 1) None))

-- the turn's task is in the table and may be charged c ticks
abbrev pub Runner : Runs → ℕ → Tasks → Type 0
Runner Idle c tasks = Unit {0}
Runner (Task number deadline) c tasks = (1 ≤ number) × (number ≤ 64) × Chargeable c (slice_index_or tasks (number - 1) None)

-- the tasks after c ticks of a turn: its task is charged, then every deadline that has come is dealt with;
-- a count above the turn's length changes nothing
abbrev pub settled_tasks : Turn → ℕ → Tasks → Tasks
settled_tasks turn c tasks = cond (nat_lt turn.length c) tasks (map (due_at (turn.start + c)) (charged_in turn.runs c tasks))

-- settle's answer: the controller at rest with the clock advanced, or the turn back, still open
abbrev pub settling : Turn → ℕ → Result ℕ (Turn × Refusal)
settling turn c = cond (nat_lt turn.length c) (Err (turn, CountTooHigh)) (Ok (turn.start + c))

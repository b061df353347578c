-- Changes of a task of the table.
use Rattle.std.specs.Prelude.{ℕ, Some, None, Err, Option, Result}
use Rattle.controller.specs.Tasks.{Tasks, rates}
use Rattle.ready.specs.Held.{slot_at}
use Rattle.rules.specs.Changes.{changed}
use Rattle.rules.specs.declared.changes.Change.{Change}
use Rattle.rules.specs.declared.refusals.Refusal.{Refusal}
use Rattle.rules.specs.declared.refusals.Refusal.TheVariants.{NoSuchTask}
use Rattle.rules.specs.declared.tasks.Task.{Task}

-- the task that has a number
abbrev pub task_at : Tasks → ℕ → Option Task
task_at tasks number = slot_at tasks number

-- a call on a number that no task has is refused before all else
abbrev pub on_task : {A : Type 0} → Option Task → (Task → Result A Refusal) → Result A Refusal
on_task None rule = Err NoSuchTask
on_task (Some t) rule = rule t

-- the task as a change at T leaves it, or the reason why not
abbrev pub change_at : ℕ → Tasks → ℕ → Change → Result Task Refusal
change_at T tasks number change = on_task (task_at tasks number) (λ t. changed T (rates tasks) t change)

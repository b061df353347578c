-- Admission to the table of tasks.
use Rattle.std.specs.Prelude.{ℕ, ◌-◌, Bool, is_some, Some, Ok, Err, Result, slice_set}
use Rattle.controller.specs.Changing.{task_at}
use Rattle.controller.specs.Tasks.{Tasks, rates}
use Rattle.rules.specs.Admission.{admission}
use Rattle.rules.specs.declared.admission.Reservation.{Reservation}
use Rattle.rules.specs.declared.refusals.Refusal.{Refusal}
use Rattle.rules.specs.declared.tasks.Task.{Task}

-- a task has the number, be it leaving, waiting or finished
abbrev pub is_taken : Tasks → ℕ → Bool
is_taken tasks number = is_some (task_at tasks number)

-- the task that is admitted at T, or the reason why not
abbrev pub admission_to : ℕ → Tasks → Reservation → Result Task Refusal
admission_to T tasks asked = admission T (is_taken tasks asked.number) (rates tasks) asked

-- the tasks with the one that was admitted; a refusal changes none
abbrev pub with_task : Result Task Refusal → Tasks → Tasks
with_task (Ok t) tasks = slice_set tasks (t.number - 1) (Some t)
with_task (Err why) tasks = tasks

-- the answer of a call that hands out no value
abbrev pub accepted : {A E : Type 0} → Result A E → Result (Unit {0}) E
accepted (Ok a) = Ok tt
accepted (Err why) = Err why

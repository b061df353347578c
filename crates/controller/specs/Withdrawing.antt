-- Withdrawal of a task of the table.
use Rattle.std.specs.Prelude.{ℕ, ◌-◌, Ok, Err, Option, Result, slice_set}
use Rattle.controller.specs.Changing.{on_task, task_at}
use Rattle.controller.specs.Tasks.{Tasks}
use Rattle.rules.specs.Withdrawals.{departure_of, withdrawn}
use Rattle.rules.specs.declared.refusals.Refusal.{Refusal}
use Rattle.rules.specs.declared.tasks.Task.{Task}
use Rattle.rules.specs.declared.withdrawals.Departure.{Departure}

-- the slot as a withdrawal at T leaves it, or the reason why not
abbrev pub withdrawal_at : ℕ → Tasks → ℕ → Result (Option Task) Refusal
withdrawal_at T tasks number = on_task (task_at tasks number) (withdrawn T)

-- the tasks with the slot of a number written anew; a refusal changes none
abbrev pub with_slot : ℕ → Result (Option Task) Refusal → Tasks → Tasks
with_slot number (Ok slot) tasks = slice_set tasks (number - 1) slot
with_slot number (Err why) tasks = tasks

-- withdraw's answer: when the task goes, or the reason why not
abbrev pub departing : Result (Option Task) Refusal → Result Departure Refusal
departing (Ok slot) = Ok (departure_of slot)
departing (Err why) = Err why

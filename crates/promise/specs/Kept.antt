-- The law for single calls: a call that is made on a feasible table leaves a feasible one, and a deadline that comes finds nothing left of a ready job.
use Rattle.std.specs.Prelude.{◌≡◌, ℕ, ◌+◌, ◌<◌, ◌≤◌, Bool, true, length, Some, None, slice_index_or}
use Rattle.controller.specs.Admitting.{admission_to, with_task}
use Rattle.controller.specs.Changing.{change_at}
use Rattle.controller.specs.Settling.{charged_in, settled_tasks}
use Rattle.controller.specs.Tasks.{Tasks, no_tasks}
use Rattle.controller.specs.Tied.{Open, Tied}
use Rattle.controller.specs.declared.states.Turn.{Turn}
use Rattle.order.specs.Orders.{Lawful}
use Rattle.order.specs.declared.entries.Entry.{Entry}
use Rattle.promise.specs.Feasible.{Feasible}
use Rattle.ready.specs.Held.{Held, Slotted}
use Rattle.rules.specs.Tasks.{is_ready}
use Rattle.rules.specs.declared.admission.Reservation.{Reservation}
use Rattle.rules.specs.declared.changes.Change.{Change}
use Rattle.rules.specs.declared.tasks.Task.{Task}

-- nothing is owed where there is no task
abbrev pub EmptyIsFeasible : Type 0
EmptyIsFeasible = Feasible 0 no_tasks

-- an admission, accepted or refused
abbrev pub AdmissionKeeps : Type 0
AdmissionKeeps = (T : ℕ) (tasks : Tasks) (held : Held) → Tied T tasks held (Unit {0}) → (asked : Reservation) → Feasible T tasks → Feasible T (with_task (admission_to T tasks asked) tasks)

-- a change under way, accepted or refused
abbrev pub ChangeKeeps : Type 0
ChangeKeeps = (T : ℕ) (tasks : Tasks) (held : Held) → Tied T tasks held (Unit {0}) → (number : ℕ) (change : Change) → Feasible T tasks → Feasible T (with_task (change_at T tasks number change) tasks)

-- a turn that is settled, over any ready list and any lawful order
abbrev pub TurnKeeps : Type 0
TurnKeeps =
    (before : Entry → Entry → Bool) → Lawful before → (turn : Turn) (tasks : Tasks) (held : Held) → Slotted held → Open before turn tasks held (Unit {0}) → (c : ℕ) → c ≤ turn.length
    → Feasible turn.start tasks → Feasible (turn.start + c) (settled_tasks turn c tasks)

-- and when it has brought the clock to the deadline of a ready job, the job has had all its ticks
abbrev pub DeadlineIsMet : Type 0
DeadlineIsMet =
    (before : Entry → Entry → Bool) → Lawful before → (turn : Turn) (tasks : Tasks) (held : Held) → Slotted held → Open before turn tasks held (Unit {0}) → (c : ℕ) → c ≤ turn.length
    → Feasible turn.start tasks → (i : ℕ) (t : Task) → i < length tasks → slice_index_or (charged_in turn.runs c tasks) i None ≡ Some t → t.deadline ≡ turn.start + c → is_ready t.phase ≡ true → t.left ≡ 0

-- The tasks of a controller, and how the ready list mirrors them.
use Rattle.std.specs.Prelude.{◌≡◌, ℕ, ◌+◌, List, map, length, replicate, Some, None, sum_by, Option}
use Rattle.order.specs.declared.entries.Entry.{Entry}
use Rattle.ready.specs.Held.{Held, PlacedBy}
use Rattle.ready.specs.declared.ReadyList.{Ghosts}
use Rattle.rules.specs.Tasks.{entry_of, rate_of}
use Rattle.rules.specs.declared.tasks.Task.{Task}

-- 64 slots, slot k for task number k + 1
abbrev pub Tasks : Type 0
Tasks = List (Option Task)

abbrev pub no_tasks : Tasks
no_tasks = replicate 64 None

-- an entry belongs into the slot of its number
abbrev pub Fits : ℕ → Option Entry → Type 0
Fits number None = Unit {0}
Fits number (Some e) = e.number ≡ number

-- a task belongs into the slot of its number
abbrev pub InSlot : ℕ → Option Task → Type 0
InSlot place None = Unit {0}
InSlot place (Some t) = t.number ≡ place + 1

-- 64 slots, each task in the slot of its number, and the list holds exactly the ready tasks with a tick left
pub record Mirrors (tasks : Tasks) (held : Held) : Type 0 where
  pub many : length tasks ≡ 64
  pub placed : PlacedBy (λ t. t.number) tasks
  pub same : held ≡ map entry_of tasks

-- the tasks and a list that mirrors them; `lists` says what a list of type L holds, and when its memory is in order
pub record Mirrored {L O : Type 0} (lists : Ghosts L O) (tasks : Tasks) (list : L) : Type 0 where
  pub mirror : Mirrors tasks (lists.held list)
  pub memory : lists.ok list

-- the rates in force of all tasks, leaving, waiting and finished ones too
abbrev pub rates : Tasks → ℕ
rates tasks = sum_by rate_of tasks

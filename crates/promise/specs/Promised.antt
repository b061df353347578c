-- The promise, over every list of calls and their answers: each answer is the one that the rules ask for, and every task
-- gets what it was sold before each of its deadlines.
use Rattle.std.specs.Prelude.{◌≡◌, ℕ, ◌+◌, ◌*◌, ◌^◌, ◌<◌, ◌≤◌, Bool, true, ◌⊎◌, List, [], ◌∷◌, Some, None, Ok, Option, ◌≢◌}
use Rattle.calls.specs.Answering.{Answer, State, answer_to, answers_to, start}
use Rattle.calls.specs.Asking.{Asked}
use Rattle.calls.specs.declared.exchanges.Reply.TheVariants.{Opened, Settled}
use Rattle.controller.specs.Changing.{task_at}
use Rattle.controller.specs.Tasks.{Tasks}
use Rattle.controller.specs.declared.states.Runs.{Runs}
use Rattle.controller.specs.declared.states.Runs.TheVariants.{Idle, Task as RunsTask}
use Rattle.controller.specs.declared.states.Turn.{Turn}
use Rattle.order.specs.Orders.{Lawful}
use Rattle.order.specs.declared.entries.Entry.{Entry}
use Rattle.promise.specs.Account.{Account, Ledger, fresh, moved, read_at, state_in}
use Rattle.rules.specs.Tasks.{wants_to_run}
use Rattle.rules.specs.declared.tasks.Task.{Task}
use Rattle.std.specs.List.{AllByRecursion}

-- what is read of a task at its deadline
pub record Paid (a : Ledger) : Type 0 where
  -- paid in full: the ticks given to the job since its release are exactly its grant less what it gave up
  pub in_full : a.job.given + a.job.given_up ≡ a.job.grant
  -- within the rate: over all jobs since admission no more than the rates summed tick by tick
  pub no_more : 1000 * (a.since.given + a.since.given_up) ≤ a.since.rates
  -- and short of that by less than a tick for each release and each change
  pub no_less : a.since.rates < 1000 * (a.since.given + a.since.given_up) + 1000 * (a.since.releases + a.since.changes)

-- a deadline that is not after the clock has come
abbrev pub PaidAt : ℕ → Option Ledger → Type 0
PaidAt T None = Unit {0}
PaidAt T (Some a) = a.terms.deadline ≤ T → Paid a

-- only a settled turn moves the clock; every deadline that has come by then is read
abbrev pub PaidBy : Answer → Account → Type 0
PaidBy (Ok (Settled T)) a = AllByRecursion (PaidAt T) (read_at T a)
PaidBy answer a = Unit {0}

-- a task as the tie order sees it
abbrev pub entry_for : Task → Entry
entry_for t = record { number = t.number; deadline = t.deadline; rate = t.rate }

-- a turn's task is ready, has a tick left and comes before every other such task under the order
pub record First (before : Entry → Entry → Bool) (tasks : Tasks) (number deadline : ℕ) : Type 0 where
  pub task : Task
  pub is_there : task_at tasks number ≡ Some task
  pub wants : wants_to_run task ≡ true
  pub until : task.deadline ≡ deadline
  pub leads : (other : ℕ) (t : Task) → task_at tasks other ≡ Some t → wants_to_run t ≡ true → (number ≢ other) → before (entry_for task) (entry_for t) ≡ true

-- an idle turn says that no task is ready with a tick left
abbrev pub Runner : (Entry → Entry → Bool) → Tasks → Runs → Type 0
Runner before tasks Idle = (number : ℕ) (t : Task) → task_at tasks number ≡ Some t → wants_to_run t ≢ true
Runner before tasks (RunsTask number deadline) = First before tasks number deadline

-- a time at which a turn has to end: the last tick, a deadline of any task, or when its own task has no tick left
abbrev pub IsDeadline : Tasks → ℕ → Type 0
IsDeadline tasks time = (number : ℕ) × (t : Task) × (task_at tasks number ≡ Some t) × (t.deadline ≡ time)

abbrev pub UsesUp : ℕ → Tasks → Runs → ℕ → Type 0
UsesUp T tasks Idle time = ⊥
UsesUp T tasks (RunsTask number deadline) time = (t : Task) × (task_at tasks number ≡ Some t) × (T + t.left ≡ time)

abbrev pub Ends : ℕ → Tasks → Runs → ℕ → Type 0
Ends T tasks runs time = (time ≡ 2 ^ 40) ⊎ (IsDeadline tasks time ⊎ UsesUp T tasks runs time)

-- the turn that is to be had at T: it starts then, and ends at the first of these times and not before
pub record Rightly (before : Entry → Entry → Bool) (T : ℕ) (tasks : Tasks) (turn : Turn) : Type 0 where
  pub starts : turn.start ≡ T
  pub runs : Runner before tasks turn.runs
  pub lasts : 0 < turn.length
  pub ends : Ends T tasks turn.runs (T + turn.length)
  pub first : (time : ℕ) → Ends T tasks turn.runs time → T + turn.length ≤ time

-- only begin opens a turn
abbrev pub TurnBy : (Entry → Entry → Bool) → Answer → State → Type 0
TurnBy before (Ok (Opened turn)) s = Rightly before s.clock s.tasks turn
TurnBy before answer s = Unit {0}

-- one call and its answer, against the account as it stood before
pub record Kept (before : Entry → Entry → Bool) (a : Account) (asked : Asked) (answer : Answer) : Type 0 where
  -- the answer is the one that the rules ask for, a refusal with its reason
  pub right : answer ≡ answer_to before (state_in a) asked
  -- a turn is given to the right task, for the right time
  pub turn : TurnBy before answer (state_in a)
  -- every deadline that has come is paid in full and within the rate
  pub paid : PaidBy answer a

-- the whole list, the account going along
abbrev pub Promise : (Entry → Entry → Bool) → Account → List Asked → List Answer → Type 0
Promise before a [] answers = Unit {0}
Promise before a (asked ∷ later) [] = Unit {0}
Promise before a (asked ∷ later) (answer ∷ answers) = Kept before a asked answer × Promise before (moved asked answer a) later answers

-- for calls that are made one by one, over any list and any lawful order: each has the answer of its own contract, and the promise holds of them all
abbrev pub OneByOne : Type 0
OneByOne = (before : Entry → Entry → Bool) → Lawful before → (asked : List Asked) → Promise before fresh asked (answers_to before start asked)

-- What ties a state to the memory that is lent to its calls.
use Rattle.std.specs.Prelude.{◌≡◌, ℕ, ◌^◌, ◌<◌, ◌≤◌, Bool, Some, None, Ok, Err, Option, Result}
use Rattle.controller.specs.Tasks.{Mirrors, Tasks, rates}
use Rattle.controller.specs.Turns.{begun}
use Rattle.controller.specs.declared.states.Turn.{Turn}
use Rattle.order.specs.declared.entries.Entry.{Entry}
use Rattle.ready.specs.Held.{Held, first_of}
use Rattle.ready.specs.declared.ReadyList.{Ghosts}
use Rattle.rules.specs.Sound.{SoundSlot}
use Rattle.rules.specs.declared.refusals.Refusal.{Refusal}
use Rattle.std.specs.List.{AllByRecursion}

-- a resting controller with the clock T over its tasks and its list; `ok` says that the list's own memory is in order
pub record Tied (T : ℕ) (tasks : Tasks) (held : Held) (ok : Type 0) : Type 0 where
  pub in_time : T ≤ 2 ^ 40
  pub mirror : Mirrors tasks held
  pub sound : AllByRecursion (SoundSlot T) tasks
  pub shared : rates tasks ≤ 1000
  pub memory : ok

-- an open turn over the memory that it was begun with: it is the turn which that memory asks for
pub record Open (before : Entry → Entry → Bool) (turn : Turn) (tasks : Tasks) (held : Held) (ok : Type 0) : Type 0 where
  pub rest : Tied turn.start tasks held ok
  pub early : turn.start < 2 ^ 40
  pub asked : turn ≡ begun turn.start tasks (first_of before held)

-- the ties to the tasks and the list that are lent to a call; `lists` says what a list of type L holds, and when its memory is in order
abbrev pub TiedTo : {L O : Type 0} → Ghosts L O → ℕ → Tasks → L → Type 0
TiedTo lists T tasks list = Tied T tasks (lists.held list) (lists.ok list)

abbrev pub OpenOn : {L O : Type 0} → Ghosts L O → (Entry → Entry → Bool) → Turn → Tasks → L → Type 0
OpenOn lists before turn tasks list = Open before turn tasks (lists.held list) (lists.ok list)

-- begin opened the turn, or handed the controller back
abbrev pub OpenAfter : {L O E : Type 0} → Ghosts L O → (Entry → Entry → Bool) → Result Turn E → Tasks → L → Type 0
OpenAfter lists before (Ok turn) tasks list = OpenOn lists before turn tasks list
OpenAfter lists before (Err back) tasks list = Unit {0}

-- after settle the controller rests, or its turn is still open
abbrev pub AfterSettle : {L O : Type 0} → Ghosts L O → (Entry → Entry → Bool) → Result ℕ (Turn × Refusal) → Tasks → L → Type 0
AfterSettle lists before (Ok T) tasks list = TiedTo lists T tasks list
AfterSettle lists before (Err (turn, why)) tasks list = OpenOn lists before turn tasks list

-- an entry's number is that of a slot
abbrev pub InTable : Option Entry → Type 0
InTable None = Unit {0}
InTable (Some e) = (1 ≤ e.number) × (e.number ≤ 64)

-- no turn is of length 0
abbrev pub LongEnough : {E : Type 0} → Result Turn E → Type 0
LongEnough (Ok turn) = 0 < turn.length
LongEnough (Err back) = Unit {0}

-- The meaning of a ready list: 64 slots, slot k for task number k + 1, each with at most one entry.
-- Every list is described by these words alone; where an entry lies in a list's own memory is left open.
use Rattle.std.specs.Prelude.{◌≡◌, ℕ, ◌+◌, ◌-◌, ◌<◌, Bool, true, cond, not, ◌&&◌, List, length, replicate, is_some, Some, None, fold, Option, ◌≢◌, slice_index_or, slice_set}
use Rattle.order.specs.Orders.{in_range}
use Rattle.order.specs.declared.entries.Entry.{Entry}

-- what a list holds
abbrev pub Held : Type 0
Held = List (Option Entry)

-- nothing
abbrev pub none : Held
none = replicate 64 None

-- what stands in the slot of a number, if it is a task number
abbrev pub slot_at : {A : Type 0} → List (Option A) → ℕ → Option A
slot_at slots number = cond (in_range number) (slice_index_or slots (number - 1) None) None

-- the entry of a number, if it is held
abbrev pub entry_at : Held → ℕ → Option Entry
entry_at held number = slot_at held number

-- whether a number is held
abbrev pub holds : Held → ℕ → Bool
holds held number = is_some (entry_at held number)

-- an entry may be put in where its number is a task number and not held yet
abbrev pub free : Held → ℕ → Bool
free held number = in_range number && not (holds held number)

-- the slots with another content at a number
abbrev pub with' : Held → ℕ → Option Entry → Held
with' held number content = slice_set held (number - 1) content

-- after `put`
abbrev pub put_in : Held → Entry → Held
put_in held e = cond (free held e.number) (with' held e.number (Some e)) held

-- after `take out`
abbrev pub taken_out : Held → ℕ → Held
taken_out held number = cond (holds held number) (with' held number None) held

-- what stands in slot k has the number k + 1
abbrev pub PlacedBy : {A : Type 0} → (A → ℕ) → List (Option A) → Type 0
PlacedBy {A} number slots = (k : ℕ) (a : A) → k < length slots → slice_index_or slots k None ≡ Some a → number a ≡ k + 1

-- 64 slots, each entry in the slot of its number
pub record Slotted (held : Held) : Type 0 where
  pub many : length held ≡ 64
  pub placed : PlacedBy (λ e. e.number) held

-- the better of the best entry so far and one more slot
abbrev pub better : (Entry → Entry → Bool) → Option Entry → Option Entry → Option Entry
better before best None = best
better before None (Some e) = Some e
better before (Some b) (Some e) = cond (before e b) (Some e) (Some b)

-- the entry that the order puts before all others, none exactly when nothing is held
abbrev pub first_of : (Entry → Entry → Bool) → Held → Option Entry
first_of before held = fold (better before) None held

-- the same as a relation: e is held, and comes before every other entry that is held
pub record Leads (before : Entry → Entry → Bool) (held : Held) (e : Entry) : Type 0 where
  pub is_held : entry_at held e.number ≡ Some e
  pub leads : (o : Entry) → entry_at held o.number ≡ Some o → (e.number ≢ o.number) → before e o ≡ true

abbrev pub Least : (Entry → Entry → Bool) → Held → Option Entry → Type 0
Least before held None = held ≡ none
Least before held (Some e) = Leads before held e

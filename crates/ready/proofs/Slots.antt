-- Slots by number: what a write to one slot keeps.
use Rattle.std.proofs.Common.{◌≡◌, ℕ, ◌+◌, ◌-◌, ◌<◌, ◌≤◌, true, false, List, get_or, set, replicate, is_some, Some, None, Option, sym, refl, ◌∙◌, arith, length-set, get_or-set_other}
use lib.ListN.{length-replicate}
use Rattle.order.specs.Orders.{in_range}
use Rattle.order.specs.declared.entries.Entry.{Entry}
use Rattle.ready.specs.Held.{Held, PlacedBy, Slotted, entry_at, slot_at, none, put_in, taken_out}
use Rattle.std.proofs.lemmas.Bool.Decides.{nat_tests}
use Rattle.std.proofs.lemmas.Grind.{common_steps}
use Rattle.std.proofs.lemmas.List.{get_or-replicate, set-get_or, set-set}

module _ {A : Type 0} (number : A → ℕ) where
  -- a slot takes nothing, or what has its number
  pub placed_set : (slots : List (Option A)) (i : ℕ) (x : Option A) → PlacedBy number slots → ((a : A) → x ≡ Some a → number a ≡ i + 1) → PlacedBy number (set slots i x)
  placed_set slots i x old new k a lt is = grind (arith, common_steps, new a, old k a)

  -- slots that hold nothing are in place
  pub placed_none : (n : ℕ) → PlacedBy number (replicate n None)
  placed_none n k a lt is = grind (arith, get_or-replicate {A = Option A} n k None None, length-replicate {A = Option A} n None)

-- what a number has stands in the slot of the number
pub slot_at-some : {A : Type 0} (slots : List (Option A)) (number : ℕ) (a : A) → slot_at slots number ≡ Some a → (0 < number) × (number ≤ 64) × (get_or slots (number - 1) None ≡ Some a)
slot_at-some slots number a is = grind (arith, nat_tests)

-- a write to the slot of a number keeps the slots
pub slotted_set : (held : Held) (i : ℕ) (x : Option Entry) → Slotted held → ((e : Entry) → x ≡ Some e → e.number ≡ i + 1) → Slotted (set held i x)
slotted_set held i x s new = record { many = length-set held i x ∙ s.many; placed = placed_set (λ e. e.number) held i x s.placed new }

pub slotted_none : Slotted none
slotted_none = record { many = refl; placed = placed_none {A = Entry} (λ e. e.number) 64 }

-- the bounds of a task number
module _ (held : Held) (number : ℕ) (range : true ≡ in_range number) where
  pub number_high : number ≤ 64
  number_high = grind (arith, nat_tests)

  -- the slot of a task number stands just before it
  pub slot_back : number ≡ number - 1 + 1
  slot_back = grind (arith, nat_tests)

-- a slot that is not full holds nothing
pub none_from_empty : (x : Option Entry) → is_some x ≡ false → x ≡ None
none_from_empty None is = refl
none_from_empty (Some e) is = cc

-- take out leaves the slot empty, whether or not it was
pub taken_set : (held : Held) (number : ℕ) → in_range number ≡ true → taken_out held number ≡ set held (number - 1) None
taken_set held number range = grind (arith, set-get_or held (number - 1) None, none_from_empty (get_or held (number - 1) None))

-- put fills an empty slot
pub put_set : (held : Held) (e : Entry) → Slotted held → in_range e.number ≡ true → put_in (set held (e.number - 1) None) e ≡ set held (e.number - 1) (Some e)
put_set held e slots range = grind (arith, common_steps, set-set held (e.number - 1) None (Some e), slots.many, slot_back held e.number (sym range), number_high held e.number (sym range))

-- the entry of a task number, as a slot
pub entry_slot : (held : Held) (number : ℕ) → in_range number ≡ true → entry_at held number ≡ get_or held (number - 1) None
entry_slot held number range = cc

-- a number from 1 to 64 passes the test for a task number
pub range_from : (number : ℕ) → (0 < number) × (number ≤ 64) → in_range number ≡ true
range_from number bounds = grind (arith, nat_tests)

-- an entry has the number that it is held under
pub entry_at-number : (held : Held) (number : ℕ) (e : Entry) → Slotted held → entry_at held number ≡ Some e → e.number ≡ number
entry_at-number held number e slots is =
    let at = slot_at-some held number e is in
    grind (arith, slots.placed (number - 1) e, slots.many)

-- after a write to the slot of a number, the number has what was written
pub entry_at-set_same : (held : Held) (number : ℕ) (x : Option Entry) → Slotted held → in_range number ≡ true → entry_at (set held (number - 1) x) number ≡ x
entry_at-set_same held number x slots range = grind (arith, common_steps, nat_tests, slots.many)

-- and every other number what it had
pub entry_at-set_other : (held : Held) (number other : ℕ) (x : Option Entry) → 0 < number → (other ≡ number → ⊥) → entry_at (set held (number - 1) x) other ≡ entry_at held other
entry_at-set_other held number other x low apart = grind (arith, nat_tests, get_or-set_other held (number - 1) (other - 1) x None)

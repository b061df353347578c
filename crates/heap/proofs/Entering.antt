-- Put: the tree with a new entry behind its last.
use Rattle.std.proofs.Common.{◌≡◌, ℕ, ◌+◌, ◌-◌, ◌<◌, ◌≤◌, Bool, true, set, is_some, not, Some, None, count_by, sym, ap, ◌∙◌, arith, length-set}
use Rattle.heap.proofs.Paths.{as_held, by}
use Rattle.heap.proofs.Moves.{entry_kept, entry_laid, place_kept, place_laid, resized}
use Rattle.heap.proofs.Standing.{count_set, held_is, numbered}
use Rattle.heap.specs.Sifts.{BeforeChildren, Holed}
use Rattle.heap.specs.Sound.{Ordered, Sound, Stands, entry_in, held_in, laid, parent, place_in}
use Rattle.heap.specs.declared.memory.Tree.{Tree}
use Rattle.order.specs.Orders.{in_range}
use Rattle.order.specs.declared.entries.Entry.{Entry}
use Rattle.ready.proofs.Slots.{entry_at-set_other, entry_at-set_same, slot_at-some, none_from_empty, number_high, slot_back, slotted_set}
use Rattle.ready.specs.Held.{Held, entry_at, free, holds, put_in}
use Rattle.std.proofs.lemmas.List.Sums.{count_by-le-length}
use Rattle.std.proofs.lemmas.Bool.{and_parts, cond-true, not-true}

-- the tree with an entry behind its last, which is still to sift up
abbrev pub grown : (tree : Tree) → tree.len + 1 ≤ 64 → Entry → Tree
grown tree room e = laid (resized tree (tree.len + 1) room) tree.len e

-- a tree, and an entry with a task number that it does not hold
module _ (tree : Tree) (held : Held) (s : Stands tree held) (e : Entry) (range : in_range e.number ≡ true) (free' : entry_at held e.number ≡ None) where
  -- no entry of the tree has the new one's number
  fresh : (place : ℕ) → place < tree.len → (entry_in tree place).number ≡ e.number → ⊥
  fresh place lt same = grind (arith, s.kept place)

  -- one entry more is held
  counted : count_by is_some (set held (e.number - 1) (Some e)) + 0 ≡ count_by is_some held + 1
  counted = count_set held e.number None (Some e) s.slotted range free'

  -- there is room, since a slot is empty
  put_room : tree.len + 1 ≤ 64
  put_room = omega (arith, counted, s.count, count_by-le-length is_some (set held (e.number - 1) (Some e)), length-set held (e.number - 1) (Some e), s.slotted.many)

-- there is room for it in the memory
module _ (tree : Tree) (held : Held) (s : Stands tree held) (e : Entry) (range : in_range e.number ≡ true) (free' : entry_at held e.number ≡ None) (room : tree.len + 1 ≤ 64) where
  -- its number is not 0
  number_low : 0 < e.number
  number_low = omega (arith, slot_back held e.number (sym range))

  -- the tree holds the new entry besides what it held
  stands_put : Stands (grown tree room e) (set held (e.number - 1) (Some e))
  stands_put =
      let n = tree.len in
      let held' = set held (e.number - 1) (Some e) in
      let new = grown tree room e in
      let here : entry_in new n ≡ e = entry_laid tree n e (omega (arith, room, s.memory)) in
      let noted : place_in new e.number ≡ n = place_laid tree n e (omega (arith, slot_back held e.number (sym range), s.index, number_high held e.number (sym range))) in
      let mine : entry_at held' e.number ≡ Some e = entry_at-set_same held e.number (Some e) s.slotted range in
      let others : (number : ℕ) → (number ≡ e.number → ⊥) → entry_at held' number ≡ entry_at held number = λ number ne. entry_at-set_other held e.number number (Some e) number_low ne in
      record {
        slotted = slotted_set held (e.number - 1) (Some e) s.slotted (λ a is. let same : e ≡ a = cc in ap (λ x. x.number) (sym same) ∙ slot_back held e.number (sym range));
        memory = length-set tree.entries n e ∙ s.memory;
        index = length-set tree.places (e.number - 1) n ∙ s.index;
        count = omega (arith, counted tree held s e range free', s.count);
        kept = λ place lt. grind (arith, here, mine, others (entry_in tree place).number, entry_kept tree n e place, s.kept place, fresh tree held s e range free' place);
        indexed = λ place lt. grind (arith, here, noted, entry_kept tree n e place, s.indexed place, fresh tree held s e range free' place, numbered tree held s place, place_kept tree n e (entry_in tree place).number);
        all = λ a is. grind (arith, here, noted, mine, others a.number, s.all a, slot_at-some held a.number a, place_kept tree n e a.number, entry_kept tree n e (place_in tree a.number));
      }

  -- only the step up from the new entry may be out of order
  holed_put : (before : Entry → Entry → Bool) → Ordered before tree → Holed before (set held (e.number - 1) (Some e)) (grown tree room e) tree.len × BeforeChildren before (grown tree room e) tree.len
  holed_put before ordered = (
    record {
      stands = stands_put;
      within = omega arith;
      others = λ k lk lt nk np. by before (entry_kept tree tree.len e (parent k) np) (entry_kept tree tree.len e k nk) (ordered k lk (omega arith));
      across = λ k lk lt child low. absurd (omega arith);
    },
    λ k lk lt child. absurd (omega arith),
  )

-- what push may say of an entry whose number the tree does not hold
pub record Entering (before : Entry → Entry → Bool) (tree : Tree) (room : tree.len + 1 ≤ 64) (e : Entry) : Type 0 where
  pub list : held_in (grown tree room e) ≡ put_in (held_in tree) e
  pub holed : Holed before (held_in (grown tree room e)) (grown tree room e) tree.len
  -- nothing is below the last place
  pub below : BeforeChildren before (grown tree room e) tree.len

module _ (before : Entry → Entry → Bool) (tree : Tree) (ok : Sound before tree) (e : Entry) (is : free (held_in tree) e.number ≡ true) where
  range_put : in_range e.number ≡ true
  range_put = (and_parts (in_range e.number) (not (holds (held_in tree) e.number)) is).0

  free_put : entry_at (held_in tree) e.number ≡ None
  free_put = none_from_empty (entry_at (held_in tree) e.number) (not-true (holds (held_in tree) e.number) (and_parts (in_range e.number) (not (holds (held_in tree) e.number)) is).1)

  pub room_put : tree.len + 1 ≤ 64
  room_put = put_room tree (held_in tree) ok.stands e range_put free_put

  pub entering : (room : tree.len + 1 ≤ 64) → Entering before tree room e
  entering room =
      let held = held_in tree in
      let held' = set held (e.number - 1) (Some e) in
      let open' = holed_put tree held ok.stands e range_put free_put room before ok.ordered in
      record {
        list = held_is (grown tree room e) held' open'.0.stands ∙ sym (cond-true (free held e.number) held' held is);
        holed = as_held before (grown tree room e) held' tree.len open'.0;
        below = open'.1;
      }

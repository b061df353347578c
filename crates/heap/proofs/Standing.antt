-- What the tree's memory means: the entries that stand in it are the ones that it holds.
use Rattle.std.proofs.Common.{◌≡◌, ℕ, ◌+◌, ◌-◌, ◌<◌, ◌≤◌, true, cond, length, get_or, set, is_some, Some, None, count_by, Option, sym, refl, ap, ◌∙◌, subst, arith}
use Rattle.heap.specs.Sound.{Stands, entry_in, held_in, place_in, slot_in}
use Rattle.heap.specs.declared.memory.Tree.{Tree}
use Rattle.order.specs.Orders.{Apart, in_range}
use Rattle.order.specs.declared.entries.Entry.{Entry}
use Rattle.ready.proofs.First.{none_holds}
use Rattle.ready.proofs.Slots.{entry_slot, entry_at-number, slot_at-some, number_high, range_from, slot_back, slotted_none}
use Rattle.ready.specs.Held.{Held, Slotted, entry_at, none}
use Rattle.std.proofs.lemmas.List.FromFn.{get_or-map-range_with_len, length-map-range_with_len}
use Rattle.std.proofs.lemmas.List.{ext_get_or}
use Rattle.std.proofs.lemmas.List.Sums.{sum_by-set}
use Rattle.std.proofs.lemmas.Bool.Decides.{nat_tests}

-- a tree, and what stands in it
module _ (tree : Tree) (held : Held) (s : Stands tree held) where
  -- an entry of the tree has a task number
  pub numbered : (place : ℕ) → place < tree.len → (0 < (entry_in tree place).number) × ((entry_in tree place).number ≤ 64)
  numbered place lt = let at = slot_at-some held (entry_in tree place).number (entry_in tree place) (s.kept place lt) in (at.0, at.1)

  -- entries at two places have two numbers
  pub apart : (p q : ℕ) → p < tree.len → q < tree.len → (p ≡ q → ⊥) → Apart (entry_in tree p) (entry_in tree q)
  apart p q pn qn ne same = ne (sym (s.indexed p pn) ∙ (ap (place_in tree) same ∙ s.indexed q qn))

  -- an entry that is held under the number of one in the tree is that one
  pub one_entry : (e : Entry) (place : ℕ) → place < tree.len → entry_at held e.number ≡ Some e → e.number ≡ (entry_in tree place).number → entry_in tree place ≡ e
  one_entry e place lt is same = let both : Some (entry_in tree place) ≡ Some e = sym (s.kept place lt) ∙ (ap (entry_at held) (sym same) ∙ is) in cc

  -- what is found for a number is what is held under it
  slot_as : (number : ℕ) (o : Option Entry) → entry_at held number ≡ o → slot_in tree number ≡ o
  slot_as number (Some e) is =
      let n = entry_at-number held number e s.slotted is in
      grind (arith, nat_tests, s.all e)
  slot_as number None is = grind (arith, nat_tests, s.kept (place_in tree number))

  -- the memory means what stands in it
  pub held_is : held_in tree ≡ held
  unfolding held_in
  held_is = ext_get_or None (held_in tree) held (length-map-range_with_len (slot_in tree) 1 64 ∙ sym s.slotted.many)
      (λ k lt.
      let in' : k < 64 = subst (λ n. k < n) (length-map-range_with_len (slot_in tree) 1 64) lt in
      let back : k + 1 - 1 ≡ k = omega arith in
      get_or-map-range_with_len (slot_in tree) 1 64 k (k + 1) None in' (omega arith)
      ∙ (slot_as (k + 1) (entry_at held (k + 1)) refl
      ∙ (entry_slot held (k + 1) (range_from (k + 1) (omega arith, omega arith)) ∙ ap (λ n. get_or held n None) back)))

-- a write to a slot changes the count by what it writes and what it replaces
pub count_set : (held : Held) (number : ℕ) (old new : Option Entry) → Slotted held → in_range number ≡ true → entry_at held number ≡ old
    → count_by is_some (set held (number - 1) new) + cond (is_some old) 1 0 ≡ count_by is_some held + cond (is_some new) 1 0
count_set held number old new slots range is =
    let low : number - 1 < length held = omega (arith, slot_back held number (sym range), slots.many, number_high held number (sym range)) in
    subst (λ o. count_by is_some (set held (number - 1) new) + cond (is_some o) 1 0 ≡ count_by is_some held + cond (is_some new) 1 0) (sym (entry_slot held number range) ∙ is)
    (sum_by-set (λ x. cond (is_some x) 1 0) held (number - 1) new None low)

-- a tree without entries holds nothing
pub stands_none : (tree : Tree) → length tree.entries ≡ 64 → length tree.places ≡ 64 → tree.len ≡ 0 → Stands tree none
stands_none tree memory index empty = record {
  slotted = slotted_none;
  memory = memory;
  index = index;
  count = empty;
  kept = λ place lt. absurd (omega arith);
  indexed = λ place lt. absurd (omega arith);
  all = λ e is. absurd (none_holds e is);
}

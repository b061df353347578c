-- Take out: the tree with its last entry in the place of the one that leaves.
use Rattle.std.proofs.Common.{◌≡◌, ℕ, ◌-◌, ◌<◌, ◌≤◌, Bool, true, set, is_some, Some, None, sym, refl, ap, ◌∙◌, subst, arith, length-set}
use Rattle.heap.proofs.Paths.{as_held, by, linked}
use Rattle.heap.proofs.Moves.{entry_kept, entry_laid, place_kept, place_laid, resized}
use Rattle.heap.proofs.Standing.{apart, count_set, held_is, numbered}
use Rattle.heap.specs.Sifts.{Holed}
use Rattle.heap.specs.Sound.{Ordered, Sound, Stands, entry_in, held_in, laid, parent, place_in}
use Rattle.heap.specs.declared.memory.Tree.{Tree}
use Rattle.order.specs.Orders.{Lawful, in_range}
use Rattle.order.specs.declared.entries.Entry.{Entry}
use Rattle.ready.proofs.Slots.{entry_at-set_other, entry_at-set_same, slot_at-some, range_from, slotted_set}
use Rattle.ready.specs.Held.{Held, entry_at, holds, taken_out}
use Rattle.std.proofs.lemmas.List.{set-get_or}
use Rattle.std.proofs.lemmas.Bool.{cond-true}
use Rattle.std.proofs.lemmas.Option.{none-some}

-- the tree without its last place, and that entry in another place, where it is still to settle
abbrev pub filled : (tree : Tree) → tree.len - 1 ≤ 64 → ℕ → Entry → Tree
filled tree room place last = laid (resized tree (tree.len - 1) room) place last

-- a tree, one of its places, and the last entry
module _ (tree : Tree) (held : Held) (s : Stands tree held) (place : ℕ) (lt : place < tree.len) (last : Entry) (is_last : last ≡ entry_in tree (tree.len - 1)) (room : tree.len - 1 ≤ 64) where
  -- the number at the place is a task number
  range_taken : in_range (entry_in tree place).number ≡ true
  range_taken = range_from (entry_in tree place).number (numbered tree held s place lt)

  -- the number of the last entry is not 0
  last_low : 0 < last.number
  last_low = subst (λ e. 0 < e.number) (sym is_last) (numbered tree held s (tree.len - 1) (omega arith)).0

  -- and the index notes the last place for it
  last_noted : place_in tree last.number ≡ tree.len - 1
  last_noted = ap (λ e. place_in tree e.number) is_last ∙ s.indexed (tree.len - 1) (omega arith)

  -- the tree holds what it held but for the number
  stands_take : Stands (filled tree room place last) (set held ((entry_in tree place).number - 1) None)
  stands_take =
      let n = tree.len - 1 in
      let number = (entry_in tree place).number in
      let held' = set held (number - 1) None in
      let new = filled tree room place last in
      let low : 0 < number = (numbered tree held s place lt).0 in
      let here : entry_in new place ≡ last = entry_laid tree place last (omega (arith, tree.room, s.memory)) in
      let lastHigh : last.number ≤ 64 = subst (λ e. e.number ≤ 64) (sym is_last) (numbered tree held s n (omega arith)).1 in
      let noted : place_in new last.number ≡ place = place_laid tree place last (omega (arith, last_low, s.index)) in
      let gone : entry_at held' number ≡ None = entry_at-set_same held number None s.slotted range_taken in
      let others : (m : ℕ) → (m ≡ number → ⊥) → entry_at held' m ≡ entry_at held m = λ m ne. entry_at-set_other held number m None low ne in
      record {
        slotted = slotted_set held (number - 1) None s.slotted (λ a none'. absurd (none-some a none'));
        memory = length-set tree.entries place last ∙ s.memory;
        index = length-set tree.places (last.number - 1) place ∙ s.index;
        count = omega (arith, count_set held number (Some (entry_in tree place)) None s.slotted range_taken (s.kept place lt), s.count);
        kept = λ p pn. grind (arith, here, is_last, others (entry_in tree p).number, others (entry_in tree n).number, entry_kept tree place last p, s.kept p, s.kept n, apart tree held s p place, apart tree held s n place);
        indexed = λ p pn. grind (arith, here, noted, is_last, entry_kept tree place last p, s.indexed p, numbered tree held s p, place_kept tree place last (entry_in tree p).number, apart tree held s p n);
        all = λ a now'. grind (arith, here, noted, gone, is_last, last_noted, others a.number, s.all a, slot_at-some held a.number a, place_kept tree place last a.number, entry_kept tree place last (place_in tree a.number));
      }

  -- only the steps at the place may be out of order
  holed_take : (before : Entry → Entry → Bool) → Lawful before → Ordered before tree → place < tree.len - 1 → Holed before (set held ((entry_in tree place).number - 1) None) (filled tree room place last) place
  holed_take before laws ordered in' = record {
    stands = stands_take;
    within = in';
    others = λ k lk kn nk np. by before (entry_kept tree place last (parent k) np) (entry_kept tree place last k nk) (ordered k lk (omega arith));
    across = λ k lk kn child low. by before (entry_kept tree place last (parent place) (λ e. omega arith)) (entry_kept tree place last k (λ e. omega arith))
        (linked before laws tree held s (parent place) place k (omega arith) lt (omega arith) (λ e. omega arith) (λ e. omega arith) (λ e. omega arith)
        (ordered place low lt) (by before (ap (entry_in tree) (sym child)) refl (ordered k lk (omega arith))));
  }

  -- the last entry itself leaves the rest as it is
  last_taken : place ≡ tree.len - 1 → filled tree room place last ≡ resized tree (tree.len - 1) room
  last_taken same =
      let blank : Entry = record { number = 0; deadline = 0; rate = 0 } in
      let entries : set tree.entries place last ≡ tree.entries =
      ap (set tree.entries place) (is_last ∙ ap (entry_in tree) (sym same)) ∙ set-get_or tree.entries place blank in
      let places : set tree.places (last.number - 1) place ≡ tree.places =
      ap (set tree.places (last.number - 1)) (same ∙ sym last_noted) ∙ set-get_or tree.places (last.number - 1) 0 in
      ap (λ es. record { entries = es; places = set tree.places (last.number - 1) place; len = tree.len - 1; room = room }) entries
      ∙ ap (λ ps. record { entries = tree.entries; places = ps; len = tree.len - 1; room = room }) places

-- what remove may say of a place
pub record Leaving (before : Entry → Entry → Bool) (tree : Tree) (room : tree.len - 1 ≤ 64) (place : ℕ) (last : Entry) : Type 0 where
  pub list : held_in (filled tree room place last) ≡ taken_out (held_in tree) (entry_in tree place).number
  pub holed : place < tree.len - 1 → Holed before (held_in (filled tree room place last)) (filled tree room place last) place
  -- where the last entry itself leaves, the rest is in order as it stands
  pub rest : tree.len - 1 ≤ place → (held_in (resized tree (tree.len - 1) room) ≡ taken_out (held_in tree) (entry_in tree place).number) × Sound before (resized tree (tree.len - 1) room)

pub leaving : (before : Entry → Entry → Bool) → Lawful before → (tree : Tree) → Sound before tree → (place : ℕ) → place < tree.len → (last : Entry) → last ≡ entry_in tree (tree.len - 1) → (room : tree.len - 1 ≤ 64) → Leaving before tree room place last
leaving before laws tree ok place within last is_last room =
    let number = (entry_in tree place).number in
    let held = held_in tree in
    let held' = set held (number - 1) None in
    let cut = resized tree (tree.len - 1) room in
    let s : Stands (filled tree room place last) held' = stands_take tree held ok.stands place within last is_last room in
    let list : held_in (filled tree room place last) ≡ taken_out held number = held_is (filled tree room place last) held' s ∙ sym (cond-true (holds held number) held' held (ap is_some (ok.stands.kept place within))) in
    record {
      list = list;
      holed = λ in'. as_held before (filled tree room place last) held' place (holed_take tree held ok.stands place within last is_last room before laws ok.ordered in');
      rest = λ out.
          let same : filled tree room place last ≡ cut = last_taken tree held ok.stands place within last is_last room (omega arith) in
          let alone : Stands cut held' = subst (λ t. Stands t held') same s in (
            ap held_in (sym same) ∙ list,
            record { stands = subst (Stands cut) (sym (held_is cut held' alone)) alone; ordered = λ k lk kn. ok.ordered k lk (omega arith) },
          );
    }

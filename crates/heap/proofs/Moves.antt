-- Moves of entries in the tree: what a write changes, and that an exchange of two entries keeps what the tree holds.
use Rattle.std.proofs.Common.{◌≡◌, ℕ, ◌-◌, ◌<◌, ◌≤◌, length, sym, refl, ap, ◌∙◌, subst, arith, length-set, get_or-set_other, get_or-set_same}
use Rattle.heap.proofs.Standing.{apart, numbered, one_entry}
use Rattle.heap.specs.Sound.{Stands, entry_in, laid, place_in}
use Rattle.heap.specs.declared.memory.Tree.{Tree}
use Rattle.order.specs.declared.entries.Entry.{Entry}
use Rattle.ready.proofs.Slots.{slot_at-some}
use Rattle.ready.specs.Held.{Held}

-- a tree cut off or grown to another length
abbrev pub resized : (tree : Tree) (len : ℕ) → len ≤ 64 → Tree
resized tree len room = record { entries = tree.entries; places = tree.places; len = len; room = room }

module _ (tree : Tree) (place : ℕ) (e : Entry) where
  -- an entry that is laid at a place stands there
  pub entry_laid : place < length tree.entries → entry_in (laid tree place e) place ≡ e
  entry_laid lt = get_or-set_same tree.entries place e (record { number = 0; deadline = 0; rate = 0 }) lt

  -- the other places keep their entries
  pub entry_kept : (other : ℕ) → (other ≡ place → ⊥) → entry_in (laid tree place e) other ≡ entry_in tree other
  entry_kept other ne = get_or-set_other tree.entries place other e (record { number = 0; deadline = 0; rate = 0 }) ne

  -- the index notes the place under the entry's number
  pub place_laid : e.number - 1 < length tree.places → place_in (laid tree place e) e.number ≡ place
  place_laid lt = get_or-set_same tree.places (e.number - 1) place 0 lt

  -- and keeps what it notes under other numbers
  pub place_kept : (number : ℕ) → 0 < number → 0 < e.number → (number ≡ e.number → ⊥) → place_in (laid tree place e) number ≡ place_in tree number
  place_kept number low le ne = get_or-set_other tree.places (e.number - 1) (number - 1) place 0 (λ same. ne (omega arith))

-- two trees that differ in that the entries of two places, h and c, are exchanged
pub record Exchanged (old new : Tree) (h c : ℕ) : Type 0 where
  pub len : new.len ≡ old.len
  pub memory : length new.entries ≡ length old.entries
  pub index : length new.places ≡ length old.places
  pub here : entry_in new h ≡ entry_in old c
  pub there : entry_in new c ≡ entry_in old h
  pub rest : (place : ℕ) → (place ≡ h → ⊥) → (place ≡ c → ⊥) → entry_in new place ≡ entry_in old place
  pub here_noted : place_in new (entry_in old c).number ≡ h
  pub there_noted : place_in new (entry_in old h).number ≡ c
  pub rest_noted : (number : ℕ) → 0 < number → (number ≡ (entry_in old h).number → ⊥) → (number ≡ (entry_in old c).number → ⊥) → place_in new number ≡ place_in old number

-- a tree in memory; with the moved entry x in the hole h it holds what it is to hold
module _ (tree : Tree) (held : Held) (h : ℕ) (x : Entry) (s : Stands (laid tree h x) held) (hn : h < tree.len) where
  -- the memory and the index have their lengths
  memory_long : length tree.entries ≡ 64
  memory_long = sym (length-set tree.entries h x) ∙ s.memory

  index_long : length tree.places ≡ 64
  index_long = sym (length-set tree.places (x.number - 1) h) ∙ s.index

  -- the hole lies in the memory
  hole_low : h < length tree.entries
  hole_low = omega (arith, memory_long, tree.room)

  -- the hole holds the moved entry
  pub in_hole : entry_in (laid tree h x) h ≡ x
  in_hole = entry_laid tree h x hole_low

  -- the moved entry has a task number
  pub moved_number : (0 < x.number) × (x.number ≤ 64)
  moved_number = subst (λ e. (0 < e.number) × (e.number ≤ 64)) in_hole (numbered (laid tree h x) held s h hn)

  module _ (c : ℕ) (cn : c < tree.len) (ne : c ≡ h → ⊥) where
    -- so has an entry that is pulled over the hole
    pub pulled_number : (0 < (entry_in tree c).number) × ((entry_in tree c).number ≤ 64)
    pulled_number = subst (λ e. (0 < e.number) × (e.number ≤ 64)) (entry_kept tree h x c ne) (numbered (laid tree h x) held s c cn)

    -- and its number is another
    two_numbers : (entry_in tree c).number ≡ x.number → ⊥
    two_numbers same = apart (laid tree h x) held s c h cn hn ne (ap (λ e. e.number) (entry_kept tree h x c ne) ∙ (same ∙ ap (λ e. e.number) (sym in_hole)))

    -- pulling an entry over the hole exchanges it with the moved one
    pub pulled : Exchanged (laid tree h x) (laid (laid tree h (entry_in tree c)) c x) h c
    pulled =
        let y = entry_in tree c in
        let mid = laid tree h y in
        let old = laid tree h x in
        let new = laid mid c x in
        let isY : entry_in old c ≡ y = entry_kept tree h x c ne in
        record {
          len = refl;
          memory = grind (arith, length-set {A = Entry});
          index = grind (arith, length-set {A = ℕ});
          here = grind (arith, isY, entry_kept mid c x h, entry_laid tree h y hole_low);
          there = grind (arith, in_hole, entry_laid mid c x, length-set tree.entries h y, memory_long);
          rest = λ place nh nc. grind (arith, entry_kept mid c x place, entry_kept tree h y place, entry_kept tree h x place);
          here_noted = grind (arith, isY, two_numbers, pulled_number, moved_number, place_kept mid c x y.number, place_laid tree h y, index_long);
          there_noted = grind (arith, in_hole, moved_number, place_laid mid c x, length-set tree.places (y.number - 1) h, index_long);
          rest_noted = λ number low nx ny. grind (arith, isY, in_hole, pulled_number, moved_number, place_kept mid c x number, place_kept tree h y number, place_kept tree h x number);
        }

-- two trees, one made from the other by an exchange
module _ (old new : Tree) (held : Held) (h c : ℕ) (ex : Exchanged old new h c) (s : Stands old held) (hn : h < old.len) (cn : c < old.len) where
  -- an exchange keeps what the tree holds
  pub stands_exchanged : Stands new held
  stands_exchanged = record {
    slotted = s.slotted;
    memory = ex.memory ∙ s.memory;
    index = ex.index ∙ s.index;
    count = ex.len ∙ s.count;
    kept = λ place lt. grind (arith, ex.len, ex.here, ex.there, ex.rest place, s.kept place, s.kept h, s.kept c);
    indexed = λ place lt. grind (arith, ex.len, ex.here, ex.there, ex.here_noted, ex.there_noted, ex.rest place, ex.rest_noted (entry_in old place).number, s.indexed place, numbered old held s place, apart old held s place h, apart old held s place c);
    all = λ e is. grind (arith, ex.len, ex.here, ex.there, ex.here_noted, ex.there_noted, ex.rest (place_in old e.number), ex.rest_noted e.number, s.all e, slot_at-some held e.number e, one_entry old held s e h, one_entry old held s e c);
  }

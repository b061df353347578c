-- A tree whose entry at one place, the hole, is still to move up or down its path.
use Rattle.std.specs.Prelude.{◌≡◌, ℕ, ◌+◌, ◌<◌, Bool, true, cond, ◌&&◌, Some, None, Option, ◌≢◌, nat_lt}
use Rattle.heap.specs.Sound.{Stands, entry_in, left_child, parent}
use Rattle.heap.specs.declared.memory.Tree.{Tree}
use Rattle.order.specs.declared.entries.Entry.{Entry}
use Rattle.ready.specs.Held.{Held}

-- the tree holds these entries, in order but for the one in the hole
pub record Holed (before : Entry → Entry → Bool) (held : Held) (tree : Tree) (hole : ℕ) : Type 0 where
  pub stands : Stands tree held
  pub within : hole < tree.len
  -- each entry comes after the one above it, unless one of the two is in the hole
  pub others : (place : ℕ) → 0 < place → place < tree.len → (place ≢ hole) → (parent place ≢ hole) → before (entry_in tree (parent place)) (entry_in tree place) ≡ true
  -- what is below the hole comes after what is above it
  pub across : (place : ℕ) → 0 < place → place < tree.len → parent place ≡ hole → 0 < hole → before (entry_in tree (parent hole)) (entry_in tree place) ≡ true

-- the entry in the hole comes before those below it
abbrev pub BeforeChildren : (Entry → Entry → Bool) → Tree → ℕ → Type 0
BeforeChildren before tree hole = (place : ℕ) → 0 < place → place < tree.len → parent place ≡ hole → before (entry_in tree hole) (entry_in tree place) ≡ true

-- the entry in the hole comes after the one above it
abbrev pub AfterParent : (Entry → Entry → Bool) → Tree → ℕ → Type 0
AfterParent before tree hole = 0 < hole → before (entry_in tree (parent hole)) (entry_in tree hole) ≡ true

-- whether an entry comes before the one above the hole
abbrev pub rises : (Entry → Entry → Bool) → Tree → ℕ → Entry → Bool
rises before tree hole e = nat_lt 0 hole && before e (entry_in tree (parent hole))

-- the place above the hole, where the entry comes before what stands there
abbrev pub rises_to : (Entry → Entry → Bool) → Tree → ℕ → Entry → Option ℕ
rises_to before tree hole e = cond (rises before tree hole e) (Some (parent hole)) None

-- the child that comes first, of a place that has one
abbrev pub first_child : (Entry → Entry → Bool) → Tree → ℕ → ℕ
first_child before tree hole =
    cond (nat_lt (left_child hole + 1) tree.len && before (entry_in tree (left_child hole + 1)) (entry_in tree (left_child hole))) (left_child hole + 1) (left_child hole)

-- the same of any place
abbrev pub child_of : (Entry → Entry → Bool) → Tree → ℕ → Option ℕ
child_of before tree hole = cond (nat_lt (left_child hole) tree.len) (Some (first_child before tree hole)) None

-- the child that comes first, where it comes before the entry
abbrev pub sinks_to : (Entry → Entry → Bool) → Tree → ℕ → Entry → Option ℕ
sinks_to before tree hole e = cond (nat_lt (left_child hole) tree.len && before (entry_in tree (first_child before tree hole)) e) (Some (first_child before tree hole)) None

-- the place that the hole is to move to, unless the entry may stand in it
abbrev pub next_place : (Entry → Entry → Bool) → Tree → ℕ → Entry → Option ℕ
next_place before tree hole e = cond (rises before tree hole e) (Some (parent hole)) (sinks_to before tree hole e)

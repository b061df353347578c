-- What the heap's memory means, and when it is in order.
use Rattle.std.specs.Prelude.{◌≡◌, ℕ, ◌+◌, ◌-◌, ◌*◌, ◌/◌, ◌<◌, Bool, true, cond, ◌&&◌, map, length, is_some, Some, None, count_by, Option, ◌==◌, nat_lt, slice_index, slice_index_or, slice_set}
use Rattle.heap.specs.declared.memory.Tree.{Tree}
use Rattle.order.specs.declared.entries.Entry.{Entry}
use Rattle.ready.specs.Held.{Held, Slotted, entry_at}
use Rattle.std.specs.List.{range_with_len}

-- the place above, and the left one of the two places below; the right one is next to it
abbrev pub parent : ℕ → ℕ
parent place = (place - 1) / 2

abbrev pub left_child : ℕ → ℕ
left_child place = 2 * place + 1

-- the place above, of all but the root
abbrev pub above : ℕ → Option ℕ
above place = cond (nat_lt 0 place) (Some (parent place)) None

-- the entry at a place of the memory (an entry must be named for places past it; it is never read)
abbrev pub entry_in : Tree → ℕ → Entry
entry_in tree place = slice_index_or tree.entries place (record { number = 0; deadline = 0; rate = 0 })

-- the place that the index notes for a number
abbrev pub place_in : Tree → ℕ → ℕ
place_in tree number = slice_index tree.places (number - 1)

-- the tree with an entry at a place, and the place noted in the index
abbrev pub laid : Tree → ℕ → Entry → Tree
laid tree place e = record tree { entries = slice_set tree.entries place e; places = slice_set tree.places (e.number - 1) place }

-- whether the index notes a place of the tree for a number, and the entry there has the number
abbrev pub found : Tree → ℕ → Bool
found tree number = nat_lt (place_in tree number) tree.len && (entry_in tree (place_in tree number)).number == number

-- the entry at the root, if there is one
abbrev pub root_of : Tree → Option Entry
root_of tree = cond (nat_lt 0 tree.len) (Some (entry_in tree 0)) None

-- the entry of a number stands at a place
pub record IsPlaceOf (tree : Tree) (number place : ℕ) : Type 0 where
  pub within : place < tree.len
  pub its : (entry_in tree place).number ≡ number

-- the entry of a number, if the tree holds one
abbrev pub slot_in : Tree → ℕ → Option Entry
slot_in tree number = cond (found tree number) (Some (entry_in tree (place_in tree number))) None

-- what the tree holds: the entries of the numbers from 1 to 64
unfoldable pub held_in : Tree → Held
held_in tree = map (slot_in tree) (range_with_len 1 64)

-- the first `len` places hold these entries and no others, and the index finds them all
pub record Stands (tree : Tree) (held : Held) : Type 0 where
  pub slotted : Slotted held
  pub memory : length tree.entries ≡ 64
  pub index : length tree.places ≡ 64
  -- there are as many places as entries
  pub count : tree.len ≡ count_by is_some held
  -- what stands at a place is held
  pub kept : (place : ℕ) → place < tree.len → entry_at held (entry_in tree place).number ≡ Some (entry_in tree place)
  -- and the index notes the place
  pub indexed : (place : ℕ) → place < tree.len → place_in tree (entry_in tree place).number ≡ place
  -- what is held stands at the place that the index notes
  pub all : (e : Entry) → entry_at held e.number ≡ Some e → (place_in tree e.number < tree.len) × (entry_in tree (place_in tree e.number) ≡ e)

-- every entry comes after the one above it
abbrev pub Ordered : (Entry → Entry → Bool) → Tree → Type 0
Ordered before tree = (place : ℕ) → 0 < place → place < tree.len → before (entry_in tree (parent place)) (entry_in tree place) ≡ true

-- the memory is in order: the index agrees with the entries, and the entries with the order
pub record Sound (before : Entry → Entry → Bool) (tree : Tree) : Type 0 where
  pub stands : Stands tree (held_in tree)
  pub ordered : Ordered before tree

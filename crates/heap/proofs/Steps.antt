-- The steps of a sift: what each test says, and that a turn or the end keeps the tree's order.
use Rattle.std.proofs.Common.{◌≡◌, ℕ, ◌⊎◌, inl, inr, ◌+◌, ◌<◌, Bool, true, false, ◌&&◌, ltb, nat_lt, cond, is_some, IfSome, Some, None, Option, ◌-◌, sym, refl, ap, ◌∙◌, subst, ⊎_elim, arith}
use Rattle.heap.proofs.Paths.{by, linked, risen, sound, sunk, turned}
use Rattle.heap.proofs.Moves.{Exchanged, entry_kept, in_hole, moved_number, pulled, pulled_number}
use Rattle.heap.proofs.Standing.{apart, held_is}
use Rattle.heap.specs.Sifts.{AfterParent, BeforeChildren, Holed, first_child, next_place, rises, rises_to, sinks_to}
use Rattle.heap.specs.Sound.{Sound, entry_in, held_in, laid, left_child, parent}
use Rattle.heap.specs.declared.memory.Tree.{Tree}
use Rattle.order.specs.Orders.{Lawful, in_range}
use Rattle.order.specs.declared.entries.Entry.{Entry}
use Rattle.ready.proofs.Slots.{range_from}
use Rattle.ready.specs.Held.{Held}
use Rattle.std.proofs.lemmas.Bool.Decides.{nat_tests}
use Rattle.std.proofs.lemmas.Option.{none-some}
use Rattle.std.proofs.lemmas.Bool.{cases_Bool, cases_eq, false_from_ne_true, lt-ltb, true≢false}

-- how many turns a sift may still take at a place: it goes up, or down, or has no place to go to
abbrev pub turns : Bool → Option ℕ → ℕ → ℕ → ℕ
turns up down h len = cond up (h + 1) (cond (is_some down) (len - h) 0)

abbrev pub turns_left : (Entry → Entry → Bool) → Tree → ℕ → Entry → ℕ
turns_left before tree h x = turns (rises before tree h x) (sinks_to before tree h x) h tree.len

-- what went up does not go down any more, and the other way round
fewer_up : (up up' : Bool) (down down' : Option ℕ) (h c len len' : ℕ) → up ≡ true → down' ≡ None → c < h → turns up' down' c len' < turns up down h len
fewer_up up up' down down' h c len len' yes' no' lt = grind arith

fewer_down : (up up' : Bool) (down down' : Option ℕ) (h c len len' : ℕ) → up ≡ false → down ≡ Some c → up' ≡ false → h < c → c < len → len' ≡ len → turns up' down' c len' < turns up down h len
fewer_down up up' down down' h c len len' no' yes' out lt within same = grind arith

not_lower : (c h : ℕ) → h < c → nat_lt c h ≡ false
not_lower c h lt = grind (arith, nat_tests)

-- with no way down the next place is up, and with none up it is down
only_up : (up : Bool) (over : ℕ) (down : Option ℕ) → down ≡ None → cond up (Some over) None ≡ cond up (Some over) down
only_up up over down no' = grind (arith, cases_Bool up)

only_down : (up : Bool) (over : ℕ) (down : Option ℕ) → up ≡ false → down ≡ cond up (Some over) down
only_down up over down no' = grind arith

-- the place above comes sooner, and a child later
pub rises_ahead : (before : Entry → Entry → Bool) (tree : Tree) (h : ℕ) (x : Entry) (up : Bool) → up ≡ true → IfSome (rises_to before tree h x) (λ to. nat_lt to h ≡ up)
rises_ahead before tree h x up is = grind (arith, nat_tests, cases_Bool (rises before tree h x))

pub sinks_ahead : (before : Entry → Entry → Bool) (tree : Tree) (h : ℕ) (x : Entry) (up : Bool) → up ≡ false → IfSome (sinks_to before tree h x) (λ to. nat_lt to h ≡ up)
sinks_ahead before tree h x up is = grind (arith, nat_tests)

-- what is never something is nothing
none_from : {A : Type 0} (o : Option A) → ((a : A) → o ≡ Some a → ⊥) → o ≡ None
none_from None never = refl
none_from (Some a) never = absurd (never a refl)

-- the right child is picked where there is one and it comes first
picked : (there ahead : Bool) (l r : ℕ) → ((cond (there && ahead) r l ≡ r) × (ahead ≡ true)) ⊎ ((cond (there && ahead) r l ≡ l) × (there ≡ true → ahead ≡ false))
picked true true l r = inl (refl, refl)
picked true false l r = inr (refl, λ _. refl)
picked false ahead l r = inr (refl, λ no'. absurd (true≢false (sym no')))

-- a child of the hole that comes before its other children
record Best (before : Entry → Entry → Bool) (tree : Tree) (h c : ℕ) : Type 0 where
  low : 0 < c
  within : c < tree.len
  child : parent c ≡ h
  first : (k : ℕ) → 0 < k → k < tree.len → parent k ≡ h → (k ≡ c → ⊥) → before (entry_in tree c) (entry_in tree k) ≡ true

-- a tree in memory, and the same with the moved entry x in the hole h
module _ (before : Entry → Entry → Bool) (laws : Lawful before) (tree : Tree) (held : Held) (h : ℕ) (x : Entry) (o : Holed before held (laid tree h x) h) where
  -- the moved entry has a task number
  pub moved_range : in_range x.number ≡ true
  moved_range = range_from x.number (moved_number tree held h x o.stands o.within)

  -- so has what stands at another place
  pub pulled_range : (c : ℕ) → c < tree.len → (c ≡ h → ⊥) → (y : Entry) → y ≡ entry_in tree c → in_range y.number ≡ true
  pulled_range c cn ne y is = ap (λ e. in_range e.number) is ∙ range_from (entry_in tree c).number (pulled_number tree held h x o.stands o.within c cn ne)

  -- what stands in the hole and elsewhere
  hole_is : entry_in (laid tree h x) h ≡ x
  hole_is = in_hole tree held h x o.stands o.within

  rest_is : (c : ℕ) → (c ≡ h → ⊥) → entry_in (laid tree h x) c ≡ entry_in tree c
  rest_is = entry_kept tree h x

  -- an entry that rises has an entry above it, which comes after it
  rises_yes : true ≡ rises before tree h x → (0 < h) × (before (entry_in (laid tree h x) h) (entry_in (laid tree h x) (parent h)) ≡ true)
  rises_yes is = grind (arith, nat_tests, hole_is, rest_is (parent h))

  -- an entry that does not rise comes after the one above it
  pub rests_above : false ≡ rises before tree h x → AfterParent before (laid tree h x) h
  rests_above is low =
      let up : before (entry_in (laid tree h x) h) (entry_in (laid tree h x) (parent h)) ≡ false = grind (arith, nat_tests, hole_is, rest_is (parent h)) in
      turned before laws (laid tree h x) held o.stands h (parent h) o.within (omega (arith, o.within)) (λ e. omega arith) up

  -- an entry that rises comes before all below the hole
  pub leads_below : true ≡ rises before tree h x → BeforeChildren before (laid tree h x) h
  leads_below is k lk lt child =
      let up = rises_yes is in
      linked before laws (laid tree h x) held o.stands h (parent h) k o.within (omega (arith, o.within)) lt (λ e. omega (arith, up.0)) (λ e. omega arith) (λ e. omega arith)
      up.1 (o.across k lk lt child up.0)

  -- of two children the chosen one comes before the other
  best_child : left_child h < tree.len → Best before (laid tree h x) h (first_child before tree h)
  best_child in' =
      let l = left_child h in
      let r = left_child h + 1 in
      let left : entry_in (laid tree h x) l ≡ entry_in tree l = rest_is l (λ e. omega arith) in
      let right : entry_in (laid tree h x) r ≡ entry_in tree r = rest_is r (λ e. omega arith) in
      record {
        low = grind (arith, nat_tests);
        within = grind (arith, nat_tests);
        child = grind (arith, nat_tests);
        first = λ k lk lt child ne. ⊎_elim
            (λ (picks : (first_child before tree h ≡ r) × (before (entry_in tree r) (entry_in tree l) ≡ true)).
            let isL : k ≡ l = omega (arith, picks.0) in
            by before (ap (entry_in (laid tree h x)) picks.0 ∙ right) (ap (entry_in (laid tree h x)) isL ∙ left) picks.1)
            (λ (picks : (first_child before tree h ≡ l) × (ltb r tree.len ≡ true → before (entry_in tree r) (entry_in tree l) ≡ false)).
            let isR : k ≡ r = omega (arith, picks.0) in
            let late = by before right left (picks.1 (lt-ltb r tree.len (omega arith))) in
            by before (ap (entry_in (laid tree h x)) picks.0) (ap (entry_in (laid tree h x)) isR) (turned before laws (laid tree h x) held o.stands r l (omega arith) in' (λ e. omega arith) late))
            (picked (ltb r tree.len) (before (entry_in tree r) (entry_in tree l)) l r);
      }

  -- an entry that sinks has a best child, which comes before it
  sinks_yes : (c : ℕ) → Some c ≡ sinks_to before tree h x → Best before (laid tree h x) h c × (before (entry_in (laid tree h x) c) (entry_in (laid tree h x) h) ≡ true)
  sinks_yes c is =
      let low : left_child h < tree.len = grind (arith, nat_tests) in
      let same : c ≡ first_child before tree h = grind (arith, nat_tests) in
      let first : before (entry_in tree (first_child before tree h)) x ≡ true = grind (arith, nat_tests) in
      let best = best_child low in
      subst (λ n. Best before (laid tree h x) h n × (before (entry_in (laid tree h x) n) (entry_in (laid tree h x) h) ≡ true)) (sym same)
      (best, by before (rest_is (first_child before tree h) (λ e. omega (arith, best.low, best.child))) hole_is first)

  -- an entry that does not sink comes before all below the hole
  rests_below : None ≡ sinks_to before tree h x → BeforeChildren before (laid tree h x) h
  rests_below is k lk lt child =
      let fc = first_child before tree h in
      let best = best_child (omega arith) in
      let away : fc ≡ h → ⊥ = λ e. omega (arith, best.low, best.child) in
      let late : before (entry_in tree fc) x ≡ false = grind (arith, nat_tests) in
      let over = turned before laws (laid tree h x) held o.stands fc h best.within o.within away (by before (rest_is fc away) hole_is late) in
      ⊎_elim
      (λ (same : k ≡ fc). by before refl (ap (entry_in (laid tree h x)) same) over)
      (λ (ne : k ≡ fc → ⊥). linked before laws (laid tree h x) held o.stands h fc k o.within best.within lt (λ e. away (sym e)) (λ e. ne (sym e)) (λ e. omega arith) over (best.first k lk lt child ne))
      (cases_eq k fc)

  -- an entry that comes before all below the hole does not sink
  stays_below : BeforeChildren before (laid tree h x) h → sinks_to before tree h x ≡ None
  stays_below below = none_from (sinks_to before tree h x) (λ c is.
      let told = sinks_yes c (sym is) in
      let up : before (entry_in (laid tree h x) h) (entry_in (laid tree h x) c) ≡ true = below c told.0.low told.0.within told.0.child in
      let one = laws.one (entry_in (laid tree h x) h) (entry_in (laid tree h x) c) (apart (laid tree h x) held o.stands h c o.within told.0.within (λ e. omega (arith, told.0.low, told.0.child))) in
      let down = told.1 in absurd cc)

  -- an entry that comes after the one above the hole does not rise
  stays_above : AfterParent before (laid tree h x) h → rises before tree h x ≡ false
  stays_above above = false_from_ne_true (rises before tree h x) (λ is.
      let told = rises_yes (sym is) in
      let down = above told.0 in
      let one = laws.one (entry_in (laid tree h x) (parent h)) (entry_in (laid tree h x) h) (apart (laid tree h x) held o.stands (parent h) h (omega (arith, o.within)) o.within (λ e. omega (arith, told.0))) in
      let up = told.1 in absurd cc)

  -- the next place is the one above or the first child
  next_is : (o : Option ℕ) → o ≡ next_place before tree h x → ((rises before tree h x ≡ true) × (o ≡ Some (parent h))) ⊎ ((rises before tree h x ≡ false) × (o ≡ sinks_to before tree h x))
  next_is o is = grind (arith, cases_Bool (rises before tree h x))

  -- a tree is in order once the moved entry is written where it fits
  pub ends : (new : Tree) → new ≡ laid tree h x → None ≡ next_place before tree h x → (held_in new ≡ held) × Sound before new
  ends new wrote is = ⊎_elim
      (λ (up : (rises before tree h x ≡ true) × (◌≡◌ {A = Option ℕ} None (Some (parent h)))). absurd (none-some (parent h) up.1))
      (λ (down : (rises before tree h x ≡ false) × (None ≡ sinks_to before tree h x)).
      subst (λ t. (held_in t ≡ held) × Sound before t) (sym wrote) (held_is (laid tree h x) held o.stands, sound before laws (laid tree h x) held h o (rests_below down.1) (rests_above (sym down.0))))
      (next_is None is)

-- the gap moves on to a place, and fewer turns are left
pub record Turned (before : Entry → Entry → Bool) (held : Held) (tree : Tree) (h : ℕ) (new : Tree) (c : ℕ) (x : Entry) : Type 0 where
  pub again : Holed before held (laid new c x) c
  pub fewer : turns_left before new c x < turns_left before tree h x
  -- what went up can only go on up, and what went down only down
  pub on_up : nat_lt c h ≡ true → rises_to before new c x ≡ next_place before new c x
  pub on_down : nat_lt c h ≡ false → sinks_to before new c x ≡ next_place before new c x

module _ (before : Entry → Entry → Bool) (laws : Lawful before) (tree : Tree) (held : Held) (h : ℕ) (x : Entry) (o : Holed before held (laid tree h x) h) (c : ℕ) (is : Some c ≡ next_place before tree h x) where
  -- the next place is another place of the tree
  pub next_within : (c < tree.len) × (c ≡ h → ⊥)
  next_within = ⊎_elim
      (λ (up : (rises before tree h x ≡ true) × (Some c ≡ Some (parent h))).
      let low = (rises_yes before laws tree held h x o (sym up.0)).0 in
      let same : c ≡ parent h = let told = up.1 in cc in (omega (arith, o.within), λ e. omega arith))
      (λ (down : (rises before tree h x ≡ false) × (Some c ≡ sinks_to before tree h x)).
      let best = (sinks_yes before laws tree held h x o c down.1).0 in (best.within, λ e. omega (arith, best.low, best.child)))
      (next_is before laws tree held h x o (Some c) is)

  -- so it lies in the memory
  pub next_below : c < 64
  next_below = omega (arith, next_within.0, tree.room)

  -- and what stands there has a task number
  pub next_range : (y : Entry) → y ≡ entry_in tree c → in_range y.number ≡ true
  next_range y its = pulled_range before laws tree held h x o c next_within.0 next_within.1 y its

  -- a turn exchanges it with the moved entry
  pub turned_over : (y : Entry) → y ≡ entry_in tree c → (new : Tree) → new ≡ laid tree h y → Turned before held tree h new c x
  turned_over y its new wrote =
      let ex : Exchanged (laid tree h x) (laid new c x) h c =
      subst (λ t. Exchanged (laid tree h x) (laid t c x) h c) (sym (wrote ∙ ap (laid tree h) its)) (pulled tree held h x o.stands o.within c next_within.0 next_within.1) in
      let len : new.len ≡ tree.len = ap (λ t. t.len) wrote in
      ⊎_elim
      (λ (up : (rises before tree h x ≡ true) × (Some c ≡ Some (parent h))).
      let told = rises_yes before laws tree held h x o (sym up.0) in
      let same : c ≡ parent h = let parts = up.1 in cc in
      let moved = risen before laws (laid tree h x) (laid new c x) held h c ex o next_within.0 told.0 same (subst (λ n. before (entry_in (laid tree h x) h) (entry_in (laid tree h x) n) ≡ true) (sym same) told.1) (leads_below before laws tree held h x o (sym up.0)) in
      record {
        again = moved.0;
        fewer = fewer_up (rises before tree h x) (rises before new c x) (sinks_to before tree h x) (sinks_to before new c x) h c tree.len new.len up.0 (stays_below before laws new held c x moved.0 moved.1) (omega (arith, told.0));
        on_up = λ _. only_up (rises before new c x) (parent c) (sinks_to before new c x) (stays_below before laws new held c x moved.0 moved.1);
        on_down = λ out. absurd (true≢false (sym (lt-ltb c h (omega (arith, told.0))) ∙ out));
      })
      (λ (down : (rises before tree h x ≡ false) × (Some c ≡ sinks_to before tree h x)).
      let told = sinks_yes before laws tree held h x o c down.1 in
      let moved = sunk before laws (laid tree h x) (laid new c x) held h c ex o next_within.0 told.0.low told.0.child told.1 told.0.first in
      record {
        again = moved.0;
        fewer = fewer_down (rises before tree h x) (rises before new c x) (sinks_to before tree h x) (sinks_to before new c x) h c tree.len new.len down.0 (sym down.1) (stays_above before laws new held c x moved.0 moved.1) (omega (arith, told.0.low, told.0.child)) next_within.0 len;
        on_up = λ in'. absurd (true≢false (sym in' ∙ not_lower c h (omega (arith, told.0.low, told.0.child))));
        on_down = λ _. only_down (rises before new c x) (parent c) (sinks_to before new c x) (stays_above before laws new held c x moved.0 moved.1);
      })
      (next_is before laws tree held h x o (Some c) is)

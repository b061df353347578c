-- The order of the tree: a step of a sift moves the only gap along its path, and the root comes first.
use Rattle.std.proofs.Common.{◌≡◌, ℕ, zero, suc, ◌<◌, ◌≤◌, Bool, true, false, not, sym, refl, ap, ◌∙◌, subst, ⊎_elim, arith}
use Rattle.heap.proofs.Moves.{Exchanged, stands_exchanged}
use Rattle.heap.proofs.Standing.{apart, held_is}
use Rattle.heap.specs.Sifts.{AfterParent, BeforeChildren, Holed}
use Rattle.heap.specs.Sound.{Ordered, Sound, Stands, entry_in, held_in, parent}
use Rattle.heap.specs.declared.memory.Tree.{Tree}
use Rattle.order.specs.Orders.{Lawful}
use Rattle.order.specs.declared.entries.Entry.{Entry}
use Rattle.ready.specs.Held.{Held}
use Rattle.std.proofs.lemmas.Bool.{cases_eq}

-- equal entries are in the same order
pub by : (before : Entry → Entry → Bool) {a b x y : Entry} {t : Bool} → a ≡ x → b ≡ y → before x y ≡ t → before a b ≡ t
by before {a} {b} {x} {y} {t} p q is = ap (λ e. before e b) p ∙ (ap (before x) q ∙ is)

-- a tree may be said to hold what it is known to hold
pub as_held : (before : Entry → Entry → Bool) (tree : Tree) (held : Held) (h : ℕ) → Holed before held tree h → Holed before (held_in tree) tree h
as_held before tree held h o = subst (λ l. Holed before l tree h) (sym (held_is tree held o.stands)) o

module _ (before : Entry → Entry → Bool) (laws : Lawful before) where
  -- the order of three places chains
  pub linked : (tree : Tree) (held : Held) → Stands tree held → (p q r : ℕ) → p < tree.len → q < tree.len → r < tree.len → (p ≡ q → ⊥) → (q ≡ r → ⊥) → (p ≡ r → ⊥)
      → before (entry_in tree p) (entry_in tree q) ≡ true → before (entry_in tree q) (entry_in tree r) ≡ true → before (entry_in tree p) (entry_in tree r) ≡ true
  linked tree held s p q r pn qn rn pq qr pr =
      let away = apart tree held s in
      laws.chain (entry_in tree p) (entry_in tree q) (entry_in tree r) (away p q pn qn pq) (away q r qn rn qr) (away p r pn rn pr)

  -- where an entry does not come before another, that one comes before it
  pub turned : (tree : Tree) (held : Held) → Stands tree held → (p q : ℕ) → p < tree.len → q < tree.len → (p ≡ q → ⊥) → before (entry_in tree p) (entry_in tree q) ≡ false → before (entry_in tree q) (entry_in tree p) ≡ true
  turned tree held s p q pn qn pq is = laws.one (entry_in tree p) (entry_in tree q) (apart tree held s p q pn qn pq) ∙ ap not is

  -- a tree whose hole fits both above and below is in order
  pub sound : (tree : Tree) (held : Held) (h : ℕ) → Holed before held tree h → BeforeChildren before tree h → AfterParent before tree h → Sound before tree
  sound tree held h o below above = record {
    stands = subst (Stands tree) (sym (held_is tree held o.stands)) o.stands;
    ordered = λ k low lt. ⊎_elim
        (λ (is : k ≡ h). by before (ap (λ n. entry_in tree (parent n)) is) (ap (entry_in tree) is) (above (omega arith)))
        (λ (nk : k ≡ h → ⊥). ⊎_elim
        (λ (is : parent k ≡ h). by before (ap (entry_in tree) is) refl (below k low lt is))
        (λ (np : parent k ≡ h → ⊥). o.others k low lt nk np)
        (cases_eq (parent k) h))
        (cases_eq k h);
  }

  -- the entry in the hole h is exchanged with the one at c
  module _ (old new : Tree) (held : Held) (h c : ℕ) (ex : Exchanged old new h c) (o : Holed before held old h) (cn : c < old.len) where
    stands_moved : Stands new held
    stands_moved = stands_exchanged old new held h c ex o.stands o.within cn

    -- the entry in the hole moves up over the one above it, which comes after it
    pub risen : 0 < h → c ≡ parent h → before (entry_in old h) (entry_in old c) ≡ true → BeforeChildren before old h → Holed before held new c × BeforeChildren before new c
    risen low up first below =
        let same : (k : ℕ) → 0 < k → k < new.len → parent k ≡ c → (k ≡ h → ⊥) → entry_in new k ≡ entry_in old k = λ k lk lt is nk. ex.rest k nk (λ e. omega arith) in
        let under : (k : ℕ) → 0 < k → k < new.len → parent k ≡ c → (k ≡ h → ⊥) → before (entry_in old c) (entry_in old k) ≡ true =
        λ k lk lt is nk. by before (ap (entry_in old) (sym is)) refl (o.others k lk (omega (arith, ex.len)) nk (λ e. omega arith)) in (
          record {
            stands = stands_moved;
            within = omega (arith, ex.len);
            others = λ k lk lt nk np. ⊎_elim
                (λ (is : parent k ≡ h). by before (ap (entry_in new) is ∙ (ex.here ∙ ap (entry_in old) up)) (ex.rest k (λ e. omega arith) nk) (o.across k lk (omega (arith, ex.len)) is low))
                (λ (nh : parent k ≡ h → ⊥).
                let nkh : k ≡ h → ⊥ = λ e. np (ap parent e ∙ sym up) in
                by before (ex.rest (parent k) nh np) (ex.rest k nkh nk) (o.others k lk (omega (arith, ex.len)) nkh nh))
                (cases_eq (parent k) h);
            across = λ k lk lt is lc.
                let top : entry_in new (parent c) ≡ entry_in old (parent c) = ex.rest (parent c) (λ e. omega arith) (λ e. omega arith) in
                let over : before (entry_in old (parent c)) (entry_in old c) ≡ true = o.others c lc cn (λ e. omega arith) (λ e. omega arith) in
                ⊎_elim
                (λ (kh : k ≡ h). by before top (ap (entry_in new) kh ∙ ex.here) over)
                (λ (nk : k ≡ h → ⊥). by before top (same k lk lt is nk)
                (linked old held o.stands (parent c) c k (omega arith) cn (omega (arith, ex.len)) (λ e. omega arith) (λ e. omega arith) (λ e. omega arith) over (under k lk lt is nk)))
                (cases_eq k h);
          },
          λ k lk lt is. ⊎_elim
              (λ (kh : k ≡ h). by before ex.there (ap (entry_in new) kh ∙ ex.here) first)
              (λ (nk : k ≡ h → ⊥). by before ex.there (same k lk lt is nk)
              (linked old held o.stands h c k o.within cn (omega (arith, ex.len)) (λ e. omega arith) (λ e. omega arith) (λ e. nk (sym e)) first (under k lk lt is nk)))
              (cases_eq k h),
        )

    -- the entry in the hole moves down below its first child, which comes before it
    pub sunk : 0 < c → parent c ≡ h → before (entry_in old c) (entry_in old h) ≡ true
        → ((k : ℕ) → 0 < k → k < old.len → parent k ≡ h → (k ≡ c → ⊥) → before (entry_in old c) (entry_in old k) ≡ true)
        → Holed before held new c × AfterParent before new c
    sunk low down first best = (
      record {
        stands = stands_moved;
        within = omega (arith, ex.len);
        others = λ k lk lt nk np. ⊎_elim
            (λ (is : k ≡ h). by before (ap (λ n. entry_in new (parent n)) is ∙ ex.rest (parent h) (λ e. omega arith) (λ e. omega arith)) (ap (entry_in new) is ∙ ex.here) (o.across c low cn down (omega arith)))
            (λ (nh : k ≡ h → ⊥). ⊎_elim
            (λ (is : parent k ≡ h). by before (ap (entry_in new) is ∙ ex.here) (ex.rest k nh nk) (best k lk (omega (arith, ex.len)) is nk))
            (λ (nph : parent k ≡ h → ⊥). by before (ex.rest (parent k) nph np) (ex.rest k nh nk) (o.others k lk (omega (arith, ex.len)) nh nph))
            (cases_eq (parent k) h))
            (cases_eq k h);
        across = λ k lk lt is lc. by before (ap (entry_in new) down ∙ (ex.here ∙ ap (entry_in old) (sym is))) (ex.rest k (λ e. omega arith) (λ e. omega arith))
            (o.others k lk (omega (arith, ex.len)) (λ e. omega arith) (λ e. omega arith));
      },
      λ lc. by before (ap (entry_in new) down ∙ ex.here) ex.there first,
    )

  -- the root comes before every other entry
  pub root_first : (tree : Tree) (held : Held) → Stands tree held → Ordered before tree → (fuel k : ℕ) → k ≤ fuel → 0 < k → k < tree.len → before (entry_in tree 0) (entry_in tree k) ≡ true
  root_first tree held s ordered zero k f low lt = absurd (omega arith)
  root_first tree held s ordered (suc fuel) k f low lt = ⊎_elim
      (λ (top : parent k ≡ 0). by before (ap (entry_in tree) (sym top)) refl (ordered k low lt))
      (λ (deep : parent k ≡ 0 → ⊥).
      linked tree held s 0 (parent k) k (omega arith) (omega arith) lt (λ e. deep (sym e)) (λ e. omega arith) (λ e. omega arith)
      (root_first tree held s ordered fuel (parent k) (omega arith) (omega arith) (omega arith)) (ordered k low lt))
      (cases_eq (parent k) 0)

-- The root says which entry is first, and a tree without one holds nothing.
use Rattle.std.proofs.Common.{◌≡◌, ◌<◌, ◌≤◌, Bool, length, Some, None, Option, sym, refl, ap, ◌∙◌, subst, ⊎_elim, arith}
use Rattle.heap.proofs.Paths.{by, root_first}
use Rattle.heap.proofs.Standing.{held_is, stands_none}
use Rattle.heap.specs.Sound.{Sound, Stands, entry_in, held_in, place_in, root_of}
use Rattle.heap.specs.declared.memory.Tree.{Tree}
use Rattle.order.specs.Orders.{Lawful}
use Rattle.order.specs.declared.entries.Entry.{Entry}
use Rattle.ready.proofs.First.{least_first}
use Rattle.ready.specs.Held.{Leads, Least, first_of, none}
use Rattle.std.proofs.lemmas.Bool.{cases_eq, cases_lt}
use Rattle.std.proofs.lemmas.Bool.Decides.{nat_tests}

-- a tree of no length is in order and holds nothing
pub emptied : (before : Entry → Entry → Bool) (tree : Tree) → length tree.entries ≡ 64 → length tree.places ≡ 64 → tree.len ≡ 0 → (held_in tree ≡ none) × Sound before tree
emptied before tree memory index empty =
    let s : Stands tree none = stands_none tree memory index empty in
    let is : held_in tree ≡ none = held_is tree none s in
    (is, record { stands = subst (Stands tree) (sym is) s; ordered = λ place low lt. absurd (omega arith) })

-- a tree in order
module _ (before : Entry → Entry → Bool) (laws : Lawful before) (tree : Tree) (ok : Sound before tree) where
  -- whatever is least of what the tree holds is the answer of `first`
  answer : (r : Option Entry) → Least before (held_in tree) r → (r ≡ first_of before (held_in tree)) × Least before (held_in tree) r
  answer r least = (least_first before laws (held_in tree) ok.stands.slotted r least, least)

  -- the root comes before all others that are held
  root_leads : 0 < tree.len → Leads before (held_in tree) (entry_in tree 0)
  root_leads low = record {
    is_held = ok.stands.kept 0 low;
    leads = λ o is ne.
        let there = ok.stands.all o is in
        let place = place_in tree o.number in
        let deep : 0 < place = ⊎_elim
        (λ (top : place ≡ 0). absurd (ne (ap (λ p. (entry_in tree p).number) (sym top) ∙ ap (λ a. a.number) there.1)))
        (λ (below : place ≡ 0 → ⊥). omega arith)
        (cases_eq place 0) in
        by before refl (sym there.1) (root_first before laws tree (held_in tree) ok.stands ok.ordered place place (omega arith) deep there.0);
  }

  -- so it is first, and nothing is where there is no root
  pub first_root : (r : Option Entry) → r ≡ root_of tree → (r ≡ first_of before (held_in tree)) × Least before (held_in tree) r
  first_root r is = ⊎_elim
      (λ (low : 0 < tree.len). let root : r ≡ Some (entry_in tree 0) = grind (arith, nat_tests) in answer r (subst (Least before (held_in tree)) (sym root) (root_leads low)))
      (λ (out : tree.len ≤ 0).
      let nothing : r ≡ None = grind (arith, nat_tests) in
      answer r (subst (Least before (held_in tree)) (sym nothing) (held_is tree none (stands_none tree ok.stands.memory ok.stands.index (omega arith)))))
      (cases_lt 0 tree.len)

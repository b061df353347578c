-- The first entry: the fold over the slots finds the one that comes before all others,
-- and no other entry does. One proof for every list and every lawful order.
use Rattle.std.proofs.Common.{◌≡◌, ℕ, zero, suc, ◌+◌, ◌-◌, ◌<◌, ◌≤◌, Bool, true, false, not, get_or, take, Some, None, fold, Option, sym, refl, ap, ◌∙◌, subst, ⊎_elim, arith, add-one}
use Rattle.order.specs.Orders.{Lawful}
use Rattle.order.specs.declared.entries.Entry.{Entry}
use Rattle.ready.proofs.Slots.{slot_at-some}
use Rattle.ready.specs.Held.{Held, Least, Slotted, better, entry_at, first_of, none}
use Rattle.std.proofs.lemmas.List.{ext_get_or, get_or-replicate, take_all}
use Rattle.std.proofs.lemmas.List.Sums.{fold_more}
use Rattle.std.proofs.lemmas.Bool.{cases_eq, cases_Bool}
use Rattle.std.proofs.lemmas.Bool.Decides.{nat_tests}

-- r leads the first n slots: none where they are empty, else an entry of them before all others
abbrev Leading : (Entry → Entry → Bool) → Held → ℕ → Option Entry → Type 0
Leading before held n None = (k : ℕ) → k < n → get_or held k None ≡ None
Leading before held n (Some e) =
    (e.number ≤ n) × (entry_at held e.number ≡ Some e) × ((o : Entry) → o.number ≤ n → entry_at held o.number ≡ Some o → (e.number ≡ o.number → ⊥) → before e o ≡ true)

-- nothing is held in an empty list
pub none_holds : (e : Entry) → entry_at none e.number ≡ Some e → ⊥
none_holds e is =
    let s = slot_at-some none e.number e is in
    grind (arith, get_or-replicate {A = Option Entry} 64 (e.number - 1) None None)

module _ (before : Entry → Entry → Bool) (laws : Lawful before) (held : Held) (slots : Slotted held) where
  -- one slot more
  module _ (n : ℕ) (lt : n < 64) where
    -- an entry with the number of the slot stands in it
    here : (o : Entry) → o.number ≡ n + 1 → entry_at held o.number ≡ Some o → get_or held n None ≡ Some o
    here o same is = let s = slot_at-some held o.number o is in grind arith

    -- what leads the first n slots, bettered by one more, leads n + 1
    more : (best slot : Option Entry) → get_or held n None ≡ slot → Leading before held n best → Leading before held (n + 1) (better before best slot)
    more None None is lead = λ k kn. ⊎_elim (λ (same : k ≡ n). ap (λ i. get_or held i None) same ∙ is) (λ (ne : k ≡ n → ⊥). lead k (omega arith)) (cases_eq k n)
    more (Some e) None is lead = (
      omega (arith, lead.0),
      lead.1,
      λ o on at apart. ⊎_elim (λ (same : o.number ≡ n + 1). let h = here o same at in absurd cc) (λ (ne : o.number ≡ n + 1 → ⊥). lead.2 o (omega arith) at apart) (cases_eq o.number (n + 1)),
    )
    more None (Some x) is lead =
        let numbered : x.number ≡ n + 1 = slots.placed n x (omega (arith, slots.many)) is in (
          omega arith,
          grind (arith, nat_tests),
          λ o on at apart. let s = slot_at-some held o.number o at in let l = lead (o.number - 1) (omega (arith, s.0)) in absurd cc,
        )
    more (Some b) (Some x) is lead =
        let numbered : x.number ≡ n + 1 = slots.placed n x (omega (arith, slots.many)) is in
        ⊎_elim
        (λ (yes' : before x b ≡ true). rw yes' (
          omega arith,
          grind (arith, nat_tests),
          λ o on at apart. ⊎_elim
              (λ (same : b.number ≡ o.number). let one : b ≡ o = grind (arith, lead.1) in grind arith)
              (λ (ne : b.number ≡ o.number → ⊥). laws.chain x b o (λ s. omega (arith, lead.0)) ne apart yes' (lead.2 o (omega arith) at ne))
              (cases_eq b.number o.number),
        ))
        (λ (late : before x b ≡ false). rw late (
          omega (arith, lead.0),
          lead.1,
          λ o on at apart. ⊎_elim
              (λ (same : o.number ≡ n + 1). let h = here o same at in let one : x ≡ o = cc in subst (λ y. before b y ≡ true) one (laws.one x b (λ s. omega (arith, lead.0)) ∙ ap not late))
              (λ (ne : o.number ≡ n + 1 → ⊥). lead.2 o (omega arith) at apart)
              (cases_eq o.number (n + 1)),
        ))
        (cases_Bool (before x b))

  -- the fold from the left leads all that it has seen
  lead : (n : ℕ) → n ≤ 64 → Leading before held n (fold (better before) None (take n held))
  lead zero le = λ k lt. absurd (omega arith)
  lead (suc n) le = rw (← add-one n, fold_more (better before) None held n None (omega (arith, slots.many))) (more n (omega arith) (fold (better before) None (take n held)) (get_or held n None) refl (lead n (omega arith)))

  least_from_leading : (r : Option Entry) → Leading before held 64 r → Least before held r
  least_from_leading None l = ext_get_or None held none slots.many (λ k lt. l k (omega (arith, slots.many)) ∙ sym (get_or-replicate 64 k None None (omega (arith, slots.many))))
  least_from_leading (Some e) l = record { is_held = l.1; leads = λ o at apart. l.2 o (slot_at-some held o.number o at).1 at apart }

  -- the fold's answer comes before all others
  pub first_least : Least before held (first_of before held)
  first_least = least_from_leading (first_of before held) (subst (λ l. Leading before held 64 (fold (better before) None l)) (take_all 64 held (omega (arith, slots.many))) (lead 64 (omega arith)))

  -- two answers that come before all others are one
  same_least : (r s : Option Entry) → Least before held r → Least before held s → r ≡ s
  same_least None None l m = refl
  same_least None (Some e) l m = absurd (none_holds e (subst (λ h. entry_at h e.number ≡ Some e) l m.is_held))
  same_least (Some e) None l m = absurd (none_holds e (subst (λ h. entry_at h e.number ≡ Some e) m l.is_held))
  same_least (Some e) (Some o) l m =
      ⊎_elim
      (λ (same : e.number ≡ o.number). sym l.is_held ∙ (ap (entry_at held) same ∙ m.is_held))
      (λ (apart : e.number ≡ o.number → ⊥). let eo = l.leads o m.is_held apart in let oe = m.leads e l.is_held (λ s. apart (sym s)) in let one = laws.one e o apart in absurd cc)
      (cases_eq e.number o.number)

  -- and whatever does is the fold's answer
  pub least_first : (r : Option Entry) → Least before held r → r ≡ first_of before held
  least_first r l = same_least r (first_of before held) l first_least

-- One slot of the ready list, written anew.
use Rattle.std.proofs.Common.{◌≡◌, ℕ, ◌+◌, ◌-◌, ◌<◌, true, eqb, map, length, get_or, set, Some, None, Option, sym, refl, ap, ◌∙◌, subst, ⊎_elim, arith, length-set}
use Rattle.controller.specs.Tasks.{Fits, InSlot, Mirrors, Tasks}
use Rattle.order.specs.Orders.{in_range}
use Rattle.order.specs.declared.entries.Entry.{Entry}
use Rattle.ready.proofs.Slots.{entry_slot, placed_set, put_set, taken_set}
use Rattle.ready.specs.Held.{Held, Slotted, entry_at, put_in, taken_out}
use Rattle.rules.specs.Jobs.{after_deadline, charged, due_at, next_job}
use Rattle.rules.specs.Tasks.{entry_of, wants_to_run}
use Rattle.rules.specs.declared.tasks.Task.{Task}
use Rattle.std.proofs.lemmas.List.{get_or-map, map-set, set-get_or}
use Rattle.std.proofs.lemmas.Bool.{cases_Bool, cond_both, cond-false, cond-true}
use Rattle.std.proofs.lemmas.Bool.Decides.{nat_tests}

-- a slot that holds what is to be written stays
pub same_entry : (held : Held) (number : ℕ) (is : Option Entry) → in_range number ≡ true → entry_at held number ≡ is → held ≡ set held (number - 1) is
same_entry held number is range same = sym (set-get_or held (number - 1) None) ∙ ap (set held (number - 1)) (sym (entry_slot held number range) ∙ same)

-- take out, then put
pub relisted : (h₀ h₁ h₂ : Held) (number : ℕ) (e : Entry) (is : Option Entry) → Slotted h₀ → in_range number ≡ true → is ≡ Some e → Fits number is
    → h₁ ≡ taken_out h₀ number → h₂ ≡ put_in h₁ e → h₂ ≡ set h₀ (number - 1) is
relisted h₀ h₁ h₂ number e is slots range some fits out in' =
    let same : e.number ≡ number = subst (Fits number) some fits in
    let range' : in_range e.number ≡ true = subst (λ n. in_range n ≡ true) (sym same) range in
    let out' : h₁ ≡ set h₀ (e.number - 1) None = out ∙ (taken_set h₀ number range ∙ ap (λ n. set h₀ (n - 1) None) (sym same)) in
    in' ∙ (ap (λ h. put_in h e) out' ∙ (put_set h₀ e slots range' ∙ (ap (λ n. set h₀ (n - 1) (Some e)) same ∙ ap (set h₀ (number - 1)) (sym some))))

pub place_range : (place : ℕ) → place < 64 → in_range (place + 1) ≡ true
place_range place lt = grind (arith, nat_tests)

pub place_back : (place : ℕ) → place + 1 - 1 ≡ place
place_back place = omega arith

-- the entry that is held for a number is that of its slot's task
pub mirror_entry : (tasks : Tasks) (held : Held) (place : ℕ) → place < 64 → Mirrors tasks held → entry_at held (place + 1) ≡ entry_of (get_or tasks place None)
mirror_entry tasks held place lt m =
    let lt' : place < length tasks = omega (arith, m.many) in
    entry_slot held (place + 1) (place_range place lt)
    ∙ (ap (λ n. get_or held n None) (place_back place) ∙ (ap (λ h. get_or h place None) m.same ∙ get_or-map entry_of tasks place None None lt'))

-- a task in its slot has its entry in that slot too
pub fits_entry : (place : ℕ) (new : Option Task) → InSlot place new → Fits (place + 1) (entry_of new)
fits_entry place None fits = tt
fits_entry place (Some t) fits =
    let e : Entry = record { number = t.number; deadline = t.deadline; rate = t.rate } in
    ⊎_elim
    (λ w. subst (Fits (place + 1)) (sym (cond-true (wants_to_run t) (Some e) None w)) fits)
    (λ w. subst (Fits (place + 1)) (sym (cond-false (wants_to_run t) (Some e) None w)) tt)
    (cases_Bool (wants_to_run t))

in_slot_some : (place : ℕ) (new : Option Task) → InSlot place new → (t : Task) → new ≡ Some t → t.number ≡ place + 1
in_slot_some place new fits t is = subst (InSlot place) is fits

-- a write to a slot and to its entry keeps the mirror
pub mirror_set : (tasks : Tasks) (held held' : Held) (place : ℕ) (new : Option Task) (is : Option Entry) → Mirrors tasks held → InSlot place new → is ≡ entry_of new
    → held' ≡ set held (place + 1 - 1) is → Mirrors (set tasks place new) held'
mirror_set tasks held held' place new is m fits entry out =
    record {
      many = length-set tasks place new ∙ m.many;
      placed = placed_set (λ t. t.number) tasks place new m.placed (in_slot_some place new fits);
      same = out ∙ (ap (λ n. set held n is) (place_back place) ∙ (ap (λ h. set h place is) m.same ∙ (ap (set (map entry_of tasks) place) entry ∙ sym (map-set entry_of tasks place new))));
    }

-- a slot's task belongs there, and still does when it was charged or its deadline was dealt with
in_slot : (place : ℕ) (slot : Option Task) → ((t : Task) → slot ≡ Some t → t.number ≡ place + 1) → InSlot place slot
in_slot place None h = tt
in_slot place (Some t) h = h t refl

pub in_slot_at : (tasks : Tasks) (held : Held) (place : ℕ) → place < 64 → Mirrors tasks held → InSlot place (get_or tasks place None)
in_slot_at tasks held place lt m = in_slot place (get_or tasks place None) (λ t is. m.placed place t (omega (arith, m.many)) is)

pub in_slot_charged : (c place : ℕ) (slot : Option Task) → InSlot place slot → InSlot place (charged c slot)
in_slot_charged c place None fits = tt
in_slot_charged c place (Some t) fits = fits

pub in_slot_due : (T place : ℕ) (slot : Option Task) → InSlot place slot → InSlot place (due_at T slot)
in_slot_due T place None fits = tt
in_slot_due T place (Some t) fits =
    cond_both (eqb t.deadline T) (after_deadline t) (Some t) (InSlot place)
    (λ e. cond_both t.leaving None (Some (next_job t)) (InSlot place) (λ e. tt) (λ e. fits))
    (λ e. fits)

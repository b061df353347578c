-- Every call leaves the controller tied to its memory and its tasks feasible, over any list and any lawful order.
use Rattle.std.proofs.Common.{◌≡◌, ℕ, ◌+◌, ◌-◌, ◌<◌, ◌≤◌, Bool, [], map, length, get_or, set, Some, None, Ok, Err, Option, Result, sym, refl, ap, ◌∙◌, arith}
use lib.ListN.{length-map}
use Rattle.controller.proofs.Admits.{admit_tied, cleared_tied}
use Rattle.controller.proofs.Changing.{changed_kept, in_place, same_place, slot_tied, withdrawal_kept}
use Rattle.controller.proofs.Lists.{fits_entry, in_slot_at, in_slot_charged, in_slot_due, mirror_set, place_back}
use Rattle.controller.proofs.Settles.{runner, settled_tied}
use Rattle.controller.specs.Admitting.{admission_to, is_taken, with_task}
use Rattle.controller.specs.Changing.{on_task, task_at}
use Rattle.controller.specs.Settling.{Runner, charged_in, settled_tasks}
use Rattle.controller.specs.Tasks.{InSlot, Mirrors, Tasks, no_tasks, rates}
use Rattle.controller.specs.Tied.{Open, Tied}
use Rattle.controller.specs.Withdrawing.{with_slot}
use Rattle.controller.specs.declared.states.Runs.{Runs}
use Rattle.controller.specs.declared.states.Runs.TheVariants.{Idle, Task as runs-task}
use Rattle.controller.specs.declared.states.Turn.{Turn}
use Rattle.order.specs.Orders.{Lawful}
use Rattle.order.specs.declared.entries.Entry.{Entry}
use Rattle.promise.proofs.Calls.{admitted_feasible, changed_feasible, empty_is_feasible, settled_feasible, withdrawn_feasible}
use Rattle.promise.specs.Feasible.{Feasible}
use Rattle.ready.proofs.Slots.{slot_back}
use Rattle.ready.specs.Held.{Slotted}
use Rattle.rules.proofs.Admitting.{admissible, unless_ok}
use Rattle.rules.proofs.Changing.{KeptSlot}
use Rattle.rules.specs.Admission.{admitted, why_not_admitted}
use Rattle.rules.specs.Changes.{changed}
use Rattle.rules.specs.Jobs.{charged, due_at}
use Rattle.rules.specs.Tasks.{entry_of}
use Rattle.rules.specs.Withdrawals.{withdrawn}
use Rattle.rules.specs.declared.admission.Reservation.{Reservation}
use Rattle.rules.specs.declared.changes.Change.{Change}
use Rattle.rules.specs.declared.refusals.Refusal.{Refusal}
use Rattle.rules.specs.declared.tasks.Task.{Task}
use Rattle.std.proofs.lemmas.List.{get_or-map, map-set}
use Rattle.std.proofs.lemmas.Bool.{le-ltb}

pub record Good (T : ℕ) (tasks : Tasks) : Type 0 where
  pub tied : Tied T tasks (map entry_of tasks) (Unit {0})
  pub feasible : Feasible T tasks

-- the list that mirrors the tasks has each entry in the slot of its number
pub mirror_slotted : (tasks : Tasks) → Mirrors tasks (map entry_of tasks) → Slotted (map entry_of tasks)
mirror_slotted tasks m =
    record {
      many = length-map tasks entry_of ∙ m.many;
      placed = λ k e lt is.
          let lt' : k < length tasks = omega (arith, length-map tasks entry_of) in
          let here : entry_of (get_or tasks k None) ≡ Some e = rw (← get_or-map entry_of tasks k None None lt') is in
          rw here at (fits_entry k (get_or tasks k None) (in_slot_at tasks (map entry_of tasks) k (omega (arith, m.many)) m));
    }

set_mirrors : (tasks : Tasks) (place : ℕ) (new : Option Task) → Mirrors tasks (map entry_of tasks) → InSlot place new → Mirrors (set tasks place new) (map entry_of (set tasks place new))
set_mirrors tasks place new m fits =
    mirror_set tasks (map entry_of tasks) (map entry_of (set tasks place new)) place new (entry_of new) m fits refl
    (rw (map-set entry_of tasks place new, place_back place))

pub good_none : Good 0 no_tasks
good_none = record { tied = cleared_tied (map entry_of no_tasks) (Unit {0}) refl tt; feasible = empty_is_feasible }

-- an admission, accepted or refused
pub good_admitted : (T : ℕ) (tasks : Tasks) (asked : Reservation) → Good T tasks → (o : Result Task Refusal) → admission_to T tasks asked ≡ o → Good T (with_task o tasks)
good_admitted T tasks asked g (Err why) is = g
good_admitted T tasks asked g (Ok t) is =
    let p = unless_ok (why_not_admitted (is_taken tasks asked.number) (rates tasks) asked) (admitted T asked) t is in
    let a = admissible (is_taken tasks asked.number) (rates tasks) asked p.0 in
    let same : asked.number ≡ t.number = ap (λ u. u.number) p.1 in
    let fits : t.number ≡ t.number - 1 + 1 = rw same at (slot_back [] asked.number (sym a.range)) in
    let after = set tasks (t.number - 1) (Some t) in
    record {
      tied = admit_tied T tasks (map entry_of tasks) (map entry_of after) (Unit {0}) (Unit {0}) asked t g.tied is (set_mirrors tasks (t.number - 1) (Some t) g.tied.mirror fits) tt;
      feasible = admitted_feasible T tasks (map entry_of tasks) g.tied asked g.feasible (Ok t) is;
    }

-- the slot of a number, written anew
good_slot : (T : ℕ) (tasks : Tasks) (number : ℕ) (t : Task) → Good T tasks → task_at tasks number ≡ Some t → (new : Option Task) → KeptSlot T (rates tasks) t new
    → Feasible T (set tasks (number - 1) new) → Good T (set tasks (number - 1) new)
good_slot T tasks number t g at new kept feasible =
    let held = map entry_of tasks in
    let fits = (in_place T tasks held (Unit {0}) g.tied number t at new kept).1 in
    record {
      tied = slot_tied T tasks held (Unit {0}) g.tied number t at new kept (map entry_of (set tasks (number - 1) new)) (Unit {0}) (set_mirrors tasks (number - 1) new g.tied.mirror fits) tt;
      feasible = feasible;
    }

-- a change under way
pub good_changed : (T : ℕ) (tasks : Tasks) (number : ℕ) (how : Change) → Good T tasks → (o : Option Task) → task_at tasks number ≡ o → (r : Result Task Refusal)
    → on_task o (λ t. changed T (rates tasks) t how) ≡ r → Good T (with_task r tasks)
good_changed T tasks number how g o at (Err why) is = g
good_changed T tasks number how g None at (Ok u) is = absurd cc
good_changed T tasks number how g (Some t) at (Ok u) is =
    let held = map entry_of tasks in
    let kept = changed_kept T tasks held (Unit {0}) g.tied number t at how u is in
    let place = same_place T tasks held (Unit {0}) g.tied number t at u kept in
    rw (← place) (good_slot T tasks number t g at (Some u) kept (rw place (changed_feasible T tasks held g.tied number how g.feasible t at u is)))

-- a withdrawal
pub good_withdrawn : (T : ℕ) (tasks : Tasks) (number : ℕ) → Good T tasks → (o : Option Task) → task_at tasks number ≡ o → (r : Result (Option Task) Refusal) → on_task o (withdrawn T) ≡ r → Good T (with_slot number r tasks)
good_withdrawn T tasks number g o at (Err why) is = g
good_withdrawn T tasks number g None at (Ok slot) is = absurd cc
good_withdrawn T tasks number g (Some t) at (Ok slot) is =
    let held = map entry_of tasks in
    good_slot T tasks number t g at slot (withdrawal_kept T tasks held (Unit {0}) g.tied number t at slot is) (withdrawn_feasible T tasks held g.tied number g.feasible t at slot is)

charge_mirrors : (runs : Runs) (c : ℕ) (tasks : Tasks) → Runner runs c tasks → Mirrors tasks (map entry_of tasks) → Mirrors (charged_in runs c tasks) (map entry_of (charged_in runs c tasks))
charge_mirrors Idle c tasks r m = m
charge_mirrors (runs-task number deadline) c tasks r m =
    set_mirrors tasks (number - 1) (charged c (get_or tasks (number - 1) None)) m
    (in_slot_charged c (number - 1) (get_or tasks (number - 1) None) (in_slot_at tasks (map entry_of tasks) (number - 1) (omega (arith, r.0, r.1)) m))

due_mirrors : (T : ℕ) (tasks : Tasks) → Mirrors tasks (map entry_of tasks) → Mirrors (map (due_at T) tasks) (map entry_of (map (due_at T) tasks))
due_mirrors T tasks m =
    record {
      many = length-map tasks (due_at T) ∙ m.many;
      placed = λ k t lt is.
          let lt' : k < length tasks = omega (arith, length-map tasks (due_at T)) in
          let here : due_at T (get_or tasks k None) ≡ Some t = rw (← get_or-map (due_at T) tasks k None None lt') is in
          rw here at (in_slot_due T k (get_or tasks k None) (in_slot_at tasks (map entry_of tasks) k (omega (arith, m.many)) m));
      same = refl;
    }

-- a turn that is settled
module _ (before : Entry → Entry → Bool) (laws : Lawful before) (turn : Turn) (tasks : Tasks) (opened : Open before turn tasks (map entry_of tasks) (Unit {0})) (feasible : Feasible turn.start tasks) (c : ℕ) (few : c ≤ turn.length) where
  pub good_settled : Good (turn.start + c) (settled_tasks turn c tasks)
  good_settled =
      let T = turn.start + c in
      let m = opened.rest.mirror in
      let slots = mirror_slotted tasks m in
      let r = runner before laws turn tasks (map entry_of tasks) (Unit {0}) opened slots c few in
      let out = map (due_at T) (charged_in turn.runs c tasks) in
      record {
        tied = rw (le-ltb turn.length c few)
            (settled_tied before laws turn tasks (map entry_of tasks) (Unit {0}) opened slots c few (map entry_of out) (Unit {0}) (due_mirrors T (charged_in turn.runs c tasks) (charge_mirrors turn.runs c tasks r m)) tt);
        feasible = settled_feasible before laws turn tasks (map entry_of tasks) slots opened c few feasible;
      }

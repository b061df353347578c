-- Every call keeps the tasks feasible, and at a deadline nothing is left of a ready job.
use Rattle.std.proofs.Common.{◌≡◌, ℕ, ◌+◌, ◌-◌, ◌^◌, ◌<◌, ◌≤◌, Bool, true, false, [], ◌∷◌, length, get_or, set, Some, None, Ok, Err, sum_by, Option, Result, sym, refl, ap, subst, arith, length-set}
use Rattle.controller.proofs.Settles.{charge_all, in_room, pass_all, runner}
use Rattle.controller.proofs.Changing.{changed_kept, same_place, there}
use Rattle.controller.specs.Admitting.{admission_to, is_taken, with_task}
use Rattle.controller.specs.Changing.{change_at, on_task, task_at}
use Rattle.controller.specs.Settling.{charged_in, settled_tasks}
use Rattle.controller.specs.Tasks.{Tasks, rates}
use Rattle.controller.specs.Tied.{Open, Tied}
use Rattle.controller.specs.declared.states.Runs.{Runs}
use Rattle.controller.specs.declared.states.Runs.TheVariants.{Idle, Task as runs-task}
use Rattle.controller.specs.declared.states.Turn.{Turn}
use Rattle.order.specs.Orders.{Lawful, in_range}
use Rattle.order.specs.declared.entries.Entry.{Entry}
use Rattle.promise.proofs.Steps.{admit_no_worse, period_no_worse, rate_no_worse, replaced}
use Rattle.promise.proofs.Time.{due_feasible}
use Rattle.promise.proofs.Turns.{turn_feasible}
use Rattle.promise.specs.Kept.{AdmissionKeeps, ChangeKeeps, DeadlineIsMet, EmptyIsFeasible, TurnKeeps}
use Rattle.promise.specs.Feasible.{Feasible, NoWorse, owed, spare}
use Rattle.ready.proofs.First.{first_least}
use Rattle.ready.proofs.Slots.{number_high, slot_back}
use Rattle.ready.specs.Held.{Held, Slotted, first_of}
use Rattle.rules.proofs.Admitting.{admissible, unless_ok}
use Rattle.rules.proofs.Changing.{period_fits, rate_fits}
use Rattle.rules.specs.Admission.{admitted, why_not_admitted}
use Rattle.rules.specs.Jobs.{charged}
use Rattle.rules.specs.declared.admission.Reservation.{Reservation}
use Rattle.rules.specs.Changes.{changed, why_not_period, why_not_rate, with_period, with_rate}
use Rattle.rules.specs.Sound.{Sound}
use Rattle.rules.specs.Tasks.{is_ready}
use Rattle.rules.specs.Withdrawals.{withdrawn}
use Rattle.rules.specs.declared.changes.Change.{Change}
use Rattle.rules.specs.declared.changes.Change.TheVariants.{Period as to_period, Rate as to_rate}
use Rattle.rules.specs.declared.refusals.Refusal.{Refusal}
use Rattle.rules.specs.declared.tasks.Task.{Task}
use Rattle.std.proofs.lemmas.List.Folds.{sum_by-replicate}
use Rattle.std.proofs.lemmas.List.Sums.{get_or-le-sum_by, sum_by-cons}
use Rattle.std.proofs.lemmas.Bool.{le-ltb}
use Rattle.std.proofs.lemmas.Bool.Decides.{nat_tests}

-- a change that is accepted makes nothing worse
change_no_worse : (T rates : ℕ) (t : Task) (change : Change) (u : Task) → Sound T t → changed T rates t change ≡ Ok u → NoWorse T (Some t) (Some u)
change_no_worse T rates t (to_rate rate) u s is =
    let p = unless_ok (why_not_rate T rates t rate) (with_rate T t rate) u is in
    let clear = p.0 in
    rw (← p.1) (rate_no_worse T rates t rate s (rate_fits T rates t rate clear) (λ low. grind (arith, nat_tests)))
change_no_worse T rates t (to_period period) u s is =
    let p = unless_ok (why_not_period T t period) (with_period t period) u is in
    let clear = p.0 in
    rw (← p.1) (period_no_worse T t period s (period_fits T t period clear) (λ early. grind (arith, nat_tests)))
change_no_worse T rates t change u s is = grind (arith, nat_tests)

-- at its deadline a ready job has nothing left
no_spare : (T : ℕ) (tasks : Tasks) → sum_by (spare T T) tasks ≡ 0
no_spare T [] = refl
no_spare T (x ∷ tasks) = let none : spare T T x ≡ 0 = grind (arith, nat_tests) in simp sum_by-cons (omega (arith, no_spare T tasks))

pub paid_in_full : (T : ℕ) (tasks : Tasks) → Feasible T tasks → (i : ℕ) (t : Task) → i < length tasks → get_or tasks i None ≡ Some t → t.deadline ≡ T → is_ready t.phase ≡ true → t.left ≡ 0
paid_in_full T tasks feasible i t lt is due ready =
    let same : owed T T (get_or tasks i None) ≡ owed T T (Some t) = rw is in
    let nothing : owed T T (Some t) ≤ 0 = omega (arith, get_or-le-sum_by (owed T T) tasks i None lt, feasible T (omega arith), no_spare T tasks) in
    grind (arith, nat_tests)

pub empty_is_feasible : EmptyIsFeasible
empty_is_feasible u le = omega (arith, sum_by-replicate (owed 0 u) 64 None)

-- a slot that is not taken is empty
free_slot : (tasks : Tasks) (number : ℕ) → in_range number ≡ true → is_taken tasks number ≡ false → get_or tasks (number - 1) None ≡ None
free_slot tasks number range free = grind (arith, nat_tests)

pub admitted_feasible : (T : ℕ) (tasks : Tasks) (held : Held) → Tied T tasks held (Unit {0}) → (asked : Reservation) → Feasible T tasks → (r : Result Task Refusal) → admission_to T tasks asked ≡ r → Feasible T (with_task r tasks)
admitted_feasible T tasks held tied asked feasible (Err why) is = feasible
admitted_feasible T tasks held tied asked feasible (Ok t) is =
    let p = unless_ok (why_not_admitted (is_taken tasks asked.number) (rates tasks) asked) (admitted T asked) t is in
    let a = admissible (is_taken tasks asked.number) (rates tasks) asked p.0 in
    let same : asked.number ≡ t.number = ap (λ u. u.number) p.1 in
    let lt : t.number - 1 < length tasks = omega (arith, tied.mirror.many, number_high [] asked.number (sym a.range), slot_back [] asked.number (sym a.range)) in
    let free : get_or tasks (t.number - 1) None ≡ None = rw (← same) (free_slot tasks asked.number a.range a.free) in
    replaced T tasks (t.number - 1) (Some t) lt (rw (free, ← p.1) (admit_no_worse T asked)) feasible

pub admission_keeps : AdmissionKeeps
admission_keeps T tasks held tied asked feasible = admitted_feasible T tasks held tied asked feasible (admission_to T tasks asked) refl

pub changed_feasible : (T : ℕ) (tasks : Tasks) (held : Held) (tied : Tied T tasks held (Unit {0})) (number : ℕ) (change : Change) → Feasible T tasks → (t : Task) → task_at tasks number ≡ Some t
    → (u : Task) → changed T (rates tasks) t change ≡ Ok u → Feasible T (set tasks (u.number - 1) (Some u))
changed_feasible T tasks held tied number change feasible t at u is =
    let h = there T tasks held (Unit {0}) tied number t at in
    let kept = changed_kept T tasks held (Unit {0}) tied number t at change u is in
    let place : number - 1 ≡ u.number - 1 = same_place T tasks held (Unit {0}) tied number t at u kept in
    let lt : u.number - 1 < length tasks = omega (arith, place, h.low, h.high, tied.mirror.many) in
    let old : get_or tasks (u.number - 1) None ≡ Some t = rw (← place) h.slot in
    replaced T tasks (u.number - 1) (Some u) lt (rw old (change_no_worse T (rates tasks) t change u h.sound is)) feasible

-- a change, accepted or refused
change_feasible : (T : ℕ) (tasks : Tasks) (held : Held) (tied : Tied T tasks held (Unit {0})) (number : ℕ) (change : Change) → Feasible T tasks → (o : Option Task) → task_at tasks number ≡ o
    → (r : Result Task Refusal) → on_task o (λ t. changed T (rates tasks) t change) ≡ r → Feasible T (with_task r tasks)
change_feasible T tasks held tied number change feasible o at (Err why) is = feasible
change_feasible T tasks held tied number change feasible None at (Ok u) is = absurd cc
change_feasible T tasks held tied number change feasible (Some t) at (Ok u) is = changed_feasible T tasks held tied number change feasible t at u is

pub change_keeps : ChangeKeeps
change_keeps T tasks held tied number change feasible = change_feasible T tasks held tied number change feasible (task_at tasks number) refl (change_at T tasks number change) refl

withdrawn_no_worse : (T : ℕ) (t : Task) (slot : Option Task) → withdrawn T t ≡ Ok slot → NoWorse T (Some t) slot
withdrawn_no_worse T t slot is = grind (arith, nat_tests)

pub withdrawn_feasible : (T : ℕ) (tasks : Tasks) (held : Held) (tied : Tied T tasks held (Unit {0})) (number : ℕ) → Feasible T tasks → (t : Task) → task_at tasks number ≡ Some t
    → (slot : Option Task) → withdrawn T t ≡ Ok slot → Feasible T (set tasks (number - 1) slot)
withdrawn_feasible T tasks held tied number feasible t at slot is =
    let h = there T tasks held (Unit {0}) tied number t at in
    let lt : number - 1 < length tasks = omega (arith, h.low, h.high, tied.mirror.many) in
    replaced T tasks (number - 1) slot lt (rw h.slot (withdrawn_no_worse T t slot is)) feasible

module _ (before : Entry → Entry → Bool) (laws : Lawful before) (turn : Turn) (tasks : Tasks) (held : Held) (slots : Slotted held) (opened : Open before turn tasks held (Unit {0})) (c : ℕ) (few : c ≤ turn.length) (feasible : Feasible turn.start tasks) where
  pub charged_feasible : Feasible (turn.start + c) (charged_in turn.runs c tasks)
  charged_feasible =
      subst (λ r. Feasible (turn.start + c) (charged_in r.runs c tasks)) (sym opened.asked)
      (turn_feasible before laws tasks held opened.rest.mirror turn.start c (first_of before held) (first_least before laws held slots)
      (pass_all turn.start c (2 ^ 40) tasks (in_room before laws turn tasks held (Unit {0}) opened slots c few) opened.rest.sound) opened.rest.shared (subst (λ t. c ≤ t.length) opened.asked few) feasible)

  pub settled_feasible : Feasible (turn.start + c) (settled_tasks turn c tasks)
  settled_feasible =
      let T = turn.start + c in
      let passed = charge_all T c turn.runs tasks opened.rest.mirror.many (runner before laws turn tasks held (Unit {0}) opened slots c few)
      (pass_all turn.start c (2 ^ 40) tasks (in_room before laws turn tasks held (Unit {0}) opened slots c few) opened.rest.sound) in
      rw (le-ltb turn.length c few)
      (due_feasible T (charged_in turn.runs c tasks) passed charged_feasible)

pub turn_keeps : TurnKeeps
turn_keeps before laws turn tasks held slots opened c few feasible = settled_feasible before laws turn tasks held slots opened c few feasible

length-charged : (runs : Runs) (c : ℕ) (tasks : Tasks) → length (charged_in runs c tasks) ≡ length tasks
length-charged Idle c tasks = refl
length-charged (runs-task number deadline) c tasks = length-set tasks (number - 1) (charged c (get_or tasks (number - 1) None))

pub deadline_is_met : DeadlineIsMet
deadline_is_met before laws turn tasks held slots opened c few feasible i t lt is due ready =
    paid_in_full (turn.start + c) (charged_in turn.runs c tasks) (charged_feasible before laws turn tasks held slots opened c few feasible) i t (omega (arith, length-charged turn.runs c tasks)) is due ready

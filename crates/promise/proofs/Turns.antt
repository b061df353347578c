-- A turn keeps the tasks feasible, over any ready list and any lawful tie order.
use Rattle.std.proofs.Common.{◌≡◌, ℕ, ◌+◌, ◌-◌, ◌<◌, ◌≤◌, Bool, true, length, get_or, set, Some, None, sum_by, Option, sym, refl, ap, subst, ⊎_elim, mul-le-mul_left, arith}
use Rattle.controller.proofs.Lists.{mirror_entry}
use Rattle.controller.proofs.Settles.{PassedSlot}
use Rattle.controller.specs.Settling.{charged_in}
use Rattle.controller.specs.Tasks.{Mirrors, Tasks, rates}
use Rattle.controller.specs.Turns.{length_of, runs_of}
use Rattle.order.specs.Orders.{Lawful}
use Rattle.order.specs.declared.entries.Entry.{Entry}
use Rattle.promise.proofs.Time.{Quiet, charge, drift_all, quiet_all}
use Rattle.promise.specs.Feasible.{Feasible, owed, spare}
use Rattle.promise.specs.Promised.{entry_for}
use Rattle.ready.proofs.First.{none_holds}
use Rattle.ready.proofs.Slots.{slot_at-some}
use Rattle.ready.specs.Held.{Held, Leads, Least, entry_at, none}
use Rattle.rules.specs.Jobs.{charged, left_of}
use Rattle.rules.specs.Tasks.{entry_of, is_ready, wants_to_run}
use Rattle.rules.specs.declared.tasks.Task.{Task}
use Rattle.std.proofs.ByRecursion.{All-from_get_or, All-get_or, All-set}
use Rattle.std.proofs.lemmas.List.{get_or-map}
use Rattle.std.proofs.lemmas.List.Sums.{sum_by-set}
use Rattle.std.proofs.lemmas.Bool.{cases_lt}
use Rattle.std.proofs.lemmas.Bool.Decides.{nat_tests}
use Rattle.std.specs.List.{AllByRecursion}

-- by a time after its deadline: all drift, and the turn's task is charged
turn_late : (T c u : ℕ) (tasks : Tasks) (i : ℕ) (t : Task) → i < length tasks → get_or tasks i None ≡ Some t → wants_to_run t ≡ true → c ≤ t.left → T + c ≤ t.deadline → t.deadline ≤ u
    → AllByRecursion (PassedSlot (T + c)) tasks → rates tasks ≤ 1000 → Feasible T tasks
    → sum_by (owed (T + c) u) (set tasks i (charged c (Some t))) ≤ sum_by (spare (T + c) u) (set tasks i (charged c (Some t)))
turn_late T c u tasks i t lt is want few due late passed shared feasible =
    let ready : is_ready t.phase ≡ true = grind (arith, nat_tests) in
    let old_owed : owed (T + c) u (get_or tasks i None) ≡ owed (T + c) u (Some t) = rw is in
    let old_spare : spare (T + c) u (get_or tasks i None) ≡ spare (T + c) u (Some t) = rw is in
    let new_owed = sum_by-set (owed (T + c) u) tasks i (charged c (Some t)) None lt in
    let new_spare = sum_by-set (spare (T + c) u) tasks i (charged c (Some t)) None lt in
    omega (arith, feasible u (omega arith), drift_all T c u tasks passed (omega arith), charge (T + c) c u t due late few ready, mul-le-mul_left c shared)

module _ (before : Entry → Entry → Bool) (laws : Lawful before) (tasks : Tasks) (held : Held) (mirror : Mirrors tasks held) where
  -- a task that wants to run is held under its number
  pub wants_held : (k : ℕ) (t : Task) → k < length tasks → get_or tasks k None ≡ Some t → wants_to_run t ≡ true → entry_at held t.number ≡ Some (entry_for t)
  wants_held k t lt is want = rw (mirror.placed k t lt is, mirror_entry tasks held k (omega (arith, mirror.many)) mirror, is) (grind (arith, nat_tests))

  -- no other task that wants to run has an earlier deadline than the first
  later : (e : Entry) → Leads before held e → (t : Task) → entry_at held t.number ≡ Some (entry_for t) → e.deadline ≤ t.deadline
  later e lead t is = let mine = lead.is_held in let first = lead.leads (entry_for t) is in let one = laws.one e (entry_for t) in let sooner = laws.earlier (entry_for t) e in grind (arith, nat_tests)

  -- so by any time before its deadline nothing is owed
  quiet_at : (e : Entry) → Leads before held e → (u : ℕ) → u < e.deadline → (i : ℕ) → i < length tasks → (x : Option Task) → get_or tasks i None ≡ x → Quiet u x
  quiet_at e lead u lt i in' None is = tt
  quiet_at e lead u lt i in' (Some t) is = λ want. omega (arith, later e lead t (wants_held i t in' is want))

  quiet_first : (e : Entry) → Leads before held e → (u : ℕ) → u < e.deadline → AllByRecursion (Quiet u) tasks
  quiet_first e lead u lt = All-from_get_or (Quiet u) tasks None (λ i in'. quiet_at e lead u lt i in' (get_or tasks i None) refl)

  -- and with an empty list nothing is owed at all
  idle_at : held ≡ none → (u : ℕ) (i : ℕ) → i < length tasks → (x : Option Task) → get_or tasks i None ≡ x → Quiet u x
  idle_at empty u i in' None is = tt
  idle_at empty u i in' (Some t) is = λ want. absurd (none_holds (entry_for t) (rw empty at wants_held i t in' is want))

  quiet_idle : held ≡ none → (u : ℕ) → AllByRecursion (Quiet u) tasks
  quiet_idle empty u = All-from_get_or (Quiet u) tasks None (λ i in'. idle_at empty u i in' (get_or tasks i None) refl)

  -- the slot of the first entry
  pub leader : (e : Entry) → Leads before held e → (t : Task) × (get_or tasks (e.number - 1) None ≡ Some t) × (wants_to_run t ≡ true) × (entry_for t ≡ e) × (e.number - 1 < length tasks)
  leader e lead =
      let h = slot_at-some held e.number e lead.is_held in
      let lt : e.number - 1 < length tasks = omega (arith, h.0, h.1, mirror.many) in
      let is : entry_of (get_or tasks (e.number - 1) None) ≡ Some e = rw (← get_or-map entry_of tasks (e.number - 1) None None lt, ← mirror.same) h.2 in
      let l = task_of (get_or tasks (e.number - 1) None) e is in
      (l.0, l.1, l.2, l.3, lt)
    where
      task_of : (x : Option Task) (o : Entry) → entry_of x ≡ Some o → (t : Task) × (x ≡ Some t) × (wants_to_run t ≡ true) × (entry_for t ≡ o)
      task_of None o got = absurd cc
      task_of (Some t) o got = let want : wants_to_run t ≡ true = grind (arith, nat_tests) in (t, refl, want, grind (arith, nat_tests))

  quiet_charged : (u c : ℕ) (t : Task) → u < t.deadline → Quiet u (charged c (Some t))
  quiet_charged u c t lt = λ _. lt

  -- a turn of the first entry, or an idle one
  pub turn_feasible : (T c : ℕ) (first : Option Entry) → Least before held first → AllByRecursion (PassedSlot (T + c)) tasks → rates tasks ≤ 1000 → c ≤ length_of T tasks first → Feasible T tasks → Feasible (T + c) (charged_in (runs_of first) c tasks)
  turn_feasible T c None least passed shared few feasible u le = omega (arith, quiet_all (T + c) u tasks (quiet_idle least u))
  turn_feasible T c (Some e) least passed shared few feasible u le =
      let l = leader e least in
      let t = l.0 in
      let i = e.number - 1 in
      let Goal : Option Task → Type 0 = λ x. sum_by (owed (T + c) u) (set tasks i (charged c x)) ≤ sum_by (spare (T + c) u) (set tasks i (charged c x)) in
      let left : left_of (get_or tasks i None) ≡ t.left = ap left_of l.1 in
      let until : t.deadline ≡ e.deadline = ap (λ x. x.deadline) l.3 in
      let coming = (subst (PassedSlot (T + c)) l.1 (All-get_or (PassedSlot (T + c)) tasks i None l.4 passed)).coming in
      subst Goal (sym l.1)
      (⊎_elim
      (λ (early : u < e.deadline).
      omega (arith, quiet_all (T + c) u (set tasks i (charged c (Some t))) (All-set (Quiet u) tasks i (charged c (Some t)) (quiet_charged u c t (omega (arith, until))) (quiet_first e least u early))))
      (λ (late : e.deadline ≤ u). turn_late T c u tasks i t l.4 l.1 l.2 (omega (arith, few, left)) coming (omega (arith, until)) passed shared feasible)
      (cases_lt u e.deadline))

-- The turn that begin opens is given to the right task, for the right time.
use Rattle.std.proofs.Common.{◌≡◌, ℕ, zero, suc, ◌+◌, ◌-◌, ◌^◌, ◌<◌, ◌≤◌, min, Bool, true, ◌⊎◌, [], ◌∷◌, map, length, get_or, Some, None, fold, Option, refl, ap, ◌∙◌, subst, inl, inr, ⊎_elim, arith}
use Rattle.calls.specs.Answering.{turn_at}
use Rattle.controller.proofs.Changing.{there}
use Rattle.controller.proofs.Lengths.{length_some, nearest_after}
use Rattle.controller.proofs.Settles.{nearest_le}
use Rattle.controller.specs.Changing.{task_at}
use Rattle.controller.specs.Tasks.{Tasks}
use Rattle.controller.specs.Tied.{Tied}
use Rattle.controller.specs.Turns.{length_of, nearest, runs_of}
use Rattle.order.specs.Orders.{Lawful, in_range}
use Rattle.order.specs.declared.entries.Entry.{Entry}
use Rattle.promise.proofs.Good.{mirror_slotted}
use Rattle.promise.proofs.Turns.{leader, wants_held}
use Rattle.promise.specs.Promised.{Ends, Rightly, Runner, entry_for}
use Rattle.ready.proofs.First.{first_least, none_holds}
use Rattle.ready.proofs.Slots.{range_from, slot_at-some}
use Rattle.ready.specs.Held.{Least, entry_at, first_of}
use Rattle.rules.specs.Jobs.{left_of, sooner}
use Rattle.rules.specs.Tasks.{entry_of, wants_to_run}
use Rattle.rules.specs.declared.tasks.Task.{Task}
use Rattle.std.proofs.lemmas.Bool.{cases_lt, cond-true}
use Rattle.std.proofs.lemmas.Bool.Decides.{nat_tests}

-- the nearest deadline is the bound or that of a task, and none is nearer
abbrev Nearest : ℕ → Tasks → ℕ → Type 0
Nearest bound tasks time = (time ≡ bound) ⊎ ((i : ℕ) × (t : Task) × (i < length tasks) × (get_or tasks i None ≡ Some t) × (t.deadline ≡ time))

one_later : (bound : ℕ) (x : Option Task) (tasks : Tasks) (time : ℕ) → Nearest bound tasks time → Nearest bound (x ∷ tasks) time
one_later bound x tasks time (inl e) = inl e
one_later bound x tasks time (inr (i, t, lt, is, e)) = inr (suc i, t, omega arith, is, e)

nearest_some : (bound : ℕ) (tasks : Tasks) → Nearest bound tasks (fold sooner bound tasks)
nearest_some bound [] = inl refl
nearest_some bound (None ∷ tasks) = one_later bound None tasks (fold sooner bound tasks) (nearest_some bound tasks)
nearest_some bound (Some t ∷ tasks) = step (nearest_some (min bound t.deadline) tasks)
  where
    step : Nearest (min bound t.deadline) tasks (fold sooner (min bound t.deadline) tasks) → Nearest bound (Some t ∷ tasks) (fold sooner (min bound t.deadline) tasks)
    step (inl e) = ⊎_elim (λ (low : bound < t.deadline). inl (omega arith)) (λ (high : t.deadline ≤ bound). inr (0, t, omega arith, refl, omega arith)) (cases_lt bound t.deadline)
    step (inr found) = one_later bound (Some t) tasks (fold sooner (min bound t.deadline) tasks) (inr found)

nearest_under : (bound : ℕ) (tasks : Tasks) (i : ℕ) (t : Task) → i < length tasks → get_or tasks i None ≡ Some t → fold sooner bound tasks ≤ t.deadline
nearest_under bound [] i t lt is = absurd (omega arith)
nearest_under bound (None ∷ tasks) zero t lt is = absurd cc
nearest_under bound (None ∷ tasks) (suc i) t lt is = nearest_under bound tasks i t (omega arith) is
nearest_under bound (Some u ∷ tasks) zero t lt is = let least = nearest_le (min bound u.deadline) tasks in grind (arith, nat_tests)
nearest_under bound (Some u ∷ tasks) (suc i) t lt is = nearest_under (min bound u.deadline) tasks i t (omega arith) is

module _ (before : Entry → Entry → Bool) (laws : Lawful before) (T : ℕ) (tasks : Tasks) (tied : Tied T tasks (map entry_of tasks) (Unit {0})) (early : T < 2 ^ 40) where
  -- a task by its number, and by its place
  number_at : (i : ℕ) (t : Task) → i < length tasks → get_or tasks i None ≡ Some t → task_at tasks (i + 1) ≡ Some t
  number_at i t lt is = grind (arith, nat_tests)

  held_at : (number : ℕ) (t : Task) → task_at tasks number ≡ Some t → wants_to_run t ≡ true → entry_at (map entry_of tasks) t.number ≡ Some (entry_for t)
  held_at number t at want =
      let h = there T tasks (map entry_of tasks) (Unit {0}) tied number t at in
      wants_held before laws tasks (map entry_of tasks) tied.mirror (number - 1) t (omega (arith, h.low, h.high, tied.mirror.many)) h.slot want

  serves : (first : Option Entry) → Least before (map entry_of tasks) first → Runner before tasks (runs_of first)
  serves None empty = λ number t at want. none_holds (entry_for t) (rw empty at held_at number t at want)
  serves (Some e) lead =
      let l = leader before laws tasks (map entry_of tasks) tied.mirror e lead in
      let s = slot_at-some (map entry_of tasks) e.number e lead.is_held in
      record {
        task = l.0;
        is_there = cond-true (in_range e.number) (get_or tasks (e.number - 1) None) None (range_from e.number (s.0, s.1)) ∙ l.1;
        wants = l.2;
        until = ap (λ x. x.deadline) l.3;
        leads = λ other t at want apart.
            let h = there T tasks (map entry_of tasks) (Unit {0}) tied other t at in
            rw l.3 (lead.leads (entry_for t) (held_at other t at want) (λ same. apart (same ∙ h.number')));
      }

  -- a turn ends at the nearest deadline or the last tick, or before where its task has no tick left
  by_nearest : (first : Option Entry) → Ends T tasks (runs_of first) (nearest tasks)
  by_nearest first = found (nearest_some (2 ^ 40) tasks)
    where
      found : Nearest (2 ^ 40) tasks (nearest tasks) → Ends T tasks (runs_of first) (nearest tasks)
      found (inl e) = inl e
      found (inr (i, t, lt, is, e)) = inr (inl (i + 1, t, number_at i t lt is, e))

  after' : T < nearest tasks
  after' = nearest_after T tasks early tied.sound

  ends : (first : Option Entry) → Runner before tasks (runs_of first) → Ends T tasks (runs_of first) (T + length_of T tasks first)
  ends None runs = let late = after' in let same : nearest tasks ≡ T + (nearest tasks - T) = omega arith in subst (Ends T tasks (runs_of None)) same (by_nearest None)
  ends (Some e) runs =
      let h = there T tasks (map entry_of tasks) (Unit {0}) tied e.number runs.task runs.is_there in
      let left : left_of (get_or tasks (e.number - 1) None) ≡ runs.task.left = ap left_of h.slot in
      let late = after' in
      ⊎_elim
      (λ (near : nearest tasks - T < runs.task.left).
      let same : nearest tasks ≡ T + length_of T tasks (Some e) = omega arith in subst (Ends T tasks (runs_of (Some e))) same (by_nearest (Some e)))
      (λ (far : runs.task.left ≤ nearest tasks - T). inr (inr (runs.task, runs.is_there, omega arith)))
      (cases_lt (nearest tasks - T) runs.task.left)

  room : (first : Option Entry) → T + length_of T tasks first ≤ nearest tasks
  room first = let late = after' in grind (arith, nat_tests)

  no_later : (first : Option Entry) (time : ℕ) → Ends T tasks (runs_of first) time → T + length_of T tasks first ≤ time
  no_later first time (inl last) = omega (arith, room first, nearest_le (2 ^ 40) tasks)
  no_later first time (inr (inl (number, t, at, is))) =
      let h = there T tasks (map entry_of tasks) (Unit {0}) tied number t at in
      omega (arith, room first, nearest_under (2 ^ 40) tasks (number - 1) t (omega (arith, h.low, h.high, tied.mirror.many)) h.slot)
  no_later None time (inr (inr never)) = absurd never
  no_later (Some e) time (inr (inr (t, at, is))) = grind (arith, nat_tests)

  pub rightly : Rightly before T tasks (turn_at before T tasks)
  rightly =
      let held = map entry_of tasks in
      let first = first_of before held in
      let least = first_least before laws held (mirror_slotted tasks tied.mirror) in
      let runs = serves first least in
      record { starts = refl; runs = runs; lasts = length_some before T tasks held first early tied.sound tied.mirror least; ends = ends first runs; first = no_later first }

-- A task that changes or is withdrawn leaves the controller tied.
use Rattle.std.proofs.Common.{◌≡◌, ℕ, ◌+◌, ◌-◌, ◌<◌, ◌≤◌, length, get_or, set, Some, None, Ok, Option, ap, ◌∙◌, subst, arith}
use Rattle.controller.specs.Changing.{change_at, on_task, task_at}
use Rattle.controller.specs.Tasks.{InSlot, Mirrors, Tasks, rates}
use Rattle.controller.specs.Tied.{Tied}
use Rattle.ready.proofs.Slots.{slot_at-some}
use Rattle.ready.specs.Held.{Held}
use Rattle.rules.proofs.Changing.{Kept, KeptSlot, change_kept, withdrawn_kept}
use Rattle.rules.specs.Changes.{changed}
use Rattle.rules.specs.Sound.{Sound, SoundSlot}
use Rattle.rules.specs.Tasks.{rate_of}
use Rattle.rules.specs.Withdrawals.{withdrawn}
use Rattle.rules.specs.declared.changes.Change.{Change}
use Rattle.rules.specs.declared.tasks.Task.{Task}
use Rattle.std.proofs.ByRecursion.{All-get_or, All-set}
use Rattle.std.proofs.lemmas.List.Sums.{get_or-le-sum_by, sum_by-set}

-- what is known of the task that has a number
pub record There (T : ℕ) (tasks : Tasks) (number : ℕ) (t : Task) : Type 0 where
  pub low : 1 ≤ number
  pub high : number ≤ 64
  pub slot : get_or tasks (number - 1) None ≡ Some t
  pub number' : t.number ≡ number
  pub sound : Sound T t
  pub part : t.rate ≤ rates tasks

module _ (T : ℕ) (tasks : Tasks) (held : Held) (ok : Type 0) (tied : Tied T tasks held ok) (number : ℕ) (t : Task) (is : task_at tasks number ≡ Some t) where
  pub there : There T tasks number t
  there =
      let h = slot_at-some tasks number t is in
      let in' : number - 1 < length tasks = omega (arith, h.0, h.1, tied.mirror.many) in
      record {
        low = omega (arith, h.0);
        high = h.1;
        slot = h.2;
        number' = let n : t.number ≡ number - 1 + 1 = tied.mirror.placed (number - 1) t in' h.2 in omega (arith, h.0);
        sound = subst (SoundSlot T) h.2 (All-get_or (SoundSlot T) tasks (number - 1) None in' tied.sound);
        part = subst (λ x. rate_of x ≤ rates tasks) h.2 (get_or-le-sum_by rate_of tasks (number - 1) None in');
      }

  -- a slot in the place of the task's that keeps what is kept
  pub slot_tied : (new : Option Task) → KeptSlot T (rates tasks) t new → (held' : Held) (ok' : Type 0) → Mirrors (set tasks (number - 1) new) held' → ok' → Tied T (set tasks (number - 1) new) held' ok'
  slot_tied new kept held' ok' mirror memory =
      let h = there in
      let lt : number - 1 < length tasks = omega (arith, h.low, h.high, tied.mirror.many) in
      let rate : rate_of (get_or tasks (number - 1) None) ≡ t.rate = ap rate_of h.slot in
      record {
        in_time = tied.in_time;
        mirror = mirror;
        sound = All-set (SoundSlot T) tasks (number - 1) new (kept_sound new kept) tied.sound;
        shared = omega (arith, sum_by-set rate_of tasks (number - 1) new None lt, rate, kept_rate new kept, h.part);
        memory = memory;
      }
    where
      kept_sound : (x : Option Task) → KeptSlot T (rates tasks) t x → SoundSlot T x
      kept_sound None k = tt
      kept_sound (Some u) k = k.sound

      kept_rate : (x : Option Task) → KeptSlot T (rates tasks) t x → rates tasks - t.rate + rate_of x ≤ 1000
      kept_rate None k = omega (arith, tied.shared)
      kept_rate (Some u) k = k.shared

  -- a change that is accepted keeps what is kept
  pub changed_kept : (change : Change) (u : Task) → changed T (rates tasks) t change ≡ Ok u → Kept T (rates tasks) t u
  changed_kept change u got = change_kept T (rates tasks) t change u there.sound tied.shared there.part got

  -- so does a withdrawal
  pub withdrawal_kept : (slot : Option Task) → withdrawn T t ≡ Ok slot → KeptSlot T (rates tasks) t slot
  withdrawal_kept slot got = withdrawn_kept T (rates tasks) t slot there.sound tied.shared there.part got

  -- where the new slot goes
  pub in_place : (new : Option Task) → KeptSlot T (rates tasks) t new → (number - 1 < 64) × InSlot (number - 1) new
  in_place None kept = let h = there in (omega (arith, h.low, h.high), tt)
  in_place (Some u) kept = let h = there in let same : u.number ≡ number = kept.number ∙ h.number' in (omega (arith, h.low, h.high), omega (arith, h.low))

  pub same_place : (u : Task) → Kept T (rates tasks) t u → number - 1 ≡ u.number - 1
  same_place u kept = let h = there in let same : u.number ≡ number = kept.number ∙ h.number' in omega arith

  -- the outcome, by the task's number
  pub outcome : (change : Change) (u : Task) → changed T (rates tasks) t change ≡ Ok u → change_at T tasks number change ≡ Ok u
  outcome change u got = ap (λ o. on_task o (λ v. changed T (rates tasks) v change)) is ∙ got

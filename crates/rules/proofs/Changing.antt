-- A change keeps a task sound, its number, and the rates within the processor.
use Rattle.std.proofs.Common.{◌≡◌, ℕ, ◌+◌, ◌-◌, ◌*◌, ◌<◌, ◌≤◌, Some, None, Ok, Option, ap, add-mul, mul-add, arith, rules}
use Rattle.rules.specs.Changes.{advanced_by, becomes, changed, deadline_at, lowered_by, moved_by, why_not_period, why_not_changed, why_not_rate, with_period, with_rate}
use Rattle.rules.specs.Refusals.{unless}
use Rattle.rules.specs.Sound.{Sound}
use Rattle.rules.specs.Withdrawals.{marked, withdrawn}
use Rattle.rules.specs.declared.changes.Change.{Change}
use Rattle.rules.specs.declared.changes.Change.TheVariants.{Finish as finish, Period as to_period, Rate as to_rate, Wait as wait, Wake as wake}
use Rattle.rules.specs.declared.phases.Event.{Event}
use Rattle.rules.specs.declared.tasks.Task.{Task}
use Rattle.std.proofs.lemmas.Bool.Decides.{nat_tests}

pub record Kept (T rates : ℕ) (t u : Task) : Type 0 where
  pub sound : Sound T u
  pub number : u.number ≡ t.number
  pub shared : rates - t.rate + u.rate ≤ 1000

-- the same of a slot that takes the place of a task's
abbrev pub KeptSlot : ℕ → ℕ → Task → Option Task → Type 0
KeptSlot T rates t None = Unit {0}
KeptSlot T rates t (Some u) = Kept T rates t u

-- what nothing speaks against
pub record RateFits (T rates : ℕ) (t : Task) (rate : ℕ) : Type 0 where
  pub low : 1 ≤ rate
  pub high : rate ≤ 1000
  pub worth : 1000 ≤ rate * t.period
  pub shared : rates - t.rate + rate ≤ 1000
  pub enough : lowered_by T t rate ≤ t.left

pub rate_fits : (T rates : ℕ) (t : Task) (rate : ℕ) → why_not_rate T rates t rate ≡ None → RateFits T rates t rate
rate_fits T rates t rate is = grind (arith, nat_tests)

rate_kept : (T rates : ℕ) (t : Task) (rate : ℕ) → Sound T t → RateFits T rates t rate → Kept T rates t (with_rate T t rate)
rate_kept T rates t rate s f =
    let R = t.rate in
    let span = t.deadline - T in
    let sums : rate + (R - rate) ≡ R + (rate - R) = omega arith in
    let products = simp add-mul at (ap (λ n. n * span) sums) in
    search rules

pub record PeriodFits (T : ℕ) (t : Task) (period : ℕ) : Type 0 where
  pub low : 1 ≤ period
  pub high : period ≤ 1000000
  pub worth : 1000 ≤ t.rate * period
  pub after : T < deadline_at t period
  pub enough : advanced_by t (deadline_at t period) ≤ t.left

pub period_fits : (T : ℕ) (t : Task) (period : ℕ) → why_not_period T t period ≡ None → PeriodFits T t period
period_fits T t period is = grind (arith, nat_tests)

period_kept : (T rates : ℕ) (t : Task) (period : ℕ) → Sound T t → rates ≤ 1000 → t.rate ≤ rates → PeriodFits T t period → Kept T rates t (with_period t period)
period_kept T rates t period s few part f =
    let R = t.rate in
    let D = t.deadline in
    let E = deadline_at t period in
    let spans : (E - T) + (D - E) ≡ (D - T) + (E - D) = omega arith in
    let products = simp mul-add at (ap (λ n. R * n) spans) in
    search rules

-- fewer ticks left, and another phase
moved_kept : (T rates : ℕ) (t : Task) (event : Event) (left : ℕ) → Sound T t → rates ≤ 1000 → t.rate ≤ rates → left ≤ t.left → Kept T rates t (moved_by event left t)
moved_kept T rates t event left s few part less = search rules

pub change_kept : (T rates : ℕ) (t : Task) (change : Change) (u : Task) → Sound T t → rates ≤ 1000 → t.rate ≤ rates → changed T rates t change ≡ Ok u → Kept T rates t u
change_kept T rates t (to_rate rate) u s few part is = grind (arith, rate_kept, rate_fits)
change_kept T rates t (to_period period) u s few part is = grind (arith, period_kept, period_fits)
change_kept T rates t wait u s few part is = grind (arith, moved_kept)
change_kept T rates t wake u s few part is = grind (arith, moved_kept)
change_kept T rates t finish u s few part is = grind (arith, moved_kept)

-- a change by why it may not be and by what the task becomes
pub changed_split : (T rates : ℕ) (t : Task) (change : Change) → changed T rates t change ≡ unless (why_not_changed T rates t change) (becomes T t change)
changed_split T rates t change = grind arith

-- a task that is marked as leaving keeps its numbers
marked_kept : (T rates : ℕ) (t : Task) → Sound T t → rates ≤ 1000 → t.rate ≤ rates → Kept T rates t (marked t)
marked_kept T rates t s few part = search rules

pub withdrawn_kept : (T rates : ℕ) (t : Task) (slot : Option Task) → Sound T t → rates ≤ 1000 → t.rate ≤ rates → withdrawn T t ≡ Ok slot → KeptSlot T rates t slot
withdrawn_kept T rates t slot s few part is = grind (arith, marked_kept)

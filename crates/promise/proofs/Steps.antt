-- Each change of one task makes nothing worse.
use Rattle.std.proofs.Common.{◌≡◌, ℕ, ◌+◌, ◌-◌, ◌*◌, ◌<◌, ◌≤◌, true, false, length, get_or, set, Some, None, Option, ⊎_elim, mul-le-mul_right, mul-le-mul_left, mul-add, arith}
use Rattle.controller.specs.Tasks.{Tasks}
use Rattle.promise.specs.Feasible.{Feasible, NoWorse, owed, spare}
use Rattle.rules.proofs.Changing.{PeriodFits, RateFits}
use Rattle.rules.specs.Admission.{admitted}
use Rattle.rules.specs.Changes.{deadline_at, may_lower, moved_by, share, with_period, with_rate}
use Rattle.rules.specs.Phases.{stepped}
use Rattle.rules.specs.Sound.{Sound}
use Rattle.rules.specs.declared.admission.Reservation.{Reservation}
use Rattle.rules.specs.Tasks.{is_ready}
use Rattle.rules.specs.declared.phases.Event.{Event}
use Rattle.rules.specs.declared.tasks.Task.{Task}
use Rattle.std.proofs.lemmas.List.Sums.{sum_by-set}
use Rattle.std.proofs.lemmas.Bool.{cases_Bool, cases_lt}
use Rattle.std.proofs.lemmas.Bool.Decides.{nat_tests}

-- equal sums, taken so many times
pub same_times : (n a b c d : ℕ) → a + b ≡ c + d → n * a + n * b ≡ n * c + n * d
same_times n a b c d sums = rw (← mul-add n a b, sums, mul-add n c d)

-- a slot that is no worse than another may stand in its place
pub replaced : (T : ℕ) (tasks : Tasks) (i : ℕ) (new : Option Task) → i < length tasks → NoWorse T (get_or tasks i None) new → Feasible T tasks → Feasible T (set tasks i new)
replaced T tasks i new lt step feasible u le =
    omega (arith, feasible u le, step u le, sum_by-set (owed T u) tasks i new None lt, sum_by-set (spare T u) tasks i new None lt)

-- a new task is neither behind nor ahead
pub admit_no_worse : (T : ℕ) (asked : Reservation) → NoWorse T None (Some (admitted T asked))
admit_no_worse T asked u le = grind (arith, nat_tests)

-- a rate that fits, lowered only where that is allowed
pub rate_no_worse : (T rates : ℕ) (t : Task) (rate : ℕ) → Sound T t → RateFits T rates t rate → (rate < t.rate → may_lower T t ≡ true) → NoWorse T (Some t) (Some (with_rate T t rate))
rate_no_worse T rates t rate s f allowed u le =
    let products = same_times (t.deadline - T) rate (t.rate - rate) t.rate (rate - t.rate) (omega arith) in
    ⊎_elim
    (λ (low : rate < t.rate). let may = allowed low in grind (arith, nat_tests))
    (λ (high : t.rate ≤ rate). let cap : t.rate * (u - T) ≤ rate * (u - T) = mul-le-mul_right (u - T) high in grind (arith, nat_tests))
    (cases_lt rate t.rate)

-- a period that fits, shorter only where the job is not behind
pub period_no_worse : (T : ℕ) (t : Task) (period : ℕ) → Sound T t → PeriodFits T t period → (deadline_at t period < t.deadline → 1000 * t.left ≤ share T t) → NoWorse T (Some t) (Some (with_period t period))
period_no_worse T t period s f allowed u le =
    let R = t.rate in
    let D = t.deadline in
    let E = deadline_at t period in
    let products = same_times R (E - T) (D - E) (D - T) (E - D) (omega (arith, s.coming, f.after)) in
    ⊎_elim
    (λ (early : E < D). let may = allowed early in grind (arith, nat_tests))
    (λ (late : D ≤ E). ⊎_elim
    (λ (before : u < D). grind (arith, nat_tests))
    (λ (after : D ≤ u). let cap : R * (D - T) ≤ R * (u - T) = mul-le-mul_left R (omega arith) in grind (arith, nat_tests))
    (cases_lt u D))
    (cases_lt E D)

-- fewer ticks left, and not behind after it: a task that waits, wakes or finishes, and in general
pub moved_no_worse : (T : ℕ) (t : Task) (event : Event) (left : ℕ) → left ≤ t.left → (is_ready (stepped t.phase event) ≡ true → 1000 * left ≤ share T t) → NoWorse T (Some t) (Some (moved_by event left t))
moved_no_worse T t event left less even u le =
    ⊎_elim
    (λ (ready : is_ready (stepped t.phase event) ≡ true). let few = even ready in grind (arith, nat_tests))
    (λ (not' : is_ready (stepped t.phase event) ≡ false). grind (arith, nat_tests))
    (cases_Bool (is_ready (stepped t.phase event)))

-- a task that may be lowered may go at once, whatever its phase
pub gone_no_worse : (T : ℕ) (t : Task) → may_lower T t ≡ true → NoWorse T (Some t) None
gone_no_worse T t may u le = grind (arith, nat_tests)

-- A sound task while time passes: no later than its deadline it is sound but for that, and a deadline that has come makes it sound again.
use Rattle.std.proofs.Common.{◌≡◌, ℕ, ◌+◌, ◌-◌, ◌*◌, ◌≤◌, Some, ap, mul-le-mul_right, mul-add, arith, rules}
use Rattle.rules.specs.Jobs.{charged, due_at, next_job}
use Rattle.rules.specs.Sound.{Sound, SoundSlot}
use Rattle.rules.specs.declared.tasks.Task.{Task}

-- as a sound task, but the deadline may have come
pub record Passed (T : ℕ) (t : Task) : Type 0 where
  pub rate_low : 1 ≤ t.rate
  pub rate_high : t.rate ≤ 1000
  pub period_low : 1 ≤ t.period
  pub period_high : t.period ≤ 1000000
  pub worth : 1000 ≤ t.rate * t.period
  pub begun : t.release ≤ T
  pub coming : T ≤ t.deadline
  pub spans : t.deadline ≡ t.release + t.period
  pub bounded : 1000 * (t.left + t.ran) ≤ 1000 * (T - t.release) + t.rate * (t.deadline - T)

-- time passes up to the deadline
pub passes : (T c : ℕ) (t : Task) → Sound T t → T + c ≤ t.deadline → Passed (T + c) t
passes T c t s le =
    let split : t.deadline - T ≡ (t.deadline - (T + c)) + c = omega arith in
    let product = simp mul-add at (ap (λ n. t.rate * n) split) in
    let most : t.rate * c ≤ 1000 * c = mul-le-mul_right c s.rate_high in
    search rules

-- a deadline that has come is dealt with
pub due_sound : (T : ℕ) (t : Task) → Passed T t → SoundSlot T (due_at T (Some t))
due_sound T t p = grind (arith, next)
  where
    next : t.deadline ≡ T → Sound T (next_job t)
    next now' =
        let span : (t.deadline + t.period) - T ≡ t.period = omega arith in
        let product : t.rate * ((t.deadline + t.period) - T) ≡ t.rate * t.period = ap (λ n. t.rate * n) span in
        search rules

-- the ticks that a task has run, moved from those it had left
pub charged_passed : (T c : ℕ) (t u : Task) → charged c (Some t) ≡ Some u → c ≤ t.left → Passed T t → Passed T u
charged_passed T c t u is le p = grind (arith, rules)

-- a sound task's ticks are no more than its period
pub few_ticks : (T : ℕ) (t : Task) → Sound T t → t.left + t.ran ≤ t.period
few_ticks T t s =
    let most : t.rate * (t.deadline - T) ≤ 1000 * (t.deadline - T) = mul-le-mul_right (t.deadline - T) s.rate_high in
    omega arith

-- What is kept of every task between calls, at the clock T.
use Rattle.std.specs.Prelude.{◌≡◌, ℕ, ◌+◌, ◌-◌, ◌*◌, ◌<◌, ◌≤◌, Some, None, Option}
use Rattle.rules.specs.declared.tasks.Task.{Task}

pub record Sound (T : ℕ) (t : Task) : Type 0 where
  -- rate and period are in range, and a job has a tick at least
  pub rate_low : 1 ≤ t.rate
  pub rate_high : t.rate ≤ 1000
  pub period_low : 1 ≤ t.period
  pub period_high : t.period ≤ 1000000
  pub worth : 1000 ≤ t.rate * t.period
  -- the current job was released, and its deadline has not come
  pub begun : t.release ≤ T
  pub coming : T < t.deadline
  pub spans : t.deadline ≡ t.release + t.period
  -- what a job is still to get and has run is at most the time since its release and its rate until its deadline: this keeps every sum in range
  pub bounded : 1000 * (t.left + t.ran) ≤ 1000 * (T - t.release) + t.rate * (t.deadline - T)

abbrev pub SoundSlot : ℕ → Option Task → Type 0
SoundSlot T None = Unit {0}
SoundSlot T (Some t) = Sound T t

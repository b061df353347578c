-- A task's jobs.
use Rattle.std.specs.Prelude.{ℕ, ◌+◌, ◌-◌, ◌*◌, ◌/◌, ◌^◌, ◌<◌, ◌≤◌, min, cond, Some, None, Option, ◌==◌}
use Rattle.rules.specs.Phases.{stepped}
use Rattle.rules.specs.declared.phases.Event.TheVariants.{Deadline}
use Rattle.rules.specs.declared.tasks.Task.{Task}

-- the ticks of a job: rate × period in thousandths, rounded down
abbrev pub grant : ℕ → ℕ → ℕ
grant rate period = rate * period / 1000

-- the job after the current one: released at its deadline, for one more period
abbrev pub next_job : Task → Task
next_job t =
    record {
      number = t.number;
      rate = t.rate;
      period = t.period;
      phase = stepped t.phase Deadline;
      leaving = t.leaving;
      release = t.deadline;
      deadline = t.deadline + t.period;
      left = grant t.rate t.period;
      ran = 0;
    }

-- at its deadline a leaving task goes, and any other gets its next job
abbrev pub after_deadline : Task → Option Task
after_deadline t = cond t.leaving None (Some (next_job t))

-- a slot when the clock has come to T
abbrev pub due_at : ℕ → Option Task → Option Task
due_at T None = None
due_at T (Some t) = cond (t.deadline == T) (after_deadline t) (Some t)

-- the ticks that a slot's task has left
abbrev pub left_of : Option Task → ℕ
left_of None = 0
left_of (Some t) = t.left

-- the sooner of a time and a slot's deadline
abbrev pub sooner : ℕ → Option Task → ℕ
sooner T None = T
sooner T (Some t) = min T t.deadline

-- a task may be charged ticks that it has left; what it has run stays in range
abbrev pub Chargeable : ℕ → Option Task → Type 0
Chargeable c None = Unit {0}
Chargeable c (Some t) = (c ≤ t.left) × (t.left + t.ran < 2 ^ 64)

-- a slot whose task has run c ticks
abbrev pub charged : ℕ → Option Task → Option Task
charged c None = None
charged c (Some t) =
    Some (record {
      number = t.number;
      rate = t.rate;
      period = t.period;
      phase = t.phase;
      leaving = t.leaving;
      release = t.release;
      deadline = t.deadline;
      left = t.left - c;
      ran = t.ran + c;
    })

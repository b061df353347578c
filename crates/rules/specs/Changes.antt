-- Changes of one task under way, at the clock T. For each: why it may not be (the first reason that holds), and what the task becomes.
use Rattle.std.specs.Prelude.{ℕ, ◌+◌, ◌-◌, ◌*◌, ◌/◌, min, Bool, cond, not, ◌&&◌, ◌||◌, Some, None, Option, Result, ◌==◌, nat_le, nat_lt}
use Rattle.rules.specs.Admission.{within}
use Rattle.rules.specs.Phases.{stepped}
use Rattle.rules.specs.Refusals.{unless}
use Rattle.rules.specs.Tasks.{is_ready}
use Rattle.rules.specs.declared.changes.Change.{Change}
use Rattle.rules.specs.declared.changes.Change.TheVariants.{Finish as finish, Period as to_period, Rate as to_rate, Wait as wait, Wake as wake}
use Rattle.rules.specs.declared.phases.Event.{Event}
use Rattle.rules.specs.declared.phases.Event.TheVariants.{Finish, Wait, Wake}
use Rattle.rules.specs.declared.phases.Phase.{Phase}
use Rattle.rules.specs.declared.refusals.Refusal.{Refusal}
use Rattle.rules.specs.declared.refusals.Refusal.TheVariants.{AheadOfRate, BehindRate, JobTooSmall, NotReady, NotWaiting, PeriodOutOfRange, RateOutOfRange, RatesExceeded, TooFewTicks}
use Rattle.rules.specs.declared.tasks.Task.{Task}

-- thousandths as whole ticks
abbrev pub rounded_down : ℕ → ℕ
rounded_down n = n / 1000

abbrev pub rounded_up : ℕ → ℕ
rounded_up n = (n + 999) / 1000

-- rate and period change only while the task is ready and not leaving
abbrev pub changeable : Task → Bool
changeable t = is_ready t.phase && not t.leaving

-- what the rate gives until the deadline, in thousandths
abbrev pub share : ℕ → Task → ℕ
share T t = t.rate * (t.deadline - T)

-- a job that has run no tick, or is not ahead of its rate, may be lowered
abbrev pub may_lower : ℕ → Task → Bool
may_lower T t = t.ran == 0 || nat_le (share T t) (1000 * t.left)

-- ticks gained by a higher rate, and lost by a lower one, until the deadline
abbrev pub raised_by : ℕ → Task → ℕ → ℕ
raised_by T t rate = rounded_down ((rate - t.rate) * (t.deadline - T))

abbrev pub lowered_by : ℕ → Task → ℕ → ℕ
lowered_by T t rate = rounded_up ((t.rate - rate) * (t.deadline - T))

-- `rates` are those of all tasks, this one included
abbrev pub why_not_rate : ℕ → ℕ → Task → ℕ → Option Refusal
why_not_rate T rates t rate =
    cond (not (changeable t)) (Some NotReady)
    (cond (not (within 1 1000 rate)) (Some RateOutOfRange)
    (cond (nat_lt (rate * t.period) 1000) (Some JobTooSmall)
    (cond (nat_lt 1000 (rates - t.rate + rate)) (Some RatesExceeded)
    (cond (nat_lt rate t.rate && not (may_lower T t)) (Some AheadOfRate)
    (cond (nat_lt t.left (lowered_by T t rate)) (Some TooFewTicks)
    None)))))

abbrev pub with_rate : ℕ → Task → ℕ → Task
with_rate T t rate =
    record {
      number = t.number;
      rate = rate;
      period = t.period;
      phase = t.phase;
      leaving = t.leaving;
      release = t.release;
      deadline = t.deadline;
      left = t.left + raised_by T t rate - lowered_by T t rate;
      ran = t.ran;
    }

-- ticks gained by a later deadline E, and lost by an earlier one
abbrev pub postponed_by : Task → ℕ → ℕ
postponed_by t E = rounded_down (t.rate * (E - t.deadline))

abbrev pub advanced_by : Task → ℕ → ℕ
advanced_by t E = rounded_up (t.rate * (t.deadline - E))

-- the deadline that a period gives the current job
abbrev pub deadline_at : Task → ℕ → ℕ
deadline_at t period = t.release + period

abbrev pub why_not_period : ℕ → Task → ℕ → Option Refusal
why_not_period T t period =
    cond (not (changeable t)) (Some NotReady)
    (cond (not (within 1 1000000 period)) (Some PeriodOutOfRange)
    (cond (nat_lt (t.rate * period) 1000) (Some JobTooSmall)
    (cond (nat_lt (deadline_at t period) t.deadline && nat_lt (share T t) (1000 * t.left)) (Some BehindRate)
    (cond (nat_le (deadline_at t period) T || nat_lt t.left (advanced_by t (deadline_at t period))) (Some TooFewTicks)
    None))))

abbrev pub with_period : Task → ℕ → Task
with_period t period =
    record {
      number = t.number;
      rate = t.rate;
      period = period;
      phase = t.phase;
      leaving = t.leaving;
      release = t.release;
      deadline = deadline_at t period;
      left = t.left + postponed_by t (deadline_at t period) - advanced_by t (deadline_at t period);
      ran = t.ran;
    }

-- wait and finish are for a ready task, wake for a waiting one
abbrev pub why_not_ready : Task → Option Refusal
why_not_ready t = cond (is_ready t.phase) None (Some NotReady)

abbrev pub is_waiting : Phase → Bool
is_waiting phase = not (is_ready phase) && is_ready (stepped phase Wake)

abbrev pub why_not_wake : Task → Option Refusal
why_not_wake t = cond (is_waiting t.phase) None (Some NotWaiting)

-- a task after an event, with other ticks left
abbrev pub moved_by : Event → ℕ → Task → Task
moved_by event left t =
    record {
      number = t.number;
      rate = t.rate;
      period = t.period;
      phase = stepped t.phase event;
      leaving = t.leaving;
      release = t.release;
      deadline = t.deadline;
      left = left;
      ran = t.ran;
    }

-- a task that wakes keeps no more than its rate gives until the deadline; one that finishes keeps nothing
abbrev pub woken : ℕ → Task → Task
woken T t = moved_by Wake (min t.left (rounded_down (share T t))) t

-- why a change may not be, and what the task becomes by it
abbrev pub why_not_changed : ℕ → ℕ → Task → Change → Option Refusal
why_not_changed T rates t (to_rate rate) = why_not_rate T rates t rate
why_not_changed T rates t (to_period period) = why_not_period T t period
why_not_changed T rates t wait = why_not_ready t
why_not_changed T rates t wake = why_not_wake t
why_not_changed T rates t finish = why_not_ready t

abbrev pub becomes : ℕ → Task → Change → Task
becomes T t (to_rate rate) = with_rate T t rate
becomes T t (to_period period) = with_period t period
becomes T t wait = moved_by Wait t.left t
becomes T t wake = woken T t
becomes T t finish = moved_by Finish 0 t

-- what comes of a change
abbrev pub changed : ℕ → ℕ → Task → Change → Result Task Refusal
changed T rates t (to_rate rate) = unless (why_not_rate T rates t rate) (with_rate T t rate)
changed T rates t (to_period period) = unless (why_not_period T t period) (with_period t period)
changed T rates t wait = unless (why_not_ready t) (moved_by Wait t.left t)
changed T rates t wake = unless (why_not_wake t) (woken T t)
changed T rates t finish = unless (why_not_ready t) (moved_by Finish 0 t)

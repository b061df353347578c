-- Admission of a task.
use Rattle.std.specs.Prelude.{ℕ, ◌+◌, ◌*◌, Bool, false, cond, not, ◌&&◌, Some, None, Option, Result, nat_le, nat_lt}
use Rattle.order.specs.Orders.{in_range}
use Rattle.rules.specs.Jobs.{grant}
use Rattle.rules.specs.Refusals.{unless}
use Rattle.rules.specs.declared.admission.Reservation.{Reservation}
use Rattle.rules.specs.declared.phases.Phase.TheVariants.{Ready}
use Rattle.rules.specs.declared.refusals.Refusal.{Refusal}
use Rattle.rules.specs.declared.refusals.Refusal.TheVariants.{NoSuchTask, NumberTaken, RateOutOfRange, PeriodOutOfRange, JobTooSmall, RatesExceeded}
use Rattle.rules.specs.declared.tasks.Task.{Task}

abbrev pub within : ℕ → ℕ → ℕ → Bool
within low high n = nat_le low n && nat_le n high

-- why a task may not be admitted: the first of these that holds
abbrev pub why_not_admitted : Bool → ℕ → Reservation → Option Refusal
why_not_admitted taken rates asked =
    cond (not (in_range asked.number)) (Some NoSuchTask)
    (cond taken (Some NumberTaken)
    (cond (not (within 1 1000 asked.rate)) (Some RateOutOfRange)
    (cond (not (within 1 1000000 asked.period)) (Some PeriodOutOfRange)
    (cond (nat_lt (asked.rate * asked.period) 1000) (Some JobTooSmall)
    (cond (nat_lt 1000 (rates + asked.rate)) (Some RatesExceeded)
    None)))))

-- a task admitted at T, its first job released then
abbrev pub admitted : ℕ → Reservation → Task
admitted T asked =
    record {
      number = asked.number;
      rate = asked.rate;
      period = asked.period;
      phase = Ready;
      leaving = false;
      release = T;
      deadline = T + asked.period;
      left = grant asked.rate asked.period;
      ran = 0;
    }

abbrev pub admission : ℕ → Bool → ℕ → Reservation → Result Task Refusal
admission T taken rates asked = unless (why_not_admitted taken rates asked) (admitted T asked)

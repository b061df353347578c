-- Withdrawal of a task at the clock T: why it may not be, and what its slot becomes.
use Rattle.std.specs.Prelude.{ℕ, Bool, true, cond, ◌&&◌, Some, None, Option, Result}
use Rattle.rules.specs.Changes.{may_lower}
use Rattle.rules.specs.Refusals.{unless}
use Rattle.rules.specs.Tasks.{is_ready}
use Rattle.rules.specs.declared.refusals.Refusal.{Refusal}
use Rattle.rules.specs.declared.refusals.Refusal.TheVariants.{NotReady}
use Rattle.rules.specs.declared.tasks.Task.{Task}
use Rattle.rules.specs.declared.withdrawals.Departure.{Departure}
use Rattle.rules.specs.declared.withdrawals.Departure.TheVariants.{AtOnce, AtDeadline}

-- a task is withdrawn once
abbrev pub why_not_withdrawn : Task → Option Refusal
why_not_withdrawn t = cond t.leaving (Some NotReady) None

-- a ready task goes at once where its rate might be lowered; any other goes at its deadline
abbrev pub goes_at_once : ℕ → Task → Bool
goes_at_once T t = is_ready t.phase && may_lower T t

-- a task that goes at its deadline
abbrev pub marked : Task → Task
marked t =
    record {
      number = t.number;
      rate = t.rate;
      period = t.period;
      phase = t.phase;
      leaving = true;
      release = t.release;
      deadline = t.deadline;
      left = t.left;
      ran = t.ran;
    }

-- the slot of a task that is withdrawn
abbrev pub withdrawn_slot : ℕ → Task → Option Task
withdrawn_slot T t = cond (goes_at_once T t) None (Some (marked t))

-- the slot, or the reason why not
abbrev pub withdrawn : ℕ → Task → Result (Option Task) Refusal
withdrawn T t = unless (why_not_withdrawn t) (withdrawn_slot T t)

-- when the task of a withdrawn slot goes
abbrev pub departure_of : Option Task → Departure
departure_of None = AtOnce
departure_of (Some t) = AtDeadline t.deadline

-- What a turn of a rehearsal does, and what its line says.
use Rattle.std.specs.Prelude.{ℕ, ◌+◌, ◌^◌, Bool, cond, map, Ok, Err, ◌==◌, nat_lt}
use Rattle.controller.specs.Settling.{settled_tasks}
use Rattle.controller.specs.Tasks.{Tasks}
use Rattle.controller.specs.Turns.{begun}
use Rattle.controller.specs.declared.states.Turn.{Turn}
use Rattle.order.specs.declared.entries.Entry.{Entry}
use Rattle.ready.specs.Held.{first_of}
use Rattle.rehearsal.specs.Lines.{Outcome}
use Rattle.rehearsal.specs.declared.lines.Accepted.TheVariants.{Ran}
use Rattle.rehearsal.specs.declared.lines.Refused.TheVariants.{ByRule}
use Rattle.rules.specs.Tasks.{entry_of}
use Rattle.rules.specs.declared.refusals.Refusal.TheVariants.{ClockAtEnd, CountTooHigh}

-- where a call leaves the clock and the tasks, and what its line says
pub record Done : Type 0 where
  pub clock : ℕ
  pub tasks : Tasks
  pub outcome : Outcome

abbrev pub done_by : ℕ → Tasks → Outcome → Done
done_by T tasks outcome = record { clock = T; tasks = tasks; outcome = outcome }

-- the turn that the tasks ask for at T
abbrev pub turn_at : (Entry → Entry → Bool) → ℕ → Tasks → Turn
turn_at before T tasks = begun T tasks (first_of before (map entry_of tasks))

-- a count above the turn's length is refused, and the turn settled with 0, which changes nothing
abbrev pub turned_by : Turn → Tasks → ℕ → Done
turned_by turn tasks count =
    cond (nat_lt turn.length count) (record { clock = turn.start; tasks = tasks; outcome = Err (ByRule CountTooHigh) })
    (record { clock = turn.start + count; tasks = settled_tasks turn count tasks; outcome = Ok (Ran turn.runs) })

abbrev pub turned : (Entry → Entry → Bool) → ℕ → Tasks → ℕ → Done
turned before T tasks count =
    cond (T == 2 ^ 40) (record { clock = T; tasks = tasks; outcome = Err (ByRule ClockAtEnd) }) (turned_by (turn_at before T tasks) tasks count)

-- Turns: what begin opens.
use Rattle.std.specs.Prelude.{ℕ, ◌-◌, ◌^◌, min, cond, Some, None, Ok, Err, fold, Option, Result, ◌==◌, slice_index_or}
use Rattle.controller.specs.Tasks.{Tasks}
use Rattle.controller.specs.declared.states.Runs.{Runs}
use Rattle.controller.specs.declared.states.Runs.TheVariants.{Task, Idle}
use Rattle.controller.specs.declared.states.Turn.{Turn}
use Rattle.order.specs.declared.entries.Entry.{Entry}
use Rattle.rules.specs.Jobs.{left_of, sooner}
use Rattle.rules.specs.declared.refusals.Refusal.{Refusal}
use Rattle.rules.specs.declared.refusals.Refusal.TheVariants.{ClockAtEnd}

-- the nearest deadline of any task, or the last tick where that is sooner
abbrev pub nearest : Tasks → ℕ
nearest tasks = fold sooner (2 ^ 40) tasks

-- the list's first entry has the processor; without one it is idle
abbrev pub runs_of : Option Entry → Runs
runs_of None = Idle
runs_of (Some e) = Task e.number e.deadline

-- the least of the task's ticks left, the nearest deadline less the clock, and the last tick less the clock
abbrev pub length_of : ℕ → Tasks → Option Entry → ℕ
length_of T tasks None = nearest tasks - T
length_of T tasks (Some e) = min (left_of (slice_index_or tasks (e.number - 1) None)) (nearest tasks - T)

-- the turn that begins at T
abbrev pub begun : ℕ → Tasks → Option Entry → Turn
begun T tasks first = record { start = T; length = length_of T tasks first; runs = runs_of first }

-- begin's answer: the open turn, or the controller back where the clock has come to its last tick
abbrev pub beginning : ℕ → Tasks → Option Entry → Result Turn (ℕ × Refusal)
beginning T tasks first = cond (T == 2 ^ 40) (Err (T, ClockAtEnd)) (Ok (begun T tasks first))

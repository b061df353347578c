-- What a controller answers to each call, and where it then stands. Every answer is that of the single call's contract.
use Rattle.std.specs.Prelude.{ℕ, ◌+◌, ◌^◌, Bool, cond, List, [], ◌∷◌, map, Some, None, Ok, Err, fold, Option, Result, ◌==◌, nat_lt}
use Rattle.calls.specs.Asking.{Asked, admit, begin, change, make, settle, withdraw}
use Rattle.calls.specs.declared.exchanges.Denial.{Denial}
use Rattle.calls.specs.declared.exchanges.Denial.TheVariants.{Faulty, OutOfPlace, Refused}
use Rattle.calls.specs.declared.exchanges.Reply.{Reply}
use Rattle.calls.specs.declared.exchanges.Reply.TheVariants.{Done, Made, Opened, Settled, Withdrawn}
use Rattle.controller.specs.Admitting.{accepted, admission_to, with_task}
use Rattle.controller.specs.Changing.{change_at}
use Rattle.controller.specs.Making.{made, made_tasks, make_answer}
use Rattle.controller.specs.Settling.{settled_tasks}
use Rattle.controller.specs.Tasks.{Tasks, no_tasks}
use Rattle.controller.specs.Turns.{begun}
use Rattle.controller.specs.Withdrawing.{departing, with_slot, withdrawal_at}
use Rattle.controller.specs.declared.states.Turn.{Turn}
use Rattle.order.specs.declared.entries.Entry.{Entry}
use Rattle.ready.specs.Held.{first_of}
use Rattle.rules.specs.Tasks.{entry_of}
use Rattle.rules.specs.declared.refusals.Refusal.TheVariants.{ClockAtEnd, CountTooHigh}
use Rattle.std.specs.Result.{result_map_both}

-- where a controller stands: its clock, its tasks, and the turn that is open, if one is
pub record State : Type 0 where
  pub clock : ℕ
  pub tasks : Tasks
  pub turn : Option Turn

abbrev pub at_rest : ℕ → Tasks → State
at_rest T tasks = record { clock = T; tasks = tasks; turn = None }

abbrev pub in_turn : Turn → Tasks → State
in_turn turn tasks = record { clock = turn.start; tasks = tasks; turn = Some turn }

-- no task, at the clock 0
abbrev pub start : State
start = at_rest 0 no_tasks

-- what a call has done, or why it was denied
abbrev pub Answer : Type 0
Answer = Result Reply Denial

-- the turn that the tasks ask for at T
abbrev pub turn_at : (Entry → Entry → Bool) → ℕ → Tasks → Turn
turn_at before T tasks = begun T tasks (first_of before (map entry_of tasks))

-- at rest every call is in its place but settle
abbrev pub rest_answer : (Entry → Entry → Bool) → ℕ → Tasks → Asked → Answer
rest_answer before T tasks (make sheet) = result_map_both Made Faulty (make_answer (made sheet))
rest_answer before T tasks (admit asked) = result_map_both (λ done. Done) Refused (accepted (admission_to T tasks asked))
rest_answer before T tasks (change number how) = result_map_both (λ done. Done) Refused (accepted (change_at T tasks number how))
rest_answer before T tasks (withdraw number) = result_map_both Withdrawn Refused (departing (withdrawal_at T tasks number))
rest_answer before T tasks begin = cond (T == 2 ^ 40) (Err (Refused ClockAtEnd)) (Ok (Opened (turn_at before T tasks)))
rest_answer before T tasks (settle count) = Err OutOfPlace

abbrev pub rest_next : (Entry → Entry → Bool) → ℕ → Tasks → Asked → State
rest_next before T tasks (make sheet) = at_rest 0 (made_tasks (made sheet))
rest_next before T tasks (admit asked) = at_rest T (with_task (admission_to T tasks asked) tasks)
rest_next before T tasks (change number how) = at_rest T (with_task (change_at T tasks number how) tasks)
rest_next before T tasks (withdraw number) = at_rest T (with_slot number (withdrawal_at T tasks number) tasks)
rest_next before T tasks begin = cond (T == 2 ^ 40) (at_rest T tasks) (in_turn (turn_at before T tasks) tasks)
rest_next before T tasks (settle count) = at_rest T tasks

-- in an open turn only settle is
abbrev pub turn_answer : Turn → Asked → Answer
turn_answer turn (settle count) = cond (nat_lt turn.length count) (Err (Refused CountTooHigh)) (Ok (Settled (turn.start + count)))
turn_answer turn asked = Err OutOfPlace

abbrev pub turn_next : Turn → Tasks → Asked → State
turn_next turn tasks (settle count) = cond (nat_lt turn.length count) (in_turn turn tasks) (at_rest (turn.start + count) (settled_tasks turn count tasks))
turn_next turn tasks asked = in_turn turn tasks

-- the answer to a call, and the state after it
abbrev pub answer_in : (Entry → Entry → Bool) → ℕ → Tasks → Option Turn → Asked → Answer
answer_in before T tasks None asked = rest_answer before T tasks asked
answer_in before T tasks (Some turn) asked = turn_answer turn asked

abbrev pub next_in : (Entry → Entry → Bool) → ℕ → Tasks → Option Turn → Asked → State
next_in before T tasks None asked = rest_next before T tasks asked
next_in before T tasks (Some turn) asked = turn_next turn tasks asked

abbrev pub answer_to : (Entry → Entry → Bool) → State → Asked → Answer
answer_to before s asked = answer_in before s.clock s.tasks s.turn asked

abbrev pub after : (Entry → Entry → Bool) → State → Asked → State
after before s asked = next_in before s.clock s.tasks s.turn asked

-- the answers to a list of calls, and the state after all of them
abbrev pub answers_to : (Entry → Entry → Bool) → State → List Asked → List Answer
answers_to before s [] = []
answers_to before s (asked ∷ later) = answer_to before s asked ∷ answers_to before (after before s asked) later

abbrev pub after_all : (Entry → Entry → Bool) → State → List Asked → State
after_all before s all = fold (after before) s all

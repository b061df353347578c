-- The account: for each task what it was sold and what it got. It is kept from the calls and their answers alone;
-- a turn that begin's answer opens says whose ticks they are.
use Rattle.std.specs.Prelude.{ℕ, ◌+◌, ◌-◌, ◌*◌, Bool, cond, ◌&&◌, List, map, replicate, Some, None, Ok, Err, Option, ◌==◌, slice_index_or, slice_set}
use Rattle.calls.specs.Answering.{Answer, State}
use Rattle.calls.specs.Asking.{Asked, admit, change, make, withdraw}
use Rattle.calls.specs.declared.exchanges.Denial.TheVariants.{Faulty}
use Rattle.calls.specs.declared.exchanges.Reply.TheVariants.{Done, Made, Opened, Settled, Withdrawn}
use Rattle.controller.specs.Making.{made, made_tasks}
use Rattle.controller.specs.Tasks.{Tasks}
use Rattle.controller.specs.declared.states.Runs.{Runs}
use Rattle.controller.specs.declared.states.Runs.TheVariants.{Idle, Task as RunsTask}
use Rattle.controller.specs.declared.states.Turn.{Turn}
use Rattle.rules.specs.Admission.{admitted}
use Rattle.rules.specs.Changes.{becomes, is_waiting}
use Rattle.rules.specs.Jobs.{next_job}
use Rattle.rules.specs.Withdrawals.{marked}
use Rattle.rules.specs.declared.changes.Change.{Change}
use Rattle.rules.specs.declared.changes.Change.TheVariants.{Period, Rate}
use Rattle.rules.specs.declared.phases.Phase.{Phase}
use Rattle.rules.specs.declared.tasks.Task.{Task}
use Rattle.rules.specs.declared.withdrawals.Departure.{Departure}
use Rattle.rules.specs.declared.withdrawals.Departure.TheVariants.{AtOnce, AtDeadline}

-- what a task has reserved, and when its current job was released and is due
pub record Terms : Type 0 where
  pub number : ℕ
  pub rate : ℕ
  pub period : ℕ
  pub phase : Phase
  pub leaving : Bool
  pub release : ℕ
  pub deadline : ℕ

-- the ticks of its current job: granted, given to it, and given up by it
pub record Ticks : Type 0 where
  pub grant : ℕ
  pub given : ℕ
  pub given_up : ℕ

-- since its admission: ticks given and given up over all jobs, the rates in force summed tick by tick,
-- how many jobs were released, and how many changes of rate or period were accepted
pub record Sums : Type 0 where
  pub given : ℕ
  pub given_up : ℕ
  pub rates : ℕ
  pub releases : ℕ
  pub changes : ℕ

-- one task's page of the account
pub record Ledger : Type 0 where
  pub terms : Terms
  pub job : Ticks
  pub since : Sums

abbrev pub Ledgers : Type 0
Ledgers = List (Option Ledger)

-- a ledger for each task, in the slot of its number; and the turn that is open
pub record Account : Type 0 where
  pub clock : ℕ
  pub ledgers : Ledgers
  pub turn : Option Turn

-- the ticks left are the grant less what was given and given up
abbrev pub left_in : Ticks → ℕ
left_in job = job.grant - (job.given + job.given_up)

-- a task as the rules see it, from its ledger
abbrev pub view : Ledger → Task
view a =
    record {
      number = a.terms.number;
      rate = a.terms.rate;
      period = a.terms.period;
      phase = a.terms.phase;
      leaving = a.terms.leaving;
      release = a.terms.release;
      deadline = a.terms.deadline;
      left = left_in a.job;
      ran = a.job.given;
    }

abbrev pub terms_of : Task → Terms
terms_of t = record { number = t.number; rate = t.rate; period = t.period; phase = t.phase; leaving = t.leaving; release = t.release; deadline = t.deadline }

abbrev pub in_slot : {A B : Type 0} → (A → B) → Option A → Option B
in_slot f None = None
in_slot f (Some a) = Some (f a)

-- the state of the controller, from the account
abbrev pub state_in : Account → State
state_in a = record { clock = a.clock; tasks = map (in_slot view) a.ledgers; turn = a.turn }

-- a release puts its ticks into the grant
abbrev pub released : ℕ → Ticks
released ticks = record { grant = ticks; given = 0; given_up = 0 }

-- a task that is admitted: nothing was given yet, and its first job is released
abbrev pub opened : Task → Ledger
opened t = record { terms = terms_of t; job = released t.left; since = record { given = 0; given_up = 0; rates = 0; releases = 1; changes = 0 } }

-- a change of rate or period moves the ticks left through the grant
abbrev pub regranted : Task → Ledger → Ledger
regranted u a =
    record {
      terms = terms_of u;
      job = record { grant = u.left + (a.job.given + a.job.given_up); given = a.job.given; given_up = a.job.given_up };
      since = record { given = a.since.given; given_up = a.since.given_up; rates = a.since.rates; releases = a.since.releases; changes = a.since.changes + 1 };
    }

-- so many ticks are given up
abbrev pub giving_up : ℕ → Ledger → Ledger
giving_up n a =
    record {
      terms = a.terms;
      job = record { grant = a.job.grant; given = a.job.given; given_up = a.job.given_up + n };
      since = record { given = a.since.given; given_up = a.since.given_up + n; rates = a.since.rates; releases = a.since.releases; changes = a.since.changes };
    }

-- wait, wake and finish move the ticks left through what is given up
abbrev pub forgone : Task → Ledger → Ledger
forgone u a = let rest = giving_up (left_in a.job - u.left) a in record { terms = terms_of u; job = rest.job; since = rest.since }

abbrev pub changed_by : ℕ → Change → Ledger → Ledger
changed_by T (Rate rate) a = regranted (becomes T (view a) (Rate rate)) a
changed_by T (Period period) a = regranted (becomes T (view a) (Period period)) a
changed_by T how a = forgone (becomes T (view a) how) a

-- a task that goes at its deadline
abbrev pub leaves : Ledger → Ledger
leaves a = record { terms = terms_of (marked (view a)); job = a.job; since = a.since }

-- c ticks pass: the rate in force counts for each of them
abbrev pub passing : ℕ → Ledger → Ledger
passing c a =
    record {
      terms = a.terms;
      job = a.job;
      since = record { given = a.since.given; given_up = a.since.given_up; rates = a.since.rates + c * a.terms.rate; releases = a.since.releases; changes = a.since.changes };
    }

-- the task is given c ticks
abbrev pub served : ℕ → Ledger → Ledger
served c a =
    record {
      terms = a.terms;
      job = record { grant = a.job.grant; given = a.job.given + c; given_up = a.job.given_up };
      since = record { given = a.since.given + c; given_up = a.since.given_up; rates = a.since.rates; releases = a.since.releases; changes = a.since.changes };
    }

-- a waiting job gives up what is left of it when its deadline has come
abbrev pub spent : Ledger → Ledger
spent a = giving_up (left_in a.job) a

abbrev pub due : ℕ → Ledger → Ledger
due T a = cond (a.terms.deadline == T && is_waiting a.terms.phase) (spent a) a

-- the next job is released
abbrev pub renewed : Ledger → Ledger
renewed a =
    record {
      terms = terms_of (next_job (view a));
      job = released (next_job (view a)).left;
      since = record { given = a.since.given; given_up = a.since.given_up; rates = a.since.rates; releases = a.since.releases + 1; changes = a.since.changes };
    }

-- behind a deadline that has come follows the next job, or the removal of a leaving task
abbrev pub follows : ℕ → Option Ledger → Option Ledger
follows T None = None
follows T (Some a) = cond (a.terms.deadline == T) (cond a.terms.leaving None (Some (renewed a))) (Some a)

-- one number's ledger, written anew
abbrev pub at : ℕ → (Ledger → Ledger) → Ledgers → Ledgers
at number f ledgers = slice_set ledgers (number - 1) (in_slot f (slice_index_or ledgers (number - 1) None))

-- the turn's task is given c ticks
abbrev pub given_in : Runs → ℕ → Ledgers → Ledgers
given_in Idle c ledgers = ledgers
given_in (RunsTask number deadline) c ledgers = at number (served c) ledgers

abbrev pub given_by : Option Turn → ℕ → Ledgers → Ledgers
given_by None c ledgers = ledgers
given_by (Some turn) c ledgers = given_in turn.runs c ledgers

-- the ledgers when settle has brought the clock to T: time has passed for all, the turn's task was given it,
-- and waiting jobs that are due have given up what was left. So they are read at their deadlines
abbrev pub read_at : ℕ → Account → Ledgers
read_at T a = map (in_slot (due T)) (given_by a.turn (T - a.clock) (map (in_slot (passing (T - a.clock))) a.ledgers))

-- no task, at the clock 0; and the tasks that a sheet makes
abbrev pub afresh : Tasks → Account
afresh tasks = record { clock = 0; ledgers = map (in_slot opened) tasks; turn = None }

abbrev pub fresh : Account
fresh = record { clock = 0; ledgers = replicate 64 None; turn = None }

-- the account with other ledgers
abbrev pub with' : Ledgers → Account → Account
with' ledgers a = record { clock = a.clock; ledgers = ledgers; turn = a.turn }

-- what an accepted make, admission, change or removal does
abbrev pub carried : Asked → Account → Account
carried (make sheet) a = afresh (made_tasks (made sheet))
carried (admit asked) a = with' (slice_set a.ledgers (asked.number - 1) (Some (opened (admitted a.clock asked)))) a
carried (change number how) a = with' (at number (changed_by a.clock how) a.ledgers) a
carried (withdraw number) a = with' (slice_set a.ledgers (number - 1) None) a
carried asked a = a

-- what a withdrawal to the deadline does
abbrev pub marked_by : Asked → Account → Account
marked_by (withdraw number) a = with' (at number leaves a.ledgers) a
marked_by asked a = a

abbrev pub gone_by : Departure → Asked → Account → Account
gone_by AtOnce asked a = carried asked a
gone_by (AtDeadline deadline) asked a = marked_by asked a

-- what a call and its answer do to the account; a refusal and a call out of its place change nothing, but that a refused make leaves no task
abbrev pub moved : Asked → Answer → Account → Account
moved asked (Ok (Made tasks)) a = carried asked a
moved asked (Ok Done) a = carried asked a
moved asked (Ok (Withdrawn when)) a = gone_by when asked a
moved asked (Ok (Opened turn)) a = record { clock = a.clock; ledgers = a.ledgers; turn = Some turn }
moved asked (Ok (Settled T)) a = record { clock = T; ledgers = map (follows T) (read_at T a); turn = None }
moved asked (Err (Faulty fault)) a = fresh
moved asked (Err denial) a = a

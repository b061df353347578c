-- The tasks that a sheet makes: tied, feasible, and with nothing run yet.
use Rattle.std.proofs.Common.{◌≡◌, ℕ, zero, suc, ◌+◌, ◌-◌, List, set, replicate, Some, None, Ok, Err, Option, Result, refl, arith}
use Rattle.controller.specs.Admitting.{admission_to, is_taken}
use Rattle.controller.specs.Making.{enrolled, joined, made, made_tasks, reservation}
use Rattle.controller.specs.Tasks.{Tasks, no_tasks, rates}
use Rattle.controller.specs.declared.faults.SheetFault.{SheetFault}
use Rattle.promise.proofs.Good.{Good, good_admitted, good_none}
use Rattle.rules.proofs.Admitting.{unless_ok}
use Rattle.rules.specs.Admission.{admitted, why_not_admitted}
use Rattle.rules.specs.Jobs.{grant}
use Rattle.rules.specs.declared.admission.Reservation.{Reservation}
use Rattle.rules.specs.declared.phases.Phase.TheVariants.{Ready}
use Rattle.rules.specs.declared.refusals.Refusal.{Refusal}
use Rattle.rules.specs.declared.tasks.Task.{Task}
use Rattle.sheet.specs.Readings.{and_then, broken, done, entry}
use Rattle.sheet.specs.Records.{TaskValue, note, task}
use Rattle.sheet.specs.Sheets.{Sheet, sheet_of}
use Rattle.std.proofs.ByRecursion.{All-set}
use Rattle.std.specs.List.{AllByRecursion}
use Rattle.std.proofs.lemmas.Bool.Decides.{nat_tests}

-- a task whose first job was released at T
pub record Fresh (T : ℕ) (t : Task) : Type 0 where
  pub ran : t.ran ≡ 0
  pub left : t.left ≡ grant t.rate t.period
  pub deadline : t.deadline ≡ T + t.period
  pub phase : t.phase ≡ Ready

abbrev pub FreshSlot : ℕ → Option Task → Type 0
FreshSlot T None = Unit {0}
FreshSlot T (Some t) = Fresh T t

pub admitted_fresh : (T : ℕ) (asked : Reservation) → Fresh T (admitted T asked)
admitted_fresh T asked = grind (arith, nat_tests)

pub record Enrolled (tasks : Tasks) : Type 0 where
  pub good : Good 0 tasks
  pub fresh : AllByRecursion (FreshSlot 0) tasks

abbrev EnrolledOr : Result Tasks SheetFault → Type 0
EnrolledOr (Ok tasks) = Enrolled tasks
EnrolledOr (Err fault) = Unit {0}

one_more : (tasks : Tasks) (asked : TaskValue) (rest : Sheet) → Enrolled tasks → ((next : Tasks) → Enrolled next → EnrolledOr (enrolled next rest)) → (o : Result Task Refusal)
    → admission_to 0 tasks (reservation asked) ≡ o → EnrolledOr (and_then (joined o asked tasks) (λ next. enrolled next rest))
one_more tasks asked rest b later (Err why) is = tt
one_more tasks asked rest b later (Ok t) is =
    let r = reservation asked in
    let p = unless_ok (why_not_admitted (is_taken tasks r.number) (rates tasks) r) (admitted 0 r) t is in
    later (set tasks (t.number - 1) (Some t))
    (record {
      good = good_admitted 0 tasks r b.good (Ok t) is;
      fresh = All-set (FreshSlot 0) tasks (t.number - 1) (Some t) (rw (← p.1) (admitted_fresh 0 r)) b.fresh;
    })

all_more : (tasks : Tasks) (sheet : Sheet) → Enrolled tasks → EnrolledOr (enrolled tasks sheet)
all_more tasks done b = b
all_more tasks (broken fault) b = tt
all_more tasks (entry (note text) rest) b = all_more tasks rest b
all_more tasks (entry (task asked) rest) b = one_more tasks asked rest b (λ next n. all_more next rest n) (admission_to 0 tasks (reservation asked)) refl

-- what holds of one slot holds of as many like it
pub all_alike : {A : Type 0} (P : Option A → Type 0) → P None → (n : ℕ) → AllByRecursion P (replicate n None)
all_alike P one zero = tt
all_alike P one (suc n) = (one, all_alike P one n)

none_enrolled : Enrolled no_tasks
none_enrolled = record { good = good_none; fresh = all_alike (FreshSlot 0) tt 64 }

or_none : (r : Result Tasks SheetFault) → EnrolledOr r → Enrolled (made_tasks r)
or_none (Ok tasks) b = b
or_none (Err fault) b = none_enrolled

pub made_enrolled : (sheet : List ℕ) → Enrolled (made_tasks (made sheet))
made_enrolled sheet = or_none (made sheet) (all_more no_tasks (sheet_of sheet) none_enrolled)

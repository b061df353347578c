-- Making a controller from a sheet.
use Rattle.std.specs.Prelude.{ℕ, List, is_some, Ok, Err, count_by, Result}
use Rattle.controller.specs.Admitting.{admission_to, with_task}
use Rattle.controller.specs.Faults.{place_of}
use Rattle.controller.specs.Tasks.{Tasks, no_tasks}
use Rattle.controller.specs.declared.faults.SheetFault.{SheetFault}
use Rattle.controller.specs.declared.faults.SheetFault.TheVariants.{InRecord, InTable}
use Rattle.rules.specs.declared.admission.Reservation.{Reservation}
use Rattle.rules.specs.declared.refusals.Refusal.{Refusal}
use Rattle.rules.specs.declared.tasks.Task.{Task}
use Rattle.sheet.specs.Readings.{and_then, broken, done, entry}
use Rattle.sheet.specs.Records.{RecordValue, TaskValue, note, task}
use Rattle.sheet.specs.Sheets.{Sheet, sheet_of}

-- what a task record asks for
abbrev pub reservation : TaskValue → Reservation
reservation t = record { number = t.number.value; rate = t.rate.value; period = t.period.value }

-- a task that is admitted joins the others; else the fault stands at the field that the refusal speaks of
abbrev pub joined : Result Task Refusal → TaskValue → Tasks → Result Tasks SheetFault
joined (Ok t) asked tasks = Ok (with_task (Ok t) tasks)
joined (Err why) asked tasks = Err (InTable why (place_of why asked))

-- the tasks after one record: a note changes none
abbrev pub after_record : Tasks → RecordValue → Result Tasks SheetFault
after_record tasks (note text) = Ok tasks
after_record tasks (task asked) = joined (admission_to 0 tasks (reservation asked)) asked tasks

-- the tasks after all records, from the left; the first fault ends it
abbrev pub enrolled : Tasks → Sheet → Result Tasks SheetFault
enrolled tasks done = Ok tasks
enrolled tasks (broken fault) = Err (InRecord fault)
enrolled tasks (entry found rest) = and_then (after_record tasks found) (λ next. enrolled next rest)

-- what a sheet makes
abbrev pub made : List ℕ → Result Tasks SheetFault
made sheet = enrolled no_tasks (sheet_of sheet)

-- make's answer: how many tasks there are, or the fault
abbrev pub make_answer : Result Tasks SheetFault → Result ℕ SheetFault
make_answer (Ok tasks) = Ok (count_by is_some tasks)
make_answer (Err fault) = Err fault

-- the tasks after make: a refused sheet leaves none
abbrev pub made_tasks : Result Tasks SheetFault → Tasks
made_tasks (Ok tasks) = tasks
made_tasks (Err fault) = no_tasks

-- a call's answer together with the tasks that it leaves
abbrev pub with_tasks : {A E : Type 0} → Result A E → Tasks → Result Tasks E
with_tasks (Ok a) tasks = Ok tasks
with_tasks (Err fault) tasks = Err fault

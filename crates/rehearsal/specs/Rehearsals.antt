-- A whole rehearsal: the output bytes as an equation of the input bytes.
use Rattle.std.specs.Prelude.{ℕ, ◌+◌, Bool, cond, List, [], ◌++◌, length, take, is_some, Ok, Err, count_by, Result, nat_le}
use Rattle.controller.specs.Admitting.{admission_to, with_task}
use Rattle.controller.specs.Changing.{change_at}
use Rattle.controller.specs.Making.{made}
use Rattle.controller.specs.Tasks.{Tasks}
use Rattle.controller.specs.declared.faults.SheetFault.{SheetFault}
use Rattle.controller.specs.declared.faults.SheetFault.TheVariants.{InRecord}
use Rattle.order.specs.declared.entries.Entry.{Entry}
use Rattle.rehearsal.specs.Codes.{byte_of}
use Rattle.rehearsal.specs.Lines.{Outcome, line_of}
use Rattle.rehearsal.specs.Scripts.{Script, code_of, script_from}
use Rattle.rehearsal.specs.Turns.{Done, turned}
use Rattle.rehearsal.specs.declared.lines.Accepted.TheVariants.{Call, Sheet}
use Rattle.rehearsal.specs.declared.lines.Refused.TheVariants.{BadRecord, BadSheet, ByRule}
use Rattle.rehearsal.specs.declared.scripts.BadStep.{BadStep}
use Rattle.rehearsal.specs.declared.scripts.Step.{Step}
use Rattle.rehearsal.specs.declared.scripts.Step.TheVariants.{Admit, Turn, Change as StepChange}
use Rattle.rules.specs.declared.refusals.Refusal.{Refusal}
use Rattle.rules.specs.declared.tasks.Task.{Task}
use Rattle.sheet.specs.Readings.{Left, broken, done, entry}
use Rattle.sheet.specs.Records.{field_in}
use Rattle.sheet.specs.declared.numbers.NumberFault.TheVariants.{Cut}
use Rattle.sheet.specs.declared.records.Field.{Field}
use Rattle.sheet.specs.declared.records.RecordFault.{RecordFault}
use Rattle.sheet.specs.declared.records.RecordFault.TheVariants.{InNumber}

-- a call on one task leaves the clock where it stands
abbrev pub said_of : {A : Type 0} → Result A Refusal → Outcome
said_of (Ok a) = Ok Call
said_of (Err why) = Err (ByRule why)

abbrev pub settled_as : ℕ → Tasks → Result Task Refusal → Done
settled_as T tasks outcome = record { clock = T; tasks = with_task outcome tasks; outcome = said_of outcome }

-- what a call record does
abbrev pub performed : (Entry → Entry → Bool) → ℕ → Tasks → Step → Done
performed before T tasks (Admit asked) = settled_as T tasks (admission_to T tasks asked)
performed before T tasks (StepChange number change) = settled_as T tasks (change_at T tasks number change)
performed before T tasks (Turn count) = turned before T tasks count

-- what a record does: a call, or nothing where it is bad
abbrev pub recorded : (Entry → Entry → Bool) → ℕ → Tasks → Result Step BadStep → Done
recorded before T tasks (Ok step) = performed before T tasks step
recorded before T tasks (Err bad) = record { clock = T; tasks = tasks; outcome = Err (BadRecord bad.why) }

-- the code byte of a record
abbrev pub record_code : Result Step BadStep → ℕ
record_code (Ok step) = byte_of (code_of step)
record_code (Err bad) = bad.code

-- the line of a call, and those that follow from where it leaves the clock and the tasks
abbrev pub and_on : Done → ℕ → (ℕ → Tasks → List ℕ) → List ℕ
and_on after code later = line_of after.clock code after.outcome ++ later after.clock after.tasks

-- a line for each call record; a bad one has the last line
abbrev pub lines_of : (Entry → Entry → Bool) → ℕ → Tasks → Script → List ℕ
lines_of before T tasks done = []
lines_of before T tasks (broken bad) = line_of T bad.code (Err (BadRecord bad.why))
lines_of before T tasks (entry step rest) = and_on (performed before T tasks step) (byte_of (code_of step)) (λ clock next. lines_of before clock next rest)

-- the sheet's bytes behind its length, and the offset of the first call record; a sheet that is cut has its fault at the length
abbrev pub sheet_behind : Result (Field × Left) RecordFault → Result (List ℕ × ℕ) RecordFault
sheet_behind (Ok (size, left)) =
    cond (nat_le size.value (length left.bytes)) (Ok (take size.value left.bytes, left.place + size.value)) (Err (InNumber (Cut 0)))
sheet_behind (Err fault) = Err fault

abbrev pub opening : List ℕ → Result (List ℕ × ℕ) RecordFault
opening input = sheet_behind (field_in (record { bytes = input; place = 0 }))

-- the sheet's line, and those of the calls where the sheet is taken
abbrev pub played : (Entry → Entry → Bool) → List ℕ → ℕ → Result Tasks SheetFault → List ℕ
played before input place (Ok tasks) = line_of 0 0 (Ok (Sheet (count_by is_some tasks))) ++ lines_of before 0 tasks (script_from input place)
played before input place (Err fault) = line_of 0 0 (Err (BadSheet fault))

abbrev pub rehearsed_from : (Entry → Entry → Bool) → List ℕ → Result (List ℕ × ℕ) RecordFault → List ℕ
rehearsed_from before input (Ok (sheet, place)) = played before input place (made sheet)
rehearsed_from before input (Err fault) = line_of 0 0 (Err (BadSheet (InRecord fault)))

-- what a rehearsal of the input prints
abbrev pub rehearsed : (Entry → Entry → Bool) → List ℕ → List ℕ
rehearsed before input = rehearsed_from before input (opening input)

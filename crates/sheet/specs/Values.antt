-- What the code hands over, by value: bytes in place of where they lie.
use Rattle.std.specs.Prelude.{ℕ, List, Some, None, Ok, Err, Option, Result}
use Rattle.std.specs.Borrow.{Bor}
use Rattle.sheet.specs.declared.records.RecordFault.{RecordFault}
use Rattle.sheet.specs.declared.records.Field.{Field}
use Rattle.sheet.specs.declared.records.Record.{Record}
use Rattle.sheet.specs.declared.records.Record.TheVariants.{Task, Note}
use Rattle.sheet.specs.declared.records.Found.{Found}
use Rattle.sheet.specs.declared.records.Rest.{Rest}
use Rattle.sheet.specs.declared.records.TaskRecord.{TaskRecord}
use Rattle.sheet.specs.Readings.{Left}
use Rattle.sheet.specs.Records.{RecordValue, TaskValue, task, note}

abbrev pub left_of : Rest → Left
left_of rest = record { bytes = rest.bytes.now; place = rest.place }

abbrev pub field_of : Result (Field × Rest) RecordFault → Result (Field × Left) RecordFault
field_of (Ok read) = Ok (read.0, left_of read.1)
field_of (Err fault) = Err fault

abbrev pub text_of : Result (Bor (List ℕ)) RecordFault → Result (List ℕ) RecordFault
text_of (Ok text) = Ok text.now
text_of (Err fault) = Err fault

abbrev pub task_value : TaskRecord → TaskValue
task_value t = record { number = t.number; rate = t.rate; period = t.period; name = t.name.now; name_place = t.name_place }

abbrev pub record_value : Record → RecordValue
record_value (Task t) = task (task_value t)
record_value (Note text) = note text.now

abbrev pub found_of : Result Found RecordFault → Result (RecordValue × ℕ) RecordFault
found_of (Ok found) = Ok (record_value found.record, found.end)
found_of (Err fault) = Err fault

abbrev pub record_of : Result (Option Found) RecordFault → Result (Option (RecordValue × ℕ)) RecordFault
record_of (Ok None) = Ok None
record_of (Ok (Some found)) = Ok (Some (record_value found.record, found.end))
record_of (Err fault) = Err fault

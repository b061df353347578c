-- A sheet gone over record by record.
use Rattle.std.specs.Prelude.{◌≡◌, Some, None, Ok, Err, Option, Result}
use Rattle.sheet.specs.declared.records.Record.{Record}
use Rattle.sheet.specs.declared.records.RecordFault.{RecordFault}
use Rattle.sheet.specs.declared.walk.Records.{Records}
use Rattle.sheet.specs.Readings.{done, broken, entry}
use Rattle.sheet.specs.Sheets.{Sheet, sheet_from}
use Rattle.sheet.specs.Values.{record_value}

-- what is left of the sheet
abbrev pub records_left : Records → Sheet
records_left walk = sheet_from walk.sheet.now walk.place

-- the next record was taken and the others left, or the fault, behind which nothing is left; none where nothing was left
abbrev pub IsNext : Records → Option (Result Record RecordFault) → Records → Type 0
IsNext walk None after = (records_left walk ≡ done) × (records_left after ≡ done)
IsNext walk (Some (Ok found)) after = records_left walk ≡ entry (record_value found) (records_left after)
IsNext walk (Some (Err fault)) after = (records_left walk ≡ broken fault) × (records_left after ≡ done)

-- A sheet as the list of its records, and where a name stands in it.
use Rattle.std.specs.Prelude.{◌≡◌, ℕ, ◌<◌, cond, ◌⊎◌, List, length, Some, None, Ok, Err, Option, Result}
use Rattle.std.specs.Option.{option_or}
use Rattle.std.specs.Str.{bytes_eq}
use Rattle.sheet.specs.declared.records.RecordFault.{RecordFault}
use Rattle.sheet.specs.Readings.{Reading, done, broken, entry, reading_from}
use Rattle.sheet.specs.Records.{RecordValue, task, note, record_at}

-- the records from here on, up to the end or to the first fault
-- a sheet is its records, one after another
abbrev pub Sheet : Type 0
Sheet = Reading RecordValue RecordFault

abbrev pub sheet_from : List ℕ → ℕ → Sheet
sheet_from sheet place = reading_from record_at sheet place

abbrev pub sheet_of : List ℕ → Sheet
sheet_of sheet = sheet_from sheet 0

-- where the name of a record stands, if it is a task of that name
abbrev pub named : List ℕ → RecordValue → Option ℕ
named name (task t) = cond (bytes_eq t.name name) (Some t.name_place) None
named name (note text) = None

-- a match before others; a fault behind it stands
abbrev pub before : Option ℕ → Result (Option ℕ) RecordFault → Result (Option ℕ) RecordFault
before first (Ok later) = Ok (option_or first later)
before first (Err fault) = Err fault

-- where the first task of that name has it
abbrev pub found_in : List ℕ → Sheet → Result (Option ℕ) RecordFault
found_in name done = Ok None
found_in name (broken fault) = Err fault
found_in name (entry r later) = before (named name r) (found_in name later)

-- bytes that no task has for its name: none, or over 12
abbrev pub Unfit : List ℕ → Type 0
Unfit name = (length name ≡ 0) ⊎ (12 < length name)

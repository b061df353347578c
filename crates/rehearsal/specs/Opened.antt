-- What the code hands over, by value.
use Rattle.std.specs.Prelude.{ℕ, List, Ok, Err, Result}
use Rattle.std.specs.Borrow.{Bor}
use Rattle.sheet.specs.declared.records.RecordFault.{RecordFault}

abbrev pub opening_of : Result (Bor (List ℕ) × ℕ) RecordFault → Result (List ℕ × ℕ) RecordFault
opening_of (Ok (sheet, place)) = Ok (sheet.now, place)
opening_of (Err fault) = Err fault

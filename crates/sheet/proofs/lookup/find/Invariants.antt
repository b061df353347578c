use Rattle.std.proofs.Common.{◌≡◌}
use Rattle.sheet.specs.Sheets.{before, found_in, sheet_of}
use Rattle.sheet.specs.Walks.{records_left}
use Rattle.sheet.proofs.lookup.find.Given as goal

abbrev pub invariant-loop-record : goal.invariant-loop-record
invariant-loop-record l = before l.first (found_in l.name (records_left l.record-iterator)) ≡ found_in l.name (sheet_of l.sheet)

use Rattle.std.proofs.Common.{◌≡◌}
use Rattle.controller.proofs.memory.TaskMemory.load.Given as goal
use Rattle.controller.specs.Making.{enrolled}
use Rattle.controller.specs.Tied.{Tied}
use Rattle.sheet.specs.Sheets.{sheet_of}
use Rattle.sheet.specs.Walks.{records_left}

-- what is still to come leads to what the whole sheet does
abbrev pub invariant-loop-record : goal.invariant-loop-record
invariant-loop-record g l =
    (enrolled l.self (records_left l.record-iterator) ≡ enrolled l.initial.self (sheet_of l.sheet))
    × Tied 0 l.self (g.L.ReadyList.held l.list) (g.L.ReadyList.ok l.list)

use Rattle.std.proofs.Common.{◌≡◌, Ok, rules}
use Rattle.sheet.specs.Sheets.{found_in, sheet_of}
use Rattle.sheet.proofs.Matches.{no_match}
use Rattle.sheet.proofs.lookup.find.Goals as goal

pub returns-clause-unfit : goal.returns-clause-unfit
returns-clause-unfit c unfit =
    let value : Ok c.loop-record.first ≡ found_in c.args.name.now (sheet_of c.args.sheet.now) = search rules in
    no_match c.args.name.now c.args.sheet.now unfit _ value

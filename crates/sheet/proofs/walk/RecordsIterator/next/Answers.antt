use Rattle.std.proofs.Common.{sym, arith, rules}
use Rattle.sheet.specs.Records.{record_at}
use Rattle.sheet.proofs.Laws.{advances, inside, no_record, progress, some_record}
use Rattle.sheet.proofs.Readings.{reading_entry, reading_fault, reading_none}
use Rattle.sheet.proofs.walk.RecordsIterator.next.Goals as goal

pub returns-in-Ok-Some-clause-steps : goal.returns-in-Ok-Some-clause-steps
returns-in-Ok-Some-clause-steps c =
    let here = some_record _ _ _ c.in-Ok-Some.found c.in-Ok-Some.ensures c.in-Ok-Some.field-0-is in
    reading_entry record_at advances _ _ _ _ here

pub returns-in-Ok-Some-clause-goes : goal.returns-in-Ok-Some-clause-goes
returns-in-Ok-Some-clause-goes c =
    let here = some_record _ _ _ c.in-Ok-Some.found c.in-Ok-Some.ensures c.in-Ok-Some.field-0-is in
    let on = progress _ _ _ _ here in
    search rules

pub returns-in-Ok-None-clause-steps : goal.returns-in-Ok-None-clause-steps
returns-in-Ok-None-clause-steps c =
    let here = reading_none record_at advances _ _ (no_record _ _ _ c.in-Ok-None.ensures c.in-Ok-None.field-0-is) in
    (here, here)

pub returns-in-Err-clause-steps : goal.returns-in-Err-clause-steps
returns-in-Err-clause-steps c = (
  reading_fault record_at advances _ _ _ (sym c.in-Err.ensures),
  reading_none record_at advances _ _ (advances.ends _ _ (omega arith)),
)

pub returns-in-Err-clause-goes : goal.returns-in-Err-clause-goes
returns-in-Err-clause-goes c =
    let here = inside c.args.self.now.sheet.now c.args.self.now.place (λ none. cc c.in-Err.ensures) in
    search rules

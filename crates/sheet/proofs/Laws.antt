-- How a sheet unfolds, for loops that read it record by record.
use Rattle.std.proofs.Common.{◌≡◌, ℕ, ◌+◌, ◌<◌, ◌≤◌, List, length, drop, Some, None, Ok, Option, sym, ap, ◌∙◌, ⊎_elim, arith, length-drop}
use Rattle.std.proofs.lemmas.Result.{IfOk-at_ok}
use Rattle.std.proofs.lemmas.Bool.{cases_lt}
use Rattle.sheet.specs.declared.records.Found.{Found}
use Rattle.sheet.specs.Readings.{part_at}
use Rattle.sheet.specs.Records.{RecordValue, body_in, record_at}
use Rattle.sheet.specs.Values.{record_value, record_of}
use Rattle.sheet.proofs.Bodies.{part_none}
use Rattle.sheet.proofs.Readings.{Advances}
use Rattle.sheet.proofs.Ends.{TaskName, Past, record_ends}

-- what is not the end stands within the sheet
pub inside : (sheet : List ℕ) (place : ℕ) → ¬ (record_at sheet place ≡ Ok None) → place < length sheet
inside sheet place more = ⊎_elim (λ h. h) (λ h. absurd (more (sym (part_none body_in sheet place h)))) (cases_lt place (length sheet))

-- what is known of a record that was read
known : (sheet : List ℕ) (place : ℕ) (found : RecordValue) (end : ℕ) → record_at sheet place ≡ Ok (Some (found, end)) → Past place (place + length (drop place sheet)) (Some (found, end))
unfolding part_at
known sheet place found end e = IfOk-at_ok (Past place (place + length (drop place sheet))) e (record_ends (drop place sheet) place)

-- a record ends behind where it begins, and within the sheet
pub progress : (sheet : List ℕ) (place : ℕ) (found : RecordValue) (end : ℕ) → record_at sheet place ≡ Ok (Some (found, end)) → (place < end) × (end ≤ length sheet)
progress sheet place found end e =
    let past = known sheet place found end e in
    let begins = inside sheet place (λ none. cc) in
    (past.0, omega (arith, length-drop place sheet))

-- the name of a task has 1 to 12 bytes
pub name_length : (sheet : List ℕ) (place : ℕ) (found : RecordValue) (end : ℕ) → record_at sheet place ≡ Ok (Some (found, end)) → TaskName found
name_length sheet place found end e = (known sheet place found end e).2

-- so a sheet may be read record by record
pub advances : Advances record_at
advances = record { ends = λ sheet place h. sym (part_none body_in sheet place h); goes_on = progress }

-- what a call of `record_at` that did not fail says of the sheet: `found` is what stands in its `Ok`
pub some_record : (sheet : List ℕ) (place : ℕ) (o : Option Found) (found : Found) → record_of (Ok o) ≡ record_at sheet place → o ≡ Some found → record_at sheet place ≡ Ok (Some (record_value found.record, found.end))
some_record sheet place o found e is = sym e ∙ ap (λ x. record_of (Ok x)) is

pub no_record : (sheet : List ℕ) (place : ℕ) (o : Option Found) → record_of (Ok o) ≡ record_at sheet place → o ≡ None → record_at sheet place ≡ Ok None
no_record sheet place o e is = sym e ∙ ap (λ x. record_of (Ok x)) is

-- A name that no task may have is found nowhere.
use Rattle.std.proofs.Common.{◌≡◌, ℕ, zero, suc, ◌-◌, ◌≤◌, List, length, IfOk, Some, None, Ok, Err, Option, Result, sym, refl, ap, ◌∙◌, subst, ⊎_elim, arith}
use Rattle.std.specs.Option.{option_or}
use Rattle.std.specs.Str.{bytes_eq}
use Rattle.std.proofs.lemmas.Slice.Eq.{bytes_eq-Decides}
use Rattle.std.proofs.lemmas.Bool.{cond_both}
use Rattle.sheet.specs.declared.records.RecordFault.{RecordFault}
use Rattle.sheet.specs.Records.{RecordValue, task, note, record_at}
use Rattle.sheet.specs.Sheets.{Sheet, Unfit, before, named, found_in, sheet_from, sheet_of}
use Rattle.sheet.proofs.Ends.{TaskName}
use Rattle.sheet.proofs.Laws.{advances, progress, name_length}
use Rattle.sheet.proofs.Readings.{reading_entry, reading_fault, reading_none}

unfit_named : (name : List ℕ) (found : RecordValue) → Unfit name → TaskName found → named name found ≡ None
unfit_named name (task t) unfit h =
    cond_both (bytes_eq t.name name) _ _ (λ o. o ≡ None)
    (λ e. let same = ap length ((bytes_eq-Decides t.name name).0 e) in absurd (⊎_elim (λ none. omega arith) (λ long. omega arith) unfit))
    (λ _. refl)
unfit_named name (note text) unfit h = refl

nothing_before : (here : Option ℕ) (r : Result (Option ℕ) RecordFault) → here ≡ None → IfOk r (λ o. o ≡ None) → IfOk (before here r) (λ o. o ≡ None)
nothing_before here (Ok later) e h = ap (λ o. option_or o later) e ∙ h
nothing_before here (Err fault) e h = tt

module _ (name sheet : List ℕ) (unfit : Unfit name) where
  abbrev Nothing : Sheet → Type 0
  Nothing s = IfOk (found_in name s) (λ found. found ≡ None)

  nothing : (n place : ℕ) → length sheet - place ≤ n → Nothing (sheet_from sheet place)
  nothing zero place h = subst Nothing (sym (reading_none record_at advances sheet place (advances.ends sheet place (omega arith)))) refl
  nothing (suc n) place h =
      elim (record_at sheet place) as (λ r. record_at sheet place ≡ r → Nothing (sheet_from sheet place)) [
        | Ok o ↦ elim o as (λ v. record_at sheet place ≡ Ok v → Nothing (sheet_from sheet place)) [
          | None ↦ λ e. subst Nothing (sym (reading_none record_at advances sheet place e)) refl
          | Some found ↦ λ e.
              let on = progress sheet place found.0 found.1 e in
              let here = unfit_named name found.0 unfit (name_length sheet place found.0 found.1 e) in
              subst Nothing (sym (reading_entry record_at advances sheet place found.0 found.1 e)) (nothing_before _ _ here (nothing n found.1 (omega arith)))
        ]
        | Err fault ↦ λ e. subst Nothing (sym (reading_fault record_at advances sheet place fault e)) tt
      ] refl

  -- a sheet has no such name: the answer is none, or the sheet's fault
  pub no_match : (r : Result (Option ℕ) RecordFault) → r ≡ found_in name (sheet_of sheet) → IfOk r (λ found. found ≡ None)
  no_match r is = subst (λ a. IfOk a (λ found. found ≡ None)) (sym is) (nothing (length sheet) 0 (omega arith))

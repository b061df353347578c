-- Call records may be read one after another: each ends behind its code byte, within the input.
use Rattle.std.proofs.Common.{◌≡◌, ℕ, zero, suc, ◌+◌, ◌<◌, ◌≤◌, List, [], ◌∷◌, length, get_or, drop, IfOk, Some, None, Ok, Err, Option, Result, sym, refl, ap, subst, ⊎_elim, arith, length-drop}
use Rattle.rehearsal.specs.Codes.{code_in}
use Rattle.rehearsal.specs.Scripts.{Gives, Script, blamed, call_in, in_field, numbers_in, record_in, script_from, step_at, step_in}
use Rattle.rehearsal.specs.declared.scripts.BadStep.{BadStep}
use Rattle.rehearsal.specs.declared.scripts.Code.{Code}
use Rattle.rehearsal.specs.declared.scripts.Code.TheVariants.{Admit, Finish, Period, Rate, Turn, Wait, Wake}
use Rattle.rehearsal.specs.declared.scripts.StepFault.{StepFault}
use Rattle.rehearsal.specs.declared.scripts.Step.{Step}
use Rattle.sheet.proofs.Bodies.{behind, from, part_none, part_split, whole}
use Rattle.sheet.proofs.Ends.{field_onward, then}
use Rattle.sheet.proofs.Readings.{Advances, reading_entry, reading_fault, reading_none}
use Rattle.sheet.specs.Readings.{Left, and_then, opened, part_at}
use Rattle.sheet.specs.Records.{field_in}
use Rattle.sheet.specs.declared.records.RecordFault.{RecordFault}
use Rattle.std.proofs.lemmas.Result.{IfOk-at_ok}
use Rattle.std.proofs.lemmas.Bool.{cases_lt}

-- a record that was read where the input goes on is the one there
pub step_found : (input : List ℕ) (place : ℕ) (part : List ℕ) (read : Result (Step × ℕ) StepFault) → part ≡ from input place → 0 < length part → read ≡ record_in (get_or part 0 0) (behind part place)
    → whole call_in (blamed (get_or part 0 0) read) ≡ step_at input place
step_found input place part read here some is =
    let P : List ℕ → Type 0 = λ p. 0 < length p → read ≡ record_in (get_or p 0 0) (behind p place) → whole call_in (blamed (get_or p 0 0) read) ≡ step_at input place in
    subst P (sym here) (λ s e. part_split call_in input place (blamed _ read) s (ap (blamed _) e)) some is

-- a call ends in what is left
abbrev Within : Left → ℕ → Type 0
Within left end = (left.place ≤ end) × (end ≤ left.place + length left.bytes)

numbers_end : (many : ℕ) (left : Left) → IfOk (numbers_in many left) (λ read. Within left read.1)
numbers_end zero left = (omega arith, omega arith)
numbers_end (suc more) left =
    then (field_in left) _ _ (λ read. Within left read.1) (field_onward left) (λ first h.
    then (numbers_in more first.1) _ _ (λ read. Within left read.1) (numbers_end more first.1) (λ later k. (omega arith, omega arith)))

abbrev Ended : Left → Step × ℕ → Type 0
Ended left found = Within left found.1

counted_ends : (many : ℕ) (left : Left) (step : List ℕ → Step) → IfOk (and_then (numbers_in many left) (λ read. Ok (step read.0, read.1))) (Ended left)
counted_ends many left step = then (numbers_in many left) _ _ (Ended left) (numbers_end many left) (λ read h. h)

step_ends : (code : Code) (left : Left) → IfOk (step_in code left) (Ended left)
step_ends Admit left = counted_ends 3 left _
step_ends Rate left = counted_ends 2 left _
step_ends Period left = counted_ends 2 left _
step_ends Wait left = counted_ends 1 left _
step_ends Wake left = counted_ends 1 left _
step_ends Finish left = counted_ends 1 left _
step_ends Turn left = counted_ends 1 left _

in_field_made : {A : Type 0} (r : Result A RecordFault) (P : A → Type 0) → IfOk r P → IfOk (in_field r) P
in_field_made (Ok a) P h = h
in_field_made (Err fault) P h = tt

blamed_made : {A : Type 0} (byte : ℕ) (r : Result A StepFault) (P : A → Type 0) → IfOk r P → IfOk (blamed byte r) P
blamed_made byte (Ok a) P h = h
blamed_made byte (Err why) P h = tt

coded_ends : (code : Result Code StepFault) (left : Left) → IfOk (and_then code (λ c. in_field (step_in c left))) (Ended left)
coded_ends (Ok code) left = in_field_made (step_in code left) (Ended left) (step_ends code left)
coded_ends (Err why) left = tt

call_ends : (byte : ℕ) (left : Left) (place : ℕ) → IfOk (call_in byte left place) (Ended left)
call_ends byte left place = blamed_made byte (record_in byte left) (Ended left) (coded_ends (code_in byte) left)

abbrev Past : ℕ → ℕ → Option (Step × ℕ) → Type 0
Past place end None = Unit {0}
Past place end (Some found) = (place < found.1) × (found.1 ≤ end)

record_ends : (bytes : List ℕ) (place : ℕ) → IfOk (opened call_in bytes place) (Past place (place + length bytes))
record_ends [] place = tt
record_ends (code ∷ bytes) place =
    let left : Left = record { bytes = bytes; place = place + 1 } in
    then (call_in code left place) _ _ (Past place (place + length (code ∷ bytes))) (call_ends code left place) (λ found h. (omega arith, omega arith))

-- a call begins within the input
inside : (input : List ℕ) (place : ℕ) (found : Step × ℕ) → step_at input place ≡ Ok (Some found) → place < length input
inside input place found e =
    ⊎_elim (λ h. h) (λ h. let z : ◌≡◌ {A = ℕ} 0 1 = cc (part_none call_in input place h) in absurd (omega arith)) (cases_lt place (length input))

pub goes_on : (input : List ℕ) (place : ℕ) (found : Step) (end : ℕ) → step_at input place ≡ Ok (Some (found, end)) → (place < end) × (end ≤ length input)
unfolding part_at
goes_on input place found end e =
    let past = IfOk-at_ok (Past place (place + length (drop place input))) e (record_ends (drop place input) place) in
    let begins = inside input place (found, end) e in
    (past.0, omega (arith, length-drop place input))

pub advances : Advances step_at
advances = record { ends = λ input place h. sym (part_none call_in input place h); goes_on = goes_on }

-- what is left of the script where a record is read, or none is left
pub gives_step : (input : List ℕ) (place : ℕ) (step : Step) (end : ℕ) → Ok (Some (step, end)) ≡ step_at input place → Gives (script_from input place) (Some (Ok step)) (script_from input end)
gives_step input place step end here =
    let P : Script → Type 0 = λ s. Gives s (Some (Ok step)) (script_from input end) in
    subst P (sym (reading_entry step_at advances input place step end (sym here))) (refl, refl)

pub gives_none : (input : List ℕ) (place : ℕ) (later : Script) → Ok None ≡ step_at input place → Gives (script_from input place) None later
gives_none input place later here =
    let P : Script → Type 0 = λ s. Gives s None later in
    subst P (sym (reading_none step_at advances input place (sym here))) refl

pub gives_bad : (input : List ℕ) (place : ℕ) (bad : BadStep) → Err bad ≡ step_at input place → Gives (script_from input place) (Some (Err bad)) (script_from input (length input))
gives_bad input place bad here =
    let P : Script → Type 0 = λ s. Gives s (Some (Err bad)) (script_from input (length input)) in
    let none = reading_none step_at advances input (length input) (advances.ends input (length input) (omega arith)) in
    subst P (sym (reading_fault step_at advances input place bad (sym here))) (refl, none)

-- a bad record lies within the input
pub bad_inside : (input : List ℕ) (place : ℕ) (bad : BadStep) → Err bad ≡ step_at input place → place < length input
bad_inside input place bad here =
    ⊎_elim (λ h. h) (λ h. let z : ◌≡◌ {A = ℕ} 0 1 = cc (part_none call_in input place h) in absurd (omega arith)) (cases_lt place (length input))

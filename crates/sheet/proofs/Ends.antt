-- Where the parts of a record end, and how long its name is.
use Rattle.std.proofs.Common.{◌≡◌, ℕ, ◌+◌, ◌<◌, ◌≤◌, ◌&&◌, eqb, leb, List, [], ◌∷◌, length, IfOk, Some, None, Ok, Err, Option, Result, arith, length-drop}
use Rattle.std.proofs.lemmas.List.{length-take-le}
use Rattle.std.proofs.lemmas.Result.{IfOk-weaker}
use Rattle.std.proofs.lemmas.Bool.{cond_both, and_parts, leb-true}
use Rattle.sheet.specs.declared.numbers.Number.{Number}
use Rattle.sheet.specs.declared.numbers.NumberFault.{NumberFault}
use Rattle.sheet.specs.declared.records.Field.{Field}
use Rattle.sheet.specs.declared.records.RecordFault.{RecordFault}
use Rattle.sheet.specs.Readings.{Left, and_then, opened}
use Rattle.sheet.specs.Records.{RecordValue, task, note, number_at, field_in, text_in, unless_bad, name_in, note_text_in, task_in, note_in, body_in}
use Rattle.sheet.proofs.Groups.{Within, number_within}

-- what holds of a value, and then of what comes of it
pub then : {A B E : Type 0} (r : Result A E) (next : A → Result B E) (P : A → Type 0) (Q : B → Type 0) → IfOk r P → ((x : A) → P x → IfOk (next x) Q) → IfOk (and_then r next) Q
then (Ok x) next P Q h k = k x h
then (Err fault) next P Q h k = tt

-- what is left after a part was read
abbrev pub Onward : Left → Left → Type 0
Onward left after = (left.place ≤ after.place) × (after.place + length after.bytes ≡ left.place + length left.bytes)

number_onward : (left : Left) (r : Result Number NumberFault) → IfOk r (Within left.bytes) → IfOk (number_at left r) (λ read. Onward left read.1)
number_onward left (Ok n) h = (omega arith, simp length-drop (omega arith))
number_onward left (Err fault) h = tt

pub field_onward : (left : Left) → IfOk (field_in left) (λ read. Onward left read.1)
field_onward left = number_onward left _ (number_within left.bytes left.place)

-- a text is as long as its length field says, and lies in what is left
abbrev Sized : Field → Left → List ℕ → Type 0
Sized size left text = (length text ≡ size.value) × (length text ≤ length left.bytes)

text_sized : (size : Field) (left : Left) → IfOk (text_in size left) (Sized size left)
text_sized size left =
    cond_both (leb size.value (length left.bytes)) _ _ (λ r. IfOk r (Sized size left))
    (λ e. let same = length-take-le size.value left.bytes (leb-true _ _ e) in (same, omega (arith, leb-true _ _ e)))
    (λ _. tt)

-- a name has 1 to 12 bytes
abbrev pub NameLength : List ℕ → Type 0
NameLength name = (1 ≤ length name) × (length name ≤ 12)

abbrev Named : Left → List ℕ → Type 0
Named left name = NameLength name × (length name ≤ length left.bytes)

unless_made : (bad : Option ℕ) (r : Result (List ℕ) RecordFault) (P : List ℕ → Type 0) → IfOk r P → IfOk (unless_bad bad r) P
unless_made (Some place) r P h = tt
unless_made None r P h = h

name_made : (size : Field) (left : Left) → IfOk (name_in size left) (Named left)
name_made size left =
    cond_both (leb 1 size.value && leb size.value 12) _ _ (λ r. IfOk r (Named left))
    (λ e.
    let range = and_parts (leb 1 size.value) (leb size.value 12) e in
    let low = leb-true 1 size.value range.0 in
    let high = leb-true size.value 12 range.1 in
    unless_made _ _ (Named left) (IfOk-weaker (text_in size left) (Sized size left) (Named left) (λ name h. ((omega arith, omega arith), h.1)) (text_sized size left)))
    (λ _. tt)

note_made : (size : Field) (left : Left) → IfOk (note_text_in size left) (Sized size left)
note_made size left = cond_both (leb size.value 80) _ _ (λ r. IfOk r (Sized size left)) (λ _. text_sized size left) (λ _. tt)

-- the name of a record, if it is a task
abbrev pub TaskName : RecordValue → Type 0
TaskName (task t) = NameLength t.name
TaskName (note text) = Unit {0}

-- a record ends in what is left
abbrev Ended : Left → RecordValue × ℕ → Type 0
Ended left found = (left.place ≤ found.1) × (found.1 ≤ left.place + length left.bytes) × TaskName found.0

task_ends : (left : Left) → IfOk (task_in left) (Ended left)
task_ends left =
    then (field_in left) _ _ (Ended left) (field_onward left) (λ number h₁.
    then (field_in number.1) _ _ (Ended left) (field_onward number.1) (λ rate h₂.
    then (field_in rate.1) _ _ (Ended left) (field_onward rate.1) (λ period h₃.
    then (field_in period.1) _ _ (Ended left) (field_onward period.1) (λ size h₄.
    then (name_in size.0 size.1) _ _ (Ended left) (name_made size.0 size.1) (λ name h₅. (omega arith, omega arith, h₅.0))))))

note_ends : (left : Left) → IfOk (note_in left) (Ended left)
note_ends left =
    then (field_in left) _ _ (Ended left) (field_onward left) (λ size h₁.
    then (note_text_in size.0 size.1) _ _ (Ended left) (note_made size.0 size.1) (λ text h₂. (omega arith, omega arith, tt)))

body_ends : (kind : ℕ) (left : Left) (place : ℕ) → IfOk (body_in kind left place) (Ended left)
body_ends kind left place =
    cond_both (eqb kind 1) _ _ (λ r. IfOk r (Ended left)) (λ _. task_ends left)
    (λ _. cond_both (eqb kind 2) _ _ (λ r. IfOk r (Ended left)) (λ _. note_ends left) (λ _. tt))

-- a record ends behind its place, and no later than the bytes do
abbrev pub Past : ℕ → ℕ → Option (RecordValue × ℕ) → Type 0
Past place end None = Unit {0}
Past place end (Some found) = (place < found.1) × (found.1 ≤ end) × TaskName found.0

pub record_ends : (bytes : List ℕ) (place : ℕ) → IfOk (opened body_in bytes place) (Past place (place + length bytes))
record_ends [] place = tt
record_ends (kind ∷ bytes) place =
    let left : Left = record { bytes = bytes; place = place + 1 } in
    then (body_in kind left place) _ _ (Past place (place + length (kind ∷ bytes))) (body_ends kind left place) (λ found h. (omega arith, omega arith, h.2))

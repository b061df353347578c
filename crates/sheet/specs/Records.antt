-- The records of a sheet. A record is its kind byte and what the kind says of the bytes that follow; they are judged from left to right.
use Rattle.std.specs.Prelude.{ℕ, ◌+◌, Bool, cond, ◌&&◌, List, [], ◌∷◌, length, take, drop, Some, None, Ok, Err, Option, Result, ◌==◌, nat_le}
use Rattle.sheet.specs.declared.numbers.Number.{Number}
use Rattle.sheet.specs.declared.numbers.NumberFault.{NumberFault}
use Rattle.sheet.specs.declared.numbers.NumberFault.TheVariants.{Cut, Malformed}
use Rattle.sheet.specs.declared.records.RecordFault.{RecordFault}
use Rattle.sheet.specs.declared.records.RecordFault.TheVariants.{InNumber, UnknownKind, CutText, BadText}
use Rattle.sheet.specs.declared.records.Told.{Told}
use Rattle.sheet.specs.declared.records.Field.{Field}
use Rattle.sheet.specs.Numbers.{number_read}
use Rattle.sheet.specs.Readings.{Left, Reader, and_then, part_at}

-- each fault with its number, its layer (1 for a number, 2 for a record) and its place
abbrev pub told : RecordFault → Told
told (InNumber (Cut place)) = record { number = 1; layer = 1; place = place }
told (InNumber (Malformed place)) = record { number = 2; layer = 1; place = place }
told (UnknownKind place) = record { number = 3; layer = 2; place = place }
told (CutText place) = record { number = 1; layer = 2; place = place }
told (BadText place) = record { number = 4; layer = 2; place = place }

-- records by value: the bytes themselves in place of where they lie
pub record TaskValue : Type 0 where
  pub number : Field
  pub rate : Field
  pub period : Field
  pub name : List ℕ
  pub name_place : ℕ

pub data RecordValue : Type 0 where
  task : TaskValue → RecordValue
  note : List ℕ → RecordValue

-- a number at the front, with its place, and what is left behind it
abbrev pub number_at : Left → Result Number NumberFault → Result (Field × Left) RecordFault
number_at left (Ok n) = Ok (record { value = n.value; place = left.place }, record { bytes = drop n.size left.bytes; place = left.place + n.size })
number_at left (Err fault) = Err (InNumber fault)

abbrev pub field_in : Left → Result (Field × Left) RecordFault
field_in left = number_at left (number_read left.bytes left.place)

-- a byte that a name may have
abbrev pub name_byte : ℕ → Bool
name_byte b = nat_le 33 b && nat_le b 126

-- the offset of the first byte that no name may have, with `place` the offset of the first byte
abbrev pub bad_byte : List ℕ → ℕ → Option ℕ
bad_byte [] place = None
bad_byte (b ∷ bytes) place = cond (name_byte b) (bad_byte bytes (place + 1)) (Some place)

-- a text of as many bytes as its length field says
abbrev pub text_in : Field → Left → Result (List ℕ) RecordFault
text_in size left = cond (nat_le size.value (length left.bytes)) (Ok (take size.value left.bytes)) (Err (CutText size.place))

-- a bad byte among those that are there counts before a missing one
abbrev pub unless_bad : Option ℕ → Result (List ℕ) RecordFault → Result (List ℕ) RecordFault
unless_bad (Some place) text = Err (BadText place)
unless_bad None text = text

-- a name has 1 to 12 bytes
abbrev pub name_in : Field → Left → Result (List ℕ) RecordFault
name_in size left =
    cond (nat_le 1 size.value && nat_le size.value 12) (unless_bad (bad_byte (take size.value left.bytes) left.place) (text_in size left)) (Err (BadText size.place))

-- a note has at most 80 bytes
abbrev pub note_text_in : Field → Left → Result (List ℕ) RecordFault
note_text_in size left = cond (nat_le size.value 80) (text_in size left) (Err (BadText size.place))

-- a task: its number, rate and period, and its name behind the name's length; with the offset just past it
abbrev pub task_in : Left → Result (RecordValue × ℕ) RecordFault
task_in left =
    and_then (field_in left) (λ number.
    and_then (field_in number.1) (λ rate.
    and_then (field_in rate.1) (λ period.
    and_then (field_in period.1) (λ size.
    and_then (name_in size.0 size.1) (λ name.
    Ok (task (record { number = number.0; rate = rate.0; period = period.0; name = name; name_place = size.1.place }), size.1.place + length name))))))

-- a note: its text behind the text's length; with the offset just past it
abbrev pub note_in : Left → Result (RecordValue × ℕ) RecordFault
note_in left =
    and_then (field_in left) (λ size.
    and_then (note_text_in size.0 size.1) (λ text.
    Ok (note text, size.1.place + length text)))

-- kind 1 is a task and kind 2 a note
abbrev pub body_in : ℕ → Left → ℕ → Result (RecordValue × ℕ) RecordFault
body_in kind left place = cond (kind == 1) (task_in left) (cond (kind == 2) (note_in left) (Err (UnknownKind place)))

-- the record at an offset of the sheet, with the offset just past it, or none at the end
abbrev pub record_at : Reader RecordValue RecordFault
record_at = part_at body_in

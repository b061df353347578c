-- Bytes read part by part, up to the end or to the first fault.
use Rattle.std.specs.Prelude.{ℕ, zero, suc, ◌+◌, ◌-◌, List, [], ◌∷◌, length, drop, Some, None, Ok, Err, Option, Result}

pub data Reading (A E : Type 0) : Type 0 where
  done : Reading A E
  broken : E → Reading A E
  entry : A → Reading A E → Reading A E

-- what stands at an offset of the bytes, with the offset just past it; none at the end
abbrev pub Reader : Type 0 → Type 0 → Type 0
Reader A E = List ℕ → ℕ → Result (Option (A × ℕ)) E

-- what was read at a place, and then the reading from the offset just past it
abbrev pub read_on : {A E : Type 0} → Result (Option (A × ℕ)) E → (ℕ → Reading A E) → Reading A E
read_on (Ok None) later = done
read_on (Ok (Some found)) later = entry found.0 (later found.1)
read_on (Err fault) later = broken fault

-- at most so many parts
abbrev pub parts : {A E : Type 0} → Reader A E → ℕ → List ℕ → ℕ → Reading A E
parts reader zero bytes place = done
parts reader (suc most) bytes place = read_on (reader bytes place) (parts reader most bytes)

-- the reading from a place on: each part takes a byte at least, so there are no more parts than bytes
unfoldable pub reading_from : {A E : Type 0} → Reader A E → List ℕ → ℕ → Reading A E
reading_from reader bytes place = parts reader (length bytes - place) bytes place

-- what is left to read, and the offset of its first byte
pub record Left : Type 0 where
  pub bytes : List ℕ
  pub place : ℕ

-- the first fault, or what comes of the value
abbrev pub and_then : {A B E : Type 0} → Result A E → (A → Result B E) → Result B E
and_then (Ok x) next = next x
and_then (Err fault) next = Err fault

-- a part opens with a byte that says what it is; `body` reads on from there
abbrev pub opened : {A E : Type 0} → (ℕ → Left → ℕ → Result (A × ℕ) E) → List ℕ → ℕ → Result (Option (A × ℕ)) E
opened body [] place = Ok None
opened body (first ∷ bytes) place = and_then (body first (record { bytes = bytes; place = place + 1 }) place) (λ found. Ok (Some found))

unfoldable pub part_at : {A E : Type 0} → (ℕ → Left → ℕ → Result (A × ℕ) E) → Reader A E
part_at body bytes place = opened body (drop place bytes) place

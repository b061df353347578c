-- The byte that opens a part, and what stands behind it.
use Rattle.std.proofs.Common.{◌≡◌, ℕ, ◌+◌, ◌-◌, ◌<◌, ◌≤◌, List, [], ◌∷◌, length, get_or, take, drop, Some, None, Ok, Option, Result, sym, ap, ◌∙◌, arith}
use Rattle.std.proofs.lemmas.List.{drop_all, take_rest}
use Rattle.sheet.specs.Readings.{Left, and_then, opened, part_at}

-- what the code cuts off behind the first byte
abbrev pub behind : List ℕ → ℕ → Left
behind bytes place = record { bytes = take (length bytes - 1) (drop 1 bytes); place = place + 1 }

-- what the code cuts off at a place
abbrev pub from : List ℕ → ℕ → List ℕ
from bytes place = take (length bytes - place) (drop place bytes)

module _ {A E : Type 0} (body : ℕ → Left → ℕ → Result (A × ℕ) E) where
  -- a body that was read is a part
  abbrev pub whole : Result (A × ℕ) E → Result (Option (A × ℕ)) E
  whole read = and_then read (λ found. Ok (Some found))

  split : (bytes : List ℕ) (place : ℕ) (read : Result (A × ℕ) E) → 0 < length bytes → read ≡ body (get_or bytes 0 0) (behind bytes place) place → whole read ≡ opened body bytes place
  split [] place read h e = absurd (omega arith)
  split (first ∷ bytes) place read h e =
      let rest : take (length (first ∷ bytes) - 1) bytes ≡ bytes = take_rest (first ∷ bytes) 1 in
      ap whole (e ∙ ap (λ l. body first (record { bytes = l; place = place + 1 }) place) rest)

  pub part_split : (bytes : List ℕ) (place : ℕ) (read : Result (A × ℕ) E) → 0 < length (from bytes place) → read ≡ body (get_or (from bytes place) 0 0) (behind (from bytes place) place) place → whole read ≡ part_at body bytes place
  unfolding part_at
  part_split bytes place read h e = split (from bytes place) place read h e ∙ ap (λ l. opened body l place) (take_rest bytes place)

  pub part_none : (bytes : List ℕ) (place : ℕ) → length bytes ≤ place → Ok None ≡ part_at body bytes place
  unfolding part_at
  part_none bytes place h = ap (λ l. opened body l place) (sym (drop_all place bytes h))

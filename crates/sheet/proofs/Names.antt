-- The bytes of a name, from left to right.
use Rattle.std.proofs.Common.{◌≡◌, ℕ, ◌+◌, true, false, not, cond, List, [], ◌∷◌, Some, Option, sym, refl, ap, ◌∙◌, add_assoc, add-zero}
use Rattle.std.specs.List.{position, position_from}
use Rattle.std.specs.Option.{option_map}
use Rattle.std.proofs.lemmas.Iterator.Adapters.{position_from-zero}
use Rattle.sheet.specs.Records.{name_byte, bad_byte}

-- the places from `i` on, counted from the name's first byte
from : (bytes : List ℕ) (place i : ℕ) → option_map (λ k. place + k) (position_from (λ b. not (name_byte b)) i bytes) ≡ bad_byte bytes (place + i)
from [] place i = refl
from (b ∷ bytes) place i =
    elim (name_byte b) as (λ fine. option_map (λ k. place + k) (cond (not fine) (Some i) (position_from (λ b. not (name_byte b)) (i + 1) bytes)) ≡ cond fine (bad_byte bytes (place + i + 1)) (Some (place + i))) [
      | true ↦ from bytes place (i + 1) ∙ ap (bad_byte bytes) (sym (add_assoc place i 1))
      | false ↦ refl
    ]

-- the first byte that no name may have, by its position
pub bad_at : (bytes : List ℕ) (place : ℕ) (found : Option ℕ) → found ≡ position (λ b. not (name_byte b)) bytes → option_map (λ k. place + k) found ≡ bad_byte bytes place
bad_at bytes place found e =
    ap (option_map (λ k. place + k)) (e ∙ position_from-zero (λ b. not (name_byte b)) bytes) ∙ from bytes place 0 ∙ ap (bad_byte bytes) (add-zero place)

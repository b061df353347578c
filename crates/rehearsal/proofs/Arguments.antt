-- The numbers of a call, read one after another.
use Rattle.std.proofs.Common.{◌≡◌, ℕ, suc, ◌+◌, ◌-◌, ◌<◌, List, [], ◌∷◌, ◌++◌, length, set, take, Ok, Err, Result, sym, refl, ap, ◌∙◌, append_assoc, arith}
use Rattle.rehearsal.specs.Scripts.{numbers_in}
use Rattle.sheet.specs.Readings.{Left, and_then}
use Rattle.sheet.specs.Records.{field_in}
use Rattle.sheet.specs.declared.records.Field.{Field}
use Rattle.sheet.specs.declared.records.RecordFault.{RecordFault}
use Rattle.std.proofs.lemmas.List.{take_more_set}

-- the numbers that were read, before those still to come
abbrev pub behind : List ℕ → Result (List ℕ × ℕ) RecordFault → Result (List ℕ × ℕ) RecordFault
behind read later = and_then later (λ more. Ok (read ++ more.0, more.1))

behind_one : (read : List ℕ) (value : ℕ) (r : Result (List ℕ × ℕ) RecordFault) → behind read (behind (value ∷ []) r) ≡ behind (read ++ value ∷ []) r
behind_one read value (Ok more) = ap (λ xs. Ok (xs, more.1)) (sym (append_assoc read (value ∷ []) more.0))
behind_one read value (Err fault) = refl

-- one more number is read and stored
pub behind_more : (xs : List ℕ) (i N : ℕ) (left : Left) (found : Field × Left) → i < N → length xs ≡ N → Ok found ≡ field_in left
    → behind (take i xs) (numbers_in (N - i) left) ≡ behind (take (i + 1) (set xs i found.0.value)) (numbers_in (N - (i + 1)) found.1)
behind_more xs i N left found lt many e =
    let more : N - i ≡ suc (N - (i + 1)) = omega arith in
    ap (λ n. behind (take i xs) (numbers_in n left)) more
    ∙ (ap (λ f. behind (take i xs) (and_then f (λ first. behind (first.0.value ∷ []) (numbers_in (N - (i + 1)) first.1)))) (sym e)
    ∙ (behind_one (take i xs) found.0.value (numbers_in (N - (i + 1)) found.1)
    ∙ ap (λ ys. behind ys (numbers_in (N - (i + 1)) found.1)) (sym (take_more_set xs i found.0.value (omega arith)))))

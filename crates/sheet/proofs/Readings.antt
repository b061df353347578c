-- How a reading unfolds, for loops that read part by part.
use Rattle.std.proofs.Common.{◌≡◌, ℕ, zero, suc, ◌-◌, ◌<◌, ◌≤◌, List, length, Some, None, Ok, Err, sym, refl, ap, ◌∙◌, arith}
use Rattle.sheet.specs.Readings.{Reader, done, broken, entry, read_on, parts, reading_from}

-- a reader that ends with the bytes, and gets on with each part
pub record Advances {A E : Type 0} (reader : Reader A E) : Type 0 where
  pub ends : (bytes : List ℕ) (place : ℕ) → length bytes ≤ place → reader bytes place ≡ Ok None
  pub goes_on : (bytes : List ℕ) (place : ℕ) (found : A) (end : ℕ) → reader bytes place ≡ Ok (Some (found, end)) → (place < end) × (end ≤ length bytes)

module _ {A E : Type 0} (reader : Reader A E) (advances : Advances reader) where
  -- as many steps as there are bytes left are enough
  enough : (n m : ℕ) (bytes : List ℕ) (place : ℕ) → length bytes - place ≤ n → length bytes - place ≤ m → parts reader n bytes place ≡ parts reader m bytes place
  enough zero zero bytes place h k = refl
  enough zero (suc m) bytes place h k = ap (λ r. read_on r (parts reader m bytes)) (sym (advances.ends bytes place (omega arith)))
  enough (suc n) zero bytes place h k = ap (λ r. read_on r (parts reader n bytes)) (advances.ends bytes place (omega arith))
  enough (suc n) (suc m) bytes place h k =
      elim (reader bytes place) as (λ r. reader bytes place ≡ r → read_on r (parts reader n bytes) ≡ read_on r (parts reader m bytes)) [
        | Ok o ↦ elim o as (λ v. reader bytes place ≡ Ok v → read_on (Ok v) (parts reader n bytes) ≡ read_on (Ok v) (parts reader m bytes)) [
          | None ↦ λ e. refl
          | Some found ↦ λ e.
              let on = advances.goes_on bytes place found.0 found.1 e in
              ap (entry found.0) (enough n m bytes found.1 (omega arith) (omega arith))
        ]
        | Err fault ↦ λ e. refl
      ] refl

  -- the reading from a place on is what is read there and the reading behind it
  unfolds : (bytes : List ℕ) (place : ℕ) → reading_from reader bytes place ≡ read_on (reader bytes place) (reading_from reader bytes)
  unfolding reading_from
  unfolds bytes place =
      let later : (p : ℕ) → parts reader (length bytes) bytes p ≡ parts reader (length bytes - p) bytes p = λ p. enough (length bytes) (length bytes - p) bytes p (omega arith) (omega arith) in
      enough (length bytes - place) (suc (length bytes)) bytes place (omega arith) (omega arith) ∙ ap (read_on (reader bytes place)) (λ i p. later p i)

  pub reading_none : (bytes : List ℕ) (place : ℕ) → reader bytes place ≡ Ok None → reading_from reader bytes place ≡ done
  reading_none bytes place e = unfolds bytes place ∙ ap (λ r. read_on r (reading_from reader bytes)) e

  pub reading_entry : (bytes : List ℕ) (place : ℕ) (found : A) (end : ℕ) → reader bytes place ≡ Ok (Some (found, end)) → reading_from reader bytes place ≡ entry found (reading_from reader bytes end)
  reading_entry bytes place found end e = unfolds bytes place ∙ ap (λ r. read_on r (reading_from reader bytes)) e

  pub reading_fault : (bytes : List ℕ) (place : ℕ) (fault : E) → reader bytes place ≡ Err fault → reading_from reader bytes place ≡ broken fault
  reading_fault bytes place fault e = unfolds bytes place ∙ ap (λ r. read_on r (reading_from reader bytes)) e

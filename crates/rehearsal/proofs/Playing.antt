-- What is looked at of the input, and what a call on one task says.
use Rattle.std.proofs.Common.{◌≡◌, ℕ, ◌-◌, ◌≤◌, List, length, take, Some, None, Ok, Err, Option, Result, unwrap_or, sym, refl, ap, ◌∙◌, ⊎_elim, arith}
use Rattle.controller.specs.Admitting.{accepted}
use Rattle.rehearsal.specs.Rehearsals.{said_of}
use Rattle.rules.specs.declared.refusals.Refusal.{Refusal}
use Rattle.std.proofs.lemmas.List.{take_all}
use Rattle.std.specs.Borrow.{Bor}
use Rattle.std.specs.Slice.{IsGetRangeResult}

pub said_accepted : {A : Type 0} (r : Result A Refusal) → said_of (accepted r) ≡ said_of r
said_accepted (Ok a) = refl
said_accepted (Err why) = refl

-- the first bytes, or all of them where there are no more
pub front_made : (limit : ℕ) (input : Bor (List ℕ)) (found : Option (Bor (List ℕ))) (front : Bor (List ℕ)) → IsGetRangeResult input.now 0 limit found → front ≡ unwrap_or found input → (most : ℕ) → limit - 0 ≡ most → front.now ≡ take most input.now
front_made limit input None front h e most is =
    let short : length input.now ≤ most = ⊎_elim (λ k. omega arith) (λ k. omega arith) h.0 in
    ap (λ b. b.now) e ∙ sym (take_all most input.now short)
front_made limit input (Some part) front h e most is = ap (λ b. b.now) e ∙ (h.0.2 ∙ ap (λ n. take n input.now) is)

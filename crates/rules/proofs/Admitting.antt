-- A task that is admitted is sound, and leaves the rates within the processor.
use Rattle.std.proofs.Common.{◌≡◌, ℕ, ◌+◌, ◌-◌, ◌*◌, ◌≤◌, Bool, true, false, Some, None, Ok, Option, ap, arith, rules}
use Rattle.order.specs.Orders.{in_range}
use Rattle.rules.specs.Admission.{admitted, why_not_admitted}
use Rattle.rules.specs.Sound.{Sound}
use Rattle.rules.specs.declared.admission.Reservation.{Reservation}
use Rattle.std.proofs.lemmas.Bool.Decides.{nat_tests}
use Rattle.rules.specs.Refusals.{unless}
use Rattle.rules.specs.declared.refusals.Refusal.{Refusal}

-- what nothing speaks against
pub record Admissible (taken : Bool) (rates : ℕ) (asked : Reservation) : Type 0 where
  pub range : in_range asked.number ≡ true
  pub free : taken ≡ false
  pub rate_low : 1 ≤ asked.rate
  pub rate_high : asked.rate ≤ 1000
  pub period_low : 1 ≤ asked.period
  pub period_high : asked.period ≤ 1000000
  pub worth : 1000 ≤ asked.rate * asked.period
  pub shared : rates + asked.rate ≤ 1000

pub admissible : (taken : Bool) (rates : ℕ) (asked : Reservation) → why_not_admitted taken rates asked ≡ None → Admissible taken rates asked
admissible taken rates asked is = grind (arith, nat_tests)

pub admitted_sound : (T : ℕ) (taken : Bool) (rates : ℕ) (asked : Reservation) → Admissible taken rates asked → Sound T (admitted T asked)
admitted_sound T taken rates asked a =
    let span : (T + asked.period) - T ≡ asked.period = omega arith in
    let product : asked.rate * ((T + asked.period) - T) ≡ asked.rate * asked.period = ap (λ n. asked.rate * n) span in
    search rules

-- an answer that is given is that of nothing speaking against it
pub unless_ok : {A : Type 0} (why : Option Refusal) (a b : A) → unless why a ≡ Ok b → (why ≡ None) × (a ≡ b)
unless_ok None a b is = (cc, cc)
unless_ok (Some why) a b is = cc

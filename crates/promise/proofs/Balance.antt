-- One task's balance: what it was given, gave up and has left is what its rates have given, less the rounding.
use Rattle.std.proofs.Common.{◌≡◌, ℕ, ◌+◌, ◌-◌, ◌*◌, ◌<◌, ◌≤◌, true, Some, None, Option, ⊎_elim, arith}
use Rattle.controller.proofs.Settles.{PassedSlot}
use Rattle.promise.proofs.Sheets.{FreshSlot}
use Rattle.promise.proofs.Steps.{same_times}
use Rattle.promise.specs.Account.{Ledger, changed_by, due, follows, in_slot, leaves, left_in, opened, passing, regranted, served, view}
use Rattle.promise.specs.Promised.{PaidAt}
use Rattle.rules.proofs.Changing.{PeriodFits, RateFits, period_fits, rate_fits}
use Rattle.rules.specs.Changes.{deadline_at, why_not_changed, with_period, with_rate}
use Rattle.rules.specs.Jobs.{Chargeable}
use Rattle.rules.specs.Tasks.{is_ready}
use Rattle.rules.specs.declared.changes.Change.{Change}
use Rattle.rules.specs.declared.changes.Change.TheVariants.{Period, Rate}
use Rattle.rules.specs.declared.phases.Phase.TheVariants.{Finished}
use Rattle.rules.specs.declared.tasks.Task.{Task}
use Rattle.std.proofs.lemmas.Bool.{cases_lt}
use Rattle.std.proofs.lemmas.Bool.Decides.{nat_tests}

-- ticks given, given up and left over all jobs; and what was reckoned with: a release or a change costs less than a tick
abbrev had : Ledger → ℕ
had a = a.since.given + a.since.given_up + left_in a.job

abbrev counted : Ledger → ℕ
counted a = a.since.releases + a.since.changes

pub record Even (T : ℕ) (a : Ledger) : Type 0 where
  pub within : a.job.given + a.job.given_up ≤ a.job.grant
  pub most : 1000 * had a ≤ a.since.rates + a.terms.rate * (a.terms.deadline - T)
  pub least : a.since.rates + a.terms.rate * (a.terms.deadline - T) < 1000 * had a + 1000 * counted a
  -- a finished job has nothing left
  pub over : a.terms.phase ≡ Finished → left_in a.job ≡ 0

abbrev pub EvenSlot : ℕ → Option Ledger → Type 0
EvenSlot T None = Unit {0}
EvenSlot T (Some a) = Even T a

-- a first job
pub even_opened : (T : ℕ) (x : Option Task) → FreshSlot T x → EvenSlot T (in_slot opened x)
even_opened T x f = grind (arith, nat_tests)

-- a change of rate
even_rate : (T rates : ℕ) (a : Ledger) (rate : ℕ) → is_ready a.terms.phase ≡ true → RateFits T rates (view a) rate → Even T a → Even T (regranted (with_rate T (view a) rate) a)
even_rate T rates a rate ready f e =
    let R = a.terms.rate in
    let products = same_times (a.terms.deadline - T) rate (R - rate) R (rate - R) (omega arith) in
    ⊎_elim (λ (low : rate < R). grind (arith, nat_tests)) (λ (high : R ≤ rate). grind (arith, nat_tests)) (cases_lt rate R)

-- a change of period
even_period : (T : ℕ) (a : Ledger) (period : ℕ) → is_ready a.terms.phase ≡ true → T ≤ a.terms.deadline → PeriodFits T (view a) period → Even T a → Even T (regranted (with_period (view a) period) a)
even_period T a period ready coming f e =
    let D = a.terms.deadline in
    let E = deadline_at (view a) period in
    let products = same_times a.terms.rate (E - T) (D - E) (D - T) (E - D) (omega (arith, f.after)) in
    ⊎_elim (λ (early : E < D). grind (arith, nat_tests)) (λ (late : D ≤ E). grind (arith, nat_tests)) (cases_lt E D)

-- every accepted change keeps the balance
pub even_changed : (T rates : ℕ) (how : Change) (a : Ledger) → why_not_changed T rates (view a) how ≡ None → T ≤ a.terms.deadline → Even T a → Even T (changed_by T how a)
even_changed T rates (Rate rate) a clear coming e =
    let ready : is_ready a.terms.phase ≡ true = grind (arith, nat_tests) in
    even_rate T rates a rate ready (rate_fits T rates (view a) rate clear) e
even_changed T rates (Period period) a clear coming e =
    let ready : is_ready a.terms.phase ≡ true = grind (arith, nat_tests) in
    even_period T a period ready coming (period_fits T (view a) period clear) e
even_changed T rates how a clear coming e = grind (arith, nat_tests)

pub even_leaves : (T : ℕ) (a : Ledger) → Even T a → Even T (leaves a)
even_leaves T a e = grind (arith, nat_tests)

-- time passes, no later than the deadline
pub even_passing : (T c : ℕ) (x : Option Ledger) → PassedSlot (T + c) (in_slot view x) → EvenSlot T x → EvenSlot (T + c) (in_slot (passing c) x)
even_passing T c x p e = grind (arith, nat_tests)

-- the turn's task is given ticks that it has left
pub even_served : (T c : ℕ) (x : Option Ledger) → Chargeable c (in_slot view x) → EvenSlot T x → EvenSlot T (in_slot (served c) x)
even_served T c x able e = grind (arith, nat_tests)

-- what is known of a slot when the clock has come to T
pub record Coming (T : ℕ) (a : Ledger) : Type 0 where
  pub even : Even T a
  pub coming : T ≤ a.terms.deadline
  pub ready : a.terms.deadline ≡ T → is_ready a.terms.phase ≡ true → left_in a.job ≡ 0

abbrev pub ComingSlot : ℕ → Option Ledger → Type 0
ComingSlot T None = Unit {0}
ComingSlot T (Some a) = Coming T a

-- every deadline that has come is paid
pub paid_due : (T : ℕ) (x : Option Ledger) → ComingSlot T x → PaidAt T (in_slot (due T) x)
paid_due T x k = grind (arith, nat_tests)

-- and the balance goes on
pub even_due : (T : ℕ) (x : Option Ledger) → ComingSlot T x → EvenSlot T (follows T (in_slot (due T) x))
even_due T x k = grind (arith, nat_tests)

-- Time passes: what is owed grows by no more than the rates, and the turn's task is given a thousand for each tick.
use Rattle.std.proofs.Common.{◌≡◌, ℕ, ◌+◌, ◌-◌, ◌*◌, ◌<◌, ◌≤◌, true, [], ◌∷◌, map, Some, None, sum_by, Option, refl, mul-add, arith}
use Rattle.controller.proofs.Settles.{PassedSlot}
use Rattle.controller.specs.Tasks.{Tasks, rates}
use Rattle.promise.proofs.Steps.{same_times}
use Rattle.promise.specs.Feasible.{Feasible, NoWorse, owed, spare}
use Rattle.rules.specs.Jobs.{charged, due_at}
use Rattle.rules.specs.Tasks.{is_ready, rate_of, wants_to_run}
use Rattle.rules.specs.declared.tasks.Task.{Task}
use Rattle.std.proofs.lemmas.List.Sums.{sum_by-cons}
use Rattle.std.proofs.lemmas.Bool.Decides.{nat_tests}
use Rattle.std.specs.List.{AllByRecursion}

-- c ticks pass, no later than the deadline
drift : (T c u : ℕ) (t : Task) → T + c ≤ t.deadline → T + c ≤ u
    → owed (T + c) u (Some t) + spare T u (Some t) ≤ owed T u (Some t) + spare (T + c) u (Some t) + c * t.rate
drift T c u t due le =
    let shares = same_times t.rate (t.deadline - T) 0 (t.deadline - (T + c)) c (omega arith) in
    let caps = same_times t.rate (u - T) 0 (u - (T + c)) c (omega arith) in
    grind (arith, nat_tests)

-- a ready task is charged c of the ticks that it has left
pub charge : (T c u : ℕ) (t : Task) → T ≤ t.deadline → t.deadline ≤ u → c ≤ t.left → is_ready t.phase ≡ true
    → owed T u (charged c (Some t)) + spare T u (Some t) + 1000 * c ≤ owed T u (Some t) + spare T u (charged c (Some t))
charge T c u t due le few ready = grind (arith, nat_tests)

drift_slot : (T c u : ℕ) (x : Option Task) → PassedSlot (T + c) x → T + c ≤ u → owed (T + c) u x + spare T u x ≤ owed T u x + spare (T + c) u x + c * rate_of x
drift_slot T c u None p le = omega arith
drift_slot T c u (Some t) p le = drift T c u t p.coming le

-- all tasks together
pub drift_all : (T c u : ℕ) (tasks : Tasks) → AllByRecursion (PassedSlot (T + c)) tasks → T + c ≤ u
    → sum_by (owed (T + c) u) tasks + sum_by (spare T u) tasks ≤ sum_by (owed T u) tasks + sum_by (spare (T + c) u) tasks + c * rates tasks
drift_all T c u [] all le = omega arith
drift_all T c u (x ∷ tasks) all le =
    simp sum_by-cons (omega (arith, mul-add c (rate_of x) (rates tasks), drift_slot T c u x all.0 le, drift_all T c u tasks all.1 le))

-- a slot that is owed nothing by u: its task does not want to run, or its deadline is later
abbrev pub Quiet : ℕ → Option Task → Type 0
Quiet u None = Unit {0}
Quiet u (Some t) = wants_to_run t ≡ true → u < t.deadline

quiet_slot : (T u : ℕ) (x : Option Task) → Quiet u x → owed T u x ≡ 0
quiet_slot T u x q = grind (arith, nat_tests)

pub quiet_all : (T u : ℕ) (tasks : Tasks) → AllByRecursion (Quiet u) tasks → sum_by (owed T u) tasks ≡ 0
quiet_all T u [] all = refl
quiet_all T u (x ∷ tasks) all = simp sum_by-cons (omega (arith, quiet_slot T u x all.0, quiet_all T u tasks all.1))

-- a deadline that has come is dealt with: what is left of the job is dropped, and the next one starts even
pub due_no_worse : (T : ℕ) (x : Option Task) → PassedSlot T x → NoWorse T x (due_at T x)
due_no_worse T x p u le = grind (arith, nat_tests)

due_sums : (T u : ℕ) (tasks : Tasks) → T ≤ u → AllByRecursion (PassedSlot T) tasks → sum_by (owed T u) (map (due_at T) tasks) + sum_by (spare T u) tasks ≤ sum_by (owed T u) tasks + sum_by (spare T u) (map (due_at T) tasks)
due_sums T u [] le all = omega arith
due_sums T u (x ∷ tasks) le all = simp sum_by-cons (omega (arith, due_no_worse T x all.0 u le, due_sums T u tasks le all.1))

pub due_feasible : (T : ℕ) (tasks : Tasks) → AllByRecursion (PassedSlot T) tasks → Feasible T tasks → Feasible T (map (due_at T) tasks)
due_feasible T tasks all feasible u le = omega (arith, feasible u le, due_sums T u tasks le all)

-- A task that is admitted leaves the controller tied.
use Rattle.std.proofs.Common.{◌≡◌, ℕ, ◌-◌, ◌<◌, [], length, set, Some, None, Ok, sym, refl, ap, subst, arith, lit≤, rules}
use Rattle.controller.specs.Admitting.{admission_to, is_taken}
use Rattle.controller.specs.Tasks.{Mirrors, Tasks, no_tasks, rates}
use Rattle.controller.specs.Tied.{Tied}
use Rattle.ready.proofs.Slots.{number_high, placed_none, slot_back}
use Rattle.ready.specs.Held.{Held, none}
use Rattle.rules.proofs.Admitting.{admissible, admitted_sound, unless_ok}
use Rattle.rules.specs.Admission.{admitted, why_not_admitted}
use Rattle.rules.specs.Sound.{SoundSlot}
use Rattle.rules.specs.Tasks.{rate_of}
use Rattle.rules.specs.declared.admission.Reservation.{Reservation}
use Rattle.rules.specs.declared.tasks.Task.{Task}
use Rattle.std.proofs.ByRecursion.{All-set}
use Rattle.std.proofs.lemmas.List.Sums.{sum_by-set}

pub admit_tied : (T : ℕ) (tasks : Tasks) (held held' : Held) (ok ok' : Type 0) (asked : Reservation) (t : Task) → Tied T tasks held ok → admission_to T tasks asked ≡ Ok t
    → Mirrors (set tasks (t.number - 1) (Some t)) held' → ok' → Tied T (set tasks (t.number - 1) (Some t)) held' ok'
admit_tied T tasks held held' ok ok' asked t tied is mirror memory =
    let parts = unless_ok (why_not_admitted (is_taken tasks asked.number) (rates tasks) asked) (admitted T asked) t is in
    let a = admissible (is_taken tasks asked.number) (rates tasks) asked parts.0 in
    let sound : SoundSlot T (Some t) = subst (λ u. SoundSlot T (Some u)) parts.1 (admitted_sound T (is_taken tasks asked.number) (rates tasks) asked a) in
    let same : asked.number ≡ t.number = ap (λ u. u.number) parts.1 in
    let rate : asked.rate ≡ t.rate = ap (λ u. u.rate) parts.1 in
    let lt : t.number - 1 < length tasks = omega (arith, tied.mirror.many, number_high [] asked.number (sym a.range), slot_back [] asked.number (sym a.range)) in
    record {
      in_time = tied.in_time;
      mirror = mirror;
      sound = All-set (SoundSlot T) tasks (t.number - 1) (Some t) sound tied.sound;
      shared = omega (arith, sum_by-set rate_of tasks (t.number - 1) (Some t) None lt, a.shared);
      memory = memory;
    }

-- no task, an empty list
pub cleared_tied : (held : Held) (ok : Type 0) → held ≡ none → ok → Tied 0 no_tasks held ok
cleared_tied held ok empty memory =
    record {
      in_time = lit≤ tt;
      mirror = record { many = refl; placed = placed_none {A = Task} (λ t. t.number) 64; same = empty };
      sound = search rules;
      shared = lit≤ tt;
      memory = memory;
    }

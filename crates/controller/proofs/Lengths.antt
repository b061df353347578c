-- What begin rests on: no deadline lies behind the clock, and a task that is handed the processor has a tick left.
use Rattle.std.proofs.Common.{◌≡◌, ℕ, ◌-◌, ◌^◌, ◌<◌, min, Bool, true, false, ltb, [], ◌∷◌, length, get_or, Some, None, fold, Option, sym, ap, ◌∙◌, ⊎_elim, arith}
use Rattle.controller.specs.Tasks.{Mirrors, Tasks}
use Rattle.controller.specs.Tied.{InTable}
use Rattle.controller.specs.Turns.{length_of, nearest}
use Rattle.order.specs.declared.entries.Entry.{Entry}
use Rattle.ready.proofs.Slots.{slot_at-some}
use Rattle.ready.specs.Held.{Held, Least}
use Rattle.rules.specs.Jobs.{left_of, sooner}
use Rattle.rules.specs.Sound.{SoundSlot}
use Rattle.rules.specs.Tasks.{entry_of, is_ready, wants_to_run}
use Rattle.rules.specs.declared.tasks.Task.{Task}
use Rattle.std.proofs.lemmas.List.{get_or-map}
use Rattle.std.proofs.lemmas.Bool.{and_parts, cases_Bool, cond-false, ltb-true}
use Rattle.std.specs.List.{AllByRecursion}

-- the nearest deadline of sound tasks lies after the clock
nearest_from : (T : ℕ) (bound : ℕ) (tasks : Tasks) → T < bound → AllByRecursion (SoundSlot T) tasks → T < fold sooner bound tasks
nearest_from T bound [] lt all = lt
nearest_from T bound (None ∷ tasks) lt all = nearest_from T bound tasks lt all.1
nearest_from T bound (Some t ∷ tasks) lt all = nearest_from T (min bound t.deadline) tasks (let h : T < t.deadline = all.0.coming in omega arith) all.1

pub nearest_after : (T : ℕ) (tasks : Tasks) → T < 2 ^ 40 → AllByRecursion (SoundSlot T) tasks → T < nearest tasks
nearest_after T tasks lt all = nearest_from T (2 ^ 40) tasks lt all

-- the first entry's number is that of a slot
pub first_in_table : (before : Entry → Entry → Bool) (held : Held) (first : Option Entry) → Least before held first → InTable first
first_in_table before held None least = tt
first_in_table before held (Some e) least = let h = slot_at-some held e.number e least.is_held in (omega (arith, h.0), h.1)

-- an entry stands for a task with a tick left
entry_left : (slot : Option Task) (e : Entry) → entry_of slot ≡ Some e → 0 < left_of slot
entry_left None e is = let z : ◌≡◌ {A = ℕ} 0 1 = cc in absurd (omega arith)
entry_left (Some t) e is =
    ⊎_elim
    (λ (w : wants_to_run t ≡ true). ltb-true 0 t.left (and_parts (is_ready t.phase) (ltb 0 t.left) w).1)
    (λ (w : wants_to_run t ≡ false). let n : entry_of (Some t) ≡ None = cond-false (wants_to_run t) (Some (record { number = t.number; deadline = t.deadline; rate = t.rate })) None w in
    let z : ◌≡◌ {A = ℕ} 0 1 = cc in absurd (omega arith))
    (cases_Bool (wants_to_run t))

-- so no turn is of length 0
pub length_some : (before : Entry → Entry → Bool) (T : ℕ) (tasks : Tasks) (held : Held) (first : Option Entry) → T < 2 ^ 40 → AllByRecursion (SoundSlot T) tasks → Mirrors tasks held → Least before held first
    → 0 < length_of T tasks first
length_some before T tasks held None lt sound mirror least = omega (arith, nearest_after T tasks lt sound)
length_some before T tasks held (Some e) lt sound mirror least =
    let h = slot_at-some held e.number e least.is_held in
    let in' : e.number - 1 < length tasks = omega (arith, h.0, h.1, mirror.many) in
    let is : entry_of (get_or tasks (e.number - 1) None) ≡ Some e = sym (get_or-map entry_of tasks (e.number - 1) None None in') ∙ (ap (λ x. get_or x (e.number - 1) None) (sym mirror.same) ∙ h.2) in
    omega (arith, nearest_after T tasks lt sound, entry_left (get_or tasks (e.number - 1) None) e is)

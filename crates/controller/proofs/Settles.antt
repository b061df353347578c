-- What settle rests on: within a turn no deadline is jumped over, the turn's task has the ticks that it is charged,
-- and the tasks are sound again once every deadline that has come is dealt with.
use Rattle.std.proofs.Common.{◌≡◌, ℕ, ◌+◌, ◌-◌, ◌^◌, ◌≤◌, min, Bool, eqb, ltb, [], ◌∷◌, map, length, get_or, set, Some, None, fold, Option, sym, refl, ap, ◌∙◌, subst, arith}
use Rattle.controller.proofs.Lengths.{nearest_after}
use Rattle.controller.specs.Settling.{Runner, charged_in, settled_tasks}
use Rattle.controller.specs.Tasks.{Mirrors, Tasks, rates}
use Rattle.controller.specs.Tied.{Open, Tied}
use Rattle.controller.specs.Turns.{length_of, nearest, runs_of}
use Rattle.controller.specs.declared.states.Runs.{Runs}
use Rattle.controller.specs.declared.states.Runs.TheVariants.{Idle, Task as runs-task}
use Rattle.controller.specs.declared.states.Turn.{Turn}
use Rattle.order.specs.Orders.{Lawful}
use Rattle.order.specs.declared.entries.Entry.{Entry}
use Rattle.ready.proofs.First.{first_least}
use Rattle.ready.proofs.Slots.{slot_at-some}
use Rattle.ready.specs.Held.{Held, Least, Slotted, first_of}
use Rattle.rules.proofs.Passing.{Passed, charged_passed, due_sound, few_ticks, passes}
use Rattle.rules.specs.Jobs.{Chargeable, after_deadline, charged, due_at, left_of, next_job, sooner}
use Rattle.rules.specs.Sound.{SoundSlot}
use Rattle.rules.specs.Tasks.{rate_of}
use Rattle.rules.specs.declared.tasks.Task.{Task}
use Rattle.std.proofs.ByRecursion.{All-get_or, All-map, All-set, All-weaker}
use Rattle.std.proofs.lemmas.List.{set-get_or}
use Rattle.std.proofs.lemmas.List.Sums.{sum_by-cons, sum_by-set}
use Rattle.std.proofs.lemmas.Bool.{cond_both, cond-false, le-ltb, ne_eqb}
use Rattle.std.specs.List.{AllByRecursion}

abbrev pub PassedSlot : ℕ → Option Task → Type 0
PassedSlot T None = Unit {0}
PassedSlot T (Some t) = Passed T t

-- the nearest deadline is at most the bound that it starts from
pub nearest_le : (bound : ℕ) (tasks : Tasks) → fold sooner bound tasks ≤ bound
nearest_le bound [] = omega arith
nearest_le bound (None ∷ tasks) = nearest_le bound tasks
nearest_le bound (Some t ∷ tasks) = omega (arith, nearest_le (min bound t.deadline) tasks)

-- time passes up to the nearest deadline
pub pass_all : (T c bound : ℕ) (tasks : Tasks) → T + c ≤ fold sooner bound tasks → AllByRecursion (SoundSlot T) tasks → AllByRecursion (PassedSlot (T + c)) tasks
pass_all T c bound [] le all = tt
pass_all T c bound (None ∷ tasks) le all = (tt, pass_all T c bound tasks le all.1)
pass_all T c bound (Some t ∷ tasks) le all =
    (passes T c t all.0 (omega (arith, nearest_le (min bound t.deadline) tasks)), pass_all T c (min bound t.deadline) tasks le all.1)

-- every deadline that has come is dealt with
pub due_slot : (T : ℕ) (slot : Option Task) → PassedSlot T slot → SoundSlot T (due_at T slot)
due_slot T None p = tt
due_slot T (Some t) p = due_sound T t p

due_all : (T : ℕ) (tasks : Tasks) → AllByRecursion (PassedSlot T) tasks → AllByRecursion (SoundSlot T) (map (due_at T) tasks)
due_all T tasks all = All-map (SoundSlot T) (due_at T) tasks (All-weaker (PassedSlot T) (λ x. SoundSlot T (due_at T x)) (due_slot T) tasks all)

-- the turn's task passes too when it is charged
charge_slot : (T c : ℕ) (slot : Option Task) → Chargeable c slot → PassedSlot T slot → PassedSlot T (charged c slot)
charge_slot T c None able p = tt
charge_slot T c (Some t) able p = charged_passed T c t _ refl able.0 p

pub charge_all : (T c : ℕ) (runs : Runs) (tasks : Tasks) → length tasks ≡ 64 → Runner runs c tasks → AllByRecursion (PassedSlot T) tasks → AllByRecursion (PassedSlot T) (charged_in runs c tasks)
charge_all T c Idle tasks many runner all = all
charge_all T c (runs-task number deadline) tasks many runner all =
    let slot = get_or tasks (number - 1) None in
    All-set (PassedSlot T) tasks (number - 1) (charged c slot)
    (charge_slot T c slot runner.2 (All-get_or (PassedSlot T) tasks (number - 1) None (omega (arith, runner.0, runner.1)) all)) all

-- rates fall only where a leaving task goes
due_rate : (T : ℕ) (slot : Option Task) → rate_of (due_at T slot) ≤ rate_of slot
due_rate T None = omega arith
due_rate T (Some t) =
    cond_both (eqb t.deadline T) (after_deadline t) (Some t) (λ x. rate_of x ≤ t.rate)
    (λ e. cond_both t.leaving None (Some (next_job t)) (λ x. rate_of x ≤ t.rate) (λ e. omega arith) (λ e. omega arith))
    (λ e. omega arith)

due_rates : (T : ℕ) (tasks : Tasks) → rates (map (due_at T) tasks) ≤ rates tasks
due_rates T [] = omega arith
due_rates T (x ∷ tasks) = simp sum_by-cons (omega (arith, due_rate T x, due_rates T tasks))

charge_rate : (c : ℕ) (slot : Option Task) → rate_of (charged c slot) ≡ rate_of slot
charge_rate c None = refl
charge_rate c (Some t) = refl

charge_rates : (c : ℕ) (runs : Runs) (tasks : Tasks) → length tasks ≡ 64 → Runner runs c tasks → rates (charged_in runs c tasks) ≡ rates tasks
charge_rates c Idle tasks many runner = refl
charge_rates c (runs-task number deadline) tasks many runner =
    let slot = get_or tasks (number - 1) None in
    omega (arith, charge_rate c slot, sum_by-set rate_of tasks (number - 1) (charged c slot) None (omega (arith, runner.0, runner.1)))

-- a slot whose entry leads may be charged what a turn of it lasts
chargeable : (T c : ℕ) (slot : Option Task) → SoundSlot T slot → T ≤ 2 ^ 40 → c ≤ left_of slot → Chargeable c slot
chargeable T c None s le few = tt
chargeable T c (Some t) s le few = (few, omega (arith, few_ticks T t s, s.period_high))

runner_first : (before : Entry → Entry → Bool) (T c : ℕ) (tasks : Tasks) (held : Held) (first : Option Entry) → T ≤ 2 ^ 40 → AllByRecursion (SoundSlot T) tasks → Mirrors tasks held → Least before held first
    → c ≤ length_of T tasks first → Runner (runs_of first) c tasks
runner_first before T c tasks held None le sound mirror least few = tt
runner_first before T c tasks held (Some e) le sound mirror least few =
    let h = slot_at-some held e.number e least.is_held in
    let slot = get_or tasks (e.number - 1) None in
    (omega (arith, h.0), h.1, chargeable T c slot (All-get_or (SoundSlot T) tasks (e.number - 1) None (omega (arith, h.0, h.1, mirror.many)) sound) le (omega (arith, few)))

length_room : (T : ℕ) (tasks : Tasks) (first : Option Entry) → length_of T tasks first ≤ nearest tasks - T
length_room T tasks None = omega arith
length_room T tasks (Some e) = omega arith

module _ (before : Entry → Entry → Bool) (laws : Lawful before) (turn : Turn) (tasks : Tasks) (held : Held) (ok : Type 0) (opened : Open before turn tasks held ok) (slots : Slotted held) (c : ℕ) (few : c ≤ turn.length) where
  few' : c ≤ length_of turn.start tasks (first_of before held)
  few' = subst (λ t. c ≤ t.length) opened.asked few

  -- no deadline is jumped over
  pub in_room : turn.start + c ≤ nearest tasks
  in_room = omega (arith, few', length_room turn.start tasks (first_of before held), nearest_after turn.start tasks opened.early opened.rest.sound)

  pub settles_in_time : turn.start + c ≤ 2 ^ 40
  settles_in_time = omega (arith, in_room, nearest_le (2 ^ 40) tasks)

  -- the turn's task has the ticks that it is charged
  pub runner : Runner turn.runs c tasks
  runner =
      subst (λ t. Runner t.runs c tasks) (sym opened.asked)
      (runner_first before turn.start c tasks held (first_of before held) opened.rest.in_time opened.rest.sound opened.rest.mirror (first_least before laws held slots) few')

  -- the controller is tied again
  pub settled_tied : (held' : Held) (ok' : Type 0) → Mirrors (map (due_at (turn.start + c)) (charged_in turn.runs c tasks)) held' → ok' → Tied (turn.start + c) (map (due_at (turn.start + c)) (charged_in turn.runs c tasks)) held' ok'
  settled_tied held' ok' mirror memory =
      let many = opened.rest.mirror.many in
      record {
        in_time = settles_in_time;
        mirror = mirror;
        sound = due_all (turn.start + c) (charged_in turn.runs c tasks) (charge_all (turn.start + c) c turn.runs tasks many runner (pass_all turn.start c (2 ^ 40) tasks in_room opened.rest.sound));
        shared = omega (arith, due_rates (turn.start + c) (charged_in turn.runs c tasks), charge_rates c turn.runs tasks many runner, opened.rest.shared);
        memory = memory;
      }

-- a turn that is settled with 0 changes nothing
charged_nothing : (slot : Option Task) → charged 0 slot ≡ slot
charged_nothing None = refl
charged_nothing (Some t) =
    let left : t.left - 0 ≡ t.left = omega arith in
    let ran : t.ran + 0 ≡ t.ran = omega arith in
    ap (λ n. slot_with_ticks n (t.ran + 0)) left ∙ ap (λ n. slot_with_ticks t.left n) ran
  where
    slot_with_ticks : ℕ → ℕ → Option Task
    slot_with_ticks l r =
        Some (record {
          number = t.number;
          rate = t.rate;
          period = t.period;
          phase = t.phase;
          leaving = t.leaving;
          release = t.release;
          deadline = t.deadline;
          left = l;
          ran = r;
        })

charged_none : (runs : Runs) (tasks : Tasks) → charged_in runs 0 tasks ≡ tasks
charged_none Idle tasks = refl
charged_none (runs-task number deadline) tasks = ap (set tasks (number - 1)) (charged_nothing (get_or tasks (number - 1) None)) ∙ set-get_or tasks (number - 1) None

-- no deadline of a sound task has come
not_due : (T : ℕ) (slot : Option Task) → SoundSlot T slot → due_at T slot ≡ slot
not_due T None s = refl
not_due T (Some t) s = cond-false (eqb t.deadline T) (after_deadline t) (Some t) (ne_eqb t.deadline T (λ e. omega (arith, s.coming)))

none_due : (T : ℕ) (tasks : Tasks) → AllByRecursion (SoundSlot T) tasks → map (due_at T) tasks ≡ tasks
none_due T [] all = refl
none_due T (x ∷ tasks) all = let head : due_at T x ≡ x = not_due T x all.0 in let rest : map (due_at T) tasks ≡ tasks = none_due T tasks all.1 in cc

pub settled_none : (turn : Turn) (tasks : Tasks) → AllByRecursion (SoundSlot turn.start) tasks → settled_tasks turn 0 tasks ≡ tasks
settled_none turn tasks sound =
    let T = turn.start in
    let same : T + 0 ≡ T = omega arith in
    cond-false (ltb turn.length 0) tasks (map (due_at (T + 0)) (charged_in turn.runs 0 tasks)) (le-ltb turn.length 0 (omega arith))
    ∙ (ap (λ t. map (due_at t) (charged_in turn.runs 0 tasks)) same ∙ (ap (map (due_at T)) (charged_none turn.runs tasks) ∙ none_due T tasks sound))

-- Every call keeps the promise: the account goes along with the controller, and what it reads at each deadline is paid.
use Rattle.std.proofs.Common.{◌≡◌, ℕ, ◌+◌, ◌-◌, ◌^◌, ◌<◌, ◌≤◌, Bool, true, false, cond, eqb, ltb, List, [], ◌∷◌, map, length, get_or, set, Some, None, Ok, Err, Option, Result, sym, refl, ap, ◌∙◌, subst, arith}
use lib.ListN.{length-map}
use Rattle.calls.specs.Answering.{Answer, State, after, answer_to, answers_to, at_rest, in_turn, rest_answer, rest_next, start, turn_answer, turn_at, turn_next}
use Rattle.calls.specs.Asking.{Asked, admit, begin, change, make, settle, withdraw}
use Rattle.calls.specs.declared.exchanges.Denial.{Denial}
use Rattle.calls.specs.declared.exchanges.Denial.TheVariants.{Faulty, OutOfPlace, Refused}
use Rattle.calls.specs.declared.exchanges.Reply.TheVariants.{Done, Made, Opened, Settled, Withdrawn}
use Rattle.controller.proofs.Changing.{changed_kept, same_place, there}
use Rattle.controller.proofs.Settles.{PassedSlot, charge_all, in_room, pass_all, runner}
use Rattle.controller.specs.Admitting.{accepted, admission_to, is_taken, with_task}
use Rattle.controller.specs.Changing.{change_at, on_task, task_at}
use Rattle.controller.specs.Making.{made, made_tasks, make_answer}
use Rattle.controller.specs.Settling.{charged_in, settled_tasks}
use Rattle.controller.specs.Settling.{Runner as RunsIn}
use Rattle.controller.specs.Tasks.{Tasks, rates}
use Rattle.controller.specs.Tied.{Open}
use Rattle.controller.specs.Withdrawing.{departing, with_slot, withdrawal_at}
use Rattle.controller.specs.declared.faults.SheetFault.{SheetFault}
use Rattle.controller.specs.declared.states.Runs.{Runs}
use Rattle.controller.specs.declared.states.Runs.TheVariants.{Idle, Task as runs-task}
use Rattle.controller.specs.declared.states.Turn.{Turn}
use Rattle.order.specs.Orders.{Lawful}
use Rattle.order.specs.declared.entries.Entry.{Entry}
use Rattle.promise.proofs.Balance.{ComingSlot, EvenSlot, even_changed, even_due, even_leaves, even_opened, even_passing, even_served, paid_due}
use Rattle.promise.proofs.Calls.{charged_feasible, paid_in_full}
use Rattle.promise.specs.Feasible.{Feasible}
use Rattle.promise.proofs.Good.{Good, good_admitted, good_changed, good_none, good_settled, good_withdrawn, mirror_slotted}
use Rattle.promise.proofs.Serving.{rightly}
use Rattle.promise.proofs.Sheets.{FreshSlot, all_alike, admitted_fresh, made_enrolled}
use Rattle.promise.proofs.Viewing.{InLedgers, view-changed, view-due, view-given, view_made, view-opened, view-passing}
use Rattle.promise.specs.Account.{Account, Ledger, Ledgers, at, changed_by, due, follows, fresh, given_in, in_slot, leaves, moved, opened, passing, served, state_in, view}
use Rattle.promise.specs.Carrying.{written_over}
use Rattle.promise.specs.Promised.{OneByOne, PaidAt, PaidBy, Promise, TurnBy}
use Rattle.rules.proofs.Admitting.{unless_ok}
use Rattle.rules.specs.Admission.{admitted, why_not_admitted}
use Rattle.rules.proofs.Changing.{changed_split}
use Rattle.rules.specs.Changes.{becomes, changed, why_not_changed}
use Rattle.rules.specs.Jobs.{Chargeable}
use Rattle.rules.specs.Tasks.{entry_of}
use Rattle.rules.specs.Withdrawals.{goes_at_once, marked, why_not_withdrawn, withdrawn, withdrawn_slot}
use Rattle.rules.specs.declared.admission.Reservation.{Reservation}
use Rattle.rules.specs.declared.changes.Change.{Change}
use Rattle.rules.specs.declared.refusals.Refusal.{Refusal}
use Rattle.rules.specs.declared.refusals.Refusal.TheVariants.{ClockAtEnd, CountTooHigh}
use Rattle.rules.specs.declared.tasks.Task.{Task}
use Rattle.std.proofs.ByRecursion.{All-from_get_or, All-get_or, All-map, All-set, All-weaker}
use Rattle.std.proofs.lemmas.List.{get_or-map, map-set}
use Rattle.std.proofs.lemmas.Bool.{eqb-false, le-ltb, ltb-false}
use Rattle.std.proofs.lemmas.Bool.Decides.{nat_tests}
use Rattle.std.specs.List.{AllByRecursion}
use Rattle.std.specs.Result.{result_map_both}

-- an open turn is the one that the tasks ask for
abbrev OpenIn : (Entry → Entry → Bool) → ℕ → Tasks → Option Turn → Type 0
OpenIn before T tasks None = Unit {0}
OpenIn before T tasks (Some turn) = (turn.start ≡ T) × Open before turn tasks (map entry_of tasks) (Unit {0})

-- what holds between two calls
record Standing (before : Entry → Entry → Bool) (a : Account) : Type 0 where
  good : Good a.clock (state_in a).tasks
  even : AllByRecursion (EvenSlot a.clock) a.ledgers
  open' : OpenIn before a.clock (state_in a).tasks a.turn

-- a call that is answered r and leads to the state s
record Step (before : Entry → Entry → Bool) (a : Account) (asked : Asked) (r : Answer) (s : State) : Type 0 where
  turn : TurnBy before r (state_in a)
  paid : PaidBy r a
  goes : state_in (moved asked r a) ≡ s
  good : Good s.clock s.tasks
  even : AllByRecursion (EvenSlot (moved asked r a).clock) (moved asked r a).ledgers
  open' : OpenIn before s.clock s.tasks s.turn

goes_on : (before : Entry → Entry → Bool) (a : Account) (asked : Asked) (r : Answer) (s : State) → Step before a asked r s → Standing before (moved asked r a)
goes_on before a asked r s step = grind (arith, nat_tests)

-- a call that is denied, and changes nothing
stays : (before : Entry → Entry → Bool) (a : Account) → Standing before a → (asked : Asked) (why : Denial) → moved asked (Err why) a ≡ a → Step before a asked (Err why) (state_in a)
stays before a st asked why same =
    record {
      turn = tt;
      paid = tt;
      goes = ap state_in same;
      good = st.good;
      even = rw same st.even;
      open' = st.open';
    }

-- the ledger behind a task
ledger_of : (x : Option Ledger) (t : Task) → in_slot view x ≡ Some t → (l : Ledger) × (x ≡ Some l) × (view l ≡ t)
ledger_of None t is = absurd cc
ledger_of (Some l) t is = (l, refl, cc)

-- a slot that is marked
slot_marked : (T : ℕ) (t u : Task) (b : Bool) → cond b None (Some (marked t)) ≡ Some u → marked t ≡ u
slot_marked T t u b is = grind (arith, nat_tests)

abbrev seen : Ledgers → Tasks
seen ledgers = map (in_slot view) ledgers

-- calls at rest
module _ (before : Entry → Entry → Bool) (laws : Lawful before) (T : ℕ) (ledgers : Ledgers) (good : Good T (seen ledgers)) (even : AllByRecursion (EvenSlot T) ledgers) where
  abbrev at_rest_in : Account
  at_rest_in = record { clock = T; ledgers = ledgers; turn = None }

  make_step : (sheet : List ℕ) (o : Result Tasks SheetFault) → made sheet ≡ o → Step before at_rest_in (make sheet) (result_map_both Made Faulty (make_answer o)) (at_rest 0 (made_tasks o))
  make_step sheet (Ok tasks) is =
      let e = made_enrolled sheet in
      let same : made_tasks (made sheet) ≡ tasks = ap made_tasks is in
      record {
        turn = tt;
        paid = tt;
        goes = ap (at_rest 0) (view_made 0 (made_tasks (made sheet)) e.fresh ∙ same);
        good = subst (Good 0) same e.good;
        even = All-map (EvenSlot 0) (in_slot opened) (made_tasks (made sheet)) (All-weaker (FreshSlot 0) (λ x. EvenSlot 0 (in_slot opened x)) (even_opened 0) (made_tasks (made sheet)) e.fresh);
        open' = tt;
      }
  make_step sheet (Err fault) is = record { turn = tt; paid = tt; goes = refl; good = good_none; even = all_alike (EvenSlot 0) tt 64; open' = tt }

  admit_step : (asked : Reservation) (o : Result Task Refusal) → admission_to T (seen ledgers) asked ≡ o → Step before at_rest_in (admit asked) (result_map_both (λ done. Done) Refused (accepted o)) (at_rest T (with_task o (seen ledgers)))
  admit_step asked (Err why) is = grind (arith, nat_tests)
  admit_step asked (Ok t) is =
      let u = admitted T asked in
      let i = asked.number - 1 in
      let p = unless_ok (why_not_admitted (is_taken (seen ledgers) asked.number) (rates (seen ledgers)) asked) u t is in
      record {
        turn = tt;
        paid = tt;
        goes = rw (map-set (in_slot view) ledgers i (Some (opened u)), view-opened u refl, ← p.1);
        good = good_admitted T (seen ledgers) asked good (Ok t) is;
        even = All-set (EvenSlot T) ledgers i (Some (opened u)) (even_opened T (Some u) (admitted_fresh T asked)) even;
        open' = tt;
      }

  -- the ledger of a number that a task has
  record Found (number : ℕ) (t : Task) : Type 0 where
    ledger : Ledger
    slot : get_or ledgers (number - 1) None ≡ Some ledger
    views : view ledger ≡ t
    balanced : EvenSlot T (Some ledger)
    coming : T ≤ ledger.terms.deadline

  found : (number : ℕ) (t : Task) → task_at (seen ledgers) number ≡ Some t → Found number t
  found number t at =
      let h = there T (seen ledgers) (map entry_of (seen ledgers)) (Unit {0}) good.tied number t at in
      let i = number - 1 in
      let lt : i < length ledgers = omega (arith, h.low, h.high, good.tied.mirror.many, length-map ledgers (in_slot view)) in
      let l = ledger_of (get_or ledgers i None) t (sym (get_or-map (in_slot view) ledgers i None None lt) ∙ h.slot) in
      let same : l.0.terms.deadline ≡ t.deadline = ap (λ x. x.deadline) l.2 in
      record { ledger = l.0; slot = l.1; views = l.2; balanced = subst (EvenSlot T) l.1 (All-get_or (EvenSlot T) ledgers i None lt even); coming = omega (arith, h.sound.coming) }

  -- one ledger written anew
  rewritten : (number : ℕ) (t : Task) (f : Ledger → Ledger) (at : Found number t) → map (in_slot view) (set ledgers (number - 1) (in_slot f (get_or ledgers (number - 1) None))) ≡ set (seen ledgers) (number - 1) (Some (view (f at.ledger)))
  rewritten number t f at = rw (map-set (in_slot view) ledgers (number - 1) (in_slot f (get_or ledgers (number - 1) None)), at.slot)

  change_step : (number : ℕ) (how : Change) (o : Option Task) → task_at (seen ledgers) number ≡ o → (r : Result Task Refusal) → on_task o (λ t. changed T (rates (seen ledgers)) t how) ≡ r
      → Step before at_rest_in (change number how) (result_map_both (λ done. Done) Refused (accepted r)) (at_rest T (with_task r (seen ledgers)))
  change_step number how o at (Err why) is = grind (arith, nat_tests)
  change_step number how None at (Ok u) is = absurd cc
  change_step number how (Some t) at (Ok u) is =
      let ts = seen ledgers in
      let f = found number t at in
      let l = f.ledger in
      let p = unless_ok (why_not_changed T (rates ts) t how) (becomes T t how) u (sym (changed_split T (rates ts) t how) ∙ is) in
      let clear : why_not_changed T (rates ts) (view l) how ≡ None = rw f.views p.0 in
      let kept = changed_kept T ts (map entry_of ts) (Unit {0}) good.tied number t at how u is in
      let place : number - 1 ≡ u.number - 1 = same_place T ts (map entry_of ts) (Unit {0}) good.tied number t at u kept in
      let after' : view (changed_by T how l) ≡ u = rw (view-changed T how l, f.views) p.1 in
      record {
        turn = tt;
        paid = tt;
        goes = rw (rewritten number t (changed_by T how) f, after', place);
        good = good_changed T ts number how good (Some t) at (Ok u) is;
        even = All-set (EvenSlot T) ledgers (number - 1) (in_slot (changed_by T how) (get_or ledgers (number - 1) None))
            (rw f.slot (even_changed T (rates ts) how l clear f.coming f.balanced)) even;
        open' = tt;
      }

  withdraw_step : (number : ℕ) (o : Option Task) → task_at (seen ledgers) number ≡ o → (r : Result (Option Task) Refusal) → on_task o (withdrawn T) ≡ r
      → Step before at_rest_in (withdraw number) (result_map_both Withdrawn Refused (departing r)) (at_rest T (with_slot number r (seen ledgers)))
  withdraw_step number o at (Err why) is = grind (arith, nat_tests)
  withdraw_step number None at (Ok slot) is = absurd cc
  withdraw_step number (Some t) at (Ok None) is =
      record {
        turn = tt;
        paid = tt;
        goes = ap (at_rest T) (map-set (in_slot view) ledgers (number - 1) None);
        good = good_withdrawn T (seen ledgers) number good (Some t) at (Ok None) is;
        even = All-set (EvenSlot T) ledgers (number - 1) None tt even;
        open' = tt;
      }
  withdraw_step number (Some t) at (Ok (Some u)) is =
      let ts = seen ledgers in
      let f = found number t at in
      let l = f.ledger in
      let p = unless_ok (why_not_withdrawn t) (withdrawn_slot T t) (Some u) is in
      let after' : view (leaves l) ≡ u = ap marked f.views ∙ slot_marked T t u (goes_at_once T t) p.1 in
      record {
        turn = tt;
        paid = tt;
        goes = rw (rewritten number t leaves f, after');
        good = good_withdrawn T ts number good (Some t) at (Ok (Some u)) is;
        even = All-set (EvenSlot T) ledgers (number - 1) (in_slot leaves (get_or ledgers (number - 1) None)) (rw f.slot (even_leaves T l f.balanced)) even;
        open' = tt;
      }

  begin_step : (b : Bool) → (b ≡ false → T < 2 ^ 40)
      → Step before at_rest_in begin (cond b (Err (Refused ClockAtEnd)) (Ok (Opened (turn_at before T (seen ledgers))))) (cond b (at_rest T (seen ledgers)) (in_turn (turn_at before T (seen ledgers)) (seen ledgers)))
  begin_step true early = grind (arith, nat_tests)
  begin_step false early =
      record {
        turn = rightly before laws T (seen ledgers) good.tied (early refl);
        paid = tt;
        goes = refl;
        good = good;
        even = even;
        open' = (refl, record { rest = good.tied; early = early refl; asked = refl });
      }

  rest_step : (asked : Asked) → Step before at_rest_in asked (rest_answer before T (seen ledgers) asked) (rest_next before T (seen ledgers) asked)
  rest_step (make sheet) = make_step sheet (made sheet) refl
  rest_step (admit asked) = admit_step asked (admission_to T (seen ledgers) asked) refl
  rest_step (change number how) = change_step number how (task_at (seen ledgers) number) refl (change_at T (seen ledgers) number how) refl
  rest_step (withdraw number) = withdraw_step number (task_at (seen ledgers) number) refl (withdrawal_at T (seen ledgers) number) refl
  rest_step begin = begin_step (eqb T (2 ^ 40)) (λ is. let apart = eqb-false T (2 ^ 40) is in omega (arith, good.tied.in_time))
  rest_step (settle count) = grind (arith, nat_tests)

-- time passes for all ledgers
passing_even : (T c : ℕ) (ledgers : Ledgers) → AllByRecursion (EvenSlot T) ledgers → AllByRecursion (PassedSlot (T + c)) (seen ledgers) → AllByRecursion (EvenSlot (T + c)) (map (in_slot (passing c)) ledgers)
passing_even T c [] even passed = tt
passing_even T c (x ∷ ledgers) even passed = (even_passing T c x passed.0 even.0, passing_even T c ledgers even.1 passed.1)

given_even : (T c : ℕ) (runs : Runs) (ledgers : Ledgers) → length ledgers ≡ 64 → RunsIn runs c (seen ledgers) → AllByRecursion (EvenSlot T) ledgers → AllByRecursion (EvenSlot T) (given_in runs c ledgers)
given_even T c Idle ledgers many r even = even
given_even T c (runs-task number deadline) ledgers many r even =
    let i = number - 1 in
    let lt : i < length ledgers = omega (arith, r.0, r.1) in
    let slot = get_or ledgers i None in
    All-set (EvenSlot T) ledgers i (in_slot (served c) slot)
    (even_served T c slot (subst (Chargeable c) (get_or-map (in_slot view) ledgers i None None lt) r.2) (All-get_or (EvenSlot T) ledgers i None lt even)) even

in_ledgers : (c : ℕ) (runs : Runs) (ledgers : Ledgers) (tasks : Tasks) → length ledgers ≡ 64 → RunsIn runs c tasks → InLedgers runs ledgers
in_ledgers c runs ledgers tasks many r = grind (arith, nat_tests)

-- what is known of each ledger when the clock has come to T
all_coming : (T : ℕ) (ledgers : Ledgers) → AllByRecursion (EvenSlot T) ledgers → AllByRecursion (PassedSlot T) (seen ledgers) → Feasible T (seen ledgers) → AllByRecursion (ComingSlot T) ledgers
all_coming T ledgers even passed feasible = All-from_get_or (ComingSlot T) ledgers None (λ i lt. one i lt (get_or ledgers i None) refl)
  where
    one : (i : ℕ) → i < length ledgers → (x : Option Ledger) → get_or ledgers i None ≡ x → ComingSlot T x
    one i lt None is = tt
    one i lt (Some a) is =
        let lt' : i < length (seen ledgers) = omega (arith, length-map ledgers (in_slot view)) in
        let task : get_or (seen ledgers) i None ≡ Some (view a) = rw (get_or-map (in_slot view) ledgers i None None lt, is) in
        record {
          even = rw is at (All-get_or (EvenSlot T) ledgers i None lt even);
          coming = (rw task at (All-get_or (PassedSlot T) (seen ledgers) i None lt' passed)).coming;
          ready = λ came ready. paid_in_full T (seen ledgers) feasible i (view a) lt' task came ready;
        }

-- calls in an open turn
module _ (before : Entry → Entry → Bool) (laws : Lawful before) (turn : Turn) (ledgers : Ledgers) (good : Good turn.start (seen ledgers)) (even : AllByRecursion (EvenSlot turn.start) ledgers)
    (opened' : Open before turn (seen ledgers) (map entry_of (seen ledgers)) (Unit {0})) where
  abbrev in_turn_in : Account
  in_turn_in = record { clock = turn.start; ledgers = ledgers; turn = Some turn }

  standing : Standing before in_turn_in
  standing = record { good = good; even = even; open' = (refl, opened') }

  module _ (c : ℕ) (few : c ≤ turn.length) where
    abbrev T : ℕ
    T = turn.start + c

    -- the ledgers when the turn's ticks have been given
    abbrev ticked : Ledgers
    ticked = given_in turn.runs c (map (in_slot (passing c)) ledgers)

    many : length (map (in_slot (passing c)) ledgers) ≡ 64
    many = length-map ledgers (in_slot (passing c)) ∙ (sym (length-map ledgers (in_slot view)) ∙ opened'.rest.mirror.many)

    runs' : RunsIn turn.runs c (seen ledgers)
    runs' = runner before laws turn (seen ledgers) (map entry_of (seen ledgers)) (Unit {0}) opened' (mirror_slotted (seen ledgers) opened'.rest.mirror) c few

    passed : AllByRecursion (PassedSlot T) (seen ledgers)
    passed =
        pass_all turn.start c (2 ^ 40) (seen ledgers) (in_room before laws turn (seen ledgers) (map entry_of (seen ledgers)) (Unit {0}) opened' (mirror_slotted (seen ledgers) opened'.rest.mirror) c few) opened'.rest.sound

    seen_ticked : seen ticked ≡ charged_in turn.runs c (seen ledgers)
    seen_ticked =
        rw (← view-passing c ledgers) (view-given turn.runs c (map (in_slot (passing c)) ledgers) (in_ledgers c turn.runs (map (in_slot (passing c)) ledgers) (seen ledgers) many runs'))

    coming : AllByRecursion (ComingSlot T) ticked
    coming =
        all_coming T ticked
        (given_even T c turn.runs (map (in_slot (passing c)) ledgers) many (rw (view-passing c ledgers) runs') (passing_even turn.start c ledgers even passed))
        (rw seen_ticked (charge_all T c turn.runs (seen ledgers) opened'.rest.mirror.many runs' passed))
        (rw seen_ticked (charged_feasible before laws turn (seen ledgers) (map entry_of (seen ledgers)) (mirror_slotted (seen ledgers) opened'.rest.mirror) opened' c few good.feasible))

    -- the count is what the clock has moved by
    moved_by : c ≡ T - turn.start
    moved_by = omega arith

    settled_step : Step before in_turn_in (settle c) (Ok (Settled T)) (at_rest T (settled_tasks turn c (seen ledgers)))
    settled_step =
        record {
          turn = tt;
          paid = rw (← moved_by) (All-map (PaidAt T) (in_slot (due T)) ticked (All-weaker (ComingSlot T) (λ x. PaidAt T (in_slot (due T) x)) (paid_due T) ticked coming));
          goes = rw (← moved_by, view-due T ticked, seen_ticked, le-ltb turn.length c few);
          good = good_settled before laws turn (seen ledgers) opened' good.feasible c few;
          even = rw (← moved_by)
              (All-map (EvenSlot T) (follows T) (map (in_slot (due T)) ticked) (All-map (λ y. EvenSlot T (follows T y)) (in_slot (due T)) ticked (All-weaker (ComingSlot T) (λ x. EvenSlot T (follows T (in_slot (due T) x))) (even_due T) ticked coming)));
          open' = tt;
        }

  settle_step : (c : ℕ) (b : Bool) → (b ≡ false → c ≤ turn.length)
      → Step before in_turn_in (settle c) (cond b (Err (Refused CountTooHigh)) (Ok (Settled (turn.start + c)))) (cond b (in_turn turn (seen ledgers)) (at_rest (turn.start + c) (settled_tasks turn c (seen ledgers))))
  settle_step c true few = stays before in_turn_in standing (settle c) (Refused CountTooHigh) refl
  settle_step c false few = settled_step c (few refl)

  turn_step : (asked : Asked) → Step before in_turn_in asked (turn_answer turn asked) (turn_next turn (seen ledgers) asked)
  turn_step (settle c) = settle_step c (ltb turn.length c) (λ is. ltb-false turn.length c is)
  turn_step asked = stays before in_turn_in standing asked OutOfPlace refl

module _ (before : Entry → Entry → Bool) (laws : Lawful before) where
  any_step : (T : ℕ) (ledgers : Ledgers) (turn : Option Turn) → Standing before (record { clock = T; ledgers = ledgers; turn = turn }) → (asked : Asked)
      → Step before (record { clock = T; ledgers = ledgers; turn = turn }) asked (answer_to before (state_in (record { clock = T; ledgers = ledgers; turn = turn })) asked) (after before (state_in (record { clock = T; ledgers = ledgers; turn = turn })) asked)
  any_step T ledgers None st asked = rest_step before laws T ledgers st.good st.even asked
  any_step T ledgers (Some turn) st asked =
      let P : ℕ → Type 0 = λ n. Good n (seen ledgers) → AllByRecursion (EvenSlot n) ledgers → Step before (record { clock = n; ledgers = ledgers; turn = Some turn }) asked (turn_answer turn asked) (turn_next turn (seen ledgers) asked) in
      subst P st.open'.0 (λ good even. turn_step before laws turn ledgers good even st.open'.1 asked) st.good st.even

  -- the promise for every list of calls, from any account that stands
  promised : (a : Account) → Standing before a → (asked : List Asked) (places : List Answer) → Promise before a asked (written_over (answers_to before (state_in a) asked) places)
  promised a st [] places = tt
  promised a st (q ∷ later) [] = tt
  promised a st (q ∷ later) (p ∷ places) =
      let r = answer_to before (state_in a) q in
      let step = any_step a.clock a.ledgers a.turn st q in (
        record { right = refl; turn = step.turn; paid = step.paid },
        rw (← step.goes) (promised (moved q r a) (goes_on before a q r (after before (state_in a) q) step) later places),
      )

  fresh_stands : Standing before fresh
  fresh_stands = record { good = good_none; even = all_alike (EvenSlot 0) tt 64; open' = tt }

  -- answers that were written over any places
  pub promise_over : (asked : List Asked) (places answers : List Answer) → answers ≡ written_over (answers_to before start asked) places → Promise before fresh asked answers
  promise_over asked places answers is = subst (Promise before fresh asked) (sym is) (promised fresh fresh_stands asked places)

-- answers that are written over themselves stay
written_same : (answers : List Answer) → answers ≡ written_over answers answers
written_same [] = refl
written_same (r ∷ answers) = ap (λ rs. r ∷ rs) (written_same answers)

pub one_by_one : OneByOne
one_by_one before laws asked = promise_over before laws asked (answers_to before start asked) (answers_to before start asked) (written_same (answers_to before start asked))

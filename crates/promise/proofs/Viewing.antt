-- The account and the controller agree: a task seen through its ledger is the task.
use Rattle.std.proofs.Common.{◌≡◌, ℕ, ◌-◌, ◌<◌, ◌≤◌, [], ◌∷◌, map, length, get_or, None, Option, refl, arith}
use Rattle.controller.specs.Settling.{charged_in}
use Rattle.controller.specs.Tasks.{Tasks}
use Rattle.controller.specs.declared.states.Runs.{Runs}
use Rattle.controller.specs.declared.states.Runs.TheVariants.{Idle, Task as runs-task}
use Rattle.promise.proofs.Sheets.{FreshSlot}
use Rattle.promise.specs.Account.{Ledger, Ledgers, changed_by, due, follows, forgone, given_in, in_slot, left_in, opened, passing, regranted, served, view}
use Rattle.rules.specs.Changes.{becomes}
use Rattle.rules.specs.Jobs.{charged, due_at}
use Rattle.rules.specs.declared.changes.Change.{Change}
use Rattle.rules.specs.declared.tasks.Task.{Task}
use Rattle.std.proofs.lemmas.List.{get_or-map, map-set}
use Rattle.std.proofs.lemmas.Bool.Decides.{nat_tests}
use Rattle.std.specs.List.{AllByRecursion}

pub view-opened : (t : Task) → t.ran ≡ 0 → view (opened t) ≡ t
view-opened t none = grind (arith, nat_tests)

-- a change that moves the ticks through the grant, and one that gives some up, for any task that comes of it
pub view-regranted : (u : Task) (a : Ledger) → u.ran ≡ a.job.given → view (regranted u a) ≡ u
view-regranted u a ran = grind (arith, nat_tests)

pub view-forgone : (u : Task) (a : Ledger) → u.ran ≡ a.job.given → u.left ≤ left_in a.job → view (forgone u a) ≡ u
view-forgone u a ran less = grind (arith, nat_tests)

pub view-changed : (T : ℕ) (how : Change) (a : Ledger) → view (changed_by T how a) ≡ becomes T (view a) how
view-changed T how a = grind (arith, nat_tests)

-- ticks that a task is given
served_charged : (c : ℕ) (x : Option Ledger) → in_slot view (in_slot (served c) x) ≡ charged c (in_slot view x)
served_charged c x = grind (arith, nat_tests)

-- time that passes shows only in the sums
pub view-passing : (c : ℕ) (ledgers : Ledgers) → map (in_slot view) (map (in_slot (passing c)) ledgers) ≡ map (in_slot view) ledgers
view-passing c [] = refl
view-passing c (x ∷ ledgers) = let later = view-passing c ledgers in grind (arith, nat_tests)

-- the turn's task has a slot
abbrev pub InLedgers : Runs → Ledgers → Type 0
InLedgers Idle ledgers = Unit {0}
InLedgers (runs-task number deadline) ledgers = number - 1 < length ledgers

pub view-given : (runs : Runs) (c : ℕ) (ledgers : Ledgers) → InLedgers runs ledgers → map (in_slot view) (given_in runs c ledgers) ≡ charged_in runs c (map (in_slot view) ledgers)
view-given Idle c ledgers in' = refl
view-given (runs-task number deadline) c ledgers in' =
    let slot = get_or ledgers (number - 1) None in
    rw (map-set (in_slot view) ledgers (number - 1) (in_slot (served c) slot), served_charged c slot, get_or-map (in_slot view) ledgers (number - 1) None None in')

follows_due : (T : ℕ) (x : Option Ledger) → in_slot view (follows T (in_slot (due T) x)) ≡ due_at T (in_slot view x)
follows_due T x = grind (arith, nat_tests)

pub view-due : (T : ℕ) (ledgers : Ledgers) → map (in_slot view) (map (follows T) (map (in_slot (due T)) ledgers)) ≡ map (due_at T) (map (in_slot view) ledgers)
view-due T [] = refl
view-due T (x ∷ ledgers) = let one = follows_due T x in let later = view-due T ledgers in grind (arith, nat_tests)

-- the tasks of a sheet, seen through their first ledgers
pub view_made : (T : ℕ) (tasks : Tasks) → AllByRecursion (FreshSlot T) tasks → map (in_slot view) (map (in_slot opened) tasks) ≡ tasks
view_made T [] all = refl
view_made T (x ∷ tasks) all = let later = view_made T tasks all.1 in grind (arith, nat_tests)

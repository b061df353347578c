-- A task of the sheet that is refused.
use Rattle.std.proofs.Common.{◌≡◌, ℕ, Ok, Err, Result, ap, ◌∙◌, arith}
use Rattle.controller.specs.Admitting.{accepted}
use Rattle.controller.specs.Faults.{place_of}
use Rattle.controller.specs.Making.{joined}
use Rattle.controller.specs.Tasks.{Tasks}
use Rattle.controller.specs.declared.faults.SheetFault.TheVariants.{InTable}
use Rattle.rules.specs.declared.refusals.Refusal.{Refusal}
use Rattle.rules.specs.declared.tasks.Task.{Task}
use Rattle.sheet.specs.Records.{TaskValue}

-- a task that was refused is a fault at the field that the refusal speaks of
pub join_refused : (outcome : Result Task Refusal) (asked : TaskValue) (tasks : Tasks) (why : Refusal) (place : ℕ) → Err why ≡ accepted outcome → place ≡ place_of why asked → Err (InTable why place) ≡ joined outcome asked tasks
join_refused (Ok t) asked tasks why place is at = let z : ◌≡◌ {A = ℕ} 0 1 = cc in absurd (omega arith)
join_refused (Err other) asked tasks why place is at = let same : why ≡ other = cc in ap (λ p. Err (InTable why p)) at ∙ ap (λ w. Err (InTable w (place_of w asked))) same

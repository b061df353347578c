-- Why no deadline is missed: what the tasks are owed above their rates never exceeds what others have had before theirs.
use Rattle.std.specs.Prelude.{ℕ, ◌+◌, ◌-◌, ◌*◌, ◌≤◌, min, cond, Some, None, sum_by, Option, nat_le, nat_lt}
use Rattle.controller.specs.Tasks.{Tasks}
use Rattle.rules.specs.Changes.{share}
use Rattle.rules.specs.Tasks.{is_ready}
use Rattle.rules.specs.declared.tasks.Task.{Task}

-- thousandths that a ready job is owed above its share until the deadline
abbrev pub behind : ℕ → Task → ℕ
behind T t = cond (is_ready t.phase) (1000 * t.left - share T t) 0

-- thousandths that a job which has run had before its share
abbrev pub ahead : ℕ → Task → ℕ
ahead T t = cond (nat_lt 0 t.ran) (share T t - 1000 * t.left) 0

-- what a slot's task is owed by the time u, and what it can spare until then
abbrev pub owed : ℕ → ℕ → Option Task → ℕ
owed T u None = 0
owed T u (Some t) = cond (nat_le t.deadline u) (behind T t) 0

abbrev pub spare : ℕ → ℕ → Option Task → ℕ
spare T u None = 0
spare T u (Some t) = min (t.rate * (u - T)) (ahead T t)

-- whatever time is looked at, what is owed by then can be had by then
abbrev pub Feasible : ℕ → Tasks → Type 0
Feasible T tasks = (u : ℕ) → T ≤ u → sum_by (owed T u) tasks ≤ sum_by (spare T u) tasks

-- one slot in the place of another makes nothing worse
abbrev pub NoWorse : ℕ → Option Task → Option Task → Type 0
NoWorse T old new = (u : ℕ) → T ≤ u → owed T u new + spare T u old ≤ owed T u old + spare T u new

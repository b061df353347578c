-- A task as the ready list sees it.
use Rattle.std.specs.Prelude.{ℕ, Bool, true, false, cond, ◌&&◌, Some, None, Option, nat_lt}
use Rattle.order.specs.declared.entries.Entry.{Entry}
use Rattle.rules.specs.declared.phases.Phase.{Phase}
use Rattle.rules.specs.declared.phases.Phase.TheVariants.{Ready, Waiting, Finished}
use Rattle.rules.specs.declared.tasks.Task.{Task}

abbrev pub is_ready : Phase → Bool
is_ready Ready = true
is_ready Waiting = false
is_ready Finished = false

-- ready, with at least one tick left
abbrev pub wants_to_run : Task → Bool
wants_to_run t = is_ready t.phase && nat_lt 0 t.left

-- the entry of a slot: there is one exactly where its task wants to run
abbrev pub entry_of : Option Task → Option Entry
entry_of None = None
entry_of (Some t) = cond (wants_to_run t) (Some (record { number = t.number; deadline = t.deadline; rate = t.rate })) None

-- the rate of a slot's task
abbrev pub rate_of : Option Task → ℕ
rate_of None = 0
rate_of (Some t) = t.rate

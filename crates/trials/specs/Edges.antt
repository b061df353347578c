-- Edge cases of the rules. The sheet has task 1 (500 thousandths, period 10) and task 2 (250, period 8); each case runs
-- some calls from the clock 0, then makes one call on task 1, and says what its line says and how many ticks task 1 then has left.
use Rattle.std.specs.Prelude.{◌≡◌, ℕ, List, [], ◌∷◌, None, Ok, codes, slice_index_or}
use Rattle.controller.specs.Making.{made, made_tasks}
use Rattle.order.specs.Orders.{by_number}
use Rattle.rehearsal.specs.Lines.{said}
use Rattle.rehearsal.specs.Rehearsals.{performed}
use Rattle.rehearsal.specs.Turns.{Done}
use Rattle.rehearsal.specs.declared.lines.Accepted.TheVariants.{Call}
use Rattle.rehearsal.specs.declared.scripts.Step.{Step}
use Rattle.rehearsal.specs.declared.scripts.Step.TheVariants.{Turn, Change as change}
use Rattle.rules.specs.Jobs.{left_of}
use Rattle.rules.specs.declared.changes.Change.{Change}
use Rattle.rules.specs.declared.changes.Change.TheVariants.{Period, Rate, Wait, Wake}
use Rattle.std.specs.List.{AllByRecursion}

-- the sheet's bytes: two task records, named A and B
abbrev pub sheet : List ℕ
sheet = 1 ∷ 1 ∷ 244 ∷ 3 ∷ 10 ∷ 1 ∷ 65 ∷ 1 ∷ 2 ∷ 250 ∷ 1 ∷ 8 ∷ 1 ∷ 66 ∷ []

-- the controller as the sheet makes it, and after some calls
abbrev pub start : Done
start = record { clock = 0; tasks = made_tasks (made sheet); outcome = Ok Call }

abbrev pub after : Done → List Step → Done
after d [] = d
after d (step ∷ steps) = after (performed by_number d.clock d.tasks step) steps

pub record Case : Type 0 where
  -- the calls before the one in question
  pub first : List Step
  pub then : Change
  pub says : List ℕ
  pub left : ℕ

-- the call in question, on task 1
abbrev pub done_in : Case → Done
done_in c = after (after start c.first) (change 1 c.then ∷ [])

abbrev pub Holds : Case → Type 0
Holds c = (said (done_in c).outcome ≡ c.says) × (left_of (slice_index_or (done_in c).tasks 0 None) ≡ c.left)

abbrev pub AllHold : List Case → Type 0
AllHold list = AllByRecursion Holds list

abbrev pub cases : List Case
cases =
    -- at 4 it has 3 left, and a lowering to 400 leaves 2
    record { first = Turn 2 ∷ Turn 2 ∷ []; then = Rate 400; says = codes "ok 0"; left = 2 }
    -- at 5 it has 2 left and is ahead of its rate
    ∷ record { first = Turn 2 ∷ Turn 3 ∷ []; then = Rate 400; says = codes "no 13"; left = 2 }
    -- at 5 an earlier deadline costs ticks: 8 leaves 1, 6 leaves none, and 5 would have come
    ∷ record { first = Turn 2 ∷ Turn 3 ∷ []; then = Period 8; says = codes "ok 0"; left = 1 }
    ∷ record { first = Turn 2 ∷ Turn 3 ∷ []; then = Period 6; says = codes "ok 0"; left = 0 }
    ∷ record { first = Turn 2 ∷ Turn 3 ∷ []; then = Period 5; says = codes "no 15"; left = 2 }
    -- at 2 it is behind its rate
    ∷ record { first = Turn 2 ∷ []; then = Period 8; says = codes "no 14"; left = 5 }
    -- at 7 it has no tick left to lose
    ∷ record { first = Turn 2 ∷ Turn 3 ∷ Turn 2 ∷ []; then = Period 9; says = codes "no 15"; left = 0 }
    -- at 5 a raise to 750 adds a tick, and one to 751 is too much for the processor
    ∷ record { first = Turn 2 ∷ Turn 3 ∷ []; then = Rate 750; says = codes "ok 0"; left = 3 }
    ∷ record { first = Turn 2 ∷ Turn 3 ∷ []; then = Rate 751; says = codes "no 12"; left = 2 }
    -- a task that waits from 0 to 7 keeps 1 tick of 5
    ∷ record { first = change 1 Wait ∷ Turn 2 ∷ Turn 5 ∷ []; then = Wake; says = codes "ok 0"; left = 1 }
    ∷ []

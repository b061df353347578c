use Rattle.std.specs.Prelude.{◌≡◌, IfSome, nat_lt}
use Rattle.heap.proofs.Steps.{turns_left}
use Rattle.heap.specs.Sifts.{Holed, next_place}
use Rattle.heap.specs.Sound.{held_in, laid}
use Rattle.heap.proofs.memory.Tree.settle.Given as goal

-- with the moved entry in the hole, the tree holds what it is to hold, and only the steps at the hole may be out of order;
-- the way on is always the same
abbrev pub invariant-loop-next : goal.invariant-loop-next
invariant-loop-next g l =
    Holed g.O.TieOrder.before (held_in (laid l.fn.self l.fn.place l.e)) (laid l.self l.hole l.e) l.hole
    × (l.next ≡ next_place g.O.TieOrder.before l.self l.hole l.e)
    × IfSome l.next (λ to. nat_lt to l.hole ≡ l.up)

abbrev pub decreases-loop-next : goal.decreases-loop-next
decreases-loop-next g l = turns_left g.O.TieOrder.before l.self l.hole l.e

use Rattle.std.proofs.Common.{◌^◌, ◌<◌, sym, subst, arith}
use Rattle.controller.proofs.Lengths.{length_some, nearest_after}
use Rattle.controller.proofs.states.Resting.begin.Goals as goal
use Rattle.controller.specs.Turns.{length_of}

pub turn_length-length-requires-clause-room : goal.turn_length-length-requires-clause-room
turn_length-length-requires-clause-room g c =
    let early : c.args.self < 2 ^ 40 = omega (arith, c.self.view_is, c.requires.in_time) in
    omega (arith, c.self.view_is, nearest_after c.args.self c.args.memory.now early c.requires.sound)

pub returns-clause-length : goal.returns-clause-length
returns-clause-length g c =
    let early : c.args.self < 2 ^ 40 = omega (arith, c.self.view_is, c.requires.in_time) in
    subst (λ n. 0 < n) (sym c.turn_length-length.ensures)
    (subst (λ T. 0 < length_of T c.args.memory.now c.first-first.result) (sym c.self.view_is)
    (length_some g.L.Order.TieOrder.before c.args.self c.args.memory.now (g.L.ReadyList.held c.args.list.now) c.first-first.result early c.requires.sound c.requires.mirror c.first-first.ensures.least))

use Rattle.std.proofs.Common.{◌∙◌}
use Rattle.heap.proofs.Entering.{entering, room_put}
use Rattle.heap.proofs.memory.Tree.push.Goals as goal

pub invariant_of-self : goal.invariant_of-self
invariant_of-self g c = record { room = room_put g.O.TieOrder.before c.args.self.now c.requires.memory c.args.e c.requires.free }

pub settle-requires : goal.settle-requires
settle-requires g c = (entering g.O.TieOrder.before c.args.self.now c.requires.memory c.args.e c.requires.free _).holed

pub returns-clause-list : goal.returns-clause-list
returns-clause-list g c = c.settle.ensures.list ∙ (entering g.O.TieOrder.before c.args.self.now c.requires.memory c.args.e c.requires.free _).list

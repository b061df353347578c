use Rattle.std.proofs.Common.{◌-◌, refl, ◌∙◌, arith}
use Rattle.heap.proofs.Leaving.{leaving}
use Rattle.heap.specs.Sound.{entry_in}
use Rattle.heap.proofs.memory.Tree.remove.Goals as goal

pub settle-requires : goal.settle-requires
settle-requires g c = (leaving g.O.TieOrder.before g.met.O.TieOrder.lawful c.args.self.now c.requires.memory c.args.place c.requires.within c.entry-last.result c.entry-last.ensures _).holed (omega arith)

pub returns-then-place-self-clause-list : goal.returns-then-place-self-clause-list
returns-then-place-self-clause-list g c =
    c.settle.ensures.list ∙ (leaving g.O.TieOrder.before g.met.O.TieOrder.lawful c.args.self.now c.requires.memory c.args.place c.requires.within c.entry-last.result c.entry-last.ensures _).list

pub returns-else-place-self : goal.returns-else-place-self
returns-else-place-self g c =
    let tree = c.args.self.now in
    let told = (leaving g.O.TieOrder.before g.met.O.TieOrder.lawful tree c.requires.memory c.args.place c.requires.within (entry_in tree (tree.len - 1)) refl _).rest (omega arith) in
    record { list = told.0; memory = told.1 }

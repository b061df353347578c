use Rattle.std.proofs.Common.{rules, ◌∙◌}
use Rattle.controller.proofs.Lists.{relisted, same_entry}
use Rattle.controller.proofs.store.relist.Goals as goal

pub returns-in-Some-clause-list : goal.returns-in-Some-clause-list
returns-in-Some-clause-list g c =
    relisted (g.L.ReadyList.held c.args.list.now) (g.L.ReadyList.held c.take_out.new.self) (g.L.ReadyList.held c.put.new.self) c.args.number c.in-Some.e c.args.is
    (g.met.L.ReadyList.slotted c.args.list.now c.requires.memory) c.requires.range c.in-Some.is c.requires.fits c.take_out.ensures.list c.put.ensures.list

pub returns-then-eq-clause-list : goal.returns-then-eq-clause-list
returns-then-eq-clause-list g c = same_entry (g.L.ReadyList.held c.args.list.now) c.args.number c.args.is c.requires.range (c.requires.held ∙ search rules)

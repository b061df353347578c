use Rattle.std.proofs.Common.{ap, ◌∙◌}
use Rattle.heap.proofs.Root.{first_root}
use Rattle.heap.specs.Sound.{root_of}
use Rattle.heap.proofs.HeapReadyList.first.Goals as goal

pub returns : goal.returns
returns g c =
    let told = first_root g.O.TieOrder.before g.met.O.TieOrder.lawful c.args.self.now c.requires c.root.result (c.root.ensures ∙ ap root_of c.self.view_is) in
    record { value = told.0; least = told.1 }

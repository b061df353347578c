use Rattle.heap.proofs.Root.{emptied}
use Rattle.heap.proofs.Heap.new.Goals as goal

pub returns : goal.returns
returns g c =
    let made = c.new.ensures in
    let told = emptied g.O.TieOrder.before c.new.result made.entries made.places made.len in
    record { list = told.0; memory = told.1 }

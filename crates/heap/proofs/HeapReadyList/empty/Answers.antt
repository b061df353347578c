use Rattle.heap.proofs.Root.{emptied}
use Rattle.heap.proofs.HeapReadyList.empty.Goals as goal

pub returns : goal.returns
returns g c =
    let made = c.new-self-inside.ensures in
    let told = emptied g.O.TieOrder.before c.new-self-inside.result made.entries made.places made.len in
    record { list = told.0; memory = told.1 }

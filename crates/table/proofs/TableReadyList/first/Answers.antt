use Rattle.std.proofs.Common.{◌≡◌, sym, subst, arith}
use Rattle.std.proofs.lemmas.Grind.{common_steps}
use Rattle.ready.proofs.First.{first_least}
use Rattle.ready.specs.Held.{Least, first_of}
use Rattle.table.proofs.TableReadyList.first.Goals as goal

pub returns-clause-least : goal.returns-clause-least
returns-clause-least g c =
    let slots = c.args.self.now in
    let value : c.fold.result ≡ first_of g.O.TieOrder.before slots = grind (arith, common_steps) in
    subst (Least g.O.TieOrder.before slots) (sym value) (first_least g.O.TieOrder.before g.met.O.TieOrder.lawful slots c.requires)

use Rattle.std.proofs.Common.{rules, ◌≡◌, Some, Ok, sym, subst}
use Rattle.controller.proofs.Changing.{slot_tied, withdrawal_kept}
use Rattle.controller.proofs.states.Resting.withdraw.Goals as goal
use Rattle.controller.specs.Changing.{task_at}
use Rattle.controller.specs.Tasks.{Mirrors}
use Rattle.controller.specs.Tied.{Tied}
use Rattle.rules.specs.Withdrawals.{withdrawn}

-- a slot written anew leaves the controller tied: the same proof as for a change
pub returns-clause-tied : goal.returns-clause-tied
returns-clause-tied g c =
    let T = c.args.self.now in
    let tasks = c.args.memory.now in
    let held = g.L.ReadyList.held c.args.list.now in
    let ok = g.L.ReadyList.ok c.args.list.now in
    let t = c.in_ok-task.task in
    let slot = c.in_ok-slot.slot in
    let is : task_at tasks c.args.number ≡ Some t = search rules in
    let got : withdrawn T t ≡ Ok slot = search rules in
    let kept = withdrawal_kept T tasks held ok c.requires c.args.number t is slot got in
    let held' = g.L.ReadyList.held c.store.new.list in
    let ok' = g.L.ReadyList.ok c.store.new.list in
    subst (λ ts. Tied T ts held' ok') (sym c.store.ensures.tasks)
    (slot_tied T tasks held ok c.requires c.args.number t is slot kept held' ok' (subst (λ ts. Mirrors ts held') c.store.ensures.tasks c.store.ensures.mirrored.mirror) c.store.ensures.mirrored.memory)

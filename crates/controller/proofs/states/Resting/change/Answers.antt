use Rattle.std.proofs.Common.{rules, ◌≡◌, set, Some, Ok, sym, ap, ◌∙◌, subst}
use Rattle.controller.proofs.Changing.{changed_kept, in_place, outcome, slot_tied, same_place}
use Rattle.controller.proofs.states.Resting.change.Goals as goal
use Rattle.controller.specs.Admitting.{with_task}
use Rattle.controller.specs.Changing.{task_at}
use Rattle.controller.specs.Tasks.{Mirrors, rates}
use Rattle.controller.specs.Tied.{Tied}
use Rattle.rules.specs.Changes.{changed}

pub store-requires-clause-fits : goal.store-requires-clause-fits
store-requires-clause-fits g c =
    let T = c.args.self.now in
    let tasks = c.args.memory.now in
    let held = g.L.ReadyList.held c.args.list.now in
    let ok = g.L.ReadyList.ok c.args.list.now in
    let t = c.in_ok-task.task in
    let u = c.in_ok-next.next in
    let is : task_at tasks c.args.number ≡ Some t = search rules in
    let got : changed T (rates tasks) t c.args.change ≡ Ok u = search rules in
    (in_place T tasks held ok c.requires c.args.number t is (Some u) (changed_kept T tasks held ok c.requires c.args.number t is c.args.change u got)).1

pub returns-clause-tasks : goal.returns-clause-tasks
returns-clause-tasks g c =
    let T = c.args.self.now in
    let tasks = c.args.memory.now in
    let held = g.L.ReadyList.held c.args.list.now in
    let ok = g.L.ReadyList.ok c.args.list.now in
    let t = c.in_ok-task.task in
    let u = c.in_ok-next.next in
    let is : task_at tasks c.args.number ≡ Some t = search rules in
    let got : changed T (rates tasks) t c.args.change ≡ Ok u = search rules in
    let kept = changed_kept T tasks held ok c.requires c.args.number t is c.args.change u got in
    let whole = outcome T tasks held ok c.requires c.args.number t is c.args.change u got in
    c.store.ensures.tasks ∙ (ap (λ n. set tasks n (Some u)) (same_place T tasks held ok c.requires c.args.number t is u kept) ∙ sym (ap (λ r. with_task r tasks) whole))

pub returns-clause-tied : goal.returns-clause-tied
returns-clause-tied g c =
    let T = c.args.self.now in
    let tasks = c.args.memory.now in
    let held = g.L.ReadyList.held c.args.list.now in
    let ok = g.L.ReadyList.ok c.args.list.now in
    let t = c.in_ok-task.task in
    let u = c.in_ok-next.next in
    let is : task_at tasks c.args.number ≡ Some t = search rules in
    let got : changed T (rates tasks) t c.args.change ≡ Ok u = search rules in
    let kept = changed_kept T tasks held ok c.requires c.args.number t is c.args.change u got in
    let held' = g.L.ReadyList.held c.store.new.list in
    let ok' = g.L.ReadyList.ok c.store.new.list in
    subst (λ ts. Tied T ts held' ok') (sym c.store.ensures.tasks)
    (slot_tied T tasks held ok c.requires c.args.number t is (Some u) kept held' ok' (subst (λ ts. Mirrors ts held') c.store.ensures.tasks c.store.ensures.mirrored.mirror) c.store.ensures.mirrored.memory)

use Rattle.std.proofs.Common.{◌≡◌, ◌+◌, ◌≤◌, map, sym, ap, ◌∙◌, subst, arith}
use Rattle.controller.proofs.Settles.{runner, settled_tied, settles_in_time}
use Rattle.controller.proofs.states.OpenTurn.settle.Goals as goal
use Rattle.controller.specs.Settling.{Runner, charged_in}
use Rattle.controller.specs.Tasks.{Mirrors}
use Rattle.controller.specs.Tied.{Open, Tied}
use Rattle.rules.specs.Jobs.{due_at}

pub overflow_add-clock : goal.overflow_add-clock
overflow_add-clock g c =
    let within = subst (λ t. c.args.count ≤ t.length) c.self.view_is c.if-count-self.false in
    omega (
      arith,
      ap (λ t. t.start) c.self.view_is,
      settles_in_time g.L.Order.TieOrder.before g.met.L.Order.TieOrder.lawful c.args.self c.args.memory.now (g.L.ReadyList.held c.args.list.now) (g.L.ReadyList.ok c.args.list.now) c.requires
          (g.met.L.ReadyList.slotted c.args.list.now c.requires.rest.memory) c.args.count within,
    )

pub charge_runner-requires-clause-runner : goal.charge_runner-requires-clause-runner
charge_runner-requires-clause-runner g c =
    let within = subst (λ t. c.args.count ≤ t.length) c.self.view_is c.if-count-self.false in
    subst (λ t. Runner t.runs c.args.count c.args.memory.now) (sym c.self.view_is)
    (runner g.L.Order.TieOrder.before g.met.L.Order.TieOrder.lawful c.args.self c.args.memory.now (g.L.ReadyList.held c.args.list.now) (g.L.ReadyList.ok c.args.list.now) c.requires
    (g.met.L.ReadyList.slotted c.args.list.now c.requires.rest.memory) c.args.count within)

pub release_due-requires-clause-in_time : goal.release_due-requires-clause-in_time
release_due-requires-clause-in_time g c =
    let within = subst (λ t. c.args.count ≤ t.length) c.self.view_is c.if-count-self.false in
    omega (
      arith,
      ap (λ t. t.start) c.self.view_is,
      settles_in_time g.L.Order.TieOrder.before g.met.L.Order.TieOrder.lawful c.args.self c.args.memory.now (g.L.ReadyList.held c.args.list.now) (g.L.ReadyList.ok c.args.list.now) c.requires
          (g.met.L.ReadyList.slotted c.args.list.now c.requires.rest.memory) c.args.count within,
    )

pub returns-clause-tied : goal.returns-clause-tied
returns-clause-tied g c =
    let turn = c.self.inside.turn in
    let n = c.args.count in
    let tasks = c.args.memory.now in
    let out = c.release_due.new.self in
    let held = g.L.ReadyList.held c.release_due.new.list in
    let ok = g.L.ReadyList.ok c.release_due.new.list in
    let opened = subst (λ t. Open g.L.Order.TieOrder.before t tasks (g.L.ReadyList.held c.args.list.now) (g.L.ReadyList.ok c.args.list.now)) (sym c.self.view_is) c.requires in
    let done : out ≡ map (due_at (turn.start + n)) (charged_in turn.runs n tasks) = c.release_due.ensures.tasks ∙ ap (map (due_at (turn.start + n))) c.charge_runner.ensures.tasks in
    subst (λ ts. Tied (turn.start + n) ts held ok) (sym done)
    (settled_tied g.L.Order.TieOrder.before g.met.L.Order.TieOrder.lawful turn tasks (g.L.ReadyList.held c.args.list.now) (g.L.ReadyList.ok c.args.list.now) opened
    (g.met.L.ReadyList.slotted c.args.list.now c.requires.rest.memory) n c.if-count-self.false held ok (subst (λ ts. Mirrors ts held) done c.release_due.ensures.mirrored.mirror) c.release_due.ensures.mirrored.memory)

use Rattle.std.proofs.Common.{◌≡◌, rules, IfSome, nat_lt, sym, ◌∙◌, subst}
use Rattle.heap.proofs.Steps.{ends, moved_range, next_below, next_range, rises_ahead, sinks_ahead, turned_over}
use Rattle.heap.specs.Sound.{held_in, laid}
use Rattle.heap.proofs.memory.Tree.settle.Goals as goal

pub loop-next-init : goal.loop-next-init
loop-next-init g c = (c.requires, c.next-next.ensures, Prim.search rules)

pub entry-requires : goal.entry-requires
entry-requires g c =
    let l = c.loop-next in
    next_below g.O.TieOrder.before g.met.O.TieOrder.lawful l.self (held_in (laid c.args.self.now c.args.place c.args.e)) l.hole c.args.e l.invariant.0 c.in-Some.to (sym c.in-Some.is ∙ l.invariant.1)

pub lay-requires-clause-number : goal.lay-requires-clause-number
lay-requires-clause-number g c =
    let l = c.loop-next in
    next_range g.O.TieOrder.before g.met.O.TieOrder.lawful l.self (held_in (laid c.args.self.now c.args.place c.args.e)) l.hole c.args.e l.invariant.0 c.in-Some.to (sym c.in-Some.is ∙ l.invariant.1) c.entry.result c.entry.ensures

pub rises-next-requires : goal.rises-next-requires
rises-next-requires g c =
    let l = c.loop-next in
    next_below g.O.TieOrder.before g.met.O.TieOrder.lawful l.self (held_in (laid c.args.self.now c.args.place c.args.e)) l.hole c.args.e l.invariant.0 c.in-Some.to (sym c.in-Some.is ∙ l.invariant.1)

pub sinks-next-requires : goal.sinks-next-requires
sinks-next-requires g c =
    let l = c.loop-next in
    next_below g.O.TieOrder.before g.met.O.TieOrder.lawful l.self (held_in (laid c.args.self.now c.args.place c.args.e)) l.hole c.args.e l.invariant.0 c.in-Some.to (sym c.in-Some.is ∙ l.invariant.1)

pub loop-next-smaller-then-up : goal.loop-next-smaller-then-up
loop-next-smaller-then-up g c =
    let l = c.loop-next in
    (turned_over g.O.TieOrder.before g.met.O.TieOrder.lawful l.self (held_in (laid c.args.self.now c.args.place c.args.e)) l.hole c.args.e l.invariant.0 c.in-Some.to (sym c.in-Some.is ∙ l.invariant.1) c.entry.result c.entry.ensures c.lay.new.self c.lay.ensures).fewer

pub loop-next-preserved-then-up : goal.loop-next-preserved-then-up
loop-next-preserved-then-up g c =
    let l = c.loop-next in
    let up = c.is_some_and-up.result in
    let over = turned_over g.O.TieOrder.before g.met.O.TieOrder.lawful l.self (held_in (laid c.args.self.now c.args.place c.args.e)) l.hole c.args.e l.invariant.0 c.in-Some.to (sym c.in-Some.is ∙ l.invariant.1) c.entry.result c.entry.ensures c.lay.new.self c.lay.ensures in
    let way : nat_lt c.in-Some.to l.hole ≡ up = subst (λ o. IfSome o (λ to. nat_lt to l.hole ≡ up)) c.in-Some.is l.invariant.2 in
    (over.again, c.rises-next.ensures ∙ over.on_up (way ∙ c.if-up.true), subst (λ o. IfSome o (λ to. nat_lt to c.in-Some.to ≡ up)) (sym c.rises-next.ensures) (rises_ahead g.O.TieOrder.before c.lay.new.self c.in-Some.to c.args.e up c.if-up.true))

pub loop-next-smaller : goal.loop-next-smaller
loop-next-smaller g c =
    let l = c.loop-next in
    (turned_over g.O.TieOrder.before g.met.O.TieOrder.lawful l.self (held_in (laid c.args.self.now c.args.place c.args.e)) l.hole c.args.e l.invariant.0 c.in-Some.to (sym c.in-Some.is ∙ l.invariant.1) c.entry.result c.entry.ensures c.lay.new.self c.lay.ensures).fewer

pub loop-next-preserved : goal.loop-next-preserved
loop-next-preserved g c =
    let l = c.loop-next in
    let up = c.is_some_and-up.result in
    let over = turned_over g.O.TieOrder.before g.met.O.TieOrder.lawful l.self (held_in (laid c.args.self.now c.args.place c.args.e)) l.hole c.args.e l.invariant.0 c.in-Some.to (sym c.in-Some.is ∙ l.invariant.1) c.entry.result c.entry.ensures c.lay.new.self c.lay.ensures in
    let way : nat_lt c.in-Some.to l.hole ≡ up = subst (λ o. IfSome o (λ to. nat_lt to l.hole ≡ up)) c.in-Some.is l.invariant.2 in
    (over.again, c.sinks-next.ensures ∙ over.on_down (way ∙ c.if-up.false), subst (λ o. IfSome o (λ to. nat_lt to c.in-Some.to ≡ up)) (sym c.sinks-next.ensures) (sinks_ahead g.O.TieOrder.before c.lay.new.self c.in-Some.to c.args.e up c.if-up.false))

pub lay-requires-2-clause-number : goal.lay-requires-2-clause-number
lay-requires-2-clause-number g c =
    let l = c.loop-next in
    moved_range g.O.TieOrder.before g.met.O.TieOrder.lawful l.self (held_in (laid c.args.self.now c.args.place c.args.e)) l.hole c.args.e l.invariant.0

pub returns : goal.returns
returns g c =
    let l = c.loop-next in
    let told = ends g.O.TieOrder.before g.met.O.TieOrder.lawful l.self (held_in (laid c.args.self.now c.args.place c.args.e)) l.hole c.args.e l.invariant.0 c.lay-2.new.self c.lay-2.ensures (sym c.in_default.is ∙ l.invariant.1) in
    record { list = told.0; memory = told.1 }

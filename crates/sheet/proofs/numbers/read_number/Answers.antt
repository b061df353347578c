use Rattle.std.proofs.Common.{◌+◌, ◌*◌, ◌<◌, ◌≤◌, sym, ◌∙◌, refl, arith, length-take, get_or-take, lit<}
use Rattle.sheet.proofs.Groups.{whole, whole_at, longer_at, at_more, room, heavier}
use Rattle.sheet.proofs.numbers.read_number.Goals as goal

pub loop-index-init : goal.loop-index-init
loop-index-init c = record {
  few = omega (arith, length-take c.min.result c.args.bytes.now);
  reads = whole c.args.bytes.now c.args.place _ c.min.ensures;
  weighs = refl;
  below = lit< tt;
}

pub returns-then-adds_nothing-clause-value : goal.returns-then-adds_nothing-clause-value
returns-then-adds_nothing-clause-value c =
    sym (longer_at _ _ _ _ _ (omega arith) c.loop-index-test.true c.if-byte-lt-MORE.true (sym c.adds_nothing.ensures ∙ c.if-adds_nothing.true))
    ∙ c.loop-index.invariant.reads

pub returns-then-byte-lt-MORE-clause-value : goal.returns-then-byte-lt-MORE-clause-value
returns-then-byte-lt-MORE-clause-value c =
    rw c.from.ensures
    (sym (whole_at _ _ _ c.args.place _ (omega arith) c.loop-index-test.true c.if-byte-lt-MORE.true (sym c.adds_nothing.ensures ∙ c.if-adds_nothing.false)) ∙ c.loop-index.invariant.reads)

-- a group that another follows leaves the value below the next weight, and that within its type
fits : (c : goal.After-from-in-loop-index) → (c.loop-index.value + c.loop-index.weight * c.from-in-loop-index.result < c.loop-index.weight * 128) × (c.loop-index.weight * 128 ≤ 268435456)
fits c =
    let byte = get_or-take c.min.result c.args.bytes.now c.loop-index.index 0 (omega (arith, length-take c.min.result c.args.bytes.now)) in
    room _ _ _ _ (omega arith) c.loop-index.invariant.weighs c.loop-index.invariant.below (omega (arith, c.type_inv.bytes c.loop-index.index))

pub overflow_mul-value : goal.overflow_mul-value
overflow_mul-value c = omega (arith, fits c)

pub overflow_add-value : goal.overflow_add-value
overflow_add-value c = omega (arith, fits c)

pub loop-index-preserved : goal.loop-index-preserved
loop-index-preserved c = record {
  few = c.loop-index.invariant.few;
  reads = rw c.from-in-loop-index.ensures (sym (at_more _ _ _ _ _ (omega arith) c.loop-index-test.true c.if-byte-lt-MORE.false) ∙ c.loop-index.invariant.reads);
  weighs = heavier _ _ c.loop-index.invariant.weighs;
  below = (fits c).0;
}

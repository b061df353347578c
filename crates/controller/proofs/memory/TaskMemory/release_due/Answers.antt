use Rattle.std.proofs.Common.{◌<◌, length, get_or, set, None, sym, refl, ap, ◌∙◌, subst, arith}
use Rattle.controller.proofs.Lists.{in_slot_at, in_slot_due, mirror_set}
use Rattle.controller.proofs.memory.TaskMemory.release_due.Goals as goal
use Rattle.controller.specs.Tasks.{InSlot, Mirrors}
use Rattle.rules.specs.Jobs.{due_at}
use Rattle.rules.specs.Tasks.{entry_of}
use Rattle.std.proofs.lemmas.List.Edits.{map_over_more}
use Rattle.std.proofs.lemmas.List.{get_or_default}

pub loop-place-preserved : goal.loop-place-preserved
loop-place-preserved g c =
    let T = c.args.clock in
    let slots = c.loop-place.slot-items in
    let start = c.self.inside.slots in
    let place = c.loop-place.place in
    let held = g.L.ReadyList.held c.loop-place.list in
    let held' = g.L.ReadyList.held c.rewrite.new.list in
    let next = c.due_at-next.result in
    let x = get_or slots place None in
    let lt : place < length slots = omega (arith, c.loop-place.invariant.1.mirror.many, c.loop-place-test.true) in
    let lt' : place < length start = omega (arith, c.self.invariant, c.loop-place-test.true) in
    let fits = subst (InSlot place) (sym c.due_at-next.ensures) (in_slot_due T place x (in_slot_at slots held place c.loop-place-test.true c.loop-place.invariant.1.mirror)) in (
      ap (set slots place) (c.rewrite.ensures.slot ∙ c.due_at-next.ensures) ∙ map_over_more (due_at T) start slots place x lt' c.loop-place.invariant.0 (get_or_default slots place None x lt),
      record {
        mirror = subst (λ s. Mirrors (set slots place s) held') (sym c.rewrite.ensures.slot) (mirror_set slots held held' place next (entry_of next) c.loop-place.invariant.1.mirror fits refl c.rewrite.ensures.list);
        memory = c.rewrite.ensures.memory;
      },
    )

use Rattle.std.proofs.Common.{rules, ◌≡◌, ◌-◌, set, sym, refl, ap, ◌∙◌, subst}
use Rattle.controller.proofs.Lists.{mirror_set, place_back}
use Rattle.controller.proofs.memory.TaskMemory.store.Goals as goal
use Rattle.controller.specs.Tasks.{Mirrors}
use Rattle.rules.specs.Tasks.{entry_of}

pub returns-clause-mirrored : goal.returns-clause-mirrored
returns-clause-mirrored g c =
    let slots = c.self.inside.slots in
    let held = g.L.ReadyList.held c.args.list.now in
    let held' = g.L.ReadyList.held c.rewrite.new.list in
    let place = c.args.number - 1 in
    let at : c.unwrap-place.result ≡ place = search rules in
    let before : Mirrors slots held = subst (λ tasks. Mirrors tasks held) (sym c.self.view_is) c.requires.mirrored.mirror in
    record {
      mirror = subst (λ p. Mirrors (set slots p c.rewrite.new.slot) held') (sym at)
          (subst (λ slot. Mirrors (set slots place slot) held') (sym c.rewrite.ensures.slot)
          (mirror_set slots held held' place c.args.new (entry_of c.args.new) before c.requires.fits refl (c.rewrite.ensures.list ∙ ap (λ n. set held n (entry_of c.args.new)) (sym (place_back place)))));
      memory = c.rewrite.ensures.memory;
    }

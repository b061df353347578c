use Rattle.std.proofs.Common.{◌∙◌}
use Rattle.controller.proofs.Settles.{settled_none}
use Rattle.controller.proofs.states.OpenTurn.give_up.Goals as goal

pub returns-clause-tasks : goal.returns-clause-tasks
returns-clause-tasks g c = c.settle.ensures.tasks ∙ settled_none c.args.self c.args.memory.now c.requires.rest.sound

-- The phase machine: what an event does to a task's phase.
use Rattle.rules.specs.declared.phases.Event.{Event}
use Rattle.rules.specs.declared.phases.Event.TheVariants.{Wait, Wake, Finish, Deadline}
use Rattle.rules.specs.declared.phases.Phase.{Phase}
use Rattle.rules.specs.declared.phases.Phase.TheVariants.{Ready, Waiting, Finished}

-- wait, wake and finish move a task on; at a deadline finished becomes ready, and waiting remains waiting
abbrev pub stepped : Phase → Event → Phase
stepped Ready Wait = Waiting
stepped Ready Wake = Ready
stepped Ready Finish = Finished
stepped Ready Deadline = Ready
stepped Waiting Wait = Waiting
stepped Waiting Wake = Ready
stepped Waiting Finish = Waiting
stepped Waiting Deadline = Waiting
stepped Finished Wait = Finished
stepped Finished Wake = Finished
stepped Finished Finish = Finished
stepped Finished Deadline = Ready

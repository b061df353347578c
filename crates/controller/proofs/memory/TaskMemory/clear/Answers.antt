use Rattle.controller.proofs.Admits.{cleared_tied}
use Rattle.controller.proofs.memory.TaskMemory.clear.Goals as goal

pub returns-clause-tied : goal.returns-clause-tied
returns-clause-tied g c = cleared_tied (g.L.ReadyList.held c.empty.new.self) (g.L.ReadyList.ok c.empty.new.self) c.empty.ensures.list c.empty.ensures.memory

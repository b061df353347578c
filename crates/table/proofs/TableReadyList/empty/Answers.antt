use Rattle.ready.proofs.Slots.{slotted_none}
use Rattle.table.proofs.TableReadyList.empty.Goals as goal

pub returns-clause-memory : goal.returns-clause-memory
returns-clause-memory g c = slotted_none

use Rattle.controller.proofs.Makes.{join_refused}
use Rattle.controller.proofs.memory.TaskMemory.enrol_task.Goals as goal
use Rattle.controller.specs.Admitting.{admission_to}
use Rattle.controller.specs.Making.{reservation}
use Rattle.sheet.specs.Values.{task_value}

pub returns-in-Err-clause-answer : goal.returns-in-Err-clause-answer
returns-in-Err-clause-answer g c =
    let asked = task_value c.args.task in
    join_refused (admission_to 0 c.args.self.now (reservation asked)) asked c.args.self.now c.in-Err.why c.place_of.result c.in-Err.ensures.answer c.place_of.ensures

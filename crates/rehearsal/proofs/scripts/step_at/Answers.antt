use Rattle.std.proofs.Common.{◌≤◌, length, Ok, Err, rules}
use Rattle.rehearsal.proofs.Advancing.{step_found}
use Rattle.rehearsal.proofs.scripts.step_at.Goals as goal
use Rattle.rehearsal.specs.Scripts.{call_in}
use Rattle.sheet.proofs.Bodies.{part_none}

pub returns-in_default : goal.returns-in_default
returns-in_default c =
    let past : length c.args.input.now ≤ c.args.place = search rules in
    part_none call_in c.args.input.now c.args.place past

pub returns-in_default-2 : goal.returns-in_default-2
returns-in_default-2 c =
    let past : length c.args.input.now ≤ c.args.place = search rules in
    part_none call_in c.args.input.now c.args.place past

pub returns-in-Ok : goal.returns-in-Ok
returns-in-Ok c = step_found _ _ _ (Ok c.in-Ok.read) c.in-Some-len1-up.ensures.lookup.0.2 c.in-Some-len1-up.len_at_least c.in-Ok.ensures

pub returns-in-Err : goal.returns-in-Err
returns-in-Err c = step_found _ _ _ (Err c.in-Err.why) c.in-Some-len1-up.ensures.lookup.0.2 c.in-Some-len1-up.len_at_least c.in-Err.ensures

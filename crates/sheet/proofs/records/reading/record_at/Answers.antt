use Rattle.std.proofs.Common.{◌≡◌, ◌≤◌, length, ◌∙◌, rules}
use Rattle.sheet.specs.Values.{found_of, record_of}
use Rattle.sheet.proofs.Bodies.{part_none, part_split, whole}
use Rattle.sheet.specs.Records.{body_in}
use Rattle.sheet.proofs.records.reading.record_at.Goals as goal
use Rattle.sheet.proofs.records.reading.record_at.Goals.{in_default-via-in-Some+then-get-lt1, in_default-via-in_default}

pub returns-in_default : goal.returns-in_default
returns-in_default c =
    let past : length c.args.sheet.now ≤ c.args.place =
    elim c.in_default.branch [ in_default-via-in-Some+then-get-lt1 w ↦ search rules | in_default-via-in_default w ↦ search rules ] in
    part_none body_in c.args.sheet.now c.args.place past

pub returns : goal.returns
returns c =
    let here = c.in-Some-len1-up.ensures.lookup.0.2 in
    let found : record_of c.map.result ≡ whole body_in (found_of c.read_body.result) = search rules in
    found ∙ part_split body_in c.args.sheet.now c.args.place _ (rw (← here) c.in-Some-len1-up.len_at_least) (rw here at c.read_body.ensures)

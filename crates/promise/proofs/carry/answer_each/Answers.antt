use Rattle.std.proofs.Common.{◌≡◌, suc, ◌+◌, ◌-◌, ◌<◌, [], ◌∷◌, length, take, append_assoc, arith}
use Rattle.promise.proofs.Carrying.{no_room}
use Rattle.promise.proofs.carry.answer_each.Goals as goal
use Rattle.std.proofs.lemmas.Grind.{common_steps}
use Rattle.std.proofs.lemmas.List.{drop_more, drop-set-lt, take_more_set}

pub loop-answer-preserved : goal.loop-answer-preserved
loop-answer-preserved g c =
    let l = c.loop-answer in
    let i = l.answer-index in
    let r = c.answer.result.1 in
    let places = length c.args.answers.now in
    let room : i < length l.answers = omega (arith, c.loop-answer-test.true, l.auto.answers) in
    let one : places - i ≡ suc (places - (i + 1)) = omega arith in
    let answers = rw (c.in-Some.ensures.steps, drop_more l.answers i r room) at l.invariant.0 in
    let state = rw (c.in-Some.ensures.steps, one) at l.invariant.1 in (
      rw (take_more_set l.answers i r room, drop-set-lt (i + 1) l.answers i r (omega arith), append_assoc (take i l.answers) (r ∷ []) _, c.answer.ensures.state, c.answer.ensures.answer) answers,
      rw c.answer.ensures.state state,
      c.answer.ensures.tied,
      c.answer.ensures.list,
    )

pub returns-after-loop-answer-clause-answers : goal.returns-after-loop-answer-clause-answers
returns-after-loop-answer-clause-answers g c = grind (arith, common_steps, no_room)

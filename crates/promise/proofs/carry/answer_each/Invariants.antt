use Rattle.std.proofs.Common.{◌≡◌, ◌++◌, ◌-◌, map, length, take, drop}
use Rattle.calls.specs.Answering.{after_all, answers_to}
use Rattle.calls.specs.Asking.{asked_by}
use Rattle.calls.specs.Stages.{TiedTo, state_of}
use Rattle.promise.proofs.carry.answer_each.Given as goal
use Rattle.promise.specs.Carrying.{written_over}
use Rattle.rules.specs.Tasks.{entry_of}
use Rattle.std.specs.Slice.Iter.{iter_rest}

-- what the answers and the state will be, from here, is the whole
abbrev pub invariant-loop-answer : goal.invariant-loop-answer
invariant-loop-answer g l =
    let before = g.L.Order.TieOrder.before in
    let rest = map asked_by (iter_rest l.asked) in
    let asked = map asked_by l.calls in
    let s = state_of l.stage l.memory in
    let start = state_of l.fn.first l.initial.memory in
    (take l.answer-index l.answers ++ written_over (answers_to before s rest) (drop l.answer-index l.answers) ≡ written_over (answers_to before start asked) l.initial.answers)
    × (after_all before s (take (length l.initial.answers - l.answer-index) rest) ≡ after_all before start (take (length l.initial.answers) asked))
    × TiedTo g.L.ReadyList before l.stage l.memory l.list
    × (g.L.ReadyList.held l.list ≡ map entry_of l.memory)

use Rattle.std.proofs.Common.{◌≡◌, ◌++◌, Ok, string_bytes}
use Rattle.controller.specs.Tied.{TiedTo}
use Rattle.rehearsal.proofs.play.play.Given as goal
use Rattle.rehearsal.specs.Lines.{line_of}
use Rattle.rehearsal.specs.Rehearsals.{lines_of}
use Rattle.rehearsal.specs.Scripts.{script_from}
use Rattle.rehearsal.specs.declared.lines.Accepted.TheVariants.{Sheet}

-- what is written and what is still to come are the whole
abbrev pub invariant-loop-found : goal.invariant-loop-found
invariant-loop-found g l =
    (string_bytes l.out ++ lines_of g.L.Order.TieOrder.before l.rest l.memory (script_from l.found-iterator.input.now l.found-iterator.place)
    ≡ string_bytes l.fn.out ++ (line_of 0 0 (Ok (Sheet l.fn.tasks)) ++ lines_of g.L.Order.TieOrder.before l.fn.first l.fn.memory (script_from l.fn.calls.input.now l.fn.calls.place)))
    × TiedTo g.L.ReadyList l.rest l.memory l.list
    × (goal.iterator-loop-found g).can_next l.found-iterator
    × (goal.iterator-loop-found g).is_finite l.found-iterator

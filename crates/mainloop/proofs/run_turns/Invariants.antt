use Rattle.controller.specs.Tied.{TiedTo}
use Rattle.mainloop.proofs.run_turns.Given as goal

-- the controller stays tied to its memory
abbrev pub invariant-loop : goal.invariant-loop
invariant-loop g l = TiedTo g.L.ReadyList l.rest l.memory l.list

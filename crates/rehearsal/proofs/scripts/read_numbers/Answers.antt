use Rattle.std.proofs.Common.{◌∙◌, arith}
use Rattle.rehearsal.proofs.Arguments.{behind_more}
use Rattle.rehearsal.proofs.scripts.read_numbers.Goals as goal
use Rattle.std.proofs.Math.ListN.{length-set}

pub loop-number-preserved : goal.loop-number-preserved
loop-number-preserved g c = (
  length-set _ _ _ ∙ c.loop-number.invariant.0,
  c.loop-number.invariant.1 ∙ behind_more c.loop-number.number-items c.loop-number.number-index g.row.N _ _ (omega arith) c.loop-number.invariant.0 c.in_ok-field.ensures,
)

use Rattle.std.proofs.Common.{arith}
use Rattle.rehearsal.proofs.Playing.{front_made}
use Rattle.rehearsal.proofs.play.front.Goals as goal

pub returns : goal.returns
returns c = front_made _ c.args.input c.get.result c.unwrap_or.result c.get.ensures.lookup c.unwrap_or.ensures 65536 (omega arith)

use Rattle.promise.proofs.Keeping.{one_by_one}
use Rattle.promise.proofs.one_by_one.Goals as goal

pub returns : goal.returns
returns c = one_by_one

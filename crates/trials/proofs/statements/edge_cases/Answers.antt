use Rattle.trials.proofs.Computed.{all_hold}
use Rattle.trials.proofs.statements.edge_cases.Goals as goal

pub returns-clause-hold : goal.returns-clause-hold
returns-clause-hold c = all_hold

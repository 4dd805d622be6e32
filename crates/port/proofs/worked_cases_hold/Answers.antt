use Rattle.port.proofs.Computed.{worked_cases}
use Rattle.port.proofs.worked_cases_hold.Goals as goal

pub returns : goal.returns
returns c = worked_cases

use Rattle.items.proofs.Windows.{window_exists}
use Rattle.items.proofs.window_exists.Goals as goal

pub returns : goal.returns
returns c = window_exists

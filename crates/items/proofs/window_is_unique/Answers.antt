use Rattle.items.proofs.Windows.{window_is_unique}
use Rattle.items.proofs.window_is_unique.Goals as goal

pub returns : goal.returns
returns c = window_is_unique

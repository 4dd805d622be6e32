-- The edges of each further depth lie over items that were there before.
use Rattle.congruence.proofs.Levels.{a_level_without_new_items_is_the_last}
use Rattle.congruence.proofs.a_level_without_new_items_is_the_last.Goals as goal

pub returns : goal.returns
returns c = a_level_without_new_items_is_the_last

-- Each call has one form less to look at.
use Rattle.std.proofs.Common.{length}
use Rattle.grammar.proofs.forms.+are_forms.Given as goal

abbrev pub decreases-are_forms : goal.decreases-are_forms
decreases-are_forms l = length l.forms.now

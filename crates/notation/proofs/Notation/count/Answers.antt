-- The signature has as many functions as the table lists.
use Rattle.std.proofs.Common.{sym, ◌∙◌}
use Rattle.std.proofs.lemmas.List.{length-map}
use Rattle.grammar.specs.Tables.{typed, listed}
use Rattle.notation.proofs.Notation.count.Goals as goal

pub returns : goal.returns
returns c = c.len.ensures ∙ sym (length-map (listed c.args.self.now.signature) typed)

-- The test decides the law of the signature.
use Rattle.std.proofs.Common.{true, false, refl}
use Rattle.std.proofs.lemmas.Bool.Decides.{Decides-at}
use Rattle.grammar.specs.Tables.{signature_of}
use Rattle.notation.specs.Checked.{lawful_decided}
use Rattle.notation.proofs.Notation.of_signature.Goals as goal

pub returns-then-is_lawful : goal.returns-then-is_lawful
returns-then-is_lawful c =
    record { test = Decides-at true _ c.if-is_lawful.ensures (lawful_decided (signature_of c.args.table)); signature = refl }

pub returns-else-is_lawful : goal.returns-else-is_lawful
returns-else-is_lawful c =
    record { test = Decides-at false _ c.if-is_lawful.ensures (lawful_decided (signature_of c.args.table)); signature = tt }

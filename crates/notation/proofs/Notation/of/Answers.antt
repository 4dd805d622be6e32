-- The signature of a language is lawful, by the language's law.
use Rattle.std.proofs.Common.{ap, ◌∙◌}
use Rattle.notation.specs.Checks.{is_lawful}
use Rattle.notation.specs.Checked.{lawful_decided}
use Rattle.notation.proofs.Notation.of.Goals as goal

pub invariant_of-result : goal.invariant_of-result
invariant_of-result g c =
    let l = c.args.language.now in
    record { lawful = ap is_lawful c.of-signature.ensures ∙ (lawful_decided (g.L.Language.meaning l).signature).1 (g.met.L.Language.lawful l).signature_lawful }

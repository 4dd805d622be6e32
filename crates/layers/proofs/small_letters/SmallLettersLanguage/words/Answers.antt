-- There are as many words as below.
use Rattle.std.proofs.Common.{sym, ◌∙◌}
use Rattle.std.proofs.lemmas.List.{length-map}
use Rattle.layers.specs.Small.{small_word}
use Rattle.layers.proofs.small_letters.SmallLettersLanguage.words.Goals as goal

pub returns : goal.returns
returns g c = c.words.ensures ∙ sym (length-map (g.L.Language.meaning c.args.self.now.below).words small_word)

-- The word at its first place in the phrase; one that is not in the phrase makes the string one that does not occur.
use Rattle.windows.specs.Strings.{own_string, phrase_of}
use Rattle.windows.proofs.Symbols.{word_nowhere}
use Rattle.windows.proofs.sequences.push_word.Goals as goal

pub returns-in_err-place_of-clause-added : goal.returns-in_err-place_of-clause-added
returns-in_err-place_of-clause-added g c =
    rw c.from_residual.ensures
    (word_nowhere (phrase_of c.args.places.now) (g.L.Language.meaning c.args.language.now).words c.args.word c.requires c.in_err-place_of.ensures (own_string c.args.places.now))

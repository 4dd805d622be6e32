-- A word for each function, and the three marks.
use Rattle.std.proofs.Common.{length, arith}
use Rattle.notation.specs.Notations.{signature_in}
use Rattle.notation.specs.Spelled.{words_length}
use Rattle.notation.proofs.language.NotationLanguage.words.Goals as goal

pub returns : goal.returns
returns c = let long = words_length (length (signature_in c.args.self.now).functions) in omega arith

-- The first place that has the word, or none.
use Rattle.std.proofs.Common.{rules, tests}
use Rattle.std.specs.List.{slice_get}
use Rattle.std.proofs.lemmas.Iterator.{first_from_Range}
use Rattle.phrase.specs.Spelled.{words_of}
use Rattle.phrase.proofs.Looked.{Stands, first_place}
use Rattle.phrase.proofs.words.Phrase.place_of.Goals as goal

pub returns : goal.returns
returns g c =
    let ws = words_of c.args.self.now in
    let o = slice_get (g.L.Language.meaning c.args.language.now).words c.args.word in
    first_place ws o c.len.result c.find.result c.len.ensures.count
    (first_from_Range _ _ _ _ (Stands ws o) (λ k. Stands ws o k → ⊥) c.find.ensures.ran (λ x q k. search (rules, tests)) (λ x q k. search (rules, tests)))

-- Counting a phrase's words: what the count is when the reader has no word left.
use Rattle.std.proofs.Common.{◌≡◌, ℕ, List, map, length, None, Ok, Option, ap, ◌∙◌, subst, arith}
use lib.ListN.{length-map}
use Rattle.grammar.specs.PhraseWalk.{Walk, phrase_walk, read_phrase, spelling_of, finished}
use Rattle.text.specs.declared.reader.PhraseWord.{PhraseWord}
use Rattle.text.specs.HandOut.{Handed}
use Rattle.calls.specs.Calls.{Ahead, WordCount}

sound_phrase : (bytes : List ℕ) → (phrase_walk bytes).stop ≡ None → read_phrase bytes ≡ Ok (map spelling_of (phrase_walk bytes).words)
sound_phrase bytes e = simp (e, read_phrase)

nothing_left : (phrase : List ℕ) (left after : Walk) (o : Option PhraseWord) → o ≡ None → Handed phrase left (Ok o) after → left ≡ finished
nothing_left phrase left after o none h = (subst (λ p. Handed phrase left (Ok p) after) none h).0

pub counted : (bytes phrase : List ℕ) (n : ℕ) (left after : Walk) (o : Option PhraseWord) → o ≡ None → Handed phrase left (Ok o) after → Ahead n (phrase_walk bytes) left → WordCount bytes (Ok n)
counted bytes phrase n left after o none h ahead =
    let done = nothing_left phrase left after o none h in
    (map spelling_of (phrase_walk bytes).words, sound_phrase bytes (ahead.stop ∙ ap (λ w. w.stop) done), omega (arith, length-map (phrase_walk bytes).words spelling_of, ahead.handed, ap (λ w. length w.words) done))

-- At the end nothing is left; a word that ended is handed out, and the reader stands after it.
use Rattle.std.proofs.Common.{◌≡◌, ◌+◌, sym, refl, ap, ◌∙◌, arith}
use Rattle.text.specs.HandOut.{walk_from}
use Rattle.text.proofs.Scan.{nothing_left, handed_out}
use Rattle.text.proofs.reader.PhraseReader.next_word.Goals as goal
use Rattle.text.proofs.reader.PhraseReader.next_word.Goals.{then-end-phrase, else-end-phrase}

pub returns-then-place-phrase : goal.returns-then-place-phrase
returns-then-place-phrase c =
    let r = c.args.self.now in
    record { phrase = refl; handed = (nothing_left r.words r.place r.phrase.now (omega arith), refl); counted = refl }

-- past the blank that ends the word, or at the phrase's end, the same is left
pub returns : goal.returns
returns c =
    let r = c.args.self.now in
    let n = r.words + 1 in
    let s = r.phrase.now in
    let e = c.in_ok-end.end in
    let after : walk_from n (e + 1) s ≡ walk_from n c.if-end-phrase.self s =
    elim c.if-end-phrase.branch [
      | then-end-phrase w ↦ let on : e + 1 ≡ c.if-end-phrase.self = omega arith in ap (λ p. walk_from n p s) on
      | else-end-phrase w ↦ nothing_left n (e + 1) s (omega arith) ∙ sym (nothing_left n c.if-end-phrase.self s (omega arith))
    ] in
    record { phrase = refl; handed = handed_out r.words r.place e s c.in_ok-end.ensures after; counted = refl }

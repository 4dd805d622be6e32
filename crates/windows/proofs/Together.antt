-- Strings put together: one after the other, and what is outside stays outside.
use Rattle.std.proofs.Common.{◌≡◌, ℕ, ◌+◌, ◌<◌, ◌≤◌, List, [], ◌∷◌, ◌++◌, length, get_or, take, drop, Some, None, Option, sym, refl, ap, ◌∙◌, subst, arith}
use Rattle.std.specs.List.{slice_get}
use Rattle.std.specs.Option.{option_map}
use Rattle.std.proofs.lemmas.List.{append_assoc, append-nil, get_or-drop, length-append, length-drop, take_all, take-append-drop, take_more, take-take}
use Rattle.std.proofs.lemmas.Option.{slice_get-get_or}
use Rattle.grammar.proofs.Optional.{none_some}
use Rattle.grammar.specs.declared.symbol.Symbol.{Symbol}
use Rattle.grammar.specs.Charts.{Item, Occurs}
use Rattle.grammar.specs.Languages.{Meaning, Spelling, Words}
use Rattle.congruence.specs.NodeItems.{IsWindowOf, put_together, sequence_string, symbol_string}
use Rattle.congruence.proofs.Strings.{occurs_front}
use Rattle.windows.specs.Strings.{one_word, word_at, words_at}

pub together_assoc : (a b c : Option Words) → put_together (put_together a b) c ≡ put_together a (put_together b c)
together_assoc None b c = refl
together_assoc (Some x) None c = refl
together_assoc (Some x) (Some y) None = refl
together_assoc (Some x) (Some y) (Some z) = ap Some (append_assoc x y z)

pub together_empty : (o : Option Words) → put_together o (Some []) ≡ o
together_empty None = refl
together_empty (Some x) = ap Some (append-nil x)

-- nothing before a string
pub empty_together : (o : Option Words) → put_together (Some []) o ≡ o
empty_together None = refl
empty_together (Some x) = refl

-- a string that does not occur is in no string that does
pub outside_more : (phrase : Words) (o p : Option Words) → IsWindowOf phrase o None → IsWindowOf phrase (put_together o p) None
outside_more phrase None p h = refl
outside_more phrase (Some s) None h = refl
outside_more phrase (Some s) (Some t) h = λ j at. h j (occurs_front phrase s t j at)

-- a string that is longer than the phrase does not occur
pub too_long : (phrase s : Words) → length phrase < length s → (j : ℕ) → Occurs phrase s j → ⊥
too_long phrase s long j o =
    omega (arith, ap length o.2, length-append o.0 (s ++ o.1), length-append s o.1)

pub sequence_append : (m : Meaning) (phrase : Words) (items : List Item) (xs ys : List Symbol) → sequence_string m phrase items (xs ++ ys) ≡ put_together (sequence_string m phrase items xs) (sequence_string m phrase items ys)
sequence_append m phrase items [] ys = sym (empty_together (sequence_string m phrase items ys))
sequence_append m phrase items (x ∷ xs) ys =
    ap (put_together (symbol_string m phrase items x)) (sequence_append m phrase items xs ys)
    ∙ sym (together_assoc (symbol_string m phrase items x) (sequence_string m phrase items xs) (sequence_string m phrase items ys))

-- the words at places, and at one place more
pub one_place_more : (phrase : Words) (is : List ℕ) (i : ℕ) → words_at phrase (is ++ i ∷ []) ≡ put_together (words_at phrase is) (word_at phrase i)
one_place_more phrase [] i = together_empty (word_at phrase i) ∙ sym (empty_together (word_at phrase i))
one_place_more phrase (j ∷ is) i =
    ap (put_together (word_at phrase j)) (one_place_more phrase is i)
    ∙ sym (together_assoc (word_at phrase j) (words_at phrase is) (word_at phrase i))

-- the parts of the words at places that are there
pub parts_at : (o : Option Spelling) (q : Option Words) (s : Words) → put_together (option_map one_word o) q ≡ Some s → (w : Spelling) × (rest : Words) × (o ≡ Some w) × (q ≡ Some rest) × (s ≡ w ∷ rest)
parts_at None q s e = absurd (none_some s e)
parts_at (Some w) None s e = absurd (none_some s e)
parts_at (Some w) (Some rest) s e = (w, rest, refl, refl, let same : s ≡ w ∷ rest = cc in same)

pub one_word_each : (phrase : Words) (is : List ℕ) (s : Words) → words_at phrase is ≡ Some s → length is ≡ length s
one_word_each phrase [] s e = let same : [] ≡ s = cc in ap length same
one_word_each phrase (j ∷ is) s e =
    let p = parts_at (slice_get phrase j) (words_at phrase is) s e in
    omega (arith, ap length p.4, one_word_each phrase is p.1 p.3)

-- past as many places as the phrase has words, one more is too many
pub no_room : (phrase : Words) (is : List ℕ) (i : ℕ) → length phrase ≤ length is → IsWindowOf phrase (put_together (words_at phrase is) (word_at phrase i)) None
no_room phrase is i full = by (words_at phrase is) (slice_get phrase i) refl
  where
    by : (o : Option Words) (w : Option Spelling) → words_at phrase is ≡ o → IsWindowOf phrase (put_together o (option_map one_word w)) None
    by None w e = refl
    by (Some s) None e = refl
    by (Some s) (Some w) e = too_long phrase (s ++ w ∷ []) (omega (arith, one_word_each phrase is s e, length-append s (w ∷ [])))

-- a part of the phrase, word by word, after a string that is there already
module _ (phrase : Words) (before : Option Words) (i k : ℕ) (now : Option Words) (so_far : now ≡ put_together before (Some (take k (drop i phrase)))) where
  pub part_more : i + k < length phrase → put_together now (word_at phrase (i + k)) ≡ put_together before (Some (take (k + 1) (drop i phrase)))
  part_more lt =
      let word : word_at phrase (i + k) ≡ Some (get_or (drop i phrase) k [] ∷ []) = ap (option_map one_word) (slice_get-get_or phrase (i + k) [] lt) ∙ ap (λ w. Some (w ∷ [])) (sym (get_or-drop i phrase k [])) in
      ap (λ o. put_together o (word_at phrase (i + k))) so_far
      ∙ ap (put_together (put_together before (Some (take k (drop i phrase))))) word
      ∙ together_assoc before (Some (take k (drop i phrase))) (Some (get_or (drop i phrase) k [] ∷ []))
      ∙ ap (λ t. put_together before (Some t)) (sym (take_more (drop i phrase) k [] (omega (arith, length-drop i phrase))))

  pub part_ended : length phrase ≤ i + k → now ≡ put_together before (Some (take (k + 1) (drop i phrase)))
  part_ended past =
      so_far
      ∙ ap (λ t. put_together before (Some t)) (take_all k (drop i phrase) (omega (arith, length-drop i phrase)) ∙ sym (take_all (k + 1) (drop i phrase) (omega (arith, length-drop i phrase))))

  -- one word of the part too many is enough
  pub part_outside : (n : ℕ) → k < n → i + k < length phrase → IsWindowOf phrase (put_together now (word_at phrase (i + k))) None → IsWindowOf phrase (put_together before (Some (take n (drop i phrase)))) None
  part_outside n le lt out =
      let front = take (k + 1) (drop i phrase) in
      let rest = drop (k + 1) (take n (drop i phrase)) in
      let whole : front ++ rest ≡ take n (drop i phrase) = ap (λ t. t ++ rest) (sym (take-take (k + 1) n (drop i phrase) (omega arith))) ∙ take-append-drop (k + 1) (take n (drop i phrase)) in
      subst (λ o. IsWindowOf phrase o None) (together_assoc before (Some front) (Some rest) ∙ ap (λ t. put_together before (Some t)) whole)
      (outside_more phrase (put_together before (Some front)) (Some rest) (subst (λ o. IsWindowOf phrase o None) (part_more lt) out))

-- How sizes add up: words and their lengths, symbols one after the other, and the sizes that three arguments have.
use Rattle.std.proofs.Common.{◌≡◌, ℕ, zero, suc, ◌+◌, ◌<◌, List, [], ◌∷◌, ◌++◌, length, get_or, take, Some, unwrap_or, sym, refl, ap, ◌∙◌, arith}
use Rattle.std.specs.List.{slice_get, flat_map}
use Rattle.std.specs.Option.{option_map}
use Rattle.std.proofs.lemmas.List.{flat_map_more, length-append, take_more}
use Rattle.std.proofs.lemmas.Option.{slice_get-get_or}
use Rattle.grammar.proofs.Nth.{nth_below}
use Rattle.grammar.specs.Languages.{Words}
use Rattle.grammar.specs.Linearization.{Said, nothing_said}
use Rattle.saying.specs.Sizes.{spelled_bytes}
use Rattle.saying.proofs.Lengths.{spelled_append}
use Rattle.measure.specs.declared.kinds.Measure.{Measure}
use Rattle.measure.specs.declared.kinds.Size.{Size}
use Rattle.measure.specs.Sizes.{size_of, measure_of}
use Rattle.measure.specs.Sums.{argument_measures}

-- a word's length, as the question tells it; a word that is not there has none
pub word_told : (ws : Words) (n : ℕ) → unwrap_or (option_map length (slice_get ws n)) 0 ≡ length (get_or ws n [])
word_told [] n = refl
word_told (w ∷ ws) zero = refl
word_told (w ∷ ws) (suc n) = word_told ws n

-- one word has the size of its bytes
pub one_word : (w : List ℕ) (n : ℕ) → n ≡ length w → record { words = 1; bytes = n } ≡ size_of (w ∷ [])
one_word w n e = let long : n ≡ spelled_bytes (w ∷ []) = omega arith in ap (λ k. record { words = 1; bytes = k }) long

-- three measures, each at its argument's number, and four sizes, each at its constituent's
at_measure : (all : List Said) (a : ℕ) (d : Measure) → a < 3 → get_or (argument_measures all) a d ≡ measure_of (get_or all a nothing_said)
at_measure all zero d lt = refl
at_measure all (suc zero) d lt = refl
at_measure all (suc (suc zero)) d lt = refl
at_measure all (suc (suc (suc a))) d lt = absurd (omega arith)

at_size : (s : Said) (k : ℕ) (d : Size) → k < 4 → get_or (measure_of s).sizes k d ≡ size_of (get_or s.constituents k [])
at_size s zero d lt = refl
at_size s (suc zero) d lt = refl
at_size s (suc (suc zero)) d lt = refl
at_size s (suc (suc (suc zero))) d lt = refl
at_size s (suc (suc (suc (suc k)))) d lt = absurd (omega arith)

pub argument_size : (all : List Said) (arguments : List Measure) (a k : ℕ) (d : Measure) (e : Size) → a < 3 → k < 4 → arguments ≡ argument_measures all → get_or (get_or arguments a d).sizes k e ≡ size_of (get_or (get_or all a nothing_said).constituents k [])
argument_size all arguments a k d e few four same =
    ap (λ ms. get_or (get_or ms a d).sizes k e) same ∙ ap (λ (m : Measure). get_or m.sizes k e) (at_measure all a d few) ∙ at_size (get_or all a nothing_said) k e four

-- two sizes together
abbrev pub both : Size → Size → Size
both a b = record { words = a.words + b.words; bytes = a.bytes + b.bytes }

both_words : (vs ws : Words) → both (size_of vs) (size_of ws) ≡ size_of (vs ++ ws)
both_words vs ws =
    ap (λ n. record { words = n; bytes = spelled_bytes vs + spelled_bytes ws }) (sym (length-append vs ws))
    ∙ ap (λ n. record { words = length (vs ++ ws); bytes = n }) (sym (spelled_append vs ws))

-- one symbol more
pub one_symbol_more : {X : Type 0} (f : X → Words) (xs : List X) (i : ℕ) (x : X) (size one : Size) → slice_get xs i ≡ Some x → size ≡ size_of (flat_map f (take i xs)) → one ≡ size_of (f x) → both size one ≡ size_of (flat_map f (take (i + 1) xs))
one_symbol_more f xs i x size one there so_far here =
    let lt = nth_below xs i x there in
    let same : get_or xs i x ≡ x = cc (slice_get-get_or xs i x lt) in
    ap (λ a. both a one) so_far
    ∙ ap (both (size_of (flat_map f (take i xs)))) here
    ∙ both_words (flat_map f (take i xs)) (f x)
    ∙ ap size_of (flat_map_more f [] (take i xs) x)
    ∙ ap (λ y. size_of (flat_map f (take i xs ++ y ∷ []))) (sym same)
    ∙ ap (λ ys. size_of (flat_map f ys)) (sym (take_more xs i x lt))

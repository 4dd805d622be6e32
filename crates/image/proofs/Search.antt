-- A search for a key among the records of a sound image, whose keys rise.
use Rattle.std.proofs.Common.{◌≡◌, ℕ, ◌+◌, ◌<◌, ◌≤◌, true, List, [], ◌∷◌, length, get_or, slice_index, Ok, Err, Result, sym, ap, ◌∙◌, subst, ⊎_elim, arith}
use Rattle.std.specs.Cmp.Lexicographic.{slice_cmp}
use Rattle.std.specs.Result.{result_ok}
use Rattle.std.specs.List.Sorted.{IsSearchInRange, IsBinarySearchResult, IsNonDecreasingBy}
use Rattle.std.specs.Ordering.{nat_cmp, ordering_index, MatchOrdering}
use Rattle.std.specs.declared.cmp.Ordering.{Ordering}
use Rattle.std.specs.declared.cmp.Ordering.TheVariants.{Less, Equal, Greater}
use Rattle.std.proofs.lemmas.Bool.{cases_eq, cases_lt}
use Rattle.std.proofs.lemmas.List.Sorted.{IsNonDecreasingBy-from_default}
use Rattle.demands.proofs.Keys.{ordered}
use Rattle.demands.specs.Check.{rises}
use Rattle.view.specs.Grammar.{key, listing}
use Rattle.view.specs.Layout.{byte, rules, rule_at}
use Rattle.image.specs.Lookups.{HasKey}
use Rattle.soundness.proofs.KeyOrder.{rising, rises_trans, rises_not_itself}
use Rattle.soundness.proofs.Sound.{Sound}

-- what the library's answer says of two keys
compared : (low high : List ℕ) (o : Ordering) → length low ≡ length high → slice_cmp nat_cmp low high ≡ o → MatchOrdering o (rises low high ≡ true) (low ≡ high) (rises high low ≡ true)
compared low high o long answer = subst (λ x. MatchOrdering x (rises low high ≡ true) (low ≡ high) (rises high low ≡ true)) answer (ordered low high long)

-- of two keys, the later one compares no lower
module _ (x y wanted : List ℕ) (later : rises x y ≡ true) where
  not_both : rises y wanted ≡ true → rises wanted y ≡ true → ⊥
  not_both below above = rises_not_itself y (rises_trans y wanted y below above)

  no_lower : (o p : Ordering) → MatchOrdering o (rises x wanted ≡ true) (x ≡ wanted) (rises wanted x ≡ true) → MatchOrdering p (rises y wanted ≡ true) (y ≡ wanted) (rises wanted y ≡ true) → ordering_index o ≤ ordering_index p
  no_lower Less p h k = omega arith
  no_lower Equal Less h k = absurd (not_both k (subst (λ z. rises z y ≡ true) h later))
  no_lower Equal Equal h k = omega arith
  no_lower Equal Greater h k = omega arith
  no_lower Greater Less h k = absurd (not_both k (rises_trans wanted x y h later))
  no_lower Greater Equal h k = absurd (rises_not_itself wanted (subst (λ z. rises wanted z ≡ true) k (rises_trans wanted x y h later)))
  no_lower Greater Greater h k = omega arith

-- the key that a record begins with, and how it compares with another
abbrev pub key_of : List ℕ → List ℕ
key_of bytes = listing 4 (slice_index bytes)

abbrev pub compared_with : List ℕ → List ℕ → Ordering
compared_with wanted bytes = slice_cmp nat_cmp (key_of bytes) wanted

module _ (b : List ℕ) (s : Sound b) (records : List (List ℕ)) (count : length records ≡ rules b)
    (told : (r i : ℕ) (d : List ℕ) → r < length records → i < 17 → get_or (get_or records r d) i 0 ≡ byte b (rule_at b r + i))
    (wanted : List ℕ) (long : length wanted ≡ 4) where
  record_key : (r : ℕ) (d : List ℕ) → r < rules b → key_of (get_or records r d) ≡ key b r
  record_key r d lt =
      let in_range : r < length records = omega (arith, count) in
      λ i. told r 0 d in_range (omega arith) i ∷ told r 1 d in_range (omega arith) i ∷ told r 2 d in_range (omega arith) i ∷ told r 3 d in_range (omega arith) i ∷ []

  comparisons_rise : IsNonDecreasingBy (λ r. ordering_index (compared_with wanted r)) records
  comparisons_rise = IsNonDecreasingBy-from_default (λ r. ordering_index (compared_with wanted r)) records [] rise
    where
      rise : (i j : ℕ) → i ≤ j → j < length records → ordering_index (compared_with wanted (get_or records i [])) ≤ ordering_index (compared_with wanted (get_or records j []))
      rise i j le lt =
          ⊎_elim
          (λ same. omega (arith, ap (λ k. ordering_index (compared_with wanted (get_or records k []))) same))
          (λ apart.
          let later = rising b (rules b) (λ r rl. (s.rule_sound r rl).rising) i j (omega (arith, apart)) (omega (arith, count)) in
          let keys = subst (λ k. rises k (key b j) ≡ true) (sym (record_key i [] (omega (arith, count)))) later in
          no_lower (key_of (get_or records i [])) (key_of (get_or records j [])) wanted
          (subst (λ k. rises (key_of (get_or records i [])) k ≡ true) (sym (record_key j [] (omega (arith, count)))) keys)
          (compared_with wanted (get_or records i [])) (compared_with wanted (get_or records j [])) (ordered (key_of (get_or records i [])) wanted (sym long)) (ordered (key_of (get_or records j [])) wanted (sym long)))
          (cases_eq i j)

  pub searched : (r : Result ℕ ℕ) → IsSearchInRange r (length records) → IsBinarySearchResult (compared_with wanted) records r → HasKey b wanted (result_ok r)
  searched (Ok at) in_range equal =
      let lt : at < rules b = omega (arith, in_range, count) in
      (lt, sym (record_key at [] lt) ∙ compared (key_of (get_or records at [])) wanted Equal (sym long) (equal []))
  searched (Err at) in_range parted = λ i lt same.
      let here = record_key i [] lt ∙ same in
      ⊎_elim
      (λ below. rises_not_itself wanted (subst (λ k. rises k wanted ≡ true) here (compared (key_of (get_or records i [])) wanted Less (sym long) ((parted comparisons_rise).0 i [] (omega arith) below))))
      (λ above. rises_not_itself wanted (subst (λ k. rises wanted k ≡ true) here (compared (key_of (get_or records i [])) wanted Greater (sym long) ((parted comparisons_rise).1 i [] above (omega (arith, count))))))
      (cases_lt i at)

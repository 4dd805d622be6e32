-- Strings and what stands for them in a phrase: a string with a window is that part of the phrase, and one outside stays outside in whatever it is put into.
use Rattle.std.proofs.Common.{◌≡◌, ℕ, zero, suc, ◌+◌, ◌↔◌, List, [], ◌∷◌, ◌++◌, map, length, get_or, take, drop, Some, None, Option, sym, refl, ap, ◌∙◌, subst, append_assoc, arith, length-append}
use Rattle.std.specs.List.{flat_map}
use Rattle.std.proofs.lemmas.List.{take_at, drop_at}
use Rattle.grammar.specs.declared.symbol.Symbol.{Symbol}
use Rattle.grammar.specs.declared.symbol.Symbol.TheVariants.{Word, Reference}
use Rattle.grammar.specs.declared.symbol.Window.{Window}
use Rattle.grammar.specs.Charts.{AreWindows, IsWindow, Item, Occurs}
use Rattle.grammar.specs.Languages.{Meaning, Words}
use Rattle.grammar.specs.Linearization.{Said, nothing_said, symbol_words}
use Rattle.congruence.specs.NodeItems.{AreWindowsOf, IsWindowOf, empty_window, nothing_shown, put_together, sequence_string, symbol_string, window_string}

-- where a string occurs, so do its front and its back
pub occurs_front : (phrase s t : Words) (j : ℕ) → Occurs phrase (s ++ t) j → Occurs phrase s j
occurs_front phrase s t j o = (o.0, t ++ o.1, o.2 ∙ ap (λ rest. o.0 ++ rest) (append_assoc s t o.1), o.3)

pub occurs_back : (phrase s t : Words) (j : ℕ) → Occurs phrase (s ++ t) j → Occurs phrase t (j + length s)
occurs_back phrase s t j o =
    (o.0 ++ s, o.1, o.2 ∙ ap (λ rest. o.0 ++ rest) (append_assoc s t o.1) ∙ sym (append_assoc o.0 s (t ++ o.1)), length-append o.0 s ∙ ap (λ n. n + length s) o.3)

occurs_part : (phrase s : Words) (j : ℕ) → Occurs phrase s j → take (length s) (drop j phrase) ≡ s
occurs_part phrase s j o =
    ap (λ p. take (length s) (drop j p)) o.2
    ∙ ap (take (length s)) (drop_at o.0 (s ++ o.1) j o.3)
    ∙ take_at s o.1 (length s) refl

-- o stands for the string in the phrase: it is the string, or the string does not occur
abbrev pub StandsFor : Words → Option Words → Words → Type 0
StandsFor phrase None s = (j : ℕ) → Occurs phrase s j → ⊥
StandsFor phrase (Some t) s = t ≡ s

window_stands : (phrase s : Words) (w : Option Window) → IsWindow phrase s w → StandsFor phrase (window_string phrase w) s
window_stands phrase s None p = p
window_stands phrase s (Some w) p = ap (λ k. take k (drop w.start phrase)) p.2 ∙ occurs_part phrase s w.start p.0

together_stands : (phrase : Words) (o p : Option Words) (s t : Words) → StandsFor phrase o s → StandsFor phrase p t → StandsFor phrase (put_together o p) (s ++ t)
together_stands phrase None p s t h k = λ j at. h j (occurs_front phrase s t j at)
together_stands phrase (Some x) None s t h k = λ j at. k (j + length s) (occurs_back phrase s t j at)
together_stands phrase (Some x) (Some y) s t h k = λ i. h i ++ k i

-- the window of a string is that of what stands for it
stands_window : (phrase : Words) (o : Option Words) (s : Words) (w : Option Window) → StandsFor phrase o s → IsWindow phrase s w ↔ IsWindowOf phrase o w
stands_window phrase None s (Some w) h = (λ p. absurd (h w.start p.0), λ e. let z : ◌≡◌ {A = ℕ} 0 1 = cc in absurd (omega arith))
stands_window phrase None s None h = (λ p. refl, λ e. h)
stands_window phrase (Some t) s w h = (subst (λ x. IsWindow phrase x w) (sym h), subst (λ x. IsWindow phrase x w) h)

empty_is : (phrase : Words) → IsWindow phrase [] empty_window
empty_is phrase = (([], phrase, refl, refl), λ j o. omega arith, refl)

-- the window of constituent k; one that is missing is empty
window_at : (phrase : Words) (ss : List Words) (ws : List (Option Window)) (k : ℕ) → AreWindows phrase ss ws → IsWindow phrase (get_or ss k []) (get_or ws k empty_window)
window_at phrase [] [] k p = empty_is phrase
window_at phrase [] (w ∷ ws) k p = absurd p
window_at phrase (s ∷ ss) [] k p = absurd p
window_at phrase (s ∷ ss) (w ∷ ws) zero p = p.0
window_at phrase (s ∷ ss) (w ∷ ws) (suc k) p = window_at phrase ss ws k p.1

-- an item shows what is said of a tree: its form, and the window of each constituent
abbrev pub Shows : Words → Said → Item → Type 0
Shows phrase s i = (s.form ≡ i.form) × AreWindows phrase s.constituents i.windows

abbrev pub ShowAll : Words → List Said → List Item → Type 0
ShowAll phrase [] [] = Unit {0}
ShowAll phrase [] (i ∷ is) = ⊥
ShowAll phrase (s ∷ ss) [] = ⊥
ShowAll phrase (s ∷ ss) (i ∷ is) = Shows phrase s i × ShowAll phrase ss is

shown_at : (phrase : Words) (all : List Said) (items : List Item) (a : ℕ) → ShowAll phrase all items → AreWindows phrase (get_or all a nothing_said).constituents (get_or items a nothing_shown).windows
shown_at phrase [] [] a p = tt
shown_at phrase [] (i ∷ is) a p = absurd p
shown_at phrase (s ∷ ss) [] a p = absurd p
shown_at phrase (s ∷ ss) (i ∷ is) zero p = p.0.1
shown_at phrase (s ∷ ss) (i ∷ is) (suc a) p = shown_at phrase ss is a p.1

module _ (m : Meaning) (phrase : Words) (all : List Said) (items : List Item) (shown : ShowAll phrase all items) where
  symbol_stands : (x : Symbol) → StandsFor phrase (symbol_string m phrase items x) (symbol_words m all x)
  symbol_stands (Word n) = refl
  symbol_stands (Reference a k) =
      window_stands phrase (get_or (get_or all a nothing_said).constituents k []) (get_or (get_or items a nothing_shown).windows k empty_window)
      (window_at phrase (get_or all a nothing_said).constituents (get_or items a nothing_shown).windows k (shown_at phrase all items a shown))

  pub sequence_stands : (xs : List Symbol) → StandsFor phrase (sequence_string m phrase items xs) (flat_map (symbol_words m all) xs)
  sequence_stands [] = refl
  sequence_stands (x ∷ xs) =
      together_stands phrase (symbol_string m phrase items x) (sequence_string m phrase items xs) (symbol_words m all x) (flat_map (symbol_words m all) xs) (symbol_stands x) (sequence_stands xs)

  -- the windows of what is said by a rule are those of its sequences' strings
  pub sequence_windows : (xss : List (List Symbol)) (ws : List (Option Window)) → AreWindows phrase (map (flat_map (symbol_words m all)) xss) ws ↔ AreWindowsOf phrase (map (sequence_string m phrase items) xss) ws
  sequence_windows [] [] = (λ p. p, λ p. p)
  sequence_windows [] (w ∷ ws) = (λ p. p, λ p. p)
  sequence_windows (xs ∷ xss) [] = (λ p. p, λ p. p)
  sequence_windows (xs ∷ xss) (w ∷ ws) =
      let first = stands_window phrase (sequence_string m phrase items xs) (flat_map (symbol_words m all) xs) w (sequence_stands xs) in
      let rest = sequence_windows xss ws in
      (λ p. (first.0 p.0, rest.0 p.1), λ p. (first.1 p.0, rest.1 p.1))

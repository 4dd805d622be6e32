-- How long what is said can be.
use Rattle.std.proofs.Common.{◌≡◌, ℕ, zero, suc, ◌+◌, ◌-◌, ◌*◌, ◌^◌, ◌≤◌, max, List, [], ◌∷◌, ◌++◌, map, length, get_or, Some, sym, refl, ap, subst, mul-le-mul_right, arith, length-append}
use Rattle.std.specs.List.{flat_map, AllByRecursion}
use Rattle.std.proofs.ByRecursion.{All-weaker, All-map}
use Rattle.grammar.specs.declared.symbol.Symbol.{Symbol}
use Rattle.grammar.specs.declared.symbol.Symbol.TheVariants.{Word, Reference}
use Rattle.grammar.specs.Languages.{Lawful, Meaning, Rule, Words}
use Rattle.grammar.specs.Linearization.{Said, nothing_said, symbol_words, by_rule, linearized, linearized_all, spaced, said_form}
use Rattle.grammar.specs.Trees.{Tree, Trees, depth, deepest}
use Rattle.grammar.specs.Trees.Tree.{node}
use Rattle.grammar.specs.Trees.Trees.{none, more}
use Rattle.saying.specs.Laws.{ConstituentsAreBounded, TextLengthBySums, TextsAreBounded}
use Rattle.saying.specs.Sizes.{spelled_bytes}
use Rattle.saying.proofs.Muteness.{node_parts, more_parts}

pub text_length_by_sums : TextLengthBySums
text_length_by_sums [] = refl
text_length_by_sums (w ∷ []) = omega arith
text_length_by_sums (w ∷ v ∷ ws) = omega (arith, text_length_by_sums (v ∷ ws), length-append w (0x20 ∷ spaced (v ∷ ws)))

pub spelled_append : (ws vs : Words) → spelled_bytes (ws ++ vs) ≡ spelled_bytes ws + spelled_bytes vs
spelled_append [] vs = omega arith
spelled_append (w ∷ ws) vs = omega (arith, spelled_append ws vs)

-- at most n words, of 24 bytes at most
abbrev pub Bounded : ℕ → Words → Type 0
Bounded n ws = (length ws ≤ n) × (spelled_bytes ws ≤ 24 * length ws)

abbrev pub AllBounded : ℕ → Said → Type 0
AllBounded n s = AllByRecursion (Bounded n) s.constituents

wider : (n k : ℕ) → n ≤ k → (s : Said) → AllBounded n s → AllBounded k s
wider n k le s b = All-weaker (Bounded n) (Bounded k) (λ ws p. (omega (arith, p.0), p.1)) s.constituents b

-- what holds of each element and of the default holds of what is read
pub read_all : {A : Type 0} (P : A → Type 0) (xs : List A) (i : ℕ) (d : A) → AllByRecursion P xs → P d → P (get_or xs i d)
read_all P [] i d a p = p
read_all P (x ∷ xs) zero d a p = a.0
read_all P (x ∷ xs) (suc i) d a p = read_all P xs i d a.1 p

module _ (m : Meaning) (law : Lawful m) (n : ℕ) (some : 1 ≤ n) (arguments : List Said) (bounded : AllByRecursion (AllBounded n) arguments) where
  symbol_bounded : (x : Symbol) → Bounded n (symbol_words m arguments x)
  symbol_bounded (Word k) =
      (some, let short : length (get_or m.words k []) ≤ 24 = read_all (λ w. length w ≤ 24) m.words k [] (All-weaker (λ w. (1 ≤ length w) × (length w ≤ 24)) (λ w. length w ≤ 24) (λ w p. p.1) m.words law.spelling_range) (omega arith) in omega arith)
  symbol_bounded (Reference a k) =
      read_all (Bounded n) (get_or arguments a nothing_said).constituents k [] (read_all (AllBounded n) arguments a nothing_said bounded tt) (omega arith, omega arith)

  sequence_bounded : (symbols : List Symbol) → (length (flat_map (symbol_words m arguments) symbols) ≤ length symbols * n) × (spelled_bytes (flat_map (symbol_words m arguments) symbols) ≤ 24 * length (flat_map (symbol_words m arguments) symbols))
  sequence_bounded [] = (omega arith, omega arith)
  sequence_bounded (x ∷ xs) =
      let first = symbol_bounded x in
      let rest = sequence_bounded xs in
      let long = length-append (symbol_words m arguments x) (flat_map (symbol_words m arguments) xs) in
      let spelled = spelled_append (symbol_words m arguments x) (flat_map (symbol_words m arguments) xs) in
      (omega (arith, long, first.0, rest.0), omega (arith, long, spelled, first.1, rest.1))

  rule_bounded : (r : Rule) → AllByRecursion (λ symbols. length symbols ≤ 8) r.sequences → AllBounded (8 * n) (by_rule m arguments r)
  rule_bounded r few =
      All-map (Bounded (8 * n)) (flat_map (symbol_words m arguments)) r.sequences
      (All-weaker (λ symbols. length symbols ≤ 8) (λ symbols. Bounded (8 * n) (flat_map (symbol_words m arguments) symbols)) (λ symbols le. let p = sequence_bounded symbols in (omega (arith, p.0, mul-le-mul_right n le), p.1)) r.sequences few)

grown : (d : ℕ) → 8 * 8 ^ d ≡ 8 ^ suc d
grown d = omega arith

some_power : (d : ℕ) → 1 ≤ 8 ^ d
some_power zero = omega arith
some_power (suc d) = omega (arith, grown d, some_power d)

power_grows : (d e : ℕ) → 8 ^ d ≤ 8 ^ (d + e)
power_grows d zero = let at : d + 0 ≡ d = omega arith in omega (arith, ap (λ k. 8 ^ k) at)
power_grows d (suc e) = let at : d + suc e ≡ suc (d + e) = omega arith in omega (arith, ap (λ k. 8 ^ k) at, grown (d + e), power_grows d e)

pub power_mono : (d k : ℕ) → d ≤ k → 8 ^ d ≤ 8 ^ k
power_mono d k le = let at : d + (k - d) ≡ k = omega arith in subst (λ j. 8 ^ d ≤ 8 ^ j) at (power_grows d (k - d))

mutual
  tree_bounded : (t : Tree) (m : Meaning) → Lawful m → (s : Said) → linearized m t ≡ Some s → AllBounded (8 ^ depth t) s
  tree_bounded (node f ts) m law s e =
      let parts = node_parts m f ts s e in
      let n = 8 ^ deepest ts in
      let few = (law.rules_lawful f (map said_form parts.0) parts.1 parts.3).2.sequence_range in
      let b = rule_bounded m law n (some_power (deepest ts)) parts.0 (trees_bounded ts m law parts.0 parts.2) parts.1 few in
      subst (AllBounded (8 ^ suc (deepest ts))) (sym parts.4) (subst (λ k. AllBounded k (by_rule m parts.0 parts.1)) (grown (deepest ts)) b)

  pub trees_bounded : (ts : Trees) (m : Meaning) → Lawful m → (all : List Said) → linearized_all m ts ≡ Some all → AllByRecursion (AllBounded (8 ^ deepest ts)) all
  trees_bounded none m law all e = subst (AllByRecursion (AllBounded 1)) (let same : [] ≡ all = cc in same) tt
  trees_bounded (more t ts) m law all e =
      let parts = more_parts m t ts all e in
      let k = max (depth t) (deepest ts) in
      let first = wider (8 ^ depth t) (8 ^ k) (power_mono (depth t) k (omega arith)) parts.0 (tree_bounded t m law parts.0 parts.2) in
      let rest = All-weaker (AllBounded (8 ^ deepest ts)) (AllBounded (8 ^ k)) (wider (8 ^ deepest ts) (8 ^ k) (power_mono (deepest ts) k (omega arith))) parts.1 (trees_bounded ts m law parts.1 parts.3) in
      subst (AllByRecursion (AllBounded (8 ^ k))) (sym parts.4) (first, rest)

pub constituents_are_bounded : ConstituentsAreBounded
constituents_are_bounded m law t s e = tree_bounded t m law s e

pub texts_are_bounded : TextsAreBounded
texts_are_bounded m law t phrase deep (s, said, main) =
    let words = read_all (Bounded (8 ^ depth t)) s.constituents 0 [] (tree_bounded t m law s said) (omega arith, omega arith) in
    let these = subst (Bounded (8 ^ depth t)) main words in
    let most : 8 ^ depth t ≤ 262144 = power_mono (depth t) 6 deep in
    (omega (arith, these.0, most), omega (arith, these.0, these.1, most, text_length_by_sums phrase))

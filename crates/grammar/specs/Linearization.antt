-- Linearization: a tree's form and strings, and the one relation between trees and phrases.
use Rattle.std.specs.Prelude.{◌≡◌, ℕ, List, [], ◌∷◌, ◌++◌, map, get_or, Some, None, Option, slice_index_or}
use Rattle.std.specs.List.{flat_map}
use Rattle.grammar.specs.declared.symbol.Symbol.{Symbol}
use Rattle.grammar.specs.declared.symbol.Symbol.TheVariants.{Word, Reference}
use Rattle.grammar.specs.Languages.{Meaning, Rule, Words}
use Rattle.grammar.specs.Trees.{Tree, Trees}
use Rattle.grammar.specs.Trees.Tree.{node}
use Rattle.grammar.specs.Trees.Trees.{none, more}

-- what a tree comes to in a language: its form, and a string of words for each constituent
pub record Said : Type 0 where
  pub form : ℕ
  pub constituents : List Words

abbrev pub nothing_said : Said
nothing_said = record { form = 0; constituents = [] }

-- a word is put down, a reference replaced by the argument's constituent; the law rules out a symbol that names nothing
abbrev pub symbol_words : Meaning → List Said → Symbol → Words
symbol_words m arguments (Word n) = slice_index_or m.words n [] ∷ []
symbol_words m arguments (Reference a k) = slice_index_or (get_or arguments a nothing_said).constituents k []

abbrev pub by_rule : Meaning → List Said → Rule → Said
by_rule m arguments r = record { form = r.form; constituents = map (flat_map (symbol_words m arguments)) r.sequences }

abbrev pub said_form : Said → ℕ
said_form s = s.form

-- by the rule for the function and the forms of its arguments, where there is one
abbrev pub apply_rule : Meaning → List Said → Option Rule → Option Said
apply_rule m arguments None = None
apply_rule m arguments (Some r) = Some (by_rule m arguments r)

abbrev pub said_node : Meaning → ℕ → Option (List Said) → Option Said
said_node m f None = None
said_node m f (Some arguments) = apply_rule m arguments (m.rule f (map said_form arguments))

abbrev pub said_more : Option Said → Option (List Said) → Option (List Said)
said_more None rest = None
said_more (Some s) None = None
said_more (Some s) (Some rest) = Some (s ∷ rest)

-- a tree has no linearization when an argument has none or the rule is missing
abbrev mutual
  pub linearized : Meaning → Tree → Option Said
  linearized m (node f ts) = said_node m f (linearized_all m ts)

  pub linearized_all : Meaning → Trees → Option (List Said)
  linearized_all m none = Some []
  linearized_all m (more t ts) = said_more (linearized m t) (linearized_all m ts)

-- what is said of the whole tree: its constituent 0
abbrev pub main_constituent : Said → Words
main_constituent s = slice_index_or s.constituents 0 []

-- the tree linearizes to the phrase
abbrev pub Linearizes : Meaning → Tree → Words → Type 0
Linearizes m t phrase = (s : Said) × (linearized m t ≡ Some s) × (main_constituent s ≡ phrase)

-- a string of words as text: the words joined by one blank
abbrev pub blank : ℕ
blank = 0x20

abbrev pub spaced : Words → List ℕ
spaced [] = []
spaced (w ∷ []) = w
spaced (w ∷ v ∷ ws) = w ++ (blank ∷ spaced (v ∷ ws))

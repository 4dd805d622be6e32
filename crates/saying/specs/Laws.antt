-- The laws of saying, over every language: a tree is said or has one first mute node, and how long what is said can be.
use Rattle.std.specs.Prelude.{◌≡◌, ℕ, ◌*◌, ◌^◌, ◌≤◌, ◌⊎◌, length, Some}
use Rattle.std.specs.List.{AllByRecursion}
use Rattle.grammar.specs.Languages.{Lawful, Meaning, Words}
use Rattle.grammar.specs.Linearization.{Linearizes, Said, linearized, spaced}
use Rattle.grammar.specs.Trees.{Tree, depth}
use Rattle.saying.specs.Mute.{FirstMute}
use Rattle.saying.specs.Sizes.{spelled_bytes, text_length}

-- a tree has a linearization, or a first mute node
abbrev pub SaidOrMute : Type 0
SaidOrMute = (m : Meaning) (t : Tree) → ((s : Said) × (linearized m t ≡ Some s)) ⊎ ((i : ℕ) × FirstMute m t i)

-- and not both
abbrev pub SaidIsNotMute : Type 0
SaidIsNotMute = (m : Meaning) (t : Tree) (s : Said) (i : ℕ) → linearized m t ≡ Some s → FirstMute m t i → ⊥

abbrev pub FirstMuteIsUnique : Type 0
FirstMuteIsUnique = (m : Meaning) (t : Tree) (i j : ℕ) → FirstMute m t i → FirstMute m t j → i ≡ j

-- the text of a string of words has the length that their sums say
abbrev pub TextLengthBySums : Type 0
TextLengthBySums = (ws : Words) → length (spaced ws) ≡ text_length ws

-- each constituent of a tree of depth d has at most 8 ^ d words, of 24 bytes at most
abbrev pub ConstituentsAreBounded : Type 0
ConstituentsAreBounded =
    (m : Meaning) → Lawful m → (t : Tree) (s : Said) → linearized m t ≡ Some s → AllByRecursion (λ ws. (length ws ≤ 8 ^ depth t) × (spelled_bytes ws ≤ 24 * length ws)) s.constituents

-- so a tree of depth 6 at most says at most 262,144 words, and its text has at most 6,553,599 bytes
abbrev pub TextsAreBounded : Type 0
TextsAreBounded =
    (m : Meaning) → Lawful m → (t : Tree) (phrase : Words) → depth t ≤ 6 → Linearizes m t phrase → (length phrase ≤ 262144) × (length (spaced phrase) ≤ 6553599)

-- Saying a tree: the text that it has in a language, what the answer is, and what the page holds after.
use Rattle.std.specs.Prelude.{◌≡◌, ℕ, ◌+◌, ◌<◌, ◌≤◌, List, length, Ok, Err, Result, ◌≢◌}
use Rattle.fault.specs.declared.kinds.SayFault.{SayFault}
use Rattle.fault.specs.declared.kinds.SayFault.TheVariants.{OtherSignature, Mute, NoRoom}
use Rattle.grammar.specs.Languages.{Meaning, Words}
use Rattle.grammar.specs.Linearization.{Linearizes, spaced}
use Rattle.grammar.specs.Signatures.{Signature}
use Rattle.grammar.specs.Trees.{Tree}
use Rattle.saying.specs.Mute.{FirstMute}
use Rattle.writer.specs.PutDown.{put_down}
use Rattle.tree.specs.declared.code.TreeCode.{TreeCode}
use Rattle.tree.specs.Codes.{IsTree}
use Rattle.tree.specs.Read.{bytes_of, tree_signature}

-- the tree's text in the language: the phrase that it linearizes to, its words joined by one blank
abbrev pub TextOf : Meaning → Tree → List ℕ → Type 0
TextOf m t text = (phrase : Words) × Linearizes m t phrase × (text ≡ spaced phrase)

-- a tree of signature s is said in the language m, on a page, from a start place on. The answer is the length of its text, which stands
-- there, and every other byte of the page stays. A refusal leaves the whole page: the language has another signature, a node of the tree is
-- mute, and the first such is told, or the text does not fit, and its length is told.
abbrev pub Says : Signature → Meaning → Tree → List ℕ → ℕ → Result ℕ SayFault → List ℕ → Type 0
Says s m t page start (Ok n) after =
    (s ≡ m.signature)
    × ((text : List ℕ) × TextOf m t text × (n ≡ length text) × (start + n ≤ length page) × (after ≡ put_down page start text))
Says s m t page start (Err OtherSignature) after = (s ≢ m.signature) × (after ≡ page)
Says s m t page start (Err (Mute i)) after = (s ≡ m.signature) × FirstMute m t i × (after ≡ page)
Says s m t page start (Err (NoRoom n)) after =
    (s ≡ m.signature) × ((text : List ℕ) × TextOf m t text × (n ≡ length text) × (length page < start + n) × (after ≡ page))

-- the tree that a code stands for is said
pub record SaysCode (m : Meaning) (code : TreeCode) (page : List ℕ) (start : ℕ) (answer : Result ℕ SayFault) (after : List ℕ) : Type 0 where
  pub tree : Tree
  pub is : IsTree (tree_signature code) (bytes_of code) tree
  pub says : Says (tree_signature code) m tree page start answer after

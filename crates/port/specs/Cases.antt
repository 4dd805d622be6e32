-- The worked cases of the small port, as one statement.
use Rattle.std.specs.Prelude.{◌≡◌, ℕ, ◌+◌, ◌≤◌, List, [], ◌∷◌, length, Ok, Err, codes, nat_eq}
use Rattle.std.specs.List.{AllByRecursion}
use Rattle.refusals.specs.declared.kinds.Layer.TheVariants.{Tree as InTree, Phrase as InPhrase, Session as InSession}
use Rattle.fault.specs.declared.kinds.PhraseFault.{PhraseFault}
use Rattle.fault.specs.declared.kinds.SayFault.{SayFault}
use Rattle.fault.specs.declared.kinds.TreeFault.{TreeFault}
use Rattle.refusals.specs.Refusals.{refuse}
use Rattle.fault.specs.Refusals.{tree_refusal, phrase_refusal, say_refusal}
use Rattle.grammar.specs.Charts.{Counts}
use Rattle.grammar.specs.Drafts.{Draft}
use Rattle.grammar.specs.DraftWalk.{draft_walk, depth_check}
use Rattle.grammar.specs.Languages.{Meaning, Words}
use Rattle.grammar.specs.Linearization.{Linearizes, spaced}
use Rattle.grammar.specs.PhraseWalk.{read_phrase}
use Rattle.grammar.specs.Readings.{FullList}
use Rattle.grammar.specs.Trees.{Tree, code}
use Rattle.grammar.specs.Unknown.{FirstUnknown}
use Rattle.layers.specs.Hidden.{hidden}
use Rattle.linearizer.specs.Says.{Says as SaysOn}
use Rattle.notation.specs.Notations.{notation}
use Rattle.writer.specs.PutDown.{put_down}
use Rattle.port.specs.SmallPort.{port, Q, B, berth, rope, held, again}

-- the bytes of a phrase are read, and the trees with these codes are its full list in Q, for the draft of these bytes
pub record Lists (draft phrase : List ℕ) (d : ℕ) (readings : List Tree) : Type 0 where
  pub drafted : Draft
  pub words : Words
  pub draft_read : draft_walk port d draft ≡ Ok drafted
  pub phrase_read : read_phrase phrase ≡ Ok words
  pub full : FullList Q drafted words d readings

-- the bytes of a phrase are read, and its chart in Q has so many items and edges
abbrev pub Charts : List ℕ → ℕ → ℕ → ℕ → Type 0
Charts phrase d items edges = (words : Words) × (read_phrase phrase ≡ Ok words) × Counts Q words d items edges

-- the draft's walk refuses the bytes with this number at this place
abbrev pub RefusesDraft : ℕ → List ℕ → ℕ → ℕ → Type 0
RefusesDraft d bytes number place =
    (fault : TreeFault) × (draft_walk port d bytes ≡ Err fault) × (tree_refusal fault ≡ refuse number InTree place)

abbrev pub RefusesDepth : ℕ → ℕ → ℕ → Type 0
RefusesDepth d number place = (fault : TreeFault) × (depth_check d ≡ Err fault) × (tree_refusal fault ≡ refuse number InTree place)

abbrev pub RefusesPhrase : List ℕ → ℕ → ℕ → Type 0
RefusesPhrase bytes number place =
    (fault : PhraseFault) × (read_phrase bytes ≡ Err fault) × (phrase_refusal fault ≡ refuse number InPhrase place)

-- the phrase can be read, and its first word that the language does not have is the one of this number
abbrev pub HasUnknown : Meaning → List ℕ → ℕ → Type 0
HasUnknown m bytes n = (words : Words) × (read_phrase bytes ≡ Ok words) × FirstUnknown m words n

-- the tree's text in the language
abbrev pub Says : Meaning → Tree → List ℕ → Type 0
Says m t text = (words : Words) × Linearizes m t words × (spaced words ≡ text)

-- the tree has this text in the language: from any start place on that leaves room for it, it is written, and nothing else
abbrev pub SaysText : Meaning → Tree → List ℕ → Type 0
SaysText m t text =
    (page : List ℕ) (start : ℕ) → start + length text ≤ length page → SaysOn port m t page start (Ok (length text)) (put_down page start text)

-- on such a page the tree is refused with this number at this place, and the page stays
abbrev pub RefusesSaying : Meaning → Tree → List ℕ → ℕ → ℕ → ℕ → Type 0
RefusesSaying m t page start number place =
    (fault : SayFault) × SaysOn port m t page start (Err fault) page × (say_refusal fault ≡ refuse number InSession place)

-- a lone hole: any tree of the start category
abbrev pub anything : List ℕ
anything = 255 ∷ []

abbrev pub hold_three : List ℕ
hold_three = codes "hold three"

abbrev pub twice : List ℕ
twice = codes "hold three repeat hold three"

pub record WorkedCases : Type 0 where
  -- the same two readings at every depth that allows them
  pub two_readings : Lists anything hold_three 2 (held berth ∷ held rope ∷ [])
  pub one_deeper : Lists anything hold_three 3 (held berth ∷ held rope ∷ [])
  pub two_deeper : Lists anything hold_three 4 (held berth ∷ held rope ∷ [])
  pub their_codes : (code (held berth) ≡ 0 ∷ 1 ∷ []) × (code (held rope) ≡ 0 ∷ 2 ∷ [])
  -- the counts of their charts
  pub chart_at_two : Charts hold_three 2 2 3
  pub chart_at_three : Charts hold_three 3 3 4
  pub chart_at_four : Charts hold_three 4 3 5
  -- both uses of a repeated constituent are one tree's
  pub repeated : Lists anything twice 3 (again (held berth) ∷ again (held rope) ∷ [])
  pub repeated_codes : (code (again (held berth)) ≡ 3 ∷ 0 ∷ 1 ∷ []) × (code (again (held rope)) ≡ 3 ∷ 0 ∷ 2 ∷ [])
  pub repeated_too_deep : Lists anything twice 2 []
  -- drafts
  pub drafted : Lists (0 ∷ 2 ∷ []) hold_three 2 (held rope ∷ [])
  pub place_for_message : RefusesDraft 2 (1 ∷ []) 10 0
  pub cut_short : RefusesDraft 2 (0 ∷ []) 9 1
  pub left_over : RefusesDraft 2 (0 ∷ 1 ∷ 1 ∷ []) 9 2
  pub no_draft : RefusesDraft 2 [] 9 0
  pub too_deep : RefusesDraft 2 (3 ∷ 3 ∷ 255 ∷ []) 11 2
  -- depths
  pub depth_zero : RefusesDepth 0 7 0
  pub depth_seven : RefusesDepth 7 7 0
  -- saying
  pub said_by_bridge : Says B (held rope) (codes "behold trosse tre")
  pub written_by_bridge : SaysText B (held rope) (codes "behold trosse tre")
  pub said_length : length (codes "behold trosse tre") ≡ 17
  pub page_one_short : (page : List ℕ) → length page ≡ 16 → RefusesSaying B (held rope) page 0 21 17
  pub said_in_notation : Says (notation port) (held rope) (codes "f0 ( f2 )")
  pub written_in_notation : SaysText (notation port) (held rope) (codes "f0 ( f2 )")
  pub notation_length : length (codes "f0 ( f2 )") ≡ 9
  pub rope_hidden : (page : List ℕ) (start : ℕ) → RefusesSaying (hidden (nat_eq 2) B) (again (held rope)) page start 20 2
  -- phrases
  pub nothing_sent : AllByRecursion (λ d. Lists anything [] d []) (1 ∷ 2 ∷ 3 ∷ 4 ∷ 5 ∷ 6 ∷ [])
  pub capital_letter : HasUnknown Q (codes "Hold three") 0
  pub two_blanks : RefusesPhrase (codes "hold  three") 12 5

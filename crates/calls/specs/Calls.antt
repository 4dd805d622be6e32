-- What a call that sends a depth, a draft and a phrase is found to be, before any language is asked.
use Rattle.std.specs.Prelude.{◌≡◌, ℕ, ◌+◌, ◌⊎◌, List, length, Ok, Err, Result}
use Rattle.fault.specs.declared.kinds.OpenFault.{OpenFault}
use Rattle.fault.specs.declared.kinds.OpenFault.TheVariants.{InTree, InPhrase, InChart}
use Rattle.fault.specs.declared.kinds.PhraseFault.{PhraseFault}
use Rattle.grammar.specs.DraftWalk.{draft_walk, depth_check}
use Rattle.grammar.specs.Drafts.{Draft}
use Rattle.grammar.specs.Languages.{Words}
use Rattle.grammar.specs.PhraseWalk.{Walk, read_phrase}
use Rattle.grammar.specs.Signatures.{Signature}
use Rattle.draft.specs.Nodes.{draft_nodes}

-- how many words the phrase has, or its fault
abbrev pub WordCount : List ℕ → Result ℕ PhraseFault → Type 0
WordCount bytes (Ok n) = (words : Words) × (read_phrase bytes ≡ Ok words) × (length words ≡ n)
WordCount bytes (Err fault) = read_phrase bytes ≡ Err fault

-- so many of a walk's words are handed out, and the walk that is left stops as the whole does
pub record Ahead (n : ℕ) (whole left : Walk) : Type 0 where
  pub handed : length whole.words ≡ n + length left.words
  pub stop : whole.stop ≡ left.stop

-- everything is sound: so many nodes and so many words
pub record Sound (s : Signature) (d : ℕ) (code phrase : List ℕ) (nodes words : ℕ) : Type 0 where
  pub depth_sound : depth_check d ≡ Ok d
  pub draft : Draft
  pub draft_sound : draft_walk s d code ≡ Ok draft
  pub node_count : length (draft_nodes s d s.start draft) ≡ nodes
  pub spelled : Words
  pub phrase_sound : read_phrase phrase ≡ Ok spelled
  pub word_count : length spelled ≡ words

-- the first fault: the depth's, then the draft's, then the phrase's
abbrev pub FirstFault : Signature → ℕ → List ℕ → List ℕ → OpenFault → Type 0
FirstFault s d code phrase (InTree fault) =
    (depth_check d ≡ Err fault) ⊎ ((depth_check d ≡ Ok d) × (draft_walk s d code ≡ Err fault))
FirstFault s d code phrase (InPhrase fault) =
    (depth_check d ≡ Ok d) × (draft : Draft) × (draft_walk s d code ≡ Ok draft) × (read_phrase phrase ≡ Err fault)
FirstFault s d code phrase (InChart fault) = ⊥

abbrev pub Found : Signature → ℕ → List ℕ → List ℕ → Result (ℕ × ℕ) OpenFault → Type 0
Found s d code phrase (Ok r) = Sound s d code phrase r.0 r.1
Found s d code phrase (Err fault) = FirstFault s d code phrase fault

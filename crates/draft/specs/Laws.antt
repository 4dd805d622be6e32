-- The law of the walk: over every signature, depth and code, it reads the drafts, and nothing else.
use Rattle.std.specs.Prelude.{◌≡◌, ℕ, ◌≤◌, ◌↔◌, List, length, Ok}
use Rattle.grammar.specs.Drafts.{Draft, DraftOf, draft_code, draft_depth, hole_byte}
use Rattle.grammar.specs.DraftWalk.{draft_walk}
use Rattle.grammar.specs.Signatures.{Signature}

-- where no function has the hole's byte as its number, a code is read as a draft exactly if it is the code of that draft,
-- and the draft is of the start category and no deeper than allowed
abbrev pub WalkReadsExactlyTheDrafts : Type 0
WalkReadsExactlyTheDrafts =
    (s : Signature) (d : ℕ) (bytes : List ℕ) (t : Draft) → length s.functions ≤ hole_byte → (draft_walk s d bytes ≡ Ok t) ↔ (DraftOf s s.start t × (draft_depth t ≤ d) × (draft_code t ≡ bytes))

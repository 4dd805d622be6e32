-- The law of saying: there is one answer, and one page after it.
use Rattle.std.specs.Prelude.{◌≡◌, ℕ, List, Result}
use Rattle.fault.specs.declared.kinds.SayFault.{SayFault}
use Rattle.grammar.specs.Languages.{Meaning}
use Rattle.grammar.specs.Signatures.{Signature}
use Rattle.grammar.specs.Trees.{Tree}
use Rattle.linearizer.specs.Says.{Says}

abbrev pub SayingHasOneAnswer : Type 0
SayingHasOneAnswer =
    (s : Signature) (m : Meaning) (t : Tree) (page : List ℕ) (start : ℕ) (r q : Result ℕ SayFault) (after later : List ℕ) → Says s m t page start r after → Says s m t page start q later → (r ≡ q) × (after ≡ later)

use Rattle.std.proofs.Common.{◌≡◌, Ok, subst}
use Rattle.grammar.specs.DraftWalk.{draft_walk}
use Rattle.draft.proofs.Completeness.{walk_reads}
use Rattle.draft.proofs.Soundness.{walk_is_sound}
use Rattle.draft.proofs.laws.walk_reads_exactly_the_drafts.Goals as goal

pub returns : goal.returns
returns c s d bytes t few =
    (walk_is_sound s d bytes t, λ p. subst (λ bs. draft_walk s d bs ≡ Ok t) p.2 (walk_reads s d t few p.0 p.1))

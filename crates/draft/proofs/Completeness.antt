-- The code of a draft is read as that draft, whatever follows the code.
use Rattle.std.proofs.Common.{◌≡◌, ℕ, suc, ◌+◌, ◌-◌, ◌<◌, ◌≤◌, List, [], ◌++◌, length, Some, Ok, refl, ap, ◌∙◌, ⊎_elim, arith}
use Rattle.std.specs.List.{slice_get}
use Rattle.std.proofs.lemmas.List.{append_assoc, append-nil, length-append}
use Rattle.std.proofs.lemmas.Option.{slice_get_past as nth_past}
use Rattle.std.proofs.lemmas.Bool.{cases_lt}
use Rattle.grammar.specs.Drafts.{Draft, Drafts, DraftOf, DraftsOf, draft_code, draft_codes, draft_depth, deepest_draft, hole_byte}
use Rattle.grammar.specs.Drafts.Draft.{hole, built}
use Rattle.grammar.specs.Drafts.Drafts.{nil, cons}
use Rattle.grammar.specs.DraftWalk.{taken, read_draft, read_each, draft_walk}
use Rattle.grammar.specs.Signatures.{Signature}
use Rattle.draft.proofs.Steps.{at_function, at_hole, root_function, root_hole}

-- a place that holds something is within the list
nth_within : {A : Type 0} (xs : List A) (i : ℕ) (x : A) → slice_get xs i ≡ Some x → i < length xs
nth_within xs i x e =
    ⊎_elim (λ h. h) (λ past. let none = nth_past xs i past in let z : ◌≡◌ {A = ℕ} 0 1 = cc in absurd (omega arith)) (cases_lt i (length xs))

mutual
  pub reads_draft : (t : Draft) (s : Signature) (left c p : ℕ) (rest : List ℕ) → length s.functions ≤ hole_byte → DraftOf s c t → draft_depth t ≤ left → read_draft s left c p (draft_code t ++ rest) ≡ Ok (taken t (p + length (draft_code t)) rest)
  reads_draft hole s left c p rest few of deep =
      at_hole s left c p hole_byte rest deep (root_hole s c hole_byte refl) ∙ ap (λ n. Ok (taken hole n rest)) (omega arith)
  reads_draft (built f ds) s left c p rest few of deep =
      let within = nth_within s.functions f of.0 of.1 in
      at_function s left c p f (draft_codes ds ++ rest) of.0 _ (omega arith) (root_function s c f of.0 (λ e. omega arith) of.1 of.2)
      (reads_drafts ds s (left - 1) of.0.arguments (suc p) rest few of.3 (omega arith))
      ∙ ap (λ n. Ok (taken (built f ds) n rest)) (omega arith)

  reads_drafts : (ds : Drafts) (s : Signature) (left : ℕ) (cs : List ℕ) (p : ℕ) (rest : List ℕ) → length s.functions ≤ hole_byte → DraftsOf s cs ds → deepest_draft ds ≤ left → read_each (read_draft s left) cs p (draft_codes ds ++ rest) ≡ Ok (taken ds (p + length (draft_codes ds)) rest)
  reads_drafts nil s left cs p rest few of deep = rw of (ap (λ n. Ok (taken nil n rest)) (omega arith))
  reads_drafts (cons d ds) s left cs p rest few of deep =
      let first = reads_draft d s left of.0 p (draft_codes ds ++ rest) few of.3 (omega arith) in
      let others = reads_drafts ds s left of.1 (p + length (draft_code d)) rest few of.4 (omega arith) in
      let long = length-append (draft_code d) (draft_codes ds) in
      rw (of.2, append_assoc (draft_code d) (draft_codes ds) rest, first, read_each, others) (ap (λ n. Ok (taken (cons d ds) n rest)) (omega arith))

pub walk_reads : (s : Signature) (d : ℕ) (t : Draft) → length s.functions ≤ hole_byte → DraftOf s s.start t → draft_depth t ≤ d → draft_walk s d (draft_code t) ≡ Ok t
walk_reads s d t few of deep =
    let read = reads_draft t s d s.start 0 [] few of deep in
    let whole : read_draft s d s.start 0 (draft_code t) ≡ Ok (taken t (0 + length (draft_code t)) []) = rw append-nil at read in
    rw (whole, draft_walk)

-- A draft without holes is a tree, and a tree is a draft without holes.
use Rattle.std.proofs.Common.{◌≡◌, ℕ, suc, ◌≤◌, max, eqb, List, [], ◌∷◌, ◌++◌, length, Some, None, Ok, Err, Result, sym, refl, ap, ◌∙◌, subst, ⊎_elim, arith}
use Rattle.std.specs.List.{AllByRecursion}
use Rattle.std.proofs.ByRecursion.{All-append}
use Rattle.std.proofs.lemmas.Bool.{cases_Bool, cond-true, cond-false, eqb-true, eqb-false}
use Rattle.fault.specs.declared.kinds.TreeFault.{TreeFault}
use Rattle.fault.specs.declared.kinds.TreeFault.TheVariants.{WrongNode}
use Rattle.grammar.proofs.Nth.{nth_below}
use Rattle.grammar.proofs.Optional.{none_some, no_value}
use Rattle.grammar.specs.Drafts.{Draft, Drafts, DraftOf, DraftsOf, draft_code, draft_codes, draft_depth, deepest_draft, hole_byte}
use Rattle.grammar.specs.Drafts.Draft.{hole, built}
use Rattle.grammar.specs.Drafts.Drafts.{nil, cons}
use Rattle.grammar.specs.DraftWalk.{draft_walk}
use Rattle.grammar.specs.Signatures.{Signature}
use Rattle.grammar.specs.Trees.{Tree, Trees, code, codes, depth, deepest, HasCategory, HaveCategories}
use Rattle.grammar.specs.Trees.Tree.{node}
use Rattle.grammar.specs.Trees.Trees.{none, more}
use Rattle.draft.proofs.Completeness.{walk_reads}
use Rattle.draft.proofs.Soundness.{walk_is_sound}
use Rattle.tree.specs.Codes.{IsTree, first_hole, tree_fault}
use Rattle.tree.specs.declared.code.TreeCode.{TreeCode}
use Rattle.tree.specs.Laws.{FaultlessCodesAreTrees}
use Rattle.tree.specs.Read.{bytes_of, tree_signature}

-- bytes that stand for no hole
abbrev Solid : List ℕ → Type 0
Solid bytes = AllByRecursion (λ b. b ≡ hole_byte → ⊥) bytes

solid_parts : (xs ys : List ℕ) → Solid (xs ++ ys) → Solid xs × Solid ys
solid_parts [] ys h = (tt, h)
solid_parts (x ∷ xs) ys h = let rest = solid_parts xs ys h.1 in ((h.0, rest.0), rest.1)

no_hole : (p : ℕ) (bytes : List ℕ) → first_hole p bytes ≡ None → Solid bytes
no_hole p [] h = tt
no_hole p (b ∷ bs) h =
    ⊎_elim
    (λ e. absurd (none_some (WrongNode p) (sym h ∙ cond-true (eqb b hole_byte) (Some (WrongNode p)) (first_hole (suc p) bs) e)))
    (λ e. (λ same. eqb-false b hole_byte e same, no_hole (suc p) bs (sym (cond-false (eqb b hole_byte) (Some (WrongNode p)) (first_hole (suc p) bs) e) ∙ h)))
    (cases_Bool (eqb b hole_byte))

hole_free : (p : ℕ) (bytes : List ℕ) → Solid bytes → first_hole p bytes ≡ None
hole_free p [] h = refl
hole_free p (b ∷ bs) h =
    ⊎_elim
    (λ e. absurd (h.0 (eqb-true b hole_byte e)))
    (λ e. cond-false (eqb b hole_byte) (Some (WrongNode p)) (first_hole (suc p) bs) e ∙ hole_free (suc p) bs h.1)
    (cases_Bool (eqb b hole_byte))

-- a draft with the same tree for every hole
abbrev mutual
  filled : Draft → Tree
  filled hole = node 0 none
  filled (built f ds) = node f (all_filled ds)

  all_filled : Drafts → Trees
  all_filled nil = none
  all_filled (cons d ds) = more (filled d) (all_filled ds)

mutual
  filled_code : (d : Draft) → Solid (draft_code d) → code (filled d) ≡ draft_code d
  filled_code hole h = absurd (h.0 refl)
  filled_code (built f ds) h = ap (λ bytes. f ∷ bytes) (filled_codes ds h.1)

  filled_codes : (ds : Drafts) → Solid (draft_codes ds) → codes (all_filled ds) ≡ draft_codes ds
  filled_codes nil h = refl
  filled_codes (cons d ds) h =
      let parts = solid_parts (draft_code d) (draft_codes ds) h in
      ap (λ bytes. bytes ++ codes (all_filled ds)) (filled_code d parts.0) ∙ ap (λ bytes. draft_code d ++ bytes) (filled_codes ds parts.1)

mutual
  filled_depth : (d : Draft) → depth (filled d) ≡ draft_depth d
  filled_depth hole = refl
  filled_depth (built f ds) = ap suc (filled_deepest ds)

  filled_deepest : (ds : Drafts) → deepest (all_filled ds) ≡ deepest_draft ds
  filled_deepest nil = refl
  filled_deepest (cons d ds) = ap (λ n. max n (deepest (all_filled ds))) (filled_depth d) ∙ ap (max (draft_depth d)) (filled_deepest ds)

mutual
  filled_category : (s : Signature) (c : ℕ) (d : Draft) → Solid (draft_code d) → DraftOf s c d → HasCategory s c (filled d)
  filled_category s c hole h of = absurd (h.0 refl)
  filled_category s c (built f ds) h of = (of.0, of.1, of.2, filled_categories s of.0.arguments ds h.1 of.3)

  filled_categories : (s : Signature) (cs : List ℕ) (ds : Drafts) → Solid (draft_codes ds) → DraftsOf s cs ds → HaveCategories s cs (all_filled ds)
  filled_categories s cs nil h of = of
  filled_categories s cs (cons d ds) h of =
      let parts = solid_parts (draft_code d) (draft_codes ds) h in
      (of.0, of.1, of.2, filled_category s of.0 d parts.0 of.3, filled_categories s of.1 ds parts.1 of.4)

-- a tree as a draft
abbrev mutual
  drafted : Tree → Draft
  drafted (node f ts) = built f (all_drafted ts)

  all_drafted : Trees → Drafts
  all_drafted none = nil
  all_drafted (more t ts) = cons (drafted t) (all_drafted ts)

mutual
  drafted_code : (t : Tree) → draft_code (drafted t) ≡ code t
  drafted_code (node f ts) = ap (λ bytes. f ∷ bytes) (drafted_codes ts)

  drafted_codes : (ts : Trees) → draft_codes (all_drafted ts) ≡ codes ts
  drafted_codes none = refl
  drafted_codes (more t ts) =
      ap (λ bytes. bytes ++ draft_codes (all_drafted ts)) (drafted_code t) ∙ ap (λ bytes. code t ++ bytes) (drafted_codes ts)

mutual
  drafted_depth : (t : Tree) → draft_depth (drafted t) ≡ depth t
  drafted_depth (node f ts) = ap suc (drafted_deepest ts)

  drafted_deepest : (ts : Trees) → deepest_draft (all_drafted ts) ≡ deepest ts
  drafted_deepest none = refl
  drafted_deepest (more t ts) = ap (λ n. max n (deepest_draft (all_drafted ts))) (drafted_depth t) ∙ ap (max (depth t)) (drafted_deepest ts)

mutual
  drafted_of : (s : Signature) (c : ℕ) (t : Tree) → HasCategory s c t → DraftOf s c (drafted t)
  drafted_of s c (node f ts) h = (h.0, h.1, h.2, all_drafted_of s h.0.arguments ts h.3)

  all_drafted_of : (s : Signature) (cs : List ℕ) (ts : Trees) → HaveCategories s cs ts → DraftsOf s cs (all_drafted ts)
  all_drafted_of s cs none h = h
  all_drafted_of s cs (more t ts) h = (h.0, h.1, h.2, drafted_of s h.0 t h.3, all_drafted_of s h.1 ts h.4)

mutual
  tree_solid : (s : Signature) (c : ℕ) (t : Tree) → length s.functions ≤ hole_byte → HasCategory s c t → Solid (code t)
  tree_solid s c (node f ts) few h =
      (λ e. let lt = nth_below s.functions f h.0 h.1 in omega arith, trees_solid s h.0.arguments ts few h.3)

  trees_solid : (s : Signature) (cs : List ℕ) (ts : Trees) → length s.functions ≤ hole_byte → HaveCategories s cs ts → Solid (codes ts)
  trees_solid s cs none few h = tt
  trees_solid s cs (more t ts) few h =
      All-append (λ b. b ≡ hole_byte → ⊥) (code t) (codes ts) (tree_solid s h.0 t few h.3) (trees_solid s h.1 ts few h.4)

pub faultless_is_tree : (s : Signature) (bytes : List ℕ) → tree_fault s bytes ≡ None → (t : Tree) × IsTree s bytes t
faultless_is_tree s bytes h = by (draft_walk s 6 bytes) refl
  where
    by : (r : Result Draft TreeFault) → draft_walk s 6 bytes ≡ r → (t : Tree) × IsTree s bytes t
    by (Ok d) e =
        let sound = walk_is_sound s 6 bytes d e in
        let bare : first_hole 0 bytes ≡ None = cc in
        let solid = subst Solid (sym sound.2) (no_hole 0 bytes bare) in (
          filled d,
          record {
            start = filled_category s s.start d solid sound.0;
            within = omega (arith, filled_depth d, sound.1);
            coded = filled_code d solid ∙ sound.2;
          },
        )
    by (Err fault) e = absurd (none_some fault (cc))

pub tree_is_faultless : (s : Signature) (bytes : List ℕ) (t : Tree) → length s.functions ≤ hole_byte → IsTree s bytes t → tree_fault s bytes ≡ None
tree_is_faultless s bytes t few is =
    let read = walk_reads s 6 (drafted t) few (drafted_of s s.start t is.start) (omega (arith, drafted_depth t, is.within)) in
    let same = drafted_code t ∙ is.coded in
    let walked : draft_walk s 6 bytes ≡ Ok (drafted t) = subst (λ bs. draft_walk s 6 bs ≡ Ok (drafted t)) same read in
    let bare = hole_free 0 bytes (subst Solid is.coded (tree_solid s s.start t few is.start)) in
    let P : Result Draft TreeFault → Type 0 = λ r. elim r [ Ok d ↦ first_hole 0 bytes | Err fault ↦ Some fault ] ≡ None in
    subst P (sym walked) bare

pub faultless_codes_are_trees : FaultlessCodesAreTrees
faultless_codes_are_trees s bytes few = (faultless_is_tree s bytes, λ p. tree_is_faultless s bytes p.0 few p.1)

-- a tree's code stands for a tree
pub code_is_tree : (tree : TreeCode) → (t : Tree) × IsTree (tree_signature tree) (bytes_of tree) t
code_is_tree tree = faultless_is_tree (tree_signature tree) (bytes_of tree) (no_value (tree_fault (tree_signature tree) (bytes_of tree)) tree.sound)

-- A signature tells its table: tables are the same where their signatures are.
use Rattle.std.proofs.Common.{◌≡◌, ℕ, Bool, ◌&&◌, eqb, List, [], ◌∷◌, map, Decides, sym, refl, ap, ◌∙◌}
use Rattle.std.specs.Cmp.Lexicographic.{pointwise}
use Rattle.std.proofs.lemmas.Bool.{and_from, and_parts, eq-eqb, eqb-true}
use Rattle.std.proofs.lemmas.Slice.Eq.{slice_eq-Decides}
use Rattle.grammar.specs.declared.signature.Arguments.{Arguments}
use Rattle.grammar.specs.declared.signature.Arguments.TheVariants.{Zero, One, Two, Three}
use Rattle.grammar.specs.declared.signature.FunctionType.{FunctionType}
use Rattle.grammar.specs.declared.signature.SignatureTable.{SignatureTable}
use Rattle.grammar.specs.Questions.{argument_list}
use Rattle.grammar.specs.Signatures.{Function, Signature}
use Rattle.grammar.specs.Tables.{listed, signature_of, typed}

-- a list of at most three categories stands for one way to take arguments
abbrev taken : List ℕ → Arguments
taken [] = Zero
taken (a ∷ []) = One a
taken (a ∷ b ∷ []) = Two a b
taken (a ∷ b ∷ c ∷ ds) = Three a b c

taken_back : (a : Arguments) → taken (argument_list a) ≡ a
taken_back Zero = refl
taken_back (One a) = refl
taken_back (Two a b) = refl
taken_back (Three a b c) = refl

abbrev table_type : Function → FunctionType
table_type f = record { result = f.result; arguments = taken f.arguments }

typed_back : (f : FunctionType) → table_type (typed f) ≡ f
typed_back f = ap (λ a. record { result = f.result; arguments = a }) (taken_back f.arguments)

pub same_types : (fs gs : List FunctionType) → map typed fs ≡ map typed gs → fs ≡ gs
same_types fs gs h = sym (back fs) ∙ ap (map table_type) h ∙ back gs
  where
    back : (hs : List FunctionType) → map table_type (map typed hs) ≡ hs
    back [] = refl
    back (f ∷ hs) = λ i. typed_back f i ∷ back hs i

abbrev signature : ℕ → ℕ → List Function → Signature
signature categories start functions = record { categories = categories; start = start; functions = functions }

-- where a test decides whether two functions have the same type, it decides whether two tables have the same signature
pub tables_decide : {test : FunctionType → FunctionType → Bool} → ((f g : FunctionType) → Decides (test f g) (f ≡ g)) → (a b : SignatureTable) (r : Bool) → r ≡ (eqb a.categories b.categories && (eqb a.start b.start && pointwise test (listed a) (listed b))) → Decides r (signature_of a ≡ signature_of b)
tables_decide {test} decides a b r told = (
  λ e.
      let p = and_parts (eqb a.categories b.categories) (eqb a.start b.start && pointwise test (listed a) (listed b)) (sym told ∙ e) in
      let q = and_parts (eqb a.start b.start) (pointwise test (listed a) (listed b)) p.1 in
      let functions : map typed (listed a) ≡ map typed (listed b) = ap (map typed) (all.0 q.1) in
      λ i. signature (eqb-true _ _ p.0 i) (eqb-true _ _ q.0 i) (functions i),
  λ e.
      told
      ∙ and_from _ _ (eq-eqb _ _ (ap (λ (s : Signature). s.categories) e)) (and_from _ _ (eq-eqb _ _ (ap (λ (s : Signature). s.start) e)) (all.1 (same_types (listed a) (listed b) (ap (λ (s : Signature). s.functions) e)))),
)
  where
    all : Decides (pointwise test (listed a) (listed b)) (listed a ≡ listed b)
    all = slice_eq-Decides decides (listed a) (listed b) (pointwise test (listed a) (listed b)) refl

-- where the counts and the start categories are the same, the test of the functions decides
pub functions_decide : {test : FunctionType → FunctionType → Bool} → ((f g : FunctionType) → Decides (test f g) (f ≡ g)) → (a b : SignatureTable) → a.categories ≡ b.categories → a.start ≡ b.start → (fs gs : List FunctionType) → fs ≡ listed a → gs ≡ listed b → (r : Bool) → r ≡ pointwise test fs gs → Decides r (signature_of a ≡ signature_of b)
functions_decide {test} decides a b counts starts fs gs first second r told =
    tables_decide decides a b r
    (told
    ∙ ap (λ hs. pointwise test hs gs) first
    ∙ ap (pointwise test (listed a)) second
    ∙ sym (ap (λ t. t && (eqb a.start b.start && pointwise test (listed a) (listed b))) (eq-eqb _ _ counts) ∙ ap (λ t. t && pointwise test (listed a) (listed b)) (eq-eqb _ _ starts)))

-- Taking a signature into a table, function by function.
use Rattle.std.proofs.Common.{◌≡◌, ℕ, ◌+◌, ◌<◌, ◌≤◌, Bool, true, cond, ltb, List, [], ◌∷◌, ◌++◌, map, length, get_or, take, Some, None, sym, ap, ◌∙◌, arith}
use Rattle.std.specs.List.{slice_get}
use Rattle.std.proofs.lemmas.List.{length-map, length-take-le, map_push, take_all, take_more}
use Rattle.std.proofs.lemmas.Option.{slice_get-get_or}
use Rattle.std.proofs.lemmas.Bool.{cond-true, lt-ltb}
use Rattle.grammar.specs.declared.signature.FunctionType.{FunctionType}
use Rattle.grammar.specs.declared.signature.SignatureTable.{SignatureTable}
use Rattle.grammar.specs.Signatures.{Function, Signature}
use Rattle.grammar.specs.Tables.{typed, listed, signature_of}

-- the table has the first n functions of the signature
pub record Taken (s : Signature) (n : ℕ) (t : SignatureTable) : Type 0 where
  pub categories : t.categories ≡ s.categories
  pub start : t.start ≡ s.start
  pub functions : map typed (listed t) ≡ take n s.functions

abbrev signature : ℕ → ℕ → List Function → Signature
signature categories start functions = record { categories = categories; start = start; functions = functions }

-- with all of them it has the signature
pub taken_all : (s : Signature) (n : ℕ) (t : SignatureTable) → Taken s n t → length s.functions ≤ n → signature_of t ≡ s
taken_all s n t h all =
    let same = h.functions ∙ take_all n s.functions all in
    ap (λ c. signature c t.start (map typed (listed t))) h.categories
    ∙ ap (λ c. signature s.categories c (map typed (listed t))) h.start
    ∙ ap (signature s.categories s.start) same

-- there is a function of each number below their count
pub function_there : (s : Signature) (n : ℕ) → n < length s.functions → None ≡ slice_get s.functions n → ⊥
function_there s n lt e = let f = slice_get-get_or s.functions n record { result = 0; arguments = [] } lt in let z : ◌≡◌ {A = ℕ} 0 1 = cc in omega arith

-- one function more
pub taken_more : (s : Signature) (n : ℕ) (t u : SignatureTable) (f : FunctionType) (b : Bool) → length s.functions ≤ 64 → n < length s.functions → Taken s n t → Some (typed f) ≡ slice_get s.functions n → b ≡ ltb (length (listed t)) 64 → listed u ≡ cond b (listed t ++ f ∷ []) (listed t) → u.categories ≡ t.categories → u.start ≡ t.start → Taken s (n + 1) u
taken_more s n t u f b few lt h at_n test added categories start =
    let long = sym (length-map (listed t) typed) ∙ ap length h.functions ∙ length-take-le n s.functions (omega arith) in
    let fits : b ≡ true = test ∙ lt-ltb (length (listed t)) 64 (omega arith) in
    let pushed : listed u ≡ listed t ++ f ∷ [] = added ∙ cond-true b (listed t ++ f ∷ []) (listed t) fits in
    let here = slice_get-get_or s.functions n (typed f) lt in
    let same : get_or s.functions n (typed f) ≡ typed f = cc in
    record {
      categories = categories ∙ h.categories;
      start = start ∙ h.start;
      functions =
          ap (map typed) pushed
          ∙ map_push typed (listed t) f
          ∙ ap (λ l. l ++ typed f ∷ []) h.functions
          ∙ ap (λ g. take n s.functions ++ g ∷ []) (sym same)
          ∙ sym (take_more s.functions n (typed f) lt);
    }

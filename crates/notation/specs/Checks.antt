-- Whether a signature is lawful, as a test.
use Rattle.std.specs.Prelude.{ℕ, Bool, true, ◌&&◌, List, [], ◌∷◌, length, nat_le, nat_lt}
use Rattle.grammar.specs.Signatures.{Function, Signature}

-- the categories are below n
abbrev pub all_below : ℕ → List ℕ → Bool
all_below n [] = true
all_below n (c ∷ cs) = nat_lt c n && all_below n cs

-- its categories are below n, and it has at most three arguments
abbrev pub function_fits : ℕ → Function → Bool
function_fits n f = nat_lt f.result n && (nat_le (length f.arguments) 3 && all_below n f.arguments)

abbrev pub functions_fit : ℕ → List Function → Bool
functions_fit n [] = true
functions_fit n (f ∷ fs) = function_fits n f && functions_fit n fs

-- at least one category and at most 16, a start category among them, and at least one function and at most 64
abbrev pub counts_fit : Signature → Bool
counts_fit s =
    (((nat_le 1 s.categories && nat_le s.categories 16) && nat_lt s.start s.categories) && nat_le 1 (length s.functions))
    && nat_le (length s.functions) 64

abbrev pub is_lawful : Signature → Bool
is_lawful s = counts_fit s && functions_fit s.categories s.functions

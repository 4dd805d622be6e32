-- Signatures: numbered categories and functions, which every language of a port shares.
use Rattle.std.specs.Prelude.{ℕ, List}

-- a function has a result category and an argument category for each argument
pub record Function : Type 0 where
  pub result : ℕ
  pub arguments : List ℕ

-- categories and functions are numbered from 0; the list of functions has the function of each number at that place
pub record Signature : Type 0 where
  pub categories : ℕ
  pub start : ℕ
  pub functions : List Function

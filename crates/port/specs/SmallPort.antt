-- The small port: one signature, and the two languages Q (quay) and B (bridge) written out as meanings.
use Rattle.std.specs.Prelude.{ℕ, List, [], ◌∷◌, codes}
use Rattle.grammar.specs.declared.symbol.Symbol.{Symbol}
use Rattle.grammar.specs.declared.symbol.Symbol.TheVariants.{Word, Reference}
use Rattle.grammar.specs.Languages.{Meaning}
use Rattle.grammar.specs.RuleTables.{Entry, from_table}
use Rattle.grammar.specs.Signatures.{Function, Signature}
use Rattle.grammar.specs.Trees.{Tree}
use Rattle.grammar.specs.Trees.Tree.{node}
use Rattle.grammar.specs.Trees.Trees.{none, more}

-- messages are the start category, places the other
abbrev pub msg : ℕ
msg = 0

abbrev pub place : ℕ
place = 1

abbrev function : ℕ → List ℕ → Function
function result arguments = record { result = result; arguments = arguments }

-- f0: a place makes a message; f1 and f2 are places; f3: a message makes a message
abbrev pub port : Signature
port = record {
  categories = 2;
  start = msg;
  functions = function msg (place ∷ []) ∷ function place [] ∷ function place [] ∷ function msg (msg ∷ []) ∷ [];
}

-- every form is 0 and every category has one constituent
abbrev ruled : ℕ → List ℕ → List Symbol → Entry
ruled f forms symbols = record { function = f; forms = forms; rule = record { form = 0; sequences = symbols ∷ [] } }

-- the only constituent of the first argument
abbrev argument : Symbol
argument = Reference 0 0

abbrev pub Q : Meaning
Q = record {
  signature = port;
  dimensions = 1 ∷ 1 ∷ [];
  words = codes "hold" ∷ codes "three" ∷ codes "repeat" ∷ [];
  rule = from_table (
      ruled 0 (0 ∷ []) (Word 0 ∷ argument ∷ [])
      ∷ ruled 1 [] (Word 1 ∷ [])
      ∷ ruled 2 [] (Word 1 ∷ [])
      ∷ ruled 3 (0 ∷ []) (argument ∷ Word 2 ∷ argument ∷ [])
      ∷ []);
}

abbrev pub B : Meaning
B = record {
  signature = port;
  dimensions = 1 ∷ 1 ∷ [];
  words = codes "behold" ∷ codes "kai" ∷ codes "tre" ∷ codes "trosse" ∷ codes "gjenta" ∷ [];
  rule = from_table (
      ruled 0 (0 ∷ []) (Word 0 ∷ argument ∷ [])
      ∷ ruled 1 [] (Word 1 ∷ Word 2 ∷ [])
      ∷ ruled 2 [] (Word 3 ∷ Word 2 ∷ [])
      ∷ ruled 3 (0 ∷ []) (argument ∷ Word 4 ∷ argument ∷ [])
      ∷ []);
}

-- the trees of the port: the two places, a message about a place, and a repeated message
abbrev pub berth : Tree
berth = node 1 none

abbrev pub rope : Tree
rope = node 2 none

abbrev pub held : Tree → Tree
held p = node 0 (more p none)

abbrev pub again : Tree → Tree
again m = node 3 (more m none)

-- The signature that a table of fixed size stands for.
use Rattle.std.specs.Prelude.{List, map}
use Rattle.tables.specs.Held.{held}
use Rattle.grammar.specs.declared.signature.FunctionType.{FunctionType}
use Rattle.grammar.specs.declared.signature.SignatureTable.{SignatureTable}
use Rattle.grammar.specs.Questions.{argument_list}
use Rattle.grammar.specs.Signatures.{Function, Signature}

abbrev pub typed : FunctionType → Function
typed f = record { result = f.result; arguments = argument_list f.arguments }

-- the types of the functions in use, by number
abbrev pub listed : SignatureTable → List FunctionType
listed t = held t.functions

abbrev pub signature_of : SignatureTable → Signature
signature_of t = record { categories = t.categories; start = t.start; functions = map typed (listed t) }

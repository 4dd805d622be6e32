-- What the answer of a check tells.
use Rattle.std.specs.Prelude.{Some, None, Ok, Err, Option, Result}

-- the fault, or none
abbrev pub told : {T E : Type 0} → Result T E → Option E
told (Ok x) = None
told (Err f) = Some f

-- What a person is told where a tree has no text.
use Rattle.std.specs.Prelude.{ℕ, List, codes}
use Rattle.refusals.specs.Reasons.{line}
use Rattle.fault.specs.Reasons.{say_reason}
use Rattle.fault.specs.Refusals.{say_refusal}
use Rattle.linearizer.specs.declared.text.TextFault.{TextFault}
use Rattle.linearizer.specs.declared.text.TextFault.TheVariants.{Unsaid, Memory}

-- the refusal's own line, or want of memory
abbrev pub text_line : TextFault → List ℕ
text_line (Unsaid fault) = line (say_refusal fault) (say_reason fault)
text_line Memory = codes "no memory for the text"

-- Three forms are all 0 where they equal three 0s.
use Rattle.std.proofs.Common.{◌∙◌, arith}
use Rattle.notation.specs.Asked.{all_are_zero}
use Rattle.notation.proofs.rules.zero_forms.Goals as goal

pub returns : goal.returns
returns c = c.eq.ensures ∙ all_are_zero c.args.forms 3 (omega arith)

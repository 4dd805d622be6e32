-- What a push ensures where a cell was free: the value stands right after what was held.
use Rattle.std.proofs.Common.{rules}
use Rattle.std.proofs.lemmas.List.{take_more_set}
use Rattle.stack.proofs.Stack.push.Goals as goal

pub returns : goal.returns
returns g c = search (rules, take_more_set)

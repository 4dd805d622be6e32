-- A rule after the first is compared with the one before it.
use Rattle.std.proofs.Common.{length, sym, ap, ◌∙◌}
use Rattle.view.specs.Views.{image}
use Rattle.demands.proofs.Keys.{rises_from_lt}
use Rattle.cnc.proofs.Runs.{key_after}
use Rattle.cnc.proofs.rules.is_key_rising.Goals as goal

pub returns-else-rule-eq0 : goal.returns-else-rule-eq0
returns-else-rule-eq0 c =
    let long = ap length c.key.ensures ∙ sym (ap length c.key-else-rule-eq0.ensures) in
    c.lt.ensures ∙ rises_from_lt c.key.result c.key-else-rule-eq0.result long ∙ key_after (image c.args.view.now) c.args.rule c.if-rule-eq0.false c.key.ensures c.key-else-rule-eq0.ensures

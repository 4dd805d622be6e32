-- The sections before are sound, so the next one decides.
use Rattle.view.specs.Views.{image}
use Rattle.demands.proofs.Demands.{handed_on}
use Rattle.cnc.proofs.Sections.{dimension_stops, function_stops, word_stops, rule_stops, symbols_decide}
use Rattle.cnc.proofs.check.check_view.Goals as goal

pub returns-in_err-check_dimensions : goal.returns-in_err-check_dimensions
returns-in_err-check_dimensions c =
    handed_on c.from_residual-in_err-check_dimensions.result c.from_residual-in_err-check_dimensions.ensures.1
    (dimension_stops (image c.args.view.now) c.in_ok-check_mark.ensures c.in_ok-check_head.ensures c.in_err-check_dimensions.ensures)

pub returns-in_err-check_functions : goal.returns-in_err-check_functions
returns-in_err-check_functions c =
    handed_on c.from_residual-in_err-check_functions.result c.from_residual-in_err-check_functions.ensures.1
    (function_stops (image c.args.view.now) c.in_ok-check_mark.ensures c.in_ok-check_head.ensures c.in_ok-check_dimensions.ensures c.in_err-check_functions.ensures)

pub returns-in_err-check_words : goal.returns-in_err-check_words
returns-in_err-check_words c =
    handed_on c.from_residual-in_err-check_words.result c.from_residual-in_err-check_words.ensures.1
    (word_stops (image c.args.view.now) c.in_ok-check_mark.ensures c.in_ok-check_head.ensures c.in_ok-check_dimensions.ensures c.in_ok-check_functions.ensures c.in_err-check_words.ensures)

pub returns-in_err-check_rules : goal.returns-in_err-check_rules
returns-in_err-check_rules c =
    handed_on c.from_residual-in_err-check_rules.result c.from_residual-in_err-check_rules.ensures.1
    (rule_stops (image c.args.view.now) c.in_ok-check_mark.ensures c.in_ok-check_head.ensures c.in_ok-check_dimensions.ensures c.in_ok-check_functions.ensures c.in_ok-check_words.ensures c.in_err-check_rules.ensures)

pub returns : goal.returns
returns c = symbols_decide (image c.args.view.now) c.in_ok-check_mark.ensures c.in_ok-check_head.ensures c.in_ok-check_dimensions.ensures c.in_ok-check_functions.ensures c.in_ok-check_words.ensures c.in_ok-check_rules.ensures c.check_symbols.ensures

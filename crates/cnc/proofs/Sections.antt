-- The sections in their order: where those before are sound, the next one decides, or those after it do.
use Rattle.std.proofs.Common.{◌≡◌, ℕ, List, ◌++◌, Some, None, Option}
use Rattle.view.specs.Layout.{categories, functions, words, rules}
use Rattle.flaw.specs.declared.kinds.ImageFault.{ImageFault}
use Rattle.demands.specs.Check.{Demand, dimension_demands, each, first_broken, function_demands, head_demands, image_check, mark_demands, rule_demands, use_demands, word_demands}
use Rattle.demands.proofs.Demands.{passes, stops}

abbrev dimension_section : List ℕ → List Demand
dimension_section b = each (categories b) (dimension_demands b)

abbrev function_section : List ℕ → List Demand
function_section b = each (functions b) (function_demands b)

abbrev word_section : List ℕ → List Demand
word_section b = each (words b) (word_demands b)

abbrev rule_section : List ℕ → List Demand
rule_section b = each (rules b) (rule_demands b)

abbrev symbol_section : List ℕ → List Demand
symbol_section b = each (rules b) (use_demands b)

-- a section and those after it
abbrev from_rules : List ℕ → List Demand
from_rules b = rule_section b ++ symbol_section b

abbrev from_words : List ℕ → List Demand
from_words b = word_section b ++ from_rules b

abbrev from_functions : List ℕ → List Demand
from_functions b = function_section b ++ from_words b

abbrev from_dimensions : List ℕ → List Demand
from_dimensions b = dimension_section b ++ from_functions b

module _ (b : List ℕ) (mark : None ≡ first_broken (mark_demands b)) (head : None ≡ first_broken (head_demands b)) where
  after_head : {o : Option ImageFault} → o ≡ first_broken (from_dimensions b) → o ≡ image_check b
  after_head rest =
      passes (mark_demands b) (head_demands b ++ from_dimensions b) mark (passes (head_demands b) (from_dimensions b) head rest)

  pub dimension_stops : {f : ImageFault} → Some f ≡ first_broken (dimension_section b) → Some f ≡ image_check b
  dimension_stops broken = after_head (stops (dimension_section b) (from_functions b) broken)

  module _ (dimensions_kept : None ≡ first_broken (dimension_section b)) where
    after_dimensions : {o : Option ImageFault} → o ≡ first_broken (from_functions b) → o ≡ image_check b
    after_dimensions rest = after_head (passes (dimension_section b) (from_functions b) dimensions_kept rest)

    pub function_stops : {f : ImageFault} → Some f ≡ first_broken (function_section b) → Some f ≡ image_check b
    function_stops broken = after_dimensions (stops (function_section b) (from_words b) broken)

    module _ (functions_kept : None ≡ first_broken (function_section b)) where
      after_functions : {o : Option ImageFault} → o ≡ first_broken (from_words b) → o ≡ image_check b
      after_functions rest = after_dimensions (passes (function_section b) (from_words b) functions_kept rest)

      pub word_stops : {f : ImageFault} → Some f ≡ first_broken (word_section b) → Some f ≡ image_check b
      word_stops broken = after_functions (stops (word_section b) (from_rules b) broken)

      module _ (words_kept : None ≡ first_broken (word_section b)) where
        after_words : {o : Option ImageFault} → o ≡ first_broken (from_rules b) → o ≡ image_check b
        after_words rest = after_functions (passes (word_section b) (from_rules b) words_kept rest)

        pub rule_stops : {f : ImageFault} → Some f ≡ first_broken (rule_section b) → Some f ≡ image_check b
        rule_stops broken = after_words (stops (rule_section b) (symbol_section b) broken)

        module _ (rules_kept : None ≡ first_broken (rule_section b)) where
          pub symbols_decide : {o : Option ImageFault} → o ≡ first_broken (symbol_section b) → o ≡ image_check b
          symbols_decide rest = after_words (passes (rule_section b) (symbol_section b) rules_kept rest)

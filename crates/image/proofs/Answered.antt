-- What a rule that is looked up by its key is, for a question in range.
use Rattle.std.proofs.Common.{◌≡◌, ℕ, ◌<◌, true, false, List, [], ◌∷◌, length, get_or, is_some, Some, None, sym, ap, ◌∙◌}
use Rattle.demands.specs.Check.{image_check, key_rises}
use Rattle.view.specs.Layout.{functions, arity, rules}
use Rattle.grammar.proofs.Optional.{some_value, no_value}
use Rattle.grammar.specs.Questions.{forms_of}
use Rattle.image.specs.Lookups.{HasKey, LookedUp}
use Rattle.image.specs.declared.lookup.Lookup.TheVariants.{OutOfRange, Missing, Entry}
use Rattle.soundness.proofs.Asking.{asked_known}
use Rattle.soundness.proofs.FormRanges.{three_of}
use Rattle.soundness.proofs.RuleSearch.{Key, rule_found, rule_missing}
use Rattle.soundness.proofs.Sound.{Sound, sound}

pub sound_bytes : (b : List ℕ) → is_some (image_check b) ≡ false → Sound b
sound_bytes b e = sound b (no_value (image_check b) e)

pub keys_rise : (b : List ℕ) → is_some (image_check b) ≡ false → (r : ℕ) → r < rules b → key_rises b r ≡ true
keys_rise b e r lt = ((sound_bytes b e).rule_sound r lt).rising

module _ (b : List ℕ) (s : Sound b) (f : ℕ) (lt : f < functions b) (forms : List ℕ) (long : length forms ≡ 3) where
  -- a question that is in range, with its three forms written out
  asked_forms : (ks : List ℕ) → forms_of (arity b f) forms ≡ Some ks → forms_of (arity b f) (get_or forms 0 0 ∷ get_or forms 1 0 ∷ get_or forms 2 0 ∷ []) ≡ Some ks
  asked_forms ks e = ap (forms_of (arity b f)) (sym (three_of forms long)) ∙ e

  pub entry_found : is_some (forms_of (arity b f) forms) ≡ true → (i : ℕ) → HasKey b (Key f (get_or forms 0 0) (get_or forms 1 0) (get_or forms 2 0)) (Some i) → LookedUp b f forms (Entry i)
  entry_found there i h =
      let p = some_value (forms_of (arity b f) forms) there in
      (p.0, asked_known b f lt forms ∙ p.1, h.0, rule_found b s f _ _ _ p.0 (asked_forms p.0 p.1) i h.0 h.1)

  pub entry_missing : is_some (forms_of (arity b f) forms) ≡ true → HasKey b (Key f (get_or forms 0 0) (get_or forms 1 0) (get_or forms 2 0)) None → LookedUp b f forms Missing
  entry_missing there h =
      let p = some_value (forms_of (arity b f) forms) there in
      (p.0, asked_known b f lt forms ∙ p.1, rule_missing b s f _ _ _ p.0 (asked_forms p.0 p.1) h)

  pub out_of_range : is_some (forms_of (arity b f) forms) ≡ false → LookedUp b f forms OutOfRange
  out_of_range absent = asked_known b f lt forms ∙ no_value (forms_of (arity b f) forms) absent

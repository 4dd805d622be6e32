-- The records' keys rise, so the search ends at the key or shows that there is none.
use Rattle.std.proofs.Common.{sym, ◌∙◌, subst, arith, rules}
use Rattle.std.proofs.lemmas.Fn.{always_returns_same}
use Rattle.view.specs.Views.{image}
use Rattle.image.proofs.Answered.{sound_bytes}
use Rattle.image.proofs.Search.{compared_with, searched}
use Rattle.image.specs.Lookups.{HasKey}
use Rattle.image.proofs.sound.SoundImage.find_key.Goals as goal

pub returns-in_err-found : goal.returns-in_err-found
returns-in_err-found c =
    let v = c.args.self.now in
    let b = image v.view in
    let s = sound_bytes b v.sound in
    let answer = searched b s c.records-records.result.now (c.records-records.ensures.count (omega (arith, s.whole))) c.records-records.ensures.bytes c.args.wanted (search rules) c.binary_search_by.result c.binary_search_by.ensures.bound (c.binary_search_by.ensures.position (compared_with c.args.wanted) (always_returns_same _ _ _ (λ a r f' called. search rules))) in
    subst (HasKey b c.args.wanted) (sym c.ok.ensures.value ∙ c.in_err-found.was ∙ sym c.from_residual.ensures) answer

pub returns : goal.returns
returns c =
    let v = c.args.self.now in
    let b = image v.view in
    let s = sound_bytes b v.sound in
    let answer = searched b s c.records-records.result.now (c.records-records.ensures.count (omega (arith, s.whole))) c.records-records.ensures.bytes c.args.wanted (search rules) c.binary_search_by.result c.binary_search_by.ensures.bound (c.binary_search_by.ensures.position (compared_with c.args.wanted) (always_returns_same _ _ _ (λ a r f' called. search rules))) in
    subst (HasKey b c.args.wanted) (sym c.ok.ensures.value ∙ c.in_ok-found.was) answer

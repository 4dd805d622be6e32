-- A record's bytes lie in the section of the rules, 17 for each.
use Rattle.std.proofs.Common.{◌+◌, ◌*◌, ◌/◌, length, get_or, take, drop, ap, ◌∙◌, arith}
use Rattle.view.specs.Views.{image}
use Rattle.view.proofs.Records.{record_count, record_byte}
use Rattle.view.proofs.ImageView.records.Goals as goal

pub returns-clause-whole : goal.returns-clause-whole
returns-clause-whole c =
    let v = c.args.self.now in
    c.as_chunks.ensures.front_len
    ∙ ap (λ section. length section / 17) c.bytes_at-section.ensures
    ∙ (λ i. length (take (17 * (c.from.ensures ∙ c.rules.ensures) i) (drop (v.rules_placed i) (image v))) / 17)

pub returns-clause-count : goal.returns-clause-count
returns-clause-count c whole =
    let v = c.args.self.now in
    c.as_chunks.ensures.front_len
    ∙ record_count c.from.result v.rules_at (image v) c.bytes_at-section.result.now c.bytes_at-section.ensures (omega arith)
    ∙ c.from.ensures
    ∙ c.rules.ensures

pub returns-clause-bytes : goal.returns-clause-bytes
returns-clause-bytes c r i d lt il =
    let v = c.args.self.now in
    record_byte c.from.result v.rules_at (image v) c.bytes_at-section.result.now c.bytes_at-section.ensures c.as_chunks.result.0.now c.as_chunks.ensures.front c.as_chunks.ensures.front_len r i d lt il
    ∙ ap (λ from. get_or (image v) (from + 17 * r + i) 0) v.rules_placed

-- The bytes of a record among the chunks of a section.
use Rattle.std.proofs.Common.{◌≡◌, ℕ, zero, suc, ◌+◌, ◌*◌, ◌/◌, ◌<◌, ◌≤◌, List, length, get_or, take, drop, ap, ◌∙◌, arith}
use Rattle.std.specs.Simd.{first_chunks}
use Rattle.std.proofs.lemmas.List.{get_or-take, get_or-drop, length-take, length-take-le, length-drop}

pub chunk_at : (k : ℕ) (xs : List ℕ) (r i : ℕ) (d : List ℕ) → r < k → i < 17 → get_or (get_or (first_chunks 17 k xs) r d) i 0 ≡ get_or xs (17 * r + i) 0
chunk_at zero xs r i d lt il = absurd (omega (arith, lt))
chunk_at (suc k) xs zero i d lt il = let at : i ≡ 17 * 0 + i = omega arith in get_or-take 17 xs i 0 il ∙ ap (λ j. get_or xs j 0) at
chunk_at (suc k) xs (suc r) i d lt il =
    let at : 17 + (17 * r + i) ≡ 17 * suc r + i = omega arith in
    chunk_at k (drop 17 xs) r i d (omega arith) il ∙ get_or-drop 17 xs (17 * r + i) 0 ∙ ap (λ j. get_or xs j 0) at

-- a section of k records from a place on
module _ (k from : ℕ) (b section : List ℕ) (same : section ≡ take (17 * k) (drop from b)) where
  pub record_count : from + 17 * k ≤ length b → length section / 17 ≡ k
  record_count whole = omega (arith, ap length same, length-take-le (17 * k) (drop from b) (omega (arith, length-drop from b, whole)))

  pub record_byte : (records : List (List ℕ)) → records ≡ first_chunks 17 (length section / 17) section → length records ≡ length section / 17
      → (r i : ℕ) (d : List ℕ) → r < length records → i < 17 → get_or (get_or records r d) i 0 ≡ get_or b (from + 17 * r + i) 0
  record_byte records chunks many r i d lt il =
      let few = length-take (17 * k) (drop from b) in
      let at : from + (17 * r + i) ≡ from + 17 * r + i = omega arith in
      ap (λ rs. get_or (get_or rs r d) i 0) chunks
      ∙ chunk_at (length section / 17) section r i d (omega (arith, many)) il
      ∙ ap (λ ys. get_or ys (17 * r + i) 0) same
      ∙ get_or-take (17 * k) (drop from b) (17 * r + i) 0 (omega (arith, few, many, ap length same))
      ∙ get_or-drop from b (17 * r + i) 0
      ∙ ap (λ j. get_or b j 0) at

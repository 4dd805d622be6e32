-- What the library's `all` and `<` say, in the words of the format.
use Rattle.std.proofs.Common.{◌≡◌, ℕ, zero, suc, ◌+◌, ◌-◌, Bool, true, false, ◌&&◌, List, [], ◌∷◌, ◌++◌, sym, refl, ap, ◌∙◌, arith}
use Rattle.std.specs.List.{list_all, range_with_len}
use Rattle.std.proofs.lemmas.List.{map-id}
use Rattle.std.proofs.lemmas.List.Folds.{list_all-append}
use Rattle.std.proofs.lemmas.List.FromFn.{map-range_with_len_more}
use Rattle.grammar.specs.PhraseWalk.{permitted}
use Rattle.view.specs.Grammar.{key}
use Rattle.demands.specs.Check.{all_permitted, every, key_rises, rises}

pub permitted_all : (bytes : List ℕ) → list_all permitted bytes ≡ all_permitted bytes
permitted_all [] = refl
permitted_all (b ∷ bytes) = ap (λ rest. permitted b && rest) (permitted_all bytes)

and_true : (b : Bool) → (b && true) ≡ b
and_true true = refl
and_true false = refl

pub every_all : (p : ℕ → Bool) (n : ℕ) → list_all p (range_with_len 0 n) ≡ every n p
every_all p zero = refl
every_all p (suc n) =
    let next : suc n ≡ n + 1 = omega arith in
    let more = sym (map-id (range_with_len 0 (n + 1))) ∙ map-range_with_len_more (λ k. k) 0 n n (omega arith) ∙ ap (λ ks. ks ++ n ∷ []) (map-id (range_with_len 0 n)) in
    ap (λ m. list_all p (range_with_len 0 m)) next ∙ ap (list_all p) more ∙ list_all-append p (range_with_len 0 n) (n ∷ [])
    ∙ ap (λ b. b && (p n && true)) (every_all p n) ∙ ap (λ b. every n p && b) (and_true (p n))

-- the first rule has none before it, a later one is compared with the rule before it
pub key_after : (b : List ℕ) (r : ℕ) {before after : List ℕ} → (r ≡ 0 → ⊥) → before ≡ key b (r - 1) → after ≡ key b r → rises before after ≡ key_rises b r
key_after b zero later low high = absurd (later refl)
key_after b (suc r) {before} {after} later low high =
    let e : suc r - 1 ≡ r = omega arith in
    ap (λ k. rises k after) low ∙ ap (rises (key b (suc r - 1))) high ∙ ap (λ k. rises (key b k) (key b (suc r))) e

-- What a table of items holds, place by place.
use Rattle.std.proofs.Common.{◌≡◌, ℕ, ◌<◌, ◌≤◌, Bool, cond, ◌&&◌, eqb, List, [], ◌∷◌, ◌++◌, length, get_or, is_some, Some, None, Decides, Option, sym, refl, ap, ◌∙◌, inr, arith}
use Rattle.std.specs.Prelude.{slice_index_or}
use Rattle.std.specs.List.{slice_get, AllWithin, HoldsAt}
use Rattle.std.specs.Option.{MatchOption, SomeIff}
use Rattle.std.proofs.lemmas.Bool.Decides.{Decides-and, Decides-eqb, Decides-like}
use Rattle.std.proofs.lemmas.Option.{slice_get-get_or}
use Rattle.grammar.specs.declared.symbol.Window.{Window}
use Rattle.grammar.specs.Lists.{Holds}
use Rattle.grammar.proofs.Nth.{holds_nth, nth_below}
use Rattle.grammar.proofs.Sameness.{same_windows, windows_decide}
use Rattle.chart.specs.declared.item.Item.{Item}
use Rattle.chart.specs.Places.{FoundAt, PlacedAt, item_places}

-- whether two items are the same
abbrev pub same_item : Item → Item → Bool
same_item a b = eqb a.category b.category && (eqb a.form b.form && same_windows a.windows b.windows)

pub item_decides : (a b : Item) → Decides (same_item a b) (a ≡ b)
item_decides a b =
    Decides-like (same_item a b) (λ p x. record { category = p.0 x; form = p.1.0 x; windows = p.1.1 x }) (λ e. (ap (λ i. i.category) e, (ap (λ i. i.form) e, ap (λ i. i.windows) e)))
    (Decides-and (eqb a.category b.category) _ (Decides-eqb a.category b.category) (Decides-and (eqb a.form b.form) (same_windows a.windows b.windows) (Decides-eqb a.form b.form) (windows_decide a.windows b.windows)))

-- a list of four is told by its four places
pub four : {A : Type 0} (xs ys : List A) (x : A) → length xs ≡ 4 → length ys ≡ 4 → slice_index_or xs 0 x ≡ slice_index_or ys 0 x → slice_index_or xs 1 x ≡ slice_index_or ys 1 x → slice_index_or xs 2 x ≡ slice_index_or ys 2 x → slice_index_or xs 3 x ≡ slice_index_or ys 3 x → xs ≡ ys
four (a ∷ b ∷ c ∷ d ∷ []) (e ∷ f ∷ g ∷ h ∷ []) x p q s t u v = λ i. s i ∷ t i ∷ u i ∷ v i ∷ []
four [] ys x p q s t u v = absurd (omega (arith, p))
four (a ∷ []) ys x p q s t u v = absurd (omega (arith, p))
four (a ∷ b ∷ []) ys x p q s t u v = absurd (omega (arith, p))
four (a ∷ b ∷ c ∷ []) ys x p q s t u v = absurd (omega (arith, p))
four (a ∷ b ∷ c ∷ d ∷ []) [] x p q s t u v = absurd (omega (arith, q))
four (a ∷ b ∷ c ∷ d ∷ []) (e ∷ []) x p q s t u v = absurd (omega (arith, q))
four (a ∷ b ∷ c ∷ d ∷ []) (e ∷ f ∷ []) x p q s t u v = absurd (omega (arith, q))
four (a ∷ b ∷ c ∷ d ∷ []) (e ∷ f ∷ g ∷ []) x p q s t u v = absurd (omega (arith, q))
four (a ∷ b ∷ c ∷ d ∷ []) (e ∷ f ∷ g ∷ h ∷ k ∷ ks) x p q s t u v = absurd (omega (arith, q))
four (a ∷ b ∷ c ∷ d ∷ e ∷ es) ys x p q s t u v = absurd (omega (arith, p))

-- an item is compared with another, part by part
pub parts_decide : (a b : Item) (category form : ℕ) (windows : List (Option Window)) (r : Bool) → r ≡ (eqb a.category category && (eqb a.form form && same_windows a.windows windows)) → category ≡ b.category → form ≡ b.form → windows ≡ b.windows → Decides r (a ≡ b)
parts_decide a b category form windows r told c f ws =
    let d = item_decides a (record { category = category; form = form; windows = windows }) in
    let same : record { category = category; form = form; windows = windows } ≡ b = λ i. record { category = c i; form = f i; windows = ws i } in
    (λ yes. d.0 (sym told ∙ yes) ∙ same, λ e. told ∙ d.1 (e ∙ sym same))

-- the first place of a value, or that it is at none
pub found_at : {A : Type 0} (xs : List A) (x : A) (r : Option ℕ) → MatchOption r (AllWithin (λ y. y ≡ x → ⊥) xs 0 (length xs)) (λ i. (i < length xs) × HoldsAt (λ y. y ≡ x) xs i × AllWithin (λ y. y ≡ x → ⊥) xs 0 i) → FoundAt xs x r
found_at xs x None none = λ h.
    let p = holds_nth xs x h in
    let lt = nth_below xs p.0 x p.1 in
    none p.0 x (omega arith) lt (let same : get_or xs p.0 x ≡ x = cc (slice_get-get_or xs p.0 x lt, p.1) in same)
found_at xs x (Some i) found = slice_get-get_or xs i x found.0 ∙ ap Some (found.1 x)

-- the value put at the end stands there
at_the_end : {A : Type 0} (xs : List A) (x : A) → slice_get (xs ++ x ∷ []) (length xs) ≡ Some x
at_the_end [] x = refl
at_the_end (y ∷ xs) x = at_the_end xs x

-- an item that is not there is put at the next place, if there is one
pub placed_new : (before : List Item) (x : Item) (r : Option ℕ) (after : List Item) → (Holds before x → ⊥) → length before ≤ item_places → SomeIff r (length before < item_places) (length before) → after ≡ cond (is_some r) (before ++ x ∷ []) before → PlacedAt before x r after
placed_new before x None after missing few full put = (missing, omega (arith, full), put)
placed_new before x (Some p) after missing few placed put =
    (ap (λ xs. slice_get xs p) put ∙ ap (slice_get (before ++ x ∷ [])) placed.1 ∙ at_the_end before x, inr (missing, put))

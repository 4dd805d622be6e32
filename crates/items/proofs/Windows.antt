-- Windows: each string of words has one in a phrase, found from the front, and no other.
use Rattle.std.proofs.Common.{◌≡◌, ℕ, zero, suc, ◌≤◌, Bool, true, false, cond, ◌&&◌, List, [], ◌∷◌, ◌++◌, map, length, Some, None, Option, sym, refl, ap, ◌∙◌, arith}
use Rattle.std.specs.Str.{bytes_eq}
use Rattle.std.proofs.lemmas.Slice.Eq.{bytes_eq-Decides}
use Rattle.std.proofs.lemmas.Bool.{both_ways, false≢true, and_parts, and_from}
use Rattle.grammar.specs.declared.symbol.Window.{Window}
use Rattle.grammar.specs.Charts.{Occurs, IsWindow, AreWindows}
use Rattle.grammar.specs.Languages.{Words}
use Rattle.items.specs.Laws.{WindowExists, WindowIsUnique}

-- whether the string begins the phrase
abbrev pub begins : Words → Words → Bool
begins [] ws = true
begins (x ∷ xs) [] = false
begins (x ∷ xs) (w ∷ ws) = bytes_eq x w && begins xs ws

abbrev pub inside : ℕ → ℕ → Option Window
inside i n = Some (record { start = i; length = n })

-- one place further on
abbrev pub further : Option Window → Option Window
further None = None
further (Some w) = inside (suc w.start) w.length

-- the window, found from the front
abbrev pub window : Words → Words → Option Window
window string [] = cond (begins string []) (inside 0 (length string)) None
window string (w ∷ ws) = cond (begins string (w ∷ ws)) (inside 0 (length string)) (further (window string ws))

begins_true : (xs ws : Words) → begins xs ws ≡ true → (back : Words) × (ws ≡ xs ++ back)
begins_true [] ws e = (ws, refl)
begins_true (x ∷ xs) [] e = absurd (false≢true e)
begins_true (x ∷ xs) (w ∷ ws) e =
    let p = and_parts (bytes_eq x w) (begins xs ws) e in
    let q = begins_true xs ws p.1 in
    (q.0, λ i. sym ((bytes_eq-Decides x w).0 p.0) i ∷ q.1 i)

true_begins : (xs ws back : Words) → ws ≡ xs ++ back → begins xs ws ≡ true
true_begins [] ws back e = refl
true_begins (x ∷ xs) [] back e = let z : ◌≡◌ {A = ℕ} 0 1 = cc in absurd (omega arith)
true_begins (x ∷ xs) (w ∷ ws) back e =
    and_from (bytes_eq x w) (begins xs ws) ((bytes_eq-Decides x w).1 (let h : x ≡ w = cc in h)) (true_begins xs ws back (let h : ws ≡ xs ++ back = cc in h))

begins_occurs : (phrase string : Words) → begins string phrase ≡ true → Occurs phrase string 0
begins_occurs phrase string e = let p = begins_true string phrase e in ([], p.0, p.1, refl)

no_front : (front : Words) → length front ≡ 0 → front ≡ []
no_front [] e = refl
no_front (f ∷ front) e = absurd (omega arith)

occurs_begins : (phrase string : Words) → Occurs phrase string 0 → begins string phrase ≡ true
occurs_begins phrase string o =
    true_begins string phrase o.1 (o.2 ∙ ap (λ front. front ++ (string ++ o.1)) (no_front o.0 o.3))

-- an occurrence in what follows the first word is one in the whole, one place further on
occurs_later : (w : List ℕ) (ws string : Words) (j : ℕ) → Occurs ws string j → Occurs (w ∷ ws) string (suc j)
occurs_later w ws string j o = (w ∷ o.0, o.1, λ i. w ∷ o.2 i, ap suc o.3)

later_occurs : (w : List ℕ) (ws string : Words) (j : ℕ) → Occurs (w ∷ ws) string (suc j) → Occurs ws string j
later_occurs w ws string j o = step o.0 o.2 o.3
  where
    step : (front : Words) → w ∷ ws ≡ front ++ (string ++ o.1) → length front ≡ suc j → Occurs ws string j
    step [] e long = absurd (omega arith)
    step (f ∷ front) e long = (front, o.1, let h : ws ≡ front ++ (string ++ o.1) = cc in h, omega arith)

none_past : (string : Words) (j : ℕ) → Occurs [] string (suc j) → ⊥
none_past string j o = step o.0 o.2 o.3
  where
    step : (front : Words) → [] ≡ front ++ (string ++ o.1) → length front ≡ suc j → ⊥
    step [] e long = omega arith
    step (f ∷ front) e long = let z : ◌≡◌ {A = ℕ} 0 1 = cc in omega arith

at_front : (phrase string : Words) → begins string phrase ≡ true → IsWindow phrase string (inside 0 (length string))
at_front phrase string e = (begins_occurs phrase string e, λ j o. omega arith, refl)

not_at_front : (phrase string : Words) → begins string phrase ≡ false → Occurs phrase string 0 → ⊥
not_at_front phrase string e o = both_ways _ e (occurs_begins phrase string o)

further_window : (w : List ℕ) (ws string : Words) (v : Option Window) → (Occurs (w ∷ ws) string 0 → ⊥) → IsWindow ws string v → IsWindow (w ∷ ws) string (further v)
further_window w ws string (Some v) front h = (occurs_later w ws string v.start h.0, least, h.2)
  where
    least : (j : ℕ) → Occurs (w ∷ ws) string j → suc v.start ≤ j
    least zero o = absurd (front o)
    least (suc j) o = omega (arith, h.1 j (later_occurs w ws string j o))
further_window w ws string None front h = nowhere
  where
    nowhere : (j : ℕ) → Occurs (w ∷ ws) string j → ⊥
    nowhere zero o = front o
    nowhere (suc j) o = h j (later_occurs w ws string j o)

pub window_is : (string phrase : Words) → IsWindow phrase string (window string phrase)
window_is string [] = by (begins string []) refl
  where
    nowhere : begins string [] ≡ false → (j : ℕ) → Occurs [] string j → ⊥
    nowhere e zero o = not_at_front [] string e o
    nowhere e (suc j) o = none_past string j o

    by : (b : Bool) → begins string [] ≡ b → IsWindow [] string (cond b (inside 0 (length string)) None)
    by true e = at_front [] string e
    by false e = nowhere e
window_is string (w ∷ ws) = by (begins string (w ∷ ws)) refl (window_is string ws)
  where
    by : (b : Bool) → begins string (w ∷ ws) ≡ b → IsWindow ws string (window string ws) → IsWindow (w ∷ ws) string (cond b (inside 0 (length string)) (further (window string ws)))
    by true e h = at_front (w ∷ ws) string e
    by false e h = further_window w ws string (window string ws) (not_at_front (w ∷ ws) string e) h

pub window_exists : WindowExists
window_exists phrase string = (window string phrase, window_is string phrase)

pub window_is_unique : WindowIsUnique
window_is_unique phrase string (Some w) (Some v) p q =
    let start : w.start ≡ v.start = omega (arith, p.1 v.start q.0, q.1 w.start p.0) in
    let long : w.length ≡ v.length = p.2 ∙ sym q.2 in
    λ x. inside (start x) (long x)
window_is_unique phrase string (Some w) None p q = absurd (q w.start p.0)
window_is_unique phrase string None (Some v) p q = absurd (p v.start q.0)
window_is_unique phrase string None None p q = refl

-- the same of a row of strings
abbrev pub windows : Words → List Words → List (Option Window)
windows phrase ss = map (λ s. window s phrase) ss

pub windows_are : (phrase : Words) (ss : List Words) → AreWindows phrase ss (windows phrase ss)
windows_are phrase [] = tt
windows_are phrase (s ∷ ss) = (window_is s phrase, windows_are phrase ss)

pub windows_are_unique : (phrase : Words) (ss : List Words) (ws vs : List (Option Window)) → AreWindows phrase ss ws → AreWindows phrase ss vs → ws ≡ vs
windows_are_unique phrase [] [] [] p q = refl
windows_are_unique phrase [] [] (v ∷ vs) p q = absurd q
windows_are_unique phrase [] (w ∷ ws) vs p q = absurd p
windows_are_unique phrase (s ∷ ss) [] vs p q = absurd p
windows_are_unique phrase (s ∷ ss) (w ∷ ws) [] p q = absurd q
windows_are_unique phrase (s ∷ ss) (w ∷ ws) (v ∷ vs) p q =
    λ i. window_is_unique phrase s w v p.0 q.0 i ∷ windows_are_unique phrase ss ws vs p.1 q.1 i

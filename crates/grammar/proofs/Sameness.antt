-- Tests that decide whether two values are the same: what may be missing, windows, and rows of windows.
use Rattle.std.proofs.Common.{◌≡◌, Bool, ◌&&◌, eqb, List, Some, None, Decides, Option, sym, refl, ap}
use Rattle.std.specs.Cmp.Lexicographic.{pointwise}
use Rattle.std.specs.Option.{option_eq}
use Rattle.std.proofs.lemmas.Bool.{false≢true}
use Rattle.std.proofs.lemmas.Bool.Decides.{Decides-and, Decides-eqb, Decides-like}
use Rattle.std.proofs.lemmas.Slice.Eq.{slice_eq-Decides}
use Rattle.grammar.specs.declared.symbol.Window.{Window}
use Rattle.grammar.proofs.Optional.{none_some}

-- where a test decides whether two values are equal, the same test of what may be missing does
option_decides : {A : Type 0} {test : A → A → Bool} → ((x y : A) → Decides (test x y) (x ≡ y)) → (o p : Option A) → Decides (option_eq test o p) (o ≡ p)
option_decides decides None None = (λ e. refl, λ e. refl)
option_decides decides None (Some y) = (λ e. absurd (false≢true e), λ e. absurd (none_some y e))
option_decides decides (Some x) None = (λ e. absurd (false≢true e), λ e. absurd (none_some x (sym e)))
option_decides decides (Some x) (Some y) = let d = decides x y in (λ e. ap Some (d.0 e), λ e. d.1 (let same : x ≡ y = cc in same))

abbrev pub same_window : Window → Window → Bool
same_window w v = eqb w.start v.start && eqb w.length v.length

window_decides : (w v : Window) → Decides (same_window w v) (w ≡ v)
window_decides w v =
    Decides-like (same_window w v) (λ p x. record { start = p.0 x; length = p.1 x }) (λ e. (ap (λ u. u.start) e, ap (λ u. u.length) e))
    (Decides-and (eqb w.start v.start) (eqb w.length v.length) (Decides-eqb w.start v.start) (Decides-eqb w.length v.length))

abbrev pub same_windows : List (Option Window) → List (Option Window) → Bool
same_windows ws vs = pointwise (option_eq same_window) ws vs

pub windows_decide : (ws vs : List (Option Window)) → Decides (same_windows ws vs) (ws ≡ vs)
windows_decide ws vs = slice_eq-Decides (option_decides window_decides) ws vs (same_windows ws vs) refl

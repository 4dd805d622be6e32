-- Saying has one answer: a tree has one text or one first mute node, and a text fits or does not.
use Rattle.std.proofs.Common.{◌≡◌, ℕ, ◌+◌, ◌<◌, ◌≤◌, List, length, Ok, Err, sym, refl, ap, ◌∙◌, arith}
use Rattle.fault.specs.declared.kinds.SayFault.TheVariants.{OtherSignature, Mute, NoRoom}
use Rattle.grammar.specs.Languages.{Meaning}
use Rattle.grammar.specs.Linearization.{main_constituent, spaced}
use Rattle.grammar.specs.Trees.{Tree}
use Rattle.saying.specs.Mute.{FirstMute}
use Rattle.saying.proofs.Muteness.{first_mute_is_unique, said_is_not_mute}
use Rattle.writer.specs.PutDown.{put_down}
use Rattle.linearizer.specs.Laws.{SayingHasOneAnswer}
use Rattle.linearizer.specs.Says.{TextOf}

one_text : (m : Meaning) (t : Tree) (text other : List ℕ) → TextOf m t text → TextOf m t other → text ≡ other
one_text m t text other (p, (s, said, main), e) (q, (u, says, whole), f) =
    let same : s ≡ u = cc in e ∙ ap spaced (sym main) ∙ ap (λ x. spaced (main_constituent x)) same ∙ ap spaced whole ∙ sym f

no_text_of_mute : (m : Meaning) (t : Tree) (text : List ℕ) (i : ℕ) → TextOf m t text → FirstMute m t i → ⊥
no_text_of_mute m t text i (p, (s, said, main), e) mute = said_is_not_mute m t s i said mute

-- two texts that are one cannot fit and not fit
fits_or_not : (text other page : List ℕ) (start n k : ℕ) → text ≡ other → n ≡ length text → start + n ≤ length page → k ≡ length other → length page < start + k → ⊥
fits_or_not text other page start n k same e fits f past = let long = ap length same in omega arith

pub saying_has_one_answer : SayingHasOneAnswer
saying_has_one_answer s m t page start (Ok n) (Ok k) after later (sig, (x, tx, nx, fx, ax)) (gis, (y, ty, ny, fy, ay)) =
    let same = one_text m t x y tx ty in (ap Ok (nx ∙ ap length same ∙ sym ny), ax ∙ ap (put_down page start) same ∙ sym ay)
saying_has_one_answer s m t page start (Ok n) (Err OtherSignature) after later (sig, x) (other, e) = absurd (other sig)
saying_has_one_answer s m t page start (Ok n) (Err (Mute i)) after later (sig, (x, tx, nx, fx, ax)) (gis, mute, e) =
    absurd (no_text_of_mute m t x i tx mute)
saying_has_one_answer s m t page start (Ok n) (Err (NoRoom k)) after later (sig, (x, tx, nx, fx, ax)) (gis, (y, ty, ny, fy, ay)) =
    absurd (fits_or_not x y page start n k (one_text m t x y tx ty) nx fx ny fy)
saying_has_one_answer s m t page start (Err OtherSignature) (Ok k) after later (other, e) (sig, x) = absurd (other sig)
saying_has_one_answer s m t page start (Err OtherSignature) (Err OtherSignature) after later (other, e) (rehto, f) = (refl, e ∙ sym f)
saying_has_one_answer s m t page start (Err OtherSignature) (Err (Mute i)) after later (other, e) (sig, x, f) = absurd (other sig)
saying_has_one_answer s m t page start (Err OtherSignature) (Err (NoRoom k)) after later (other, e) (sig, x) = absurd (other sig)
saying_has_one_answer s m t page start (Err (Mute i)) (Ok k) after later (sig, mute, e) (gis, (y, ty, ny, fy, ay)) =
    absurd (no_text_of_mute m t y i ty mute)
saying_has_one_answer s m t page start (Err (Mute i)) (Err OtherSignature) after later (sig, x, f) (other, e) = absurd (other sig)
saying_has_one_answer s m t page start (Err (Mute i)) (Err (Mute j)) after later (sig, mute, e) (gis, etum, f) =
    (ap (λ k. Err (Mute k)) (first_mute_is_unique m t i j mute etum), e ∙ sym f)
saying_has_one_answer s m t page start (Err (Mute i)) (Err (NoRoom k)) after later (sig, mute, e) (gis, (y, ty, ny, fy, ay)) =
    absurd (no_text_of_mute m t y i ty mute)
saying_has_one_answer s m t page start (Err (NoRoom n)) (Ok k) after later (sig, (x, tx, nx, fx, ax)) (gis, (y, ty, ny, fy, ay)) =
    absurd (fits_or_not y x page start k n (one_text m t y x ty tx) ny fy nx fx)
saying_has_one_answer s m t page start (Err (NoRoom n)) (Err OtherSignature) after later (sig, x) (other, e) = absurd (other sig)
saying_has_one_answer s m t page start (Err (NoRoom n)) (Err (Mute i)) after later (sig, (x, tx, nx, fx, ax)) (gis, mute, e) =
    absurd (no_text_of_mute m t x i tx mute)
saying_has_one_answer s m t page start (Err (NoRoom n)) (Err (NoRoom k)) after later (sig, (x, tx, nx, fx, ax)) (gis, (y, ty, ny, fy, ay)) =
    (ap (λ l. Err (NoRoom l)) (nx ∙ ap length (one_text m t x y tx ty) ∙ sym ny), ax ∙ sym ay)

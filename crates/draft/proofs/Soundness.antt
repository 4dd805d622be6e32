-- What is read as a draft is one of the category, no deeper than allowed, and its code was the front of what was read.
use Rattle.std.proofs.Common.{◌≡◌, ℕ, zero, suc, ◌≤◌, eqb, List, [], ◌∷◌, ◌++◌, Some, None, Ok, Err, Option, Result, sym, refl, ap, ◌∙◌, subst, ⊎_elim, arith}
use native.Mathlib.Nat.{max-le}
use Rattle.std.specs.List.{slice_get}
use Rattle.std.proofs.lemmas.List.{append_assoc, append-nil}
use Rattle.std.proofs.lemmas.Bool.{cases_Bool, cond-true, cond-false, eqb-true}
use Rattle.fault.specs.declared.kinds.TreeFault.{TreeFault}
use Rattle.fault.specs.declared.kinds.TreeFault.TheVariants.{LeftOver}
use Rattle.grammar.specs.Drafts.{Draft, Drafts, DraftOf, DraftsOf, draft_code, draft_codes, draft_depth, deepest_draft, hole_byte}
use Rattle.grammar.specs.Drafts.Draft.{hole, built}
use Rattle.grammar.specs.Drafts.Drafts.{nil, cons}
use Rattle.grammar.specs.DraftWalk.{Root, Taken, taken, function_root, root, read_draft, read_each, draft_walk}
use Rattle.grammar.specs.DraftWalk.Root.{open_place, function, wrong}
use Rattle.grammar.specs.Signatures.{Function, Signature}
use Rattle.draft.proofs.Steps.{at_hole, at_wrong}

-- two different cases are never one
impossible : {P : Type 0} → ◌≡◌ {A = ℕ} 0 1 → P
impossible z = absurd (omega arith)

-- only the hole's byte makes an open place, and the function of a byte is the signature's and has the category as its result
never_open : (c : ℕ) (o : Option Function) → function_root c o ≡ open_place → ⊥
never_open c None h = impossible (cc)
never_open c (Some f) h =
    ⊎_elim
    (λ e. let g = cond-true _ (function f) wrong e in impossible (cc))
    (λ e. let g = cond-false _ (function f) wrong e in impossible (cc))
    (cases_Bool (eqb f.result c))

pub hole_from_root : (s : Signature) (c b : ℕ) → root s c b ≡ open_place → b ≡ hole_byte
hole_from_root s c b h =
    ⊎_elim
    (λ e. eqb-true b hole_byte e)
    (λ e. absurd (never_open c (slice_get s.functions b) (sym (cond-false _ open_place (function_root c (slice_get s.functions b)) e) ∙ h)))
    (cases_Bool (eqb b hole_byte))

function_from_option : (c : ℕ) (o : Option Function) (f : Function) → function_root c o ≡ function f → (o ≡ Some f) × (f.result ≡ c)
function_from_option c None f h = impossible (cc)
function_from_option c (Some g) f h =
    ⊎_elim
    (λ e. let k = cond-true _ (function g) wrong e in let same : g ≡ f = cc in (ap Some same, ap (λ x. x.result) (sym same) ∙ eqb-true g.result c e))
    (λ e. let k = cond-false _ (function g) wrong e in impossible (cc))
    (cases_Bool (eqb g.result c))

pub function_from_root : (s : Signature) (c b : ℕ) (f : Function) → root s c b ≡ function f → (slice_get s.functions b ≡ Some f) × (f.result ≡ c)
function_from_root s c b f h =
    ⊎_elim
    (λ e. let k = cond-true _ open_place (function_root c (slice_get s.functions b)) e in impossible (cc))
    (λ e. function_from_option c (slice_get s.functions b) f (sym (cond-false _ open_place (function_root c (slice_get s.functions b)) e) ∙ h))
    (cases_Bool (eqb b hole_byte))

-- what is read was there, with the rest after it
pub record Front (s : Signature) (left c : ℕ) (bytes : List ℕ) (r : Taken Draft) : Type 0 where
  pub of : DraftOf s c r.value
  pub deep : draft_depth r.value ≤ left
  pub code : draft_code r.value ++ r.rest ≡ bytes

pub record Fronts (s : Signature) (left : ℕ) (cs bytes : List ℕ) (r : Taken Drafts) : Type 0 where
  pub of : DraftsOf s cs r.value
  pub deep : deepest_draft r.value ≤ left
  pub code : draft_codes r.value ++ r.rest ≡ bytes

abbrev Sound : Signature → ℕ → Type 0
Sound s left = (c p : ℕ) (bytes : List ℕ) (r : Taken Draft) → read_draft s left c p bytes ≡ Ok r → Front s left c bytes r

abbrev SoundEach : Signature → ℕ → List ℕ → Type 0
SoundEach s left cs = (p : ℕ) (bytes : List ℕ) (r : Taken Drafts) → read_each (read_draft s left) cs p bytes ≡ Ok r → Fronts s left cs bytes r

sound_each : (s : Signature) (left : ℕ) → Sound s left → (cs : List ℕ) → SoundEach s left cs
sound_each s left sound [] p bytes r h =
    let same : taken nil p bytes ≡ r = cc in subst (Fronts s left [] bytes) same record { of = refl; deep = omega arith; code = refl }
sound_each s left sound (c ∷ cs) p bytes r h = first (sound_each s left sound cs) (read_draft s left c p bytes) refl
  where
    others : SoundEach s left cs → (a : Taken Draft) → read_draft s left c p bytes ≡ Ok a → (o : Result (Taken Drafts) TreeFault) → read_each (read_draft s left) cs a.place a.rest ≡ o → Fronts s left (c ∷ cs) bytes r
    others later a e (Ok b) g =
        let one = sound c p bytes a e in
        let more = later a.place a.rest b g in
        let both : read_each (read_draft s left) (c ∷ cs) p bytes ≡ Ok (taken (cons a.value b.value) b.place b.rest) = rw (e, read_each, g) in
        let same : taken (cons a.value b.value) b.place b.rest ≡ r = cc in
        subst (Fronts s left (c ∷ cs) bytes) same record {
          of = (c, cs, refl, one.of, more.of);
          deep = max-le one.deep more.deep;
          code = append_assoc (draft_code a.value) (draft_codes b.value) b.rest ∙ ap (λ l. draft_code a.value ++ l) more.code ∙ one.code;
        }
    others later a e (Err fault) g =
        let stops : read_each (read_draft s left) (c ∷ cs) p bytes ≡ Err fault = rw (e, read_each, g) in impossible (cc)

    first : SoundEach s left cs → (o : Result (Taken Draft) TreeFault) → read_draft s left c p bytes ≡ o → Fronts s left (c ∷ cs) bytes r
    first later (Ok a) e = others later a e (read_each (read_draft s left) cs a.place a.rest) refl
    first later (Err fault) e = let stops : read_each (read_draft s left) (c ∷ cs) p bytes ≡ Err fault = rw (e, read_each) in impossible (cc)

pub sound : (left : ℕ) (s : Signature) → Sound s left
sound left s c p [] r h = impossible (cc)
sound zero s c p (b ∷ bytes) r h = impossible (cc)
sound (suc k) s c p (b ∷ bytes) r h = by_root (sound k s) (root s c b) refl
  where
    arguments : Sound s k → (f : Function) → root s c b ≡ function f → (o : Result (Taken Drafts) TreeFault) → read_each (read_draft s k) f.arguments (suc p) bytes ≡ o → Front s (suc k) c (b ∷ bytes) r
    arguments deeper f e (Ok a) g =
        let below = sound_each s k deeper f.arguments (suc p) bytes a g in
        let known = function_from_root s c b f e in
        let whole : read_draft s (suc k) c p (b ∷ bytes) ≡ Ok (taken (built b a.value) a.place a.rest) = rw (e, read_draft, g) in
        let same : taken (built b a.value) a.place a.rest ≡ r = cc in
        subst (Front s (suc k) c (b ∷ bytes)) same record {
          of = (f, known.0, known.1, below.of);
          deep = omega (arith, below.deep);
          code = ap (λ l. b ∷ l) below.code;
        }
    arguments deeper f e (Err fault) g =
        let stops : read_draft s (suc k) c p (b ∷ bytes) ≡ Err fault = rw (e, read_draft, g) in impossible (cc)

    by_root : Sound s k → (o : Root) → root s c b ≡ o → Front s (suc k) c (b ∷ bytes) r
    by_root deeper open_place e =
        let read = at_hole s (suc k) c p b bytes (omega arith) e in
        let same : taken hole (suc p) bytes ≡ r = cc in
        subst (Front s (suc k) c (b ∷ bytes)) same record { of = tt; deep = omega arith; code = ap (λ n. n ∷ bytes) (sym (hole_from_root s c b e)) }
    by_root deeper (function f) e = arguments deeper f e (read_each (read_draft s k) f.arguments (suc p) bytes) refl
    by_root deeper wrong e = let stops = at_wrong s (suc k) c p b bytes (omega arith) e in impossible (cc)

-- a whole code that is read is the code of what is read
pub walk_is_sound : (s : Signature) (d : ℕ) (bytes : List ℕ) (t : Draft) → draft_walk s d bytes ≡ Ok t → DraftOf s s.start t × (draft_depth t ≤ d) × (draft_code t ≡ bytes)
walk_is_sound s d bytes t h = by_read (read_draft s d s.start 0 bytes) refl
  where
    by_rest : (v : Draft) (q : ℕ) (rest : List ℕ) → read_draft s d s.start 0 bytes ≡ Ok (taken v q rest) → DraftOf s s.start t × (draft_depth t ≤ d) × (draft_code t ≡ bytes)
    by_rest v q [] e =
        let front = sound d s s.start 0 bytes (taken v q []) e in
        let read : draft_walk s d bytes ≡ Ok v = rw (e, draft_walk) in
        let same : v ≡ t = cc in
        subst (λ u. DraftOf s s.start u × (draft_depth u ≤ d) × (draft_code u ≡ bytes)) same (front.of, front.deep, sym (append-nil (draft_code v)) ∙ front.code)
    by_rest v q (b ∷ rest) e = let stops : draft_walk s d bytes ≡ Err (LeftOver q) = rw (e, draft_walk) in impossible (cc)

    by_read : (o : Result (Taken Draft) TreeFault) → read_draft s d s.start 0 bytes ≡ o → DraftOf s s.start t × (draft_depth t ≤ d) × (draft_code t ≡ bytes)
    by_read (Ok r) e = by_rest r.value r.place r.rest e
    by_read (Err fault) e = let stops : draft_walk s d bytes ≡ Err fault = rw (e, draft_walk) in impossible (cc)

-- Filling the table of edges: by one edge, by some and then others, and up to the last place.
use Rattle.std.proofs.Common.{◌≡◌, ℕ, ◌+◌, ◌<◌, ◌≤◌, Bool, true, false, cond, leb, List, [], ◌∷◌, ◌++◌, length, take, is_some, Some, None, Option, sym, ap, ◌∙◌, subst, append_assoc, append-nil, arith}
use Rattle.std.specs.Option.{SomeIff}
use lib.Seq.{take-append-le}
use Rattle.std.proofs.lemmas.List.{length-append, take_all, take_at}
use Rattle.std.proofs.lemmas.Bool.{le-leb, leb-false, leb-true, lt-leb}
use Rattle.chart.specs.declared.edge.Edge.{Edge}
use Rattle.chart.specs.Rows.{Filled}

-- edges that all have places
pub filled_whole : (before new after : List Edge) → length before + length new ≤ 4096 → after ≡ before ++ new → Filled before new true after
filled_whole before new after fits e = record {
  edges = e ∙ sym (take_all 4096 (before ++ new) (omega (arith, length-append before new)));
  all = sym (le-leb (length before + length new) 4096 fits);
}

pub filled_none : (before : List Edge) → length before ≤ 4096 → Filled before [] true before
filled_none before fits = filled_whole before [] before (omega arith) (sym (append-nil before))

-- a table that is full takes no more
pub filled_full : (before new : List Edge) → length before ≡ 4096 → 0 < length new → Filled before new false before
filled_full before new full some = record {
  edges = sym (take_at before new 4096 full);
  all = sym (lt-leb (length before + length new) 4096 (omega arith));
}

-- one edge, which is put at the next place, if there is one
pub filled_one : (before : List Edge) (e : Edge) (r : Option ℕ) (after : List Edge) → length before ≤ 4096 → SomeIff r (length before < 4096) (length before) → after ≡ cond (is_some r) (before ++ e ∷ []) before → Filled before (e ∷ []) (is_some r) after
filled_one before e None after few full put =
    subst (Filled before (e ∷ []) false) (sym put) (filled_full before (e ∷ []) (omega (arith, full)) (omega arith))
filled_one before e (Some p) after few placed put = filled_whole before (e ∷ []) after (omega (arith, placed.0)) put

-- where all had places, they stand behind those that were there
pub filled_is : (before new after : List Edge) → Filled before new true after → (after ≡ before ++ new) × (length before + length new ≤ 4096)
filled_is before new after h =
    let fits = leb-true (length before + length new) 4096 (sym h.all) in
    (h.edges ∙ take_all 4096 (before ++ new) (omega (arith, length-append before new)), fits)

pub filled_then : (before first middle later after : List Edge) (r : Bool) → Filled before first true middle → Filled middle later r after → Filled before (first ++ later) r after
filled_then before first middle later after r one two =
    let is = filled_is before first middle one in
    let long : length middle ≡ length before + length first = ap length is.0 ∙ length-append before first in
    record {
      edges = two.edges ∙ ap (λ es. take 4096 (es ++ later)) is.0 ∙ ap (take 4096) (append_assoc before first later);
      all = two.all ∙ ap (λ n. leb n 4096) (omega (arith, length-append first later));
    }

-- where not all had places, no later ones have
pub filled_stop : (before first after later : List Edge) → Filled before first false after → Filled before (first ++ later) false after
filled_stop before first after later h =
    let past = leb-false (length before + length first) 4096 (sym h.all) in
    record {
      edges = h.edges ∙ sym (take-append-le 4096 (before ++ first) later (omega (arith, past, length-append before first))) ∙ ap (take 4096) (append_assoc before first later);
      all = sym (lt-leb (length before + length (first ++ later)) 4096 (omega (arith, past, length-append first later)));
    }

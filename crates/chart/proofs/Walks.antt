-- Walking along the first of some chains: the rows over the places so far are listed.
use Rattle.std.proofs.Common.{◌≡◌, ℕ, suc, ◌+◌, ◌-◌, ◌<◌, ◌≤◌, Bool, true, false, List, [], ◌∷◌, ◌++◌, map, length, get_or, take, drop, set, Some, None, Option, sym, refl, ap, ◌∙◌, subst, append_assoc, append-nil, arith}
use Rattle.std.specs.List.{flat_map, AllByRecursion}
use Rattle.std.proofs.lemmas.List.{flat_map_more, map-append, take_all}
use Rattle.grammar.proofs.Optional.{none_some}
use Rattle.chart.specs.declared.edge.Edge.{Edge}
use Rattle.chart.specs.Index.{Chain}
use Rattle.chart.specs.Rows.{Chains, Filled, Rises, edge_over, product}
use Rattle.chart.proofs.Filling.{filled_none, filled_stop, filled_then}

-- the edges over rows that begin with each of some places
abbrev pub rows_over : ℕ → List ℕ → ℕ → List (List ℕ) → List ℕ → List Edge
rows_over f arguments n others qs = map (edge_over f arguments n) (flat_map (λ q. map (λ row. q ∷ row) (product others)) qs)

-- how far the walk along the first chain is
pub record Along (next : List (Option ℕ)) (at : Option ℕ) (before now : List Edge) (f : ℕ) (arguments : List ℕ) (n : ℕ) (qs : List ℕ) (others : List (List ℕ)) : Type 0 where
  pub done : List ℕ
  pub left : List ℕ
  pub whole : qs ≡ done ++ left
  pub rises : Rises left
  pub small : AllByRecursion (λ q. q < 512) left
  pub chain : Chain next at left
  pub filled : Filled before (rows_over f arguments n others done) true now

abbrev pub Under : List (Option ℕ) → Option ℕ → List Edge → List Edge → ℕ → List ℕ → ℕ → List (List ℕ) → Type 0
Under next at before now f arguments n [] = ⊥
Under next at before now f arguments n (qs ∷ others) = Along next at before now f arguments n qs others

-- the edges over the rows that begin with one place more
one_place_more : (f : ℕ) (arguments : List ℕ) (n : ℕ) (others : List (List ℕ)) (done : List ℕ) (q : ℕ) → rows_over f arguments n others (done ++ q ∷ []) ≡ rows_over f arguments n others done ++ map (edge_over f (set arguments n q) (n + 1)) (product others)
one_place_more f arguments n others done q =
    ap (map (edge_over f arguments n)) (sym (flat_map_more (λ p. map (λ row. p ∷ row) (product others)) [] done q))
    ∙ map-append (edge_over f arguments n) (flat_map (λ p. map (λ row. p ∷ row) (product others)) done) (map (λ row. q ∷ row) (product others))
    ∙ ap (λ es. rows_over f arguments n others done ++ es) (behind (product others))
  where
    behind : (rows : List (List ℕ)) → map (edge_over f arguments n) (map (λ row. q ∷ row) rows) ≡ map (edge_over f (set arguments n q) (n + 1)) rows
    behind [] = refl
    behind (row ∷ rows) =
        let on : suc n ≡ n + 1 = omega arith in
        let first : edge_over f arguments n (q ∷ row) ≡ edge_over f (set arguments n q) (n + 1) row = ap (λ k. edge_over f (set arguments n q) k row) on in
        λ i. first i ∷ behind rows i

-- the rows over all places of the chain are those over the places so far, and others
rows_on : (f : ℕ) (arguments : List ℕ) (n : ℕ) (others : List (List ℕ)) (done left : List ℕ) → (more : List Edge) × (rows_over f arguments n others (done ++ left) ≡ rows_over f arguments n others done ++ more)
rows_on f arguments n others done [] = ([], ap (rows_over f arguments n others) (append-nil done) ∙ sym (append-nil (rows_over f arguments n others done)))
rows_on f arguments n others done (q ∷ left) =
    let rest = rows_on f arguments n others (done ++ q ∷ []) left in (
      map (edge_over f (set arguments n q) (n + 1)) (product others) ++ rest.0,
      ap (rows_over f arguments n others) (sym (append_assoc done (q ∷ []) left))
          ∙ rest.1
          ∙ ap (λ es. es ++ rest.0) (one_place_more f arguments n others done q)
          ∙ append_assoc (rows_over f arguments n others done) (map (edge_over f (set arguments n q) (n + 1)) (product others)) rest.0,
    )

-- how many places may come from a place of a chain on
abbrev pub room_from : Option ℕ → ℕ
room_from None = 0
room_from (Some q) = 512 - q

module _ (next : List (Option ℕ)) (before now : List Edge) (f : ℕ) (arguments : List ℕ) (n : ℕ) (qs : List ℕ) (others : List (List ℕ)) where
  -- at the end of the chain all rows are listed
  pub along_end : Along next None before now f arguments n qs others → Filled before (rows_over f arguments n others qs) true now
  along_end along = by along.left along.whole along.chain
    where
      by : (left : List ℕ) → qs ≡ along.done ++ left → Chain next None left → Filled before (rows_over f arguments n others qs) true now
      by [] whole chain = subst (λ ps. Filled before (rows_over f arguments n others ps) true now) (sym (whole ∙ append-nil along.done)) along.filled
      by (q ∷ left) whole chain = absurd (none_some q chain.0)

  module _ (place : ℕ) (along : Along next (Some place) before now f arguments n qs others) where
    -- what is left after the next place of the chain
    next_place : (left : List ℕ) × (along.left ≡ place ∷ left) × Chain next (get_or next place None) left
    next_place = by along.left along.chain
      where
        by : (left : List ℕ) → Chain next (Some place) left → (rest : List ℕ) × (left ≡ place ∷ rest) × Chain next (get_or next place None) rest
        by [] chain = absurd (none_some place (sym chain))
        by (q ∷ left) chain =
            let same : q ≡ place = cc in
            (left, ap (λ p. p ∷ left) same, subst (λ p. Chain next (get_or next p None) left) same chain.1)

    small_left : AllByRecursion (λ q. q < 512) (place ∷ next_place.0)
    small_left = subst (AllByRecursion (λ q. q < 512)) next_place.1 along.small

    rises_left : Rises (place ∷ next_place.0)
    rises_left = subst Rises next_place.1 along.rises

    pub along_within : place < 512
    along_within = small_left.0

    pub along_less : room_from (get_or next place None) < room_from (Some place)
    along_less = by next_place.0 next_place.2 rises_left.0 small_left.1
      where
        by : (left : List ℕ) → Chain next (get_or next place None) left → AllByRecursion (λ r. place < r) left → AllByRecursion (λ q. q < 512) left → room_from (get_or next place None) < room_from (Some place)
        by [] chain higher small = let end = ap room_from chain in omega (arith, along_within, end)
        by (q ∷ left) chain higher small = let on = ap room_from chain.0 in omega (arith, on, higher.0, small.0)

    whole_on : qs ≡ (along.done ++ place ∷ []) ++ next_place.0
    whole_on = along.whole ∙ ap (λ ps. along.done ++ ps) next_place.1 ∙ sym (append_assoc along.done (place ∷ []) next_place.0)

    -- the rows over one place more
    step : (after : List Edge) (r : Bool) → Filled now (map (edge_over f (set arguments n place) (n + 1)) (product others)) r after → Filled before (rows_over f arguments n others (along.done ++ place ∷ [])) r after
    step after r h =
        subst (λ es. Filled before es r after) (sym (one_place_more f arguments n others along.done place)) (filled_then before (rows_over f arguments n others along.done) now (map (edge_over f (set arguments n place) (n + 1)) (product others)) after r along.filled h)

    pub along_more : (after : List Edge) → Filled now (map (edge_over f (set arguments n place) (n + 1)) (product others)) true after → Along next (get_or next place None) before after f arguments n qs others
    along_more after h = record {
      done = along.done ++ place ∷ [];
      left = next_place.0;
      whole = whole_on;
      rises = rises_left.1;
      small = small_left.1;
      chain = next_place.2;
      filled = step after true h;
    }

    pub along_stop : (after : List Edge) → Filled now (map (edge_over f (set arguments n place) (n + 1)) (product others)) false after → Filled before (rows_over f arguments n others qs) false after
    along_stop after h =
        let rest = rows_on f arguments n others (along.done ++ place ∷ []) next_place.0 in
        subst (λ es. Filled before es false after) (sym (ap (rows_over f arguments n others) whole_on ∙ rest.1)) (filled_stop before (rows_over f arguments n others (along.done ++ place ∷ [])) after rest.0 (step after false h))

pub along_start : (next : List (Option ℕ)) (p : Option ℕ) (before : List Edge) (f : ℕ) (arguments : List ℕ) (n : ℕ) (qs : List ℕ) (others : List (List ℕ)) → length before ≤ 4096 → Chain next p qs → Rises qs → AllByRecursion (λ q. q < 512) qs → Along next p before before f arguments n qs others
along_start next p before f arguments n qs others fits chain rises small = record { done = []; left = qs; whole = refl; rises = rises; small = small; chain = chain; filled = filled_none before fits }

-- the chains of no starts, and of some
pub no_chains : (next starts : List (Option ℕ)) (chains : List (List ℕ)) → length starts ≡ 0 → Chains next starts chains → chains ≡ []
no_chains next [] [] none h = refl
no_chains next [] (qs ∷ chains) none h = absurd h
no_chains next (p ∷ starts) chains none h = absurd (omega arith)

-- the start and the chain of the first, and those of the others
pub record Parts (next starts : List (Option ℕ)) (chains : List (List ℕ)) : Type 0 where
  pub first : List ℕ
  pub others : List (List ℕ)
  pub are : chains ≡ first ∷ others
  pub chain : Chain next (get_or starts 0 None) first
  pub rises : Rises first
  pub small : AllByRecursion (λ q. q < 512) first
  pub rest : Chains next (take (length starts - 1) (drop 1 starts)) others

pub chain_parts : (next starts : List (Option ℕ)) (chains : List (List ℕ)) → 0 < length starts → Chains next starts chains → Parts next starts chains
chain_parts next [] chains some h = absurd (omega arith)
chain_parts next (p ∷ starts) [] some h = absurd h
chain_parts next (p ∷ starts) (qs ∷ others) some (chain, rises, small, rest) =
    let long : length starts ≤ suc (length starts) - 1 = omega arith in
    record { first = qs; others = others; are = refl; chain = chain; rises = rises; small = small; rest = subst (λ ps. Chains next ps others) (sym (take_all (suc (length starts) - 1) starts long)) rest }

-- the walk along the first of some chains, and what it tells of them all
module _ (next starts : List (Option ℕ)) (chains : List (List ℕ)) (some : 0 < length starts) (h : Chains next starts chains) (before now : List Edge) (f : ℕ) (arguments : List ℕ) (n : ℕ) where
  abbrev pub parts : Parts next starts chains
  parts = chain_parts next starts chains some h

  pub along_first : (o at : Option ℕ) → o ≡ at → Under next o before now f arguments n chains → Along next at before now f arguments n parts.first parts.others
  along_first o at same under =
      subst (λ p. Along next p before now f arguments n parts.first parts.others) same (subst (Under next o before now f arguments n) parts.are under)

  pub under_all : (o at : Option ℕ) → at ≡ o → Along next at before now f arguments n parts.first parts.others → Under next o before now f arguments n chains
  under_all o at same along =
      subst (Under next o before now f arguments n) (sym parts.are) (subst (λ p. Along next p before now f arguments n parts.first parts.others) same along)

  pub filled_all : (answer : Bool) → Filled before (rows_over f arguments n parts.others parts.first) answer now → Filled before (map (edge_over f arguments n) (product chains)) answer now
  filled_all answer filled =
      subst (λ cs. Filled before (map (edge_over f arguments n) (product cs)) answer now) (sym parts.are) filled

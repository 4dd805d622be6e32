-- How what a word writer has put down grows: by nothing, by one byte, by two texts one after the other, and word by word.
use Rattle.std.proofs.Common.{◌≡◌, ℕ, ◌+◌, ◌-◌, ◌<◌, ◌≤◌, Bool, true, false, cond, List, [], ◌∷◌, ◌++◌, length, get_or, take, drop, set, sym, ap, ◌∙◌, subst, append_assoc, append-nil, add-zero, zero-add, add-one, arith, Bor}
use borrow.Rule.Slice.PartMut.{put_mid, post_of}
use Rattle.std.proofs.lemmas.List.{set_split, take-append-drop, take_at, drop_at, drop-drop, drop_all, take_rest, length-append, length-drop, length-take-le}
use Rattle.grammar.specs.Linearization.{blank, spaced}
use Rattle.writer.specs.declared.WordWriter.{WordWriter}
use Rattle.writer.specs.PutDown.{put_down, gap, Grown, Puts, some_words, spellings}
use Rattle.writer.proofs.Spaced.{gap_after, no_word, next_text, next_some, no_longer}

pub put_none : (bytes : List ℕ) (place : ℕ) → put_down bytes place [] ≡ bytes
put_none bytes place = simp add-zero (take-append-drop place bytes)

pub put_one : (bytes : List ℕ) (place b : ℕ) → place < length bytes → set bytes place b ≡ put_down bytes place (b ∷ [])
put_one bytes place b within = simp add-one (set_split bytes place b within)

pub put_length : (bytes : List ℕ) (place : ℕ) (more : List ℕ) → place + length more ≤ length bytes → length (put_down bytes place more) ≡ length bytes
put_length bytes place more within = simp (length-append, length-drop) (omega (arith, length-take-le place bytes (omega arith)))

-- first some bytes and then others is all of them at once
pub put_more : (bytes : List ℕ) (place : ℕ) (first later : List ℕ) → place + length first ≤ length bytes → put_down (put_down bytes place first) (place + length first) later ≡ put_down bytes place (first ++ later)
put_more bytes place first later within =
    let n : ℕ = place + length first in
    let front : List ℕ = take place bytes ++ first in
    let long : length front ≡ n = simp length-append (ap (λ k. k + length first) (length-take-le place bytes (omega arith))) in
    let whole : put_down bytes place first ≡ front ++ drop n bytes = sym (append_assoc (take place bytes) first (drop n bytes)) in
    let taken : take n (put_down bytes place first) ≡ front = ap (take n) whole ∙ take_at front (drop n bytes) n long in
    let rest : drop n (put_down bytes place first) ≡ drop n bytes = ap (drop n) whole ∙ drop_at front (drop n bytes) n long in
    let left : drop (n + length later) (put_down bytes place first) ≡ drop (n + length later) bytes =
    sym (drop-drop (length later) n (put_down bytes place first)) ∙ ap (drop (length later)) rest ∙ drop-drop (length later) n bytes in
    let sums : n + length later ≡ place + length (first ++ later) = simp length-append (omega arith) in
    (λ i. taken i ++ (later ++ left i)) ∙ ap (λ k. front ++ (later ++ drop k bytes)) sums ∙ simp append_assoc

-- what is put down at the front of the part from `start` on is put down there on the whole page
pub put_on_page : (page : List ℕ) (start : ℕ) (text : List ℕ) {part : List ℕ} → part ≡ put_down (take (length page - start) (drop start page)) 0 text → put_mid start (length page - start) page part ≡ put_down page start text
put_on_page page start text {part = part} front =
    let past : post_of start (length page - start) page ≡ [] = drop_all (length page - start) (drop start page) (simp length-drop (omega arith)) in
    let rest : drop (0 + length text) (take (length page - start) (drop start page)) ≡ drop (start + length text) page =
    simp (zero-add, take_rest) (drop-drop (length text) start page) in
    ap (λ more. take start page ++ (part ++ more)) past ∙ ap (λ bytes. take start page ++ bytes) (append-nil part ∙ front ∙ ap (λ more. text ++ more) rest)

pub grown_none : (started : Bool) (before after : WordWriter) → after.part.ghost_name ≡ before.part.ghost_name → after.used ≡ before.used → after.part.now ≡ before.part.now → after.started ≡ started → Grown [] started before after
grown_none started before after lender used part begun =
    record {
      fits = omega (arith, before.within);
      used = omega arith;
      part = part ∙ sym (put_none before.part.now before.used);
      begun = begun;
      lender = lender;
    }

-- a part keeps its length
pub grown_length : {more : List ℕ} {started : Bool} {before after : WordWriter} → Grown more started before after → length after.part.now ≡ length before.part.now
grown_length {more = more} {before = before} grown =
    ap length grown.part ∙ put_length before.part.now before.used more grown.fits

module _ (first later : List ℕ) {begun : Bool} {before between : WordWriter} (one : Grown first begun before between) where
  -- there is room for more bytes where there was room for these and more
  pub still_fits : before.used + length first + length later ≤ length before.part.now → between.used + length later ≤ length between.part.now
  still_fits fits = omega (arith, one.used, grown_length one)

  pub grown_more : {started : Bool} {after : WordWriter} → Grown later started between after → Grown (first ++ later) started before after
  grown_more two =
      record {
        fits = simp length-append (omega (arith, one.used, two.fits, grown_length one));
        used = simp length-append (omega (arith, one.used, two.used));
        part = two.part ∙ (λ i. put_down (one.part i) (one.used i) later) ∙ put_more before.part.now before.used first later one.fits;
        begun = two.begun;
        lender = two.lender ∙ one.lender;
      }

  -- the same where the later bytes begin no word
  pub grown_on : {after : WordWriter} → Grown later between.started between after → Grown (first ++ later) begun before after
  grown_on two =
      let all = grown_more two in
      record { fits = all.fits; used = all.used; part = all.part; begun = all.begun ∙ one.begun; lender = all.lender }

-- bytes that fit are put down
pub put_fits : (more : List ℕ) (started : Bool) (before after : WordWriter) (r : Bool) → Puts more started before r after → before.used + length more ≤ length before.part.now → Grown more started before after
put_fits more started before after true puts fits = puts
put_fits more started before after false puts fits = absurd (omega (arith, puts.full))

-- the words of a slice up to place i are put down, and so is the word there
pub grown_word : (ws : List (Bor (List ℕ))) (i : ℕ) {before between after : WordWriter} (r : Bool) → i < length ws → before.used + length (spaced (spellings ws)) ≤ length before.part.now → Grown (spaced (spellings (take i ws))) (some_words (spellings (take i ws))) before between → Puts (gap between ++ (get_or ws i no_word).now) true between r after → Grown (spaced (spellings (take (i + 1) ws))) (some_words (spellings (take (i + 1) ws))) before after
grown_word ws i {before = before} {between = between} {after = after} r within room so_far puts =
    let text = spaced (spellings (take i ws)) in
    let word : List ℕ = (get_or ws i no_word).now in
    let here : gap between ≡ gap_after (spellings (take i ws)) = ap (λ some. cond some (blank ∷ []) []) so_far.begun in
    let whole : text ++ (gap between ++ word) ≡ spaced (spellings (take (i + 1) ws)) = ap (λ g. text ++ (g ++ word)) here ∙ sym (next_text ws i within) in
    let long : length text + length (gap between ++ word) ≤ length (spaced (spellings ws)) =
    simp (← length-append) (subst (λ t. length t ≤ length (spaced (spellings ws))) (sym whole) (no_longer ws (i + 1))) in
    let fits = still_fits text (gap between ++ word) so_far (omega arith) in
    let grown = grown_more text (gap between ++ word) so_far (put_fits (gap between ++ word) true between after r puts fits) in
    subst (λ some. Grown (spaced (spellings (take (i + 1) ws))) some before after) (sym (next_some ws i within))
    (subst (λ t. Grown t true before after) whole grown)

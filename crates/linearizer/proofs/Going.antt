-- How far the text of a tree is written: the words that are written, and those that the frames owe.
use Rattle.std.proofs.Common.{◌≡◌, ℕ, suc, ◌+◌, ◌≤◌, true, false, cond, List, [], ◌∷◌, ◌++◌, length, get_or, Some, None, sym, refl, ap, ◌∙◌, subst, append_assoc, append-nil, arith}
use Rattle.std.specs.List.{slice_get}
use Rattle.std.proofs.lemmas.List.{length-append, nil_from_length}
use Rattle.std.proofs.lemmas.Option.{slice_get-get_or}
use Rattle.grammar.specs.declared.symbol.Symbol.TheVariants.{Word, Reference}
use Rattle.grammar.specs.Languages.{Lawful, Meaning, Spelling, Words}
use Rattle.grammar.specs.Linearization.{Said, blank, linearized, main_constituent, spaced, symbol_words}
use Rattle.grammar.specs.Trees.{Tree}
use Rattle.saying.proofs.Places.{at_start}
use Rattle.measure.specs.declared.table.MeasureTable.{MeasureTable}
use Rattle.measure.specs.Measured.{measured_at}
use Rattle.grammar.proofs.Nth.{all_nth}
use Rattle.writer.specs.declared.WordWriter.{WordWriter}
use Rattle.writer.specs.PutDown.{gap, Grown, some_words}
use Rattle.writer.proofs.Growth.{grown_more, grown_none, still_fits}
use Rattle.writer.proofs.Spaced.{gap_after, some_more, spaced_longer, spaced_more}
use Rattle.tree.specs.declared.code.TreeCode.{TreeCode}
use Rattle.tree.specs.Codes.{IsTree}
use Rattle.tree.specs.Read.{bytes_of, tree_signature}
use Rattle.linearizer.specs.declared.frame.Frame.{Frame}
use Rattle.linearizer.specs.Frames.{frame_symbols, spelling, starting, word_count}
use Rattle.linearizer.specs.Written.{HasRoom, room_left, SaidTree}
use Rattle.linearizer.proofs.Owed.{Owes, further, owes_argument, owes_end, owes_next, owes_start, owes_symbols}
use Rattle.linearizer.proofs.Stacked.{Stacked, stacked_pop, stacked_push}

-- the text of some words that are put down, with the gap and one word more
spaced_next : (ws : Words) (w : Spelling) {before between : WordWriter} → Grown (spaced ws) (some_words ws) before between → spaced ws ++ (gap between ++ w) ≡ spaced (ws ++ w ∷ [])
spaced_next ws w {between = between} so_far =
    let here : gap between ≡ gap_after ws = ap (λ some. cond some (blank ∷ []) []) so_far.begun in
    ap (λ g. spaced ws ++ (g ++ w)) here ∙ sym (spaced_more ws w)

-- one word more is put down after others
pub grown_next : (ws : Words) (w : Spelling) {before between after : WordWriter} → Grown (spaced ws) (some_words ws) before between → Grown (gap between ++ w) true between after → Grown (spaced (ws ++ w ∷ [])) (some_words (ws ++ w ∷ [])) before after
grown_next ws w {before = before} {between = between} {after = after} so_far word =
    let whole = spaced_next ws w so_far in
    subst (λ some. Grown (spaced (ws ++ w ∷ [])) some before after) (sym (some_more ws w))
    (subst (λ text. Grown text true before after) whole (grown_more (spaced ws) (gap between ++ w) so_far word))

-- and it has room where there is room for it and all that follow
pub next_fits : (ws : Words) (w : Spelling) (vs : Words) {before between : WordWriter} → Grown (spaced ws) (some_words ws) before between → length (spaced (ws ++ w ∷ vs)) ≤ room_left before → between.used + length (gap between ++ w) ≤ length between.part.now
next_fits ws w vs {before = before} {between = between} so_far room =
    let whole = spaced_next ws w so_far in
    let longer = spaced_longer (ws ++ w ∷ []) vs in
    still_fits (spaced ws) (gap between ++ w) so_far
    (omega (arith, before.within, so_far.fits, length-append (spaced ws) (gap between ++ w), ap length whole, longer, ap (λ v. length (spaced v)) (append_assoc ws (w ∷ []) vs)))

-- the tree of a code is said in the language, its nodes are told in the table, and its text has at most so many bytes
pub record Ready (m : Meaning) (tree : TreeCode) (table : MeasureTable) (room : ℕ) : Type 0 where
  pub signature : m.signature ≡ tree_signature tree
  pub said : SaidTree m tree table
  pub fits : HasRoom m tree room

-- the words written, those that the frame at work owes, and those that the frames on the stack owe make up all words
pub record Going (m : Meaning) (t : Tree) (all : Words) (start : WordWriter) (held : List Frame) (frame : Frame) (writer : WordWriter) : Type 0 where
  pub written : Words
  pub mine : Words
  pub rest : Words
  pub grown : Grown (spaced written) (some_words written) start writer
  pub owes : Owes m t (length held) frame mine
  pub under : Stacked (Owes m t) 0 held rest
  pub whole : written ++ (mine ++ rest) ≡ all

module _ (m : Meaning) (law : Lawful m) (tree : TreeCode) (table : MeasureTable) {start : WordWriter} (ready : Ready m tree table (room_left start)) (t : Tree) (s : Said) (is : IsTree m.signature (bytes_of tree) t) (said : linearized m t ≡ Some s) where
  -- at first nothing is written, and the root owes all words
  pub going_start : start.started ≡ false → Going m t (main_constituent s) start [] (starting 0 0) start
  going_start fresh =
      let c = m.signature.start in
      let dimension = slice_get-get_or m.dimensions c 0 (omega (arith, law.signature_lawful.start_range, law.one_dimension_each)) in
      let some = all_nth (λ n. (1 ≤ n) × (n ≤ 4)) m.dimensions c (get_or m.dimensions c 0) law.dimension_range dimension in
      record {
        written = [];
        mine = main_constituent s;
        rest = [];
        grown = grown_none false start start refl refl refl fresh;
        owes = owes_start m law t t 0 0 c (get_or m.dimensions c 0) 0 s (at_start t) is.start (omega (arith, is.within)) said dimension some.0;
        under = refl;
        whole = append-nil (main_constituent s);
      }

  module _ {held : List Frame} {frame : Frame} {writer : WordWriter} (go : Going m t (main_constituent s) start held frame writer) where
    symbols : frame_symbols m tree table frame ≡ go.owes.symbols
    symbols = owes_symbols m law tree table t is (ready.said t is).1 go.owes

    -- a word comes next: it has room, and is then written
    module _ (n : ℕ) (h : slice_get (frame_symbols m tree table frame) frame.next ≡ Some (Word n)) where
      next : (rest : Words) × (go.mine ≡ spelling m n ∷ rest) × Owes m t (length held) (further frame) rest
      next = owes_next go.owes (Word n) (subst (λ xs. slice_get xs frame.next ≡ Some (Word n)) symbols h)

      pub going_fits : writer.used + length (gap writer ++ spelling m n) ≤ length writer.part.now
      going_fits =
          let all : go.written ++ (spelling m n ∷ (next.0 ++ go.rest)) ≡ main_constituent s = ap (λ ws. go.written ++ (ws ++ go.rest)) (sym next.1) ∙ go.whole in
          next_fits go.written (spelling m n) (next.0 ++ go.rest) go.grown
          (subst (λ ws. length (spaced ws) ≤ room_left start) (sym all) (ready.fits t s is said))

      pub going_word : {after : WordWriter} → Grown (gap writer ++ spelling m n) true writer after → Going m t (main_constituent s) start held (further frame) after
      going_word word = record {
        written = go.written ++ spelling m n ∷ [];
        mine = next.0;
        rest = go.rest;
        grown = grown_next go.written (spelling m n) go.grown word;
        owes = next.2;
        under = go.under;
        whole = append_assoc go.written (spelling m n ∷ []) (next.0 ++ go.rest) ∙ ap (λ ws. go.written ++ (ws ++ go.rest)) (sym next.1) ∙ go.whole;
      }

    -- a constituent of an argument comes next: without words it is passed over, else a frame for it comes to work
    module _ (a k place : ℕ) (h : slice_get (frame_symbols m tree table frame) frame.next ≡ Some (Reference a k)) (there : place ≡ get_or (measured_at table frame.place).places a 0) where
      abbrev words : Words
      words = symbol_words m go.owes.arguments (Reference a k)

      here : slice_get go.owes.symbols frame.next ≡ Some (Reference a k)
      here = subst (λ xs. slice_get xs frame.next ≡ Some (Reference a k)) symbols h

      argument : Owes m t (suc (length held)) (starting place k) words × (word_count (measured_at table place).said k ≡ length words)
      argument =
          subst (λ j. Owes m t (suc (length held)) (starting j k) words × (word_count (measured_at table j).said k ≡ length words)) (sym there)
          (owes_argument m law tree table t is (ready.said t is).1 go.owes a k here)

      past : (rest : Words) × (go.mine ≡ words ++ rest) × Owes m t (length held) (further frame) rest
      past = owes_next go.owes (Reference a k) here

      pub going_past : word_count (measured_at table place).said k ≡ 0 → Going m t (main_constituent s) start held (further frame) writer
      going_past empty =
          let no_words : words ≡ [] = nil_from_length words (sym argument.1 ∙ empty) in
          record {
            written = go.written;
            mine = past.0;
            rest = go.rest;
            grown = go.grown;
            owes = past.2;
            under = go.under;
            whole = ap (λ ws. go.written ++ ((ws ++ past.0) ++ go.rest)) (sym no_words) ∙ ap (λ ws. go.written ++ (ws ++ go.rest)) (sym past.1) ∙ go.whole;
          }

      pub going_level : length held ≤ 4
      going_level = omega (arith, argument.0.shallow)

      pub going_down : Going m t (main_constituent s) start (held ++ further frame ∷ []) (starting place k) writer
      going_down =
          let up : suc (length held) ≡ length (held ++ further frame ∷ []) = omega (arith, length-append held (further frame ∷ [])) in
          let level : length held ≡ 0 + length held = omega arith in
          record {
            written = go.written;
            mine = words;
            rest = past.0 ++ go.rest;
            grown = go.grown;
            owes = subst (λ l. Owes m t l (starting place k) words) up argument.0;
            under = stacked_push (Owes m t) 0 held (further frame) past.0 go.rest (subst (λ l. Owes m t l (further frame) past.0) level past.2) go.under;
            whole = ap (λ ws. go.written ++ ws) (sym (append_assoc words past.0 go.rest)) ∙ ap (λ ws. go.written ++ (ws ++ go.rest)) (sym past.1) ∙ go.whole;
          }

    -- the sequence is at its end: the frame below comes to work, or all words are written
    module _ (h : slice_get (frame_symbols m tree table frame) frame.next ≡ None) where
      finished : go.written ++ go.rest ≡ main_constituent s
      finished =
          let over : go.mine ≡ [] = owes_end go.owes (subst (λ xs. slice_get xs frame.next ≡ None) symbols h) in
          ap (λ ws. go.written ++ (ws ++ go.rest)) (sym over) ∙ go.whole

      pub going_up : (below : List Frame) (top : Frame) → held ≡ below ++ top ∷ [] → Going m t (main_constituent s) start below top writer
      going_up below top e =
          let q = stacked_pop (Owes m t) 0 below top go.rest (subst (λ xs. Stacked (Owes m t) 0 xs go.rest) e go.under) in
          let level : 0 + length below ≡ length below = omega arith in
          record {
            written = go.written;
            mine = q.0;
            rest = q.1;
            grown = go.grown;
            owes = subst (λ l. Owes m t l top q.0) level q.3;
            under = q.4;
            whole = ap (λ ws. go.written ++ ws) (sym q.2) ∙ finished;
          }

      pub going_end : held ≡ [] → Grown (spaced (main_constituent s)) (some_words (main_constituent s)) start writer
      going_end e =
          let none : go.rest ≡ [] = subst (λ xs. Stacked (Owes m t) 0 xs go.rest) e go.under in
          let all : go.written ≡ main_constituent s = sym (append-nil go.written) ∙ ap (λ ws. go.written ++ ws) (sym none) ∙ finished in
          subst (λ ws. Grown (spaced ws) (some_words ws) start writer) all go.grown

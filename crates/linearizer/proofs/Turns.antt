-- The turns of writing, for the tree of a code: what each leaves to write, and that each leaves less.
use Rattle.std.proofs.Common.{◌≡◌, ℕ, ◌+◌, ◌-◌, ◌<◌, ◌≤◌, Bool, true, false, List, [], ◌∷◌, ◌++◌, length, get_or, Some, None, sym, refl, ap, ◌∙◌, subst, arith}
use Rattle.std.specs.List.{slice_get}
use Rattle.grammar.proofs.Optional.{no_value, some_value}
use Rattle.grammar.specs.declared.symbol.Symbol.{Symbol}
use Rattle.grammar.specs.declared.symbol.Symbol.TheVariants.{Word, Reference}
use Rattle.grammar.specs.Languages.{Lawful, Meaning}
use Rattle.grammar.specs.Linearization.{Said, linearized, main_constituent}
use Rattle.grammar.specs.Trees.{Tree}
use Rattle.measure.specs.declared.table.MeasureTable.{MeasureTable}
use Rattle.measure.specs.Measured.{measured_at}
use Rattle.writer.specs.declared.WordWriter.{WordWriter}
use Rattle.writer.specs.PutDown.{gap, Grown}
use Rattle.tree.specs.declared.code.TreeCode.{TreeCode}
use Rattle.tree.specs.Codes.{IsTree, tree_fault}
use Rattle.tree.specs.Read.{bytes_of, tree_signature}
use Rattle.tree.proofs.Filled.{faultless_is_tree}
use Rattle.linearizer.specs.declared.frame.Frame.{Frame}
use Rattle.linearizer.specs.Frames.{frame_symbols, spelling, starting, word_count}
use Rattle.linearizer.specs.Written.{HasRoom, SaidTree, Wrote, room_left}
use Rattle.linearizer.proofs.Going.{Going, Ready, going_start, going_fits, going_word, going_past, going_level, going_down, going_up, going_end}
use Rattle.linearizer.proofs.Owed.{further, reference_small, symbols_short}
use Rattle.linearizer.proofs.Stacked.{potential, potential_step, potential_push}
use Rattle.grammar.proofs.Nth.{nth_below}

-- the writing of the tree of a code has come so far
abbrev pub Underway : Meaning → TreeCode → WordWriter → List Frame → Frame → WordWriter → Type 0
Underway m tree start held frame writer =
    (t : Tree) (s : Said) → IsTree m.signature (bytes_of tree) t → linearized m t ≡ Some s → Going m t (main_constituent s) start held frame writer

-- how many symbols a frame has yet to go through
abbrev pub symbols_left : Meaning → TreeCode → MeasureTable → Frame → ℕ
symbols_left m tree table frame = length (frame_symbols m tree table frame) - frame.next

-- a stack of five takes one more on top of four
pub push_fits : (r : Bool) (n room : ℕ) → (r ≡ false → n ≡ room) → room ≡ 5 → n ≤ 4 → r ≡ true
push_fits true n room full five few = refl
push_fits false n room full five few = absurd (omega (arith, full refl))

-- the next symbol of a frame is told: less is left to go through
module _ {m : Meaning} (law : Lawful m) (tree : TreeCode) (table : MeasureTable) (frame : Frame) (x : Symbol) (told : Some x ≡ slice_get (frame_symbols m tree table frame) frame.next) where
  within : frame.next < length (frame_symbols m tree table frame)
  within = nth_below (frame_symbols m tree table frame) frame.next x (sym told)

  -- a frame has at most 8 symbols, so the next one has a small number
  pub next_small : frame.next < 8
  next_small = omega (arith, within, symbols_short m law tree table frame)

  one_less : symbols_left m tree table (further frame) + 1 ≡ symbols_left m tree table frame
  one_less = omega (arith, within)

  pub less_further : (held : List Frame) → potential (symbols_left m tree table) held (further frame) < potential (symbols_left m tree table) held frame
  less_further held = potential_step (symbols_left m tree table) held frame (further frame) one_less

  pub less_down : (held above : List Frame) (child : Frame) → length held ≤ 4 → above ≡ held ++ further frame ∷ [] → potential (symbols_left m tree table) above child < potential (symbols_left m tree table) held frame
  less_down held above child few e =
      let left = symbols_left m tree table in
      subst (λ xs. potential left xs child < potential left held frame) (sym e)
      (potential_push left held frame (further frame) child few one_less (omega (arith, symbols_short m law tree table child)))

  pub told_small : (a k : ℕ) → x ≡ Reference a k → (a < 3) × (k < 4)
  told_small a k e = reference_small m law tree table frame a k frame.next (sym told ∙ ap Some e)

-- a tree that is said, and has room for its text, is ready to be written
pub ready_for : (m : Meaning) (tree : TreeCode) (table : MeasureTable) (start : WordWriter) → m.signature ≡ tree_signature tree → SaidTree m tree table → HasRoom m tree (room_left start) → Ready m tree table (room_left start)
ready_for m tree table start signature said fits = record { signature = signature; said = said; fits = fits }

-- there is a tree of the code, and it is said
some_tree : {m : Meaning} {tree : TreeCode} {table : MeasureTable} {room : ℕ} → Ready m tree table room → (t : Tree) × (s : Said) × IsTree m.signature (bytes_of tree) t × (linearized m t ≡ Some s)
some_tree {m = m} {tree = tree} ready =
    let sound = faultless_is_tree (tree_signature tree) (bytes_of tree) (no_value (tree_fault (tree_signature tree) (bytes_of tree)) tree.sound) in
    let is = subst (λ signature. IsTree signature (bytes_of tree) sound.0) (sym ready.signature) sound.1 in
    let said = some_value (linearized m sound.0) (ready.said sound.0 is).0 in
    (sound.0, said.0, is, said.1)

module _ {m : Meaning} {tree : TreeCode} {table : MeasureTable} {start : WordWriter} (law : Lawful m) (ready : Ready m tree table (room_left start)) where
  pub underway_start : (held : List Frame) (frame : Frame) → held ≡ [] → frame ≡ starting 0 0 → start.started ≡ false → Underway m tree start held frame start
  underway_start held frame empty first fresh t s is said =
      subst (λ f. Going m t (main_constituent s) start held f start) (sym first)
      (subst (λ xs. Going m t (main_constituent s) start xs (starting 0 0) start) (sym empty) (going_start m law tree table ready t s is said fresh))

  module _ {held : List Frame} {frame : Frame} {writer : WordWriter} (go : Underway m tree start held frame writer) where
    -- a word comes next: it has room, and is then written
    module _ (x : Symbol) (n : ℕ) (told : Some x ≡ slice_get (frame_symbols m tree table frame) frame.next) (e : x ≡ Word n) where
      pub word_fits : writer.used + length (gap writer ++ spelling m n) ≤ length writer.part.now
      word_fits =
          let q = some_tree ready in
          going_fits m law tree table ready q.0 q.1 q.2 q.3 (go q.0 q.1 q.2 q.3) n (sym told ∙ ap Some e)

      pub underway_word : {after : WordWriter} → Grown (gap writer ++ spelling m n) true writer after → Underway m tree start held (further frame) after
      underway_word word t s is said = going_word m law tree table ready t s is said (go t s is said) n (sym told ∙ ap Some e) word

    -- a constituent of an argument comes next: it is passed over, or a frame for it comes to work
    module _ (x : Symbol) (a k place : ℕ) (told : Some x ≡ slice_get (frame_symbols m tree table frame) frame.next) (e : x ≡ Reference a k) (there : place ≡ get_or (measured_at table frame.place).places a 0) where
      pub underway_past : (words : ℕ) → words ≡ word_count (measured_at table place).said k → words ≡ 0 → Underway m tree start held (further frame) writer
      underway_past words count none t s is said =
          going_past m law tree table ready t s is said (go t s is said) a k place (sym told ∙ ap Some e) there (sym count ∙ none)

      pub level_small : length held ≤ 4
      level_small =
          let q = some_tree ready in
          going_level m law tree table ready q.0 q.1 q.2 q.3 (go q.0 q.1 q.2 q.3) a k place (sym told ∙ ap Some e) there

      pub underway_down : (above : List Frame) (child : Frame) → above ≡ held ++ further frame ∷ [] → child ≡ starting place k → Underway m tree start above child writer
      underway_down above child pushed first t s is said =
          subst (λ f. Going m t (main_constituent s) start above f writer) (sym first)
          (subst (λ xs. Going m t (main_constituent s) start xs (starting place k) writer) (sym pushed)
          (going_down m law tree table ready t s is said (go t s is said) a k place (sym told ∙ ap Some e) there))

    -- the sequence is at its end: the frame below comes to work, or the text is written
    module _ (told : None ≡ slice_get (frame_symbols m tree table frame) frame.next) where
      pub underway_up : (below : List Frame) (top : Frame) → held ≡ below ++ top ∷ [] → Underway m tree start below top writer
      underway_up below top popped t s is said = going_up m law tree table ready t s is said (go t s is said) (sym told) below top popped

      pub underway_end : held ≡ [] → Wrote m tree start writer
      underway_end empty t s is said = going_end m law tree table ready t s is said (go t s is said) (sym told) empty

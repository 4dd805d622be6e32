-- The words that a frame owes, and what its next symbol makes of them.
use Rattle.std.proofs.Common.{◌≡◌, ℕ, zero, suc, ◌+◌, ◌<◌, ◌≤◌, List, [], ◌++◌, map, length, get_or, drop, Some, None, Ok, Option, sym, refl, ap, ◌∙◌, subst, add-one, arith}
use Rattle.std.specs.List.{slice_get, flat_map, AllByRecursion}
use Rattle.std.proofs.lemmas.List.{drop_all}
use Rattle.std.proofs.lemmas.Option.{slice_get-get_or}
use Rattle.grammar.proofs.Optional.{none_some}
use Rattle.grammar.specs.declared.symbol.Symbol.{Symbol}
use Rattle.grammar.specs.declared.symbol.Symbol.TheVariants.{Reference}
use Rattle.grammar.specs.Languages.{FunctionLawful, Lawful, Meaning, Rule, SymbolLawful, Words}
use Rattle.grammar.specs.Linearization.{Said, nothing_said, symbol_words, linearized, linearized_all, said_form}
use Rattle.grammar.specs.Questions.{sequence_at, sequence_answer, rule_at}
use Rattle.grammar.specs.Signatures.{Function, Signature}
use Rattle.grammar.specs.Trees.{Tree, Trees, code, depth, deepest, HasCategory, HaveCategories}
use Rattle.grammar.specs.Trees.Tree.{node}
use Rattle.grammar.specs.Trees.Trees.{none, more}
use Rattle.saying.specs.Mute.{At, RowAt}
use Rattle.saying.proofs.Muteness.{node_parts, more_parts}
use Rattle.saying.proofs.Places.{arguments_at, at_byte, at_category}
use Rattle.measure.specs.declared.table.MeasureTable.{MeasureTable}
use Rattle.measure.specs.Measured.{measured_at}
use Rattle.measure.specs.Sizes.{forms_said, measure_of, padded, row_places}
use Rattle.measure.proofs.Asked.{answered_sequence, answered_short, node_asked}
use Rattle.tree.specs.declared.code.TreeCode.{TreeCode}
use Rattle.tree.specs.Codes.{IsTree}
use Rattle.tree.specs.Read.{bytes_of}
use Rattle.linearizer.specs.declared.frame.Frame.{Frame}
use Rattle.measure.specs.Sums.{or_no_symbols}
use Rattle.linearizer.specs.Frames.{frame_symbols, sequence_of, starting, word_count}
use Rattle.linearizer.specs.Written.{NodesTold}
use Rattle.grammar.proofs.Nth.{all_nth, drop_nth, nth_below}
use Rattle.linearizer.proofs.Walking.{nth_end, nth_mapped}

-- the node of a frame and what is said of its arguments; the words that the frame owes are those of the symbols that are left. A tree is at most 6 deep, so a node at a level has no more than the rest below it
pub record Owes (m : Meaning) (t : Tree) (level : ℕ) (frame : Frame) (ws : Words) : Type 0 where
  pub function : ℕ
  pub trees : Trees
  pub arguments : List Said
  pub rule : Rule
  pub symbols : List Symbol
  pub there : At t frame.place (node function trees)
  pub shallow : level + depth (node function trees) ≤ 6
  pub said : linearized_all m trees ≡ Some arguments
  pub ruled : m.rule function (map said_form arguments) ≡ Some rule
  pub sequence : slice_get rule.sequences frame.constituent ≡ Some symbols
  pub owed : ws ≡ flat_map (symbol_words m arguments) (drop frame.next symbols)

-- a frame that is one symbol further on
abbrev pub further : Frame → Frame
further frame = record { place = frame.place; constituent = frame.constituent; next = frame.next + 1 }

-- at the start a frame owes the whole constituent
pub owes_start : (m : Meaning) → Lawful m → (t u : Tree) (level place c dimension k : ℕ) (s : Said) → At t place u → HasCategory m.signature c u → level + depth u ≤ 6 → linearized m u ≡ Some s → slice_get m.dimensions c ≡ Some dimension → k < dimension → Owes m t level (starting place k) (get_or s.constituents k [])
owes_start m law t (node f ts) level place c dimension k s there has shallow said dimensions lt =
    let parts = node_parts m f ts s said in
    let arguments = parts.0 in
    let r = parts.1 in
    let lawful = law.rules_lawful f (map said_form arguments) r parts.3 in
    let same : lawful.0 ≡ has.0 = cc (lawful.1, has.1) in
    let of : lawful.0.result ≡ c = ap (λ function. function.result) same ∙ has.2 in
    let counted : Some (length r.sequences) ≡ Some dimension = sym lawful.2.one_sequence_each ∙ ap (slice_get m.dimensions) of ∙ dimensions in
    let many : length r.sequences ≡ dimension = cc (counted) in
    let sequence = slice_get-get_or r.sequences k [] (omega arith) in
    record {
      function = f;
      trees = ts;
      arguments = arguments;
      rule = r;
      symbols = get_or r.sequences k [];
      there = there;
      shallow = shallow;
      said = parts.2;
      ruled = parts.3;
      sequence = sequence;
      owed = ap (λ x. get_or x.constituents k []) parts.4 ∙ nth_mapped (flat_map (symbol_words m arguments)) r.sequences k (get_or r.sequences k []) [] sequence;
    }

module _ {m : Meaning} {t : Tree} {level : ℕ} {frame : Frame} {ws : Words} (o : Owes m t level frame ws) where
  -- the words of the next symbol come first, and the frame owes the others
  pub owes_next : (x : Symbol) → slice_get o.symbols frame.next ≡ Some x → (rest : Words) × (ws ≡ symbol_words m o.arguments x ++ rest) × Owes m t level (further frame) rest
  owes_next x h = (
    flat_map (symbol_words m o.arguments) (drop (frame.next + 1) o.symbols),
    o.owed ∙ ap (flat_map (symbol_words m o.arguments)) (drop_nth o.symbols frame.next x h) ∙ rw add-one refl,
    record {
      function = o.function;
      trees = o.trees;
      arguments = o.arguments;
      rule = o.rule;
      symbols = o.symbols;
      there = o.there;
      shallow = o.shallow;
      said = o.said;
      ruled = o.ruled;
      sequence = o.sequence;
      owed = refl;
    },
  )

-- the words past the last symbol
pub owes_end : {m : Meaning} {t : Tree} {level : ℕ} {frame : Frame} {ws : Words} (o : Owes m t level frame ws) → slice_get o.symbols frame.next ≡ None → ws ≡ []
owes_end {m = m} {frame = frame} o h = o.owed ∙ ap (flat_map (symbol_words m o.arguments)) (drop_all frame.next o.symbols (nth_end o.symbols frame.next h))

-- the argument of a number, among trees side by side: where it stands, and what is said of it
pub row_argument : (m : Meaning) (t : Tree) (place : ℕ) (ts : Trees) (s : Signature) (cs : List ℕ) (all : List Said) (a c : ℕ) → RowAt t place ts → HaveCategories s cs ts → linearized_all m ts ≡ Some all → slice_get cs a ≡ Some c → (u : Tree) × At t (get_or (row_places place ts) a 0) u × HasCategory s c u × (linearized m u ≡ Some (get_or all a nothing_said)) × (depth u ≤ deepest ts)
row_argument m t place none s cs all a c row have e h = absurd (none_some c (ap (λ xs. slice_get xs a) (sym have) ∙ h))
row_argument m t place (more u us) s cs all zero c row have e h =
    let parts = more_parts m u us all e in
    let same : have.0 ≡ c = cc have.2 in
    (u, row.0, subst (λ d. HasCategory s d u) same have.3, parts.2 ∙ ap (λ xs. Some (get_or xs 0 nothing_said)) (sym parts.4), omega arith)
row_argument m t place (more u us) s cs all (suc a) c row have e h =
    let parts = more_parts m u us all e in
    let q = row_argument m t (place + length (code u)) us s have.1 parts.1 a c row.1 have.4 parts.3 (ap (λ xs. slice_get xs (suc a)) (sym have.2) ∙ h) in
    (q.0, q.1, q.2, q.3 ∙ ap (λ xs. Some (get_or xs (suc a) nothing_said)) (sym parts.4), omega (arith, q.4))

padded_read : (ns : List ℕ) (a : ℕ) → a < 3 → get_or (padded ns) a 0 ≡ get_or ns a 0
padded_read ns zero lt = refl
padded_read ns (suc zero) lt = refl
padded_read ns (suc (suc zero)) lt = refl
padded_read ns (suc (suc (suc a))) lt = absurd (omega arith)

-- the size in a measure is that of the constituent
size_read : (s : Said) (k : ℕ) → k < 4 → word_count (Ok (measure_of s)) k ≡ length (get_or s.constituents k [])
size_read s zero lt = refl
size_read s (suc zero) lt = refl
size_read s (suc (suc zero)) lt = refl
size_read s (suc (suc (suc zero))) lt = refl
size_read s (suc (suc (suc (suc k)))) lt = absurd (omega arith)

count_said : (m : Meaning) (table : MeasureTable) (t : Tree) → NodesTold m t table → (j : ℕ) (u : Tree) (s : Said) (k : ℕ) → At t j u → linearized m u ≡ Some s → k < 4 → word_count (measured_at table j).said k ≡ length (get_or s.constituents k [])
count_said m table t told j (node f ts) s k there said lt =
    ap (λ q. word_count q k) ((told j f ts there).2 s said) ∙ size_read s k lt

module _ (m : Meaning) (law : Lawful m) where
  -- a reference names one of three arguments, and one of four constituents
  lawful_small : (f : ℕ) (function : Function) (a k : ℕ) → slice_get m.signature.functions f ≡ Some function → SymbolLawful m function (Reference a k) → (a < 3) × (k < 4)
  lawful_small f function a k known lawful =
      let few = (all_nth (FunctionLawful m.signature) m.signature.functions f function law.signature_lawful.functions_lawful known).arity_range in
      let within = nth_below function.arguments a lawful.0 lawful.2 in
      let range = all_nth (λ n. (1 ≤ n) × (n ≤ 4)) m.dimensions lawful.0 lawful.1 law.dimension_range lawful.3 in
      (omega arith, omega (arith, range.1, lawful.4))

  module _ (tree : TreeCode) (table : MeasureTable) (frame : Frame) where
    -- a symbol of a frame is one of a rule
    symbol_of : (x : Symbol) (i : ℕ) → slice_get (frame_symbols m tree table frame) i ≡ Some x → (f : ℕ) × (symbols : List Symbol) × (sequence_answer m f (measured_at table frame.place).forms frame.constituent ≡ Some symbols) × (slice_get symbols i ≡ Some x)
    symbol_of x i h = by_byte (slice_get (bytes_of tree) frame.place) h
      where
        by_answer : (f : ℕ) (o : Option (List Symbol)) → sequence_answer m f (measured_at table frame.place).forms frame.constituent ≡ o → slice_get (or_no_symbols o) i ≡ Some x → (f : ℕ) × (symbols : List Symbol) × (sequence_answer m f (measured_at table frame.place).forms frame.constituent ≡ Some symbols) × (slice_get symbols i ≡ Some x)
        by_answer f None e g = absurd (none_some x g)
        by_answer f (Some symbols) e g = (f, symbols, e, g)

        by_byte : (o : Option ℕ) → slice_get (sequence_of m o (measured_at table frame.place).forms frame.constituent) i ≡ Some x → (f : ℕ) × (symbols : List Symbol) × (sequence_answer m f (measured_at table frame.place).forms frame.constituent ≡ Some symbols) × (slice_get symbols i ≡ Some x)
        by_byte None g = absurd (none_some x g)
        by_byte (Some f) g = by_answer f (sequence_answer m f (measured_at table frame.place).forms frame.constituent) refl g

    pub reference_small : (a k i : ℕ) → slice_get (frame_symbols m tree table frame) i ≡ Some (Reference a k) → (a < 3) × (k < 4)
    reference_small a k i h =
        let q = symbol_of (Reference a k) i h in
        let of = answered_sequence m q.0 (measured_at table frame.place).forms frame.constituent q.1 q.2 in
        let rule = law.rules_lawful q.0 of.0 of.1 of.2 in
        let lawful = all_nth (SymbolLawful m rule.0) q.1 i (Reference a k) (all_nth (AllByRecursion (SymbolLawful m rule.0)) of.1.sequences frame.constituent q.1 rule.2.symbols_lawful of.3) q.3 in
        lawful_small q.0 rule.0 a k rule.1 lawful

    pub symbols_short : length (frame_symbols m tree table frame) ≤ 8
    symbols_short = by_byte (slice_get (bytes_of tree) frame.place)
      where
        by_answer : (f : ℕ) (o : Option (List Symbol)) → sequence_answer m f (measured_at table frame.place).forms frame.constituent ≡ o → length (or_no_symbols o) ≤ 8
        by_answer f None e = omega arith
        by_answer f (Some symbols) e = answered_short m law f (measured_at table frame.place).forms frame.constituent symbols e

        by_byte : (o : Option ℕ) → length (sequence_of m o (measured_at table frame.place).forms frame.constituent) ≤ 8
        by_byte None = omega arith
        by_byte (Some f) = by_answer f (sequence_answer m f (measured_at table frame.place).forms frame.constituent) refl

  module _ (tree : TreeCode) (table : MeasureTable) (t : Tree) (is : IsTree m.signature (bytes_of tree) t) (told : NodesTold m t table) {level : ℕ} {frame : Frame} {ws : Words} (o : Owes m t level frame ws) where
    -- the node's function has arguments of these categories
    categories : (function : Function) × (slice_get m.signature.functions o.function ≡ Some function) × HaveCategories m.signature function.arguments o.trees
    categories =
        let has = (at_category m.signature m.signature.start t frame.place (node o.function o.trees) is.start o.there).1 in
        (has.0, has.1, has.3)

    -- the frame is at the symbols of its rule
    pub owes_symbols : frame_symbols m tree table frame ≡ o.symbols
    owes_symbols =
        let f = o.function in
        let k = frame.constituent in
        let here = measured_at table frame.place in
        let byte : slice_get (bytes_of tree) frame.place ≡ Some f = subst (λ bytes. slice_get bytes frame.place ≡ Some f) is.coded (at_byte t frame.place f o.trees o.there) in
        let forms : here.forms ≡ padded (map said_form o.arguments) = (told frame.place f o.trees o.there).1 ∙ ap (λ all. padded (forms_said all)) o.said in
        let function = categories in
        let key = node_asked m law f o.trees function.0 o.arguments function.1 function.2 o.said in
        ap (λ b. sequence_of m b here.forms k) byte
        ∙ ap (λ fs. or_no_symbols (sequence_answer m f fs k)) forms
        ∙ ap (λ q. or_no_symbols (sequence_at (rule_at m f q) k)) key
        ∙ ap (λ r. or_no_symbols (sequence_at (Some r) k)) o.ruled
        ∙ ap or_no_symbols o.sequence

    -- an argument that the next symbol names stands where the table says, has as many words, and a frame at its start owes them
    pub owes_argument : (a k : ℕ) → slice_get o.symbols frame.next ≡ Some (Reference a k) → Owes m t (suc level) (starting (get_or (measured_at table frame.place).places a 0) k) (symbol_words m o.arguments (Reference a k)) × (word_count (measured_at table (get_or (measured_at table frame.place).places a 0)).said k ≡ length (symbol_words m o.arguments (Reference a k)))
    owes_argument a k h =
        let function = categories in
        let rule = law.rules_lawful o.function (map said_form o.arguments) o.rule o.ruled in
        let same : rule.0 ≡ function.0 = cc (rule.1, function.1) in
        let of = all_nth (SymbolLawful m rule.0) o.symbols frame.next (Reference a k) (all_nth (AllByRecursion (SymbolLawful m rule.0)) o.rule.sequences frame.constituent o.symbols rule.2.symbols_lawful o.sequence) h in
        let lawful = subst (λ g. SymbolLawful m g (Reference a k)) same of in
        let small = lawful_small o.function function.0 a k function.1 lawful in
        let row = arguments_at t frame.place o.function o.trees o.there in
        let argument = row_argument m t (suc frame.place) o.trees m.signature function.0.arguments o.arguments a lawful.0 row function.2 o.said lawful.2 in
        let place = get_or (measured_at table frame.place).places a 0 in
        let places = ap (λ ps. get_or ps a 0) (told frame.place o.function o.trees o.there).0 ∙ padded_read (row_places (suc frame.place) o.trees) a small.0 in
        let there : At t place argument.0 = subst (λ j. At t j argument.0) (sym places) argument.1 in
        let s = get_or o.arguments a nothing_said in (
          owes_start m law t argument.0 (suc level) place lawful.0 lawful.1 k s there argument.2 (omega (arith, o.shallow, argument.4)) argument.3 lawful.3 lawful.4,
          count_said m table t told place argument.0 s k there argument.3 small.1,
        )

-- The steps of the walk: what the model reads at each kind of byte, what that lists, and how many nodes there can be.
use Rattle.std.proofs.Common.{◌≡◌, ℕ, zero, suc, ◌+◌, ◌-◌, ◌*◌, ◌≤◌, List, [], ◌∷◌, ◌++◌, length, get_or, take, drop, Some, None, Ok, Err, Option, Result, sym, refl, ap, ◌∙◌, subst, mul-le-mul_right, suc-mul, arith, Bor}
use Rattle.std.specs.List.{slice_get}
use Rattle.std.specs.Option.{option_map}
use Rattle.std.proofs.lemmas.List.{append-nil, append_assoc, drop_more, length_push, take_rest}
use Rattle.std.proofs.lemmas.Bool.{eq-eqb, ne_eqb}
use Rattle.fault.specs.declared.kinds.TreeFault.{TreeFault}
use Rattle.fault.specs.declared.kinds.TreeFault.TheVariants.{WrongNode}
use Rattle.grammar.specs.declared.signature.Arguments.{Arguments}
use Rattle.grammar.specs.declared.signature.Arguments.TheVariants.{Zero, One, Two, Three}
use Rattle.grammar.specs.declared.signature.FunctionType.{FunctionType}
use Rattle.grammar.specs.declared.signature.SignatureTable.{SignatureTable}
use Rattle.grammar.specs.Drafts.{Drafts, hole_byte}
use Rattle.grammar.specs.Drafts.Draft.{hole, built}
use Rattle.grammar.specs.Drafts.Drafts.{nil, cons}
use Rattle.grammar.specs.DraftWalk.{Taken, taken, root, read_draft, read_each}
use Rattle.grammar.specs.DraftWalk.Root.{open_place, function, wrong}
use Rattle.grammar.specs.Questions.{argument_list}
use Rattle.grammar.specs.Signatures.{Function, Signature}
use Rattle.grammar.specs.Tables.{typed, listed, signature_of}
use Rattle.draft.specs.declared.nodes.DraftNode.{DraftNode}
use Rattle.grammar.proofs.Nth.{nth_map}
use Rattle.draft.specs.Nodes.{argument_categories, placed, draft_nodes, drafts_nodes}
use Rattle.draft.specs.Walks.{most, Took, Met, WalkedOne, WalkedAll}

-- a draft that may be deeper has no fewer nodes at most
pub most_grows : (d k : ℕ) → d ≤ k → most d ≤ most k
most_grows zero k h = omega arith
most_grows (suc d) zero h = absurd (omega arith)
most_grows (suc d) (suc k) h = let below = most_grows d k (omega arith) in omega arith

-- a node, and at most three drafts below it
pub most_step : (left : ℕ) → 1 ≤ left → most left ≡ 1 + 3 * most (left - 1)
most_step zero h = absurd (omega arith)
most_step (suc k) h = let e : suc k - 1 ≡ k = omega arith in ap (λ n. 1 + 3 * most n) (sym e)

pub at_most_three : (arguments : Arguments) → length (argument_list arguments) ≤ 3
at_most_three Zero = omega arith
at_most_three (One a) = omega arith
at_most_three (Two a b) = omega arith
at_most_three (Three a b c) = omega arith

-- the model's steps at a byte that is not too deep
pub at_hole : (s : Signature) (left c p b : ℕ) (rest : List ℕ) → 1 ≤ left → root s c b ≡ open_place → read_draft s left c p (b ∷ rest) ≡ Ok (taken hole (suc p) rest)
at_hole s zero c p b rest h e = absurd (omega arith)
at_hole s (suc k) c p b rest h e = rw (e, read_draft)

pub at_wrong : (s : Signature) (left c p b : ℕ) (rest : List ℕ) → 1 ≤ left → root s c b ≡ wrong → read_draft s left c p (b ∷ rest) ≡ Err (WrongNode p)
at_wrong s zero c p b rest h e = absurd (omega arith)
at_wrong s (suc k) c p b rest h e = rw (e, read_draft)

pub at_function : (s : Signature) (left c p b : ℕ) (rest : List ℕ) (f : Function) (ds : Taken Drafts) → 1 ≤ left → root s c b ≡ function f → read_each (read_draft s (left - 1)) f.arguments (suc p) rest ≡ Ok ds → read_draft s left c p (b ∷ rest) ≡ Ok (taken (built b ds.value) ds.place ds.rest)
at_function s zero c p b rest f ds h e g = absurd (omega arith)
at_function s (suc k) c p b rest f ds h e g =
    let same : suc k - 1 ≡ k = omega arith in
    let deeper : read_each (read_draft s k) f.arguments (suc p) rest ≡ Ok ds = subst (λ n. read_each (read_draft s n) f.arguments (suc p) rest ≡ Ok ds) same g in
    rw (e, read_draft, deeper)

pub at_fault_below : (s : Signature) (left c p b : ℕ) (rest : List ℕ) (f : Function) (fault : TreeFault) → 1 ≤ left → root s c b ≡ function f → read_each (read_draft s (left - 1)) f.arguments (suc p) rest ≡ Err fault → read_draft s left c p (b ∷ rest) ≡ Err fault
at_fault_below s zero c p b rest f fault h e g = absurd (omega arith)
at_fault_below s (suc k) c p b rest f fault h e g =
    let same : suc k - 1 ≡ k = omega arith in
    let deeper : read_each (read_draft s k) f.arguments (suc p) rest ≡ Err fault = subst (λ n. read_each (read_draft s n) f.arguments (suc p) rest ≡ Err fault) same g in
    rw (e, read_draft, deeper)

-- the three ways to read a byte, by the function that has its number
pub root_hole : (s : Signature) (c b : ℕ) → b ≡ hole_byte → root s c b ≡ open_place
root_hole s c b e = rw e

pub root_function : (s : Signature) (c b : ℕ) (f : Function) → (b ≡ hole_byte → ⊥) → slice_get s.functions b ≡ Some f → f.result ≡ c → root s c b ≡ function f
root_function s c b f no_hole e r = rw (ne_eqb b hole_byte no_hole, e, eq-eqb f.result c r)

pub root_none : (s : Signature) (c b : ℕ) → (b ≡ hole_byte → ⊥) → slice_get s.functions b ≡ None → root s c b ≡ wrong
root_none s c b no_hole e = rw (ne_eqb b hole_byte no_hole, e)

pub root_other : (s : Signature) (c b : ℕ) (f : Function) → (b ≡ hole_byte → ⊥) → slice_get s.functions b ≡ Some f → (f.result ≡ c → ⊥) → root s c b ≡ wrong
root_other s c b f no_hole e r = rw (ne_eqb b hole_byte no_hole, e, ne_eqb f.result c r)

-- the table's function of a number is the signature's
pub in_table : (t : SignatureTable) (b : ℕ) (o : Option FunctionType) → o ≡ slice_get (listed t) b → slice_get (signature_of t).functions b ≡ option_map typed o
in_table t b o e = nth_map typed (listed t) b ∙ ap (option_map typed) (sym e)

pub one_more : (before after : List DraftNode) (n : DraftNode) → after ≡ before ++ n ∷ [] → length after ≡ suc (length before)
one_more before after n put = let more = length_push before n in let same = ap length put in omega arith

-- a hole is a node of its own
pub one_hole : (s : Signature) (left c : ℕ) {b : ℕ} {bytes rest : List ℕ} {before after : List DraftNode} → 1 ≤ left → bytes ≡ b ∷ rest → b ≡ hole_byte → after ≡ before ++ placed None c left ∷ [] → Took (read_draft s left c (length before) bytes) (draft_nodes s left c) (most left) before after rest
one_hole s left c {b} {bytes} {rest} {before} {after} deep e is_hole put =
    let long = one_more before after _ put in
    record {
      value = hole;
      read = rw (e, at_hole s left c (length before) b rest deep (root_hole s c b is_hole), long);
      listed = put;
      few = omega (arith, most_step left deep);
    }

-- a byte that is neither is at fault, and no node
pub one_wrong : (s : Signature) (left c : ℕ) {b p : ℕ} {bytes rest : List ℕ} {before : List DraftNode} → 1 ≤ left → bytes ≡ b ∷ rest → root s c b ≡ wrong → p ≡ length before → Met (read_draft s left c (length before) bytes) before before (WrongNode p)
one_wrong s left c {b} {p} {bytes} {rest} {before} deep e is here =
    record {
      read = rw e (at_wrong s left c (length before) b rest deep is ∙ ap (λ n. Err (WrongNode n)) (sym here));
      place = here;
      more = [];
      kept = sym (append-nil before);
    }

-- a function is a node, and then come its arguments
pub one_built : (s : Signature) (left c : ℕ) (f : Function) (bytes : List ℕ) (before after : List DraftNode) (r : Result (Bor (List ℕ)) TreeFault) {b : ℕ} {rest : List ℕ} {middle : List DraftNode} → 1 ≤ left → bytes ≡ b ∷ rest → root s c b ≡ function f → slice_get s.functions b ≡ Some f → length f.arguments ≤ 3 → middle ≡ before ++ placed (Some b) c left ∷ [] → WalkedAll s (left - 1) f.arguments rest middle after r → WalkedOne s left c bytes before after r
one_built s left c f bytes before after (Ok last) {b} {rest} {middle} deep e is at_b three put below =
    let long = one_more before middle _ put in
    record {
      value = built b below.value;
      read = rw e (at_function s left c (length before) b rest f _ deep is (rw (← long) below.read));
      listed =
          below.listed
          ∙ ap (λ l. l ++ drafts_nodes s (left - 1) f.arguments below.value) put
          ∙ append_assoc before _ _
          ∙ ap (λ o. before ++ placed (Some b) c left ∷ drafts_nodes s (left - 1) (argument_categories o) below.value) (sym at_b);
      few = omega (arith, most_step left deep, mul-le-mul_right (most (left - 1)) three);
    }
one_built s left c f bytes before after (Err fault) {b} {rest} {middle} deep e is at_b three put below =
    let long = one_more before middle _ put in
    record {
      read = rw e (at_fault_below s left c (length before) b rest f fault deep is (rw (← long) below.read));
      place = below.place;
      more = placed (Some b) c left ∷ below.more;
      kept = below.kept ∙ ap (λ l. l ++ below.more) put ∙ append_assoc before _ _;
    }

-- no categories, no bytes
all_none : (s : Signature) (left : ℕ) (rest : List ℕ) (before : List DraftNode) → Took (read_each (read_draft s left) [] (length before) rest) (drafts_nodes s left []) (0 * most left) before before rest
all_none s left rest before = record { value = nil; read = refl; listed = sym (append-nil before); few = omega arith }

-- the first of several drafts, and then the others
pub all_then : (s : Signature) (left a : ℕ) (others bytes : List ℕ) (after : List DraftNode) (r : Result (Bor (List ℕ)) TreeFault) {cs rest : List ℕ} {before middle : List DraftNode} → cs ≡ a ∷ others → Took (read_draft s left a (length before) bytes) (draft_nodes s left a) (most left) before middle rest → WalkedAll s left others rest middle after r → WalkedAll s left cs bytes before after r
all_then s left a others bytes after (Ok last) {cs} {rest} {before} {middle} e first next =
    rw e record {
      value = cons first.value next.value;
      read = rw (first.read, read_each, next.read);
      listed = next.listed ∙ ap (λ l. l ++ drafts_nodes s left others next.value) first.listed ∙ append_assoc before _ _;
      few = omega (arith, suc-mul (length others) (most left));
    }
all_then s left a others bytes after (Err fault) {cs} {rest} {before} {middle} e first next =
    rw e record {
      read = rw (first.read, read_each, next.read);
      place = next.place;
      more = draft_nodes s left a first.value ++ next.more;
      kept = next.kept ∙ ap (λ l. l ++ next.more) first.listed ∙ append_assoc before _ _;
    }

-- a fault in the first of several is the fault of them all
pub all_stops : (s : Signature) (left a : ℕ) (others bytes : List ℕ) {cs : List ℕ} {before after : List DraftNode} {fault : TreeFault} → cs ≡ a ∷ others → Met (read_draft s left a (length before) bytes) before after fault → Met (read_each (read_draft s left) cs (length before) bytes) before after fault
all_stops s left a others bytes {cs} {before} {after} {fault} e first =
    rw e record { read = rw (first.read, read_each); place = first.place; more = first.more; kept = first.kept }

-- the last draft decides
pub all_last : (s : Signature) (left a : ℕ) (bytes : List ℕ) (before after : List DraftNode) (r : Result (Bor (List ℕ)) TreeFault) {cs : List ℕ} → cs ≡ a ∷ [] → WalkedOne s left a bytes before after r → WalkedAll s left cs bytes before after r
all_last s left a bytes before after (Ok last) {cs} e first =
    all_then s left a [] bytes after (Ok last) e first (all_none s left last.now after)
all_last s left a bytes before after (Err fault) {cs} e first = all_stops s left a [] bytes e first

-- a code that has a byte is that byte and the rest
pub front : (bytes : List ℕ) → 1 ≤ length bytes → bytes ≡ get_or bytes 0 0 ∷ take (length bytes - 1) (drop 1 bytes)
front bytes h = drop_more bytes 0 0 h ∙ ap (λ r. get_or bytes 0 0 ∷ r) (sym (take_rest bytes 1))

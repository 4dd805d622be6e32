-- The draft's walk: a code read from the front, one byte and then the rest, into a draft or the first fault with its place.
use Rattle.std.specs.Prelude.{ℕ, zero, suc, cond, List, [], ◌∷◌, Some, None, Ok, Err, Option, Result, ◌==◌, nat_le}
use Rattle.std.specs.List.{slice_get}
use Rattle.fault.specs.declared.kinds.TreeFault.{TreeFault}
use Rattle.fault.specs.declared.kinds.TreeFault.TheVariants.{DepthOutOfRange, EndsEarly, LeftOver, WrongNode, TooDeep}
use Rattle.grammar.specs.Drafts.{Draft, Drafts, hole_byte}
use Rattle.grammar.specs.Drafts.Draft.{hole, built}
use Rattle.grammar.specs.Drafts.Drafts.{nil, cons}
use Rattle.grammar.specs.Signatures.{Function, Signature}

-- what was read, the place of the next byte, and the bytes from there on
pub record Taken (A : Type 0) : Type 0 where
  pub value : A
  pub place : ℕ
  pub rest : List ℕ

abbrev pub taken : {A : Type 0} → A → ℕ → List ℕ → Taken A
taken x p bytes = record { value = x; place = p; rest = bytes }

-- a node's byte can be read in one of three ways
pub data Root : Type 0 where
  open_place : Root
  function : Function → Root
  wrong : Root

abbrev pub function_root : ℕ → Option Function → Root
function_root c None = wrong
function_root c (Some f) = cond (f.result == c) (function f) wrong

-- a hole, a function of the signature with result c, or neither
abbrev pub root : Signature → ℕ → ℕ → Root
root s c b = cond (b == hole_byte) open_place (function_root c (slice_get s.functions b))

-- a draft of each of the categories, one after the other
abbrev pub read_each : (ℕ → ℕ → List ℕ → Result (Taken Draft) TreeFault) → List ℕ → ℕ → List ℕ → Result (Taken Drafts) TreeFault
read_each read [] p bytes = Ok (taken nil p bytes)
read_each read (c ∷ cs) p bytes =
    elim (read c p bytes) [
      | Ok first ↦ elim (read_each read cs first.place first.rest) [
        | Ok others ↦ Ok (taken (cons first.value others.value) others.place others.rest)
        | Err fault ↦ Err fault
      ]
      | Err fault ↦ Err fault
    ]

-- a draft of category c, at most `left` deep, from place p on: an early end is at fault there; a byte deeper than allowed is at fault whatever it is
abbrev pub read_draft : Signature → ℕ → ℕ → ℕ → List ℕ → Result (Taken Draft) TreeFault
read_draft s left c p [] = Err (EndsEarly p)
read_draft s zero c p (b ∷ rest) = Err (TooDeep p)
read_draft s (suc left) c p (b ∷ rest) =
    elim (root s c b) [
      | open_place ↦ Ok (taken hole (suc p) rest)
      | function f ↦ elim (read_each (read_draft s left) f.arguments (suc p) rest) [
        | Ok arguments ↦ Ok (taken (built b arguments.value) arguments.place arguments.rest)
        | Err fault ↦ Err fault
      ]
      | wrong ↦ Err (WrongNode p)
    ]

-- nothing may be left over
abbrev pub whole_draft : Taken Draft → Result Draft TreeFault
whole_draft t = elim t.rest [ [] ↦ Ok t.value | b ∷ rest ↦ Err (LeftOver t.place) ]

-- a whole code: one draft of the start category, at most d deep
abbrev pub draft_walk : Signature → ℕ → List ℕ → Result Draft TreeFault
draft_walk s d bytes = elim (read_draft s d s.start 0 bytes) [ Ok t ↦ whole_draft t | Err fault ↦ Err fault ]

-- a depth is 1 to 6
abbrev pub depth_check : ℕ → Result ℕ TreeFault
depth_check d = cond (nat_le 1 d) (cond (nat_le d 6) (Ok d) (Err DepthOutOfRange)) (Err DepthOutOfRange)

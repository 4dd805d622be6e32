-- What the walk over a code answers, beside the model's walk: what it has read, and the nodes that it has listed.
use Rattle.std.specs.Borrow.{Bor}
use Rattle.std.specs.Prelude.{◌≡◌, ℕ, zero, suc, ◌+◌, ◌*◌, ◌≤◌, List, ◌++◌, length, Ok, Err, Result}
use Rattle.fault.specs.declared.kinds.TreeFault.{TreeFault}
use Rattle.grammar.specs.Drafts.{Draft}
use Rattle.grammar.specs.DraftWalk.{Taken, taken, read_draft, read_each, draft_walk}
use Rattle.fault.specs.Refusals.{tree_refusal}
use Rattle.grammar.specs.Signatures.{Signature}
use Rattle.draft.specs.declared.nodes.DraftNode.{DraftNode}
use Rattle.draft.specs.declared.nodes.DraftNodes.{DraftNodes}
use Rattle.draft.specs.Nodes.{held, draft_nodes, drafts_nodes}

-- the most nodes that a draft has, with `left` as the depth left
abbrev pub most : ℕ → ℕ
most zero = 0
most (suc left) = 1 + 3 * most left

-- the model has read a value up to the rest: its nodes, at most so many, stand after those that were there, one for each byte
pub record Took {A : Type 0} (model : Result (Taken A) TreeFault) (nodes : A → List DraftNode) (limit : ℕ) (before after : List DraftNode) (rest : List ℕ) : Type 0 where
  pub value : A
  pub read : model ≡ Ok (taken value (length after) rest)
  pub listed : after ≡ before ++ nodes value
  pub few : length after ≤ length before + limit

-- the model has met a fault: the nodes that were there still stand in front, and there is one for each byte before the fault
pub record Met {A : Type 0} (model : Result (Taken A) TreeFault) (before after : List DraftNode) (fault : TreeFault) : Type 0 where
  pub read : model ≡ Err fault
  pub place : (tree_refusal fault).place ≡ length after
  pub more : List DraftNode
  pub kept : after ≡ before ++ more

abbrev pub Walked : {A : Type 0} → Result (Taken A) TreeFault → (A → List DraftNode) → ℕ → List DraftNode → List DraftNode → Result (Bor (List ℕ)) TreeFault → Type 0
Walked model nodes limit before after (Ok rest) = Took model nodes limit before after rest.now
Walked model nodes limit before after (Err fault) = Met model before after fault

-- a draft of category c
abbrev pub WalkedOne : Signature → ℕ → ℕ → List ℕ → List DraftNode → List DraftNode → Result (Bor (List ℕ)) TreeFault → Type 0
WalkedOne s left c bytes before after r =
    Walked (read_draft s left c (length before) bytes) (draft_nodes s left c) (most left) before after r

-- a draft of each of the categories cs, one after the other
abbrev pub WalkedAll : Signature → ℕ → List ℕ → List ℕ → List DraftNode → List DraftNode → Result (Bor (List ℕ)) TreeFault → Type 0
WalkedAll s left cs bytes before after r =
    Walked (read_each (read_draft s left) cs (length before) bytes) (drafts_nodes s left cs) (length cs * most left) before after r

-- the code is that of a draft, and the nodes listed are the draft's
pub record IsDraft (s : Signature) (d : ℕ) (bytes : List ℕ) (v : DraftNodes) : Type 0 where
  pub draft : Draft
  pub read : draft_walk s d bytes ≡ Ok draft
  pub nodes : held v ≡ draft_nodes s d s.start draft

-- what is read of a whole code
abbrev pub WalkedWhole : Signature → ℕ → List ℕ → Result DraftNodes TreeFault → Type 0
WalkedWhole s d bytes (Ok v) = IsDraft s d bytes v
WalkedWhole s d bytes (Err fault) = draft_walk s d bytes ≡ Err fault

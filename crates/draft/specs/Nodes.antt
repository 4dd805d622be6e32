-- The nodes of a draft: each with its function, or none where it is a hole, the category that its place calls for and the depth left there, in the order of the code.
use Rattle.std.specs.Prelude.{ℕ, ◌-◌, List, [], ◌∷◌, ◌++◌, Some, None, Option}
use Rattle.std.specs.List.{slice_get}
use Rattle.tables.specs.Held.{held as all_held}
use Rattle.grammar.specs.Drafts.{Draft, Drafts}
use Rattle.grammar.specs.Drafts.Draft.{hole, built}
use Rattle.grammar.specs.Drafts.Drafts.{nil, cons}
use Rattle.grammar.specs.Signatures.{Function, Signature}
use Rattle.draft.specs.declared.nodes.DraftNode.{DraftNode}
use Rattle.draft.specs.declared.nodes.DraftNodes.{DraftNodes}

-- the nodes in use
abbrev pub held : DraftNodes → List DraftNode
held v = all_held v.nodes

abbrev pub placed : Option ℕ → ℕ → ℕ → DraftNode
placed f c left = record { function = f; category = c; left = left }

-- the categories of the arguments of the function that has the number, if one has it
abbrev pub argument_categories : Option Function → List ℕ
argument_categories None = []
argument_categories (Some f) = f.arguments

-- a draft of category c with `left` as the depth left, and drafts side by side of the categories cs
abbrev mutual
  pub draft_nodes : Signature → ℕ → ℕ → Draft → List DraftNode
  draft_nodes s left c hole = placed None c left ∷ []
  draft_nodes s left c (built f ds) = placed (Some f) c left ∷ drafts_nodes s (left - 1) (argument_categories (slice_get s.functions f)) ds

  pub drafts_nodes : Signature → ℕ → List ℕ → Drafts → List DraftNode
  drafts_nodes s left cs nil = []
  drafts_nodes s left [] (cons d ds) = []
  drafts_nodes s left (c ∷ cs) (cons d ds) = draft_nodes s left c d ++ drafts_nodes s left cs ds

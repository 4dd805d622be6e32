-- The first hole is the first byte that is the hole's.
use Rattle.std.proofs.Common.{◌≡◌, ℕ, suc, ◌+◌, Bool, true, false, cond, eqb, List, [], ◌∷◌, Some, refl, ap, ◌∙◌, rules, tests, arith}
use Rattle.std.specs.List.{position_from}
use Rattle.std.specs.Option.{option_map}
use Rattle.std.proofs.lemmas.Iterator.{YieldsList-from_slice}
use Rattle.std.proofs.lemmas.Iterator.Adapters.{position_from-zero}
use Rattle.std.proofs.lemmas.Iterator.Search.{position_from_yields_List}
use Rattle.fault.specs.declared.kinds.TreeFault.TheVariants.{WrongNode}
use Rattle.grammar.specs.Drafts.{hole_byte}
use Rattle.tree.specs.Codes.{first_hole}
use Rattle.tree.proofs.code.read.find_hole.Goals as goal

abbrev is_hole : ℕ → Bool
is_hole b = eqb b hole_byte

here : (p b : ℕ) (bs : List ℕ) (hole : Bool) → option_map WrongNode (position_from is_hole (suc p) bs) ≡ first_hole (suc p) bs → option_map WrongNode (cond hole (Some p) (position_from is_hole (p + 1) bs)) ≡ cond hole (Some (WrongNode p)) (first_hole (suc p) bs)
here p b bs true later = refl
here p b bs false later = let on : p + 1 ≡ suc p = omega arith in ap (λ n. option_map WrongNode (position_from is_hole n bs)) on ∙ later

told : (p : ℕ) (bytes : List ℕ) → option_map WrongNode (position_from is_hole p bytes) ≡ first_hole p bytes
told p [] = refl
told p (b ∷ bs) = here p b bs (is_hole b) (told (suc p) bs)

pub returns : goal.returns
returns c =
    let found = position_from_yields_List is_hole _ _ c.position.result c.position.ensures.ran (YieldsList-from_slice c.args.bytes.now c.iter.ensures.rest) (λ x b q k. search (rules, tests)) ∙ position_from-zero is_hole c.args.bytes.now in
    let mapped : c.map.result ≡ option_map WrongNode c.position.result = search rules in
    mapped ∙ ap (option_map WrongNode) found ∙ told 0 c.args.bytes.now

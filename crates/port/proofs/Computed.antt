-- The worked cases, each computed from the definitions.
use Rattle.std.proofs.Common.{◌≡◌, ℕ, ◌<◌, eqb, List, [], ◌∷◌, Ok, codes, refl, subst, inl, inr, arith}
use Rattle.grammar.specs.Drafts.{Draft}
use Rattle.grammar.specs.Drafts.Draft.{hole}
use Rattle.grammar.specs.Languages.{Words}
use Rattle.grammar.specs.Lists.{Holds}
use Rattle.grammar.specs.DraftWalk.{draft_walk}
use Rattle.grammar.specs.PhraseWalk.{read_phrase}
use Rattle.grammar.specs.Trees.{Tree}
use Rattle.std.specs.Fmt.{digits}
use Rattle.port.specs.Cases.{WorkedCases, Lists, anything}
use Rattle.port.specs.SmallPort.{port, Q, B, rope, held, again}
use Rattle.fault.specs.declared.kinds.SayFault.TheVariants.{Mute, NoRoom}
use Rattle.grammar.proofs.Optional.{none_some}
use Rattle.layers.specs.Hidden.{hidden}
use Rattle.saying.specs.Mute.{At, FirstMute, MuteNode}
use Rattle.items.proofs.Edges.{all_counted}
use Rattle.readings.proofs.Enumeration.{all_readings, all_readings_full}

-- what the enumeration finds is the full list
found : (draft phrase : List ℕ) (d : ℕ) (drafted : Draft) (words : Words) → draft_walk port d draft ≡ Ok drafted → read_phrase phrase ≡ Ok words → Lists draft phrase d (all_readings Q drafted words d)
found draft phrase d drafted words p q = record { drafted = drafted; words = words; draft_read = p; phrase_read = q; full = all_readings_full Q drafted words d }

-- the empty phrase is found nowhere
nothing : (d : ℕ) → draft_walk port d anything ≡ Ok hole → Lists anything [] d (all_readings Q hole [] d)
nothing d p = found anything [] d hole [] p refl

-- a word that begins with a capital is none of Q's
same_head : (x y : ℕ) (xs ys : List ℕ) → x ∷ xs ≡ y ∷ ys → x ≡ y
same_head x y xs ys e = cc

no_capital : Holds Q.words (codes "Hold") → ⊥
no_capital (inl e) = omega (arith, same_head _ _ _ _ e)
no_capital (inr (inl e)) = omega (arith, same_head _ _ _ _ e)
no_capital (inr (inr (inl e))) = omega (arith, same_head _ _ _ _ e)
no_capital (inr (inr (inr h))) = h

-- with the rope hidden, the message about it and the repeated message have no linearization, so the rope is the first mute node
none_before : (j : ℕ) (u : Tree) → j < 2 → At (again (held rope)) j u → MuteNode (hidden (eqb 2) B) u → ⊥
none_before j u lt (inl p) q = let here = subst (MuteNode (hidden (eqb 2) B)) p.1 q in none_some here.0 here.1
none_before j u lt (inr (k, e, inl (inl p))) q = let here = subst (MuteNode (hidden (eqb 2) B)) p.1 q in none_some here.0 here.1
none_before j u lt (inr (k, e, inl (inr (n, f, inl (inl p))))) q = omega (arith, e, f, p.0)
none_before j u lt (inr (k, e, inl (inr (n, f, inl (inr p))))) q = p.2
none_before j u lt (inr (k, e, inl (inr (n, f, inr p)))) q = p.2
none_before j u lt (inr (k, e, inr p)) q = p.2

rope_mute : FirstMute (hidden (eqb 2) B) (again (held rope)) 2
rope_mute = record {
  subtree = rope;
  there = inr (1, refl, inl (inr (0, refl, inl (inl (refl, refl)))));
  mute = ([], refl, refl);
  none_before = none_before;
}

pub worked_cases : WorkedCases
unfolding digits
worked_cases = record {
  two_readings = found _ _ 2 _ _ refl refl;
  one_deeper = found _ _ 3 _ _ refl refl;
  two_deeper = found _ _ 4 _ _ refl refl;
  their_codes = (refl, refl);
  chart_at_two = (_, refl, all_counted Q _ 2);
  chart_at_three = (_, refl, all_counted Q _ 3);
  chart_at_four = (_, refl, all_counted Q _ 4);
  repeated = found _ _ 3 _ _ refl refl;
  repeated_codes = (refl, refl);
  repeated_too_deep = found _ _ 2 _ _ refl refl;
  drafted = found _ _ 2 _ _ refl refl;
  place_for_message = (_, refl, refl);
  cut_short = (_, refl, refl);
  left_over = (_, refl, refl);
  no_draft = (_, refl, refl);
  too_deep = (_, refl, refl);
  depth_zero = (_, refl, refl);
  depth_seven = (_, refl, refl);
  said_by_bridge = (_, (_, refl, refl), refl);
  written_by_bridge = λ page start fits. (refl, (codes "behold trosse tre", (_, (_, refl, refl), refl), refl, fits, refl));
  said_length = refl;
  page_one_short = λ page long. (NoRoom 17, (refl, (codes "behold trosse tre", (_, (_, refl, refl), refl), refl, omega arith, refl)), refl);
  said_in_notation = (_, (_, refl, refl), refl);
  written_in_notation = λ page start fits. (refl, (codes "f0 ( f2 )", (_, (_, refl, refl), refl), refl, fits, refl));
  notation_length = refl;
  rope_hidden = λ page start. (Mute 2, (refl, rope_mute, refl), refl);
  nothing_sent = (nothing 1 refl, (nothing 2 refl, (nothing 3 refl, (nothing 4 refl, (nothing 5 refl, (nothing 6 refl, tt))))));
  capital_letter = (_, refl, record { word = _; there = refl; unknown = no_capital; known_before = λ i w below. absurd (omega arith) });
  two_blanks = (_, refl, refl);
}

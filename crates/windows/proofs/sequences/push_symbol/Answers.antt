-- A reference puts down what the argument's window stands for.
use Rattle.std.proofs.Common.{sym, ap, ◌∙◌, subst}
use Rattle.congruence.specs.NodeItems.{symbol_string, window_string}
use Rattle.windows.specs.Sequences.{Named}
use Rattle.windows.specs.Strings.{AddedTo, phrase_of}
use Rattle.windows.proofs.Symbols.{argument_window}
use Rattle.windows.proofs.sequences.push_symbol.Goals as goal

pub returns-in-Reference-clause-added : goal.returns-in-Reference-clause-added
returns-in-Reference-clause-added g c items same =
    let m = g.L.Language.meaning c.args.language.now in
    let phrase = phrase_of c.args.places.now in
    let range = subst (Named m) c.in-Reference.is c.requires in
    subst (λ q. AddedTo c.args.places.now q c.push_window.result c.push_window.new.self)
    (ap (window_string phrase) (argument_window items c.args.arguments.now c.in-Reference.argument c.in-Reference.constituent _ _ range.0 range.1 same) ∙ ap (symbol_string m phrase items) (sym c.in-Reference.is))
    c.push_window.ensures.added

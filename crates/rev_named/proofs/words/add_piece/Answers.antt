use Rattle.std.proofs.Common.{bytes_eq, sym, ap, ◌∙◌}
use Rattle.indexmap.specs.IndexSet.{contains}
use Rattle.rev_named.specs.Words.{path_in, with_word}
use Rattle.rev_named.proofs.words.add_piece.Goals as goal

pub returns-in_default : goal.returns-in_default
returns-in_default c = λ other. ap (λ o. with_word o other (contains bytes_eq c.args.words.now other)) (sym c.in_default.is ∙ c.in_ok-word.ensures ∙ ap path_in c.undotted.ensures)

pub returns : goal.returns
returns c = λ other.
    c.in_ok-add_word.ensures other ∙ ap (λ o. with_word o other (contains bytes_eq c.args.words.now other)) (sym c.in-Some.is ∙ c.in_ok-word.ensures ∙ ap path_in c.undotted.ensures)

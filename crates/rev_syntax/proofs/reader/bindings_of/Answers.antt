use Rattle.std.proofs.Common.{◌≡◌, ◌∷◌, [], ◌++◌, ◌+◌, List, Ok, map, drop, refl, sym, ap, ◌∙◌}
use Rattle.std.proofs.lemmas.List.{at_drop_more}
use Rattle.rev_syntax.specs.declared.statement.Binding.{Binding}
use Rattle.rev_syntax.specs.Lines.{LineValue}
use Rattle.rev_syntax.specs.Faults.{and_then}
use Rattle.rev_syntax.specs.Statements.{bindings_of}
use Rattle.rev_syntax.specs.Seen.{seen_binding}
use Rattle.rev_syntax.proofs.AnswerLemmas.{onto_list, onto_list-push}
use Rattle.rev_syntax.proofs.reader.bindings_of.Goals as goal

seen-push : (bindings : List Binding) (binding : Binding) → map seen_binding (bindings ++ binding ∷ []) ≡ map seen_binding bindings ++ seen_binding binding ∷ []
seen-push [] binding = refl
seen-push (b ∷ bs) binding = ap (λ seen. seen_binding b ∷ seen) (seen-push bs binding)

pub loop-line-preserved : goal.loop-line-preserved
loop-line-preserved c =
    let block = c.args.block.now in
    let i = c.loop-line.line-index in
    let first = map seen_binding c.loop-line.bindings.items in
    let more = drop (i + 1) block in
    ap (λ bindings. onto_list (map seen_binding bindings) (bindings_of more)) c.in_ok-push.ensures.items
    ∙ ap (λ seen. onto_list seen (bindings_of more)) (seen-push c.loop-line.bindings.items c.in_ok-binding.binding)
    ∙ onto_list-push first (seen_binding c.in_ok-binding.binding) (bindings_of more)
    ∙ ap (λ answer. onto_list first (and_then answer (λ binding. and_then (bindings_of more) (λ bindings. Ok (binding ∷ bindings))))) (sym c.in_ok-binding.ensures)
    ∙ ap (λ line. onto_list first (bindings_of (line ∷ more))) c.line-item.is
    ∙ sym (at_drop_more (λ (lines : List LineValue). onto_list first (bindings_of lines)) block i c.line-item.result c.loop-line-test.true)
    ∙ c.loop-line.invariant

use Rattle.std.proofs.Common.{◌<◌, length, get_or, Some, ap, sym, ◌∙◌, subst}
use Rattle.std.specs.List.{position_or_len}
use Rattle.rev_scopes.specs.Bindings.{value_of}
use Rattle.rev_scopes.specs.Seen.{seen_texts}
use Rattle.rev_scopes.proofs.RuleLemmas.{is_named, first_place, no_place, text_at, no_text}
use Rattle.rev_scopes.proofs.rule.Rule.text.Goals as goal

pub returns-in-Some : goal.returns-in-Some
returns-in-Some c =
    let name = c.args.name.now in
    let texts = c.as_slice-texts.result.now in
    let first = first_place (is_named name) texts c.in-Some.place (sym c.in-Some.ensures) in
    let within : position_or_len (is_named name) texts < length texts = subst (λ n. n < length texts) (sym first.0) first.1 in
    ap Some c.text.ensures ∙ ap (λ k. Some (get_or texts k c.index-texts-place.result).text) (sym first.0)
    ∙ sym (text_at name texts c.index-texts-place.result within) ∙ ap (λ xs. value_of name (seen_texts xs)) c.as_slice-texts.ensures.value ∙ ap (value_of name) c.self.view_is

pub returns-in-None : goal.returns-in-None
returns-in-None c =
    let name = c.args.name.now in
    let texts = c.as_slice-texts.result.now in
    sym (no_text name texts (no_place (is_named name) texts (sym c.in-None.ensures)))
    ∙ ap (λ xs. value_of name (seen_texts xs)) c.as_slice-texts.ensures.value ∙ ap (value_of name) c.self.view_is

use Rattle.std.proofs.Common.{◌≡◌, ◌<◌, length, position, Some, None, ap, sym, ◌∙◌, subst}
use Rattle.std.proofs.Math.ListN.{set}
use Rattle.std.specs.List.{position_or_len}
use Rattle.rev_scopes.specs.declared.rule.RuleText.{RuleText}
use Rattle.rev_scopes.specs.RuleNames.{name_of}
use Rattle.rev_scopes.specs.Bindings.{bound}
use Rattle.rev_scopes.specs.Seen.{seen_texts}
use Rattle.rev_scopes.proofs.RuleLemmas.{is_named, first_place, no_place, bound_at, bound_new}
use Rattle.rev_scopes.proofs.rule.RuleTexts.bind.Goals as goal

pub returns-in-Some-clause-bound : goal.returns-in-Some-clause-bound
returns-in-Some-clause-bound c =
    let texts = c.self.inside.texts.items in
    let text : RuleText = record { variable = c.args.variable; text = c.args.text } in
    let at : position (is_named (name_of c.args.variable)) texts ≡ Some c.in-Some.place =
    (λ i. position (is_named (sym c.name.ensures i)) (sym c.deref.ensures.value i)) ∙ sym c.in-Some.ensures in
    let first = first_place (is_named (name_of c.args.variable)) texts c.in-Some.place at in
    let within : position_or_len (is_named (name_of c.args.variable)) texts < length texts = subst (λ n. n < length texts) (sym first.0) first.1 in
    ap (λ k. seen_texts (set texts k text)) (sym first.0) ∙ bound_at text texts within ∙ ap (bound (name_of c.args.variable) c.args.text) c.self.view_is

pub returns-in_ok-push-in-None-clause-bound : goal.returns-in_ok-push-in-None-clause-bound
returns-in_ok-push-in-None-clause-bound c =
    let texts = c.self.inside.texts.items in
    let text : RuleText = record { variable = c.args.variable; text = c.args.text } in
    let at : position (is_named (name_of c.args.variable)) texts ≡ None =
    (λ i. position (is_named (sym c.name.ensures i)) (sym c.deref.ensures.value i)) ∙ sym c.in-None.ensures in
    ap seen_texts c.in_ok-push-in-None.ensures.items ∙ bound_new text texts (no_place (is_named (name_of c.args.variable)) texts at)
    ∙ ap (bound (name_of c.args.variable) c.args.text) c.self.view_is

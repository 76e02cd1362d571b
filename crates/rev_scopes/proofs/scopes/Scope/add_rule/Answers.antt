use Rattle.std.proofs.Common.{ap, ◌∙◌}
use Rattle.rev_scopes.specs.Bindings.{bound, seen_entries}
use Rattle.rev_scopes.specs.Scopes.{with_rule}
use Rattle.rev_scopes.proofs.BindingLemmas.{bound-seen_entries}
use Rattle.rev_scopes.proofs.scopes.Scope.add_rule.Goals as goal

pub returns-clause-added : goal.returns-clause-added
returns-clause-added c =
    let inside = c.self.inside in
    let rules =
    ap seen_entries c.in_ok-insert.ensures.entries ∙ bound-seen_entries c.in_ok-key.key c.args.rule inside.rules.entries
    ∙ ap (λ name. bound name c.args.rule (seen_entries inside.rules.entries)) c.in_ok-key.ensures.items in
    (λ i. record { parent = inside.parent; variables = inside.variables; rules = rules i }) ∙ ap (with_rule c.args.name.now c.args.rule) c.self.view_is

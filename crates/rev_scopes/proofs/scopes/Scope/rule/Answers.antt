use Rattle.std.proofs.Common.{ap, ◌∙◌}
use Rattle.rev_scopes.specs.Bindings.{value_of}
use Rattle.rev_scopes.proofs.BindingLemmas.{value_of-seen_entries}
use Rattle.rev_scopes.proofs.scopes.Scope.rule.Goals as goal

pub returns : goal.returns
returns c =
    c.get.ensures.value ∙ value_of-seen_entries c.args.name.now c.self.inside.rules.entries ∙ ap (λ scope. value_of c.args.name.now scope.rules) c.self.view_is

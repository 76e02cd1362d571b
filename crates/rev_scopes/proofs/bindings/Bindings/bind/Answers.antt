use Rattle.std.proofs.Common.{ap, ◌∙◌}
use Rattle.rev_scopes.specs.Bindings.{bound, seen_entries}
use Rattle.rev_scopes.proofs.BindingLemmas.{bound-seen_entries}
use Rattle.rev_scopes.proofs.bindings.Bindings.bind.Goals as goal

pub returns-clause-bound : goal.returns-clause-bound
returns-clause-bound c =
    ap seen_entries c.in_ok-insert.ensures.entries ∙ bound-seen_entries c.in_ok-key.key c.args.value c.self.inside.entries.entries
    ∙ (λ i. bound (c.in_ok-key.ensures.items i) c.args.value (c.self.view_is i))

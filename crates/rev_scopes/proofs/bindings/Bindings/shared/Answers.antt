use Rattle.std.proofs.Common.{ap, ◌∙◌}
use Rattle.rev_scopes.specs.Bindings.{value_of}
use Rattle.rev_scopes.proofs.BindingLemmas.{value_of-seen_entries}
use Rattle.rev_scopes.proofs.bindings.Bindings.shared.Goals as goal

pub returns : goal.returns
returns c =
    c.get.ensures.value ∙ value_of-seen_entries c.args.name.now c.self.inside.entries.entries ∙ ap (value_of c.args.name.now) c.self.view_is

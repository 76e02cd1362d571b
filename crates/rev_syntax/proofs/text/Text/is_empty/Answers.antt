use Rattle.std.proofs.Common.{ap, ◌∙◌}
use Rattle.rev_syntax.specs.Bytes.{is_empty}
use Rattle.rev_syntax.proofs.PieceLemmas.{is_empty-pieces}
use Rattle.rev_syntax.proofs.text.Text.is_empty.Goals as goal

pub returns : goal.returns
returns c = c.is_empty.ensures ∙ is_empty-pieces c.self.inside.raw.now c.self.invariant ∙ ap is_empty c.self.view_is

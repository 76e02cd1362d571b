use Rattle.std.proofs.Common.{◌∙◌}
use Rattle.rev_hints.specs.Changes.{change_in}
use Rattle.rev_hints.proofs.ChangeLemmas.{change-more}
use Rattle.rev_hints.proofs.changes.note_event.Goals as goal

pub returns : goal.returns
returns c = λ events noted. record {
  running_are = c.in_ok-note_run.ensures events c.args.number noted.running_are;
  changes_are = λ path.
      c.in_ok-note_change.ensures path
      ∙ change-more c.args.graph.now.manifest.builds c.args.names.now.entries events (c.args.number, c.args.event.now) path c.deref.result.now (change_in c.args.changes.now.entries path)
      (c.deref.ensures.value ∙ noted.running_are) (noted.changes_are path);
}

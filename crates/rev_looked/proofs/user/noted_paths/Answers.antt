use Rattle.std.proofs.Common.{◌++◌, ◌∷◌, [], None, get_or, sym, ◌∙◌}
use Rattle.std.specs.Prelude.{is_some, if◌then◌else◌}
use Rattle.rev_looked.proofs.NeedLemmas.{filtered-next}
use Rattle.rev_looked.proofs.user.noted_paths.Goals as goal

pub loop-path-preserved : goal.loop-path-preserved
loop-path-preserved c =
    c.in_ok-add_where.ensures
    ∙ (λ j. c.loop-path.invariant j ++ (if c.is_some.ensures j then c.loop-path.path ∷ [] else []))
    ∙ sym (filtered-next (λ path. is_some (get_or c.args.notes.now path None)) c.loop-path.path)

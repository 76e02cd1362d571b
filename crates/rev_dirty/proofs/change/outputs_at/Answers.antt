use Rattle.std.proofs.Common.{◌++◌, ap, sym, ◌∙◌, Some}
use Rattle.std.specs.Prelude.{slice_get}
use Rattle.std.specs.Option.{option_copied}
use Rattle.rev_graph.specs.Graph.{has_path}
use Rattle.rev_dirty.proofs.ChangeLemmas.{found-more, none-more}
use Rattle.rev_dirty.proofs.change.outputs_at.Goals as goal
use Rattle.rev_dirty.proofs.change.outputs_at.Goals.{in-Some+in_ok-copy+in_ok-insert, in_default}

pub loop-position-preserved : goal.loop-position-preserved
loop-position-preserved c = λ path.
    let h = slice_get (c.args.explicit.now ++ c.args.implicit.now) in
    elim c.match-output_at.branch [
      | in-Some+in_ok-copy+in_ok-insert w ↦
          found-more h c.args.positions.now c.loop-position.position-index 0 c.loop-position.outputs.keys c.match-output_at.outputs.keys w.in_ok-copy.field-0 path c.loop-position-test.true
          (sym c.output_at.ensures ∙ ap option_copied w.in-Some.is ∙ ap Some (sym w.in_ok-copy.ensures.equal)) ((λ i. (w.outputs-is i).keys) ∙ w.in_ok-insert.ensures.keys)
          (c.loop-position.invariant path)
      | in_default w ↦
          (λ i. has_path (w.outputs-is i).keys path)
          ∙ none-more h c.args.positions.now c.loop-position.position-index 0 c.loop-position.outputs.keys path c.loop-position-test.true
          (sym c.output_at.ensures ∙ ap option_copied w.in_default.is) (c.loop-position.invariant path)
    ]

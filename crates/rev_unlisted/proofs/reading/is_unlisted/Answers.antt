use Rattle.std.proofs.Common.{◌≡◌, [], Bool, true, sym, ap, ◌∙◌, true≢false}
use Rattle.std.specs.Prelude.{◌↔◌}
use Rattle.std.proofs.lemmas.Option.{get_or_from_slice_get}
use Rattle.rev_graph.specs.Graph.{producer_of}
use Rattle.rev_undeclared.specs.Undeclared.{IsOpen, path_at}
use Rattle.rev_undeclared.proofs.AnswerLemmas.{ok-more}
use Rattle.rev_unlisted.specs.Found.{IsReadAt}
use Rattle.rev_unlisted.proofs.reading.is_unlisted.Goals as goal

pub returns : goal.returns
returns c =
    let builds = c.args.graph.now.manifest.builds in
    let at : path_at c.args.paths.now c.args.path ≡ c.path.result.now = get_or_from_slice_get c.args.paths.now c.args.path c.path.result.now [] c.path.ensures.name in
    ok-more (λ (b : Bool). (b ≡ true) ↔ IsOpen c.args.paths.now c.args.hidden.now c.args.builds.now c.args.user c.args.path)
    (λ (b : Bool). (b ≡ true) ↔ IsReadAt c.args.graph.now.manifest.builds c.args.paths.now c.args.hidden.now c.args.builds.now c.args.stronger.now c.args.marks.now c.args.user c.args.used.now c.args.path)
    (λ b shown_file. (
      λ t. record {
        finds = sym c.does.ensures ∙ c.if-does.false;
        is_open = shown_file.0 t;
        foreign = λ h. true≢false (sym (c.is_output_of.ensures.1 (ap (producer_of c.args.graph.now.manifest.builds) (sym at) ∙ h)) ∙ c.if-is_output_of.false);
        uncounted = λ h. true≢false (sym (c.is_marked.ensures.1 h) ∙ c.if-is_marked.false);
        alone = λ h. true≢false (sym (c.has.ensures.1 h) ∙ c.if-has.false);
      },
      λ r. shown_file.1 r.is_open,
    ))
    c.is_open.result c.is_open.ensures

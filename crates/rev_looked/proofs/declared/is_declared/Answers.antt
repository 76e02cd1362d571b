use Rattle.std.proofs.Common.{◌≡◌, Bool, ◌||◌, List, ℕ, sym, ap, ◌∙◌}
use Rattle.std.specs.List.{list_any}
use Rattle.rev_paths.specs.Paths.{place_of}
use Rattle.rev_graph.specs.Graph.{build_at}
use Rattle.rev_looked.specs.Needs.{is_number}
use Rattle.rev_looked.proofs.NoteLemmas.{any-of-three}
use Rattle.rev_looked.proofs.declared.is_declared.Goals as goal

pub returns : goal.returns
returns c =
    let q = λ (name : List ℕ). is_number c.args.path (place_of name c.args.paths.now) in
    let build = build_at c.args.graph.now.manifest.builds c.args.edge in
    let explicit : c.is_one-explicit.result ≡ list_any q build.explicit =
    c.is_one-explicit.ensures ∙ ap (list_any q) c.inputs-inputs.ensures.explicit in
    let implicit : c.is_one-implicit.result ≡ list_any q build.implicit =
    c.is_one-implicit.ensures ∙ ap (list_any q) c.inputs-inputs.ensures.implicit in
    let order_only : c.is_one-order_only.result ≡ list_any q build.order_only =
    c.is_one-order_only.ensures ∙ ap (list_any q) c.inputs-inputs.ensures.order_only in
    c.any_of.ensures ∙ (λ j. (explicit j || implicit j) || order_only j)
    ∙ sym (any-of-three q build.explicit build.implicit build.order_only)

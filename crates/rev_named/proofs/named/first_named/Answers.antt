use Rattle.std.proofs.Common.{Contains, bytes_eq, sym, ap, subst, ◌∙◌}
use Rattle.std.specs.Prelude.{find, is_some}
use Rattle.std.proofs.lemmas.List.Elements.{Contains-append_left, Contains-append_right}
use Rattle.indexmap.specs.IndexSet.{contains}
use Rattle.rev_graph.specs.Graph.{build_at}
use Rattle.rev_named.specs.Named.{is_named_by}
use Rattle.rev_named.proofs.NamedLemmas.{find-append, find-first, some-copied}
use Rattle.rev_named.proofs.named.first_named.Goals as goal

pub first_among-requires-clause-outputs : goal.first_among-requires-clause-outputs
first_among-requires-clause-outputs c = λ out h.
    let b = build_at c.args.graph.now.manifest.builds c.args.edge in
    Contains-append_left b.explicit_outs b.implicit_outs out (subst (λ ps. Contains ps out) c.outputs-outputs.ensures.explicit h)

pub first_among-requires-2-clause-outputs : goal.first_among-requires-2-clause-outputs
first_among-requires-2-clause-outputs c = λ out h.
    let b = build_at c.args.graph.now.manifest.builds c.args.edge in
    Contains-append_right b.explicit_outs b.implicit_outs out (subst (λ ps. Contains ps out) c.outputs-outputs.ensures.implicit h)

pub returns-then-is_some : goal.returns-then-is_some
returns-then-is_some c =
    let b = build_at c.args.graph.now.manifest.builds c.args.edge in
    let p = is_named_by c.args.graph.now.manifest.builds (contains bytes_eq c.args.words.now) c.args.edge in
    let found = c.in_ok-explicit.ensures ∙ ap (find p) c.outputs-outputs.ensures.explicit in
    found ∙ find-first p b.explicit_outs b.implicit_outs (sym (ap is_some found) ∙ some-copied c.in_ok-explicit.explicit ∙ sym c.is_some.ensures ∙ c.if-is_some.true)

pub returns : goal.returns
returns c =
    let b = build_at c.args.graph.now.manifest.builds c.args.edge in
    let p = is_named_by c.args.graph.now.manifest.builds (contains bytes_eq c.args.words.now) c.args.edge in
    let found = c.in_ok-explicit.ensures ∙ ap (find p) c.outputs-outputs.ensures.explicit in
    c.in_ok-implicit.ensures ∙ ap (find p) c.outputs-outputs.ensures.implicit
    ∙ find-append p b.explicit_outs b.implicit_outs (sym (ap is_some found) ∙ some-copied c.in_ok-explicit.explicit ∙ sym c.is_some.ensures ∙ c.if-is_some.false)

use Rattle.std.proofs.Common.{bytes_eq, sym, ap, ◌∙◌}
use Rattle.indexmap.specs.IndexSet.{contains}
use Rattle.std.specs.List.{list_any}
use Rattle.rev_named.specs.Named.{ends_of, is_known, known_in}
use Rattle.rev_named.proofs.NamedLemmas.{alone-is, end-test, named-end, named-not, named-word}
use Rattle.rev_named.proofs.named.is_named.Goals as goal

pub returns-then-contains : goal.returns-then-contains
returns-then-contains c =
    named-word c.args.graph.now.manifest.builds (contains bytes_eq c.args.words.now) c.args.edge c.args.out.now (sym c.contains.ensures ∙ c.if-contains.true)

pub returns-then-not-branch : goal.returns-then-not-branch
returns-then-not-branch c =
    named-not c.args.graph.now.manifest.builds (contains bytes_eq c.args.words.now) c.args.edge c.args.out.now (sym c.contains.ensures ∙ c.if-contains.false) (ap (λ p. list_any (end-test (contains bytes_eq c.args.words.now)) (ends_of p)) (sym c.as_bytes.ensures.bytes) ∙ sym c.in_ok-has_end.ensures ∙ c.if-not-branch.true)

pub returns : goal.returns
returns c =
    named-end c.args.graph.now.manifest.builds (contains bytes_eq c.args.words.now) c.args.edge c.args.out.now c.is_alone.result (sym c.contains.ensures ∙ c.if-contains.false)
    (ap (λ p. list_any (end-test (contains bytes_eq c.args.words.now)) (ends_of p)) (sym c.as_bytes.ensures.bytes) ∙ sym c.in_ok-has_end.ensures ∙ c.if-not-branch.false)
    (c.is_alone.ensures ∙ ap (λ l. is_known c.args.edge (known_in c.args.components.now l)) c.in_ok-last.ensures
    ∙ alone-is c.args.graph.now.manifest.builds c.args.components.now c.args.edge c.args.out.now c.requires.components c.requires.out)

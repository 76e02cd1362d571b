use Rattle.std.proofs.Common.{◌≡◌, ◌<◌, ◌^◌, ◌==◌, true, List, ℕ, length, vec_len, map, sym, ap, subst, ◌∙◌, arith}
use Rattle.std.specs.Prelude.{All}
use Rattle.std.specs.Global.{Vec}
use Rattle.std.specs.List.{list_all}
use Rattle.std.specs.List.Sorted.{IsStrictlySortedBy}
use Rattle.std.specs.Ordering.{nat_cmp}
use Rattle.std.specs.Cmp.Lexicographic.{slice_cmp}
use Rattle.std.proofs.lemmas.List.{length-map}
use Rattle.rev_ranks.specs.Graph.{graph_of}
use Rattle.rev_conflicts.specs.Tables.{scene}
use Rattle.rev_undeclared.proofs.AnswerLemmas.{ok-both}
use Rattle.rev_unlisted.specs.declared.input.Unlisted.{Unlisted}
use Rattle.rev_unlisted.specs.Answer.{unlisted_key}
use Rattle.rev_unlisted.specs.Found.{AreFound, AreKeys, names_of}
use Rattle.rev_unlisted.proofs.AnswerLemmas.{all-empty, are-found, keys-fit, none-found, reads-inside}
use Rattle.rev_unlisted.proofs.answer.found_in.Goals as goal

pub returns-then-are_empty : goal.returns-then-are_empty
returns-then-are_empty c =
    let all : list_all (λ (v : Vec ℕ). vec_len v == 0) c.in_ok-reads.reads.items ≡ true =
    subst (λ (l : List (Vec ℕ)). list_all (λ (v : Vec ℕ). vec_len v == 0) l ≡ true) c.deref.ensures.value (sym c.are_empty.ensures ∙ c.if-are_empty.true) in
    none-found (scene c.args.graph.now.manifest.builds c.args.files.now c.args.paths.now c.args.commands.now c.args.edges.now c.args.hidden.now) c.args.builds.now (names_of c.args.lists.now) c.args.stronger.now (graph_of c.in_ok-reads.reads.items) c.in_ok-reads.ensures (all-empty c.in_ok-reads.reads.items all)
    c.new.result.items c.new.ensures.items

pub found_by_ways-requires-clause-reads : goal.found_by_ways-requires-clause-reads
found_by_ways-requires-clause-reads c = c.requires.each ∙ sym c.in_ok-reads.ensures.each ∙ length-map c.in_ok-reads.reads.items (λ (v : Vec ℕ). v.items) ∙ ap (λ (l : List (Vec ℕ)). length l) (sym c.deref-2.ensures.value)

pub found_by_ways-requires-clause-files : goal.found_by_ways-requires-clause-files
found_by_ways-requires-clause-files c =
    subst (λ (ls : List (Vec ℕ)). All (λ (v : Vec ℕ). All (λ p. p < length c.args.paths.now) v.items) ls) (sym c.deref-2.ensures.value)
    (reads-inside c.args.graph.now.manifest.builds c.args.paths.now c.args.hidden.now c.args.builds.now c.args.stronger.now (names_of c.args.lists.now) c.args.commands.now c.args.edges.now c.in_ok-reads.reads.items c.in_ok-reads.ensures)

pub into_told-requires : goal.into_told-requires
into_told-requires c =
    let small : length c.args.graph.now.manifest.builds < 2 ^ 32 = omega (arith, c.requires.few) in
    let are : AreKeys c.args.graph.now.manifest.builds (names_of c.args.lists.now) c.args.paths.now c.args.commands.now c.args.edges.now (graph_of c.in_ok-reads.reads.items) c.in_ok-found.found =
    subst (λ (ls : List (Vec ℕ)). AreKeys c.args.graph.now.manifest.builds (names_of c.args.lists.now) c.args.paths.now c.args.commands.now c.args.edges.now (graph_of ls) c.in_ok-found.found) c.deref-2.ensures.value c.in_ok-found.ensures in
    keys-fit (scene c.args.graph.now.manifest.builds c.args.files.now c.args.paths.now c.args.commands.now c.args.edges.now c.args.hidden.now) c.args.builds.now (names_of c.args.lists.now) c.args.stronger.now are.makers (graph_of c.in_ok-reads.reads.items) c.requires.edges c.requires.each are.makers_are c.in_ok-reads.ensures c.in_ok-found.found small are.exact

pub returns : goal.returns
returns c =
    let are : AreKeys c.args.graph.now.manifest.builds (names_of c.args.lists.now) c.args.paths.now c.args.commands.now c.args.edges.now (graph_of c.in_ok-reads.reads.items) c.in_ok-found.found =
    subst (λ (ls : List (Vec ℕ)). AreKeys c.args.graph.now.manifest.builds (names_of c.args.lists.now) c.args.paths.now c.args.commands.now c.args.edges.now (graph_of ls) c.in_ok-found.found) c.deref-2.ensures.value c.in_ok-found.ensures in
    ok-both (λ (us : Vec Unlisted). map unlisted_key us.items ≡ c.in_ok-found.found) (λ (us : Vec Unlisted). IsStrictlySortedBy (slice_cmp nat_cmp) (map unlisted_key us.items))
    (λ (us : Vec Unlisted). AreFound (scene c.args.graph.now.manifest.builds c.args.files.now c.args.paths.now c.args.commands.now c.args.edges.now c.args.hidden.now) c.args.builds.now (names_of c.args.lists.now) c.args.stronger.now us.items)
    (λ us keys rising. are-found (scene c.args.graph.now.manifest.builds c.args.files.now c.args.paths.now c.args.commands.now c.args.edges.now c.args.hidden.now) c.args.builds.now (names_of c.args.lists.now) c.args.stronger.now are.makers (graph_of c.in_ok-reads.reads.items) c.requires.edges c.requires.each are.makers_are c.in_ok-reads.ensures c.in_ok-found.found us.items are.exact keys rising)
    c.into_told.result c.into_told.ensures.keys c.into_told.ensures.rising

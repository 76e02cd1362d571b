use Rattle.std.proofs.Common.{◌≡◌, length, subst, arith}
use Rattle.rev_ranks.specs.Graph.{graph_of}
use Rattle.rev_conflicts.proofs.TableLemmas.{same-length}
use Rattle.rev_undeclared.specs.Tables.{IsOpenAmong, PutsIf}
use Rattle.rev_undeclared.proofs.LeftLemmas.{FirstOpen, first-all, first-more, first-none, puts-by}
use Rattle.rev_undeclared.proofs.left.put_each.Goals as goal

pub loop-path-init : goal.loop-path-init
loop-path-init c = record {
  puts = first-none c.args.paths.now c.args.hidden.now c.args.builds.now c.args.edge c.args.command c.args.written.now (graph_of c.args.lists.now.items);
  each = c.requires.lists;
}

pub loop-path-preserved : goal.loop-path-preserved
loop-path-preserved c = record {
  puts =
      first-more c.args.paths.now c.args.hidden.now c.args.builds.now c.args.edge c.args.command c.loop-path.path-index c.args.written.now (graph_of c.args.lists.now.items) (graph_of c.loop-path.lists.items)
      (graph_of c.put_open.new.lists.items) c.loop-path.invariant.puts c.in_ok-put_open.ensures;
  each = same-length c.loop-path.lists.items c.put_open.new.lists.items (length c.args.paths.now) c.in_ok-put_open.ensures.each c.loop-path.invariant.each;
}

pub returns : goal.returns
returns c =
    let all : c.loop-path.path-index ≡ length c.args.written.now = omega (arith, c.loop-path-test.false, c.loop-path.auto.path-index-end) in
    puts-by (graph_of c.args.lists.now.items) (graph_of c.loop-path.lists.items) c.args.command (FirstOpen c.args.paths.now c.args.hidden.now c.args.builds.now c.args.edge c.args.written.now (length c.args.written.now))
    (IsOpenAmong c.args.paths.now c.args.hidden.now c.args.builds.now c.args.edge c.args.written.now) (first-all c.args.paths.now c.args.hidden.now c.args.builds.now c.args.edge c.args.written.now)
    (subst (λ n. PutsIf (graph_of c.args.lists.now.items) (graph_of c.loop-path.lists.items) c.args.command (FirstOpen c.args.paths.now c.args.hidden.now c.args.builds.now c.args.edge c.args.written.now n)) all c.loop-path.invariant.puts)

use Rattle.std.proofs.Common.{◌+◌, ℕ, sym, subst, arith}
use Rattle.std.specs.Global.{Vec}
use Rattle.std.proofs.lemmas.List.{length-map}
use Rattle.rev_ranks.specs.Graph.{graph_of}
use Rattle.rev_unlisted.proofs.MakerLemmas.{PutsFirst, puts-all, puts-more, puts-past, puts-start}
use Rattle.rev_unlisted.proofs.making.put_each.Goals.{then-path-len+in_ok-put_maker, else-path-len}
use Rattle.rev_unlisted.proofs.making.put_each.Goals as goal

pub loop-path-init : goal.loop-path-init
loop-path-init c = puts-start (graph_of c.args.lists.now.items) c.args.edge c.args.written.now

pub loop-path-preserved : goal.loop-path-preserved
loop-path-preserved c = elim c.if-path-len.branch [
  | then-path-len+in_ok-put_maker w ↦
      subst (λ (v : Vec (Vec ℕ)). PutsFirst (graph_of c.args.lists.now.items) (graph_of v.items) c.args.edge c.args.written.now (c.loop-path.path-index + 1)) (sym w.lists-is)
      (puts-more (graph_of c.args.lists.now.items) (graph_of c.loop-path.lists.items) (graph_of w.put_maker.new.lists.items) c.args.edge c.args.written.now c.loop-path.path-index c.loop-path.invariant w.in_ok-put_maker.ensures)
  | else-path-len w ↦
      subst (λ (v : Vec (Vec ℕ)). PutsFirst (graph_of c.args.lists.now.items) (graph_of v.items) c.args.edge c.args.written.now (c.loop-path.path-index + 1)) (sym w.lists-is)
      (puts-past (graph_of c.args.lists.now.items) (graph_of c.loop-path.lists.items) c.args.edge c.args.written.now c.loop-path.path-index
      (λ h. omega (arith, h, w.if-path-len.false, c.len.ensures, c.loop-path.lists.ok.0, length-map c.loop-path.lists.items (λ (v : Vec ℕ). v.items))) c.loop-path.invariant)
]

pub returns : goal.returns
returns c =
    puts-all (graph_of c.args.lists.now.items) (graph_of c.loop-path.lists.items) c.args.edge c.args.written.now c.loop-path.path-index (omega (arith, c.loop-path-test.false, c.loop-path.auto.path-index-end)) c.loop-path.invariant

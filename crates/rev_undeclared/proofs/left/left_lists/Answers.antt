use Rattle.std.proofs.Common.{◌≡◌, ℕ, List, true, false, length, get_or, Contains, refl, sym, subst, ◌∙◌, arith}
use Rattle.std.specs.Prelude.{◌↔◌}
use Rattle.rev_ranks.specs.Graph.{graph_of}
use Rattle.rev_observed.specs.declared.kind.Kind.TheVariants.{Writes}
use Rattle.rev_conflicts.specs.Places.{does}
use Rattle.rev_conflicts.proofs.TableLemmas.{lists-length, same-length}
use Rattle.rev_undeclared.specs.Tables.{IsOpenAmong, PutsIf}
use Rattle.rev_undeclared.proofs.LeftLemmas.{left-all, left-more, left-none}
use Rattle.rev_undeclared.proofs.left.left_lists.Goals as goal

pub loop-number-init : goal.loop-number-init
loop-number-init c =
    let each : length c.in_ok-lists.lists.items ≡ length c.args.paths.now = c.in_ok-lists.ensures.each ∙ c.len.ensures.len in
    record {
      left = left-none c.args.paths.now c.args.hidden.now c.args.builds.now c.args.early.now c.args.commands.now c.args.edges.now (graph_of c.in_ok-lists.lists.items) (lists-length c.in_ok-lists.lists.items (length c.args.paths.now) each) c.in_ok-lists.ensures.none;
      each = each;
    }

pub loop-number-preserved : goal.loop-number-preserved
loop-number-preserved c =
    let command = c.index-commands-number.result in
    let all : (p : ℕ) → Contains c.deref.result.now p ↔ ((get_or c.args.early.now (get_or c.args.edges.now c.loop-number.number 0) false ≡ false) × (does Writes c.index-commands-number.result p ≡ true)) =
    subst (λ (xs : List ℕ). (p : ℕ) → Contains xs p ↔ ((get_or c.args.early.now (get_or c.args.edges.now c.loop-number.number 0) false ≡ false) × (does Writes c.index-commands-number.result p ≡ true))) (sym c.deref.ensures.value) c.in_ok-written.ensures in
    let puts : PutsIf (graph_of c.loop-number.lists.items) (graph_of c.put_each.new.lists.items) c.loop-number.number (IsOpenAmong c.args.paths.now c.args.hidden.now c.args.builds.now (get_or c.args.edges.now c.loop-number.number 0) c.deref.result.now) = c.in_ok-put_each.ensures in
    record {
      left =
          left-more c.args.paths.now c.args.hidden.now c.args.builds.now c.args.early.now c.args.commands.now c.args.edges.now c.loop-number.number (get_or c.args.edges.now c.loop-number.number 0) command c.deref.result.now
          (graph_of c.loop-number.lists.items) (graph_of c.put_each.new.lists.items) c.loop-number-test.true c.index-commands-number.is refl all c.loop-number.invariant.left puts;
      each = same-length c.loop-number.lists.items c.put_each.new.lists.items (length c.args.paths.now) puts.each c.loop-number.invariant.each;
    }

pub returns : goal.returns
returns c =
    left-all c.args.paths.now c.args.hidden.now c.args.builds.now c.args.early.now c.args.commands.now c.args.edges.now c.loop-number.number (graph_of c.loop-number.lists.items)
    (omega (arith, c.loop-number-test.false, c.loop-number.auto.number-end)) c.loop-number.invariant.left

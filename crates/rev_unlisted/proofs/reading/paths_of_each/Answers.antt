use Rattle.std.proofs.Common.{◌≡◌, ◌+◌, ℕ, length, sym, ap, ◌∙◌, arith}
use Rattle.std.specs.Global.{Vec}
use Rattle.std.proofs.lemmas.List.{length-map}
use Rattle.rev_unlisted.specs.Found.{IsReadByNumber, names_of}
use Rattle.rev_unlisted.proofs.MakerLemmas.{declared-each, declared-more}
use Rattle.rev_unlisted.proofs.MarkLemmas.{no-marks}
use Rattle.rev_unlisted.proofs.ReadLemmas.{read-by-number}
use Rattle.rev_unlisted.proofs.reading.paths_of_each.Goals as goal

pub loop-number-init : goal.loop-number-init
loop-number-init c = record {
  nexts = sym c.in_ok-nexts.nexts.ok.0 ∙ c.in_ok-nexts.ensures.len ∙ ap (λ n. n + 1) c.len-count.ensures.len;
  marks = no-marks c.args.graph.now.manifest.builds (names_of c.args.lists.now) c.args.paths.now c.in_ok-marks.marks.items (c.in_ok-marks.ensures.each ∙ c.len-count.ensures.len) c.in_ok-marks.ensures.none;
  each = ap length c.new-found.ensures.items;
  exact = λ number path below. absurd (omega (arith, below));
}

pub loop-number-preserved : goal.loop-number-preserved
loop-number-preserved c = record {
  nexts = c.in_ok-paths_of.ensures.nexts;
  marks = c.in_ok-paths_of.ensures.marks;
  each = declared-each c.loop-number.found.items c.push.new.self.items c.in_ok-paths_of.field-0 c.loop-number.number c.loop-number.invariant.each c.in_ok-push.ensures.items;
  exact =
      declared-more (λ number path. IsReadByNumber c.args.graph.now.manifest.builds c.args.paths.now c.args.hidden.now c.args.builds.now c.args.stronger.now (names_of c.args.lists.now) c.args.commands.now c.args.edges.now number path)
      c.loop-number.found.items c.push.new.self.items c.in_ok-paths_of.field-0 c.loop-number.number c.loop-number.invariant.each c.in_ok-push.ensures.items
      (λ path. read-by-number c.args.graph.now.manifest.builds c.args.paths.now c.args.hidden.now c.args.builds.now c.args.stronger.now (names_of c.args.lists.now) c.args.commands.now c.args.edges.now c.in_ok-paths_of.field-0.items c.loop-number.number
      c.index-commands-number.result path c.loop-number-test.true c.index-commands-number.is (c.in_ok-paths_of.ensures.found path))
      c.loop-number.invariant.exact;
}

pub returns : goal.returns
returns c =
    let all : c.loop-number.number ≡ length c.args.commands.now = omega (arith, c.loop-number-test.false, c.loop-number.auto.number-end) in
    record {
      each = length-map c.loop-number.found.items (λ (v : Vec ℕ). v.items) ∙ c.loop-number.invariant.each ∙ all;
      exact = λ number path within. c.loop-number.invariant.exact number path (omega (arith, within, all));
    }

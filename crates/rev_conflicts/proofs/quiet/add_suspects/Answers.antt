use Rattle.std.proofs.Common.{◌≡◌, ℕ, ◌+◌, ◌-◌, ◌<◌, ◌≤◌, List, [], length, Contains, ◌⊎◌, inl, inr, sym, ap, subst, ◌∙◌, arith}
use Rattle.std.specs.Global.{Vec}
use Rattle.std.proofs.lemmas.Bool.{cases_lt}
use Rattle.std.proofs.lemmas.List.{length-map}
use Rattle.rev_ranks.specs.Graph.{graph_of, successors_of}
use Rattle.rev_conflicts.specs.Tables.{AreQuiet}
use Rattle.rev_conflicts.proofs.MeetLemmas.{at-number, past-end}
use Rattle.rev_conflicts.proofs.QuietLemmas.{between-quiet, grown-by, grown-here, next-within, suspects-more}
use Rattle.rev_conflicts.proofs.quiet.add_suspects.Goals.{then-not-quiet+in_ok-push, else-not-quiet}
use Rattle.rev_conflicts.proofs.quiet.add_suspects.Goals as goal

pub loop-number-init : goal.loop-number-init
loop-number-init c =
    let lists = c.args.table.now.lists.items in
    let nexts = c.args.table.now.nexts.items in
    let many = length-map c.args.table.now.lists.items (λ (v : Vec ℕ). v.items) in
    let within : c.args.range.now.first ≤ length (graph_of c.args.table.now.lists.items) =
    omega (arith, c.if-from-count.false, c.from.ensures, c.len-count.ensures, c.args.table.now.lists.ok.0, many) in
    let next = next-within (graph_of lists) nexts c.requires.nexts c.args.range.now.first c.index-number.result.now within c.index-number.ensures in
    let top = next.1 in
    record {
      kept = λ n h. h;
      rest = λ n from below to.
          inr (between-quiet c.args.graph.now.manifest.builds c.args.edges.now c.args.user (graph_of lists) nexts c.requires.nexts c.args.range.now.first c.index-number.result.now within c.index-number.ensures n from below);
      within = omega (arith, top, many);
    }

pub loop-number-smaller : goal.loop-number-smaller
loop-number-smaller c =
    let lists = c.args.table.now.lists.items in
    let nexts = c.args.table.now.nexts.items in
    let many = length-map c.args.table.now.lists.items (λ (v : Vec ℕ). v.items) in
    let within : c.loop-number.number + 1 ≤ length (graph_of c.args.table.now.lists.items) =
    omega (arith, c.loop-number-test.true, c.len-count.ensures, c.args.table.now.lists.ok.0, many) in
    let next = next-within (graph_of lists) nexts c.requires.nexts (c.loop-number.number + 1) c.index-number-in-loop-number.result.now within c.index-number-in-loop-number.ensures in
    let up = next.0 in
    let top = next.1 in
    let smaller : length c.args.table.now.lists.items + 1 - c.index-number-in-loop-number.result.now < length c.args.table.now.lists.items + 1 - c.loop-number.number = omega (arith, up, top, many) in
    smaller

pub loop-number-preserved : goal.loop-number-preserved
loop-number-preserved c =
    let builds = c.args.graph.now.manifest.builds in
    let edges = c.args.edges.now in
    let user = c.args.user in
    let lists = c.args.table.now.lists.items in
    let nexts = c.args.table.now.nexts.items in
    let number = c.loop-number.number in
    let old = c.loop-number.suspects.items in
    let new = c.if-not-quiet.suspects.items in
    let many = length-map c.args.table.now.lists.items (λ (v : Vec ℕ). v.items) in
    let inside : c.loop-number.number < length c.args.table.now.lists.items = omega (arith, c.loop-number-test.true, c.len-count.ensures, c.args.table.now.lists.ok.0) in
    let within : c.loop-number.number + 1 ≤ length (graph_of c.args.table.now.lists.items) = omega (arith, inside, many) in
    let next = next-within (graph_of lists) nexts c.requires.nexts (number + 1) c.index-number-in-loop-number.result.now within c.index-number-in-loop-number.ensures in
    let top = next.1 in
    let at : c.as_slice-commands.result.now ≡ successors_of (graph_of c.args.table.now.lists.items) c.loop-number.number =
    c.as_slice-commands.ensures.value ∙ sym (at-number lists number c.index.result.now inside c.index.ensures) in
    let grown : (n : ℕ) → Contains c.loop-number.suspects.items n → Contains c.if-not-quiet.suspects.items n = elim c.if-not-quiet.branch [
      | then-not-quiet+in_ok-push w ↦ grown-by old new number (ap (λ v. v.items) w.suspects-is ∙ w.in_ok-push.ensures.items)
      | else-not-quiet w ↦ λ n h. subst (λ (l : List ℕ). Contains l n) (sym (ap (λ v. v.items) w.suspects-is)) h
    ] in
    let here : Contains c.if-not-quiet.suspects.items c.loop-number.number ⊎ AreQuiet c.args.graph.now.manifest.builds c.args.edges.now c.args.user (successors_of (graph_of c.args.table.now.lists.items) c.loop-number.number) = elim c.if-not-quiet.branch [
      | then-not-quiet+in_ok-push w ↦ inl (grown-here old new number (ap (λ v. v.items) w.suspects-is ∙ w.in_ok-push.ensures.items))
      | else-not-quiet w ↦ inr (subst (λ (l : List ℕ). AreQuiet builds edges user l) at (c.is_quiet-quiet.ensures w.if-not-quiet.false))
    ] in
    record {
      kept = λ n h. grown n (c.loop-number.invariant.kept n h);
      rest =
          suspects-more (λ n. AreQuiet builds edges user (successors_of (graph_of lists) n)) old new c.args.range.now.first c.args.range.now.last number c.index-number-in-loop-number.result.now c.loop-number.invariant.rest grown here
          (between-quiet builds edges user (graph_of lists) nexts c.requires.nexts (number + 1) c.index-number-in-loop-number.result.now within c.index-number-in-loop-number.ensures);
      within = omega (arith, top, many);
    }

pub returns-else-number-from-clause-rest : goal.returns-else-number-from-clause-rest
returns-else-number-from-clause-rest c = λ n from to. c.loop-number.invariant.rest n from (omega (arith, to, c.if-number-from.false, c.from-in-loop-number.ensures)) to

pub returns-after-loop-number-clause-rest : goal.returns-after-loop-number-clause-rest
returns-after-loop-number-clause-rest c = λ n from to. elim (cases_lt n c.loop-number.number) [
  | inl less ↦ c.loop-number.invariant.rest n from less to
  | inr more ↦ inr (λ d h.
      let many = length-map c.args.table.now.lists.items (λ (v : Vec ℕ). v.items) in
      let past : length (graph_of c.args.table.now.lists.items) ≤ n = omega (arith, more, c.loop-number-test.false, c.len-count.ensures, c.args.table.now.lists.ok.0, many) in
      let k = subst (λ (l : List ℕ). Contains l d) (past-end (graph_of c.args.table.now.lists.items) n [] past) h in
      let w = k.1 in
      absurd (omega (arith, w)))
]

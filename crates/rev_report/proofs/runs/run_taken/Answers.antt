use Rattle.std.proofs.Common.{◌≡◌, ◌+◌, ◌-◌, drop, length, take, sym, ap, ◌∙◌, subst}
use Rattle.std.specs.Io.KnownBytes.{Appends}
use Rattle.rev_script.specs.Output.{AppendsFront}
use Rattle.rev_report.specs.Runs.{after_turns, answers_text, offered, until_break}
use Rattle.rev_script.specs.SeenTurns.{seen_turns}
use Rattle.rev_script.specs.Turns.{AreOf}
use Rattle.rev_script.proofs.OutputLemmas.{writes-err}
use Rattle.rev_report.proofs.RunLemmas.{left_len, of_offered, of_rest, part_is}
use Rattle.rev_report.proofs.runs.run_taken.Goals as goal

pub run_turns-requires : goal.run_turns-requires
run_turns-requires g c =
    let all = seen_turns c.args.turns.now in
    let part = part_is c.args.turns.now c.args.before c.most_of.result c.args.most (c.most_of.ensures.front (drop c.args.before all) (left_len c.args.turns.now c.args.before)) in
    subst (AreOf c.args.desk.now.lanes) (sym part) (of_offered c.args.desk.now.lanes c.args.most (drop c.args.before all) (of_rest c.args.desk.now.lanes c.args.before all c.requires.lanes))

pub returns-in_err-count-clause-text : goal.returns-in_err-count-clause-text
returns-in_err-count-clause-text g c =
    let all = seen_turns c.args.turns.now in
    let part = part_is c.args.turns.now c.args.before c.most_of.result c.args.most (c.most_of.ensures.front (drop c.args.before all) (left_len c.args.turns.now c.args.before)) in
    writes-err _ _ _ _ _ c.from_residual.ensures.1
    (subst (λ ts. AppendsFront (g.W.Write.contents c.args.writer.now) (g.W.Write.contents c.run_turns.new.writer) (answers_text c.args.desk.now (until_break c.args.desk.now ts))) part c.in_err-count.ensures.text)

pub returns-clause-text : goal.returns-clause-text
returns-clause-text g c =
    let all = seen_turns c.args.turns.now in
    let part = part_is c.args.turns.now c.args.before c.most_of.result c.args.most (c.most_of.ensures.front (drop c.args.before all) (left_len c.args.turns.now c.args.before)) in
    subst (λ ts. Appends (g.W.Write.contents c.args.writer.now) (g.W.Write.contents c.run_turns.new.writer) (answers_text c.args.desk.now (until_break c.args.desk.now ts))) part c.in_ok-count.ensures.text

pub returns-clause-after : goal.returns-clause-after
returns-clause-after g c =
    let all = seen_turns c.args.turns.now in
    let part = part_is c.args.turns.now c.args.before c.most_of.result c.args.most (c.most_of.ensures.front (drop c.args.before all) (left_len c.args.turns.now c.args.before)) in
    c.in_ok-count.ensures.after ∙ ap (λ ts. after_turns c.args.desk.now (until_break c.args.desk.now ts)) part

pub returns-clause-count : goal.returns-clause-count
returns-clause-count g c =
    let all = seen_turns c.args.turns.now in
    let part = part_is c.args.turns.now c.args.before c.most_of.result c.args.most (c.most_of.ensures.front (drop c.args.before all) (left_len c.args.turns.now c.args.before)) in
    ap (λ n. c.args.before + n) (c.in_ok-count.ensures.count ∙ ap (λ ts. length (until_break c.args.desk.now ts)) part)

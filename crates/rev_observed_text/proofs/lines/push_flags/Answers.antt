use Rattle.std.proofs.Common.{◌++◌}
use Rattle.rev_fields.proofs.AnswerLemmas.{on_ok}
use Rattle.rev_observed.specs.Texts.{flag_text}
use Rattle.std.specs.Prelude.{codes}
use Rattle.rev_observed_text.proofs.TextLemmas.{fields-more}
use Rattle.rev_observed_text.proofs.lines.push_flags.Goals as goal

pub returns : goal.returns
returns c =
    let f = c.args.flags in
    let old = c.args.text.now.items in
    let two = flag_text f.cut (codes "cut") ++ flag_text f.server (codes "server") in
    let three = two ++ flag_text f.namespace (codes "namespace") in
    let four = three ++ flag_text f.uring (codes "uring") in
    let five = four ++ flag_text f.unresolved (codes "unresolved") in
    on_ok c.push_flag-6.result _ _
    (λ e. fields-more old c.push_flag-5.new.text.items c.push_flag-6.new.text.items five (flag_text f.twin (codes "twin"))
    (fields-more old c.push_flag-4.new.text.items c.push_flag-5.new.text.items four (flag_text f.unresolved (codes "unresolved"))
    (fields-more old c.push_flag-3.new.text.items c.push_flag-4.new.text.items three (flag_text f.uring (codes "uring"))
    (fields-more old c.push_flag-2.new.text.items c.push_flag-3.new.text.items two (flag_text f.namespace (codes "namespace"))
    (fields-more old c.push_flag.new.text.items c.push_flag-2.new.text.items (flag_text f.cut (codes "cut")) (flag_text f.server (codes "server")) c.in_ok-push_flag.ensures c.in_ok-push_flag-2.ensures)
    c.in_ok-push_flag-3.ensures) c.in_ok-push_flag-4.ensures) c.in_ok-push_flag-5.ensures) e)
    c.push_flag-6.ensures

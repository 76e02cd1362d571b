use Rattle.std.proofs.Common.{ap, ap₂, ◌≡◌, ◌∙◌, codes, IfOk, refl, slice_index}
use Rattle.std.proofs.lemmas.Result.{IfOk-weaker}
use Rattle.clap.specs.Built.{AddsArg}
use Rattle.clap.specs.Words.{Rule, Text, app_of, with_rule}
use Rattle.clap.specs.declared.builder.command.Command.{Command}
use Rattle.rev_options.specs.CommandLine.{Gives, program}
use Rattle.rev_options.proofs.Given.{IsAt, given}
use Rattle.rev_options.proofs.command.command.Goals as goal

pub returns-clause-program : goal.returns-clause-program
returns-clause-program c =
    let five = c.in_ok-arg-5.ensures.shape c.flag_option-2.ensures.alone
    ∙ ap₂ with_rule (c.in_ok-arg-4.ensures.shape c.flag_option.ensures.alone
    ∙ ap₂ with_rule (c.in_ok-arg-3.ensures.shape c.file_option-3.ensures.alone
    ∙ ap₂ with_rule (c.in_ok-arg-2.ensures.shape c.file_option-2.ensures.alone
    ∙ ap₂ with_rule (c.in_ok-arg.ensures.shape c.file_option.ensures.alone
    ∙ ap₂ with_rule c.bare_command.ensures.app c.file_option.ensures.rule) c.file_option-2.ensures.rule) c.file_option-3.ensures.rule)
    c.flag_option.ensures.rule) c.flag_option-2.ensures.rule in
    IfOk-weaker c.arg-6.result (AddsArg c.in_ok-arg-5.field-0 c.others.result) (λ (k : Command). app_of k ≡ program)
    (λ k added. added.shape c.others.ensures.alone ∙ ap₂ with_rule five c.others.ensures.rule) c.arg-6.ensures

gives : (c : goal.After-arg-6) → IfOk c.arg-6.result (λ k. Gives k (codes "manifest") × Gives k (codes "trace") × Gives k (codes "script"))
gives c =
    let a = c.file_option.result in
    let b = c.file_option-2.result in
    let d = c.file_option-3.result in
    let e = c.flag_option.result in
    let f = c.flag_option-2.result in
    let o = c.others.result in
    let manifest : a.id.now ≡ codes "manifest" = ap (λ (r : Rule). r.id) c.file_option.ensures.rule in
    let trace : b.id.now ≡ codes "trace" = ap (λ (r : Rule). r.id) c.file_option-2.ensures.rule in
    let script : d.id.now ≡ codes "script" = ap (λ (r : Rule). r.id) c.file_option-3.ensures.rule in
    let second = λ (t : Text). slice_index t 1 in
    let at_a : IsAt 97 a = record { plain = c.file_option.ensures.plain; alone = c.file_option.ensures.alone; begins = ap second manifest } in
    let at_b : IsAt 114 b = record { plain = c.file_option-2.ensures.plain; alone = c.file_option-2.ensures.alone; begins = ap second trace } in
    let at_d : IsAt 99 d = record { plain = c.file_option-3.ensures.plain; alone = c.file_option-3.ensures.alone; begins = ap second script } in
    let at_e : IsAt 111 e = record { plain = c.flag_option.ensures.plain; alone = c.flag_option.ensures.alone; begins = ap (λ (r : Rule). slice_index r.id 1) c.flag_option.ensures.rule } in
    let at_f : IsAt 105 f = record { plain = c.flag_option-2.ensures.plain; alone = c.flag_option-2.ensures.alone; begins = ap (λ (r : Rule). slice_index r.id 1) c.flag_option-2.ensures.rule } in
    let at_o : IsAt 73 o = record { plain = c.others.ensures.plain; alone = c.others.ensures.alone; begins = ap (λ (r : Rule). slice_index r.id 1) c.others.ensures.rule } in
    IfOk-weaker c.arg-6.result (AddsArg c.in_ok-arg-5.field-0 o)
    (λ k. Gives k (codes "manifest") × Gives k (codes "trace") × Gives k (codes "script"))
    (λ k added.
    let all = given c.bare_command.result k a b d e f o (
      c.in_ok-arg.field-0,
      c.in_ok-arg.ensures,
      (
        c.in_ok-arg-2.field-0,
        c.in_ok-arg-2.ensures,
        (
          c.in_ok-arg-3.field-0,
          c.in_ok-arg-3.ensures,
          (c.in_ok-arg-4.field-0, c.in_ok-arg-4.ensures, (c.in_ok-arg-5.field-0, c.in_ok-arg-5.ensures, (k, added, refl))),
        ),
      ),
    )
    c.bare_command.ensures.empty.0 c.bare_command.ensures.empty.1 c.bare_command.ensures.local c.bare_command.ensures.negates
    at_a at_b at_d at_e at_f at_o c.file_option.ensures.value c.file_option-2.ensures.value c.file_option-3.ensures.value in
    (rw (← manifest) all.0, rw (← trace) all.1, rw (← script) all.2)) c.arg-6.ensures

pub returns-clause-manifest : goal.returns-clause-manifest
returns-clause-manifest c = IfOk-weaker c.arg-6.result _ (λ k. Gives k (codes "manifest")) (λ k all. all.0) (gives c)

pub returns-clause-trace : goal.returns-clause-trace
returns-clause-trace c = IfOk-weaker c.arg-6.result _ (λ k. Gives k (codes "trace")) (λ k all. all.1) (gives c)

pub returns-clause-script : goal.returns-clause-script
returns-clause-script c = IfOk-weaker c.arg-6.result _ (λ k. Gives k (codes "script")) (λ k all. all.2) (gives c)

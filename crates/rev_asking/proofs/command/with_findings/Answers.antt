use Rattle.std.proofs.Common.{◌≡◌, ◌∙◌, ap₂, false, refl}
use Rattle.std.proofs.lemmas.Result.{IfOk-weaker}
use Rattle.clap.specs.Built.{AddsArg}
use Rattle.clap.specs.Words.{app_of, with_rule}
use Rattle.clap.specs.declared.builder.command.Command.{Command}
use Rattle.clap.specs.declared.builder.command.Command.TheViews.{out-Command}
use Rattle.rev_asking.specs.Asking.{with_findings}
use Rattle.rev_asking.proofs.command.with_findings.Goals as goal

pub returns-clause-shape : goal.returns-clause-shape
returns-clause-shape c =
    let three = c.in_ok-arg-3.ensures.shape c.valued-3.ensures.alone
    ∙ ap₂ with_rule (c.in_ok-arg-2.ensures.shape c.valued-2.ensures.alone
    ∙ ap₂ with_rule (c.in_ok-arg.ensures.shape c.valued.ensures.alone
    ∙ ap₂ with_rule refl c.valued.ensures.rule) c.valued-2.ensures.rule) c.valued-3.ensures.rule in
    IfOk-weaker c.arg-4.result (AddsArg c.in_ok-arg-3.field-0 c.valued-4.result)
    (λ (k : Command). app_of k ≡ with_findings (app_of c.args.command))
    (λ k added. added.shape c.valued-4.ensures.alone ∙ ap₂ with_rule three c.valued-4.ensures.rule) c.arg-4.ensures

pub returns-clause-local : goal.returns-clause-local
returns-clause-local c local =
    IfOk-weaker c.arg-4.result (AddsArg c.in_ok-arg-3.field-0 c.valued-4.result) (λ (k : Command). (out-Command k).has_globals ≡ false)
    (λ k added. rw (
      added.globals,
      c.in_ok-arg-3.ensures.globals,
      c.in_ok-arg-2.ensures.globals,
      c.in_ok-arg.ensures.globals,
      c.valued-4.ensures.alone,
      c.valued-3.ensures.alone,
      c.valued-2.ensures.alone,
      c.valued.ensures.alone,
      local,
    ) refl) c.arg-4.ensures

use Rattle.std.proofs.Common.{◌≡◌, ◌∙◌, ap, ap₂, false, refl}
use Rattle.std.proofs.lemmas.Result.{IfOk-weaker}
use Rattle.clap.specs.Built.{AddsArg}
use Rattle.clap.specs.Simple.{app_of_fields}
use Rattle.clap.specs.Words.{App, shape_of, with_rule}
use Rattle.clap.specs.declared.builder.command.Command.{Command}
use Rattle.clap.specs.declared.builder.command.Command.TheViews.{out-Command}
use Rattle.rev_asking.specs.Asking.{shuffle_shape}
use Rattle.rev_asking.proofs.command.shuffle.Goals as goal

pub returns-clause-shape : goal.returns-clause-shape
returns-clause-shape c =
    let bare = ap app_of_fields c.about.ensures ∙ c.new.ensures.app in
    let three = c.in_ok-arg-3.ensures.shape c.json.ensures.alone
    ∙ ap₂ with_rule (c.in_ok-arg-2.ensures.shape c.valued.ensures.alone
    ∙ ap₂ with_rule (c.in_ok-arg.ensures.shape c.flag.ensures.alone
    ∙ ap₂ with_rule bare c.flag.ensures.rule) c.valued.ensures.rule) c.json.ensures.rule in
    IfOk-weaker c.arg-4.result (AddsArg c.in_ok-arg-3.field-0 c.recording.result) (λ (k : Command). shape_of k ≡ shuffle_shape)
    (λ k added. ap (λ (a : App). a.top) (added.shape c.recording.ensures.alone ∙ ap₂ with_rule three c.recording.ensures.rule)) c.arg-4.ensures

pub returns-clause-local : goal.returns-clause-local
returns-clause-local c =
    IfOk-weaker c.arg-4.result (AddsArg c.in_ok-arg-3.field-0 c.recording.result) (λ (k : Command). (out-Command k).has_globals ≡ false)
    (λ k added. rw (
      added.globals,
      c.in_ok-arg-3.ensures.globals,
      c.in_ok-arg-2.ensures.globals,
      c.in_ok-arg.ensures.globals,
      c.recording.ensures.alone,
      c.json.ensures.alone,
      c.valued.ensures.alone,
      c.flag.ensures.alone,
      c.about.ensures,
      c.new.ensures.local,
    ) refl) c.arg-4.ensures

use Rattle.std.proofs.Common.{◌≡◌, ◌∙◌, ap, Err, IfOk, IsOkAnd, Ok, Result, false}
use Rattle.std.proofs.lemmas.Result.{IfOk-weaker}
use Rattle.clap.specs.Words.{AddsSubcommand, Shape, app_of, shape_of, with_subcommand}
use Rattle.clap.specs.declared.builder.command.Command.{Command}
use Rattle.clap.specs.declared.builder.command.Command.TheViews.{out-Command}
use Rattle.rev_asking.specs.Asking.{ask_shape, certify_shape, compare_shape, picture_shape, program, races_shape, replay_shape, schedule_shape, separate_shape, shuffle_shape, timeline_shape}
use Rattle.rev_asking.proofs.command.command.Goals as goal

-- a program to which the command of this shape was added
added : {E : Type 0} (word : Result Command E) (s : Shape) (old new : Command) → IfOk word (λ w. shape_of w ≡ s)
    → IfOk word (λ w. (out-Command w).has_globals ≡ false) → IsOkAnd word (λ w. AddsSubcommand old w new)
    → app_of new ≡ with_subcommand (app_of old) s
added (Ok w) s old new shape local adds = adds.shape local ∙ ap (with_subcommand (app_of old)) shape
added (Err e) s old new shape local adds = absurd adds

pub returns : goal.returns
returns c =
    let first = c.in_ok-program.program in
    let second = c.in_ok-program-2.program in
    let third = c.in_ok-program-3.program in
    let fourth = c.in_ok-program-4.program in
    let fifth = c.in_ok-program-5.program in
    let sixth = c.in_ok-program-6.program in
    let seventh = c.in_ok-program-7.program in
    let eighth = c.in_ok-program-8.program in
    let ninth = c.in_ok-program-9.program in
    let one = added c.races.result races_shape c.bare_command.result first c.races.ensures.shape c.races.ensures.local c.in_ok-program.ensures
    ∙ ap (λ a. with_subcommand a races_shape) c.bare_command.ensures in
    let two = added c.certify.result certify_shape first second c.certify.ensures.shape c.certify.ensures.local c.in_ok-program-2.ensures
    ∙ ap (λ a. with_subcommand a certify_shape) one in
    let three = added c.replay.result replay_shape second third c.replay.ensures.shape c.replay.ensures.local c.in_ok-program-3.ensures
    ∙ ap (λ a. with_subcommand a replay_shape) two in
    let four = added c.ask.result ask_shape third fourth c.ask.ensures.shape c.ask.ensures.local c.in_ok-program-4.ensures
    ∙ ap (λ a. with_subcommand a ask_shape) three in
    let five = added c.picture.result picture_shape fourth fifth c.picture.ensures.shape c.picture.ensures.local c.in_ok-program-5.ensures
    ∙ ap (λ a. with_subcommand a picture_shape) four in
    let six = added c.timeline.result timeline_shape fifth sixth c.timeline.ensures.shape c.timeline.ensures.local c.in_ok-program-6.ensures
    ∙ ap (λ a. with_subcommand a timeline_shape) five in
    let seven = added c.compare.result compare_shape sixth seventh c.compare.ensures.shape c.compare.ensures.local c.in_ok-program-7.ensures
    ∙ ap (λ a. with_subcommand a compare_shape) six in
    let eight = added c.schedule.result schedule_shape seventh eighth c.schedule.ensures.shape c.schedule.ensures.local c.in_ok-program-8.ensures
    ∙ ap (λ a. with_subcommand a schedule_shape) seven in
    let nine = added c.shuffle.result shuffle_shape eighth ninth c.shuffle.ensures.shape c.shuffle.ensures.local c.in_ok-program-9.ensures
    ∙ ap (λ a. with_subcommand a shuffle_shape) eight in record {
      program = IfOk-weaker c.with_word-10.result (λ k. IsOkAnd c.separate.result (λ w. AddsSubcommand ninth w k)) (λ (k : Command). app_of k ≡ program)
          (λ k adds. added c.separate.result separate_shape ninth k c.separate.ensures.shape c.separate.ensures.local adds ∙ ap (λ a. with_subcommand a separate_shape) nine)
          c.with_word-10.ensures;
    }

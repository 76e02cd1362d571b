use Rattle.std.proofs.Common.{◌≡◌, ◌+◌, length, ℕ, Option, subst, ap, sym, ◌∙◌, IfOk}
use Rattle.rev_desk.specs.declared.reply.Reply.{Reply}
use Rattle.rev_desk.specs.DeskState.{desk_state_value}
use Rattle.rev_desk.specs.Machine.{DeskValue, reply_on, reply_to}
use Rattle.rev_desk.proofs.desk.Desk.verdict.Goals as goal

pub returns : goal.returns
returns c =
    let is : reply_on (desk_state_value c.self.inside.desk_state) c.next_number.result c.target.result c.args.command.now ≡ reply_to c.args.self.now c.args.command.now =
    ap (λ n. reply_on (desk_state_value c.self.inside.desk_state) n c.target.result c.args.command.now) c.next_number.ensures
    ∙ ap (λ m. reply_on (desk_state_value c.self.inside.desk_state) (length c.self.inside.journal.entries.items + 1) m c.args.command.now) c.target.ensures
    ∙ ap (λ (d : DeskValue). reply_to d c.args.command.now) c.self.view_is in
    subst (λ (r : Reply). IfOk c.verdict.result (λ reply. reply ≡ r)) is c.verdict.ensures

use Rattle.std.proofs.Common.{◌≡◌, ◌<◌, ◌^◌, ◌+◌, ℕ, List, [], ◌∷◌, ◌++◌, length, ap, sym, subst, ◌∙◌, rules, arith, length-append}
use Rattle.std.proofs.lemmas.Grind.{common_steps}
use Rattle.rev_history.specs.Timeline.{IsHistory}
use Rattle.rev_desk.specs.declared.reply.Entry.{Entry}
use Rattle.rev_desk.specs.DeskState.{IsReady, desk_state_value}
use Rattle.rev_desk.specs.Inside.{value_of}
use Rattle.rev_desk.specs.Machine.{DeskValue, after, reply_to}
use Rattle.rev_desk.specs.Sound.{IsDesk}
use Rattle.rev_desk.proofs.DeskLemmas.{IsDesk-after, value-after}
use Rattle.rev_desk.proofs.desk.Desk.apply.Goals as goal

pub returns-clause-reply : goal.returns-clause-reply
returns-clause-reply c = c.in-Ok.ensures.does.reply ∙ ap (λ (d : DeskValue). reply_to d c.args.command) c.self.view_is

pub returns-clause-ok : goal.returns-clause-ok
returns-clause-ok c =
    value-after (value_of c.self.inside) (desk_state_value c.answered.new.desk_state) c.push.new.self.entries.items (length c.push.new.self.numbers.items) c.args.lane c.args.command c.in-Ok.reply
    c.in-Ok.ensures.does.ok c.in-Ok.ensures.does.reply
    (c.push.ensures.entries ∙ ap (λ (es : List Entry). es ++ record { lane = c.args.lane; command = c.args.command; reply = c.in-Ok.reply } ∷ []) c.in-Ok.ensures.entries)
    (c.push.ensures.lanes ∙ c.in-Ok.ensures.lanes)
    ∙ ap (λ (d : DeskValue). after d c.args.lane c.args.command) c.self.view_is

pub invariant_of-self-2 : goal.invariant_of-self-2
invariant_of-self-2 c =
    let d : DeskValue = value_of c.self.inside in
    let entry : Entry = record { lane = c.args.lane; command = c.args.command; reply = c.in-Ok.reply } in
    let entries : c.push.new.self.entries.items ≡ c.self.inside.journal.entries.items ++ entry ∷ [] = c.push.ensures.entries ∙ ap (λ (es : List Entry). es ++ entry ∷ []) c.in-Ok.ensures.entries in
    let is =
    value-after d (desk_state_value c.answered.new.desk_state) c.push.new.self.entries.items (length c.push.new.self.numbers.items) c.args.lane c.args.command c.in-Ok.reply
    c.in-Ok.ensures.does.ok c.in-Ok.ensures.does.reply entries (c.push.ensures.lanes ∙ c.in-Ok.ensures.lanes) in
    let lt : c.args.lane < d.lanes = subst (λ (x : DeskValue). c.args.lane < x.lanes) (sym c.self.view_is) c.requires in
    let room : length c.self.inside.journal.entries.items < 2 ^ 20 = first_of (search rules, grind (arith, common_steps)) in
    let history = subst IsHistory (ap (λ (x : DeskValue). x.history) is) c.kept-kept.ensures.legal in
    let count : length c.self.inside.journal.entries.items + 1 + 1 ≡ length c.push.new.self.entries.items + 1 =
    omega (arith, ap length entries, length-append c.self.inside.journal.entries.items (entry ∷ [])) in
    record {
      desk = subst IsDesk (sym is) (IsDesk-after d c.args.lane c.args.command lt room history c.self.invariant.desk);
      ready = subst (IsReady c.answered.new.desk_state) count c.in-Ok.ensures.does.ready;
      indexed = c.push.ensures.indexed;
    }

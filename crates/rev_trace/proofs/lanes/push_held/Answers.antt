use Rattle.std.proofs.Common.{◌≡◌, ◌++◌, List, [], ◌∷◌, get_or, set, sym, ap, ◌∙◌}
use Rattle.std.proofs.lemmas.List.{get_or-map, map-set}
use Rattle.rev_commands.specs.declared.command.Command.{Command}
use Rattle.rev_trace.specs.Lists.{LanesValue}
use Rattle.rev_trace.specs.Traces.{lanes_of}
use Rattle.rev_trace.proofs.lanes.push_held.Goals as goal

pub returns : goal.returns
returns c =
    let items = c.args.lanes.now.lists.items in
    let named = c.args.lanes.now.named in
    let was : get_or (lanes_of items) named [] ≡ c.index_mut.result.now.items =
    get_or-map (λ v. v.items) items named c.index_mut.result.now [] c.requires ∙ ap (λ v. v.items) (sym c.index_mut.ensures.value) in
    let pushed : c.push.new.self.items ≡ get_or (lanes_of items) named [] ++ c.args.command ∷ [] =
    c.in_ok-push.ensures.items ∙ ap (λ l. l ++ c.args.command ∷ []) (sym was) in
    let made : List (List Command) → LanesValue = λ lists. record { lists = lists; named = named } in
    ap made (map-set (λ v. v.items) items named c.push.new.self ∙ ap (set (lanes_of items) named) pushed)

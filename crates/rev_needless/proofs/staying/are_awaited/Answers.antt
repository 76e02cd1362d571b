use Rattle.std.proofs.Common.{◌≡◌, ℕ, Bool, List, length, ap, sym, ◌∙◌}
use Rattle.std.specs.Global.{Vec}
use Rattle.std.proofs.lemmas.Bool.{eqb-true}
use Rattle.rev_ranks.specs.Graph.{graph_of}
use Rattle.rev_needless.specs.Staying.{each_command, roots_stay, still_waits}
use Rattle.rev_needless.proofs.ListLemmas.{all-of-none}
use Rattle.rev_needless.proofs.StayLemmas.{awaited-by-roots}
use Rattle.rev_needless.proofs.staying.are_awaited.Goals as goal

pub returns-then-is_empty : goal.returns-then-is_empty
returns-then-is_empty c =
    sym (all-of-none (λ node. each_command c.args.commands.now (λ command. still_waits (graph_of c.args.before.now) (graph_of c.args.after.now) command node)) c.args.nodes.now
    (eqb-true (length c.args.nodes.now) 0 (sym c.is_empty.ensures ∙ c.if-is_empty.true)))

pub returns : goal.returns
returns c =
    awaited-by-roots (graph_of c.args.before.now) (graph_of c.args.after.now) (graph_of c.in_ok-back.back.items) (graph_of c.in_ok-back_after.back_after.items) c.args.commands.now c.args.nodes.now c.in_ok-stay.stay
    c.in_ok-back.ensures.steps c.in_ok-back_after.ensures.steps
    (c.in_ok-stay.ensures
    ∙ ap (λ (xs : List (Vec ℕ)). roots_stay (graph_of xs) (graph_of c.deref-2.result.now) c.args.commands.now c.args.nodes.now) c.deref.ensures.value
    ∙ ap (λ (xs : List (Vec ℕ)). roots_stay (graph_of c.in_ok-back.back.items) (graph_of xs) c.args.commands.now c.args.nodes.now) c.deref-2.ensures.value)

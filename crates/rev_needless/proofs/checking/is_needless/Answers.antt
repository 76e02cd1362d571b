use Rattle.std.proofs.Common.{◌≡◌, ◌<◌, ℕ, Bool, List, length, arith, ap, subst, sym, ◌∙◌}
use Rattle.std.specs.Global.{Vec}
use Rattle.std.specs.List.{All}
use Rattle.rev_ranks.specs.Graph.{graph_of}
use Rattle.rev_needless.specs.Staying.{all_stay}
use Rattle.rev_needless.specs.Without.{marks_in, without}
use Rattle.rev_needless.proofs.NeedlessLemmas.{needless-is}
use Rattle.rev_needless.proofs.checking.is_needless.Goals as goal

abbrev AreInside : List (Vec ℕ) → Type 0
AreInside xs = All (λ (v : Vec ℕ). All (λ s. s < length xs) v.items) xs

pub all_stay-requires-clause-inside : goal.all_stay-requires-clause-inside
all_stay-requires-clause-inside c = subst AreInside (sym c.deref-2.ensures.value) c.requires.inside

pub all_stay-requires-clause-also : goal.all_stay-requires-clause-also
all_stay-requires-clause-also c = subst AreInside (sym c.deref-3.ensures.value) (c.in_ok-after.ensures.inside (subst AreInside (sym c.deref.ensures.value) c.requires.inside))

pub all_stay-requires-clause-each : goal.all_stay-requires-clause-each
all_stay-requires-clause-each c = omega (arith, c.in_ok-after.ensures.each, ap length c.deref.ensures.value, ap length c.deref-2.ensures.value, ap length c.deref-3.ensures.value)

pub returns : goal.returns
returns c =
    let left : graph_of c.in_ok-after.after.items ≡ without (graph_of c.args.known.now.steps.items) (marks_in c.args.gone.now) =
    c.in_ok-after.ensures.graph ∙ ap (λ (xs : List (Vec ℕ)). without (graph_of xs) (marks_in c.args.gone.now)) c.deref.ensures.value in
    let answered : c.in_ok-yes.yes ≡ all_stay (graph_of c.args.known.now.steps.items) (graph_of c.in_ok-after.after.items) (graph_of c.args.known.now.conflicts.items) c.args.known.now.targets.items c.args.known.now.unseen.items c.args.known.now.commands.items =
    cc c.in_ok-yes.ensures in
    needless-is c.args.known.now (marks_in c.args.gone.now) c.in_ok-yes.yes (graph_of c.in_ok-after.after.items) left answered

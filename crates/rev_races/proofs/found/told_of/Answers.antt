use Rattle.std.proofs.Common.{ℕ, List, ◌∷◌, subst}
use Rattle.std.specs.List.{All}
use Rattle.std.proofs.lemmas.List.Elements.{All-head, All-tail}
use Rattle.rev_races.specs.Keys.{IsOfEdges}
use Rattle.rev_races.proofs.FoundLemmas.{keys-more, three}
use Rattle.rev_races.proofs.found.told_of.Goals as goal

pub loop-key-preserved : goal.loop-key-preserved
loop-key-preserved c =
    let key = c.in-Some.key in
    let rest = c.pop_first.new.self.keys in
    let fit : All IsOfEdges (c.in-Some.key ∷ c.pop_first.new.self.keys) = subst (λ (ks : List (List ℕ)). All IsOfEdges ks) c.in-Some.ensures.removal c.loop-key.invariant.fit in
    record {
      keys =
          keys-more c.loop-key.told.items c.push.new.self.items _ key c.loop-key.left.keys rest c.args.keys.keys c.in-Some.ensures.removal c.in_ok-push.ensures.items
          (three key (All-head IsOfEdges key rest fit).three) c.loop-key.invariant.keys;
      fit = All-tail IsOfEdges key rest fit;
    }

use Rattle.std.proofs.Common.{ap, ◌∙◌, ℕ, List, ◌∷◌, subst, get_or}
use Rattle.std.specs.List.{All}
use Rattle.std.proofs.lemmas.List.Elements.{All-head, All-tail}
use Rattle.rev_conflicts.specs.declared.place.Place.{Place}
use Rattle.rev_conflicts.specs.Tables.{IsOfMeet, told_key}
use Rattle.rev_conflicts.proofs.FoundLemmas.{keys-more, told-key}
use Rattle.rev_conflicts.proofs.found.told_of.Goals as goal

pub loop-key-preserved : goal.loop-key-preserved
loop-key-preserved c =
    let key = c.in-Some.key in
    let rest = c.pop_first.new.self.keys in
    let fit : All IsOfMeet (c.in-Some.key ∷ c.pop_first.new.self.keys) = subst (λ (ks : List (List ℕ)). All IsOfMeet ks) c.in-Some.ensures.removal c.loop-key.invariant.fit in
    record {
      keys =
          keys-more c.loop-key.told.items c.push.new.self.items _ key c.loop-key.left.keys rest c.args.keys.keys c.in-Some.ensures.removal c.in_ok-push.ensures.items
          (ap (λ (p : Place). told_key (record { maker = get_or key 0 0; user = get_or key 1 0; place = p; made_by = get_or key 4 0; used_by = get_or key 5 0 })) c.place_of.ensures ∙ told-key key (All-head IsOfMeet key rest fit)) c.loop-key.invariant.keys;
      fit = All-tail IsOfMeet key rest fit;
    }

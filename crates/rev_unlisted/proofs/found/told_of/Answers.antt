use Rattle.std.proofs.Common.{ap, ◌∙◌, ℕ, List, ◌∷◌, subst, get_or}
use Rattle.std.specs.List.{All}
use Rattle.std.proofs.lemmas.List.Elements.{All-head, All-tail}
use Rattle.rev_unlisted.specs.declared.input.Cover.{Cover}
use Rattle.rev_unlisted.specs.Answer.{unlisted_key}
use Rattle.rev_unlisted.specs.Found.{IsOfUnlisted}
use Rattle.rev_unlisted.proofs.FoundLemmas.{keys-more, told-key}
use Rattle.rev_unlisted.proofs.found.told_of.Goals as goal

pub loop-key-preserved : goal.loop-key-preserved
loop-key-preserved c =
    let key = c.in-Some.key in
    let rest = c.pop_first.new.self.keys in
    let fit : All IsOfUnlisted (c.in-Some.key ∷ c.pop_first.new.self.keys) = subst (λ (ks : List (List ℕ)). All IsOfUnlisted ks) c.in-Some.ensures.removal c.loop-key.invariant.fit in
    record {
      keys =
          keys-more c.loop-key.told.items c.push.new.self.items _ key c.loop-key.left.keys rest c.args.keys.keys c.in-Some.ensures.removal c.in_ok-push.ensures.items
          (ap (λ (k : Cover). unlisted_key (record { cover = k; user = get_or key 0 0; path = get_or key 1 0; used_by = get_or key 2 0 })) c.cover_of.ensures ∙ told-key key (All-head IsOfUnlisted key rest fit)) c.loop-key.invariant.keys;
      fit = All-tail IsOfUnlisted key rest fit;
    }

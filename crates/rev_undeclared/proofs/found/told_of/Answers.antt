use Rattle.std.proofs.Common.{ap, ◌∙◌, ℕ, List, ◌∷◌, subst, get_or}
use Rattle.std.specs.List.{All}
use Rattle.std.proofs.lemmas.List.Elements.{All-head, All-tail}
use Rattle.rev_undeclared.specs.declared.kind.UndeclaredKind.{UndeclaredKind}
use Rattle.rev_undeclared.specs.Answer.{undeclared_key}
use Rattle.rev_undeclared.specs.Tables.{IsOfUndeclared}
use Rattle.rev_undeclared.proofs.FoundLemmas.{keys-more, told-key}
use Rattle.rev_undeclared.proofs.found.told_of.Goals as goal

pub loop-key-preserved : goal.loop-key-preserved
loop-key-preserved c =
    let key = c.in-Some.key in
    let rest = c.pop_first.new.self.keys in
    let fit : All IsOfUndeclared (c.in-Some.key ∷ c.pop_first.new.self.keys) = subst (λ (ks : List (List ℕ)). All IsOfUndeclared ks) c.in-Some.ensures.removal c.loop-key.invariant.fit in
    record {
      keys =
          keys-more c.loop-key.told.items c.push.new.self.items _ key c.loop-key.left.keys rest c.args.keys.keys c.in-Some.ensures.removal c.in_ok-push.ensures.items
          (ap (λ (k : UndeclaredKind). undeclared_key (record { kind = k; maker = get_or key 0 0; user = get_or key 1 0; path = get_or key 2 0; made_by = get_or key 3 0 })) c.kind_of.ensures ∙ told-key key (All-head IsOfUndeclared key rest fit)) c.loop-key.invariant.keys;
      fit = All-tail IsOfUndeclared key rest fit;
    }

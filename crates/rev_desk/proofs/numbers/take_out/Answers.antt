use Rattle.std.proofs.Common.{◌≡◌, ◌<◌, false, List, ℕ, length, get_or, subst, sym, ◌∙◌}
use Rattle.rev_causal.specs.Chosen.{is_among}
use Rattle.rev_desk.proofs.Rising.{removed-without, without-absent}
use Rattle.rev_desk.proofs.numbers.take_out.Goals as goal

pub returns-in-Some : goal.returns-in-Some
returns-in-Some c =
    c.remove.ensures.items
    ∙ removed-without c.args.numbers.now.items c.in-Some.place c.args.number c.requires.rising
    (subst (λ (ks : List ℕ). c.in-Some.place < length ks) c.deref.ensures.value c.in-Some.ensures.found)
    (subst (λ (ks : List ℕ). get_or ks c.in-Some.place 0 ≡ c.args.number) c.deref.ensures.value c.in-Some.ensures.at)

pub returns-in-None : goal.returns-in-None
returns-in-None c =
    sym (without-absent c.args.number c.args.numbers.now.items (subst (λ (ks : List ℕ). is_among ks c.args.number ≡ false) c.deref.ensures.value c.in-None.ensures.absent))

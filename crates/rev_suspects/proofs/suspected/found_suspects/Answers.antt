use Rattle.std.proofs.Common.{◌≡◌, List, ap, ◌∙◌}
use Rattle.std.specs.Global.{Vec}
use Rattle.std.specs.List.{flat_map}
use Rattle.rev_suspects.specs.Suspects.{lists_of, suspects_of}
use Rattle.rev_suspects.specs.declared.suspected.Suspect.{Suspect}
use Rattle.rev_suspects.proofs.SuspectLemmas.{all-found, ok-more}
use Rattle.rev_suspects.proofs.suspected.found_suspects.Goals as goal

pub returns : goal.returns
returns c =
    let t = c.args.history.now.timeline in
    ok-more (λ (all : Vec Suspect). all.items ≡ flat_map (λ (l : List Suspect). l) (lists_of c.deref.result.now))
    (λ (all : Vec Suspect). all.items ≡ flat_map (suspects_of c.args.history.now.timeline c.args.files.now) c.args.failures.now)
    (λ all joined. all-found t c.args.files.now c.args.failures.now c.put_each.new.lists.items all.items c.requires.kept c.in_ok-put_each.ensures
    (joined ∙ ap (λ ls. flat_map (λ (l : List Suspect). l) (lists_of ls)) c.deref.ensures.value))
    c.joined.result c.joined.ensures

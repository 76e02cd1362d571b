use Rattle.std.proofs.Common.{[], ◌∷◌, refl}
use Rattle.rev_entry_conflicts.specs.declared.conflict.Kind.TheVariants as kind
use Rattle.rev_entry_conflicts.specs.Conflicts.{places, told}
use Rattle.rev_entry_conflicts.specs.Deeds.{Scene}
use Rattle.rev_entry_conflicts.specs.Orders.{scene}
use Rattle.rev_entry_conflicts.proofs.PairLemmas.{chain-all, kind-added}
use Rattle.rev_entry_conflicts.proofs.pair.add_pair.Goals as goal

pub returns : goal.returns
returns c =
    let s : Scene = scene c.args.steps.now c.args.entries.now c.args.commands.now in
    let made = c.args.made.now in
    let used = c.args.used.now in
    let i = c.args.made_by in
    let j = c.args.used_by in
    let ns = c.args.numbers.now in
    chain-all
    (told i j kind.Clash (places s made used kind.Clash) ∷ told i j kind.Race (places s made used kind.Race) ∷ told i j kind.Folder (places s made used kind.Folder) ∷ told i j kind.Link (places s made used kind.Link) ∷ told i j kind.Cycle (places s made used kind.Cycle) ∷ told i j kind.Unstable (places s made used kind.Unstable) ∷ [])
    c.args.found.now.items c.add_kind-6.new.found.items
    (c.add_kind.new.found.items, (kind-added s made used i j ns kind.Clash c.args.found.now.items c.add_kind.new.found.items c.requires.places c.in_ok-add_kind.ensures, (c.add_kind-2.new.found.items, (kind-added s made used i j ns kind.Race c.add_kind.new.found.items c.add_kind-2.new.found.items c.requires.places c.in_ok-add_kind-2.ensures, (c.add_kind-3.new.found.items, (kind-added s made used i j ns kind.Folder c.add_kind-2.new.found.items c.add_kind-3.new.found.items c.requires.places c.in_ok-add_kind-3.ensures, (c.add_kind-4.new.found.items, (kind-added s made used i j ns kind.Link c.add_kind-3.new.found.items c.add_kind-4.new.found.items c.requires.places c.in_ok-add_kind-4.ensures, (c.add_kind-5.new.found.items, (kind-added s made used i j ns kind.Cycle c.add_kind-4.new.found.items c.add_kind-5.new.found.items c.requires.places c.in_ok-add_kind-5.ensures, (c.add_kind-6.new.found.items, (kind-added s made used i j ns kind.Unstable c.add_kind-5.new.found.items c.add_kind-6.new.found.items c.requires.places c.in_ok-add_kind-6.ensures, refl))))))))))))

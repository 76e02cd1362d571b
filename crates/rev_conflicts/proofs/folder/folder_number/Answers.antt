use Rattle.std.proofs.Common.{ℕ, List, sym, ap, ◌∙◌}
use Rattle.rev_paths.specs.Canonical.{canonical}
use Rattle.rev_paths.specs.Paths.{place_of}
use Rattle.rev_conflicts.specs.Places.{folder_of}
use Rattle.rev_conflicts.proofs.KindLemmas.{name-at}
use Rattle.rev_conflicts.proofs.folder.folder_number.Goals as goal

pub returns-in-Ok : goal.returns-in-Ok
returns-in-Ok c =
    c.find.ensures.place
    ∙ ap (λ (f : List ℕ). place_of f c.args.paths.now)
    (c.in-Ok.ensures.canonical
    ∙ ap canonical (c.folder.ensures ∙ ap folder_of (c.as_bytes.ensures.bytes ∙ sym (name-at c.args.paths.now c.args.path c.path-name.result.now c.requires c.path-name.ensures.name))))

use Rattle.std.proofs.Common.{sym, ◌∙◌, arith}
use Rattle.std.proofs.lemmas.List.{length-take-le}
use Rattle.rev_conflicts.proofs.FolderLemmas.{last-within}
use Rattle.rev_conflicts.proofs.folder.folder.Goals as goal

pub slice_bounds-result-end-in-Some : goal.slice_bounds-result-end-in-Some
slice_bounds-result-end-in-Some c =
    let within = last-within c.args.path.now c.in-Some.place (sym c.last_slash.ensures ∙ c.in-Some.is) in
    sym (length-take-le c.in-Some.place c.args.path.now (omega (arith, within)))

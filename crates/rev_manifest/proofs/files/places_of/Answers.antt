use Rattle.std.proofs.Common.{sym, ap, ◌∙◌}
use Rattle.rev_manifest.specs.Files.{is_named}
use Rattle.rev_manifest.specs.Places.{first_place}
use Rattle.rev_manifest.proofs.FileLemmas.{places_more}
use Rattle.rev_manifest.proofs.files.places_of.Goals as goal

pub loop-place-preserved : goal.loop-place-preserved
loop-place-preserved c = λ path.
    let x = c.index-files-place.result in
    c.in_ok-add_file.ensures path ∙ ap (λ before. first_place before (is_named path (x.0.items, x.1.items)) c.loop-place.place) (c.loop-place.invariant path)
    ∙ places_more path c.args.files.now c.loop-place.place x c.loop-place-test.true (sym c.index-files-place.is)

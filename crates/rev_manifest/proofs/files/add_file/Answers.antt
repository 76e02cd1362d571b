use Rattle.std.proofs.Common.{◌≡◌, None, bytes_eq, sym, ap, ◌∙◌}
use Rattle.indexmap.specs.IndexMap.{get}
use Rattle.rev_paths.specs.Canonical.{canonical}
use Rattle.rev_manifest.specs.Names.{path_fault}
use Rattle.rev_manifest.specs.Files.{is_named}
use Rattle.rev_manifest.proofs.FileLemmas.{added_place, named_by, no_fault, none_of}
use Rattle.rev_manifest.proofs.files.add_file.Goals as goal

pub returns-in_ok-insert-in-Ok : goal.returns-in_ok-insert-in-Ok
returns-in_ok-insert-in-Ok c = λ path.
    let raw = c.args.file.now.0.items in
    let given = c.deref.result.now in
    let same : given ≡ raw = c.deref.ensures.value in
    let fine : path_fault raw ≡ None = ap path_fault (sym same) ∙ no_fault given (λ h. let no = c.in-Ok.ensures.empty.1 h in cc) (λ h. let no = c.in-Ok.ensures.long.1 h in cc) in
    let name : c.in-Ok.name ≡ canonical raw = c.in-Ok.ensures.canonical ∙ ap canonical same in
    let absent : get bytes_eq c.args.places.now c.in-Ok.name ≡ None = none_of _ (sym c.if-contains_key.ensures) in
    added_place (get bytes_eq c.args.places.now path) (get bytes_eq c.insert.new.self path) c.args.place c.in-Ok.name path (is_named path (raw, c.args.file.now.1.items))
    (c.in_ok-insert-in-Ok.ensures.updates.0 path) (λ e. ap (get bytes_eq c.args.places.now) (sym e) ∙ absent) (named_by path raw c.in-Ok.name c.args.file.now.1.items fine name)

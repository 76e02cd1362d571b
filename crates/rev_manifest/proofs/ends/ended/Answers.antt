use Rattle.rev_manifest.proofs.KeptLemmas.{builds-kept}
use Rattle.rev_manifest.proofs.ends.ended.Goals as goal

pub manifest_of_builds-requires : goal.manifest_of_builds-requires
manifest_of_builds-requires c =
    builds-kept c.args.above.scopes c.args.above.pools c.args.above.value_room c.args.above.edges.items c.in_ok-ended.ended.builds.items c.in_ok-ended.ensures.meant

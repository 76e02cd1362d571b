use Rattle.std.proofs.Common.{ℕ, List, All, length, sym, subst}
use Rattle.rev_manifest.specs.Builds.{IsBuild}
use Rattle.rev_manifest.proofs.ends.manifest_of_builds.Goals as goal

pub new-requires : goal.new-requires
new-requires c = record {
  builds = subst (λ (pools : List (List ℕ × ℕ)). All (IsBuild (length pools)) c.args.builds.items) (sym c.in_ok-pools.ensures) c.requires;
}

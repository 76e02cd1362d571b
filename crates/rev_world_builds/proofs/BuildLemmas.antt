-- The waiting of build lines goes through.
use Rattle.std.proofs.Common.{ℕ, List}
use Rattle.rev_manifest.specs.Manifest.{BuildValue}
use Rattle.rev_graph.specs.Graph.{EdgeReaches, EdgeReaches.step as one_step, EdgeReaches.further as then_on}
use Rattle.rev_world.proofs.OutcomeLemmas.{one-outcome-of}
use Rattle.rev_world_builds.specs.Builds.{OneOutcome}

-- a way, and one behind it
pub longer : (builds : List BuildValue) (a b c : ℕ) → EdgeReaches builds a b → EdgeReaches builds b c → EdgeReaches builds a c
longer builds a b c (one_step step) way = then_on step way
longer builds a b c (then_on {middle = m} step front) way = then_on step (longer builds m b c front way)

pub one-outcome : OneOutcome
one-outcome builds = one-outcome-of (λ a b. EdgeReaches builds a b) (longer builds)

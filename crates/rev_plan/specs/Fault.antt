-- What the faults of a plan say.
use Rattle.std.specs.Prelude.{◌≡◌, ℕ, List, Option, Some}
use Rattle.rev_ranks.specs.Graph.{IsLeastOnCycle}
use Rattle.rev_plan.specs.declared.fault.PlanFault.{PlanFault}
use Rattle.rev_plan.specs.declared.fault.PlanFault.TheVariants as fault
use Rattle.rev_plan.specs.Plan.{PlanRefusal, PlanRefusal.StillRunning, PlanRefusal.UnknownTarget, PlanRefusal.MissingInput, PlanRefusal.DepsCycle}

-- A fault is why a plan is refused, or says that memory was lacking.
abbrev pub Explains : PlanFault → Option PlanRefusal → Type 0
Explains fault.Memory refusal = Unit {0}
Explains (fault.StillRunning edge) refusal = refusal ≡ Some (StillRunning edge)
Explains (fault.UnknownTarget target) refusal = refusal ≡ Some (UnknownTarget target)
Explains (fault.MissingInput input edge) refusal = refusal ≡ Some (MissingInput input edge)
Explains (fault.DepsCycle edge) refusal = refusal ≡ Some (DepsCycle edge)

-- A fault names the least node of a graph that reaches itself, or says that memory was lacking.
abbrev pub NamesCycle : PlanFault → List (List ℕ) → Type 0
NamesCycle fault.Memory graph = Unit {0}
NamesCycle (fault.DepsCycle edge) graph = IsLeastOnCycle graph edge
NamesCycle (fault.StillRunning edge) graph = ⊥
NamesCycle (fault.UnknownTarget target) graph = ⊥
NamesCycle (fault.MissingInput input edge) graph = ⊥

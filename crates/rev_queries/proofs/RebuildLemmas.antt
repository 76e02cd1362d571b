-- What is told of a plan over a touched copy.
use Rattle.std.proofs.Common.{◌≡◌, ℕ, List, map, Result, Ok, Err, IfOk, IfErr, refl, sym, ap, subst, ◌∙◌}
use Rattle.std.specs.Global.{Vec}
use Rattle.rev_cells.specs.Effects.{set_all}
use Rattle.rev_cells.specs.State.{State}
use Rattle.rev_manifest.specs.Builds.{ManifestValue}
use Rattle.rev_plan.specs.declared.fault.PlanFault.{PlanFault}
use Rattle.rev_plan.specs.declared.fault.PlanFault.TheVariants.{Memory}
use Rattle.rev_plan.specs.Fault.{Explains}
use Rattle.rev_plan.specs.Plan.{plan_refusal}
use Rattle.rev_queries.specs.declared.rebuild.Rebuild.{Rebuild}
use Rattle.rev_queries.specs.Rebuilds.{AreRebuilds, IsRefusedAfter, IsTouched, rebuilds_in, touch}

-- the same of the state that is told to be the one before
touched-there : (before cells after : State) (paths : List (List ℕ)) → cells ≡ before → IsTouched cells paths after
    → IsTouched before paths after
touched-there before cells after paths same touched = subst (λ (s : State). IsTouched s paths after) same touched

pub rebuilds-told : (manifest read : ManifestValue) (before : State) (targets paths : List (List ℕ)) (cells after : State)
    (r : Result (Vec Rebuild) PlanFault) → read ≡ manifest → cells ≡ before → IsTouched cells paths after
    → IfOk r (λ v. v.items ≡ rebuilds_in read after targets)
    → IfOk r (λ v. AreRebuilds manifest before targets paths v.items)
rebuilds-told manifest read before targets paths cells after (Ok v) alike same touched is =
    record { after = after; touched = touched-there before cells after paths same touched; wanted = is ∙ ap (λ (m : ManifestValue). rebuilds_in m after targets) alike }
rebuilds-told manifest read before targets paths cells after (Err e) alike same touched is = tt

pub refused-told : (manifest read : ManifestValue) (before : State) (targets paths : List (List ℕ)) (cells after : State)
    (r : Result (Vec Rebuild) PlanFault) → read ≡ manifest → cells ≡ before → IsTouched cells paths after
    → IfErr r (λ fault. Explains fault (plan_refusal read after targets))
    → IfErr r (λ fault. IsRefusedAfter manifest before targets paths fault)
refused-told manifest read before targets paths cells after (Ok v) alike same touched is = tt
refused-told manifest read before targets paths cells after (Err e) alike same touched is =
    record { after = after; touched = touched-there before cells after paths same touched; explained = subst (λ (m : ManifestValue). Explains e (plan_refusal m after targets)) alike is }

-- memory was refused before there was a copy
for-memory : (manifest : ManifestValue) (before : State) (targets paths : List (List ℕ))
    → IsRefusedAfter manifest before targets paths Memory
for-memory manifest before targets paths = record {
  after = set_all before (map touch paths);
  touched = record { copy = before; alike = λ c. refl; touched = refl };
  explained = tt;
}

pub memory-told : (manifest : ManifestValue) (before : State) (targets paths : List (List ℕ))
    (r : Result (Vec Rebuild) PlanFault) → (fault : PlanFault) × (r ≡ Err fault) × (fault ≡ Memory)
    → IfErr r (λ fault. IsRefusedAfter manifest before targets paths fault)
memory-told manifest before targets paths r told =
    let P : Result (Vec Rebuild) PlanFault → Type 0 =
    λ answer. IfErr answer (λ fault. IsRefusedAfter manifest before targets paths fault) in
    let Q : PlanFault → Type 0 = λ fault. IsRefusedAfter manifest before targets paths fault in
    subst P (sym told.1) (subst Q (sym told.2) (for-memory manifest before targets paths))

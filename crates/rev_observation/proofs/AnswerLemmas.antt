-- What passes from the reader of a part of a line to the reader of the line.
use Rattle.std.proofs.Common.{◌≡◌, ℕ, Result, Ok, Err, sym, ap, ◌∙◌}
use Rattle.rev_observed.specs.declared.faults.Fault.{Fault}
use Rattle.rev_observed.specs.declared.faults.FaultKind.{FaultKind}
use Rattle.rev_observation.specs.declared.faults.LineFault.{LineFault}
use Rattle.rev_observation.specs.declared.faults.LineFault.TheVariants.{Memory, Kind}
use Rattle.rev_observed.specs.declared.faults.ReadFault.TheVariants as text
use Rattle.rev_observed.specs.Faults.{◌>>=◌, fault_at}
use Rattle.rev_observation.specs.Faults.{Answers, read_fault}

-- what is read of a part, and then what is made of it
pub answers_then : {V S T : Type 0} (r : Result V LineFault) (view : V → S) (whole : V → T) (said : Result S FaultKind) (f : S → Result T FaultKind) → ((v : V) → f (view v) ≡ Ok (whole v)) → Answers r view said → Answers r whole (said >>= f)
answers_then (Ok v) view whole said f makes h = ap (λ s. s >>= f) h ∙ makes v
answers_then (Err Memory) view whole said f makes h = tt
answers_then (Err (Kind kind)) view whole said f makes h = ap (λ s. s >>= f) h

-- the fault of a line, as it is named in the text
pub fault_named : {V T : Type 0} (fault : LineFault) (view : V → T) (said : Result T FaultKind) (place : ℕ) (f : Fault) → Answers (Err fault) view said → read_fault place fault ≡ text.Numbered f → (kind : FaultKind) × (said ≡ Err kind) × (f ≡ fault_at place kind)
fault_named Memory view said place f h e = cc
fault_named (Kind kind) view said place f h e =
    let same : fault_at place kind ≡ f = cc in (kind, h, sym same)

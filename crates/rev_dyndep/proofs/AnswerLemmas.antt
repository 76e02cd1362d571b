-- Answers that go on from others.
use Rattle.std.proofs.Common.{◌≡◌, List, [], ◌∷◌, ◌++◌, Result, Ok, Err, refl, ap, append_assoc}
use Rattle.rev_dyndep.specs.declared.fault.DyndepFault.{DyndepFault}
use Rattle.rev_dyndep.specs.declared.fault.ReadFault.{ReadFault}
use Rattle.rev_dyndep.specs.declared.fault.ReadFault.TheVariants.{Memory, Refused}
pub use Rattle.rev_dyndep.specs.Answers.{onto}
use Rattle.rev_dyndep.specs.Answers.{IsFault, and_then}

pub onto-push : {A : Type 0} (first : List A) (x : A) (r : Result (List A) DyndepFault)
    → onto (first ++ x ∷ []) r ≡ onto first (and_then r (λ others. Ok (x ∷ others)))
onto-push first x (Ok others) = ap Ok (append_assoc first (x ∷ []) others)
onto-push first x (Err fault) = refl

pub onto-nothing : {A : Type 0} (r : Result (List A) DyndepFault) → onto [] r ≡ r
onto-nothing (Ok others) = refl
onto-nothing (Err fault) = refl

-- a fault of a part is that of the whole
pub fault_passes : {A B : Type 0} (e : ReadFault) (part : Result A DyndepFault) (whole : Result B DyndepFault)
    → ((fault : DyndepFault) → part ≡ Err fault → whole ≡ Err fault) → IsFault e part → IsFault e whole
fault_passes Memory part whole passes h = tt
fault_passes (Refused fault) part whole passes h = passes fault h

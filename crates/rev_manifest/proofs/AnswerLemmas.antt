-- Answers that go on from others.
use Rattle.std.proofs.Common.{◌≡◌, List, [], ◌∷◌, ◌++◌, Result, Ok, Err, refl, ap, append_assoc}
use Rattle.rev_manifest.specs.declared.fault.ManifestFault.{ManifestFault}
use Rattle.rev_manifest.specs.declared.fault.ReadFault.{ReadFault}
use Rattle.rev_manifest.specs.declared.fault.ReadFault.TheVariants.{Memory, Manifest}
pub use Rattle.rev_manifest.specs.Answers.{onto_list}
use Rattle.rev_manifest.specs.Answers.{IsFault, and_then}

pub onto_list-push : {A : Type 0} (first : List A) (x : A) (r : Result (List A) ManifestFault)
    → onto_list (first ++ x ∷ []) r ≡ onto_list first (and_then r (λ others. Ok (x ∷ others)))
onto_list-push first x (Ok others) = ap Ok (append_assoc first (x ∷ []) others)
onto_list-push first x (Err fault) = refl

pub onto_list-nothing : {A : Type 0} (r : Result (List A) ManifestFault) → onto_list [] r ≡ r
onto_list-nothing (Ok others) = refl
onto_list-nothing (Err fault) = refl

pub onto_list-append : {A : Type 0} (first second : List A) (r : Result (List A) ManifestFault)
    → onto_list (first ++ second) r ≡ onto_list first (onto_list second r)
onto_list-append first second (Ok others) = ap Ok (append_assoc first second others)
onto_list-append first second (Err fault) = refl

-- a fault of a part is that of the whole
pub fault_passes : {A B : Type 0} (e : ReadFault) (part : Result A ManifestFault) (whole : Result B ManifestFault)
    → ((fault : ManifestFault) → part ≡ Err fault → whole ≡ Err fault) → IsFault e part → IsFault e whole
fault_passes Memory part whole passes h = tt
fault_passes (Manifest fault) part whole passes h = passes fault h

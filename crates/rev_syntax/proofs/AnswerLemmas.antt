-- Answers that go on from others.
use Rattle.std.proofs.Common.{◌≡◌, List, [], ◌∷◌, ◌++◌, Result, Ok, Err, refl, ap, append_assoc}
use Rattle.rev_syntax.specs.declared.fault.SyntaxFault.{SyntaxFault}
use Rattle.rev_syntax.specs.declared.fault.ReadFault.{ReadFault}
use Rattle.rev_syntax.specs.declared.fault.ReadFault.TheVariants.{Memory, Refused}
use Rattle.rev_syntax.specs.Faults.{IsFault, and_then}

-- elements before the others
abbrev pub onto_list : {A E : Type 0} → List A → Result (List A) E → Result (List A) E
onto_list first (Ok others) = Ok (first ++ others)
onto_list first (Err fault) = Err fault

pub onto_list-push : {A E : Type 0} (first : List A) (x : A) (r : Result (List A) E)
    → onto_list (first ++ x ∷ []) r ≡ onto_list first (and_then r (λ others. Ok (x ∷ others)))
onto_list-push first x (Ok others) = ap Ok (append_assoc first (x ∷ []) others)
onto_list-push first x (Err fault) = refl

pub onto_list-nothing : {A E : Type 0} (r : Result (List A) E) → onto_list [] r ≡ r
onto_list-nothing (Ok others) = refl
onto_list-nothing (Err fault) = refl

-- a fault of a part is that of the whole
pub fault_passes : {A B : Type 0} (e : ReadFault) (part : Result A SyntaxFault) (whole : Result B SyntaxFault)
    → ((fault : SyntaxFault) → part ≡ Err fault → whole ≡ Err fault) → IsFault e part → IsFault e whole
fault_passes Memory part whole passes h = tt
fault_passes (Refused fault) part whole passes h = passes fault h

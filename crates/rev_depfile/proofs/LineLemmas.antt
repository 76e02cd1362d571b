-- The lines of a text, read one after another.
use Rattle.std.proofs.Common.{◌≡◌, ℕ, ◌⊎◌, inl, inr, List, [], ◌∷◌, ◌++◌, take, drop, bytes_eq, Option, Some, None, Result, Ok, Err, refl, sym, ap, subst, ◌∙◌}
use Rattle.std.specs.List.{flat_map}
use Rattle.std.specs.Option.{option_or}
use Rattle.std.specs.Result.{IfErr, IsErrAnd}
use Rattle.indexmap.specs.IndexSet.{insert_all}
use Rattle.rev_depfile.specs.declared.fault.DepfileFault.{DepfileFault}
use Rattle.rev_depfile.specs.declared.fault.DepfileFault.TheVariants.{Memory}
use Rattle.rev_depfile.specs.declared.sign.Sign.{Sign}
use Rattle.rev_depfile.specs.Lines.{is_line_end, parts, place}
use Rattle.rev_depfile.specs.Value.{first_fault_in, line_fault, line_paths}
use Rattle.rev_depfile.proofs.WordLemmas.{parts-first, parts-none, parts-some, parts_after}
use Rattle.rev_paths.proofs.MentionLemmas.{insert_all-append}

-- what is known of a fault that is passed on
pub fault-passed : {X : Type 0} (r : Result X DepfileFault) (e : DepfileFault) (P : DepfileFault → Type 0) → IsErrAnd r (λ x. x ≡ e) → P e → IfErr r P
fault-passed (Ok x) e P h p = tt
fault-passed (Err x) e P h p = subst P (sym h) p

-- the fault of the first line is the first
first-here : (outputs : List (List ℕ)) (rest line : List Sign) (n : ℕ) (fault : DepfileFault) → n ≡ place is_line_end rest → line ≡ take n rest
    → line_fault outputs line ≡ Some fault → first_fault_in outputs (parts is_line_end rest) ≡ Some fault
first-here outputs rest line n fault e same h =
    ap (first_fault_in outputs) (parts-first is_line_end rest)
    ∙ ap (λ k. option_or (line_fault outputs (take k rest)) (first_fault_in outputs (parts_after is_line_end (drop k rest)))) (sym e)
    ∙ ap (λ l. option_or (line_fault outputs l) (first_fault_in outputs (parts_after is_line_end (drop n rest)))) (sym same)
    ∙ ap (λ o. option_or o (first_fault_in outputs (parts_after is_line_end (drop n rest)))) h

pub fault-here : (outputs : List (List ℕ)) (rest line : List Sign) (n : ℕ) (fault : DepfileFault) (all : Option DepfileFault) → n ≡ place is_line_end rest → line ≡ take n rest
    → first_fault_in outputs (parts is_line_end rest) ≡ all
    → (fault ≡ Memory) ⊎ (line_fault outputs line ≡ Some fault) → (fault ≡ Memory) ⊎ (all ≡ Some fault)
fault-here outputs rest line n fault all e same whole (inl h) = inl h
fault-here outputs rest line n fault all e same whole (inr h) = inr (sym whole ∙ first-here outputs rest line n fault e same h)

-- the last line
pub faults-last : (outputs : List (List ℕ)) (rest line : List Sign) (n : ℕ) → n ≡ place is_line_end rest → line ≡ take n rest → drop n rest ≡ []
    → line_fault outputs line ≡ None → first_fault_in outputs (parts is_line_end rest) ≡ None
faults-last outputs rest line n e same none h =
    ap (first_fault_in outputs) (parts-none is_line_end rest n e none) ∙ ap (λ l. option_or (line_fault outputs l) None) (sym same) ∙ ap (λ o. option_or o None) h

append_nil : (xs : List (List ℕ)) → xs ++ [] ≡ xs
append_nil [] = refl
append_nil (x ∷ xs) = ap (λ ys. x ∷ ys) (append_nil xs)

pub paths-last : (ks : List (List ℕ)) (rest line : List Sign) (n : ℕ) → n ≡ place is_line_end rest → line ≡ take n rest → drop n rest ≡ []
    → insert_all bytes_eq ks (line_paths line) ≡ insert_all bytes_eq ks (flat_map line_paths (parts is_line_end rest))
paths-last ks rest line n e same none =
    ap (insert_all bytes_eq ks) (sym (append_nil (line_paths line))) ∙ ap (λ l. insert_all bytes_eq ks (line_paths l ++ [])) same
    ∙ ap (λ ls. insert_all bytes_eq ks (flat_map line_paths ls)) (sym (parts-none is_line_end rest n e none))

-- one more line
pub faults-more : (outputs : List (List ℕ)) (rest line after : List Sign) (n : ℕ) (x : Sign) → n ≡ place is_line_end rest → line ≡ take n rest → drop n rest ≡ x ∷ after
    → line_fault outputs line ≡ None → first_fault_in outputs (parts is_line_end after) ≡ first_fault_in outputs (parts is_line_end rest)
faults-more outputs rest line after n x e same some h =
    sym (ap (first_fault_in outputs) (parts-some is_line_end rest after n x e some)
    ∙ ap (λ l. option_or (line_fault outputs l) (first_fault_in outputs (parts is_line_end after))) (sym same)
    ∙ ap (λ o. option_or o (first_fault_in outputs (parts is_line_end after))) h)

pub paths-more : (ks : List (List ℕ)) (rest line after : List Sign) (n : ℕ) (x : Sign) → n ≡ place is_line_end rest → line ≡ take n rest → drop n rest ≡ x ∷ after
    → insert_all bytes_eq (insert_all bytes_eq ks (line_paths line)) (flat_map line_paths (parts is_line_end after)) ≡ insert_all bytes_eq ks (flat_map line_paths (parts is_line_end rest))
paths-more ks rest line after n x e same some =
    sym (insert_all-append ks (line_paths line) (flat_map line_paths (parts is_line_end after)))
    ∙ ap (λ l. insert_all bytes_eq ks (line_paths l ++ flat_map line_paths (parts is_line_end after))) same
    ∙ ap (λ ls. insert_all bytes_eq ks (flat_map line_paths ls)) (sym (parts-some is_line_end rest after n x e some))

-- the same first fault in other words
pub fault-same : (fault : DepfileFault) (a b : Option DepfileFault) → a ≡ b → (fault ≡ Memory) ⊎ (a ≡ Some fault) → (fault ≡ Memory) ⊎ (b ≡ Some fault)
fault-same fault a b e (inl h) = inl h
fault-same fault a b e (inr h) = inr (sym e ∙ h)

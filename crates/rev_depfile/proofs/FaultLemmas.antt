-- The first fault asks of the outputs only which paths are among them.
use Rattle.std.proofs.Common.{◌≡◌, ℕ, not, ◌||◌, ◌&&◌, List, [], ◌∷◌, Some, bytes_eq, refl, ap, if◌then◌else◌}
use Rattle.std.specs.List.{list_any}
use Rattle.std.specs.Option.{option_or}
use Rattle.rev_depfile.specs.declared.fault.DepfileFault.TheVariants.{OtherTarget}
use Rattle.rev_depfile.specs.declared.sign.Sign.{Sign}
use Rattle.rev_depfile.specs.Lines.{words, before_colon, from_colon}
use Rattle.rev_depfile.specs.Value.{is_long, path_of, is_output, rule_fault, fault_by, first_fault_in, long_fault, line_at}

abbrev SameMembers : List (List ℕ) → List (List ℕ) → Type 0
SameMembers xs ys = (path : List ℕ) → list_any (bytes_eq path) xs ≡ list_any (bytes_eq path) ys

is_output-same : (xs ys : List (List ℕ)) → SameMembers xs ys → (word : List Sign) → is_output xs word ≡ is_output ys word
is_output-same xs ys same word = ap (λ t. not (is_long word) && t) (same (path_of word))

outputs-same : (xs ys : List (List ℕ)) → SameMembers xs ys → (ws : List (List Sign)) → list_any (is_output xs) ws ≡ list_any (is_output ys) ws
outputs-same xs ys same [] = refl
outputs-same xs ys same (w ∷ ws) = λ i. is_output-same xs ys same w i || outputs-same xs ys same ws i

rule_fault-same : (xs ys : List (List ℕ)) → SameMembers xs ys → (targets : List (List Sign)) (colon : Sign) (ws : List (List Sign))
    → rule_fault xs targets colon ws ≡ rule_fault ys targets colon ws
rule_fault-same xs ys same targets colon [] = refl
rule_fault-same xs ys same targets colon (w ∷ ws) = ap (λ t. if t then long_fault (w ∷ ws) else Some (OtherTarget (line_at targets colon))) (outputs-same xs ys same targets)

fault_by-same : (xs ys : List (List ℕ)) → SameMembers xs ys → (targets : List (List Sign)) (line : List Sign) → fault_by xs targets line ≡ fault_by ys targets line
fault_by-same xs ys same targets [] = refl
fault_by-same xs ys same targets (colon ∷ rest) = rule_fault-same xs ys same targets colon (words rest)

pub first_fault-same : (xs ys : List (List ℕ)) → SameMembers xs ys → (ls : List (List Sign)) → first_fault_in xs ls ≡ first_fault_in ys ls
first_fault-same xs ys same [] = refl
first_fault-same xs ys same (l ∷ ls) = λ i. option_or (fault_by-same xs ys same (words (before_colon l)) (from_colon l) i) (first_fault-same xs ys same ls i)

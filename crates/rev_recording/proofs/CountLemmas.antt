-- The words of counts, where a text got them part by part.
use Rattle.std.proofs.Common.{◌≡◌, ℕ, Bool, List, [], ◌++◌, Result, Ok, Err, append_assoc, ap, sym, ◌∙◌, ne_eqb}
use Rattle.std.specs.Prelude.{if◌then◌else◌, is_ok, codes}
use Rattle.std.specs.Result.{OnOk}
use Rattle.std.specs.Fmt.{decimal}
use Rattle.rev_recording.specs.Replayed.{others_end, others_words, refused_words}

-- a text to which bytes were added, where they were
pub extended : {T E : Type 0} (r : Result T E) (after before more : List ℕ)
    → after ≡ (if is_ok r then before ++ more else before) → OnOk r (after ≡ before ++ more)
extended (Ok value) after before more is = is
extended (Err fault) after before more is = tt

-- three parts, one behind the other
three : (old a b c x y z : List ℕ) → x ≡ old ++ a → y ≡ x ++ b → z ≡ y ++ c → z ≡ old ++ (a ++ b ++ c)
three old a b c x y z first second third =
    third ∙ ap (λ (l : List ℕ). l ++ c) (second ∙ ap (λ (l : List ℕ). l ++ b) first ∙ append_assoc old a b) ∙ append_assoc old (a ++ b) c

pub some-others : (n : ℕ) (old x y z : List ℕ) → (n ≡ 0 → ⊥) → x ≡ old ++ codes " and " → y ≡ x ++ decimal n → z ≡ y ++ others_end n
    → z ≡ old ++ others_words n
some-others n old x y z some first second third =
    three old (codes " and ") (decimal n) (others_end n) x y z first second third
    ∙ ap (λ (b : Bool). old ++ (if b then [] else codes " and " ++ decimal n ++ others_end n)) (sym (ne_eqb n 0 some))

pub some-refused : (n : ℕ) (old x y z : List ℕ) → (n ≡ 0 → ⊥) → x ≡ old ++ codes ", " → y ≡ x ++ decimal n → z ≡ y ++ codes " refused\n"
    → z ≡ old ++ refused_words n
some-refused n old x y z some first second third =
    three old (codes ", ") (decimal n) (codes " refused\n") x y z first second third
    ∙ ap (λ (b : Bool). old ++ (if b then codes ", none refused\n" else codes ", " ++ decimal n ++ codes " refused\n")) (sym (ne_eqb n 0 some))

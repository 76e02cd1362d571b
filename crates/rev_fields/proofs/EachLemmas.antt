-- What each of some parts says, one part after the other.
use Rattle.std.proofs.Common.{◌≡◌, ℕ, ◌<◌, ◌≤◌, ◌+◌, List, [], ◌∷◌, ◌++◌, length, get_or, drop, refl, sym, ap, ◌∙◌, append_assoc, Result, Ok, Err}
use Rattle.std.proofs.lemmas.List.{at_drop_more, drop_all, append-nil}
use Rattle.rev_fields.specs.declared.faults.FaultKind.{FaultKind}
use Rattle.rev_fields.specs.Faults.{◌>>=◌, each_of}

-- what follows, after values that are read already
abbrev pub after : {B : Type 0} → List B → Result (List B) FaultKind → Result (List B) FaultKind
after out rest = rest >>= λ bs. Ok (out ++ bs)

pub after-empty : {B : Type 0} (rest : Result (List B) FaultKind) → after [] rest ≡ rest
after-empty (Ok bs) = refl
after-empty (Err kind) = refl

after-more : {B : Type 0} (out : List B) (b : B) (rest : Result (List B) FaultKind) → after out (rest >>= λ bs. Ok (b ∷ bs)) ≡ after (out ++ b ∷ []) rest
after-more out b (Ok bs) = ap Ok (sym (append_assoc out (b ∷ []) bs))
after-more out b (Err kind) = refl

-- one more part
pub each_step : {A B : Type 0} (said : A → Result B FaultKind) (xs : List A) (out : List B) (i : ℕ) (d : A) (b : B) → i < length xs → said (get_or xs i d) ≡ Ok b → after out (each_of said (drop i xs)) ≡ each_of said xs → after (out ++ b ∷ []) (each_of said (drop (i + 1) xs)) ≡ each_of said xs
each_step said xs out i d b lt e inv =
    sym (after-more out b (each_of said (drop (i + 1) xs)))
    ∙ ap (λ r. after out (r >>= λ b. each_of said (drop (i + 1) xs) >>= λ bs. Ok (b ∷ bs))) (sym e) ∙ ap (after out) (sym (at_drop_more (each_of said) xs i d lt)) ∙ inv

-- a part at fault
pub each_fault : {A B : Type 0} (said : A → Result B FaultKind) (xs : List A) (out : List B) (i : ℕ) (d : A) (kind : FaultKind) → i < length xs → said (get_or xs i d) ≡ Err kind → after out (each_of said (drop i xs)) ≡ each_of said xs → each_of said xs ≡ Err kind
each_fault said xs out i d kind lt e inv =
    sym inv ∙ ap (after out) (at_drop_more (each_of said) xs i d lt) ∙ ap (λ r. after out (r >>= λ b. each_of said (drop (i + 1) xs) >>= λ bs. Ok (b ∷ bs))) e

-- where the parts end
pub each_all : {A B : Type 0} (said : A → Result B FaultKind) (xs : List A) (out : List B) (i : ℕ) → length xs ≤ i → after out (each_of said (drop i xs)) ≡ each_of said xs → each_of said xs ≡ Ok out
each_all said xs out i h inv = sym inv ∙ ap (λ bs. after out (each_of said bs)) (drop_all i xs h) ∙ ap Ok (append-nil out)

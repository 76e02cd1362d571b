-- What lines say, one more of them.
use Rattle.std.proofs.Common.{◌≡◌, ℕ, suc, ◌<◌, ◌≤◌, ◌+◌, true, false, cond, ◌==◌, List, [], ◌∷◌, ◌++◌, length, get_or, take, refl, sym, ap, ◌∙◌, arith, Some, None, Result, Ok, Err}
use Rattle.std.proofs.lemmas.Bool.{false≢true, ne_eqb}
use Rattle.std.proofs.lemmas.List.{take_more, take_all, append-nil}
use Rattle.std.proofs.lemmas.List.Elements.{filter_map-append}
use Rattle.std.specs.Result.{result_ok, result_err}
use Rattle.std.specs.List.{cons_option}
use Rattle.rev_fields.specs.declared.faults.FaultKind.{FaultKind}
use Rattle.rev_fields.specs.declared.faults.FaultKind.TheVariants.{Syntax}
use Rattle.rev_fields.specs.Lines.{is_blank, said_by, wrong_by}

pub is_blank-length : (bs : List ℕ) → is_blank bs ≡ (length bs == 0)
is_blank-length [] = refl
is_blank-length (b ∷ bs) = sym (ne_eqb (suc (length bs)) 0 (λ e. omega (arith, e)))

pub said-blank : {T : Type 0} (said : List ℕ → Result T FaultKind) (line : List ℕ) → said [] ≡ Err Syntax → is_blank line ≡ true → said line ≡ Err Syntax
said-blank said [] none blank = none
said-blank said (b ∷ bs) none blank = absurd (false≢true blank)

pub wrong_by-blank : {T : Type 0} (said : List ℕ → Result T FaultKind) (line : List ℕ) → is_blank line ≡ true → wrong_by said line ≡ None
wrong_by-blank said line blank = ap (λ b. cond b None (result_err (said line))) blank

pub wrong_by-ok : {T : Type 0} (said : List ℕ → Result T FaultKind) (line : List ℕ) (x : T) → is_blank line ≡ false → said line ≡ Ok x → wrong_by said line ≡ None
wrong_by-ok said line x blank e = ap (λ b. cond b None (result_err (said line))) blank ∙ ap result_err e

pub wrong_by-err : {T : Type 0} (said : List ℕ → Result T FaultKind) (line : List ℕ) (kind : FaultKind) → is_blank line ≡ false → said line ≡ Err kind → wrong_by said line ≡ Some kind
wrong_by-err said line kind blank e = ap (λ b. cond b None (result_err (said line))) blank ∙ ap result_err e

said_by-more : {T : Type 0} (said : List ℕ → Result T FaultKind) (lines : List (List ℕ)) (i : ℕ) → i < length lines → said_by said (take (i + 1) lines) ≡ said_by said (take i lines) ++ cons_option (result_ok (said (get_or lines i []))) []
said_by-more said lines i lt =
    ap (said_by said) (take_more lines i [] lt) ∙ filter_map-append (λ line. result_ok (said line)) (take i lines) (get_or lines i [] ∷ [])

-- the line at a place says this
pub said_step : {T : Type 0} (said : List ℕ → Result T FaultKind) (lines : List (List ℕ)) (out : List T) (i : ℕ) (x : T) → i < length lines → said (get_or lines i []) ≡ Ok x → out ≡ said_by said (take i lines) → out ++ x ∷ [] ≡ said_by said (take (i + 1) lines)
said_step said lines out i x lt e inv =
    ap (λ o. o ++ x ∷ []) inv ∙ ap (λ r. said_by said (take i lines) ++ cons_option (result_ok r) []) (sym e) ∙ sym (said_by-more said lines i lt)

-- the line at a place says nothing
pub unsaid_step : {T : Type 0} (said : List ℕ → Result T FaultKind) (lines : List (List ℕ)) (out : List T) (i : ℕ) (kind : FaultKind) → i < length lines → said (get_or lines i []) ≡ Err kind → out ≡ said_by said (take i lines) → out ≡ said_by said (take (i + 1) lines)
unsaid_step said lines out i kind lt e inv =
    inv ∙ sym (append-nil (said_by said (take i lines))) ∙ ap (λ r. said_by said (take i lines) ++ cons_option (result_ok r) []) (sym e) ∙ sym (said_by-more said lines i lt)

pub said_all : {T : Type 0} (said : List ℕ → Result T FaultKind) (lines : List (List ℕ)) (out : List T) (i : ℕ) → length lines ≤ i → out ≡ said_by said (take i lines) → out ≡ said_by said lines
said_all said lines out i h inv = inv ∙ ap (said_by said) (take_all i lines h)

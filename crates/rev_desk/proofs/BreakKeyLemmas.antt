-- BreakKeys that are the same are one, and the map's test is that of break_keys.
use Rattle.std.proofs.Common.{◌≡◌, ℕ, Bool, true, false, cond, List, [], Option, Some, None, Result, Ok, Err, OnErr, refl, sym, ap, ◌∙◌, eqb-true, bytes_eq, rules}
use Rattle.std.proofs.lemmas.Slice.Eq.{bytes_eq-Decides}
use Rattle.rev_desk.specs.declared.break_key.BreakKey.{BreakKey}
use Rattle.rev_desk.specs.declared.break_key.BreakKey.TheVariants as break_key
use Rattle.rev_desk.specs.contracts.break_key.BreakKeyPartialEq.TheImpl as same
use Rattle.std.specs.Map.{lookup}
use Rattle.std.specs.declared.alloc.Global.{Global}
use Rattle.std.specs.declared.vec.Vec.{Vec}
use Rattle.rev_desk.specs.BreakKeys.{same_break_key}
use Rattle.rev_desk.specs.Breaks.{items_of, listed_at}

abbrev pub break_key_eq : BreakKey → BreakKey → Bool
break_key_eq = same.ghosts.eq

break_key_eq-same : (a b : BreakKey) → break_key_eq a b ≡ same_break_key a b
break_key_eq-same (break_key.Start a) (break_key.Start b) = refl
break_key_eq-same (break_key.Finish a) (break_key.Finish b) = refl
break_key_eq-same (break_key.Fail a) (break_key.Fail b) = refl
break_key_eq-same (break_key.Abort a) (break_key.Abort b) = refl
break_key_eq-same (break_key.Clean a) (break_key.Clean b) = refl
break_key_eq-same (break_key.Pass a) (break_key.Pass b) = refl
break_key_eq-same (break_key.Touch p) (break_key.Touch q) = refl
break_key_eq-same break_key.Plan break_key.Plan = refl
break_key_eq-same break_key.Interrupt break_key.Interrupt = refl
break_key_eq-same _ _ = refl

pub break_key_eq-is : break_key_eq ≡ same_break_key
break_key_eq-is i a b = break_key_eq-same a b i

pub same_break_key-exact : (a b : BreakKey) → same_break_key a b ≡ true → a ≡ b
same_break_key-exact (break_key.Start a) (break_key.Start b) h = ap break_key.Start (eqb-true a b h)
same_break_key-exact (break_key.Finish a) (break_key.Finish b) h = ap break_key.Finish (eqb-true a b h)
same_break_key-exact (break_key.Fail a) (break_key.Fail b) h = ap break_key.Fail (eqb-true a b h)
same_break_key-exact (break_key.Abort a) (break_key.Abort b) h = ap break_key.Abort (eqb-true a b h)
same_break_key-exact (break_key.Clean a) (break_key.Clean b) h = ap break_key.Clean (eqb-true a b h)
same_break_key-exact (break_key.Pass a) (break_key.Pass b) h = ap break_key.Pass (eqb-true a b h)
same_break_key-exact (break_key.Touch p) (break_key.Touch q) h = ap break_key.Touch (search (rules, bytes_eq-Decides p q, h))
same_break_key-exact break_key.Plan break_key.Plan h = refl
same_break_key-exact break_key.Interrupt break_key.Interrupt h = refl
same_break_key-exact _ _ h = cc

-- what is found by the map's test is what stands beside the break_key
pub listed_by_eq : (es : List (BreakKey × Vec ℕ Global)) (s : BreakKey) → items_of (lookup (break_key_eq s) es) ≡ listed_at es s
listed_by_eq es s = ap (λ (E : BreakKey → BreakKey → Bool). items_of (lookup (E s) es)) break_key_eq-is

by_break_key : (old new : List (BreakKey × Vec ℕ Global)) (break_key : BreakKey) (w : Vec ℕ Global) → ((q : BreakKey) → lookup (break_key_eq q) new ≡ cond (break_key_eq break_key q) (Some w) (lookup (break_key_eq q) old))
    → (s : BreakKey) → listed_at new s ≡ items_of (cond (same_break_key break_key s) (Some w) (lookup (same_break_key s) old))
by_break_key old new break_key w h s =
    sym (listed_by_eq new s) ∙ ap items_of (h s)
    ∙ ap (λ (E : BreakKey → BreakKey → Bool). items_of (cond (E break_key s) (Some w) (lookup (E s) old))) break_key_eq-is

-- beside one break_key stands another list, made of the former
pub listed-update : (old new : List (BreakKey × Vec ℕ Global)) (break_key : BreakKey) (w : Vec ℕ Global) (f : List ℕ → List ℕ) → ((q : BreakKey) → lookup (break_key_eq q) new ≡ cond (break_key_eq break_key q) (Some w) (lookup (break_key_eq q) old))
    → w.items ≡ f (listed_at old break_key) → (s : BreakKey) → listed_at new s ≡ cond (same_break_key break_key s) (f (listed_at old s)) (listed_at old s)
listed-update old new break_key w f h is s = by_break_key old new break_key w h s ∙ by_case (same_break_key break_key s) refl
  where
    by_case : (t : Bool) → same_break_key break_key s ≡ t → items_of (cond (same_break_key break_key s) (Some w) (lookup (same_break_key s) old)) ≡ cond (same_break_key break_key s) (f (listed_at old s)) (listed_at old s)
    by_case true e =
        ap (λ v. items_of (cond v (Some w) (lookup (same_break_key s) old))) e ∙ is ∙ ap (λ q. f (listed_at old q)) (same_break_key-exact break_key s e)
        ∙ sym (ap (λ v. cond v (f (listed_at old s)) (listed_at old s)) e)
    by_case false e =
        ap (λ v. items_of (cond v (Some w) (lookup (same_break_key s) old))) e ∙ sym (ap (λ v. cond v (f (listed_at old s)) (listed_at old s)) e)

either : {A : Type 0} (t : Bool) (a : A) → cond t a a ≡ a
either true a = refl
either false a = refl

-- the same list stands there
pub listed-same : (old new : List (BreakKey × Vec ℕ Global)) (break_key : BreakKey) (w : Vec ℕ Global) → ((q : BreakKey) → lookup (break_key_eq q) new ≡ cond (break_key_eq break_key q) (Some w) (lookup (break_key_eq q) old))
    → w.items ≡ listed_at old break_key → (s : BreakKey) → listed_at new s ≡ listed_at old s
listed-same old new break_key w h is s = listed-update old new break_key w (λ ns. ns) h is s ∙ either (same_break_key break_key s) (listed_at old s)

pub on_err : {T E : Type 0} (r : Result T E) (P : Type 0) → P → OnErr r P
on_err (Ok x) P p = tt
on_err (Err e) P p = p

-- Commands, with one more or with another one at a place.
use Rattle.std.proofs.Common.{◌≡◌, ℕ, zero, suc, ◌-◌, ◌<◌, nat_lt, Bool, true, false, is_none, is_some, List, [], ◌∷◌, ◌++◌, length, get_or, set, take, Option, Some, None, Ok, Err, if◌then◌else◌, bytes_eq, refl, sym, ap, ◌∙◌, subst, arith, length-append}
use Rattle.std.specs.List.{list_all}
use Rattle.std.proofs.lemmas.Bool.{and_parts, ltb-true}
use Rattle.std.proofs.lemmas.List.Folds.{list_any_at}
use Rattle.std.proofs.lemmas.List.Quantifiers.{position-Some}
use Rattle.rev_paths.specs.Paths.{place_of, with_name}
use Rattle.rev_paths.proofs.PlaceLemmas.{with_name-new}
use Rattle.rev_observed.specs.declared.command.Uses.{Uses}
use Rattle.rev_observed.specs.declared.flags.Flags.{Flags}
use Rattle.rev_observed.specs.declared.kind.Kind.{Kind}
use Rattle.rev_observed.specs.declared.faults.FaultKind.TheVariants.{Double}
use Rattle.rev_observed.specs.CommandValues.{AreUses, CommandValue, may_take, new_command}
use Rattle.rev_observed.specs.Kinds.{rank_of}
use Rattle.rev_observed.specs.Observations.{ObservationValue, commands_put, has_name, last_of, outputs_of, path_put}
use Rattle.rev_observed.specs.Within.{AreWithin, UsesAreWithin}
use Rattle.rev_observed.proofs.SetLemmas.{each_more}

-- uses with one more, whose kind is above theirs
pub uses_more : (us : List Uses) (u : Uses) → AreUses us → list_all (λ (v : Uses). nat_lt (rank_of v.kind) (rank_of u.kind)) us ≡ true → 0 < length u.paths → AreUses (us ++ u ∷ [])
uses_more [] u h below some = (some, tt, tt)
uses_more (v ∷ vs) u h below some =
    let parts = and_parts (nat_lt (rank_of v.kind) (rank_of u.kind)) (list_all (λ (v : Uses). nat_lt (rank_of v.kind) (rank_of u.kind)) vs) below in
    (h.0, each_more (λ (w : Uses). rank_of v.kind < rank_of w.kind) vs u h.1 (ltb-true (rank_of v.kind) (rank_of u.kind) parts.0), uses_more vs u h.2 parts.1 some)

-- a command that may take a kind has lesser ones alone
pub lesser_kinds : (kind : Kind) (c : CommandValue) → may_take kind c ≡ true → list_all (λ (u : Uses). nat_lt (rank_of u.kind) (rank_of kind)) c.uses ≡ true
lesser_kinds kind c h =
    (and_parts (is_none c.outside) (list_all (λ (u : Uses). nat_lt (rank_of u.kind) (rank_of kind)) c.uses) h).1

-- the outputs stay where a command becomes another one with the same output
pub outputs_of-set : (cs : List CommandValue) (i : ℕ) (c d : CommandValue) → c ≡ get_or cs i c → d.output ≡ c.output → outputs_of (set cs i d) ≡ outputs_of cs
outputs_of-set [] i c d is e = refl
outputs_of-set (x ∷ xs) zero c d is e = ap (λ o. o ∷ outputs_of xs) (e ∙ ap (λ (c : CommandValue). c.output) is)
outputs_of-set (x ∷ xs) (suc i) c d is e = ap (λ os. x.output ∷ os) (outputs_of-set xs i c d is e)

pub outputs_of-push : (cs : List CommandValue) (c : CommandValue) → outputs_of (cs ++ c ∷ []) ≡ outputs_of cs ++ c.output ∷ []
outputs_of-push [] c = refl
outputs_of-push (x ∷ xs) c = ap (λ os. x.output ∷ os) (outputs_of-push xs c)

-- numbers stay below the count where a command becomes another one whose numbers are
pub within-set : (n : ℕ) (cs : List CommandValue) (i : ℕ) (c d : CommandValue) → c ≡ get_or cs i c → (UsesAreWithin n c.uses → UsesAreWithin n d.uses) → AreWithin n cs → AreWithin n (set cs i d)
within-set n [] i c d is f h = h
within-set n (x ∷ xs) zero c d is f h =
    let P : CommandValue → Type 0 = λ c. UsesAreWithin n c.uses in (f (subst P (sym is) h.0), h.1)
within-set n (x ∷ xs) (suc i) c d is f h = (h.0, within-set n xs i c d is f h.1)

pub within-push : (n : ℕ) (cs : List CommandValue) (c : CommandValue) → AreWithin n cs → UsesAreWithin n c.uses → AreWithin n (cs ++ c ∷ [])
within-push n cs c h u = each_more (λ (c : CommandValue). UsesAreWithin n c.uses) cs c h u

-- a name that has a place is there
pub has_name-there : (name : List ℕ) (names : List (List ℕ)) → is_some (place_of name names) ≡ true → has_name names name ≡ true
has_name-there name names h =
    by (place_of name names) refl h
  where
    by : (o : Option ℕ) → place_of name names ≡ o → is_some o ≡ true → has_name names name ≡ true
    by None e h = cc
    by (Some i) e h =
        let found = position-Some (bytes_eq name) names i [] e in
        list_any_at (bytes_eq name) names i [] found.0 found.1

-- a path that has its number already
pub path_put-double : (o : ObservationValue) (path : List ℕ) → has_name o.paths path ≡ true → path_put o path ≡ Err Double
path_put-double o path h = ap (λ b. if b then Err Double else Ok (record o { paths = o.paths ++ path ∷ [] })) h

-- a name that has no place is not there
pub has_name-absent : (name : List ℕ) (names : List (List ℕ)) → is_some (place_of name names) ≡ false → has_name names name ≡ false
has_name-absent name names h =
    by (has_name names name) refl
  where
    none : (o : Option ℕ) → is_some o ≡ false → o ≡ None
    none None e = refl
    none (Some i) e = cc

    by : (b : Bool) → has_name names name ≡ b → has_name names name ≡ false
    by true e =
        let same : names ≡ names ++ name ∷ [] = ap (λ b. if b then names else names ++ name ∷ []) (sym e) ∙ with_name-new name names (none (place_of name names) h) in
        absurd (omega (arith, ap length same, length-append names (name ∷ [])))
    by false e = e

pub with_name-fresh : (name : List ℕ) (names : List (List ℕ)) → has_name names name ≡ false → with_name name names ≡ names ++ name ∷ []
with_name-fresh name names h = ap (λ b. if b then names else names ++ name ∷ []) h

pub commands_put-double : (cs : List CommandValue) (output : List ℕ) (flags : Flags) → has_name (outputs_of cs) output ≡ true → commands_put cs output flags ≡ Err Double
commands_put-double cs output flags h =
    ap (λ b. if b then Err Double else Ok (cs ++ new_command output flags ∷ [])) h

pub commands_put-fresh : (cs : List CommandValue) (output : List ℕ) (flags : Flags) → has_name (outputs_of cs) output ≡ false → commands_put cs output flags ≡ Ok (cs ++ new_command output flags ∷ [])
commands_put-fresh cs output flags h =
    ap (λ b. if b then Err Double else Ok (cs ++ new_command output flags ∷ [])) h

-- what is left where the last of them is taken away
pub popped : (cs pushed : List CommandValue) (c : CommandValue) (n : ℕ) → pushed ≡ cs ++ c ∷ [] → n ≡ length pushed → take (n - 1) pushed ≡ cs
popped cs pushed c n is many =
    let count : n - 1 ≡ length cs = omega (arith, many, ap length is, length-append cs (c ∷ [])) in
    ap (λ k. take k pushed) count ∙ ap (take (length cs)) is ∙ take_front cs (c ∷ [])
  where
    take_front : (xs ys : List CommandValue) → take (length xs) (xs ++ ys) ≡ xs
    take_front [] [] = refl
    take_front [] (y ∷ ys) = refl
    take_front (x ∷ xs) ys = ap (λ l. x ∷ l) (take_front xs ys)

-- a last command is there
pub last_there : (cs : List CommandValue) (c : CommandValue) → last_of cs ≡ Some c → 0 < length cs
last_there [] c e = absurd (let no : ◌≡◌ {A = Option CommandValue} None (Some c) = e in cc)
last_there (x ∷ xs) c e = omega arith

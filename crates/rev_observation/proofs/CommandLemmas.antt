-- Commands, with one more or with another one at a place.
use Rattle.std.proofs.Common.{◌≡◌, ℕ, zero, suc, ◌-◌, ◌<◌, ◌≤◌, Bool, true, false, is_none, is_some, List, [], ◌∷◌, ◌++◌, length, get_or, set, take, Option, Some, None, Ok, Err, if◌then◌else◌, bytes_eq, refl, sym, ap, ◌∙◌, subst, arith, length-append}
use Rattle.std.proofs.lemmas.List.Folds.{list_any_at}
use Rattle.std.proofs.lemmas.List.Quantifiers.{position-Some}
use Rattle.rev_paths.specs.Paths.{place_of, with_name}
use Rattle.rev_paths.proofs.PlaceLemmas.{with_name-new}
use Rattle.rev_observed.specs.declared.faults.FaultKind.TheVariants.{Double}
use Rattle.rev_observed.specs.declared.path_set.PathRange.{PathRange}
use Rattle.rev_observed.specs.Within.{RangesAreWithin}
use Rattle.rev_observed.proofs.SetLemmas.{each_more, each_weaker}
use Rattle.rev_observation.specs.declared.blocks.Line.{Line}
use Rattle.rev_observation.specs.Blocks.{AreWithin, CommandValue, LinesAreWithin, last_of, new_command, outputs_of}
use Rattle.rev_observation.specs.Entries.{has_name}
use Rattle.rev_observation.specs.Observations.{commands_put}

-- numbers below a count are below a greater one
pub ranges-more : (m n : ℕ) → m ≤ n → (rs : List PathRange) → RangesAreWithin m rs → RangesAreWithin n rs
ranges-more m n le rs h =
    each_weaker (λ (r : PathRange). r.last < m) (λ (r : PathRange). r.last < n) (λ r p. omega (arith, p, le)) rs h

pub lines-more : (m n : ℕ) → m ≤ n → (ls : List Line) → LinesAreWithin m ls → LinesAreWithin n ls
lines-more m n le ls h =
    each_weaker (λ (l : Line). RangesAreWithin m l.entries) (λ (l : Line). RangesAreWithin n l.entries) (λ l p. ranges-more m n le l.entries p) ls h

pub within-more : (m n : ℕ) → m ≤ n → (cs : List CommandValue) → AreWithin m cs → AreWithin n cs
within-more m n le cs h =
    each_weaker (λ (c : CommandValue). LinesAreWithin m c.lines) (λ (c : CommandValue). LinesAreWithin n c.lines) (λ c p. lines-more m n le c.lines p) cs h

-- one more line
pub lines-push : (n : ℕ) (ls : List Line) (l : Line) → LinesAreWithin n ls → RangesAreWithin n l.entries → LinesAreWithin n (ls ++ l ∷ [])
lines-push n ls l h r = each_more (λ (l : Line). RangesAreWithin n l.entries) ls l h r

-- the outputs stay where a command becomes another one with the same output
pub outputs_of-set : (cs : List CommandValue) (i : ℕ) (c d : CommandValue) → c ≡ get_or cs i c → d.output ≡ c.output → outputs_of (set cs i d) ≡ outputs_of cs
outputs_of-set [] i c d is e = refl
outputs_of-set (x ∷ xs) zero c d is e = ap (λ o. o ∷ outputs_of xs) (e ∙ ap (λ (c : CommandValue). c.output) is)
outputs_of-set (x ∷ xs) (suc i) c d is e = ap (λ os. x.output ∷ os) (outputs_of-set xs i c d is e)

pub outputs_of-push : (cs : List CommandValue) (c : CommandValue) → outputs_of (cs ++ c ∷ []) ≡ outputs_of cs ++ c.output ∷ []
outputs_of-push [] c = refl
outputs_of-push (x ∷ xs) c = ap (λ os. x.output ∷ os) (outputs_of-push xs c)

-- numbers stay below the count where a command becomes another one whose numbers are
pub within-set : (n : ℕ) (cs : List CommandValue) (i : ℕ) (c d : CommandValue) → c ≡ get_or cs i c → (LinesAreWithin n c.lines → LinesAreWithin n d.lines) → AreWithin n cs → AreWithin n (set cs i d)
within-set n [] i c d is f h = h
within-set n (x ∷ xs) zero c d is f h =
    let P : CommandValue → Type 0 = λ c. LinesAreWithin n c.lines in (f (subst P (sym is) h.0), h.1)
within-set n (x ∷ xs) (suc i) c d is f h = (h.0, within-set n xs i c d is f h.1)

pub within-push : (n : ℕ) (cs : List CommandValue) (c : CommandValue) → AreWithin n cs → LinesAreWithin n c.lines → AreWithin n (cs ++ c ∷ [])
within-push n cs c h u = each_more (λ (c : CommandValue). LinesAreWithin n c.lines) cs c h u

-- a name that has a place is there
pub has_name-there : (name : List ℕ) (names : List (List ℕ)) → is_some (place_of name names) ≡ true → has_name names name ≡ true
has_name-there name names h =
    by (place_of name names) refl h
  where
    by : (o : Option ℕ) → place_of name names ≡ o → is_some o ≡ true → has_name names name ≡ true
    by None e h = cc
    by (Some i) e h =
        let found = position-Some (bytes_eq name) names i [] e in
        list_any_at (bytes_eq name) names i [] found.0 found.1

-- a name that has no place is not there
pub has_name-absent : (name : List ℕ) (names : List (List ℕ)) → is_some (place_of name names) ≡ false → has_name names name ≡ false
has_name-absent name names h =
    by (has_name names name) refl
  where
    none : (o : Option ℕ) → is_some o ≡ false → o ≡ None
    none None e = refl
    none (Some i) e = cc

    by : (b : Bool) → has_name names name ≡ b → has_name names name ≡ false
    by true e =
        let same : names ≡ names ++ name ∷ [] = ap (λ b. if b then names else names ++ name ∷ []) (sym e) ∙ with_name-new name names (none (place_of name names) h) in
        absurd (omega (arith, ap length same, length-append names (name ∷ [])))
    by false e = e

pub with_name-fresh : (name : List ℕ) (names : List (List ℕ)) → has_name names name ≡ false → with_name name names ≡ names ++ name ∷ []
with_name-fresh name names h = ap (λ b. if b then names else names ++ name ∷ []) h

pub commands_put-double : (cs : List CommandValue) (output : List ℕ) → has_name (outputs_of cs) output ≡ true → commands_put cs output ≡ Err Double
commands_put-double cs output h =
    ap (λ b. if b then Err Double else Ok (cs ++ new_command output ∷ [])) h

pub commands_put-fresh : (cs : List CommandValue) (output : List ℕ) → has_name (outputs_of cs) output ≡ false → commands_put cs output ≡ Ok (cs ++ new_command output ∷ [])
commands_put-fresh cs output h =
    ap (λ b. if b then Err Double else Ok (cs ++ new_command output ∷ [])) h

-- the first of two lists
take_front : {T : Type 0} (xs ys : List T) → take (length xs) (xs ++ ys) ≡ xs
take_front [] [] = refl
take_front [] (y ∷ ys) = refl
take_front (x ∷ xs) ys = ap (λ l. x ∷ l) (take_front xs ys)

-- what is left where the last of them is taken away
pub popped : {T : Type 0} (cs pushed : List T) (c : T) (n : ℕ) → pushed ≡ cs ++ c ∷ [] → n ≡ length pushed → take (n - 1) pushed ≡ cs
popped cs pushed c n is many =
    let count : n - 1 ≡ length cs = omega (arith, many, ap length is, length-append cs (c ∷ [])) in
    ap (λ k. take k pushed) count ∙ ap (take (length cs)) is ∙ take_front cs (c ∷ [])

-- a last command is there
pub last_there : (cs : List CommandValue) (c : CommandValue) → last_of cs ≡ Some c → 0 < length cs
last_there [] c e = absurd (let no : ◌≡◌ {A = Option CommandValue} None (Some c) = e in cc)
last_there (x ∷ xs) c e = omega arith

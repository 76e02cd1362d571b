-- Paths that a statement lists and an edge's own line does not.
use Rattle.std.proofs.Common.{◌≡◌, ℕ, Bool, true, false, ◌&&◌, ◌||◌, not, List, [], ◌∷◌, ◌++◌, Option, Some, None, is_some, bytes_eq, if◌then◌else◌, refl, sym, ap, ◌∙◌}
use Rattle.std.proofs.lemmas.List.Folds.{list_any_at}
use Rattle.std.proofs.lemmas.List.Quantifiers.{position-Some}
use Rattle.indexmap.proofs.CallerLemmas.{Contains-list_any}
use Rattle.rev_paths.specs.Paths.{place_of, with_name}
use Rattle.rev_paths.proofs.PlaceLemmas.{place_of-absent, same_bytes}
use Rattle.rev_dyndep.specs.Told.{without}
use Rattle.rev_dyndep.specs.Origins.{AreAdded, PathsAreAdded, is_in, own_inputs, own_outputs, with_names}

or_false : (b : Bool) → b ≡ (b || false)
or_false true = refl
or_false false = refl

or_assoc : (a b c : Bool) → ((a || b) || c) ≡ (a || (b || c))
or_assoc true b c = refl
or_assoc false b c = refl

and_false : (a b : Bool) → (a && false) ≡ (b && false)
and_false true true = refl
and_false true false = refl
and_false false true = refl
and_false false false = refl

-- a path is among a list or among what stands behind it
in-append : (path : List ℕ) (one other : List (List ℕ)) → is_in path (one ++ other) ≡ (is_in path one || is_in path other)
in-append path [] other = refl
in-append path (p ∷ one) other = ap (λ b. bytes_eq path p || b) (in-append path one other) ∙ sym (or_assoc (bytes_eq path p) (is_in path one) (is_in path other))

-- a path that is among others has a place there
in-place : (path : List ℕ) (paths : List (List ℕ)) → is_some (place_of path paths) ≡ is_in path paths
in-place path paths = by (place_of path paths) refl
  where
    absent : place_of path paths ≡ None → (b : Bool) → is_in path paths ≡ b → false ≡ is_in path paths
    absent none true e = absurd (place_of-absent path paths none (Contains-list_any bytes_eq same_bytes paths path e))
    absent none false e = sym e

    by : (o : Option ℕ) → place_of path paths ≡ o → is_some o ≡ is_in path paths
    by (Some i) e =
        let found = position-Some (bytes_eq path) paths i [] e in
        sym (list_any_at (bytes_eq path) paths i [] found.0 found.1)
    by None e = absent e (is_in path paths) refl

-- a path that is added to a set is in it, and so is what was
in-name : (path name : List ℕ) (set : List (List ℕ)) → is_in path (with_name name set) ≡ (is_in path set || bytes_eq path name)
in-name path name set = by (is_in name set) refl
  where
    known : (b : Bool) → bytes_eq path name ≡ b → is_in name set ≡ true → is_in path set ≡ (is_in path set || b)
    known true same e =
        let there : is_in path set ≡ true = ap (λ n. is_in n set) (same_bytes path name same) ∙ e in
        there ∙ sym (ap (λ b. b || true) there)
    known false same e = or_false (is_in path set)

    by : (b : Bool) → is_in name set ≡ b → is_in path (if b then set else set ++ name ∷ []) ≡ (is_in path set || bytes_eq path name)
    by true e = known (bytes_eq path name) refl e
    by false e = in-append path set (name ∷ []) ∙ ap (λ b. is_in path set || b) (sym (or_false (bytes_eq path name)))

-- a set with further paths has what it had, and these
in-names : (path : List ℕ) (paths set : List (List ℕ)) → is_in path (with_names paths set) ≡ (is_in path set || is_in path paths)
in-names path [] set = or_false (is_in path set)
in-names path (name ∷ paths) set =
    in-names path paths (with_name name set) ∙ ap (λ b. b || is_in path paths) (in-name path name set)
    ∙ or_assoc (is_in path set) (bytes_eq path name) (is_in path paths)

-- what is left of paths without a set
in-without : (path : List ℕ) (set paths : List (List ℕ)) → is_in path (without set paths) ≡ (is_in path paths && not (is_in path set))
in-without path set [] = refl
in-without path set (p ∷ paths) = by (is_some (place_of p set)) refl (bytes_eq path p) refl (in-without path set paths)
  where
    same : bytes_eq path p ≡ true → is_in path set ≡ is_some (place_of p set)
    same e = ap (λ n. is_in n set) (same_bytes path p e) ∙ sym (in-place p set)

    taken : is_in path set ≡ true → (a b : Bool) → (a && not (is_in path set)) ≡ (b && not (is_in path set))
    taken there a b = ap (λ t. a && not t) there ∙ and_false a b ∙ sym (ap (λ t. b && not t) there)

    by : (t : Bool) → is_some (place_of p set) ≡ t → (e : Bool) → bytes_eq path p ≡ e
        → is_in path (without set paths) ≡ (is_in path paths && not (is_in path set))
        → is_in path (if t then without set paths else p ∷ without set paths) ≡ ((bytes_eq path p || is_in path paths) && not (is_in path set))
    by true placed true is later =
        later ∙ taken (same is ∙ placed) (is_in path paths) (bytes_eq path p || is_in path paths)
    by true placed false is later =
        later ∙ sym (ap (λ b. (b || is_in path paths) && not (is_in path set)) is)
    by false placed true is later =
        ap (λ b. b || is_in path (without set paths)) is
        ∙ sym (ap (λ b. (b || is_in path paths) && not (is_in path set)) is ∙ ap (λ b. not b) (same is ∙ placed))
    by false placed false is later =
        ap (λ b. b || is_in path (without set paths)) is ∙ later
        ∙ sym (ap (λ b. (b || is_in path paths) && not (is_in path set)) is)

-- what is added to a line whose paths are a set
added-to : (own set told : List (List ℕ)) → ((path : List ℕ) → is_in path set ≡ is_in path own) → AreAdded own told (with_names (without set told) [])
added-to own set told same =
    λ path. in-names path (without set told) [] ∙ in-without path set told ∙ ap (λ b. is_in path told && not b) (same path)

-- the paths of a line, as a set
two-in : (path : List ℕ) (one other : List (List ℕ)) → is_in path (with_names other (with_names one [])) ≡ is_in path (one ++ other)
two-in path one other =
    in-names path other (with_names one []) ∙ ap (λ b. b || is_in path other) (in-names path one []) ∙ sym (in-append path one other)

three-in : (path : List ℕ) (one other last : List (List ℕ)) → is_in path (with_names last (with_names other (with_names one []))) ≡ is_in path (one ++ other ++ last)
three-in path one other last =
    in-names path last (with_names other (with_names one [])) ∙ ap (λ b. b || is_in path last) (two-in path one other)
    ∙ sym (in-append path (one ++ other) last)

pub paths-added : PathsAreAdded
paths-added =
    λ stated build. (
      added-to (build.explicit ++ build.implicit ++ build.order_only) (own_inputs build) stated.told.now.inputs
          (λ path. three-in path build.explicit build.implicit build.order_only),
      added-to (build.explicit_outs ++ build.implicit_outs) (own_outputs build) stated.told.now.outputs
          (λ path. two-in path build.explicit_outs build.implicit_outs),
    )

-- Commands and their edges, one after the other.
use Rattle.std.proofs.Common.{◌≡◌, ℕ, zero, suc, ◌+◌, ◌<◌, ◌≤◌, Bool, true, false, bytes_eq, nat_eq, List, [], ◌∷◌, ◌++◌, length, map, get_or, take, Option, Some, None, if◌then◌else◌, refl, sym, ap, ◌∙◌, subst, arith, inl, inr}
use Rattle.std.specs.List.{AllByRecursion, IsDistinct}
use Rattle.std.proofs.lemmas.Bool.{cases_Bool, eqb-true, false≢true}
use Rattle.std.proofs.lemmas.List.{length-map, take_more, take_all}
use Rattle.rev_manifest.specs.Builds.{BuildValue}
use Rattle.rev_graph.specs.Graph.{build_at, outputs_of as outputs_of_build, producer_of}
use Rattle.rev_paths.proofs.PlaceLemmas.{own_bytes, same_bytes}
use Rattle.rev_observed.specs.CommandValues.{CommandValue}
use Rattle.rev_observed.specs.Joins.{IsFirstLost, edge_of, is_first, led_by}
use Rattle.rev_observed.specs.Observations.{outputs_of}

map_push : {A B : Type 0} (f : A → B) (xs : List A) (x : A) → map f (xs ++ x ∷ []) ≡ map f xs ++ f x ∷ []
map_push f [] x = refl
map_push f (y ∷ ys) x = ap (λ l. f y ∷ l) (map_push f ys x)

-- the output of the command at a place
pub at-outputs_of : (cs : List CommandValue) (i : ℕ) (c : CommandValue) → i < length cs → c ≡ get_or cs i c → get_or (outputs_of cs) i [] ≡ c.output
at-outputs_of [] i c lt e = absurd (omega arith)
at-outputs_of (x ∷ xs) zero c lt e = ap (λ (c : CommandValue). c.output) (sym e)
at-outputs_of (x ∷ xs) (suc i) c lt e = at-outputs_of xs i c (omega arith) e

-- one more command with its edge
pub joined_more : (builds : List BuildValue) (paths : List (List ℕ)) (i : ℕ) (edges : List ℕ) (edge : ℕ) → i < length paths → map Some edges ≡ map (edge_of builds) (take i paths) → edge_of builds (get_or paths i []) ≡ Some edge → map Some (edges ++ edge ∷ []) ≡ map (edge_of builds) (take (i + 1) paths)
joined_more builds paths i edges edge lt joined is =
    map_push Some edges edge ∙ ap (λ es. es ++ Some edge ∷ []) joined ∙ ap (λ e. map (edge_of builds) (take i paths) ++ e ∷ []) (sym is)
    ∙ sym (map_push (edge_of builds) (take i paths) (get_or paths i [])) ∙ ap (map (edge_of builds)) (sym (take_more paths i [] lt))

earlier : {A : Type 0} (f : List ℕ → Option A) (paths : List (List ℕ)) (i k : ℕ) (edges : List A) → k < i → i ≤ length paths → map Some edges ≡ map f (take i paths) → (edge : A) × (f (get_or paths k []) ≡ Some edge)
earlier f [] i k edges lt le joined = absurd (omega arith)
earlier f (x ∷ xs) zero k edges lt le joined = absurd (omega arith)
earlier {A} f (x ∷ xs) (suc i) zero [] lt le joined = absurd (let no : ◌≡◌ {A = List (Option A)} [] (f x ∷ map f (take i xs)) = joined in cc)
earlier f (x ∷ xs) (suc i) zero (e ∷ es) lt le joined = (e, let same : f x ≡ Some e = cc in same)
earlier {A} f (x ∷ xs) (suc i) (suc k) [] lt le joined = absurd (let no : ◌≡◌ {A = List (Option A)} [] (f x ∷ map f (take i xs)) = joined in cc)
earlier f (x ∷ xs) (suc i) (suc k) (e ∷ es) lt le joined =
    let rest : map Some es ≡ map f (take i xs) = cc in earlier f xs i k es (omega arith) (omega arith) rest

-- a command whose output is no edge's first
pub first_lost : (builds : List BuildValue) (paths : List (List ℕ)) (i : ℕ) (edges : List ℕ) → i < length paths → map Some edges ≡ map (edge_of builds) (take i paths) → edge_of builds (get_or paths i []) ≡ None → IsFirstLost builds paths i
first_lost builds paths i edges lt joined lost = record {
  within = lt;
  lost = lost;
  earlier = λ k below. earlier (edge_of builds) paths i k edges below (omega arith) joined;
}

pub joined_all : (builds : List BuildValue) (paths : List (List ℕ)) (i : ℕ) (edges : List ℕ) → length paths ≤ i → map Some edges ≡ map (edge_of builds) (take i paths) → map Some edges ≡ map (edge_of builds) paths
joined_all builds paths i edges past joined = joined ∙ ap (map (edge_of builds)) (take_all i paths past)

pub length-outputs_of : (cs : List CommandValue) → length (outputs_of cs) ≡ length cs
length-outputs_of cs = length-map cs (λ (c : CommandValue). c.output)

-- an edge that a path leads has it as its first output
led : (builds : List BuildValue) (path : List ℕ) (o : Option ℕ) (edge : ℕ) → led_by builds path o ≡ Some edge → is_first (outputs_of_build (build_at builds edge)) path ≡ true
led builds path None edge h = cc
led builds path (Some e) edge h =
    by (is_first (outputs_of_build (build_at builds e)) path) refl h
  where
    by : (b : Bool) → is_first (outputs_of_build (build_at builds e)) path ≡ b → (if b then Some e else None) ≡ Some edge → is_first (outputs_of_build (build_at builds edge)) path ≡ true
    by true is h =
        let same : e ≡ edge = cc in
        let P : ℕ → Type 0 = λ k. is_first (outputs_of_build (build_at builds k)) path ≡ true in
        subst P same is
    by false is h = cc

-- there is one first
one_first : (paths : List (List ℕ)) (p q : List ℕ) → is_first paths p ≡ true → is_first paths q ≡ true → bytes_eq p q ≡ true
one_first [] p q a b = cc
one_first (first ∷ rest) p q a b =
    let left : first ≡ p = same_bytes first p a in
    let right : first ≡ q = same_bytes first q b in
    ap (bytes_eq p) (sym right ∙ left) ∙ own_bytes p

apart : (builds : List BuildValue) (p q : List ℕ) (e d : ℕ) → edge_of builds p ≡ Some e → edge_of builds q ≡ Some d → bytes_eq p q ≡ false → nat_eq e d ≡ false
apart builds p q e d one other differ =
    elim (cases_Bool (nat_eq e d)) [
      | inl equal ↦
          let same : e ≡ d = eqb-true e d equal in
          let both : bytes_eq p q ≡ true = one_first (outputs_of_build (build_at builds e)) p q (led builds p (producer_of builds p) e one) (led builds q (producer_of builds q) e (other ∙ ap Some (sym same))) in
          absurd (false≢true (sym differ ∙ both))
      | inr differs ↦ differs
    ]

all_apart : (builds : List BuildValue) (p : List ℕ) (e : ℕ) (paths : List (List ℕ)) (edges : List ℕ) → edge_of builds p ≡ Some e → AllByRecursion (λ q. bytes_eq p q ≡ false) paths → map Some edges ≡ map (edge_of builds) paths → AllByRecursion (λ d. nat_eq e d ≡ false) edges
all_apart builds p e paths [] one differ joined = tt
all_apart builds p e [] (d ∷ ds) one differ joined =
    absurd (let no : ◌≡◌ {A = List (Option ℕ)} (Some d ∷ map Some ds) [] = joined in cc)
all_apart builds p e (q ∷ qs) (d ∷ ds) one differ joined =
    let here : edge_of builds q ≡ Some d = cc in
    let rest : map Some ds ≡ map (edge_of builds) qs = cc in
    (apart builds p q e d one here differ.0, all_apart builds p e qs ds one differ.1 rest)

-- different paths have different edges
pub once-joined : (builds : List BuildValue) (paths : List (List ℕ)) (edges : List ℕ) → IsDistinct bytes_eq paths → map Some edges ≡ map (edge_of builds) paths → IsDistinct nat_eq edges
unfolding IsDistinct
once-joined builds paths [] distinct joined = tt
once-joined builds [] (d ∷ ds) distinct joined =
    absurd (let no : ◌≡◌ {A = List (Option ℕ)} (Some d ∷ map Some ds) [] = joined in cc)
once-joined builds (p ∷ ps) (e ∷ es) distinct joined =
    let here : edge_of builds p ≡ Some e = cc in
    let rest : map Some es ≡ map (edge_of builds) ps = cc in
    (all_apart builds p e ps es here distinct.0 rest, once-joined builds ps es distinct.1 rest)

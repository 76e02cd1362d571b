-- Orders of edges in which equal ones stand together, and makers that are kept.
use Rattle.std.proofs.Common.{◌≡◌, ℕ, ◌+◌, ◌<◌, List, length, get_or, Some, Contains, ◌⊎◌, sym, subst, ◌∙◌, arith}
use Rattle.std.specs.Global.{Vec}
use Rattle.std.specs.Prelude.{◌↔◌, Result, Ok, Err, OnOk}
use Rattle.std.specs.List.{range_with_len}
use Rattle.std.specs.List.Sorted.{IsPermutation}
use Rattle.std.proofs.lemmas.List.{get_or_default}
use Rattle.std.proofs.lemmas.List.Elements.{Contains-get_or}
use Rattle.std.proofs.lemmas.List.FromFn.{get_or-range_with_len, length-range_with_len}
use Rattle.std.proofs.lemmas.List.Sorted.{Contains-permutation, IsPermutation-sym}
use Rattle.rev_manifest.specs.Manifest.{BuildValue}
use Rattle.rev_graph.specs.Graph.{producer_of, successor_lists}
use Rattle.rev_graph.proofs.StepLemmas.{length-successors}
use Rattle.rev_history.specs.Timeline.{Timeline}
use Rattle.rev_ranks.specs.Graph.{graph_of}
use Rattle.rev_waits.specs.Waits.{Makes, Makes.itself, Makes.behind}
use Rattle.rev_races.specs.Keys.{IsKeyBelow, IsKeyOf, SomeBelow}
use Rattle.rev_races.specs.Searches.{AreKeptMakers}
use Rattle.rev_races.proofs.ExactLemmas.{no-keys}
use Rattle.rev_races.proofs.KeyLemmas.{either-more}

-- THE NUMBERS BELOW A COUNT IN ANOTHER ORDER
range-to : (n edge : ℕ) → Contains (range_with_len 0 n) edge → edge < n
range-to n edge (k, within, at) =
    let below : k < n = omega (arith, within, length-range_with_len 0 n) in
    let is : 0 + k ≡ edge = sym (get_or-range_with_len 0 n k 0 below) ∙ get_or_default (range_with_len 0 n) k 0 edge within ∙ at in
    omega (arith, below, is)

range-from : (n edge : ℕ) → edge < n → Contains (range_with_len 0 n) edge
range-from n edge below = (edge, omega (arith, below, length-range_with_len 0 n), get_or-range_with_len 0 n edge edge below ∙ omega arith)

pub edges-of : (n : ℕ) (edges : List ℕ) → IsPermutation (range_with_len 0 n) edges → (edge : ℕ) → Contains edges edge ↔ (edge < n)
edges-of n edges same edge = (
  λ h. range-to n edge (Contains-permutation edges (range_with_len 0 n) edge (IsPermutation-sym (range_with_len 0 n) edges same) h),
  λ less. Contains-permutation (range_with_len 0 n) edges edge same (range-from n edge less),
)

-- what holds of one of them, by its place, holds of some number below the count
pub all-users : (P : ℕ → Type 0) (users : List ℕ) (n : ℕ) → ((edge : ℕ) → Contains users edge ↔ (edge < n)) → SomeBelow (λ i. P (get_or users i 0)) (length users) ↔ SomeBelow P n
all-users P users n are = (
  λ s. let b = s.below in record { number = get_or users s.number 0; below = (are (get_or users s.number 0)).0 (Contains-get_or users s.number 0 b); holds = s.holds },
  λ s.
      let c = (are s.number).1 s.below in
      let at : get_or users c.0 0 ≡ s.number = get_or_default users c.0 0 s.number c.1 ∙ c.2 in
      record { number = c.0; below = c.1; holds = subst P (sym at) s.holds },
)

-- what was found of each of them was found of all users
pub found-all : (t : Timeline) (files : List (List ℕ)) (steps : List (Vec ℕ)) (items users : List ℕ) (n : ℕ) (found : List (List ℕ)) → graph_of steps ≡ successor_lists t.manifest.builds
    → items ≡ users → n ≡ length items → ((edge : ℕ) → Contains users edge ↔ (edge < length steps))
    → ((k : List ℕ) → Contains found k ↔ (Contains no-keys k ⊎ SomeBelow (λ i. IsKeyOf t files (get_or items i 0) k) n))
    → (k : List ℕ) → Contains found k ↔ (Contains no-keys k ⊎ IsKeyBelow t files (length t.manifest.builds) k)
found-all t files steps items users n found are same all members invariant k =
    either-more (subst (λ m. Contains found k ↔ (Contains no-keys k ⊎ SomeBelow (λ i. IsKeyOf t files (get_or items i 0) k) m)) all (invariant k))
    (all-users (λ user. IsKeyOf t files user k) items (length t.manifest.builds) (λ edge.
    subst (λ m. Contains items edge ↔ (edge < m)) (length-successors t.manifest.builds steps are)
    (subst (λ (xs : List ℕ). Contains xs edge ↔ (edge < length steps)) (sym same) (members edge))))

-- what holds holds where a call gives Ok
pub given-ok : {A E P : Type 0} → P → (r : Result A E) → OnOk r P
given-ok p (Ok x) = p
given-ok p (Err e) = tt

-- MAKERS OF WHAT ONE EDGE PRODUCES
same-made : {builds : List BuildValue} {maker : ℕ} {path : List ℕ} (other : List ℕ) (edge : ℕ) → producer_of builds path ≡ Some edge → producer_of builds other ≡ Some edge
    → Makes builds maker path → Makes builds maker other
same-made other edge is also (itself produced plain) = itself (also ∙ sym is ∙ produced) plain
same-made other edge is also (behind produced phony input made) = behind (also ∙ sym is ∙ produced) phony input made

pub kept-makers : (builds : List BuildValue) (edge : ℕ) (path : List ℕ) (makers : List ℕ) → producer_of builds path ≡ Some edge
    → ((maker : ℕ) → Contains makers maker ↔ Makes builds maker path) → AreKeptMakers builds (Some edge) makers
kept-makers builds edge path makers is are = record {
  makers_are = λ other also maker. (
    λ h. same-made other edge is also ((are maker).0 h),
    λ made. (are maker).1 (same-made path edge also is made),
  );
}

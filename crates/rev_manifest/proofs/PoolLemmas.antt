-- Pools, by their places.
use Rattle.std.proofs.Common.{◌≡◌, ℕ, ◌+◌, Bool, true, false, not, cond, List, [], ◌∷◌, ◌++◌, map, length, position, Some, None, nat_lt, bytes_eq, refl, ap, arith, if◌then◌else◌}
use Rattle.std.specs.List.{prefix_len, position_or_len}
use Rattle.std.proofs.lemmas.List.{length-map}
use Rattle.rev_scopes.specs.Bindings.{bound}
use Rattle.rev_scopes.proofs.RuleLemmas.{no_place}
use Rattle.rev_manifest.specs.Pools.{PoolValue, pool_of}

prefix_len-map : {A B : Type 0} (p : B → Bool) (f : A → B) (xs : List A) → prefix_len p (map f xs) ≡ prefix_len (λ x. p (f x)) xs
prefix_len-map p f [] = refl
prefix_len-map p f (x ∷ xs) = ap (λ n. cond (p (f x)) (1 + n) 0) (prefix_len-map p f xs)

-- a place in a list, and in what its elements show
pub position-map : {A B : Type 0} (p : B → Bool) (f : A → B) (xs : List A) → position p (map f xs) ≡ position (λ x. p (f x)) xs
position-map p f xs =
    (λ i. cond (nat_lt (prefix_len-map (λ x. not (p x)) f xs i) (length-map xs f i)) (Some (prefix_len-map (λ x. not (p x)) f xs i)) None)

last : (name : List ℕ) (depth : ℕ) (pools : List PoolValue) → position_or_len (λ (pool : PoolValue). bytes_eq name pool.0) pools ≡ length pools
    → bound name depth pools ≡ pools ++ (name, depth) ∷ []
last name depth [] e = refl
last name depth (pool ∷ pools) e = by (bytes_eq name pool.0) (last name depth pools) e
  where
    n : ℕ
    n = position_or_len (λ (pool : PoolValue). bytes_eq name pool.0) pools

    by : (b : Bool) → (n ≡ length pools → bound name depth pools ≡ pools ++ (name, depth) ∷ []) → cond (not b) (1 + n) 0 ≡ length (pool ∷ pools)
        → (if b then (pool.0, depth) ∷ pools else pool ∷ bound name depth pools) ≡ pool ∷ (pools ++ (name, depth) ∷ [])
    by true later h = absurd (omega arith)
    by false later h = ap (λ t. pool ∷ t) (later (omega arith))

-- a new pool goes last
pub bound-last : (name : List ℕ) (depth : ℕ) (pools : List PoolValue) → pool_of name pools ≡ None → bound name depth pools ≡ pools ++ (name, depth) ∷ []
bound-last name depth pools e = last name depth pools (no_place (λ (pool : PoolValue). bytes_eq name pool.0) pools e)

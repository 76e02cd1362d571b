-- Which places of a list may be told: the first of each path that is not quiet.
use Rattle.std.proofs.Common.{◌≡◌, ℕ, ◌+◌, ◌<◌, Bool, true, false, List, [], ◌∷◌, ◌++◌, length, get_or, Contains, ◌⊎◌, inl, inr, sym, ap, subst, ◌∙◌, arith, true≢false}
use Rattle.std.specs.Prelude.{All}
use Rattle.std.proofs.lemmas.Bool.{cases_eq}
use Rattle.std.proofs.lemmas.List.Elements.{All-contains, Contains-append_left, Contains-get_or, Contains-push, Contains-push_cases}
use Rattle.rev_manifest.specs.Manifest.{BuildValue}
use Rattle.rev_races.specs.Keys.{SomeBelow}
use Rattle.rev_races.specs.Searches.{IsCovered, IsCovered.among as among, IsCovered.quiet as quiet, IsCovered.repeated as repeated, IsFirstOrQuiet, IsQuiet}

-- The first places of a list are sifted. `has` says which paths were seen.
pub record AreSifted (builds : List BuildValue) (user : ℕ) (paths : List (List ℕ)) (n : ℕ) (has : List ℕ → Bool) (places : List ℕ) : Type 0 where
  pub within : All (λ place. place < length paths) places
  pub firsts : All (IsFirstOrQuiet builds user paths) places
  pub rest : (k : ℕ) → k < n → IsCovered builds user paths places k
  pub seen : (path : List ℕ) → has path ≡ true → SomeBelow (λ k. get_or paths k [] ≡ path) n
  pub known : (k : ℕ) → k < n → (has (get_or paths k []) ≡ true) ⊎ IsQuiet builds user (get_or paths k [])

all-pushed : (P : ℕ → Type 0) (xs : List ℕ) (x : ℕ) → All P xs → P x → All P (xs ++ x ∷ [])
all-pushed P xs x all new = λ k d inside.
    elim (Contains-push_cases xs x (get_or (xs ++ x ∷ []) k d) (Contains-get_or (xs ++ x ∷ []) k d inside)) [
      | inl old ↦ All-contains P xs (get_or (xs ++ x ∷ []) k d) all old
      | inr same ↦ subst P same new
    ]

covered-more : (builds : List BuildValue) (user : ℕ) (paths : List (List ℕ)) (places : List ℕ) (i k : ℕ) → IsCovered builds user paths places k → IsCovered builds user paths (places ++ i ∷ []) k
covered-more builds user paths places i k (among c) = among (Contains-append_left places (i ∷ []) k c)
covered-more builds user paths places i k (quiet q) = quiet q
covered-more builds user paths places i k (repeated r) = repeated r

further : (P : ℕ → Type 0) (n : ℕ) → SomeBelow P n → SomeBelow P (n + 1)
further P n s = let b = s.below in record { number = s.number; below = omega (arith, b); holds = s.holds }

-- one place more
module _ (builds : List BuildValue) (user : ℕ) (paths : List (List ℕ)) (i : ℕ) (has also : List ℕ → Bool) (path : List ℕ) (places : List ℕ)
    (inside : i < length paths) (is : get_or paths i [] ≡ path)
    (noted : (also path ≡ true) ⊎ IsQuiet builds user path)
    (kept : (other : List ℕ) → has other ≡ true → also other ≡ true)
    (only : (other : List ℕ) → also other ≡ true → (other ≡ path) ⊎ (has other ≡ true))
    (before : AreSifted builds user paths i has places) where
  seen : (other : List ℕ) → also other ≡ true → SomeBelow (λ k. get_or paths k [] ≡ other) (i + 1)
  seen other h = elim (only other h) [
    | inl same ↦ record { number = i; below = omega arith; holds = is ∙ sym same }
    | inr old ↦ further (λ k. get_or paths k [] ≡ other) i (before.seen other old)
  ]

  known : (k : ℕ) → k < i + 1 → (also (get_or paths k []) ≡ true) ⊎ IsQuiet builds user (get_or paths k [])
  known k below = elim (cases_eq k i) [
    | inl same ↦ subst (λ (p : List ℕ). (also p ≡ true) ⊎ IsQuiet builds user p) (sym (ap (λ n. get_or paths n []) same ∙ is)) noted
    | inr other ↦ elim (before.known k (omega (arith, below, other))) [ inl h ↦ inl (kept (get_or paths k []) h) | inr q ↦ inr q ]
  ]

  -- its path was not seen, and may be told
  pub sifted-new : has path ≡ false → AreSifted builds user paths (i + 1) also (places ++ i ∷ [])
  sifted-new new = record {
    within = all-pushed (λ place. place < length paths) places i before.within inside;
    firsts = all-pushed (IsFirstOrQuiet builds user paths) places i before.firsts (λ k less same.
        elim (before.known k less) [
          | inl h ↦ absurd (true≢false (sym h ∙ ap has (same ∙ is) ∙ new))
          | inr q ↦ subst (IsQuiet builds user) same q
        ]);
    rest = λ k below. elim (cases_eq k i) [
      | inl same ↦ among (subst (Contains (places ++ i ∷ [])) (sym same) (Contains-push places i))
      | inr other ↦ covered-more builds user paths places i k (before.rest k (omega (arith, below, other)))
    ];
    seen = seen;
    known = known;
  }

  -- its path was seen, or is quiet
  pub sifted-old : (has path ≡ true) ⊎ IsQuiet builds user path → AreSifted builds user paths (i + 1) also places
  sifted-old passed = record {
    within = before.within;
    firsts = before.firsts;
    rest = λ k below. elim (cases_eq k i) [
      | inl same ↦ subst (IsCovered builds user paths places) (sym same) here
      | inr other ↦ before.rest k (omega (arith, below, other))
    ];
    seen = seen;
    known = known;
  }
    where
      here : IsCovered builds user paths places i
      here = elim passed [
        | inl h ↦ let s = before.seen path h in repeated (λ first. first s.number s.below (s.holds ∙ sym is))
        | inr q ↦ quiet (subst (IsQuiet builds user) (sym is) q)
      ]

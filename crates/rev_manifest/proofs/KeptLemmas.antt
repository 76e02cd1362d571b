-- What each manifest keeps of its edges.
use Rattle.std.proofs.Common.{◌≡◌, ℕ, zero, suc, ◌+◌, ◌<◌, Bool, true, false, not, ◌||◌, ◌⊎◌, inl, inr, cond, List, [], ◌∷◌, ◌++◌, length, map, filter, All, Contains, Option, Some, None, IfSome, Result, Ok, Err, bytes_eq, refl, sym, ap, subst, ◌∙◌, arith, if◌then◌else◌}
use Rattle.std.specs.List.{IsDistinct, AllByRecursion}
use Rattle.std.proofs.lemmas.List.Elements.{Contains-append_cases, filter_passes}
use Rattle.std.proofs.lemmas.List.Folds.{list_any_at}
use Rattle.std.proofs.lemmas.List.Quantifiers.{position-Some}
use Rattle.std.proofs.lemmas.Map.Keys.{IsDistinct-cons, IsDistinct-head, IsDistinct-tail}
use Rattle.std.proofs.lemmas.Slice.Eq.{bytes_eq-Decides}
use Rattle.rev_paths.proofs.MentionLemmas.{mentions-distinct, mentions-members}
use Rattle.rev_syntax.specs.Texts.{PieceValue}
use Rattle.rev_scopes.specs.Scopes.{ScopeValue, RuleValue}
use Rattle.rev_scopes.specs.Expansion.{expanded}
use Rattle.rev_manifest.specs.declared.declarations.DeclaredEdge.{DeclaredEdge}
use Rattle.rev_manifest.specs.declared.fault.ManifestFault.{ManifestFault}
use Rattle.rev_manifest.specs.declared.fault.Place.{Place}
use Rattle.rev_manifest.specs.Declarations.{DeclaredEdgeValue}
use Rattle.rev_manifest.specs.Answers.{and_then}
use Rattle.rev_manifest.specs.Builds.{BuildValue, outputs_of, inputs_of, AreOutputs, IsBuild}
use Rattle.rev_manifest.specs.Ends.{EndValues}
use Rattle.rev_manifest.specs.Made.{left_of, with_left}
use Rattle.rev_manifest.specs.Held.{seen_edge}
use Rattle.rev_manifest.specs.Manifest.{EndedEdge, phony_build, command_build, pool_found, pool_number, variables_of, built, built_with, builds_of}
use Rattle.rev_manifest.specs.Names.{is_empty, has_path, without, name_of, names_of}
use Rattle.rev_paths.specs.Mentions.{first_mentions}
use Rattle.rev_manifest.specs.Pools.{PoolValue, pool_of}
use Rattle.rev_manifest.proofs.NameLemmas.{filter-all}

-- as many names as texts
pub names-length : (place : Place) (look_up : List ℕ → List ℕ) (texts : List (List PieceValue)) (names : List (List ℕ))
    → names_of place look_up texts ≡ Ok names → length names ≡ length texts
names-length place look_up [] names e = let same : names ≡ [] = cc in ap length same
names-length place look_up (text ∷ texts) names e =
    by (name_of place (expanded look_up text)) (names_of place look_up texts) (λ ns h. names-length place look_up texts ns h) e
  where
    by : (first : Result (List ℕ) ManifestFault) (others : Result (List (List ℕ)) ManifestFault)
        → ((ns : List (List ℕ)) → others ≡ Ok ns → length ns ≡ length texts)
        → and_then first (λ name. and_then others (λ ns. Ok (name ∷ ns))) ≡ Ok names → length names ≡ length (text ∷ texts)
    by (Ok name) (Ok ns) rest e = let same : names ≡ name ∷ ns = cc in ap length same ∙ ap suc (rest ns refl)
    by (Ok name) (Err fault) rest e = cc
    by (Err fault) others rest e = cc

-- what holds of each of two lists
each-append : (P : List ℕ → Type 0) (xs ys : List (List ℕ)) → AllByRecursion P xs → AllByRecursion P ys → AllByRecursion P (xs ++ ys)
each-append P [] ys h k = k
each-append P (x ∷ xs) ys h k = (h.0, each-append P xs ys h.1 k)

-- what a test says holds of each path that passes
each-filter : (P : List ℕ → Type 0) (p : List ℕ → Bool) → ((q : List ℕ) → p q ≡ true → P q) → (ys : List (List ℕ)) → AllByRecursion P (filter p ys)
each-filter P p says [] = tt
each-filter P p says (y ∷ ys) =
    elim (p y) as (λ t. p y ≡ t → AllByRecursion P (cond t (y ∷ filter p ys) (filter p ys))) [
      | true ↦ λ e. (says y e, each-filter P p says ys)
      | false ↦ λ e. each-filter P p says ys
    ] refl

each-left : (P : List ℕ → Type 0) (p : List ℕ → Bool) (ys : List (List ℕ)) → AllByRecursion P ys → AllByRecursion P (filter p ys)
each-left P p [] h = tt
each-left P p (y ∷ ys) h =
    elim (p y) as (λ t. AllByRecursion P (cond t (y ∷ filter p ys) (filter p ys))) [
      | true ↦ (h.0, each-left P p ys h.1)
      | false ↦ each-left P p ys h.1
    ]

distinct-filter : (p : List ℕ → Bool) (ys : List (List ℕ)) → IsDistinct bytes_eq ys → IsDistinct bytes_eq (filter p ys)
distinct-filter p [] h = h
distinct-filter p (y ∷ ys) h =
    let rest = distinct-filter p ys (IsDistinct-tail bytes_eq y ys h) in
    elim (p y) as (λ t. IsDistinct bytes_eq (cond t (y ∷ filter p ys) (filter p ys))) [
      | true ↦ IsDistinct-cons bytes_eq y (filter p ys) (each-left (λ q. bytes_eq y q ≡ false) p ys (IsDistinct-head bytes_eq y ys h)) rest
      | false ↦ rest
    ]

same_bytes : (p q : List ℕ) → bytes_eq p q ≡ true → p ≡ q
same_bytes p q e = (bytes_eq-Decides p q).0 e

turned : (p q : List ℕ) → bytes_eq p q ≡ false → bytes_eq q p ≡ false
turned p q e = by (bytes_eq q p) refl
  where
    by : (t : Bool) → bytes_eq q p ≡ t → bytes_eq q p ≡ false
    by true f = absurd (no (sym (ap (bytes_eq p) (same_bytes q p f) ∙ (bytes_eq-Decides p p).1 refl) ∙ e))
      where
        no : true ≡ false → ⊥
        no h = cc
    by false f = f

no-or : (a b : Bool) → (a || b) ≡ false → (a ≡ false) × (b ≡ false)
no-or true b h = (cc, cc)
no-or false b h = (refl, h)

-- paths, and others that are not among them
pub distinct-beside : (p : List ℕ → Bool) (xs ys : List (List ℕ)) → ((q : List ℕ) → p q ≡ true → has_path xs q ≡ false)
    → IsDistinct bytes_eq xs → IsDistinct bytes_eq ys → IsDistinct bytes_eq (xs ++ filter p ys)
distinct-beside p [] ys apart h k = distinct-filter p ys k
distinct-beside p (x ∷ xs) ys apart h k =
    IsDistinct-cons bytes_eq x (xs ++ filter p ys)
    (each-append (λ q. bytes_eq x q ≡ false) xs (filter p ys) (IsDistinct-head bytes_eq x xs h)
    (each-filter (λ q. bytes_eq x q ≡ false) p (λ q e. turned q x (no-or (bytes_eq q x) (has_path xs q) (apart q e)).0) ys))
    (distinct-beside p xs ys (λ q e. (no-or (bytes_eq q x) (has_path xs q) (apart q e)).1) (IsDistinct-tail bytes_eq x xs h) k)

not-true : (b : Bool) → not b ≡ true → b ≡ false
not-true true h = cc
not-true false h = refl

-- the outputs of a build line: none of them stands twice
pub outputs-once : (outs implicit_outs : List (List ℕ)) → IsDistinct bytes_eq (first_mentions outs ++ without outs (first_mentions implicit_outs))
outputs-once outs implicit_outs =
    distinct-beside (λ path. not (has_path outs path)) (first_mentions outs) (first_mentions implicit_outs)
    (λ q e. mentions-members outs q ∙ not-true (has_path outs q) e) (mentions-distinct outs) (mentions-distinct implicit_outs)

mentions-some : (paths : List (List ℕ)) → 0 < length paths → 0 < length (first_mentions paths)
mentions-some [] h = absurd (omega arith)
mentions-some (path ∷ paths) h = omega arith

-- and there is one
pub outputs-some : (outs implicit_outs : List (List ℕ)) → 0 < length outs + length implicit_outs
    → 0 < length (first_mentions outs ++ without outs (first_mentions implicit_outs))
outputs-some [] implicit_outs h =
    subst (λ (paths : List (List ℕ)). 0 < length paths) (sym (filter-all (first_mentions implicit_outs))) (mentions-some implicit_outs (omega arith))
outputs-some (path ∷ outs) implicit_outs h = omega arith

-- a pool that is found is one of the pools
pool-within : (place : Place) (pools : List PoolValue) (name : List ℕ) (pool : Option ℕ) → pool_number place pools name ≡ Ok pool
    → IfSome pool (λ number. number < length pools)
pool-within place pools name pool e = by (is_empty name) (pool_of name pools) refl e
  where
    within : (number : ℕ) → pool_of name pools ≡ Some number → number < length pools
    within number f = (position-Some (λ (p : PoolValue). bytes_eq name p.0) pools number ([], 0) f).0

    by : (t : Bool) (o : Option ℕ) → pool_of name pools ≡ o → (if t then Ok None else pool_found place o) ≡ Ok pool → IfSome pool (λ number. number < length pools)
    by true o f e = let same : pool ≡ None = cc in subst (λ (q : Option ℕ). IfSome q (λ number. number < length pools)) (sym same) tt
    by false None f e = cc
    by false (Some number) f e = let same : pool ≡ Some number = cc in subst (λ (q : Option ℕ). IfSome q (λ n. n < length pools)) (sym same) (within number f)

has-contained : (paths : List (List ℕ)) (path : List ℕ) → Contains paths path → has_path paths path ≡ true
has-contained paths path (k, within, at) = list_any_at (bytes_eq path) paths k path within (ap (bytes_eq path) at ∙ (bytes_eq-Decides path path).1 refl)

left-is-other : (own paths : List (List ℕ)) (path : List ℕ) → Contains (without own paths) path → has_path own path ≡ false
left-is-other own paths path there =
    let p : List ℕ → Bool = λ q. not (has_path own q) in
    not-true (has_path own path) (sym (ap p there.2) ∙ filter_passes p paths there.0 path there.1)

no-or3 : true ≡ false → ⊥
no-or3 h = cc

-- a phony edge's own outputs are none of its inputs
phony-apart : (edge : DeclaredEdgeValue) (path : List ℕ) → Contains (outputs_of (phony_build edge)) path → Contains (inputs_of (phony_build edge)) path → ⊥
phony-apart edge path out there = by (Contains-append_cases (left ins ++ left implicit) (left order_only) path there)
  where
    own : List (List ℕ)
    own = edge.paths.outs ++ edge.paths.implicit_outs

    ins : List (List ℕ)
    ins = edge.paths.ins

    implicit : List (List ℕ)
    implicit = edge.paths.implicit

    order_only : List (List ℕ)
    order_only = edge.paths.order_only

    left : List (List ℕ) → List (List ℕ)
    left paths = without own paths

    never : (paths : List (List ℕ)) → Contains (left paths) path → ⊥
    never paths k = no-or3 (sym (has-contained own path out) ∙ left-is-other own paths path k)

    by-two : Contains (left ins) path ⊎ Contains (left implicit) path → ⊥
    by-two (inl k) = never ins k
    by-two (inr k) = never implicit k

    by : Contains (left ins ++ left implicit) path ⊎ Contains (left order_only) path → ⊥
    by (inl k) = by-two (Contains-append_cases (left ins) (left implicit) path k)
    by (inr k) = never order_only k

module _ (scopes : List ScopeValue) (pools : List PoolValue) where
  outputs-kept : (edge : DeclaredEdge) → AreOutputs (edge.paths.outs.items ++ edge.paths.implicit_outs.items)
  outputs-kept edge = record { some = edge.paths.has_output; once = edge.paths.once }

  built-phony : (edge : DeclaredEdge) → IsBuild (length pools) (phony_build (seen_edge edge))
  built-phony edge =
      record {
        outputs = outputs-kept edge;
        pool = tt;
        phony = λ _. record {
          no_command = refl;
          no_depfile = refl;
          no_rspfile = refl;
          no_deps = refl;
          no_restat = refl;
          no_generator = refl;
          no_pool = refl;
          no_own_input = phony-apart (seen_edge edge);
        };
      }

  built-command : (edge : DeclaredEdge) (values : EndValues) (pool : Option ℕ) → IfSome pool (λ number. number < length pools)
      → IsBuild (length pools) (command_build (seen_edge edge) values pool)
  built-command edge values pool within =
      record { outputs = outputs-kept edge; pool = within; phony = λ is. absurd (no-or3 (sym is)) }

  built-by : (edge : DeclaredEdge) (rule : Option RuleValue) (room : ℕ) (ended : EndedEdge) → built_with scopes pools room (seen_edge edge) rule ≡ Ok ended → IsBuild (length pools) ended.build
  built-by edge None room ended e =
      let made : EndedEdge = record { build = phony_build (seen_edge edge); left = room } in
      let same : made ≡ ended = cc in subst (λ (x : EndedEdge). IsBuild (length pools) x.build) same (built-phony edge)
  built-by edge (Some rule) room ended e =
      by (variables_of scopes (seen_edge edge) rule) e
    where
      with : (values : EndValues) (left : Option ℕ) (number : Result (Option ℕ) ManifestFault) → pool_number edge.place pools values.pool ≡ number
          → with_left edge.place left (λ n. and_then number (λ pool. Ok (record { build = command_build (seen_edge edge) values pool; left = n }))) ≡ Ok ended
          → IsBuild (length pools) ended.build
      with values (Some left) (Ok pool) is e =
          let made : EndedEdge = record { build = command_build (seen_edge edge) values pool; left = left } in
          let same : made ≡ ended = cc in
          subst (λ (x : EndedEdge). IsBuild (length pools) x.build) same (built-command edge values pool (pool-within edge.place pools values.pool pool is))
      with values (Some left) (Err fault) is e = cc
      with values None number is e = cc

      by : (r : Result EndValues ManifestFault)
          → and_then r (λ values. with_left edge.place (left_of room values.made) (λ n.
          and_then (pool_number edge.place pools values.pool) (λ pool. Ok (record { build = command_build (seen_edge edge) values pool; left = n })))) ≡ Ok ended
          → IsBuild (length pools) ended.build
      by (Ok values) e = with values (left_of room values.made) (pool_number edge.place pools values.pool) refl e
      by (Err fault) e = cc

  each-more : (P : BuildValue → Type 0) (b : BuildValue) (bs : List BuildValue) → P b → All P bs → All P (b ∷ bs)
  each-more P b bs h k zero d within = h
  each-more P b bs h k (suc i) d within = k i d (omega arith)

  -- each edge that is built keeps what a manifest says of it
  pub builds-kept : (room : ℕ) (edges : List DeclaredEdge) (builds : List BuildValue) → builds_of scopes pools room (map seen_edge edges) ≡ Ok builds → All (IsBuild (length pools)) builds
  builds-kept room [] builds e =
      let same : [] ≡ builds = cc in subst (λ (bs : List BuildValue). All (IsBuild (length pools)) bs) same (λ i d within. absurd (omega arith))
  builds-kept room (edge ∷ edges) builds e =
      by (built scopes pools room (seen_edge edge)) refl (λ left bs h. builds-kept left edges bs h) e
    where
      and : (ended : EndedEdge) → built scopes pools room (seen_edge edge) ≡ Ok ended → (others : Result (List BuildValue) ManifestFault)
          → ((bs : List BuildValue) → others ≡ Ok bs → All (IsBuild (length pools)) bs)
          → and_then others (λ bs. Ok (ended.build ∷ bs)) ≡ Ok builds → All (IsBuild (length pools)) builds
      and ended is (Ok bs) rest e =
          let same : ended.build ∷ bs ≡ builds = cc in
          subst (λ (xs : List BuildValue). All (IsBuild (length pools)) xs) same
          (each-more (IsBuild (length pools)) ended.build bs (built-by edge edge.rule room ended is) (rest bs refl))
      and ended is (Err fault) rest e = cc

      by : (first : Result EndedEdge ManifestFault) → built scopes pools room (seen_edge edge) ≡ first
          → ((left : ℕ) (bs : List BuildValue) → builds_of scopes pools left (map seen_edge edges) ≡ Ok bs → All (IsBuild (length pools)) bs)
          → and_then first (λ ended. and_then (builds_of scopes pools ended.left (map seen_edge edges)) (λ bs. Ok (ended.build ∷ bs))) ≡ Ok builds
          → All (IsBuild (length pools)) builds
      by (Ok ended) is later e = and ended is (builds_of scopes pools ended.left (map seen_edge edges)) (λ bs h. later ended.left bs h) e
      by (Err fault) is later e = cc

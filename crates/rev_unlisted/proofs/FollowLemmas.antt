-- The graph of what makes Ninja run an edge again, edge by edge.
use Rattle.std.proofs.Common.{◌≡◌, ℕ, zero, suc, ◌+◌, ◌-◌, ◌<◌, ◌≤◌, Bool, true, false, cond, not, ◌&&◌, List, [], ◌∷◌, ◌++◌, length, get_or, map, take, Option, Some, None, inl, inr, refl, sym, ap, subst, ◌∙◌, arith, append_assoc, zero-add, length-append, true≢false, Contains}
use Rattle.std.specs.Prelude.{All, filter, replicate}
use Rattle.std.specs.List.{cons_option, filter_map, range_with_len}
use Rattle.std.specs.Global.{Vec}
use Rattle.std.specs.Option.{option_map}
use Rattle.std.proofs.Math.Seq.{take-length}
use Rattle.std.proofs.lemmas.List.{get_or_append_left, get_or-append_right, get_or-map, get_or-replicate, length-map, length-replicate, replicate_more, take_more}
use Rattle.rev_conflicts.proofs.MeetLemmas.{past-end}
use Rattle.std.proofs.lemmas.Bool.{cases_lt}
use Rattle.std.proofs.lemmas.Option.{slice_get_within}
use Rattle.std.proofs.lemmas.List.Elements.{Contains-append_cases, Contains-get_or, filter-append, filter_map-append}
use Rattle.std.proofs.lemmas.List.FromFn.{get_or-map-range_with_len, length-map-range_with_len, map-range_with_len_more}
use Rattle.rev_paths.specs.Paths.{place_of}
use Rattle.rev_manifest.specs.Manifest.{BuildValue}
use Rattle.rev_paths.proofs.PlaceLemmas.{name_at-place_of}
use Rattle.rev_graph.specs.Graph.{build_at, producer_of}
use Rattle.rev_graph.proofs.GraphLemmas.{producer_of-within}
use Rattle.rev_graph.proofs.StepLemmas.{Source, source}
use Rattle.rev_ranks.specs.Graph.{Steps, graph_of, successors_of}
use Rattle.std.specs.Borrow.{Bor}
use Rattle.rev_unlisted.specs.Found.{IsFollow, names_of}
use Rattle.rev_unlisted.specs.Follows.{counted_of, follow_lists, follow_of, makers_of, path_nodes}

pub makers-append : (builds : List BuildValue) (sure : Bool) (xs ys : List (List ℕ)) → makers_of builds sure (xs ++ ys) ≡ makers_of builds sure xs ++ makers_of builds sure ys
makers-append builds sure xs ys =
    ap (filter (λ maker. not (sure && (build_at builds maker).restat))) (filter_map-append (producer_of builds) xs ys)
    ∙ filter-append (λ maker. not (sure && (build_at builds maker).restat)) (filter_map (producer_of builds) xs) (filter_map (producer_of builds) ys)

pub nodes-append : (count : ℕ) (paths xs ys : List (List ℕ)) → path_nodes count paths (xs ++ ys) ≡ path_nodes count paths xs ++ path_nodes count paths ys
nodes-append count paths xs ys = filter_map-append (λ (name : List ℕ). option_map (λ (path : ℕ). count + path) (place_of name paths)) xs ys

pub node-at : (count : ℕ) (paths : List (List ℕ)) (name : List ℕ) (path : ℕ) → place_of name paths ≡ Some path → path_nodes count paths (name ∷ []) ≡ (count + path) ∷ []
node-at count paths name path is = ap (λ (o : Option ℕ). cons_option (option_map (λ (p : ℕ). count + p) o) []) is

pub node-none : (count : ℕ) (paths : List (List ℕ)) (name : List ℕ) → place_of name paths ≡ None → path_nodes count paths (name ∷ []) ≡ []
node-none count paths name is = ap (λ (o : Option ℕ). cons_option (option_map (λ (p : ℕ). count + p) o) []) is

-- one more name
pub grown : (F : List (List ℕ) → List ℕ) → ((xs ys : List (List ℕ)) → F (xs ++ ys) ≡ F xs ++ F ys) → (names : List (List ℕ)) (i : ℕ) (name : List ℕ) (start mid all : List ℕ) → i < length names → name ≡ get_or names i name
    → mid ≡ start ++ F (take i names) → all ≡ mid ++ F (name ∷ []) → all ≡ start ++ F (take (i + 1) names)
grown F append names i name start mid all within is before more =
    more ∙ ap (λ (l : List ℕ). l ++ F (name ∷ [])) before ∙ append_assoc start (F (take i names)) (F (name ∷ [])) ∙ ap (λ (l : List ℕ). start ++ l) (sym (append (take i names) (name ∷ [])))
    ∙ ap (λ (l : List (List ℕ)). start ++ F l) (ap (λ (n : List ℕ). take i names ++ n ∷ []) is ∙ sym (take_more names i name within))

pub grown-all : (F : List (List ℕ) → List ℕ) (names : List (List ℕ)) (i : ℕ) (start all : List ℕ) → i ≡ length names → all ≡ start ++ F (take i names) → all ≡ start ++ F names
grown-all F names i start all whole is = is ∙ ap (λ (l : List (List ℕ)). start ++ F l) (ap (λ n. take n names) whole ∙ take-length names)

-- three parts of names, for makers and then for paths
pub six : (F G : List (List ℕ) → List ℕ) → ((xs ys : List (List ℕ)) → F (xs ++ ys) ≡ F xs ++ F ys) → ((xs ys : List (List ℕ)) → G (xs ++ ys) ≡ G xs ++ G ys) → (x y z : List (List ℕ)) (s0 s1 s2 s3 s4 s5 s6 : List ℕ)
    → s0 ≡ [] → s1 ≡ s0 ++ F x → s2 ≡ s1 ++ F y → s3 ≡ s2 ++ F z → s4 ≡ s3 ++ G x → s5 ≡ s4 ++ G y → s6 ≡ s5 ++ G z → s6 ≡ F (x ++ y ++ z) ++ G (x ++ y ++ z)
six F G f g x y z s0 s1 s2 s3 s4 s5 s6 e0 e1 e2 e3 e4 e5 e6 =
    e6 ∙ ap (λ (l : List ℕ). l ++ G z) (e5 ∙ ap (λ (l : List ℕ). l ++ G y) e4) ∙ append_assoc (s3 ++ G x) (G y) (G z) ∙ append_assoc s3 (G x) (G y ++ G z)
    ∙ ap (λ (l : List ℕ). s3 ++ l) (sym (append_assoc (G x) (G y) (G z)) ∙ ap (λ (l : List ℕ). l ++ G z) (sym (g x y)) ∙ sym (g (x ++ y) z)) ∙ ap (λ (l : List ℕ). l ++ G (x ++ y ++ z)) first
  where
    first : s3 ≡ F (x ++ y ++ z)
    first =
        e3 ∙ ap (λ (l : List ℕ). l ++ F z) (e2 ∙ ap (λ (l : List ℕ). l ++ F y) (e1 ∙ ap (λ (l : List ℕ). l ++ F x) e0) ∙ sym (f x y)) ∙ sym (f (x ++ y) z)

-- EDGE BY EDGE
graph-push : (xs : List (Vec ℕ)) (x : Vec ℕ) → graph_of (xs ++ x ∷ []) ≡ graph_of xs ++ x.items ∷ []
graph-push [] x = refl
graph-push (y ∷ ys) x = ap (λ (ls : List (List ℕ)). y.items ∷ ls) (graph-push ys x)

pub edges-more : (f : ℕ → List ℕ) (vectors all : List (Vec ℕ)) (v : Vec ℕ) (n : ℕ) → graph_of vectors ≡ map f (range_with_len 0 n) → all ≡ vectors ++ v ∷ [] → v.items ≡ f n → graph_of all ≡ map f (range_with_len 0 (n + 1))
edges-more f vectors all v n before pushed is =
    ap graph_of pushed ∙ graph-push vectors v ∙ (λ j. before j ++ is j ∷ []) ∙ sym (map-range_with_len_more f 0 n n (zero-add n))

names-push : (xs : List (Bor (List (List ℕ)))) (x : Bor (List (List ℕ))) → names_of (xs ++ x ∷ []) ≡ names_of xs ++ x.now ∷ []
names-push [] x = refl
names-push (y ∷ ys) x = ap (λ (ls : List (List (List ℕ))). y.now ∷ ls) (names-push ys x)

pub names-more : (f : ℕ → List (List ℕ)) (slices all : List (Bor (List (List ℕ)))) (v : Bor (List (List ℕ))) (n : ℕ) → names_of slices ≡ map f (range_with_len 0 n) → all ≡ slices ++ v ∷ [] → v.now ≡ f n
    → names_of all ≡ map f (range_with_len 0 (n + 1))
names-more f slices all v n before pushed is =
    ap names_of pushed ∙ names-push slices v ∙ (λ j. before j ++ is j ∷ []) ∙ sym (map-range_with_len_more f 0 n n (zero-add n))

-- PATH BY PATH
pub paths-more : (start : List (List ℕ)) (vectors all : List (Vec ℕ)) (v : Vec ℕ) (n : ℕ) → graph_of vectors ≡ start ++ replicate n [] → all ≡ vectors ++ v ∷ [] → v.items ≡ [] → graph_of all ≡ start ++ replicate (n + 1) []
paths-more start vectors all v n before pushed is =
    ap graph_of pushed ∙ graph-push vectors v ∙ (λ j. before j ++ is j ∷ []) ∙ append_assoc start (replicate n []) ([] ∷ []) ∙ ap (λ (l : List (List ℕ)). start ++ l) (replicate_more n [])

-- WHERE STEPS LEAD
abbrev no_nodes : List ℕ
no_nodes = []

module _ (builds : List BuildValue) (lists : List (List (List ℕ))) (paths : List (List ℕ)) (sure : Bool) where
  abbrev graph : List (List ℕ)
  graph = follow_lists builds lists paths sure

  pub follow-length : length (follow_lists builds lists paths sure) ≡ length builds + length paths
  follow-length =
      length-append (map (follow_of builds lists paths sure) (range_with_len 0 (length builds))) (replicate (length paths) [])
      ∙ (λ i. length-map-range_with_len (follow_of builds lists paths sure) 0 (length builds) i + length-replicate (length paths) no_nodes i)

  pub at-edge : (edge : ℕ) → edge < length builds → successors_of (follow_lists builds lists paths sure) edge ≡ follow_of builds lists paths sure edge
  at-edge edge within =
      get_or_append_left (map (follow_of builds lists paths sure) (range_with_len 0 (length builds))) (replicate (length paths) []) [] edge
      (let n = length-map-range_with_len (follow_of builds lists paths sure) 0 (length builds) in omega (arith, n, within))
      ∙ get_or-map-range_with_len (follow_of builds lists paths sure) 0 (length builds) edge edge [] within (zero-add edge)

  further : (x n : ℕ) (xs : List ℕ) → Contains xs n → Contains (x ∷ xs) n
  further x n xs (k, within, at) = (suc k, omega (arith, within), at)

  filtered-by : (b : Bool) (x n : ℕ) (ys xs : List ℕ) → ((m : ℕ) → Contains ys m → Contains xs m) → Contains (cond b (x ∷ ys) ys) n → Contains (x ∷ xs) n
  filtered-by true x n ys xs f (zero, within, at) = (0, omega arith, at)
  filtered-by true x n ys xs f (suc k, within, at) = further x n xs (f n (k, omega (arith, within), at))
  filtered-by false x n ys xs f c = further x n xs (f n c)

  filtered : (p : ℕ → Bool) (xs : List ℕ) (n : ℕ) → Contains (filter p xs) n → Contains xs n
  filtered p [] n h = h
  filtered p (x ∷ xs) n h = filtered-by (p x) x n (filter p xs) xs (λ m c. filtered p xs m c) h

  makers-below : (names : List (List ℕ)) (n : ℕ) → Contains (makers_of builds sure names) n → n < length builds
  makers-below names n h =
      let in_ = filtered (λ (maker : ℕ). not (sure && (build_at builds maker).restat)) (filter_map (producer_of builds) names) n h in
      let src : Source (producer_of builds) names n = source (producer_of builds) names n in_ in
      producer_of-within src.item builds n src.gives

  node-of : (names : List (List ℕ)) (n : ℕ) → Contains (path_nodes (length builds) paths names) n → (name : List ℕ) × (p : ℕ) × Contains names name × (place_of name paths ≡ Some p) × (n ≡ length builds + p)
  node-of names n h =
      let src : Source (λ (name : List ℕ). option_map (λ (path : ℕ). length builds + path) (place_of name paths)) names n = source (λ (name : List ℕ). option_map (λ (path : ℕ). length builds + path) (place_of name paths)) names n h in
      let found = mapped (place_of src.item paths) n src.gives in
      (src.item, found.0, src.is_item, found.1, found.2)
    where
      mapped : (o : Option ℕ) (n : ℕ) → option_map (λ (path : ℕ). length builds + path) o ≡ Some n → (p : ℕ) × (o ≡ Some p) × (n ≡ length builds + p)
      mapped None n e = let no : None ≡ Some n = e in absurd (true≢false cc)
      mapped (Some p) n e = let same : length builds + p ≡ n = cc in (p, refl, sym same)

  -- each step leads to a node
  pub steps-within : (n s : ℕ) → Steps (follow_lists builds lists paths sure) n s → s < length builds + length paths
  steps-within n s h = elim (cases_lt n (length builds)) [
    | inl edge ↦ elim (Contains-append_cases (makers_of builds sure (counted_of builds lists n)) (path_nodes (length builds) paths (counted_of builds lists n)) s (subst (λ (l : List ℕ). Contains l s) (at-edge n edge) h)) [
      | inl maker ↦ let b = makers-below (counted_of builds lists n) s maker in omega (arith, b)
      | inr node ↦
          let f = node-of (counted_of builds lists n) s node in
          let e = f.4 in
          let w = slice_get_within paths f.1 f.0 (name_at-place_of f.0 paths f.1 f.3) in
          omega (arith, e, w)
    ]
    | inr more ↦ absurd (none n s more h)
  ]
    where
      none : (n s : ℕ) → length builds ≤ n → Steps (follow_lists builds lists paths sure) n s → ⊥
      none n s more h =
          let k = subst (λ (l : List ℕ). Contains l s) (past n more) h in
          let w = k.1 in
          omega (arith, w)
        where
          empty : (m k : ℕ) → get_or (replicate m (no_nodes)) k no_nodes ≡ no_nodes
          empty m k = elim (cases_lt k m) [
            | inl inside ↦ get_or-replicate m k no_nodes no_nodes inside
            | inr beyond ↦ past-end (replicate m no_nodes) k no_nodes (let n = length-replicate m no_nodes in omega (arith, n, beyond))
          ]

          past : (n : ℕ) → length builds ≤ n → successors_of (follow_lists builds lists paths sure) n ≡ []
          past n more =
              get_or-append_right (map (follow_of builds lists paths sure) (range_with_len 0 (length builds))) (replicate (length paths) []) (length builds) n []
              (length-map-range_with_len (follow_of builds lists paths sure) 0 (length builds)) more
              ∙ empty (length paths) (n - length builds)

  pub follow-is : (vectors : List (Vec ℕ)) → graph_of vectors ≡ follow_lists builds lists paths sure → IsFollow (length builds + length paths) vectors
  follow-is vectors is = record {
    each = sym (length-map vectors (λ (v : Vec ℕ). v.items)) ∙ ap length is ∙ follow-length;
    inside = λ k d within j e inside.
        let at : successors_of (graph_of vectors) k ≡ (get_or vectors k d).items = get_or-map (λ (v : Vec ℕ). v.items) vectors k d [] within in
        let step : Steps (graph_of vectors) k (get_or (get_or vectors k d).items j e) = subst (λ (l : List ℕ). Contains l (get_or (get_or vectors k d).items j e)) (sym at) (Contains-get_or (get_or vectors k d).items j e inside) in
        steps-within k (get_or (get_or vectors k d).items j e) (subst (λ (g : List (List ℕ)). Steps g k (get_or (get_or vectors k d).items j e)) is step);
  }

pub follow-within : (n : ℕ) (vectors : List (Vec ℕ)) → IsFollow n vectors → All (λ (v : Vec ℕ). All (λ s. s < length vectors) v.items) vectors
follow-within n vectors is = subst (λ m. All (λ (v : Vec ℕ). All (λ s. s < m) v.items) vectors) (sym is.each) is.inside

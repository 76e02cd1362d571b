-- Steps of edges, ways behind phony edges, and marks.
use Rattle.std.proofs.Common.{◌≡◌, ℕ, zero, suc, ◌+◌, ◌<◌, Bool, true, false, List, [], ◌∷◌, ◌++◌, length, get_or, map, take, Option, Some, None, refl, sym, ap, subst, ◌∙◌, arith, if◌then◌else◌, Contains, inl, inr, true≢false}
use Rattle.std.specs.Prelude.{◌↔◌, Result, Ok, Err, IfOk}
use Rattle.std.specs.List.{All, filter_map, cons_option}
use Rattle.std.specs.Global.{Vec}
use Rattle.std.proofs.Math.ListN.{get_or-map}
use Rattle.std.proofs.Math.Seq.{take-length}
use Rattle.std.proofs.lemmas.List.{get_or-map as at-map, length-map, map_more}
use Rattle.std.proofs.lemmas.List.Elements.{Contains-get_or, Contains-push, Contains-push_cases, Contains-append_left}
use Rattle.rev_manifest.specs.Manifest.{BuildValue}
use Rattle.rev_ranks.specs.Graph.{graph_of, successors_of, Steps, Reaches, Reaches.step as one_step, Reaches.further as then_on}
use Rattle.rev_ranks.specs.Leads.{is_reachable, IsReachable, IsReachable.root, IsReachable.behind as led_to}
use Rattle.rev_ranks.specs.Sets.{IsSetOf}
use Rattle.std.proofs.lemmas.Bool.{cases_eq}
use Rattle.rev_ranks.proofs.Marks.{marked_within}
use Rattle.rev_ranks.proofs.SetLemmas.{reachable-sound, reachable-complete}
use Rattle.rev_graph.specs.Graph.{build_at, no_build, inputs_of, producer_of, input_producers, successor_lists, EdgeSteps}
use Rattle.rev_graph.proofs.GraphLemmas.{producer_of-within}
use Rattle.rev_graph.proofs.StepLemmas.{source, kept, node_way, edge_way, length-lists}
use Rattle.rev_waits.specs.Waits.{AreWaitedFor, Makes, Makes.itself, Makes.behind, IsBehind, passes_on, phony_lists}

-- EACH EDGE'S LIST, ONE AFTER THE OTHER
pub graph-more : (f : BuildValue → List ℕ) (vectors : List (Vec ℕ)) (v : Vec ℕ) (all : List (Vec ℕ)) (builds : List BuildValue) (i : ℕ)
    → i < length builds → all ≡ vectors ++ v ∷ [] → graph_of vectors ≡ map f (take i builds) → v.items ≡ f (get_or builds i no_build)
    → graph_of all ≡ map f (take (i + 1) builds)
graph-more f vectors v all builds i within pushed before new =
    ap graph_of pushed ∙ graph-push vectors v ∙ (λ j. before j ++ new j ∷ []) ∙ sym (map_more f builds i no_build within)
  where
    graph-push : (xs : List (Vec ℕ)) (x : Vec ℕ) → graph_of (xs ++ x ∷ []) ≡ graph_of xs ++ x.items ∷ []
    graph-push [] x = refl
    graph-push (y ∷ ys) x = ap (λ (ls : List (List ℕ)). y.items ∷ ls) (graph-push ys x)

filter_map-map : {X Y : Type 0} (f : X → Option Y) (xs : List X) → filter_map (λ o. o) (map f xs) ≡ filter_map f xs
filter_map-map f [] = refl
filter_map-map f (x ∷ xs) = ap (cons_option (f x)) (filter_map-map f xs)

-- the edges among an edge's producers
pub among-are : (builds : List BuildValue) (build : BuildValue) → filter_map (λ producer. producer) (input_producers builds build) ≡ filter_map (producer_of builds) (inputs_of build)
among-are builds build = filter_map-map (producer_of builds) (inputs_of build)

pub all-lists : (f : BuildValue → List ℕ) (vectors : List (Vec ℕ)) (builds : List BuildValue) (i : ℕ) → i ≡ length builds → graph_of vectors ≡ map f (take i builds) → graph_of vectors ≡ map f builds
all-lists f vectors builds i all e = e ∙ ap (λ n. map f (take n builds)) all ∙ ap (map f) (take-length builds)

-- REACHED FROM WHAT ONE NODE STEPS TO
reach-of : (graph : List (List ℕ)) (node a : ℕ) → IsReachable graph (successors_of graph node) a → Reaches graph node a
reach-of graph node a (root h) = one_step h
reach-of graph node a (led_to h way) = then_on h way

of-reach : (graph : List (List ℕ)) (node a : ℕ) → Reaches graph node a → IsReachable graph (successors_of graph node) a
of-reach graph node a (one_step h) = root h
of-reach graph node a (then_on h way) = led_to h way

pub roots-are : (vectors : List (Vec ℕ)) (edge : ℕ) (v : Vec ℕ) → edge < length vectors → v ≡ get_or vectors edge v → v.items ≡ successors_of (graph_of vectors) edge
roots-are vectors edge v within is = ap (λ (w : Vec ℕ). w.items) is ∙ sym (at-map (λ (w : Vec ℕ). w.items) vectors edge v [] within)

pub marked-reaches : (graph : List (List ℕ)) (node : ℕ) (roots : List ℕ) (marks : List Bool) → roots ≡ successors_of graph node → IsSetOf graph (is_reachable graph roots) marks
    → (a : ℕ) → (get_or marks a false ≡ true) ↔ Reaches graph node a
marked-reaches graph node roots marks are marked a = (
  λ h. reach-of graph node a (subst (λ rs. IsReachable graph rs a) are (reachable-sound graph roots a (sym (marked.exact a) ∙ h))),
  λ way. marked.exact a ∙ reachable-complete graph roots a (subst (λ rs. IsReachable graph rs a) (sym are) (of-reach graph node a way)),
)

pub roots-within : (vectors : List (Vec ℕ)) (edge : ℕ) (v : Vec ℕ) (roots : List ℕ) → All (λ v. All (λ s. s < length vectors) v.items) vectors → edge < length vectors → v ≡ get_or vectors edge v → roots ≡ v.items
    → All (λ s. s < length vectors) roots
roots-within vectors edge v roots inside within is same =
    subst (λ rs. All (λ s. s < length vectors) rs) (sym same) (subst (λ (w : Vec ℕ). All (λ s. s < length vectors) w.items) (sym is) (inside edge v within))

pub waited-for : (builds : List BuildValue) (vectors : List (Vec ℕ)) (edge : ℕ) (v : Vec ℕ) (marks : List Bool) → graph_of vectors ≡ successor_lists builds
    → edge < length vectors → v ≡ get_or vectors edge v → IsSetOf (graph_of vectors) (is_reachable (graph_of vectors) v.items) marks → AreWaitedFor builds edge marks
waited-for builds vectors edge v marks are within is marked = record {
  each = marked.length_is ∙ ap length are ∙ length-lists builds;
  exact = λ a.
      let r = marked-reaches (graph_of vectors) edge v.items marks (roots-are vectors edge v within is) marked a in
      (λ h. edge_way (subst (λ g. Reaches g edge a) are (r.0 h)), λ way. r.1 (subst (λ g. Reaches g edge a) (sym are) (node_way way)));
}

pub vectors-length : (f : BuildValue → List ℕ) (builds : List BuildValue) (vectors : List (Vec ℕ)) → graph_of vectors ≡ map f builds → length vectors ≡ length builds
vectors-length f builds vectors h = sym (length-map vectors (λ (v : Vec ℕ). v.items)) ∙ ap length h ∙ length-map builds f

-- BEHIND PHONY EDGES
listed-by : (b : Bool) (xs : List ℕ) (n : ℕ) → Contains (if b then xs else []) n → (b ≡ true) × Contains xs n
listed-by true xs n h = (refl, h)
listed-by false xs n (k, within, at) = absurd (omega (arith, within))

listed-on : (b : Bool) (xs : List ℕ) (n : ℕ) → b ≡ true → Contains xs n → Contains (if b then xs else []) n
listed-on true xs n e h = h
listed-on false xs n e h = absurd (true≢false (sym e))

phony-list-at : (builds : List BuildValue) (p : ℕ) → successors_of (phony_lists builds) p ≡ passes_on builds (build_at builds p)
phony-list-at builds p = get_or-map (passes_on builds) builds p no_build

phony-step : (builds : List BuildValue) (p n : ℕ) → Steps (phony_lists builds) p n → ((build_at builds p).phony ≡ true) × EdgeSteps builds p n
phony-step builds p n h =
    let r = listed-by (build_at builds p).phony (filter_map (producer_of builds) (inputs_of (build_at builds p))) n (subst (λ list. Contains list n) (phony-list-at builds p) h) in
    let s = source (producer_of builds) (inputs_of (build_at builds p)) n r.1 in
    (r.0, record { path = s.item; is_input = s.is_item; produced = s.gives })

step-phony : (builds : List BuildValue) (p n : ℕ) → (build_at builds p).phony ≡ true → EdgeSteps builds p n → Steps (phony_lists builds) p n
step-phony builds p n phony s =
    subst (λ list. Contains list n) (sym (phony-list-at builds p))
    (listed-on (build_at builds p).phony (filter_map (producer_of builds) (inputs_of (build_at builds p))) n phony (kept (producer_of builds) (inputs_of (build_at builds p)) s.path n s.is_input s.produced))

-- each edge that is stepped to is one
pub phony-within : (builds : List BuildValue) (vectors : List (Vec ℕ)) → graph_of vectors ≡ phony_lists builds → All (λ v. All (λ s. s < length vectors) v.items) vectors
phony-within builds vectors h = λ k d within j e inside.
    let list : List ℕ = (get_or vectors k d).items in
    let same : get_or (graph_of vectors) k [] ≡ list = at-map (λ (v : Vec ℕ). v.items) vectors k d [] within in
    let step : Steps (phony_lists builds) k (get_or list j e) =
    subst (λ l. Contains l (get_or list j e)) (sym same ∙ ap (λ g. get_or g k []) h) (Contains-get_or list j e inside) in
    let s = (phony-step builds k (get_or list j e) step).1 in
    omega (arith, producer_of-within s.path builds (get_or list j e) s.produced, vectors-length (passes_on builds) builds vectors h)

behind-way : (builds : List BuildValue) {p a : ℕ} → Reaches (phony_lists builds) p a → (build_at builds a).phony ≡ false → IsBehind builds p a
behind-way builds {p} {a} (one_step h) plain =
    let r = phony-step builds p a h in
    record { phony = r.0; input = r.1.path; is_input = r.1.is_input; made = itself r.1.produced plain }
behind-way builds {p} {a} (then_on {s = m} h way) plain =
    let r = phony-step builds p m h in
    let rest = behind-way builds way plain in
    record { phony = r.0; input = r.1.path; is_input = r.1.is_input; made = behind r.1.produced rest.phony rest.is_input rest.made }

made-way : {builds : List BuildValue} {a : ℕ} {path : List ℕ} → Makes builds a path → (p : ℕ) → (build_at builds p).phony ≡ true → Contains (inputs_of (build_at builds p)) path
    → Reaches (phony_lists builds) p a × ((build_at builds a).phony ≡ false)
made-way {builds} {a} {path} (itself e plain) p phony input = (one_step (step-phony builds p a phony (record { path = path; is_input = input; produced = e })), plain)
made-way {builds} {a} {path} (behind {phony = q} e passes on_line m) p phony input =
    let r = made-way m q passes on_line in
    (then_on (step-phony builds p q phony (record { path = path; is_input = input; produced = e })) r.0, r.1)

-- THE EDGES WITH A COMMAND AMONG THE FIRST THAT HAVE A MARK
pub record IsCounted (builds : List BuildValue) (marks : List Bool) (n k : ℕ) : Type 0 where
  pub below : k < n
  pub marked : get_or marks k false ≡ true
  pub plain : (build_at builds k).phony ≡ false

abbrev pub AreCounted : List BuildValue → List Bool → ℕ → List ℕ → Type 0
AreCounted builds marks n items = (k : ℕ) → Contains items k ↔ IsCounted builds marks n k

pub counted-none : (builds : List BuildValue) (marks : List Bool) → AreCounted builds marks 0 []
counted-none builds marks k = (λ (j, within, at). absurd (omega (arith, within)), λ h. let b = h.below in absurd (omega (arith, b)))

up : (builds : List BuildValue) (marks : List Bool) (n k : ℕ) → IsCounted builds marks n k → IsCounted builds marks (n + 1) k
up builds marks n k h = let b = h.below in record { below = omega (arith, b); marked = h.marked; plain = h.plain }

pub counted-one : (builds : List BuildValue) (marks : List Bool) (n : ℕ) (items all : List ℕ) → AreCounted builds marks n items → all ≡ items ++ n ∷ []
    → get_or marks n false ≡ true → (build_at builds n).phony ≡ false → AreCounted builds marks (n + 1) all
counted-one builds marks n items all before pushed marked plain k = (
  λ h. elim (Contains-push_cases items n k (subst (λ xs. Contains xs k) pushed h)) [
    | inl old ↦ up builds marks n k ((before k).0 old)
    | inr new ↦ subst (λ x. IsCounted builds marks (n + 1) x) new (record { below = omega arith; marked = marked; plain = plain })
  ],
  λ h. subst (λ xs. Contains xs k) (sym pushed) (elim (cases_eq k n) [
    | inl same ↦ subst (λ x. Contains (items ++ n ∷ []) x) (sym same) (Contains-push items n)
    | inr other ↦ Contains-append_left items (n ∷ []) k ((before k).1 (let b = h.below in record { below = omega (arith, b, other); marked = h.marked; plain = h.plain }))
  ]),
)

pub counted-other : (builds : List BuildValue) (marks : List Bool) (n : ℕ) (items : List ℕ) → AreCounted builds marks n items
    → (get_or marks n false ≡ true → (build_at builds n).phony ≡ false → ⊥) → AreCounted builds marks (n + 1) items
counted-other builds marks n items before none k = (
  λ h. up builds marks n k ((before k).0 h),
  λ h. elim (cases_eq k n) [
    | inl same ↦ absurd (none (subst (λ x. get_or marks x false ≡ true) same h.marked) (subst (λ x. (build_at builds x).phony ≡ false) same h.plain))
    | inr other ↦ (before k).1 (let b = h.below in record { below = omega (arith, b, other); marked = h.marked; plain = h.plain })
  ],
)

pub counted-behind : (builds : List BuildValue) (vectors : List (Vec ℕ)) (edge : ℕ) (v : Vec ℕ) (marks : List Bool) (items : List ℕ) → graph_of vectors ≡ phony_lists builds
    → edge < length vectors → v ≡ get_or vectors edge v → IsSetOf (graph_of vectors) (is_reachable (graph_of vectors) v.items) marks
    → AreCounted builds marks (length builds) items → (maker : ℕ) → Contains items maker ↔ IsBehind builds edge maker
counted-behind builds vectors edge v marks items are within is marked all maker = (
  λ h.
      let c = (all maker).0 h in
      behind-way builds (subst (λ g. Reaches g edge maker) are (reach.0 c.marked)) c.plain,
  λ h.
      let r = made-way h.made edge h.phony h.is_input in
      let m = reach.1 (subst (λ g. Reaches g edge maker) (sym are) r.0) in
      (all maker).1 (record { below = omega (arith, marked_within marks maker m, count); marked = m; plain = r.1 }),
)
  where
    reach : (get_or marks maker false ≡ true) ↔ Reaches (graph_of vectors) edge maker
    reach = marked-reaches (graph_of vectors) edge v.items marks (roots-are vectors edge v within is) marked maker

    count : length marks ≡ length builds
    count = marked.length_is ∙ ap length are ∙ length-map builds (passes_on builds)

-- WHO MAKES A PATH, BY ITS PRODUCER
pub made-by-none : (builds : List BuildValue) (maker : ℕ) (path : List ℕ) → producer_of builds path ≡ None → Makes builds maker path → ⊥
made-by-none builds maker path none (itself e plain) =
    let no : None ≡ Some maker = sym none ∙ e in
    cc
made-by-none builds maker path none (behind {phony = q} e passes on_line m) =
    let no : None ≡ Some q = sym none ∙ e in
    cc

pub made-by-command : (builds : List BuildValue) (maker p : ℕ) (path : List ℕ) → producer_of builds path ≡ Some p → (build_at builds p).phony ≡ false → Makes builds maker path → p ≡ maker
made-by-command builds maker p path is plain (itself e also) =
    let same : Some p ≡ Some maker = sym is ∙ e in
    cc
made-by-command builds maker p path is plain (behind {phony = q} e passes on_line m) =
    let same : Some p ≡ Some q = sym is ∙ e in
    let at : p ≡ q = cc in
    absurd (true≢false (sym passes ∙ sym (ap (λ x. (build_at builds x).phony) at) ∙ plain))

pub made-by-phony : (builds : List BuildValue) (maker p : ℕ) (path : List ℕ) → producer_of builds path ≡ Some p → (build_at builds p).phony ≡ true → Makes builds maker path ↔ IsBehind builds p maker
made-by-phony builds maker p path is phony = (λ m. by m, λ b. behind is b.phony b.is_input b.made)
  where
    by : Makes builds maker path → IsBehind builds p maker
    by (itself e plain) =
        let same : Some p ≡ Some maker = sym is ∙ e in
        let at : p ≡ maker = cc in
        absurd (true≢false (sym phony ∙ ap (λ x. (build_at builds x).phony) at ∙ plain))
    by (behind {phony = q} {input = input} e passes on_line m) =
        let same : Some q ≡ Some p = sym e ∙ is in
        let at : q ≡ p = cc in
        record { phony = phony; input = input; is_input = subst (λ x. Contains (inputs_of (build_at builds x)) input) at on_line; made = m }

pub made-by-one : (builds : List BuildValue) (p : ℕ) (path : List ℕ) (old items : List ℕ) → old ≡ [] → items ≡ old ++ p ∷ [] → producer_of builds path ≡ Some p → (build_at builds p).phony ≡ false
    → (maker : ℕ) → Contains items maker ↔ Makes builds maker path
made-by-one builds p path old items empty pushed is plain maker = (
  λ h. elim (Contains-push_cases [] p maker (subst (λ xs. Contains xs maker) (pushed ∙ ap (λ xs. xs ++ p ∷ []) empty) h)) [
    | inl (k, within, at) ↦ absurd (omega (arith, within))
    | inr same ↦ itself (is ∙ ap Some same) (subst (λ x. (build_at builds x).phony ≡ false) same plain)
  ],
  λ m. subst (λ xs. Contains xs maker) (sym pushed) (subst (λ x. Contains (old ++ p ∷ []) x) (made-by-command builds maker p path is plain m) (Contains-push old p)),
)

-- WHAT HOLDS OF WHAT A CALL GIVES
pub ok-more : {A E : Type 0} (P Q : A → Type 0) → ((x : A) → P x → Q x) → (r : Result A E) → IfOk r P → IfOk r Q
ok-more P Q f (Ok x) h = f x h
ok-more P Q f (Err e) h = h

-- the mark that was read
pub mark-read : (marks : List Bool) (n : ℕ) (r b : Bool) → n < length marks → r ≡ get_or marks n r → r ≡ b → get_or marks n false ≡ b
mark-read [] n r b within is e = absurd (omega (arith, within))
mark-read (m ∷ ms) zero r b within is e = sym is ∙ e
mark-read (m ∷ ms) (suc n) r b within is e = mark-read ms n r b (omega (arith, within)) is e

pub lists-length : (f : BuildValue → List ℕ) (builds : List BuildValue) (vectors : List (Vec ℕ)) → graph_of vectors ≡ map f builds → length (graph_of vectors) ≡ length builds
lists-length f builds vectors h = ap length h ∙ length-map builds f

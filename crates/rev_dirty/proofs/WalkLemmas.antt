-- The walk over phony edges.
use Rattle.std.proofs.Common.{◌≡◌, ℕ, ◌+◌, ◌<◌, ◌≤◌, zero, suc, Bool, true, false, ◌||◌, ◌⊎◌, inl, inr, take, List, [], ◌∷◌, ◌++◌, length, get_or, Option, Some, None, is_some, unwrap_or, map, max, nat_eq, refl, sym, ap, ◌∙◌, arith, if◌then◌else◌, subst}
use Rattle.std.specs.Prelude.{slice_index_or}
use Rattle.std.specs.List.{Contains, All, filter_map, sum_by, cons_option}
use Rattle.std.proofs.lemmas.List.{append-nil, append_assoc, take_more, map-append}
use Rattle.std.proofs.lemmas.Bool.{eqb-true, eq-eqb}
use Rattle.std.proofs.lemmas.List.Elements.{All-append, All-map, All-pop, All-nil, All-cons, All-head, All-tail, All-weaker, Contains-append_left}
use Rattle.std.proofs.lemmas.List.Folds.{list_any-append}
use Rattle.std.proofs.lemmas.List.Sums.{sum_by-append, sum_by_push, sum_by-cons}
use Rattle.rev_manifest.specs.Manifest.{BuildValue}
use Rattle.rev_graph.specs.Graph.{IsRanked, build_at, producer_of, rank_at}
use Rattle.rev_graph.proofs.GraphLemmas.{producer_of-within}
use Rattle.rev_cells.specs.State.{State, stamp_of}
use Rattle.rev_dirty.specs.declared.input.InputKind.TheVariants.{OnLine}
use Rattle.rev_dirty.specs.declared.input.Input.{Input}
use Rattle.rev_dirty.specs.declared.walk.Task.{Task}
use Rattle.rev_dirty.specs.declared.walk.Task.TheVariants.{Enter, Leave}
use Rattle.rev_dirty.specs.Facts.{phony_only, seen_edge, input_facts}
use Rattle.rev_dirty.specs.Visible.{greatest, line_inputs, seen_behind, visible_stamp}
use Rattle.rev_dirty.specs.Walk.{known, shown, shown_by, shown_behind, needed, IsPhonyEdge, IsKnowledge, IsWalk, IsAdded, IsReady, IsReadyTask, GoesOn, edge_of, has_task, is_covered, work, task_work, work_left}
use Rattle.rev_dirty.proofs.VisibleLemmas.{map-agree, visible-equation}

-- Lists

Contains-first : {X : Type 0} (x : X) (xs : List X) → Contains (x ∷ xs) x
Contains-first x xs = (0, omega arith, refl)

Contains-later : {X : Type 0} (y x : X) (xs : List X) → Contains xs x → Contains (y ∷ xs) x
Contains-later y x xs at = (suc at.0, omega (arith, at.1), at.2)

Contains-cons_option : {X : Type 0} (o : Option X) (xs : List X) (x : X) → o ≡ Some x → Contains (cons_option o xs) x
Contains-cons_option None xs x h = absurd (let no : None ≡ Some x = h in cc)
Contains-cons_option (Some y) xs x h =
    let same : y ≡ x = cc in
    subst (λ z. Contains (y ∷ xs) z) same (Contains-first y xs)

Contains-cons_option_later : {X : Type 0} (o : Option X) (xs : List X) (x : X) → Contains xs x → Contains (cons_option o xs) x
Contains-cons_option_later None xs x h = h
Contains-cons_option_later (Some y) xs x h = Contains-later y x xs h

-- what a function gives of an element is among what it gives of all
Contains-from_none : {X : Type 0} (x : X) → Contains [] x → ⊥
Contains-from_none x at = omega (arith, at.1)

pub get_or-cases : {X : Type 0} (xs : List X) (y x : X) → Contains (y ∷ xs) x → (y ≡ x) ⊎ Contains xs x
get_or-cases xs y x (zero, _, same) = inl same
get_or-cases xs y x (suc k, within, same) = inr (k, omega (arith, within), same)

pub Contains-filter_map : {X Y : Type 0} (h : X → Option Y) (xs : List X) (x : X) (y : Y) → Contains xs x → h x ≡ Some y → Contains (filter_map h xs) y
Contains-filter_map h [] x y at is = absurd (Contains-from_none x at)
Contains-filter_map h (z ∷ zs) x y at is =
    elim (get_or-cases zs z x at) [
      | inl same ↦ Contains-cons_option (h z) (filter_map h zs) y (ap h same ∙ is)
      | inr later ↦ Contains-cons_option_later (h z) (filter_map h zs) y (Contains-filter_map h zs x y later is)
    ]

pub filter_map-map : {X Y Z : Type 0} (f : X → Y) (h : Y → Option Z) (xs : List X) → filter_map h (map f xs) ≡ filter_map (λ x. h (f x)) xs
filter_map-map f h [] = refl
filter_map-map f h (x ∷ xs) = ap (cons_option (h (f x))) (filter_map-map f h xs)

map-map : {X Y Z : Type 0} (f : X → Y) (g : Y → Z) (xs : List X) → map g (map f xs) ≡ map (λ x. g (f x)) xs
map-map f g [] = refl
map-map f g (x ∷ xs) = ap (λ ys. g (f x) ∷ ys) (map-map f g xs)

-- What shows

in-known : (o : Option ℕ) (g : ℕ) → is_some o ≡ true → ((v : ℕ) → o ≡ Some v → v ≡ g) → unwrap_or o 0 ≡ g
in-known None g some right = absurd (let no : false ≡ true = some in cc)
in-known (Some v) g some right = right v refl

by-phony : (entries : List (ℕ × ℕ)) (edge s g : ℕ) (p : Bool) → s ≡ 0 → (p ≡ true → unwrap_or (known entries edge) 0 ≡ g)
    → shown_by entries (if p then Some edge else None) s ≡ (if p then g else 0)
by-phony entries edge s g true missing right = right refl
by-phony entries edge s g false missing right = missing

phony-some : (edge : ℕ) (p : Bool) → p ≡ true → (if p then Some edge else None) ≡ Some edge
phony-some edge true h = refl
phony-some edge false h = absurd (let no : false ≡ true = h in cc)

by-missing : (builds : List BuildValue) (state : State) (entries : List (ℕ × ℕ)) → IsKnowledge builds state entries → (b : Bool) (o : Option ℕ) (s : ℕ) → (b ≡ true → s ≡ 0)
    → ((edge : ℕ) → (if b then phony_only builds o else None) ≡ Some edge → is_some (known entries edge) ≡ true)
    → shown_by entries (if b then phony_only builds o else None) s ≡ (if b then seen_behind builds (visible_stamp builds state) o else s)
unfolding shown_behind
by-missing builds state entries k false o s missing there = refl
by-missing builds state entries k true None s missing there = missing refl
by-missing builds state entries k true (Some edge) s missing there =
    by-phony entries edge s (shown_behind builds state edge) (build_at builds edge).phony (missing refl)
    (λ phony. in-known (known entries edge) (shown_behind builds state edge) (there edge (phony-some edge (build_at builds edge).phony phony)) (k.right edge))

-- what shows of a path is its visible stamp, where the edge through which it is seen is known
pub shown-right : (builds : List BuildValue) (ranks : List ℕ) (state : State) (entries : List (ℕ × ℕ)) → IsRanked builds ranks → IsKnowledge builds state entries → (path : List ℕ)
    → ((edge : ℕ) → seen_edge builds state path ≡ Some edge → is_some (known entries edge) ≡ true)
    → shown_by entries (seen_edge builds state path) (stamp_of state path) ≡ visible_stamp builds state path
shown-right builds ranks state entries ranked k path there =
    by-missing builds state entries k (nat_eq (stamp_of state path) 0) (producer_of builds path) (stamp_of state path) (eqb-true (stamp_of state path) 0) there
    ∙ sym (visible-equation builds ranks state ranked path)

-- What is needed

All-cons_option : {X : Type 0} (P : X → Type 0) (o : Option X) (xs : List X) → ((x : X) → o ≡ Some x → P x) → All P xs → All P (cons_option o xs)
All-cons_option P None xs h all = all
All-cons_option P (Some x) xs h all = All-cons P x xs (h x refl) all

pub All-filter_map : {X Y : Type 0} (P : Y → Type 0) (h : X → Option Y) (xs : List X) → ((x : X) → Contains xs x → (y : Y) → h x ≡ Some y → P y) → All P (filter_map h xs)
All-filter_map P h [] each = All-nil P
All-filter_map P h (x ∷ xs) each =
    All-cons_option P (h x) (filter_map h xs) (each x (Contains-first x xs)) (All-filter_map P h xs (λ y at. each y (Contains-later x y xs at)))

phony-edge : (builds : List BuildValue) (producer edge : ℕ) (p : Bool) → producer < length builds → (build_at builds producer).phony ≡ p → (if p then Some producer else None) ≡ Some edge → IsPhonyEdge builds edge
phony-edge builds producer edge true within phony is =
    let same : producer ≡ edge = cc in
    subst (IsPhonyEdge builds) same (record { is_edge = within; phony = phony })
phony-edge builds producer edge false within phony is = absurd (let no : None ≡ Some edge = is in cc)

phony-if : (builds : List BuildValue) (path : List ℕ) (edge : ℕ) (b : Bool) (o : Option ℕ) → producer_of builds path ≡ o → (if b then phony_only builds o else None) ≡ Some edge → IsPhonyEdge builds edge
phony-if builds path edge false o from is = absurd (let no : None ≡ Some edge = is in cc)
phony-if builds path edge true None from is = absurd (let no : None ≡ Some edge = is in cc)
phony-if builds path edge true (Some producer) from is =
    phony-edge builds producer edge (build_at builds producer).phony (producer_of-within path builds producer from) refl is

-- a path is seen through a phony edge
pub seen-phony : (builds : List BuildValue) (state : State) (path : List ℕ) (edge : ℕ) → seen_edge builds state path ≡ Some edge → IsPhonyEdge builds edge
seen-phony builds state path edge is = phony-if builds path edge (nat_eq (stamp_of state path) 0) (producer_of builds path) refl is

same-producer : (builds : List BuildValue) (b : Bool) (o : Option ℕ) (edge : ℕ) → (if b then phony_only builds o else None) ≡ Some edge → o ≡ Some edge
same-producer builds false o edge is = absurd (let no : None ≡ Some edge = is in cc)
same-producer builds true None edge is = is
same-producer builds true (Some producer) edge is = by (build_at builds producer).phony is
  where
    by : (p : Bool) → (if p then Some producer else None) ≡ Some edge → Some producer ≡ Some edge
    by true is = is
    by false is = absurd (let no : None ≡ Some edge = is in cc)

-- a path is seen through the edge that produces it
seen-producer : (builds : List BuildValue) (state : State) (path : List ℕ) (edge : ℕ) → seen_edge builds state path ≡ Some edge → producer_of builds path ≡ Some edge
seen-producer builds state path edge is = same-producer builds (nat_eq (stamp_of state path) 0) (producer_of builds path) edge is

needed-phony : (builds : List BuildValue) (state : State) (edge : ℕ) → All (IsPhonyEdge builds) (needed builds state edge)
unfolding needed
needed-phony builds state edge =
    All-filter_map (IsPhonyEdge builds) (seen_edge builds state) (line_inputs (build_at builds edge)) (λ path at other is. seen-phony builds state path other is)

needed-lower : (builds : List BuildValue) (ranks : List ℕ) (state : State) (edge : ℕ) → IsRanked builds ranks → All (λ other. rank_at ranks other < rank_at ranks edge) (needed builds state edge)
unfolding needed
needed-lower builds ranks state edge ranked =
    All-filter_map (λ other. rank_at ranks other < rank_at ranks edge) (seen_edge builds state) (line_inputs (build_at builds edge))
    (λ path at other is.
    ranked.falls edge other
    (record { path = path; is_input = Contains-append_left (line_inputs (build_at builds edge)) (build_at builds edge).order_only path at; produced = seen-producer builds state path other is }))

-- what shows behind an edge, once all that it needs is known
pub shown-line : (builds : List BuildValue) (ranks : List ℕ) (state : State) (entries : List (ℕ × ℕ)) (edge : ℕ) → IsRanked builds ranks → IsKnowledge builds state entries
    → ((other : ℕ) → Contains (needed builds state edge) other → is_some (known entries other) ≡ true)
    → greatest (map (shown entries) (map (input_facts builds state OnLine) (line_inputs (build_at builds edge)))) ≡ shown_behind builds state edge
unfolding needed shown_behind
shown-line builds ranks state entries edge ranked k there =
    let paths = line_inputs (build_at builds edge) in
    ap greatest
    (map-map (input_facts builds state OnLine) (shown entries) paths
    ∙ map-agree (λ path. shown entries (input_facts builds state OnLine path)) (visible_stamp builds state) paths
    (λ path at. shown-right builds ranks state entries ranked k path (λ other is. there other (Contains-filter_map (seen_edge builds state) paths path other at is))))

-- The tasks

pub or-left : (a b : Bool) → a ≡ true → (a || b) ≡ true
or-left true b h = refl
or-left false b h = absurd (let no : false ≡ true = h in cc)

pub or-right : (a b : Bool) → b ≡ true → (a || b) ≡ true
or-right true b h = refl
or-right false b h = h

has-entered : (edges : List ℕ) (edge : ℕ) → Contains edges edge → has_task (map Enter edges) edge ≡ true
has-entered [] edge at = absurd (Contains-from_none edge at)
has-entered (e ∷ es) edge at =
    elim (get_or-cases es e edge at) [
      | inl same ↦ or-left (nat_eq e edge) (has_task (map Enter es) edge) (eq-eqb e edge same)
      | inr later ↦ or-right (nat_eq e edge) (has_task (map Enter es) edge) (has-entered es edge later)
    ]

covered-by : (k l x t y : Bool) → ((k || t) ≡ true → (l || y) ≡ true) → (k ≡ true → l ≡ true) → (k || (x || t)) ≡ true → (l || (x || y)) ≡ true
covered-by k true x t y h more c = refl
covered-by k false true t y h more c = refl
covered-by true false false t y h more c = absurd (let no : false ≡ true = more refl in cc)
covered-by false false false t y h more c = h c

-- what is covered stays so where the last tasks are replaced
cover-replace : (entries later : List (ℕ × ℕ)) (front last new : List Task) (edge : ℕ) → (is_covered entries last edge ≡ true → is_covered later new edge ≡ true)
    → (is_some (known entries edge) ≡ true → is_some (known later edge) ≡ true) → is_covered entries (front ++ last) edge ≡ true → is_covered later (front ++ new) edge ≡ true
cover-replace entries later front last new edge h more c =
    ap (λ b. is_some (known later edge) || b) (list_any-append (λ task. nat_eq (edge_of task) edge) front new)
    ∙ covered-by (is_some (known entries edge)) (is_some (known later edge)) (has_task front edge) (has_task last edge) (has_task new edge) h more
    (ap (λ b. is_some (known entries edge) || b) (sym (list_any-append (λ task. nat_eq (edge_of task) edge) front last)) ∙ c)

task-replace : (builds : List BuildValue) (state : State) (entries later : List (ℕ × ℕ)) (task : Task) (front last new : List Task)
    → ((edge : ℕ) → is_covered entries last edge ≡ true → is_covered later new edge ≡ true) → ((edge : ℕ) → is_some (known entries edge) ≡ true → is_some (known later edge) ≡ true)
    → IsReadyTask builds state entries task (front ++ last) → IsReadyTask builds state later task (front ++ new)
task-replace builds state entries later (Enter edge) front last new h more ready = tt
task-replace builds state entries later (Leave edge) front last new h more ready =
    λ other at. cover-replace entries later front last new other (h other) (more other) (ready other at)

ready-replace : (builds : List BuildValue) (state : State) (entries later : List (ℕ × ℕ)) (front last new : List Task)
    → ((edge : ℕ) → is_covered entries last edge ≡ true → is_covered later new edge ≡ true) → ((edge : ℕ) → is_some (known entries edge) ≡ true → is_some (known later edge) ≡ true)
    → IsReady builds state later new → IsReady builds state entries (front ++ last) → IsReady builds state later (front ++ new)
ready-replace builds state entries later [] last new h more r ready = r
ready-replace builds state entries later (task ∷ front) last new h more r ready =
    (task-replace builds state entries later task front last new h more ready.0, ready-replace builds state entries later front last new h more r ready.1)

ready-end : (builds : List BuildValue) (state : State) (entries : List (ℕ × ℕ)) (front last : List Task) → IsReady builds state entries (front ++ last) → IsReady builds state entries last
ready-end builds state entries [] last ready = ready
ready-end builds state entries (task ∷ front) last ready = ready-end builds state entries front last ready.1

pub ready-entered : (builds : List BuildValue) (state : State) (entries : List (ℕ × ℕ)) (edges : List ℕ) → IsReady builds state entries (map Enter edges)
ready-entered builds state entries [] = tt
ready-entered builds state entries (e ∷ es) = (tt, ready-entered builds state entries es)

front-edges : (builds : List BuildValue) (front : List Task) (task : Task) → All (λ (t : Task). IsPhonyEdge builds (edge_of t)) (front ++ task ∷ []) → All (λ (t : Task). IsPhonyEdge builds (edge_of t)) front
front-edges builds front task all = (All-pop (λ (t : Task). IsPhonyEdge builds (edge_of t)) (front ++ task ∷ []) front (Some task) refl all).0

pub last-edge : (builds : List BuildValue) (front : List Task) (task : Task) → All (λ (t : Task). IsPhonyEdge builds (edge_of t)) (front ++ task ∷ []) → IsPhonyEdge builds (edge_of task)
last-edge builds front task all = (All-pop (λ (t : Task). IsPhonyEdge builds (edge_of t)) (front ++ task ∷ []) front (Some task) refl all).1

pub entered-edges : (builds : List BuildValue) (edges : List ℕ) → All (IsPhonyEdge builds) edges → All (λ (t : Task). IsPhonyEdge builds (edge_of t)) (map Enter edges)
entered-edges builds edges all = All-map (λ (t : Task). IsPhonyEdge builds (edge_of t)) Enter edges all

-- An edge that is known is passed over.

cover-known : (entries : List (ℕ × ℕ)) (edge other : ℕ) → is_some (known entries edge) ≡ true → is_covered entries (Enter edge ∷ []) other ≡ true → is_covered entries [] other ≡ true
cover-known entries edge other there c = by (is_some (known entries other)) (nat_eq edge other) refl refl c
  where
    by : (k e : Bool) → is_some (known entries other) ≡ k → nat_eq edge other ≡ e → (k || (e || false)) ≡ true → (k || false) ≡ true
    by true e is same c = refl
    by false true is same c = sym is ∙ ap (λ q. is_some (known entries q)) (sym (eqb-true edge other same)) ∙ there
    by false false is same c = c

pub passed-walk : (builds : List BuildValue) (state : State) (entries : List (ℕ × ℕ)) (front : List Task) (edge : ℕ) → is_some (known entries edge) ≡ true
    → IsWalk builds state entries (front ++ Enter edge ∷ []) → IsWalk builds state entries front
passed-walk builds state entries front edge there w =
    record {
      knowledge = w.knowledge;
      edges = front-edges builds front (Enter edge) w.edges;
      ready = subst (IsReady builds state entries) (append-nil front)
          (ready-replace builds state entries entries front (Enter edge ∷ []) [] (λ other c. cover-known entries edge other there c) (λ other h. h) tt w.ready);
    }

pub passed-goes_on : (entries : List (ℕ × ℕ)) (front : List Task) (edge : ℕ) → is_some (known entries edge) ≡ true → GoesOn entries (front ++ Enter edge ∷ []) entries front
passed-goes_on entries front edge there = λ other c.
    ap (λ tasks. is_covered entries tasks other) (sym (append-nil front))
    ∙ cover-replace entries entries front (Enter edge ∷ []) [] other (λ h. cover-known entries edge other there h) (λ h. h) c

work-positive : (builds : List BuildValue) (state : State) (n edge : ℕ) → 1 ≤ work builds state n edge
work-positive builds state zero edge = omega arith
work-positive builds state (suc n) edge = omega arith

pub passed-less : (builds : List BuildValue) (state : State) (ranks : List ℕ) (front : List Task) (edge : ℕ) → work_left builds state ranks front < work_left builds state ranks (front ++ Enter edge ∷ [])
unfolding work_left
passed-less builds state ranks front edge =
    omega (arith, sum_by_push (task_work builds state ranks) front (Enter edge), work-positive builds state (suc (rank_at ranks edge)) edge)

-- An edge is entered.

cover-entered : (builds : List BuildValue) (state : State) (entries : List (ℕ × ℕ)) (edge other : ℕ) (more : List Task) → is_covered entries (Enter edge ∷ []) other ≡ true → is_covered entries (Leave edge ∷ more) other ≡ true
cover-entered builds state entries edge other more c = by (is_some (known entries other)) (nat_eq edge other) c
  where
    by : (k e : Bool) → (k || (e || false)) ≡ true → (k || (e || has_task more other)) ≡ true
    by true e c = refl
    by false true c = refl
    by false false c = absurd (let no : false ≡ true = c in cc)

pub entered-walk : (builds : List BuildValue) (state : State) (entries : List (ℕ × ℕ)) (front : List Task) (edge : ℕ)
    → IsWalk builds state entries (front ++ Enter edge ∷ []) → IsWalk builds state entries (front ++ Leave edge ∷ map Enter (needed builds state edge))
entered-walk builds state entries front edge w =
    let others = needed builds state edge in
    record {
      knowledge = w.knowledge;
      edges = All-append (λ (t : Task). IsPhonyEdge builds (edge_of t)) front (Leave edge ∷ map Enter others) (front-edges builds front (Enter edge) w.edges)
          (All-cons (λ (t : Task). IsPhonyEdge builds (edge_of t)) (Leave edge) (map Enter others) (last-edge builds front (Enter edge) w.edges) (entered-edges builds others (needed-phony builds state edge)));
      ready = ready-replace builds state entries entries front (Enter edge ∷ []) (Leave edge ∷ map Enter others)
          (λ other c. cover-entered builds state entries edge other (map Enter others) c) (λ other h. h)
          ((λ other at. or-right (is_some (known entries other)) (has_task (map Enter others) other) (has-entered others other at)), ready-entered builds state entries others)
          w.ready;
    }

pub entered-goes_on : (builds : List BuildValue) (state : State) (entries : List (ℕ × ℕ)) (front : List Task) (edge : ℕ) (more : List Task)
    → GoesOn entries (front ++ Enter edge ∷ []) entries (front ++ Leave edge ∷ more)
entered-goes_on builds state entries front edge more = λ other c.
    cover-replace entries entries front (Enter edge ∷ []) (Leave edge ∷ more) other (λ h. cover-entered builds state entries edge other more h) (λ h. h) c

sum_by-below : {X : Type 0} (f g : X → ℕ) (xs : List X) → All (λ x. f x ≤ g x) xs → sum_by f xs ≤ sum_by g xs
sum_by-below f g [] h = omega arith
sum_by-below f g (x ∷ xs) h =
    let first : f x ≤ g x = All-head (λ y. f y ≤ g y) x xs h in
    let rest : sum_by f xs ≤ sum_by g xs = sum_by-below f g xs (All-tail (λ y. f y ≤ g y) x xs h) in
    omega (arith, sum_by-cons f x xs, sum_by-cons g x xs)

sum_by-all : {X : Type 0} (f g : X → ℕ) (xs : List X) → ((x : X) → f x ≤ g x) → sum_by f xs ≤ sum_by g xs
sum_by-all f g xs h = sum_by-below f g xs (λ k d within. h (slice_index_or xs k d))

work-rises : (builds : List BuildValue) (state : State) (n m edge : ℕ) → n ≤ m → work builds state n edge ≤ work builds state m edge
work-rises builds state zero m edge h = work-positive builds state m edge
work-rises builds state (suc n) zero edge h = absurd (omega arith)
work-rises builds state (suc n) (suc m) edge h =
    let rest : sum_by (work builds state n) (needed builds state edge) ≤ sum_by (work builds state m) (needed builds state edge) =
    sum_by-all (work builds state n) (work builds state m) (needed builds state edge) (λ other. work-rises builds state n m other (omega arith)) in
    omega arith

entered-sum : (builds : List BuildValue) (state : State) (ranks : List ℕ) (edges : List ℕ) → sum_by (task_work builds state ranks) (map Enter edges) ≡ sum_by (λ e. work builds state (suc (rank_at ranks e)) e) edges
entered-sum builds state ranks [] = refl
entered-sum builds state ranks (e ∷ es) =
    sum_by-cons (task_work builds state ranks) (Enter e) (map Enter es)
    ∙ ap (λ n. work builds state (suc (rank_at ranks e)) e + n) (entered-sum builds state ranks es)
    ∙ sym (sum_by-cons (λ f. work builds state (suc (rank_at ranks f)) f) e es)

pub entered-less : (builds : List BuildValue) (state : State) (ranks : List ℕ) (front : List Task) (edge : ℕ) → IsRanked builds ranks
    → work_left builds state ranks (front ++ Leave edge ∷ map Enter (needed builds state edge)) < work_left builds state ranks (front ++ Enter edge ∷ [])
unfolding work_left
entered-less builds state ranks front edge ranked =
    let others = needed builds state edge in
    let f = task_work builds state ranks in
    let lower : sum_by (λ e. work builds state (suc (rank_at ranks e)) e) others ≤ sum_by (work builds state (rank_at ranks edge)) others =
    sum_by-below (λ e. work builds state (suc (rank_at ranks e)) e) (work builds state (rank_at ranks edge)) others
    (All-weaker (λ other. rank_at ranks other < rank_at ranks edge) (λ e. work builds state (suc (rank_at ranks e)) e ≤ work builds state (rank_at ranks edge) e)
    (λ other less. work-rises builds state (suc (rank_at ranks other)) (rank_at ranks edge) other (omega arith)) others (needed-lower builds ranks state edge ranked)) in
    omega (arith, lower, entered-sum builds state ranks others, sum_by_push f front (Enter edge), sum_by-append f front (Leave edge ∷ map Enter others), sum_by-cons f (Leave edge) (map Enter others))

-- the edges that an edge needs, by what is asked of its inputs
pub needed-through : (builds : List BuildValue) (state : State) (inputs : List Input) (edge : ℕ) → inputs ≡ map (input_facts builds state OnLine) (line_inputs (build_at builds edge))
    → filter_map (λ (input : Input). input.through) inputs ≡ needed builds state edge
unfolding needed
needed-through builds state inputs edge is =
    ap (filter_map (λ (input : Input). input.through)) is
    ∙ filter_map-map (input_facts builds state OnLine) (λ (input : Input). input.through) (line_inputs (build_at builds edge))

-- the tasks that are added for an edge
pub entered-tasks : (builds : List BuildValue) (state : State) (front middle tasks : List Task) (others : List ℕ) (inputs : List Input) (edge : ℕ)
    → inputs ≡ map (input_facts builds state OnLine) (line_inputs (build_at builds edge)) → others ≡ filter_map (λ (input : Input). input.through) inputs
    → middle ≡ front ++ Leave edge ∷ [] → tasks ≡ middle ++ map Enter others → tasks ≡ front ++ Leave edge ∷ map Enter (needed builds state edge)
entered-tasks builds state front middle tasks others inputs edge is through first second =
    second ∙ (λ i. first i ++ map Enter ((through ∙ needed-through builds state inputs edge is) i))
    ∙ append_assoc front (Leave edge ∷ []) (map Enter (needed builds state edge))

greatest-push : (ns : List ℕ) (n : ℕ) → greatest (ns ++ n ∷ []) ≡ max (greatest ns) n
greatest-push [] n = omega arith
greatest-push (m ∷ ns) n = ap (max m) (greatest-push ns n) ∙ max3 m (greatest ns) n
  where
    max3 : (a b c : ℕ) → max a (max b c) ≡ max (max a b) c
    max3 a b c = omega arith

pub greatest-more : (f : Input → ℕ) (inputs : List Input) (i : ℕ) (d : Input) → i < length inputs
    → max (greatest (map f (take i inputs))) (f (get_or inputs i d)) ≡ greatest (map f (take (i + 1) inputs))
greatest-more f inputs i d within =
    sym (ap greatest (ap (map f) (take_more inputs i d within) ∙ map-append f (take i inputs) (get_or inputs i d ∷ []))
    ∙ greatest-push (map f (take i inputs)) (f (get_or inputs i d)))

-- An edge is left.

added-phony : (builds : List BuildValue) (edge other v stamp : ℕ) (b : Bool) (o : Option ℕ) → nat_eq edge other ≡ b → (if b then Some stamp else o) ≡ Some v → IsPhonyEdge builds edge → (o ≡ Some v → IsPhonyEdge builds other) → IsPhonyEdge builds other
added-phony builds edge other v stamp true o same is new old = subst (IsPhonyEdge builds) (eqb-true edge other same) new
added-phony builds edge other v stamp false o same is new old = old is

added-right : (builds : List BuildValue) (state : State) (edge other v stamp : ℕ) (b : Bool) (o : Option ℕ) → nat_eq edge other ≡ b → (if b then Some stamp else o) ≡ Some v → stamp ≡ shown_behind builds state edge
    → (o ≡ Some v → v ≡ shown_behind builds state other) → v ≡ shown_behind builds state other
added-right builds state edge other v stamp true o same is new old =
    let e : edge ≡ other = eqb-true edge other same in
    let w : stamp ≡ v = cc in
    sym w ∙ new ∙ ap (shown_behind builds state) e
added-right builds state edge other v stamp false o same is new old = old is

pub knowledge-more : (builds : List BuildValue) (state : State) (entries later : List (ℕ × ℕ)) (edge stamp : ℕ) → IsKnowledge builds state entries → IsPhonyEdge builds edge → stamp ≡ shown_behind builds state edge
    → IsAdded entries later edge stamp → IsKnowledge builds state later
knowledge-more builds state entries later edge stamp k phony right added =
    record {
      phony = λ other v is. added-phony builds edge other v stamp (nat_eq edge other) (known entries other) refl (sym (added other) ∙ is) phony (k.phony other v);
      right = λ other v is. added-right builds state edge other v stamp (nat_eq edge other) (known entries other) refl (sym (added other) ∙ is) right (k.right other v);
    }

some-more : (b : Bool) (stamp : ℕ) (o : Option ℕ) → is_some o ≡ true → is_some (if b then Some stamp else o) ≡ true
some-more true stamp o h = refl
some-more false stamp o h = h

known-more : (entries later : List (ℕ × ℕ)) (edge stamp other : ℕ) → IsAdded entries later edge stamp → is_some (known entries other) ≡ true → is_some (known later other) ≡ true
known-more entries later edge stamp other added h = ap is_some (added other) ∙ some-more (nat_eq edge other) stamp (known entries other) h

cover-left : (entries later : List (ℕ × ℕ)) (edge stamp other : ℕ) → IsAdded entries later edge stamp → is_covered entries (Leave edge ∷ []) other ≡ true → is_covered later [] other ≡ true
cover-left entries later edge stamp other added c =
    ap (λ o. is_some o || false) (added other) ∙ by (is_some (known entries other)) (nat_eq edge other) refl c
  where
    by : (k b : Bool) → is_some (known entries other) ≡ k → (k || (b || false)) ≡ true → (is_some (if b then Some stamp else known entries other) || false) ≡ true
    by k true is c = refl
    by true false is c = ap (λ a. a || false) is
    by false false is c = absurd (let no : false ≡ true = c in cc)

pub left-walk : (builds : List BuildValue) (state : State) (entries later : List (ℕ × ℕ)) (front : List Task) (edge stamp : ℕ) → IsAdded entries later edge stamp → IsKnowledge builds state later
    → IsWalk builds state entries (front ++ Leave edge ∷ []) → IsWalk builds state later front
left-walk builds state entries later front edge stamp added k w =
    record {
      knowledge = k;
      edges = front-edges builds front (Leave edge) w.edges;
      ready = subst (IsReady builds state later) (append-nil front)
          (ready-replace builds state entries later front (Leave edge ∷ []) [] (λ other c. cover-left entries later edge stamp other added c) (λ other h. known-more entries later edge stamp other added h) tt w.ready);
    }

pub left-goes_on : (entries later : List (ℕ × ℕ)) (front : List Task) (edge stamp : ℕ) → IsAdded entries later edge stamp → GoesOn entries (front ++ Leave edge ∷ []) later front
left-goes_on entries later front edge stamp added = λ other c.
    ap (λ tasks. is_covered later tasks other) (sym (append-nil front))
    ∙ cover-replace entries later front (Leave edge ∷ []) [] other (λ h. cover-left entries later edge stamp other added h) (λ h. known-more entries later edge stamp other added h) c

pub left-less : (builds : List BuildValue) (state : State) (ranks : List ℕ) (front : List Task) (edge : ℕ) → work_left builds state ranks front < work_left builds state ranks (front ++ Leave edge ∷ [])
unfolding work_left
left-less builds state ranks front edge = omega (arith, sum_by_push (task_work builds state ranks) front (Leave edge))

or-none : (b : Bool) → (b || false) ≡ true → b ≡ true
or-none true h = refl
or-none false h = h

-- all that a task to leave an edge needs is known
pub left-needs : (builds : List BuildValue) (state : State) (entries : List (ℕ × ℕ)) (front : List Task) (edge other : ℕ) → IsReady builds state entries (front ++ Leave edge ∷ [])
    → Contains (needed builds state edge) other → is_some (known entries other) ≡ true
left-needs builds state entries front edge other ready at =
    or-none (is_some (known entries other)) ((ready-end builds state entries front (Leave edge ∷ []) ready).0 other at)

-- The whole walk.

pub started-walk : (builds : List BuildValue) (state : State) (entries : List (ℕ × ℕ)) (edges : List ℕ) → IsKnowledge builds state entries → All (IsPhonyEdge builds) edges → IsWalk builds state entries (map Enter edges)
started-walk builds state entries edges k all = record { knowledge = k; edges = entered-edges builds edges all; ready = ready-entered builds state entries edges }

pub all-known : (before entries : List (ℕ × ℕ)) (edges : List ℕ) → GoesOn before (map Enter edges) entries [] → (edge : ℕ) → Contains edges edge → is_some (known entries edge) ≡ true
all-known before entries edges goes edge at =
    or-none (is_some (known entries edge)) (goes edge (or-right (is_some (known before edge)) (has_task (map Enter edges) edge) (has-entered edges edge at)))

-- what is known where nothing is
pub nothing-known : (builds : List BuildValue) (state : State) → IsKnowledge builds state []
nothing-known builds state = record { phony = λ edge stamp h. absurd (let no : None ≡ Some stamp = h in cc); right = λ edge stamp h. absurd (let no : None ≡ Some stamp = h in cc) }

pub nil-from_length : {X : Type 0} (xs : List X) → length xs ≡ 0 → xs ≡ []
nil-from_length [] h = refl
nil-from_length (x ∷ xs) h = absurd (omega arith)

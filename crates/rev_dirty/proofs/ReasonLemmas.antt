-- The reasons of an edge, kind by kind.
use Rattle.std.proofs.Common.{◌≡◌, ◌≢◌, ℕ, ◌+◌, ◌<◌, ◌≤◌, zero, suc, Bool, true, false, cond, not, ◌&&◌, List, [], ◌∷◌, ◌++◌, length, Option, Some, None, is_some, map, max, nat_eq, refl, sym, ap, ◌∙◌, arith, if◌then◌else◌, subst}
use Rattle.std.specs.Prelude.{slice_get, nat_lt, filter, is_none}
use Rattle.std.specs.List.{range_with_len, flat_map, position, position_or_len, filter_map, Contains, All}
use Rattle.std.proofs.lemmas.Bool.{eqb-true, eqb-false, ne_eqb, ltb-true}
use Rattle.std.proofs.lemmas.List.{append-nil, length-map, length-append}
use Rattle.std.proofs.lemmas.List.Elements.{filter-append, filter_agree}
use Rattle.rev_manifest.specs.Manifest.{BuildValue}
use Rattle.rev_graph.specs.Graph.{IsRanked, build_at, outputs_of, inputs_of, producer_of}
use Rattle.rev_cells.specs.State.{State, stamp_of}
use Rattle.rev_cells.specs.declared.value.DepsRecord.{DepsRecord}
use Rattle.rev_dirty.specs.declared.input.InputKind.{InputKind}
use Rattle.rev_dirty.specs.declared.input.InputKind.TheVariants.{OnLine, OrderOnly, Listed}
use Rattle.rev_dirty.specs.declared.input.Input.{Input}
use Rattle.rev_dirty.specs.declared.output.Output.{Output}
use Rattle.rev_dirty.specs.declared.reason.Reason.{Reason}
use Rattle.rev_dirty.specs.declared.reason.Reason.TheVariants as reason
use Rattle.rev_dirty.specs.Inputs.{InputValue, an, inputs, counts, paths_in, deps_record}
use Rattle.rev_dirty.specs.Visible.{greatest, visible_stamp}
use Rattle.rev_dirty.specs.Reasons.{holds, holds_at, positions_in, is_missing, first_stamp, lacks_deps, has_old_deps, is_rebuilt, is_missing_dep, counted, newest_stamp, shows, newest, is_outdated, is_command_reason, is_phony_reason, is_reason, candidates, reasons_of}
use Rattle.rev_dirty.specs.Facts.{input_facts, facts_of_input, output_facts}
use Rattle.rev_dirty.specs.Chosen.{positions, lacks, has_shown, older_by, where_holds, stamp_of_first, all_reasons}
use Rattle.rev_dirty.specs.Walk.{known, shown, IsPhonyEdge, IsKnowledge}
use Rattle.rev_dirty.proofs.VisibleLemmas.{visible-equation, unproduced}
use Rattle.rev_dirty.proofs.WalkLemmas.{shown-right, seen-phony, Contains-filter_map, filter_map-map, All-filter_map}

-- Lists

slice_get-map : {A B : Type 0} (f : A → B) (xs : List A) (i : ℕ) (test : B → Bool) → holds_at test (map f xs) i ≡ holds_at (λ x. test (f x)) xs i
slice_get-map f [] i test = refl
slice_get-map f (x ∷ xs) zero test = refl
slice_get-map f (x ∷ xs) (suc i) test = slice_get-map f xs i test

holds-agree : {A : Type 0} (f g : A → Bool) → ((x : A) → f x ≡ g x) → (o : Option A) → holds f o ≡ holds g o
holds-agree f g same None = refl
holds-agree f g same (Some x) = same x

filter-by : {A B : Type 0} (make : A → B) (x : A) (b : Bool) (ys : List B) (xs : List A) → ys ≡ map make xs → cond b (make x ∷ ys) ys ≡ map make (cond b (x ∷ xs) xs)
filter-by make x true ys xs h = ap (λ zs. make x ∷ zs) h
filter-by make x false ys xs h = h

filter-map : {A B : Type 0} (p : B → Bool) (make : A → B) (xs : List A) → filter p (map make xs) ≡ map make (filter (λ x. p (make x)) xs)
filter-map p make [] = refl
filter-map p make (x ∷ xs) = filter-by make x (p (make x)) (filter p (map make xs)) (filter (λ y. p (make y)) xs) (filter-map p make xs)

filter-none : {A B : Type 0} (p : B → Bool) (make : A → B) → ((x : A) → p (make x) ≡ false) → (xs : List A) → filter p (map make xs) ≡ []
filter-none p make never [] = refl
filter-none p make never (x ∷ xs) = ap (λ b. cond b (make x ∷ filter p (map make xs)) (filter p (map make xs))) (never x) ∙ filter-none p make never xs

filter-flat_map : {A B : Type 0} (p : B → Bool) (g : A → List B) (xs : List A) → filter p (flat_map g xs) ≡ flat_map (λ x. filter p (g x)) xs
filter-flat_map p g [] = refl
filter-flat_map p g (x ∷ xs) = filter-append p (g x) (flat_map g xs) ∙ ap (λ ys. filter p (g x) ++ ys) (filter-flat_map p g xs)

flat_map-agree : {A B : Type 0} (f g : A → List B) → ((x : A) → f x ≡ g x) → (xs : List A) → flat_map f xs ≡ flat_map g xs
flat_map-agree f g same [] = refl
flat_map-agree f g same (x ∷ xs) = (λ i. same x i ++ flat_map-agree f g same xs i)

flat_map-none : {A B : Type 0} (xs : List A) → flat_map (λ (x : A). let none : List B = [] in none) xs ≡ []
flat_map-none [] = refl
flat_map-none (x ∷ xs) = flat_map-none xs

chosen-by : {A B : Type 0} (make : A → B) (x : A) (b : Bool) (ys : List B) (xs : List A) → ys ≡ map make xs → (if b then make x ∷ [] else []) ++ ys ≡ map make (cond b (x ∷ xs) xs)
chosen-by make x true ys xs h = ap (λ zs. make x ∷ zs) h
chosen-by make x false ys xs h = h

flat_map-chosen : {A B : Type 0} (test : A → Bool) (make : A → B) (xs : List A) → flat_map (λ x. if test x then make x ∷ [] else []) xs ≡ map make (filter test xs)
flat_map-chosen test make [] = refl
flat_map-chosen test make (x ∷ xs) =
    chosen-by make x (test x) (flat_map (λ y. if test y then make y ∷ [] else []) xs) (filter test xs) (flat_map-chosen test make xs)

map-map-facts : (builds : List BuildValue) (state : State) (entries : List (ℕ × ℕ)) (all : List InputValue) → map (shown entries) (map (facts_of_input builds state) all) ≡ map (λ (input : InputValue). shown entries (facts_of_input builds state input)) all
map-map-facts builds state entries [] = refl
map-map-facts builds state entries (x ∷ xs) = ap (λ ns. shown entries (facts_of_input builds state x) ∷ ns) (map-map-facts builds state entries xs)

-- one kind of reasons, by what is asked of the elements at positions
part : {A B : Type 0} (p : Reason → Bool) (make : ℕ → Reason) (test : B → Bool) (fact : A → B) (xs : List A) → ((i : ℕ) → p (make i) ≡ holds_at (λ x. test (fact x)) xs i)
    → filter p (map make (positions_in xs)) ≡ map make (positions test (map fact xs))
part p make test fact xs same =
    filter-map p make (positions_in xs)
    ∙ ap (map make)
    (filter_agree (λ i. p (make i)) (holds_at test (map fact xs)) (λ i. same i ∙ sym (slice_get-map fact xs i test)) (positions_in xs)
    ∙ ap (λ n. filter (holds_at test (map fact xs)) (range_with_len 0 n)) (sym (length-map xs fact)))

-- What shows of the inputs of an edge

input-known : (builds : List BuildValue) (state : State) (entries : List (ℕ × ℕ)) (all : List InputValue)
    → ((edge : ℕ) → Contains (filter_map (λ (input : Input). input.through) (map (facts_of_input builds state) all)) edge → is_some (known entries edge) ≡ true)
    → (input : InputValue) → Contains all input → (edge : ℕ) → (facts_of_input builds state input).through ≡ Some edge → is_some (known entries edge) ≡ true
input-known builds state entries all there input at edge is =
    there edge
    (subst (λ (es : List ℕ). Contains es edge) (sym (filter_map-map (facts_of_input builds state) (λ (fact : Input). fact.through) all))
    (Contains-filter_map (λ (i : InputValue). (facts_of_input builds state i).through) all input edge at is))

shown-kind : (builds : List BuildValue) (ranks : List ℕ) (state : State) (entries : List (ℕ × ℕ)) → IsRanked builds ranks → IsKnowledge builds state entries → (kind : InputKind) (path : List ℕ)
    → ((edge : ℕ) → (input_facts builds state kind path).through ≡ Some edge → is_some (known entries edge) ≡ true) → counts kind ≡ true
    → shown entries (input_facts builds state kind path) ≡ visible_stamp builds state path
shown-kind builds ranks state entries ranked k OnLine path there c = shown-right builds ranks state entries ranked k path there
shown-kind builds ranks state entries ranked k Listed path there c = shown-right builds ranks state entries ranked k path there
shown-kind builds ranks state entries ranked k OrderOnly path there c = absurd (let no : false ≡ true = c in cc)

fact-counts : (builds : List BuildValue) (state : State) (kind : InputKind) (path : List ℕ) → counts (input_facts builds state kind path).kind ≡ counts kind
fact-counts builds state OnLine path = refl
fact-counts builds state Listed path = refl
fact-counts builds state OrderOnly path = refl

uncounted-shown : (builds : List BuildValue) (state : State) (entries : List (ℕ × ℕ)) (kind : InputKind) (path : List ℕ) → counts kind ≡ false → shown entries (input_facts builds state kind path) ≡ 0
uncounted-shown builds state entries OnLine path c = absurd (let no : true ≡ false = c in cc)
uncounted-shown builds state entries Listed path c = absurd (let no : true ≡ false = c in cc)
uncounted-shown builds state entries OrderOnly path c = refl

newest-by : (f : InputValue → ℕ) (v : InputValue → ℕ) (x : InputValue) (xs : List InputValue) (b : Bool) → counts x.kind ≡ b → (counts x.kind ≡ true → f x ≡ v x) → (counts x.kind ≡ false → f x ≡ 0)
    → greatest (map f xs) ≡ greatest (map v (counted xs)) → max (f x) (greatest (map f xs)) ≡ greatest (map v (cond b (x ∷ counted xs) (counted xs)))
newest-by f v x xs true is same none rest = (λ i. max (same is i) (rest i))
newest-by f v x xs false is same none rest =
    let nothing : f x ≡ 0 = none is in
    let top : max (f x) (greatest (map f xs)) ≡ greatest (map f xs) = omega arith in
    top ∙ rest

-- the greatest stamp that shows is that of the inputs that count
newest-stamp : (f : InputValue → ℕ) (v : InputValue → ℕ) (all : List InputValue) → ((input : InputValue) → Contains all input → counts input.kind ≡ true → f input ≡ v input)
    → ((input : InputValue) → counts input.kind ≡ false → f input ≡ 0) → greatest (map f all) ≡ greatest (map v (counted all))
newest-stamp f v [] same none = refl
newest-stamp f v (x ∷ xs) same none =
    newest-by f v x xs (counts x.kind) refl (same x (0, omega arith, refl)) (none x)
    (newest-stamp f v xs (λ input at. same input (suc at.0, omega (arith, at.1), at.2)) none)

position_or_len-agree : {A B : Type 0} (f : A → B) (p : B → Bool) (q : A → Bool) (xs : List A) → ((x : A) → Contains xs x → p (f x) ≡ q x) → position_or_len p (map f xs) ≡ position_or_len q xs
position_or_len-agree f p q [] same = refl
position_or_len-agree f p q (x ∷ xs) same =
    (λ i. cond (not (same x (0, omega arith, refl) i)) (1 + position_or_len-agree f p q xs (λ y at. same y (suc at.0, omega (arith, at.1), at.2)) i) 0)

pub position-agree : {A B : Type 0} (f : A → B) (p : B → Bool) (q : A → Bool) (xs : List A) → ((x : A) → Contains xs x → p (f x) ≡ q x) → position p (map f xs) ≡ position q xs
position-agree f p q xs same = (λ i. cond (nat_lt (position_or_len-agree f p q xs same i) (length-map xs f i)) (Some (position_or_len-agree f p q xs same i)) None)

-- the tests of what shows agree with those of visible stamps
has-shown : (builds : List BuildValue) (ranks : List ℕ) (state : State) (entries : List (ℕ × ℕ)) (kind : InputKind) (path : List ℕ) (stamp : ℕ) → (counts kind ≡ true → shown entries (input_facts builds state kind path) ≡ visible_stamp builds state path)
    → has_shown entries stamp (input_facts builds state kind path) ≡ shows builds state stamp (record { path = path; kind = kind })
has-shown builds ranks state entries OnLine path stamp same = ap (λ n. nat_eq n stamp) (same refl)
has-shown builds ranks state entries Listed path stamp same = ap (λ n. nat_eq n stamp) (same refl)
has-shown builds ranks state entries OrderOnly path stamp same = refl

lacks-by : (builds : List BuildValue) (state : State) (path : List ℕ) (o : Option ℕ) → (o ≡ None → visible_stamp builds state path ≡ stamp_of state path)
    → (not (is_some o) && nat_eq (stamp_of state path) 0) ≡ (is_none o && nat_eq (visible_stamp builds state path) 0)
lacks-by builds state path None same = ap (λ n. nat_eq n 0) (sym (same refl))
lacks-by builds state path (Some edge) same = refl

lacks-dep : (builds : List BuildValue) (ranks : List ℕ) (state : State) → IsRanked builds ranks → (kind : InputKind) (path : List ℕ)
    → lacks (input_facts builds state kind path) ≡ is_missing_dep builds state (record { path = path; kind = kind })
lacks-dep builds ranks state ranked OnLine path = refl
lacks-dep builds ranks state ranked OrderOnly path = refl
lacks-dep builds ranks state ranked Listed path =
    lacks-by builds state path (producer_of builds path)
    (λ none. visible-equation builds ranks state ranked path ∙ unproduced builds state (visible_stamp builds state) path none)

-- The outputs that are older than the newest input

some-at : (k n : ℕ) (b : Bool) (o : ℕ) → nat_lt o n ≡ b → cond b (Some o) None ≡ Some k → k < n
some-at k n true o less is =
    let same : o ≡ k = cc in
    subst (λ m. m < n) same (ltb-true o n less)
some-at k n false o less is = absurd (let no : None ≡ Some k = is in cc)

position-within : {A : Type 0} (p : A → Bool) (xs : List A) (k : ℕ) → position p xs ≡ Some k → k < length xs
position-within p xs k is = some-at k (length xs) (nat_lt (position_or_len p xs) (length xs)) (position_or_len p xs) refl is

single-none : (m a k : ℕ) → k < a → filter (λ i. nat_eq k i) (range_with_len a m) ≡ []
single-none zero a k less = refl
single-none (suc m) a k less =
    let other : nat_eq k a ≡ false = ne_eqb k a (λ same. omega arith) in
    ap (λ b. cond b (a ∷ filter (λ i. nat_eq k i) (range_with_len (a + 1) m)) (filter (λ i. nat_eq k i) (range_with_len (a + 1) m))) other ∙ single-none m (a + 1) k (omega arith)

single-by : (m a k : ℕ) (b : Bool) → nat_eq k a ≡ b → a ≤ k → k < a + suc m → (a + 1 ≤ k → k < a + 1 + m → filter (λ i. nat_eq k i) (range_with_len (a + 1) m) ≡ k ∷ [])
    → cond b (a ∷ filter (λ i. nat_eq k i) (range_with_len (a + 1) m)) (filter (λ i. nat_eq k i) (range_with_len (a + 1) m)) ≡ k ∷ []
single-by m a k true is low high rest =
    let same : k ≡ a = eqb-true k a is in
    (λ i. sym same i ∷ single-none m (a + 1) k (omega arith) i)
single-by m a k false is low high rest =
    let other : k ≢ a = eqb-false k a is in
    rest (omega arith) (omega arith)

-- the only position that is k
single : (m a k : ℕ) → a ≤ k → k < a + m → filter (λ i. nat_eq k i) (range_with_len a m) ≡ k ∷ []
single zero a k low high = absurd (omega arith)
single (suc m) a k low high = single-by m a k (nat_eq k a) refl low high (λ l h. single m (a + 1) k l h)

never-chosen : {A : Type 0} (xs : List A) → filter (λ (x : A). false) xs ≡ []
never-chosen [] = refl
never-chosen (x ∷ xs) = never-chosen xs

-- the position that an option holds
abbrev chosen-one : Option ℕ → List ℕ
chosen-one None = []
chosen-one (Some k) = k ∷ []

the-one : {A : Type 0} (xs : List A) (o : Option ℕ) → ((k : ℕ) → o ≡ Some k → k < length xs) → filter (λ i. holds (λ first. nat_eq first i) o) (positions_in xs) ≡ chosen-one o
the-one xs None within = never-chosen (positions_in xs)
the-one xs (Some k) within = single (length xs) 0 k (omega arith) (omega (arith, within k refl))

-- the pairs of one output
pairs-of : {A : Type 0} (xs : List A) (o : ℕ) (n : Option ℕ) (b : Bool) → ((k : ℕ) → n ≡ Some k → k < length xs)
    → map (reason.Older o) (filter (λ i. b && holds (λ first. nat_eq first i) n) (positions_in xs)) ≡ (if b then map (reason.Older o) (chosen-one n) else [])
pairs-of xs o n true within = ap (map (reason.Older o)) (the-one xs n within)
pairs-of xs o n false within = ap (map (reason.Older o)) (never-chosen (positions_in xs))

none-older : (test : ℕ → Bool) (xs : List ℕ) → flat_map (λ o. if test o then map (reason.Older o) (chosen-one None) else []) xs ≡ []
none-older test [] = refl
none-older test (x ∷ xs) = by (test x) ∙ none-older test xs
  where
    by : (b : Bool) → (if b then map (reason.Older x) (chosen-one None) else []) ++ flat_map (λ o. if test o then map (reason.Older o) (chosen-one None) else []) xs ≡ flat_map (λ o. if test o then map (reason.Older o) (chosen-one None) else []) xs
    by true = refl
    by false = refl

abbrev older-all : (ℕ → Bool) → Option ℕ → List ℕ → List Reason
older-all test None outs = []
older-all test (Some k) outs = map (λ o. reason.Older o k) (filter test outs)

older-chosen : (test : ℕ → Bool) (n : Option ℕ) (outs : List ℕ) → flat_map (λ o. if test o then map (reason.Older o) (chosen-one n) else []) outs ≡ older-all test n outs
older-chosen test None outs = none-older test outs
older-chosen test (Some k) outs = flat_map-chosen test (λ o. reason.Older o k) outs

older-part : {A : Type 0} (p : Reason → Bool) (test : ℕ → Bool) (xs : List A) (outs : List ℕ) (n : Option ℕ) → ((k : ℕ) → n ≡ Some k → k < length xs)
    → ((o i : ℕ) → p (reason.Older o i) ≡ (test o && holds (λ first. nat_eq first i) n))
    → filter p (flat_map (λ o. map (reason.Older o) (positions_in xs)) outs) ≡ older-all test n outs
older-part p test xs outs n within same =
    filter-flat_map p (λ o. map (reason.Older o) (positions_in xs)) outs
    ∙ flat_map-agree (λ o. filter p (map (reason.Older o) (positions_in xs))) (λ o. if test o then map (reason.Older o) (chosen-one n) else [])
    (λ o. filter-map p (reason.Older o) (positions_in xs)
    ∙ ap (map (reason.Older o)) (filter_agree (λ i. p (reason.Older o i)) (λ i. test o && holds (λ first. nat_eq first i) n) (same o) (positions_in xs))
    ∙ pairs-of xs o n (test o) within)
    outs
    ∙ older-chosen test n outs

older-facts : (n : Option ℕ) (stamp : ℕ) (test : ℕ → Bool) (outs : List ℕ) (facts : List Output) → filter test outs ≡ positions (λ (o : Output). nat_lt o.effective stamp) facts → older-all test n outs ≡ older_by n stamp facts
older-facts None stamp test outs facts same = refl
older-facts (Some k) stamp test outs facts same = ap (map (λ o. reason.Older o k)) same

positions-facts : {A B : Type 0} (q : ℕ → Bool) (test : B → Bool) (fact : A → B) (xs : List A) → ((i : ℕ) → q i ≡ holds_at (λ x. test (fact x)) xs i) → filter q (positions_in xs) ≡ positions test (map fact xs)
positions-facts q test fact xs same =
    filter_agree q (holds_at test (map fact xs)) (λ i. same i ∙ sym (slice_get-map fact xs i test)) (positions_in xs)
    ∙ ap (λ n. filter (holds_at test (map fact xs)) (range_with_len 0 n)) (sym (length-map xs fact))

-- All kinds together

filter-8 : (p : Reason → Bool) (a b c d e f g h : List Reason)
    → filter p (a ++ b ++ c ++ d ++ e ++ f ++ g ++ h) ≡ filter p a ++ filter p b ++ filter p c ++ filter p d ++ filter p e ++ filter p f ++ filter p g ++ filter p h
filter-8 p a b c d e f g h =
    filter-append p (a ++ b ++ c ++ d ++ e ++ f ++ g) h
    ∙ ap (λ z. z ++ filter p h)
    (filter-append p (a ++ b ++ c ++ d ++ e ++ f) g
    ∙ ap (λ z. z ++ filter p g)
    (filter-append p (a ++ b ++ c ++ d ++ e) f
    ∙ ap (λ z. z ++ filter p f)
    (filter-append p (a ++ b ++ c ++ d) e
    ∙ ap (λ z. z ++ filter p e)
    (filter-append p (a ++ b ++ c) d
    ∙ ap (λ z. z ++ filter p d) (filter-append p (a ++ b) c ∙ ap (λ z. z ++ filter p c) (filter-append p a b))))))

where-is : (b : Bool) (r : Reason) → cond b (r ∷ []) [] ≡ where_holds b r
where-is true r = refl
where-is false r = refl

old-deps : (state : State) (build : BuildValue) (outs : List (List ℕ)) → stamp_of_first (map (output_facts state build) outs) ≡ first_stamp state outs
old-deps state build [] = refl
old-deps state build (o ∷ os) = refl

-- the deps are old, by what is asked of the outputs
pub has-old-deps : (state : State) (build : BuildValue) → holds (λ (deps : DepsRecord). nat_lt deps.stamp (stamp_of_first (map (output_facts state build) (outputs_of build)))) (deps_record state build) ≡ has_old_deps state build
has-old-deps state build = ap (λ stamp. holds (λ (deps : DepsRecord). nat_lt deps.stamp stamp) (deps_record state build)) (old-deps state build (outputs_of build))

-- the inputs of an edge are seen through phony edges
pub all-phony : (builds : List BuildValue) (state : State) (all : List InputValue) → All (IsPhonyEdge builds) (filter_map (λ (input : Input). input.through) (map (facts_of_input builds state) all))
all-phony builds state all =
    subst (All (IsPhonyEdge builds)) (sym (filter_map-map (facts_of_input builds state) (λ (fact : Input). fact.through) all))
    (All-filter_map (IsPhonyEdge builds) (λ (i : InputValue). (facts_of_input builds state i).through) all (λ input at edge is. through-phony input.kind input.path edge is))
  where
    through-phony : (kind : InputKind) (path : List ℕ) (edge : ℕ) → (input_facts builds state kind path).through ≡ Some edge → IsPhonyEdge builds edge
    through-phony OnLine path edge is = seen-phony builds state path edge is
    through-phony Listed path edge is = seen-phony builds state path edge is
    through-phony OrderOnly path edge is = absurd (let no : None ≡ Some edge = is in cc)

-- what shows of the inputs of an edge, where all phony edges through which they are seen are known
pub newest-are : (builds : List BuildValue) (ranks : List ℕ) (state : State) (all : List InputValue) (entries : List (ℕ × ℕ)) → IsRanked builds ranks → IsKnowledge builds state entries
    → ((other : ℕ) → Contains (filter_map (λ (input : Input). input.through) (map (facts_of_input builds state) all)) other → is_some (known entries other) ≡ true)
    → greatest (map (shown entries) (map (facts_of_input builds state) all)) ≡ newest_stamp builds state all
newest-are builds ranks state all entries ranked k there =
    ap greatest (map-map-facts builds state entries all)
    ∙ newest-stamp (λ (input : InputValue). shown entries (facts_of_input builds state input)) (λ (input : InputValue). visible_stamp builds state input.path) all
    (λ input at. shown-kind builds ranks state entries ranked k input.kind input.path (input-known builds state entries all there input at))
    (λ input c. uncounted-shown builds state entries input.kind input.path c)

-- the reasons of an edge that is not phony
pub command-are : (builds : List BuildValue) (ranks : List ℕ) (state : State) (edge : ℕ) (entries : List (ℕ × ℕ)) → IsRanked builds ranks → IsKnowledge builds state entries
    → ((other : ℕ) → Contains (filter_map (λ (input : Input). input.through) (map (facts_of_input builds state) (inputs state (build_at builds edge)))) other → is_some (known entries other) ≡ true)
    → (build_at builds edge).phony ≡ false
    → all_reasons entries (map (output_facts state (build_at builds edge)) (outputs_of (build_at builds edge))) (map (facts_of_input builds state) (inputs state (build_at builds edge)))
    (map (is_rebuilt builds state) (inputs state (build_at builds edge))) (lacks_deps state (build_at builds edge)) (has_old_deps state (build_at builds edge))
    ≡ reasons_of builds state edge
unfolding reasons_of
command-are builds ranks state edge entries ranked k there command =
    let build = build_at builds edge in
    let all = inputs state build in
    let outs = outputs_of build in
    let facts = map (facts_of_input builds state) all in
    let p = is_command_reason builds state build in
    let shows-same : (input : InputValue) → Contains all input → counts input.kind ≡ true → shown entries (facts_of_input builds state input) ≡ visible_stamp builds state input.path =
    λ input at. shown-kind builds ranks state entries ranked k input.kind input.path (input-known builds state entries all there input at) in
    let top : greatest (map (shown entries) facts) ≡ newest_stamp builds state all = newest-are builds ranks state all entries ranked k there in
    let first : position (has_shown entries (greatest (map (shown entries) facts))) facts ≡ newest builds state all =
    ap (λ stamp. position (has_shown entries stamp) facts) top
    ∙ position-agree (facts_of_input builds state) (has_shown entries (newest_stamp builds state all)) (shows builds state (newest_stamp builds state all)) all
    (λ input at. has-shown builds ranks state entries input.kind input.path (newest_stamp builds state all) (shows-same input at)) in
    let older : filter p (flat_map (λ o. map (reason.Older o) (positions_in all)) (positions_in outs)) ≡ older_by (position (has_shown entries (greatest (map (shown entries) facts))) facts) (greatest (map (shown entries) facts)) (map (output_facts state build) outs) =
    older-part p (holds_at (is_outdated builds state build) outs) all (positions_in outs) (newest builds state all) (position-within (shows builds state (newest_stamp builds state all)) all) (λ o i. refl)
    ∙ older-facts (newest builds state all) (newest_stamp builds state all) (holds_at (is_outdated builds state build) outs) (positions_in outs) (map (output_facts state build) outs)
    (positions-facts (holds_at (is_outdated builds state build) outs) (λ (o : Output). nat_lt o.effective (newest_stamp builds state all)) (output_facts state build) outs (λ i. refl))
    ∙ (λ i. older_by (sym first i) (sym top i) (map (output_facts state build) outs)) in
    sym
    (filter_agree (is_reason builds state build) p (λ r. ap (λ b. if b then is_phony_reason state build r else is_command_reason builds state build r) command) (candidates (positions_in outs) (positions_in all))
    ∙ filter-8 p (map reason.Missing (positions_in outs)) (reason.NoDeps ∷ []) (reason.DepsOld ∷ []) (map reason.Rebuilt (positions_in all)) (map reason.MissingDep (positions_in all))
    (flat_map (λ o. map (reason.Older o) (positions_in all)) (positions_in outs)) (map reason.NoRecord (positions_in outs)) (map reason.Command (positions_in outs))
    ∙ (λ i.
    part p reason.Missing (λ (o : Output). nat_eq o.stamp 0) (output_facts state build) outs (λ j. refl) i
    ++ where-is (lacks_deps state build) reason.NoDeps i
    ++ where-is (has_old_deps state build) reason.DepsOld i
    ++ part p reason.Rebuilt (λ (c : Bool). c) (is_rebuilt builds state) all (λ j. refl) i
    ++ part p reason.MissingDep lacks (facts_of_input builds state) all
    (λ j. sym (holds-agree (λ (input : InputValue). lacks (facts_of_input builds state input)) (is_missing_dep builds state) (λ input. lacks-dep builds ranks state ranked input.kind input.path) (slice_get all j))) i
    ++ older i
    ++ part p reason.NoRecord (λ (o : Output). o.unrecorded) (output_facts state build) outs (λ j. refl) i
    ++ part p reason.Command (λ (o : Output). o.command_changed) (output_facts state build) outs (λ j. refl) i))

-- the reasons of a phony edge
none-of : (p : Reason → Bool) (outs ins : List ℕ) → ((r : Reason) → p r ≡ false) → filter p (candidates outs ins) ≡ []
none-of p outs ins never = all-none p never (candidates outs ins)
  where
    all-none : (q : Reason → Bool) → ((r : Reason) → q r ≡ false) → (rs : List Reason) → filter q rs ≡ []
    all-none q no-one rs = filter_agree q (λ r. false) no-one rs ∙ never-chosen rs

no-older : (p : Reason → Bool) → ((o i : ℕ) → p (reason.Older o i) ≡ false) → (outs ins : List ℕ) → filter p (flat_map (λ o. map (reason.Older o) ins) outs) ≡ []
no-older p never outs ins =
    filter-flat_map p (λ o. map (reason.Older o) ins) outs
    ∙ flat_map-agree (λ o. filter p (map (reason.Older o) ins)) (λ o. let none : List Reason = [] in none) (λ o. filter-none p (reason.Older o) (never o) ins) outs
    ∙ flat_map-none outs

ends : (rs : List Reason) → rs ++ [] ++ [] ++ [] ++ [] ++ [] ++ [] ++ [] ≡ rs
ends rs = simp append-nil

-- how many inputs an edge has
pub count-inputs : (state : State) (build : BuildValue) (listed : List (List ℕ)) → listed ≡ paths_in (deps_record state build) → length (inputs_of build) + length listed ≡ length (inputs state build)
count-inputs state build listed is =
    ap (λ ps. length (inputs_of build) + length ps) is
    ∙ sym
    (length-append (map (an OnLine) (build.explicit ++ build.implicit) ++ map (an OrderOnly) build.order_only) (map (an Listed) (paths_in (deps_record state build)))
    ∙ (λ i. length-append (map (an OnLine) (build.explicit ++ build.implicit)) (map (an OrderOnly) build.order_only) i + length-map (paths_in (deps_record state build)) (an Listed) i)
    ∙ (λ i. (length-map (build.explicit ++ build.implicit) (an OnLine) i + length-map build.order_only (an OrderOnly) i) + length (paths_in (deps_record state build)))
    ∙ ap (λ n. n + length (paths_in (deps_record state build))) (sym (length-append (build.explicit ++ build.implicit) build.order_only)))

pub phony-are : (builds : List BuildValue) (state : State) (edge : ℕ) (b : Bool) → (build_at builds edge).phony ≡ true → nat_eq (length (inputs state (build_at builds edge))) 0 ≡ b
    → (if b then map reason.Missing (positions (λ (o : Output). nat_eq o.stamp 0) (map (output_facts state (build_at builds edge)) (outputs_of (build_at builds edge)))) else []) ≡ reasons_of builds state edge
unfolding reasons_of
phony-are builds state edge true phony empty =
    let build = build_at builds edge in
    let outs = outputs_of build in
    let all = inputs state build in
    let p = is_phony_reason state build in
    sym
    (filter_agree (is_reason builds state build) p (λ r. ap (λ b. if b then is_phony_reason state build r else is_command_reason builds state build r) phony) (candidates (positions_in outs) (positions_in all))
    ∙ filter-8 p (map reason.Missing (positions_in outs)) (reason.NoDeps ∷ []) (reason.DepsOld ∷ []) (map reason.Rebuilt (positions_in all)) (map reason.MissingDep (positions_in all))
    (flat_map (λ o. map (reason.Older o) (positions_in all)) (positions_in outs)) (map reason.NoRecord (positions_in outs)) (map reason.Command (positions_in outs))
    ∙ (λ i.
    part p reason.Missing (λ (o : Output). nat_eq o.stamp 0) (output_facts state build) outs (λ j. ap (λ b. b && holds_at (is_missing state) outs j) empty) i
    ++ []
    ++ []
    ++ filter-none p reason.Rebuilt (λ j. refl) (positions_in all) i
    ++ filter-none p reason.MissingDep (λ j. refl) (positions_in all) i
    ++ no-older p (λ o j. refl) (positions_in outs) (positions_in all) i
    ++ filter-none p reason.NoRecord (λ j. refl) (positions_in outs) i
    ++ filter-none p reason.Command (λ j. refl) (positions_in outs) i)
    ∙ ends (map reason.Missing (positions (λ (o : Output). nat_eq o.stamp 0) (map (output_facts state build) outs))))
phony-are builds state edge false phony empty =
    let build = build_at builds edge in
    let outs = positions_in (outputs_of build) in
    let ins = positions_in (inputs state build) in
    sym
    (filter_agree (is_reason builds state build) (is_phony_reason state build) (λ r. ap (λ b. if b then is_phony_reason state build r else is_command_reason builds state build r) phony) (candidates outs ins)
    ∙ none-of (is_phony_reason state build) outs ins never)
  where
    never : (r : Reason) → is_phony_reason state (build_at builds edge) r ≡ false
    never (reason.Missing o) = ap (λ b. b && holds_at (is_missing state) (outputs_of (build_at builds edge)) o) empty
    never reason.NoDeps = refl
    never reason.DepsOld = refl
    never (reason.Rebuilt i) = refl
    never (reason.MissingDep i) = refl
    never (reason.Older o i) = refl
    never (reason.NoRecord o) = refl
    never (reason.Command o) = refl

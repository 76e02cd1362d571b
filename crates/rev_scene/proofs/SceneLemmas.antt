-- Lists that grow by one item, and what is made of them.
use Rattle.std.proofs.Common.{◌≡◌, ℕ, zero, suc, ◌+◌, ◌<◌, List, [], ◌∷◌, ◌++◌, length, get_or, map, take, Option, Some, None, slice_get, refl, sym, ap, ◌∙◌, ◌==◌, arith, append_assoc, append-nil, if◌then◌else◌}
use Rattle.std.specs.List.{flat_map, range_with_len}
use Rattle.std.specs.Option.{option_or}
use Rattle.std.proofs.lemmas.List.{map-append, take_more}
use Rattle.std.proofs.lemmas.Grind.{flat_map-append}
use Rattle.std.proofs.lemmas.Option.{slice_get-get_or}
use Rattle.rev_manifest.specs.Builds.{BuildValue}
use Rattle.rev_graph.specs.Graph.{producer_of}
use Rattle.rev_observation.specs.Observations.{ObservationValue}
use Rattle.rev_scene.specs.Scenes.{first_some, maker_by_name}

-- one more item of a list
pub flat-more : {X Y : Type 0} (f : X → List Y) (xs : List X) (i : ℕ) (x : X) → i < length xs → x ≡ get_or xs i x → flat_map f (take (i + 1) xs) ≡ flat_map f (take i xs) ++ f x
flat-more f xs i x within is =
    ap (flat_map f) (take_more xs i x within) ∙ flat_map-append f (take i xs) (get_or xs i x ∷ [])
    ∙ ap (λ ys. flat_map f (take i xs) ++ ys) (append-nil (f (get_or xs i x)) ∙ ap f (sym is))

pub added-more : {X Y : Type 0} (f : X → List Y) (xs : List X) (i : ℕ) (x : X) (first old new : List Y) → i < length xs → x ≡ get_or xs i x → old ≡ first ++ flat_map f (take i xs) → new ≡ old ++ f x
    → new ≡ first ++ flat_map f (take (i + 1) xs)
added-more f xs i x first old new within is before added =
    added ∙ ap (λ ys. ys ++ f x) before ∙ append_assoc first (flat_map f (take i xs)) (f x) ∙ ap (λ ys. first ++ ys) (sym (flat-more f xs i x within is))

-- one more number
pub range-more : (a n : ℕ) → range_with_len a (suc n) ≡ range_with_len a n ++ (a + n) ∷ []
range-more a zero = ap (λ x. x ∷ []) (omega arith)
range-more a (suc n) = ap (λ xs. a ∷ xs) (range-more (a + 1) n ∙ ap (λ x. range_with_len (a + 1) n ++ x ∷ []) (omega arith))

pub map-range-more : {Y : Type 0} (f : ℕ → Y) (n : ℕ) → map f (range_with_len 0 (n + 1)) ≡ map f (range_with_len 0 n) ++ f n ∷ []
map-range-more f n =
    let next : n + 1 ≡ suc n = omega arith in
    let here : 0 + n ≡ n = omega arith in
    ap (λ m. map f (range_with_len 0 m)) next ∙ ap (map f) (range-more 0 n ∙ ap (λ x. range_with_len 0 n ++ x ∷ []) here) ∙ map-append f (range_with_len 0 n) (n ∷ [])

pub pushed-more : {Y : Type 0} (f : ℕ → Y) (n : ℕ) (y : Y) (old new : List Y) → old ≡ map f (range_with_len 0 n) → new ≡ old ++ y ∷ [] → y ≡ f n → new ≡ map f (range_with_len 0 (n + 1))
pushed-more f n y old new before added is = added ∙ ap (λ ys. ys ++ y ∷ []) before ∙ ap (λ z. map f (range_with_len 0 n) ++ z ∷ []) is ∙ sym (map-range-more f n)

-- the values of items, of which one more was pushed
pub values-more : {X Y : Type 0} (value : X → Y) (f : ℕ → Y) (n : ℕ) (x : X) (old new : List X) → map value old ≡ map f (range_with_len 0 n) → new ≡ old ++ x ∷ [] → value x ≡ f n → map value new ≡ map f (range_with_len 0 (n + 1))
values-more value f n x old new before added is =
    ap (map value) added ∙ map-append value old (x ∷ []) ∙ ap (λ ys. ys ++ value x ∷ []) before ∙ ap (λ z. map f (range_with_len 0 n) ++ z ∷ []) is ∙ sym (map-range-more f n)

-- THE FIRST
or-assoc : (a b c : Option ℕ) → option_or (option_or a b) c ≡ option_or a (option_or b c)
or-assoc None b c = refl
or-assoc (Some x) b c = refl

or-none : (a : Option ℕ) → option_or a None ≡ a
or-none None = refl
or-none (Some x) = refl

first-append : (xs ys : List (Option ℕ)) → first_some (xs ++ ys) ≡ option_or (first_some xs) (first_some ys)
first-append [] ys = refl
first-append (x ∷ xs) ys = ap (option_or x) (first-append xs ys) ∙ sym (or-assoc x (first_some xs) (first_some ys))

pub first-more : (f : ℕ → Option ℕ) (n : ℕ) → first_some (map f (range_with_len 0 (n + 1))) ≡ option_or (first_some (map f (range_with_len 0 n))) (f n)
first-more f n =
    ap first_some (map-range-more f n) ∙ first-append (map f (range_with_len 0 n)) (f n ∷ []) ∙ ap (option_or (first_some (map f (range_with_len 0 n)))) (or-none (f n))

-- what one further name gives
pub made-is : (builds : List BuildValue) (entries : List ℕ) (names : List (List ℕ)) (number n e : ℕ) (path : List ℕ) (m : Option ℕ) → number < length names → e ≡ get_or entries number 0 → slice_get names number ≡ Some path
    → m ≡ producer_of builds path → (if e == n then m else None) ≡ (if get_or entries number 0 == n then producer_of builds (get_or names number []) else None)
made-is builds entries names number n e path m within is named made =
    let same : Some (get_or names number []) ≡ Some path = sym (slice_get-get_or names number [] within) ∙ named in
    let at : get_or names number [] ≡ path = cc in
    ap (λ x. if x == n then m else None) is ∙ ap (λ y. if get_or entries number 0 == n then y else None) (made ∙ ap (producer_of builds) (sym at))

-- the maker by one more name
pub named-more : (builds : List BuildValue) (o : ObservationValue) (i n e : ℕ) (path : List ℕ) (m old new : Option ℕ) → i < length o.names.names → e ≡ get_or o.names.entries i 0 → slice_get o.names.names i ≡ Some path
    → m ≡ producer_of builds path → old ≡ first_some (map (maker_by_name builds o n) (range_with_len 0 i)) → new ≡ option_or old (if e == n then m else None)
    → new ≡ first_some (map (maker_by_name builds o n) (range_with_len 0 (i + 1)))
named-more builds o i n e path m old new within is named made before put =
    put ∙ ap (λ x. option_or x (if e == n then m else None)) before
    ∙ ap (option_or (first_some (map (maker_by_name builds o n) (range_with_len 0 i)))) (made-is builds o.names.entries o.names.names i n e path m within is named made)
    ∙ sym (first-more (maker_by_name builds o n) i)

-- Producers, doubles and steps.
use Rattle.std.proofs.Common.{◌≡◌, ℕ, ◌+◌, ◌<◌, zero, suc, Bool, true, false, ◌||◌, List, [], ◌∷◌, ◌++◌, length, get_or, take, drop, Option, Some, None, is_some, find, option_map, unwrap_or, map, refl, sym, ap, ◌∙◌, arith, if◌then◌else◌, add-zero, add-one, drop-cons, length-take-le}
use Rattle.std.proofs.lemmas.List.{take_more}
use Rattle.std.specs.List.{list_any}
use Rattle.rev_manifest.specs.Manifest.{BuildValue}
use Rattle.rev_graph.specs.Entries.{entry, has_entry, produced_by, given}
use Rattle.std.specs.Option.{option_or}
use Rattle.rev_graph.specs.Graph.{has_path, outputs_of, producer_from, producer_of, double_after, first_double, build_at, is_known, needs, inputs_of, input_producers}
use Rattle.rev_graph.proofs.EntryLemmas.{find-same}

push-by : (n m : ℕ) (more rest : Option ℕ) (other t : Bool) → more ≡ option_or rest (given other m) → (if t then Some n else more) ≡ option_or (if t then Some n else rest) (given other m)
push-by n m more rest other true h = refl
push-by n m more rest other false h = h

-- one more edge
pub producer_from-push : (n : ℕ) (path : List ℕ) (builds : List BuildValue) (build : BuildValue) (m : ℕ) → m ≡ n + length builds
    → producer_from n path (builds ++ build ∷ []) ≡ option_or (producer_from n path builds) (given (has_path (outputs_of build) path) m)
producer_from-push n path [] build m h = ap (λ k. if has_path (outputs_of build) path then Some k else None) (sym (h ∙ add-zero n))
producer_from-push n path (b ∷ bs) build m h =
    push-by n m (producer_from (n + 1) path (bs ++ build ∷ [])) (producer_from (n + 1) path bs) (has_path (outputs_of build) path) (has_path (outputs_of b) path)
    (producer_from-push (n + 1) path bs build m (omega arith))

pub producer_of-push : (path : List ℕ) (builds : List BuildValue) (build : BuildValue) (m : ℕ) → m ≡ length builds
    → producer_of (builds ++ build ∷ []) path ≡ option_or (producer_of builds path) (given (has_path (outputs_of build) path) m)
producer_of-push path builds build m h = producer_from-push 0 path builds build m (omega arith)

pub option_map-option_or : (o : Option ℕ) (b : Bool) (m : ℕ) → option_or (option_map Some o) (given b (Some m)) ≡ option_map Some (option_or o (given b m))
option_map-option_or None true m = refl
option_map-option_or None false m = refl
option_map-option_or (Some x) b m = refl

within-by : (n p len : ℕ) (rest : Option ℕ) (t : Bool) → (rest ≡ Some p → p < n + 1 + len) → (if t then Some n else rest) ≡ Some p → p < n + suc len
within-by n p len rest true h e =
    let same : n ≡ p = cc in
    omega arith
within-by n p len rest false h e = omega (arith, h e)

-- a producer is an edge
pub producer_from-within : (n : ℕ) (path : List ℕ) (builds : List BuildValue) (p : ℕ) → producer_from n path builds ≡ Some p → p < n + length builds
producer_from-within n path [] p h =
    let no : None ≡ Some p = h in
    cc
producer_from-within n path (b ∷ bs) p h =
    within-by n p (length bs) (producer_from (n + 1) path bs) (has_path (outputs_of b) path) (producer_from-within (n + 1) path bs p) h

pub producer_of-within : (path : List ℕ) (builds : List BuildValue) (p : ℕ) → producer_of builds path ≡ Some p → p < length builds
producer_of-within path builds p h = omega (arith, producer_from-within 0 path builds p h)

-- the edge at a place, and those after it
drop-more : (builds : List BuildValue) (i : ℕ) (build : BuildValue) → build ≡ get_or builds i build → i < length builds → drop i builds ≡ build ∷ drop (i + 1) builds
drop-more builds i build is within = rw (add-one, drop-cons builds i build) (ap (λ b. b ∷ drop (suc i) builds) (sym is))

take-more : (builds : List BuildValue) (i : ℕ) (build : BuildValue) → build ≡ get_or builds i build → i < length builds → take (i + 1) builds ≡ take i builds ++ build ∷ []
take-more builds i build is within = take_more builds i build within ∙ ap (λ b. take i builds ++ b ∷ []) (sym is)

some-mapped : (e : Option (Option ℕ)) (o : Option ℕ) → e ≡ option_map Some o → is_some e ≡ is_some o
some-mapped e None h = ap is_some h
some-mapped e (Some x) h = ap is_some h

-- what the table of the edges before has of the outputs of an edge
find-earlier : (builds : List BuildValue) (es : List (List ℕ × Option ℕ)) → ((path : List ℕ) → entry es path ≡ option_map Some (producer_of builds path))
    → (paths : List (List ℕ)) → find (has_entry es) paths ≡ find (λ path. is_some (producer_of builds path)) paths
find-earlier builds es at = find-same (has_entry es) (λ path. is_some (producer_of builds path)) (λ path. some-mapped (entry es path) (producer_of builds path) (at path))

-- the doubles of the edges from a place on
double-more : (builds : List BuildValue) (es : List (List ℕ × Option ℕ)) (i : ℕ) (build : BuildValue) → build ≡ get_or builds i build → i < length builds
    → ((path : List ℕ) → entry es path ≡ option_map Some (producer_of (take i builds) path))
    → double_after (take i builds) (drop i builds) ≡ option_or (find (has_entry es) (outputs_of build)) (double_after (take (i + 1) builds) (drop (i + 1) builds))
double-more builds es i build is within at =
    ap (double_after (take i builds)) (drop-more builds i build is within)
    ∙ (λ k. option_or (sym (find-earlier (take i builds) es at (outputs_of build)) k) (double_after (sym (take-more builds i build is within) k) (drop (i + 1) builds)))

-- an output that an earlier edge has
pub double-found : (builds : List BuildValue) (es : List (List ℕ × Option ℕ)) (i : ℕ) (build : BuildValue) (name : List ℕ) → build ≡ get_or builds i build → i < length builds
    → ((path : List ℕ) → entry es path ≡ option_map Some (producer_of (take i builds) path)) → double_after (take i builds) (drop i builds) ≡ first_double builds
    → Some name ≡ find (has_entry es) (outputs_of build) → first_double builds ≡ Some name
double-found builds es i build name is within at h found =
    sym h ∙ double-more builds es i build is within at ∙ ap (λ o. option_or o (double_after (take (i + 1) builds) (drop (i + 1) builds))) (sym found)

-- no output that an earlier edge has
pub double-none : (builds : List BuildValue) (es : List (List ℕ × Option ℕ)) (i : ℕ) (build : BuildValue) → build ≡ get_or builds i build → i < length builds
    → ((path : List ℕ) → entry es path ≡ option_map Some (producer_of (take i builds) path)) → double_after (take i builds) (drop i builds) ≡ first_double builds
    → None ≡ find (has_entry es) (outputs_of build) → double_after (take (i + 1) builds) (drop (i + 1) builds) ≡ first_double builds
double-none builds es i build is within at h none =
    ap (λ o. option_or o (double_after (take (i + 1) builds) (drop (i + 1) builds))) none ∙ sym (double-more builds es i build is within at) ∙ h

-- the table with the outputs of one more edge
pub producers-more : (builds : List BuildValue) (e f : Option (Option ℕ)) (i : ℕ) (build : BuildValue) (path : List ℕ) → build ≡ get_or builds i build → i < length builds
    → e ≡ option_map Some (producer_of (take i builds) path) → f ≡ option_or e (given (has_path (outputs_of build) path) (Some i)) → f ≡ option_map Some (producer_of (take (i + 1) builds) path)
producers-more builds e f i build path is within before more =
    more ∙ ap (λ x. option_or x (given (has_path (outputs_of build) path) (Some i))) before
    ∙ option_map-option_or (producer_of (take i builds) path) (has_path (outputs_of build) path) i
    ∙ ap (option_map Some) (sym (producer_of-push path (take i builds) build i (sym (length-take-le i builds (omega arith)))) ∙ ap (λ bs. producer_of bs path) (sym (take-more builds i build is within)))

-- the edge at a number, whatever stands past the last
pub same-at : (builds : List BuildValue) (i : ℕ) (build : BuildValue) → build ≡ get_or builds i build → i < length builds → build_at builds i ≡ build
same-at [] i build h within = absurd (omega arith)
same-at (b ∷ bs) zero build h within = sym h
same-at (b ∷ bs) (suc i) build h within = same-at bs i build h (omega arith)

by-entry : (p : Option ℕ) (other : Bool) → unwrap_or (if is_some p || other then Some p else None) None ≡ p
by-entry None true = refl
by-entry None false = refl
by-entry (Some x) other = refl

-- what the table of all paths has of the producer of a path
pub produced-by : (es : List (List ℕ × Option ℕ)) (builds : List BuildValue) (path : List ℕ) → entry es path ≡ (if is_known builds path then Some (producer_of builds path) else None)
    → produced_by es path ≡ producer_of builds path
produced-by es builds path h = ap (λ o. unwrap_or o None) h ∙ by-entry (producer_of builds path) (list_any (needs path) builds)

map-same : {X Y : Type 0} (f g : X → Y) → ((x : X) → f x ≡ g x) → (xs : List X) → map f xs ≡ map g xs
map-same f g same [] = refl
map-same f g same (x ∷ xs) = (λ i. same x i ∷ map-same f g same xs i)

-- the producers of inputs, by the table
pub producers-are : (es : List (List ℕ × Option ℕ)) (builds : List BuildValue) → ((path : List ℕ) → entry es path ≡ (if is_known builds path then Some (producer_of builds path) else None))
    → map (λ build. map (produced_by es) (inputs_of build)) builds ≡ map (input_producers builds) builds
producers-are es builds h =
    map-same (λ (build : BuildValue). map (produced_by es) (inputs_of build)) (input_producers builds) (λ build. map-same (produced_by es) (producer_of builds) (λ path. produced-by es builds path (h path)) (inputs_of build)) builds

-- a path's entry in the table of all paths, by that in the table of outputs
pub known-entry : (p : Option ℕ) (b : Bool) → option_or (option_map Some p) (given b None) ≡ (if is_some p || b then Some p else None)
known-entry None true = refl
known-entry None false = refl
known-entry (Some x) b = refl

by-outputs : (p : Option ℕ) → unwrap_or (option_map Some p) None ≡ p
by-outputs None = refl
by-outputs (Some x) = refl

-- the producers of inputs, by the table of outputs
pub outputs-producers : (es : List (List ℕ × Option ℕ)) (builds : List BuildValue) → ((path : List ℕ) → entry es path ≡ option_map Some (producer_of builds path))
    → map (λ build. map (produced_by es) (inputs_of build)) builds ≡ map (input_producers builds) builds
outputs-producers es builds h =
    map-same (λ (build : BuildValue). map (produced_by es) (inputs_of build)) (input_producers builds)
    (λ build. map-same (produced_by es) (producer_of builds) (λ path. ap (λ o. unwrap_or o None) (h path) ∙ by-outputs (producer_of builds path)) (inputs_of build)) builds

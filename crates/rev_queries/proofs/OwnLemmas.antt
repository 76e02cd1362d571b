-- The first own reason of an edge, kind by kind.
use Rattle.std.proofs.Common.{◌≡◌, ℕ, ◌+◌, ◌<◌, suc, ◌==◌, Bool, true, false, cond, ◌&&◌, ◌||◌, Contains, List, [], ◌∷◌, ◌++◌, length, Option, Some, None, map, max, take, get_or, nat_eq, nat_lt, filter, find, position, is_none, replicate, inl, inr, refl, sym, ap, subst, ◌∙◌, arith, if◌then◌else◌}
use Rattle.std.specs.Prelude.{slice_get, option_and_then}
use Rattle.std.specs.List.{flat_map, list_any, range_with_len, position_from, position_or_len}
use Rattle.std.specs.Option.{option_map, option_or}
use Rattle.std.proofs.lemmas.Bool.{eq-eqb, ltb-true, ne_eqb}
use Rattle.std.proofs.lemmas.Iterator.Adapters.{position_from-zero}
use Rattle.std.proofs.lemmas.List.{map-append, take_more}
use Rattle.std.proofs.lemmas.List.Elements.{filter_agree}
use Rattle.std.proofs.lemmas.List.Folds.{find-append}
use Rattle.std.proofs.lemmas.List.Quantifiers.{position-Some}
use Rattle.rev_causal.specs.Order.{Has}
use Rattle.rev_manifest.specs.Builds.{BuildValue}
use Rattle.rev_graph.specs.Graph.{IsRanked, build_at, outputs_of, producer_of}
use Rattle.rev_cells.specs.State.{State, stamp_of}
use Rattle.rev_dirty.specs.declared.input.InputKind.{InputKind}
use Rattle.rev_dirty.specs.declared.input.InputKind.TheVariants.{OnLine, OrderOnly, Listed}
use Rattle.rev_dirty.specs.declared.reason.Reason.{Reason}
use Rattle.rev_dirty.specs.declared.reason.Reason.TheVariants as reason
use Rattle.rev_dirty.specs.Inputs.{InputValue, an, counts, deps_record, inputs, paths_in}
use Rattle.rev_dirty.specs.Reasons.{candidates, counted, effective_stamp, has_old_deps, has_other_command, holds, holds_at, is_command_reason, is_missing, is_missing_dep, is_outdated, is_phony_reason, is_reason, lacks_deps, lacks_record, newest, newest_stamp, positions_in, reasons_of, shows}
use Rattle.rev_dirty.specs.Visible.{greatest, visible_stamp}
use Rattle.rev_dirty.proofs.ListLemmas.{holds-same}
use Rattle.rev_dirty.proofs.NewestLemmas.{shows-own}
use Rattle.rev_dirty.proofs.ReasonLemmas.{position-agree}
use Rattle.rev_dirty.proofs.SeesLemmas.{append-cases, from-has, to-has}
use Rattle.rev_plan.specs.Plan.{is_own_reason}
use Rattle.rev_plan.proofs.PlanLemmas.{find-first}
use Rattle.rev_queries.specs.Own.{AreStamps, counted_stamp, first_by_log, first_by_outputs, first_older, older_by, where_so}

-- THE FIRST OF A LIST THAT IS CHOSEN OR MADE
find-filter : {X : Type 0} (p q : X → Bool) (xs : List X) → find q (filter p xs) ≡ find (λ x. q x && p x) xs
find-filter p q [] = refl
find-filter {X} p q (x ∷ xs) = by (p x) (q x) refl ∙ ap (λ o. cond (q x && p x) (Some x) o) (find-filter p q xs)
  where
    by : (a b : Bool) → q x ≡ b → find q (cond a (x ∷ filter p xs) (filter p xs)) ≡ cond (b && a) (Some x) (find q (filter p xs))
    by true true e = ap (λ c. cond c (Some x) (find q (filter p xs))) e
    by true false e = ap (λ c. cond c (Some x) (find q (filter p xs))) e
    by false true e = refl
    by false false e = refl

find-map : {X Y : Type 0} (q : Y → Bool) (f : X → Y) (xs : List X) → find q (map f xs) ≡ option_map f (find (λ x. q (f x)) xs)
find-map q f [] = refl
find-map {X} {Y} q f (x ∷ xs) = by (q (f x)) (find-map q f xs)
  where
    by : (b : Bool) → find q (map f xs) ≡ option_map f (find (λ y. q (f y)) xs)
        → cond b (Some (f x)) (find q (map f xs)) ≡ option_map f (cond b (Some x) (find (λ y. q (f y)) xs))
    by true rest = refl
    by false rest = rest

find-never : {X : Type 0} (q : X → Bool) (xs : List X) → ((x : X) → q x ≡ false) → find q xs ≡ None
find-never q [] never = refl
find-never q (x ∷ xs) never = ap (λ b. cond b (Some x) (find q xs)) (never x) ∙ find-never q xs never

find-same : {X : Type 0} (p q : X → Bool) (xs : List X) → ((x : X) → p x ≡ q x) → find p xs ≡ find q xs
find-same p q [] same = refl
find-same p q (x ∷ xs) same = (λ i. cond (same x i) (Some x) (find-same p q xs same i))

find-from : {A : Type 0} (test : A → Bool) (q : ℕ → Bool) (xs : List A) (k : ℕ) → ((i : ℕ) → q (k + i) ≡ holds_at test xs i)
    → find q (range_with_len k (length xs)) ≡ position_from test k xs
find-from test q [] k same = refl
find-from {A} test q (x ∷ xs) k same = (λ i. cond (here i) (Some k) (find-from test q xs (k + 1) later i))
  where
    first : k ≡ k + 0
    first = omega arith

    here : q k ≡ test x
    here = ap q first ∙ same 0

    next : (i : ℕ) → k + 1 + i ≡ k + suc i
    next i = omega arith

    later : (i : ℕ) → q (k + 1 + i) ≡ holds_at test xs i
    later i = ap q (next i) ∙ same (suc i)

-- the first position at which a test holds
find-position : {A : Type 0} (test : A → Bool) (xs : List A) → find (holds_at test xs) (positions_in xs) ≡ position test xs
find-position test xs = find-from test (holds_at test xs) xs 0 (λ i. ap (holds_at test xs) (same i)) ∙ sym (position_from-zero test xs)
  where
    same : (i : ℕ) → 0 + i ≡ i
    same i = omega arith

-- THE OLDER OUTPUTS
one-of : (test : ℕ → Bool) (n : Option ℕ) (ins : List ℕ) (o : ℕ) → ((k : ℕ) → n ≡ Some k → find (λ i. nat_eq k i) ins ≡ Some k)
    → (b : Bool) → option_map (reason.Older o) (find (λ i. b && holds (λ first. nat_eq first i) n) ins)
    ≡ cond b (option_map (reason.Older o) n) None
one-of test None ins o within true = ap (option_map (reason.Older o)) (find-never (λ i. false) ins (λ i. refl))
one-of test (Some k) ins o within true = ap (option_map (reason.Older o)) (within k refl)
one-of test n ins o within false = ap (option_map (reason.Older o)) (find-never (λ i. false) ins (λ i. refl))

no-older : (n : Option ℕ) → None ≡ option_and_then (λ i. let none : Option Reason = None in none) n
no-older None = refl
no-older (Some k) = refl

first-of-older : (test : ℕ → Bool) (n : Option ℕ) (o : ℕ) (rest : Option ℕ) (b : Bool)
    → option_or (cond b (option_map (reason.Older o) n) None) (option_and_then (λ i. option_map (λ p. reason.Older p i) rest) n)
    ≡ option_and_then (λ i. option_map (λ p. reason.Older p i) (cond b (Some o) rest)) n
first-of-older test None o rest true = refl
first-of-older test (Some k) o rest true = refl
first-of-older test n o rest false = refl

older-found : (q : Reason → Bool) (test : ℕ → Bool) (n : Option ℕ) (ins outs : List ℕ) → ((k : ℕ) → n ≡ Some k → find (λ i. nat_eq k i) ins ≡ Some k)
    → ((o i : ℕ) → q (reason.Older o i) ≡ (test o && holds (λ first. nat_eq first i) n))
    → find q (flat_map (λ o. map (reason.Older o) ins) outs) ≡ option_and_then (λ i. option_map (λ o. reason.Older o i) (find test outs)) n
older-found q test n ins [] within same = no-older n
older-found q test n ins (o ∷ outs) within same =
    find-append q (map (reason.Older o) ins) (flat_map (λ p. map (reason.Older p) ins) outs)
    ∙ (λ i. option_or (here i) (older-found q test n ins outs within same i))
    ∙ first-of-older test n o (find test outs) (test o)
  where
    here : find q (map (reason.Older o) ins) ≡ cond (test o) (option_map (reason.Older o) n) None
    here =
        find-map q (reason.Older o) ins ∙ ap (option_map (reason.Older o)) (find-same (λ i. q (reason.Older o i)) (λ i. test o && holds (λ first. nat_eq first i) n) ins (same o))
        ∙ one-of test n ins o within (test o)

-- the position of the newest input is one of an input
some-at : (k n : ℕ) (b : Bool) (o : ℕ) → nat_lt o n ≡ b → cond b (Some o) None ≡ Some k → k < n
some-at k n true o less is =
    let same : o ≡ k = cc in
    subst (λ m. m < n) same (ltb-true o n less)
some-at k n false o less is = absurd (let no : None ≡ Some k = is in cc)

newest-there : {A : Type 0} (p : A → Bool) (xs : List A) (k : ℕ) → position p xs ≡ Some k → find (λ i. nat_eq k i) (positions_in xs) ≡ Some k
newest-there p xs k is =
    let within : k < length xs = some-at k (length xs) (nat_lt (position_or_len p xs) (length xs)) (position_or_len p xs) refl is in
    find-first (λ i. nat_eq k i) (length xs) 0 k (omega arith) (omega (arith, within)) (eq-eqb k k refl) (λ j low less. ne_eqb k j (λ same. omega arith))

-- EIGHT KINDS
-- the first of eight options that holds something
abbrev of-8 : {X : Type 0} → (a b c d e f g h : Option X) → Option X
of-8 a b c d e f g h = option_or (option_or (option_or (option_or (option_or (option_or (option_or a b) c) d) e) f) g) h

find-8 : (q : Reason → Bool) (a b c d e f g h : List Reason)
    → find q (a ++ b ++ c ++ d ++ e ++ f ++ g ++ h) ≡ of-8 (find q a) (find q b) (find q c) (find q d) (find q e) (find q f) (find q g) (find q h)
find-8 q a b c d e f g h =
    find-append q (a ++ b ++ c ++ d ++ e ++ f ++ g) h
    ∙ ap (λ o. option_or o (find q h))
    (find-append q (a ++ b ++ c ++ d ++ e ++ f) g
    ∙ ap (λ o. option_or o (find q g))
    (find-append q (a ++ b ++ c ++ d ++ e) f
    ∙ ap (λ o. option_or o (find q f))
    (find-append q (a ++ b ++ c ++ d) e
    ∙ ap (λ o. option_or o (find q e))
    (find-append q (a ++ b ++ c) d
    ∙ ap (λ o. option_or o (find q d)) (find-append q (a ++ b) c ∙ ap (λ o. option_or o (find q c)) (find-append q a b))))))

-- one reason that holds or not
one-so : (q : Reason → Bool) (r : Reason) (b : Bool) → q r ≡ b → find q (r ∷ []) ≡ where_so b r
one-so q r true e = ap (λ c. cond c (Some r) None) e
one-so q r false e = ap (λ c. cond c (Some r) None) e

-- reasons that name positions of which none passes
none-made : (q : Reason → Bool) (make : ℕ → Reason) (xs : List ℕ) → ((i : ℕ) → q (make i) ≡ false) → find q (map make xs) ≡ None
none-made q make xs never = find-map q make xs ∙ ap (option_map make) (find-never (λ i. q (make i)) xs never)

-- reasons that name the positions at which a test holds
first-made : {A : Type 0} (q : Reason → Bool) (make : ℕ → Reason) (test : A → Bool) (xs : List A) → ((i : ℕ) → q (make i) ≡ holds_at test xs i)
    → find q (map make (positions_in xs)) ≡ option_map make (position test xs)
first-made q make test xs same =
    find-map q make (positions_in xs)
    ∙ ap (option_map make) (find-same (λ i. q (make i)) (holds_at test xs) (positions_in xs) same ∙ find-position test xs)

-- what is asked of a reason that is an edge's own
abbrev passes : List BuildValue → State → BuildValue → Reason → Bool
passes builds state build r = is_own_reason r && is_command_reason builds state build r

-- THE FIRST OWN REASON of an edge that is not phony, before the inputs that its list has and that are missing
own-parts : (builds : List BuildValue) (state : State) (edge : ℕ) → (build_at builds edge).phony ≡ false
    → find is_own_reason (reasons_of builds state edge)
    ≡ of-8 (option_map reason.Missing (position (is_missing state) (outputs_of (build_at builds edge))))
    (where_so (lacks_deps state (build_at builds edge)) reason.NoDeps)
    (where_so (has_old_deps state (build_at builds edge)) reason.DepsOld)
    None
    (find (passes builds state (build_at builds edge)) (map reason.MissingDep (positions_in (inputs state (build_at builds edge)))))
    (first_older builds state (build_at builds edge))
    (option_map reason.NoRecord (position (lacks_record state (build_at builds edge)) (outputs_of (build_at builds edge))))
    (option_map reason.Command (position (has_other_command state (build_at builds edge)) (outputs_of (build_at builds edge))))
unfolding reasons_of
own-parts builds state edge command =
    let build = build_at builds edge in
    let outs = outputs_of build in
    let ins = inputs state build in
    let p = is_command_reason builds state build in
    let q = passes builds state build in
    let newest-in = newest builds state ins in
    ap (find is_own_reason) (filter_agree (is_reason builds state build) p (λ r. ap (λ b. if b then is_phony_reason state build r else is_command_reason builds state build r) command) (candidates (positions_in outs) (positions_in ins)))
    ∙ find-filter p is_own_reason (candidates (positions_in outs) (positions_in ins))
    ∙ find-8 q (map reason.Missing (positions_in outs)) (reason.NoDeps ∷ []) (reason.DepsOld ∷ []) (map reason.Rebuilt (positions_in ins)) (map reason.MissingDep (positions_in ins))
    (flat_map (λ o. map (reason.Older o) (positions_in ins)) (positions_in outs)) (map reason.NoRecord (positions_in outs)) (map reason.Command (positions_in outs))
    ∙ (λ i.
    of-8 (first-made q reason.Missing (is_missing state) outs (λ o. refl) i)
    (one-so q reason.NoDeps (lacks_deps state build) refl i)
    (one-so q reason.DepsOld (has_old_deps state build) refl i)
    (none-made q reason.Rebuilt (positions_in ins) (λ o. refl) i)
    (find q (map reason.MissingDep (positions_in ins)))
    ((older-found q (holds_at (is_outdated builds state build) outs) newest-in (positions_in ins) (positions_in outs)
    (λ k is. newest-there (shows builds state (newest_stamp builds state ins)) ins k is) (λ o k. refl)
    ∙ ap (λ o. option_and_then (λ k. option_map (λ output. reason.Older output k) o) newest-in) (find-position (is_outdated builds state build) outs)) i)
    (first-made q reason.NoRecord (lacks_record state build) outs (λ o. refl) i)
    (first-made q reason.Command (has_other_command state build) outs (λ o. refl) i))

-- where there is one by outputs and list, that is the first
begins : (a b c d e f g h : Option Reason) (r : Reason) → option_or a (option_or b c) ≡ Some r → of-8 a b c d e f g h ≡ Some r
begins (Some x) b c d e f g h r is = is
begins None (Some x) c d e f g h r is = is
begins None None (Some x) d e f g h r is = is
begins None None None d e f g h r is = absurd (let no : None ≡ Some r = is in cc)

pub own_by_outputs : (builds : List BuildValue) (state : State) (edge : ℕ) (r : Reason) → (build_at builds edge).phony ≡ false
    → first_by_outputs state (build_at builds edge) ≡ Some r → find is_own_reason (reasons_of builds state edge) ≡ Some r
own_by_outputs builds state edge r command is =
    let build = build_at builds edge in
    own-parts builds state edge command
    ∙ begins (option_map reason.Missing (position (is_missing state) (outputs_of build))) (where_so (lacks_deps state build) reason.NoDeps) (where_so (has_old_deps state build) reason.DepsOld)
    None (find (passes builds state build) (map reason.MissingDep (positions_in (inputs state build)))) (first_older builds state build)
    (option_map reason.NoRecord (position (lacks_record state build) (outputs_of build))) (option_map reason.Command (position (has_other_command state build) (outputs_of build))) r is

-- where there is none, it is one of the others
goes-on : (a b c e f g h : Option Reason) → option_or a (option_or b c) ≡ None → e ≡ None → of-8 a b c None e f g h ≡ option_or f (option_or g h)
goes-on (Some x) b c e f g h none is = absurd (let no : Some x ≡ None = none in cc)
goes-on None (Some x) c e f g h none is = absurd (let no : Some x ≡ None = none in cc)
goes-on None None (Some x) e f g h none is = absurd (let no : Some x ≡ None = none in cc)
goes-on None None None e f g h none is = ap (λ o. option_or (option_or (option_or o f) g) h) is ∙ three f g h
  where
    three : (x y z : Option Reason) → option_or (option_or (option_or None x) y) z ≡ option_or x (option_or y z)
    three None None z = refl
    three None (Some y) z = refl
    three (Some x) y z = refl

own-later : (builds : List BuildValue) (state : State) (edge : ℕ) → (build_at builds edge).phony ≡ false
    → first_by_outputs state (build_at builds edge) ≡ None
    → ((i : ℕ) → holds_at (is_missing_dep builds state) (inputs state (build_at builds edge)) i ≡ false)
    → option_or (first_older builds state (build_at builds edge)) (first_by_log state (build_at builds edge))
    ≡ find is_own_reason (reasons_of builds state edge)
own-later builds state edge command none there =
    let build = build_at builds edge in
    let lost : find (passes builds state build) (map reason.MissingDep (positions_in (inputs state build))) ≡ None =
    none-made (passes builds state build) reason.MissingDep (positions_in (inputs state build)) there in
    sym
    (own-parts builds state edge command
    ∙ goes-on (option_map reason.Missing (position (is_missing state) (outputs_of build))) (where_so (lacks_deps state build) reason.NoDeps) (where_so (has_old_deps state build) reason.DepsOld)
    (find (passes builds state build) (map reason.MissingDep (positions_in (inputs state build)))) (first_older builds state build)
    (option_map reason.NoRecord (position (lacks_record state build) (outputs_of build))) (option_map reason.Command (position (has_other_command state build) (outputs_of build))) none lost)

-- BY STAMPS
never-held : {A : Type 0} (o : Option A) → holds (λ (x : A). false) o ≡ false
never-held None = refl
never-held (Some x) = refl

and-false : (b : Bool) → (b && false) ≡ false
and-false true = refl
and-false false = refl

-- an input that counts shows its own stamp
own-shown : (builds : List BuildValue) (ranks : List ℕ) (state : State) (build : BuildValue) (stamps : List ℕ) → IsRanked builds ranks → AreStamps state build stamps
    → (input : InputValue) → Has (inputs state build) input → counts input.kind ≡ true → visible_stamp builds state input.path ≡ stamp_of state input.path
own-shown builds ranks state build stamps ranked are input at counted =
    shows-own builds ranks state ranked input.path (are.there input (from-has (inputs state build) input at) counted)

none-missing : (builds : List BuildValue) (ranks : List ℕ) (state : State) (build : BuildValue) (stamps : List ℕ) → IsRanked builds ranks → AreStamps state build stamps
    → (i : ℕ) → holds_at (is_missing_dep builds state) (inputs state build) i ≡ false
none-missing builds ranks state build stamps ranked are i =
    holds-same (is_missing_dep builds state) (λ input. false) (inputs state build) i (λ input at. there input.kind input.path (λ counted. shown input at counted))
    ∙ never-held (slice_get (inputs state build) i)
  where
    shown : (input : InputValue) → Has (inputs state build) input → counts input.kind ≡ true → (visible_stamp builds state input.path == 0) ≡ false
    shown input at counted =
        ap (λ n. n == 0) (own-shown builds ranks state build stamps ranked are input at counted) ∙ are.there input (from-has (inputs state build) input at) counted

    there : (kind : InputKind) (path : List ℕ) → (counts kind ≡ true → (visible_stamp builds state path == 0) ≡ false)
        → is_missing_dep builds state (record { path = path; kind = kind }) ≡ false
    there OnLine path h = refl
    there OrderOnly path h = refl
    there Listed path h = ap (λ b. is_none (producer_of builds path) && b) (h refl) ∙ and-false (is_none (producer_of builds path))

greatest-push : (xs : List ℕ) (x : ℕ) → greatest (xs ++ x ∷ []) ≡ max (greatest xs) x
greatest-push [] x = omega arith
greatest-push (y ∷ xs) x = ap (max y) (greatest-push xs x) ∙ max3 y (greatest xs) x
  where
    max3 : (a b c : ℕ) → max a (max b c) ≡ max (max a b) c
    max3 a b c = omega arith

-- one more of those that are gone through
pub greatest_next : (xs : List ℕ) (i d before after : ℕ) → i < length xs → after ≡ max before (get_or xs i d) → before ≡ greatest (take i xs) → after ≡ greatest (take (i + 1) xs)
greatest_next xs i d before after within now so =
    now ∙ ap (λ n. max n (get_or xs i d)) so ∙ sym (ap greatest (take_more xs i d within) ∙ greatest-push (take i xs) (get_or xs i d))

-- the greatest of them
greatest-counted : (v : InputValue → ℕ) (state : State) (xs : List InputValue) → ((input : InputValue) → Has xs input → counts input.kind ≡ true → v input ≡ stamp_of state input.path)
    → greatest (map (counted_stamp state) xs) ≡ greatest (map v (counted xs))
greatest-counted v state [] same = refl
greatest-counted v state (input ∷ xs) same =
    by (counts input.kind) (same input (inl refl)) ∙ ap (λ n. cond (counts input.kind) (max (v input) n) n) (greatest-counted v state xs (λ other at. same other (inr at)))
    ∙ out (counts input.kind)
  where
    by : (b : Bool) → (b ≡ true → v input ≡ stamp_of state input.path)
        → max (if b then stamp_of state input.path else 0) (greatest (map (counted_stamp state) xs))
        ≡ cond b (max (v input) (greatest (map (counted_stamp state) xs))) (greatest (map (counted_stamp state) xs))
    by true h = ap (λ n. max n (greatest (map (counted_stamp state) xs))) (sym (h refl))
    by false h = omega arith

    out : (b : Bool) → cond b (max (v input) (greatest (map v (counted xs)))) (greatest (map v (counted xs)))
        ≡ greatest (map v (cond b (input ∷ counted xs) (counted xs)))
    out true = refl
    out false = refl

newest-is : (builds : List BuildValue) (ranks : List ℕ) (state : State) (build : BuildValue) (stamps : List ℕ) → IsRanked builds ranks → AreStamps state build stamps
    → greatest stamps ≡ newest_stamp builds state (inputs state build)
newest-is builds ranks state build stamps ranked are =
    ap greatest are.are
    ∙ greatest-counted (λ (input : InputValue). visible_stamp builds state input.path) state (inputs state build) (own-shown builds ranks state build stamps ranked are)

-- the first input that has a stamp above 0
place-is : (builds : List BuildValue) (ranks : List ℕ) (state : State) (build : BuildValue) (stamps : List ℕ) (n : ℕ) → IsRanked builds ranks → AreStamps state build stamps
    → 0 < n → position (λ stamp. stamp == n) stamps ≡ position (shows builds state n) (inputs state build)
place-is builds ranks state build stamps n ranked are above =
    ap (position (λ stamp. stamp == n)) are.are
    ∙ position-agree (counted_stamp state) (λ stamp. stamp == n) (shows builds state n) (inputs state build)
    (λ input at. by (counts input.kind) input.path (λ counted. own-shown builds ranks state build stamps ranked are input (to-has (inputs state build) input at) counted))
  where
    by : (b : Bool) (path : List ℕ) → (b ≡ true → visible_stamp builds state path ≡ stamp_of state path)
        → ((if b then stamp_of state path else 0) == n) ≡ (b && (visible_stamp builds state path == n))
    by true path h = ap (λ m. m == n) (sym (h refl))
    by false path h = ne_eqb 0 n (λ same. omega (arith, same, above))

-- the first older output, with the newest input
older-none : (n : Option ℕ) → older_by None n ≡ None
older-none None = refl
older-none (Some k) = refl

pub older_is : (builds : List BuildValue) (ranks : List ℕ) (state : State) (build : BuildValue) (stamps : List ℕ) (n : ℕ) (output input : Option ℕ)
    → IsRanked builds ranks → AreStamps state build stamps → n ≡ greatest stamps
    → output ≡ position (λ path. nat_lt (effective_stamp state build path) n) (outputs_of build) → input ≡ position (λ stamp. stamp == n) stamps
    → older_by output input ≡ first_older builds state build
older_is builds ranks state build stamps n output input ranked are is below place = by output refl
  where
    top : n ≡ newest_stamp builds state (inputs state build)
    top = is ∙ newest-is builds ranks state build stamps ranked are

    same : output ≡ position (is_outdated builds state build) (outputs_of build)
    same = below ∙ ap (λ m. position (λ path. nat_lt (effective_stamp state build path) m) (outputs_of build)) top

    by : (o : Option ℕ) → output ≡ o → older_by output input ≡ first_older builds state build
    by None e =
        ap (λ p. older_by p input) e ∙ older-none input ∙ sym (older-none (newest builds state (inputs state build)))
        ∙ ap (λ p. older_by p (newest builds state (inputs state build))) (sym e ∙ same)
    by (Some o) e =
        let at = position-Some (λ path. nat_lt (effective_stamp state build path) n) (outputs_of build) o [] (sym below ∙ e) in
        let above : 0 < n = omega (arith, ltb-true (effective_stamp state build (get_or (outputs_of build) o [])) n at.1) in
        (λ i. older_by (same i) ((place ∙ place-is builds ranks state build stamps n ranked are above ∙ ap (λ m. position (shows builds state m) (inputs state build)) top) i))

pub own_is : (builds : List BuildValue) (ranks : List ℕ) (state : State) (edge : ℕ) (stamps : List ℕ) → IsRanked builds ranks → AreStamps state (build_at builds edge) stamps
    → (build_at builds edge).phony ≡ false → first_by_outputs state (build_at builds edge) ≡ None
    → option_or (first_older builds state (build_at builds edge)) (first_by_log state (build_at builds edge)) ≡ find is_own_reason (reasons_of builds state edge)
own_is builds ranks state edge stamps ranked are command none =
    own-later builds state edge command none (none-missing builds ranks state (build_at builds edge) stamps ranked are)

-- THE STAMPS OF ALL INPUTS
on-line-stamps : (state : State) (paths : List (List ℕ)) → map (counted_stamp state) (map (an OnLine) paths) ≡ map (stamp_of state) paths
on-line-stamps state [] = refl
on-line-stamps state (path ∷ paths) = ap (λ ns. stamp_of state path ∷ ns) (on-line-stamps state paths)

listed-stamps : (state : State) (paths : List (List ℕ)) → map (counted_stamp state) (map (an Listed) paths) ≡ map (stamp_of state) paths
listed-stamps state [] = refl
listed-stamps state (path ∷ paths) = ap (λ ns. stamp_of state path ∷ ns) (listed-stamps state paths)

order-only-stamps : (state : State) (paths : List (List ℕ)) → map (counted_stamp state) (map (an OrderOnly) paths) ≡ replicate (length paths) 0
order-only-stamps state [] = refl
order-only-stamps state (path ∷ paths) = ap (λ ns. 0 ∷ ns) (order-only-stamps state paths)

or-first : (a b : Bool) → (a || b) ≡ false → a ≡ false
or-first true b h = absurd (let no : true ≡ false = h in cc)
or-first false b h = refl

or-rest : (a b : Bool) → (a || b) ≡ false → b ≡ false
or-rest true b h = absurd (let no : true ≡ false = h in cc)
or-rest false b h = h

-- where none is missing, the stamp of each is above 0
all-there : (state : State) (kind : InputKind) (paths : List (List ℕ)) → list_any (λ stamp. stamp == 0) (map (stamp_of state) paths) ≡ false
    → (input : InputValue) → Has (map (an kind) paths) input → (stamp_of state input.path == 0) ≡ false
all-there state kind [] none input at = absurd at
all-there state kind (path ∷ paths) none input (inl same) =
    ap (λ (other : InputValue). stamp_of state other.path == 0) (sym same)
    ∙ or-first (stamp_of state path == 0) (list_any (λ stamp. stamp == 0) (map (stamp_of state) paths)) none
all-there state kind (path ∷ paths) none input (inr at) =
    all-there state kind paths (or-rest (stamp_of state path == 0) (list_any (λ stamp. stamp == 0) (map (stamp_of state) paths)) none) input at

none-counts : (paths : List (List ℕ)) (input : InputValue) → Has (map (an OrderOnly) paths) input → counts input.kind ≡ false
none-counts [] input at = absurd at
none-counts (path ∷ paths) input (inl same) = ap (λ (other : InputValue). counts other.kind) (sym same)
none-counts (path ∷ paths) input (inr at) = none-counts paths input at

pub stamps_are : (state : State) (build : BuildValue) (line listed stamps : List ℕ) → line ≡ map (stamp_of state) (build.explicit ++ build.implicit)
    → listed ≡ map (stamp_of state) (paths_in (deps_record state build)) → list_any (λ stamp. stamp == 0) line ≡ false → list_any (λ stamp. stamp == 0) listed ≡ false
    → stamps ≡ line ++ replicate (length build.order_only) 0 ++ listed → AreStamps state build stamps
stamps_are state build line listed stamps on-line in-list there also is = record { are = all; there = each }
  where
    split : map (counted_stamp state) (inputs state build) ≡ map (counted_stamp state) (map (an OnLine) (build.explicit ++ build.implicit)) ++ map (counted_stamp state) (map (an OrderOnly) build.order_only) ++ map (counted_stamp state) (map (an Listed) (paths_in (deps_record state build)))
    split =
        map-append (counted_stamp state) (map (an OnLine) (build.explicit ++ build.implicit) ++ map (an OrderOnly) build.order_only) (map (an Listed) (paths_in (deps_record state build)))
        ∙ ap (λ ns. ns ++ map (counted_stamp state) (map (an Listed) (paths_in (deps_record state build)))) (map-append (counted_stamp state) (map (an OnLine) (build.explicit ++ build.implicit)) (map (an OrderOnly) build.order_only))

    parts : map (counted_stamp state) (map (an OnLine) (build.explicit ++ build.implicit)) ++ map (counted_stamp state) (map (an OrderOnly) build.order_only) ++ map (counted_stamp state) (map (an Listed) (paths_in (deps_record state build))) ≡ line ++ replicate (length build.order_only) 0 ++ listed
    parts =
        λ i. (on-line-stamps state (build.explicit ++ build.implicit) ∙ sym on-line) i ++ order-only-stamps state build.order_only i ++ (listed-stamps state (paths_in (deps_record state build)) ∙ sym in-list) i

    all : stamps ≡ map (counted_stamp state) (inputs state build)
    all = is ∙ sym parts ∙ sym split

    first : list_any (λ stamp. stamp == 0) (map (stamp_of state) (build.explicit ++ build.implicit)) ≡ false
    first = ap (list_any (λ stamp. stamp == 0)) (sym on-line) ∙ there

    last : list_any (λ stamp. stamp == 0) (map (stamp_of state) (paths_in (deps_record state build))) ≡ false
    last = ap (list_any (λ stamp. stamp == 0)) (sym in-list) ∙ also

    on-it : (input : InputValue) → Has (map (an OnLine) (build.explicit ++ build.implicit) ++ map (an OrderOnly) build.order_only) input → counts input.kind ≡ true → (stamp_of state input.path == 0) ≡ false
    on-it input at counted = elim (append-cases (map (an OnLine) (build.explicit ++ build.implicit)) (map (an OrderOnly) build.order_only) input at) [
      | inl here ↦ all-there state OnLine (build.explicit ++ build.implicit) first input here
      | inr here ↦ absurd (let no : true ≡ false = sym counted ∙ none-counts build.order_only input here in cc)
    ]

    each : (input : InputValue) → Contains (inputs state build) input → counts input.kind ≡ true → (stamp_of state input.path == 0) ≡ false
    each input at counted = elim (append-cases (map (an OnLine) (build.explicit ++ build.implicit) ++ map (an OrderOnly) build.order_only) (map (an Listed) (paths_in (deps_record state build))) input (to-has (inputs state build) input at)) [
      | inl here ↦ on-it input here counted
      | inr here ↦ all-there state Listed (paths_in (deps_record state build)) last input here
    ]

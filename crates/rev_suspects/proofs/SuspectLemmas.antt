-- The lists of suspects, one kept number after the other.
use Rattle.std.proofs.Common.{◌≡◌, ◌≢◌, ℕ, zero, suc, ◌+◌, ◌<◌, ◌==◌, Bool, true, false, cond, ◌&&◌, ◌||◌, List, [], ◌∷◌, ◌++◌, length, get_or, set, take, map, Option, Some, None, Result, Ok, Err, nat_eq, refl, sym, ap, subst, ◌∙◌, arith, append_assoc, nat_lt, inl, inr, true≢false, if◌then◌else◌}
use Rattle.std.specs.Global.{Vec}
use Rattle.std.specs.Prelude.{filter, option_and_then, IfOk}
use Rattle.std.specs.List.{cons_option, filter_map, flat_map, list_any, range_with_len}
use Rattle.std.specs.Option.{option_map, option_or}
use Rattle.std.proofs.lemmas.Bool.{cases_eq, cases_lt, eq-eqb, eqb-true, le-ltb, lt-ltb, ne_eqb}
use Rattle.std.proofs.lemmas.List.{get_or-set_other, get_or-set_same, length-map, take_more}
use Rattle.rev_races.proofs.JudgedLemmas.{edge-fails, edge-passes}
use Rattle.rev_causal.specs.Chosen.{chosen, is_among, under}
use Rattle.rev_causal.specs.History as causal
use Rattle.rev_events.specs.declared.event.Event.{Event}
use Rattle.rev_history.specs.Timeline.{Numbered, Timeline, event_at}
use Rattle.rev_races.specs.Races.{starts}
use Rattle.rev_races.specs.Runs.{last_number}
use Rattle.rev_suspects.specs.Failures.{failed_edge, failure_at, failure_by, failures_of, kept_before, last_start}
use Rattle.rev_suspects.specs.Suspects.{AreFound, failure_in, first_suspects, list_in, lists_of, no_failure, state_before, suspects_in, suspects_of}
use Rattle.rev_cells.specs.State.{State}
use Rattle.rev_suspects.specs.declared.failed.Failure.{Failure}
use Rattle.rev_suspects.specs.declared.suspected.Suspect.{Suspect}

-- NUMBERS AMONG OTHERS
or-none : (b : Bool) → (b || false) ≡ b
or-none true = refl
or-none false = refl

among-more : (ks : List ℕ) (n m : ℕ) → is_among (ks ++ n ∷ []) m ≡ (is_among ks m || nat_eq m n)
among-more [] n m = or-none (nat_eq m n)
among-more (k ∷ ks) n m = ap (λ b. nat_eq m k || b) (among-more ks n m) ∙ assoc (nat_eq m k) (is_among ks m) (nat_eq m n)
  where
    assoc : (a b c : Bool) → (a || (b || c)) ≡ ((a || b) || c)
    assoc true b c = refl
    assoc false b c = refl

or-true : (a b : Bool) → b ≡ true → (a || b) ≡ true
or-true true b h = refl
or-true false b h = h

-- the last of some events stands under one of their numbers
last-among : (p : ℕ × Event → Bool) (accepted : Numbered) (ks : List ℕ) (n : ℕ) → last_number p (chosen accepted ks) ≡ Some n → is_among ks n ≡ true
last-among p accepted [] n h = let no : None ≡ Some n = h in cc
last-among p accepted (k ∷ ks) n h = by (causal.event_at k accepted) h (λ m. last-among p accepted ks m)
  where
    own : (e : Event) (b : Bool) → (if b then Some k else None) ≡ Some n → is_among (k ∷ ks) n ≡ true
    own e true h = let same : k ≡ n = cc in ap (λ b. b || is_among ks n) (eq-eqb n k (sym same))
    own e false h = let no : None ≡ Some n = h in cc

    some : (e : Event) (o : Option ℕ) → last_number p (chosen accepted ks) ≡ o → option_or o (if p (k, e) then Some k else None) ≡ Some n
        → ((m : ℕ) → last_number p (chosen accepted ks) ≡ Some m → is_among ks m ≡ true) → is_among (k ∷ ks) n ≡ true
    some e None rest h before = own e (p (k, e)) h
    some e (Some m) rest h before =
        let same : Some m ≡ Some n = h in
        or-true (nat_eq n k) (is_among ks n) (before n (rest ∙ same))

    by : (o : Option Event) → last_number p (under k o (chosen accepted ks)) ≡ Some n
        → ((m : ℕ) → last_number p (chosen accepted ks) ≡ Some m → is_among ks m ≡ true) → is_among (k ∷ ks) n ≡ true
    by None h before = or-true (nat_eq n k) (is_among ks n) (before n h)
    by (Some e) h before = some e (last_number p (chosen accepted ks)) refl h before

pub among-filter : (p : ℕ → Bool) (ks : List ℕ) (n : ℕ) → is_among (filter p ks) n ≡ true → is_among ks n ≡ true
among-filter p [] n h = h
among-filter p (k ∷ ks) n h = by (p k) h (among-filter p ks n)
  where
    either : (a : Bool) → (a || is_among (filter p ks) n) ≡ true → (is_among (filter p ks) n ≡ true → is_among ks n ≡ true) → (a || is_among ks n) ≡ true
    either true h rest = refl
    either false h rest = rest h

    by : (b : Bool) → is_among (cond b (k ∷ filter p ks) (filter p ks)) n ≡ true → (is_among (filter p ks) n ≡ true → is_among ks n ≡ true) → is_among (k ∷ ks) n ≡ true
    by true h rest = either (nat_eq n k) h rest
    by false h rest = or-true (nat_eq n k) (is_among ks n) (rest h)

-- RUNS THAT FAILED BEGAN BY KEPT NUMBERS
abbrev began-of : Option Failure → ℕ
began-of None = 0
began-of (Some f) = f.began

began-by : (t : Timeline) (n edge : ℕ) (f : Failure) → failure_by t n edge ≡ Some f → is_among t.kept f.began ≡ true
began-by t n edge f h = by (last_start t (kept_before t n) edge) refl h
  where
    by : (o : Option ℕ) → last_start t (kept_before t n) edge ≡ o → option_map (λ (began : ℕ). record { number = n; edge = edge; began = began }) o ≡ Some f
        → is_among t.kept f.began ≡ true
    by None is e = let no : None ≡ Some f = e in cc
    by (Some b) is e =
        let began : b ≡ f.began = ap began-of e in
        subst (λ k. is_among t.kept k ≡ true) began
        (among-filter (λ k. nat_lt k n) t.kept b (last-among (λ (e : ℕ × Event). starts t.manifest edge e.1) t.accepted (filter (λ k. nat_lt k n) t.kept) b is))

began-at : (t : Timeline) (n : ℕ) (f : Failure) → failure_at t n ≡ Some f → is_among t.kept f.began ≡ true
began-at t n f h = by (option_and_then (failed_edge t.manifest.builds) (event_at t n)) h
  where
    by : (o : Option ℕ) → option_and_then (failure_by t n) o ≡ Some f → is_among t.kept f.began ≡ true
    by None e = let no : None ≡ Some f = e in cc
    by (Some edge) e = began-by t n edge f e

each-began : (t : Timeline) (ks : List ℕ) (j : ℕ) → j < length (filter_map (failure_at t) ks) → is_among t.kept (failure_in (filter_map (failure_at t) ks) j).began ≡ true
each-began t [] j within = absurd (omega (arith, within))
each-began t (k ∷ ks) j within = by (failure_at t k) refl j within (λ i. each-began t ks i)
  where
    by : (o : Option Failure) → failure_at t k ≡ o → (j : ℕ) → j < length (cons_option o (filter_map (failure_at t) ks))
        → ((i : ℕ) → i < length (filter_map (failure_at t) ks) → is_among t.kept (failure_in (filter_map (failure_at t) ks) i).began ≡ true)
        → is_among t.kept (failure_in (cons_option o (filter_map (failure_at t) ks)) j).began ≡ true
    by None is j within rest = rest j within
    by (Some f) is zero within rest = began-at t k f is
    by (Some f) is (suc j) within rest = rest j (omega (arith, within))

-- ONE MORE NUMBER
eq-turned : (a b : ℕ) → nat_eq a b ≡ nat_eq b a
eq-turned a b = elim (cases_eq a b) [
  | inl same ↦ eq-eqb a b same ∙ sym (eq-eqb b a (sym same))
  | inr other ↦ ne_eqb a b other ∙ sym (ne_eqb b a (λ e. other (sym e)))
]

none-passes : {X : Type 0} (p : X → Bool) (xs : List X) (j : ℕ) (d : X) → list_any p xs ≡ false → j < length xs → p (get_or xs j d) ≡ false
none-passes p [] j d none within = absurd (omega (arith, within))
none-passes p (x ∷ xs) zero d none within = first (p x) (list_any p xs) none
  where
    first : (b c : Bool) → (b || c) ≡ false → b ≡ false
    first true c h = h
    first false c h = refl
none-passes p (x ∷ xs) (suc j) d none within = none-passes p xs j d (rest (p x) (list_any p xs) none) (omega (arith, within))
  where
    rest : (b c : Bool) → (b || c) ≡ false → c ≡ false
    rest true c h = absurd (true≢false h)
    rest false c h = h

pub found-first : (t : Timeline) (files : List (List ℕ)) (failures : List Failure) (lists : List (Vec Suspect)) → length lists ≡ length failures → ((place : ℕ) → list_in lists place ≡ [])
    → AreFound t files failures [] lists
found-first t files failures lists each empty = record { each = each; exact = λ place within. empty place }

pub found-more : (t : Timeline) (files : List (List ℕ)) (failures : List Failure) (ks : List ℕ) (n : ℕ) (lists after : List (Vec Suspect)) (s : State) → s ≡ state_before t n
    → length after ≡ length failures
    → ((place : ℕ) → place < length failures → list_in after place
    ≡ (if (failure_in failures place).began == n then suspects_in t.manifest files s (failure_in failures place) else list_in lists place))
    → AreFound t files failures ks lists → AreFound t files failures (ks ++ n ∷ []) after
found-more t files failures ks n lists after s state each put before = record {
  each = each;
  exact = λ place within. at place within (nat_eq (failure_in failures place).began n) refl;
}
  where
    at : (place : ℕ) → place < length failures → (b : Bool) → nat_eq (failure_in failures place).began n ≡ b
        → list_in after place ≡ (if is_among (ks ++ n ∷ []) (failure_in failures place).began then suspects_of t files (failure_in failures place) else [])
    at place within true is =
        let f = failure_in failures place in
        let same : (failure_in failures place).began ≡ n = eqb-true (failure_in failures place).began n is in
        put place within
        ∙ ap (λ b. if b then suspects_in t.manifest files s f else list_in lists place) is
        ∙ ap (λ u. suspects_in t.manifest files u f) (state ∙ ap (state_before t) (sym same))
        ∙ sym (ap (λ b. if b then suspects_of t files f else []) (among-more ks n f.began ∙ or-true (is_among ks f.began) (nat_eq f.began n) is))
    at place within false is =
        let f = failure_in failures place in
        put place within
        ∙ ap (λ b. if b then suspects_in t.manifest files s f else list_in lists place) is
        ∙ before.exact place within
        ∙ sym (ap (λ b. if b then suspects_of t files f else []) (among-more ks n f.began ∙ ap (λ b. is_among ks f.began || b) is ∙ or-none (is_among ks f.began)))

-- where no run began by the number, nothing is put
pub none-put : (failures : List Failure) (n : ℕ) (place : ℕ) (x y : List Suspect) → list_any (λ (f : Failure). nat_eq n f.began) failures ≡ false → place < length failures
    → y ≡ (if (failure_in failures place).began == n then x else y)
none-put failures n place x y none within =
    sym (ap (λ b. if b then x else y)
    (eq-turned (failure_in failures place).began n ∙ none-passes (λ (f : Failure). nat_eq n f.began) failures place no_failure none within))

-- ALL LISTS
flat-same : (F : Failure → List Suspect) (fs : List Failure) (ls : List (List Suspect)) → length ls ≡ length fs
    → ((j : ℕ) → j < length fs → get_or ls j [] ≡ F (failure_in fs j)) → flat_map (λ (l : List Suspect). l) ls ≡ flat_map F fs
flat-same F [] [] long each = refl
flat-same F [] (l ∷ ls) long each = absurd (omega (arith, long))
flat-same F (f ∷ fs) [] long each = absurd (omega (arith, long))
flat-same F (f ∷ fs) (l ∷ ls) long each =
    ap (λ (xs : List Suspect). xs ++ flat_map (λ (l : List Suspect). l) ls) (each 0 (omega arith))
    ∙ ap (λ (xs : List Suspect). F f ++ xs) (flat-same F fs ls (omega (arith, long)) (λ j within. each (suc j) (omega (arith, within))))

-- what stands among the first of some runs stands among all
taken : (n : ℕ) (fs : List Failure) (j : ℕ) → j < length (take n fs) → (failure_in (take n fs) j ≡ failure_in fs j) × (j < length fs)
taken zero fs j within = absurd (omega (arith, within))
taken (suc n) [] j within = absurd (omega (arith, within))
taken (suc n) (f ∷ fs) zero within = (refl, omega arith)
taken (suc n) (f ∷ fs) (suc j) within = let rest = taken n fs j (omega (arith, within)) in (rest.0, (let less = rest.1 in omega (arith, less)))

-- kept numbers began the first of the runs that failed
pub first-kept : (t : Timeline) (most : ℕ) (failures : List Failure) → failures ≡ take most (failures_of t)
    → (place : ℕ) → place < length failures → is_among t.kept (failure_in failures place).began ≡ true
first-kept t most failures are place within =
    let at = taken most (failures_of t) place (subst (λ (fs : List Failure). place < length fs) are within) in
    ap (λ (fs : List Failure). is_among t.kept (failure_in fs place).began) are
    ∙ ap (λ (f : Failure). is_among t.kept f.began) at.0
    ∙ each-began t t.kept place at.1

pub all-found : (t : Timeline) (files : List (List ℕ)) (failures : List Failure) (lists : List (Vec Suspect)) (all : List Suspect)
    → ((place : ℕ) → place < length failures → is_among t.kept (failure_in failures place).began ≡ true)
    → AreFound t files failures t.kept lists → all ≡ flat_map (λ (l : List Suspect). l) (lists_of lists) → all ≡ flat_map (suspects_of t files) failures
all-found t files failures lists all kept found joined =
    joined
    ∙ flat-same (suspects_of t files) failures (lists_of lists) (length-map lists (λ (v : Vec Suspect). v.items) ∙ found.each)
    (λ j within. found.exact j within ∙ ap (λ b. if b then suspects_of t files (failure_in failures j) else []) (kept j within))

pub ok-more : {A E : Type 0} (P Q : A → Type 0) → ((x : A) → P x → Q x) → (r : Result A E) → IfOk r P → IfOk r Q
ok-more P Q f (Ok x) h = f x h
ok-more P Q f (Err e) h = h

-- A LIST PUT AT A PLACE
lists-set : (lists : List (Vec Suspect)) (place : ℕ) (v : Vec Suspect) → lists_of (set lists place v) ≡ set (lists_of lists) place v.items
lists-set [] place v = refl
lists-set (x ∷ xs) zero v = refl
lists-set (x ∷ xs) (suc place) v = ap (λ (ls : List (List Suspect)). x.items ∷ ls) (lists-set xs place v)

below-next : (j place : ℕ) → j ≢ place → nat_lt j place ≡ nat_lt j (place + 1)
below-next j place other = elim (cases_lt j place) [
  | inl less ↦ lt-ltb j place less ∙ sym (lt-ltb j (place + 1) (omega (arith, less)))
  | inr more ↦ le-ltb j place more ∙ sym (le-ltb j (place + 1) (omega (arith, more, other)))
]

-- what is put at a place stands there, and all else stays
pub put-more : (failures : List Failure) (n place : ℕ) (lists after initial : List (Vec Suspect)) (S : Failure → List Suspect) (v : Vec Suspect) → place < length failures
    → length lists ≡ length failures → (failure_in failures place).began ≡ n → v.items ≡ S (failure_in failures place) → after ≡ set lists place v
    → ((j : ℕ) → j < length failures → list_in lists j ≡ (if nat_lt j place && ((failure_in failures j).began == n) then S (failure_in failures j) else list_in initial j))
    → (j : ℕ) → j < length failures → list_in after j ≡ (if nat_lt j (place + 1) && ((failure_in failures j).began == n) then S (failure_in failures j) else list_in initial j)
put-more failures n place lists after initial S v inside each began found put before j within = elim (cases_eq j place) [
  | inl same ↦
      ap (λ ls. list_in ls j) put
      ∙ ap (λ (ls : List (List Suspect)). get_or ls j []) (lists-set lists place v)
      ∙ ap (λ k. get_or (set (lists_of lists) place v.items) k []) same
      ∙ get_or-set_same (lists_of lists) place v.items [] (omega (arith, inside, each, length-map lists (λ (v : Vec Suspect). v.items)))
      ∙ found
      ∙ ap (λ k. S (failure_in failures k)) (sym same)
      ∙ sym (ap (λ b. if b then S (failure_in failures j) else list_in initial j)
      (ap (λ b. b && ((failure_in failures j).began == n)) (lt-ltb j (place + 1) (omega (arith, same))) ∙ eq-eqb (failure_in failures j).began n (ap (λ k. (failure_in failures k).began) same ∙ began)))
  | inr other ↦
      ap (λ ls. list_in ls j) put
      ∙ ap (λ (ls : List (List Suspect)). get_or ls j []) (lists-set lists place v)
      ∙ get_or-set_other (lists_of lists) place j v.items [] other
      ∙ stays failures n place lists initial S before j within other
]
  where
    stays : (failures : List Failure) (n place : ℕ) (lists initial : List (Vec Suspect)) (S : Failure → List Suspect)
        → ((j : ℕ) → j < length failures → list_in lists j ≡ (if nat_lt j place && ((failure_in failures j).began == n) then S (failure_in failures j) else list_in initial j))
        → (j : ℕ) → j < length failures → j ≢ place → list_in lists j ≡ (if nat_lt j (place + 1) && ((failure_in failures j).began == n) then S (failure_in failures j) else list_in initial j)
    stays failures n place lists initial S before j within other =
        before j within ∙ ap (λ b. if b && ((failure_in failures j).began == n) then S (failure_in failures j) else list_in initial j) (below-next j place other)

-- where the run began by another number, nothing is put
pub put-none : (failures : List Failure) (n place : ℕ) (lists initial : List (Vec Suspect)) (S : Failure → List Suspect) → (failure_in failures place).began ≢ n
    → ((j : ℕ) → j < length failures → list_in lists j ≡ (if nat_lt j place && ((failure_in failures j).began == n) then S (failure_in failures j) else list_in initial j))
    → (j : ℕ) → j < length failures → list_in lists j ≡ (if nat_lt j (place + 1) && ((failure_in failures j).began == n) then S (failure_in failures j) else list_in initial j)
put-none failures n place lists initial S began before j within = elim (cases_eq j place) [
  | inl same ↦
      let no : nat_eq (failure_in failures j).began n ≡ false = ne_eqb (failure_in failures j).began n (λ e. began (ap (λ k. (failure_in failures k).began) (sym same) ∙ e)) in
      before j within
      ∙ ap (λ b. if nat_lt j place && b then S (failure_in failures j) else list_in initial j) no
      ∙ no-choice (nat_lt j place) (nat_lt j (place + 1)) (S (failure_in failures j)) (list_in initial j)
      ∙ sym (ap (λ b. if nat_lt j (place + 1) && b then S (failure_in failures j) else list_in initial j) no)
  | inr other ↦ before j within ∙ ap (λ b. if b && ((failure_in failures j).began == n) then S (failure_in failures j) else list_in initial j) (below-next j place other)
]
  where
    no-choice : (a b : Bool) (x y : List Suspect) → (if a && false then x else y) ≡ (if b && false then x else y)
    no-choice true true x y = refl
    no-choice true false x y = refl
    no-choice false true x y = refl
    no-choice false false x y = refl

-- SUSPECTS OF ONE RUN, ONE EDGE AFTER THE OTHER
map-push : {X Y : Type 0} (g : X → Y) (xs : List X) (x : X) → map g (xs ++ x ∷ []) ≡ map g xs ++ g x ∷ []
map-push g [] x = refl
map-push g (y ∷ ys) x = ap (λ zs. g y ∷ zs) (map-push g ys x)

pub more-found : {Y : Type 0} (g : ℕ → Y) (p : ℕ → Bool) (n : ℕ) (first found all : List Y) → found ≡ first ++ map g (filter p (range_with_len 0 n)) → all ≡ found ++ g n ∷ [] → p n ≡ true
    → all ≡ first ++ map g (filter p (range_with_len 0 (n + 1)))
more-found g p n first found all before pushed passes =
    pushed ∙ ap (λ ys. ys ++ g n ∷ []) before ∙ append_assoc first (map g (filter p (range_with_len 0 n))) (g n ∷ [])
    ∙ ap (λ ys. first ++ ys)
    (sym (map-push g (filter p (range_with_len 0 n)) n) ∙ ap (map g) (edge-passes p n (filter p (range_with_len 0 n)) (filter p (range_with_len 0 n) ++ n ∷ []) refl refl passes))

pub none-found : {Y : Type 0} (g : ℕ → Y) (p : ℕ → Bool) (n : ℕ) (first found : List Y) → found ≡ first ++ map g (filter p (range_with_len 0 n)) → p n ≡ false
    → found ≡ first ++ map g (filter p (range_with_len 0 (n + 1)))
none-found g p n first found before fails = before ∙ ap (λ ys. first ++ map g ys) (edge-fails p n (filter p (range_with_len 0 n)) refl fails)

pub grown : (ks : List ℕ) (i n d : ℕ) → i < length ks → get_or ks i d ≡ n → take (i + 1) ks ≡ take i ks ++ n ∷ []
grown ks i n d within is = take_more ks i d within ∙ ap (λ m. take i ks ++ m ∷ []) is

-- where no run failed, there are no suspects
pub none-failed : (t : Timeline) (files : List (List ℕ)) (most : ℕ) (failures : List Failure) (none : List Suspect) → failures ≡ take most (failures_of t) → length failures ≡ 0 → none ≡ []
    → none ≡ first_suspects t files most
none-failed t files most [] none are few empty = empty ∙ ap (flat_map (suspects_of t files)) are
none-failed t files most (f ∷ fs) none are few empty = absurd (omega (arith, few))

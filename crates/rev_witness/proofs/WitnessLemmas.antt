-- Openings of sources alone, and what happens from them.
use Rattle.std.proofs.Common.{◌≡◌, ℕ, ◌+◌, ◌<◌, arith, inl, inr, length, Bool, true, false, cond, List, [], ◌∷◌, ◌++◌, get_or, take, Contains, ◌⊎◌, Some, None, refl, sym, ap, subst, ◌∙◌, true≢false}
use Rattle.std.specs.FinMap.{get, get-empty}
use Rattle.std.specs.Ordering.{eq_by_cmp}
use Rattle.std.specs.Cmp.{eq_by_cmp_equiv}
use Rattle.std.proofs.lemmas.Bool.{cases_eq, cases_lt}
use Rattle.std.specs.Prelude.{is_none}
use Rattle.std.proofs.lemmas.List.{take_more}
use Rattle.std.proofs.lemmas.List.Elements.{All-head, All-tail, Contains-append_cases, Contains-append_left, Contains-append_right, Contains-get_or, Contains-push_cases}
use Rattle.std.proofs.lemmas.Map.Views.{tells_apart}
use Rattle.rev_causal.specs.Machine.{Legal, run}
use Rattle.rev_causal.proofs.Chosen.{all_below, chosen-push, last_of-push}
use Rattle.rev_causal.proofs.Store.{get-set_cell}
use Rattle.rev_cells.specs.declared.cell.Cell.{Cell}
use Rattle.rev_cells.specs.declared.cell.Cell.TheVariants as cell
use Rattle.rev_cells.specs.declared.mark.Mark.{Mark}
use Rattle.rev_cells.specs.declared.mark.Mark.TheVariants as mark
use Rattle.rev_cells.specs.declared.value.Value.TheVariants as value
use Rattle.rev_cells.specs.Keys.{cell_cmp}
use Rattle.rev_cells.specs.State.{State, mark_of, stamp_of, default_or, stamp_in}
use Rattle.rev_cells.specs.Table.{Records, no_records, with_record}
use Rattle.rev_cells.proofs.EntryLemmas.{cells_total, cells_exact}
use Rattle.rev_events.specs.declared.event.Event.{Event}
use Rattle.rev_events.specs.Refusal.{is_wanted_mark}
use Rattle.rev_footprint.specs.Machine.{machine}
use Rattle.rev_graph.specs.Graph.{build_at, inputs_of, no_build, producer_of}
use Rattle.rev_graph.proofs.StepLemmas.{only}
use Rattle.rev_history.specs.Timeline.{IsHistory, Timeline, accepted_as, kept_events, last_of, state_at}
use Rattle.rev_manifest.specs.Manifest.{BuildValue, ManifestValue}
use Rattle.rev_races.specs.Laws.{HasSourcesAlone, is_source_stamp}
use Rattle.rev_races.proofs.Waiting.{past-last}
use Rattle.rev_races.specs.Races.{starts}
use Rattle.rev_witness.specs.Sources.{AddsSources, AreThere, HaveSources}
use Rattle.rev_witness.specs.Witness.{AreSources, BeganWith, HasHappened, IsWitness, opening_with, stamped}

-- OPENINGS
stamped-push : (r : Records) (xs : List (List ℕ)) (x : List ℕ) → stamped r (xs ++ x ∷ []) ≡ with_record (stamped r xs) (cell.Stamp x) (value.Stamp 1)
stamped-push r [] x = refl
stamped-push r (y ∷ ys) x = stamped-push (with_record r (cell.Stamp y) (value.Stamp 1)) ys x

pub opening_push : (xs : List (List ℕ)) (x : List ℕ) → opening_with (xs ++ x ∷ []) ≡ with_record (opening_with xs) (cell.Stamp x) (value.Stamp 1)
opening_push xs x = stamped-push (no_records 1) xs x

stamped-jobs : (r : Records) (xs : List (List ℕ)) → (stamped r xs).jobs ≡ r.jobs
stamped-jobs r [] = refl
stamped-jobs r (y ∷ ys) = stamped-jobs (with_record r (cell.Stamp y) (value.Stamp 1)) ys

pub opening_jobs : (xs : List (List ℕ)) → (opening_with xs).jobs ≡ 1
opening_jobs xs = stamped-jobs (no_records 1) xs

stamped-alone : (builds : List BuildValue) (xs : List (List ℕ)) (r : Records) → HasSourcesAlone builds r.state → AreSources builds xs → HasSourcesAlone builds (stamped r xs).state
stamped-alone builds [] r alone all = alone
stamped-alone builds (x ∷ xs) r alone all = stamped-alone builds xs (with_record r (cell.Stamp x) (value.Stamp 1)) next (All-tail (λ path. is_none (producer_of builds path) ≡ true) x xs all)
  where
    by : (c : Cell) → is_source_stamp builds c ≡ false → (b : Bool) → eq_by_cmp cell_cmp c (cell.Stamp x) ≡ b → cond b (Some (value.Stamp 1)) (get r.state c) ≡ None
    by c other true e =
        absurd (true≢false (sym (All-head (λ path. is_none (producer_of builds path) ≡ true) x xs all) ∙ sym (ap (is_source_stamp builds) (tells_apart cells_exact c (cell.Stamp x) e)) ∙ other))
    by c other false e = alone c other

    next : HasSourcesAlone builds (with_record r (cell.Stamp x) (value.Stamp 1)).state
    next c other = get-set_cell cells_total cells_exact r.state (cell.Stamp x) (Some (value.Stamp 1)) c ∙ by c other (eq_by_cmp cell_cmp c (cell.Stamp x)) refl

-- each of its paths has a record, and the stamp 1
pub opening_has : (xs : List (List ℕ)) (p : List ℕ) → Contains (opening_with xs).places (cell.Stamp p) → Contains xs p
opening_has xs p h = elim (places (no_records 1) xs h) [ inl none ↦ absurd (nothing none) | inr there ↦ there ]
  where
    nothing : Contains [] (cell.Stamp p) → ⊥
    nothing (k, within, at) = omega (arith, within)

    same : (q : List ℕ) → cell.Stamp q ≡ cell.Stamp p → q ≡ p
    same q e = cc

    places : (r : Records) (ys : List (List ℕ)) → Contains (stamped r ys).places (cell.Stamp p) → Contains r.places (cell.Stamp p) ⊎ Contains ys p
    places r [] h = inl h
    places r (y ∷ ys) h = elim (places (with_record r (cell.Stamp y) (value.Stamp 1)) ys h) [
      | inl front ↦ elim (Contains-push_cases r.places (cell.Stamp y) (cell.Stamp p) front) [
        | inl old ↦ inl old
        | inr e ↦ inr (subst (λ q. Contains (y ∷ ys) q) (same y e) (Contains-get_or (y ∷ ys) 0 y (omega arith)))
      ]
      | inr there ↦ inr (Contains-append_right (y ∷ []) ys p there)
    ]

pub opening_stamped : (xs : List (List ℕ)) (p : List ℕ) → Contains xs p → stamp_of (opening_with xs).state p ≡ 1
opening_stamped xs p h = stamped-there xs (no_records 1) (inr h)
  where
    read : (r : Records) (y : List ℕ) (b : Bool) → eq_by_cmp cell_cmp (cell.Stamp p) (cell.Stamp y) ≡ b
        → stamp_in (default_or (cell.Stamp p) (cond b (Some (value.Stamp 1)) (get r.state (cell.Stamp p)))) ≡ stamp_of (with_record r (cell.Stamp y) (value.Stamp 1)).state p
    read r y b e =
        ap (λ o. stamp_in (default_or (cell.Stamp p) o))
        (sym (get-set_cell cells_total cells_exact r.state (cell.Stamp y) (Some (value.Stamp 1)) (cell.Stamp p) ∙ ap (λ c. cond c (Some (value.Stamp 1)) (get r.state (cell.Stamp p))) e))

    either : (r : Records) (y : List ℕ) (b : Bool) → eq_by_cmp cell_cmp (cell.Stamp p) (cell.Stamp y) ≡ b → stamp_of r.state p ≡ 1 → stamp_of (with_record r (cell.Stamp y) (value.Stamp 1)).state p ≡ 1
    either r y true e h = sym (read r y true e)
    either r y false e h = sym (read r y false e) ∙ h

    stamped-there : (ys : List (List ℕ)) (r : Records) → (stamp_of r.state p ≡ 1) ⊎ Contains ys p → stamp_of (stamped r ys).state p ≡ 1
    stamped-there [] r (inl h) = h
    stamped-there [] r (inr h) = absurd (omega (arith, h.1))
    stamped-there (y ∷ ys) r h = stamped-there ys (with_record r (cell.Stamp y) (value.Stamp 1)) (next h)
      where
        next : (stamp_of r.state p ≡ 1) ⊎ Contains (y ∷ ys) p → (stamp_of (with_record r (cell.Stamp y) (value.Stamp 1)).state p ≡ 1) ⊎ Contains ys p
        next (inl h) = inl (either r y (eq_by_cmp cell_cmp (cell.Stamp p) (cell.Stamp y)) refl h)
        next (inr h) = elim (Contains-append_cases (y ∷ []) ys p h) [
          | inl here ↦ inl (sym (read r y true (ap (λ q. eq_by_cmp cell_cmp (cell.Stamp p) (cell.Stamp q)) (only y p here) ∙ (eq_by_cmp_equiv cells_total).refl (cell.Stamp p))))
          | inr there ↦ inr there
        ]

-- SOURCES THAT ARE ADDED
pub adds_none : (builds : List BuildValue) (xs : List (List ℕ)) → AddsSources builds [] xs xs
adds_none builds xs = record { kept = λ path h. h; added = λ path h none. absurd (omega (arith, h.1)) }

pub adds_one : (builds : List BuildValue) (x : List ℕ) (xs : List (List ℕ)) → AddsSources builds (x ∷ []) xs (xs ++ x ∷ [])
adds_one builds x xs = record {
  kept = λ path h. Contains-append_left xs (x ∷ []) path h;
  added = λ path h none. Contains-append_right xs (x ∷ []) path h;
}

-- one that is there, or that an edge makes
pub adds_there : (builds : List BuildValue) (x : List ℕ) (xs : List (List ℕ)) → Contains xs x → AddsSources builds (x ∷ []) xs xs
adds_there builds x xs there = record { kept = λ path h. h; added = λ path h none. subst (λ q. Contains xs q) (only x path h) there }

pub adds_made : (builds : List BuildValue) (x : List ℕ) (xs : List (List ℕ)) → (is_none (producer_of builds x) ≡ false) → AddsSources builds (x ∷ []) xs xs
adds_made builds x xs made = record {
  kept = λ path h. h;
  added = λ path h none. absurd (true≢false (sym none ∙ ap (λ q. is_none (producer_of builds q)) (sym (only x path h)) ∙ made));
}

pub adds_then : (builds : List BuildValue) (first second old middle new : List (List ℕ)) → AddsSources builds first old middle → AddsSources builds second middle new → AddsSources builds (first ++ second) old new
adds_then builds first second old middle new a b = record {
  kept = λ path h. b.kept path (a.kept path h);
  added = λ path h none. elim (Contains-append_cases first second path h) [
    | inl left ↦ b.kept path (a.added path left none)
    | inr right ↦ b.added path right none
  ];
}

-- one more of several
pub adds_more : (builds : List BuildValue) (paths : List (List ℕ)) (i : ℕ) (path : List ℕ) (old middle new : List (List ℕ)) → i < length paths → path ≡ get_or paths i path
    → AddsSources builds (take i paths) old middle → AddsSources builds (path ∷ []) middle new → AddsSources builds (take (i + 1) paths) old new
adds_more builds paths i path old middle new within at a b =
    subst (λ xs. AddsSources builds xs old new) (ap (λ p. take i paths ++ p ∷ []) at ∙ sym (take_more paths i path within))
    (adds_then builds (take i paths) (path ∷ []) old middle new a b)

-- inputs of the three kinds
pub adds_three : (builds : List BuildValue) (build : BuildValue) (old second third new : List (List ℕ)) → AddsSources builds build.explicit old second → AddsSources builds build.implicit second third
    → AddsSources builds build.order_only third new → AddsSources builds (inputs_of build) old new
adds_three builds build old second third new a b c =
    adds_then builds (build.explicit ++ build.implicit) build.order_only old third new
    (adds_then builds build.explicit build.implicit old second third a b) c

pub have_none : (builds : List BuildValue) (xs : List (List ℕ)) → HaveSources builds 0 xs
have_none builds xs edge path below = absurd (omega (arith, below))

pub have_more : (builds : List BuildValue) (upto : ℕ) (old new : List (List ℕ)) → HaveSources builds upto old → AddsSources builds (inputs_of (build_at builds upto)) old new → HaveSources builds (upto + 1) new
have_more builds upto old new have adds edge path below h none = elim (cases_eq edge upto) [
  | inl same ↦ adds.added path (subst (λ e. Contains (inputs_of (build_at builds e)) path) same h) none
  | inr other ↦ adds.kept path (have edge path (omega (arith, below, other)) h none)
]

-- what all inputs have, past the last edge too
pub are_there : (builds : List BuildValue) (xs : List (List ℕ)) → HaveSources builds (length builds) xs → AreThere builds (opening_with xs).state
are_there builds xs have edge path h none = elim (cases_lt edge (length builds)) [
  | inl within ↦ opening_stamped xs path (have edge path within h none)
  | inr past ↦ absurd (empty (subst (λ (b : BuildValue). Contains (inputs_of b) path) (past-last builds edge (omega (arith, past))) h))
]
  where
    empty : Contains (inputs_of no_build) path → ⊥
    empty (k, within, at) = omega (arith, within)

-- the opening of all of them
pub all_there : (builds : List BuildValue) (r : Records) (xs : List (List ℕ)) (upto : ℕ) → r ≡ opening_with xs → upto ≡ length builds → HaveSources builds upto xs → AreThere builds r.state
all_there builds r xs upto is all have =
    subst (λ (o : Records). AreThere builds o.state) (sym is) (are_there builds xs (subst (λ n. HaveSources builds n xs) all have))

-- the opening of sources has nothing else
pub opening_alone : (builds : List BuildValue) (xs : List (List ℕ)) → AreSources builds xs → HasSourcesAlone builds (opening_with xs).state
opening_alone builds xs all = stamped-alone builds xs (no_records 1) (λ c other. get-empty cell_cmp c) all

pub is_alone : (builds : List BuildValue) (r : Records) (xs : List (List ℕ)) → r ≡ opening_with xs → AreSources builds xs → HasSourcesAlone builds r.state
is_alone builds r xs is all = subst (λ (o : Records). HasSourcesAlone builds o.state) (sym is) (opening_alone builds xs all)

-- WHAT HAPPENS
pub began_on : (manifest : ManifestValue) (opening : State) (t u : Timeline) (n : ℕ) (e : Event) → u ≡ accepted_as n e t → BeganWith manifest opening t → BeganWith manifest opening u
began_on manifest opening t u n e is began =
    subst (λ v. BeganWith manifest opening v) (sym is)
    (record { manifest_is = began.manifest_is; jobs_are = began.jobs_are; opening_is = began.opening_is })

pub has_happened : (t u : Timeline) (n : ℕ) (e : Event) → IsHistory t → n ≡ last_of t.accepted + 1 → u ≡ accepted_as n e t → HasHappened e t u
has_happened t u n e h next is =
    let lt : last_of t.accepted < n = omega (arith, next) in
    record {
      n = n;
      events = ap kept_events is ∙ chosen-push t.accepted t.kept n e lt (all_below t.accepted t.kept n lt h.accepted);
      last = ap (λ (v : Timeline). last_of v.accepted) is ∙ last_of-push t.accepted n e lt ∙ omega (arith, next);
    }

pub wanted-mark : (m : Mark) → is_wanted_mark m ≡ true → m ≡ mark.Wanted
wanted-mark mark.Wanted h = refl
wanted-mark mark.Idle h = absurd (true≢false (sym h))
wanted-mark mark.Through h = absurd (true≢false (sym h))
wanted-mark (mark.Running job slot seen) h = absurd (true≢false (sym h))
wanted-mark (mark.Done changed) h = absurd (true≢false (sym h))
wanted-mark mark.Clean h = absurd (true≢false (sym h))
wanted-mark mark.Failed h = absurd (true≢false (sym h))
wanted-mark mark.Stopped h = absurd (true≢false (sym h))

-- the run of a history that began so
pub began-run : (manifest : ManifestValue) (opening : State) (t : Timeline) → BeganWith manifest opening t → state_at t ≡ run (machine manifest 1) opening (kept_events t)
began-run manifest opening t b = λ i. run (machine (b.manifest_is i) (b.jobs_are i)) (b.opening_is i) (kept_events t)

-- what the last step makes of a history
pub is_witness : (manifest : ManifestValue) (b a : ℕ) (sources : List (List ℕ)) (t u : Timeline) (e : Event) → AreSources manifest.builds sources
    → BeganWith manifest (opening_with sources).state t → BeganWith manifest (opening_with sources).state u → IsHistory u → HasHappened e t u
    → starts manifest b e ≡ true → is_wanted_mark (mark_of (state_at t) a) ≡ true → IsWitness manifest b a sources u
is_witness manifest b a sources t u e all before began is happened begins wanted = record {
  began = began;
  from_nothing = subst (λ o. HasSourcesAlone manifest.builds o) (sym began.opening_is) (opening_alone manifest.builds sources all);
  before = kept_events t;
  n = happened.n;
  e = e;
  events = happened.events;
  legal = subst (λ (p : ManifestValue × ℕ). Legal (machine p.0 p.1) u.opening (kept_events u)) (λ i. (began.manifest_is i, began.jobs_are i)) is.legal;
  begins = begins;
  wanted =
      wanted-mark (mark_of (run (machine manifest 1) u.opening (kept_events t)) a)
      (ap (λ s. is_wanted_mark (mark_of s a))
      ((λ i. run (machine manifest 1) (began.opening_is i) (kept_events t)) ∙ sym (began-run manifest (opening_with sources).state t before)) ∙ wanted);
}

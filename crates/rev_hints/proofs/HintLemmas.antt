-- The hints, place by place and user by user.
use Rattle.std.proofs.Common.{◌≡◌, ◌≢◌, ℕ, ◌+◌, ◌<◌, ◌≤◌, zero, suc, Bool, true, false, not, ◌||◌, ◌&&◌, List, [], ◌∷◌, ◌++◌, length, get_or, take, Option, Some, None, Contains, ◌⊎◌, inl, inr, refl, sym, ap, subst, ◌∙◌, arith, true≢false, if◌then◌else◌, bytes_eq, append-nil, rules, tests}
use Rattle.std.specs.Prelude.{nat_lt, slice_get, is_some, unwrap_or}
use Rattle.std.specs.List.{list_any}
use Rattle.std.specs.Option.{option_map, option_or}
use Rattle.std.proofs.lemmas.Bool.{cases_eq, cases_lt}
use Rattle.std.proofs.lemmas.List.Elements.{Contains-get_or, Contains-push, Contains-push_cases, Contains-append_left}
use Rattle.std.proofs.lemmas.List.Quantifiers.{all_pairs_push}
use Rattle.std.proofs.lemmas.List.Folds.{list_any-append}
use Rattle.std.proofs.lemmas.List.{take_more}
use Rattle.std.proofs.lemmas.Option.{get_or_from_slice_get, slice_get_within}
use Rattle.std.proofs.lemmas.Slice.Eq.{bytes_eq-Decides}
use Rattle.rev_causal.specs.Chosen.{without}
use Rattle.rev_manifest.specs.Manifest.{BuildValue}
use Rattle.rev_graph.specs.Graph.{GraphValue, IsGraph, build_at, no_build}
use Rattle.rev_cells.specs.State.{State}
use Rattle.rev_cells.specs.declared.value.DepsRecord.{DepsRecord}
use Rattle.rev_dirty.specs.Inputs.{deps_record, paths_in}
use Rattle.rev_history.specs.Timeline.{Timeline, kept_events, state_at}
use Rattle.rev_waits.specs.Waits.{AreWaitedFor, Waits}
use Rattle.rev_races.specs.Races.{last_list, recorded}
use Rattle.rev_races.proofs.AnswerLemmas.{lists-recorded}
use Rattle.rev_hints.specs.Changes.{ChangeValue}
use Rattle.rev_hints.specs.Hints.{AreHintsBefore, AreHintsBy, ComesBefore, HintValue, IsHint, StandsBefore, hint_at, hint_by, listed, recorded_paths}

-- no edge stands past the last
past-end : (bs : List BuildValue) (k : ℕ) → length bs ≤ k → build_at bs k ≡ no_build
past-end [] k past = refl
past-end (b ∷ bs) zero past = absurd (omega (arith, past))
past-end (b ∷ bs) (suc k) past = past-end bs k (omega (arith, past))

module _ (builds : List BuildValue) (state : State) (changes : List ℕ → Option ChangeValue) where
  -- WHERE A HINT CAN STAND
  -- the user is an edge
  pub user-within : (h : HintValue) → IsHint builds (recorded_paths builds state) changes h → h.user < length builds
  user-within h is = by (below-or h.user (length builds))
    where
      below-or : (a b : ℕ) → (a < b) ⊎ (b ≤ a)
      below-or a zero = inr (omega arith)
      below-or zero (suc b) = inl (omega arith)
      below-or (suc a) (suc b) = elim (below-or a b) [ inl less ↦ inl (omega (arith, less)) | inr more ↦ inr (omega (arith, more)) ]

      by : (h.user < length builds) ⊎ (length builds ≤ h.user) → h.user < length builds
      by (inl less) = less
      by (inr past) =
          let none : recorded_paths builds state h.user ≡ [] = ap (λ b. paths_in (deps_record state b)) (past-end builds h.user past) in
          let no : None ≡ Some is.path = ap (λ paths. slice_get paths h.place) (sym none) ∙ is.stands in
          absurd (true≢false cc)

  -- PLACE BY PLACE
  pub before-first : AreHintsBefore builds (recorded_paths builds state) changes 0 0 []
  before-first = record {
    exact = λ h. (
      λ c. let within = c.1 in absurd (omega (arith, within)),
      λ both. elim both.0 [ inl less ↦ absurd (omega (arith, less)) | inr at ↦ let less = at.1 in absurd (omega (arith, less)) ],
    );
    rising = λ i j d less within. absurd (omega (arith, within));
  }

  abbrev pub IsHere : ℕ → ℕ → HintValue → Type 0
  IsHere user place h = (h.user ≡ user) × (h.place ≡ place)

  stands-next : (user place : ℕ) (h : HintValue) → StandsBefore user place h → StandsBefore user (place + 1) h
  stands-next user place h (inl less) = inl less
  stands-next user place h (inr at) = inr (at.0, let less = at.1 in omega (arith, less))

  stands-cases : (user place : ℕ) (h : HintValue) → StandsBefore user (place + 1) h → StandsBefore user place h ⊎ IsHere user place h
  stands-cases user place h (inl less) = inl (inl less)
  stands-cases user place h (inr at) = elim (cases_eq h.place place) [
    | inl same ↦ inr (at.0, same)
    | inr other ↦ let less = at.1 in inl (inr (at.0, omega (arith, less, other)))
  ]

  -- no hint stands at the place
  pub none-here : (user place : ℕ) (hints : List HintValue) → AreHintsBefore builds (recorded_paths builds state) changes user place hints
      → ((h : HintValue) → IsHere user place h → IsHint builds (recorded_paths builds state) changes h → ⊥) → AreHintsBefore builds (recorded_paths builds state) changes user (place + 1) hints
  none-here user place hints are none = record {
    exact = λ h. (
      λ c. let both = (are.exact h).0 c in (stands-next user place h both.0, both.1),
      λ both. elim (stands-cases user place h both.0) [
        | inl stands ↦ (are.exact h).1 (stands, both.1)
        | inr here ↦ absurd (none h here both.1)
      ],
    );
    rising = are.rising;
  }

  -- one stands there
  pub one-here : (user place : ℕ) (hints all : List HintValue) (x : HintValue) → AreHintsBefore builds (recorded_paths builds state) changes user place hints → all ≡ hints ++ x ∷ [] → IsHere user place x → IsHint builds (recorded_paths builds state) changes x
      → ((h : HintValue) → IsHere user place h → IsHint builds (recorded_paths builds state) changes h → x ≡ h) → AreHintsBefore builds (recorded_paths builds state) changes user (place + 1) all
  one-here user place hints all x are pushed here is one = subst (AreHintsBefore builds (recorded_paths builds state) changes user (place + 1)) (sym pushed) (record {
    exact = λ h. (
      λ c. elim (Contains-push_cases hints x h c) [
        | inl old ↦ let both = (are.exact h).0 old in (stands-next user place h both.0, both.1)
        | inr same ↦ subst (λ (y : HintValue). StandsBefore user (place + 1) y × IsHint builds (recorded_paths builds state) changes y) same (inr (here.0, let at = here.1 in omega (arith, at)), is)
      ],
      λ both. elim (stands-cases user place h both.0) [
        | inl stands ↦ Contains-append_left hints (x ∷ []) h ((are.exact h).1 (stands, both.1))
        | inr at ↦ subst (Contains (hints ++ x ∷ [])) (one h at both.1) (Contains-push hints x)
      ],
    );
    rising = all_pairs_push ComesBefore hints x are.rising (λ k d within. comes (get_or hints k d) ((are.exact (get_or hints k d)).0 (Contains-get_or hints k d within)).0);
  })
    where
      comes : (y : HintValue) → StandsBefore user place y → ComesBefore y x
      comes y (inl less) = inl (let at = here.0 in omega (arith, less, at))
      comes y (inr at) = inr (at.0 ∙ sym here.0, let less = at.1 in let placed = here.1 in omega (arith, less, placed))

  -- all places of a user
  pub next-user : (user n : ℕ) (hints : List HintValue) → AreHintsBefore builds (recorded_paths builds state) changes user n hints → ((h : HintValue) → h.user ≡ user → IsHint builds (recorded_paths builds state) changes h → h.place < n)
      → AreHintsBefore builds (recorded_paths builds state) changes (user + 1) 0 hints
  next-user user n hints are within = record {
    exact = λ h. (
      λ c. let both = (are.exact h).0 c in (inl (elim both.0 [ inl less ↦ omega (arith, less) | inr at ↦ let same = at.0 in omega (arith, same) ]), both.1),
      λ both. (are.exact h).1 (
        elim both.0 [
          | inl less ↦ elim (cases_eq h.user user) [
            | inl same ↦ inr (same, within h same both.1)
            | inr other ↦ inl (omega (arith, less, other))
          ]
          | inr at ↦ let less = at.1 in absurd (omega (arith, less))
        ],
        both.1,
      ),
    );
    rising = are.rising;
  }

  -- all users
  pub all-users : (user : ℕ) (hints : List HintValue) → user ≡ length builds → AreHintsBefore builds (recorded_paths builds state) changes user 0 hints → AreHintsBy builds (recorded_paths builds state) changes hints
  all-users user hints all are = record {
    exact = λ h. (
      λ c. ((are.exact h).0 c).1,
      λ is. (are.exact h).1 (let less = user-within h is in inl (omega (arith, less, all)), is),
    );
    rising = are.rising;
  }

  -- the place of a hint is one of its user's list
  pub place-within : (user : ℕ) (h : HintValue) → h.user ≡ user → IsHint builds (recorded_paths builds state) changes h → h.place < length (recorded_paths builds state user)
  place-within user h same is = subst (λ u. h.place < length (recorded_paths builds state u)) same (slice_get_within (recorded_paths builds state h.user) h.place is.path is.stands)

  -- WHAT STANDS AT A PLACE
  module _ (user place : ℕ) (path : List ℕ) (stands : slice_get (recorded_paths builds state user) place ≡ Some path) where
    path-is : (h : HintValue) → IsHere user place h → (is : IsHint builds (recorded_paths builds state) changes h) → path ≡ is.path
    path-is h here is =
        let two : Some path ≡ Some is.path = sym stands ∙ (λ i. slice_get (recorded_paths builds state (sym here.0 i)) (sym here.1 i)) ∙ is.stands in
        cc

    -- the path did not change
    pub unchanged-here : changes path ≡ None → (h : HintValue) → IsHere user place h → IsHint builds (recorded_paths builds state) changes h → ⊥
    unchanged-here none h here is =
        let no : None ≡ Some is.change = sym none ∙ ap changes (path-is h here is) ∙ is.changed in
        true≢false cc

    -- it stands at an earlier place
    pub repeated-here : (before : ℕ) → before < place → slice_get (recorded_paths builds state user) before ≡ Some path → (h : HintValue) → IsHere user place h → IsHint builds (recorded_paths builds state) changes h → ⊥
    repeated-here before less same h here is =
        is.first before (let at = here.1 in omega (arith, less, at)) (ap (λ u. slice_get (recorded_paths builds state u) before) here.0 ∙ same ∙ ap Some (path-is h here is))

    module _ (change : ChangeValue) (changed : changes path ≡ Some change) where
      change-is : (h : HintValue) → IsHere user place h → (is : IsHint builds (recorded_paths builds state) changes h) → change ≡ is.change
      change-is h here is =
          let two : Some change ≡ Some is.change = sym changed ∙ ap changes (path-is h here is) ∙ is.changed in
          cc

      ran-is : (h : HintValue) → IsHere user place h → IsHint builds (recorded_paths builds state) changes h → h.ran ≡ without user change.ran
      ran-is h here is = is.ran_are ∙ (λ i. without (here.0 i) ((sym (change-is h here is) i).ran))

      -- the hint that the change gives
      abbrev found : HintValue
      found = record { user = user; place = place; number = change.number; ran = without user change.ran }

      found-is : (h : HintValue) → IsHere user place h → IsHint builds (recorded_paths builds state) changes h → found ≡ h
      found-is h here is =
          let ran = ran-is h here is in
          let number : change.number ≡ h.number = ap (λ (c : ChangeValue). c.number) (change-is h here is) ∙ sym is.number_is in
          λ i. record { user = sym here.0 i; place = sym here.1 i; number = number i; ran = sym ran i }

      -- no other command ran
      alone-here : nat_lt 0 (length (without user change.ran)) ≡ false → (h : HintValue) → IsHere user place h → IsHint builds (recorded_paths builds state) changes h → ⊥
      alone-here none h here is = true≢false (sym (some-below (length (without user change.ran)) (subst (λ (xs : List ℕ). 0 < length xs) (ran-is h here is) is.others_ran)) ∙ none)
        where
          some-below : (n : ℕ) → 0 < n → nat_lt 0 n ≡ true
          some-below n less = search (tests, rules)

      module _ (waited : List Bool) (marks : AreWaitedFor builds user waited) where
        -- the user waits for one of those that ran
        waits-here : list_any (λ edge. get_or waited edge false) (without user change.ran) ≡ true → (h : HintValue) → IsHere user place h → IsHint builds (recorded_paths builds state) changes h → ⊥
        waits-here some h here is = by (without user change.ran) (λ edge among. is.unordered edge (subst (λ (xs : List ℕ). Contains xs edge) (sym (ran-is h here is)) among)) some
          where
            by : (xs : List ℕ) → ((edge : ℕ) → Contains xs edge → Waits builds h.user edge → ⊥) → list_any (λ edge. get_or waited edge false) xs ≡ true → ⊥
            by [] none e = true≢false (sym e)
            by (x ∷ xs) none e =
                either (get_or waited x false) (λ marked. none x (0, omega arith, refl) (subst (λ u. Waits builds u x) (sym here.0) ((marks.exact x).0 marked)))
                (list_any (λ edge. get_or waited edge false) xs) (by xs (λ edge among. none edge (suc among.0, (let w = among.1 in omega (arith, w)), among.2))) e
              where
                either : (b : Bool) → (b ≡ true → ⊥) → (r : Bool) → (r ≡ true → ⊥) → (b || r) ≡ true → ⊥
                either true stop r further e' = stop refl
                either false stop r further e' = further e'

        -- the hint is due
        due-here : ((before : ℕ) → before < place → slice_get (recorded_paths builds state user) before ≢ Some path) → 0 < length (without user change.ran)
            → list_any (λ edge. get_or waited edge false) (without user change.ran) ≡ false → IsHint builds (recorded_paths builds state) changes found
        due-here first some none = record {
          path = path;
          change = change;
          stands = stands;
          first = first;
          changed = changed;
          number_is = refl;
          ran_are = refl;
          others_ran = some;
          unordered = λ edge among waits. by (without user change.ran) none edge among ((marks.exact edge).1 waits);
        }
          where
            by : (xs : List ℕ) → list_any (λ edge. get_or waited edge false) xs ≡ false → (edge : ℕ) → Contains xs edge → get_or waited edge false ≡ true → ⊥
            by [] e edge among marked = let w = among.1 in absurd (omega (arith, w))
            by (x ∷ xs) e edge (zero, w, same) marked = true≢false (sym (ap (λ b. b || list_any (λ k. get_or waited k false) xs) (ap (λ k. get_or waited k false) same ∙ marked)) ∙ e)
            by (x ∷ xs) e edge (suc k, w, same) marked = by xs (rest (get_or waited x false) (list_any (λ j. get_or waited j false) xs) e) edge (k, omega (arith, w), same) marked
              where
                rest : (a b : Bool) → (a || b) ≡ false → b ≡ false
                rest true b h = absurd (true≢false h)
                rest false b h = h

        -- what the change gives is added
        pub change-here : ((before : ℕ) → before < place → slice_get (recorded_paths builds state user) before ≢ Some path)
            → (hints all : List HintValue) → AreHintsBefore builds (recorded_paths builds state) changes user place hints → all ≡ hints ++ hint_by waited user place change → AreHintsBefore builds (recorded_paths builds state) changes user (place + 1) all
        change-here first hints all are added = by (nat_lt 0 (length (without user change.ran))) (list_any (λ edge. get_or waited edge false) (without user change.ran)) refl refl
          where
            some-above : (n : ℕ) → nat_lt 0 n ≡ true → 0 < n
            some-above n e = search (tests, rules)

            by : (a b : Bool) → nat_lt 0 (length (without user change.ran)) ≡ a → list_any (λ edge. get_or waited edge false) (without user change.ran) ≡ b → AreHintsBefore builds (recorded_paths builds state) changes user (place + 1) all
            by false b e f =
                subst (AreHintsBefore builds (recorded_paths builds state) changes user (place + 1)) (sym (added ∙ ap (λ x. hints ++ (if not x || list_any (λ edge. get_or waited edge false) (without user change.ran) then [] else found ∷ [])) e ∙ append-nil hints))
                (none-here user place hints are (alone-here e))
            by true true e f =
                subst (AreHintsBefore builds (recorded_paths builds state) changes user (place + 1)) (sym (added ∙ (λ i. hints ++ (if not (e i) || f i then [] else found ∷ [])) ∙ append-nil hints))
                (none-here user place hints are (waits-here f))
            by true false e f =
                one-here user place hints all found are (added ∙ (λ i. hints ++ (if not (e i) || f i then [] else found ∷ []))) (refl, refl)
                (due-here first (some-above (length (without user change.ran)) e) f) found-is

-- WHICH PATHS WERE SEEN
-- a path that changed, and that stands among others
abbrev pub is_seen : (List ℕ → Option ChangeValue) → List (List ℕ) → List ℕ → Bool
is_seen changes before path = is_some (changes path) && list_any (bytes_eq path) before

pub bytes-same : (xs ys : List ℕ) → bytes_eq xs ys ≡ true → xs ≡ ys
bytes-same xs ys e = (bytes_eq-Decides xs ys).0 e

pub same-bytes : (xs ys : List ℕ) → xs ≡ ys → bytes_eq xs ys ≡ true
same-bytes xs ys e = (bytes_eq-Decides xs ys).1 e

pub or-false : (b : Bool) → (b || false) ≡ b
or-false true = refl
or-false false = refl

pub or-true : (b : Bool) → (b || true) ≡ true
or-true true = refl
or-true false = refl

-- a list up to a place and the path there
pub take-more : (paths : List (List ℕ)) (place : ℕ) (path : List ℕ) → slice_get paths place ≡ Some path → take (place + 1) paths ≡ take place paths ++ path ∷ []
take-more paths place path stands =
    take_more paths place [] (slice_get_within paths place path stands)
    ∙ ap (λ (p : List ℕ). take place paths ++ p ∷ []) (get_or_from_slice_get paths place path [] stands)

-- one path more
pub seen-more : (changes : List ℕ → Option ChangeValue) (paths : List (List ℕ)) (place : ℕ) (path : List ℕ) → slice_get paths place ≡ Some path → (other : List ℕ)
    → (if is_some (changes path) && bytes_eq path other then true else is_seen changes (take place paths) other) ≡ is_seen changes (take (place + 1) paths) other
seen-more changes paths place path stands other =
    by (bytes_eq path other) refl
    ∙ sym (ap (λ qs. is_some (changes other) && list_any (bytes_eq other) qs) (take-more paths place path stands)
    ∙ ap (λ b. is_some (changes other) && b) (list_any-append (bytes_eq other) (take place paths) (path ∷ [])))
  where
    before : Bool
    before = list_any (bytes_eq other) (take place paths)

    when-same : (c : Bool) → is_some (changes other) ≡ c → bytes_eq other path ≡ true → (if c && true then true else c && before) ≡ (c && (before || (bytes_eq other path || false)))
    when-same true is e = sym (ap (λ b. before || (b || false)) e ∙ or-true before)
    when-same false is e = refl

    when-other : (c d : Bool) → bytes_eq other path ≡ false → (if c && false then true else d && before) ≡ (d && (before || (bytes_eq other path || false)))
    when-other true d e = ap (λ b. d && b) (sym (or-false before)) ∙ ap (λ b. d && (before || (b || false))) (sym e)
    when-other false d e = ap (λ b. d && b) (sym (or-false before)) ∙ ap (λ b. d && (before || (b || false))) (sym e)

    turned-round : (b : Bool) → bytes_eq path other ≡ b → bytes_eq other path ≡ b
    turned-round true e = same-bytes other path (sym (bytes-same path other e))
    turned-round false e = back (bytes_eq other path) refl
      where
        back : (b : Bool) → bytes_eq other path ≡ b → bytes_eq other path ≡ false
        back true f = absurd (true≢false (sym (same-bytes path other (sym (bytes-same other path f))) ∙ e))
        back false f = f

    by : (b : Bool) → bytes_eq path other ≡ b
        → (if is_some (changes path) && bytes_eq path other then true else is_seen changes (take place paths) other) ≡ (is_some (changes other) && (before || (bytes_eq other path || false)))
    by true e =
        (λ i. if is_some (changes (bytes-same path other e i)) && e i then true else is_seen changes (take place paths) other)
        ∙ when-same (is_some (changes other)) refl (turned-round true e)
    by false e =
        ap (λ b. if is_some (changes path) && b then true else is_seen changes (take place paths) other) e
        ∙ when-other (is_some (changes path)) (is_some (changes other)) (turned-round false e)

-- a path that stands before a place
pub any-at : (paths : List (List ℕ)) (place before : ℕ) (path : List ℕ) → before < place → slice_get paths before ≡ Some path → list_any (bytes_eq path) (take place paths) ≡ true
any-at [] place before path less stands =
    let no : None ≡ Some path = stands in
    absurd (true≢false cc)
any-at (p ∷ ps) zero before path less stands = absurd (omega (arith, less))
any-at (p ∷ ps) (suc place) zero path less stands =
    let two : Some p ≡ Some path = stands in
    let same : path ≡ p = cc in
    ap (λ b. b || list_any (bytes_eq path) (take place ps)) (same-bytes path p same)
any-at (p ∷ ps) (suc place) (suc before) path less stands = ap (λ b. bytes_eq path p || b) (any-at ps place before path (omega (arith, less)) stands) ∙ or-true (bytes_eq path p)

-- where it stands
pub record StandsAt (paths : List (List ℕ)) (place : ℕ) (path : List ℕ) : Type 0 where
  pub before : ℕ
  pub less : before < place
  pub stands : slice_get paths before ≡ Some path

pub at-any : (paths : List (List ℕ)) (place : ℕ) (path : List ℕ) → list_any (bytes_eq path) (take place paths) ≡ true → StandsAt paths place path
at-any [] zero path e = absurd (true≢false (sym e))
at-any [] (suc place) path e = absurd (true≢false (sym e))
at-any (p ∷ ps) zero path e = absurd (true≢false (sym e))
at-any (p ∷ ps) (suc place) path e = by (bytes_eq path p) refl (at-any ps place path) e
  where
    by : (b : Bool) → bytes_eq path p ≡ b → (list_any (bytes_eq path) (take place ps) ≡ true → StandsAt ps place path) → (b || list_any (bytes_eq path) (take place ps)) ≡ true → StandsAt (p ∷ ps) (suc place) path
    by true same further e' = record { before = 0; less = omega arith; stands = ap Some (sym (bytes-same path p same)) }
    by false same further e' = let s = further e' in record { before = suc s.before; less = (let l = s.less in omega (arith, l)); stands = s.stands }

-- PATH BY PATH
module _ (builds : List BuildValue) (state : State) (changes : List ℕ → Option ChangeValue) (user place : ℕ) (path : List ℕ)
    (stands : slice_get (recorded_paths builds state user) place ≡ Some path) (waited : List Bool) (marks : AreWaitedFor builds user waited) where
  -- what the path gives is added
  pub path-more : (seen : Bool) → seen ≡ is_seen changes (take place (recorded_paths builds state user)) path
      → (hints all : List HintValue) → AreHintsBefore builds (recorded_paths builds state) changes user place hints → all ≡ hints ++ hint_at waited user place seen (changes path) → AreHintsBefore builds (recorded_paths builds state) changes user (place + 1) all
  path-more seen is hints all are added = by (changes path) seen refl is added
    where
      by : (o : Option ChangeValue) (b : Bool) → changes path ≡ o → b ≡ is_seen changes (take place (recorded_paths builds state user)) path → all ≡ hints ++ hint_at waited user place b o
          → AreHintsBefore builds (recorded_paths builds state) changes user (place + 1) all
      by None b e f a =
          subst (AreHintsBefore builds (recorded_paths builds state) changes user (place + 1)) (sym (a ∙ append-nil hints))
          (none-here builds state changes user place hints are (unchanged-here builds state changes user place path stands e))
      by (Some change) true e f a =
          let s = at-any (recorded_paths builds state user) place path (sym (f ∙ ap (λ o. is_some o && list_any (bytes_eq path) (take place (recorded_paths builds state user))) e)) in
          subst (AreHintsBefore builds (recorded_paths builds state) changes user (place + 1)) (sym (a ∙ append-nil hints))
          (none-here builds state changes user place hints are (repeated-here builds state changes user place path stands s.before s.less s.stands))
      by (Some change) false e f a =
          change-here builds state changes user place path stands change e waited marks
          (λ before less same. true≢false (sym (any-at (recorded_paths builds state user) place before path less same) ∙ sym (f ∙ ap (λ o. is_some o && list_any (bytes_eq path) (take place (recorded_paths builds state user))) e)))
          hints all are a

-- a list of which no path changed gives nothing
pub unchanged-user : (builds : List BuildValue) (state : State) (changes : List ℕ → Option ChangeValue) (user : ℕ) (hints : List HintValue) → AreHintsBefore builds (recorded_paths builds state) changes user 0 hints
    → list_any (λ path. is_some (changes path)) (recorded_paths builds state user) ≡ false → AreHintsBefore builds (recorded_paths builds state) changes (user + 1) 0 hints
unchanged-user builds state changes user hints are none =
    next-user builds state changes user 0 hints are (λ h same is. absurd (true≢false (sym (changed h same is) ∙ none)))
  where
    any-changed : (paths : List (List ℕ)) (place : ℕ) (path : List ℕ) → slice_get paths place ≡ Some path → is_some (changes path) ≡ true → list_any (λ p. is_some (changes p)) paths ≡ true
    any-changed [] place path stands e =
        let no : None ≡ Some path = stands in
        absurd (true≢false cc)
    any-changed (p ∷ ps) zero path stands e =
        let two : Some p ≡ Some path = stands in
        let same : p ≡ path = cc in
        ap (λ b. b || list_any (λ q. is_some (changes q)) ps) (ap (λ q. is_some (changes q)) same ∙ e)
    any-changed (p ∷ ps) (suc place) path stands e = ap (λ b. is_some (changes p) || b) (any-changed ps place path stands e) ∙ or-true (is_some (changes p))

    changed : (h : HintValue) → h.user ≡ user → IsHint builds (recorded_paths builds state) changes h → list_any (λ path. is_some (changes path)) (recorded_paths builds state user) ≡ true
    changed h same is =
        subst (λ u. list_any (λ path. is_some (changes path)) (recorded_paths builds state u) ≡ true) same
        (any-changed (recorded_paths builds state h.user) h.place is.path is.stands (ap is_some is.changed))

-- where nothing changed there is no hint
pub unchanged-all : (builds : List BuildValue) (state : State) (changes : List ℕ → Option ChangeValue) → ((path : List ℕ) → changes path ≡ None) → AreHintsBy builds (recorded_paths builds state) changes []
unchanged-all builds state changes none = record {
  exact = λ h. (
    λ c. let within = c.1 in absurd (omega (arith, within)),
    λ is. let no : None ≡ Some is.change = sym (none is.path) ∙ is.changed in absurd (true≢false cc),
  );
  rising = λ i j d less within. absurd (omega (arith, within));
}

-- WHAT EDGES LIST
paths-by : (o : Option DepsRecord) → paths_in o ≡ unwrap_or (option_map (λ (deps : DepsRecord). deps.paths) o) []
paths-by None = refl
paths-by (Some deps) = refl

-- what is no edge lists nothing
pub listed-none : (t : Timeline) (edge : ℕ) → length t.manifest.builds ≤ edge → listed t.manifest t.opening (kept_events t) edge ≡ []
listed-none t edge past =
    ap (λ (b : BuildValue). unwrap_or (if b.keeps_deps then option_or (last_list t.manifest edge (kept_events t)) (recorded t.opening b) else None) []) (past-end t.manifest.builds edge past)

-- what the deps record of an edge's first output has at the end is what the edge lists
listed-at-end : (t : Timeline) (graph : GraphValue) → IsGraph graph → graph.manifest ≡ t.manifest → (edge : ℕ)
    → recorded_paths t.manifest.builds (state_at t) edge ≡ listed t.manifest t.opening (kept_events t) edge
listed-at-end t graph is same edge = elim (cases_lt edge (length t.manifest.builds)) [
  | inl within ↦
      paths-by (deps_record (state_at t) (build_at t.manifest.builds edge))
      ∙ ap (λ (all : Option (List (List ℕ))). unwrap_or all []) (lists-recorded t graph edge is same within)
  | inr past ↦
      ap (λ (b : BuildValue). paths_in (deps_record (state_at t) b)) (past-end t.manifest.builds edge (omega (arith, past)))
      ∙ sym (listed-none t edge (omega (arith, past)))
]

-- the same hints by what changed as by what is found to have, and by what edges list as by their records at the end
pub hints-by : (t : Timeline) (graph : GraphValue) → IsGraph graph → graph.manifest ≡ t.manifest
    → (noted changes : List ℕ → Option ChangeValue) (hints : List HintValue) → ((path : List ℕ) → noted path ≡ changes path)
    → AreHintsBy t.manifest.builds (recorded_paths t.manifest.builds (state_at t)) noted hints
    → AreHintsBy t.manifest.builds (listed t.manifest t.opening (kept_events t)) changes hints
hints-by t graph is manifest noted changes hints same are =
    subst (λ (c : List ℕ → Option ChangeValue). AreHintsBy t.manifest.builds (listed t.manifest t.opening (kept_events t)) c hints) (λ i path. same path i)
    (subst (λ (paths : ℕ → List (List ℕ)). AreHintsBy t.manifest.builds paths noted hints) (λ i edge. listed-at-end t graph is manifest edge i) are)

-- The build of a witness goes on.
use Rattle.std.proofs.Common.{◌≡◌, ◌≢◌, ℕ, zero, suc, ◌+◌, ◌<◌, ◌≤◌, ◌==◌, ◌^◌, Bool, true, false, List, [], ◌∷◌, ◌++◌, take, length, get_or, Contains, Some, None, ◌⊎◌, inl, inr, refl, sym, ap, subst, ◌∙◌, arith, true≢false, if◌then◌else◌}
use Rattle.std.specs.Prelude.{IfOk, IsTrue, OnOk, Result, Ok, Err}
use Rattle.std.specs.Global.{Vec}
use Rattle.std.specs.List.{All}
use Rattle.std.proofs.lemmas.Bool.{cases_eq, eq-eqb}
use Rattle.std.proofs.lemmas.List.{take_more}
use Rattle.std.proofs.lemmas.List.Elements.{Contains-append_left, Contains-get_or, Contains-push, Contains-push_cases}
use Rattle.rev_causal.specs.Machine.{run}
use Rattle.rev_causal.proofs.Runs.{run-append}
use Rattle.rev_cells.specs.declared.mark.Mark.{Mark}
use Rattle.rev_cells.specs.declared.mark.Mark.TheVariants as mark
use Rattle.rev_cells.specs.State.{State, mark_of}
use Rattle.rev_dirty.specs.Reasons.{holds, holds_at, is_missing}
use Rattle.rev_events.specs.declared.event.Event.{Event}
use Rattle.rev_events.specs.declared.event.Event.TheVariants.{Plan}
use Rattle.rev_events.specs.Machine.{after, refusal}
use Rattle.rev_events.specs.Refusal.{is_settled, is_through_mark, is_wanted_mark}
use Rattle.rev_footprint.specs.Machine.{machine}
use Rattle.rev_graph.specs.Graph.{EdgeReaches, EdgeReaches.step as one, EdgeReaches.further as on, GraphValue, IsGraph, build_at, outputs_of, producer_of, rank_at}
use Rattle.rev_graph.proofs.GraphLemmas.{producer_of-within}
use Rattle.rev_graph.proofs.ProducerLemmas.{producer-only}
use Rattle.rev_graph.proofs.StepLemmas.{ranked-acyclic}
use Rattle.rev_history.specs.Timeline.{Timeline, accept_refusal, kept_events, last_of, opened, state_at}
use Rattle.rev_manifest.specs.Manifest.{ManifestValue}
use Rattle.rev_races.specs.Laws.{CanEnd, CanEnd.settled, CanEnd.passes, CanEnd.runs, HasSourcesAlone, IsReady}
use Rattle.rev_races.specs.Races.{starts}
use Rattle.rev_races.proofs.Alone as alone
use Rattle.rev_races.proofs.FromNothing as nothing
use Rattle.rev_races.proofs.Waiting.{farther, settled-not-due}
use Rattle.rev_ranks.specs.Graph.{Steps, graph_of, successors_of}
use Rattle.rev_ranks.proofs.Ways.{successors_are}
use Rattle.rev_waits.specs.Waits.{Waits}
use Rattle.rev_witness.specs.Progress.{AreByRank, GoesOn, IsFree, IsPlanned, IsUnderWay, finish_event, first_out, is_due, pass_event, plan_event, settled_below, start_event}
use Rattle.rev_witness.specs.Sources.{AreThere}
use Rattle.rev_witness.specs.Witness.{BeganWith, HasHappened}
use Rattle.rev_witness.proofs.WitnessLemmas.{began-run}

-- HOW MANY EDGES ARE SETTLED
settled-few : (s : State) (n : ℕ) → settled_below s n ≤ n
settled-few s zero = omega (arith)
settled-few s (suc n) = by (is_settled (mark_of s n)) (settled-few s n)
  where
    by : (b : Bool) → settled_below s n ≤ n → (if b then suc (settled_below s n) else settled_below s n) ≤ suc n
    by true h = omega (arith, h)
    by false h = omega (arith, h)

settled-same : (s t : State) (n : ℕ) → ((x : ℕ) → x < n → mark_of t x ≡ mark_of s x) → settled_below t n ≡ settled_below s n
settled-same s t zero same = refl
settled-same s t (suc n) same =
    (λ i. if is_settled (same n (omega (arith)) i) then suc (settled-same s t n (λ x h. same x (omega (arith, h))) i) else settled-same s t n (λ x h. same x (omega (arith, h))) i)

settled-more : (s t : State) (x n : ℕ) → x < n → is_settled (mark_of s x) ≡ false → is_settled (mark_of t x) ≡ true → ((y : ℕ) → y ≢ x → mark_of t y ≡ mark_of s y) → settled_below t n ≡ suc (settled_below s n)
settled-more s t x zero below off ends others = absurd (omega (arith, below))
settled-more s t x (suc n) below off ends others = elim (cases_eq n x) [
  | inl same ↦
      (λ i. if (ap (λ y. is_settled (mark_of t y)) same ∙ ends) i then suc (settled_below t n) else settled_below t n)
      ∙ ap suc (settled-same s t n (λ y h. others y (λ e. omega (arith, h, e, same))))
      ∙ (λ i. suc (if (sym (ap (λ y. is_settled (mark_of s y)) same ∙ off)) i then suc (settled_below s n) else settled_below s n))
  | inr other ↦
      let rest = settled-more s t x n (omega (arith, below, other)) off ends others in
      (λ i. if is_settled (others n other i) then suc (rest i) else rest i) ∙ out (is_settled (mark_of s n))
]
  where
    out : (b : Bool) → (if b then suc (suc (settled_below s n)) else suc (settled_below s n)) ≡ suc (if b then suc (settled_below s n) else settled_below s n)
    out true = refl
    out false = refl

-- WHAT HAPPENED
pub state_after : (manifest : ManifestValue) (opening : State) (t u : Timeline) (e : Event) → BeganWith manifest opening t → BeganWith manifest opening u → HasHappened e t u → state_at u ≡ after manifest (state_at t) e
state_after manifest opening t u e before began happened =
    began-run manifest opening u began
    ∙ ap (run (machine manifest 1) opening) happened.events
    ∙ run-append (machine manifest 1) opening (kept_events t) ((happened.n, e) ∷ [])
    ∙ ap (λ s. after manifest s e) (sym (began-run manifest opening t before))

pub began_opened : (manifest : ManifestValue) (opening : State) → BeganWith manifest opening (opened manifest 1 opening)
began_opened manifest opening = record { manifest_is = refl; jobs_are = refl; opening_is = refl }

-- an event is accepted where the machine accepts it
pub accepts : (manifest : ManifestValue) (opening : State) (t : Timeline) (e : Event) → BeganWith manifest opening t → refusal manifest 1 (state_at t) e ≡ None → accept_refusal t e ≡ None
accepts manifest opening t e began ok = (λ i. refusal (began.manifest_is i) (began.jobs_are i) (state_at t) e) ∙ ok

pub wanted-is-due : (m : Mark) → is_wanted_mark m ≡ true → is_due m ≡ true
wanted-is-due m h = rw h refl

pub through-is-due : (m : Mark) → is_through_mark m ≡ true → is_due m ≡ true
through-is-due mark.Through h = refl
through-is-due mark.Wanted h = refl
through-is-due mark.Idle h = absurd (true≢false (sym h))
through-is-due (mark.Running job slot seen) h = absurd (true≢false (sym h))
through-is-due (mark.Done changed) h = absurd (true≢false (sym h))
through-is-due mark.Clean h = absurd (true≢false (sym h))
through-is-due mark.Failed h = absurd (true≢false (sym h))
through-is-due mark.Stopped h = absurd (true≢false (sym h))

due-not-settled : (m : Mark) → is_due m ≡ true → is_settled m ≡ false
due-not-settled mark.Wanted h = refl
due-not-settled mark.Through h = refl
due-not-settled mark.Idle h = absurd (true≢false (sym h))
due-not-settled (mark.Running job slot seen) h = refl
due-not-settled (mark.Done changed) h = absurd (true≢false (sym h))
due-not-settled mark.Clean h = absurd (true≢false (sym h))
due-not-settled mark.Failed h = refl
due-not-settled mark.Stopped h = refl

-- WHAT AN ANSWER SAYS
-- an event that happens, and what follows of it
pub happened_and : {E : Type 0} {H B G : Type 0} (r : Result Bool E) → IfOk r IsTrue → IfOk r (λ b. IsTrue b → H) → OnOk r B → (H → B → G) → IfOk r (λ b. IsTrue b × G)
happened_and (Ok b) said happens began then_is = (said, then_is (happens said) began)
happened_and (Err e) said happens began then_is = tt

-- the same of what a part said
pub went_and : {E : Type 0} {A G : Type 0} (r : Result Bool E) → IfOk r (λ b. IsTrue b × A) → (A → G) → IfOk r (λ b. IsTrue b × G)
went_and (Ok b) went then_is = (went.0, then_is went.1)
went_and (Err e) went then_is = tt

-- SEVERAL EDGES
module _ (manifest : ManifestValue) (opening : State) where
  pub goes-none : (P : ℕ → Type 0) (t : Timeline) → IsUnderWay manifest opening t → ((x : ℕ) → P x → is_settled (mark_of (state_at t) x) ≡ true) → GoesOn manifest opening P t t
  goes-none P t way done = record { under_way = way; done = done; stays = λ x h. h; others = λ x h. refl }

  pub goes-on : (P Q R : ℕ → Type 0) (t u v : Timeline) → GoesOn manifest opening P t u → GoesOn manifest opening Q u v → ((x : ℕ) → R x → P x ⊎ Q x) → ((x : ℕ) → P x → R x) → ((x : ℕ) → Q x → R x) → GoesOn manifest opening R t v
  goes-on P Q R t u v a b split first second = record {
    under_way = b.under_way;
    done = λ x h. elim (split x h) [ inl p ↦ b.stays x (a.done x p) | inr q ↦ b.done x q ];
    stays = λ x h. b.stays x (a.stays x h);
    others = λ x none. b.others x (λ q. none (second x q)) ∙ a.others x (λ p. none (first x p));
  }

  pub free-still : (P : ℕ → Type 0) (t u : Timeline) (x : ℕ) → GoesOn manifest opening P t u → IsFree manifest.builds (state_at t) x → IsFree manifest.builds (state_at u) x
  free-still P t u x a free other step = a.stays other (free other step)

  -- one edge of a list more
  pub goes-more : (edges : List ℕ) (i d : ℕ) (t u v : Timeline) → i < length edges → GoesOn manifest opening (Contains (take i edges)) t u → GoesOn manifest opening (λ y. y ≡ get_or edges i d) u v → GoesOn manifest opening (Contains (take (i + 1) edges)) t v
  goes-more edges i d t u v within a b =
      let more = take_more edges i d within in
      goes-on (Contains (take i edges)) (λ y. y ≡ get_or edges i d) (Contains (take (i + 1) edges)) t u v a b
      (λ x h. elim (Contains-push_cases (take i edges) (get_or edges i d) x (subst (λ xs. Contains xs x) more h)) [ inl old ↦ inl old | inr e ↦ inr (sym e) ])
      (λ x h. subst (λ xs. Contains xs x) (sym more) (Contains-append_left (take i edges) (get_or edges i d ∷ []) x h))
      (λ x h. subst (λ xs. Contains xs x) (sym more) (subst (λ y. Contains (take i edges ++ get_or edges i d ∷ []) y) (sym h) (Contains-push (take i edges) (get_or edges i d))))

-- the edges of the first ranks that an edge waits for
abbrev pub IsBelow : GraphValue → ℕ → ℕ → ℕ → Type 0
IsBelow graph edge rank other = Waits graph.manifest.builds edge other × (rank_at graph.ranks other < rank)

module _ (graph : GraphValue) (is : IsGraph graph) (opening : State) where
  pub named : (x : ℕ) → x < length graph.manifest.builds → producer_of graph.manifest.builds (first_out graph.manifest x) ≡ Some x
  named x within = producer-only graph.manifest.builds (first_out graph.manifest x) x is.single (Contains-get_or (outputs_of (build_at graph.manifest.builds x)) 0 [] (nothing.some-output graph is x within))

  pub starts-it : (x : ℕ) → x < length graph.manifest.builds → starts graph.manifest x (start_event graph.manifest x) ≡ true
  starts-it x within = ap (λ o. holds (λ n. n == x) o) (named x within) ∙ eq-eqb x x refl

  -- numbers are left
  pub numbers-left : (t : Timeline) → IsUnderWay graph.manifest opening t → last_of t.accepted + 2 < 2 ^ 32
  numbers-left t way =
      let less = way.few in
      let few = settled-few (state_at t) (length graph.manifest.builds) in
      let edges = is.few in
      omega (arith, less, few, edges)

  -- ONE EDGE
  went : (t u : Timeline) (x : ℕ) → x < length graph.manifest.builds → IsUnderWay graph.manifest opening t → BeganWith graph.manifest opening u → IsReady graph.manifest (state_at u)
      → is_settled (mark_of (state_at t) x) ≡ false → is_settled (mark_of (state_at u) x) ≡ true → ((y : ℕ) → y ≢ x → mark_of (state_at u) y ≡ mark_of (state_at t) y)
      → last_of u.accepted ≤ last_of t.accepted + 2 → GoesOn graph.manifest opening (λ y. y ≡ x) t u
  went t u x within way began ready off ends others next =
      let more = settled-more (state_at t) (state_at u) x (length graph.manifest.builds) within off ends others in
      let few = way.few in
      record {
        under_way = record { began = began; ready = ready; few = omega (arith, next, more, few) };
        done = λ y same. ap (λ z. is_settled (mark_of (state_at u) z)) same ∙ ends;
        stays = λ y h. elim (cases_eq y x) [
          | inl same ↦ ap (λ z. is_settled (mark_of (state_at u) z)) same ∙ ends
          | inr other ↦ ap is_settled (others y other) ∙ h
        ];
        others = others;
      }

  -- what an edge with a command is that is still to run
  record ToRun (s : State) (x : ℕ) : Type 0 where
    wants : mark_of s x ≡ mark.Wanted
    gone : holds_at (is_missing s) (outputs_of (build_at graph.manifest.builds x)) 0 ≡ true

  to-run : (s : State) (x : ℕ) (m : Mark) → mark_of s x ≡ m → (build_at graph.manifest.builds x).phony ≡ false → is_due m ≡ true → CanEnd s (build_at graph.manifest.builds x) m → ToRun s x
  to-run s x m e plain due (settled h) = absurd (true≢false (sym due ∙ settled-not-due m h))
  to-run s x m e plain due (passes p h) = absurd (true≢false (sym p ∙ plain))
  to-run s x m e plain due (runs p h k) = record { wants = e ∙ h; gone = k }

  module _ (t : Timeline) (x : ℕ) (within : x < length graph.manifest.builds) (way : IsUnderWay graph.manifest opening t) (free : IsFree graph.manifest.builds (state_at t) x)
      (due : is_due (mark_of (state_at t) x) ≡ true) where
    module _ (plain : (build_at graph.manifest.builds x).phony ≡ false) where
      ran : alone.Ran graph.manifest is.single x (first_out graph.manifest x) (named x within) (state_at t) (after graph.manifest (state_at t) (start_event graph.manifest x))
          (after graph.manifest (after graph.manifest (state_at t) (start_event graph.manifest x)) (finish_event graph.manifest x))
      ran =
          let it = to-run (state_at t) x (mark_of (state_at t) x) refl plain due (way.ready.marks x within) in
          alone.ran graph.manifest is.single x (first_out graph.manifest x) (named x within) (state_at t) way.ready plain it.wants it.gone free

      pub start-accepted : accept_refusal t (start_event graph.manifest x) ≡ None
      start-accepted = accepts graph.manifest opening t (start_event graph.manifest x) way.began ran.begins

      module _ (u : Timeline) (began : BeganWith graph.manifest opening u) (started : HasHappened (start_event graph.manifest x) t u) where
        pub finish-accepted : accept_refusal u (finish_event graph.manifest x) ≡ None
        finish-accepted =
            accepts graph.manifest opening u (finish_event graph.manifest x) began
            (subst (λ s. refusal graph.manifest 1 s (finish_event graph.manifest x) ≡ None) (sym (state_after graph.manifest opening t u (start_event graph.manifest x) way.began began started)) ran.finishes)

        pub goes-by-run : (v : Timeline) → BeganWith graph.manifest opening v → HasHappened (finish_event graph.manifest x) u v → GoesOn graph.manifest opening (λ y. y ≡ x) t v
        goes-by-run v began_v finished =
            let at_one = state_after graph.manifest opening t u (start_event graph.manifest x) way.began began started in
            let at_two = state_after graph.manifest opening u v (finish_event graph.manifest x) began began_v finished in
            let there : state_at v ≡ after graph.manifest (after graph.manifest (state_at t) (start_event graph.manifest x)) (finish_event graph.manifest x) = at_two ∙ ap (λ s. after graph.manifest s (finish_event graph.manifest x)) at_one in
            let first = started.last in
            let second = finished.last in
            went t v x within way began_v (subst (λ s. IsReady graph.manifest s) (sym there) ran.ready) (due-not-settled (mark_of (state_at t) x) due) (ap (λ s. is_settled (mark_of s x)) there ∙ ran.ended)
            (λ y other. ap (λ s. mark_of s y) there ∙ ran.others y other) (omega (arith, first, second))

    module _ (phony : (build_at graph.manifest.builds x).phony ≡ true) where
      passed : alone.Passed graph.manifest is.single x (first_out graph.manifest x) (named x within) (state_at t) (after graph.manifest (state_at t) (pass_event graph.manifest x))
      passed = alone.passed graph.manifest is.single x (first_out graph.manifest x) (named x within) (state_at t) way.ready phony due free

      pub pass-accepted : accept_refusal t (pass_event graph.manifest x) ≡ None
      pass-accepted = accepts graph.manifest opening t (pass_event graph.manifest x) way.began passed.passes

      pub goes-by-pass : (v : Timeline) → BeganWith graph.manifest opening v → HasHappened (pass_event graph.manifest x) t v → GoesOn graph.manifest opening (λ y. y ≡ x) t v
      goes-by-pass v began_v happened =
          let there = state_after graph.manifest opening t v (pass_event graph.manifest x) way.began began_v happened in
          let next = happened.last in
          went t v x within way began_v (subst (λ s. IsReady graph.manifest s) (sym there) passed.ready) (due-not-settled (mark_of (state_at t) x) due) (ap (λ s. is_settled (mark_of s x)) there ∙ passed.ended)
          (λ y other. ap (λ s. mark_of s y) there ∙ passed.others y other) (omega (arith, next))

  -- one that is not due is settled
  pub not-due-settled : (t : Timeline) (x : ℕ) → IsUnderWay graph.manifest opening t → x < length graph.manifest.builds → is_due (mark_of (state_at t) x) ≡ false → is_settled (mark_of (state_at t) x) ≡ true
  not-due-settled t x way within off = by (mark_of (state_at t) x) off (way.ready.marks x within)
    where
      by : (m : Mark) → is_due m ≡ false → CanEnd (state_at t) (build_at graph.manifest.builds x) m → is_settled m ≡ true
      by m off (settled h) = h
      by m off (passes p h) = absurd (true≢false (sym h ∙ off))
      by m off (runs p h k) = absurd (true≢false (sym (ap is_due h) ∙ off))

  -- ALL THAT AN EDGE WAITS FOR, BY RANK
  module _ (edge : ℕ) (lists : List (List ℕ)) (are : AreByRank graph edge lists) (rank : ℕ) where
    -- those of a rank wait for none but those of lower ranks
    pub rank-free : (t u : Timeline) → GoesOn graph.manifest opening (IsBelow graph edge rank) t u → (x : ℕ) → Steps lists rank x → IsFree graph.manifest.builds (state_at u) x
    rank-free t u a x h other step =
        let falls = is.ranked.falls x other step in
        let at = are.ranked rank x h in
        a.done other (farther (are.waited rank x h) step, omega (arith, falls, at))

    pub goes-rank : (t u v : Timeline) → GoesOn graph.manifest opening (IsBelow graph edge rank) t u → GoesOn graph.manifest opening (Steps lists rank) u v → GoesOn graph.manifest opening (IsBelow graph edge (rank + 1)) t v
    goes-rank t u v a b =
        goes-on graph.manifest opening (IsBelow graph edge rank) (Steps lists rank) (IsBelow graph edge (rank + 1)) t u v a b
        (λ x h. elim (cases_eq (rank_at graph.ranks x) rank) [
          | inl same ↦ inr (subst (λ r. Steps lists r x) same (are.listed x h.0))
          | inr other ↦ let below = h.1 in inl (h.0, omega (arith, below, other))
        ])
        (λ x h. let below = h.1 in (h.0, omega (arith, below)))
        (λ x h. let at = are.ranked rank x h in (are.waited rank x h, omega (arith, at)))

  -- the same of the lists in turn
  module _ (edge : ℕ) (ranks : List (Vec ℕ)) (are : AreByRank graph edge (graph_of ranks)) (rank : ℕ) (v : Vec ℕ) (within : rank < length ranks) (at : v ≡ get_or ranks rank v) (t u : Timeline)
      (before : GoesOn graph.manifest opening (IsBelow graph edge rank) t u) where
    list-is : v.items ≡ successors_of (graph_of ranks) rank
    list-is = sym (successors_are ranks rank v within at)

    pub list-free : All (IsFree graph.manifest.builds (state_at u)) v.items
    list-free k d inside =
        rank-free edge (graph_of ranks) are rank t u before (get_or v.items k d) (subst (λ xs. Contains xs (get_or v.items k d)) list-is (Contains-get_or v.items k d inside))

    pub goes-list : (w : Timeline) → GoesOn graph.manifest opening (Contains v.items) u w → GoesOn graph.manifest opening (IsBelow graph edge (rank + 1)) t w
    goes-list w went = goes-rank edge (graph_of ranks) are rank t u w before (subst (λ xs. GoesOn graph.manifest opening (Contains xs) u w) list-is went)

  pub goes-none-below : (edge : ℕ) (t : Timeline) → IsUnderWay graph.manifest opening t → GoesOn graph.manifest opening (IsBelow graph edge 0) t t
  goes-none-below edge t way = goes-none graph.manifest opening (IsBelow graph edge 0) t way (λ x h. let below = h.1 in absurd (omega (arith, below)))

  way-end : {x y : ℕ} → EdgeReaches graph.manifest.builds x y → y < length graph.manifest.builds
  way-end {x} {y} (one s) = producer_of-within s.path graph.manifest.builds y s.produced
  way-end {x} {y} (on {middle = m} s way) = way-end way

  pub goes-all : (edge : ℕ) (t u : Timeline) → GoesOn graph.manifest opening (IsBelow graph edge (length graph.manifest.builds)) t u → GoesOn graph.manifest opening (Waits graph.manifest.builds edge) t u
  goes-all edge t u a = record {
    under_way = a.under_way;
    done = λ x way. a.done x (way, is.ranked.below x (way-end way));
    stays = a.stays;
    others = λ x none. a.others x (λ h. none h.0);
  }

  -- THE LAST START
  pub start-next : (edge : ℕ) (t u : Timeline) → edge < length graph.manifest.builds → (build_at graph.manifest.builds edge).phony ≡ false → mark_of (state_at t) edge ≡ mark.Wanted
      → GoesOn graph.manifest opening (Waits graph.manifest.builds edge) t u → accept_refusal u (start_event graph.manifest edge) ≡ None
  start-next edge t u within plain wants a =
      start-accepted u edge within a.under_way (λ other step. a.done other (one step)) (ap is_due (a.others edge (ranked-acyclic graph.manifest.builds graph.ranks is.ranked edge) ∙ wants)) plain

  -- an edge that was waited for is not to run any more, and each other one still is
  pub waited-not-wanted : (b a : ℕ) (t u : Timeline) → GoesOn graph.manifest opening (Waits graph.manifest.builds b) t u → is_wanted_mark (mark_of (state_at u) a) ≡ true → Waits graph.manifest.builds b a → ⊥
  waited-not-wanted b a t u goes wants way =
      true≢false (sym (goes.done a way) ∙ due-not-settled (mark_of (state_at u) a) (wanted-is-due (mark_of (state_at u) a) wants))

  pub wanted-still : (b a : ℕ) (t u : Timeline) → GoesOn graph.manifest opening (Waits graph.manifest.builds b) t u → mark_of (state_at t) a ≡ mark.Wanted → (Waits graph.manifest.builds b a → ⊥) → is_wanted_mark (mark_of (state_at u) a) ≡ true
  wanted-still b a t u goes wants free = ap is_wanted_mark (goes.others a free ∙ wants)

-- THE PLAN
module _ (graph : GraphValue) (is : IsGraph graph) (opening : State) (alone_is : HasSourcesAlone graph.manifest.builds opening) (there : AreThere graph.manifest.builds opening)
    (b a : ℕ) (in_b : b < length graph.manifest.builds) (in_a : a < length graph.manifest.builds) where
  of-edge : (x : ℕ) → x < length graph.manifest.builds → Contains (outputs_of (build_at graph.manifest.builds x)) (first_out graph.manifest x)
  of-edge x within = Contains-get_or (outputs_of (build_at graph.manifest.builds x)) 0 [] (nothing.some-output graph is x within)

  pub two-accepted : accept_refusal (opened graph.manifest 1 opening) (plan_event graph.manifest a b) ≡ None
  two-accepted = nothing.plan-accepted graph is opening alone_is there a b in_a in_b (first_out graph.manifest a) (first_out graph.manifest b) (of-edge a in_a) (of-edge b in_b)

  pub two-planned : (build_at graph.manifest.builds b).phony ≡ false → (build_at graph.manifest.builds a).phony ≡ false → (u : Timeline) → BeganWith graph.manifest opening u
      → HasHappened (plan_event graph.manifest a b) (opened graph.manifest 1 opening) u → IsPlanned graph.manifest opening b a u
  two-planned plain_b plain_a u began happened =
      let oa = first_out graph.manifest a in
      let ob = first_out graph.manifest b in
      let at : state_at u ≡ after graph.manifest opening (Plan (oa ∷ ob ∷ [])) = state_after graph.manifest opening (opened graph.manifest 1 opening) u (plan_event graph.manifest a b) (began_opened graph.manifest opening) began happened in
      let last = happened.last in
      record {
        under_way = record {
          began = began;
          ready = subst (λ s. IsReady graph.manifest s) (sym at) (nothing.ready graph is opening alone_is there a b in_a in_b oa ob (of-edge a in_a) (of-edge b in_b));
          few = omega (arith, last);
        };
        used = ap (λ s. mark_of s b) at ∙ nothing.is-wanted graph is opening alone_is there a b in_a in_b oa ob (of-edge a in_a) (of-edge b in_b) b ob in_b (Contains-get_or (oa ∷ ob ∷ []) 1 [] (omega (arith))) (of-edge b in_b) plain_b;
        made = ap (λ s. mark_of s a) at ∙ nothing.is-wanted graph is opening alone_is there a b in_a in_b oa ob (of-edge a in_a) (of-edge b in_b) a oa in_a (Contains-get_or (oa ∷ ob ∷ []) 0 [] (omega (arith))) (of-edge a in_a) plain_a;
      }

-- The refusals of a plan are the first that a reader finds.
use Rattle.std.proofs.Common.{◌≡◌, ℕ, ◌+◌, ◌<◌, zero, suc, nat_eq, get_or, Bool, true, false, not, ◌&&◌, ◌||◌, List, [], ◌∷◌, ◌++◌, length, find, Contains, Option, Some, None, is_some, ◌⊎◌, inl, inr, refl, sym, ap, subst, ◌∙◌, arith, eqb-true, eq-eqb, true≢false, bytes_eq, if◌then◌else◌}
use Rattle.std.specs.Prelude.{is_none, slice_get, ◌==◌}
use Rattle.std.specs.List.{list_any, position, range_with_len}
use Rattle.std.specs.Option.{option_map}
use Rattle.std.proofs.lemmas.Option.{slice_get-get_or, get_or_from_slice_get, slice_get_within}
use Rattle.std.proofs.lemmas.List.Elements.{Contains-append_left, Contains-append_right, Contains-append_cases, Contains-get_or}
use Rattle.std.proofs.lemmas.List.Folds.{list_any_at}
use Rattle.rev_manifest.specs.Manifest.{BuildValue, ManifestValue}
use Rattle.rev_graph.specs.Graph.{build_at, no_build, outputs_of, inputs_of, has_path, needs, producer_from, producer_of, is_known, Produces}
use Rattle.rev_graph.proofs.EntryLemmas.{same_bytes, own_bytes}
use Rattle.rev_graph.proofs.GraphLemmas.{producer_of-within}
use Rattle.rev_graph.proofs.ProducerLemmas.{producer-has}
use Rattle.rev_cells.specs.State.{State, stamp_of, mark_of}
use Rattle.rev_cells.specs.declared.mark.Mark.{Mark}
use Rattle.rev_cells.specs.declared.mark.Mark.TheVariants as mark
use Rattle.rev_dirty.specs.Inputs.{producers_in}
use Rattle.rev_plan.specs.Laws.{RefusalsAreFirst}
use Rattle.rev_plan.specs.Least.{Reached, Reached.target, Reached.needed, IsLeast, IsCyclic}
use Rattle.rev_plan.specs.Options.{first_some}
use Rattle.rev_plan.specs.Plan.{PlanRefusal, PlanRefusal.StillRunning, PlanRefusal.UnknownTarget, PlanRefusal.MissingInput, PlanRefusal.DepsCycle, edge_numbers, is_running_mark, is_running, is_lacking, lacking, lacking_at, is_reached, is_on_cycle, missing_input, plan_refusal, targets_or}
use Rattle.rev_plan.specs.Refusals.{Runs, StandsOnLine, IsUnknown, Lacks, LacksSome, NoneIs, IsRefused, IsRefused.runs, IsRefused.unknown, IsRefused.lacking as lacks, IsRefused.cyclic, IsAccepted}
use Rattle.rev_plan.proofs.CycleLemmas.{cyclic-holds, reached-within}
use Rattle.rev_plan.proofs.LeastLemmas.{and-both, both-and, reached-sound, reached-complete}
use Rattle.rev_plan.proofs.Searches.{HoldsLeast, Passes, PassesAt, find-holds, position-holds, holds-some, holds-none}

-- TESTS
not-true : (b : Bool) → not b ≡ true → b ≡ false
not-true true h = cc
not-true false h = refl

true-not : (b : Bool) → (b ≡ true → ⊥) → not b ≡ true
true-not true h = absurd (h refl)
true-not false h = refl

has-contained : (paths : List (List ℕ)) (path : List ℕ) → Contains paths path → has_path paths path ≡ true
has-contained paths path (k, within, at) = list_any_at (bytes_eq path) paths k path within (ap (bytes_eq path) at ∙ own_bytes path)

contained-by : (path x : List ℕ) (xs : List (List ℕ)) (b : Bool) → bytes_eq path x ≡ b → (list_any (bytes_eq path) xs ≡ true → Contains xs path) → (b || list_any (bytes_eq path) xs) ≡ true → Contains (x ∷ xs) path
contained-by path x xs true e rest h = subst (Contains (x ∷ xs)) (sym (same_bytes path x e)) (Contains-get_or (x ∷ xs) 0 x (omega arith))
contained-by path x xs false e rest h = Contains-append_right (x ∷ []) xs path (rest h)

contained-has : (paths : List (List ℕ)) (path : List ℕ) → has_path paths path ≡ true → Contains paths path
contained-has [] path h =
    let no : false ≡ true = h in
    cc
contained-has (x ∷ xs) path h = contained-by path x xs (bytes_eq path x) refl (contained-has xs path) h

-- PRODUCERS
none-by : (n : ℕ) (rest : Option ℕ) (b : Bool) → b ≡ true → (if b then Some n else rest) ≡ None → ⊥
none-by n rest true e h =
    let no : Some n ≡ None = h in
    cc
none-by n rest false e h = true≢false (sym e)

rest-none : (n : ℕ) (rest : Option ℕ) (b : Bool) → (if b then Some n else rest) ≡ None → rest ≡ None
rest-none n rest true h =
    let no : Some n ≡ None = h in
    cc
rest-none n rest false h = h

no-producer : (n : ℕ) (path : List ℕ) (builds : List BuildValue) (k : ℕ) → Produces builds k path → producer_from n path builds ≡ None → ⊥
no-producer n path [] k (i, within, at) h = absurd (omega (arith, within))
no-producer n path (b ∷ bs) zero there h = none-by n (producer_from (n + 1) path bs) (has_path (outputs_of b) path) (has-contained (outputs_of b) path there) h
no-producer n path (b ∷ bs) (suc k) there h = no-producer (n + 1) path bs k there (rest-none n (producer_from (n + 1) path bs) (has_path (outputs_of b) path) h)

some-producer : (builds : List BuildValue) (path : List ℕ) (k : ℕ) → Produces builds k path → (o : Option ℕ) → producer_of builds path ≡ o → is_some o ≡ true
some-producer builds path k there None h = absurd (no-producer 0 path builds k there h)
some-producer builds path k there (Some e) h = refl

-- LINES
pub record OnLineFrom (builds : List BuildValue) (path : List ℕ) : Type 0 where
  pub at : ℕ
  pub is_at : at < length builds
  pub needed : needs path (build_at builds at) ≡ true

later : (b : BuildValue) (bs : List BuildValue) (path : List ℕ) → OnLineFrom bs path → OnLineFrom (b ∷ bs) path
later b bs path f = record { at = suc f.at; is_at = omega (arith, f.is_at); needed = f.needed }

needs-by : (b : BuildValue) (bs : List BuildValue) (path : List ℕ) (t : Bool) → needs path b ≡ t → (t || list_any (needs path) bs) ≡ true → (list_any (needs path) bs ≡ true → OnLineFrom bs path) → OnLineFrom (b ∷ bs) path
needs-by b bs path true e h rest = record { at = 0; is_at = omega arith; needed = e }
needs-by b bs path false e h rest = later b bs path (rest h)

needed-line : (builds : List BuildValue) (path : List ℕ) → list_any (needs path) builds ≡ true → OnLineFrom builds path
needed-line [] path h =
    let no : false ≡ true = h in
    cc
needed-line (b ∷ bs) path h = needs-by b bs path (needs path b) refl h (needed-line bs path)

module _ (builds : List BuildValue) (path : List ℕ) where
  by-producer : (o : Option ℕ) → producer_of builds path ≡ o → (is_some o || list_any (needs path) builds) ≡ true → StandsOnLine builds path
  by-producer (Some e) is h =
      let build = build_at builds e in
      record {
        edge = e;
        is_edge = producer_of-within path builds e is;
        stands_there = Contains-append_left (outputs_of build) (inputs_of build ++ build.validations) path (producer-has builds path e is);
      }
  by-producer None is h =
      let f = needed-line builds path h in
      let build = build_at builds f.at in
      record { edge = f.at; is_edge = f.is_at; stands_there = Contains-append_right (outputs_of build) (inputs_of build ++ build.validations) path (contained-has (inputs_of build ++ build.validations) path f.needed) }

  known-line : is_known builds path ≡ true → StandsOnLine builds path
  known-line h = by-producer (producer_of builds path) refl h

  or-first : (a b : Bool) → a ≡ true → (a || b) ≡ true
  or-first true b h = refl
  or-first false b h = cc

  or-second : (a b : Bool) → b ≡ true → (a || b) ≡ true
  or-second true b h = refl
  or-second false b h = h

  line-known : StandsOnLine builds path → is_known builds path ≡ true
  line-known s =
      let build = build_at builds s.edge in
      elim (Contains-append_cases (outputs_of build) (inputs_of build ++ build.validations) path s.stands_there) [
        | inl out ↦ or-first (is_some (producer_of builds path)) (list_any (needs path) builds) (some-producer builds path s.edge out (producer_of builds path) refl)
        | inr need ↦ or-second (is_some (producer_of builds path)) (list_any (needs path) builds)
            (list_any_at (needs path) builds s.edge no_build s.is_edge (has-contained (inputs_of build ++ build.validations) path need))
      ]

-- WHO RUNS
module _ (builds : List BuildValue) (state : State) where
  running-by : (edge : ℕ) → edge < length builds → (m : Mark) → mark_of state edge ≡ m → is_running_mark m ≡ true → Runs builds state edge
  running-by edge within (mark.Running job slot seen) is h = record { is_edge = within; job = job; slot = slot; seen = seen; mark_is = is }
  running-by edge within _ is h = cc

  pub running-holds : HoldsLeast (Runs builds state) (find (is_running state) (edge_numbers builds))
  running-holds =
      find-holds (is_running state) (length builds) (Runs builds state)
      (λ k p. running-by k p.within (mark_of state k) refl p.passes)
      (λ k r. record { within = r.is_edge; passes = ap is_running_mark r.mark_is })

  -- WHAT IS UNKNOWN
  pub unknown-holds : (targets : List (List ℕ)) → HoldsLeast (IsUnknown builds targets) (position (λ path. not (is_known builds path)) targets)
  unknown-holds targets =
      position-holds (λ path. not (is_known builds path)) targets [] (IsUnknown builds targets)
      (λ k p. record {
        path = get_or targets k [];
        is_target = slice_get-get_or targets k [] p.within;
        on_no_line = λ s. true≢false (sym (line-known builds (get_or targets k []) s) ∙ not-true (is_known builds (get_or targets k [])) p.passes);
      })
      (λ k u. record {
        within = slice_get_within targets k u.path u.is_target;
        passes = ap (λ path. not (is_known builds path)) (get_or_from_slice_get targets k u.path [] u.is_target) ∙ true-not (is_known builds u.path) (λ h. u.on_no_line (known-line builds u.path h));
      })

  -- WHAT IS LACKING
  none-produces : (path : List ℕ) → is_none (producer_of builds path) ≡ true → (other : ℕ) → Produces builds other path → ⊥
  none-produces path h other there = by (producer_of builds path) refl h
    where
      by : (o : Option ℕ) → producer_of builds path ≡ o → is_none o ≡ true → ⊥
      by None is h = no-producer 0 path builds other there is
      by (Some e) is h = true≢false (sym h)

  produces-none : (path : List ℕ) → ((other : ℕ) → Produces builds other path → ⊥) → is_none (producer_of builds path) ≡ true
  produces-none path none = by (producer_of builds path) refl
    where
      by : (o : Option ℕ) → producer_of builds path ≡ o → is_none o ≡ true
      by None is = refl
      by (Some e) is = absurd (none e (producer-has builds path e is))

  pub lacks-holds : (edge : ℕ) → HoldsLeast (Lacks builds state edge) (lacking builds state edge)
  lacks-holds edge =
      let all : List (List ℕ) = inputs_of (build_at builds edge) in
      position-holds (is_lacking builds state) all [] (Lacks builds state edge)
      (λ k p.
      let both = and-both (is_none (producer_of builds (get_or all k []))) (stamp_of state (get_or all k []) == 0) p.passes in
      record {
        path = get_or all k [];
        is_input = slice_get-get_or all k [] p.within;
        unproduced = none-produces (get_or all k []) both.0;
        is_missing = eqb-true (stamp_of state (get_or all k [])) 0 both.1;
      })
      (λ k l. record {
        within = slice_get_within all k l.path l.is_input;
        passes = ap (is_lacking builds state) (get_or_from_slice_get all k l.path [] l.is_input)
            ∙ both-and (is_none (producer_of builds l.path)) (stamp_of state l.path == 0) (produces-none l.path l.unproduced) (eq-eqb (stamp_of state l.path) 0 l.is_missing);
      })

  module _ (targets : List (List ℕ)) where
    abbrev lacking-test : ℕ → Bool
    lacking-test edge = is_reached builds state (producers_in builds targets) edge && is_some (lacking builds state edge)

    some-lacks : (edge : ℕ) → Reached builds state targets edge → (o : Option ℕ) → lacking builds state edge ≡ o → is_some o ≡ true → LacksSome builds state targets edge
    some-lacks edge r None is h =
        let no : false ≡ true = h in
        cc
    some-lacks edge r (Some at) is h = record { is_reached = r; position = at; lacks = ((lacks-holds edge).some at is).has }

    lacks-some : (edge at : ℕ) → Lacks builds state edge at → (o : Option ℕ) → lacking builds state edge ≡ o → is_some o ≡ true
    lacks-some edge at l None is = absurd ((lacks-holds edge).none is at l)
    lacks-some edge at l (Some k) is = refl

    pub lacking-holds : HoldsLeast (LacksSome builds state targets) (find lacking-test (edge_numbers builds))
    lacking-holds =
        find-holds lacking-test (length builds) (LacksSome builds state targets)
        (λ k p.
        let both = and-both (is_reached builds state (producers_in builds targets) k) (is_some (lacking builds state k)) p.passes in
        some-lacks k (reached-sound builds state targets k both.0) (lacking builds state k) refl both.1)
        (λ k l. record {
          within = reached-within builds state targets l.is_reached;
          passes = both-and (is_reached builds state (producers_in builds targets) k) (is_some (lacking builds state k)) (reached-complete builds state targets l.is_reached)
              (lacks-some k l.position l.lacks (lacking builds state k) refl);
        })

    -- THE FIRST OF THEM
    abbrev parts : Option ℕ → Option ℕ → Option ℕ → Option ℕ → Option PlanRefusal
    parts r u l k = first_some (option_map StillRunning r ∷ option_map UnknownTarget u ∷ lacking_at builds state l ∷ option_map DepsCycle k ∷ [])

    no-position : (edge : ℕ) → LacksSome builds state targets edge → lacking builds state edge ≡ None → ⊥
    no-position edge l is = (lacks-holds edge).none is l.position l.lacks

    lacking-first : (edge : ℕ) → NoneIs (Runs builds state) → NoneIs (IsUnknown builds targets) → IsLeast (LacksSome builds state targets) edge → (o : Option ℕ) → lacking builds state edge ≡ o
        → (rest : Option PlanRefusal) (refusal : PlanRefusal) → first_some (option_map (λ at. MissingInput at edge) o ∷ rest ∷ []) ≡ Some refusal → IsRefused builds state targets refusal
    lacking-first edge a b l None is rest refusal h = absurd (no-position edge l.has is)
    lacking-first edge a b l (Some at) is rest refusal h =
        let same : MissingInput at edge ≡ refusal = cc in
        subst (IsRefused builds state targets) same (lacks a b l ((lacks-holds edge).some at is))

    refused-by : (r u l k : Option ℕ) → HoldsLeast (Runs builds state) r → HoldsLeast (IsUnknown builds targets) u → HoldsLeast (LacksSome builds state targets) l
        → HoldsLeast (IsCyclic builds state targets) k → (refusal : PlanRefusal) → parts r u l k ≡ Some refusal → IsRefused builds state targets refusal
    refused-by (Some e) u l k a b c d refusal h =
        let same : StillRunning e ≡ refusal = cc in
        subst (IsRefused builds state targets) same (runs (a.some e refl))
    refused-by None (Some t) l k a b c d refusal h =
        let same : UnknownTarget t ≡ refusal = cc in
        subst (IsRefused builds state targets) same (unknown (a.none refl) (b.some t refl))
    refused-by None None (Some e) k a b c d refusal h = lacking-first e (a.none refl) (b.none refl) (c.some e refl) (lacking builds state e) refl (option_map DepsCycle k) refusal h
    refused-by None None None (Some e) a b c d refusal h =
        let same : DepsCycle e ≡ refusal = cc in
        subst (IsRefused builds state targets) same (cyclic (a.none refl) (b.none refl) (c.none refl) (d.some e refl))
    refused-by None None None None a b c d refusal h =
        let no : None ≡ Some refusal = h in
        cc

    by-refused : (r u l k : Option ℕ) → HoldsLeast (Runs builds state) r → HoldsLeast (IsUnknown builds targets) u → HoldsLeast (LacksSome builds state targets) l
        → HoldsLeast (IsCyclic builds state targets) k → {refusal : PlanRefusal} → IsRefused builds state targets refusal → parts r u l k ≡ Some refusal
    by-refused r u l k a b c d (runs {edge} least) = λ i. first_some (option_map StillRunning (holds-some r edge a least i) ∷ option_map UnknownTarget u ∷ lacking_at builds state l ∷ option_map DepsCycle k ∷ [])
    by-refused r u l k a b c d (unknown {position} x least) =
        λ i. first_some (option_map StillRunning (holds-none r a x i) ∷ option_map UnknownTarget (holds-some u position b least i) ∷ lacking_at builds state l ∷ option_map DepsCycle k ∷ [])
    by-refused r u l k a b c d (lacks {position} {edge} x y least first) =
        (λ i. first_some (option_map StillRunning (holds-none r a x i) ∷ option_map UnknownTarget (holds-none u b y i) ∷ lacking_at builds state (holds-some l edge c least i) ∷ option_map DepsCycle k ∷ []))
        ∙ ap (λ o. first_some (option_map (λ at. MissingInput at edge) o ∷ option_map DepsCycle k ∷ [])) (holds-some (lacking builds state edge) position (lacks-holds edge) first)
    by-refused r u l k a b c d (cyclic {edge} x y z least) =
        λ i. first_some (option_map StillRunning (holds-none r a x i) ∷ option_map UnknownTarget (holds-none u b y i) ∷ lacking_at builds state (holds-none l c z i) ∷ option_map DepsCycle (holds-some k edge d least i) ∷ [])

    lacking-found : (edge : ℕ) → LacksSome builds state targets edge → (o : Option ℕ) → lacking builds state edge ≡ o → (rest : Option PlanRefusal) → first_some (option_map (λ at. MissingInput at edge) o ∷ rest ∷ []) ≡ None → ⊥
    lacking-found edge l None is rest h = no-position edge l is
    lacking-found edge l (Some at) is rest h =
        let no : Some (MissingInput at edge) ≡ None = h in
        cc

    accepted-by : (r u l k : Option ℕ) → HoldsLeast (Runs builds state) r → HoldsLeast (IsUnknown builds targets) u → HoldsLeast (LacksSome builds state targets) l
        → HoldsLeast (IsCyclic builds state targets) k → parts r u l k ≡ None → IsAccepted builds state targets
    accepted-by (Some e) u l k a b c d h =
        let no : Some (StillRunning e) ≡ None = h in
        cc
    accepted-by None (Some t) l k a b c d h =
        let no : Some (UnknownTarget t) ≡ None = h in
        cc
    accepted-by None None (Some e) k a b c d h = absurd (lacking-found e (c.some e refl).has (lacking builds state e) refl (option_map DepsCycle k) h)
    accepted-by None None None (Some e) a b c d h =
        let no : Some (DepsCycle e) ≡ None = h in
        cc
    accepted-by None None None None a b c d h = record { nothing_runs = a.none refl; all_known = b.none refl; none_lacks = c.none refl; none_cyclic = d.none refl }

    by-accepted : (r u l k : Option ℕ) → HoldsLeast (Runs builds state) r → HoldsLeast (IsUnknown builds targets) u → HoldsLeast (LacksSome builds state targets) l
        → HoldsLeast (IsCyclic builds state targets) k → IsAccepted builds state targets → parts r u l k ≡ None
    by-accepted r u l k a b c d is =
        λ i. first_some (option_map StillRunning (holds-none r a is.nothing_runs i) ∷ option_map UnknownTarget (holds-none u b is.all_known i) ∷ lacking_at builds state (holds-none l c is.none_lacks i)
        ∷ option_map DepsCycle (holds-none k d is.none_cyclic i) ∷ [])

pub refusals-are-first : RefusalsAreFirst
unfolding plan_refusal
refusals-are-first = record {
  refused = λ manifest state targets refusal.
      let all = targets_or manifest.defaults targets in
      let builds = manifest.builds in (
        refused-by builds state all _ _ _ _ (running-holds builds state) (unknown-holds builds state all) (lacking-holds builds state all) (cyclic-holds builds state all) refusal,
        by-refused builds state all _ _ _ _ (running-holds builds state) (unknown-holds builds state all) (lacking-holds builds state all) (cyclic-holds builds state all),
      );
  accepted = λ manifest state targets.
      let all = targets_or manifest.defaults targets in
      let builds = manifest.builds in (
        accepted-by builds state all _ _ _ _ (running-holds builds state) (unknown-holds builds state all) (lacking-holds builds state all) (cyclic-holds builds state all),
        by-accepted builds state all _ _ _ _ (running-holds builds state) (unknown-holds builds state all) (lacking-holds builds state all) (cyclic-holds builds state all),
      );
}

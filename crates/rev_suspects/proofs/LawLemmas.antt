-- A suspect and the command that failed can run in any order.
use Rattle.std.proofs.Common.{◌≡◌, ◌≢◌, ℕ, ◌<◌, suc, ◌==◌, Bool, true, false, not, ◌&&◌, List, [], ◌∷◌, ◌++◌, length, get_or, Contains, refl, sym, ap, subst, ◌∙◌, arith, true≢false, append_assoc}
use Rattle.std.specs.List.{list_any}
use Rattle.std.specs.Prelude.{is_none}
use Rattle.std.proofs.lemmas.Bool.{eq-eqb}
use Rattle.std.proofs.lemmas.List.Elements.{Contains-get_or}
use Rattle.rev_causal.specs.Machine.{Legal, run}
use Rattle.rev_causal.proofs.Runs as Runs
use Rattle.rev_cells.specs.State.{State, mark_of, stamp_of}
use Rattle.rev_events.specs.declared.event.Event.TheVariants.{Plan}
use Rattle.rev_events.specs.Machine.{after}
use Rattle.rev_events.specs.Refusal.{is_settled}
use Rattle.rev_footprint.specs.Machine.{machine}
use Rattle.rev_graph.specs.Graph.{GraphValue, IsGraph, build_at, inputs_of, outputs_of, producer_of, rank_at}
use Rattle.rev_graph.proofs.ProducerLemmas.{producer-only}
use Rattle.rev_history.specs.Timeline.{Numbered}
use Rattle.rev_waits.specs.Waits.{Waits, waits}
use Rattle.rev_races.specs.Laws.{HasSourcesAlone}
use Rattle.rev_races.specs.Races.{names}
use Rattle.rev_races.proofs.Alone as alone
use Rattle.rev_races.proofs.FromNothing as nothing
use Rattle.rev_races.proofs.RaceLemmas.{waits-is-decided}
use Rattle.rev_suspects.specs.Laws.{CanEndBefore, SuspectsAreInAnyOrder}
use Rattle.rev_suspects.specs.Suspects.{is_at}

-- TESTS
pub left-of : (a b : Bool) → (a && b) ≡ true → a ≡ true
left-of true b h = refl
left-of false b h = h

pub right-of : (a b : Bool) → (a && b) ≡ true → b ≡ true
right-of true b h = h
right-of false b h = absurd (true≢false (sym h))

not-true : (b : Bool) → not b ≡ true → b ≡ false
not-true true h = sym h
not-true false h = refl

module _ (graph : GraphValue) (is : IsGraph graph) (a b : ℕ) (in_a : a < length graph.manifest.builds) (in_b : b < length graph.manifest.builds)
    (plain_a : (build_at graph.manifest.builds a).phony ≡ false) (plain_b : (build_at graph.manifest.builds b).phony ≡ false)
    (others : b ≢ a) (forth : Waits graph.manifest.builds b a → ⊥) (back : Waits graph.manifest.builds a b → ⊥) where
  of-a : Contains (outputs_of (build_at graph.manifest.builds a)) (get_or (outputs_of (build_at graph.manifest.builds a)) 0 [])
  of-a = Contains-get_or (outputs_of (build_at graph.manifest.builds a)) 0 [] (nothing.some-output graph is a in_a)

  of-b : Contains (outputs_of (build_at graph.manifest.builds b)) (get_or (outputs_of (build_at graph.manifest.builds b)) 0 [])
  of-b = Contains-get_or (outputs_of (build_at graph.manifest.builds b)) 0 [] (nothing.some-output graph is b in_b)

  sourced : (x : ℕ) (path : List ℕ) → Contains (inputs_of (build_at graph.manifest.builds x)) path → is_none (producer_of graph.manifest.builds path) ≡ true
      → stamp_of (nothing.opening_of graph.manifest.builds) path ≡ 1
  sourced x path h none = nothing.opening-stamped graph.manifest.builds x path h none

  lonely : HasSourcesAlone graph.manifest.builds (nothing.opening_of graph.manifest.builds)
  lonely = nothing.opening-alone graph.manifest.builds

  end-before : CanEndBefore graph.manifest b a
  end-before =
      let builds = graph.manifest.builds in
      let pa : List ℕ = get_or (outputs_of (build_at graph.manifest.builds a)) 0 [] in
      let pb : List ℕ = get_or (outputs_of (build_at graph.manifest.builds b)) 0 [] in
      let s : State = nothing.opening_of graph.manifest.builds in
      let t : State = after graph.manifest (nothing.opening_of graph.manifest.builds) (Plan (pa ∷ pb ∷ [])) in
      let accepted = nothing.plan-accepted graph is s lonely sourced a b in_a in_b pa pb of-a of-b in
      let ready = nothing.ready graph is s lonely sourced a b in_a in_b pa pb of-a of-b in
      let wanted_a = nothing.is-wanted graph is s lonely sourced a b in_a in_b pa pb of-a of-b a pa in_a (Contains-get_or (pa ∷ pb ∷ []) 0 [] (omega arith)) of-a plain_a in
      let wanted_b = nothing.is-wanted graph is s lonely sourced a b in_a in_b pa pb of-a of-b b pb in_b (Contains-get_or (pa ∷ pb ∷ []) 1 [] (omega arith)) of-b plain_b in
      let ends = alone.ends graph.manifest is.single graph.ranks is.ranked (suc (rank_at graph.ranks a)) t a pa (producer-only builds pa a is.single of-a) (omega arith) ready in
      let u : State = run (machine graph.manifest 1) t ends.events in
      let w = alone.waiting-is-enough graph u b is ends.ready in_b plain_b (ends.keeps b others back ∙ wanted_b) in
      let whole : run (machine graph.manifest 1) t (ends.events ++ w.before) ≡ run (machine graph.manifest 1) u w.before = Runs.run-append (machine graph.manifest 1) t ends.events w.before in
      record {
        opening = s;
        from_nothing = lonely;
        plan = Plan (pa ∷ pb ∷ []);
        before = ends.events ++ w.before;
        n = w.n;
        e = w.e;
        legal = (
          accepted,
          subst (λ (es : Numbered). Legal (machine graph.manifest 1) t es) (sym (append_assoc ends.events w.before ((w.n, w.e) ∷ [])))
              (alone.legal-append graph.manifest is.single t ends.events (w.before ++ (w.n, w.e) ∷ []) ends.legal w.legal),
        );
        planned = refl;
        wanted = wanted_a;
        begins = w.begins;
        ended = ap (λ v. is_settled (mark_of v a)) whole ∙ ap is_settled (w.apart a forth) ∙ ends.ended;
      }

pub suspects-are-in-any-order : SuspectsAreInAnyOrder
suspects-are-in-any-order graph files s failed progress edge is in_b plain_b in_a suspect =
    let builds = graph.manifest.builds in
    let h5 = left-of ((((not (build_at builds edge).phony && not (edge == failed)) && not (waits builds failed edge)) && not (waits builds edge failed)) && is_at progress (mark_of s edge)) (not (list_any (names graph.manifest edge) files)) suspect in
    let h4 = left-of (((not (build_at builds edge).phony && not (edge == failed)) && not (waits builds failed edge)) && not (waits builds edge failed)) (is_at progress (mark_of s edge)) h5 in
    let h3 = left-of ((not (build_at builds edge).phony && not (edge == failed)) && not (waits builds failed edge)) (not (waits builds edge failed)) h4 in
    let h2 = left-of (not (build_at builds edge).phony && not (edge == failed)) (not (waits builds failed edge)) h3 in
    let no_back : waits builds edge failed ≡ false = not-true (waits builds edge failed) (right-of ((not (build_at builds edge).phony && not (edge == failed)) && not (waits builds failed edge)) (not (waits builds edge failed)) h4) in
    let no_forth : waits builds failed edge ≡ false = not-true (waits builds failed edge) (right-of (not (build_at builds edge).phony && not (edge == failed)) (not (waits builds failed edge)) h3) in
    let apart : (edge == failed) ≡ false = not-true (edge == failed) (right-of (not (build_at builds edge).phony) (not (edge == failed)) h2) in
    let plain_a : (build_at builds edge).phony ≡ false = not-true (build_at builds edge).phony (left-of (not (build_at builds edge).phony) (not (edge == failed)) h2) in
    let forth : Waits builds failed edge → ⊥ = λ way. true≢false (sym ((waits-is-decided builds failed edge).1 way) ∙ no_forth) in
    let back : Waits builds edge failed → ⊥ = λ way. true≢false (sym ((waits-is-decided builds edge failed).1 way) ∙ no_back) in
    record {
      late = (nothing.exact-from-nothing graph edge failed is in_a in_b plain_a plain_b).0 forth;
      early = end-before graph is edge failed in_a in_b plain_a plain_b (λ e. true≢false (sym (eq-eqb edge failed (sym e)) ∙ apart)) forth back;
    }

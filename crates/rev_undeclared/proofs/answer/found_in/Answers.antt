use Rattle.std.proofs.Common.{◌≡◌, ◌<◌, ◌^◌, ℕ, List, Some, get_or, length, map, Contains, ◌⊎◌, inl, inr, refl, sym, ap, subst, ◌∙◌, arith}
use Rattle.std.specs.Prelude.{All, ◌↔◌}
use Rattle.std.specs.Global.{Vec}
use Rattle.std.specs.List.Sorted.{IsStrictlySortedBy}
use Rattle.std.specs.Ordering.{nat_cmp}
use Rattle.std.specs.Cmp.Lexicographic.{slice_cmp}
use Rattle.std.proofs.lemmas.Bool.{cases_eq}
use Rattle.std.proofs.lemmas.List.{get_or_default, length-map}
use Rattle.rev_graph.proofs.GraphLemmas.{producer_of-within}
use Rattle.rev_graph.specs.Graph.{producer_of}
use Rattle.rev_ranks.specs.Graph.{Steps, graph_of}
use Rattle.rev_observed.specs.CommandValues.{CommandValue}
use Rattle.rev_conflicts.specs.Conflicts.{Ran}
use Rattle.rev_conflicts.specs.Tables.{scene}
use Rattle.rev_conflicts.proofs.NumberLemmas.{none-in}
use Rattle.rev_undeclared.specs.declared.kind.Undeclared.{Undeclared}
use Rattle.rev_undeclared.specs.Answer.{undeclared_key}
use Rattle.rev_undeclared.specs.Undeclared.{path_at}
use Rattle.rev_undeclared.specs.Tables.{AreFound, AreLeft, IsAnothersWhere, IsFound, IsLookWhere}
use Rattle.rev_undeclared.proofs.AnswerLemmas.{anothers-found, are-found, found-key, keys-fit, left-each, left-of, left-within, look-found, ok-both}
use Rattle.rev_undeclared.proofs.answer.found_in.Goals as goal

pub add_anothers-requires-clause-each : goal.add_anothers-requires-clause-each
add_anothers-requires-clause-each c = ap length c.deref.ensures.value ∙ left-each c.args.paths.now c.args.hidden.now c.args.builds.now c.args.early.now c.args.commands.now c.args.edges.now c.in_ok-lists.lists.items c.in_ok-left.left.lists.items c.in_ok-left.ensures.lists c.in_ok-lists.ensures

pub add_anothers-requires-clause-within : goal.add_anothers-requires-clause-within
add_anothers-requires-clause-within c =
    subst (λ (ls : List (Vec ℕ)). All (λ (v : Vec ℕ). All (λ n. n < length c.args.edges.now) v.items) ls) (sym c.deref.ensures.value)
    (left-within c.args.paths.now c.args.hidden.now c.args.builds.now c.args.early.now c.args.commands.now c.args.edges.now c.in_ok-lists.lists.items c.in_ok-left.left.lists.items c.in_ok-left.ensures.lists c.in_ok-lists.ensures c.requires.each)

pub add_looks-requires-clause-each : goal.add_looks-requires-clause-each
add_looks-requires-clause-each c = left-each c.args.paths.now c.args.hidden.now c.args.builds.now c.args.early.now c.args.commands.now c.args.edges.now c.in_ok-lists.lists.items c.in_ok-left.left.lists.items c.in_ok-left.ensures.lists c.in_ok-lists.ensures

pub add_looks-requires-clause-within : goal.add_looks-requires-clause-within
add_looks-requires-clause-within c = left-within c.args.paths.now c.args.hidden.now c.args.builds.now c.args.early.now c.args.commands.now c.args.edges.now c.in_ok-lists.lists.items c.in_ok-left.left.lists.items c.in_ok-left.ensures.lists c.in_ok-lists.ensures c.requires.each

pub loop-number-init : goal.loop-number-init
loop-number-init c =
    let all : (k : List ℕ) → Contains c.add_anothers.new.found k ↔ (Contains c.new-found.result k ⊎ IsAnothersWhere c.args.graph.now.manifest.builds c.args.paths.now c.args.edges.now c.args.stronger.now (graph_of c.in_ok-left.left.lists.items) (length c.args.paths.now) k) = λ k.
    subst (λ (ls : List (Vec ℕ)). Contains c.add_anothers.new.found k ↔ (Contains c.new-found.result k ⊎ IsAnothersWhere c.args.graph.now.manifest.builds c.args.paths.now c.args.edges.now c.args.stronger.now (graph_of ls) (length c.args.paths.now) k)) c.deref.ensures.value (c.in_ok-add_anothers.ensures k) in
    record {
      sound = λ k h. elim ((all k).0 h) [
        | inl old ↦ absurd (none-in k (subst (λ (ks : List (List ℕ)). Contains ks k) c.new-found.ensures old))
        | inr a ↦ anothers-found (scene c.args.graph.now.manifest.builds c.args.files.now c.args.paths.now c.args.commands.now c.args.edges.now c.args.hidden.now) c.args.builds.now c.args.early.now c.args.stronger.now (graph_of c.in_ok-left.left.lists.items) c.requires.early (left-of c.args.paths.now c.args.hidden.now c.args.builds.now c.args.early.now c.args.commands.now c.args.edges.now c.in_ok-lists.lists.items c.in_ok-left.left.lists.items c.in_ok-left.ensures.lists c.in_ok-lists.ensures) k a
      ];
      anothers = λ k a. (all k).1 (inr a);
      looks = λ i used k below at look. absurd (omega (arith, below));
    }

pub loop-number-preserved : goal.loop-number-preserved
loop-number-preserved c =
    let n = c.loop-number.number in
    let command = c.index-commands-number.result in
    let ran : Ran (scene c.args.graph.now.manifest.builds c.args.files.now c.args.paths.now c.args.commands.now c.args.edges.now c.args.hidden.now) c.loop-number.number (get_or c.args.edges.now c.loop-number.number 0) c.index-commands-number.result = record { within = c.loop-number-test.true; is = sym c.index-commands-number.is; of = refl } in
    record {
      sound = λ k h. elim (c.in_ok-add_looks.ensures.sound k h) [
        | inl old ↦ c.loop-number.invariant.sound k old
        | inr new ↦ look-found (scene c.args.graph.now.manifest.builds c.args.files.now c.args.paths.now c.args.commands.now c.args.edges.now c.args.hidden.now) c.args.builds.now c.args.early.now c.args.stronger.now (graph_of c.in_ok-left.left.lists.items) c.requires.early (left-of c.args.paths.now c.args.hidden.now c.args.builds.now c.args.early.now c.args.commands.now c.args.edges.now c.in_ok-lists.lists.items c.in_ok-left.left.lists.items c.in_ok-left.ensures.lists c.in_ok-lists.ensures) (get_or c.args.edges.now n 0) n command k ran new
      ];
      anothers = λ k a. c.in_ok-add_looks.ensures.stays k (c.loop-number.invariant.anothers k a);
      looks = λ i used k below at look. elim (cases_eq i n) [
        | inl same ↦
            let is : used ≡ c.index-commands-number.result = sym at ∙ ap (λ j. get_or c.args.commands.now j used) same ∙ get_or_default c.args.commands.now n used command c.loop-number-test.true ∙ sym c.index-commands-number.is in
            c.in_ok-add_looks.ensures.whole k
            (subst (λ (x : CommandValue). IsLookWhere c.args.graph.now.manifest.builds c.args.paths.now c.args.edges.now c.args.stronger.now (graph_of c.in_ok-left.left.lists.items) (get_or c.args.edges.now n 0) n x (λ path. path < length c.args.paths.now) k) is
            (subst (λ j. IsLookWhere c.args.graph.now.manifest.builds c.args.paths.now c.args.edges.now c.args.stronger.now (graph_of c.in_ok-left.left.lists.items) (get_or c.args.edges.now j 0) j used (λ path. path < length c.args.paths.now) k) same look))
        | inr other ↦ c.in_ok-add_looks.ensures.stays k (c.loop-number.invariant.looks i used k (omega (arith, below, other)) at look)
      ];
    }

pub into_told-requires : goal.into_told-requires
into_told-requires c =
    let few = c.edges-edges.ensures.graph.few in
    let small : length c.args.graph.now.manifest.builds < 2 ^ 32 = omega (arith, few) in
    keys-fit (scene c.args.graph.now.manifest.builds c.args.files.now c.args.paths.now c.args.commands.now c.args.edges.now c.args.hidden.now) c.args.builds.now c.args.early.now c.args.stronger.now (graph_of c.in_ok-left.left.lists.items) c.requires.early (left-of c.args.paths.now c.args.hidden.now c.args.builds.now c.args.early.now c.args.commands.now c.args.edges.now c.in_ok-lists.lists.items c.in_ok-left.left.lists.items c.in_ok-left.ensures.lists c.in_ok-lists.ensures) (length c.args.graph.now.manifest.builds) c.loop-number.found c.requires.edges c.requires.each small
    (λ path owner h. let w = producer_of-within (path_at c.args.paths.now path) c.args.graph.now.manifest.builds owner h in omega (arith, w, small)) c.loop-number.invariant.sound

pub returns : goal.returns
returns c =
    ok-both (λ (us : Vec Undeclared). map undeclared_key us.items ≡ c.loop-number.found) (λ (us : Vec Undeclared). IsStrictlySortedBy (slice_cmp nat_cmp) (map undeclared_key us.items))
    (λ (us : Vec Undeclared). AreFound (scene c.args.graph.now.manifest.builds c.args.files.now c.args.paths.now c.args.commands.now c.args.edges.now c.args.hidden.now) c.args.builds.now c.args.stronger.now us.items)
    (λ us keys rising. are-found (scene c.args.graph.now.manifest.builds c.args.files.now c.args.paths.now c.args.commands.now c.args.edges.now c.args.hidden.now) c.args.builds.now c.args.early.now c.args.stronger.now (graph_of c.in_ok-left.left.lists.items) c.requires.early (left-of c.args.paths.now c.args.hidden.now c.args.builds.now c.args.early.now c.args.commands.now c.args.edges.now c.in_ok-lists.lists.items c.in_ok-left.left.lists.items c.in_ok-left.ensures.lists c.in_ok-lists.ensures) c.loop-number.found us.items c.loop-number.invariant.sound
    (λ u f. found-key (scene c.args.graph.now.manifest.builds c.args.files.now c.args.paths.now c.args.commands.now c.args.edges.now c.args.hidden.now) c.args.builds.now c.args.early.now c.args.stronger.now (graph_of c.in_ok-left.left.lists.items) c.requires.early (left-of c.args.paths.now c.args.hidden.now c.args.builds.now c.args.early.now c.args.commands.now c.args.edges.now c.in_ok-lists.lists.items c.in_ok-left.left.lists.items c.in_ok-left.ensures.lists c.in_ok-lists.ensures) (Contains c.loop-number.found (undeclared_key u)) u f (c.loop-number.invariant.anothers (undeclared_key u))
    (λ used_by used ran look. let w = ran.within in c.loop-number.invariant.looks used_by used (undeclared_key u) (omega (arith, w, c.loop-number-test.false, c.loop-number.auto.number-end)) ran.is
    (subst (λ e. IsLookWhere c.args.graph.now.manifest.builds c.args.paths.now c.args.edges.now c.args.stronger.now (graph_of c.in_ok-left.left.lists.items) e used_by used (λ path. path < length c.args.paths.now) (undeclared_key u)) (sym ran.of) look))) keys rising)
    c.into_told.result c.into_told.ensures.keys c.into_told.ensures.rising

use Rattle.std.proofs.Common.{◌≡◌, ◌+◌, ◌<◌, true, false, List, ℕ, length, Contains, refl, sym, ap, subst, ◌∙◌}
use Rattle.std.specs.Prelude.{All, ◌↔◌}
use Rattle.std.specs.Global.{Vec}
use Rattle.std.proofs.lemmas.List.{length-map}
use Rattle.rev_ranks.specs.Graph.{graph_of}
use Rattle.rev_undeclared.proofs.AnswerLemmas.{ok-more}
use Rattle.rev_unlisted.specs.Follows.{follow_lists}
use Rattle.rev_unlisted.specs.Found.{AreKeys, IsFollow, IsKeyBelow, names_of}
use Rattle.rev_unlisted.proofs.MakerLemmas.{makers-inside}
use Rattle.rev_unlisted.proofs.AnswerLemmas.{keys-below, led-is}
use Rattle.rev_unlisted.proofs.answer.found_by_ways.Goals as goal

pub found_of-requires-clause-files : goal.found_of-requires-clause-files
found_of-requires-clause-files c =
    let many : length c.deref-3.result.now ≡ length c.args.paths.now = ap (λ (l : List (Vec ℕ)). length l) c.deref-3.ensures.value ∙ c.in_ok-makers.ensures.each in
    subst (λ m. All (λ (v : Vec ℕ). All (λ p. p < m) v.items) c.args.reads.now) (sym many) c.requires.files

pub found_of-requires-clause-makers : goal.found_of-requires-clause-makers
found_of-requires-clause-makers c =
    subst (λ (ls : List (Vec ℕ)). All (λ (v : Vec ℕ). All (λ e. e < length c.args.graph.now.manifest.builds) v.items) ls) (sym c.deref-3.ensures.value)
    (makers-inside c.args.graph.now.manifest.builds c.args.paths.now c.args.commands.now c.args.edges.now c.in_ok-makers.makers.items c.requires.edges c.requires.commands c.in_ok-makers.ensures.each c.in_ok-makers.ensures.exact)

pub found_of-requires-clause-steps : goal.found_of-requires-clause-steps
found_of-requires-clause-steps c =
    let many : length c.deref-3.result.now ≡ length c.args.paths.now = ap (λ (l : List (Vec ℕ)). length l) c.deref-3.ensures.value ∙ c.in_ok-makers.ensures.each in
    subst (λ m. IsFollow (length c.args.graph.now.manifest.builds + m) c.deref.result.now) (sym many)
    (subst (λ (ls : List (Vec ℕ)). IsFollow (length c.args.graph.now.manifest.builds + length c.args.paths.now) ls) (sym c.deref.ensures.value) c.in_ok-all.ensures.nodes)

pub found_of-requires-clause-sure_steps : goal.found_of-requires-clause-sure_steps
found_of-requires-clause-sure_steps c =
    let many : length c.deref-3.result.now ≡ length c.args.paths.now = ap (λ (l : List (Vec ℕ)). length l) c.deref-3.ensures.value ∙ c.in_ok-makers.ensures.each in
    subst (λ m. IsFollow (length c.args.graph.now.manifest.builds + m) c.deref-2.result.now) (sym many)
    (subst (λ (ls : List (Vec ℕ)). IsFollow (length c.args.graph.now.manifest.builds + length c.args.paths.now) ls) (sym c.deref-2.ensures.value) c.in_ok-sure.ensures.nodes)

pub found_of-requires-clause-met_led : goal.found_of-requires-clause-met_led
found_of-requires-clause-met_led c =
    led-is c.in_ok-all.all.steps.items c.deref.result.now (length c.args.graph.now.manifest.builds) (length c.args.graph.now.manifest.builds) c.in_ok-all.all.led.items c.deref-4.result.now (sym c.deref.ensures.value) refl (sym c.deref-4.ensures.value) c.in_ok-all.ensures.led

pub found_of-requires-clause-sure_led : goal.found_of-requires-clause-sure_led
found_of-requires-clause-sure_led c =
    led-is c.in_ok-sure.sure.steps.items c.deref-2.result.now (length c.args.graph.now.manifest.builds) (length c.args.graph.now.manifest.builds) c.in_ok-sure.sure.led.items c.deref-5.result.now (sym c.deref-2.ensures.value) refl (sym c.deref-5.ensures.value) c.in_ok-sure.ensures.led

pub returns : goal.returns
returns c =
    let builds = c.args.graph.now.manifest.builds in
    let lists = names_of c.args.lists.now in
    let paths = c.args.paths.now in
    let reads = c.args.reads.now in
    ok-more (λ (keys : List (List ℕ)). (k : List ℕ) → Contains keys k ↔ IsKeyBelow (length c.args.graph.now.manifest.builds) (graph_of c.deref.result.now) (graph_of c.deref-2.result.now) (graph_of c.deref-3.result.now) c.args.edges.now (graph_of c.args.reads.now) (length c.args.reads.now) k)
    (λ (keys : List (List ℕ)). AreKeys c.args.graph.now.manifest.builds (names_of c.args.lists.now) c.args.paths.now c.args.commands.now c.args.edges.now (graph_of c.args.reads.now) keys)
    (λ keys are. record {
      makers = graph_of c.in_ok-makers.makers.items;
      makers_are = c.in_ok-makers.ensures.exact;
      exact = λ k. keys-below (length builds) (graph_of c.deref.result.now) (follow_lists builds lists paths false) (graph_of c.deref-2.result.now) (follow_lists builds lists paths true) (graph_of c.deref-3.result.now) (graph_of c.in_ok-makers.makers.items) c.args.edges.now
          (graph_of reads) (graph_of reads) (length reads) (length (graph_of reads)) k (ap graph_of c.deref.ensures.value ∙ c.in_ok-all.ensures.steps) (ap graph_of c.deref-2.ensures.value ∙ c.in_ok-sure.ensures.steps) (ap graph_of c.deref-3.ensures.value) refl
          (sym (length-map reads (λ (v : Vec ℕ). v.items))) (are k);
    })
    c.found_of.result c.found_of.ensures

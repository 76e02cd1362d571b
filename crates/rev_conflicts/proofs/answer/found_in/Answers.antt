use Rattle.std.proofs.Common.{◌≡◌, ℕ, ◌<◌, ◌^◌, true, List, length, get_or, map, Contains, inl, inr, refl, sym, ap, subst, ◌∙◌, arith, rules}
use Rattle.std.specs.Global.{Vec}
use Rattle.std.specs.List.Sorted.{IsStrictlySortedBy}
use Rattle.std.specs.Ordering.{nat_cmp}
use Rattle.std.specs.Cmp.Lexicographic.{slice_cmp}
use Rattle.std.proofs.lemmas.Bool.{cases_eq}
use Rattle.std.proofs.lemmas.List.{get_or_default}
use Rattle.rev_ranks.specs.Graph.{Steps, graph_of}
use Rattle.rev_races.proofs.KeyLemmas.{ok-both}
use Rattle.rev_observed.specs.CommandValues.{CommandValue}
use Rattle.rev_conflicts.specs.declared.place.Place.{Place}
use Rattle.rev_conflicts.specs.declared.told.Told.{Told}
use Rattle.rev_conflicts.specs.Tables.{AreMet, AreTouched, IsKeyAt, told_key, uses_at}
use Rattle.rev_conflicts.proofs.AnswerLemmas.{along-all, are-met, keys-fit, place-below}
use Rattle.rev_conflicts.proofs.TableLemmas.{files-within, folders-within, lists-within}
use Rattle.rev_conflicts.proofs.answer.found_in.Goals as goal

pub bounds-commands-place : goal.bounds-commands-place
bounds-commands-place c =
    place-below c.in_ok-numbers.numbers.items c.deref-number-items.result.now (length c.args.edges.now) (length c.args.commands.now) c.loop-number.number-index c.in_ok-numbers.ensures c.deref-number-items.ensures.value c.requires.each
    c.loop-number-test.true

pub offset_bounds-commands-place : goal.offset_bounds-commands-place
offset_bounds-commands-place c =
    let lt : get_or c.deref-number-items.result.now c.loop-number.number-index 0 < length c.args.commands.now =
    place-below c.in_ok-numbers.numbers.items c.deref-number-items.result.now (length c.args.edges.now) (length c.args.commands.now) c.loop-number.number-index c.in_ok-numbers.ensures c.deref-number-items.ensures.value c.requires.each
    c.loop-number-test.true in
    first_of (search rules, omega (arith, lt), grind (arith, lt))

pub add_of-requires-clause-used : goal.add_of-requires-clause-used
add_of-requires-clause-used c =
    let below : get_or c.deref-number-items.result.now c.loop-number.number-index 0 < length c.args.commands.now =
    place-below c.in_ok-numbers.numbers.items c.deref-number-items.result.now (length c.args.edges.now) (length c.args.commands.now) c.loop-number.number-index c.in_ok-numbers.ensures c.deref-number-items.ensures.value c.requires.each
    c.loop-number-test.true in
    omega (arith, below, c.requires.each)

pub add_of-requires-clause-files : goal.add_of-requires-clause-files
add_of-requires-clause-files c =
    let fe : c.in_ok-files-2.files.lists.items ≡ c.in_ok-files.field-0.files.items =
    first_of (assumption (c.in_ok-files-2.ensures.lists), cc (c.in_ok-files-2.ensures.lists, ap (λ (v : Vec (Vec ℕ)). v.items) c.in_ok-files.files-is)) in
    let are : AreTouched c.args.paths.now c.args.hidden.now c.args.commands.now (graph_of c.in_ok-files.field-0.files.items) (graph_of c.in_ok-files.field-0.folders.items) = c.in_ok-files.ensures in
    lists-within c.in_ok-files-2.files.lists.items (length c.args.edges.now) (λ p d h.
    let below = files-within c.args.paths.now c.args.hidden.now c.args.commands.now (graph_of c.in_ok-files.field-0.files.items) (graph_of c.in_ok-files.field-0.folders.items) are p d
    (subst (λ (ls : List (Vec ℕ)). Steps (graph_of ls) p d) fe h) in
    omega (arith, below, c.requires.each))

pub add_of-requires-clause-folders : goal.add_of-requires-clause-folders
add_of-requires-clause-folders c =
    let ge : c.in_ok-folders.folders.lists.items ≡ c.in_ok-files.field-0.folders.items =
    first_of (assumption (c.in_ok-folders.ensures.lists), cc (c.in_ok-folders.ensures.lists, ap (λ (v : Vec (Vec ℕ)). v.items) c.in_ok-files.folders-is)) in
    let are : AreTouched c.args.paths.now c.args.hidden.now c.args.commands.now (graph_of c.in_ok-files.field-0.files.items) (graph_of c.in_ok-files.field-0.folders.items) = c.in_ok-files.ensures in
    lists-within c.in_ok-folders.folders.lists.items (length c.args.edges.now) (λ p d h.
    let below = folders-within c.args.paths.now c.args.hidden.now c.args.commands.now (graph_of c.in_ok-files.field-0.files.items) (graph_of c.in_ok-files.field-0.folders.items) are p d
    (subst (λ (ls : List (Vec ℕ)). Steps (graph_of ls) p d) ge h) in
    omega (arith, below, c.requires.each))

pub loop-number-preserved : goal.loop-number-preserved
loop-number-preserved c =
    let n = c.loop-number.number-index in
    let items = c.deref-number-items.result.now in
    let number = get_or c.deref-number-items.result.now c.loop-number.number-index 0 in
    let below : get_or c.deref-number-items.result.now c.loop-number.number-index 0 < length c.args.commands.now =
    place-below c.in_ok-numbers.numbers.items c.deref-number-items.result.now (length c.args.edges.now) (length c.args.commands.now) c.loop-number.number-index c.in_ok-numbers.ensures c.deref-number-items.ensures.value c.requires.each
    c.loop-number-test.true in
    let command = c.index-commands-place.result in
    record {
      direct = c.in_ok-add_of.ensures.direct;
      kept = c.in_ok-add_of.ensures.kept;
      sound = λ k h. elim (c.in_ok-add_of.ensures.sound k h) [
        | inl old ↦ c.loop-number.invariant.sound k old
        | inr key ↦ record { number = number; below = below; holds = key }
      ];
      whole = λ j less place k used at uses key. elim (cases_eq j n) [
        | inl same ↦
            let is : used ≡ c.index-commands-place.result =
            sym at ∙ ap (λ m. get_or c.args.commands.now (get_or items m 0) used) same ∙ get_or_default c.args.commands.now number used command below ∙ sym c.index-commands-place.is in
            c.in_ok-add_of.ensures.whole place k (subst (λ x. uses_at x place ≡ true) is uses)
            (subst (λ m. IsKeyAt c.args.graph.now.manifest.builds c.args.early.now c.args.edges.now (graph_of c.in_ok-files-2.files.lists.items) (graph_of c.in_ok-folders.folders.lists.items) (get_or items m 0) place k) same key)
        | inr other ↦ c.in_ok-add_of.ensures.stays k (c.loop-number.invariant.whole j (omega (arith, less, other)) place k used at uses key)
      ];
    }

pub into_told-requires : goal.into_told-requires
into_told-requires c =
    let few = c.edges.ensures.graph.few in
    let small : length c.args.graph.now.manifest.builds < 2 ^ 32 = omega (arith, few) in
    keys-fit c.args.graph.now.manifest.builds c.args.early.now c.args.edges.now c.args.paths.now c.args.hidden.now c.args.commands.now (graph_of c.in_ok-files-2.files.lists.items)
    (graph_of c.in_ok-folders.folders.lists.items) (length c.args.commands.now) (length c.args.graph.now.manifest.builds) c.loop-number.found c.requires.edges small c.loop-number.invariant.sound

pub returns : goal.returns
returns c =
    let fe : c.in_ok-files-2.files.lists.items ≡ c.in_ok-files.field-0.files.items =
    first_of (assumption (c.in_ok-files-2.ensures.lists), cc (c.in_ok-files-2.ensures.lists, ap (λ (v : Vec (Vec ℕ)). v.items) c.in_ok-files.files-is)) in
    let ge : c.in_ok-folders.folders.lists.items ≡ c.in_ok-files.field-0.folders.items =
    first_of (assumption (c.in_ok-folders.ensures.lists), cc (c.in_ok-folders.ensures.lists, ap (λ (v : Vec (Vec ℕ)). v.items) c.in_ok-files.folders-is)) in
    let P = c.args.paths.now in
    let H = c.args.hidden.now in
    let C = c.args.commands.now in
    let all : c.loop-number.number-index ≡ length c.deref-number-items.result.now = omega (arith, c.loop-number-test.false, c.loop-number.auto.number-index-end) in
    let one : AreTouched c.args.paths.now c.args.hidden.now c.args.commands.now (graph_of c.in_ok-files.field-0.files.items) (graph_of c.in_ok-files.field-0.folders.items) = c.in_ok-files.ensures in
    let are : AreTouched c.args.paths.now c.args.hidden.now c.args.commands.now (graph_of c.in_ok-files-2.files.lists.items) (graph_of c.in_ok-folders.folders.lists.items) =
    subst (λ (fs : List (Vec ℕ)). AreTouched P H C (graph_of fs) (graph_of c.in_ok-folders.folders.lists.items)) (sym fe)
    (subst (λ (gs : List (Vec ℕ)). AreTouched P H C (graph_of c.in_ok-files.field-0.files.items) (graph_of gs)) (sym ge) one) in
    ok-both (λ (told : Vec Told). map told_key told.items ≡ c.loop-number.found) (λ (told : Vec Told). IsStrictlySortedBy (slice_cmp nat_cmp) (map told_key told.items))
    (λ (told : Vec Told). AreMet c.args.graph.now.manifest.builds c.args.early.now c.args.edges.now P H C told.items)
    (λ told keys rising. are-met c.args.graph.now.manifest.builds c.args.early.now c.args.edges.now P H C (graph_of c.in_ok-files-2.files.lists.items) (graph_of c.in_ok-folders.folders.lists.items)
    (length c.args.commands.now) c.loop-number.found told.items refl are c.loop-number.invariant.sound
    (λ i place k used within. along-all
    (λ n. (place : Place) (k : List ℕ) (used : CommandValue) → get_or C n used ≡ used → uses_at used place ≡ true
    → IsKeyAt c.args.graph.now.manifest.builds c.args.early.now c.args.edges.now (graph_of c.in_ok-files-2.files.lists.items) (graph_of c.in_ok-folders.folders.lists.items) n place k → Contains c.loop-number.found k)
    c.in_ok-numbers.numbers.items c.deref-number-items.result.now (length c.args.edges.now) (length c.args.commands.now) c.loop-number.number-index c.in_ok-numbers.ensures c.deref-number-items.ensures.value c.requires.each all
    c.loop-number.invariant.whole i within place k used) keys rising)
    c.into_told.result c.into_told.ensures.keys c.into_told.ensures.rising

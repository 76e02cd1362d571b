use Rattle.std.proofs.Common.{◌≡◌, ◌<◌, ◌++◌, List, ℕ, [], get_or, length, sym, ap, subst, ◌∙◌, arith}
use Rattle.std.specs.Borrow.{Bor}
use Rattle.std.proofs.lemmas.List.{get_or-map}
use Rattle.rev_unlisted.specs.Follows.{counted_of}
use Rattle.rev_unlisted.specs.Found.{IsMarked, names_of}
use Rattle.rev_unlisted.proofs.MarkLemmas.{counted-all, counted-most, marked-three}
use Rattle.rev_unlisted.proofs.marking.mark_counted.Goals as goal

pub returns-clause-marks : goal.returns-clause-marks
returns-clause-marks c =
    let builds = c.args.graph.now.manifest.builds in
    let lists = names_of c.args.lists.now in
    let paths = c.args.paths.now in
    let user = c.args.user in
    let old = c.args.marks.now.items in
    let new = c.mark_names-3.new.marks.items in
    let within : c.args.user < length c.args.lists.now = omega (arith, c.requires.user, c.requires.each) in
    let here : c.index-lists-user.result.now ≡ get_or (names_of c.args.lists.now) c.args.user [] =
    ap (λ (s : Bor (List (List ℕ))). s.now) c.index-lists-user.is ∙ sym (get_or-map (λ (s : Bor (List (List ℕ))). s.now) c.args.lists.now user c.index-lists-user.result [] within) in
    let E = c.inputs-inputs.ensures in
    let all : IsMarked c.args.paths.now c.args.user (counted_of c.args.graph.now.manifest.builds (names_of c.args.lists.now) c.args.user) c.args.marks.now.items c.mark_names-3.new.marks.items =
    subst (λ (l : List (List ℕ)). IsMarked c.args.paths.now c.args.user l c.args.marks.now.items c.mark_names-3.new.marks.items) (λ i. E.explicit i ++ E.implicit i ++ here i)
    (marked-three paths user c.inputs-inputs.result.explicit.now c.inputs-inputs.result.implicit.now c.index-lists-user.result.now old c.mark_names.new.marks.items c.mark_names-2.new.marks.items new
    c.mark_names.ensures.marks c.mark_names-2.ensures.marks c.mark_names-3.ensures.marks) in
    counted-most builds lists paths user old new c.requires.marks all

pub returns-clause-exact : goal.returns-clause-exact
returns-clause-exact c =
    let builds = c.args.graph.now.manifest.builds in
    let lists = names_of c.args.lists.now in
    let paths = c.args.paths.now in
    let user = c.args.user in
    let old = c.args.marks.now.items in
    let new = c.mark_names-3.new.marks.items in
    let within : c.args.user < length c.args.lists.now = omega (arith, c.requires.user, c.requires.each) in
    let here : c.index-lists-user.result.now ≡ get_or (names_of c.args.lists.now) c.args.user [] =
    ap (λ (s : Bor (List (List ℕ))). s.now) c.index-lists-user.is ∙ sym (get_or-map (λ (s : Bor (List (List ℕ))). s.now) c.args.lists.now user c.index-lists-user.result [] within) in
    let E = c.inputs-inputs.ensures in
    let all : IsMarked c.args.paths.now c.args.user (counted_of c.args.graph.now.manifest.builds (names_of c.args.lists.now) c.args.user) c.args.marks.now.items c.mark_names-3.new.marks.items =
    subst (λ (l : List (List ℕ)). IsMarked c.args.paths.now c.args.user l c.args.marks.now.items c.mark_names-3.new.marks.items) (λ i. E.explicit i ++ E.implicit i ++ here i)
    (marked-three paths user c.inputs-inputs.result.explicit.now c.inputs-inputs.result.implicit.now c.index-lists-user.result.now old c.mark_names.new.marks.items c.mark_names-2.new.marks.items new
    c.mark_names.ensures.marks c.mark_names-2.ensures.marks c.mark_names-3.ensures.marks) in
    counted-all builds lists paths user old new c.requires.distinct c.requires.marks all

-- The reasons of an edge depend on its reason cells alone.
use Rattle.std.proofs.Common.{◌≡◌, ℕ, ◌==◌, max, not, nat_lt, Bool, true, false, ◌&&◌, List, [], ◌∷◌, ◌++◌, map, length, bytes_eq, is_none, Option, Some, None, inl, inr, refl, ap, ◌∙◌, if◌then◌else◌}
use Rattle.std.specs.List.{flat_map, filter, position}
use Rattle.rev_manifest.specs.Manifest.{BuildValue}
use Rattle.rev_graph.specs.Graph.{build_at, outputs_of, producer_of, has_path}
use Rattle.rev_cells.specs.declared.cell.Cell.{Cell}
use Rattle.rev_cells.specs.declared.cell.Cell.TheVariants as cell
use Rattle.rev_cells.specs.declared.mark.Mark.{Mark}
use Rattle.rev_cells.specs.declared.value.BuiltRecord.{BuiltRecord}
use Rattle.rev_cells.specs.declared.value.DepsRecord.{DepsRecord}
use Rattle.rev_cells.specs.State.{State, mark_of, built_of, default_or, stamp_in, mark_in, built_in, deps_in}
use Rattle.rev_causal.specs.Order.{Has}
use Rattle.rev_dirty.specs.declared.input.InputKind.{InputKind}
use Rattle.rev_dirty.specs.declared.input.InputKind.TheVariants.{OnLine, OrderOnly, Listed}
use Rattle.rev_dirty.specs.declared.reason.Reason.{Reason}
use Rattle.rev_dirty.specs.declared.reason.Reason.TheVariants as reason
use Rattle.rev_dirty.specs.Inputs.{InputValue, an, inputs, first_deps, deps_record, paths_in, counts, is_listed, paths_of, producers_in}
use Rattle.rev_dirty.specs.Reasons.{holds, holds_at, positions_in, is_missing, first_stamp, changed_outputs, is_rebuilt, is_missing_dep, counted, newest_stamp, shows, newest, recorded_stamp, effective_stamp, is_outdated, lacks_record, has_other_command, is_command_reason, is_phony_reason, is_reason, candidates, reasons_of}
use Rattle.rev_dirty.specs.Visible.{greatest, visible_stamp}
use Rattle.rev_dirty.specs.Seen.{seen_paths, stamp_cells, built_cells, producer_marks, seen_stamps, first_deps_cell, deps_cells, joined, reason_cells}
use Rattle.rev_dirty.proofs.ListLemmas.{in-front, in-back, in-map, in-flat, in-filter_map, in-filter, map-same, filter-same, position-same, holds-same}
use Rattle.rev_dirty.proofs.SeenLemmas.{Agree, SameStamps, visible-same}

-- WORDS OF CELLS THAT ARE THE SAME
pub stamps-same : (s u : State) (paths : List (List ℕ)) → Agree s u (stamp_cells paths) → SameStamps s u paths
stamps-same s u paths on path h = ap (λ o. stamp_in (default_or (cell.Stamp path) o)) (on (cell.Stamp path) (in-map cell.Stamp paths path h))

pub mark-same : (s u : State) (cells : List Cell) (edge : ℕ) → Agree s u cells → Has cells (cell.Mark edge) → mark_of u edge ≡ mark_of s edge
mark-same s u cells edge on h = ap (λ o. mark_in (default_or (cell.Mark edge) o)) (on (cell.Mark edge) h)

abbrev pub SameBuilt : State → State → List (List ℕ) → Type 0
SameBuilt s u paths = (path : List ℕ) → Has paths path → built_of u path ≡ built_of s path

pub built-same : (s u : State) (paths : List (List ℕ)) → Agree s u (built_cells paths) → SameBuilt s u paths
built-same s u paths on path h = ap (λ o. built_in (default_or (cell.Built path) o)) (on (cell.Built path) (in-map cell.Built paths path h))

first-deps-same : (s u : State) (paths : List (List ℕ)) → Agree s u (first_deps_cell paths) → first_deps u paths ≡ first_deps s paths
first-deps-same s u [] on = refl
first-deps-same s u (path ∷ paths) on = ap (λ o. deps_in (default_or (cell.Deps path) o)) (on (cell.Deps path) (inl refl))

-- an equal deps record gives equal inputs
pub record-same : (s u : State) (build : BuildValue) → Agree s u (deps_cells build) → deps_record u build ≡ deps_record s build
record-same s u build on = by build.keeps_deps on
  where
    by : (b : Bool) → Agree s u (if b then first_deps_cell (outputs_of build) else []) → (if b then first_deps u (outputs_of build) else None) ≡ (if b then first_deps s (outputs_of build) else None)
    by true on = first-deps-same s u (outputs_of build) on
    by false on = refl

pub inputs-same : (s u : State) (build : BuildValue) → Agree s u (deps_cells build) → inputs u build ≡ inputs s build
inputs-same s u build on =
    ap (λ r. map (an OnLine) (build.explicit ++ build.implicit) ++ map (an OrderOnly) build.order_only ++ map (an Listed) (paths_in r)) (record-same s u build on)

-- the marks of the producers of inputs are the same
abbrev pub SameProducers : List BuildValue → State → State → List InputValue → Type 0
SameProducers builds s u all = (input : InputValue) → Has all input → (edge : ℕ) → producer_of builds input.path ≡ Some edge → mark_of u edge ≡ mark_of s edge

pub producers-same : (builds : List BuildValue) (s u : State) (all : List InputValue) → Agree s u (producer_marks builds all) → SameProducers builds s u all
producers-same builds s u all on input h edge e =
    mark-same s u (producer_marks builds all) edge on
    (in-map cell.Mark (producers_in builds (paths_of all)) edge
    (in-filter_map (producer_of builds) (paths_of all) input.path edge (in-map (λ (i : InputValue). i.path) all input h) e))

-- a test of the mark of a producer
pub tested-same : (builds : List BuildValue) (s u : State) (input : InputValue) (test : ℕ → Mark → Bool) → ((edge : ℕ) → producer_of builds input.path ≡ Some edge → mark_of u edge ≡ mark_of s edge)
    → holds (λ edge. test edge (mark_of u edge)) (producer_of builds input.path) ≡ holds (λ edge. test edge (mark_of s edge)) (producer_of builds input.path)
tested-same builds s u input test same = by (producer_of builds input.path) same
  where
    by : (o : Option ℕ) → ((edge : ℕ) → o ≡ Some edge → mark_of u edge ≡ mark_of s edge) → holds (λ edge. test edge (mark_of u edge)) o ≡ holds (λ edge. test edge (mark_of s edge)) o
    by None same = refl
    by (Some edge) same = ap (test edge) (same edge refl)

-- the visible stamps of the inputs that count are the same
abbrev pub SameShown : List BuildValue → State → State → List InputValue → Type 0
SameShown builds s u all = (input : InputValue) → Has (counted all) input → visible_stamp builds u input.path ≡ visible_stamp builds s input.path

pub shown-same : (builds : List BuildValue) (s u : State) (all : List InputValue) → Agree s u (seen_stamps builds all) → SameShown builds s u all
shown-same builds s u all on input h =
    let paths = paths_of (counted all) in
    visible-same builds s u input.path
    (λ path at. stamps-same s u (flat_map (seen_paths builds) paths) on path (in-flat (seen_paths builds) paths input.path path (in-map (λ (i : InputValue). i.path) (counted all) input h) at))

pub newest-stamp-same : (builds : List BuildValue) (s u : State) (all : List InputValue) → SameShown builds s u all → newest_stamp builds u all ≡ newest_stamp builds s all
newest-stamp-same builds s u all shown =
    ap greatest (map-same (λ (input : InputValue). visible_stamp builds u input.path) (λ (input : InputValue). visible_stamp builds s input.path) (counted all) shown)

and-same : (b x y : Bool) → (b ≡ true → x ≡ y) → (b && x) ≡ (b && y)
and-same true x y h = h refl
and-same false x y h = refl

and-left : (a b : Bool) → (a && b) ≡ true → a ≡ true
and-left true b h = refl
and-left false b h = h

listed-counts : (kind : InputKind) → is_listed kind ≡ true → counts kind ≡ true
listed-counts OnLine h = refl
listed-counts OrderOnly h = h
listed-counts Listed h = refl

-- WHAT IS ASKED OF AN EDGE
pub record SameFacts (builds : List BuildValue) (s u : State) (build : BuildValue) : Type 0 where
  pub deps : deps_record u build ≡ deps_record s build
  pub all : inputs u build ≡ inputs s build
  pub producers : SameProducers builds s u (inputs s build)
  pub shown : SameShown builds s u (inputs s build)
  pub stamps : SameStamps s u (outputs_of build)
  pub built : SameBuilt s u (outputs_of build)

module _ (builds : List BuildValue) (s u : State) where
  pub rebuilt-same : (all : List InputValue) → SameProducers builds s u all → (input : InputValue) → Has all input → is_rebuilt builds u input ≡ is_rebuilt builds s input
  rebuilt-same all same input h =
      ap (λ b. counts input.kind && b) (tested-same builds s u input (λ edge m. has_path (changed_outputs m (outputs_of (build_at builds edge))) input.path) (same input h))

  missing-dep-same : (all : List InputValue) → SameShown builds s u all → (input : InputValue) → Has all input → is_missing_dep builds u input ≡ is_missing_dep builds s input
  missing-dep-same all shown input h =
      and-same (is_listed input.kind && is_none (producer_of builds input.path)) (visible_stamp builds u input.path == 0) (visible_stamp builds s input.path == 0)
      (λ is. ap (λ (n : ℕ). n == 0) (shown input (in-filter (λ (i : InputValue). counts i.kind) all input h
      (listed-counts input.kind (and-left (is_listed input.kind) (is_none (producer_of builds input.path)) is)))))

  newest-same : (all : List InputValue) → SameShown builds s u all → newest builds u all ≡ newest builds s all
  newest-same all shown =
      ap (λ stamp. position (shows builds u stamp) all) (newest-stamp-same builds s u all shown)
      ∙ position-same (shows builds u (newest_stamp builds s all)) (shows builds s (newest_stamp builds s all)) all
      (λ input h. and-same (counts input.kind) (visible_stamp builds u input.path == newest_stamp builds s all) (visible_stamp builds s input.path == newest_stamp builds s all)
      (λ is. ap (λ (n : ℕ). n == newest_stamp builds s all) (shown input (in-filter (λ (i : InputValue). counts i.kind) all input h is))))

  module _ (build : BuildValue) (same : SameFacts builds s u build) where
    first-same : (paths : List (List ℕ)) → SameStamps s u paths → first_stamp u paths ≡ first_stamp s paths
    first-same [] on = refl
    first-same (path ∷ paths) on = on path (inl refl)

    effective-same : (path : List ℕ) → Has (outputs_of build) path → effective_stamp u build path ≡ effective_stamp s build path
    effective-same path h = λ i. if build.restat then max (same.stamps path h i) (recorded_stamp (same.built path h i)) else same.stamps path h i

    newest-of : newest_stamp builds u (inputs u build) ≡ newest_stamp builds s (inputs s build)
    newest-of = ap (newest_stamp builds u) same.all ∙ newest-stamp-same builds s u (inputs s build) same.shown

    command-reason-same : (r : Reason) → is_command_reason builds u build r ≡ is_command_reason builds s build r
    command-reason-same (reason.Missing o) = holds-same (is_missing u) (is_missing s) (outputs_of build) o (λ path h. ap (λ (n : ℕ). n == 0) (same.stamps path h))
    command-reason-same reason.NoDeps = ap (λ (r : Option DepsRecord). build.keeps_deps && is_none r) same.deps
    command-reason-same reason.DepsOld = λ i. holds (λ (deps : DepsRecord). nat_lt deps.stamp (first-same (outputs_of build) same.stamps i)) (same.deps i)
    command-reason-same (reason.Rebuilt i) =
        ap (λ all. holds_at (is_rebuilt builds u) all i) same.all
        ∙ holds-same (is_rebuilt builds u) (is_rebuilt builds s) (inputs s build) i (rebuilt-same (inputs s build) same.producers)
    command-reason-same (reason.MissingDep i) =
        ap (λ all. holds_at (is_missing_dep builds u) all i) same.all
        ∙ holds-same (is_missing_dep builds u) (is_missing_dep builds s) (inputs s build) i (missing-dep-same (inputs s build) same.shown)
    command-reason-same (reason.Older o i) =
        let old : holds_at (is_outdated builds u build) (outputs_of build) o ≡ holds_at (is_outdated builds s build) (outputs_of build) o =
        holds-same (is_outdated builds u build) (is_outdated builds s build) (outputs_of build) o (λ path h. λ j. nat_lt (effective-same path h j) (newest-of j)) in
        let first : newest builds u (inputs u build) ≡ newest builds s (inputs s build) = ap (newest builds u) same.all ∙ newest-same (inputs s build) same.shown in
        λ j. old j && holds (λ first. first == i) (first j)
    command-reason-same (reason.NoRecord o) =
        holds-same (lacks_record u build) (lacks_record s build) (outputs_of build) o (λ path h. ap (λ (r : Option BuiltRecord). not build.generator && is_none r) (same.built path h))
    command-reason-same (reason.Command o) =
        holds-same (has_other_command u build) (has_other_command s build) (outputs_of build) o
        (λ path h. ap (λ r. not build.generator && holds (λ (built : BuiltRecord). not (bytes_eq built.command build.command)) r) (same.built path h))

    phony-reason-same : (r : Reason) → is_phony_reason u build r ≡ is_phony_reason s build r
    phony-reason-same (reason.Missing o) =
        let out : holds_at (is_missing u) (outputs_of build) o ≡ holds_at (is_missing s) (outputs_of build) o =
        holds-same (is_missing u) (is_missing s) (outputs_of build) o (λ path h. ap (λ (n : ℕ). n == 0) (same.stamps path h)) in
        λ j. (length (same.all j) == 0) && out j
    phony-reason-same reason.NoDeps = refl
    phony-reason-same reason.DepsOld = refl
    phony-reason-same (reason.Rebuilt i) = refl
    phony-reason-same (reason.MissingDep i) = refl
    phony-reason-same (reason.Older o i) = refl
    phony-reason-same (reason.NoRecord o) = refl
    phony-reason-same (reason.Command o) = refl

    is-reason-same : (r : Reason) → is_reason builds u build r ≡ is_reason builds s build r
    is-reason-same r = λ j. if build.phony then phony-reason-same r j else command-reason-same r j

    pub filtered-same : filter (is_reason builds u build) (candidates (positions_in (outputs_of build)) (positions_in (inputs u build)))
        ≡ filter (is_reason builds s build) (candidates (positions_in (outputs_of build)) (positions_in (inputs s build)))
    filtered-same =
        ap (λ all. filter (is_reason builds u build) (candidates (positions_in (outputs_of build)) (positions_in all))) same.all
        ∙ filter-same (is_reason builds u build) (is_reason builds s build) (candidates (positions_in (outputs_of build)) (positions_in (inputs s build))) is-reason-same

-- where the facts are the same so are the reasons
pub reasons-same : (builds : List BuildValue) (s u : State) (edge : ℕ) → SameFacts builds s u (build_at builds edge) → reasons_of builds u edge ≡ reasons_of builds s edge
unfolding reasons_of
reasons-same builds s u edge same = filtered-same builds s u (build_at builds edge) same

-- PARTS OF LISTS OF CELLS
part-in : (parts : List (List Cell)) (part : List Cell) → Has parts part → (c : Cell) → Has part c → Has (joined parts) c
part-in [] part h c k = absurd h
part-in (p ∷ parts) part (inl e) c k = in-front p (joined parts) c (rw e k)
part-in (p ∷ parts) part (inr h) c k = in-back p (joined parts) c (part-in parts part h c k)

pub agree-part : (s u : State) (parts : List (List Cell)) (part : List Cell) → Agree s u (joined parts) → Has parts part → Agree s u part
agree-part s u parts part on h c k = on c (part-in parts part h c k)

pub agree-front : (s u : State) (front back : List Cell) → Agree s u (front ++ back) → Agree s u front
agree-front s u front back on c h = on c (in-front front back c h)

pub agree-back : (s u : State) (front back : List Cell) → Agree s u (front ++ back) → Agree s u back
agree-back s u front back on c h = on c (in-back front back c h)

-- the reason cells decide all that is asked of an edge
pub facts : (builds : List BuildValue) (s u : State) (edge : ℕ) → Agree s u (joined (reason_cells builds s edge)) → SameFacts builds s u (build_at builds edge)
facts builds s u edge on =
    let build = build_at builds edge in
    let outs = outputs_of build in
    let all = inputs s build in
    let cells = reason_cells builds s edge in
    let deps : Agree s u (deps_cells build) = agree-part s u cells (deps_cells build) on (inr (inr (inr (inr (inl refl))))) in
    record {
      deps = record-same s u build deps;
      all = inputs-same s u build deps;
      producers = producers-same builds s u all (agree-part s u cells (producer_marks builds all) on (inl refl));
      shown = shown-same builds s u all (agree-part s u cells (seen_stamps builds all) on (inr (inl refl)));
      stamps = stamps-same s u outs (agree-part s u cells (stamp_cells outs) on (inr (inr (inl refl))));
      built = built-same s u outs (agree-part s u cells (built_cells outs) on (inr (inr (inr (inl refl)))));
    }

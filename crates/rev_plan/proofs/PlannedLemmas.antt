-- What an accepted plan leaves: the marks of its sets, and chains that end at reasons.
use Rattle.std.proofs.Common.{◌≡◌, ◌≢◌, ℕ, ◌+◌, ◌<◌, ◌≤◌, zero, suc, max, nat_eq, nat_lt, get_or, Bool, true, false, cond, not, ◌&&◌, ◌||◌, List, [], ◌∷◌, ◌++◌, length, map, filter, Contains, Option, Some, None, ◌⊎◌, inl, inr, refl, sym, ap, subst, ◌∙◌, arith, true≢false, bytes_eq, if◌then◌else◌}
use Rattle.std.specs.Prelude.{is_none, slice_get, ◌==◌}
use Rattle.std.specs.List.{list_any, filter_map, position, range_with_len}
use Rattle.std.proofs.lemmas.Option.{slice_get-get_or, get_or_from_slice_get}
use Rattle.std.proofs.lemmas.List.Elements.{Contains-push_cases, Contains-append_cases, Contains-append_right, Contains-get_or}
use Rattle.std.proofs.lemmas.List.FromFn.{get_or-map-range_with_len, length-map-range_with_len}
use Rattle.rev_manifest.specs.Manifest.{BuildValue, ManifestValue}
use Rattle.rev_graph.specs.Graph.{build_at, outputs_of, producer_of, has_path}
use Rattle.rev_graph.proofs.GraphLemmas.{producer_of-within}
use Rattle.rev_graph.proofs.StepLemmas.{only}
use Rattle.rev_cells.specs.State.{State, stamp_of, mark_of, built_of, deps_of}
use Rattle.rev_cells.specs.declared.mark.Mark.{Mark}
use Rattle.rev_cells.specs.declared.mark.Mark.TheVariants as mark
use Rattle.rev_cells.specs.declared.value.BuiltRecord.{BuiltRecord}
use Rattle.rev_cells.specs.declared.value.DepsRecord.{DepsRecord}
use Rattle.rev_dirty.specs.declared.input.InputKind.TheVariants.{OnLine, OrderOnly, Listed}
use Rattle.rev_dirty.specs.declared.reason.Reason.{Reason}
use Rattle.rev_dirty.specs.declared.reason.Reason.TheVariants as reason
use Rattle.rev_dirty.specs.Inputs.{InputValue, an, inputs, first_deps, deps_record, paths_in, paths_of, counts, is_listed, producers_in}
use Rattle.rev_dirty.specs.Reasons.{holds, holds_at, positions_in, changed_positions, changed_outputs, was_changed, is_rebuilt, counted, first_stamp, shows, recorded_stamp, is_command_reason, is_phony_reason, is_reason, candidates, reasons_of}
use Rattle.rev_dirty.specs.Visible.{greatest, visible_stamp}
use Rattle.rev_dirty.proofs.SeenLemmas.{visible-same}
use Rattle.rev_plan.specs.Chain.{ChainValue, CanGoBy, GoesBy, IsChain, IsChain.unwanted, IsChain.explained, IsChain.stuck, IsChain.stepping, step_before, ends_at, chain_of}
use Rattle.rev_plan.specs.Laws.{MarksAreOfTheSets, ChainsEndAtReasons}
use Rattle.rev_plan.specs.Least.{StepsBy, Reached, Reached.needed, Wanted, Wanted.dirty, Wanted.behind, Through, Through.near, Through.beyond, WayBy, WayBy.one_step, WayBy.then_on, IsCyclic}
use Rattle.rev_plan.specs.Options.{first_some}
use Rattle.rev_plan.specs.Plan.{edge_numbers, input_paths, counted_paths, needed_paths, is_own_reason, is_dirty, is_reached, is_wanted, is_through, mark_for, marks_of, plan_refusal, targets_or}
use Rattle.rev_plan.specs.Planned.{IsMarkOf, IsMarkOf.wanted, IsMarkOf.through, IsMarkOf.idle, LeadsTo, EndsAtReasons}
use Rattle.rev_plan.specs.Refusals.{IsAccepted}
use Rattle.rev_plan.proofs.LeastLemmas.{sets-are-least, counted-need, reached-sound}
use Rattle.rev_plan.proofs.OneChain.{chain-is}
use Rattle.rev_plan.proofs.RefusalLemmas.{refusals-are-first}

-- WHICH MARK A PLAN GIVES
module _ (builds : List BuildValue) (state : State) (targets : List (List ℕ)) (edge : ℕ) where
  mark-by : (w t : Bool) → is_wanted builds state (producers_in builds targets) edge ≡ w → is_through builds state (producers_in builds targets) edge ≡ t
      → IsMarkOf builds state targets edge (if w then mark.Wanted else if t then mark.Through else mark.Idle)
  mark-by true t h k = wanted ((sets-are-least.wanted builds state targets edge).0 h)
  mark-by false true h k = through ((sets-are-least.through builds state targets edge).0 k)
  mark-by false false h k =
      idle (λ w. true≢false (sym ((sets-are-least.wanted builds state targets edge).1 w) ∙ h)) (λ t. true≢false (sym ((sets-are-least.through builds state targets edge).1 t) ∙ k))

  pub mark-is : IsMarkOf builds state targets edge (mark_for builds state (producers_in builds targets) edge)
  mark-is = mark-by (is_wanted builds state (producers_in builds targets) edge) (is_through builds state (producers_in builds targets) edge) refl refl

  not-both : Through builds state targets edge → Wanted builds state targets edge → ⊥
  not-both (near r none s w) = none
  not-both (beyond r none s t) = none

  one-mark : {m k : Mark} → IsMarkOf builds state targets edge m → IsMarkOf builds state targets edge k → m ≡ k
  one-mark (wanted a) (wanted b) = refl
  one-mark (wanted a) (through b) = absurd (not-both b a)
  one-mark (wanted a) (idle b c) = absurd (b a)
  one-mark (through a) (wanted b) = absurd (not-both a b)
  one-mark (through a) (through b) = refl
  one-mark (through a) (idle b c) = absurd (c a)
  one-mark (idle a b) (wanted c) = absurd (a c)
  one-mark (idle a b) (through c) = absurd (b c)
  one-mark (idle a b) (idle c d) = refl

  pub wanted-mark : {m : Mark} → IsMarkOf builds state targets edge m → m ≡ mark.Wanted → Wanted builds state targets edge
  wanted-mark (wanted w) h = w
  wanted-mark (through t) h = cc
  wanted-mark (idle a b) h = cc

  pub mark-wanted : Wanted builds state targets edge → mark_for builds state (producers_in builds targets) edge ≡ mark.Wanted
  mark-wanted w = one-mark mark-is (wanted w)

  pub unchanged : {m : Mark} → IsMarkOf builds state targets edge m → changed_positions m ≡ []
  unchanged (wanted w) = refl
  unchanged (through t) = refl
  unchanged (idle a b) = refl

slice-some : {X : Type 0} (x y : X) → Some x ≡ Some y → x ≡ y
slice-some x y h = cc

module _ (manifest : ManifestValue) (state : State) (targets : List (List ℕ)) where
  abbrev builds : List BuildValue
  builds = manifest.builds

  abbrev all : List (List ℕ)
  all = targets_or manifest.defaults targets

  abbrev marks-by : List Mark
  marks-by = map (mark_for manifest.builds state (producers_in manifest.builds (targets_or manifest.defaults targets))) (edge_numbers manifest.builds)

  marks-at : (edge : ℕ) → edge < length manifest.builds → slice_get marks-by edge ≡ Some (mark_for manifest.builds state (producers_in manifest.builds (targets_or manifest.defaults targets)) edge)
  marks-at edge within =
      let f = mark_for manifest.builds state (producers_in manifest.builds (targets_or manifest.defaults targets)) in
      slice_get-get_or marks-by edge mark.Idle (omega (arith, length-map-range_with_len f 0 (length manifest.builds)))
      ∙ ap Some (get_or-map-range_with_len f 0 (length manifest.builds) edge edge mark.Idle within (omega arith))

pub marks-are-of-the-sets : MarksAreOfTheSets
unfolding marks_of
marks-are-of-the-sets manifest state targets edge m within =
    let at = marks-at manifest state targets edge within in
    let is = mark-is manifest.builds state (targets_or manifest.defaults targets) edge in (
      λ h. subst (IsMarkOf manifest.builds state (targets_or manifest.defaults targets) edge) (slice-some _ m (sym at ∙ h)) is,
      λ k. at ∙ ap Some (one-mark manifest.builds state (targets_or manifest.defaults targets) edge is k),
    )

-- REASONS AFTER A PLAN
-- what passes both tests
both-by : {X : Type 0} (p q : X → Bool) (x : X) (xs : List X) (b c : Bool) → p x ≡ b → q x ≡ c → filter p (filter q xs) ≡ filter (λ y. p y && q y) xs
    → filter p (cond c (x ∷ filter q xs) (filter q xs)) ≡ cond (b && c) (x ∷ filter (λ y. p y && q y) xs) (filter (λ y. p y && q y) xs)
both-by p q x xs true true e f rest = ap (λ b. cond b (x ∷ filter p (filter q xs)) (filter p (filter q xs))) e ∙ ap (λ ys. x ∷ ys) rest
both-by p q x xs false true e f rest = ap (λ b. cond b (x ∷ filter p (filter q xs)) (filter p (filter q xs))) e ∙ rest
both-by p q x xs true false e f rest = rest
both-by p q x xs false false e f rest = rest

filter-both : {X : Type 0} (p q : X → Bool) (xs : List X) → filter p (filter q xs) ≡ filter (λ y. p y && q y) xs
filter-both p q [] = refl
filter-both p q (x ∷ xs) = both-by p q x xs (p x) (q x) refl refl (filter-both p q xs)

filter-agrees : {X : Type 0} (p q : X → Bool) → ((x : X) → p x ≡ q x) → (xs : List X) → filter p xs ≡ filter q xs
filter-agrees p q same xs = λ i. filter (λ x. same x i) xs

some-kept : {X : Type 0} (p : X → Bool) (x : X) (xs : List X) (b : Bool) → p x ≡ b → (list_any p xs ≡ true → filter p xs ≢ []) → (b || list_any p xs) ≡ true → cond b (x ∷ filter p xs) (filter p xs) ≢ []
some-kept p x xs true e rest h none =
    let no : x ∷ filter p xs ≡ [] = none in
    cc
some-kept p x xs false e rest h none = rest h none

any-kept : {X : Type 0} (p : X → Bool) (xs : List X) → list_any p xs ≡ true → filter p xs ≢ []
any-kept p [] h =
    let no : false ≡ true = h in
    cc
any-kept p (x ∷ xs) h = some-kept p x xs (p x) refl (any-kept p xs) h

-- no path is among none
never-has : (test : ℕ → List (List ℕ)) (path : List ℕ) → ((producer : ℕ) → test producer ≡ []) → (o : Option ℕ) → holds (λ producer. has_path (test producer) path) o ≡ false
never-has test path none None = refl
never-has test path none (Some p) = ap (λ paths. has_path paths path) (none p)

holds-false : {A : Type 0} (test : A → Bool) (xs : List A) (i : ℕ) → ((x : A) → test x ≡ false) → holds_at test xs i ≡ false
holds-false test [] i never = refl
holds-false test (x ∷ xs) zero never = never x
holds-false test (x ∷ xs) (suc i) never = holds-false test xs i never

and-false : (a b : Bool) → b ≡ false → (a && b) ≡ false
and-false true b h = h
and-false false b h = refl

module _ (manifest : ManifestValue) (targets : List (List ℕ)) (before after : State) (to : LeadsTo manifest targets before after) where
  abbrev lines : List BuildValue
  lines = manifest.builds

  abbrev goals : List (List ℕ)
  goals = targets_or manifest.defaults targets

  -- the marks that it leaves
  mark-after : (edge : ℕ) → edge < length manifest.builds → mark_of after edge ≡ mark_for manifest.builds before (producers_in manifest.builds (targets_or manifest.defaults targets)) edge
  unfolding marks_of
  mark-after edge within =
      let f = mark_for manifest.builds before (producers_in manifest.builds (targets_or manifest.defaults targets)) in
      sym (get_or-map-range_with_len (mark_of after) 0 (length manifest.builds) edge edge mark.Idle within (omega arith))
      ∙ ap (λ marks. get_or marks edge mark.Idle) to.marks
      ∙ get_or-map-range_with_len f 0 (length manifest.builds) edge edge mark.Idle within (omega arith)

  is-mark : (edge : ℕ) → edge < length manifest.builds → IsMarkOf manifest.builds before (targets_or manifest.defaults targets) edge (mark_of after edge)
  is-mark edge within =
      subst (IsMarkOf manifest.builds before (targets_or manifest.defaults targets) edge) (sym (mark-after edge within)) (mark-is manifest.builds before (targets_or manifest.defaults targets) edge)

  -- what is asked of the two states alike
  same-visible : (path : List ℕ) → visible_stamp manifest.builds after path ≡ visible_stamp manifest.builds before path
  same-visible path = visible-same manifest.builds before after path (λ other h. to.stamps other)

  same-first : (paths : List (List ℕ)) → first_deps after paths ≡ first_deps before paths
  same-first [] = refl
  same-first (path ∷ paths) = to.deps path

  same-record : (build : BuildValue) → deps_record after build ≡ deps_record before build
  same-record build = ap (λ o. if build.keeps_deps then o else None) (same-first (outputs_of build))

  same-inputs : (build : BuildValue) → inputs after build ≡ inputs before build
  same-inputs build =
      ap (λ r. map (an OnLine) (build.explicit ++ build.implicit) ++ map (an OrderOnly) build.order_only ++ map (an Listed) (paths_in r)) (same-record build)

  same-first-stamp : (paths : List (List ℕ)) → first_stamp after paths ≡ first_stamp before paths
  same-first-stamp [] = refl
  same-first-stamp (path ∷ paths) = to.stamps path

  never-rebuilt : (input : InputValue) → is_rebuilt manifest.builds after input ≡ false
  never-rebuilt input = and-false (counts input.kind) (was_changed manifest.builds after input.path) (by (producer_of manifest.builds input.path) refl)
    where
      by : (o : Option ℕ) → producer_of manifest.builds input.path ≡ o
          → holds (λ producer. has_path (changed_outputs (mark_of after producer) (outputs_of (build_at manifest.builds producer))) input.path) o ≡ false
      by None is = refl
      by (Some edge) is =
          ap (λ at. has_path (filter_map (slice_get (outputs_of (build_at manifest.builds edge))) at) input.path)
          (unchanged manifest.builds before (targets_or manifest.defaults targets) edge (is-mark edge (producer_of-within input.path manifest.builds edge is)))

  -- after a plan the reasons for a command are those of its own that it had
  command-own : (build : BuildValue) (r : Reason) → is_command_reason manifest.builds after build r ≡ (is_own_reason r && is_command_reason manifest.builds before build r)
  command-own build (reason.Missing o) = λ i. holds_at (λ path. to.stamps path i == 0) (outputs_of build) o
  command-own build reason.NoDeps = λ i. build.keeps_deps && is_none (same-record build i)
  command-own build reason.DepsOld = λ i. holds (λ (deps : DepsRecord). nat_lt deps.stamp (same-first-stamp (outputs_of build) i)) (same-record build i)
  command-own build (reason.Rebuilt k) = holds-false (is_rebuilt manifest.builds after) (inputs after build) k never-rebuilt
  command-own build (reason.MissingDep k) =
      λ i. holds_at (λ (input : InputValue). is_listed input.kind && is_none (producer_of manifest.builds input.path) && (same-visible input.path i == 0)) (same-inputs build i) k
  command-own build (reason.Older o k) =
      λ i. holds_at (λ path. nat_lt (if build.restat then max (to.stamps path i) (recorded_stamp (to.built path i)) else to.stamps path i)
      (greatest (map (λ (input : InputValue). same-visible input.path i) (counted (same-inputs build i))))) (outputs_of build) o
      && holds (λ first. first == k)
      (position (λ (input : InputValue). counts input.kind && (same-visible input.path i == greatest (map (λ (other : InputValue). same-visible other.path i) (counted (same-inputs build i))))) (same-inputs build i))
  command-own build (reason.NoRecord o) = λ i. holds_at (λ path. not build.generator && is_none (to.built path i)) (outputs_of build) o
  command-own build (reason.Command o) =
      λ i. holds_at (λ path. not build.generator && holds (λ (built : BuiltRecord). not (bytes_eq built.command build.command)) (to.built path i)) (outputs_of build) o

  phony-own : (build : BuildValue) (r : Reason) → is_phony_reason after build r ≡ (is_own_reason r && is_phony_reason before build r)
  phony-own build (reason.Missing o) = λ i. (length (same-inputs build i) == 0) && holds_at (λ path. to.stamps path i == 0) (outputs_of build) o
  phony-own build reason.NoDeps = refl
  phony-own build reason.DepsOld = refl
  phony-own build (reason.Rebuilt k) = refl
  phony-own build (reason.MissingDep k) = refl
  phony-own build (reason.Older o k) = refl
  phony-own build (reason.NoRecord o) = refl
  phony-own build (reason.Command o) = refl

  reason-own : (build : BuildValue) (r : Reason) → is_reason manifest.builds after build r ≡ (is_own_reason r && is_reason manifest.builds before build r)
  reason-own build r = by build.phony
    where
      by : (b : Bool) → (if b then is_phony_reason after build r else is_command_reason manifest.builds after build r)
          ≡ (is_own_reason r && (if b then is_phony_reason before build r else is_command_reason manifest.builds before build r))
      by true = phony-own build r
      by false = command-own build r

  pub own-reasons : (edge : ℕ) → reasons_of manifest.builds after edge ≡ filter is_own_reason (reasons_of manifest.builds before edge)
  unfolding reasons_of
  own-reasons edge =
      let build = build_at manifest.builds edge in
      let outs = positions_in (outputs_of build) in
      ap (λ ins. filter (is_reason manifest.builds after build) (candidates outs (positions_in ins))) (same-inputs build)
      ∙ filter-agrees (is_reason manifest.builds after build) (λ r. is_own_reason r && is_reason manifest.builds before build r) (reason-own build) (candidates outs (positions_in (inputs before build)))
      ∙ sym (filter-both is_own_reason (is_reason manifest.builds before build) (candidates outs (positions_in (inputs before build))))

  dirty-has : (edge : ℕ) → is_dirty manifest.builds before edge ≡ true → reasons_of manifest.builds after edge ≢ []
  dirty-has edge h none = any-kept is_own_reason (reasons_of manifest.builds before edge) h (sym (own-reasons edge) ∙ none)

  -- WAYS
  no-cycle : (edge : ℕ) → IsCyclic manifest.builds before (targets_or manifest.defaults targets) edge → ⊥
  no-cycle = ((refusals-are-first.accepted manifest before targets).0 to.accepted).none_cyclic

  way-on : {a b c : ℕ} → WayBy (input_paths before) manifest.builds a b → StepsBy (input_paths before) manifest.builds b c → WayBy (input_paths before) manifest.builds a c
  way-on (one_step s) step = then_on s (one_step step)
  way-on (then_on s way) step = then_on s (way-on way step)

  -- an input that counts stands among the inputs
  pub record CountedAt (all : List InputValue) (path : List ℕ) : Type 0 where
    pub at : ℕ
    pub input : InputValue
    pub stands_there : slice_get all at ≡ Some input
    pub not_order_only : counts input.kind ≡ true
    pub path_is : input.path ≡ path

  later-at : (x : InputValue) (xs : List InputValue) (path : List ℕ) → CountedAt xs path → CountedAt (x ∷ xs) path
  later-at x xs path c = record { at = suc c.at; input = c.input; stands_there = c.stands_there; not_order_only = c.not_order_only; path_is = c.path_is }

  counted-by : (x : InputValue) (xs : List InputValue) (path : List ℕ) (b : Bool) → counts x.kind ≡ b → (Contains (paths_of (counted xs)) path → CountedAt xs path)
      → Contains (paths_of (cond b (x ∷ counted xs) (counted xs))) path → CountedAt (x ∷ xs) path
  counted-by x xs path true e rest h = elim (Contains-append_cases (x.path ∷ []) (paths_of (counted xs)) path h) [
    | inl here ↦ record { at = 0; input = x; stands_there = refl; not_order_only = e; path_is = only x.path path here }
    | inr there ↦ later-at x xs path (rest there)
  ]
  counted-by x xs path false e rest h = later-at x xs path (rest h)

  counted-at : (xs : List InputValue) (path : List ℕ) → Contains (paths_of (counted xs)) path → CountedAt xs path
  counted-at [] path (k, within, at) = absurd (omega (arith, within))
  counted-at (x ∷ xs) path h = counted-by x xs path (counts x.kind) refl (counted-at xs path) h

  in-paths : (xs : List InputValue) (at : ℕ) (x : InputValue) → slice_get xs at ≡ Some x → Contains (paths_of xs) x.path
  in-paths [] at x h =
      let no : None ≡ Some x = h in
      cc
  in-paths (y ∷ ys) zero x h =
      let same : y ≡ x = cc in
      subst (λ (z : InputValue). Contains (paths_of (y ∷ ys)) z.path) same (Contains-get_or (paths_of (y ∷ ys)) 0 y.path (omega arith))
  in-paths (y ∷ ys) (suc at) x h = Contains-append_right (y.path ∷ []) (paths_of ys) x.path (in-paths ys at x h)

  -- a step of the chain is one by an input
  step-of : {chain : List ℕ} {edge at next : ℕ} → CanGoBy manifest.builds after chain edge at next → StepsBy (input_paths before) manifest.builds edge next
  step-of {chain} {edge} {at} {next} c = record {
    path = c.input.path;
    is_path = subst (λ ins. Contains (paths_of ins) c.input.path) (same-inputs (build_at manifest.builds edge)) (in-paths (inputs after (build_at manifest.builds edge)) at c.input c.stands_there);
    produced = c.produced;
  }

  abbrev IsWanted : ℕ → Type 0
  IsWanted edge = Wanted manifest.builds before (targets_or manifest.defaults targets) edge

  wanted-reached : {edge : ℕ} → IsWanted edge → Reached manifest.builds before (targets_or manifest.defaults targets) edge
  wanted-reached (dirty r d) = r
  wanted-reached (behind r s w) = r

  wanted-after : (edge : ℕ) → edge < length manifest.builds → IsWanted edge → mark_of after edge ≡ mark.Wanted
  wanted-after edge within w = mark-after edge within ∙ mark-wanted manifest.builds before (targets_or manifest.defaults targets) edge w

  wanted-before : (edge : ℕ) → edge < length manifest.builds → mark_of after edge ≡ mark.Wanted → IsWanted edge
  wanted-before edge within h = wanted-mark manifest.builds before (targets_or manifest.defaults targets) edge (is-mark edge within) h

  -- every edge of the chain leads to this one
  abbrev AllLead : List ℕ → ℕ → Type 0
  AllLead chain edge = (k : ℕ) → Contains chain k → WayBy (input_paths before) manifest.builds k edge

  -- A wanted edge without reasons has an input by which the chain goes on: its producer is not yet in the chain, since no edge reaches itself.
  goes-on : (chain : List ℕ) (edge : ℕ) → AllLead chain edge → IsWanted edge → reasons_of manifest.builds after edge ≡ [] → ((at next : ℕ) → CanGoBy manifest.builds after (chain ++ edge ∷ []) edge at next → ⊥) → ⊥
  goes-on chain edge lead (dirty r d) bare stuck-here = dirty-has edge d bare
  goes-on chain edge lead (behind {other = other} r s w) bare stuck-here =
      let c = counted-at (inputs after (build_at manifest.builds edge)) s.path
      (subst (λ ins. Contains (paths_of (counted ins)) s.path) (sym (same-inputs (build_at manifest.builds edge))) s.is_path) in
      let made : producer_of manifest.builds c.input.path ≡ Some other = ap (producer_of manifest.builds) c.path_is ∙ s.produced in
      let step : StepsBy (input_paths before) manifest.builds edge other = record {
        path = c.input.path;
        is_path = subst (λ ins. Contains (paths_of ins) c.input.path) (same-inputs (build_at manifest.builds edge)) (in-paths (inputs after (build_at manifest.builds edge)) c.at c.input c.stands_there);
        produced = made;
      } in
      stuck-here c.at other (record {
        input = c.input;
        stands_there = c.stands_there;
        not_order_only = c.not_order_only;
        produced = made;
        is_wanted = wanted-after other (producer_of-within c.input.path manifest.builds other made) w;
        not_yet = λ old. elim (Contains-push_cases chain edge other old) [
          | inl there ↦ no-cycle edge (r, then_on step (lead other there))
          | inr same ↦ no-cycle edge (r, one_step (subst (StepsBy (input_paths before) manifest.builds edge) (sym same) step))
        ];
      })

  abbrev Ends : ChainValue → Type 0
  Ends chain = EndsAtReasons manifest.builds after chain

  no-step : (step : ℕ × ℕ) → Contains [] step → ⊥
  no-step step (k, within, at) = omega (arith, within)

  ends : {before-it : List ℕ} {edge : ℕ} {chain : ChainValue} → IsChain manifest.builds after before-it edge chain → edge < length manifest.builds → AllLead before-it edge → IsWanted edge → Ends chain
  ends {before-it} {edge} (unwanted n) within lead w = absurd (n (wanted-after edge within w))
  ends {before-it} {edge} (explained is some) within lead w = record { some = some; theirs = refl; last_is_wanted = is; each_is_wanted = λ step h. absurd (no-step step h) }
  ends {before-it} {edge} (stuck is bare none) within lead w = absurd (goes-on before-it edge lead w bare none)
  ends {before-it} {edge} (stepping at next chain is bare g rest) within lead w =
      let step = step-of g.can in
      let inside = producer_of-within g.can.input.path manifest.builds next g.can.produced in
      let lead-on : AllLead (before-it ++ edge ∷ []) next = λ k h. elim (Contains-push_cases before-it edge k h) [
        | inl there ↦ way-on (lead k there) step
        | inr same ↦ one_step (subst (λ j. StepsBy (input_paths before) manifest.builds j next) same step)
      ] in
      let e : Ends chain = ends rest inside lead-on (wanted-before next inside g.can.is_wanted) in
      record {
        some = e.some;
        theirs = e.theirs;
        last_is_wanted = e.last_is_wanted;
        each_is_wanted = λ s h. elim (Contains-append_cases ((edge, at) ∷ []) chain.steps s h) [
          | inl here ↦ subst (λ (p : ℕ × ℕ). mark_of after p.0 ≡ mark.Wanted) (only (edge, at) s here) is
          | inr there ↦ e.each_is_wanted s there
        ];
      }

  nothing-leads : (edge : ℕ) → AllLead [] edge
  nothing-leads edge k (i, within, at) = absurd (omega (arith, within))

  pub chain-ends : (edge : ℕ) → edge < length manifest.builds → mark_of after edge ≡ mark.Wanted → EndsAtReasons manifest.builds after (chain_of manifest.builds after edge)
  chain-ends edge within h = ends (chain-is manifest.builds after edge within) within (nothing-leads edge) (wanted-before edge within h)

pub chains-end-at-reasons : ChainsEndAtReasons
chains-end-at-reasons manifest targets before after edge to within h = chain-ends manifest targets before after to edge within h

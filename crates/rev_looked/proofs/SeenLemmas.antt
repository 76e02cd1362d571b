-- Who looks at what an event left is who begins a command that looks at a path that was left at it and not again since.
use Rattle.std.proofs.Common.{◌≡◌, ℕ, ◌+◌, ◌<◌, ◌≤◌, Bool, true, false, ◌&&◌, List, [], ◌∷◌, length, get_or, map, Option, Some, None, refl, sym, ap, subst, ◌∙◌, arith, true≢false}
use Rattle.std.specs.Prelude.{◌==◌, All, filter, is_some, nat_le, nat_lt, option_and_then, slice_get, if◌then◌else◌}
use Rattle.std.specs.List.{filter_map, list_any, range_with_len}
use Rattle.std.proofs.lemmas.Bool.{eqb-true}
use Rattle.std.proofs.lemmas.Bool.Decides.{nat_tests}
use Rattle.std.proofs.lemmas.List.Elements.{All-filter, All-same}
use Rattle.std.proofs.lemmas.List.FromFn.{get_or-range_with_len, length-range_with_len}
use Rattle.rev_manifest.specs.Builds.{BuildValue}
use Rattle.rev_graph.specs.Graph.{build_at, inputs_of}
use Rattle.rev_paths.specs.Paths.{place_of}
use Rattle.rev_events.specs.declared.event.Event.{Event}
use Rattle.rev_events.specs.declared.event.Event.TheVariants.{Start}
use Rattle.rev_history.specs.Timeline.{IsRising, Timeline, event_at}
use Rattle.rev_observed.specs.CommandValues.{CommandValue}
use Rattle.rev_observed.specs.declared.kind.Kind.{Kind}
use Rattle.rev_runs.specs.Runs.{is_kept}
use Rattle.rev_looked.specs.Commands.{command_of, look_of, number_from}
use Rattle.rev_looked.specs.Events.{begun_edge, run_edge}
use Rattle.rev_looked.specs.Needs.{Scene, ended_at, holds, is_declared, is_left, is_number, last_left, need_at, need_by, need_in, needs_by, needs_if, needs_of, needs_of_edge, next_left}
use Rattle.rev_looked.specs.Users.{begun_at, is_there, left_paths, may_see, user_by, user_of, users_at, users_in}
use Rattle.rev_looked.specs.declared.need.Need.{Need}
use Rattle.rev_looked.specs.declared.user.User.{User}
use Rattle.rev_looked.proofs.SweepLemmas.{not-among, not-left, picked, picked-range, none-given, still-there}

-- ONE PATH
abbrev told : Bool → ℕ → ℕ → Option Kind → Option User
told declared later path look =
    option_and_then (λ look. if declared then None else Some (record { number = later; path = path; look = look })) look

abbrev found : Bool → Bool → Bool → ℕ → ℕ → Option Kind → Option User
found left there declared later path look = if left then (if there then told declared later path look else None) else None

nothing-told : (later path : ℕ) (look : Option Kind) → told true later path look ≡ None
nothing-told later path None = refl
nothing-told later path (Some look) = refl

never : (left there : Bool) (o : Option User) → o ≡ None → (if left then (if there then o else None) else None) ≡ None
never true true o e = e
never true false o e = refl
never false there o e = refl

module _ (t : Timeline) (n later edge path : ℕ) where
  abbrev picks : Option Need → Option User
  picks o = picked (λ (need : Need). need.number == n) (user_of later) o

  -- a need that is of another event
  other-need : (look : Kind) (m : ℕ) → (m == n) ≡ false → picks (need_by t edge path look m) ≡ None
  other-need look m e = by (holds (λ e. e == edge) (ended_at t m))
    where
      by : (own : Bool) → picks (if own then None else Some (record { number = m; path = path; look = look })) ≡ None
      by true = refl
      by false = ap (λ b. if b then Some (user_of later (record { number = m; path = path; look = look })) else None) e

  -- a need that is of this one
  this-need : (look : Kind) (m : ℕ) → (m == n) ≡ true → holds (λ e. e == edge) (ended_at t n) ≡ false
      → picks (need_by t edge path look m) ≡ Some (record { number = later; path = path; look = look })
  this-need look m e own =
      ap (λ b. picks (if b then None else Some (record { number = m; path = path; look = look })))
      (ap (λ k. holds (λ e. e == edge) (ended_at t k)) (eqb-true m n e) ∙ own)
      ∙ ap (λ b. if b then Some (user_of later (record { number = m; path = path; look = look })) else None) e

  pointed : holds (λ e. e == edge) (ended_at t n) ≡ false → (declared : Bool) (look : Option Kind) (last : Option ℕ) (left there : Bool)
      → is_number n last ≡ (left && there)
      → picks (need_in t edge path declared look last) ≡ found left there declared later path look
  pointed own true look last left there e = sym (never left there (told true later path look) (nothing-told later path look))
  pointed own false None last left there e = sym (never left there None refl)
  pointed own false (Some look) None left there e = by left there e
    where
      by : (left there : Bool) → false ≡ (left && there) → None ≡ found left there false later path (Some look)
      by true true e = absurd (true≢false (sym e))
      by true false e = refl
      by false there e = refl
  pointed own false (Some look) (Some m) left there e = by left there e
    where
      by : (left there : Bool) → (m == n) ≡ (left && there) → picks (need_by t edge path look m) ≡ found left there false later path (Some look)
      by true true e = this-need look m e own
      by true false e = other-need look m e
      by false there e = other-need look m e

  -- what is needed of an event of the edge's own, or of one that was not left last, is not that one
  own-need : holds (λ e. e == edge) (ended_at t n) ≡ true → (declared : Bool) (look : Option Kind) (last : Option ℕ)
      → picks (need_in t edge path declared look last) ≡ None
  own-need own true look last = refl
  own-need own false None last = refl
  own-need own false (Some look) None = refl
  own-need own false (Some look) (Some m) = by (m == n) refl
    where
      by : (b : Bool) → (m == n) ≡ b → picks (need_by t edge path look m) ≡ None
      by true e = ap (λ b. picks (if b then None else Some (record { number = m; path = path; look = look }))) (ap (λ k. holds (λ e. e == edge) (ended_at t k)) (eqb-true m n e) ∙ own)
      by false e = other-need look m e

  last-need : (declared : Bool) (look : Option Kind) (last : Option ℕ) → is_number n last ≡ false
      → picks (need_in t edge path declared look last) ≡ None
  last-need true look last e = refl
  last-need false None last e = refl
  last-need false (Some look) None e = refl
  last-need false (Some look) (Some m) e = other-need look m e

-- ALL PATHS
filter-none : (xs : List ℕ) → filter (λ k. false) xs ≡ []
filter-none [] = refl
filter-none (x ∷ xs) = filter-none xs

abbrev no-user : ℕ → Option User
no-user k = None

none-of : (s : Scene) (n later edge : ℕ) (command : CommandValue)
    → ((path : ℕ) → picked (λ (need : Need). need.number == n) (user_of later) (need_at s later edge command path) ≡ None)
    → users_in n later (needs_by s later edge command) ≡ []
none-of s n later edge command none =
    picked-range (need_at s later edge command) (λ (need : Need). need.number == n) (user_of later) (λ k. false) no-user 0 (length s.paths)
    (λ k low high. none k)
    ∙ ap (filter_map no-user) (filter-none (range_with_len 0 (length s.paths)))

abbrev nobody : List User
nobody = []

-- THE LATER EVENT
run-begun : (builds : List BuildValue) (e : Event) (edge : ℕ) → begun_edge builds e ≡ Some edge → run_edge builds e ≡ Some edge
run-begun builds (Start out job slot) edge h = h
run-begun builds _ edge h = let no : None ≡ Some edge = h in cc

run-begun-at : (builds : List BuildValue) (o : Option Event) (edge : ℕ) → option_and_then (begun_edge builds) o ≡ Some edge → option_and_then (run_edge builds) o ≡ Some edge
run-begun-at builds None edge h = let no : None ≡ Some edge = h in cc
run-begun-at builds (Some e) edge h = run-begun builds e edge h

-- what a later kept event that begins an observed command sees of an event
at-begun : (s : Scene) (n later edge : ℕ) (command : CommandValue) → is_kept s.timeline later ≡ true → n < later → begun_at s.timeline later ≡ Some edge
    → command_of s.edges s.commands edge ≡ Some command
    → users_at s n later
    ≡ (if list_any (λ path. is_some (look_of command path)) (left_paths s n) then users_in n later (needs_by s later edge command) else [])
at-begun s n later edge command kept less begun is =
    ap (λ b. if b then users_in n later (needs_of s later) else []) seen
    ∙ ap (λ needs. if list_any (λ path. is_some (look_of command path)) (left_paths s n) then users_in n later needs else []) needed
  where
    behind : nat_lt n later ≡ true
    behind = grind (arith, nat_tests)

    seen : may_see s n later ≡ list_any (λ path. is_some (look_of command path)) (left_paths s n)
    seen =
        ap (λ b. b && holds (λ command. list_any (λ path. is_some (look_of command path)) (left_paths s n)) (option_and_then (command_of s.edges s.commands) (begun_at s.timeline later))) behind
        ∙ ap (λ o. holds (λ command. list_any (λ path. is_some (look_of command path)) (left_paths s n)) (option_and_then (command_of s.edges s.commands) o)) begun
        ∙ ap (holds (λ command. list_any (λ path. is_some (look_of command path)) (left_paths s n))) is

    needed : needs_of s later ≡ needs_by s later edge command
    needed =
        ap (λ b. if b then needs_if s later (option_and_then (run_edge s.timeline.manifest.builds) (event_at s.timeline later)) else []) kept
        ∙ ap (needs_if s later) (run-begun-at s.timeline.manifest.builds (event_at s.timeline later) edge begun)
        ∙ ap (needs_of_edge s later edge) is

-- a command that does not look at a path
not-looked : (builds : List BuildValue) (paths : List (List ℕ)) (edge : ℕ) (command : CommandValue) (later path : ℕ) (next : Option ℕ)
    → is_some (look_of command path) ≡ false → user_by builds paths edge command later next path ≡ None
not-looked builds paths edge command later path next unseen = by (is_there next later) (look_of command path) unseen
  where
    by : (there : Bool) (look : Option Kind) → is_some look ≡ false
        → (if there then told (list_any (λ name. is_number path (place_of name paths)) (inputs_of (build_at builds edge))) later path look else None) ≡ None
    by true None e = refl
    by false None e = refl
    by there (Some look) e = absurd (true≢false e)

-- THE COMMAND
-- an event that begins no observed command sees nothing
pub unseen-later : (s : Scene) (n later : ℕ) → option_and_then (command_of s.edges s.commands) (begun_at s.timeline later) ≡ None → users_at s n later ≡ []
unseen-later s n later none =
    ap (λ o. if nat_lt n later && holds (λ command. list_any (λ path. is_some (look_of command path)) (left_paths s n)) o
    then users_in n later (needs_of s later) else []) none
    ∙ both (nat_lt n later)
  where
    both : (b : Bool) → (if b && false then users_in n later (needs_of s later) else []) ≡ []
    both true = refl
    both false = refl

-- the command of an edge, by the number that is noted of the edge
pub command-is : (edges : List ℕ) (commands given : List CommandValue) (edge : ℕ) (number : Option ℕ) (o : Option CommandValue)
    → given ≡ commands → o ≡ option_and_then (slice_get given) number → number ≡ number_from 0 edges edge → command_of edges commands edge ≡ o
command-is edges commands given edge number o same found noted =
    sym (found ∙ (λ j. option_and_then (slice_get (same j)) (noted j)))

-- an event that begins a command which was not observed sees nothing
pub unseen-edge : (s : Scene) (n later edge : ℕ) → Some edge ≡ begun_at s.timeline later → command_of s.edges s.commands edge ≡ None → users_at s n later ≡ []
unseen-edge s n later edge begun none = unseen-later s n later (ap (option_and_then (command_of s.edges s.commands)) (sym begun) ∙ none)

-- paths that were left have numbers of paths
pub left-within : (s : Scene) (n count : ℕ) (paths : List ℕ) → paths ≡ left_paths s n → count ≡ length s.paths → All (λ path. path < count) paths
left-within s n count paths are size =
    All-same (λ path. path < count) paths (left_paths s n) are
    (All-filter (λ path. is_left s path n) (λ path. path < count) (range_with_len 0 (length s.paths)) below)
  where
    below : All (λ path. path < count) (range_with_len 0 (length s.paths))
    below i d within =
        let here : i < length s.paths = omega (arith, length-range_with_len 0 (length s.paths)) in
        omega (arith, size, get_or-range_with_len 0 (length s.paths) i d here)

-- THE USERS
module _ (s : Scene) (n later edge : ℕ) (command : CommandValue) where
  -- where the event ended a command of the same edge
  pub own-users : is_kept s.timeline later ≡ true → n < later → begun_at s.timeline later ≡ Some edge → command_of s.edges s.commands edge ≡ Some command
      → holds (λ e. e == edge) (ended_at s.timeline n) ≡ true → users_at s n later ≡ []
  own-users kept less begun is own =
      at-begun s n later edge command kept less begun is
      ∙ ap (λ us. if list_any (λ path. is_some (look_of command path)) (left_paths s n) then us else [])
      (none-of s n later edge command (λ path. own-need s.timeline n later edge path own (is_declared s edge path) (look_of command path) (last_left s later path)))
      ∙ both (list_any (λ path. is_some (look_of command path)) (left_paths s n))
    where
      both : (b : Bool) → (if b then nobody else nobody) ≡ nobody
      both true = refl
      both false = refl

  -- else those that look at a path that is there still
  pub seen-users : (nexts : List (Option ℕ)) → IsRising s.timeline.kept → list_any (λ k. k == n) s.timeline.kept ≡ true
      → ((path : ℕ) → path < length s.paths → get_or nexts path None ≡ next_left s n path)
      → is_kept s.timeline later ≡ true → n < later → begun_at s.timeline later ≡ Some edge → command_of s.edges s.commands edge ≡ Some command
      → holds (λ e. e == edge) (ended_at s.timeline n) ≡ false
      → users_at s n later ≡ filter_map (λ path. user_by s.timeline.manifest.builds s.paths edge command later (get_or nexts path None) path) (left_paths s n)
  seen-users nexts rising among nexts_are kept less begun is own =
      at-begun s n later edge command kept less begun is
      ∙ ap (λ us. if list_any (λ path. is_some (look_of command path)) (left_paths s n) then us else []) all
      ∙ by (list_any (λ path. is_some (look_of command path)) (left_paths s n)) refl
    where
      by_path : ℕ → Option User
      by_path path = user_by s.timeline.manifest.builds s.paths edge command later (get_or nexts path None) path

      at : (path : ℕ) → path < length s.paths
          → picked (λ (need : Need). need.number == n) (user_of later) (need_at s later edge command path)
          ≡ (if is_left s path n then user_by s.timeline.manifest.builds s.paths edge command later (get_or nexts path None) path else None)
      at path within =
          pointed s.timeline n later edge path own (is_declared s edge path) (look_of command path) (last_left s later path) (is_left s path n)
          (is_there (next_left s n path) later) (exact (is_left s path n) refl)
          ∙ ap (λ next. if is_left s path n then user_by s.timeline.manifest.builds s.paths edge command later next path else None) (sym (nexts_are path within))
        where
          exact : (b : Bool) → is_left s path n ≡ b → is_number n (last_left s later path) ≡ (is_left s path n && is_there (next_left s n path) later)
          exact true e =
              still-there (is_left s path) later n s.timeline.kept rising among e less
              ∙ sym (ap (λ b. b && is_there (next_left s n path) later) e)
          exact false e =
              not-left (is_left s path) later n s.timeline.kept e
              ∙ sym (ap (λ b. b && is_there (next_left s n path) later) e)

      all : users_in n later (needs_by s later edge command)
          ≡ filter_map (λ path. user_by s.timeline.manifest.builds s.paths edge command later (get_or nexts path None) path) (left_paths s n)
      all =
          picked-range (need_at s later edge command) (λ (need : Need). need.number == n) (user_of later) (λ path. is_left s path n)
          (λ path. user_by s.timeline.manifest.builds s.paths edge command later (get_or nexts path None) path) 0 (length s.paths)
          (λ path low high. at path (omega (arith, high)))

      by : (b : Bool) → list_any (λ path. is_some (look_of command path)) (left_paths s n) ≡ b
          → (if b then filter_map (λ path. user_by s.timeline.manifest.builds s.paths edge command later (get_or nexts path None) path) (left_paths s n) else [])
          ≡ filter_map (λ path. user_by s.timeline.manifest.builds s.paths edge command later (get_or nexts path None) path) (left_paths s n)
      by true e = refl
      by false e =
          sym (none-given (λ path. is_some (look_of command path))
          (λ path. user_by s.timeline.manifest.builds s.paths edge command later (get_or nexts path None) path) (left_paths s n)
          (λ path unseen. not-looked s.timeline.manifest.builds s.paths edge command later path (get_or nexts path None) unseen) e)

-- of an event that is not kept nobody sees anything
pub unkept-users : (s : Scene) (n later : ℕ) → list_any (λ k. k == n) s.timeline.kept ≡ false → users_at s n later ≡ []
unkept-users s n later none = by (may_see s n later) (is_kept s.timeline later) (option_and_then (run_edge s.timeline.manifest.builds) (event_at s.timeline later))
  where
    of : (edge : ℕ) (o : Option CommandValue) → users_in n later (needs_of_edge s later edge o) ≡ []
    of edge None = refl
    of edge (Some command) = none-of s n later edge command (λ path.
        last-need s.timeline n later edge path (is_declared s edge path) (look_of command path) (last_left s later path)
        (not-among (is_left s path) later n s.timeline.kept none))

    by : (sees kept : Bool) (o : Option ℕ) → (if sees then users_in n later (if kept then needs_if s later o else []) else []) ≡ []
    by false kept o = refl
    by true false o = refl
    by true true None = refl
    by true true (Some edge) = of edge (command_of s.edges s.commands edge)

-- nor of an event that comes later
pub past-users : (s : Scene) (n later : ℕ) → later ≤ n → users_at s n later ≡ []
past-users s n later past =
    ap (λ b. if b && holds (λ command. list_any (λ path. is_some (look_of command path)) (left_paths s n)) (option_and_then (command_of s.edges s.commands) (begun_at s.timeline later))
    then users_in n later (needs_of s later) else []) behind
  where
    behind : nat_lt n later ≡ false
    behind = grind (arith, nat_tests)

-- nor does an event that is not kept see anything
pub unkept-later : (s : Scene) (n later : ℕ) → is_kept s.timeline later ≡ false → users_at s n later ≡ []
unkept-later s n later kept =
    ap (λ b. if may_see s n later then users_in n later (if b then needs_if s later (option_and_then (run_edge s.timeline.manifest.builds) (event_at s.timeline later)) else []) else []) kept
    ∙ both (may_see s n later)
  where
    both : (b : Bool) → (if b then nobody else nobody) ≡ nobody
    both true = refl
    both false = refl

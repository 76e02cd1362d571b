-- On what lists rest.
use Rattle.std.proofs.Common.{◌≡◌, ℕ, Bool, true, false, List, Option, Some, None, ◌⊎◌, inl, inr, refl, sym, subst, if◌then◌else◌}
use Rattle.std.specs.Prelude.{is_some}
use Rattle.std.specs.Option.{option_map, option_or}
use Rattle.rev_graph.specs.Graph.{build_at}
use Rattle.rev_history.specs.Timeline.{kept_events}
use Rattle.rev_races.proofs.ListLemmas.{finished-is}
use Rattle.rev_races.specs.Races.{last_list, recorded, started}
use Rattle.rev_suspects.specs.Bases.{ListsRestOn, rests_on}
use Rattle.rev_suspects.specs.declared.resting.Basis.{Basis}
use Rattle.rev_suspects.specs.declared.resting.Basis.TheVariants as basis

abbrev Paths : Type 0
Paths = Option (List (List ℕ))

abbrev basis-by : Bool → Bool → Paths → Option Basis
basis-by began ended list = option_map (λ (all : List (List ℕ)). rests_on began ended) list

-- what a basis says of a list
abbrev Follows : Paths → Paths → Paths → Option Basis → Type 0
Follows list last before b =
    (b ≡ Some basis.Finish → list ≡ last) × ((b ≡ Some basis.Record) ⊎ (b ≡ Some basis.Earlier) → list ≡ before)

no-basis : Option Basis
no-basis = None

unkept : (last before : Paths) → Follows None last before None
unkept last before = (
  λ h. let no : None ≡ Some basis.Finish = h in cc,
  λ e. elim e [
    | inl h ↦ let no : None ≡ Some basis.Record = h in cc
    | inr h ↦ let no : None ≡ Some basis.Earlier = h in cc
  ],
)

by-finish : (l : List (List ℕ)) (before : Paths) → Follows (Some l) (Some l) before (Some basis.Finish)
by-finish l before = (
  λ h. refl,
  λ e. elim e [
    | inl h ↦ let no : Some basis.Finish ≡ Some basis.Record = h in cc
    | inr h ↦ let no : Some basis.Finish ≡ Some basis.Earlier = h in cc
  ],
)

by-record : (r : List (List ℕ)) → Follows (Some r) None (Some r) (Some basis.Record)
by-record r = (λ h. let no : Some basis.Record ≡ Some basis.Finish = h in cc, λ e. refl)

by-earlier : (r : List (List ℕ)) → Follows (Some r) None (Some r) (Some basis.Earlier)
by-earlier r = (λ h. let no : Some basis.Earlier ≡ Some basis.Finish = h in cc, λ e. refl)

follows : (keeps began : Bool) (last before : Paths)
    → Follows (if keeps then option_or last before else None) last before (basis-by began (is_some last) (if keeps then option_or last before else None))
follows false began last before = unkept last before
follows true began (Some l) before = by-finish l before
follows true began None None = (λ h. refl, λ e. refl)
follows true true None (Some r) = by-earlier r
follows true false None (Some r) = by-record r

pub lists-rest-on : ListsRestOn
lists-rest-on t edge =
    let build = build_at t.manifest.builds edge in
    let events = kept_events t in
    let last = last_list t.manifest edge (kept_events t) in
    let before = recorded t.opening (build_at t.manifest.builds edge) in
    subst (λ ended. Follows (if build.keeps_deps then option_or last before else None) last before
    (basis-by (started t.manifest edge events) ended (if build.keeps_deps then option_or last before else None)))
    (sym (finished-is t.manifest edge events)) (follows build.keeps_deps (started t.manifest edge events) last before)

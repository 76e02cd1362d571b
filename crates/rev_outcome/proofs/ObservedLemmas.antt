-- No race and no clash in the answer: no two unordered edges conflict.
use Rattle.std.proofs.Common.{◌≡◌, ℕ, ◌<◌, nat_lt, true, false, not, ◌&&◌, List, [], length, get_or, Some, inl, inr, refl, sym, subst, ◌∙◌, true≢false}
use Rattle.std.specs.Prelude.{◌≢◌, bytes_eq}
use Rattle.std.proofs.lemmas.Bool.{and_from, cases_Bool, cases_order, lt-ltb, not_from_false}
use Rattle.std.proofs.lemmas.List.Quantifiers.{position-Some}
use Rattle.rev_paths.specs.Paths.{place_of}
use Rattle.rev_manifest.specs.Manifest.{BuildValue}
use Rattle.rev_waits.specs.Waits.{Waits, waits}
use Rattle.rev_observed.specs.CommandValues.{CommandValue}
use Rattle.rev_races.proofs.RaceLemmas.{waits-is-decided}
use Rattle.rev_conflicts.specs.declared.conflict.Conflict.{Conflict}
use Rattle.rev_conflicts.specs.declared.conflict.ConflictKind.{ConflictKind}
use Rattle.rev_conflicts.specs.declared.conflict.ConflictKind.TheVariants as kind
use Rattle.rev_conflicts.specs.declared.conflict.Look.{Look}
use Rattle.rev_conflicts.specs.declared.place.Place.{Place}
use Rattle.rev_conflicts.specs.declared.place.Place.TheVariants.{File, Entries}
use Rattle.rev_conflicts.specs.Answer.{AreConflicts}
use Rattle.rev_conflicts.specs.Conflicts.{Meet, Ran, Scene, change_at, changes_file, kind_at, kind_by, runs_first}
use Rattle.rev_conflicts.specs.Places.{Touches, Touches.file as touches_file, Touches.entry as touches_entry, changes, look_at}
use Rattle.rev_outcome.specs.Commands.{Step, is_left, is_used}
use Rattle.rev_outcome.specs.Schedules.{NoneConflict, leaves}
use Rattle.rev_outcome.specs.Histories.{end_of}
use Rattle.rev_outcome.specs.Observed.{AreObserved, IsSeenToChange, IsSeenToLook, IsSeenToLook.at_file, IsSeenToLook.at_entries, NoneUnordered, NothingToldOneOutcome, is_unordered}
use Rattle.rev_outcome.proofs.StepLemmas.{any-begun}
use Rattle.rev_outcome.proofs.HistoryLemmas.{one-outcome-of-histories}

not-waits : (builds : List BuildValue) (a b : ℕ) → waits builds a b ≡ false → Waits builds a b → ⊥
not-waits builds a b none way = true≢false (sym ((waits-is-decided builds a b).1 way) ∙ none)

place-within : (name : List ℕ) (names : List (List ℕ)) (n : ℕ) → place_of name names ≡ Some n → n < length names
place-within name names n is = (position-Some (bytes_eq name) names n [] is).0

module _ (s : Scene) (conflicts : List Conflict) (answer : AreConflicts s conflicts) (none : NoneUnordered conflicts) where
  -- what two commands, of which neither waits for the other, do at a place is not told
  not-told : (maker user : ℕ) (place : Place) (made_by used_by : ℕ) (k : ConflictKind) (meet : Meet s maker user place made_by used_by)
      → kind_at s maker user meet.made meet.used place ≡ Some k → is_unordered k ≡ true → ⊥
  not-told maker user place made_by used_by k meet is unordered =
      let c : Conflict = record { kind = k; maker = maker; user = user; place = place; made_by = made_by; used_by = used_by } in
      true≢false (sym unordered ∙ none c ((answer.exact c).1 (record { meet = meet; kind_is = is })))

  module _ (a b made_by used_by : ℕ) (made used : CommandValue) (a_ran : Ran s made_by a made) (b_ran : Ran s used_by b used)
      (others : a ≢ b) (a_waits : waits s.builds a b ≡ false) (b_waits : waits s.builds b a ≡ false)
      (a_later : runs_first s.builds s.files a ≡ false) (b_later : runs_first s.builds s.files b ≡ false) where
    -- both change a file
    both-change : (n : ℕ) → changes made n ≡ true → changes used n ≡ true → n < length s.paths → get_or s.hidden n false ≡ false → ⊥
    both-change n mine theirs within shown = elim (cases_order a b) [
      | inl same ↦ others same
      | inr (inl less) ↦
          not-told a b (File n) made_by used_by kind.Clash
          (record {
            made = made;
            used = used;
            maker_ran = a_ran;
            user_ran = b_ran;
            touched = touches_file mine within shown;
            others = others;
            comes_later = a_later;
            unordered = not-waits s.builds b a b_waits;
          })
          (λ i. kind_by (a_waits i) (and_from (changes used n) (not (runs_first s.builds s.files b)) theirs (not_from_false (runs_first s.builds s.files b) b_later) i) (lt-ltb a b less i) (change_at s.builds s.paths a made (File n)) (look_at used (File n)))
          refl
      | inr (inr more) ↦
          not-told b a (File n) used_by made_by kind.Clash
          (record {
            made = used;
            used = made;
            maker_ran = b_ran;
            user_ran = a_ran;
            touched = touches_file theirs within shown;
            others = λ e. others (sym e);
            comes_later = b_later;
            unordered = not-waits s.builds a b a_waits;
          })
          (λ i. kind_by (b_waits i) (and_from (changes made n) (not (runs_first s.builds s.files a)) mine (not_from_false (runs_first s.builds s.files a) a_later) i) (lt-ltb b a more i) (change_at s.builds s.paths b used (File n)) (look_at made (File n)))
          refl
    ]

    -- one touches a place, and the other looks at it
    looked-at : (place : Place) (look : Look) → Touches s.paths s.hidden made place → look_at used place ≡ Some look → changes_file used place ≡ false → ⊥
    looked-at place look touched looks apart =
        not-told a b place made_by used_by (kind.Race look (change_at s.builds s.paths a made place))
        (record {
          made = made;
          used = used;
          maker_ran = a_ran;
          user_ran = b_ran;
          touched = touched;
          others = others;
          comes_later = a_later;
          unordered = not-waits s.builds b a b_waits;
        })
        (λ i. kind_by (a_waits i) (apart i && not (runs_first s.builds s.files b)) (nat_lt a b) (change_at s.builds s.paths a made place) (looks i))
        refl

    -- one changes a path, and the other was seen to look there
    seen-there : (path : List ℕ) → IsSeenToChange s made path → IsSeenToLook s used path → ⊥
    seen-there path change (at_file {number = n} {look = look} named looks) =
        let both : Some change.number ≡ Some n = sym change.named ∙ named in
        let same : change.number ≡ n = cc in
        let mine : changes made n ≡ true = subst (λ x. changes made x ≡ true) same change.changed in
        let shown : get_or s.hidden n false ≡ false = subst (λ x. get_or s.hidden x false ≡ false) same change.shown in
        let within = place-within path s.paths n named in
        elim (cases_Bool (changes used n)) [
          | inl theirs ↦ both-change n mine theirs within shown
          | inr apart ↦ looked-at (File n) look (touches_file mine within shown) looks apart
        ]
    seen-there path change (at_entries {number = n} {folder = folder} {look = look} named folder_is looks) =
        let both : Some change.number ≡ Some n = sym change.named ∙ named in
        let same : change.number ≡ n = cc in
        let mine : changes made n ≡ true = subst (λ x. changes made x ≡ true) same change.changed in
        let shown : get_or s.hidden n false ≡ false = subst (λ x. get_or s.hidden x false ≡ false) same change.shown in
        looked-at (Entries folder) look (touches_entry mine (place-within path s.paths n named) shown folder_is) looks refl

    both-seen : (path : List ℕ) → IsSeenToChange s made path → IsSeenToChange s used path → ⊥
    both-seen path one other =
        let both : Some other.number ≡ Some one.number = sym other.named ∙ one.named in
        let same : other.number ≡ one.number = cc in
        both-change one.number one.changed (subst (λ x. changes used x ≡ true) same other.changed) (place-within path s.paths one.number one.named) one.shown

  pub none-conflict : (steps : ℕ → List Step) → AreObserved s steps → NoneConflict (Waits s.builds) steps
  none-conflict steps observed a b path apart leave used = elim (cases_Bool (waits s.builds a b)) [
    | inl way ↦ inl ((waits-is-decided s.builds a b).0 way)
    | inr a_waits ↦ elim (cases_Bool (waits s.builds b a)) [
      | inl way ↦ inr ((waits-is-decided s.builds b a).0 way)
      | inr b_waits ↦
          let one = observed a (any-begun (is_left path) (steps a) leave) in
          let other = observed b (any-begun (is_used path) (steps b) used) in
          elim (cases_Bool (leaves path (steps b))) [
            | inl both ↦
                absurd (both-seen a b one.number other.number one.command other.command one.ran other.ran apart a_waits b_waits one.comes_later other.comes_later path (one.changed path leave) (other.changed path both))
            | inr looks ↦
                absurd (seen-there a b one.number other.number one.command other.command one.ran other.ran apart a_waits b_waits one.comes_later other.comes_later path (one.changed path leave) (other.looked path a used looks apart leave))
          ]
    ]
  ]

pub nothing-told-one-outcome : NothingToldOneOutcome
nothing-told-one-outcome s conflicts commands disk shown other moments others answer none same played complete observed played_other builds_are =
    one-outcome-of-histories commands disk shown other moments others played complete
    (subst (λ builds. NoneConflict (Waits builds) (end_of commands disk moments).steps) same (none-conflict s conflicts answer none (end_of commands disk moments).steps observed))
    played_other builds_are

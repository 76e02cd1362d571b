-- Races of a history are conflicts of an observation.
use Rattle.std.proofs.Common.{◌≡◌, ◌≢◌, ℕ, ◌<◌, nat_lt, Bool, true, false, not, ◌&&◌, ◌||◌, List, [], ◌∷◌, length, get_or, slice_get, Option, Some, None, inl, inr, refl, sym, ap, subst, ◌∙◌, arith, true≢false, if◌then◌else◌}
use Rattle.std.proofs.lemmas.Bool.{cases_order, eq-eqb, eqb-true, not-true, false_from_ne_true, lt-ltb, not_from_false, and_parts, and_from, or_left}
use Rattle.std.proofs.lemmas.List.Elements.{Contains-append_right}
use Rattle.std.proofs.lemmas.Option.{slice_get_within, slice_get-get_or}
use Rattle.rev_manifest.specs.Manifest.{BuildValue}
use Rattle.rev_graph.specs.Graph.{producer_of}
use Rattle.rev_graph.proofs.ProducerLemmas.{producer-has}
use Rattle.rev_waits.specs.Waits.{Waits, waits}
use Rattle.rev_observed.specs.CommandValues.{CommandValue}
use Rattle.rev_observed.specs.declared.kind.Kind.TheVariants.{Writes, Edits, Deletes, Temps}
use Rattle.rev_races.specs.Races.{MakesOneOf}
use Rattle.rev_races.proofs.RaceLemmas.{waits-is-decided}
use Rattle.rev_races.proofs.Waiting.{decide}
use Rattle.rev_conflicts.specs.declared.conflict.Change.{Change}
use Rattle.rev_conflicts.specs.declared.conflict.Change.TheVariants as change
use Rattle.rev_conflicts.specs.declared.conflict.ConflictKind.{ConflictKind}
use Rattle.rev_conflicts.specs.declared.conflict.ConflictKind.TheVariants as kind
use Rattle.rev_conflicts.specs.declared.conflict.Look.{Look}
use Rattle.rev_conflicts.specs.declared.place.Place.TheVariants.{File}
use Rattle.rev_conflicts.specs.Places.{changes, does, look_at, Touches.file as touches_file}
use Rattle.rev_conflicts.specs.Conflicts.{Meet, Ran, Scene, change_at, changes_file, is_by, kind_at, kind_by, runs_first}
use Rattle.rev_conflicts.specs.Laws.{IsToldOf, RacesAreConflicts}

-- what runs before all else makes a file of the manifest
by-some : (edge : ℕ) (o : Option ℕ) → is_by edge o ≡ true → o ≡ Some edge
by-some edge None h = absurd (true≢false (sym h))
by-some edge (Some p) h = ap Some (eqb-true p edge h)

first-makes : (builds : List BuildValue) (files : List (List ℕ)) (edge : ℕ) → runs_first builds files edge ≡ true → MakesOneOf builds files edge
first-makes builds [] edge h = absurd (true≢false (sym h))
first-makes builds (f ∷ fs) edge h = by (is_by edge (producer_of builds f)) refl (λ k. first-makes builds fs edge k) h
  where
    by : (b : Bool) → is_by edge (producer_of builds f) ≡ b → (runs_first builds fs edge ≡ true → MakesOneOf builds fs edge) → (b || runs_first builds fs edge) ≡ true → MakesOneOf builds (f ∷ fs) edge
    by true is rest h = record { out = f; is_output = producer-has builds f edge (by-some edge (producer_of builds f) is); is_file = (0, omega arith, refl) }
    by false is rest h = let m = rest h in record { out = m.out; is_output = m.is_output; is_file = Contains-append_right (f ∷ []) fs m.out m.is_file }

not-waits : (builds : List BuildValue) (a b : ℕ) → waits builds a b ≡ false → Waits builds a b → ⊥
not-waits builds a b none way = true≢false (sym ((waits-is-decided builds a b).1 way) ∙ none)

waits-not : (builds : List BuildValue) (a b : ℕ) → (Waits builds a b → ⊥) → waits builds a b ≡ false
waits-not builds a b none = false_from_ne_true _ (λ h. none ((waits-is-decided builds a b).0 h))

writes-changes : (command : CommandValue) (n : ℕ) → does Writes command n ≡ true → changes command n ≡ true
writes-changes command n h = or_left (does Writes command n || does Deletes command n) (does Temps command n) (or_left (does Writes command n) (does Deletes command n) h)

module _ (s : Scene) (a b number : ℕ) (path : List ℕ) (made_by used_by : ℕ) (made used : CommandValue) (l : Look)
    (a_ran : Ran s made_by a made) (b_ran : Ran s used_by b used) (path_is : slice_get s.paths number ≡ Some path) (shown : get_or s.hidden number false ≡ false)
    (producer : producer_of s.builds path ≡ Some a) (writes : does Writes made number ≡ true) (looks : look_at used (File number) ≡ Some l)
    (others : a ≢ b) (unordered : Waits s.builds b a → ⊥) (later : runs_first s.builds s.files a ≡ false) where
  within : number < length s.paths
  within = slice_get_within s.paths number path path_is

  output : change_at s.builds s.paths a made (File number) ≡ change.Output
  output =
      let both : Some (get_or s.paths number []) ≡ Some path = sym (slice_get-get_or s.paths number [] within) ∙ path_is in
      let there : get_or s.paths number [] ≡ path = cc in
      (λ i. by (writes i) (is_by a ((ap (producer_of s.builds) there ∙ producer) i))) ∙ ap (by true) (eq-eqb a a refl)
    where
      by : Bool → Bool → Change
      by w o = if w then (if o then change.Output else if does Edits made number then change.Edit else change.Undeclared) else if does Deletes made number then change.Delete else change.Temporary

  meet : Meet s a b (File number) made_by used_by
  meet = record {
    made = made;
    used = used;
    maker_ran = a_ran;
    user_ran = b_ran;
    touched = touches_file (writes-changes made number writes) within shown;
    others = others;
    comes_later = later;
    unordered = unordered;
  }

  told : (k : ConflictKind) → kind_at s a b made used (File number) ≡ Some k → IsToldOf s a b number
  unfolding meet
  told k is = record {
    conflict = record { kind = k; maker = a; user = b; place = File number; made_by = made_by; used_by = used_by };
    is = record { meet = meet; kind_is = is };
    place_is = refl;
    edges_are = inl (refl, refl);
  }

  at : (back with_both once : Bool) → waits s.builds a b ≡ back → (changes_file used (File number) && not (runs_first s.builds s.files b)) ≡ with_both → nat_lt a b ≡ once
      → kind_at s a b made used (File number) ≡ kind_by back with_both once change.Output (Some l)
  at back with_both once e f g = λ i. kind_by (e i) (f i) (g i) (output i) (looks i)

  -- both leave the file, and the user has the lesser number
  turned : (changes_file used (File number) && not (runs_first s.builds s.files b)) ≡ true → waits s.builds a b ≡ false → b < a → IsToldOf s a b number
  turned leaves none less =
      let parts = and_parts (changes_file used (File number)) (not (runs_first s.builds s.files b)) leaves in
      let clash : kind_at s b a used made (File number) ≡ Some kind.Clash =
      λ i. kind_by (waits-not s.builds b a unordered i) (and_from (changes_file made (File number)) (not (runs_first s.builds s.files a)) (writes-changes made number writes) (not_from_false (runs_first s.builds s.files a) later) i) (lt-ltb b a less i) (change_at s.builds s.paths b used (File number)) (look_at made (File number)) in
      record {
        conflict = record { kind = kind.Clash; maker = b; user = a; place = File number; made_by = used_by; used_by = made_by };
        is = record {
          meet = record {
            made = used;
            used = made;
            maker_ran = b_ran;
            user_ran = a_ran;
            touched = touches_file parts.0 within shown;
            others = λ e. others (sym e);
            comes_later = not-true (runs_first s.builds s.files b) parts.1;
            unordered = not-waits s.builds a b none;
          };
          kind_is = clash;
        };
        place_is = refl;
        edges_are = inr (refl, refl);
      }

  pub all-told : IsToldOf s a b number
  all-told = elim (decide (waits s.builds a b)) [
    | inl back ↦ told (kind.Cycle l) (at true (changes_file used (File number) && not (runs_first s.builds s.files b)) (nat_lt a b) back refl refl)
    | inr none ↦ elim (decide (changes_file used (File number) && not (runs_first s.builds s.files b))) [
      | inr apart ↦ told (kind.Race l change.Output) (at false false (nat_lt a b) none apart refl)
      | inl leaves ↦ elim (cases_order a b) [
        | inl same ↦ absurd (others same)
        | inr (inl less) ↦ told kind.Clash (at false true true none leaves (lt-ltb a b less))
        | inr (inr more) ↦ turned leaves none more
      ]
    ]
  ]

pub races-are-conflicts : RacesAreConflicts
races-are-conflicts s graph opening events b a path number made_by used_by made used look is same race a_ran b_ran path_is shown producer writes looks =
    all-told s a b number path made_by used_by made used look a_ran b_ran path_is shown producer writes looks race.others
    (subst (λ bs. Waits bs b a → ⊥) (sym same) race.unordered)
    (false_from_ne_true _ (λ h. race.comes_later (subst (λ bs. MakesOneOf bs s.files a) same (first-makes s.builds s.files a h))))

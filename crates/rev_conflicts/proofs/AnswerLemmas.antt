-- What is found is what is told, and with its kind what is to be told.
use Rattle.std.proofs.Common.{◌≡◌, ℕ, ◌<◌, ◌^◌, Bool, true, false, not, ◌&&◌, ◌||◌, List, [], ◌∷◌, length, get_or, map, slice_get, Option, Some, None, ◌⊎◌, inl, inr, refl, sym, ap, subst, ◌∙◌, arith, true≢false, Contains, if◌then◌else◌, nat_lt}
use Rattle.std.specs.Prelude.{◌↔◌, All}
use Rattle.std.specs.List.{AllByRecursion, cons_option, filter_map}
use Rattle.std.specs.List.Sorted.{IsStrictlySortedBy}
use Rattle.std.specs.Option.{option_map}
use Rattle.std.specs.Ordering.{nat_cmp}
use Rattle.std.specs.declared.cmp.Ordering.TheVariants.{Less}
use Rattle.std.specs.Cmp.Lexicographic.{slice_cmp}
use Rattle.std.proofs.Math.ListN.{get_or-map}
use Rattle.std.proofs.lemmas.Bool.{and_parts, cases_lt, or_right}
use Rattle.std.proofs.lemmas.List.{get_or_default, length-map}
use Rattle.std.proofs.lemmas.List.Elements.{All-get_or, Contains-get_or}
use Rattle.std.proofs.lemmas.Option.{slice_get-get_or}
use Rattle.rev_manifest.specs.Manifest.{BuildValue}
use Rattle.rev_graph.proofs.StepLemmas.{Source, kept, source}
use Rattle.rev_waits.specs.Waits.{waits}
use Rattle.rev_observed.specs.CommandValues.{CommandValue}
use Rattle.rev_observed.specs.declared.kind.Kind.TheVariants.{Reads, Stats, Misses, Lists}
use Rattle.rev_conflicts.specs.declared.conflict.Change.{Change}
use Rattle.rev_conflicts.specs.declared.conflict.Conflict.{Conflict}
use Rattle.rev_conflicts.specs.declared.conflict.ConflictKind.{ConflictKind}
use Rattle.rev_conflicts.specs.declared.conflict.Look.{Look}
use Rattle.rev_conflicts.specs.declared.conflict.Look.TheVariants as look
use Rattle.rev_conflicts.specs.declared.place.Place.{Place}
use Rattle.rev_conflicts.specs.declared.place.Place.TheVariants.{File, Entries}
use Rattle.rev_conflicts.specs.declared.told.Told.{Told}
use Rattle.rev_conflicts.specs.Places.{changes, does, look_at}
use Rattle.rev_conflicts.specs.Conflicts.{Meet, Scene, change_at, changes_file, kind_at, kind_by, runs_first}
use Rattle.rev_conflicts.specs.Answer.{AreConflicts, IsConflict, conflict_key}
use Rattle.rev_conflicts.specs.Tables.{AreEarly, AreMet, AreTouched, HasAt, IsApart, IsKeyAt, IsKeyOf, IsMet, IsOfMeet, SomeBelow, kind_among, kind_told, meet_key, of_kind, told_key, touching, uses_at, with_kind}
use Rattle.rev_conflicts.proofs.FoundLemmas.{one-told}
use Rattle.rev_conflicts.proofs.MeetLemmas.{past-end}

-- ALL COMMANDS IN ANOTHER ORDER
-- each of these numbers is a command's
pub place-below : (numbers items : List ℕ) (n count j : ℕ) → ((number : ℕ) → Contains numbers number ↔ (number < n)) → items ≡ numbers → n ≡ count → j < length items → get_or items j 0 < count
place-below numbers items n count j are is same within =
    let there : Contains numbers (get_or items j 0) = subst (λ (xs : List ℕ). Contains xs (get_or items j 0)) is (Contains-get_or items j 0 within) in
    let below = (are (get_or items j 0)).0 there in
    omega (arith, below, same)

-- what holds of each of these numbers holds of each command's
pub along-all : (Q : ℕ → Type 0) (numbers items : List ℕ) (n count end : ℕ) → ((number : ℕ) → Contains numbers number ↔ (number < n)) → items ≡ numbers → n ≡ count → end ≡ length items
    → ((j : ℕ) → j < end → Q (get_or items j 0)) → (i : ℕ) → i < count → Q i
along-all Q numbers items n count end are is same all each i below =
    let there : Contains items i = subst (λ (xs : List ℕ). Contains xs i) (sym is) ((are i).1 (omega (arith, below, same))) in
    let within = there.1 in
    subst Q (get_or_default items there.0 0 i there.1 ∙ there.2) (each there.0 (omega (arith, within, all)))

-- NUMBERS AND WHAT THEY TELL
contains-key : (told : List Told) (r : Told) → Contains told r → Contains (map told_key told) (told_key r)
contains-key told r (k, within, at) = (k, omega (arith, within, length-map told told_key), get_or-map told_key told k r ∙ ap told_key at)

contains-told : (told : List Told) (r : Told) → Contains (map told_key told) (told_key r) → Contains told r
contains-told told r (k, within, at) =
    (k, omega (arith, within, length-map told told_key), one-told (get_or told k r) r (sym (get_or-map told_key told k r) ∙ at))

-- the numbers of edges are small
edge-small : (edges : List ℕ) (n count : ℕ) → All (λ e. e < count) edges → count < 2 ^ 32 → get_or edges n 0 < 2 ^ 32
edge-small edges n count all small = elim (cases_lt n (length edges)) [
  | inl within ↦ let e = All-get_or (λ e. e < count) edges n 0 within all in omega (arith, e, small)
  | inr past ↦ let none = past-end edges n 0 past in omega (arith, none)
]

module _ (builds : List BuildValue) (early : List Bool) (edges : List ℕ) (paths : List (List ℕ)) (hidden : List Bool) (commands : List CommandValue) (files folders : List (List ℕ)) where
  has-at : (p : Place) (c : ℕ) → Contains (touching files folders p) c → HasAt files folders p c
  has-at (File n) c h = h
  has-at (Entries n) c h = h

  at-has : (p : Place) (c : ℕ) → HasAt files folders p c → Contains (touching files folders p) c
  at-has (File n) c h = h
  at-has (Entries n) c h = h

  pub keys-fit : (n count : ℕ) (keys : List (List ℕ)) → All (λ e. e < count) edges → count < 2 ^ 32 → ((k : List ℕ) → Contains keys k → SomeBelow (λ i. IsKeyOf builds early edges files folders i k) n) → All IsOfMeet keys
  keys-fit n count keys all small sound k d within =
      let s = sound (get_or keys k d) (Contains-get_or keys k d within) in
      let key = s.holds.key in
      record {
        told = record { maker = get_or edges key.made_by 0; user = get_or edges s.number 0; place = s.holds.place; made_by = key.made_by; used_by = s.number };
        is = key.is;
        maker = edge-small edges key.made_by count all small;
        user = edge-small edges s.number count all small;
      }

  -- what was found of one command is met
  met-by : (t : Told) (i : ℕ) (place : Place) → AreTouched paths hidden commands files folders → i < length commands → (key : IsKeyAt builds early edges files folders i place (told_key t)) → IsMet builds early edges paths hidden commands t
  met-by t i place are within key =
      let same : t ≡ record { maker = get_or edges key.made_by 0; user = get_or edges i 0; place = place; made_by = key.made_by; used_by = i } =
      one-told t (record { maker = get_or edges key.made_by 0; user = get_or edges i 0; place = place; made_by = key.made_by; used_by = i }) key.is in
      subst (IsMet builds early edges paths hidden commands) (sym same) (record {
        touches = (are.exact place key.made_by).0 (has-at place key.made_by key.among);
        uses = within;
        maker_is = refl;
        user_is = refl;
        apart = key.apart;
      })

  key-met : (t : Told) → AreTouched paths hidden commands files folders → IsMet builds early edges paths hidden commands t → IsKeyAt builds early edges files folders t.used_by t.place (told_key t)
  key-met t are met = record {
    made_by = t.made_by;
    among = at-has t.place t.made_by ((are.exact t.place t.made_by).1 met.touches);
    apart = subst (λ m. IsApart builds early (get_or edges t.used_by 0) m) (sym met.maker_is) (subst (λ u. IsApart builds early u t.maker) (sym met.user_is) met.apart);
    is = λ i. meet_key (sym met.maker_is i) (sym met.user_is i) t.place t.made_by t.used_by;
  }

  pub are-met : (n : ℕ) (keys : List (List ℕ)) (told : List Told) → n ≡ length commands → AreTouched paths hidden commands files folders
      → ((k : List ℕ) → Contains keys k → SomeBelow (λ i. IsKeyOf builds early edges files folders i k) n)
      → ((i : ℕ) (place : Place) (k : List ℕ) (used : CommandValue) → i < n → get_or commands i used ≡ used → uses_at used place ≡ true → IsKeyAt builds early edges files folders i place k → Contains keys k)
      → map told_key told ≡ keys → IsStrictlySortedBy (slice_cmp nat_cmp) (map told_key told) → AreMet builds early edges paths hidden commands told
  are-met n keys told all are sound whole same rising = record {
    sound = λ t h.
        let s = sound (told_key t) (subst (λ ks. Contains ks (told_key t)) same (contains-key told t h)) in
        let b = s.below in
        met-by t s.number s.holds.place are (omega (arith, b, all)) s.holds.key;
    whole = λ t used met at uses.
        let w = met.uses in
        contains-told told t (subst (λ ks. Contains ks (told_key t)) (sym same) (whole t.used_by t.place (told_key t) used (omega (arith, w, all)) at uses (key-met t are met)));
    rising = rising;
  }

-- WITH THEIR KINDS
-- what has a kind has to do with the place
or3 : (command : CommandValue) (n : ℕ) → changes command n ≡ true → uses_at command (File n) ≡ true
or3 command n h = or_right (does Reads command n || does Misses command n || does Stats command n) (changes command n) h

look-uses : (command : CommandValue) (place : Place) (l : Look) → look_at command place ≡ Some l → uses_at command place ≡ true
look-uses command (File n) l h = by (does Reads command n) (does Misses command n) (does Stats command n) h
  where
    by : (r m s : Bool) → (if r then Some look.Read else if m then Some look.Miss else if s then Some look.Stat else None) ≡ Some l → (r || m || s || changes command n) ≡ true
    by true m s h = refl
    by false true s h = refl
    by false false true h = refl
    by false false false h = let no : None ≡ Some l = h in absurd (true≢false cc)
look-uses command (Entries n) l h = by (does Lists command n) h
  where
    by : (t : Bool) → (if t then Some look.List else None) ≡ Some l → t ≡ true
    by true h = refl
    by false h = let no : None ≡ Some l = h in absurd (true≢false cc)

kind-uses-by : (back both once : Bool) (change : Change) (o : Option Look) (k : ConflictKind) → kind_by back both once change o ≡ Some k → (both ≡ true) ⊎ ((l : Look) × (o ≡ Some l))
kind-uses-by back both once change (Some l) k h = inr (l, refl)
kind-uses-by true both once change None k h = let no : None ≡ Some k = h in absurd (true≢false cc)
kind-uses-by false true once change None k h = inl refl
kind-uses-by false false once change None k h = let no : None ≡ Some k = h in absurd (true≢false cc)

file-uses : (command : CommandValue) (place : Place) → changes_file command place ≡ true → uses_at command place ≡ true
file-uses command (File n) h = or3 command n h
file-uses command (Entries n) h = absurd (true≢false (sym h))

kind-uses : (s : Scene) (m u : ℕ) (made used : CommandValue) (place : Place) (k : ConflictKind) → kind_at s m u made used place ≡ Some k → uses_at used place ≡ true
kind-uses s m u made used place k h = elim (kind-uses-by (waits s.builds m u) (changes_file used place && not (runs_first s.builds s.files u)) (nat_lt m u) (change_at s.builds s.paths m made place) (look_at used place) k h) [
  | inl both ↦ file-uses used place (and_parts (changes_file used place) (not (runs_first s.builds s.files u)) both).0
  | inr looks ↦ look-uses used place looks.0 looks.1
]

module _ (s : Scene) (early : List Bool) (are_early : AreEarly s.builds s.files early) (told : List Told) (are : AreMet s.builds early s.edges s.paths s.hidden s.commands told) where
  command-is : (n : ℕ) (c : CommandValue) → n < length s.commands → get_or s.commands n c ≡ c → slice_get s.commands n ≡ Some c
  command-is n c within at = slice_get-get_or s.commands n c within ∙ ap Some at

  -- a kind is that of both commands
  kind-is : (t : Told) (made used : CommandValue) → slice_get s.commands t.made_by ≡ Some made → slice_get s.commands t.used_by ≡ Some used → kind_told s t ≡ kind_at s t.maker t.user made used t.place
  kind-is t made used a b = ap (λ o. kind_among s t o (slice_get s.commands t.used_by)) a ∙ ap (kind_among s t (Some made)) b

  meet-of : (t : Told) (met : IsMet s.builds early s.edges s.paths s.hidden s.commands t) (used : CommandValue) → get_or s.commands t.used_by used ≡ used → Meet s t.maker t.user t.place t.made_by t.used_by
  meet-of t met used at = record {
    made = met.touches.command;
    used = used;
    maker_ran = record { within = met.touches.within; is = met.touches.is; of = met.maker_is };
    user_ran = record { within = met.uses; is = at; of = met.user_is };
    touched = met.touches.touches;
    others = met.apart.others;
    comes_later = sym (are_early.exact t.maker) ∙ met.apart.comes_later;
    unordered = met.apart.unordered;
  }

  -- the kind that was found
  found-kind : (t : Told) (c : Conflict) (o : Option ConflictKind) → option_map (of_kind t) o ≡ Some c → (k : ConflictKind) × (o ≡ Some k) × (of_kind t k ≡ c)
  found-kind t c None h = let no : None ≡ Some c = h in absurd (true≢false cc)
  found-kind t c (Some k) h = let same : of_kind t k ≡ c = cc in (k, refl, same)

  forth : (c : Conflict) → Contains (filter_map (with_kind s) told) c → IsConflict s c
  unfolding meet-of found-kind
  forth c h =
      let src : Source (with_kind s) told c = source (with_kind s) told c h in
      let t = src.item in
      let met = are.sound src.item src.is_item in
      let used = get_or s.commands t.used_by met.touches.command in
      let at : get_or s.commands src.item.used_by (get_or s.commands src.item.used_by met.touches.command) ≡ get_or s.commands src.item.used_by met.touches.command =
      get_or_default s.commands t.used_by (get_or s.commands t.used_by met.touches.command) met.touches.command met.uses in
      let found = found-kind t c (kind_told s t) src.gives in
      let kind : kind_at s src.item.maker src.item.user met.touches.command (get_or s.commands src.item.used_by met.touches.command) src.item.place ≡ Some found.0 =
      sym (kind-is t met.touches.command used (command-is t.made_by met.touches.command met.touches.within met.touches.is) (command-is t.used_by used met.uses at)) ∙ found.1 in
      subst (IsConflict s) found.2 (record { meet = meet-of t met used at; kind_is = kind })

  abbrev bare : Conflict → Told
  bare c = record { maker = c.maker; user = c.user; place = c.place; made_by = c.made_by; used_by = c.used_by }

  met-of : (c : Conflict) → IsConflict s c → IsMet s.builds early s.edges s.paths s.hidden s.commands (bare c)
  met-of c is =
      let m = is.meet in
      record {
        touches = record { command = m.made; within = m.maker_ran.within; is = m.maker_ran.is; touches = m.touched };
        uses = m.user_ran.within;
        maker_is = m.maker_ran.of;
        user_is = m.user_ran.of;
        apart = record { others = m.others; comes_later = are_early.exact c.maker ∙ m.comes_later; unordered = m.unordered };
      }

  back : (c : Conflict) → IsConflict s c → Contains (filter_map (with_kind s) told) c
  back c is =
      let m = is.meet in
      let there = are.whole (bare c) m.used (met-of c is) m.user_ran.is (kind-uses s c.maker c.user m.made m.used c.place c.kind is.kind_is) in
      let kind : kind_told s (bare c) ≡ Some c.kind =
      kind-is (bare c) m.made m.used (command-is c.made_by m.made m.maker_ran.within m.maker_ran.is) (command-is c.used_by m.used m.user_ran.within m.user_ran.is) ∙ is.kind_is in
      kept (with_kind s) told (bare c) c there (ap (option_map (of_kind (bare c))) kind)

  -- THE ORDER
  key-stays : (t : Told) (c : Conflict) → with_kind s t ≡ Some c → conflict_key c ≡ told_key t
  key-stays t c h = let found = found-kind t c (kind_told s t) h in ap conflict_key (sym found.2)

  abbrev Above : List ℕ → List (List ℕ) → Type 0
  Above k ks = AllByRecursion (λ y. slice_cmp nat_cmp k y ≡ Less) ks

  above-kept : (k : List ℕ) (ts : List Told) → Above k (map told_key ts) → Above k (map conflict_key (filter_map (with_kind s) ts))
  above-kept k [] h = tt
  above-kept k (t ∷ ts) h = by (with_kind s t) refl (above-kept k ts h.1)
    where
      by : (o : Option Conflict) → with_kind s t ≡ o → Above k (map conflict_key (filter_map (with_kind s) ts)) → Above k (map conflict_key (cons_option o (filter_map (with_kind s) ts)))
      by None e rest = rest
      by (Some c) e rest = (subst (λ x. slice_cmp nat_cmp k x ≡ Less) (sym (key-stays t c e)) h.0, rest)

  rising-kept : (ts : List Told) → IsStrictlySortedBy (slice_cmp nat_cmp) (map told_key ts) → IsStrictlySortedBy (slice_cmp nat_cmp) (map conflict_key (filter_map (with_kind s) ts))
  unfolding IsStrictlySortedBy
  rising-kept [] h = tt
  rising-kept (t ∷ ts) h = by (with_kind s t) refl (rising-kept ts h.1)
    where
      by : (o : Option Conflict) → with_kind s t ≡ o → IsStrictlySortedBy (slice_cmp nat_cmp) (map conflict_key (filter_map (with_kind s) ts))
          → IsStrictlySortedBy (slice_cmp nat_cmp) (map conflict_key (cons_option o (filter_map (with_kind s) ts)))
      by None e rest = rest
      by (Some c) e rest = (subst (λ x. Above x (map conflict_key (filter_map (with_kind s) ts))) (sym (key-stays t c e)) (above-kept (told_key t) ts h.0), rest)

  pub are-conflicts : (conflicts : List Conflict) → conflicts ≡ filter_map (with_kind s) told → AreConflicts s conflicts
  are-conflicts conflicts is = subst (AreConflicts s) (sym is) (record {
    exact = λ c. (forth c, back c);
    rising = rising-kept told are.rising;
  })

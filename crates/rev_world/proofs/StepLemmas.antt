-- What steps leave and ensure, and what a look depends on.
use Rattle.std.proofs.Common.{◌≡◌, ℕ, Bool, true, false, not, List, [], ◌∷◌, ◌++◌, Some, inl, inr, refl, sym, ap, subst, ◌∙◌, true≢false, append_assoc, if◌then◌else◌}
use Rattle.std.specs.Prelude.{◌≢◌, ◌⊎◌, ◌&&◌, ◌||◌, bytes_eq}
use Rattle.std.specs.List.{list_any}
use Rattle.std.proofs.lemmas.Bool.{and_from, and_parts, cases_Bool, eq-eqb, ne_eqb, not_from_false, or_left, or_right}
use Rattle.std.proofs.lemmas.Slice.Eq.{bytes_eq-Decides}
use Rattle.rev_world.specs.Commands.{Act, Act.Ask, Act.Leave, Act.Ensure, Act.End, Disk, Look, Look.Entry, Look.Way, Look.Names, Place, Seen, Seen.Holds, Seen.Shows, Step, Step.Saw, Step.Left, Step.Ensured, Value, Value.Nothing, Value.File, Value.Folder, Value.Link, see, pass, shape, is_asked, is_passed, is_pass, is_blocked, is_end, is_ensured, is_left, is_look, place_eq}
use Rattle.rev_world.specs.Schedules.{asks, ensure_at, ensures_at, leaves, passes, step_of, uses, with_change, with_step}
use Rattle.rev_world.specs.Pools.{last_change}

-- PLACES
pub place-same : (place : Place) → place_eq place place ≡ true
place-same [] = refl
place-same (name ∷ folder) = and_from (bytes_eq name name) (place_eq folder folder) ((bytes_eq-Decides name name).1 refl) (place-same folder)

pub place-is : (one other : Place) → place_eq one other ≡ true → one ≡ other
place-is [] [] h = refl
place-is [] (name ∷ folder) h = absurd (true≢false (sym h))
place-is (name ∷ folder) [] h = absurd (true≢false (sym h))
place-is (name ∷ folder) (other ∷ there) h =
    let parts = and_parts (bytes_eq name other) (place_eq folder there) h in
    let head : name ≡ other = (bytes_eq-Decides name other).0 parts.0 in
    let tail : folder ≡ there = place-is folder there parts.1 in
    cc

-- LISTS, THE NEWEST FIRST
-- old is new before its last steps
abbrev pub Grown : List Step → List Step → Type 0
Grown old new = (later : List Step) × (new ≡ later ++ old)

pub grown-same : (steps : List Step) → Grown steps steps
grown-same steps = ([], refl)

pub grown-one : (step : Step) (steps : List Step) → Grown steps (step ∷ steps)
grown-one step steps = (step ∷ [], refl)

pub grown-on : {a b c : List Step} → Grown a b → Grown b c → Grown a c
grown-on {a} (later, e) (more, f) = (more ++ later, f ∙ ap (λ steps. more ++ steps) e ∙ sym (append_assoc more later a))

any-later : (test : Step → Bool) (later old : List Step) → list_any test old ≡ true → list_any test (later ++ old) ≡ true
any-later test [] old h = h
any-later test (step ∷ later) old h = or_right (test step) (list_any test (later ++ old)) (any-later test later old h)

pub any-grown : (test : Step → Bool) {old new : List Step} → Grown old new → list_any test old ≡ true → list_any test new ≡ true
any-grown test {old} (later, e) h = subst (λ steps. list_any test steps ≡ true) (sym e) (any-later test later old h)

asks-later : (place : Place) (later old : List Step) → asks place old ≡ true → asks place (later ++ old) ≡ true
asks-later place [] old h = h
asks-later place (step ∷ later) old h = or_right (is_look place step && not (ensures_at place (later ++ old))) (asks place (later ++ old)) (asks-later place later old h)

pub asks-grown : (place : Place) {old new : List Step} → Grown old new → asks place old ≡ true → asks place new ≡ true
asks-grown place {old} (later, e) h = subst (λ steps. asks place steps ≡ true) (sym e) (asks-later place later old h)

-- some steps are none, or there is a first one
pub none-or-first : (steps : List Step) → (steps ≡ []) ⊎ ((front : List Step) × (first : Step) × (steps ≡ front ++ first ∷ []))
none-or-first [] = inl refl
none-or-first (step ∷ steps) = elim (none-or-first steps) [
  | inl none ↦ inr ([], step, ap (λ rest. step ∷ rest) none)
  | inr (front, first, e) ↦ inr (step ∷ front, first, ap (λ rest. step ∷ rest) e)
]

-- What has grown is the same, or has one step more that it once was without.
pub same-or-next : {old new : List Step} → Grown old new → (old ≡ new) ⊎ ((step : Step) × Grown (step ∷ old) new)
same-or-next {old} {new} (later, e) = elim (none-or-first later) [
  | inl none ↦ inl (sym (e ∙ ap (λ steps. steps ++ old) none))
  | inr (front, step, f) ↦ inr (step, (front, e ∙ ap (λ steps. steps ++ old) f ∙ append_assoc front (step ∷ []) old))
]

pub none-begun : (steps : List Step) → (steps ≢ [] → ⊥) → steps ≡ []
none-begun [] h = refl
none-begun (step ∷ steps) h = absurd (h (λ e. cc))

pub any-begun : (test : Step → Bool) (steps : List Step) → list_any test steps ≡ true → steps ≢ []
any-begun test steps h e = true≢false (sym h ∙ ap (list_any test) e)

-- THE LAST CHANGE OF A PLACE
-- a step that neither leaves nor ensures the place keeps what is there
pub record IsKept (place : Place) (step : Step) : Type 0 where
  pub not_left : is_left place step ≡ false
  pub not_ensured : is_ensured place step ≡ false

pub last-kept : (place : Place) (step : Step) (steps : List Step) → IsKept place step → last_change place (step ∷ steps) ≡ last_change place steps
last-kept place (Saw look seen) steps h = refl
last-kept place (Left left value) steps h = ap (λ b. if b then Some value else last_change place steps) h.not_left
last-kept place (Ensured ensured) steps h = ap (λ b. if b then Some Folder else last_change place steps) h.not_ensured

pub disk-kept : (place : Place) (step : Step) (disk : Disk) → IsKept place step → with_change disk step place ≡ disk place
disk-kept place (Saw look seen) disk h = refl
disk-kept place (Left left value) disk h = ap (λ b. if b then value else disk place) h.not_left
disk-kept place (Ensured ensured) disk h = ap (λ b. if b then Folder else disk place) h.not_ensured

pub any-kept : (test : Step → Bool) (step : Step) (steps : List Step) → test step ≡ false → list_any test (step ∷ steps) ≡ list_any test steps
any-kept test step steps h = ap (λ b. b || list_any test steps) h

-- a step that leaves it
pub record IsLeft (place : Place) (step : Step) (steps : List Step) (disk : Disk) : Type 0 where
  pub value : Value
  pub last : last_change place (step ∷ steps) ≡ Some value
  pub there : with_change disk step place ≡ value
  pub not_ensured : is_ensured place step ≡ false

pub left-last : (place : Place) (step : Step) (steps : List Step) (disk : Disk) → is_left place step ≡ true → IsLeft place step steps disk
left-last place (Saw look seen) steps disk h = absurd (true≢false (sym h))
left-last place (Left left value) steps disk h = record {
  value = value;
  last = ap (λ b. if b then Some value else last_change place steps) h;
  there = ap (λ b. if b then value else disk place) h;
  not_ensured = refl;
}
left-last place (Ensured ensured) steps disk h = absurd (true≢false (sym h))

-- a step that ensures it
pub record IsMade (place : Place) (step : Step) (steps : List Step) (disk : Disk) : Type 0 where
  pub last : last_change place (step ∷ steps) ≡ Some Folder
  pub there : with_change disk step place ≡ Folder
  pub not_left : is_left place step ≡ false

pub ensured-last : (place : Place) (step : Step) (steps : List Step) (disk : Disk) → is_ensured place step ≡ true → IsMade place step steps disk
ensured-last place (Saw look seen) steps disk h = absurd (true≢false (sym h))
ensured-last place (Left left value) steps disk h = absurd (true≢false (sym h))
ensured-last place (Ensured ensured) steps disk h = record {
  last = ap (λ b. if b then Some Folder else last_change place steps) h;
  there = ap (λ b. if b then Folder else disk place) h;
  not_left = refl;
}

-- what is left, ensured or asked for is used
pub uses-left : (place : Place) (steps : List Step) → leaves place steps ≡ true → uses place steps ≡ true
uses-left place steps h = or_left (leaves place steps) (ensures_at place steps || (asks place steps || passes place steps)) h

pub uses-ensured : (place : Place) (steps : List Step) → ensures_at place steps ≡ true → uses place steps ≡ true
uses-ensured place steps h = or_right (leaves place steps) (ensures_at place steps || (asks place steps || passes place steps)) (or_left (ensures_at place steps) (asks place steps || passes place steps) h)

pub uses-asked : (place : Place) (steps : List Step) → asks place steps ≡ true → uses place steps ≡ true
uses-asked place steps h = or_right (leaves place steps) (ensures_at place steps || (asks place steps || passes place steps)) (or_right (ensures_at place steps) (asks place steps || passes place steps) (or_left (asks place steps) (passes place steps) h))

pub uses-passed : (place : Place) (steps : List Step) → passes place steps ≡ true → uses place steps ≡ true
uses-passed place steps h = or_right (leaves place steps) (ensures_at place steps || (asks place steps || passes place steps)) (or_right (ensures_at place steps) (asks place steps || passes place steps) (or_right (asks place steps) (passes place steps) h))

pub uses-grown-pass : (place : Place) (look : Look) (seen : Seen) (steps : List Step) {new : List Step} → is_passed place look ≡ true → Grown (Saw look seen ∷ steps) new → uses place new ≡ true
uses-grown-pass place look seen steps {new} passed grown = uses-passed place new (any-grown (is_pass place) grown (or_left (is_passed place look) (passes place steps) passed))

-- LOOKS
-- two disks that agree where a look asks show it the same
pub see-same : (one other : Disk) (look : Look) → ((place : Place) → is_asked place look ≡ true → one place ≡ other place) → ((place : Place) → is_passed place look ≡ true → pass (one place) ≡ pass (other place)) → see one look ≡ see other look
see-same one other (Entry place) agree passed = ap Holds (agree place (place-same place))
see-same one other (Way place) agree passed = ap Holds (passed place (place-same place))
see-same one other (Names test) agree passed = ap Shows (λ i place. each place i)
  where
    by : (b : Bool) (x y : Value) → (b ≡ true → x ≡ y) → (if b then shape x else Nothing) ≡ (if b then shape y else Nothing)
    by true x y e = ap shape (e refl)
    by false x y e = refl

    each : (place : Place) → (if test place then shape (one place) else Nothing) ≡ (if test place then shape (other place) else Nothing)
    each place = by (test place) (one place) (other place) (agree place)

-- to look at a place that was not ensured before is to ask for it
pub asks-first : (place : Place) (look : Look) (seen : Seen) (steps : List Step) → is_asked place look ≡ true → ensures_at place steps ≡ false → asks place (Saw look seen ∷ steps) ≡ true
asks-first place look seen steps asked not_before =
    or_left (is_asked place look && not (ensures_at place steps)) (asks place steps)
    (and_from (is_asked place look) (not (ensures_at place steps)) asked (not_from_false (ensures_at place steps) not_before))

-- on the way to a place below, nothing and a folder are one
pub pass-free : (value : Value) → is_blocked value ≡ false → pass value ≡ Folder
pass-free Nothing h = refl
pass-free (File content) h = absurd (true≢false h)
pass-free Folder h = refl
pass-free (Link text) h = absurd (true≢false h)

pub blocked-pass : (value : Value) → is_blocked value ≡ is_blocked (pass value)
blocked-pass Nothing = refl
blocked-pass (File content) = refl
blocked-pass Folder = refl
blocked-pass (Link text) = refl

-- to ensure a folder is a step by what stands there
pub ensure-free : (place : Place) (value : Value) → is_blocked value ≡ false → ensure_at place value ≡ Ensured place
ensure-free place value free = ap (λ b. if b then Saw (Entry place) (Holds value) else Ensured place) free

pub ensure-blocked : (place : Place) (value : Value) → is_blocked value ≡ true → ensure_at place value ≡ Saw (Entry place) (Holds value)
ensure-blocked place value blocked = ap (λ b. if b then Saw (Entry place) (Holds value) else Ensured place) blocked

-- what has ended does no step
pub no-step : (disk : Disk) (act : Act) (step : Step) → is_end act ≡ true → step_of disk act ≡ Some step → ⊥
no-step disk (Ask look) step over is = true≢false (sym over)
no-step disk (Leave place value) step over is = true≢false (sym over)
no-step disk (Ensure place) step over is = true≢false (sym over)
no-step disk (End status) step over is = cc

-- a step that ensures a place is done where nothing else stands
pub ensured-free : (disk : Disk) (act : Act) (step : Step) (place : Place) → step_of disk act ≡ Some step → is_ensured place step ≡ true → is_blocked (disk place) ≡ false
ensured-free disk (Ask look) step place is h =
    let same : Saw look (see disk look) ≡ step = cc in
    absurd (true≢false (sym h ∙ sym (ap (is_ensured place) same)))
ensured-free disk (Leave left value) step place is h =
    let same : Left left value ≡ step = cc in
    absurd (true≢false (sym h ∙ sym (ap (is_ensured place) same)))
ensured-free disk (Ensure asked) step place is h = elim (cases_Bool (is_blocked (disk asked))) [
  | inl blocked ↦
      let by = ensure-blocked asked (disk asked) blocked in
      let same : Saw (Entry asked) (Holds (disk asked)) ≡ step = cc in
      absurd (true≢false (sym h ∙ sym (ap (is_ensured place) same)))
  | inr free ↦
      let by = ensure-free asked (disk asked) free in
      let same : step ≡ Ensured asked = cc in
      let at : asked ≡ place = place-is asked place (ap (is_ensured place) (sym same) ∙ h) in
      ap (λ p. is_blocked (disk p)) (sym at) ∙ free
]
ensured-free disk (End status) step place is h = cc

-- EDGES
pub with-same : (steps : ℕ → List Step) (edge : ℕ) (step : Step) → with_step steps edge step edge ≡ step ∷ steps edge
with-same steps edge step = ap (λ b. if b then step ∷ steps edge else steps edge) (eq-eqb edge edge refl)

pub with-other : (steps : ℕ → List Step) (edge : ℕ) (step : Step) (other : ℕ) → other ≢ edge → with_step steps edge step other ≡ steps other
with-other steps edge step other apart = ap (λ b. if b then step ∷ steps other else steps other) (ne_eqb other edge apart)

-- What steps leave, and what a look depends on.
use Rattle.std.proofs.Common.{◌≡◌, ℕ, Bool, true, false, List, [], ◌∷◌, ◌++◌, Option, Some, None, inl, inr, refl, sym, ap, subst, ◌∙◌, true≢false, append_assoc, if◌then◌else◌}
use Rattle.std.specs.Prelude.{◌≢◌, ◌⊎◌, ◌&&◌, ◌||◌, bytes_eq, is_some}
use Rattle.std.specs.List.{list_any}
use Rattle.std.proofs.lemmas.Bool.{cases_Bool, eq-eqb, ne_eqb, false_from_ne_true}
use Rattle.std.proofs.lemmas.Slice.Eq.{bytes_eq-Decides}
use Rattle.rev_outcome.specs.Commands.{Act, Act.Ask, Act.Leave, Act.End, Disk, Look, Look.File, Look.Names, Seen.Holds, Seen.Present, Step, Step.Saw, Step.Left, see, is_asked, is_end, is_left, is_used}
use Rattle.rev_outcome.specs.Schedules.{leaves, step_of, uses, with_left, with_step}

-- LISTS, THE NEWEST FIRST
-- old is new before its last steps
abbrev pub Grown : List Step → List Step → Type 0
Grown old new = (later : List Step) × (new ≡ later ++ old)

pub grown-same : (steps : List Step) → Grown steps steps
grown-same steps = ([], refl)

pub grown-one : (step : Step) (steps : List Step) → Grown steps (step ∷ steps)
grown-one step steps = (step ∷ [], refl)

pub grown-on : {a b c : List Step} → Grown a b → Grown b c → Grown a c
grown-on {a} (later, e) (more, f) = (more ++ later, f ∙ ap (λ steps. more ++ steps) e ∙ sym (append_assoc more later a))

any-later : (test : Step → Bool) (later old : List Step) → list_any test old ≡ true → list_any test (later ++ old) ≡ true
any-later test [] old h = h
any-later test (step ∷ later) old h = either (test step) (list_any test (later ++ old)) (any-later test later old h)
  where
    either : (a b : Bool) → b ≡ true → (a || b) ≡ true
    either true b e = refl
    either false b e = e

pub any-grown : (test : Step → Bool) {old new : List Step} → Grown old new → list_any test old ≡ true → list_any test new ≡ true
any-grown test {old} (later, e) h = subst (λ steps. list_any test steps ≡ true) (sym e) (any-later test later old h)

pub none-before : (test : Step → Bool) {old new : List Step} → Grown old new → list_any test new ≡ false → list_any test old ≡ false
none-before test grown none = false_from_ne_true _ (λ h. true≢false (sym (any-grown test grown h) ∙ none))

-- some steps are none, or there is a first one
pub none-or-first : (steps : List Step) → (steps ≡ []) ⊎ ((front : List Step) × (first : Step) × (steps ≡ front ++ first ∷ []))
none-or-first [] = inl refl
none-or-first (step ∷ steps) = elim (none-or-first steps) [
  | inl none ↦ inr ([], step, ap (λ rest. step ∷ rest) none)
  | inr (front, first, e) ↦ inr (step ∷ front, first, ap (λ rest. step ∷ rest) e)
]

-- What has grown is the same, or has one step more that it once was without.
pub same-or-next : {old new : List Step} → Grown old new → (old ≡ new) ⊎ ((step : Step) × Grown (step ∷ old) new)
same-or-next {old} {new} (later, e) = elim (none-or-first later) [
  | inl none ↦ inl (sym (e ∙ ap (λ steps. steps ++ old) none))
  | inr (front, step, f) ↦ inr (step, (front, e ∙ ap (λ steps. steps ++ old) f ∙ append_assoc front (step ∷ []) old))
]

pub none-begun : (steps : List Step) → (steps ≢ [] → ⊥) → steps ≡ []
none-begun [] h = refl
none-begun (step ∷ steps) h = absurd (h (λ e. cc))

pub any-begun : (test : Step → Bool) (steps : List Step) → list_any test steps ≡ true → steps ≢ []
any-begun test steps h e = true≢false (sym h ∙ ap (list_any test) e)

-- THE LAST THAT IS LEFT AT A PATH
abbrev pub last_left : List ℕ → List Step → Option (Option (List ℕ))
last_left path [] = None
last_left path (Saw look seen ∷ steps) = last_left path steps
last_left path (Left left content ∷ steps) = if bytes_eq left path then Some content else last_left path steps

pub last-none : (path : List ℕ) (steps : List Step) → leaves path steps ≡ false → last_left path steps ≡ None
last-none path [] h = refl
last-none path (Saw look seen ∷ steps) h = last-none path steps h
last-none path (Left left content ∷ steps) h = by (bytes_eq left path) (λ none. last-none path steps none) h
  where
    by : (b : Bool) → (leaves path steps ≡ false → last_left path steps ≡ None) → (b || leaves path steps) ≡ false → (if b then Some content else last_left path steps) ≡ None
    by true rest e = absurd (true≢false e)
    by false rest e = rest e

pub last-leaves : (path : List ℕ) (steps : List Step) (content : Option (List ℕ)) → last_left path steps ≡ Some content → leaves path steps ≡ true
last-leaves path steps content h = elim (cases_Bool (leaves path steps)) [
  | inl is ↦ is
  | inr none ↦
      let no : None ≡ Some content = sym (last-none path steps none) ∙ h in
      cc
]

-- a step that does not leave the path keeps what is there, and who left it
pub last-kept : (path : List ℕ) (step : Step) (steps : List Step) → is_left path step ≡ false → last_left path (step ∷ steps) ≡ last_left path steps
last-kept path (Saw look seen) steps h = refl
last-kept path (Left left content) steps h = ap (λ b. if b then Some content else last_left path steps) h

pub leaves-kept : (path : List ℕ) (step : Step) (steps : List Step) → is_left path step ≡ false → leaves path (step ∷ steps) ≡ leaves path steps
leaves-kept path step steps h = ap (λ b. b || leaves path steps) h

pub disk-kept : (path : List ℕ) (step : Step) (disk : Disk) → is_left path step ≡ false → with_left disk step path ≡ disk path
disk-kept path (Saw look seen) disk h = refl
disk-kept path (Left left content) disk h = ap (λ b. if b then content else disk path) h

-- a step that leaves it is the last one that does
pub record IsLeft (path : List ℕ) (step : Step) (steps : List Step) (disk : Disk) : Type 0 where
  pub content : Option (List ℕ)
  pub last : last_left path (step ∷ steps) ≡ Some content
  pub there : with_left disk step path ≡ content

pub left-last : (path : List ℕ) (step : Step) (steps : List Step) (disk : Disk) → is_left path step ≡ true → IsLeft path step steps disk
left-last path (Saw look seen) steps disk h = absurd (true≢false (sym h))
left-last path (Left left content) steps disk h = record {
  content = content;
  last = ap (λ b. if b then Some content else last_left path steps) h;
  there = ap (λ b. if b then content else disk path) h;
}

-- what is left is used
pub used-left : (path : List ℕ) (step : Step) → is_left path step ≡ true → is_used path step ≡ true
used-left path (Saw look seen) h = absurd (true≢false (sym h))
used-left path (Left left content) h = h

pub uses-left : (path : List ℕ) (steps : List Step) → leaves path steps ≡ true → uses path steps ≡ true
uses-left path [] h = h
uses-left path (step ∷ steps) h = by (is_left path step) (is_used path step) (used-left path step) (λ rest. uses-left path steps rest) h
  where
    by : (a b : Bool) → (a ≡ true → b ≡ true) → (leaves path steps ≡ true → uses path steps ≡ true) → (a || leaves path steps) ≡ true → (b || uses path steps) ≡ true
    by true true used rest e = refl
    by true false used rest e = absurd (true≢false (sym (used refl)))
    by false true used rest e = refl
    by false false used rest e = rest e

-- LOOKS
pub bytes-same : (path : List ℕ) → bytes_eq path path ≡ true
bytes-same path = (bytes_eq-Decides path path).1 refl

-- two disks that agree where a look asks show it the same
pub see-same : (one other : Disk) (look : Look) → ((path : List ℕ) → is_asked path look ≡ true → one path ≡ other path) → see one look ≡ see other look
see-same one other (File path) agree = ap Holds (agree path (bytes-same path))
see-same one other (Names test) agree = ap Present (λ i path. each path i)
  where
    by : (b : Bool) (x y : Option (List ℕ)) → (b ≡ true → x ≡ y) → (b && is_some x) ≡ (b && is_some y)
    by true x y e = ap is_some (e refl)
    by false x y e = refl

    each : (path : List ℕ) → (test path && is_some (one path)) ≡ (test path && is_some (other path))
    each path = by (test path) (one path) (other path) (agree path)

-- the same act on two disks that show it the same is the same step
pub step-same : (one other : Disk) (act : Act) (step twin : Step) → ((look : Look) → act ≡ Ask look → see one look ≡ see other look) → step_of one act ≡ Some step → step_of other act ≡ Some twin → step ≡ twin
step-same one other (Ask look) step twin same e f =
    let seen : Saw look (see one look) ≡ Saw look (see other look) = ap (Saw look) (same look refl) in
    let both : Some (Saw look (see one look)) ≡ Some (Saw look (see other look)) = ap Some seen in
    let all : Some step ≡ Some twin = sym e ∙ both ∙ f in
    cc
step-same one other (Leave path content) step twin same e f =
    let all : Some step ≡ Some twin = sym e ∙ f in
    cc
step-same one other (End status) step twin same e f = cc

-- what has ended does no step
pub no-step : (disk : Disk) (act : Act) (step : Step) → is_end act ≡ true → step_of disk act ≡ Some step → ⊥
no-step disk (Ask look) step over is = true≢false (sym over)
no-step disk (Leave path content) step over is = true≢false (sym over)
no-step disk (End status) step over is = cc

-- EDGES
pub with-same : (steps : ℕ → List Step) (edge : ℕ) (step : Step) → with_step steps edge step edge ≡ step ∷ steps edge
with-same steps edge step = ap (λ b. if b then step ∷ steps edge else steps edge) (eq-eqb edge edge refl)

pub with-other : (steps : ℕ → List Step) (edge : ℕ) (step : Step) (other : ℕ) → other ≢ edge → with_step steps edge step other ≡ steps other
with-other steps edge step other apart = ap (λ b. if b then step ∷ steps other else steps other) (ne_eqb other edge apart)

-- What holds in each world that a legal schedule leads to.
use Rattle.std.proofs.Common.{◌≡◌, ℕ, true, false, List, [], ◌∷◌, Option, Some, inl, inr, refl, sym, ap, subst, ◌∙◌, true≢false}
use Rattle.std.specs.Prelude.{◌≢◌, ◌||◌}
use Rattle.std.proofs.lemmas.Bool.{cases_eq, cases_Bool}
use Rattle.rev_outcome.specs.Commands.{Command, Disk, Step, is_end, is_left}
use Rattle.rev_outcome.specs.Schedules.{HasEnded, NoneConflict, World, after_step, leaves, opening, step_of}
use Rattle.rev_outcome.proofs.StepLemmas.{Grown, any-begun, any-grown, disk-kept, last-kept, last-leaves, last_left, leaves-kept, left-last, no-step, uses-left, with-other, with-same}

-- WHO LEFT A PATH LAST
-- No command has left the path, and it is as at the opening; or one has, what it left last is there, and it waits for
-- each other one that left the path.
pub data IsHeld (Waits : ℕ → ℕ → Type 0) (first : Disk) (world : World) (path : List ℕ) : Type 0 where
  by_none : ((edge : ℕ) → leaves path (world.steps edge) ≡ false) → world.disk path ≡ first path → IsHeld Waits first world path
  by_last : (last : ℕ) (content : Option (List ℕ)) → last_left path (world.steps last) ≡ Some content → world.disk path ≡ content
      → ((edge : ℕ) → edge ≢ last → leaves path (world.steps edge) ≡ true → Waits last edge) → IsHeld Waits first world path

-- where nothing has become of the path, nothing has become of who left it
held-kept : (Waits : ℕ → ℕ → Type 0) (first : Disk) (world other : World) (path : List ℕ) → other.disk path ≡ world.disk path
    → ((edge : ℕ) → leaves path (other.steps edge) ≡ leaves path (world.steps edge)) → ((edge : ℕ) → last_left path (other.steps edge) ≡ last_left path (world.steps edge))
    → IsHeld Waits first world path → IsHeld Waits first other path
held-kept Waits first world other path disk leave last (by_none none is) = by_none (λ edge. leave edge ∙ none edge) (disk ∙ is)
held-kept Waits first world other path disk leave last (by_last edge content is there others) =
    by_last edge content (last edge ∙ is) (disk ∙ there) (λ other apart h. others other apart (sym (leave other) ∙ h))

module _ (Waits : ℕ → ℕ → Type 0) (through : (a b c : ℕ) → Waits a b → Waits b c → Waits a c) (commands : ℕ → Command) (first : Disk) (all : ℕ → List Step) where
  -- what holds of a world: the steps of each edge are the first of all that it ever does
  pub record IsOnTheWay (world : World) : Type 0 where
    pub grown : (edge : ℕ) → Grown (world.steps edge) (all edge)
    pub waited : (edge other : ℕ) → world.steps edge ≢ [] → Waits edge other → HasEnded commands world other
    pub straight : (edge : ℕ) → world.steps edge ≢ [] → Waits edge edge → ⊥
    pub held : (path : List ℕ) → IsHeld Waits first world path

  abbrev pub IsReady : World → ℕ → Type 0
  IsReady world edge = (other : ℕ) → Waits edge other → HasEnded commands world other

  pub none-yet : ((edge : ℕ) → Grown [] (all edge)) → IsOnTheWay (opening first)
  none-yet grown = record {
    grown = grown;
    waited = λ edge other begun waits. absurd (begun refl);
    straight = λ edge begun waits. begun refl;
    held = λ path. by_none (λ edge. refl) refl;
  }

  -- ONE STEP MORE
  module _ (none : NoneConflict Waits all) (world : World) (edge : ℕ) (step : Step) (on : IsOnTheWay world) (ready : IsReady world edge)
      (acts : HasEnded commands world edge → ⊥) (grows : Grown (step ∷ world.steps edge) (all edge)) where
    abbrev next : World
    next = after_step world edge (Some step)

    own : next.steps edge ≡ step ∷ world.steps edge
    own = with-same world.steps edge step

    others : (other : ℕ) → other ≢ edge → next.steps other ≡ world.steps other
    others other apart = with-other world.steps edge step other apart

    next-grown : (other : ℕ) → Grown (next.steps other) (all other)
    next-grown other = elim (cases_eq other edge) [
      | inl same ↦ subst (λ x. Grown (next.steps x) (all x)) (sym same) (subst (λ steps. Grown steps (all edge)) (sym own) grows)
      | inr apart ↦ subst (λ steps. Grown steps (all other)) (sym (others other apart)) (on.grown other)
    ]

    -- who has ended has ended still
    next-ended : (other : ℕ) → HasEnded commands world other → HasEnded commands next other
    next-ended other ended = elim (cases_eq other edge) [
      | inl same ↦ absurd (acts (subst (λ x. HasEnded commands world x) same ended))
      | inr apart ↦ ap (λ steps. is_end (commands other steps)) (others other apart) ∙ ended
    ]

    next-waited : (one other : ℕ) → next.steps one ≢ [] → Waits one other → HasEnded commands next other
    next-waited one other begun waits = next-ended other (elim (cases_eq one edge) [
      | inl same ↦ ready other (subst (λ x. Waits x other) same waits)
      | inr apart ↦ on.waited one other (λ none. begun (others one apart ∙ none)) waits
    ])

    next-straight : (one : ℕ) → next.steps one ≢ [] → Waits one one → ⊥
    next-straight one begun waits = elim (cases_eq one edge) [
      | inl same ↦ acts (ready edge (subst (λ x. Waits x x) same waits))
      | inr apart ↦ on.straight one (λ none. begun (others one apart ∙ none)) waits
    ]

    next-held : (path : List ℕ) → IsHeld Waits first next path
    next-held path = elim (cases_Bool (is_left path step)) [
      | inr kept ↦ held-kept Waits first world next path (disk-kept path step world.disk kept) (leaves-as path kept) (last-as path kept) (on.held path)
      | inl is ↦
          let l = left-last path step (world.steps edge) world.disk is in
          by_last edge l.content (ap (last_left path) own ∙ l.last) l.there (λ other apart h. waits-for path is other apart h)
    ]
      where
        leaves-as : (path : List ℕ) → is_left path step ≡ false → (other : ℕ) → leaves path (next.steps other) ≡ leaves path (world.steps other)
        leaves-as path kept other = elim (cases_eq other edge) [
          | inl same ↦ subst (λ x. leaves path (next.steps x) ≡ leaves path (world.steps x)) (sym same) (ap (leaves path) own ∙ leaves-kept path step (world.steps edge) kept)
          | inr apart ↦ ap (leaves path) (others other apart)
        ]

        last-as : (path : List ℕ) → is_left path step ≡ false → (other : ℕ) → last_left path (next.steps other) ≡ last_left path (world.steps other)
        last-as path kept other = elim (cases_eq other edge) [
          | inl same ↦ subst (λ x. last_left path (next.steps x) ≡ last_left path (world.steps x)) (sym same) (ap (last_left path) own ∙ last-kept path step (world.steps edge) kept)
          | inr apart ↦ ap (last_left path) (others other apart)
        ]

        waits-for : (path : List ℕ) → is_left path step ≡ true → (other : ℕ) → other ≢ edge → leaves path (next.steps other) ≡ true → Waits edge other
        waits-for path is other apart h =
            let before : leaves path (world.steps other) ≡ true = sym (ap (leaves path) (others other apart)) ∙ h in
            let mine : leaves path (step ∷ world.steps edge) ≡ true = ap (λ b. b || leaves path (world.steps edge)) is in
            elim (none edge other path (λ same. apart (sym same)) (any-grown (is_left path) grows mine) (uses-left path (all other) (any-grown (is_left path) (on.grown other) before))) [
              | inl waits ↦ waits
              | inr waits ↦ absurd (acts (on.waited other edge (any-begun (is_left path) (world.steps other) before) waits))
            ]

    pub one-more : IsOnTheWay next
    one-more = record { grown = next-grown; waited = next-waited; straight = next-straight; held = next-held }

  -- the next step of an edge whose step is none or some
  pub acts-if : (world : World) (edge : ℕ) (step : Step) → step_of world.disk (commands edge (world.steps edge)) ≡ Some step → HasEnded commands world edge → ⊥
  acts-if world edge step is ended = no-step world.disk (commands edge (world.steps edge)) step ended is

  -- TWO WORLDS ON THE WAY
  -- Where each command that ever leaves a path did the same in both, the path is the same in both.
  pub same-held : (one other : World) → IsOnTheWay one → IsOnTheWay other → (path : List ℕ) → ((edge : ℕ) → leaves path (all edge) ≡ true → one.steps edge ≡ other.steps edge)
      → one.disk path ≡ other.disk path
  same-held one other on on_other path same = by (on.held path) (on_other.held path)
    where
      leaves-one : (edge : ℕ) → leaves path (one.steps edge) ≡ true → leaves path (other.steps edge) ≡ true
      leaves-one edge h = sym (ap (leaves path) (same edge (any-grown (is_left path) (on.grown edge) h))) ∙ h

      leaves-other : (edge : ℕ) → leaves path (other.steps edge) ≡ true → leaves path (one.steps edge) ≡ true
      leaves-other edge h = ap (leaves path) (same edge (any-grown (is_left path) (on_other.grown edge) h)) ∙ h

      by : IsHeld Waits first one path → IsHeld Waits first other path → one.disk path ≡ other.disk path
      by (by_none none is) (by_none none_there is_there) = is ∙ sym is_there
      by (by_none none is) (by_last last content left there others) =
          absurd (true≢false (sym (leaves-other last (last-leaves path (other.steps last) content left)) ∙ none last))
      by (by_last last content left there others) (by_none none is) =
          absurd (true≢false (sym (leaves-one last (last-leaves path (one.steps last) content left)) ∙ none last))
      by (by_last last content left there others) (by_last last_there content_there left_there there_too others_there) = elim (cases_eq last last_there) [
        | inl twin ↦
            let mine : leaves path (one.steps last) ≡ true = last-leaves path (one.steps last) content left in
            let steps : one.steps last ≡ other.steps last = same last (any-grown (is_left path) (on.grown last) mine) in
            let both : Some content ≡ Some content_there = sym left ∙ ap (last_left path) steps ∙ subst (λ x. last_left path (other.steps x) ≡ Some content_there) (sym twin) left_there in
            let alike : content ≡ content_there = cc in
            there ∙ alike ∙ sym there_too
        | inr apart ↦
            let mine : leaves path (one.steps last) ≡ true = last-leaves path (one.steps last) content left in
            let theirs : leaves path (other.steps last_there) ≡ true = last-leaves path (other.steps last_there) content_there left_there in
            let forth : Waits last last_there = others last_there (λ e. apart (sym e)) (leaves-other last_there theirs) in
            let back : Waits last_there last = others_there last apart (leaves-one last mine) in
            absurd (on.straight last (any-begun (is_left path) (one.steps last) mine) (through last last_there last forth back))
      ]

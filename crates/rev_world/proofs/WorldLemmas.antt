-- What holds in each world that a legal schedule leads to.
use Rattle.std.proofs.Common.{◌≡◌, ℕ, true, false, List, [], ◌∷◌, Option, Some, None, inl, inr, refl, sym, ap, subst, ◌∙◌, true≢false}
use Rattle.std.specs.Prelude.{◌≢◌, ◌⊎◌, ◌||◌}
use Rattle.std.proofs.lemmas.Bool.{cases_eq, cases_Bool}
use Rattle.rev_world.specs.Commands.{Command, Disk, Place, Step, Value, Value.Folder, Value.Nothing, is_blocked, is_end, is_ensured, is_left, pass}
use Rattle.rev_world.specs.Schedules.{HasEnded, NoneConflictAt, World, after_step, ensures_at, leaves, opening, step_of}
use Rattle.rev_world.specs.Pools.{IsReady, IsTemporary, last_change}
use Rattle.rev_world.proofs.StepLemmas.{Grown, IsKept, any-begun, any-grown, any-kept, blocked-pass, disk-kept, ensured-free, ensured-last, last-kept, left-last, no-step, pass-free, uses-ensured, uses-left, with-other, with-same}

-- WHAT STANDS AT A PLACE
-- The edge comes after the one that left the place last; each edge does where none has left it.
abbrev pub IsOver : (ℕ → ℕ → Type 0) → Option ℕ → ℕ → Type 0
IsOver Waits None edge = Unit {0}
IsOver Waits (Some last) edge = Waits edge last

-- Over what was left last no edge ensured the place, and it holds what was left; or one did, and a folder stands there.
pub data IsTopped (Waits : ℕ → ℕ → Type 0) (world : World) (place : Place) (last : Option ℕ) (base : Value) : Type 0 where
  bare : ((edge : ℕ) → IsOver Waits last edge → ensures_at place (world.steps edge) ≡ false) → world.disk place ≡ base
      → IsTopped Waits world place last base
  raised : (edge : ℕ) → IsOver Waits last edge → ensures_at place (world.steps edge) ≡ true → world.disk place ≡ Folder
      → is_blocked base ≡ false → IsTopped Waits world place last base

-- No command has left the place, and below all is what stood there at the opening; or one has, below all is its last
-- change of the place, and it waits for each other one that left the place.
pub data IsHeld (Waits : ℕ → ℕ → Type 0) (first : Disk) (world : World) (place : Place) : Type 0 where
  by_none : ((edge : ℕ) → leaves place (world.steps edge) ≡ false) → IsTopped Waits world place None (first place) → IsHeld Waits first world place
  by_last : (last : ℕ) (base : Value) → leaves place (world.steps last) ≡ true → last_change place (world.steps last) ≡ Some base
      → ((edge : ℕ) → edge ≢ last → leaves place (world.steps edge) ≡ true → Waits last edge)
      → IsTopped Waits world place (Some last) base → IsHeld Waits first world place

-- where nothing has become of the place, nothing has become of who ensured it
topped-kept : (Waits : ℕ → ℕ → Type 0) (world other : World) (place : Place) (last : Option ℕ) (base : Value) → other.disk place ≡ world.disk place
    → ((edge : ℕ) → ensures_at place (other.steps edge) ≡ ensures_at place (world.steps edge)) → IsTopped Waits world place last base → IsTopped Waits other place last base
topped-kept Waits world other place last base disk made (bare none is) = bare (λ edge over. made edge ∙ none edge over) (disk ∙ is)
topped-kept Waits world other place last base disk made (raised edge over is there free) = raised edge over (made edge ∙ is) (disk ∙ there) free

-- nor of who left it
held-kept : (Waits : ℕ → ℕ → Type 0) (first : Disk) (world other : World) (place : Place) → other.disk place ≡ world.disk place
    → ((edge : ℕ) → leaves place (other.steps edge) ≡ leaves place (world.steps edge)) → ((edge : ℕ) → ensures_at place (other.steps edge) ≡ ensures_at place (world.steps edge))
    → ((edge : ℕ) → last_change place (other.steps edge) ≡ last_change place (world.steps edge))
    → IsHeld Waits first world place → IsHeld Waits first other place
held-kept Waits first world other place disk leave made last (by_none none top) =
    by_none (λ edge. leave edge ∙ none edge) (topped-kept Waits world other place None (first place) disk made top)
held-kept Waits first world other place disk leave made last (by_last edge base left is others top) =
    by_last edge base (leave edge ∙ left) (last edge ∙ is) (λ other apart h. others other apart (sym (leave other) ∙ h))
    (topped-kept Waits world other place (Some edge) base disk made top)

-- on the way to a place below, what stands there and what stands below all are one
base-pass : (Waits : ℕ → ℕ → Type 0) (world : World) (place : Place) (last : Option ℕ) (base : Value) → IsTopped Waits world place last base → pass (world.disk place) ≡ pass base
base-pass Waits world place last base (bare none is) = ap pass is
base-pass Waits world place last base (raised edge over is there free) = ap pass there ∙ sym (pass-free base free)

base-free : (Waits : ℕ → ℕ → Type 0) (world : World) (place : Place) (last : Option ℕ) (base : Value) → IsTopped Waits world place last base → is_blocked (world.disk place) ≡ is_blocked base
base-free Waits world place last base top = blocked-pass (world.disk place) ∙ ap is_blocked (base-pass Waits world place last base top) ∙ sym (blocked-pass base)

-- What stands at a temporary: nothing, where nobody has left anything there; else what the one in use left last, and each
-- other one that left something there has ended.
pub data IsInUse (commands : ℕ → Command) (world : World) (place : Place) : Type 0 where
  at_rest : ((edge : ℕ) → leaves place (world.steps edge) ≡ false) → world.disk place ≡ Nothing → IsInUse commands world place
  in_use : (user : ℕ) (value : Value) → leaves place (world.steps user) ≡ true → last_change place (world.steps user) ≡ Some value → world.disk place ≡ value
      → ((edge : ℕ) → edge ≢ user → leaves place (world.steps edge) ≡ true → HasEnded commands world edge) → IsInUse commands world place

module _ (Waits Excludes : ℕ → ℕ → Type 0) (through : (a b c : ℕ) → Waits a b → Waits b c → Waits a c) (commands : ℕ → Command) (first : Disk) (all : ℕ → List Step) where
  -- what holds of a world: the steps of each edge are the first of all that it ever does
  pub record IsOnTheWay (world : World) : Type 0 where
    pub grown : (edge : ℕ) → Grown (world.steps edge) (all edge)
    pub waited : (edge other : ℕ) → world.steps edge ≢ [] → Waits edge other → HasEnded commands world other
    pub straight : (edge : ℕ) → world.steps edge ≢ [] → Waits edge edge → ⊥
    pub held : (place : Place) → NoneConflictAt Waits all place → IsHeld Waits first world place
    pub in_turn : (place : Place) → IsTemporary Excludes first all place → IsInUse commands world place

  pub none-yet : ((edge : ℕ) → Grown [] (all edge)) → IsOnTheWay (opening first)
  none-yet grown = record {
    grown = grown;
    waited = λ edge other begun waits. absurd (begun refl);
    straight = λ edge begun waits. begun refl;
    held = λ place calm. by_none (λ edge. refl) (bare (λ edge over. refl) refl);
    in_turn = λ place temporary. at_rest (λ edge. refl) temporary.bare;
  }

  -- ONE STEP MORE
  module _ (world : World) (edge : ℕ) (step : Step) (on : IsOnTheWay world) (ready : IsReady Waits Excludes commands world edge)
      (is : step_of world.disk (commands edge (world.steps edge)) ≡ Some step) (grows : Grown (step ∷ world.steps edge) (all edge)) where
    abbrev next : World
    next = after_step world edge (Some step)

    acts : HasEnded commands world edge → ⊥
    acts ended = no-step world.disk (commands edge (world.steps edge)) step ended is

    own : next.steps edge ≡ step ∷ world.steps edge
    own = with-same world.steps edge step

    others : (other : ℕ) → other ≢ edge → next.steps other ≡ world.steps other
    others other apart = with-other world.steps edge step other apart

    next-grown : (other : ℕ) → Grown (next.steps other) (all other)
    next-grown other = elim (cases_eq other edge) [
      | inl same ↦ subst (λ x. Grown (next.steps x) (all x)) (sym same) (subst (λ steps. Grown steps (all edge)) (sym own) grows)
      | inr apart ↦ subst (λ steps. Grown steps (all other)) (sym (others other apart)) (on.grown other)
    ]

    -- who has ended has ended still
    next-ended : (other : ℕ) → HasEnded commands world other → HasEnded commands next other
    next-ended other ended = elim (cases_eq other edge) [
      | inl same ↦ absurd (acts (subst (λ x. HasEnded commands world x) same ended))
      | inr apart ↦ ap (λ steps. is_end (commands other steps)) (others other apart) ∙ ended
    ]

    next-waited : (one other : ℕ) → next.steps one ≢ [] → Waits one other → HasEnded commands next other
    next-waited one other begun waits = next-ended other (elim (cases_eq one edge) [
      | inl same ↦ ready.waited other (subst (λ x. Waits x other) same waits)
      | inr apart ↦ on.waited one other (λ none. begun (others one apart ∙ none)) waits
    ])

    next-straight : (one : ℕ) → next.steps one ≢ [] → Waits one one → ⊥
    next-straight one begun waits = elim (cases_eq one edge) [
      | inl same ↦ acts (ready.waited edge (subst (λ x. Waits x x) same waits))
      | inr apart ↦ on.straight one (λ none. begun (others one apart ∙ none)) waits
    ]

    -- of two that are ordered, one of which has begun, the edge waits for that one
    forth : (other : ℕ) → world.steps other ≢ [] → Waits edge other ⊎ Waits other edge → Waits edge other
    forth other begun (inl waits) = waits
    forth other begun (inr waits) = absurd (acts (on.waited other edge begun waits))

    module _ (place : Place) where
      leaves-as : is_left place step ≡ false → (other : ℕ) → leaves place (next.steps other) ≡ leaves place (world.steps other)
      leaves-as kept other = elim (cases_eq other edge) [
        | inl same ↦ subst (λ x. leaves place (next.steps x) ≡ leaves place (world.steps x)) (sym same) (ap (leaves place) own ∙ any-kept (is_left place) step (world.steps edge) kept)
        | inr apart ↦ ap (leaves place) (others other apart)
      ]

      made-as : is_ensured place step ≡ false → (other : ℕ) → ensures_at place (next.steps other) ≡ ensures_at place (world.steps other)
      made-as kept other = elim (cases_eq other edge) [
        | inl same ↦ subst (λ x. ensures_at place (next.steps x) ≡ ensures_at place (world.steps x)) (sym same) (ap (ensures_at place) own ∙ any-kept (is_ensured place) step (world.steps edge) kept)
        | inr apart ↦ ap (ensures_at place) (others other apart)
      ]

      last-as : IsKept place step → (other : ℕ) → last_change place (next.steps other) ≡ last_change place (world.steps other)
      last-as kept other = elim (cases_eq other edge) [
        | inl same ↦ subst (λ x. last_change place (next.steps x) ≡ last_change place (world.steps x)) (sym same) (ap (last_change place) own ∙ last-kept place step (world.steps edge) kept)
        | inr apart ↦ ap (last_change place) (others other apart)
      ]

      -- who waits for the edge has not begun
      none-behind : (other : ℕ) → Waits other edge → ensures_at place (next.steps other) ≡ false
      none-behind other waits = elim (cases_Bool (ensures_at place (next.steps other))) [
        | inr none ↦ none
        | inl made ↦ absurd (elim (cases_eq other edge) [
          | inl same ↦ acts (ready.waited edge (subst (λ x. Waits x edge) same waits))
          | inr apart ↦
              let before : ensures_at place (world.steps other) ≡ true = sym (ap (ensures_at place) (others other apart)) ∙ made in
              acts (on.waited other edge (any-begun (is_ensured place) (world.steps other) before) waits)
        ])
      ]

      -- THE EDGE LEAVES THE PLACE
      next-left : NoneConflictAt Waits all place → is_left place step ≡ true → IsHeld Waits first next place
      next-left calm left =
          let l = left-last place step (world.steps edge) world.disk left in
          by_last edge l.value (ap (leaves place) own ∙ mine) (ap (last_change place) own ∙ l.last) waits-for (bare none-behind l.there)
        where
          mine : leaves place (step ∷ world.steps edge) ≡ true
          mine = ap (λ b. b || leaves place (world.steps edge)) left

          waits-for : (other : ℕ) → other ≢ edge → leaves place (next.steps other) ≡ true → Waits edge other
          waits-for other apart h =
              let before : leaves place (world.steps other) ≡ true = sym (ap (leaves place) (others other apart)) ∙ h in
              forth other (any-begun (is_left place) (world.steps other) before)
              (calm.at_left edge other (λ same. apart (sym same)) (any-grown (is_left place) grows mine) (uses-left place (all other) (any-grown (is_left place) (on.grown other) before)))

      -- THE EDGE ENSURES THE PLACE
      module _ (makes : is_ensured place step ≡ true) where
        not-left : is_left place step ≡ false
        not-left = (ensured-last place step (world.steps edge) world.disk makes).not_left

        there : next.disk place ≡ Folder
        there = (ensured-last place step (world.steps edge) world.disk makes).there

        mine-made : ensures_at place (step ∷ world.steps edge) ≡ true
        mine-made = ap (λ b. b || ensures_at place (world.steps edge)) makes

        made-here : ensures_at place (next.steps edge) ≡ true
        made-here = ap (ensures_at place) own ∙ mine-made

        free : (last : Option ℕ) (base : Value) → IsTopped Waits world place last base → is_blocked base ≡ false
        free last base top = sym (base-free Waits world place last base top) ∙ ensured-free world.disk (commands edge (world.steps edge)) step place is makes

        next-made : NoneConflictAt Waits all place → IsHeld Waits first world place → IsHeld Waits first next place
        next-made calm (by_none none_left top) = by_none (λ other. leaves-as not-left other ∙ none_left other) (raised edge tt made-here there (free None (first place) top))
        next-made calm (by_last last base left is_last others_left top) = elim (cases_eq last edge) [
          | inl same ↦
              by_last edge Folder (subst (λ x. leaves place (next.steps x) ≡ true) same left-next) (ap (last_change place) own ∙ (ensured-last place step (world.steps edge) world.disk makes).last)
              (λ other apart h. subst (λ x. Waits x other) same (others_left other (λ e. apart (e ∙ same)) (sym (leaves-as not-left other) ∙ h)))
              (bare none-behind there)
          | inr apart ↦
              by_last last base left-next (ap (last_change place) (others last apart) ∙ is_last)
              (λ other other_apart h. others_left other other_apart (sym (leaves-as not-left other) ∙ h))
              (raised edge (over apart) made-here there (free (Some last) base top))
        ]
          where
            left-next : leaves place (next.steps last) ≡ true
            left-next = leaves-as not-left last ∙ left

            over : last ≢ edge → Waits edge last
            over apart = forth last (any-begun (is_left place) (world.steps last) left) (turn (calm.at_left last edge apart (any-grown (is_left place) (on.grown last) left) (uses-ensured place (all edge) (any-grown (is_ensured place) grows mine-made))))
              where
                turn : Waits last edge ⊎ Waits edge last → Waits edge last ⊎ Waits last edge
                turn (inl waits) = inr waits
                turn (inr waits) = inl waits

      next-held : NoneConflictAt Waits all place → IsHeld Waits first next place
      next-held calm = elim (cases_Bool (is_left place step)) [
        | inl left ↦ next-left calm left
        | inr not_left ↦ elim (cases_Bool (is_ensured place step)) [
          | inl makes ↦ next-made makes calm (on.held place calm)
          | inr not_ensured ↦
              let kept : IsKept place step = record { not_left = not_left; not_ensured = not_ensured } in
              held-kept Waits first world next place (disk-kept place step world.disk kept) (leaves-as not_left) (made-as not_ensured) (last-as kept) (on.held place calm)
        ]
      ]

      -- A TEMPORARY
      use-kept : IsKept place step → IsInUse commands world place → IsInUse commands next place
      use-kept kept (at_rest none is) = at_rest (λ other. leaves-as kept.not_left other ∙ none other) (disk-kept place step world.disk kept ∙ is)
      use-kept kept (in_use user value left last there ended) =
          in_use user value (leaves-as kept.not_left user ∙ left) (last-as kept user ∙ last) (disk-kept place step world.disk kept ∙ there)
          (λ other apart h. next-ended other (ended other apart (sym (leaves-as kept.not_left other) ∙ h)))

      next-in-turn : IsTemporary Excludes first all place → IsInUse commands next place
      next-in-turn temporary = elim (cases_Bool (is_left place step)) [
        | inl left ↦
            let l = left-last place step (world.steps edge) world.disk left in
            in_use edge l.value (ap (leaves place) own ∙ mine left) (ap (last_change place) own ∙ l.last) l.there (λ other apart h. next-ended other (over left other apart h))
        | inr not_left ↦ elim (cases_Bool (is_ensured place step)) [
          | inl makes ↦ absurd (true≢false (sym (any-grown (is_ensured place) grows (ap (λ b. b || ensures_at place (world.steps edge)) makes)) ∙ temporary.none_ensure edge))
          | inr not_ensured ↦ use-kept (record { not_left = not_left; not_ensured = not_ensured }) (on.in_turn place temporary)
        ]
      ]
        where
          mine : is_left place step ≡ true → leaves place (step ∷ world.steps edge) ≡ true
          mine left = ap (λ b. b || leaves place (world.steps edge)) left

          over : is_left place step ≡ true → (other : ℕ) → other ≢ edge → leaves place (next.steps other) ≡ true → HasEnded commands world other
          over left other apart h =
              let before : leaves place (world.steps other) ≡ true = sym (ap (leaves place) (others other apart)) ∙ h in
              elim (ready.alone other apart (temporary.pooled edge other (λ e. apart (sym e)) (any-grown (is_left place) grows (mine left)) (any-grown (is_left place) (on.grown other) before))) [
                | inl none ↦ absurd (any-begun (is_left place) (world.steps other) before none)
                | inr ended ↦ ended
              ]

    pub one-more : IsOnTheWay next
    one-more = record { grown = next-grown; waited = next-waited; straight = next-straight; held = next-held; in_turn = next-in-turn }

  -- the next step of an edge whose step is none or some
  pub acts-if : (world : World) (edge : ℕ) (step : Step) → step_of world.disk (commands edge (world.steps edge)) ≡ Some step → HasEnded commands world edge → ⊥
  acts-if world edge step is ended = no-step world.disk (commands edge (world.steps edge)) step ended is

  -- TWO WORLDS ON THE WAY
  module _ (one other : World) (on : IsOnTheWay one) (on_other : IsOnTheWay other) (place : Place) where
    -- Where each command that ever leaves a place did the same in both, the same stands below all in both, and the same
    -- edges are over it. One that waits for each that left the place is over it.
    pub record IsAligned : Type 0 where
      pub last : Option ℕ
      pub base : Value
      pub top : IsTopped Waits one place last base
      pub top_other : IsTopped Waits other place last base
      pub above : (edge : ℕ) → ((leaver : ℕ) → leaves place (one.steps leaver) ≡ true → Waits edge leaver) → IsOver Waits last edge

    pub aligned : NoneConflictAt Waits all place → ((edge : ℕ) → leaves place (all edge) ≡ true → one.steps edge ≡ other.steps edge) → IsAligned
    aligned calm same = by (on.held place calm) (on_other.held place calm)
      where
        leaves-one : (edge : ℕ) → leaves place (one.steps edge) ≡ true → leaves place (other.steps edge) ≡ true
        leaves-one edge h = sym (ap (leaves place) (same edge (any-grown (is_left place) (on.grown edge) h))) ∙ h

        leaves-other : (edge : ℕ) → leaves place (other.steps edge) ≡ true → leaves place (one.steps edge) ≡ true
        leaves-other edge h = ap (leaves place) (same edge (any-grown (is_left place) (on_other.grown edge) h)) ∙ h

        by : IsHeld Waits first one place → IsHeld Waits first other place → IsAligned
        by (by_none none top) (by_none none_there top_there) = record { last = None; base = first place; top = top; top_other = top_there; above = λ edge waits. tt }
        by (by_none none top) (by_last last base left is others top_there) = absurd (true≢false (sym (leaves-other last left) ∙ none last))
        by (by_last last base left is others top) (by_none none top_there) = absurd (true≢false (sym (leaves-one last left) ∙ none last))
        by (by_last last base left is others top) (by_last last_there base_there left_there is_there others_there top_there) = elim (cases_eq last last_there) [
          | inl twin ↦
              let steps : one.steps last ≡ other.steps last = same last (any-grown (is_left place) (on.grown last) left) in
              let both : Some base ≡ Some base_there = sym is ∙ ap (last_change place) steps ∙ subst (λ x. last_change place (other.steps x) ≡ Some base_there) (sym twin) is_there in
              let alike : base_there ≡ base = cc in
              record {
                last = Some last;
                base = base;
                top = top;
                top_other = subst (λ b. IsTopped Waits other place (Some last) b) alike (subst (λ x. IsTopped Waits other place (Some x) base_there) (sym twin) top_there);
                above = λ edge waits. waits last left;
              }
          | inr apart ↦
              let forth : Waits last last_there = others last_there (λ e. apart (sym e)) (leaves-other last_there left_there) in
              let back : Waits last_there last = others_there last apart (leaves-one last left) in
              absurd (on.straight last (any-begun (is_left place) (one.steps last) left) (through last last_there last forth back))
        ]

    -- on the way to a place below the same is shown in both, and no folder can be made there in the one where none can
    -- in the other one
    pub same-pass : IsAligned → pass (one.disk place) ≡ pass (other.disk place)
    same-pass a = base-pass Waits one place a.last a.base a.top ∙ sym (base-pass Waits other place a.last a.base a.top_other)

    pub same-blocked : IsAligned → is_blocked (one.disk place) ≡ is_blocked (other.disk place)
    same-blocked a = base-free Waits one place a.last a.base a.top ∙ sym (base-free Waits other place a.last a.base a.top_other)

    -- where each one that ever ensures it did the same in both, too, the same stands there
    pub same-held : IsAligned → ((edge : ℕ) → ensures_at place (all edge) ≡ true → one.steps edge ≡ other.steps edge) → one.disk place ≡ other.disk place
    same-held a same = by a.top a.top_other
      where
        by : IsTopped Waits one place a.last a.base → IsTopped Waits other place a.last a.base → one.disk place ≡ other.disk place
        by (bare none is) (bare none_there is_there) = is ∙ sym is_there
        by (bare none is) (raised edge over made is_there free) =
            absurd (true≢false (sym (ap (ensures_at place) (same edge (any-grown (is_ensured place) (on_other.grown edge) made)) ∙ made) ∙ none edge over))
        by (raised edge over made is_there free) (bare none is) =
            absurd (true≢false (sym (sym (ap (ensures_at place) (same edge (any-grown (is_ensured place) (on.grown edge) made))) ∙ made) ∙ none edge over))
        by (raised edge over made is_there free) (raised edge_there over_there made_there there_too free_there) = is_there ∙ sym there_too

    -- where one that is over what was left last ensured it in both, a folder stands there in both
    pub same-over : (a : IsAligned) → (edge : ℕ) → IsOver Waits a.last edge → ensures_at place (one.steps edge) ≡ true → ensures_at place (other.steps edge) ≡ true
        → one.disk place ≡ other.disk place
    same-over a edge over made made_other = by a.top a.top_other
      where
        by : IsTopped Waits one place a.last a.base → IsTopped Waits other place a.last a.base → one.disk place ≡ other.disk place
        by (bare none is) _ = absurd (true≢false (sym made ∙ none edge over))
        by (raised edge_one over_one made_one is_there free) (bare none is) = absurd (true≢false (sym made_other ∙ none edge over))
        by (raised edge_one over_one made_one is_there free) (raised edge_there over_there made_there there_too free_there) = is_there ∙ sym there_too

  -- AT A TEMPORARY
  -- one that left something there and has not ended finds there what it left last
  pub own-change : (world : World) (on : IsOnTheWay world) (place : Place) (temporary : IsTemporary Excludes first all place) (edge : ℕ) → leaves place (world.steps edge) ≡ true
      → (HasEnded commands world edge → ⊥) → last_change place (world.steps edge) ≡ Some (world.disk place)
  own-change world on place temporary edge left acts = by (on.in_turn place temporary)
    where
      by : IsInUse commands world place → last_change place (world.steps edge) ≡ Some (world.disk place)
      by (at_rest none is) = absurd (true≢false (sym left ∙ none edge))
      by (in_use user value user_left last there ended) = elim (cases_eq edge user) [
        | inl same ↦ subst (λ x. last_change place (world.steps x) ≡ Some (world.disk place)) (sym same) (last ∙ ap Some (sym there))
        | inr apart ↦ absurd (acts (ended edge apart left))
      ]

  -- where each that left something there did all, nothing is there
  pub none-stays : (world : World) (on : IsOnTheWay world) (place : Place) (temporary : IsTemporary Excludes first all place) → ((edge : ℕ) → world.steps edge ≡ all edge) → world.disk place ≡ Nothing
  none-stays world on place temporary whole = by (on.in_turn place temporary)
    where
      by : IsInUse commands world place → world.disk place ≡ Nothing
      by (at_rest none is) = is
      by (in_use user value left last there ended) =
          let gone : last_change place (all user) ≡ Some Nothing = temporary.gone user (ap (leaves place) (sym (whole user)) ∙ left) in
          let both : Some value ≡ Some Nothing = sym last ∙ ap (last_change place) (whole user) ∙ gone in
          let same : value ≡ Nothing = cc in
          there ∙ same

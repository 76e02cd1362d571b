-- Two commands with one temporary that overlap.
use Rattle.std.proofs.Common.{◌≡◌, ℕ, zero, suc, Bool, true, false, List, [], ◌∷◌, Some, inl, inr, refl, sym, ap, subst, ◌∙◌, true≢false}
use Rattle.std.specs.Prelude.{◌||◌}
use Rattle.std.proofs.lemmas.Bool.{cases_Bool}
use Rattle.rev_world.specs.Commands.{Act.Ask, Act.Leave, Act.End, Command, Disk, Look.Entry, Place, Seen.Holds, Step, Step.Saw, Step.Left, Value.Nothing, Value.File, place_eq}
use Rattle.rev_world.specs.Schedules.{HasSameOutcome, IsComplete, NoneConflictAt, World, ensures_at, leaves, opening, run, uses}
use Rattle.rev_world.specs.Laws.{By}
use Rattle.rev_world.specs.Pools.{Any, IsReady, IsTemporary, NoneConflictInPools, PoolsCount, last_change}
use Rattle.rev_world.proofs.StepLemmas.{place-is}
use Rattle.rev_world.proofs.PremiseLemmas.{free, free-through, free-waits, idle-others, two}

abbrev at : Place
at = (0 ∷ []) ∷ []

abbrev bare : Disk
bare place = Nothing

-- one makes the temporary and takes it away; the other asks for it and takes it away
abbrev make : Command
make [] = Leave at (File [])
make (step ∷ []) = Leave at Nothing
make (step ∷ another ∷ steps) = End 0

abbrev look : Command
look [] = Ask (Entry at)
look (step ∷ []) = Leave at Nothing
look (step ∷ another ∷ steps) = End 0

abbrev end : World
end = run (two make look) (opening bare) (0 ∷ 0 ∷ 1 ∷ 1 ∷ [])

others : (n : ℕ) → end.steps (suc (suc n)) ≡ []
others n = idle-others make look (0 ∷ 0 ∷ 1 ∷ 1 ∷ []) (opening bare) n

-- what holds of the steps of each edge
of-each : (test : List Step → Bool) (b : Bool) → test (end.steps 0) ≡ b → test (end.steps 1) ≡ b → test [] ≡ b → (edge : ℕ) → test (end.steps edge) ≡ b
of-each test b zeroth first rest zero = zeroth
of-each test b zeroth first rest (suc zero) = first
of-each test b zeroth first rest (suc (suc n)) = ap test (others n) ∙ rest

temporary : IsTemporary Any bare end.steps at
temporary = record {
  bare = refl;
  inside = inside;
  none_ensure = of-each (λ s. ensures_at at s) false refl refl refl;
  gone = gone;
  pooled = λ a b apart one other. tt;
}
  where
    inside : (edge : ℕ) → uses at (end.steps edge) ≡ true → leaves at (end.steps edge) ≡ true
    inside zero h = refl
    inside (suc zero) h = refl
    inside (suc (suc n)) h = absurd (true≢false (sym h ∙ ap (uses at) (others n)))

    gone : (edge : ℕ) → leaves at (end.steps edge) ≡ true → last_change at (end.steps edge) ≡ Some Nothing
    gone zero h = refl
    gone (suc zero) h = refl
    gone (suc (suc n)) h = absurd (true≢false (sym h ∙ ap (leaves at) (others n)))

elsewhere : (place : Place) → place_eq at place ≡ false → NoneConflictAt (By free) end.steps place
elsewhere place apart = record {
  at_left = λ a b other leave used. absurd (true≢false (sym leave ∙ of-each (λ s. leaves place s) false by by_one refl a));
  at_asked = λ b asked. inr (λ a other made. absurd (true≢false (sym made ∙ of-each (λ s. ensures_at place s) false refl refl refl a)));
}
  where
    by : (place_eq at place || (place_eq at place || false)) ≡ false
    by = ap (λ b. b || (b || false)) apart

    by_one : (place_eq at place || (false || false)) ≡ false
    by_one = ap (λ b. b || (false || false)) apart

pub pools-count : PoolsCount
pools-count h = by (o.all_steps 1 refl)
  where
    complete : IsComplete (two make look) end
    complete zero = refl
    complete (suc zero) = refl
    complete (suc (suc n)) = refl

    none : NoneConflictInPools (By free) Any bare end.steps
    none place = elim (cases_Bool (place_eq at place)) [
      | inl same ↦ inr (subst (λ p. IsTemporary Any bare end.steps p) (place-is at place same) temporary)
      | inr apart ↦ inl (elsewhere place apart)
    ]

    ready : (world : World) (edge : ℕ) → IsReady (By free) (By free) (two make look) world edge
    ready world edge = record { waited = λ other way. absurd (free-waits edge other way); alone = λ other apart way. absurd (free-waits edge other way) }

    o : HasSameOutcome (two make look) end (run (two make look) (opening bare) (0 ∷ 1 ∷ 1 ∷ 0 ∷ []))
    o = h free free free-through (two make look) bare (0 ∷ 0 ∷ 1 ∷ 1 ∷ []) (0 ∷ 1 ∷ 1 ∷ 0 ∷ [])
        (ready _ 0, (ready _ 0, (ready _ 1, (ready _ 1, tt)))) complete none (ready _ 0, (ready _ 1, (ready _ 1, (ready _ 0, tt))))

    by : Left at Nothing ∷ Saw (Entry at) (Holds (File [])) ∷ [] ≡ Left at Nothing ∷ Saw (Entry at) (Holds Nothing) ∷ [] → ⊥
    by e = cc

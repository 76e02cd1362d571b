-- First causes reach every difference.
use Rattle.std.proofs.Common.{◌≡◌, ℕ, zero, suc, ◌+◌, ◌<◌, true, false, List, [], ◌∷◌, Option, Some, None, inl, inr, refl, sym, ap, subst, ◌∙◌, arith, true≢false, Contains, ◌⊎◌}
use Rattle.std.specs.Prelude.{◌≢◌}
use Rattle.std.proofs.lemmas.Bool.{cases_Bool, cases_eq}
use Rattle.rev_contents.specs.declared.looks.Answer.{Answer}
use Rattle.rev_contents.specs.declared.looks.Look.{Look}
use Rattle.rev_contents.specs.Runs.{DiffersAt, alike}
use Rattle.rev_contents.specs.Laws.{ComeFromMakers, ComesFrom, ComesFrom.Itself, ComesFrom.Source, ComesFrom.Through, DiffersFor, FirstCausesReach, LeftOthers, Recordings}
use Rattle.rev_contents.proofs.Members.{further, here, here-or, none-in}

-- an answer of the look's place that is not like the look's
abbrev Unlike : Look → List Look → Type 0
Unlike look others =
    (answer : Answer) × Contains others (record { place = look.place; answer = answer }) × (alike look.answer answer ≡ false)

one-look : (look : Look) (others : List Look) → Unlike look others ⊎ (Unlike look others → ⊥)
one-look look [] = inr (λ u. none-in _ u.1)
one-look look (m ∷ ms) = by (cases_eq m.place look.place) (cases_Bool (alike look.answer m.answer)) (one-look look ms)
  where
    later : Unlike look ms → Unlike look (m ∷ ms)
    later u = (u.0, further m _ ms u.1, u.2)

    none : (m.place ≢ look.place) ⊎ (alike look.answer m.answer ≡ true) → (Unlike look ms → ⊥) → Unlike look (m ∷ ms) → ⊥
    none why rest u = elim (here-or m _ ms u.1) [
      | inl same ↦ elim why [
        | inl apart ↦ apart (ap (λ l. l.place) same)
        | inr is ↦ true≢false (sym is ∙ ap (λ l. alike look.answer l.answer) same ∙ u.2)
      ]
      | inr further-on ↦ rest (u.0, further-on, u.2)
    ]

    by : (m.place ≡ look.place) ⊎ (m.place ≢ look.place) → (alike look.answer m.answer ≡ true) ⊎ (alike look.answer m.answer ≡ false)
        → Unlike look ms ⊎ (Unlike look ms → ⊥) → Unlike look (m ∷ ms) ⊎ (Unlike look (m ∷ ms) → ⊥)
    by place is (inl u) = inl (later u)
    by (inl same) (inr unlike) (inr rest) = inl (m.answer, subst (λ p. Contains (m ∷ ms) (record { place = p; answer = m.answer })) same (here m ms), unlike)
    by (inl same) (inl is) (inr rest) = inr (none (inr is) rest)
    by (inr apart) is (inr rest) = inr (none (inl apart) rest)

abbrev SomePlace : List Look → List Look → Type 0
SomePlace one other = (place : ℕ) × DiffersAt one other place

pub some-place : (one other : List Look) → SomePlace one other ⊎ ((place : ℕ) → DiffersAt one other place → ⊥)
some-place [] other = inr (λ place at. none-in _ at.one_has)
some-place (look ∷ looks) other = by (one-look look other) (some-place looks other)
  where
    by : Unlike look other ⊎ (Unlike look other → ⊥) → SomePlace looks other ⊎ ((place : ℕ) → DiffersAt looks other place → ⊥)
        → SomePlace (look ∷ looks) other ⊎ ((place : ℕ) → DiffersAt (look ∷ looks) other place → ⊥)
    by (inl u) rest = inl (look.place, record { here = look.answer; there = u.0; one_has = here look looks; other_has = u.1; unlike = u.2 })
    by (inr none) (inl (place, at)) = inl (place, record { here = at.here; there = at.there; one_has = further look _ looks at.one_has; other_has = at.other_has; unlike = at.unlike })
    by (inr none) (inr rest) = inr (λ place at. elim (here-or look _ looks at.one_has) [
      | inl same ↦ none (
        at.there,
        subst (λ l. Contains other (record { place = l.place; answer = at.there })) (sym same) at.other_has,
        ap (λ l. alike l.answer at.there) same ∙ at.unlike,
      )
      | inr later ↦ rest place (record { here = at.here; there = at.there; one_has = later; other_has = at.other_has; unlike = at.unlike })
    ])

-- what an edge's difference comes from, where that of each edge before it comes from something
from-before : (all : Recordings) → ComeFromMakers all → (edge : ℕ) → LeftOthers all edge
    → ((maker : ℕ) → maker < edge → LeftOthers all maker → ComesFrom all maker) → ComesFrom all edge
from-before all makers edge left before = by (some-place (all.one edge).looks (all.other edge).looks)
  where
    of-maker : (place : ℕ) → DiffersFor all edge place → (maker : Option ℕ) → all.maker place ≡ maker → ComesFrom all edge
    of-maker place at None is = Source edge place at is
    of-maker place at (Some maker) is =
        let from = makers edge place maker at is in
        Through edge place maker at is (before maker from.0 from.1)

    by : SomePlace (all.one edge).looks (all.other edge).looks ⊎ ((place : ℕ) → DiffersAt (all.one edge).looks (all.other edge).looks place → ⊥) → ComesFrom all edge
    by (inl (place, at)) = of-maker place at (all.maker place) refl
    by (inr agree) = Itself edge (agree, left)

reach : (all : Recordings) → ComeFromMakers all → (bound edge : ℕ) → edge < bound → LeftOthers all edge → ComesFrom all edge
reach all makers zero edge below left = absurd (omega (arith, below))
reach all makers (suc bound) edge below left =
    from-before all makers edge left (λ maker before. reach all makers bound maker (omega (arith, before, below)))

pub first-causes-reach : FirstCausesReach
first-causes-reach all makers edge left = reach all makers (edge + 1) edge (omega arith) left

-- Laws of needless orders.
use Rattle.std.proofs.Common.{◌≡◌, ℕ, Bool, true, false, List, [], ◌∷◌, length, get_or, inl, inr, refl, sym, ap, subst, ◌∙◌, arith}
use Rattle.std.specs.Prelude.{◌⊎◌, ◌||◌}
use Rattle.std.proofs.lemmas.Bool.{or_left, or_right, true≢false}
use Rattle.std.proofs.lemmas.List.{get_or_past}
use Rattle.rev_ranks.specs.Graph.{Reaches, Reaches.step as one_step, Reaches.further as then_on, Steps, graph_of}
use Rattle.rev_world.specs.Commands.{Command, Place}
use Rattle.rev_world.specs.Laws.{By, GoesThrough}
use Rattle.rev_world.specs.Observed.{IsToldDetermined, NoneTold, Told, told_uses}
use Rattle.rev_world.specs.Schedules.{IsLegal, World, after, opening}
use Rattle.rev_world.proofs.ObservedLemmas.{nothing-told-one-outcome}
use Rattle.rev_needless.specs.declared.known.Known.{Known}
use Rattle.rev_needless.specs.Laws.{AreListed, Assures, HasAll, IsPart, NeedlessOneOutcome, NothingIsNeedless, PartIsNeedless, waits_with, waits_without}
use Rattle.rev_needless.specs.Needless.{IsNeedless}
use Rattle.rev_needless.specs.Staying.{waits}
use Rattle.rev_needless.specs.Without.{without}
use Rattle.rev_needless.proofs.StayLemmas.{way-waits, waits-way}
use Rattle.rev_needless.proofs.WithoutLemmas.{step-back, step-part, step-whole, ways-by}

-- SETS
pub nothing-is-needless : NothingIsNeedless
nothing-is-needless known = record {
  ordered = λ user maker there way. same user maker way;
  reached = λ target there command marked way. same target command way;
  below = λ unseen there command marked way. same unseen command way;
  above = λ unseen there command marked way. same command unseen way;
}
  where
    same : (a b : ℕ) → Reaches (graph_of known.steps.items) a b → Reaches (without (graph_of known.steps.items) []) a b
    same a b way = ways-by (graph_of known.steps.items) (without (graph_of known.steps.items) []) (step-whole (graph_of known.steps.items)) a b way

pub nothing-is-part : (gone : List (List Bool)) → IsPart [] gone
nothing-is-part gone n k marked =
    let no_lists : List (List Bool) = [] in
    let no_marks : List Bool = [] in
    absurd (true≢false (sym marked ∙ ap (λ (ms : List Bool). get_or ms k false) (get_or_past no_lists n no_marks (omega arith)) ∙ get_or_past no_marks k false (omega arith)))

pub part-is-needless : PartIsNeedless
part-is-needless known part gone is needless = record {
  ordered = λ user maker there way. more user maker (needless.ordered user maker there way);
  reached = λ target there command marked way. more target command (needless.reached target there command marked way);
  below = λ unseen there command marked way. more unseen command (needless.below unseen there command marked way);
  above = λ unseen there command marked way. more command unseen (needless.above unseen there command marked way);
}
  where
    more : (a b : ℕ) → Reaches (without (graph_of known.steps.items) gone) a b → Reaches (without (graph_of known.steps.items) part) a b
    more a b way =
        ways-by (without (graph_of known.steps.items) gone) (without (graph_of known.steps.items) part) (step-part (graph_of known.steps.items) part gone is) a b way

-- OUTCOMES
way-on : {graph : List (List ℕ)} {a b c : ℕ} → Reaches graph a b → Reaches graph b c → Reaches graph a c
way-on (one_step step) way = then_on step way
way-on (then_on step front) way = then_on step (way-on front way)

goes-through : (graph : List (List ℕ)) → GoesThrough (waits graph)
goes-through graph a b c one other = way-waits graph a c (way-on (waits-way graph a b one) (waits-way graph b c other))

legal-by : (Waits Fewer : ℕ → ℕ → Type 0) → ((a b : ℕ) → Fewer a b → Waits a b) → (commands : ℕ → Command) (world : World) (edges : List ℕ) → IsLegal Waits commands world edges → IsLegal Fewer commands world edges
legal-by Waits Fewer f commands world [] legal = tt
legal-by Waits Fewer f commands world (edge ∷ edges) legal = (λ other w. legal.0 other (f edge other w), legal-by Waits Fewer f commands (after commands world edge) edges legal.1)

module _ (known : Known) (gone : List (List Bool)) (told : ℕ → Told) (none : NoneTold (By (waits_with known)) told) (all : HasAll known told) (needless : IsNeedless known gone) where
  abbrev with_all : List (List ℕ)
  with_all = graph_of known.steps.items

  abbrev with_fewer : List (List ℕ)
  with_fewer = without (graph_of known.steps.items) gone

  fewer : (a b : ℕ) → By (waits_without known gone) a b → By (waits_with known) a b
  fewer a b w = way-waits with_all a b (ways-by with_fewer with_all (step-back with_all gone) a b (waits-way with_fewer a b w))

  stays : (a b : ℕ) → By (waits_with known) a b → Steps (graph_of known.conflicts.items) a b → By (waits_without known gone) a b
  stays a b w step = way-waits with_fewer a b (needless.ordered a b step (waits-way with_all a b w))

  ordered : (a b : ℕ) → AreListed known a b → By (waits_with known) a b ⊎ By (waits_with known) b a → By (waits_without known gone) a b ⊎ By (waits_without known gone) b a
  ordered a b listed (inl w) = inl (stays a b w (listed.0 w))
  ordered a b listed (inr w) = inr (stays b a w (listed.1 w))

  determined : (b : ℕ) (place : Place) (d : IsToldDetermined (By (waits_with known)) told place b) → Steps (graph_of known.conflicts.items) b d.maker → IsToldDetermined (By (waits_without known gone)) told place b
  determined b place d step = record {
    maker = d.maker;
    before = stays b d.maker d.before step;
    ensured = d.ensured;
    later = λ leaver left w.
        stays d.maker leaver (d.later leaver left (fewer b leaver w))
        ((all.at_left leaver d.maker place left uses).1 (d.later leaver left (fewer b leaver w)));
  }
    where
      uses : told_uses place (told d.maker) ≡ true
      uses =
          or_right ((told d.maker).left place) ((told d.maker).ensured place || ((told d.maker).asked place || (told d.maker).passed place))
          (or_left ((told d.maker).ensured place) ((told d.maker).asked place || (told d.maker).passed place) d.ensured)

  abbrev Answer : ℕ → Place → Type 0
  Answer b place =
      IsToldDetermined (By (waits_without known gone)) told place b ⊎ ((a : ℕ) → (a ≡ b → ⊥) → (told a).ensured place ≡ true → By (waits_without known gone) a b ⊎ By (waits_without known gone) b a)

  by-list : (b : ℕ) (place : Place) → ((a : ℕ) → (told a).ensured place ≡ true → AreListed known a b)
      → IsToldDetermined (By (waits_with known)) told place b ⊎ ((a : ℕ) → (a ≡ b → ⊥) → (told a).ensured place ≡ true → By (waits_with known) a b ⊎ By (waits_with known) b a) → Answer b place
  by-list b place listed (inl d) = inl (determined b place d ((listed d.maker d.ensured).1 d.before))
  by-list b place listed (inr each) = inr (λ a apart ensured. ordered a b (listed a ensured) (each a apart ensured))

  abbrev Listed : ℕ → Place → Type 0
  Listed b place =
      ((d : IsToldDetermined (By (waits_with known)) told place b) × Steps (graph_of known.conflicts.items) b d.maker) ⊎ ((a : ℕ) → (told a).ensured place ≡ true → AreListed known a b)

  asked-by : (b : ℕ) (place : Place) → (told b).asked place ≡ true → Listed b place → Answer b place
  asked-by b place asked (inl h) = inl (determined b place h.0 h.1)
  asked-by b place asked (inr listed) = by-list b place listed (none.at_asked b place asked)

  none-told : NoneTold (By (waits_without known gone)) told
  none-told = record {
    at_left = λ a b place apart left used. ordered a b (all.at_left a b place left used) (none.at_left a b place apart left used);
    at_asked = λ b place asked. asked-by b place asked (all.at_asked b place asked);
  }

  pub assures : Assures known gone told
  assures = record {
    none_told = none-told;
    one_outcome = λ commands disk schedule other tells legal complete other_legal.
        nothing-told-one-outcome (waits_without known gone) (goes-through with_fewer) told commands disk schedule other none-told tells
        (legal-by (By (waits_with known)) (By (waits_without known gone)) fewer commands (opening disk) schedule legal) complete other_legal;
  }

pub needless-one-outcome : NeedlessOneOutcome
needless-one-outcome known gone told none all needless = assures known gone told none all needless

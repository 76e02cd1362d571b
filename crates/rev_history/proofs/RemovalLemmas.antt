-- Events that are taken out of the fields of a history, one by one and a whole cone.
use Rattle.std.proofs.Common.{◌≡◌, ℕ, ◌-◌, ◌<◌, ◌≤◌, Bool, true, false, not, ◌&&◌, ◌||◌, cond, List, [], ◌∷◌, ◌++◌, ◌⊎◌, filter, Option, None, Some, is_some, option_map, length, take, drop, get_or, set, refl, sym, ap, subst, ◌∙◌, inl, inr, true≢false, nat_eq, eq-eqb, eqb-true, ltb-true, arith, zero, suc}
use Rattle.std.specs.Global.{Vec}
use Rattle.std.specs.Prelude.{nat_lt}
use Rattle.std.specs.Ordering.{eq_by_cmp, nat_cmp}
use Rattle.std.specs.List.{AllByRecursion, IsDistinct}
use Rattle.std.specs.Map.{lookup}
use Rattle.rev_accesses.specs.Closing.{cone_behind, conflicts_with_any, joins}
use Rattle.rev_accesses.specs.Thinned.{AreThinned, IsGone, prints_without}
use Rattle.rev_numbers.specs.Taken.{without_all}
use Rattle.rev_numbers.proofs.TakenLemmas.{dropped-all, dropped-before, without_more, without_none}
use Rattle.rev_accesses.specs.Value.{AccessesValue, Prints, Shows}
use Rattle.rev_accesses.proofs.ThinnedLemmas.{are_thinned_not, are_thinned_then, gone_nowhere, is_gone_still, shows_thinned}
use Rattle.rev_causal.specs.Chosen.{IsRising as IsRisingNumbers, chosen, is_among, under, without}
use Rattle.rev_causal.specs.History as causal
use Rattle.rev_causal.specs.Store.{Footprint, Footprint.Cells}
use Rattle.rev_causal.proofs.Beside.{IsPlace, place_within}
use Rattle.rev_causal.proofs.Chosen.{nat_eq_comm}
use Rattle.rev_causal.proofs.Runs.{either}
use Rattle.rev_cells.specs.Table.{Table, written_all}
use Rattle.rev_cells.specs.declared.cell.Cell.{Cell}
use Rattle.rev_accesses.specs.Places as access_places
use Rattle.rev_cells.specs.Keys.{cell_cmp}
use Rattle.rev_history.specs.declared.history.History.TheInside.{Inside}
use Rattle.rev_history.specs.declared.steps.Step.{Step}
use Rattle.rev_history.specs.Sound.{ArePlacedIn, CanPutBack, IsListed, IsPlacedIn, IsSound, beside_of, kept_prints, timeline_of}
use Rattle.rev_history.specs.Steps.{Placed, StepValue, place_prints, placed_print, replaced_at, step_beside, step_in, step_value}
use Rattle.rev_history.specs.Removal.{HasFields, IsSameBesides, IsFreeHere, IsWithout, TakesOut, IsConeHere, TakesConeOut}
use Rattle.rev_history.specs.Timeline.{Numbered, cone_numbers, coned}
use Rattle.rev_history.proofs.BesideKept.{mapped_beside}
use Rattle.rev_history.proofs.Commands.{IsFree, is_free}
use Rattle.rev_history.proofs.Cones.{IsStepDown, down_step, down_last}
use Rattle.rev_history.proofs.Fields.{as_many, history_of, same_sound, taken_out, ready_at, has_index, has_step}
use Rattle.rev_history.proofs.Listed.{prints_rise, taken_prints, same_prints}
use Rattle.rev_history.proofs.NamedLemmas.{get_named, length_named, placed_at, placed_set, print_placed, same_named, set_named}

-- one event

module _ {n : ℕ} {es : Numbered} {steps : List Placed} {cells : Table} where
  free_here : (u : IsFreeHere n es steps cells) → IsFree (timeline_of u.inside) n
  free_here u = is_free (timeline_of u.inside) n u.free

  pub index_here : IsFreeHere n es steps cells → false ≡ is_some (lookup (nat_eq n) es) → ⊥
  index_here u none =
      let f : IsFree (timeline_of u.inside) n = free_here u in
      has_index u.inside n f.event f.at (none ∙ ap (λ (xs : Numbered). is_some (lookup (nat_eq n) xs)) (sym u.has.accepted))

  pub step_here : IsFreeHere n es steps cells → (i : ℕ) (o : Placed) → IsPlace n es i → o ≡ get_or steps i o → None ≡ o → ⊥
  step_here u i o place is none =
      has_step u.inside u.sound n i (option_map (step_value u.inside.cells.places) o) (free_here u).among (subst (λ (xs : Numbered). IsPlace n xs i) (sym u.has.accepted) place)
      (get_named u.inside.cells.places u.inside.steps.items i o (is ∙ ap (λ (xs : List Placed). get_or xs i o) (sym u.has.steps))) (ap (option_map (step_value u.inside.cells.places)) none)

  pub ready_here : (u : IsFreeHere n es steps cells) (i : ℕ) (d : Step) → IsPlace n es i → Some d ≡ get_or steps i (Some d) → CanPutBack (step_value cells.places d)
  ready_here u i d place is =
      subst (λ (c : Table). CanPutBack (step_value c.places d)) u.has.cells
      (ready_at u.inside u.sound n i (step_value u.inside.cells.places d) (subst (λ (xs : Numbered). IsPlace n xs i) (sym u.has.accepted) place)
      (get_named u.inside.cells.places u.inside.steps.items i (Some d) (is ∙ ap (λ (xs : List Placed). get_or xs i (Some d)) (sym u.has.steps))))

  pub placed_here : (u : IsFreeHere n es steps cells) (i : ℕ) (d : Step) → i < length steps → Some d ≡ get_or steps i (Some d) → IsPlacedIn cells.places d
  placed_here u i d lt is =
      placed_at cells.places steps i d
      (subst (λ (c : Table). ArePlacedIn c.places steps) u.has.cells (subst (ArePlacedIn u.inside.cells.places) u.has.steps u.placed)) lt is

  -- a place of an event is one of the steps
  pub within_here : (u : IsFreeHere n es steps cells) (i : ℕ) → IsPlace n es i → i < length steps
  within_here u i place =
      let within : i < length es = place_within n es i place in
      let many : length (beside_of u.inside) ≡ length u.inside.accepted.entries = as_many u.inside u.sound in
      let named : length (beside_of u.inside) ≡ length u.inside.steps.items = length_named u.inside.cells.places u.inside.steps.items in
      let here : length u.inside.steps.items ≡ length steps = ap (λ (xs : List Placed). length xs) u.has.steps in
      let there : length u.inside.accepted.entries ≡ length es = ap (λ (xs : Numbered). length xs) u.has.accepted in
      omega arith

-- what was put back of a place is out
pub out_of : (n i : ℕ) (d : Step) (es : Numbered) (steps : List Placed) (cells : Table) (new_steps : List Placed) (new_cells : Table) →
    IsPlace n es i → Some d ≡ get_or steps i (Some d) → new_steps ≡ set steps i None → new_cells ≡ written_all cells (replaced_at cells.places d)
    → TakesOut n es steps cells new_steps new_cells
out_of n i d es steps cells new_steps new_cells place_here here gone wrote a b ha sa free same hb kept =
    let place : IsPlace n a.accepted.entries i = subst (λ (xs : Numbered). IsPlace n xs i) (sym ha.accepted) place_here in
    let raw : Some d ≡ get_or a.steps.items i (Some d) = here ∙ ap (λ (xs : List Placed). get_or xs i (Some d)) (sym ha.steps) in
    let v : StepValue = step_value a.cells.places d in
    let there : Some v ≡ get_or (beside_of a) i (Some v) = get_named a.cells.places a.steps.items i (Some d) raw in
    let accepted : b.accepted.entries ≡ a.accepted.entries = hb.accepted ∙ sym ha.accepted in
    let left : b.steps.items ≡ set a.steps.items i None = hb.steps ∙ gone ∙ ap (λ (xs : List Placed). set xs i None) (sym ha.steps) in
    let written : b.cells ≡ written_all a.cells (replaced_at a.cells.places d) = hb.cells ∙ wrote ∙ ap (λ (c : Table). written_all c (replaced_at c.places d)) (sym ha.cells) in
    let places : b.cells.places ≡ a.cells.places = ap (λ (c : Table). c.places) written in
    let now : beside_of b ≡ set (beside_of a) i None = set_named a b i None places left in
    let t = taken_out a b n i v sa place free there same.graph same.opening accepted same.last written now kept in
    record {
      sound = t.sound;
      timeline = t.timeline;
      writes = t.writes;
      prints = sym (taken_prints a b n i None sa place accepted left kept);
      places = places;
      placed = λ cs h. subst (ArePlacedIn cs) (sym left) (placed_set cs a.steps.items i None h tt);
    }

-- the access lists

-- what stands under a number is what was chosen
chosen_is : {A : Type 0} (es : List (ℕ × A)) (ks : List ℕ) (n : ℕ) (f : A) → causal.event_at n (chosen es ks) ≡ Some f → causal.event_at n es ≡ Some f
chosen_is es [] n f at = cc
chosen_is {A} es (k ∷ ks) n f at = by (causal.event_at k es) refl (λ h. chosen_is es ks n f h)
  where
    by : (o : Option A) → causal.event_at k es ≡ o → (causal.event_at n (chosen es ks) ≡ Some f → causal.event_at n es ≡ Some f) → causal.event_at n es ≡ Some f
    by None e rest = rest (sym (ap (λ x. causal.event_at n (under k x (chosen es ks))) e) ∙ at)
    by (Some x) e rest = elim (either (nat_eq k n)) [
      | inl t ↦
          let here : Some x ≡ Some f = sym (ap (λ b. cond b (Some x) (causal.event_at n (chosen es ks))) t) ∙ sym (ap (λ y. causal.event_at n (under k y (chosen es ks))) e) ∙ at in
          ap (λ m. causal.event_at m es) (sym (eqb-true k n t)) ∙ e ∙ here
      | inr other ↦
          rest (sym (ap (λ b. cond b (Some x) (causal.event_at n (chosen es ks))) other) ∙ sym (ap (λ y. causal.event_at n (under k y (chosen es ks))) e) ∙ at)
    ]

-- where no step stands beside a number, the lists see a footprint that names no place
pub nothing_beside : (n : ℕ) (es : Numbered) (steps : List Placed) (f : Footprint ℕ) (a : AccessesValue) → step_beside n es steps ≡ None
    → causal.event_at n (place_prints es steps) ≡ Some f → IsGone n f a
nothing_beside n es steps f a none at = by (causal.event_at n (causal.numbered_by es steps)) none (sym (mapped_beside placed_print n es steps) ∙ at)
  where
    by : (o : Option Placed) → step_in o ≡ None → option_map placed_print o ≡ Some f → IsGone n f a
    by None h e = cc
    by (Some None) h e = let same : Cells [] [] ≡ f = cc in subst (λ g. IsGone n g a) same (gone_nowhere n a)
    by (Some (Some s)) h e = cc

-- and where one does, that of its places
pub same_beside_number : (n : ℕ) (es : Numbered) (steps : List Placed) (s : Step) (f : Footprint ℕ) (a : AccessesValue) → Some s ≡ step_beside n es steps
    → causal.event_at n (place_prints es steps) ≡ Some f → IsGone n (access_places.print_of s.places) a → IsGone n f a
same_beside_number n es steps s f a is at gone =
    let both : Some (access_places.print_of s.places) ≡ Some f = sym (print_placed n es steps s is) ∙ at in
    let same : access_places.print_of s.places ≡ f = cc in
    subst (λ h. IsGone n h a) same gone

-- a number at a place is one of all
pub among_at : (ks : List ℕ) (i : ℕ) → i < length ks → is_among ks (get_or ks i 0) ≡ true
among_at [] i lt = absurd (omega arith)
among_at (k ∷ ks) zero lt = ap (λ b. b || is_among ks k) (eq-eqb k k refl)
among_at (k ∷ ks) (suc i) lt = or_true (nat_eq (get_or ks i 0) k) (is_among ks (get_or ks i 0)) (among_at ks i (omega arith))
  where
    or_true : (a b : Bool) → b ≡ true → (a || b) ≡ true
    or_true true b h = refl
    or_true false b h = h

-- the members so far are gone
pub record AreGone (members : List ℕ) (prints : Prints) (done : List ℕ) (old new : AccessesValue) : Type 0 where
  pub thinned : AreThinned members old new
  pub gone : (n : ℕ) (f : Footprint ℕ) → is_among done n ≡ true → causal.event_at n prints ≡ Some f → IsGone n f new

pub none_gone : (members : List ℕ) (prints : Prints) (a : AccessesValue) → AreGone members prints [] a a
none_gone members prints a = record { thinned = are_thinned_not members a; gone = λ n f among at. absurd (true≢false (sym among)) }

among_last : (xs : List ℕ) (x n : ℕ) → is_among (xs ++ x ∷ []) n ≡ true → (is_among xs n ≡ true) ⊎ (n ≡ x)
among_last [] x n h = elim (either (nat_eq n x)) [
  | inl t ↦ inr (eqb-true n x t)
  | inr f ↦ absurd (true≢false (sym h ∙ ap (λ b. b || false) f))
]
among_last (y ∷ xs) x n h = elim (either (nat_eq n y)) [
  | inl t ↦ inl (ap (λ b. b || is_among xs n) t)
  | inr f ↦
      elim (among_last xs x n (sym (ap (λ b. b || is_among (xs ++ x ∷ []) n) f) ∙ h)) [
        | inl in_xs ↦ inl (ap (λ b. b || is_among xs n) f ∙ in_xs)
        | inr same ↦ inr same
      ]
]

pub one_more_gone : (members : List ℕ) (prints : Prints) (done : List ℕ) (m : ℕ) (a b d : AccessesValue) → AreGone members prints done a b → AreThinned members b d
    → ((f : Footprint ℕ) → causal.event_at m prints ≡ Some f → IsGone m f d) → AreGone members prints (done ++ m ∷ []) a d
one_more_gone members prints done m a b d so_far thinned gone = record {
  thinned = are_thinned_then members a b d so_far.thinned thinned;
  gone = λ n f among at. elim (among_last done m n among) [
    | inl before ↦ is_gone_still members n f b d thinned (so_far.gone n f before at)
    | inr same ↦ subst (λ k. IsGone k f d) (sym same) (gone f (ap (λ k. causal.event_at k prints) (sym same) ∙ at))
  ];
}

-- of a history without its members the lists show what it keeps
pub listed_without : (a b : Inside) (members : List ℕ) → IsListed a → IsSound b → b.cells.places ≡ a.cells.places → ((cells : List Cell) → ArePlacedIn cells a.steps.items → ArePlacedIn cells b.steps.items) → kept_prints b ≡ prints_without members (kept_prints a) → AreThinned members a.accesses b.accesses
    → ((n : ℕ) (f : Footprint ℕ) → is_among members n ≡ true → causal.event_at n (place_prints a.accepted.entries a.steps.items) ≡ Some f → IsGone n f b.accesses) → IsListed b
listed_without a b members la sound same placed prints thinned gone = record {
  sound = sound;
  placed = placed b.cells.places (subst (λ cs. ArePlacedIn cs a.steps.items) (sym same) la.placed);
  distinct = subst (IsDistinct (eq_by_cmp cell_cmp)) (sym same) la.distinct;
  shown = subst (Shows b.accesses) (sym prints)
      (shows_thinned members a.accesses b.accesses (kept_prints a) (prints_rise a la.sound) la.shown thinned
      (λ n f among at. gone n f among (chosen_is (place_prints a.accepted.entries a.steps.items) a.kept.items n f at)));
}

-- members, from the last down

taken-all : (xs : List ℕ) → take (length xs) xs ≡ xs
taken-all [] = refl
taken-all (x ∷ xs) = ap (λ ys. x ∷ ys) (taken-all xs)

-- b is a without some members of the cone of n, and the others are left
pub record IsDown (a b : Inside) (n : ℕ) (members taken : List ℕ) : Type 0 where
  pub sound : IsSound b
  pub places : b.cells.places ≡ a.cells.places
  pub prints : kept_prints b ≡ prints_without taken (kept_prints a)
  pub placed : (cells : List Cell) → ArePlacedIn cells a.steps.items → ArePlacedIn cells b.steps.items
  pub numbers : cone_numbers n (timeline_of b) ≡ members
  pub rest : coned n (timeline_of b) ≡ coned n (timeline_of a)

-- when the members from a place on were taken out
abbrev pub IsPartlyOut : List ℕ → ℕ → Numbered → List Placed → Table → List Placed → Table → Type 0
IsPartlyOut members left es steps cells new_steps new_cells =
    (a b : Inside) (n : ℕ) → HasFields a es steps cells → IsSound a → members ≡ cone_numbers n (timeline_of a) → IsSameBesides a b → HasFields b es new_steps new_cells
    → b.kept.items ≡ without_all (drop left members) a.kept.items → IsDown a b n (take left members) (drop left members)

pub none_out : (members : List ℕ) (es : Numbered) (steps : List Placed) (cells : Table) → IsPartlyOut members (length members) es steps cells steps cells
none_out members es steps cells a b n ha sa are same hb less =
    let accepted : b.accepted.entries ≡ a.accepted.entries = hb.accepted ∙ sym ha.accepted in
    let left : b.steps.items ≡ a.steps.items = hb.steps ∙ sym ha.steps in
    let cells_are : b.cells ≡ a.cells = hb.cells ∙ sym ha.cells in
    let places : b.cells.places ≡ a.cells.places = ap (λ (c : Table). c.places) cells_are in
    let steps_are : beside_of b ≡ beside_of a = same_named a b places left in
    let kept : b.kept.items ≡ a.kept.items = less ∙ ap (λ ms. without_all ms a.kept.items) (dropped-all members) ∙ without_none a.kept.items in
    let one : timeline_of b ≡ timeline_of a = λ j. record { manifest = (same.graph j).manifest; jobs = (same.opening j).jobs; opening = (same.opening j).state; accepted = accepted j; kept = kept j } in
    record {
      sound = same_sound a b sa same.graph same.opening accepted steps_are kept (ap (λ (c : Table). c.state) cells_are) (ap (λ (c : Table). c.jobs) cells_are) same.last;
      places = places;
      prints = sym (same_prints a b accepted left kept) ∙ ap (λ ms. prints_without ms (kept_prints a)) (sym (dropped-all members));
      placed = λ cs h. subst (ArePlacedIn cs) (sym left) h;
      numbers = ap (cone_numbers n) one ∙ sym are ∙ sym (taken-all members);
      rest = ap (coned n) one;
    }

-- the history of which the members up to a place are still to be taken out
module _ (members : List ℕ) (left : ℕ) (es : Numbered) (steps : List Placed) (cells : Table) (now : Vec Placed) (now_cells : Table)
    (partly : IsPartlyOut members left es steps cells now.items now_cells) (some : 0 < left) (within : left ≤ length members) where
  abbrev between : Inside → Inside
  between a = record a {
    steps = now;
    cells = now_cells;
    kept = record { items = without_all (drop left members) a.kept.items; room = a.kept.room };
  }

  module _ (a : Inside) (n : ℕ) (ha : HasFields a es steps cells) (sa : IsSound a) (are : members ≡ cone_numbers n (timeline_of a)) where
    has_between : HasFields (between a) es now.items now_cells
    has_between = record { accepted = ha.accepted; steps = refl; cells = refl }

    down_between : IsDown a (between a) n (take left members) (drop left members)
    down_between = partly a (between a) n ha sa are (record { graph = refl; opening = refl; last = refl }) has_between refl

    step_between : IsStepDown (timeline_of (between a)) n (get_or members (left - 1) 0) (take (left - 1) members)
    step_between = down_step (timeline_of (between a)) n left members (history_of (between a) down_between.sound) some within down_between.numbers

  pub next_free : IsConeHere members es steps cells → IsFreeHere (get_or members (left - 1) 0) es now.items now_cells
  next_free k = record {
    inside = between k.inside;
    has = has_between k.inside k.number k.has k.sound k.members_are;
    sound = (down_between k.inside k.number k.has k.sound k.members_are).sound;
    placed =
        (down_between k.inside k.number k.has k.sound k.members_are).placed now_cells.places
        (subst (λ cs. ArePlacedIn cs k.inside.steps.items) (sym (down_between k.inside k.number k.has k.sound k.members_are).places) k.placed);
    free = (step_between k.inside k.number k.has k.sound k.members_are).free;
  }

  pub next_out : (new_steps : List Placed) (new_cells : Table) → TakesOut (get_or members (left - 1) 0) es now.items now_cells new_steps new_cells
      → IsPartlyOut members (left - 1) es steps cells new_steps new_cells
  next_out new_steps new_cells takes a b n ha sa are same hb less =
      let p : IsDown a (between a) n (take left members) (drop left members) = down_between a n ha sa are in
      let d : IsStepDown (timeline_of (between a)) n (get_or members (left - 1) 0) (take (left - 1) members) = step_between a n ha sa are in
      let kept : b.kept.items ≡ without (get_or members (left - 1) 0) (without_all (drop left members) a.kept.items) =
      less ∙ ap (λ ms. without_all ms a.kept.items) (dropped-before members left some within) ∙ sym (without_more (get_or members (left - 1) 0) (drop left members) a.kept.items) in
      let w : IsWithout (between a) b (get_or members (left - 1) 0) = takes (between a) b (has_between a n ha sa are) p.sound d.free (record { graph = same.graph; opening = same.opening; last = same.last }) hb kept in
      record {
        sound = w.sound;
        places = w.places ∙ p.places;
        placed = λ cs h. w.placed cs (p.placed cs h);
        prints = w.prints ∙ ap (causal.without (get_or members (left - 1) 0)) p.prints ∙ ap (λ ms. prints_without ms (kept_prints a)) (sym (dropped-before members left some within));
        numbers = ap (cone_numbers n) w.timeline ∙ d.cone_without;
        rest = ap (coned n) w.timeline ∙ d.rest_without ∙ p.rest;
      }

pub all_out : (members : List ℕ) (left : ℕ) (es : Numbered) (steps : List Placed) (cells : Table) (new_steps : List Placed) (new_cells : Table) → left ≡ 0
    → IsPartlyOut members left es steps cells new_steps new_cells → TakesConeOut members es steps cells new_steps new_cells
all_out members left es steps cells new_steps new_cells none partly a b n ha sa are same hb less =
    let p : IsDown a b n (take left members) (drop left members) = partly a b n ha sa are same hb (less ∙ ap (λ i. without_all (drop i members) a.kept.items) (sym none)) in
    record {
      sound = p.sound;
      places = p.places;
      placed = p.placed;
      timeline = sym (down_last (timeline_of b) n left members (history_of b p.sound) none p.numbers) ∙ p.rest;
      prints = p.prints ∙ ap (λ i. prints_without (drop i members) (kept_prints a)) none;
    }

-- the numbers of a cone rise

behind_above : (m n : ℕ) (prints : Prints) (ms ks : List ℕ) → AllByRecursion (λ k. m < k) ks → AllByRecursion (λ k. m < k) (cone_behind nat_cmp n prints ms ks)
behind_above m n prints ms [] h = tt
behind_above m n prints ms (k ∷ ks) h =
    elim (joins nat_cmp n prints ms k) as (λ b. AllByRecursion (λ y. m < y) (cond b (k ∷ cone_behind nat_cmp n prints (ms ++ k ∷ []) ks) (cone_behind nat_cmp n prints ms ks))) [
      | true ↦ (h.0, behind_above m n prints (ms ++ k ∷ []) ks h.1)
      | false ↦ behind_above m n prints ms ks h.1
    ]

behind_rises : (n : ℕ) (prints : Prints) (ms ks : List ℕ) → IsRisingNumbers ks → IsRisingNumbers (cone_behind nat_cmp n prints ms ks)
behind_rises n prints ms [] h = tt
behind_rises n prints ms (k ∷ ks) h =
    elim (joins nat_cmp n prints ms k) as (λ b. IsRisingNumbers (cond b (k ∷ cone_behind nat_cmp n prints (ms ++ k ∷ []) ks) (cone_behind nat_cmp n prints ms ks))) [
      | true ↦ (behind_above k n prints (ms ++ k ∷ []) ks h.0, behind_rises n prints (ms ++ k ∷ []) ks h.1)
      | false ↦ behind_rises n prints ms ks h.1
    ]

and_left : (a b : Bool) → (a && b) ≡ true → a ≡ true
and_left true b h = refl
and_left false b h = h

behind_first : (n : ℕ) (prints : Prints) (ms ks : List ℕ) → AllByRecursion (λ k. n < k) (cone_behind nat_cmp n prints ms ks)
behind_first n prints ms [] = tt
behind_first n prints ms (k ∷ ks) = elim (either (joins nat_cmp n prints ms k)) [
  | inl t ↦
      subst (λ b. AllByRecursion (λ y. n < y) (cond b (k ∷ cone_behind nat_cmp n prints (ms ++ k ∷ []) ks) (cone_behind nat_cmp n prints ms ks))) (sym t)
      (ltb-true n k (and_left (nat_lt n k) (conflicts_with_any nat_cmp prints ms (causal.event_at k prints)) t), behind_first n prints (ms ++ k ∷ []) ks)
  | inr f ↦
      subst (λ b. AllByRecursion (λ y. n < y) (cond b (k ∷ cone_behind nat_cmp n prints (ms ++ k ∷ []) ks) (cone_behind nat_cmp n prints ms ks))) (sym f) (behind_first n prints ms ks)
]

pub cone_rises : (n : ℕ) (prints : Prints) (ks : List ℕ) → IsRisingNumbers ks → IsRisingNumbers (n ∷ cone_behind nat_cmp n prints (n ∷ []) ks)
cone_rises n prints ks rising = (behind_first n prints (n ∷ []) ks, behind_rises n prints (n ∷ []) ks rising)

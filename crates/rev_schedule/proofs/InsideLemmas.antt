-- Each edge in a line is one of the build, at every moment.
use Rattle.std.proofs.Common.{◌≡◌, ℕ, ◌<◌, Bool, Option, inl, inr, List, [], ◌∷◌, length, get_or, sym, subst, refl, arith}
use Rattle.std.specs.Global.{Vec}
use Rattle.std.specs.List.{All, Contains}
use Rattle.std.proofs.lemmas.Bool.{cases_eq, cases_lt}
use Rattle.std.proofs.lemmas.List.{get_or_past}
use Rattle.std.proofs.lemmas.List.Elements.{All-cons, All-head, All-nil, All-same, All-tail, Contains-append_left, Contains-get_or, Contains-push}
use Rattle.std.proofs.lemmas.List.Sorted.{All-permutation}
use Rattle.rev_schedule.specs.declared.job.Build.{Build}
use Rattle.rev_schedule.specs.Builds.{edges_of, job_of, turn_of}
use Rattle.rev_schedule.specs.Going.{AreInside, HasInputs, IsStarted, SameKnown}
use Rattle.rev_schedule.specs.Inputs.{IsKnown}
use Rattle.rev_schedule.specs.declared.going.Going.{Going}
use Rattle.rev_schedule.specs.Moments.{Moment, line_of}
use Rattle.rev_schedule.specs.Ninja.{Arrives, ArriveAll, ArriveAll.nobody, ArriveAll.one_more, Finishes, IsFresh, Leaves}
use Rattle.rev_schedule.specs.Turns.{Turn, IsFirst}

module _ (build : Build) where
  abbrev IsInside : Turn → Type 0
  IsInside turn = turn.1 < edges_of build

  pub arrive-inside : (edge : ℕ) (before after : Moment) → edge < edges_of build → AreInside build before → Arrives build edge before after → AreInside build after
  arrive-inside edge before after h is (inl enters) = record {
    ready = All-permutation IsInside (turn_of build edge ∷ before.ready) after.ready enters.ready (All-cons IsInside (turn_of build edge) before.ready h is.ready);
    running = subst (All IsInside) (sym enters.rest.running) is.running;
    waiting = λ pool. subst (λ (w : List (List Turn)). All IsInside (get_or w pool [])) (sym enters.waiting) (is.waiting pool);
  }
  arrive-inside edge before after h is (inr waits) = record {
    ready = subst (All IsInside) (sym waits.ready) is.ready;
    running = subst (All IsInside) (sym waits.rest.running) is.running;
    waiting = λ pool. elim (cases_eq pool (job_of build edge).pool) [
      | inl same ↦ subst (λ k. All IsInside (line_of after k)) (sym same)
          (All-permutation IsInside (turn_of build edge ∷ line_of before (job_of build edge).pool) (line_of after (job_of build edge).pool) waits.line
          (All-cons IsInside (turn_of build edge) (line_of before (job_of build edge).pool) h (is.waiting (job_of build edge).pool)))
      | inr other ↦ subst (All IsInside) (sym (waits.others.others pool other)) (is.waiting pool)
    ];
  }

  pub leave-inside : (edge : ℕ) (before after : Moment) → AreInside build before → Leaves build edge before after → AreInside build after
  leave-inside edge before after is (inl hands) =
      let parts : All IsInside (hands.next ∷ line_of after (job_of build edge).pool) =
      All-permutation IsInside (line_of before (job_of build edge).pool) (hands.next ∷ line_of after (job_of build edge).pool) hands.first.parts (is.waiting (job_of build edge).pool) in
      record {
        ready = All-permutation IsInside (hands.next ∷ before.ready) after.ready hands.ready
            (All-cons IsInside hands.next before.ready (All-head IsInside hands.next (line_of after (job_of build edge).pool) parts) is.ready);
        running = subst (All IsInside) (sym hands.rest.running) is.running;
        waiting = λ pool. elim (cases_eq pool (job_of build edge).pool) [
          | inl same ↦ subst (λ k. All IsInside (line_of after k)) (sym same) (All-tail IsInside hands.next (line_of after (job_of build edge).pool) parts)
          | inr other ↦ subst (All IsInside) (sym (hands.others.others pool other)) (is.waiting pool)
        ];
      }
  leave-inside edge before after is (inr frees) = record {
    ready = subst (All IsInside) (sym frees.ready) is.ready;
    running = subst (All IsInside) (sym frees.rest.running) is.running;
    waiting = λ pool. subst (λ (w : List (List Turn)). All IsInside (get_or w pool [])) (sym frees.waiting) (is.waiting pool);
  }

  pub all-arrive-inside : (before : Moment) {turns : List Turn} {after : Moment} → ((t : Turn) → Contains turns t → t.1 < edges_of build)
      → AreInside build before → ArriveAll build before turns after → AreInside build after
  all-arrive-inside before h is nobody = is
  all-arrive-inside before h is (one_more {turns} turn {between} {after} all one) =
      arrive-inside turn.1 between after (h turn (Contains-push turns turn))
      (all-arrive-inside before (λ t k. h t (Contains-append_left turns (turn ∷ []) t k)) is all) one

  pub finishes-inside : (edge : ℕ) (before after : Moment) → AreInside build before → Finishes build edge before after → AreInside build after
  finishes-inside edge before after is f =
      let left : AreInside build f.left = leave-inside edge before f.left is f.leaves in
      all-arrive-inside _ (λ t h. (f.come.only t h).0) record { ready = left.ready; running = left.running; waiting = left.waiting } f.arrive

  pub starts-inside : (edge : ℕ) (before after : Moment) → edge < edges_of build → AreInside build before → IsStarted build edge before after → AreInside build after
  starts-inside edge before after h is s = record {
    ready = subst (All IsInside) (sym s.ready) is.ready;
    running = All-permutation IsInside ((s.end, edge) ∷ before.running) after.running s.running (All-cons IsInside (s.end, edge) before.running h is.running);
    waiting = λ pool. subst (λ (w : List (List Turn)). All IsInside (get_or w pool [])) (sym s.waiting) (is.waiting pool);
  }

  pub first-inside : (turn : Turn) (every rest : List Turn) → All IsInside every → IsFirst turn every rest → turn.1 < edges_of build
  first-inside turn every rest all is = All-head IsInside turn rest (All-permutation IsInside every (turn ∷ rest) is.parts all)

  pub rest-inside : (turn : Turn) (every rest : List Turn) → All IsInside every → IsFirst turn every rest → All IsInside rest
  rest-inside turn every rest all is = All-tail IsInside turn rest (All-permutation IsInside every (turn ∷ rest) is.parts all)

  -- the moment after the first ready edge was taken
  pub taken-inside : (turn : Turn) (before taken : Moment) (rest : List Turn) → AreInside build before → IsFirst turn before.ready rest
      → taken ≡ record before { ready = rest } → AreInside build taken
  taken-inside turn before taken rest is first same = subst (AreInside build) (sym same)
      record { ready = rest-inside turn before.ready rest is.ready first; running = is.running; waiting = is.waiting }

  -- the moment after the run that ends first was taken
  pub ended-inside : (turn : Turn) (before : Moment) (rest : List Turn) (time : ℕ) (freed : Option ℕ) → AreInside build before → IsFirst turn before.running rest
      → AreInside build (record before { running = rest; time = time; freed = freed })
  ended-inside turn before rest time freed is first =
      record { ready = is.ready; running = rest-inside turn before.running rest is.running first; waiting = is.waiting }

  -- what is known of inputs and pools outlives what does not touch them
  pub inputs-same : (before after : Going) → SameKnown before after → HasInputs build before → HasInputs build after
  inputs-same before after same has = record {
    each = subst (λ (v : Vec Bool). length v.items ≡ edges_of build) (sym same.through) has.each;
    known = subst (λ (v : Vec Bool). IsKnown build v.items after.missing.items) (sym same.through)
        (subst (λ (v : Vec ℕ). IsKnown build before.through.items v.items) (sym same.missing) has.known);
  }

  -- where nothing has begun, nobody stands in a line
  pub fresh-inside : (moment : Moment) → IsFresh build moment → AreInside build moment
  fresh-inside moment is = record {
    ready = All-same IsInside moment.ready [] is.ready (All-nil IsInside);
    running = All-same IsInside moment.running [] is.running (All-nil IsInside);
    waiting = λ pool. elim (cases_lt pool (length moment.waiting)) [
      | inl lt ↦ All-same IsInside (line_of moment pool) [] (is.waiting pool [] lt) (All-nil IsInside)
      | inr past ↦ All-same IsInside (line_of moment pool) [] (get_or_past moment.waiting pool [] past) (All-nil IsInside)
    ];
  }

-- an element of a list that is the same
pub in-same : (xs ys : List Turn) (i : ℕ) (d : Turn) → xs ≡ ys → i < length xs → Contains ys (get_or xs i d)
in-same xs ys i d same h = subst (λ (l : List Turn). Contains l (get_or xs i d)) same (Contains-get_or xs i d h)

pub empty-of : (xs : List ℕ) → length xs ≡ 0 → xs ≡ []
empty-of [] h = refl
empty-of (x ∷ xs) h = absurd (omega arith)

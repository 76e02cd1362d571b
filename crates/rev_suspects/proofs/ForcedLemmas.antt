-- In the history's own order a suspect is not settled when the command that failed starts.
use Rattle.std.proofs.Common.{◌≡◌, ℕ, zero, suc, ◌<◌, ◌==◌, Bool, true, false, cond, not, ◌&&◌, ◌||◌, List, [], ◌∷◌, ◌++◌, Contains, Option, Some, None, nat_eq, refl, sym, ap, subst, ◌∙◌, arith, nat_lt, true≢false, if◌then◌else◌}
use Rattle.std.specs.Prelude.{filter, option_and_then}
use Rattle.std.specs.List.{AllByRecursion, cons_option, filter_map, list_any}
use Rattle.std.specs.Option.{option_map, option_or}
use Rattle.std.proofs.lemmas.Bool.{eq-eqb, eqb-true, le-ltb, lt-ltb}
use Rattle.rev_causal.specs.Chosen.{chosen, IsRising, is_among, under}
use Rattle.rev_causal.specs.History as causal
use Rattle.rev_causal.specs.Machine.{Legal}
use Rattle.rev_cells.specs.State.{State, mark_of}
use Rattle.rev_cells.specs.declared.mark.Mark.{Mark}
use Rattle.rev_cells.specs.declared.mark.Mark.TheVariants as mark
use Rattle.rev_events.specs.declared.event.Event.{Event}
use Rattle.rev_events.specs.Machine.{after}
use Rattle.rev_events.specs.Refusal.{is_settled}
use Rattle.rev_graph.specs.Graph.{build_at}
use Rattle.rev_history.specs.Timeline.{Numbered, Timeline, event_at, machine_at}
use Rattle.rev_waits.specs.Waits.{waits}
use Rattle.rev_races.specs.Races.{names, starts}
use Rattle.rev_races.specs.Runs.{last_number}
use Rattle.rev_suspects.specs.Failures.{failed_edge, failure_at, failure_by, kept_before, last_start}
use Rattle.rev_suspects.specs.Laws.{SuspectsAreNotForced}
use Rattle.rev_suspects.specs.Suspects.{is_at, state_before}
use Rattle.rev_suspects.specs.declared.failed.Failure.{Failure}
use Rattle.rev_suspects.specs.declared.suspected.Progress.{Progress}
use Rattle.rev_suspects.specs.declared.suspected.Progress.TheVariants.{Running, Failed, ToRun}
use Rattle.rev_suspects.proofs.FailureLemmas.{none-below}
use Rattle.rev_suspects.proofs.LawLemmas.{left-of, right-of}
use Rattle.rev_suspects.proofs.SuspectLemmas.{among-filter}

-- A FAILURE'S START
-- an event that passes stands under a number that is among some
record IsFound (p : ℕ × Event → Bool) (accepted : Numbered) (ks : List ℕ) (n : ℕ) : Type 0 where
  event : Event
  at : causal.event_at n accepted ≡ Some event
  passes : p (n, event) ≡ true
  among : is_among ks n ≡ true

or-true : (a b : Bool) → b ≡ true → (a || b) ≡ true
or-true true b h = refl
or-true false b h = h

last-found : (p : ℕ × Event → Bool) (accepted : Numbered) (ks : List ℕ) (n : ℕ) → last_number p (chosen accepted ks) ≡ Some n → IsFound p accepted ks n
last-found p accepted [] n h = let no : None ≡ Some n = h in cc
last-found p accepted (k ∷ ks) n h = by (causal.event_at k accepted) refl h (λ m. last-found p accepted ks m)
  where
    further : (m : ℕ) → IsFound p accepted ks m → IsFound p accepted (k ∷ ks) m
    further m r = record { event = r.event; at = r.at; passes = r.passes; among = or-true (nat_eq m k) (is_among ks m) r.among }

    here : (e : Event) → causal.event_at k accepted ≡ Some e → p (k, e) ≡ true → k ≡ n → IsFound p accepted (k ∷ ks) n
    here e is passes same =
        subst (λ m. IsFound p accepted (k ∷ ks) m) same
        (record { event = e; at = is; passes = passes; among = ap (λ b. b || is_among ks k) (eq-eqb k k refl) })

    own : (e : Event) (b : Bool) → causal.event_at k accepted ≡ Some e → p (k, e) ≡ b → (if b then Some k else None) ≡ Some n → IsFound p accepted (k ∷ ks) n
    own e true is passes h = let same : k ≡ n = cc in here e is passes same
    own e false is passes h = let no : None ≡ Some n = h in cc

    some : (e : Event) (o : Option ℕ) → last_number p (chosen accepted ks) ≡ o → causal.event_at k accepted ≡ Some e → option_or o (if p (k, e) then Some k else None) ≡ Some n
        → ((m : ℕ) → last_number p (chosen accepted ks) ≡ Some m → IsFound p accepted ks m) → IsFound p accepted (k ∷ ks) n
    some e None rest is h before = own e (p (k, e)) is refl h
    some e (Some m) rest is h before =
        let same : Some m ≡ Some n = h in
        further n (before n (rest ∙ same))

    by : (o : Option Event) → causal.event_at k accepted ≡ o → last_number p (under k o (chosen accepted ks)) ≡ Some n
        → ((m : ℕ) → last_number p (chosen accepted ks) ≡ Some m → IsFound p accepted ks m) → IsFound p accepted (k ∷ ks) n
    by None is h before = further n (before n h)
    by (Some e) is h before = some e (last_number p (chosen accepted ks)) refl is h before

-- the start of a run that failed
record Begins (t : Timeline) (f : Failure) : Type 0 where
  event : Event
  at : event_at t f.began ≡ Some event
  begins : starts t.manifest f.edge event ≡ true
  kept : is_among t.kept f.began ≡ true

begins-by : (t : Timeline) (n edge : ℕ) (f : Failure) → failure_by t n edge ≡ Some f → Begins t f
begins-by t n edge f h = by (last_start t (kept_before t n) edge) refl h
  where
    by : (o : Option ℕ) → last_start t (kept_before t n) edge ≡ o → option_map (λ (began : ℕ). record { number = n; edge = edge; began = began }) o ≡ Some f → Begins t f
    by None is e = let no : None ≡ Some f = e in cc
    by (Some b) is e =
        let r = last-found (λ (e : ℕ × Event). starts t.manifest edge e.1) t.accepted (filter (λ k. nat_lt k n) t.kept) b is in
        let same : record { number = n; edge = edge; began = b } ≡ f = cc in
        subst (Begins t) same (record { event = r.event; at = r.at; begins = r.passes; kept = among-filter (λ k. nat_lt k n) t.kept b r.among })

begins-at : (t : Timeline) (n : ℕ) (f : Failure) → failure_at t n ≡ Some f → Begins t f
begins-at t n f h = by (option_and_then (failed_edge t.manifest.builds) (event_at t n)) h
  where
    by : (o : Option ℕ) → option_and_then (failure_by t n) o ≡ Some f → Begins t f
    by None e = let no : None ≡ Some f = e in cc
    by (Some edge) e = begins-by t n edge f e

begins-of : (t : Timeline) (ks : List ℕ) (f : Failure) → Contains (filter_map (failure_at t) ks) f → Begins t f
begins-of t [] f (k, within, at) = absurd (omega (arith, within))
begins-of t (k ∷ ks) f h = by (failure_at t k) refl h (begins-of t ks f)
  where
    by : (o : Option Failure) → failure_at t k ≡ o → Contains (cons_option o (filter_map (failure_at t) ks)) f → (Contains (filter_map (failure_at t) ks) f → Begins t f) → Begins t f
    by None is h rest = rest h
    by (Some g) is (zero, within, at) rest = begins-at t k f (is ∙ ap Some at)
    by (Some g) is (suc j, within, at) rest = rest (j, omega (arith, within), at)

-- THE EVENTS BEFORE IT
above-all : (x : ℕ) (xs : List ℕ) (n : ℕ) → AllByRecursion (λ y. x < y) xs → is_among xs n ≡ true → x < n
above-all x [] n all h = absurd (true≢false (sym h))
above-all x (y ∷ ys) n all h = by (nat_eq n y) refl h (above-all x ys n all.1)
  where
    by : (b : Bool) → nat_eq n y ≡ b → (b || is_among ys n) ≡ true → (is_among ys n ≡ true → x < n) → x < n
    by true is h rest =
        let same : n ≡ y = eqb-true n y is in
        let more = all.0 in
        omega (arith, same, more)
    by false is h rest = rest h

-- of legal events those before a number are legal with its event
legal-until : (t : Timeline) (ks : List ℕ) (n : ℕ) (e : Event) (s : State) → IsRising ks → is_among ks n ≡ true → event_at t n ≡ Some e → Legal (machine_at t) s (chosen t.accepted ks)
    → Legal (machine_at t) s (chosen t.accepted (filter (λ k. nat_lt k n) ks) ++ (n, e) ∷ [])
legal-until t [] n e s rising among is legal = absurd (true≢false (sym among))
legal-until t (k ∷ ks) n e s rising among is legal = by (nat_eq n k) refl among (λ u. legal-until t ks n e u rising.1)
  where
    here : n ≡ k → Legal (machine_at t) s (chosen t.accepted (filter (λ k. nat_lt k n) (k ∷ ks)) ++ (n, e) ∷ [])
    here same =
        let event : event_at t k ≡ Some e = subst (λ m. event_at t m ≡ Some e) same is in
        let first : Legal (machine_at t) s ((k, e) ∷ chosen t.accepted ks) = subst (λ (o : Option Event). Legal (machine_at t) s (under k o (chosen t.accepted ks))) event legal in
        let none : filter (λ m. nat_lt m n) (k ∷ ks) ≡ [] =
        ap (λ b. cond b (k ∷ filter (λ m. nat_lt m n) ks) (filter (λ m. nat_lt m n) ks)) (le-ltb k n (omega (arith, same))) ∙ none-below k n ks (omega (arith, same)) rising.0 in
        subst (λ (ms : List ℕ). Legal (machine_at t) s (chosen t.accepted ms ++ (n, e) ∷ [])) (sym none) (first.0, tt)

    later : (o : Option Event) → event_at t k ≡ o → k < n → ((u : State) → Legal (machine_at t) u (chosen t.accepted ks) → Legal (machine_at t) u (chosen t.accepted (filter (λ m. nat_lt m n) ks) ++ (n, e) ∷ []))
        → Legal (machine_at t) s (under k o (chosen t.accepted ks)) → Legal (machine_at t) s (under k o (chosen t.accepted (filter (λ m. nat_lt m n) ks)) ++ (n, e) ∷ [])
    later None o_is less rest legal = rest s legal
    later (Some g) o_is less rest legal = (legal.0, rest (after t.manifest s g) legal.1)

    there : k < n → ((u : State) → Legal (machine_at t) u (chosen t.accepted ks) → Legal (machine_at t) u (chosen t.accepted (filter (λ m. nat_lt m n) ks) ++ (n, e) ∷ []))
        → Legal (machine_at t) s (chosen t.accepted (filter (λ k. nat_lt k n) (k ∷ ks)) ++ (n, e) ∷ [])
    there less rest =
        let whole : filter (λ m. nat_lt m n) (k ∷ ks) ≡ k ∷ filter (λ m. nat_lt m n) ks =
        ap (λ b. cond b (k ∷ filter (λ m. nat_lt m n) ks) (filter (λ m. nat_lt m n) ks)) (lt-ltb k n less) in
        subst (λ (ms : List ℕ). Legal (machine_at t) s (chosen t.accepted ms ++ (n, e) ∷ [])) (sym whole) (later (event_at t k) refl less rest legal)

    by : (b : Bool) → nat_eq n k ≡ b → (b || is_among ks n) ≡ true
        → ((u : State) → is_among ks n ≡ true → event_at t n ≡ Some e → Legal (machine_at t) u (chosen t.accepted ks) → Legal (machine_at t) u (chosen t.accepted (filter (λ m. nat_lt m n) ks) ++ (n, e) ∷ []))
        → Legal (machine_at t) s (chosen t.accepted (filter (λ k. nat_lt k n) (k ∷ ks)) ++ (n, e) ∷ [])
    by true same h rest = here (eqb-true n k same)
    by false other h rest = there (above-all k ks n rising.0 h) (λ u l. rest u h is l)

-- what runs, has failed, or is still to run, is not settled
at-unsettled : (progress : Progress) (m : Mark) → is_at progress m ≡ true → is_settled m ≡ false
at-unsettled Running (mark.Running job slot seen) h = refl
at-unsettled Running mark.Idle h = absurd (true≢false (sym h))
at-unsettled Running mark.Wanted h = refl
at-unsettled Running mark.Through h = refl
at-unsettled Running (mark.Done changed) h = absurd (true≢false (sym h))
at-unsettled Running mark.Clean h = absurd (true≢false (sym h))
at-unsettled Running mark.Failed h = refl
at-unsettled Running mark.Stopped h = refl
at-unsettled Failed (mark.Running job slot seen) h = refl
at-unsettled Failed mark.Idle h = absurd (true≢false (sym h))
at-unsettled Failed mark.Wanted h = refl
at-unsettled Failed mark.Through h = refl
at-unsettled Failed (mark.Done changed) h = absurd (true≢false (sym h))
at-unsettled Failed mark.Clean h = absurd (true≢false (sym h))
at-unsettled Failed mark.Failed h = refl
at-unsettled Failed mark.Stopped h = refl
at-unsettled ToRun (mark.Running job slot seen) h = refl
at-unsettled ToRun mark.Idle h = absurd (true≢false (sym h))
at-unsettled ToRun mark.Wanted h = refl
at-unsettled ToRun mark.Through h = refl
at-unsettled ToRun (mark.Done changed) h = absurd (true≢false (sym h))
at-unsettled ToRun mark.Clean h = absurd (true≢false (sym h))
at-unsettled ToRun mark.Failed h = refl
at-unsettled ToRun mark.Stopped h = refl

pub suspects-are-not-forced : SuspectsAreNotForced
suspects-are-not-forced t files f progress edge history failed suspect =
    let r = begins-of t t.kept f failed in
    let builds = t.manifest.builds in
    let s : State = state_before t f.began in
    let h5 = left-of ((((not (build_at builds edge).phony && not (edge == f.edge)) && not (waits builds f.edge edge)) && not (waits builds edge f.edge)) && is_at progress (mark_of s edge)) (not (list_any (names t.manifest edge) files)) suspect in
    let here = right-of (((not (build_at builds edge).phony && not (edge == f.edge)) && not (waits builds f.edge edge)) && not (waits builds edge f.edge)) (is_at progress (mark_of s edge)) h5 in
    record {
      before = kept_before t f.began;
      n = f.began;
      e = r.event;
      legal = legal-until t t.kept f.began r.event t.opening history.rising r.kept r.at history.legal;
      begins = r.begins;
      unsettled = at-unsettled progress (mark_of s edge) here;
    }

-- Who leaves a place last.
use Rattle.std.proofs.Common.{◌≡◌, ◌≢◌, ℕ, Bool, true, false, List, [], ◌∷◌, ◌++◌, Contains, inl, inr, refl, sym, subst, ◌∙◌, arith, true≢false, append_assoc, if◌then◌else◌}
use Rattle.std.specs.List.{AllByRecursion}
use Rattle.std.proofs.lemmas.Bool.{cases_eq, false_from_ne_true}
use Rattle.std.proofs.lemmas.List.Elements.{Contains-append_cases, Contains-append_right}
use Rattle.rev_manifest.specs.Manifest.{BuildValue, ManifestValue}
use Rattle.rev_graph.specs.Graph.{EdgeReaches, EdgeReaches.step as one, EdgeReaches.further as on}
use Rattle.rev_graph.proofs.StepLemmas.{only}
use Rattle.rev_cells.specs.State.{State, mark_of}
use Rattle.rev_plan.specs.Plan.{is_running_mark}
use Rattle.rev_causal.specs.Machine.{Legal, run}
use Rattle.rev_events.specs.declared.event.Event.{Event}
use Rattle.rev_events.specs.declared.event.Event.TheVariants.{Plan}
use Rattle.rev_events.specs.Held.{IsOpened}
use Rattle.rev_events.specs.Machine.{after}
use Rattle.rev_events.specs.Refusal.{is_settled}
use Rattle.rev_footprint.specs.Machine.{machine}
use Rattle.rev_history.specs.Timeline.{IsHistory, Numbered, Timeline, kept_events, machine_at}
use Rattle.rev_waits.specs.Waits.{Waits, waits}
use Rattle.rev_races.specs.Laws.{until_plan}
use Rattle.rev_races.specs.Races.{is_plan, starts}
use Rattle.rev_races.proofs.RaceLemmas.{waits-is-decided}
use Rattle.rev_races.proofs.Waiting.{IsOrdered, decide, event-ordered, farther, opened-ordered, running-not-due, running-not-idle, settled-not-due, settled-not-running, starts-wait}
use Rattle.rev_conflicts.specs.Laws.{AreOrdered, IsLast, LastIsLast, NoneBeside, NoneConflict, NoneOrLast, WhoWroteItLast}

-- NONE BESIDE
-- what a running edge waits for is settled
running-settled : (builds : List BuildValue) (s : State) (x y : ℕ) → IsOrdered builds s → is_running_mark (mark_of s x) ≡ true → EdgeReaches builds x y → is_settled (mark_of s y) ≡ true
running-settled builds s x y ordered runs way = along way
  where
    behind : (p : ℕ) → EdgeReaches builds x p → is_settled (mark_of s p) ≡ true → (q : ℕ) → EdgeReaches builds p q → is_settled (mark_of s q) ≡ true
    behind p front h q (one step) = ordered p (x, running-not-idle (mark_of s x) runs, inr front) (settled-not-due (mark_of s p) h) q step
    behind p front h q (on {middle = m} step way) =
        behind m (farther front step) (ordered p (x, running-not-idle (mark_of s x) runs, inr front) (settled-not-due (mark_of s p) h) m step) q way

    first : (q : ℕ) → EdgeReaches builds x q → is_settled (mark_of s q) ≡ true
    first q (one step) = ordered x (x, running-not-idle (mark_of s x) runs, inl refl) (running-not-due (mark_of s x) runs) q step
    first q (on {middle = m} step way) =
        behind m (one step) (ordered x (x, running-not-idle (mark_of s x) runs, inl refl) (running-not-due (mark_of s x) runs) m step) q way

    along : EdgeReaches builds x y → is_settled (mark_of s y) ≡ true
    along way = first y way

-- two ordered edges do not run at once
apart : (builds : List BuildValue) (s : State) (x y : ℕ) → IsOrdered builds s → AreOrdered builds x y → is_running_mark (mark_of s y) ≡ true → is_running_mark (mark_of s x) ≡ false
apart builds s x y ordered (inr way) runs = settled-not-running (mark_of s x) (running-settled builds s y x ordered runs way)
apart builds s x y ordered (inl way) runs =
    false_from_ne_true _ (λ other. true≢false (sym runs ∙ settled-not-running (mark_of s y) (running-settled builds s x y ordered other way)))

-- each state of a legal list is ordered
run-ordered : (manifest : ManifestValue) (jobs : ℕ) (s : State) (before later : Numbered) → IsOrdered manifest.builds s → Legal (machine manifest jobs) s (before ++ later)
    → IsOrdered manifest.builds (run (machine manifest jobs) s before)
run-ordered manifest jobs s [] later ordered legal = ordered
run-ordered manifest jobs s (e ∷ before) later ordered legal =
    run-ordered manifest jobs (after manifest s e.1) before later (event-ordered manifest jobs s e.1 legal.0 ordered) legal.1

none-beside : (t : Timeline) (leavers : List ℕ) (b : ℕ) → IsHistory t → IsOpened t.opening → NoneConflict t.manifest.builds leavers b → NoneBeside t leavers b
none-beside t leavers b is opened none before later x split leaves other runs =
    let ordered = run-ordered t.manifest t.jobs t.opening before later (opened-ordered t.manifest t.jobs t.opening opened) (subst (λ es. Legal (machine_at t) t.opening es) split is.legal) in
    apart t.manifest.builds (run (machine_at t) t.opening before) x b ordered (none.user_is x leaves other) runs

-- THE LAST IS THE LAST
abbrev Quiet : ManifestValue → ℕ → Numbered → Type 0
Quiet manifest x es = AllByRecursion (λ (l : ℕ × Event). starts manifest x l.1 ≡ false) es

abbrev Planless : Numbered → Type 0
Planless es = AllByRecursion (λ (l : ℕ × Event). is_plan l.1 ≡ false) es

-- what holds until the next plan holds of events without one
until-quiet : (manifest : ManifestValue) (x : ℕ) (since later : Numbered) → Planless since → Quiet manifest x (until_plan (since ++ later)) → Quiet manifest x since
until-quiet manifest x [] later none h = tt
until-quiet manifest x (e ∷ since) later none h = by (is_plan e.1) refl (λ k. until-quiet manifest x since later none.1 k) h
  where
    by : (plans : Bool) → is_plan e.1 ≡ plans → (Quiet manifest x (until_plan (since ++ later)) → Quiet manifest x since) → Quiet manifest x (if plans then [] else e ∷ until_plan (since ++ later)) → Quiet manifest x (e ∷ since)
    by true is rest h = absurd (true≢false (sym is ∙ none.0))
    by false is rest h = (h.0, rest h.1)

-- and of an event right behind them, which is none
until-next : (manifest : ManifestValue) (b : ℕ) (since later : Numbered) (n : ℕ) (e : Event) → Planless since → starts manifest b e ≡ true → Quiet manifest b (until_plan (since ++ (n, e) ∷ later)) → ⊥
until-next manifest b [] later n e none begins h = by (is_plan e) refl h
  where
    no-plan : (e : Event) → starts manifest b e ≡ true → is_plan e ≡ true → ⊥
    no-plan e begins is = plan-starts e is begins
      where
        plan-starts : (e : Event) → is_plan e ≡ true → starts manifest b e ≡ true → ⊥
        plan-starts (Plan targets) is begins = true≢false (sym begins)
        plan-starts _ is begins = true≢false (sym is)

    by : (plans : Bool) → is_plan e ≡ plans → Quiet manifest b (if plans then [] else (n, e) ∷ until_plan later) → ⊥
    by true is h = no-plan e begins is
    by false is h = true≢false (sym begins ∙ h.0)
until-next manifest b (l ∷ since) later n e none begins h = by (is_plan l.1) refl (λ k. until-next manifest b since later n e none.1 begins k) h
  where
    by : (plans : Bool) → is_plan l.1 ≡ plans → (Quiet manifest b (until_plan (since ++ (n, e) ∷ later)) → ⊥) → Quiet manifest b (if plans then [] else l ∷ until_plan (since ++ (n, e) ∷ later)) → ⊥
    by true is rest h = true≢false (sym is ∙ none.0)
    by false is rest h = rest h.1

module _ (t : Timeline) (b x : ℕ) (is : IsHistory t) (opened : IsOpened t.opening) (way : Waits t.manifest.builds x b) where
  -- an edge that waits for b does not start between an event and a start of b, where no plan stands between
  none-starts : (front since later : Numbered) (n : ℕ) (e : Event) → kept_events t ≡ front ++ (since ++ (n, e) ∷ later) → starts t.manifest b e ≡ true → Planless since → Quiet t.manifest x since
  none-starts front [] later n e split begins none = tt
  none-starts front (l ∷ since) later n e split begins none = (
    false_from_ne_true _ (λ it.
        let w = starts-wait t front (since ++ (n, e) ∷ later) l.0 l.1 b x is opened split it way in
        until-next t.manifest b since later n e none.1 begins w.1),
    none-starts (front ++ l ∷ []) since later n e (split ∙ sym (append_assoc front (l ∷ []) (since ++ (n, e) ∷ later))) begins none.1,
  )

last-is-last : (t : Timeline) (leavers : List ℕ) (b last : ℕ) → IsHistory t → IsOpened t.opening → NoneConflict t.manifest.builds leavers b → IsLast t.manifest.builds leavers b last
    → LastIsLast t leavers b last
last-is-last t leavers b last is opened none is_last early since later k n f e x split last_begins begins planless leaves other apart = elim (none.user_is x leaves other) [
  | inl waits_b ↦
      none-starts t b x is opened waits_b (early ++ (k, f) ∷ []) since later n e (split ∙ sym (append_assoc early ((k, f) ∷ []) (since ++ (n, e) ∷ later))) begins planless
  | inr b_waits ↦
      let way = is_last.others x leaves apart b_waits in
      let w = starts-wait t early (since ++ (n, e) ∷ later) k f x last is opened split last_begins way in
      until-quiet t.manifest x since ((n, e) ∷ later) planless w.1
]

-- THERE IS A LAST ONE
longer : {builds : List BuildValue} {a b c : ℕ} → EdgeReaches builds a b → EdgeReaches builds b c → EdgeReaches builds a c
longer (one s) way = on s way
longer (on s front) way = on s (longer front way)

module _ (builds : List BuildValue) (b : ℕ) where
  -- one edge more, for which b waits
  with-one : (x : ℕ) (xs : List ℕ) → ((y : ℕ) → Contains xs y → x ≢ y → AreOrdered builds x y) → Waits builds b x → NoneOrLast builds xs b → NoneOrLast builds (x ∷ xs) b
  with-one x xs ordered before (inl none) = inr (
    x,
    record {
      leaves = (0, omega arith, refl);
      before = before;
      others = λ y leaves other way. elim (Contains-append_cases (x ∷ []) xs y leaves) [
        | inl here ↦ absurd (other (sym (only x y here)))
        | inr there ↦ absurd (none y there way)
      ];
    },
  )
  with-one x xs ordered before (inr (last, is)) = elim (cases_eq x last) [
    | inl same ↦ inr (
      last,
      record {
        leaves = Contains-append_right (x ∷ []) xs last is.leaves;
        before = is.before;
        others = λ y leaves other way. elim (Contains-append_cases (x ∷ []) xs y leaves) [
          | inl here ↦ absurd (other (sym (only x y here) ∙ same))
          | inr there ↦ is.others y there other way
        ];
      },
    )
    | inr apart ↦ elim (ordered last is.leaves apart) [
      | inl x_waits ↦ inr (
        x,
        record {
          leaves = (0, omega arith, refl);
          before = before;
          others = λ y leaves other way. elim (Contains-append_cases (x ∷ []) xs y leaves) [
            | inl here ↦ absurd (other (sym (only x y here)))
            | inr there ↦ elim (cases_eq y last) [
              | inl same ↦ subst (λ z. Waits builds x z) (sym same) x_waits
              | inr further ↦ longer x_waits (is.others y there further way)
            ]
          ];
        },
      )
      | inr last_waits ↦ inr (
        last,
        record {
          leaves = Contains-append_right (x ∷ []) xs last is.leaves;
          before = is.before;
          others = λ y leaves other way. elim (Contains-append_cases (x ∷ []) xs y leaves) [
            | inl here ↦ subst (λ z. Waits builds last z) (only x y here) last_waits
            | inr there ↦ is.others y there other way
          ];
        },
      )
    ]
  ]

  -- one edge more, for which b does not wait
  without-one : (x : ℕ) (xs : List ℕ) → (Waits builds b x → ⊥) → NoneOrLast builds xs b → NoneOrLast builds (x ∷ xs) b
  without-one x xs not (inl none) = inl (λ y leaves way. elim (Contains-append_cases (x ∷ []) xs y leaves) [
    | inl here ↦ not (subst (λ z. Waits builds b z) (sym (only x y here)) way)
    | inr there ↦ none y there way
  ])
  without-one x xs not (inr (last, is)) = inr (
    last,
    record {
      leaves = Contains-append_right (x ∷ []) xs last is.leaves;
      before = is.before;
      others = λ y leaves other way. elim (Contains-append_cases (x ∷ []) xs y leaves) [
        | inl here ↦ absurd (not (subst (λ z. Waits builds b z) (sym (only x y here)) way))
        | inr there ↦ is.others y there other way
      ];
    },
  )

  none-or-last : (xs : List ℕ) → ((x y : ℕ) → Contains xs x → Contains xs y → x ≢ y → AreOrdered builds x y) → NoneOrLast builds xs b
  none-or-last [] ordered = inl (λ x (k, within, at) way. omega (arith, within))
  none-or-last (x ∷ xs) ordered =
      let rest = none-or-last xs (λ y z inside also other. ordered y z (Contains-append_right (x ∷ []) xs y inside) (Contains-append_right (x ∷ []) xs z also) other) in
      elim (decide (waits builds b x)) [
        | inl way ↦ with-one x xs (λ y inside other. ordered x y (0, omega arith, refl) (Contains-append_right (x ∷ []) xs y inside) other) ((waits-is-decided builds b x).0 way) rest
        | inr not ↦ without-one x xs (λ way. true≢false (sym ((waits-is-decided builds b x).1 way) ∙ not)) rest
      ]

pub who-wrote-it-last : WhoWroteItLast
who-wrote-it-last builds leavers b none = record {
  last = none-or-last builds b leavers none.leavers_are;
  beside = λ t is opened same. none-beside t leavers b is opened (subst (λ bs. NoneConflict bs leavers b) (sym same) none);
  is_last = λ t last is opened same is_last.
      last-is-last t leavers b last is opened (subst (λ bs. NoneConflict bs leavers b) (sym same) none) (subst (λ bs. IsLast bs leavers b last) (sym same) is_last);
}

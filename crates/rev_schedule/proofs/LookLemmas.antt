-- Edges are looked at again, one after the other.
use Rattle.std.proofs.Common.{◌≡◌, ℕ, suc, ◌+◌, ◌<◌, ◌≤◌, Bool, false, cond, inl, inr, List, [], ◌∷◌, ◌++◌, length, get_or, sym, subst, ◌∙◌, refl, arith, eqb}
use Rattle.std.specs.List.{Contains, count_by}
use Rattle.std.proofs.lemmas.Bool.{cases_eq, cases_lt}
use Rattle.std.proofs.lemmas.Bool.Decides.{nat_tests}
use Rattle.std.proofs.lemmas.List.Elements.{Contains-append_left, Contains-push, Contains-push_cases}
use Rattle.std.proofs.lemmas.List.Sums.{sum_by-append}
use Rattle.rev_schedule.specs.declared.job.Build.{Build}
use Rattle.rev_schedule.specs.Builds.{edges_of, makers_of, turn_of}
use Rattle.rev_schedule.specs.Inputs.{is_through, Sees, LooksAt, IsLooked}
use Rattle.rev_schedule.specs.Turns.{Turn}

pub in-tail : (x : Turn) (xs : List Turn) (t : Turn) → Contains xs t → Contains (x ∷ xs) t
in-tail x xs t h = (suc h.0, omega (arith, h.1), h.2)

pub count-none : (edge : ℕ) (turns : List Turn) → ((t : Turn) → Contains turns t → t.1 ≡ edge → ⊥) → count_by (λ (t : Turn). eqb t.1 edge) turns ≡ 0
count-none edge [] none = refl
count-none edge (x ∷ xs) none =
    let rest : count_by (λ (t : Turn). eqb t.1 edge) xs ≡ 0 = count-none edge xs (λ t h. none t (in-tail x xs t h)) in
    elim (cases_eq x.1 edge) [
      | inl same ↦ absurd (none x (0, omega arith, refl) same)
      | inr other ↦ grind (arith, nat_tests)
    ]

module _ (build : Build) (through : List Bool) (before : List ℕ) where
  pub looked-none : Sees build through before → IsLooked build through [] before before []
  looked-none sees = record {
    sees = sees;
    to_come = λ user h. absurd (omega (arith, h.1));
    rises = λ edge. omega arith;
    others = λ other out. refl;
    each = λ edge inside less full. absurd (omega arith);
    only = λ turn h. absurd (omega (arith, h.1));
    once = λ edge. omega arith;
  }

  module _ (users : List ℕ) (user : ℕ) (m after : List ℕ) (turns : List Turn) (is : IsLooked build through users before m turns) (looks : LooksAt build through user m after) where
    rises-more : (edge : ℕ) → get_or before edge 0 ≤ get_or after edge 0
    rises-more edge = elim (cases_eq edge user) [
      | inl same ↦ subst (λ e. get_or before e 0 ≤ get_or after e 0) (sym same) (omega (arith, is.rises user, looks.rises))
      | inr other ↦ omega (arith, is.rises edge, looks.others edge other)
    ]

    to_come-more : (v : ℕ) → Contains (users ++ user ∷ []) v → get_or after v 0 < length (makers_of build v) → is_through build through v (get_or after v 0) ≡ false
    to_come-more v h less = elim (cases_eq v user) [
      | inl same ↦ subst (λ e. is_through build through e (get_or after e 0) ≡ false) (sym same)
          (looks.to_come (subst (λ e. get_or after e 0 < length (makers_of build e)) same less))
      | inr other ↦ elim (Contains-push_cases users user v h) [
        | inl old ↦ subst (λ k. is_through build through v k ≡ false) (sym (looks.others v other))
            (is.to_come v old (subst (λ k. k < length (makers_of build v)) (looks.others v other) less))
        | inr new ↦ absurd (other (sym new))
      ]
    ]

    others-more : (other : ℕ) → (Contains (users ++ user ∷ []) other → ⊥) → get_or after other 0 ≡ get_or before other 0
    others-more other out =
        looks.others other (λ same. out (subst (λ e. Contains (users ++ user ∷ []) e) (sym same) (Contains-push users user)))
        ∙ is.others other (λ h. out (Contains-append_left users (user ∷ []) other h))

    -- what was full is full
    full-still : (edge : ℕ) → edge < edges_of build → get_or m edge 0 ≡ length (makers_of build edge) → get_or after edge 0 ≡ length (makers_of build edge)
    full-still edge inside full = elim (cases_eq edge user) [
      | inl same ↦ subst (λ e. get_or after e 0 ≡ length (makers_of build e)) (sym same)
          (omega (arith, looks.sees.within user (subst (λ e. e < edges_of build) same inside), looks.rises, subst (λ e. get_or m e 0 ≡ length (makers_of build e)) same full))
      | inr other ↦ looks.others edge other ∙ full
    ]

    only-more : (turn : Turn) → Contains turns turn → (turn.1 < edges_of build) × (turn ≡ turn_of build turn.1)
        × (get_or before turn.1 0 < length (makers_of build turn.1)) × (get_or after turn.1 0 ≡ length (makers_of build turn.1))
    only-more turn h = let o = is.only turn h in (o.0, o.1, o.2, full-still turn.1 o.0 o.3)

    -- the edge has more to come, or had nothing to come before
    pub looked-same : ((get_or m user 0 < length (makers_of build user)) → (get_or after user 0 ≡ length (makers_of build user)) → ⊥)
        → user < edges_of build → IsLooked build through (users ++ user ∷ []) before after turns
    looked-same not inside = record {
      sees = looks.sees;
      to_come = to_come-more;
      rises = rises-more;
      others = others-more;
      each = λ edge within less full. elim (cases_eq edge user) [
        | inl same ↦
            let full_user : get_or after user 0 ≡ length (makers_of build user) = subst (λ e. get_or after e 0 ≡ length (makers_of build e)) same full in
            elim (cases_lt (get_or m user 0) (length (makers_of build user))) [
              | inl lt ↦ absurd (not lt full_user)
              | inr ge ↦ is.each edge within less
                  (subst (λ e. get_or m e 0 ≡ length (makers_of build e)) (sym same) (omega (arith, is.sees.within user inside)))
            ]
        | inr other ↦ is.each edge within less (sym (looks.others edge other) ∙ full)
      ];
      only = only-more;
      once = is.once;
    }

    -- the last input of the edge has come
    pub looked-push : get_or m user 0 < length (makers_of build user) → get_or after user 0 ≡ length (makers_of build user)
        → user < edges_of build → IsLooked build through (users ++ user ∷ []) before after (turns ++ turn_of build user ∷ [])
    looked-push less full inside = record {
      sees = looks.sees;
      to_come = to_come-more;
      rises = rises-more;
      others = others-more;
      each = λ edge within lt is_full. elim (cases_eq edge user) [
        | inl same ↦ subst (λ e. Contains (turns ++ turn_of build user ∷ []) (turn_of build e)) (sym same) (Contains-push turns (turn_of build user))
        | inr other ↦ Contains-append_left turns (turn_of build user ∷ []) (turn_of build edge) (is.each edge within lt (sym (looks.others edge other) ∙ is_full))
      ];
      only = λ turn h. elim (Contains-push_cases turns (turn_of build user) turn h) [
        | inl old ↦ only-more turn old
        | inr new ↦ subst (λ (t : Turn). (t.1 < edges_of build) × (t ≡ turn_of build t.1)
            × (get_or before t.1 0 < length (makers_of build t.1)) × (get_or after t.1 0 ≡ length (makers_of build t.1))) new
            (inside, refl, omega (arith, is.rises user), full)
      ];
      once = λ edge.
          let parts : count_by (λ (t : Turn). eqb t.1 edge) (turns ++ turn_of build user ∷ []) ≡ count_by (λ (t : Turn). eqb t.1 edge) turns + count_by (λ (t : Turn). eqb t.1 edge) (turn_of build user ∷ []) =
          sum_by-append (λ (t : Turn). cond (eqb t.1 edge) 1 0) turns (turn_of build user ∷ []) in
          let old : count_by (λ (t : Turn). eqb t.1 edge) turns ≤ 1 = is.once edge in
          elim (cases_eq user edge) [
            | inl same ↦
                let none : count_by (λ (t : Turn). eqb t.1 edge) turns ≡ 0 = count-none edge turns (λ t h e.
                let o = is.only t h in
                let at : get_or m user 0 ≡ length (makers_of build user) = subst (λ k. get_or m k 0 ≡ length (makers_of build k)) (e ∙ sym same) o.3 in
                omega arith) in
                grind (arith, nat_tests)
            | inr other ↦ grind (arith, nat_tests)
          ];
    }

pub looked-is : (build : Build) (through : List Bool) (before after : List ℕ) (front users : List ℕ) (items turns : List Turn) → front ≡ users → items ≡ turns
    → IsLooked build through users before after turns → IsLooked build through front before after items
looked-is build through before after front users items turns e f is =
    subst (λ (us : List ℕ). IsLooked build through us before after items) (sym e)
    (subst (λ (ts : List Turn). IsLooked build through users before after ts) (sym f) is)

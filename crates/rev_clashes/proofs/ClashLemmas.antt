-- Firsts and clashes, one edge after the other.
use Rattle.std.proofs.Common.{◌≡◌, ◌≢◌, ℕ, ◌+◌, ◌<◌, length, get_or, zero, suc, Bool, true, false, List, [], ◌∷◌, ◌++◌, Option, Some, None, bytes_eq, refl, sym, ap, subst, ◌∙◌, arith, true≢false, Contains, ◌⊎◌, inl, inr}
use Rattle.std.specs.Prelude.{◌↔◌, unwrap_or}
use Rattle.std.specs.List.{AllPairs}
use Rattle.std.specs.Option.{option_or}
use Rattle.std.proofs.lemmas.Bool.{cases_eq}
use Rattle.std.proofs.lemmas.Slice.Eq.{bytes_eq-Decides}
use Rattle.std.proofs.lemmas.List.Elements.{Contains-get_or, Contains-push, Contains-push_cases, Contains-append_left}
use Rattle.rev_manifest.specs.Builds.{BuildValue}
use Rattle.rev_clashes.specs.declared.sharing.Clash.{Clash}
use Rattle.rev_clashes.specs.declared.side_file.SideFile.{SideFile}
use Rattle.rev_clashes.specs.Clashes.{AreClashes, IsClash, file_at, file_of, given}

-- THE FIRSTS AMONG THE FIRST n EDGES
pub record IsFirst (kind : SideFile) (builds : List BuildValue) (n : ℕ) (path : List ℕ) (first : Option ℕ) : Type 0 where
  pub found : (place : ℕ) → first ≡ Some place → (place < n) × (file_at kind builds place ≡ Some path)
      × ((before : ℕ) → before < place → file_at kind builds before ≢ Some path)
  pub none : first ≡ None → (before : ℕ) → before < n → file_at kind builds before ≢ Some path

pub no-first : (kind : SideFile) (builds : List BuildValue) (path : List ℕ) (first : Option ℕ) → first ≡ None → IsFirst kind builds 0 path first
no-first kind builds path first e = record {
  found = λ place h.
      let no : None ≡ Some place = sym e ∙ h in
      absurd (true≢false cc);
  none = λ h before below. absurd (omega (arith, below));
}

-- the edge has its file elsewhere
pub first-stays : (kind : SideFile) (builds : List BuildValue) (n : ℕ) (path : List ℕ) (first : Option ℕ) → IsFirst kind builds n path first → file_at kind builds n ≢ Some path → IsFirst kind builds (n + 1) path first
first-stays kind builds n path first is other = record {
  found = λ place h. let f = is.found place h in let below = f.0 in (omega (arith, below), f.1, f.2);
  none = λ h before below. elim (cases_eq before n) [
    | inl same ↦ subst (λ k. file_at kind builds k ≢ Some path) (sym same) other
    | inr apart ↦ is.none h before (omega (arith, below, apart))
  ];
}

-- the edge has its file there
pub first-is : (kind : SideFile) (builds : List BuildValue) (n : ℕ) (path : List ℕ) (first : Option ℕ) → IsFirst kind builds n path first → file_at kind builds n ≡ Some path
    → IsFirst kind builds (n + 1) path (option_or first (Some n))
first-is kind builds n path (Some f) is here = record {
  found = λ place h. let x = is.found place h in let below = x.0 in (omega (arith, below), x.1, x.2);
  none = λ h. absurd (true≢false cc);
}
first-is kind builds n path None is here = record {
  found = λ place h.
      let same : n ≡ place = cc in
      subst (λ k. (k < n + 1) × (file_at kind builds k ≡ Some path) × ((before : ℕ) → before < k → file_at kind builds before ≢ Some path)) same
      (omega arith, here, λ before below. is.none refl before below);
  none = λ h. absurd (true≢false cc);
}

-- one edge more, that has its file at a path
pub first-more : (kind : SideFile) (builds : List BuildValue) (n : ℕ) (here path : List ℕ) (old new : Option ℕ) → file_at kind builds n ≡ Some here → new ≡ option_or old (given (bytes_eq path here) n)
    → IsFirst kind builds n path old → IsFirst kind builds (n + 1) path new
first-more kind builds n here path old new leaves is before = by (bytes_eq path here) refl
  where
    kept : (o : Option ℕ) → option_or o None ≡ o
    kept None = refl
    kept (Some x) = refl

    by : (b : Bool) → bytes_eq path here ≡ b → IsFirst kind builds (n + 1) path new
    by true e =
        let same : path ≡ here = (bytes_eq-Decides path here).0 e in
        subst (IsFirst kind builds (n + 1) path) (sym (is ∙ ap (λ b. option_or old (given b n)) e)) (first-is kind builds n path old before (leaves ∙ ap Some (sym same)))
    by false e =
        subst (IsFirst kind builds (n + 1) path) (sym (is ∙ ap (λ b. option_or old (given b n)) e ∙ kept old))
        (first-stays kind builds n path old before (λ h.
        let one : Some here ≡ Some path = sym leaves ∙ h in
        let same : path ≡ here = cc in
        true≢false (sym ((bytes_eq-Decides path here).1 same) ∙ e)))

-- one edge more, that has none
pub first-none : (kind : SideFile) (builds : List BuildValue) (n : ℕ) (path : List ℕ) (first : Option ℕ) → file_at kind builds n ≡ None → IsFirst kind builds n path first → IsFirst kind builds (n + 1) path first
first-none kind builds n path first none is = first-stays kind builds n path first is (λ h.
    let no : None ≡ Some path = sym none ∙ h in
    true≢false cc)

-- THE CLASHES AMONG THE FIRST n EDGES
pub record AreBelow (kind : SideFile) (builds : List BuildValue) (n : ℕ) (clashes : List Clash) : Type 0 where
  pub exact : (c : Clash) → Contains clashes c ↔ ((c.other < n) × IsClash kind builds c.first c.other)
  pub rising : AllPairs (λ (c : Clash) (d : Clash). c.other < d.other) clashes

pub no-clashes : (kind : SideFile) (builds : List BuildValue) → AreBelow kind builds 0 []
no-clashes kind builds = record {
  exact = λ c. (λ h. let within = h.1 in absurd (omega (arith, within)), λ h. let below = h.0 in absurd (omega (arith, below)));
  rising = λ i j d less within. absurd (omega (arith, within));
}

-- an edge that clashes with none before it
pub clashes-stay : (kind : SideFile) (builds : List BuildValue) (n : ℕ) (clashes : List Clash) → AreBelow kind builds n clashes → ((first : ℕ) → IsClash kind builds first n → ⊥) → AreBelow kind builds (n + 1) clashes
clashes-stay kind builds n clashes are none = record {
  exact = λ c. (
    λ h. let b = (are.exact c).0 h in let below = b.0 in (omega (arith, below), b.1),
    λ h. elim (cases_eq c.other n) [
      | inl same ↦ absurd (none c.first (subst (IsClash kind builds c.first) same h.1))
      | inr apart ↦ (are.exact c).1 (let below = h.0 in omega (arith, below, apart), h.1)
    ],
  );
  rising = are.rising;
}

-- an edge that has no file clashes with none
pub clash-none : (kind : SideFile) (builds : List BuildValue) (n : ℕ) → file_at kind builds n ≡ None → (first : ℕ) → IsClash kind builds first n → ⊥
clash-none kind builds n none first is =
    let no : None ≡ Some is.path = sym none ∙ is.other_has in
    true≢false cc

-- one first for each
pub one-first : (kind : SideFile) (builds : List BuildValue) (n f first : ℕ) (path : List ℕ) → file_at kind builds n ≡ Some path → file_at kind builds f ≡ Some path
    → ((before : ℕ) → before < f → file_at kind builds before ≢ Some path) → IsClash kind builds first n → first ≡ f
one-first kind builds n f first path here there least is = elim (cases_eq first f) [
  | inl same ↦ same
  | inr apart ↦
      let one : Some path ≡ Some is.path = sym here ∙ is.other_has in
      let same : path ≡ is.path = cc in
      elim (below_or first f apart) [
        | inl less ↦ absurd (least first less (is.first_has ∙ ap Some (sym same)))
        | inr more ↦ absurd (is.none_before f more (there ∙ ap Some same))
      ]
]
  where
    below_or : (a b : ℕ) → a ≢ b → (a < b) ⊎ (b < a)
    below_or zero zero h = absurd (h refl)
    below_or zero (suc b) h = inl (omega arith)
    below_or (suc a) zero h = inr (omega arith)
    below_or (suc a) (suc b) h = elim (below_or a b (λ e. h (ap suc e))) [
      | inl less ↦ inl (omega (arith, less))
      | inr more ↦ inr (omega (arith, more))
    ]

-- pairs of a list with one more element
pairs-push : (clashes : List Clash) (x : Clash) → AllPairs (λ (c : Clash) (d : Clash). c.other < d.other) clashes → ((c : Clash) → Contains clashes c → c.other < x.other)
    → AllPairs (λ (c : Clash) (d : Clash). c.other < d.other) (clashes ++ x ∷ [])
pairs-push [] x pairs below i zero d less within = absurd (omega (arith, less))
pairs-push [] x pairs below i (suc j) d less within = absurd (omega (arith, within))
pairs-push (c ∷ cs) x pairs below zero zero d less within = absurd (omega (arith, less))
pairs-push (c ∷ cs) x pairs below zero (suc j) d less within = at j (omega (arith, within))
  where
    at : (j : ℕ) → j < length (cs ++ x ∷ []) → c.other < (get_or (cs ++ x ∷ []) j d).other
    at j within = elim (Contains-push_cases cs x (get_or (cs ++ x ∷ []) j d) (Contains-get_or (cs ++ x ∷ []) j d within)) [
      | inl old ↦
          let k = old.0 in
          subst (λ (y : Clash). c.other < y.other) old.2 (pairs 0 (suc k) (get_or (cs ++ x ∷ []) j d) (omega arith) (let w = old.1 in omega (arith, w)))
      | inr new ↦ subst (λ (y : Clash). c.other < y.other) new (below c (0, omega arith, refl))
    ]
pairs-push (c ∷ cs) x pairs below (suc i) zero d less within = absurd (omega (arith, less))
pairs-push (c ∷ cs) x pairs below (suc i) (suc j) d less within =
    pairs-push cs x (λ a b e l w. pairs (suc a) (suc b) e (omega (arith, l)) (omega (arith, w)))
    (λ y h. below y (suc h.0, (let w = h.1 in omega (arith, w)), h.2)) i j d (omega (arith, less)) (omega (arith, within))

-- an edge that has its file where an earlier one has its own
pub clashes-more : (kind : SideFile) (builds : List BuildValue) (n f : ℕ) (path : List ℕ) (clashes all : List Clash) (x : Clash) → AreBelow kind builds n clashes → all ≡ clashes ++ x ∷ [] → x.first ≡ f → x.other ≡ n
    → file_at kind builds n ≡ Some path → f < n → file_at kind builds f ≡ Some path → ((before : ℕ) → before < f → file_at kind builds before ≢ Some path) → AreBelow kind builds (n + 1) all
clashes-more kind builds n f path clashes all x are pushed is_first is_other here less there least = subst (AreBelow kind builds (n + 1)) (sym pushed) (record {
  exact = λ c. (
    λ h. elim (Contains-push_cases clashes x c h) [
      | inl old ↦ let b = (are.exact c).0 old in let below = b.0 in (omega (arith, below), b.1)
      | inr new ↦ subst (λ (c : Clash). (c.other < n + 1) × IsClash kind builds c.first c.other) new (
        omega (arith, is_other),
        subst (λ k. IsClash kind builds k x.other) (sym is_first) (subst (IsClash kind builds f) (sym is_other) itself),
      )
    ],
    λ h. elim (cases_eq c.other n) [
      | inl same ↦
          let one = one-first kind builds n f c.first path here there least (subst (IsClash kind builds c.first) same h.1) in
          let is : x ≡ c = (λ i. record { first = (is_first ∙ sym one) i; other = (is_other ∙ sym same) i }) in
          subst (Contains (clashes ++ x ∷ [])) is (Contains-push clashes x)
      | inr apart ↦ Contains-append_left clashes (x ∷ []) c ((are.exact c).1 (let below = h.0 in omega (arith, below, apart), h.1))
    ],
  );
  rising = pairs-push clashes x are.rising (λ c h. let b = ((are.exact c).0 h).0 in omega (arith, b, is_other));
})
  where
    itself : IsClash kind builds f n
    itself = record { path = path; earlier = less; first_has = there; other_has = here; none_before = least }

pub all-clashes : (kind : SideFile) (builds : List BuildValue) (n : ℕ) (clashes : List Clash) → n ≡ length builds → AreBelow kind builds n clashes → AreClashes kind builds clashes
all-clashes kind builds n clashes all are = record {
  exact = λ c. (λ h. ((are.exact c).0 h).1, λ is. (are.exact c).1 (omega (arith, all, within c.other is.path is.other_has), is));
  rising = are.rising;
}
  where
    inside : (bs : List BuildValue) (k : ℕ) (path : List ℕ) → file_at kind bs k ≡ Some path → k < length bs
    inside [] k path h = let no : None ≡ Some path = h in absurd (true≢false cc)
    inside (b ∷ bs) zero path h = omega arith
    inside (b ∷ bs) (suc k) path h = let w = inside bs k path h in omega (arith, w)

    within : (k : ℕ) (path : List ℕ) → file_at kind builds k ≡ Some path → k < length builds
    within k path h = inside builds k path h

-- the file of an edge that was read
pub file-here : (kind : SideFile) (builds : List BuildValue) (n : ℕ) (build : BuildValue) → build ≡ get_or builds n build → n < length builds → file_at kind builds n ≡ file_of kind build
file-here kind [] n build is within = absurd (omega arith)
file-here kind (b ∷ bs) zero build is within = ap (file_of kind) (sym is)
file-here kind (b ∷ bs) (suc n) build is within = file-here kind bs n build is (omega arith)

-- WHAT THE TABLE OF FIRSTS SAYS OF AN EDGE
-- the first is an earlier edge
pub first-found : (kind : SideFile) (builds : List BuildValue) (n : ℕ) (path : List ℕ) (old : Option ℕ) (first : ℕ) → IsFirst kind builds n path old → first ≡ unwrap_or old n → first < n
    → (file_at kind builds first ≡ Some path) × ((before : ℕ) → before < first → file_at kind builds before ≢ Some path)
first-found kind builds n path None first is e less = absurd (omega (arith, e, less))
first-found kind builds n path (Some f) first is e less =
    let found = is.found f refl in
    subst (λ k. (file_at kind builds k ≡ Some path) × ((before : ℕ) → before < k → file_at kind builds before ≢ Some path)) (sym e) (found.1, found.2)

-- the first is none before this one
pub none-found : (kind : SideFile) (builds : List BuildValue) (n : ℕ) (path : List ℕ) (old : Option ℕ) (first : ℕ) → IsFirst kind builds n path old → first ≡ unwrap_or old n → (first < n → ⊥)
    → file_at kind builds n ≡ Some path → (k : ℕ) → IsClash kind builds k n → ⊥
none-found kind builds n path (Some f) first is e not_less here k clash =
    let less = (is.found f refl).0 in
    not_less (omega (arith, e, less))
none-found kind builds n path None first is e not_less here k clash =
    let one : Some path ≡ Some clash.path = sym here ∙ clash.other_has in
    let same : path ≡ clash.path = cc in
    is.none refl k clash.earlier (clash.first_has ∙ ap Some (sym same))

-- Which edges make which files, command by command.
use Rattle.std.proofs.Common.{◌≡◌, ℕ, ◌+◌, ◌<◌, true, List, [], ◌∷◌, ◌++◌, length, get_or, ◌⊎◌, inl, inr, refl, sym, ap, subst, ◌∙◌, arith, Contains}
use Rattle.std.specs.Prelude.{◌↔◌, All}
use Rattle.std.specs.Global.{Vec}
use Rattle.std.proofs.lemmas.Bool.{cases_eq}
use Rattle.std.proofs.lemmas.List.{get_or-map, get_or_append_left, get_or_default, get_or_push, length-map, length_push}
use Rattle.std.proofs.lemmas.List.Elements.{Contains-get_or}
use Rattle.rev_manifest.specs.Manifest.{BuildValue}
use Rattle.rev_ranks.specs.Graph.{Steps, graph_of}
use Rattle.rev_waits.specs.Waits.{Makes}
use Rattle.rev_races.proofs.RaceLemmas.{maker-command}
use Rattle.rev_observed.specs.CommandValues.{CommandValue}
use Rattle.rev_observed.specs.declared.kind.Kind.TheVariants.{Writes}
use Rattle.rev_conflicts.specs.Places.{does}
use Rattle.rev_conflicts.specs.Tables.{Puts, SomeBelow}
use Rattle.rev_undeclared.specs.Undeclared.{path_at}
use Rattle.rev_unlisted.specs.Unlisted.{IsMaker, IsMaker.left as left_by, IsMaker.made as made_by, LeftBy}
use Rattle.rev_unlisted.specs.Found.{PutsWhere}

-- AN EDGE AT PLACES
abbrev pub FirstPut : List ℕ → ℕ → ℕ → Type 0
FirstPut places n p = SomeBelow (λ i. p ≡ get_or places i 0) n

pub record PutsFirst (old new : List (List ℕ)) (edge : ℕ) (places : List ℕ) (n : ℕ) : Type 0 where
  pub each : length new ≡ length old
  pub exact : (p a : ℕ) → p < length old → Steps new p a ↔ (Steps old p a ⊎ ((a ≡ edge) × FirstPut places n p))

pub puts-start : (lists : List (List ℕ)) (edge : ℕ) (places : List ℕ) → PutsFirst lists lists edge places 0
puts-start lists edge places = record {
  each = refl;
  exact = λ p a within. (λ h. inl h, λ h. elim h [ inl o ↦ o | inr both ↦ let s = both.1 in let b = s.below in absurd (omega (arith, b)) ]);
}

up : (places : List ℕ) (n p : ℕ) → FirstPut places n p → FirstPut places (n + 1) p
up places n p s = let b = s.below in record { number = s.number; below = omega (arith, b); holds = s.holds }

split : (places : List ℕ) (n p : ℕ) → FirstPut places (n + 1) p → FirstPut places n p ⊎ (p ≡ get_or places n 0)
split places n p s = elim (cases_eq s.number n) [
  | inl same ↦ inr (s.holds ∙ ap (λ i. get_or places i 0) same)
  | inr other ↦ inl (let b = s.below in record { number = s.number; below = omega (arith, b, other); holds = s.holds })
]

pub puts-more : (one two three : List (List ℕ)) (edge : ℕ) (places : List ℕ) (n : ℕ) → PutsFirst one two edge places n → Puts two three (get_or places n 0) edge → PutsFirst one three edge places (n + 1)
puts-more one two three edge places n before step = record {
  each = step.each ∙ before.each;
  exact = λ p a within. (
    λ h. elim ((step.exact p a).0 h) [
      | inl old ↦ elim ((before.exact p a within).0 old) [ inl o ↦ inl o | inr both ↦ inr (both.0, up places n p both.1) ]
      | inr both ↦ inr (both.1, record { number = n; below = omega arith; holds = both.0 })
    ],
    λ h. (step.exact p a).1 (elim h [
      | inl o ↦ inl ((before.exact p a within).1 (inl o))
      | inr both ↦ elim (split places n p both.1) [
        | inl first ↦ inl ((before.exact p a within).1 (inr (both.0, first)))
        | inr same ↦ inr (same, both.0)
      ]
    ]),
  );
}

-- a place that is none of the table
pub puts-past : (one two : List (List ℕ)) (edge : ℕ) (places : List ℕ) (n : ℕ) → (get_or places n 0 < length two → ⊥) → PutsFirst one two edge places n → PutsFirst one two edge places (n + 1)
puts-past one two edge places n past before = record {
  each = before.each;
  exact = λ p a within. (
    λ h. elim ((before.exact p a within).0 h) [ inl o ↦ inl o | inr both ↦ inr (both.0, up places n p both.1) ],
    λ h. (before.exact p a within).1 (elim h [
      | inl o ↦ inl o
      | inr both ↦ elim (split places n p both.1) [
        | inl first ↦ inr (both.0, first)
        | inr same ↦ let e = before.each in absurd (past (omega (arith, same, within, e)))
      ]
    ]),
  );
}

pub puts-all : (one two : List (List ℕ)) (edge : ℕ) (places : List ℕ) (n : ℕ) → n ≡ length places → PutsFirst one two edge places n → PutsWhere one two edge places
puts-all one two edge places n all puts = record {
  each = puts.each;
  exact = λ p a within. (
    λ h. elim ((puts.exact p a within).0 h) [
      | inl o ↦ inl o
      | inr both ↦ inr (both.0, let s = both.1 in let b = s.below in subst (Contains places) (sym s.holds) (Contains-get_or places s.number 0 (omega (arith, b, all))))
    ],
    λ h. (puts.exact p a within).1 (elim h [
      | inl o ↦ inl o
      | inr both ↦ inr (both.0, let c = both.1 in let w = c.1 in record { number = c.0; below = omega (arith, w, all); holds = sym (get_or_default places c.0 0 p c.1 ∙ c.2) })
    ]),
  );
}

-- PATH BY PATH
graph-push : (xs : List (Vec ℕ)) (x : Vec ℕ) → graph_of (xs ++ x ∷ []) ≡ graph_of xs ++ x.items ∷ []
graph-push [] x = refl
graph-push (y ∷ ys) x = ap (λ (ls : List (List ℕ)). y.items ∷ ls) (graph-push ys x)

pub declared-each : (old new : List (Vec ℕ)) (v : Vec ℕ) (n : ℕ) → length old ≡ n → new ≡ old ++ v ∷ [] → length new ≡ n + 1
declared-each old new v n each is = ap length is ∙ length_push old v ∙ ap (λ m. m + 1) each

pub declared-more : (D : ℕ → ℕ → Type 0) (old new : List (Vec ℕ)) (v : Vec ℕ) (n : ℕ) → length old ≡ n → new ≡ old ++ v ∷ [] → ((a : ℕ) → Contains v.items a ↔ D n a)
    → ((p a : ℕ) → p < n → Steps (graph_of old) p a ↔ D p a) → (p a : ℕ) → p < n + 1 → Steps (graph_of new) p a ↔ D p a
declared-more D old new v n each is at before p a inside = elim (cases_eq p n) [
  | inl same ↦
      let here : get_or (graph_of new) p [] ≡ v.items = ap (λ (g : List (List ℕ)). get_or g p []) (ap graph_of is ∙ graph-push old v) ∙ ap (λ i. get_or (graph_of old ++ v.items ∷ []) i []) same ∙ get_or_push (graph_of old) v.items [] n many in
      subst (λ m. Steps (graph_of new) p a ↔ D m a) (sym same) (subst (λ (l : List ℕ). Contains l a ↔ D n a) (sym here) (at a))
  | inr other ↦
      let below : p < n = omega (arith, inside, other) in
      let there : get_or (graph_of new) p [] ≡ get_or (graph_of old) p [] = ap (λ (g : List (List ℕ)). get_or g p []) (ap graph_of is ∙ graph-push old v) ∙ get_or_append_left (graph_of old) (v.items ∷ []) [] p (omega (arith, below, many)) in
      subst (λ (l : List ℕ). Contains l a ↔ D p a) (sym there) (before p a below)
]
  where
    many : length (graph_of old) ≡ n
    many = length-map old (λ (w : Vec ℕ). w.items) ∙ each

-- COMMAND BY COMMAND
module _ (builds : List BuildValue) (paths : List (List ℕ)) (commands : List CommandValue) (edges : List ℕ) where
  -- by the first commands
  pub data IsMakerBy (n path maker : ℕ) : Type 0 where
    seen : {number : ℕ} → number < n → LeftBy commands edges path maker number → IsMakerBy n path maker
    said : Makes builds maker (path_at paths path) → IsMakerBy n path maker

  pub record AreMakersBy (n : ℕ) (lists : List (List ℕ)) : Type 0 where
    pub each : length lists ≡ length paths
    pub exact : (p a : ℕ) → p < length paths → Steps lists p a ↔ IsMakerBy n p a

  pub makers-start : (lists : List (List ℕ)) → length lists ≡ length paths → ((p a : ℕ) → p < length paths → Steps lists p a ↔ Makes builds a (path_at paths p)) → AreMakersBy 0 lists
  makers-start lists each exact = record {
    each = each;
    exact = λ p a within. (λ h. said ((exact p a within).0 h), λ m. (exact p a within).1 (none p a m));
  }
    where
      none : (p a : ℕ) → IsMakerBy 0 p a → Makes builds a (path_at paths p)
      none p a (seen below left) = absurd (omega (arith, below))
      none p a (said m) = m

  pub makers-more : (n edge : ℕ) (command : CommandValue) (written : List ℕ) (old new : List (List ℕ)) → n < length commands → command ≡ get_or commands n command → edge ≡ get_or edges n 0
      → ((p : ℕ) → Contains written p ↔ (does Writes command p ≡ true)) → AreMakersBy n old → PutsWhere old new edge written → AreMakersBy (n + 1) new
  makers-more n edge command written old new within is of all before puts = record {
    each = puts.each ∙ before.each;
    exact = λ p a inside. (
      λ h. elim ((puts.exact p a (let e = before.each in omega (arith, inside, e))).0 h) [
        | inl o ↦ later p a ((before.exact p a inside).0 o)
        | inr both ↦ seen (omega arith) (record { command = command; within = within; is = sym is; of = sym of ∙ sym both.0; left = (all p).0 both.1 })
      ],
      λ m. (puts.exact p a (let e = before.each in omega (arith, inside, e))).1 (back p a inside m),
    );
  }
    where
      later : (p a : ℕ) → IsMakerBy n p a → IsMakerBy (n + 1) p a
      later p a (seen below left) = seen (omega (arith, below)) left
      later p a (said m) = said m

      back : (p a : ℕ) → p < length paths → IsMakerBy (n + 1) p a → Steps old p a ⊎ ((a ≡ edge) × Contains written p)
      back p a inside (said m) = inl ((before.exact p a inside).1 (said m))
      back p a inside (seen {number = k} below t) = elim (cases_eq k n) [
        | inl same ↦
            let here = subst (LeftBy commands edges p a) same t in
            let cmd : here.command ≡ command = sym here.is ∙ get_or_default commands n here.command command within ∙ sym is in
            inr (sym (of ∙ here.of), (all p).1 (subst (λ x. does Writes x p ≡ true) cmd here.left))
        | inr other ↦ inl ((before.exact p a inside).1 (seen (omega (arith, below, other)) t))
      ]

  pub makers-all : (n : ℕ) (lists : List (List ℕ)) → n ≡ length commands → AreMakersBy n lists → (p a : ℕ) → p < length paths → Steps lists p a ↔ IsMaker builds paths commands edges p a
  makers-all n lists all are p a inside = (λ h. forth ((are.exact p a inside).0 h), λ m. (are.exact p a inside).1 (back m))
    where
      forth : IsMakerBy n p a → IsMaker builds paths commands edges p a
      forth (seen below left) = left_by left
      forth (said m) = made_by m

      back : IsMaker builds paths commands edges p a → IsMakerBy n p a
      back (left_by left) = let w = left.within in seen (omega (arith, w, all)) left
      back (made_by m) = said m

-- an edge that makes a file is one of the build
maker-within : (builds : List BuildValue) (paths : List (List ℕ)) (commands : List CommandValue) (edges : List ℕ) (p a : ℕ) → All (λ e. e < length builds) edges → length edges ≡ length commands
    → IsMaker builds paths commands edges p a → a < length builds
maker-within builds paths commands edges p a edges_are each (left_by {number = n} t) =
    let w = t.within in
    subst (λ e. e < length builds) t.of (edges_are n 0 (omega (arith, w, each)))
maker-within builds paths commands edges p a edges_are each (made_by m) = (maker-command m).0

pub makers-inside : (builds : List BuildValue) (paths : List (List ℕ)) (commands : List CommandValue) (edges : List ℕ) (lists : List (Vec ℕ)) → All (λ e. e < length builds) edges → length edges ≡ length commands
    → length lists ≡ length paths → ((p a : ℕ) → p < length paths → Steps (graph_of lists) p a ↔ IsMaker builds paths commands edges p a) → All (λ (v : Vec ℕ). All (λ e. e < length builds) v.items) lists
makers-inside builds paths commands edges lists edges_are each lists_each are k d within j e inside =
    let at : get_or (graph_of lists) k [] ≡ (get_or lists k d).items = get_or-map (λ (v : Vec ℕ). v.items) lists k d [] within in
    let step : Steps (graph_of lists) k (get_or (get_or lists k d).items j e) = subst (λ (l : List ℕ). Contains l (get_or (get_or lists k d).items j e)) (sym at) (Contains-get_or (get_or lists k d).items j e inside) in
    maker-within builds paths commands edges k (get_or (get_or lists k d).items j e) edges_are each ((are k (get_or (get_or lists k d).items j e) (omega (arith, within, lists_each))).0 step)

-- Runs that failed, one kept number after the other.
use Rattle.std.proofs.Common.{◌≡◌, ℕ, zero, suc, ◌<◌, ◌≤◌, ◌==◌, Bool, false, cond, List, [], ◌∷◌, ◌++◌, length, get_or, set, take, Option, Some, None, inl, inr, refl, sym, ap, ◌∙◌, arith, nat_lt, if◌then◌else◌}
use Rattle.std.specs.Prelude.{filter}
use Rattle.std.specs.List.{AllByRecursion, cons_option, filter_map}
use Rattle.std.specs.Option.{option_or}
use Rattle.std.proofs.lemmas.Bool.{cases_eq, eq-eqb, le-ltb, lt-ltb, ne_eqb}
use Rattle.std.proofs.lemmas.List.{get_or-set_other, get_or-set_same, length-set}
use Rattle.rev_causal.specs.Chosen.{chosen, IsRising, under}
use Rattle.rev_causal.specs.History as causal
use Rattle.rev_events.specs.declared.event.Event.{Event}
use Rattle.rev_history.specs.Timeline.{Numbered, Timeline}
use Rattle.rev_races.specs.Races.{starts}
use Rattle.rev_races.specs.Runs.{last_number}
use Rattle.rev_races.proofs.AnswerLemmas.{chosen-one-more}
use Rattle.rev_suspects.specs.Failures.{AreStarts}

-- NUMBERS THAT RISE
pub none-below : (x n : ℕ) (xs : List ℕ) → n ≤ x → AllByRecursion (λ y. x < y) xs → filter (λ k. nat_lt k n) xs ≡ []
none-below x n [] le all = refl
none-below x n (y ∷ ys) le all =
    let more = all.0 in
    ap (λ b. cond b (y ∷ filter (λ k. nat_lt k n) ys) (filter (λ k. nat_lt k n) ys)) (le-ltb y n (omega (arith, le, more)))
    ∙ none-below x n ys le all.1

above : (x : ℕ) (xs : List ℕ) (i d : ℕ) → AllByRecursion (λ y. x < y) xs → i < length xs → x < get_or xs i d
above x [] i d all within = absurd (omega (arith, within))
above x (y ∷ ys) zero d all within = all.0
above x (y ∷ ys) (suc i) d all within = above x ys i d all.1 (omega (arith, within))

-- of numbers that rise, those below one of them stand before it
pub below-are : (xs : List ℕ) (i n d : ℕ) → IsRising xs → i < length xs → get_or xs i d ≡ n → filter (λ k. nat_lt k n) xs ≡ take i xs
below-are [] i n d rising within is = absurd (omega (arith, within))
below-are (x ∷ xs) zero n d rising within is =
    ap (λ b. cond b (x ∷ filter (λ k. nat_lt k n) xs) (filter (λ k. nat_lt k n) xs)) (le-ltb x n (omega (arith, is)))
    ∙ none-below x n xs (omega (arith, is)) rising.0
below-are (x ∷ xs) (suc i) n d rising within is =
    let more = above x xs i d rising.0 (omega (arith, within)) in
    ap (λ b. cond b (x ∷ filter (λ k. nat_lt k n) xs) (filter (λ k. nat_lt k n) xs)) (lt-ltb x n (omega (arith, is, more)))
    ∙ ap (λ (ys : List ℕ). x ∷ ys) (below-are xs i n d rising.1 (omega (arith, within)) is)

-- MORE OF A LIST
pub filter-more : {X Y : Type 0} (f : X → Option Y) (xs : List X) (x : X) → filter_map f (xs ++ x ∷ []) ≡ filter_map f xs ++ cons_option (f x) []
filter-more f [] x = refl
filter-more f (y ∷ ys) x = by (f y) (filter-more f ys x)
  where
    by : (o : Option _) → filter_map f (ys ++ x ∷ []) ≡ filter_map f ys ++ cons_option (f x) []
        → cons_option o (filter_map f (ys ++ x ∷ [])) ≡ cons_option o (filter_map f ys) ++ cons_option (f x) []
    by None h = h
    by (Some z) h = ap (λ zs. z ∷ zs) h

-- THE LAST STARTS
or-none : (o : Option ℕ) → o ≡ option_or o None
or-none None = refl
or-none (Some n) = refl

or-assoc : (a b c : Option ℕ) → option_or (option_or a b) c ≡ option_or a (option_or b c)
or-assoc None b c = refl
or-assoc (Some n) b c = refl

last-append : (p : ℕ × Event → Bool) (xs ys : Numbered) → last_number p (xs ++ ys) ≡ option_or (last_number p ys) (last_number p xs)
last-append p [] ys = or-none (last_number p ys)
last-append p (x ∷ xs) ys =
    ap (λ o. option_or o (if p x then Some x.0 else None)) (last-append p xs ys)
    ∙ or-assoc (last_number p ys) (last_number p xs) (if p x then Some x.0 else None)

module _ (t : Timeline) (ks : List ℕ) (n : ℕ) (begins : List (Option ℕ)) where
  abbrev test : ℕ → ℕ × Event → Bool
  test edge e = starts t.manifest edge e.1

  more : (o : Option Event) → causal.event_at n t.accepted ≡ o → (edge : ℕ)
      → last_number (test edge) (chosen t.accepted (ks ++ n ∷ [])) ≡ option_or (last_number (test edge) (under n o [])) (last_number (test edge) (chosen t.accepted ks))
  more o is edge =
      ap (last_number (test edge)) (chosen-one-more t.accepted ks n)
      ∙ last-append (test edge) (chosen t.accepted ks) (under n (causal.event_at n t.accepted) [])
      ∙ ap (λ q. option_or (last_number (test edge) (under n q [])) (last_number (test edge) (chosen t.accepted ks))) is

  pub starts-none : causal.event_at n t.accepted ≡ None → AreStarts t ks begins → AreStarts t (ks ++ n ∷ []) begins
  starts-none none are = record { each = are.each; exact = λ edge. are.exact edge ∙ sym (more None none edge) }

  pub starts-nothing : (e : Event) → causal.event_at n t.accepted ≡ Some e → ((edge : ℕ) → false ≡ starts t.manifest edge e) → AreStarts t ks begins → AreStarts t (ks ++ n ∷ []) begins
  starts-nothing e is none are = record {
    each = are.each;
    exact = λ edge.
        are.exact edge
        ∙ ap (λ b. option_or (option_or None (if b then Some n else None)) (last_number (test edge) (chosen t.accepted ks))) (none edge)
        ∙ sym (more (Some e) is edge);
  }

  pub starts-edge : (e : Event) (x : ℕ) → causal.event_at n t.accepted ≡ Some e → ((edge : ℕ) → (x == edge) ≡ starts t.manifest edge e) → x < length t.manifest.builds
      → AreStarts t ks begins → AreStarts t (ks ++ n ∷ []) (set begins x (Some n))
  starts-edge e x is begun inside are = record {
    each = length-set begins x (Some n) ∙ are.each;
    exact = λ edge.
        at edge
        ∙ ap (λ o. option_or (if x == edge then Some n else None) o) (are.exact edge)
        ∙ ap (λ b. option_or (option_or None (if b then Some n else None)) (last_number (test edge) (chosen t.accepted ks))) (begun edge)
        ∙ sym (more (Some e) is edge);
  }
    where
      within : x < length begins
      within = omega (arith, inside, are.each)

      at : (edge : ℕ) → get_or (set begins x (Some n)) edge None ≡ option_or (if x == edge then Some n else None) (get_or begins edge None)
      at edge = elim (cases_eq edge x) [
        | inl same ↦
            ap (λ k. get_or (set begins x (Some n)) k None) same
            ∙ get_or-set_same begins x (Some n) None within
            ∙ sym (ap (λ b. option_or (if b then Some n else None) (get_or begins edge None)) (eq-eqb x edge (sym same)))
        | inr other ↦
            get_or-set_other begins x edge (Some n) None other
            ∙ sym (ap (λ b. option_or (if b then Some n else None) (get_or begins edge None)) (ne_eqb x edge (λ e. other (sym e))))
      ]

pub starts-first : (t : Timeline) (begins : List (Option ℕ)) → length begins ≡ length t.manifest.builds → ((edge : ℕ) → get_or begins edge None ≡ None) → AreStarts t [] begins
starts-first t begins each none = record { each = each; exact = none }

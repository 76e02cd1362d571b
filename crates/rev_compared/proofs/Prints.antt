-- The footprints of some kept events under their numbers.
use Rattle.std.proofs.Common.{◌≡◌, ℕ, zero, suc, ◌<◌, Bool, true, false, cond, List, [], ◌∷◌, filter, map, length, get_or, Option, None, Some, IsSome, is_some, nat_eq, refl, sym, ap, ◌∙◌, true≢false, ◌&&◌, arith}
use Rattle.std.specs.List.{AllByRecursion}
use Rattle.std.specs.Option.{option_map}
use Rattle.rev_causal.specs.History as causal
use Rattle.rev_causal.proofs.Chosen.{AllAccepted}
use Rattle.rev_footprint.specs.Value.{FootprintValue, print_of}
use Rattle.rev_history.specs.Along.{prints_along}
use Rattle.rev_history.specs.Timeline.{Timeline, footprints_along, kept_events, kept_footprint}
use Rattle.rev_compared.specs.Inverted.{is_compared}

-- UNDER ONE NUMBER
mapped_at : (n : ℕ) (ps : List (ℕ × FootprintValue))
    → causal.event_at n (map (λ (p : ℕ × FootprintValue). (p.0, print_of p.1)) ps) ≡ option_map print_of (causal.event_at n ps)
mapped_at n [] = refl
mapped_at n (p ∷ ps) =
    elim (nat_eq p.0 n) as (λ b. cond b (Some (print_of p.1)) (causal.event_at n (map (λ (q : ℕ × FootprintValue). (q.0, print_of q.1)) ps))
    ≡ option_map print_of (cond b (Some p.1) (causal.event_at n ps))) [
      | true ↦ refl
      | false ↦ mapped_at n ps
    ]

pub print_at : (t : Timeline) (n : ℕ) → causal.event_at n (prints_along t) ≡ option_map print_of (kept_footprint t n)
print_at t n = mapped_at n (footprints_along t.manifest t.opening (kept_events t))

-- a number that has a footprint there is kept, with that footprint
pub print-there : (t : Timeline) (n : ℕ) → IsSome (causal.event_at n (prints_along t))
    → (f : FootprintValue) × ((kept_footprint t n ≡ Some f) × (causal.event_at n (prints_along t) ≡ Some (print_of f)))
print-there t n some = by (kept_footprint t n) refl
  where
    by : (o : Option FootprintValue) → kept_footprint t n ≡ o
        → (f : FootprintValue) × ((kept_footprint t n ≡ Some f) × (causal.event_at n (prints_along t) ≡ Some (print_of f)))
    by None e = absurd (true≢false (sym some ∙ ap is_some (print_at t n ∙ ap (option_map print_of) e)))
    by (Some f) e = (f, (e, print_at t n ∙ ap (option_map print_of) e))

-- AT A PLACE
pub All-get : (P : ℕ → Type 0) (i d : ℕ) (ks : List ℕ) → AllByRecursion P ks → i < length ks → P (get_or ks i d)
All-get P i d [] all within = absurd (omega (arith, within))
All-get P zero d (k ∷ ks) all within = all.0
All-get P (suc i) d (k ∷ ks) all within = All-get P i d ks all.1 (omega (arith, within))

-- THE NUMBERS THAT ARE COMPARED
and-left : (a b : Bool) → (a && b) ≡ true → a ≡ true
and-left true b h = refl
and-left false b h = h

is-some-map : (o : Option FootprintValue) → is_some (option_map print_of o) ≡ is_some o
is-some-map None = refl
is-some-map (Some f) = refl

-- each has a footprint
pub compared-accepted : (t : Timeline) (matched : List (Option ℕ)) (ks : List ℕ)
    → AllAccepted (prints_along t) (filter (is_compared t matched) ks)
compared-accepted t matched [] = tt
compared-accepted t matched (k ∷ ks) = by (is_compared t matched k) refl (compared-accepted t matched ks)
  where
    by : (b : Bool) → is_compared t matched k ≡ b → AllAccepted (prints_along t) (filter (is_compared t matched) ks)
        → AllAccepted (prints_along t) (cond b (k ∷ filter (is_compared t matched) ks) (filter (is_compared t matched) ks))
    by true e rest = (ap is_some (print_at t k) ∙ is-some-map (kept_footprint t k) ∙ and-left _ _ e, rest)
    by false e rest = rest

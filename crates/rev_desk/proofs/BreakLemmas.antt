-- The breaks that wait for a break_key.
use Rattle.std.proofs.Common.{◌≡◌, ◌<◌, ℕ, Bool, true, false, cond, not, List, [], ◌∷◌, ◌++◌, map, filter, find, length, arith, slice_get, get_or, zero, suc, Option, Some, None, refl, sym, ap, subst, ◌∙◌}
use Rattle.std.specs.Option.{option_map}
use Rattle.std.specs.Prelude.{nat_eq}
use Rattle.std.specs.List.{AllByRecursion}
use Rattle.std.specs.declared.alloc.Global.{Global}
use Rattle.std.specs.declared.vec.Vec.{Vec}
use Rattle.rev_causal.specs.Chosen.{IsRising, without}
use Rattle.rev_causal.proofs.Chosen.{IsRising-push}
use Rattle.rev_manifest.specs.Manifest.{ManifestValue}
use Rattle.rev_commands.specs.declared.point.Point.{Point}
use Rattle.rev_desk.specs.declared.break_key.BreakKey.{BreakKey}
use Rattle.rev_desk.specs.declared.breaks.Breaks.{Breaks}
use Rattle.rev_desk.specs.BreakKeys.{both_same, numbers_of, point_break_key, same_break_key, without_break}
use Rattle.rev_desk.specs.Breaks.{AreBelow, AreSound, listed_at, numbers_at}
use Rattle.rev_desk.proofs.Rising.{firsts-push, firsts-dropped, kept-push, kept-dropped, rising_kept, not_chosen}

-- the first of those that wait for a break_key is the first that an event of that break_key meets
pub first-at : (manifest : ManifestValue) (s : BreakKey) (bs : List (ℕ × Point)) → slice_get (numbers_at manifest s bs) 0 ≡ option_map (λ b. b.0) (find (λ b. both_same (point_break_key manifest b.1) (Some s)) bs)
first-at manifest s [] = refl
first-at manifest s (b ∷ bs) =
    elim (both_same (point_break_key manifest b.1) (Some s)) as (λ t. slice_get (numbers_of (cond t (b ∷ filter (λ b. both_same (point_break_key manifest b.1) (Some s)) bs) (filter (λ b. both_same (point_break_key manifest b.1) (Some s)) bs))) 0 ≡ option_map (λ b. b.0) (cond t (Some b) (find (λ b. both_same (point_break_key manifest b.1) (Some s)) bs))) [
      | true ↦ refl
      | false ↦ first-at manifest s bs
    ]

both_same-none : (a : Option BreakKey) → both_same a None ≡ false
both_same-none None = refl
both_same-none (Some a) = refl

-- what is of no edge meets nothing
pub none-met : (manifest : ManifestValue) (bs : List (ℕ × Point)) → find (λ b. both_same (point_break_key manifest b.1) None) bs ≡ None
none-met manifest [] = refl
none-met manifest (b ∷ bs) = ap (λ t. cond t (Some b) (find (λ b. both_same (point_break_key manifest b.1) None) bs)) (both_same-none (point_break_key manifest b.1)) ∙ none-met manifest bs

-- none of another break_key waits for nothing
pub none_same : (s : BreakKey) → both_same None (Some s) ≡ false
none_same s = refl

-- the numbers beside a break_key rise
pub rising_at : (manifest : ManifestValue) (b : Breaks) → AreSound manifest b → (s : BreakKey) → IsRising (listed_at b.break_keys.entries s)
rising_at manifest b h s = subst IsRising (sym (h.break_keys s)) (rising_kept (λ p. both_same (point_break_key manifest p.1) (Some s)) b.standing.items h.rising)

-- one more break, above the others
pub AreSound-push : (manifest : ManifestValue) (old new : Breaks) (n : ℕ) (p : Point) (break_key : BreakKey) → point_break_key manifest p ≡ Some break_key → AreBelow n old.standing.items
    → new.standing.items ≡ old.standing.items ++ (n, p) ∷ [] → new.numbers.items ≡ old.numbers.items ++ n ∷ []
    → ((s : BreakKey) → listed_at new.break_keys.entries s ≡ cond (same_break_key break_key s) (listed_at old.break_keys.entries s ++ n ∷ []) (listed_at old.break_keys.entries s))
    → AreSound manifest old → AreSound manifest new
AreSound-push manifest old new n p break_key is below standing numbers listed h = record {
  rising = subst IsRising (sym (ap numbers_of standing ∙ firsts-push old.standing.items (n, p))) (IsRising-push (numbers_of old.standing.items) n h.rising below);
  numbers = numbers ∙ ap (λ ns. ns ++ n ∷ []) h.numbers ∙ sym (ap numbers_of standing ∙ firsts-push old.standing.items (n, p));
  break_keys = λ s.
      listed s ∙ ap (λ ns. cond (same_break_key break_key s) (ns ++ n ∷ []) ns) (h.break_keys s)
      ∙ sym (ap (numbers_at manifest s) standing ∙ kept-push (λ q. both_same (point_break_key manifest q.1) (Some s)) old.standing.items (n, p)
      ∙ ap (λ o. cond (both_same o (Some s)) (numbers_at manifest s old.standing.items ++ n ∷ []) (numbers_at manifest s old.standing.items)) is);
}

-- the same is kept
pub AreSound-same : (manifest : ManifestValue) (old new : Breaks) → new.standing.items ≡ old.standing.items → new.numbers.items ≡ old.numbers.items
    → ((s : BreakKey) → listed_at new.break_keys.entries s ≡ listed_at old.break_keys.entries s) → AreSound manifest old → AreSound manifest new
AreSound-same manifest old new standing numbers listed h = record {
  rising = subst (λ bs. IsRising (numbers_of bs)) (sym standing) h.rising;
  numbers = numbers ∙ h.numbers ∙ sym (ap numbers_of standing);
  break_keys = λ s. listed s ∙ h.break_keys s ∙ sym (ap (numbers_at manifest s) standing);
}

-- the number of a break at its place
pub number_at_place : (bs : List (ℕ × Point)) (place : ℕ) (b : ℕ × Point) → slice_get bs place ≡ Some b → get_or (numbers_of bs) place 0 ≡ b.0
number_at_place [] place b at = cc
number_at_place (x ∷ bs) zero b at = let same : x ≡ b = cc in ap (λ (y : ℕ × Point). y.0) same
number_at_place (x ∷ bs) (suc place) b at = number_at_place bs place b at

-- a break less
pub AreSound-dropped : (manifest : ManifestValue) (old new : Breaks) (n place : ℕ) (b : ℕ × Point) → slice_get old.standing.items place ≡ Some b → b.0 ≡ n
    → new.standing.items ≡ without_break n old.standing.items → new.numbers.items ≡ without n old.numbers.items
    → ((s : BreakKey) → listed_at new.break_keys.entries s ≡ cond (both_same (point_break_key manifest b.1) (Some s)) (without n (listed_at old.break_keys.entries s)) (listed_at old.break_keys.entries s))
    → AreSound manifest old → AreSound manifest new
AreSound-dropped manifest old new n place b at is standing numbers listed h = record {
  rising = subst (λ bs. IsRising (numbers_of bs)) (sym standing) (rising_kept (λ q. not (nat_eq q.0 n)) old.standing.items h.rising);
  numbers = numbers ∙ ap (without n) h.numbers ∙ sym (ap numbers_of standing ∙ firsts-dropped n old.standing.items);
  break_keys = λ s.
      listed s ∙ ap (λ ns. cond (both_same (point_break_key manifest b.1) (Some s)) (without n ns) ns) (h.break_keys s)
      ∙ by_case s (both_same (point_break_key manifest b.1) (Some s)) refl
      ∙ sym (ap (numbers_at manifest s) standing ∙ kept-dropped (λ q. both_same (point_break_key manifest q.1) (Some s)) n old.standing.items);
}
  where
    by_case : (s : BreakKey) (t : Bool) → both_same (point_break_key manifest b.1) (Some s) ≡ t
        → cond (both_same (point_break_key manifest b.1) (Some s)) (without n (numbers_at manifest s old.standing.items)) (numbers_at manifest s old.standing.items) ≡ without n (numbers_at manifest s old.standing.items)
    by_case s true e = ap (λ v. cond v (without n (numbers_at manifest s old.standing.items)) (numbers_at manifest s old.standing.items)) e
    by_case s false e =
        ap (λ v. cond v (without n (numbers_at manifest s old.standing.items)) (numbers_at manifest s old.standing.items)) e
        ∙ sym (subst (λ k. without k (numbers_at manifest s old.standing.items) ≡ numbers_at manifest s old.standing.items) is
        (not_chosen (λ q. both_same (point_break_key manifest q.1) (Some s)) old.standing.items place b h.rising at e))

pub bounds : (bs : List (ℕ × Point)) (place : ℕ) → place < length (numbers_of bs) → place < length bs
bounds [] place lt = lt
bounds (b ∷ bs) zero lt = omega arith
bounds (b ∷ bs) (suc place) lt = let within : place < length bs = bounds bs place (omega arith) in omega arith

-- The cones of several ends, as marks.
use Rattle.std.proofs.Common.{◌≡◌, ℕ, Bool, true, false, List, [], length, Some, sym, ap, ◌∙◌, arith, if◌then◌else◌}
use Rattle.std.specs.Prelude.{IfSome, slice_get}
use Rattle.rev_history.specs.Timeline.{Timeline, cone_numbers, is_among}
use Rattle.rev_held.specs.Beside.{held_beside}
use Rattle.rev_marks.specs.Masks.{AreMarks, has_mark, is_in, mask_under}
use Rattle.rev_marks.proofs.MaskLemmas.{mark-none}
use Rattle.rev_races.specs.declared.cones.Cones.{Cones}
use Rattle.rev_races.specs.declared.story.Happened.TheVariants as happened
use Rattle.rev_races.specs.Stories.{AreCones, held_by}

no-marks : (cone : ℕ → List ℕ) (asked : List ℕ) (marks : List (ℕ × ℕ)) → asked ≡ [] → marks ≡ [] → AreMarks cone asked marks
no-marks cone asked marks none empty = record {
  exact = λ i s.
      ap (λ (ms : List (ℕ × ℕ)). has_mark i (mask_under ms s)) empty ∙ mark-none i ∙ ap (λ (xs : List ℕ). is_in cone (slice_get xs i) s) (sym none);
}

pub none-asked : (t : Timeline) (cones : Cones) → cones.asked.items ≡ [] → cones.all.entries ≡ []
    → IfSome cones.beside (λ marks. AreMarks (held_beside t) cones.asked.items marks.entries) → AreCones t cones
none-asked t cones none all beside = record {
  few = omega (arith, ap (λ (xs : List ℕ). length xs) none);
  all = no-marks (λ n. cone_numbers n t) cones.asked.items cones.all.entries none all;
  beside = beside;
}

-- a mark beside jobs and slots
pub marked-beside : (t : Timeline) (asked : List ℕ) (marks : List (ℕ × ℕ)) (place f s : ℕ) → AreMarks (held_beside t) asked marks
    → slice_get asked place ≡ Some f → has_mark place (mask_under marks s) ≡ is_among (held_beside t f) s
marked-beside t asked marks place f s are at = are.exact place s ∙ ap (λ o. is_in (held_beside t) o s) at

module _ (t : Timeline) (cones : Cones) (place f s : ℕ) (are : AreCones t cones) (at : slice_get cones.asked.items place ≡ Some f) where
  of-all : has_mark place (mask_under cones.all.entries s) ≡ is_among (cone_numbers f t) s
  of-all = are.all.exact place s ∙ ap (λ o. is_in (λ n. cone_numbers n t) o s) at

  pub held-free : has_mark place (mask_under cones.all.entries s) ≡ false → happened.Free ≡ held_by t f s
  held-free apart =
      sym (ap (λ b. if b then (if is_among (held_beside t f) s then happened.HeldRecord else happened.HeldPlace) else happened.Free) (sym of-all ∙ apart))

  pub held-beside : (b : Bool) → has_mark place (mask_under cones.all.entries s) ≡ true → b ≡ is_among (held_beside t f) s
      → (if b then happened.HeldRecord else happened.HeldPlace) ≡ held_by t f s
  held-beside b member is =
      ap (λ x. if x then happened.HeldRecord else happened.HeldPlace) is
      ∙ sym (ap (λ b. if b then (if is_among (held_beside t f) s then happened.HeldRecord else happened.HeldPlace) else happened.Free) (sym of-all ∙ member))

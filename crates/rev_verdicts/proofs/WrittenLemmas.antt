-- Statuses, and what was seen.
use Rattle.std.proofs.Common.{◌≡◌, ℕ, ◌==◌, Bool, true, false, ◌&&◌, ◌||◌, None, refl, ap, ◌∙◌, true≢false, if◌then◌else◌}
use Rattle.std.specs.Prelude.{is_some, nat_lt}
use Rattle.std.specs.List.{list_all}
use Rattle.rev_findings.specs.declared.seen.Sight.{Sight}
use Rattle.rev_certainty.specs.Certain.{certainty_if}
use Rattle.rev_verdicts.specs.Asked.{placed}

-- the status that is written, where the one that was meant is 0, or 4
pub status-zero : (writes : Bool) (status written : ℕ) → written ≡ (if writes && status == 4 then 0 else status) → status ≡ 0 → written ≡ 0
status-zero true status written is zero = is ∙ ap (λ (n : ℕ). if n == 4 then 0 else n) zero
status-zero false status written is zero = is ∙ zero

pub status-four : (writes reads : Bool) (status written : ℕ) → written ≡ (if writes && status == 4 then 0 else status) → (writes || reads) ≡ false → status ≡ 4 → written ≡ 4
status-four true reads status written is none four = absurd (true≢false none)
status-four false reads status written is none four = is ∙ four

pub some-if : (certain : Bool) (commands : ℕ) → is_some (certainty_if certain commands) ≡ certain
some-if true commands = refl
some-if false commands = refl

-- an observation whose commands are of edges is seen, and no other
pub placed-by : (count : ℕ) (sight : Sight) (below : Bool) → list_all (λ edge. nat_lt edge count) sight.observed.edges.items ≡ below → placed count sight ≡ (if below then sight.observed.places else None)
placed-by count sight below is = ap (λ (b : Bool). if b then sight.observed.places else None) is

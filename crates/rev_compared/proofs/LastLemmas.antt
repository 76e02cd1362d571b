-- The last runs of edges, one more run.
use Rattle.std.proofs.Common.{◌≡◌, ℕ, ◌<◌, ◌+◌, ◌==◌, ◌&&◌, List, Option, None, Some, drop, get_or, length, sym, ap, ◌∙◌}
use Rattle.std.specs.Prelude.{if◌then◌else◌}
use Rattle.std.proofs.lemmas.List.{drop_more}
use Rattle.rev_history.specs.Timeline.{Timeline}
use Rattle.rev_runs.specs.declared.ran.Run.{Run}
use Rattle.rev_compared.specs.declared.lasts.Last.{Last}
use Rattle.rev_compared.specs.Lasts.{last_by, last_from}

pub next-last : (t : Timeline) (rs : List Run) (i : ℕ) (d : Run) (edge : ℕ) (old new : Option Last) → i < length rs
    → new ≡ (if (get_or rs i d).kept && ((get_or rs i d).edge == edge) then Some (last_by t (get_or rs i d)) else old)
    → last_from t edge old (drop i rs) ≡ last_from t edge None rs
    → last_from t edge new (drop (i + 1) rs) ≡ last_from t edge None rs
next-last t rs i d edge old new within is so =
    ap (λ b. last_from t edge b (drop (i + 1) rs)) is ∙ sym (ap (last_from t edge old) (drop_more rs i d within)) ∙ so

-- Inputs by their positions.
use Rattle.std.proofs.Common.{◌≡◌, ℕ, ◌<◌, ◌≤◌, ◌+◌, ◌-◌, List, ◌++◌, Option, length, slice_get, sym, ap, ◌∙◌, arith, length-append}
use Rattle.rev_cells.specs.State.{State}
use Rattle.rev_manifest.specs.Manifest.{BuildValue}
use Rattle.rev_dirty.specs.Inputs.{deps_record, inputs, paths_in, paths_of}
use Rattle.rev_listing.proofs.InputLemmas.{all-paths, get-back, get-front}

-- an input of the build line that is not order-only
pub line-input : (o : Option (List ℕ)) (e i : List (List ℕ)) (s : State) (build : BuildValue) (at : ℕ)
    → at < length e + length i → o ≡ slice_get (e ++ i) at → e ≡ build.explicit → i ≡ build.implicit
    → o ≡ slice_get (paths_of (inputs s build)) at
line-input o e i s build at lt got same_e same_i =
    let within : at < length (e ++ i) = omega (arith, length-append e i) in
    let further = build.order_only ++ paths_in (deps_record s build) in
    got ∙ sym (get-front (e ++ i) further at within)
    ∙ ap (λ l. slice_get ((l ++ i) ++ further) at) same_e
    ∙ ap (λ l. slice_get ((build.explicit ++ l) ++ further) at) same_i
    ∙ ap (λ l. slice_get l at) (sym (all-paths s build))

-- an order-only input or a listed one
pub further-input : (o : Option (List ℕ)) (e i oo listed : List (List ℕ)) (s : State) (build : BuildValue) (at : ℕ)
    → length e + length i ≤ at → o ≡ slice_get (oo ++ listed) (at - (length e + length i)) → e ≡ build.explicit
    → i ≡ build.implicit → oo ≡ build.order_only → listed ≡ paths_in (deps_record s build)
    → o ≡ slice_get (paths_of (inputs s build)) at
further-input o e i oo listed s build at le got same_e same_i same_oo same_listed =
    let past : length (e ++ i) ≤ at = omega (arith, length-append e i) in
    let place : at - (length e + length i) ≡ at - length (e ++ i) = omega (arith, length-append e i) in
    got ∙ ap (slice_get (oo ++ listed)) place
    ∙ sym (get-back (e ++ i) (oo ++ listed) at past)
    ∙ ap (λ l. slice_get ((l ++ i) ++ (oo ++ listed)) at) same_e
    ∙ ap (λ l. slice_get ((build.explicit ++ l) ++ (oo ++ listed)) at) same_i
    ∙ ap (λ l. slice_get ((build.explicit ++ build.implicit) ++ (l ++ listed)) at) same_oo
    ∙ ap (λ l. slice_get ((build.explicit ++ build.implicit) ++ (build.order_only ++ l)) at) same_listed
    ∙ ap (λ l. slice_get l at) (sym (all-paths s build))

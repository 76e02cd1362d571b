-- Lanes by halves.
use Rattle.std.proofs.Common.{◌≡◌, ◌∙◌, ◌<◌, ◌/◌, ℕ, zero, suc, List, [], ◌∷◌, ◌++◌, Option, None, Some, IfSome, sym, ap, take, drop, take-append-drop}
use Rattle.std.specs.List.{AllByRecursion}
use Rattle.std.proofs.lemmas.List.{map-append, take-map, drop-map}
use Rattle.rev_commands.specs.declared.command.Command.{Command}
use Rattle.rev_workers.specs.Tracks.{Track}
use Rattle.rev_workers.specs.Running.{AreBelow, numbers_in}

pub below-numbers : (n : ℕ) (js : List (Track × List Command)) → AreBelow n js → AllByRecursion (λ k. k < n) (numbers_in js)
below-numbers n [] h = tt
below-numbers n (j ∷ js) h = (h.0, below-numbers n js h.1)

pub below-take : (n k : ℕ) (js : List (Track × List Command)) → AreBelow n js → AreBelow n (take k js)
below-take n zero js h = tt
below-take n (suc k) [] h = tt
below-take n (suc k) (j ∷ js) h = (h.0, below-take n k js h.1)

pub below-drop : (n k : ℕ) (js : List (Track × List Command)) → AreBelow n js → AreBelow n (drop k js)
below-drop n zero js h = h
below-drop n (suc k) [] h = tt
below-drop n (suc k) (j ∷ js) h = below-drop n k js h.1

pub numbers-earlier : (m n : ℕ) (xs front : List ℕ) (js half : List (Track × List Command)) → xs ≡ numbers_in js → front ≡ take (m / 2) xs → m ≡ n → half ≡ take (n / 2) js → front ≡ numbers_in half
numbers-earlier m n xs front js half all is same earlier =
    is ∙ (λ i. take (same i / 2) (all i)) ∙ take-map (λ (j : Track × List Command). j.0.number) (n / 2) js ∙ ap numbers_in (sym earlier)

pub numbers-later : (m n : ℕ) (xs back : List ℕ) (js half : List (Track × List Command)) → xs ≡ numbers_in js → back ≡ drop (m / 2) xs → m ≡ n → half ≡ drop (n / 2) js → back ≡ numbers_in half
numbers-later m n xs back js half all is same later =
    is ∙ (λ i. drop (same i / 2) (all i)) ∙ drop-map (λ (j : Track × List Command). j.0.number) (n / 2) js ∙ ap numbers_in (sym later)

pub numbers-halves : (n : ℕ) (js front back : List (Track × List Command)) → front ≡ take n js → back ≡ drop n js → numbers_in js ≡ numbers_in front ++ numbers_in back
numbers-halves n js front back earlier later =
    ap numbers_in (sym (take-append-drop n js)) ∙ (λ i. numbers_in (sym earlier i ++ sym later i)) ∙ map-append (λ (j : Track × List Command). j.0.number) front back

pub if-weaker : (o : Option ℕ) (P Q : ℕ → Type 0) → ((n : ℕ) → P n → Q n) → IfSome o P → IfSome o Q
if-weaker None P Q w h = tt
if-weaker (Some n) P Q w h = w n h

use Rattle.std.proofs.Common.{◌≡◌, ℕ, List, [], ◌∷◌, ◌++◌, codes, length, append_assoc, refl, sym, ap, ap₂, ◌∙◌, arith}
use Rattle.std.specs.Fmt.{decimal}
use Rattle.std.specs.List.{flat_map}
use Rattle.rev_history.specs.Timeline.{Timeline}
use Rattle.rev_report.proofs.NearestLemmas.{dependents_from, no_nearest, nearest_first}
use Rattle.rev_report.proofs.dependents.push_dependents.Goals as goal

-- one more is written
one_more : (text space digits rest : List ℕ) → ((text ++ space) ++ digits) ++ rest ≡ text ++ ((space ++ digits) ++ rest)
one_more text space digits rest = simp append_assoc

append_none : (xs : List ℕ) → xs ++ [] ≡ xs
append_none [] = refl
append_none (x ∷ xs) = ap (λ ys. x ∷ ys) (append_none xs)

pub loop-next-preserved : goal.loop-next-preserved
loop-next-preserved c =
    let t : Timeline = c.args.history.now.timeline in
    let first : dependents_from t c.args.number c.loop-next.last ≡ c.in-Some.next ∷ dependents_from t c.args.number c.in-Some.next =
    nearest_first t c.args.number c.loop-next.last c.in-Some.next c.kept-kept.ensures.legal c.in-Some.ensures.same c.in-Some.ensures.none in
    let rest : List ℕ = flat_map (λ m. codes " " ++ decimal m) (dependents_from t c.args.number c.in-Some.next) in
    ap (λ (xs : List ℕ). xs ++ rest) (c.in_ok-push_number.ensures ∙ ap₂ (λ (xs : List ℕ) (k : ℕ). xs ++ decimal k) c.in_ok-extend_from_slice.ensures.items c.from.ensures)
    ∙ one_more c.loop-next.text.items (codes " ") (decimal c.in-Some.next) rest
    ∙ ap (λ (ks : List ℕ). c.loop-next.text.items ++ flat_map (λ m. codes " " ++ decimal m) ks) (sym first)
    ∙ c.loop-next.invariant

pub loop-next-smaller : goal.loop-next-smaller
loop-next-smaller c =
    let t : Timeline = c.args.history.now.timeline in
    let first : dependents_from t c.args.number c.loop-next.last ≡ c.in-Some.next ∷ dependents_from t c.args.number c.in-Some.next =
    nearest_first t c.args.number c.loop-next.last c.in-Some.next c.kept-kept.ensures.legal c.in-Some.ensures.same c.in-Some.ensures.none in
    omega (arith, ap (λ (ks : List ℕ). length ks) first)

pub returns : goal.returns
returns c =
    let t : Timeline = c.args.history.now.timeline in
    let none : dependents_from t c.args.number c.loop-next.last ≡ [] = no_nearest t c.args.number c.loop-next.last c.kept-kept.ensures.legal c.in_default.ensures.same in
    sym (append_none c.loop-next.text.items)
    ∙ ap (λ (ks : List ℕ). c.loop-next.text.items ++ flat_map (λ m. codes " " ++ decimal m) ks) (sym none)
    ∙ c.loop-next.invariant

use Rattle.std.proofs.Common.{◌≡◌, ℕ, ◌+◌, ◌<◌, suc, List, [], ◌∷◌, ◌++◌, length, get_or, drop, Some, rules, refl, sym, ap, ◌∙◌, arith}
use Rattle.std.specs.List.{flat_map}
use Rattle.std.proofs.Math.Seq.{drop-cons}
use Rattle.rev_paths.specs.Quoting.{quote}
use Rattle.rev_scopes.specs.Expansion.{limited, appended}
use Rattle.rev_scopes.specs.Edges.{joined}
use Rattle.rev_scopes.proofs.ExpansionLemmas.{appended-both}
use Rattle.rev_scopes.proofs.edge_values.joined.Goals as goal

none-left : (paths : List (List ℕ)) → length paths ≡ 0 → [] ≡ paths
none-left [] h = refl
none-left (path ∷ paths) h = absurd (omega (arith, h))

one-more : (paths : List (List ℕ)) (i : ℕ) (path : List ℕ) → i < length paths → path ≡ get_or paths i path → drop i paths ≡ path ∷ drop (i + 1) paths
one-more paths i path within is =
    let next : suc i ≡ i + 1 = omega arith in
    drop-cons paths i path within ∙ (λ j. sym is j ∷ drop (next j) paths)

pub returns-in-None : goal.returns-in-None
returns-in-None c = c.new-value.ensures ∙ ap (λ paths. limited (joined c.args.by paths)) (none-left c.args.paths.now c.in-None.ensures.cases)

pub loop-other-init : goal.loop-other-init
loop-other-init c =
    let by = c.args.by in
    let path = c.in-Some.path.now in
    let others = c.in-Some.others.now in
    let rest = flat_map (λ other. by ∷ quote other) others in
    let split : c.args.paths.now ≡ c.in-Some.path.now ∷ c.in-Some.others.now = search rules in (
      ap (λ value. appended value rest) (c.in_ok-push_path-in-Some.ensures.appended ∙ ap (λ value. appended value (quote path)) c.new-value.ensures)
          ∙ appended-both (Some []) (quote path) rest ∙ ap (λ paths. limited (joined by paths)) (sym split),
      c.in_ok-push_path-in-Some.ensures.within,
    )

pub loop-other-preserved : goal.loop-other-preserved
loop-other-preserved c =
    let by = c.args.by in
    let others = c.in-Some.others.now in
    let i = c.loop-other.other-index in
    let other = c.other-item.result in
    let rest = flat_map (λ other. by ∷ quote other) (drop (i + 1) others) in (
      ap (λ value. appended value rest) (c.in_ok-push_path-in-Some-2.ensures.appended ∙ ap (λ value. appended value (quote other)) c.in_ok-push-in-Some.ensures.appended)
          ∙ appended-both (appended c.loop-other.value (by ∷ [])) (quote other) rest ∙ appended-both c.loop-other.value (by ∷ []) (quote other ++ rest)
          ∙ ap (λ paths. appended c.loop-other.value (flat_map (λ other. by ∷ quote other) paths)) (sym (one-more others i other c.loop-other-test.true c.other-item.is))
          ∙ c.loop-other.invariant.0,
      c.in_ok-push_path-in-Some-2.ensures.within,
    )

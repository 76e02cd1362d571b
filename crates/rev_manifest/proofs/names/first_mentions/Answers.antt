use Rattle.std.proofs.Common.{◌≡◌, sym, ap, ◌∙◌, subst, ◌<◌, ◌+◌, ◌++◌, ◌∷◌, ℕ, List, [], filter, drop}
use Rattle.std.proofs.lemmas.List.{at_drop_more, at_drop_all, append-nil}
use Rattle.rev_paths.specs.Mentions.{first_mentions}
use Rattle.rev_manifest.proofs.NameLemmas.{distinct-short, distinct-new, distinct-old, insert-new, insert-old, is_left, filter-all}
use Rattle.rev_manifest.proofs.names.first_mentions.Goals as goal
use Rattle.rev_manifest.proofs.names.first_mentions.Goals.{then-branch+in_ok-copy-2+in_ok-push, else-branch}

pub returns-then-len-lt2 : goal.returns-then-len-lt2
returns-then-len-lt2 c =
    let P : ℕ → Type 0 = λ n. n < 2 in
    sym (distinct-short c.args.names.items (subst P (c.len.ensures ∙ c.args.names.ok.0) c.if-len-lt2.true))

pub loop-name-init : goal.loop-name-init
loop-name-init c =
    let all = c.deref-name-items.result.now in (
      c.new-seen.ensures.empty ∙ sym c.new-once.ensures.items,
      ap (λ once. once ++ filter (is_left once) (first_mentions all)) c.new-once.ensures.items ∙ filter-all (first_mentions all),
    )

pub loop-name-preserved : goal.loop-name-preserved
loop-name-preserved c =
    let once = c.loop-name.once.items in
    let all = c.deref-name-items.result.now in
    let i = c.loop-name.name-index in
    let x = c.name-item.result in
    let rest = drop (i + 1) all in
    let so_far = λ (names : List (List ℕ)). once ++ filter (is_left once) (first_mentions names) in
    let before : so_far (x ∷ rest) ≡ first_mentions all =
    ap (λ y. so_far (y ∷ rest)) c.name-item.is ∙ sym (at_drop_more so_far all i x c.loop-name-test.true) ∙ c.loop-name.invariant.1 in
    elim c.if-branch.branch [
      | then-branch+in_ok-copy-2+in_ok-push w ↦
          let added = insert-new c.loop-name.seen.keys once x c.in_ok-copy.field-0 c.loop-name.invariant.0 c.in_ok-copy.ensures.equal (sym c.in_ok-insert.ensures.added ∙ w.if-branch.true) in
          let longer : c.if-branch.once.items ≡ once ++ x ∷ [] = ap (λ v. v.items) w.once-is ∙ w.in_ok-push.ensures.items ∙ ap (λ y. once ++ y ∷ []) w.in_ok-copy-2.ensures.equal in (
            c.in_ok-insert.ensures.keys ∙ added.0 ∙ sym longer,
            ap (λ o. o ++ filter (is_left o) (first_mentions rest)) longer ∙ distinct-new once rest x added.1 ∙ before,
          )
      | else-branch w ↦
          let kept = insert-old c.loop-name.seen.keys once x c.in_ok-copy.field-0 c.loop-name.invariant.0 c.in_ok-copy.ensures.equal (sym c.in_ok-insert.ensures.added ∙ w.if-branch.false) in
          let same : c.if-branch.once.items ≡ once = ap (λ v. v.items) w.once-is in (
            c.in_ok-insert.ensures.keys ∙ kept.0 ∙ sym same,
            ap (λ o. o ++ filter (is_left o) (first_mentions rest)) same ∙ distinct-old once rest x kept.1 ∙ before,
          )
    ]

pub returns : goal.returns
returns c =
    let once = c.loop-name.once.items in
    let all = c.deref-name-items.result.now in
    sym (append-nil once)
    ∙ sym (at_drop_all (λ (names : List (List ℕ)). once ++ filter (is_left once) (first_mentions names)) all c.loop-name.name-index c.loop-name-test.false)
    ∙ c.loop-name.invariant.1 ∙ ap first_mentions c.deref-name-items.ensures.value

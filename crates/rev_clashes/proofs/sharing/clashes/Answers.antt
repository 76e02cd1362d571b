use Rattle.std.proofs.Common.{◌≡◌, List, ◌+◌, None, Some, bytes_eq, sym, ap, subst, ◌∙◌, arith, refl}
use Rattle.std.specs.Map.{lookup}
use Rattle.rev_clashes.specs.declared.sharing.Clash.{Clash}
use Rattle.rev_clashes.specs.Clashes.{file_at, file_of}
use Rattle.rev_clashes.proofs.ClashLemmas.{AreBelow, IsFirst, all-clashes, clash-none, clashes-more, clashes-stay, file-here, first-found, first-more, first-none, none-found}
use Rattle.rev_clashes.proofs.sharing.clashes.Goals as goal
use Rattle.rev_clashes.proofs.sharing.clashes.Goals.{in-Some+in_ok-first+then-first-place+in_ok-push, in-Some+in_ok-first+else-first-place, in_default}

pub loop-place-preserved : goal.loop-place-preserved
loop-place-preserved c =
    let kind = c.args.kind in
    let builds = c.args.builds.now in
    let n = c.loop-place.place in
    let clashes = c.loop-place.clashes.items in
    let now = c.match-branch-2.firsts.entries in
    let were = c.loop-place.invariant in
    let at : file_at kind builds n ≡ file_of kind c.index-builds-place.result = file-here kind builds n c.index-builds-place.result c.index-builds-place.is c.loop-place-test.true in
    elim c.match-branch-2.branch [
      | in-Some+in_ok-first+then-first-place+in_ok-push w ↦
          let here : file_at kind builds n ≡ Some w.in-Some.path = at ∙ sym c.in_ok-path.ensures ∙ w.in-Some.is in
          let found = first-found kind builds n w.in-Some.path (lookup (bytes_eq w.in-Some.path) c.loop-place.firsts.entries) w.in_ok-first.first (were.firsts w.in-Some.path) w.in_ok-first.ensures.value w.if-first-place.true in
          record {
            firsts = λ path.
                first-more kind builds n w.in-Some.path path (lookup (bytes_eq path) c.loop-place.firsts.entries) (lookup (bytes_eq path) now) here
                (ap (λ t. lookup (bytes_eq path) t.entries) w.firsts-is ∙ w.in_ok-first.ensures.entries path) (were.firsts path);
            clashes =
                clashes-more kind builds n w.in_ok-first.first w.in-Some.path clashes c.match-branch-2.clashes.items (record { first = w.in_ok-first.first; other = n }) were.clashes
                (ap (λ v. v.items) w.clashes-is ∙ w.in_ok-push.ensures.items) refl refl here w.if-first-place.true found.0 found.1;
          }
      | in-Some+in_ok-first+else-first-place w ↦
          let here : file_at kind builds n ≡ Some w.in-Some.path = at ∙ sym c.in_ok-path.ensures ∙ w.in-Some.is in
          record {
            firsts = λ path.
                first-more kind builds n w.in-Some.path path (lookup (bytes_eq path) c.loop-place.firsts.entries) (lookup (bytes_eq path) now) here
                (ap (λ t. lookup (bytes_eq path) t.entries) w.firsts-is ∙ w.in_ok-first.ensures.entries path) (were.firsts path);
            clashes = subst (λ (v : List Clash). AreBelow kind builds (n + 1) v) (sym (ap (λ v. v.items) w.clashes-is)) (clashes-stay kind builds n clashes were.clashes
                (none-found kind builds n w.in-Some.path (lookup (bytes_eq w.in-Some.path) c.loop-place.firsts.entries) w.in_ok-first.first (were.firsts w.in-Some.path) w.in_ok-first.ensures.value
                (λ h. omega (arith, h, w.if-first-place.false)) here));
          }
      | in_default w ↦
          let none : file_at kind builds n ≡ None = at ∙ sym c.in_ok-path.ensures ∙ w.in_default.is in
          record {
            firsts = λ path.
                subst (IsFirst kind builds (n + 1) path) (sym (ap (λ t. lookup (bytes_eq path) t.entries) w.firsts-is))
                (first-none kind builds n path (lookup (bytes_eq path) c.loop-place.firsts.entries) none (were.firsts path));
            clashes = subst (λ (v : List Clash). AreBelow kind builds (n + 1) v) (sym (ap (λ v. v.items) w.clashes-is)) (clashes-stay kind builds n clashes were.clashes (clash-none kind builds n none));
          }
    ]

pub returns : goal.returns
returns c =
    all-clashes c.args.kind c.args.builds.now c.loop-place.place c.loop-place.clashes.items (omega (arith, c.loop-place-test.false, c.loop-place.auto.place-end)) c.loop-place.invariant.clashes

use Rattle.std.proofs.Common.{◌≡◌, ℕ, ◌+◌, List, length, get_or, Contains, ◌⊎◌, sym, subst, arith}
use Rattle.std.specs.Prelude.{◌↔◌}
use Rattle.rev_conflicts.specs.Tables.{SomeBelow}
use Rattle.rev_conflicts.proofs.Some.{either-more, some-more, some-skip}
use Rattle.rev_undeclared.proofs.LookLemmas.{ByOne, keys-by}
use Rattle.rev_undeclared.proofs.looks.add_makers.Goals.{then-maker-user+in_ok-add, else-maker-user}
use Rattle.rev_undeclared.proofs.looks.add_makers.Goals as goal

pub loop-command-preserved : goal.loop-command-preserved
loop-command-preserved c =
    let edges = c.args.edges.now in
    let commands = c.args.commands.now in
    let n = c.loop-command.command-index in
    elim c.if-maker-user.branch [
      | then-maker-user+in_ok-add w ↦ λ k.
          subst (λ (fs : List (List ℕ)). Contains fs k ↔ (Contains c.args.found.now k ⊎ SomeBelow (λ i. ByOne edges c.args.user c.args.path c.args.kind (get_or commands i 0) k) (n + 1))) (sym w.found-is)
          (some-more (λ i. ByOne edges c.args.user c.args.path c.args.kind (get_or commands i 0) k) n (c.loop-command.invariant k)
          (either-more (w.in_ok-add.ensures k) (λ e. (w.if-maker-user.true, e), λ both. both.1)))
      | else-maker-user w ↦ λ k.
          subst (λ (fs : List (List ℕ)). Contains fs k ↔ (Contains c.args.found.now k ⊎ SomeBelow (λ i. ByOne edges c.args.user c.args.path c.args.kind (get_or commands i 0) k) (n + 1))) (sym w.found-is)
          (some-skip (λ i. ByOne edges c.args.user c.args.path c.args.kind (get_or commands i 0) k) n (c.loop-command.invariant k) (λ both. both.0 w.if-maker-user.false))
    ]

pub returns : goal.returns
returns c = λ k.
    let edges = c.args.edges.now in
    let commands = c.args.commands.now in
    let all : c.loop-command.command-index ≡ length c.args.commands.now = omega (arith, c.loop-command-test.false, c.loop-command.auto.command-index-end) in
    either-more
    (subst (λ m. Contains c.loop-command.found k ↔ (Contains c.args.found.now k ⊎ SomeBelow (λ i. ByOne edges c.args.user c.args.path c.args.kind (get_or commands i 0) k) m)) all (c.loop-command.invariant k))
    (keys-by edges c.args.user c.args.path c.args.kind commands k)

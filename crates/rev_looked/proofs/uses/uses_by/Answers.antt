use Rattle.std.proofs.Common.{◌≡◌, ◌≤◌, [], ◌++◌, length, drop, sym, ap, ◌∙◌, arith, inl, inr}
use Rattle.std.proofs.lemmas.Bool.{cases_lt}
use Rattle.std.proofs.lemmas.List.{append-nil}
use Rattle.rev_looked.specs.Uses.{uses_by}
use Rattle.rev_looked.proofs.UseLemmas.{uses-no-edge, uses-none}
use Rattle.rev_looked.proofs.uses.uses_by.Goals as goal

pub returns : goal.returns
returns c =
    let edges = c.args.edges.now in
    let commands = c.args.commands.now in
    let place = c.loop-place.place in
    let uses = c.loop-place.uses.items in
    sym (append-nil c.loop-place.uses.items)
    ∙ ap (λ xs. c.loop-place.uses.items ++ xs)
    (sym (elim (cases_lt (length c.args.edges.now) (length c.args.commands.now)) as (λ _. uses_by c.args.deed (drop c.loop-place.place c.args.edges.now) (drop c.loop-place.place c.args.commands.now) c.args.path ≡ []) [
      | inl less ↦
          let past : length c.args.edges.now ≤ c.loop-place.place = omega arith in
          uses-no-edge c.args.deed c.args.edges.now c.args.commands.now c.args.path c.loop-place.place past
      | inr more ↦
          let past : length c.args.commands.now ≤ c.loop-place.place = omega arith in
          uses-none c.args.deed c.args.edges.now c.args.commands.now c.args.path c.loop-place.place past
    ]))
    ∙ c.loop-place.invariant

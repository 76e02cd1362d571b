use Rattle.std.proofs.Common.{◌≡◌, ◌++◌, None, get_or, take}
use Rattle.std.specs.List.{filter_map}
use Rattle.rev_looked.specs.Users.{user_by}
use Rattle.rev_looked.proofs.user.add_looks.Given as goal

abbrev pub invariant-loop-path : goal.invariant-loop-path
invariant-loop-path l =
    l.users.items ≡ l.initial.users.items
    ++ filter_map (λ path. user_by l.graph.manifest.builds l.all l.edge l.command l.later (get_or l.nexts path None) path) (take l.path-index l.paths)

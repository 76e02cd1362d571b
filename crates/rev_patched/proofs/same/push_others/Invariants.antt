use Rattle.std.proofs.Common.{◌≡◌, ◌++◌, not, filter, take}
use Rattle.rev_manifest.specs.Names.{has_path}
use Rattle.rev_patched.proofs.same.push_others.Given as goal

abbrev pub invariant-loop-name : goal.invariant-loop-name
invariant-loop-name l = l.others.items ≡ l.initial.others.items ++ filter (λ path. not (has_path l.set.keys path)) (take l.name-index l.names)

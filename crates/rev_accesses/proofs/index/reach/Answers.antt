use Rattle.std.proofs.Common.{◌≡◌, List, [], ap, ◌∙◌, refl}
use Rattle.rev_accesses.specs.declared.users.Access.{Access}
use Rattle.rev_accesses.specs.declared.users.Access.TheVariants.{Read, Write}
use Rattle.rev_accesses.specs.declared.users.Users.{Users}
use Rattle.rev_accesses.specs.Users.{listed, numbers_of}
use Rattle.rev_accesses.specs.Value.{numbers_at}
use Rattle.rev_accesses.proofs.PlaceLemmas.{listed_end}
use Rattle.rev_accesses.proofs.index.reach.Goals as goal

empty : (a : Access) (u : Users) → u.readers.items ≡ [] → u.writers.items ≡ [] → numbers_of a u ≡ []
empty Read u read written = read
empty Write u read written = written

pub loop-alloc-init : goal.loop-alloc-init
loop-alloc-init c = λ a q. refl

pub loop-alloc-preserved : goal.loop-alloc-preserved
loop-alloc-preserved c = λ a q.
    ap (λ (us : List Users). numbers_at (listed a us) q) c.in_ok-push.ensures.items
    ∙ listed_end a c.loop-alloc.index.items c.none.result (empty a c.none.result c.none.ensures.read c.none.ensures.written) q
    ∙ c.loop-alloc.invariant a q

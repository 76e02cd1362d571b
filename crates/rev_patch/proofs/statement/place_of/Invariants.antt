use Rattle.std.proofs.Common.{◌≡◌, ◌+◌, drop, map}
use Rattle.rev_patch.specs.Lines.{line_of}
use Rattle.rev_patch.specs.Additions.{texts_of}
use Rattle.rev_patch.specs.Statement.{statement}
use Rattle.rev_patch.specs.Read.{seen_after, unseen}
use Rattle.rev_patch.proofs.statement.place_of.Given as goal

abbrev pub invariant-loop-number : goal.invariant-loop-number
invariant-loop-number l =
    seen_after l.seen (l.first + l.number) (statement (texts_of (map line_of (drop l.number l.rest))))
    ≡ seen_after unseen l.first (statement (texts_of (map line_of l.rest)))

-- What kind two runs are of, by what they met and left.
use Rattle.std.specs.Prelude.{◌≡◌, List}
use Rattle.rev_contents.specs.declared.compare.Kind.{Kind}
use Rattle.rev_contents.specs.declared.compare.Kind.TheVariants.{Same, FirstCause, Propagated, Absorbed}
use Rattle.rev_contents.specs.declared.looks.Left.{Left}
use Rattle.rev_contents.specs.declared.looks.Look.{Look}
use Rattle.rev_contents.specs.Runs.{Agree, IsAbsorbed, IsFirstCause, IsPropagated, Run}

abbrev pub run : List Look → List Left → Run
run looks left = record { looks = looks; left = left }

-- exactly one of the four
abbrev pub IsOf : Run → Run → Kind → Type 0
IsOf one other Same = Agree one other × (one.left ≡ other.left)
IsOf one other FirstCause = IsFirstCause one other
IsOf one other Propagated = IsPropagated one other
IsOf one other Absorbed = IsAbsorbed one other

abbrev pub IsKind : List Look → List Left → List Look → List Left → Kind → Type 0
IsKind one one_left other other_left = IsOf (run one one_left) (run other other_left)

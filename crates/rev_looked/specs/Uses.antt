-- Who looks at a path, and who changes it, by what was observed.
use Rattle.std.specs.Prelude.{ℕ, List, [], Option, Some, None}
use Rattle.std.specs.List.{filter_map, zip}
use Rattle.std.specs.Option.{option_map}
use Rattle.rev_paths.specs.Paths.{place_of}
use Rattle.rev_observed.specs.CommandValues.{CommandValue}
use Rattle.rev_observed.specs.declared.kind.Kind.{Kind}
use Rattle.rev_looked.specs.Commands.{change_of, look_of}
use Rattle.rev_looked.specs.declared.uses.Deed.{Deed}
use Rattle.rev_looked.specs.declared.uses.Deed.TheVariants.{Looks, Changes}
use Rattle.rev_looked.specs.declared.uses.Use.{Use}

-- what a command does with a path: how it looks at it, or what it does to it
abbrev pub deed_of : Deed → CommandValue → ℕ → Option Kind
deed_of Looks command path = look_of command path
deed_of Changes command path = change_of command path

abbrev pub use_of : ℕ → Kind → Use
use_of edge kind = record { edge = edge; kind = kind }

abbrev pub use_at : Deed → ℕ → ℕ × CommandValue → Option Use
use_at deed path command = option_map (use_of command.0) (deed_of deed command.1 path)

-- of each command that does so, its edge and what it does, in the order of the commands
abbrev pub uses_by : Deed → List ℕ → List CommandValue → ℕ → List Use
uses_by deed edges commands path = filter_map (use_at deed path) (zip edges commands)

-- the same of a path by its name; nothing where no command has to do with it
abbrev pub uses_at : Deed → List ℕ → List CommandValue → Option ℕ → List Use
uses_at deed edges commands None = []
uses_at deed edges commands (Some path) = uses_by deed edges commands path

-- WHO READS A PATH: each command that looks at it, and how
abbrev pub readers_of : List (List ℕ) → List ℕ → List CommandValue → List ℕ → List Use
readers_of paths edges commands name = uses_at Looks edges commands (place_of name paths)

-- WHO WRITES IT: each command that changes it, or has it as a temporary, and what it does
abbrev pub writers_of : List (List ℕ) → List ℕ → List CommandValue → List ℕ → List Use
writers_of paths edges commands name = uses_at Changes edges commands (place_of name paths)

-- The first line about a recording.
use Rattle.std.specs.Prelude.{ℕ, ◌==◌, List, [], ◌++◌, codes, decimal, if◌then◌else◌}

-- a number of things by their noun: `1 edge`, `5 edges`
abbrev pub counted : ℕ → List ℕ → List ℕ
counted n noun = decimal n ++ noun ++ (if n == 1 then [] else codes "s")

-- `12 commands, 5 edges, lanes: 2`, and which word lists the others
abbrev pub opening_line : ℕ → ℕ → ℕ → List ℕ
opening_line commands edges lanes =
    counted commands (codes " command") ++ codes ", " ++ counted edges (codes " edge") ++ codes ", lanes: "
    ++ decimal lanes ++ codes "; `help` lists the words\n"

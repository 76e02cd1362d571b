-- Which flags the lines of a file trust.
use Rattle.std.specs.Prelude.{ℕ, Bool, ◌&&◌, ◌||◌, List, Option, bytes_eq, codes, is_some, position}
use Rattle.std.specs.List.{list_any}
use Rattle.rev_filters.specs.Patterns.{is_hidden, matches}
use Rattle.rev_observation.specs.declared.flag.Flag.{Flag}
use Rattle.rev_observation.specs.declared.flag.FlagKind.{FlagKind}
use Rattle.rev_observation.specs.declared.flag.FlagKind.TheVariants as kind
use Rattle.rev_trusted.specs.declared.line.Line.{Line}

-- the word of a flag, as a line of an observation has it
abbrev pub flag_word : FlagKind → List ℕ
flag_word kind.Cut = codes "cut"
flag_word kind.Late = codes "late"
flag_word kind.Socket = codes "socket"
flag_word kind.Ipc = codes "ipc"
flag_word kind.Proc = codes "proc"
flag_word kind.Namespace = codes "namespace"
flag_word kind.Uring = codes "uring"
flag_word kind.Attributes = codes "attributes"
flag_word kind.Notified = codes "notified"
flag_word kind.Deep = codes "deep"
flag_word kind.Unresolved = codes "unresolved"
flag_word kind.Unknown = codes "unknown"
flag_word kind.Twin = codes "twin"

-- A line trusts the text of a flag: it is of each text, or one of its patterns matches.
abbrev pub trusts_text : Line → List ℕ → Bool
trusts_text line text = line.is_any || list_any (λ (patterns : List (List ℕ)). is_hidden patterns text) line.texts.items

-- A line trusts a flag: the flag has its word, its pattern matches the program, and it trusts the text.
abbrev pub trusts : Flag → Line → Bool
trusts f line =
    bytes_eq (flag_word f.kind) (flag_word line.kind)
    && (matches line.program.items f.program && trusts_text line f.text)

-- the place of the first line that trusts a flag
abbrev pub line_of : List Line → Flag → Option ℕ
line_of lines f = position (trusts f) lines

-- one of the lines trusts the flag
abbrev pub is_trusted : List Line → Flag → Bool
is_trusted lines f = is_some (line_of lines f)

-- The words that lines begin with, and those of flags.
use Rattle.std.specs.Prelude.{ℕ, bytes_eq, codes, if◌then◌else◌, List, Option, Some, None}
use Rattle.rev_observation.specs.declared.deed.Deed.{Deed}
use Rattle.rev_observation.specs.declared.deed.Deed.TheVariants as deed
use Rattle.rev_observation.specs.declared.flag.FlagKind.{FlagKind}
use Rattle.rev_observation.specs.declared.flag.FlagKind.TheVariants.{Cut, Late, Socket, Ipc, Proc, Namespace, Uring, Attributes, Notified, Deep, Unresolved, Unknown, Twin}
use Rattle.rev_observation.specs.declared.look.Change.{Change}
use Rattle.rev_observation.specs.declared.look.Change.TheVariants.{Left, Edited, Taken, Temps, Linked, Made, Found, Ensured, Removed}
use Rattle.rev_observation.specs.declared.look.Look.{Look}
use Rattle.rev_observation.specs.declared.look.Look.TheVariants.{Read, Status, Mode, There, Folder, Link, Missing, Passed, Listed, Own, Searched, After}
use Rattle.rev_observation.specs.declared.word.Word.{Word}
use Rattle.rev_observation.specs.declared.word.Word.TheVariants as word

-- the look whose word a text is
abbrev pub look_of : List ℕ → Option Look
look_of text =
    if bytes_eq text (codes "read") then Some Read else (if bytes_eq text (codes "status") then Some Status
    else (if bytes_eq text (codes "mode") then Some Mode else (if bytes_eq text (codes "there") then Some There
    else (if bytes_eq text (codes "folder") then Some Folder else (if bytes_eq text (codes "link") then Some Link
    else (if bytes_eq text (codes "missing") then Some Missing else (if bytes_eq text (codes "passed") then Some Passed
    else (if bytes_eq text (codes "listed") then Some Listed else (if bytes_eq text (codes "own") then Some Own
    else (if bytes_eq text (codes "searched") then Some Searched
    else (if bytes_eq text (codes "after") then Some After else None)))))))))))

-- the change whose word a text is
abbrev pub change_of : List ℕ → Option Change
change_of text =
    if bytes_eq text (codes "left") then Some Left else (if bytes_eq text (codes "edited") then Some Edited
    else (if bytes_eq text (codes "taken") then Some Taken else (if bytes_eq text (codes "temps") then Some Temps
    else (if bytes_eq text (codes "linked") then Some Linked else (if bytes_eq text (codes "made") then Some Made
    else (if bytes_eq text (codes "found") then Some Found else (if bytes_eq text (codes "ensured") then Some Ensured
    else (if bytes_eq text (codes "removed") then Some Removed else None))))))))

abbrev pub of_change : Option Change → Option Deed
of_change None = None
of_change (Some change) = Some (deed.Change change)

abbrev pub of_look : List ℕ → Option Look → Option Deed
of_look text None = of_change (change_of text)
of_look text (Some look) = Some (deed.Look look)

-- the deed whose word a text is
abbrev pub deed_of : List ℕ → Option Deed
deed_of text =
    if bytes_eq text (codes "cached") then Some deed.Cached
    else (if bytes_eq text (codes "prepared") then Some deed.Prepared else of_look text (look_of text))

abbrev pub of_deed : Option Deed → Option Word
of_deed None = None
of_deed (Some deed) = Some (word.Deed deed)

-- the word that a text is
abbrev pub word_of : List ℕ → Option Word
word_of text =
    if bytes_eq text (codes "path") then Some word.Path else (if bytes_eq text (codes "also") then Some word.Also
    else (if bytes_eq text (codes "same") then Some word.Same else (if bytes_eq text (codes "opening") then Some word.Opening
    else (if bytes_eq text (codes "hidden") then Some word.Hidden else (if bytes_eq text (codes "ninja") then Some word.Ninja
    else (if bytes_eq text (codes "edge") then Some word.Edge else (if bytes_eq text (codes "flag") then Some word.Flag
    else (if bytes_eq text (codes "outside") then Some word.Outside
    else (if bytes_eq text (codes "end") then Some word.End else of_deed (deed_of text))))))))))

-- the flag whose word a text is
abbrev pub flag_of : List ℕ → Option FlagKind
flag_of text =
    if bytes_eq text (codes "cut") then Some Cut else (if bytes_eq text (codes "late") then Some Late
    else (if bytes_eq text (codes "socket") then Some Socket else (if bytes_eq text (codes "ipc") then Some Ipc
    else (if bytes_eq text (codes "proc") then Some Proc else (if bytes_eq text (codes "namespace") then Some Namespace
    else (if bytes_eq text (codes "uring") then Some Uring else (if bytes_eq text (codes "attributes") then Some Attributes
    else (if bytes_eq text (codes "notified") then Some Notified else (if bytes_eq text (codes "deep") then Some Deep
    else (if bytes_eq text (codes "unresolved") then Some Unresolved
    else (if bytes_eq text (codes "unknown") then Some Unknown
    else (if bytes_eq text (codes "twin") then Some Twin else None))))))))))))

-- The words that lines begin with, and those of flags.
use Rattle.std.specs.Prelude.{ℕ, Bool, ◌||◌, bytes_eq, codes, if◌then◌else◌, List, Option, Some, None}
use Rattle.std.specs.List.{list_all, list_any}
use Rattle.rev_observed.specs.declared.flags.Flags.{Flags}
use Rattle.rev_observed.specs.declared.kind.Kind.{Kind}
use Rattle.rev_observed.specs.declared.kind.Kind.TheVariants.{Reads, Stats, Misses, Lists, Writes, Edits, Deletes, Temps, Folders}
use Rattle.rev_observed.specs.declared.word.Word.{Word}
use Rattle.rev_observed.specs.declared.word.Word.TheVariants as word

-- the word of a kind
abbrev pub kind_text : Kind → List ℕ
kind_text Reads = codes "reads"
kind_text Stats = codes "stats"
kind_text Misses = codes "misses"
kind_text Lists = codes "lists"
kind_text Writes = codes "writes"
kind_text Edits = codes "edits"
kind_text Deletes = codes "deletes"
kind_text Temps = codes "temps"
kind_text Folders = codes "folders"

-- the word that a text is
abbrev pub word_of : List ℕ → Option Word
word_of text =
    if bytes_eq text (codes "path") then Some word.Path else (if bytes_eq text (codes "edge") then Some word.Edge
    else (if bytes_eq text (codes "outside") then Some word.Outside
    else (if bytes_eq text (codes "reads") then Some (word.Kind Reads)
    else (if bytes_eq text (codes "stats") then Some (word.Kind Stats)
    else (if bytes_eq text (codes "misses") then Some (word.Kind Misses)
    else (if bytes_eq text (codes "lists") then Some (word.Kind Lists)
    else (if bytes_eq text (codes "writes") then Some (word.Kind Writes)
    else (if bytes_eq text (codes "edits") then Some (word.Kind Edits)
    else (if bytes_eq text (codes "deletes") then Some (word.Kind Deletes)
    else (if bytes_eq text (codes "temps") then Some (word.Kind Temps)
    else (if bytes_eq text (codes "folders") then Some (word.Kind Folders) else None)))))))))))

-- whether a text is the word of a flag
abbrev pub is_flag : List ℕ → Bool
is_flag text =
    bytes_eq text (codes "cut") || bytes_eq text (codes "server") || bytes_eq text (codes "namespace")
    || bytes_eq text (codes "uring") || bytes_eq text (codes "unresolved") || bytes_eq text (codes "twin")

-- whether one of the texts is this word
abbrev pub has_word : List (List ℕ) → List ℕ → Bool
has_word texts word = list_any (λ text. bytes_eq text word) texts

-- the flags that texts say: each is the word of one, and those are set whose words are among them
abbrev pub flags_said : List (List ℕ) → Option Flags
flags_said texts =
    if list_all is_flag texts
    then Some
    (record {
      cut = has_word texts (codes "cut");
      server = has_word texts (codes "server");
      namespace = has_word texts (codes "namespace");
      uring = has_word texts (codes "uring");
      unresolved = has_word texts (codes "unresolved");
      twin = has_word texts (codes "twin");
    })
    else None

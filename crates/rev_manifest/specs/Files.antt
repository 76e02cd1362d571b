-- The files that are given, each a name and its content.
use Rattle.std.specs.Prelude.{ℕ, suc, ◌-◌, Bool, ◌&&◌, ◌||◌, List, [], ◌∷◌, length, sum_by, slice_index_or, Option, Some, None, is_none, bytes_eq, nat_lt, if◌then◌else◌}
use Rattle.rev_paths.specs.Canonical.{canonical}
use Rattle.rev_manifest.specs.Names.{path_fault}
use Rattle.rev_manifest.specs.declared.files.TheConstants.{MAX_BYTES, MAX_FILES}

abbrev pub FileValue : Type 0
FileValue = List ℕ × List ℕ

-- the bytes of all files
abbrev pub bytes_of : List FileValue → ℕ
bytes_of files = sum_by (λ file. length file.1) files

-- more files than 16,384, or more bytes in all than 268,435,456
abbrev pub are_too_large : List FileValue → Bool
are_too_large files = nat_lt MAX_FILES (length files) || nat_lt MAX_BYTES (bytes_of files)

-- how many bytes may still be read where these files are given; none where they are too large
abbrev pub bytes_left : List FileValue → Option ℕ
bytes_left files = if are_too_large files then None else Some (MAX_BYTES - bytes_of files)

-- whether a file's name is canonically a path. A name that is empty or too long is none.
abbrev pub is_named : List ℕ → FileValue → Bool
is_named path file = is_none (path_fault file.0) && bytes_eq path (canonical file.0)

-- the place of the first file of a name among these, where the first of these has a place
abbrev pub file_from : ℕ → List ℕ → List FileValue → Option ℕ
file_from place path [] = None
file_from place path (file ∷ files) = if is_named path file then Some place else file_from (suc place) path files

-- the place of the first file of a name; of two files of one name the first counts
abbrev pub file_of : List ℕ → List FileValue → Option ℕ
file_of path files = file_from 0 path files

-- the content of the file at a place
abbrev pub content_at : List FileValue → ℕ → List ℕ
content_at files place = (slice_index_or files place ([], [])).1

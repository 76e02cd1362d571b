-- An edge in words, by its number.
use Rattle.std.proofs.Common.{◌≡◌, ◌∙◌, ◌++◌, ℕ, List, Option, Some, None, refl, ap, codes}
use Rattle.std.specs.Option.{option_map}
use Rattle.std.specs.Prelude.{slice_get}
use Rattle.rev_manifest.specs.Manifest.{BuildValue}
use Rattle.rev_races_text.specs.Edges.{bytes_if, file_of, first_output, line_if, named_at, placed, placed_at, words_if}
use Rattle.rev_races_text.specs.Lines.{clash_at, clash_line, first_words, other_words, outcome, side_path, whose}
use Rattle.rev_races_text.specs.Names.{name_if}
use Rattle.rev_races_text.specs.declared.edges.Edge.{Edge}
use Rattle.rev_races_text.specs.declared.names.Shown.{Shown}
use Rattle.rev_races_text.specs.declared.others.ClashLine.{ClashLine}
use Rattle.rev_clashes.specs.declared.side_file.SideFile.{SideFile}

-- a name in words, by its bytes
pub name_is : (o : Option Shown) → name_if o ≡ words_if (bytes_if o)
name_is None = refl
name_is (Some name) = refl

pub named_is : (e : Edge) (builds : List BuildValue) (n : ℕ) → bytes_if e.output ≡ first_output (slice_get builds n) → name_if e.output ≡ named_at builds n
named_is e builds n output = name_is e.output ∙ ap words_if output

pub placed_is : (e : Edge) (builds : List BuildValue) (files : List (List ℕ × List ℕ)) (n : ℕ)
    → bytes_if e.output ≡ first_output (slice_get builds n)
    → bytes_if e.file ≡ file_of files (slice_get builds n)
    → e.line ≡ option_map (λ (b : BuildValue). b.line) (slice_get builds n)
    → placed e ≡ placed_at builds files n
unfolding placed
placed_is e builds files n output file line =
    (λ i. named_is e builds n output i ++ codes " (" ++ (name_is e.file ∙ ap words_if file) i ++ line_if (line i) ++ codes ")")

pub clash_is : (c : ClashLine) (kind : SideFile) (builds : List BuildValue) (files : List (List ℕ × List ℕ)) (first other : ℕ)
    → c.file ≡ kind
    → bytes_if c.path ≡ side_path kind (slice_get builds first)
    → placed c.first ≡ placed_at builds files first
    → placed c.other ≡ placed_at builds files other
    → clash_line c ≡ clash_at kind builds files first other
unfolding first_words other_words
clash_is c kind builds files first other file path one two =
    (λ i. (codes "clash " ++ (name_is c.path ∙ ap words_if path) i ++ codes ": " ++ whose (file i) ++ one i)
    ++ (codes " and of " ++ two i ++ codes ": " ++ outcome (file i) ++ codes "\n"))

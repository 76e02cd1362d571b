-- Texts of lists, one item after the other.
use Rattle.std.proofs.Common.{◌≡◌, ℕ, ◌+◌, ◌<◌, List, [], ◌∷◌, ◌++◌, map, length, drop, get_or, refl, sym, ap, ◌∙◌, add-one}
use Rattle.std.proofs.Math.Seq.{drop-cons}
use Rattle.std.specs.List.{flat_map}
use Rattle.rev_commands.specs.declared.command.Command.{Command}
use Rattle.rev_desk.specs.Machine.{DeskValue}
use Rattle.rev_script.specs.declared.script.Word.{Word}
use Rattle.rev_report.specs.Report.{after_word, left_after, script_text, word_text}

-- what is left from an item on
pub from_item : {A : Type 0} (xs : List A) (i : ℕ) (x : A) → i < length xs → x ≡ get_or xs i x → drop i xs ≡ x ∷ drop (i + 1) xs
from_item xs i x h at = drop-cons xs i x h ∙ (λ j. sym at j ∷ drop (sym (add-one i) j) xs)

pub script_next : (lane : ℕ) (d : DeskValue) (left : List (ℕ × Command)) (words : List Word) (i : ℕ) (w : Word) → i < length words → w ≡ get_or words i w
    → script_text lane d left (drop i words) ≡ word_text lane d left w ++ script_text lane (after_word lane d left w) (left_after d left w) (drop (i + 1) words)
script_next lane d left words i w h at = ap (script_text lane d left) (from_item words i w h at)

pub flat_next : {A : Type 0} (f : A → List ℕ) (xs : List A) (i : ℕ) (x : A) → i < length xs → x ≡ get_or xs i x → flat_map f (drop i xs) ≡ f x ++ flat_map f (drop (i + 1) xs)
flat_next f xs i x h at = ap (flat_map f) (from_item xs i x h at)

pub flat_next_number : (f : ℕ → List ℕ) (xs : List ℕ) (i : ℕ) → i < length xs → flat_map f (drop i xs) ≡ f (get_or xs i 0) ++ flat_map f (drop (i + 1) xs)
flat_next_number f xs i h = ap (flat_map f) (drop-cons xs i 0 h ∙ ap (λ j. get_or xs i 0 ∷ drop j xs) (sym (add-one i)))

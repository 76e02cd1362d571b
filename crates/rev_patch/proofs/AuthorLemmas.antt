-- The author that a text names, by its first line and by what stands behind it.
use Rattle.std.proofs.Common.{◌≡◌, ℕ, suc, ◌==◌, true, false, if◌then◌else◌, List, [], ◌∷◌, take, drop, Some, None, unwrap_or, refl, ap, sym, ◌∙◌}
use Rattle.std.specs.List.{slice_split, onto_first}
use Rattle.rev_patch.specs.declared.made_by.Author.{Author}
use Rattle.rev_patch.specs.declared.made_by.Author.TheVariants.{Hand}
use Rattle.rev_patch.specs.Author.{author, author_in, comment_in, first_author, is_comment, line_len}

parts_after : List ℕ → List (List ℕ)
parts_after [] = []
parts_after (x ∷ xs) = slice_split (λ b. b == 10) xs

split-first : (xs : List ℕ) → slice_split (λ b. b == 10) xs ≡ take (line_len xs) xs ∷ parts_after (drop (line_len xs) xs)
unfolding parts_after
split-first [] = refl
split-first (x ∷ xs) =
    elim (x == 10) as (λ t. (if t then [] ∷ slice_split (λ b. b == 10) xs else onto_first x (slice_split (λ b. b == 10) xs))
    ≡ take (if t then 0 else suc (line_len xs)) (x ∷ xs) ∷ parts_after (drop (if t then 0 else suc (line_len xs)) (x ∷ xs))) [
      | true ↦ refl
      | false ↦ ap (onto_first x) (split-first xs)
    ]

-- who the lines behind a first one of a comment name
behind : List ℕ → Author
behind rest = first_author (comment_in (parts_after rest))

author-first : (xs line : List ℕ) → take (line_len xs) xs ≡ line → author xs ≡ (if is_comment line then unwrap_or (author_in line) (behind (drop (line_len xs) xs)) else Hand)
unfolding behind
author-first xs line is =
    ap (λ parts. first_author (comment_in parts)) (split-first xs ∙ ap (λ l. l ∷ parts_after (drop (line_len xs) xs)) is)
    ∙ elim (is_comment line) as (λ t. first_author (if t then line ∷ comment_in (parts_after (drop (line_len xs) xs)) else [])
    ≡ (if t then unwrap_or (author_in line) (behind (drop (line_len xs) xs)) else Hand)) [
      | true ↦ refl
      | false ↦ refl
    ]

-- the first line is of no comment
pub author-none : (xs line : List ℕ) (n : ℕ) → n ≡ line_len xs → line ≡ take n xs → is_comment line ≡ false → author xs ≡ Hand
author-none xs line n len is other =
    author-first xs line (ap (λ k. take k xs) (sym len) ∙ sym is)
    ∙ ap (λ t. if t then unwrap_or (author_in line) (behind (drop (line_len xs) xs)) else Hand) other

-- it names an author
pub author-found : (xs line : List ℕ) (n : ℕ) (a : Author) → n ≡ line_len xs → line ≡ take n xs → is_comment line ≡ true → author_in line ≡ Some a → author xs ≡ a
author-found xs line n a len is comment found =
    author-first xs line (ap (λ k. take k xs) (sym len) ∙ sym is)
    ∙ ap (λ t. if t then unwrap_or (author_in line) (behind (drop (line_len xs) xs)) else Hand) comment
    ∙ ap (λ o. unwrap_or o (behind (drop (line_len xs) xs))) found

-- it names none, and is the last
pub author-last : (xs line : List ℕ) (n : ℕ) → n ≡ line_len xs → line ≡ take n xs → is_comment line ≡ true → author_in line ≡ None → drop n xs ≡ [] → author xs ≡ Hand
unfolding behind parts_after
author-last xs line n len is comment none end =
    author-first xs line (ap (λ k. take k xs) (sym len) ∙ sym is)
    ∙ ap (λ t. if t then unwrap_or (author_in line) (behind (drop (line_len xs) xs)) else Hand) comment
    ∙ ap (λ o. unwrap_or o (behind (drop (line_len xs) xs))) none
    ∙ ap behind (ap (λ k. drop k xs) (sym len) ∙ end)

-- it names none, and others stand behind it
pub author-more : (xs line after : List ℕ) (n b : ℕ) → n ≡ line_len xs → line ≡ take n xs → is_comment line ≡ true → author_in line ≡ None → drop n xs ≡ b ∷ after
    → author xs ≡ author after
unfolding behind parts_after
author-more xs line after n b len is comment none more =
    author-first xs line (ap (λ k. take k xs) (sym len) ∙ sym is)
    ∙ ap (λ t. if t then unwrap_or (author_in line) (behind (drop (line_len xs) xs)) else Hand) comment
    ∙ ap (λ o. unwrap_or o (behind (drop (line_len xs) xs))) none
    ∙ ap behind (ap (λ k. drop k xs) (sym len) ∙ more)

-- Lists in which the names of one file are joined.
use Rattle.std.proofs.Common.{◌≡◌, ℕ, suc, ◌+◌, ◌==◌, if◌then◌else◌, Bool, false, List, [], ◌∷◌, ◌++◌, Option, length, get_or, map, sym, ap, ◌∙◌, arith, zero-add}
use Rattle.std.specs.List.{filter_map, range_with_len}
use Rattle.std.proofs.lemmas.Bool.{ne_eqb}
use Rattle.std.specs.Global.{Vec}
use Rattle.std.specs.Borrow.{Bor}
use Rattle.std.proofs.lemmas.List.{append-nil, length-map, map-append}
use Rattle.std.proofs.lemmas.List.Elements.{filter_map-append}
use Rattle.std.proofs.lemmas.List.FromFn.{fill_by_all, get_or-map-range_with_len, length-map-range_with_len, map-range_with_len_more}
use Rattle.rev_manifest.specs.Manifest.{BuildValue}
use Rattle.rev_places.specs.Names.{own_names_in}
use Rattle.rev_unlisted.specs.Follows.{counted_of}
use Rattle.rev_unlisted.specs.Found.{names_of}
use Rattle.rev_unlisted.specs.Joined.{chosen_at, chosen_of, extended_at, extended_of, joined_of}

-- what is picked of three parts of names
pub three : (f : List ℕ → Option (List ℕ)) (x y z s0 s1 s2 s3 : List (List ℕ)) → s0 ≡ [] → s1 ≡ s0 ++ filter_map f x
    → s2 ≡ s1 ++ filter_map f y → s3 ≡ s2 ++ filter_map f z → s3 ≡ filter_map f (x ++ y ++ z)
three f x y z s0 s1 s2 s3 e0 e1 e2 e3 =
    e3 ∙ ap (λ (l : List (List ℕ)). l ++ filter_map f z)
    (e2 ∙ ap (λ (l : List (List ℕ)). l ++ filter_map f y) (e1 ∙ ap (λ (l : List (List ℕ)). l ++ filter_map f x) e0) ∙ sym (filter_map-append f x y))
    ∙ sym (filter_map-append f (x ++ y) z)

-- one more list
pub extended-more : (f : ℕ → List (List ℕ)) (vectors all : List (Vec (List ℕ))) (v : Vec (List ℕ)) (n : ℕ)
    → map (λ (each : Vec (List ℕ)). each.items) vectors ≡ map f (range_with_len 0 n) → all ≡ vectors ++ v ∷ [] → v.items ≡ f n
    → map (λ (each : Vec (List ℕ)). each.items) all ≡ map f (range_with_len 0 (n + 1))
extended-more f vectors all v n before pushed is =
    ap (map (λ (each : Vec (List ℕ)). each.items)) pushed ∙ map-append (λ (each : Vec (List ℕ)). each.items) vectors (v ∷ [])
    ∙ (λ j. before j ++ is j ∷ []) ∙ sym (map-range_with_len_more f 0 n n (zero-add n))

there-is-one : (n : ℕ) → (suc n == 0) ≡ false
there-is-one n = ne_eqb (suc n) 0 (λ h. omega arith)

abbrev else_if : Bool → List (List ℕ) → List (List ℕ) → List (List ℕ)
else_if b list extended = if b then list else extended

more-than-none : (list : List (List ℕ)) (m : List ℕ) (ms : List (List ℕ)) → chosen_of list (list ++ m ∷ ms) ≡ list ++ m ∷ ms
more-than-none [] m ms = ap (λ b. else_if b [] (m ∷ ms)) (there-is-one (length ms))
more-than-none (l ∷ ls) m ms = ap (λ b. else_if b (l ∷ ls) (l ∷ ls ++ m ∷ ms)) (there-is-one (length (ls ++ m ∷ ms)))

-- a list, or what it was extended to, is the list with more names behind it
pub chosen-extended : (list more : List (List ℕ)) → chosen_of list (extended_of list more) ≡ list ++ more
chosen-extended list [] = sym (append-nil list)
chosen-extended list (m ∷ ms) =
    ap (chosen_of list) (ap (λ b. else_if b [] (list ++ m ∷ ms)) (there-is-one (length ms))) ∙ more-than-none list m ms

pub chosen-joined : (builds : List BuildValue) (lists extended : List (List (List ℕ))) (names : List (List ℕ × List ℕ)) (n : ℕ)
    → n ≡ length builds → extended ≡ map (extended_at builds lists names) (range_with_len 0 (length builds))
    → map (chosen_at lists extended) (range_with_len 0 n) ≡ map (joined_of builds lists names) (range_with_len 0 (length builds))
chosen-joined builds lists extended names n each is =
    fill_by_all (joined_of builds lists names) (map (chosen_at lists extended) (range_with_len 0 n)) (length builds) []
    (length-map-range_with_len (chosen_at lists extended) 0 n ∙ each)
    (λ k within.
    get_or-map-range_with_len (chosen_at lists extended) 0 n k k [] (omega (arith, within, each)) (zero-add k)
    ∙ ap (chosen_of (get_or lists k []))
    (ap (λ (l : List (List (List ℕ))). get_or l k []) is ∙ get_or-map-range_with_len (extended_at builds lists names) 0 (length builds) k k [] within (zero-add k))
    ∙ chosen-extended (get_or lists k []) (own_names_in names (counted_of builds lists k)))

-- how many lists a table of them has
pub listed-each : (slices : List (Bor (List (List ℕ)))) (lists : List (List (List ℕ))) (n : ℕ) → names_of slices ≡ lists → length lists ≡ n → length slices ≡ n
listed-each slices lists n is each = sym (length-map slices (λ (s : Bor (List (List ℕ))). s.now)) ∙ ap length is ∙ each

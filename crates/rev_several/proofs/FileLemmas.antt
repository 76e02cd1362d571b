-- Tests of files that have the same.
use Rattle.std.proofs.Common.{◌≡◌, ℕ, Bool, true, false, ◌&&◌, List, [], ◌∷◌, refl, sym, ap, ap₂, bytes_eq, true≢false}
use Rattle.std.specs.Bool.{Decides}
use Rattle.std.specs.Cmp.Lexicographic.{pointwise}
use Rattle.std.specs.Global.{Vec}
use Rattle.std.proofs.lemmas.Slice.Eq.{bytes_eq-Decides}
use Rattle.rev_several.specs.Files.{text_of, texts}

both : (a b : Bool) → (a && b) ≡ true → (a ≡ true) × (b ≡ true)
both true b h = (refl, h)
both false b h = absurd (true≢false (sym h))

so : {a b : Bool} → a ≡ true → b ≡ true → (a && b) ≡ true
so g h = ap₂ (λ x y. x && y) g h

-- the test of two files that `==` makes
abbrev pub is_file : Vec ℕ × Vec ℕ → Vec ℕ × Vec ℕ → Bool
is_file one other = bytes_eq one.0.items other.0.items && bytes_eq one.1.items other.1.items

file : (one other : Vec ℕ × Vec ℕ) → Decides (is_file one other) (text_of one ≡ text_of other)
file one other = (
  λ h.
      let t = both (bytes_eq one.0.items other.0.items) (bytes_eq one.1.items other.1.items) h in
      ap₂ (λ a b. (a, b)) ((bytes_eq-Decides one.0.items other.0.items).0 t.0) ((bytes_eq-Decides one.1.items other.1.items).0 t.1),
  λ e.
      let names : one.0.items ≡ other.0.items = ap (λ p. p.0) e in
      let bytes : one.1.items ≡ other.1.items = ap (λ p. p.1) e in
      so ((bytes_eq-Decides one.0.items other.0.items).1 names) ((bytes_eq-Decides one.1.items other.1.items).1 bytes),
)

pub files : (xs ys : List (Vec ℕ × Vec ℕ)) → Decides (pointwise is_file xs ys) (texts xs ≡ texts ys)
files [] [] = (λ h. refl, λ e. refl)
files [] (y ∷ ys) = (λ h. absurd (true≢false (sym h)), λ e. cc)
files (x ∷ xs) [] = (λ h. absurd (true≢false (sym h)), λ e. cc)
files (x ∷ xs) (y ∷ ys) = (
  λ h. let t = both (is_file x y) (pointwise is_file xs ys) h in ap₂ (λ z zs. z ∷ zs) ((file x y).0 t.0) ((files xs ys).0 t.1),
  λ e.
      let one : text_of x ≡ text_of y = cc in
      let rest : texts xs ≡ texts ys = cc in
      so ((file x y).1 one) ((files xs ys).1 rest),
)

-- A list that mentions one more path.
use Rattle.std.proofs.Common.{◌≡◌, ◌==◌, ◌||◌, ℕ, zero, suc, slice_get, Bool, true, false, cond, List, [], ◌∷◌, ◌++◌, Some, None, refl, sym, ap, ◌∙◌, eq-eqb, true≢false, bytes_eq}
use Rattle.std.specs.Cmp.Lexicographic.{nat_list_eq_equiv}
use Rattle.std.specs.List.{list_any, IsDistinct}
use Rattle.std.specs.Map.{keys_of, lookup}
use Rattle.std.proofs.lemmas.List.Folds.{list_any-append}
use Rattle.std.proofs.lemmas.Map.Keys.{IsDistinct-push}
use Rattle.std.proofs.lemmas.Slice.Eq.{bytes_eq-Decides}
use Rattle.rev_trace.specs.Mentioned.{LastLists, IsIn, IsMentioned, AreMentioned}

-- a list that mentions no path yet
pub none-mentioned : (lists : LastLists) (list : ℕ) → AreMentioned lists list [] false
unfolding IsDistinct
none-mentioned lists list = record { there = λ path h. absurd (true≢false (sym h)); once = λ none. tt }

neither : (a b : Bool) → (a || b) ≡ false → (a ≡ false) × (b ≡ false)
neither true b h = absurd (true≢false h)
neither false b h = (refl, h)

or_false : (b : Bool) → (b || false) ≡ b
or_false true = refl
or_false false = refl

-- one more path
pub more-mentioned : (old new : LastLists) (list : ℕ) (paths : List (List ℕ)) (path : List ℕ) (repeats again : Bool) → AreMentioned old list paths repeats → IsMentioned old new list path again → AreMentioned new list (paths ++ path ∷ []) (repeats || again)
more-mentioned old new list paths path repeats again h m = record {
  there = λ other e. known other (list_any (bytes_eq other) paths) (bytes_eq other path) refl refl (ap (λ b. list_any (bytes_eq other) paths || b) (sym (or_false (bytes_eq other path))) ∙ sym (list_any-append (bytes_eq other) paths (path ∷ [])) ∙ e);
  once = λ e. IsDistinct-push nat_list_eq_equiv paths path (h.once (neither repeats again e).0) (absent (neither repeats again e).1 (list_any (bytes_eq path) paths) refl);
}
  where
    known : (other : List ℕ) (a b : Bool) → list_any (bytes_eq other) paths ≡ a → bytes_eq other path ≡ b → (list_any (bytes_eq other) paths || bytes_eq other path) ≡ true → IsIn new list other
    known other true b e f g = m.others other (h.there other e)
    known other false true e f g = let same : other ≡ path = (bytes_eq-Decides other path).0 f in ap (λ p. lookup (bytes_eq p) new) same ∙ m.there
    known other false false e f g = absurd (true≢false (sym g ∙ ap (λ t. t || bytes_eq other path) e ∙ f))

    absent : again ≡ false → (t : Bool) → list_any (bytes_eq path) paths ≡ t → list_any (bytes_eq path) paths ≡ false
    absent e true f = absurd (m.first e (h.there path f))
    absent e false f = f

-- a path gets the number of the list, and every other path keeps its number
module _ (old new : LastLists) (list : ℕ) (path : List ℕ) (now : lookup (bytes_eq path) new ≡ Some list)
    (each : (q : List ℕ) → lookup (bytes_eq q) new ≡ cond (bytes_eq path q) (Some list) (lookup (bytes_eq q) old)) where
  others : (other : List ℕ) → IsIn old list other → IsIn new list other
  others other had = by (bytes_eq path other) refl
    where
      by : (t : Bool) → bytes_eq path other ≡ t → lookup (bytes_eq other) new ≡ Some list
      by true e = each other ∙ ap (λ t. cond t (Some list) (lookup (bytes_eq other) old)) e
      by false e = each other ∙ ap (λ t. cond t (Some list) (lookup (bytes_eq other) old)) e ∙ had

  -- a path that was there
  pub mentioned-again : (last : ℕ) → lookup (bytes_eq path) old ≡ Some last → IsMentioned old new list path (last == list)
  mentioned-again last was = record {
    there = now;
    others = others;
    first = λ e had. let same : Some last ≡ Some list = sym was ∙ had in let number : last ≡ list = cc in true≢false (sym (eq-eqb last list number) ∙ e);
  }

  -- a path that was not there
  pub mentioned-first : lookup (bytes_eq path) old ≡ None → IsMentioned old new list path false
  mentioned-first was = record {
    there = now;
    others = others;
    first = λ e had. let no : None ≡ Some list = sym was ∙ had in cc;
  }

-- the name at a place
pub name-at : (lists : LastLists) (place : ℕ) (name : List ℕ) (last : ℕ) → slice_get lists place ≡ Some (name, last) → slice_get (keys_of lists) place ≡ Some name
name-at [] place name last h = absurd (let no : None ≡ Some (name, last) = h in cc)
name-at (e ∷ es) zero name last h = let same : Some e ≡ Some (name, last) = h in let pair : e ≡ (name, last) = cc in ap (λ (x : List ℕ × ℕ). Some x.0) pair
name-at (e ∷ es) (suc place) name last h = name-at es place name last h

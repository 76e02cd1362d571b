-- Marks of the paths that count for an edge, name by name.
use Rattle.std.proofs.Common.{◌≡◌, ℕ, zero, suc, ◌+◌, ◌<◌, List, [], ◌∷◌, ◌++◌, length, get_or, take, set, Option, Some, None, inl, inr, refl, sym, ap, subst, ◌∙◌, arith, Contains, true≢false, bytes_eq}
use Rattle.std.proofs.lemmas.Bool.{cases_eq}
use Rattle.std.proofs.lemmas.List.{get_or-set_same, get_or-set_other, length-set, take_more}
use Rattle.std.proofs.lemmas.List.Elements.{Contains-append_cases, Contains-append_left, Contains-append_right}
use Rattle.std.proofs.lemmas.Option.{get_or_from_slice_get, slice_get-get_or}
use Rattle.rev_paths.specs.Paths.{place_of}
use Rattle.rev_paths.proofs.PlaceLemmas.{name_at-place_of, place_of-name_at}
use Rattle.std.specs.List.{IsDistinct}
use Rattle.rev_manifest.specs.Manifest.{BuildValue}
use Rattle.rev_undeclared.specs.Undeclared.{path_at}
use Rattle.rev_unlisted.specs.Follows.{counted_of}
use Rattle.rev_unlisted.specs.Found.{AreCountedAtMost, AreCountedOf, IsMarked}

-- a list of one name has that one
the-one : (name other : List ℕ) → Contains (name ∷ []) other → other ≡ name
the-one name other (zero, within, at) = sym at
the-one name other (suc k, within, at) = absurd (omega (arith, within))

pub marked-none : (paths : List (List ℕ)) (user : ℕ) (marks : List (Option ℕ)) → IsMarked paths user [] marks marks
marked-none paths user marks = record {
  each = refl;
  sound = λ edge path h. inl h;
  kept = λ path h. h;
  complete = λ name path c is. let w = c.1 in absurd (omega (arith, w));
}

-- a name that is no path's
pub marked-nowhere : (paths : List (List ℕ)) (user : ℕ) (name : List ℕ) (marks : List (Option ℕ)) → place_of name paths ≡ None → IsMarked paths user (name ∷ []) marks marks
marked-nowhere paths user name marks none = record {
  each = refl;
  sound = λ edge path h. inl h;
  kept = λ path h. h;
  complete = λ other path c is.
      let no : None ≡ Some path = sym none ∙ ap (λ (n : List ℕ). place_of n paths) (sym (the-one name other c)) ∙ is in
      absurd (true≢false cc);
}

-- a name that is a path's
pub marked-one : (paths : List (List ℕ)) (user : ℕ) (name : List ℕ) (place : ℕ) (marks : List (Option ℕ)) → length marks ≡ length paths → place < length paths → place_of name paths ≡ Some place
    → IsMarked paths user (name ∷ []) marks (set marks place (Some user))
marked-one paths user name place marks each within is = record {
  each = length-set marks place (Some user);
  sound = λ edge path h. elim (cases_eq path place) [
    | inl same ↦
        let both : Some user ≡ Some edge = sym (ap (λ k. get_or (set marks place (Some user)) k None) same ∙ get_or-set_same marks place (Some user) None room) ∙ h in
        let who : user ≡ edge = cc in
        inr (sym who, (0, omega arith, sym (ap (path_at paths) same ∙ get_or_from_slice_get paths place name [] (name_at-place_of name paths place is))))
    | inr apart ↦ inl (sym (get_or-set_other marks place path (Some user) None apart) ∙ h)
  ];
  kept = λ path h. elim (cases_eq path place) [
    | inl same ↦ ap (λ k. get_or (set marks place (Some user)) k None) same ∙ get_or-set_same marks place (Some user) None room
    | inr apart ↦ get_or-set_other marks place path (Some user) None apart ∙ h
  ];
  complete = λ other path c at.
      let both : Some place ≡ Some path = sym is ∙ ap (λ (n : List ℕ). place_of n paths) (sym (the-one name other c)) ∙ at in
      let same : place ≡ path = cc in
      ap (λ k. get_or (set marks place (Some user)) k None) (sym same) ∙ get_or-set_same marks place (Some user) None room;
}
  where
    room : place < length marks
    room = omega (arith, each, within)

-- names behind others
pub marked-more : (paths : List (List ℕ)) (user : ℕ) (xs ys : List (List ℕ)) (one two three : List (Option ℕ)) → IsMarked paths user xs one two → IsMarked paths user ys two three → IsMarked paths user (xs ++ ys) one three
marked-more paths user xs ys one two three first then_ = record {
  each = then_.each ∙ first.each;
  sound = λ edge path h. elim (then_.sound edge path h) [
    | inl old ↦ elim (first.sound edge path old) [ inl o ↦ inl o | inr both ↦ inr (both.0, Contains-append_left xs ys (path_at paths path) both.1) ]
    | inr both ↦ inr (both.0, Contains-append_right xs ys (path_at paths path) both.1)
  ];
  kept = λ path h. then_.kept path (first.kept path h);
  complete = λ name path c is. elim (Contains-append_cases xs ys name c) [
    | inl early ↦ then_.kept path (first.complete name path early is)
    | inr late ↦ then_.complete name path late is
  ];
}

pub marked-three : (paths : List (List ℕ)) (user : ℕ) (xs ys zs : List (List ℕ)) (zero_ one two three : List (Option ℕ)) → IsMarked paths user xs zero_ one → IsMarked paths user ys one two → IsMarked paths user zs two three
    → IsMarked paths user (xs ++ ys ++ zs) zero_ three
marked-three paths user xs ys zs zero_ one two three a b c = marked-more paths user (xs ++ ys) zs zero_ two three (marked-more paths user xs ys zero_ one two a b) c

-- one more name
pub marked-next : (paths : List (List ℕ)) (user : ℕ) (names : List (List ℕ)) (i : ℕ) (name : List ℕ) (one two three : List (Option ℕ)) → i < length names → name ≡ get_or names i name
    → IsMarked paths user (take i names) one two → IsMarked paths user (name ∷ []) two three → IsMarked paths user (take (i + 1) names) one three
marked-next paths user names i name one two three within is before step =
    subst (λ (l : List (List ℕ)). IsMarked paths user l one three) (ap (λ (n : List ℕ). take i names ++ n ∷ []) is ∙ sym (take_more names i name within)) (marked-more paths user (take i names) (name ∷ []) one two three before step)

-- WHAT COUNTS FOR AN EDGE
pub no-marks : (builds : List BuildValue) (lists : List (List (List ℕ))) (paths : List (List ℕ)) (marks : List (Option ℕ)) → length marks ≡ length paths → ((k : ℕ) → get_or marks k None ≡ None) → AreCountedAtMost builds lists paths marks
no-marks builds lists paths marks each none = record {
  each = each;
  sound = λ edge path h. let no : None ≡ Some edge = sym (none path) ∙ h in absurd (true≢false cc);
}

pub counted-most : (builds : List BuildValue) (lists : List (List (List ℕ))) (paths : List (List ℕ)) (user : ℕ) (old new : List (Option ℕ)) → AreCountedAtMost builds lists paths old → IsMarked paths user (counted_of builds lists user) old new
    → AreCountedAtMost builds lists paths new
counted-most builds lists paths user old new before step = record {
  each = step.each ∙ before.each;
  sound = λ edge path h. elim (step.sound edge path h) [
    | inl early ↦ before.sound edge path early
    | inr both ↦ subst (λ e. Contains (counted_of builds lists e) (path_at paths path)) (sym both.0) both.1
  ];
}

pub counted-all : (builds : List BuildValue) (lists : List (List (List ℕ))) (paths : List (List ℕ)) (user : ℕ) (old new : List (Option ℕ)) → IsDistinct bytes_eq paths → AreCountedAtMost builds lists paths old
    → IsMarked paths user (counted_of builds lists user) old new → AreCountedOf builds lists paths user new
counted-all builds lists paths user old new distinct before step = λ path within. (
  (counted-most builds lists paths user old new before step).sound user path,
  λ c. step.complete (path_at paths path) path c (place_of-name_at (path_at paths path) paths path distinct (slice_get-get_or paths path [] within)),
)

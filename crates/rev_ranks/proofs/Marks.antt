-- Sets of nodes as marks, and the search that makes them.
use Rattle.std.proofs.Common.{◌≡◌, ℕ, ◌+◌, ◌<◌, Bool, true, false, List, [], ◌∷◌, ◌++◌, length, get_or, set, replicate, ◌⊎◌, inl, inr, refl, sym, ap, subst, ◌∙◌, arith, zero, suc}
use Rattle.std.specs.List.{Contains}
use Rattle.std.proofs.lemmas.List.{get_or-set_same, length-set, length_push, length-replicate, get_or-replicate, get_or_default}
use Rattle.std.proofs.lemmas.List.Elements.{Contains-push, Contains-push_cases, Contains-append_left, All-push, All-weaker}
use Rattle.rev_ranks.specs.Sets.{IsMarked, unmarked, IsMarking}

-- what has a mark is within the list
pub marked_within : (marks : List Bool) (n : ℕ) → IsMarked marks n → n < length marks
marked_within [] n h = let no : false ≡ true = h in cc
marked_within (m ∷ ms) zero h = omega arith
marked_within (m ∷ ms) (suc n) h = omega (arith, marked_within ms n h)

-- a mark more
pub marked_same : (marks : List Bool) (n : ℕ) → n < length marks → IsMarked (set marks n true) n
marked_same marks n h = get_or-set_same marks n true false h

pub marked_kept : (marks : List Bool) (n k : ℕ) → IsMarked marks k → IsMarked (set marks n true) k
marked_kept [] n k h = h
marked_kept (m ∷ ms) zero zero h = refl
marked_kept (m ∷ ms) zero (suc k) h = h
marked_kept (m ∷ ms) (suc n) zero h = h
marked_kept (m ∷ ms) (suc n) (suc k) h = marked_kept ms n k h

pub marked_only : (marks : List Bool) (n k : ℕ) → IsMarked (set marks n true) k → IsMarked marks k ⊎ (n ≡ k)
marked_only [] n k h = inl h
marked_only (m ∷ ms) zero zero h = inr refl
marked_only (m ∷ ms) zero (suc k) h = inl h
marked_only (m ∷ ms) (suc n) zero h = inl h
marked_only (m ∷ ms) (suc n) (suc k) h = elim (marked_only ms n k h) [ inl a ↦ inl a | inr e ↦ inr (ap suc e) ]

pub unmarked_less : (marks : List Bool) (n : ℕ) → n < length marks → get_or marks n false ≡ false → unmarked (set marks n true) + 1 ≡ unmarked marks
unmarked_less [] n h e = absurd (omega arith)
unmarked_less (true ∷ ms) zero h e = let no : true ≡ false = e in cc
unmarked_less (false ∷ ms) zero h e = refl
unmarked_less (true ∷ ms) (suc n) h e = unmarked_less ms n (omega arith) e
unmarked_less (false ∷ ms) (suc n) h e = ap (λ x. x + 1) (unmarked_less ms n (omega arith) e)

-- no mark
pub marked_none : (n k : ℕ) → IsMarked (replicate n false) k → ⊥
marked_none n k h =
    let within : k < length (replicate n false) = marked_within (replicate n false) k h in
    let below : k < n = omega (arith, within, length-replicate n false) in
    let no : false ≡ true = sym (get_or-replicate n k false false below) ∙ h in
    cc

-- MARKING
pub marking_none : (marks : List Bool) (open_nodes : List ℕ) → IsMarking [] marks open_nodes marks open_nodes
marking_none marks open_nodes = record {
  length_is = refl;
  marks_each = λ s c. absurd (omega (arith, c.1));
  keeps = λ s h. h;
  adds_only = λ s h. inl h;
  opens = λ s h. inl h;
  keeps_open = λ s h. h;
  open_are_marked = λ h. h;
  count_is = refl;
}

module _ (nodes : List ℕ) (before : List Bool) (open_before : List ℕ) (after : List Bool) (open_after : List ℕ) (was : IsMarking nodes before open_before after open_after) (x : ℕ) where
  pub marking_seen : IsMarked after x → IsMarking (nodes ++ x ∷ []) before open_before after open_after
  marking_seen seen = record {
    length_is = was.length_is;
    marks_each = λ s c. elim (Contains-push_cases nodes x s c) [ inl d ↦ was.marks_each s d | inr e ↦ subst (IsMarked after) e seen ];
    keeps = was.keeps;
    adds_only = λ s h. elim (was.adds_only s h) [ inl a ↦ inl a | inr d ↦ inr (Contains-append_left nodes (x ∷ []) s d) ];
    opens = was.opens;
    keeps_open = was.keeps_open;
    open_are_marked = was.open_are_marked;
    count_is = was.count_is;
  }

  pub marking_new : x < length after → get_or after x false ≡ false → IsMarking (nodes ++ x ∷ []) before open_before (set after x true) (open_after ++ x ∷ [])
  marking_new within fresh = record {
    length_is = length-set after x true ∙ was.length_is;
    marks_each = λ s c. elim (Contains-push_cases nodes x s c) [
      | inl d ↦ marked_kept after x s (was.marks_each s d)
      | inr e ↦ subst (IsMarked (set after x true)) e (marked_same after x within)
    ];
    keeps = λ s h. marked_kept after x s (was.keeps s h);
    adds_only = λ s h. elim (marked_only after x s h) [
      | inl a ↦ elim (was.adds_only s a) [ inl b ↦ inl b | inr d ↦ inr (Contains-append_left nodes (x ∷ []) s d) ]
      | inr e ↦ inr (subst (Contains (nodes ++ x ∷ [])) e (Contains-push nodes x))
    ];
    opens = λ s h. elim (marked_only after x s h) [
      | inl a ↦ elim (was.opens s a) [ inl b ↦ inl b | inr d ↦ inr (Contains-append_left open_after (x ∷ []) s d) ]
      | inr e ↦ inr (subst (Contains (open_after ++ x ∷ [])) e (Contains-push open_after x))
    ];
    keeps_open = λ s c. Contains-append_left open_after (x ∷ []) s (was.keeps_open s c);
    open_are_marked = λ h. All-push (IsMarked (set after x true)) open_after x (All-weaker (IsMarked after) (IsMarked (set after x true)) (λ y m. marked_kept after x y m) open_after (was.open_are_marked h)) (marked_same after x within);
    count_is = omega (arith, was.count_is, unmarked_less after x within fresh, length_push open_after x);
  }

-- what is read at a place, at the default that is wanted
pub read_false : (marks : List Bool) (i : ℕ) (r : Bool) → r ≡ get_or marks i r → r ≡ false → get_or marks i false ≡ false
read_false marks i r e h = subst (λ (q : Bool). get_or marks i q ≡ q) h (sym e)

pub read_true : (marks : List Bool) (i : ℕ) (r : Bool) → i < length marks → r ≡ get_or marks i r → r ≡ true → IsMarked marks i
read_true marks i r l e h = get_or_default marks i false true l ∙ subst (λ (q : Bool). get_or marks i q ≡ q) h (sym e)

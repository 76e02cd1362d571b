-- Joined footprints conflict with what either does, so that a cone needs one footprint for all its members.
use Rattle.std.proofs.Common.{◌≡◌, ℕ, Bool, true, false, cond, List, [], ◌∷◌, ◌++◌, ◌||◌, map, sym, refl, ap, ap₂, ◌∙◌}
use Rattle.std.specs.List.{list_any}
use Rattle.rev_causal.specs.declared.registers.Cell.{Cell}
use Rattle.rev_causal.specs.Order.{any_conflict, cone}
use Rattle.rev_causal.specs.Entries.{Entry, clash}
use Rattle.rev_causal.specs.Store.{Footprint, Footprint.Whole, Footprint.Cells, among, is_accessed, conflict}
use Rattle.rev_causal.specs.Registers.{register_machine, cell_cmp, joined, print_of}
use Rattle.rev_causal.specs.RegisterHistory.{number_of_entry}

or_true : (a : Bool) → (a || true) ≡ true
or_true true = refl
or_true false = refl

or_assoc : (a b c : Bool) → ((a || b) || c) ≡ (a || (b || c))
or_assoc true b c = refl
or_assoc false b c = refl

-- four tests in another order
or_four : (a b c d : Bool) → ((a || b) || (c || d)) ≡ ((a || c) || (b || d))
or_four true b c d = refl
or_four false true true d = refl
or_four false true false d = refl
or_four false false c d = or_assoc_right c d
  where
    or_assoc_right : (x y : Bool) → (x || y) ≡ (x || y)
    or_assoc_right x y = refl

any_append : (p : Cell → Bool) (xs ys : List Cell) → list_any p (xs ++ ys) ≡ (list_any p xs || list_any p ys)
any_append p [] ys = refl
any_append p (x ∷ xs) ys = ap (λ b. p x || b) (any_append p xs ys) ∙ sym (or_assoc (p x) (list_any p xs) (list_any p ys))

any_either : (p q : Cell → Bool) (xs : List Cell) → list_any (λ k. p k || q k) xs ≡ (list_any p xs || list_any q xs)
any_either p q [] = refl
any_either p q (x ∷ xs) = ap (λ b. (p x || q x) || b) (any_either p q xs) ∙ or_four (p x) (q x) (list_any p xs) (list_any q xs)

any_same : (p q : Cell → Bool) (xs : List Cell) → ((k : Cell) → p k ≡ q k) → list_any p xs ≡ list_any q xs
any_same p q [] h = refl
any_same p q (x ∷ xs) h = ap₂ (λ a b. a || b) (h x) (any_same p q xs h)

accessed_joined : (r w r' w' : List Cell) (k : Cell) → is_accessed cell_cmp (Cells (r ++ r') (w ++ w')) k ≡ (is_accessed cell_cmp (Cells r w) k || is_accessed cell_cmp (Cells r' w') k)
accessed_joined r w r' w' k =
    ap₂ (λ a b. a || b) (any_append _ w w') (any_append _ r r')
    ∙ or_four (among cell_cmp w k) (among cell_cmp w' k) (among cell_cmp r k) (among cell_cmp r' k)

pub conflict_joined : (f g h : Footprint Cell) → conflict cell_cmp (joined f g) h ≡ (conflict cell_cmp f h || conflict cell_cmp g h)
conflict_joined Whole g h = refl
conflict_joined (Cells r w) Whole h = sym (or_true (conflict cell_cmp (Cells r w) h))
conflict_joined (Cells r w) (Cells r' w') Whole = refl
conflict_joined (Cells r w) (Cells r' w') (Cells rh wh) =
    ap₂ (λ a b. a || b) (any_append (is_accessed cell_cmp (Cells rh wh)) w w')
    (any_same (is_accessed cell_cmp (Cells (r ++ r') (w ++ w'))) (λ k. is_accessed cell_cmp (Cells r w) k || is_accessed cell_cmp (Cells r' w') k) wh (accessed_joined r w r' w')
    ∙ any_either (is_accessed cell_cmp (Cells r w)) (is_accessed cell_cmp (Cells r' w')) wh)
    ∙ or_four (list_any (is_accessed cell_cmp (Cells rh wh)) w) (list_any (is_accessed cell_cmp (Cells rh wh)) w') (list_any (is_accessed cell_cmp (Cells r w)) wh) (list_any (is_accessed cell_cmp (Cells r' w')) wh)

-- the parts that the code keeps, joined
pub print_joined : (a b : Bool) (r w r' w' : List Cell) → print_of (a || b) (r ++ r') (w ++ w') ≡ joined (print_of a r w) (print_of b r' w')
print_joined true b r w r' w' = refl
print_joined false true r w r' w' = refl
print_joined false false r w r' w' = refl

-- the cone's numbers, by one footprint for all members
abbrev pub cone_by : Footprint Cell → List (Entry register_machine) → List ℕ
cone_by f [] = []
cone_by f (z ∷ zs) = cond (conflict cell_cmp f z.footprint) (z.number ∷ cone_by (joined f z.footprint) zs) (cone_by f zs)

or_comm : (a b : Bool) → (a || b) ≡ (b || a)
or_comm true true = refl
or_comm true false = refl
or_comm false true = refl
or_comm false false = refl

pub cone_by_is : (f : Footprint Cell) (cs zs : List (Entry register_machine)) → ((x : Entry register_machine) → any_conflict (clash register_machine) cs x ≡ conflict cell_cmp f x.footprint) → cone_by f zs ≡ map number_of_entry (cone (clash register_machine) cs zs)
cone_by_is f cs [] h = refl
cone_by_is f cs (z ∷ zs) h =
    ap₂ (λ xs ys. cond (conflict cell_cmp f z.footprint) xs ys)
    (ap (λ ns. z.number ∷ ns) (cone_by_is (joined f z.footprint) (z ∷ cs) zs (λ x.
    ap (λ b. conflict cell_cmp z.footprint x.footprint || b) (h x) ∙ or_comm (conflict cell_cmp z.footprint x.footprint) (conflict cell_cmp f x.footprint) ∙ sym (conflict_joined f z.footprint x.footprint))))
    (cone_by_is f cs zs h)
    ∙ cases (conflict cell_cmp f z.footprint)
    ∙ ap (λ b. map number_of_entry (cond b (z ∷ cone (clash register_machine) (z ∷ cs) zs) (cone (clash register_machine) cs zs))) (sym (h z))
  where
    cases : (b : Bool) → cond b (z.number ∷ map number_of_entry (cone (clash register_machine) (z ∷ cs) zs)) (map number_of_entry (cone (clash register_machine) cs zs)) ≡ map number_of_entry (cond b (z ∷ cone (clash register_machine) (z ∷ cs) zs) (cone (clash register_machine) cs zs))
    cases true = refl
    cases false = refl

-- at the first member
pub cone_by_first : (z : Entry register_machine) (zs : List (Entry register_machine)) → cone_by z.footprint zs ≡ map number_of_entry (cone (clash register_machine) (z ∷ []) zs)
cone_by_first z zs = cone_by_is z.footprint (z ∷ []) zs (λ x. or_false (conflict cell_cmp z.footprint x.footprint))
  where
    or_false : (a : Bool) → (a || false) ≡ a
    or_false true = refl
    or_false false = refl

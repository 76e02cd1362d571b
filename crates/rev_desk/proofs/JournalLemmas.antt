-- Lanes' numbers in a journal.
use Rattle.std.proofs.Common.{◌≡◌, ◌≢◌, ℕ, ◌+◌, ◌<◌, ◌≤◌, ◌==◌, Bool, true, false, cond, List, [], ◌∷◌, ◌++◌, length, map, set, get_or, slice_get, Some, refl, sym, ap, subst, ◌∙◌, add-zero, arith, zero, suc, ne_eqb, eq-eqb, eqb-true, true≢false, length-set, get_or-set_same, get_or-set_other}
use Rattle.std.proofs.lemmas.Option.{slice_get-get_or, get_or_from_slice_get}
use Rattle.std.specs.List.{AllByRecursion}
use Rattle.std.specs.declared.vec.Vec.{Vec}
use Rattle.rev_desk.specs.declared.journal.Journal.{Journal}
use Rattle.rev_desk.specs.declared.reply.Entry.{Entry}
use Rattle.rev_desk.specs.Journal.{IsIndexed, lists_of}
use Rattle.rev_desk.specs.Names.{numbers_from, lane_numbers}

-- one more entry has its number in the list of its lane
pub numbers_from-push : (lane n : ℕ) (es : List Entry) (e : Entry) → numbers_from lane n (es ++ e ∷ []) ≡ cond (e.lane == lane) (numbers_from lane n es ++ (n + length es) ∷ []) (numbers_from lane n es)
numbers_from-push lane n [] e = elim (e.lane == lane) as (λ t. cond t (n ∷ []) [] ≡ cond t ((n + 0) ∷ []) []) [ true ↦ ap (λ k. k ∷ []) (sym (add-zero n)) | false ↦ refl ]
numbers_from-push lane n (x ∷ es) e =
    let step : numbers_from lane (n + 1) (es ++ e ∷ []) ≡ cond (e.lane == lane) (numbers_from lane (n + 1) es ++ (n + length (x ∷ es)) ∷ []) (numbers_from lane (n + 1) es) =
    numbers_from-push lane (n + 1) es e ∙ ap (λ k. cond (e.lane == lane) (numbers_from lane (n + 1) es ++ k ∷ []) (numbers_from lane (n + 1) es)) (omega arith) in
    elim (x.lane == lane) as (λ t. cond t (n ∷ numbers_from lane (n + 1) (es ++ e ∷ [])) (numbers_from lane (n + 1) (es ++ e ∷ [])) ≡ cond (e.lane == lane) (cond t (n ∷ numbers_from lane (n + 1) es) (numbers_from lane (n + 1) es) ++ (n + length (x ∷ es)) ∷ []) (cond t (n ∷ numbers_from lane (n + 1) es) (numbers_from lane (n + 1) es))) [
      | true ↦ ap (λ xs. n ∷ xs) step ∙ in_front (e.lane == lane) n (numbers_from lane (n + 1) es) (n + length (x ∷ es))
      | false ↦ step
    ]
  where
    in_front : (v : Bool) (k : ℕ) (ks : List ℕ) (m : ℕ) → k ∷ cond v (ks ++ m ∷ []) ks ≡ cond v (k ∷ ks ++ m ∷ []) (k ∷ ks)
    in_front true k ks m = refl
    in_front false k ks m = refl

pub All-push : {A : Type 0} (P : A → Type 0) (xs : List A) (x : A) → AllByRecursion P xs → P x → AllByRecursion P (xs ++ x ∷ [])
All-push P [] x h p = (p, tt)
All-push P (y ∷ xs) x h p = (h.0, All-push P xs x h.1 p)

-- no entry is of a lane at or above all of theirs
pub numbers_from-none : (lane n m : ℕ) (es : List Entry) → AllByRecursion (λ (e : Entry). e.lane < m) es → m ≤ lane → numbers_from lane n es ≡ []
numbers_from-none lane n m [] h le = refl
numbers_from-none lane n m (e ∷ es) h le =
    let less : e.lane < m = h.0 in
    ap (λ t. cond t (n ∷ numbers_from lane (n + 1) es) (numbers_from lane (n + 1) es)) (ne_eqb e.lane lane (λ same. omega arith)) ∙ numbers_from-none lane (n + 1) m es h.1 le

pub empty_at : {Z : Type 0} (xs : List (Vec ℕ Z)) → AllByRecursion (λ (v : Vec ℕ Z). v.items ≡ []) xs → (k : ℕ) → k < length xs → slice_get (map (λ (v : Vec ℕ Z). v.items) xs) k ≡ Some []
empty_at [] h k lt = absurd (omega arith)
empty_at (x ∷ xs) h zero lt = ap Some h.0
empty_at (x ∷ xs) h (suc k) lt = empty_at xs h.1 k (omega arith)

as_many : {Z : Type 0} (xs : List (Vec ℕ Z)) → length (map (λ (v : Vec ℕ Z). v.items) xs) ≡ length xs
as_many [] = refl
as_many (x ∷ xs) = ap suc (as_many xs)

lists-length : (j : Journal) → length (lists_of j) ≡ length j.numbers.items
lists-length j = as_many j.numbers.items

pub IsIndexed-same : (old new : Journal) → new.entries.items ≡ old.entries.items → lists_of new ≡ lists_of old → IsIndexed old → IsIndexed new
IsIndexed-same old new entries lists h =
    let as_long : length new.numbers.items ≡ length old.numbers.items = sym (lists-length new) ∙ ap length lists ∙ lists-length old in
    record {
      numbers = λ lane lt.
          ap (λ ls. slice_get ls lane) lists ∙ h.numbers lane (subst (λ n. lane < n) as_long lt)
          ∙ ap (λ es. Some (lane_numbers es lane)) (sym entries);
      lanes =
          subst (λ n. AllByRecursion (λ (e : Entry). e.lane < n) new.entries.items) (sym as_long)
          (subst (λ es. AllByRecursion (λ (e : Entry). e.lane < length old.numbers.items) es) (sym entries) h.lanes);
    }

at_set : (ls : List (List ℕ)) (k lane : ℕ) (w : List ℕ) → lane < length ls → slice_get (set ls k w) lane ≡ Some (get_or (set ls k w) lane [])
at_set ls k lane w lt = slice_get-get_or (set ls k w) lane [] (subst (λ n. lane < n) (sym (length-set ls k w)) lt)

pub IsIndexed-push : (old new : Journal) (e : Entry) → new.entries.items ≡ old.entries.items ++ e ∷ []
    → lists_of new ≡ set (lists_of old) e.lane (get_or (lists_of old) e.lane [] ++ (length old.entries.items + 1) ∷ []) → e.lane < length old.numbers.items → IsIndexed old → IsIndexed new
IsIndexed-push old new e entries lists within h =
    let ls : List (List ℕ) = lists_of old in
    let w : List ℕ = get_or ls e.lane [] ++ (length old.entries.items + 1) ∷ [] in
    let as_long : length new.numbers.items ≡ length old.numbers.items = sym (lists-length new) ∙ ap length lists ∙ length-set ls e.lane w ∙ lists-length old in
    record {
      numbers = λ lane lt.
          let lt_old : lane < length old.numbers.items = subst (λ n. lane < n) as_long lt in
          let lt_list : lane < length ls = subst (λ n. lane < n) (sym (lists-length old)) lt_old in
          let here : get_or ls lane [] ≡ lane_numbers old.entries.items lane = get_or_from_slice_get ls lane (lane_numbers old.entries.items lane) [] (h.numbers lane lt_old) in
          ap (λ l. slice_get l lane) lists ∙ at_set ls e.lane lane w lt_list
          ∙ ap Some (by_case lane lt_list here (e.lane == lane) refl ∙ sym (ap (λ es. lane_numbers es lane) entries ∙ numbers_from-push lane 1 old.entries.items e));
      lanes =
          subst (λ n. AllByRecursion (λ (x : Entry). x.lane < n) new.entries.items) (sym as_long)
          (subst (λ es. AllByRecursion (λ (x : Entry). x.lane < length old.numbers.items) es) (sym entries) (All-push (λ (x : Entry). x.lane < length old.numbers.items) old.entries.items e h.lanes within));
    }
  where
    by_case : (lane : ℕ) → lane < length (lists_of old) → get_or (lists_of old) lane [] ≡ lane_numbers old.entries.items lane → (t : Bool) → (e.lane == lane) ≡ t
        → get_or (set (lists_of old) e.lane (get_or (lists_of old) e.lane [] ++ (length old.entries.items + 1) ∷ [])) lane []
        ≡ cond (e.lane == lane) (numbers_from lane 1 old.entries.items ++ (1 + length old.entries.items) ∷ []) (numbers_from lane 1 old.entries.items)
    by_case lane lt here true is =
        let same : e.lane ≡ lane = eqb-true e.lane lane is in
        let w : List ℕ = get_or (lists_of old) e.lane [] ++ (length old.entries.items + 1) ∷ [] in
        let at : e.lane < length (lists_of old) = subst (λ n. n < length (lists_of old)) (sym same) lt in
        subst (λ n. get_or (set (lists_of old) e.lane w) n [] ≡ w) same (get_or-set_same (lists_of old) e.lane w [] at)
        ∙ ap (λ n. get_or (lists_of old) n [] ++ (length old.entries.items + 1) ∷ []) same
        ∙ ap (λ l. l ++ (length old.entries.items + 1) ∷ []) here
        ∙ ap (λ n. numbers_from lane 1 old.entries.items ++ n ∷ []) (omega arith)
        ∙ sym (ap (λ t. cond t (numbers_from lane 1 old.entries.items ++ (1 + length old.entries.items) ∷ []) (numbers_from lane 1 old.entries.items)) is)
    by_case lane lt here false is =
        get_or-set_other (lists_of old) e.lane lane (get_or (lists_of old) e.lane [] ++ (length old.entries.items + 1) ∷ []) [] (λ same. apart (sym same))
        ∙ here
        ∙ sym (ap (λ t. cond t (numbers_from lane 1 old.entries.items ++ (1 + length old.entries.items) ∷ []) (numbers_from lane 1 old.entries.items)) is)
      where
        apart : e.lane ≡ lane → ⊥
        apart same = let yes : (e.lane == lane) ≡ true = eq-eqb e.lane lane same in true≢false (sym yes ∙ is)

pub get_or-lists : {Z : Type 0} (xs : List (Vec ℕ Z)) (k : ℕ) (d : Vec ℕ Z) → k < length xs → (get_or xs k d).items ≡ get_or (map (λ (v : Vec ℕ Z). v.items) xs) k []
get_or-lists [] k d lt = absurd (omega arith)
get_or-lists (x ∷ xs) zero d lt = refl
get_or-lists (x ∷ xs) (suc k) d lt = get_or-lists xs k d (omega arith)

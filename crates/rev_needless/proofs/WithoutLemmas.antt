-- What a build without some orders steps to.
use Rattle.std.proofs.Common.{◌≡◌, ℕ, ◌<◌, ◌≤◌, inl, inr, Bool, true, false, cond, List, [], map, length, get_or, Contains, Option, Some, None, refl, sym, ap, subst, ◌∙◌, arith}
use Rattle.std.specs.Global.{Vec}
use Rattle.std.specs.List.{All, filter_map, range_with_len}
use Rattle.std.proofs.lemmas.Bool.{cases_lt, false_from_ne_true, true≢false}
use Rattle.std.proofs.lemmas.List.{get_or-map, get_or_default, get_or_past, length-map}
use Rattle.std.proofs.lemmas.List.FromFn.{get_or-map-range_with_len, length-map-range_with_len}
use Rattle.rev_ranks.specs.Graph.{Reaches, Reaches.step as one_step, Reaches.further as then_on, Steps, graph_of, successors_of}
use Rattle.rev_ranks.proofs.ReversedLemmas.{all-inside}
use Rattle.rev_ranks.proofs.Ways.{nodes_are, steps_from_node, steps_inside}
use Rattle.rev_needless.specs.Laws.{IsPart}
use Rattle.rev_needless.specs.Without.{is_gone, left_at, left_of, marks_in, marks_of, without}
use Rattle.rev_needless.proofs.ListLemmas.{contains-filter_map, contains-range, in-range, of-filter_map}

-- a place of a list that has no mark
pub record Left (nexts : List ℕ) (marks : List Bool) (s : ℕ) : Type 0 where
  pub place : ℕ
  pub within : place < length nexts
  pub is : get_or nexts place 0 ≡ s
  pub stays : get_or marks place false ≡ false

unmarked : (b : Bool) (v s : ℕ) → cond b None (Some v) ≡ Some s → b ≡ false
unmarked true v s h = absurd (cc h)
unmarked false v s h = refl

the-node : (b : Bool) (v s : ℕ) → cond b None (Some v) ≡ Some s → v ≡ s
the-node true v s h = absurd (cc h)
the-node false v s h = cc h

pub left-from : (nexts : List ℕ) (marks : List Bool) (s : ℕ) → Contains (left_of nexts marks) s → Left nexts marks s
left-from nexts marks s h =
    let m = of-filter_map (left_at nexts marks) (range_with_len 0 (length nexts)) s h in
    record {
      place = m.item;
      within = in-range (length nexts) m.item m.there;
      is = the-node (get_or marks m.item false) (get_or nexts m.item 0) s m.is;
      stays = unmarked (get_or marks m.item false) (get_or nexts m.item 0) s m.is;
    }

pub left-to : (nexts : List ℕ) (marks : List Bool) (s : ℕ) → Left nexts marks s → Contains (left_of nexts marks) s
left-to nexts marks s l =
    contains-filter_map (left_at nexts marks) (range_with_len 0 (length nexts)) l.place s (contains-range 0 (length nexts) l.place (omega arith) (omega (arith, l.within)))
    (ap (λ b. cond b None (Some (get_or nexts l.place 0))) l.stays ∙ ap Some l.is)

pub nodes-left : (graph : List (List ℕ)) (gone : List (List Bool)) → length (without graph gone) ≡ length graph
nodes-left graph gone = length-map-range_with_len (λ n. left_of (successors_of graph n) (marks_of gone n)) 0 (length graph)

successors-left : (graph : List (List ℕ)) (gone : List (List Bool)) (n : ℕ) → n < length graph → successors_of (without graph gone) n ≡ left_of (successors_of graph n) (marks_of gone n)
successors-left graph gone n within = get_or-map-range_with_len (λ m. left_of (successors_of graph m) (marks_of gone m)) 0 (length graph) n n [] within (omega arith)

pub step-left : (graph : List (List ℕ)) (gone : List (List Bool)) (n s : ℕ) → Steps (without graph gone) n s → Left (successors_of graph n) (marks_of gone n) s
step-left graph gone n s h =
    let within : n < length graph = omega (arith, steps_from_node (without graph gone) n s h, nodes-left graph gone) in
    left-from (successors_of graph n) (marks_of gone n) s (subst (λ (xs : List ℕ). Contains xs s) (successors-left graph gone n within) h)

pub step-of-left : (graph : List (List ℕ)) (gone : List (List Bool)) (n s : ℕ) → Left (successors_of graph n) (marks_of gone n) s → Steps graph n s
step-of-left graph gone n s l = (l.place, l.within, get_or_default (successors_of graph n) l.place s 0 l.within ∙ l.is)

pub step-stays : (graph : List (List ℕ)) (gone : List (List Bool)) (n s : ℕ) → Left (successors_of graph n) (marks_of gone n) s → Steps (without graph gone) n s
step-stays graph gone n s l =
    let within : n < length graph = steps_from_node graph n s (step-of-left graph gone n s l) in
    subst (λ (xs : List ℕ). Contains xs s) (sym (successors-left graph gone n within)) (left-to (successors_of graph n) (marks_of gone n) s l)

-- FEWER ORDERS
pub step-back : (graph : List (List ℕ)) (gone : List (List Bool)) (n s : ℕ) → Steps (without graph gone) n s → Steps graph n s
step-back graph gone n s h = step-of-left graph gone n s (step-left graph gone n s h)

pub step-part : (graph : List (List ℕ)) (part gone : List (List Bool)) → IsPart part gone → (n s : ℕ) → Steps (without graph gone) n s → Steps (without graph part) n s
step-part graph part gone is n s h =
    let l = step-left graph gone n s h in
    step-stays graph part n s (record {
      place = l.place;
      within = l.within;
      is = l.is;
      stays = false_from_ne_true (is_gone part n l.place) (λ marked. true≢false (sym (is n l.place marked) ∙ l.stays));
    })

pub step-whole : (graph : List (List ℕ)) (n s : ℕ) → Steps graph n s → Steps (without graph []) n s
step-whole graph n s h =
    let no_lists : List (List Bool) = [] in
    let no_marks : List Bool = [] in
    step-stays graph [] n s (record {
      place = h.0;
      within = h.1;
      is = get_or_default (successors_of graph n) h.0 0 s h.1 ∙ h.2;
      stays = ap (λ (ms : List Bool). get_or ms h.0 false) (get_or_past no_lists n no_marks (omega arith)) ∙ get_or_past no_marks h.0 false (omega arith);
    })

-- WAYS
pub ways-by : (graph other : List (List ℕ)) → ((n s : ℕ) → Steps graph n s → Steps other n s) → (a b : ℕ) → Reaches graph a b → Reaches other a b
ways-by graph other f a b (one_step h) = one_step (f a b h)
ways-by graph other f a b (then_on {s = m} h way) = then_on (f a m h) (ways-by graph other f m b way)

-- CODE
pub row-left : (graph : List (List ℕ)) (gone : List (List Bool)) (n : ℕ) (nexts : List ℕ) (marks : List Bool) (row : List ℕ) → nexts ≡ successors_of graph n → marks ≡ marks_of gone n → row ≡ left_of nexts marks
    → row ≡ left_of (successors_of graph n) (marks_of gone n)
row-left graph gone n nexts marks row is_nexts is_marks is = is ∙ ap (λ (xs : List ℕ). left_of xs marks) is_nexts ∙ ap (λ (ms : List Bool). left_of (successors_of graph n) ms) is_marks

pub each-left : (steps left : List (Vec ℕ)) (gone : List (List Bool)) → graph_of left ≡ without (graph_of steps) gone → length left ≡ length steps
each-left steps left gone is = omega (arith, ap length is, nodes-left (graph_of steps) gone, nodes_are steps, nodes_are left)

pub inside-left : (steps left : List (Vec ℕ)) (gone : List (List Bool)) → All (λ (v : Vec ℕ). All (λ s. s < length steps) v.items) steps → graph_of left ≡ without (graph_of steps) gone
    → All (λ (v : Vec ℕ). All (λ s. s < length left) v.items) left
inside-left steps left gone inside is = all-inside left (length left) (λ n s h.
    omega (arith, steps_inside steps inside n s (step-back (graph_of steps) gone n s (subst (λ (g : List (List ℕ)). Steps g n s) is h)), each-left steps left gone is, nodes_are steps))

pub marks-are : (gone : List (Vec Bool)) (n : ℕ) (v : Vec Bool) → n < length gone → v ≡ get_or gone n v → v.items ≡ marks_of (marks_in gone) n
marks-are gone n v within is = sym (get_or-map (λ (w : Vec Bool). w.items) gone n v [] within ∙ ap (λ (w : Vec Bool). w.items) (sym is))

pub no-marks : (gone : List (Vec Bool)) (n : ℕ) (marks : List Bool) → length gone ≤ n → marks ≡ [] → marks ≡ marks_of (marks_in gone) n
no-marks gone n marks past is = is ∙ sym (get_or_past (marks_in gone) n [] (omega (arith, past, length-map gone (λ (w : Vec Bool). w.items))))

pub gone-within : (gone : List (Vec Bool)) (n k : ℕ) → is_gone (marks_in gone) n k ≡ true → n < length gone
gone-within gone n k marked = elim (cases_lt n (length gone)) [
  | inl within ↦ within
  | inr past ↦
      let no_marks : List Bool = [] in
      let none : marks_of (marks_in gone) n ≡ no_marks = get_or_past (marks_in gone) n no_marks (omega (arith, past, length-map gone (λ (w : Vec Bool). w.items))) in
      absurd (true≢false (sym marked ∙ ap (λ (ms : List Bool). get_or ms k false) none ∙ get_or_past no_marks k false (omega arith)))
]

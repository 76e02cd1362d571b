-- The lines of the pools.
use Rattle.std.proofs.Common.{◌≡◌, ℕ, ◌<◌, List, [], ◌∷◌, length, get_or, map, set, arith, sym, ap, subst, ◌∙◌, get_or-set_other, get_or-set_same}
use Rattle.std.proofs.lemmas.List.{get_or-map, length-map, length-set, map-set}
use Rattle.std.specs.List.Sorted.{IsPermutation}
use Rattle.rev_schedule.specs.declared.line.Line.{Line}
use Rattle.rev_schedule.specs.Lines.{line_items}
use Rattle.rev_schedule.specs.Moments.{OnlyLine}
use Rattle.rev_schedule.specs.Turns.{Turn, IsFirst}

pub line-old : (xs : List Line) (p : ℕ) (old : Line) → p < length xs → old ≡ get_or xs p old → get_or (map line_items xs) p [] ≡ line_items old
line-old xs p old h e = get_or-map line_items xs p old [] h ∙ ap line_items (sym e)

pub line-new : (xs : List Line) (p : ℕ) (new : Line) → p < length xs → get_or (map line_items (set xs p new)) p [] ≡ line_items new
line-new xs p new h =
    ap (λ (ls : List (List Turn)). get_or ls p []) (map-set line_items xs p new)
    ∙ get_or-set_same (map line_items xs) p (line_items new) [] (omega (arith, length-map xs line_items))

pub only-line : (xs : List Line) (p : ℕ) (new : Line) → OnlyLine p (map line_items xs) (map line_items (set xs p new))
only-line xs p new = record {
  length_is = length-map (set xs p new) line_items ∙ length-set xs p new ∙ sym (length-map xs line_items);
  others = λ other ne.
      ap (λ (ls : List (List Turn)). get_or ls other []) (map-set line_items xs p new)
      ∙ get_or-set_other (map line_items xs) p other (line_items new) [] ne;
}

pub queued : (xs : List Line) (p : ℕ) (old new : Line) (t : Turn) → p < length xs → old ≡ get_or xs p old → IsPermutation (t ∷ line_items old) (line_items new)
    → IsPermutation (t ∷ get_or (map line_items xs) p []) (get_or (map line_items (set xs p new)) p [])
queued xs p old new t h e is =
    subst (λ (l : List Turn). IsPermutation (t ∷ l) (get_or (map line_items (set xs p new)) p [])) (sym (line-old xs p old h e))
    (subst (λ (l : List Turn). IsPermutation (t ∷ line_items old) l) (sym (line-new xs p new h)) is)

pub dequeued : (xs : List Line) (p : ℕ) (old new : Line) (t : Turn) → p < length xs → old ≡ get_or xs p old → IsFirst t (line_items old) (line_items new)
    → IsFirst t (get_or (map line_items xs) p []) (get_or (map line_items (set xs p new)) p [])
dequeued xs p old new t h e is =
    subst (λ (l : List Turn). IsFirst t l (get_or (map line_items (set xs p new)) p [])) (sym (line-old xs p old h e))
    (subst (λ (l : List Turn). IsFirst t (line_items old) l) (sym (line-new xs p new h)) is)

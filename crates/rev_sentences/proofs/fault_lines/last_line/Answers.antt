use Rattle.std.proofs.Common.{rules, ◌≡◌, ◌∙◌, ap, refl, List, [], ◌∷◌, Option, Some, None, map}
use Rattle.std.specs.Prelude.{◌==◌}
use Rattle.std.specs.List.{last_or}
use Rattle.std.specs.Option.{option_map, option_copied}
use Rattle.std.proofs.lemmas.Iterator.{items_from_drains}
use Rattle.std.proofs.lemmas.Iterator.Splits.{YieldsList-from_slice_split}
use Rattle.rev_sentences.proofs.fault_lines.last_line.Goals as goal

-- the last of a list that is mapped
last_or-map : {A B : Type 0} (v : A → B) (o : Option A) (xs : List A)
    → option_map v (last_or o xs) ≡ last_or (option_map v o) (map v xs)
last_or-map v o [] = refl
last_or-map v o (x ∷ xs) = last_or-map v (Some x) xs

pub returns : goal.returns
returns c =
    let d = c.last.ensures.ran in
    ap option_copied d.2 ∙ (last_or-map (λ x. x.now) None d.0
    ∙ ap (last_or None) (items_from_drains d.0 (d.1.1.0, d.1.1.1, λ _. (d.1.0, d.1.1.2))
    (YieldsList-from_slice_split _ (λ b. b == 10) c.args.text.now c.split.ensures.rest c.split.ensures.done c.split.ensures.closure (search rules))))

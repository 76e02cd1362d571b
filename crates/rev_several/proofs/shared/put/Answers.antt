use Rattle.std.proofs.Common.{◌≡◌, ◌++◌, List, [], ◌∷◌, ℕ, get_or, set, sym, ap, ◌∙◌}
use Rattle.std.specs.Global.{Vec}
use Rattle.std.proofs.lemmas.List.{get_or-map, map-set}
use Rattle.rev_several.specs.Holders.{lists_of}
use Rattle.rev_several.proofs.shared.put.Goals as goal

pub returns : goal.returns
returns c =
    let items = c.args.lists.now.items in
    let place = c.args.place in
    let was : get_or (lists_of items) place [] ≡ c.index_mut.result.now.items =
    get_or-map (λ (v : Vec ℕ). v.items) items place c.index_mut.result.now [] c.requires ∙ ap (λ (v : Vec ℕ). v.items) (sym c.index_mut.ensures.value) in
    let pushed : c.push.new.self.items ≡ get_or (lists_of items) place [] ++ c.args.recording ∷ [] =
    c.in_ok-push.ensures.items ∙ ap (λ (l : List ℕ). l ++ c.args.recording ∷ []) (sym was) in
    map-set (λ (v : Vec ℕ). v.items) items place c.push.new.self ∙ ap (λ (l : List ℕ). set (lists_of items) place l) pushed

use Rattle.std.proofs.Common.{◌≡◌, ◌∙◌, ◌++◌, ap, append_assoc, codes, decimal, rules}
use Rattle.rev_shown.proofs.events.push_resize.Goals as goal

pub returns : goal.returns
returns c =
    let pool : c.from.result ≡ c.args.pool = search rules in
    let depth : c.from-2.result ≡ c.args.depth = search rules in
    let one : c.push_counted.new.text.items ≡ c.args.text.now.items ++ codes "resize pool " ++ decimal c.args.pool =
    c.in_ok-push_counted.ensures ∙ ap (λ n. c.args.text.now.items ++ codes "resize pool " ++ decimal n) pool in
    let two : c.push_counted-2.new.text.items ≡ c.push_counted.new.text.items ++ codes " to " ++ decimal c.args.depth =
    c.in_ok-push_counted-2.ensures ∙ ap (λ n. c.push_counted.new.text.items ++ codes " to " ++ decimal n) depth in
    two ∙ (ap (λ t. t ++ codes " to " ++ decimal c.args.depth) one ∙ simp append_assoc)

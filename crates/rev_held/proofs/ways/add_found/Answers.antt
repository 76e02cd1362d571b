use Rattle.std.proofs.Common.{sym, ◌∙◌}
use Rattle.rev_held.specs.Firsts.{on_way}
use Rattle.rev_held.proofs.DownLemmas.{down-with, down-without, on-kept, on-none, way-falls}
use Rattle.rev_held.proofs.ways.add_found.Goals as goal

pub returns-in_default : goal.returns-in_default
returns-in_default c n ones down =
    let t = c.args.history.now.timeline in
    let pairs = c.args.pairs.now.items in
    down-without t n c.args.one ones c.args.firsts.now pairs (on-none t c.args.one (on_way n pairs) (sym c.in_default.ensures)) down

pub returns-in_default-first_with : goal.returns-in_default-first_with
returns-in_default-first_with c n ones down =
    let t = c.args.history.now.timeline in
    let pairs = c.args.pairs.now.items in
    let way = on_way n pairs in
    down-without t n c.args.one ones c.args.firsts.now pairs
    (sym (on-kept t c.args.one c.in-Some.footprint way ones c.in-Some.ensures down.falls) ∙ sym (c.in_default-first_with.ensures t way (way-falls t n c.args.one ones c.args.firsts.now pairs down) down.noted)) down

pub returns : goal.returns
returns c n ones down =
    let t = c.args.history.now.timeline in
    let pairs = c.args.pairs.now.items in
    let way = on_way n pairs in
    down-with t n c.args.one c.in-Some-first_with.other ones c.args.firsts.now c.add.new.firsts pairs c.push.new.self.items
    (c.in-Some-first_with.ensures t way (way-falls t n c.args.one ones c.args.firsts.now pairs down) down.noted ∙ on-kept t c.args.one c.in-Some.footprint way ones c.in-Some.ensures down.falls)
    c.in_ok-push.ensures.items (c.in_ok-add.ensures t way c.in-Some.ensures down.noted) down

use Rattle.std.proofs.Common.{◌≡◌, slice_get, Some, sym, ap, ◌∙◌}
use Rattle.std.specs.Map.{keys_of}
use Rattle.rev_fields.specs.Lines.{path_of}
use Rattle.rev_paths.proofs.PlaceLemmas.{name_at-place_of}
use Rattle.rev_trace.proofs.mentions.Mentions.mention.Goals as goal

-- the name that is guessed has the bytes that were looked up
pub returns-in-Some-clause-path : goal.returns-in-Some-clause-path
returns-in-Some-clause-path c =
    let found : Some c.args.text.now ≡ Some c.in_ok-mention_at.field-0.0 = sym c.in-Some.ensures.text ∙ c.in_ok-mention_at.ensures.path in
    let same : c.args.text.now ≡ c.in_ok-mention_at.field-0.0 = cc in
    ap path_of same ∙ c.in_ok-mention_at.ensures.named

-- the name that is found has them
pub returns-in-Some-get_index_of-clause-path : goal.returns-in-Some-get_index_of-clause-path
returns-in-Some-get_index_of-clause-path c =
    let text = c.args.text.now in
    let path = c.in_ok-mention_at-2.field-0.0 in
    let names = keys_of c.args.self.now.last_lists.entries in
    let at : slice_get names c.in-Some-get_index_of.place ≡ Some text = name_at-place_of text names c.in-Some-get_index_of.place (sym c.in-Some-get_index_of.ensures.index) in
    let found : Some text ≡ Some path = sym at ∙ c.in_ok-mention_at-2.ensures.path in
    let same : text ≡ path = cc in
    ap path_of same ∙ c.in_ok-mention_at-2.ensures.named

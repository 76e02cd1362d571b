use Rattle.std.proofs.Common.{◌≡◌, length, ap, bytes_eq, sym, ◌∙◌}
use Rattle.indexmap.specs.IndexSet.{insert_all}
use Rattle.rev_paths.specs.Mentions.{first_mentions}
use Rattle.rev_paths.proofs.MentionLemmas.{mentions-all, mentions-once}
use Rattle.rev_events.proofs.ListingLemmas.{mentions-same}
use Rattle.rev_events.proofs.listings.mentioned.Goals as goal

pub returns-then-are_distinct : goal.returns-then-are_distinct
returns-then-are_distinct c =
    c.in_ok-copy.ensures ∙ c.names.ensures ∙ sym (mentions-once c.args.paths.now (c.are_distinct.ensures c.if-are_distinct.true))

pub returns-then-len-listed : goal.returns-then-len-listed
returns-then-len-listed c =
    let all : c.add_names.new.set.keys ≡ first_mentions c.as_slice-listed.result.now =
    c.in_ok-add_names.ensures ∙ ap (λ keys. insert_all bytes_eq keys c.as_slice-listed.result.now) c.new-set.ensures.empty ∙ mentions-all c.as_slice-listed.result.now in
    let many : length (first_mentions c.as_slice-listed.result.now) ≡ length c.as_slice-listed.result.now =
    sym (ap length all) ∙ sym c.len.ensures.len ∙ c.if-len-listed.true in
    c.in_ok-copy-2.ensures ∙ c.names-then-len-listed.ensures ∙ sym c.as_slice-listed.ensures ∙ sym (mentions-same c.as_slice-listed.result.now many) ∙ ap first_mentions c.as_slice-listed.ensures

pub returns : goal.returns
returns c =
    c.in_ok-new.ensures ∙ c.in_ok-names.ensures ∙ c.in_ok-add_names.ensures
    ∙ ap (λ keys. insert_all bytes_eq keys c.as_slice-listed.result.now) c.new-set.ensures.empty
    ∙ mentions-all c.as_slice-listed.result.now ∙ ap first_mentions c.as_slice-listed.ensures

use Rattle.std.proofs.Common.{◌≡◌, slice_get, Some, sym, ◌∙◌}
use Rattle.std.specs.Map.{keys_of}
use Rattle.std.proofs.lemmas.Result.{IfOk-weaker}
use Rattle.rev_paths.proofs.PlaceLemmas.{name_at-place_of}
use Rattle.rev_trace.proofs.mentions.Mentions.mention_path.Goals as goal

-- the path that is found is the one that was looked up
pub returns-in-Some-clause-path : goal.returns-in-Some-clause-path
returns-in-Some-clause-path c =
    let names = keys_of c.args.self.now.last_lists.entries in
    let at : slice_get names c.in-Some.place ≡ Some c.args.path = name_at-place_of c.args.path names c.in-Some.place (sym c.in-Some.ensures.index) in
    IfOk-weaker c.mention_at.result (λ m. slice_get names c.in-Some.place ≡ Some m.0) (λ m. m.0 ≡ c.args.path)
    (λ m h. let same : Some m.0 ≡ Some c.args.path = sym h ∙ at in cc) c.mention_at.ensures.path

use Rattle.std.proofs.Common.{◌≡◌, ℕ, ◌++◌, true, false, None, List, not, filter, ap, ◌∙◌}
use Rattle.rev_manifest.specs.Names.{has_path, without}
use Rattle.rev_manifest.proofs.NameLemmas.{filter-same}
use Rattle.rev_manifest.proofs.ends.phony_build.Goals as goal

pub returns : goal.returns
returns c =
    let paths = c.args.edge.paths in
    let own : List (List ℕ) = paths.outs.items ++ paths.implicit_outs.items in
    let keys = c.in_ok-own.own.keys in
    let same : (path : List ℕ) → has_path keys path ≡ has_path own path =
    λ path. c.in_ok-own.ensures path ∙ (λ i. has_path (c.deref.ensures.value i ++ c.deref-2.ensures.value i) path) in
    let left : (names : List (List ℕ)) → filter (λ path. not (has_path keys path)) names ≡ without own names =
    λ names. filter-same (λ path. not (has_path keys path)) (λ path. not (has_path own path)) (λ path. ap not (same path)) names in
    (λ i. record {
      phony = true;
      explicit_outs = paths.outs.items;
      implicit_outs = paths.implicit_outs.items;
      explicit = (c.in_ok-explicit.ensures ∙ left c.deref-3.result.now ∙ ap (without own) c.deref-3.ensures.value) i;
      implicit = (c.in_ok-implicit.ensures ∙ left c.deref-4.result.now ∙ ap (without own) c.deref-4.ensures.value) i;
      order_only = (c.in_ok-order_only.ensures ∙ left c.deref-5.result.now ∙ ap (without own) c.deref-5.ensures.value) i;
      validations = paths.validations.items;
      command = (c.in_ok-shared.ensures ∙ c.new.ensures.items) i;
      depfile = c.new-2.ensures.items i;
      rspfile = c.new-3.ensures.items i;
      keeps_deps = false;
      restat = false;
      generator = false;
      pool = None;
      file = c.args.edge.place.file;
      line = c.args.edge.place.line;
    })

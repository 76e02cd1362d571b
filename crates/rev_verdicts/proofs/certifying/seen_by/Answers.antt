use Rattle.std.proofs.Common.{◌≡◌, ℕ, List, true, false, sym, ap, ◌∙◌}
use Rattle.std.specs.Prelude.{nat_lt}
use Rattle.std.specs.List.{list_all}
use Rattle.rev_verdicts.proofs.WrittenLemmas.{placed-by}
use Rattle.rev_verdicts.proofs.certifying.seen_by.Goals as goal

pub returns-in-Some : goal.returns-in-Some
returns-in-Some c =
    let all = λ (edges : List ℕ). list_all (λ edge. nat_lt edge c.args.count) edges in
    let below : list_all (λ edge. nat_lt edge c.args.count) c.args.sight.now.observed.edges.items ≡ true =
    ap all (sym c.as_slice-edges.ensures.value) ∙ sym c.all_below.ensures.exact ∙ c.if-not-all_below.false in
    record {
      none = tt;
      some = record {
        places = placed-by c.args.count c.args.sight.now true below ∙ c.in-Some.is;
        edges = c.as_slice-edges.ensures.value;
        within = c.all_below.ensures.below c.if-not-all_below.false;
      };
    }

pub returns-in-None : goal.returns-in-None
returns-in-None c =
    let all = λ (edges : List ℕ). list_all (λ edge. nat_lt edge c.args.count) edges in
    let below : list_all (λ edge. nat_lt edge c.args.count) c.args.sight.now.observed.edges.items ≡ true =
    ap all (sym c.as_slice-edges.ensures.value) ∙ sym c.all_below.ensures.exact ∙ c.if-not-all_below.false in
    record { none = placed-by c.args.count c.args.sight.now true below ∙ c.in-None.is; some = tt }

pub returns-then-not-all_below : goal.returns-then-not-all_below
returns-then-not-all_below c =
    let all = λ (edges : List ℕ). list_all (λ edge. nat_lt edge c.args.count) edges in
    let beyond : list_all (λ edge. nat_lt edge c.args.count) c.args.sight.now.observed.edges.items ≡ false =
    ap all (sym c.as_slice-edges.ensures.value) ∙ sym c.all_below.ensures.exact ∙ c.if-not-all_below.true in
    record { none = placed-by c.args.count c.args.sight.now false beyond; some = tt }

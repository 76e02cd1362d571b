use Rattle.std.proofs.Common.{Option, refl, subst, sym, true≢false, ◌∙◌}
use Rattle.std.specs.Option.{IsSomeAnd}
use Rattle.std.specs.Prelude.{IfSome}
use Rattle.rev_cells.specs.Table.{Records}
use Rattle.rev_history.specs.Value.{HistoryValue}
use Rattle.rev_witness.specs.Progress.{IsPlanned}
use Rattle.rev_witness.specs.Witness.{BeganWith, opening_with}
use Rattle.rev_witness.proofs.WitnessLemmas.{is_alone}
use Rattle.rev_witness.proofs.found.found_between.Goals as goal

-- the plan is accepted
pub returns-in_default-clause-found : goal.returns-in_default-clause-found
returns-in_default-clause-found c = λ of_user of_maker.
    let manifest = c.args.graph.now.manifest in
    let sources = c.in_ok-sources.sources in
    let alone = is_alone manifest.builds sources.opening sources.paths.items c.in_ok-sources.ensures.opening c.in_ok-sources.ensures.made in
    absurd (subst (λ (o : Option HistoryValue). IsSomeAnd o (λ h. IsPlanned manifest sources.opening.state c.args.user c.args.maker h.timeline)) c.in_default.is
    (c.in_ok-history.ensures.planned alone c.in_ok-sources.ensures.there of_user of_maker))

pub returns-then-not-branch-clause-found : goal.returns-then-not-branch-clause-found
returns-then-not-branch-clause-found c = λ of_user of_maker. (
  λ some. absurd (true≢false (sym some)),
  λ free.
      let manifest = c.args.graph.now.manifest in
      let sources = c.in_ok-sources.sources in
      let alone = is_alone manifest.builds sources.opening sources.paths.items c.in_ok-sources.ensures.opening c.in_ok-sources.ensures.made in
      let planned : IsPlanned manifest sources.opening.state c.args.user c.args.maker c.in-Some.history.timeline =
      subst (λ (o : Option HistoryValue). IsSomeAnd o (λ h. IsPlanned manifest sources.opening.state c.args.user c.args.maker h.timeline)) c.in-Some.is
      (c.in_ok-history.ensures.planned alone c.in_ok-sources.ensures.there of_user of_maker) in
      let exact = c.in_ok-starts_before.ensures.exact sources.opening.state planned of_user in
      absurd (true≢false (sym (exact.1 free) ∙ c.if-not-branch.true)),
)

pub returns-clause-found : goal.returns-clause-found
returns-clause-found c = λ of_user of_maker. (
  λ some.
      let manifest = c.args.graph.now.manifest in
      let sources = c.in_ok-sources.sources in
      let alone = is_alone manifest.builds sources.opening sources.paths.items c.in_ok-sources.ensures.opening c.in_ok-sources.ensures.made in
      let planned : IsPlanned manifest sources.opening.state c.args.user c.args.maker c.in-Some.history.timeline =
      subst (λ (o : Option HistoryValue). IsSomeAnd o (λ h. IsPlanned manifest sources.opening.state c.args.user c.args.maker h.timeline)) c.in-Some.is
      (c.in_ok-history.ensures.planned alone c.in_ok-sources.ensures.there of_user of_maker) in
      let exact = c.in_ok-starts_before.ensures.exact sources.opening.state planned of_user in
      exact.0 c.if-not-branch.false,
  λ free. refl,
)

pub returns-clause-witness : goal.returns-clause-witness
returns-clause-witness c =
    let manifest = c.args.graph.now.manifest in
    let sources = c.in_ok-sources.sources in
    let began : BeganWith manifest sources.opening.state c.in-Some.history.timeline =
    subst (λ (o : Option HistoryValue). IfSome o (λ h. BeganWith manifest sources.opening.state h.timeline)) c.in-Some.is c.in_ok-history.ensures.began in
    let first : BeganWith manifest (opening_with sources.paths.items).state c.in-Some.history.timeline =
    subst (λ (r : Records). BeganWith manifest r.state c.in-Some.history.timeline) c.in_ok-sources.ensures.opening began in
    c.in_ok-starts_before.ensures.witness sources.paths.items c.in_ok-sources.ensures.made first c.if-not-branch.false

use Rattle.std.proofs.Common.{ℕ, List, Contains, ◌⊎◌, inl, inr, ap, sym, ◌∙◌}
use Rattle.std.specs.Prelude.{◌↔◌, is_some}
use Rattle.std.specs.List.{list_any}
use Rattle.rev_history.specs.Timeline.{kept_events}
use Rattle.rev_races.proofs.KeyLemmas.{either-more, ok-then}
use Rattle.rev_hints.specs.declared.named.NameHint.{NameHint}
use Rattle.rev_hints.specs.Hints.{listed}
use Rattle.rev_hints.specs.Names.{IsHintAmong, IsHintOfUser, output_of}
use Rattle.rev_hints.proofs.NameLemmas.{none-of-user, same-among}
use Rattle.rev_hints.proofs.named.add_of.Goals as goal

pub returns-then-not-has_other-clause-hints : goal.returns-then-not-has_other-clause-hints
returns-then-not-has_other-clause-hints c = λ h. (
  λ old. inl old,
  λ e. elim e [
    | inl old ↦ old
    | inr a ↦
        let t = c.args.history.now.timeline in
        absurd (none-of-user t.manifest.builds c.args.files.now c.args.names.now.entries c.args.whole.now c.args.user (listed t.manifest t.opening (kept_events t) c.args.user) h
        (ap (λ (ps : List (List ℕ)). list_any (λ path. is_some (output_of c.args.names.now.entries path)) ps) (sym c.paths_of-paths.ensures) ∙ sym c.has_other.ensures ∙ c.if-not-has_other.true) a)
  ],
)

pub returns-clause-hints : goal.returns-clause-hints
returns-clause-hints c =
    let t = c.args.history.now.timeline in
    let files = c.args.files.now in
    let names = c.args.names.now.entries in
    let whole = c.args.whole.now in
    let user = c.args.user in
    let paths = c.paths_of-paths.result.now in
    ok-then ((h : NameHint) → Contains c.add_among.new.hints.items h ↔ (Contains c.args.hints.now.items h ⊎ IsHintAmong c.graph-graph.result.now.manifest.builds files names whole user paths h))
    ((h : NameHint) → Contains c.add_among.new.hints.items h ↔ (Contains c.args.hints.now.items h ⊎ IsHintOfUser t files names whole user h))
    (λ by h. either-more (by h) (same-among c.graph-graph.result.now.manifest t.manifest files names whole user paths (listed t.manifest t.opening (kept_events t) user) h c.graph-graph.ensures c.paths_of-paths.ensures))
    c.add_among.result c.add_among.ensures.hints

use Rattle.std.proofs.Common.{◌++◌, drop, sym, ap, ◌∙◌}
use Rattle.rev_trace.specs.declared.version.Version.TheVariants.{Two}
use Rattle.rev_trace.specs.Versions.{first_line}
use Rattle.rev_trace.proofs.MigrateLemmas.{first-long, text-long}
use Rattle.rev_trace.proofs.migration.migrate.Goals as goal

pub with_first-requires : goal.with_first-requires
with_first-requires c = text-long c.args.text.now c.in_ok-_trace.ensures.sound

pub returns-clause-text : goal.returns-clause-text
returns-clause-text c =
    c.in_ok-with_first.ensures ∙ ap (λ n. first_line Two ++ drop n c.args.text.now) (sym (first-long c.args.text.now c.in_ok-_trace.ensures.sound))

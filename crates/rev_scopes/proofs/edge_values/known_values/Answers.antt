use Rattle.std.proofs.Common.{None}
use Rattle.rev_scopes.specs.Edges.{seen_edge}
use Rattle.rev_scopes.proofs.GivenLemmas.{all-given}
use Rattle.rev_scopes.proofs.edge_values.known_values.Goals as goal

pub returns : goal.returns
returns c =
    all-given (seen_edge c.args.edge.now) (record {
      command = c.in_ok-command.command;
      depfile = c.in_ok-depfile.depfile;
      deps = c.in_ok-deps.deps;
      generator = c.in_ok-generator.generator;
      restat = c.in_ok-restat.restat;
      rspfile = None;
      rspfile_content = c.in_ok-rspfile_content.rspfile_content;
      pool = c.in_ok-pool.pool;
    })
    c.in_ok-command.ensures c.in_ok-depfile.ensures c.in_ok-deps.ensures c.in_ok-generator.ensures c.in_ok-restat.ensures c.in_ok-rspfile_content.ensures c.in_ok-pool.ensures

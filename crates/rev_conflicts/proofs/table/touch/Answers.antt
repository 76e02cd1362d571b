use Rattle.std.proofs.Common.{Some, None, refl, sym, ◌∙◌, arith}
use Rattle.rev_ranks.specs.Graph.{graph_of}
use Rattle.rev_conflicts.proofs.TableLemmas.{puts-path}
use Rattle.rev_conflicts.proofs.table.touch.Goals as goal

pub returns-in_ok-put-2 : goal.returns-in_ok-put-2
returns-in_ok-put-2 c =
    puts-path c.args.paths.now c.args.hidden.now c.args.path c.args.command (graph_of c.args.files.now.items) (graph_of c.args.folders.now.items) (graph_of c.put.new.lists.items) (graph_of c.put-in-Some.new.lists.items)
    (Some c.in-Some.folder) (omega (arith, c.if-path-len.false, c.len.ensures.len)) c.if-hidden-path.false (sym c.in_ok-folder.ensures ∙ c.in-Some.is) c.in_ok-put.ensures c.in_ok-put-2.ensures

pub returns-in_default : goal.returns-in_default
returns-in_default c =
    puts-path c.args.paths.now c.args.hidden.now c.args.path c.args.command (graph_of c.args.files.now.items) (graph_of c.args.folders.now.items) (graph_of c.put.new.lists.items) (graph_of c.args.folders.now.items)
    None (omega (arith, c.if-path-len.false, c.len.ensures.len)) c.if-hidden-path.false (sym c.in_ok-folder.ensures ∙ c.in_default.is) c.in_ok-put.ensures refl

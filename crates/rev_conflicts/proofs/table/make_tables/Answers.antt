use Rattle.std.proofs.Common.{◌≡◌, ℕ, true, List, length, Contains, sym, subst, ◌∙◌}
use Rattle.std.specs.Prelude.{◌↔◌}
use Rattle.rev_ranks.specs.Graph.{graph_of}
use Rattle.rev_conflicts.specs.Places.{changes}
use Rattle.rev_conflicts.specs.Tables.{EachTouches, PutsAt}
use Rattle.rev_conflicts.proofs.TableLemmas.{each-touch, lists-length, same-length, touched-more, touched-none}
use Rattle.rev_conflicts.proofs.table.make_tables.Goals as goal

pub loop-number-init : goal.loop-number-init
loop-number-init c =
    let files : length c.in_ok-files.files.items ≡ length c.args.paths.now = c.in_ok-files.ensures.each ∙ c.len.ensures.len in
    let folders : length c.in_ok-folders.folders.items ≡ length c.args.paths.now = c.in_ok-folders.ensures.each ∙ c.len-2.ensures.len in
    record {
      touched =
          touched-none c.args.paths.now c.args.hidden.now c.args.commands.now (graph_of c.in_ok-files.files.items) (graph_of c.in_ok-folders.folders.items) (lists-length c.in_ok-files.files.items (length c.args.paths.now) files)
          (lists-length c.in_ok-folders.folders.items (length c.args.paths.now) folders) c.in_ok-files.ensures.none c.in_ok-folders.ensures.none;
      files = files;
      folders = folders;
    }

pub loop-number-preserved : goal.loop-number-preserved
loop-number-preserved c =
    let paths = c.args.paths.now in
    let hidden = c.args.hidden.now in
    let command = c.index-commands-number.result in
    let are : (path : ℕ) → Contains c.deref.result.now path ↔ (changes c.index-commands-number.result path ≡ true) =
    subst (λ (xs : List ℕ). (path : ℕ) → Contains xs path ↔ (changes c.index-commands-number.result path ≡ true)) (sym c.deref.ensures.value) c.in_ok-changed.ensures in
    let puts : PutsAt (graph_of c.loop-number.files.items) (graph_of c.loop-number.folders.items) (graph_of c.touch_each.new.files.items) (graph_of c.touch_each.new.folders.items) c.loop-number.number
    (EachTouches c.args.paths.now c.args.hidden.now c.deref.result.now) = c.in_ok-touch_each.ensures in
    record {
      touched =
          touched-more paths hidden c.args.commands.now c.loop-number.number command (graph_of c.loop-number.files.items) (graph_of c.loop-number.folders.items) (graph_of c.touch_each.new.files.items)
          (graph_of c.touch_each.new.folders.items) (EachTouches paths hidden c.deref.result.now) c.loop-number-test.true c.index-commands-number.is
          (each-touch paths hidden command c.deref.result.now are) c.loop-number.invariant.touched puts;
      files = same-length c.loop-number.files.items c.touch_each.new.files.items (length c.args.paths.now) puts.each_file c.loop-number.invariant.files;
      folders = same-length c.loop-number.folders.items c.touch_each.new.folders.items (length c.args.paths.now) puts.each_folder c.loop-number.invariant.folders;
    }

use Rattle.std.proofs.Common.{◌≡◌, [], List, false, refl, arith, rules}
use Rattle.std.proofs.lemmas.List.{length-map}
use Rattle.std.proofs.lemmas.List.Elements.{All-map, All-replicate, All-same}
use Rattle.rev_schedule.specs.Lines.{line_items}
use Rattle.rev_schedule.specs.Turns.{Turn}
use Rattle.rev_schedule.proofs.schedule.fresh.Goals as goal

pub returns-clause-fresh : goal.returns-clause-fresh
returns-clause-fresh c = record {
  time = refl;
  freed = refl;
  through_length = omega (arith, c.in_ok-vec.ensures.len, c.len.ensures, c.in_ok-vec.field-0.ok.0, c.args.build.now.jobs.ok.0);
  through = All-same (λ b. b ≡ false) c.in_ok-vec.field-0.items _ (c.in_ok-vec.ensures.items_if_clones_equal (λ y h. search rules)) (All-replicate (λ b. b ≡ false) c.len.result false refl);
  ready = c.new.ensures;
  running = c.new-2.ensures;
  used_length = omega (arith, c.in_ok-vec-3.ensures.len, c.len-3.ensures, c.in_ok-vec-3.field-0.ok.0, c.args.build.now.depths.ok.0);
  used = All-same (λ n. n ≡ 0) c.in_ok-vec-3.field-0.items _ (c.in_ok-vec-3.ensures.items_if_clones_equal (λ y h. search rules)) (All-replicate (λ n. n ≡ 0) c.len-3.result 0 refl);
  waiting_length = omega (arith, length-map c.in_ok-lines.field-0.items line_items, c.in_ok-lines.ensures.count, c.len-4.ensures, c.args.build.now.depths.ok.0);
  waiting = All-map (λ (l : List Turn). l ≡ []) line_items c.in_ok-lines.field-0.items c.in_ok-lines.ensures.empty;
  runs = c.new-3.ensures.items;
}

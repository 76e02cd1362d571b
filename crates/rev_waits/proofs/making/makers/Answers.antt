use Rattle.std.proofs.Common.{◌≡◌, ℕ, true, Some, sym, ◌∙◌}
use Rattle.std.specs.Prelude.{◌↔◌, Contains}
use Rattle.std.specs.Global.{Vec}
use Rattle.rev_graph.specs.Graph.{build_at, producer_of}
use Rattle.rev_waits.specs.Waits.{IsBehind, Makes}
use Rattle.rev_waits.proofs.WaitLemmas.{made-by-phony, made-by-one, ok-more}
use Rattle.rev_waits.proofs.making.makers.Goals as goal

pub returns-then-is_phony : goal.returns-then-is_phony
returns-then-is_phony c =
    let builds = c.args.graph.now.manifest.builds in
    let is : producer_of builds c.args.path.now ≡ Some c.in-Some.producer = sym c.producer.ensures.value ∙ c.in-Some.is in
    let phony : (build_at builds c.in-Some.producer).phony ≡ true = sym c.is_phony.ensures ∙ c.if-is_phony.true in
    ok-more (λ (makers : Vec ℕ). (maker : ℕ) → Contains makers.items maker ↔ IsBehind builds c.in-Some.producer maker) (λ (makers : Vec ℕ). (maker : ℕ) → Contains makers.items maker ↔ Makes builds maker c.args.path.now)
    (λ makers are maker. (
      λ h. (made-by-phony builds maker c.in-Some.producer c.args.path.now is phony).1 ((are maker).0 h),
      λ m. (are maker).1 ((made-by-phony builds maker c.in-Some.producer c.args.path.now is phony).0 m),
    )) c.makers_behind.result c.makers_behind.ensures

pub returns : goal.returns
returns c =
    made-by-one c.args.graph.now.manifest.builds c.in-Some.producer c.args.path.now c.new-makers.result.items c.push.new.self.items c.new-makers.ensures.items c.in_ok-push.ensures.items
    (sym c.producer.ensures.value ∙ c.in-Some.is) (sym c.is_phony.ensures ∙ c.if-is_phony.false)

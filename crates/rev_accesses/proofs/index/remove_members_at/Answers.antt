use Rattle.std.proofs.Common.{◌<◌, ℕ, length, arith, true≢false, sym, ◌∙◌, refl}
use Rattle.rev_accesses.specs.Users.{listed}
use Rattle.rev_accesses.specs.Value.{numbers_at}
use Rattle.rev_numbers.proofs.TakenLemmas.{thinned_then}
use Rattle.rev_accesses.proofs.ThinnedLemmas.{gone_more, thinned_same}
use Rattle.rev_accesses.proofs.index.remove_members_at.Goals as goal

pub loop-place-init : goal.loop-place-init
loop-place-init c = record {
  thinned = thinned_same c.args.members.now (listed c.args.access c.args.index.now.items) (listed c.args.access c.args.index.now.items) (λ q. refl);
  gone = λ q among. absurd (true≢false (sym among));
  rest = λ q. refl;
}

pub loop-place-preserved : goal.loop-place-preserved
loop-place-preserved c =
    let lt : c.loop-place.place-index < length c.args.places.now = omega (arith, c.loop-place-test.true) in record {
      thinned = λ (q : ℕ). thinned_then c.args.members.now (numbers_at (listed c.args.access c.args.index.now.items) q) (numbers_at (listed c.args.access c.loop-place.index.items) q) (numbers_at (listed c.args.access c.remove_member_at.new.index.items) q)
          (c.loop-place.invariant.thinned q) (c.remove_member_at.ensures.thinned q);
      gone =
          gone_more c.args.members.now c.args.number c.args.places.now c.loop-place.place-index 0 lt (listed c.args.access c.loop-place.index.items) (listed c.args.access c.remove_member_at.new.index.items)
          c.remove_member_at.ensures.thinned c.loop-place.invariant.gone c.remove_member_at.ensures.gone;
      rest = λ (q : ℕ). c.remove_member_at.ensures.rest q ∙ c.loop-place.invariant.rest q;
    }

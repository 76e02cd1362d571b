-- Commands that were observed whole, in what is judged.
use Rattle.std.proofs.Common.{◌≡◌, ℕ, Bool, true, List, length, Result, Ok, Err, IfOk, subst}
use Rattle.std.specs.Global.{Vec}
use Rattle.rev_observed.specs.CommandValues.{CommandValue}
use Rattle.rev_conflicts.specs.Conflicts.{Scene}
use Rattle.rev_certified.specs.Certain.{AreSeenWhole, IsSeenWhole}
use Rattle.rev_certified.specs.Whole.{AreWholeBy, IsWholeBelow}

pub seen-whole : (s : Scene) (marks : List Bool) → length marks ≡ length s.builds
    → AreWholeBy s.commands s.edges (length s.commands) marks → AreSeenWhole s marks
seen-whole s marks each are = record {
  each = each;
  exact = λ edge. (
    λ m. let w = (are edge).0 m in
        record {
          number = w.number;
          command = w.command;
          ran = record { within = w.below; is = w.is; of = w.of };
          whole = w.whole;
        },
    λ r. (are edge).1 (record {
      number = r.number;
      command = r.command;
      below = r.ran.within;
      is = r.ran.is;
      of = r.ran.of;
      whole = r.whole;
    }),
  );
}

-- the same of what a call gives
pub whole-ok : {E : Type 0} (r : Result (Vec Bool) E) (s : Scene) (commands : List CommandValue) → commands ≡ s.commands
    → IfOk r (λ (m : Vec Bool). length m.items ≡ length s.builds)
    → IfOk r (λ (m : Vec Bool). AreWholeBy commands s.edges (length commands) m.items)
    → IfOk r (λ (m : Vec Bool). AreSeenWhole s m.items)
whole-ok (Ok m) s commands same each are =
    seen-whole s m.items each (subst (λ (cs : List CommandValue). AreWholeBy cs s.edges (length cs) m.items) same are)
whole-ok (Err e) s commands same each are = tt

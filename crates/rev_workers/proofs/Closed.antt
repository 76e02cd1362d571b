-- What comes of a desk that is closed by what was found of its lanes.
use Rattle.std.proofs.Common.{◌≡◌, ℕ, List, Option, None, Some, Result, Ok, Err, IfErr, IfNone, IfOk, IfSome, OnOk, refl, sym, subst}
use Rattle.rev_desk.specs.Machine.{DeskValue}
use Rattle.rev_workers.specs.declared.fault.CloseFault.{CloseFault}
use Rattle.rev_workers.specs.declared.fault.CloseCode.TheVariants as code
use Rattle.rev_workers.specs.Tracks.{Track}
use Rattle.rev_workers.specs.Closing.{AreStated, IsMisstated, IsOneOfEach, left_by}

at-none : (m : Option ℕ) (P : Type 0) → m ≡ None → IfNone m P → P
at-none None P is h = h
at-none (Some n) P is h = cc

at-some : (m : Option ℕ) (P : ℕ → Type 0) (n : ℕ) → m ≡ Some n → IfSome m P → P n
at-some None P n is h = cc
at-some (Some k) P n is h = let same : k ≡ n = cc in subst P same h

pub where-none : (m : Option ℕ) (P : Type 0) → (m ≡ None → P) → IfNone m P
where-none None P h = h refl
where-none (Some n) P h = tt

pub closed-ok : (r : Result DeskValue CloseFault) (d : DeskValue) (ts : List Track) (m : Option ℕ) → left_by r ≡ d → OnOk r ((m ≡ None) × IsOneOfEach d.lanes ts) → IfNone m (AreStated d.lanes d.journal ts)
    → IfOk r (λ desk. IsOneOfEach desk.lanes ts × AreStated desk.lanes desk.journal ts)
closed-ok (Ok desk) d ts m is h stated =
    subst (λ (x : DeskValue). IsOneOfEach x.lanes ts × AreStated x.lanes x.journal ts) (sym is) (h.1, at-none m _ h.0 stated)
closed-ok (Err fault) d ts m is h stated = tt

pub closed-mismatch : (r : Result DeskValue CloseFault) (d : DeskValue) (ts : List Track) (m : Option ℕ) → left_by r ≡ d
    → IfErr r (λ fault. fault.code ≡ code.LaneMismatch → IsOneOfEach fault.desk.lanes ts × (m ≡ Some fault.lane)) → IfSome m (λ n. IsMisstated d.lanes d.journal ts n)
    → IfErr r (λ fault. fault.code ≡ code.LaneMismatch → IsOneOfEach fault.desk.lanes ts × IsMisstated fault.desk.lanes fault.desk.journal ts fault.lane)
closed-mismatch (Ok desk) d ts m is h stated = tt
closed-mismatch (Err fault) d ts m is h stated = λ mismatch.
    let there = h mismatch in (
      there.0,
      subst (λ (x : DeskValue). IsMisstated x.lanes x.journal ts fault.lane) (sym is) (at-some m (λ n. IsMisstated d.lanes d.journal ts n) fault.lane there.1 stated),
    )

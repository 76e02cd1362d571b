-- What passes from the reader of a part to the reader of the whole.
use Rattle.std.proofs.Common.{◌≡◌, Option, Some, None, Result, Ok, Err, refl, sym, subst}
use Rattle.std.specs.Option.{ok_or}
use Rattle.std.specs.Result.{OnOk}
use Rattle.rev_fields.specs.declared.faults.FaultKind.{FaultKind}
use Rattle.rev_fields.specs.declared.faults.FaultKind.TheVariants.{Syntax}
use Rattle.rev_fields.specs.declared.faults.LineFault.{LineFault}
use Rattle.rev_fields.specs.declared.faults.LineFault.TheVariants.{Memory, Kind}
use Rattle.rev_fields.specs.Faults.{Answers}

fault_of : {V W S T : Type 0} (fault : LineFault) (view : V → S) (whole_view : W → T) (said : Result S FaultKind) (whole : Result T FaultKind) → ((kind : FaultKind) → said ≡ Err kind → whole ≡ Err kind) → Answers (Err fault) view said → Answers (Err fault) whole_view whole
fault_of Memory view whole_view said whole follows h = tt
fault_of (Kind kind) view whole_view said whole follows h = follows kind h

-- a fault of a part, where it is one of the whole
pub fault_passes : {V W S T : Type 0} (r : Result W LineFault) (fault : LineFault) (view : V → S) (whole_view : W → T) (said : Result S FaultKind) (whole : Result T FaultKind) → r ≡ Err fault → ((kind : FaultKind) → said ≡ Err kind → whole ≡ Err kind) → Answers (Err fault) view said → Answers r whole_view whole
fault_passes {V} {W} {S} {T} r fault view whole_view said whole e follows h =
    let P : Result W LineFault → Type 0 = λ x. Answers x whole_view whole in
    subst P (sym e) (fault_of fault view whole_view said whole follows h)

pub some_from_ok_or : {T : Type 0} (o : Option T) (x : T) → ok_or o Syntax ≡ Ok x → o ≡ Some x
some_from_ok_or None x h = cc
some_from_ok_or (Some y) x h = cc

pub none_from_ok_or : {T : Type 0} (o : Option T) (kind : FaultKind) → ok_or o Syntax ≡ Err kind → (o ≡ None) × (kind ≡ Syntax)
none_from_ok_or None kind h = (refl, cc)
none_from_ok_or (Some y) kind h = let no : Ok y ≡ Err kind = h in (cc, cc)

-- what holds of a value also where what it follows from does
pub on_ok : {T E : Type 0} (r : Result T E) (P Q : Type 0) → (P → Q) → OnOk r P → OnOk r Q
on_ok (Ok x) P Q f h = f h
on_ok (Err e) P Q f h = h

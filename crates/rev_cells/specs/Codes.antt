-- Values as data, by the codes of the parts that they are made of.
use Rattle.std.specs.Prelude.{◌≡◌, ◌⊎◌, ℕ, ◌==◌, Bool, List, Option, if◌then◌else◌, refl}
use Rattle.std.proofs.Common.{inl, inr}
use Rattle.std.specs.Coded.{Coded, code_by, coded×, coded⊎, coded_list, coded_option, coded_bool, coded_ℕ}
use Rattle.rev_cells.specs.declared.mark.Mark.{Mark}
use Rattle.rev_cells.specs.declared.mark.Mark.TheVariants as mark
use Rattle.rev_cells.specs.declared.value.BuiltRecord.{BuiltRecord}
use Rattle.rev_cells.specs.declared.value.DepsRecord.{DepsRecord}
use Rattle.rev_cells.specs.declared.value.Value.{Value}
use Rattle.rev_cells.specs.declared.value.Value.TheVariants as value

-- what a mark carries: of a running edge its job, slot and seen stamp, of one that is done its positions, and of the
-- others which it is
abbrev pub MarkParts : Type 0
MarkParts = (ℕ × (Option ℕ × ℕ)) ⊎ (List ℕ ⊎ ℕ)

abbrev pub mark_parts : Mark → MarkParts
mark_parts (mark.Running job slot seen) = inl (job, (slot, seen))
mark_parts (mark.Done changed) = inr (inl changed)
mark_parts mark.Idle = inr (inr 0)
mark_parts mark.Wanted = inr (inr 1)
mark_parts mark.Through = inr (inr 2)
mark_parts mark.Clean = inr (inr 3)
mark_parts mark.Failed = inr (inr 4)
mark_parts mark.Stopped = inr (inr 5)

abbrev pub mark_numbered : ℕ → Mark
mark_numbered n =
    if n == 0 then mark.Idle else if n == 1 then mark.Wanted else if n == 2 then mark.Through else if n == 3
    then mark.Clean else if n == 4 then mark.Failed else mark.Stopped

abbrev pub mark_of_parts : MarkParts → Mark
mark_of_parts (inl p) = mark.Running p.0 p.1.0 p.1.1
mark_of_parts (inr (inl changed)) = mark.Done changed
mark_of_parts (inr (inr n)) = mark_numbered n

pub mark_of_parts-mark_parts : (m : Mark) → mark_of_parts (mark_parts m) ≡ m
mark_of_parts-mark_parts (mark.Running job slot seen) = refl
mark_of_parts-mark_parts (mark.Done changed) = refl
mark_of_parts-mark_parts mark.Idle = refl
mark_of_parts-mark_parts mark.Wanted = refl
mark_of_parts-mark_parts mark.Through = refl
mark_of_parts-mark_parts mark.Clean = refl
mark_of_parts-mark_parts mark.Failed = refl
mark_of_parts-mark_parts mark.Stopped = refl

abbrev pub coded_mark : Coded Mark
coded_mark =
    code_by MarkParts (coded⊎ (coded× coded_ℕ (coded× (coded_option coded_ℕ) coded_ℕ))
    (coded⊎ (coded_list coded_ℕ) coded_ℕ))
    mark_parts mark_of_parts mark_of_parts-mark_parts

abbrev pub coded_built : Coded BuiltRecord
coded_built = code_by (List ℕ × ℕ) (coded× (coded_list coded_ℕ) coded_ℕ) (λ b. (b.command, b.stamp)) (λ p. record { command = p.0; stamp = p.1 }) (λ _. refl)

abbrev pub coded_deps : Coded DepsRecord
coded_deps = code_by (ℕ × List (List ℕ)) (coded× coded_ℕ (coded_list (coded_list coded_ℕ))) (λ d. (d.stamp, d.paths)) (λ p. record { stamp = p.0; paths = p.1 }) (λ _. refl)

-- what a value carries, by its kind
abbrev pub ValueParts : Type 0
ValueParts = ℕ ⊎ (Mark ⊎ (Option ℕ ⊎ (Option ℕ ⊎ (Option ℕ ⊎ (Option BuiltRecord ⊎ (Option DepsRecord ⊎ Bool))))))

abbrev pub value_parts : Value → ValueParts
value_parts (value.Stamp stamp) = inl stamp
value_parts (value.Mark m) = inr (inl m)
value_parts (value.Job holder) = inr (inr (inl holder))
value_parts (value.Slot holder) = inr (inr (inr (inl holder)))
value_parts (value.Depth depth) = inr (inr (inr (inr (inl depth))))
value_parts (value.Built built) = inr (inr (inr (inr (inr (inl built)))))
value_parts (value.Deps deps) = inr (inr (inr (inr (inr (inr (inl deps))))))
value_parts (value.Halted halted) = inr (inr (inr (inr (inr (inr (inr halted))))))

abbrev pub value_of_parts : ValueParts → Value
value_of_parts (inl stamp) = value.Stamp stamp
value_of_parts (inr (inl m)) = value.Mark m
value_of_parts (inr (inr (inl holder))) = value.Job holder
value_of_parts (inr (inr (inr (inl holder)))) = value.Slot holder
value_of_parts (inr (inr (inr (inr (inl depth))))) = value.Depth depth
value_of_parts (inr (inr (inr (inr (inr (inl built)))))) = value.Built built
value_of_parts (inr (inr (inr (inr (inr (inr (inl deps))))))) = value.Deps deps
value_of_parts (inr (inr (inr (inr (inr (inr (inr halted))))))) = value.Halted halted

pub value_of_parts-value_parts : (v : Value) → value_of_parts (value_parts v) ≡ v
value_of_parts-value_parts (value.Stamp stamp) = refl
value_of_parts-value_parts (value.Mark m) = refl
value_of_parts-value_parts (value.Job holder) = refl
value_of_parts-value_parts (value.Slot holder) = refl
value_of_parts-value_parts (value.Depth depth) = refl
value_of_parts-value_parts (value.Built built) = refl
value_of_parts-value_parts (value.Deps deps) = refl
value_of_parts-value_parts (value.Halted halted) = refl

abbrev pub coded_value : Coded Value
coded_value =
    code_by ValueParts
    (coded⊎ coded_ℕ (coded⊎ coded_mark
    (coded⊎ (coded_option coded_ℕ)
    (coded⊎ (coded_option coded_ℕ)
    (coded⊎ (coded_option coded_ℕ)
    (coded⊎ (coded_option coded_built) (coded⊎ (coded_option coded_deps) coded_bool)))))))
    value_parts value_of_parts value_of_parts-value_parts

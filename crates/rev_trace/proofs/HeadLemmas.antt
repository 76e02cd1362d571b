-- Records in an opening.
use Rattle.std.proofs.Common.{◌≡◌, ℕ, Bool, true, false, ◌&&◌, cond, List, get_or, refl, sym, ap, ◌∙◌, Option, Some, Result, Ok, Err}
use Rattle.std.proofs.lemmas.Bool.{false_from_ne_true}
use Rattle.std.proofs.lemmas.Slice.Eq.{bytes_eq-Decides}
use Rattle.std.specs.List.{Contains}
use Rattle.std.specs.Str.{bytes_eq}
use Rattle.rev_cells.specs.declared.cell.Cell.{Cell}
use Rattle.rev_cells.specs.Keys.{cell_key, cell_of, cell_of-cell_key}
use Rattle.rev_cells.specs.Table.{Records}
use Rattle.std.specs.Result.{OnOk}
use Rattle.rev_cells.specs.declared.fault.OpeningFault.{OpeningFault}
use Rattle.rev_cells.specs.declared.fault.OpeningFault.TheVariants as refusal
use Rattle.rev_fields.specs.declared.faults.FaultKind.{FaultKind}
use Rattle.rev_fields.specs.declared.faults.FaultKind.TheVariants.{Syntax, DoubleRecord}
use Rattle.rev_fields.specs.declared.faults.LineFault.TheVariants as line
use Rattle.rev_fields.specs.Fields.{texts_of}
use Rattle.rev_fields.specs.Lines.{read_as}
use Rattle.rev_trace.specs.declared.record.Record.{Record}
use Rattle.rev_trace.specs.Heads.{record_fault}
use Rattle.rev_fields.proofs.ListLemmas.{list_any_true, place_of_any}
use Rattle.rev_trace.specs.Records.{HeadValue, double, gives_jobs, has_record, opening_wrong, record_line, record_of, record_wrong, said_wrong, texts_wrong}

cell_key-injective : (c d : Cell) → cell_key c ≡ cell_key d → c ≡ d
cell_key-injective c d e = sym (cell_of-cell_key c) ∙ ap cell_of e ∙ cell_of-cell_key d

-- a cell that has a place has a record
pub record_from_place : (opening : Records) (c : Cell) → Contains opening.places c → has_record opening c ≡ true
record_from_place opening c h =
    list_any_true (λ d. bytes_eq (cell_key c) (cell_key d)) opening.places h.0 c h.1 ((bytes_eq-Decides (cell_key c) (cell_key (get_or opening.places h.0 c))).1 (ap cell_key (sym h.2)))

-- and the other way round
pub place_from_record : (opening : Records) (c : Cell) → has_record opening c ≡ true → Contains opening.places c
place_from_record opening c h =
    let found = place_of_any (λ d. bytes_eq (cell_key c) (cell_key d)) opening.places c h in
    (found.0, found.1, sym (cell_key-injective c (get_or opening.places found.0 c) ((bytes_eq-Decides (cell_key c) (cell_key (get_or opening.places found.0 c))).0 found.2)))

pub no_record : (opening : Records) (c : Cell) → (Contains opening.places c → ⊥) → has_record opening c ≡ false
no_record opening c h = false_from_ne_true (has_record opening c) (λ e. h (place_from_record opening c e))

-- which refusal of a record is a fault of its line
pub double_from_fault : (refused : OpeningFault) (kind : FaultKind) → record_fault refused ≡ line.Kind kind → (refused ≡ refusal.BadJobs → ⊥) → (refused ≡ refusal.DoubleRecord) × (kind ≡ DoubleRecord)
double_from_fault refusal.Memory kind e no_jobs = absurd (let no : line.Memory ≡ line.Kind kind = e in cc)
double_from_fault refusal.BadJobs kind e no_jobs = absurd (no_jobs refl)
double_from_fault refusal.DoubleRecord kind e no_jobs = (refl, let same : line.Kind DoubleRecord ≡ line.Kind kind = e in cc)

-- what is wrong with a line that is a record of a cell
pub double_is : (head : HeadValue) (said record_said : Record) (c : Cell) (b : Bool) → said ≡ record_said → record_wrong head record_said ≡ double (has_record head.opening c) → has_record head.opening c ≡ b → record_wrong head said ≡ double b
double_is head said record_said c b is here has = ap (record_wrong head) is ∙ here ∙ ap double has

-- what is wrong with a line whose texts are these, which do not give the jobs a second time
pub wrong_by_record : (head : HeadValue) (texts : List (List ℕ)) (line : List ℕ) (r : Record) (o : Option FaultKind) → texts_of line ≡ Some texts → (head.has_jobs && gives_jobs texts) ≡ false → record_of texts ≡ Ok r → record_wrong head r ≡ o → opening_wrong head line ≡ o
wrong_by_record head texts line r o some once said wrong =
    ap (texts_wrong head) some ∙ ap (λ b. cond b (Some Syntax) (said_wrong head (record_of texts))) once ∙ ap (said_wrong head) said ∙ wrong

pub record_line_is : (texts : List (List ℕ)) (line : List ℕ) (r : Record) → texts_of line ≡ Some texts → record_of texts ≡ Ok r → record_line line ≡ Ok r
record_line_is texts line r some said = ap (read_as record_of) some ∙ said

-- two facts of a value
pub both_ok : {T E : Type 0} (r : Result T E) (P Q R : Type 0) → (P → Q → R) → OnOk r P → OnOk r Q → OnOk r R
both_ok (Ok x) P Q R f p q = f p q
both_ok (Err e) P Q R f p q = p

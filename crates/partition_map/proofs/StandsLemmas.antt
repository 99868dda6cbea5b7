-- A text stands for one value at most.
use Rattle.partition_map.specs.declared.error.PartError.{PartError}
use Rattle.std.proofs.Common.{Result, Ok, Err, IfOk, ◌≡◌, ℕ, ℤ, List, [], ◌∷◌, codes, false, Option, None, Some, sym, ap, ◌∙◌, ⊎_elim, ◌↔◌, IsTrue, FitsSigned, w32, to_z, subst, arith}
use Rattle.table_history.specs.declared.row.PartValue.{PartValue}
use Rattle.table_history.specs.declared.row.PartValue.TheVariants as value
use Rattle.partition_map.specs.declared.kind.PartKind.TheVariants as kind
use Rattle.partition_map.specs.Stands.{IsTextOf, IsTextOfSome, DeltaStands, HiveStands, IsDateText}
use Rattle.jiff_core.specs.Calendar.{IsEpochDay}
use Rattle.partition_map.proofs.DateLemmas.{day_range}
use Rattle.std.specs.Prelude.{nat_eq}
use Rattle.std.proofs.lemmas.Int.{ints}
use Rattle.std.proofs.lemmas.Bool.{false≢true, eqb-true, eq-eqb}
use mir.Val.{of_z}

pub spelled_same : (k : kind.the_data) (text : List ℕ) (v w : PartValue) → IsTextOf k text v → IsTextOf k text w → v ≡ w
spelled_same kind.Boolean text v w h h' =
    ⊎_elim
    (λ t. ⊎_elim (λ t'. t.1 ∙ sym t'.1) (λ f'. let wrong : codes "true" ≡ codes "false" = sym t.0 ∙ f'.0 in absurd cc) h')
    (λ f. ⊎_elim (λ t'. let wrong : codes "true" ≡ codes "false" = sym t'.0 ∙ f.0 in absurd cc) (λ f'. f.1 ∙ sym f'.1) h')
    h
spelled_same kind.Int text v w h h' = h.3 ∙ ap value.Int (h.1.value ∙ sym h'.1.value) ∙ sym h'.3
spelled_same kind.Long text v w h h' = h.3 ∙ ap value.Long (h.1.value ∙ sym h'.1.value) ∙ sym h'.3
spelled_same kind.Text text v w h h' = h ∙ sym h'
spelled_same kind.Date text v w h h' = h.2 ∙ ap value.Date (h.1.value ∙ sym h'.1.value) ∙ sym h'.2

pub delta_same : (k : kind.the_data) (text : Option (List ℕ)) (v w : PartValue) → DeltaStands k text v → DeltaStands k text w → v ≡ w
delta_same k None v w h h' = h ∙ sym h'
delta_same k (Some []) v w h h' = h ∙ sym h'
delta_same k (Some (c ∷ text)) v w h h' = spelled_same k (c ∷ text) v w h h'

-- what a reader gives is the only value that the text stands for
pub delta_only : (k : kind.the_data) (text : Option (List ℕ)) (r : Result PartValue PartError) → IfOk r (DeltaStands k text) → IfOk r (λ v. (w : PartValue) → DeltaStands k text w → w ≡ v)
delta_only k text (Ok v) h = λ w h'. delta_same k text w v h' h
delta_only k text (Err e) h = h

pub hive_same : (k : kind.the_data) (text : List ℕ) (v w : PartValue) → HiveStands k text v → HiveStands k text w → v ≡ w
hive_same k text v w h h' =
    ⊎_elim
    (λ a. ⊎_elim (λ b. a.1 ∙ sym b.1) (λ b. absurd (b.0 a.0)) h')
    (λ a. ⊎_elim (λ b. absurd (a.0 b.0)) (λ b. spelled_same k text v w a.2 b.2) h')
    h

-- ---- a date, compared with a day
date_fits : (text : List ℕ) (z : ℤ) → IsDateText text z → FitsSigned w32 z
date_fits text z h = let range : IsEpochDay z = day_range text z h in omega (arith, ints, range.0, range.1)

date_of : (k : kind.the_data) (text : List ℕ) (days : ℤ) → IsTextOf k text (value.Date days) → IsDateText text days
date_of kind.Boolean text days h = ⊎_elim (λ t. let e = t.1 in absurd cc) (λ f. let e = f.1 in absurd cc) h
date_of kind.Int text days h = let e = h.3 in absurd cc
date_of kind.Long text days h = let e = h.3 in absurd cc
date_of kind.Text text days h = absurd cc
date_of kind.Date text days h = let e = h.2 in let same : h.0 ≡ days = cc in subst (IsDateText text) same h.1

pub date_same : (text : List ℕ) (read days : ℤ) → FitsSigned w32 days → IsDateText text read → IsTrue (nat_eq (of_z w32 read) (of_z w32 days)) ↔ IsTextOfSome text (value.Date days)
date_same text read days fits is =
    let read_fits : FitsSigned w32 read = date_fits text read is in
    let back : to_z w32 (of_z w32 read) ≡ read = omega (arith, ints, read_fits) in
    let back' : to_z w32 (of_z w32 days) ≡ days = omega (arith, ints, fits) in (
      λ same. (kind.Date, (read, is, ap value.Date (sym (sym back ∙ ap (to_z w32) (eqb-true _ _ same) ∙ back')))),
      λ spelled. let other : IsDateText text days = date_of spelled.0 text days spelled.1 in eq-eqb _ _ (ap (of_z w32) (is.value ∙ sym other.value)),
    )

pub no_date : (text : List ℕ) (days : ℤ) → ((z : ℤ) → IsDateText text z → ⊥) → IsTrue false ↔ IsTextOfSome text (value.Date days)
no_date text days none = (λ f. absurd (false≢true f), λ spelled. absurd (none days (date_of spelled.0 text days spelled.1)))

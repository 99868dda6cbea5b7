-- What is answered of a store that never fails.
use Rattle.std.proofs.Common.{inl, inr, Result, Ok, Err, sym, ap, subst}
use Rattle.std.specs.Prelude.{IfErr, IsErrOf, OnOk}
use Rattle.lake_store.specs.Disk.{Files}
use Rattle.source_core.specs.Answers.{IsReadRefusal}
use Rattle.source_core.specs.declared.error.SourceError.{SourceError}
use Rattle.source_core.specs.declared.error.SourceError.TheVariants as source
use Rattle.source_delta.specs.Reading.{ShowsFromScratch}
use Rattle.table_history.specs.declared.kind.Kind.TheVariants.{Delta, Hudi, Iceberg}
use Rattle.target_hudi.specs.Inspecting as hudi
use Rattle.target_iceberg.specs.Inspecting as iceberg
use Rattle.target_sync.specs.declared.status.Status.{Status}
use Rattle.lake_play.specs.Drilled.{IsLookEnd, IsReadEnd, IsTableRefusal}

-- ---- results

pub on_ok_of : {A E : Type 0} {P : Type 0} (r : Result A E) → P → OnOk r P
on_ok_of (Ok x) p = p
on_ok_of (Err e) p = tt

pub if_err_weaker : {A E : Type 0} {P Q : E → Type 0} (r : Result A E) → ((e : E) → P e → Q e) → IfErr r P → IfErr r Q
if_err_weaker (Ok x) weaker is = tt
if_err_weaker (Err e) weaker is = weaker e is

-- ---- refusals

pub table_refused : {A : Type 0} (files : Files) (r : Result A SourceError) → IfErr r (IsReadRefusal (ShowsFromScratch files)) → (IsErrOf r source.StoreFault → ⊥) → IfErr r (IsTableRefusal files)
table_refused files (Ok x) refused works = tt
table_refused files (Err e) refused works = (inr refused, λ fault. works (ap (λ (x : SourceError). Err x) fault))

pub hudi_refused : (files : Files) (e : Status) → IsLookEnd Hudi (hudi.IsCrowded Delta files) e → IsReadEnd files e
hudi_refused files e (inl memory) = subst (IsReadEnd files) (sym memory) tt
hudi_refused files e (inr many) = subst (IsReadEnd files) (sym many.2) many.3

pub iceberg_refused : (files : Files) (e : Status) → IsLookEnd Iceberg (iceberg.IsCrowded Delta files) e → IsReadEnd files e
iceberg_refused files e (inl memory) = subst (IsReadEnd files) (sym memory) tt
iceberg_refused files e (inr many) = subst (IsReadEnd files) (sym many.2) many.3

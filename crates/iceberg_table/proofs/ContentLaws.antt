-- The rows of a manifest list are of data or of deletes.
use Rattle.std.proofs.Common.{◌≡◌, ◌⊎◌, ◌+◌, ℕ, ℤ, pos, Bool, true, false, List, [], ◌∷◌, Contains, Ok, sym, subst, inl, inr, ⊎_elim}
use Rattle.std.specs.Prelude.{if◌then◌else◌}
use Rattle.std.specs.Ordering.{int_eq}
use Rattle.lake_basics.proofs.Steps.{bind_ok, gave, given, ok_is}
use Rattle.avro_schema.specs.Tree.{SchemaTree}
use Rattle.avro_value.specs.ValueTree.{ValueTree}
use Rattle.table_history.proofs.RowListLemmas.{Contains-cases, Contains-none}
use Rattle.iceberg_manifest.specs.ListReading.{content_at, content_of, counts_at, info_of, infos_in, list_plan, list_row, list_rows, numbers_at}
use Rattle.iceberg_manifest.specs.ListWriting.{HasContent}
use Rattle.iceberg_manifest.specs.Lists.{AreEach}
use Rattle.iceberg_manifest.specs.Scans.{flaw_error, infos_of}
use Rattle.iceberg_manifest.specs.Values.{record_value, required_text, whole_or_zero}
use Rattle.iceberg_manifest.specs.declared.info.ManifestInfo.{ManifestInfo}
use Rattle.iceberg_manifest.proofs.KindLaws.{fault_ok}
use Rattle.iceberg_metadata.specs.declared.metadata.Metadata.{Metadata}
use Rattle.iceberg_table.specs.Lists.{AreRows, HaveContents, IsListed}
use Rattle.iceberg_table.specs.declared.list.ManifestFile.{ManifestFile}
use Rattle.iceberg_table.proofs.EachLaws.{each_back}

content_by : {E : Type 0} (fault : E) (a b : Bool) (c : ℤ) → (if a then gave ℤ E (pos 0) else (if b then gave ℤ E (pos 1) else given ℤ E fault)) ≡ Ok c → (c ≡ pos 0) ⊎ (c ≡ pos 1)
content_by fault true b c is = inl (sym (ok_is (pos 0) c is))
content_by fault false true c is = inr (sym (ok_is (pos 1) c is))
content_by fault false false c is = absurd (cc)

row_content : (plan : _) (place : ℕ) (v : ValueTree) (i : ManifestInfo) → list_row plan place v ≡ Ok i → HasContent i
unfolding list_row content_at info_of
row_content plan place v i is =
    let values = bind_ok (record_value v) _ i is in
    let path = bind_ok (required_text values.0 plan.path) _ i values.2 in
    let content = bind_ok (content_at plan values.0) _ i path.2 in
    let numbers = bind_ok (numbers_at plan values.0) _ i content.2 in
    let counts = bind_ok (counts_at content.0 plan.counts values.0) _ i numbers.2 in
    let word = bind_ok (whole_or_zero values.0 plan.content) content_of content.0 content.1 in
    subst HasContent (ok_is (info_of path.0 content.0 numbers.0 counts.0 place) i counts.2) (content_by _ (int_eq word.0 (pos 0)) (int_eq word.0 (pos 1)) content.0 word.2)

rows_content : (plan : _) (place : ℕ) (vs : List ValueTree) (infos : List ManifestInfo) → list_rows plan place vs ≡ Ok infos → (i : ManifestInfo) → Contains infos i → HasContent i
rows_content plan place [] infos read i there = absurd (Contains-none i (subst (λ (l : List ManifestInfo). Contains l i) (sym (ok_is [] infos read)) there))
rows_content plan place (v ∷ vs) infos read i there =
    let first = bind_ok (list_row plan place v) _ infos read in
    let others = bind_ok (list_rows plan (place + 1) vs) _ infos first.2 in
    ⊎_elim
    (λ same. subst HasContent same (row_content plan place v first.0 first.1))
    (λ later. rows_content plan (place + 1) vs others.0 others.1 i later)
    (Contains-cases first.0 others.0 i (subst (λ (l : List ManifestInfo). Contains l i) (sym (ok_is (first.0 ∷ others.0) infos others.2)) there))

infos_content : (t : SchemaTree) (vs : List ValueTree) (infos : List ManifestInfo) → infos_of t vs ≡ Ok infos → (i : ManifestInfo) → Contains infos i → HasContent i
unfolding infos_in
infos_content t vs infos read = let plan = bind_ok (list_plan t) _ infos (fault_ok flaw_error (infos_in t vs) infos read) in rows_content plan.0 0 vs infos plan.2

pub contents_listed : (m : Metadata) (bytes : List ℕ) (infos : List ManifestInfo) (list : List ManifestFile) → AreRows bytes infos → AreEach (IsListed m) infos list → HaveContents list
contents_listed m bytes infos list rows each = λ file there.
    let info = each_back (IsListed m) infos list file each there in
    subst HasContent (sym info.2.row) (infos_content rows.schema rows.values infos rows.read info.0 info.1)

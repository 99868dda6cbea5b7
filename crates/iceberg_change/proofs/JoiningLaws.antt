-- The manifests of a list, one more.
use Rattle.std.proofs.Common.{◌≡◌, ℕ, ℤ, List, [], ◌∷◌, ◌++◌, Option, None, Some, Result, Ok, Err, refl, sym, ap, subst, ◌∙◌, inl, inr, ⊎_elim, append_assoc, append-nil}
use Rattle.std.specs.Prelude.{OnOk, filter}
use Rattle.std.specs.List.Sorted.{IsPermutation}
use Rattle.std.proofs.lemmas.Grind.{flat_map-append}
use Rattle.std.proofs.lemmas.List.Sorted.{IsPermutation-append, IsPermutation-append_comm, IsPermutation-refl, IsPermutation-trans}
use Rattle.std.proofs.lemmas.List.Elements.{Contains-push_cases}
use Rattle.lake_store.specs.Disk.{Files}
use Rattle.table_history.specs.declared.row.FileRow.{FileRow}
use Rattle.table_history.proofs.RowListLemmas.{Contains-none}
use Rattle.iceberg_live.specs.Live.{IsInherited, IsRowOf}
use Rattle.iceberg_live.specs.LiveRows.{AreLiveRows}
use Rattle.iceberg_live.specs.declared.live.LiveRow.{LiveRow}
use Rattle.iceberg_manifest.specs.Entry.{EntryData, is_live}
use Rattle.iceberg_manifest.specs.Lists.{AreEach}
use Rattle.iceberg_manifest.specs.declared.partition.PartColumn.{PartColumn}
use Rattle.iceberg_table.specs.Counted.{Counts}
use Rattle.iceberg_table.specs.Kinds.{FitLive}
use Rattle.iceberg_table.specs.Manifests.{HasEntries, IsManifestOf, SaysManifest}
use Rattle.iceberg_table.specs.Tables.{rows_in, rows_of}
use Rattle.iceberg_table.specs.declared.list.ManifestFile.{ManifestFile}
use Rattle.iceberg_table.specs.declared.manifest.Manifest.{Manifest}
use Rattle.iceberg_change.specs.Behind.{AreFit, EachHeld, IsHeld, IsJoined, IsNextIn, NamesSame, held_rows, slot_rows}
use Rattle.iceberg_change.specs.declared.held.Held.{Held}
use Rattle.iceberg_change.specs.declared.joining.Joining.{Joining}

-- ---- a manifest under another row of a list

each_as : {A B : Type 0} (P Q : A → B → Type 0) → ((x : A) (y : B) → P x y → Q x y) → (xs : List A) (ys : List B) → AreEach P xs ys → AreEach Q xs ys
each_as P Q moved [] [] are = tt
each_as P Q moved [] (y ∷ ys) are = are
each_as P Q moved (x ∷ xs) [] are = are
each_as P Q moved (x ∷ xs) (y ∷ ys) are = (moved x y are.0, each_as P Q moved xs ys are.1)

module _ (files : Files) (location : List ℕ) (columns : List PartColumn) (was file : ManifestFile) (same : NamesSame was file) where
  row_moved : (e : EntryData) (r : LiveRow) → IsRowOf location was.info e r → IsRowOf location file.info e r
  row_moved e r is = record {
    live = is.live;
    place = is.place;
    path = is.path;
    values = is.values;
    count = is.count;
    size = is.size;
    snapshot = subst (λ (n : ℤ). IsInherited e.status e.snapshot n r.snapshot) same.snapshot is.snapshot;
    sequence = subst (λ (n : ℤ). IsInherited e.status e.sequence n r.sequence) same.sequence is.sequence;
    file_sequence = (is.file_sequence.0, subst (λ (n : ℤ). IsInherited e.status e.file_sequence n is.file_sequence.0) same.sequence is.file_sequence.1);
  }

  rows_moved : (entries : List EntryData) (rows : List LiveRow) → AreLiveRows location was.info entries rows → AreLiveRows location file.info entries rows
  rows_moved entries rows are = each_as (IsRowOf location was.info) (IsRowOf location file.info) row_moved (filter is_live entries) rows are

  entries_moved : (n : ℕ) (rows : List LiveRow) → HasEntries files location columns (record { file = was; entries = n; rows = rows }) → HasEntries files location columns (record { file = file; entries = n; rows = rows })
  entries_moved n rows is = record {
    entries = is.entries;
    says = subst (λ (p : List ℕ). SaysManifest files columns p is.entries) same.path is.says;
    only = λ others says. is.only others (subst (λ (p : List ℕ). SaysManifest files columns p others) (sym same.path) says);
    count = is.count;
    rows = rows_moved is.entries rows is.rows;
  }

  pub manifest_moved : (n : ℕ) (rows : List LiveRow) → IsManifestOf files location columns was (record { file = was; entries = n; rows = rows }) → IsManifestOf files location columns file (record { file = file; entries = n; rows = rows })
  manifest_moved n rows is = (
    refl,
    ⊎_elim
        (λ of. inl (sym same.content ∙ of.0, entries_moved n rows of.1))
        (λ of. inr ((λ zero. of.0 (same.content ∙ zero)), (of.1.0, entries_moved n of.1.0 of.1.1), of.2))
        is.1,
  )

-- ---- one manifest more

pub rows_push : (ms after : List Manifest) (m : Manifest) → after ≡ ms ++ m ∷ [] → rows_of after ≡ rows_of ms ++ rows_in m.rows
rows_push ms after m is = ap rows_of is ∙ flat_map-append (λ (r : Manifest). rows_in r.rows) ms (m ∷ []) ∙ ap (λ (l : List FileRow). rows_of ms ++ l) (append-nil (rows_in m.rows))

pub fit_more : (columns : List PartColumn) (ms after : List Manifest) (m : Manifest) → after ≡ ms ++ m ∷ [] → AreFit columns ms → FitLive columns m.rows → AreFit columns after
fit_more columns ms after m is fit one =
    subst (AreFit columns) (sym is) (λ r there. ⊎_elim (λ was. fit r was) (λ same. subst (λ (n : Manifest). FitLive columns n.rows) same one) (Contains-push_cases ms m r there))

pub joined_begins : (columns : List PartColumn) (j : Joining) → j.manifests ≡ [] → j.came.items ≡ [] → Counts [] j.counted → IsJoined columns (held_rows j.held) None j
joined_begins columns j none nothing counts = record {
  kept = [];
  split = IsPermutation-refl (held_rows j.held);
  whole = subst (λ (ms : List Manifest). IsPermutation (rows_of ms) ([] ++ j.came.items)) (sym none) (subst (λ (rows : List FileRow). IsPermutation [] rows) (sym nothing) (IsPermutation-refl []));
  fit = subst (AreFit columns) (sym none) (λ m there. absurd (Contains-none m there));
  counts = subst (λ (ms : List Manifest). Counts ms j.counted) (sym none) counts;
}

module _ (columns : List PartColumn) (rows : List FileRow) (old new : Joining) where
  -- a manifest is taken out of those that are held
  pub joined_taken : (taken : Option Manifest) → new.manifests ≡ old.manifests → new.came ≡ old.came → new.counted ≡ old.counted → IsPermutation (held_rows old.held) (slot_rows taken ++ held_rows new.held) → IsJoined columns rows None old → IsJoined columns rows taken new
  joined_taken taken manifests came counted left is = record {
    kept = is.kept;
    split = IsPermutation-trans rows (is.kept ++ held_rows old.held) (is.kept ++ (slot_rows taken ++ held_rows new.held)) is.split (IsPermutation-append is.kept is.kept (held_rows old.held) (slot_rows taken ++ held_rows new.held) (IsPermutation-refl is.kept) left);
    whole = subst (λ (ms : List Manifest). IsPermutation (rows_of ms) (is.kept ++ new.came.items)) (sym manifests) (subst (λ v. IsPermutation (rows_of old.manifests) (is.kept ++ v.items)) (sym came) is.whole);
    fit = subst (AreFit columns) (sym manifests) is.fit;
    counts = subst (λ (ms : List Manifest). Counts ms new.counted) (sym manifests) (subst (Counts old.manifests) (sym counted) is.counts);
  }

  -- and named by the list
  pub joined_kept : (taken m : Manifest) → rows_in m.rows ≡ rows_in taken.rows → new.manifests ≡ old.manifests ++ m ∷ [] → new.held ≡ old.held → new.came ≡ old.came → Counts new.manifests new.counted → FitLive columns m.rows → IsJoined columns rows (Some taken) old → IsJoined columns rows None new
  joined_kept taken m same manifests held came counts fit is =
      let more = rows_in taken.rows in
      let pushed : rows_of new.manifests ≡ rows_of old.manifests ++ more = rows_push old.manifests new.manifests m manifests ∙ ap (λ (l : List FileRow). rows_of old.manifests ++ l) same in
      record {
        kept = is.kept ++ more;
        split = subst (λ h. IsPermutation rows ((is.kept ++ more) ++ held_rows h)) (sym held) (subst (IsPermutation rows) (sym (append_assoc is.kept more (held_rows old.held))) is.split);
        whole =
            subst (λ v. IsPermutation (rows_of new.manifests) ((is.kept ++ more) ++ v.items)) (sym came)
            (subst (λ (l : List FileRow). IsPermutation l ((is.kept ++ more) ++ old.came.items)) (sym pushed)
            (IsPermutation-trans (rows_of old.manifests ++ more) ((is.kept ++ old.came.items) ++ more) ((is.kept ++ more) ++ old.came.items)
            (IsPermutation-append (rows_of old.manifests) (is.kept ++ old.came.items) more more is.whole (IsPermutation-refl more))
            (last_moved is.kept old.came.items more)));
        fit = fit_more columns old.manifests new.manifests m manifests is.fit fit;
        counts = counts;
      }
    where
      last_moved : (xs ys zs : List FileRow) → IsPermutation ((xs ++ ys) ++ zs) ((xs ++ zs) ++ ys)
      last_moved xs ys zs =
          subst (λ l. IsPermutation l ((xs ++ zs) ++ ys)) (sym (append_assoc xs ys zs))
          (subst (IsPermutation (xs ++ (ys ++ zs))) (sym (append_assoc xs zs ys)) (IsPermutation-append xs xs (ys ++ zs) (zs ++ ys) (IsPermutation-refl xs) (IsPermutation-append_comm ys zs)))

  -- the list names a manifest that wasn't held
  pub joined_new : (m : Manifest) → new.manifests ≡ old.manifests ++ m ∷ [] → new.held ≡ old.held → new.came.items ≡ old.came.items ++ rows_in m.rows → Counts new.manifests new.counted → FitLive columns m.rows → IsJoined columns rows None old → IsJoined columns rows None new
  joined_new m manifests held came counts fit is =
      let more = rows_in m.rows in
      record {
        kept = is.kept;
        split = subst (λ h. IsPermutation rows (is.kept ++ held_rows h)) (sym held) is.split;
        whole =
            subst (λ (l : List FileRow). IsPermutation (rows_of new.manifests) (is.kept ++ l)) (sym came)
            (subst (λ (l : List FileRow). IsPermutation l (is.kept ++ (old.came.items ++ more))) (sym (rows_push old.manifests new.manifests m manifests))
            (subst (IsPermutation (rows_of old.manifests ++ more)) (append_assoc is.kept old.came.items more) (IsPermutation-append (rows_of old.manifests) (is.kept ++ old.came.items) more more is.whole (IsPermutation-refl more))));
        fit = fit_more columns old.manifests new.manifests m manifests is.fit fit;
        counts = counts;
      }

pub joins_new : {A E : Type 0} (columns : List PartColumn) (rows : List FileRow) (old mid new : Joining) (m : Manifest) (r : Result A E)
    → OnOk r (new.manifests ≡ old.manifests ++ m ∷ []) → OnOk r (new.held ≡ old.held) → OnOk r (new.came ≡ mid.came) → mid.came.items ≡ old.came.items ++ rows_in m.rows
    → OnOk r (Counts new.manifests new.counted) → FitLive columns m.rows → IsJoined columns rows None old → OnOk r (IsJoined columns rows None new)
joins_new columns rows old mid new m (Ok a) manifests held came put counts fit is = joined_new columns rows old new m manifests held (ap (λ v. v.items) came ∙ put) counts fit is
joins_new columns rows old mid new m (Err e) manifests held came put counts fit is = tt

-- ---- what is held further

pub holds_left : (P : Manifest → Type 0) (old new : Held) → ((m : Manifest) → IsHeld new m → IsHeld old m) → EachHeld P old → EachHeld P new
holds_left P old new left each = λ m there. each m (left m there)

pub held_same : {A E : Type 0} (P : Held → Type 0) (h k : Held) (r : Result A E) → OnOk r (k ≡ h) → P h → OnOk r (P k)
held_same P h k (Ok a) same is = subst P (sym same) is
held_same P h k (Err e) same is = tt

pub next_as : {A E : Type 0} (files : Files) (location : List ℕ) (columns : List PartColumn) (file : ManifestFile) (a b new : Joining) (r : Result A E) → a.manifests ≡ b.manifests → OnOk r (IsNextIn files location columns file a new) → OnOk r (IsNextIn files location columns file b new)
next_as files location columns file a b new (Ok x) same next = record { manifest = next.manifest; manifests = next.manifests ∙ ap (λ (l : List Manifest). l ++ next.manifest ∷ []) same; is = next.is }
next_as files location columns file a b new (Err e) same next = tt

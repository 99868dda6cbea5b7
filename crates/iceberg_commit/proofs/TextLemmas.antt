-- The rows of a new list and the texts of its new manifests, one manifest more.
use Rattle.std.proofs.Common.{◌≡◌, ℕ, Bor, Vec, Global, zero, suc, ◌+◌, ◌<◌, List, [], ◌∷◌, ◌++◌, map, length, take, get_or, Contains, refl, sym, ap, subst, ◌∙◌, arith}
use Rattle.std.specs.List.{All}
use Rattle.std.proofs.lemmas.List.Elements.{All-push}
use Rattle.std.proofs.lemmas.List.{length-append, length-map, map-append, take_more}
use Rattle.iceberg_manifest.specs.Entry.{EntryData}
use Rattle.iceberg_manifest.specs.Lists.{AreEach}
use Rattle.iceberg_manifest.specs.declared.info.ManifestInfo.{ManifestInfo}
use Rattle.file_links.specs.Rows.{rows_of as owned_rows}
use Rattle.file_links.specs.declared.slots.Held.{Held}
use Rattle.std.specs.Prelude.{◌^◌, ◌≤◌, ℤ, pos, IfErr, IfOk, IsErrAnd, IsSome, OnOk, Option, Some, Result, Ok, Err, slice_get}
use Rattle.std.proofs.lemmas.Option.{get_or_from_slice_get, slice_get_within}
use Rattle.table_history.specs.Row.{Row}
use Rattle.iceberg_metadata.specs.Judging.{metadata_of as read_metadata}
use Rattle.iceberg_metadata.specs.Writing.{SameMetadata, metadata_text}
use Rattle.iceberg_metadata.specs.declared.metadata.Metadata.{Metadata}
use Rattle.iceberg_manifest.specs.declared.partition.PartColumn.{PartColumn}
use Rattle.iceberg_version.specs.Carrying.{parts_at, rows_at}
use Rattle.iceberg_version.specs.KeptEnd.{held_rows, live_manifest}
use Rattle.iceberg_version.specs.declared.kept.KeptManifest.{KeptManifest}
use Rattle.iceberg_version.specs.declared.carrying.Next.TheVariants.{Added, Anew, Stays}
use Rattle.iceberg_version.proofs.CarryingLemmas.{kept_there}
use Rattle.iceberg_version.proofs.ListLemmas.{mapped_at}
use Rattle.avro_container.specs.Writing.{IsWritten as IsContainerWritten}
use Rattle.iceberg_manifest.specs.Containers.{StandsFor}
use Rattle.iceberg_manifest.specs.ListWriting.{info_tree, list_meta, marker}
use Rattle.iceberg_manifest.specs.ManifestWriting.{entry_tree, manifest_meta}
use Rattle.iceberg_manifest.specs.Scans.{entries_of as entries_by, infos_of as rows_by}
use Rattle.iceberg_manifest.specs.WrittenTypes.{list_type, manifest_type}
use Rattle.iceberg_manifest_writing.specs.RowEntries.{entry_in}
use Rattle.iceberg_manifest_writing.specs.declared.row_entry.RowEntry.{RowEntry}
use Rattle.lake_basics.specs.declared.limits.TheConstants.{MAX_AVRO_VALUES, MAX_FILE_BYTES}
use Rattle.table_history.specs.declared.limit.LimitKind.TheVariants.{File}
use Rattle.iceberg_table.proofs.EachLaws.{each_push}
use Rattle.target_core.specs.declared.target.TargetError.{TargetError}
use Rattle.target_core.specs.declared.target.TargetError.TheVariants.{Contested, Limit, Memory, StoreFault, Unsupported}
use Rattle.iceberg_version.specs.Writing.{IsLong, spec_json}
use Rattle.iceberg_version.specs.Manifests.{AreListed, IsInfoOf, LiveManifest, NextManifest, added_entry, added_manifest, born_at, left, new, new_entries, stays, with_place}
use Rattle.iceberg_version.specs.Manifests.{rewritten_entries as anew}
use Rattle.iceberg_commit.specs.Texts.{Adds, AddsKept, AddsNew, AreTexts, CanBeMade, HasOwners, IsListOf, IsMadeOf, IsMetadataIn, IsShort, IsTextAmong, IsTextIn, IsTextOfNext, IsTextRefusal, IsWritableIn}
use Rattle.iceberg_version.specs.declared.before.Before.{Before}
use Rattle.iceberg_version.specs.declared.carrying.Next.{Next}
use Rattle.iceberg_version.specs.declared.layout.Layout.{Layout}
use Rattle.iceberg_commit.specs.declared.new_list.NewList.{NewList}

-- ---- pairs, one by one

-- the last pair and those before it
pub record Split {A B : Type 0} (P : A → B → Type 0) (xs : List A) (x : A) (zs : List B) : Type 0 where
  pub front : List B
  pub last : B
  pub joined : zs ≡ front ++ last ∷ []
  pub before : AreEach P xs front
  pub is : P x last

pub each_split : {A B : Type 0} (P : A → B → Type 0) (xs : List A) (x : A) (zs : List B) → AreEach P (xs ++ x ∷ []) zs → Split P xs x zs
each_split P [] x [] are = absurd are
each_split P [] x (z ∷ []) are = record { front = []; last = z; joined = refl; before = tt; is = are.0 }
each_split P [] x (z ∷ (w ∷ zs)) are = absurd are.1
each_split P (y ∷ xs) x [] are = absurd are
each_split P (y ∷ xs) x (z ∷ zs) are =
    let rest = each_split P xs x zs are.1 in
    record { front = z ∷ rest.front; last = rest.last; joined = ap (λ l. z ∷ l) rest.joined; before = (are.0, rest.before); is = rest.is }

-- ---- the list

pub listed_lengths : (front : List ℕ) (version place number : ℕ) (ms : List NextManifest) (ts : List (List ℕ)) (ls : List LiveManifest) → AreListed front version place number ms ts ls → (length ls ≡ length ms) × (length ts ≡ length (new_entries ms))
listed_lengths front version place number [] [] [] are = (refl, refl)
listed_lengths front version place number [] [] (l ∷ ls) are = absurd are
listed_lengths front version place number [] (t ∷ ts) ls are = absurd are
listed_lengths front version place number (stays m ∷ ms) ts [] are = absurd are
listed_lengths front version place number (stays m ∷ ms) ts (l ∷ ls) are = let rest = listed_lengths front version (place + 1) number ms ts ls are.1 in (ap suc rest.0, rest.1)
listed_lengths front version place number (new es rows ∷ ms) [] ls are = absurd are
listed_lengths front version place number (new es rows ∷ ms) (t ∷ ts) [] are = absurd are
listed_lengths front version place number (new es rows ∷ ms) (t ∷ ts) (l ∷ ls) are = let rest = listed_lengths front version (place + 1) (number + 1) ms ts ls are.2 in (ap suc rest.0, ap suc rest.1)

moved : LiveManifest → ℕ → LiveManifest
moved m place = record m { info = with_place m.info place }

listed_kept : (front : List ℕ) (version place number : ℕ) (ms : List NextManifest) (ts : List (List ℕ)) (ls : List LiveManifest) (m : LiveManifest) (at : ℕ) → at ≡ place + length ls → AreListed front version place number ms ts ls → AreListed front version place number (ms ++ stays m ∷ []) ts (ls ++ moved m at ∷ [])
unfolding moved
listed_kept front version place number [] [] [] m at is are = let here : at ≡ place = omega arith in (ap (λ (p : ℕ). record m { info = with_place m.info p }) here, tt)
listed_kept front version place number [] [] (l ∷ ls) m at is are = absurd are
listed_kept front version place number [] (t ∷ ts) ls m at is are = absurd are
listed_kept front version place number (stays n ∷ ms) ts [] m at is are = absurd are
listed_kept front version place number (stays n ∷ ms) ts (l ∷ ls) m at is are = (are.0, listed_kept front version (place + 1) number ms ts ls m at (omega arith) are.1)
listed_kept front version place number (new es rows ∷ ms) [] ls m at is are = absurd are
listed_kept front version place number (new es rows ∷ ms) (t ∷ ts) [] m at is are = absurd are
listed_kept front version place number (new es rows ∷ ms) (t ∷ ts) (l ∷ ls) m at is are = (are.0, are.1, listed_kept front version (place + 1) (number + 1) ms ts ls m at (omega arith) are.2)

listed_new : (front : List ℕ) (version place number : ℕ) (ms : List NextManifest) (ts : List (List ℕ)) (ls : List LiveManifest) (es : List EntryData) (rows : List Held) (bytes : List ℕ) (info : ManifestInfo) (k at : ℕ) → k ≡ number + length ts → at ≡ place + length ls → IsInfoOf front version k es bytes at info → AreListed front version place number ms ts ls → AreListed front version place number (ms ++ new es rows ∷ []) (ts ++ bytes ∷ []) (ls ++ record { info = info; rows = rows } ∷ [])
listed_new front version place number [] [] [] es rows bytes info k at of is says are =
    let one : k ≡ number = omega arith in
    let two : at ≡ place = omega arith in
    (refl, subst (λ (p : ℕ). IsInfoOf front version number es bytes p info) two (subst (λ (n : ℕ). IsInfoOf front version n es bytes at info) one says), tt)
listed_new front version place number [] [] (l ∷ ls) es rows bytes info k at of is says are = absurd are
listed_new front version place number [] (t ∷ ts) ls es rows bytes info k at of is says are = absurd are
listed_new front version place number (stays n ∷ ms) ts [] es rows bytes info k at of is says are = absurd are
listed_new front version place number (stays n ∷ ms) ts (l ∷ ls) es rows bytes info k at of is says are = (are.0, listed_new front version (place + 1) number ms ts ls es rows bytes info k at of (omega arith) says are.1)
listed_new front version place number (new fs held ∷ ms) [] ls es rows bytes info k at of is says are = absurd are
listed_new front version place number (new fs held ∷ ms) (t ∷ ts) [] es rows bytes info k at of is says are = absurd are
listed_new front version place number (new fs held ∷ ms) (t ∷ ts) (l ∷ ls) es rows bytes info k at of is says are = (are.0, are.1, listed_new front version (place + 1) (number + 1) ms ts ls es rows bytes info k at (omega arith) (omega arith) says are.2)

entries_kept : (ms : List NextManifest) (m : LiveManifest) → new_entries (ms ++ stays m ∷ []) ≡ new_entries ms
entries_kept [] m = refl
entries_kept (stays n ∷ ms) m = entries_kept ms m
entries_kept (new es rows ∷ ms) m = ap (λ l. es ∷ l) (entries_kept ms m)

entries_new : (ms : List NextManifest) (es : List EntryData) (rows : List Held) → new_entries (ms ++ new es rows ∷ []) ≡ new_entries ms ++ es ∷ []
entries_new [] es rows = refl
entries_new (stays n ∷ ms) es rows = entries_new ms es rows
entries_new (new fs held ∷ ms) es rows = ap (λ l. fs ∷ l) (entries_new ms es rows)

-- ---- what has come

infos_of : List LiveManifest → List ManifestInfo
infos_of ls = map (λ (l : LiveManifest). l.info) ls

infos_push : (ls : List LiveManifest) (l : LiveManifest) → map (λ (x : LiveManifest). x.info) (ls ++ l ∷ []) ≡ map (λ (x : LiveManifest). x.info) ls ++ l.info ∷ []
infos_push ls l = map-append (λ (x : LiveManifest). x.info) ls (l ∷ [])

pub text_more : (layout : Layout) (ms : List NextManifest) (m : NextManifest) (old now : NewList) → AreTexts layout ms old → Adds layout m old now → AreTexts layout (ms ++ m ∷ []) now
unfolding moved
text_more layout ms (stays m) old now texts adds =
    let place = length old.infos.items in
    let at : place ≡ 0 + length texts.listed = ap length texts.infos ∙ length-map texts.listed (λ (l : LiveManifest). l.info) ∙ (let e : length texts.listed ≡ 0 + length texts.listed = omega arith in e) in
    record {
      listed = texts.listed ++ moved m place ∷ [];
      infos = adds.infos ∙ ap (λ (l : List ManifestInfo). l ++ with_place m.info place ∷ []) texts.infos ∙ sym (infos_push texts.listed (moved m place));
      are = subst (λ (ts : List (List ℕ)). AreListed layout.front layout.version 0 0 (ms ++ stays m ∷ []) ts (texts.listed ++ moved m place ∷ [])) (sym adds.manifests) (listed_kept layout.front layout.version 0 0 ms old.manifests.items texts.listed m place at texts.are);
      each = subst (λ (ts : List (List ℕ)). AreEach (IsTextIn layout) (new_entries (ms ++ stays m ∷ [])) ts) (sym adds.manifests) (subst (λ (es : List (List EntryData)). AreEach (IsTextIn layout) es old.manifests.items) (sym (entries_kept ms m)) texts.each);
      short = subst (λ (ts : List (List ℕ)). All IsShort ts) (sym adds.manifests) texts.short;
    }
text_more layout ms (new es rows) old now texts adds =
    let place = length old.infos.items in
    let number = length old.manifests.items in
    let at : place ≡ 0 + length texts.listed = ap length texts.infos ∙ length-map texts.listed (λ (l : LiveManifest). l.info) ∙ (let e : length texts.listed ≡ 0 + length texts.listed = omega arith in e) in
    let one : LiveManifest = record { info = adds.info; rows = rows } in
    record {
      listed = texts.listed ++ one ∷ [];
      infos = adds.infos ∙ ap (λ (l : List ManifestInfo). l ++ adds.info ∷ []) texts.infos ∙ sym (infos_push texts.listed one);
      are = subst (λ (ts : List (List ℕ)). AreListed layout.front layout.version 0 0 (ms ++ new es rows ∷ []) ts (texts.listed ++ one ∷ [])) (sym adds.manifests) (listed_new layout.front layout.version 0 0 ms old.manifests.items texts.listed es rows adds.bytes adds.info number place (omega arith) at adds.info_is texts.are);
      each = subst (λ (ts : List (List ℕ)). AreEach (IsTextIn layout) (new_entries (ms ++ new es rows ∷ [])) ts) (sym adds.manifests) (subst (λ (fs : List (List EntryData)). AreEach (IsTextIn layout) fs (old.manifests.items ++ adds.bytes ∷ [])) (sym (entries_new ms es rows)) (each_push (IsTextIn layout) (new_entries ms) old.manifests.items es adds.bytes texts.each adds.text));
      short = subst (λ (ts : List (List ℕ)). All IsShort ts) (sym adds.manifests) (All-push IsShort old.manifests.items adds.bytes texts.short adds.short);
    }

pub one_longer : (layout : Layout) (m : NextManifest) (old now : NewList) → Adds layout m old now → length now.infos.items ≡ length old.infos.items + 1
one_longer layout (stays m) old now adds = ap length adds.infos ∙ length-append old.infos.items (with_place m.info (length old.infos.items) ∷ [])
one_longer layout (new es rows) old now adds = ap length adds.infos ∙ length-append old.infos.items (adds.info ∷ [])

-- ---- the loop

-- so many of these have come
pub record HaveCome (layout : Layout) (before : Before) (next : List Next) (i : ℕ) (list : NewList) : Type 0 where
  pub count : length list.infos.items ≡ i
  pub texts : (ms : List NextManifest) → AreEach (IsMadeOf layout before) (take i next) ms → AreTexts layout ms list

pub more_come : (layout : Layout) (before : Before) (next : List Next) (i : ℕ) (one : Next) (old now : NewList) → i < length next → one ≡ get_or next i one → CanBeMade layout before one → ((m : NextManifest) → IsMadeOf layout before one m → Adds layout m old now) → HaveCome layout before next i old → HaveCome layout before next (i + 1) now
more_come layout before next i one old now within at can adds come = record {
  count = one_longer layout can.made old now (adds can.made can.of) ∙ ap (λ (n : ℕ). n + 1) come.count;
  texts = λ ms are.
      let more : take (i + 1) next ≡ take i next ++ one ∷ [] = take_more next i one within ∙ ap (λ (n : Next). take i next ++ n ∷ []) (sym at) in
      let s = each_split (IsMadeOf layout before) (take i next) one ms (subst (λ (ns : List Next). AreEach (IsMadeOf layout before) ns ms) more are) in
      subst (λ (ns : List NextManifest). AreTexts layout ns now) (sym s.joined) (text_more layout s.front s.last old now (come.texts s.front s.before) (adds s.last s.is));
}

-- ---- a text within the limit

pub kept_is : {E : Type 0} (r : Result (List ℕ) E) (bytes : List ℕ) (P : List ℕ → Type 0) → IfOk r (λ kept. kept ≡ bytes) → P bytes → IfOk r P
kept_is (Ok kept) bytes P same is = subst P (sym same) is
kept_is (Err e) bytes P same is = tt

pub long_is : (r : Result (List ℕ) TargetError) (bytes : List ℕ) (P : List ℕ → Type 0) → IfErr r (λ e. (e ≡ Limit File MAX_FILE_BYTES) × IsLong bytes) → P bytes → IfErr r (IsTextRefusal P)
long_is (Ok kept) bytes P told is = tt
long_is (Err e) bytes P told is = subst (IsTextRefusal P) (sym told.0) (refl, refl, (bytes, is, told.1))

pub text_in : (layout : Layout) (entries : List EntryData) (bytes : List ℕ) (columns : List PartColumn) (id : ℤ) → columns ≡ layout.columns.items → id ≡ layout.schema.now.0 → IsContainerWritten MAX_AVRO_VALUES bytes (manifest_meta layout.schema_text id layout.fields_text) (manifest_type columns layout.partition.now) marker (map entry_tree entries) → StandsFor MAX_AVRO_VALUES (entries_by columns) bytes entries → IsTextIn layout entries bytes
text_in layout entries bytes columns id same numbered written back = record {
  written =
      subst (λ (s : List ℕ). IsContainerWritten MAX_AVRO_VALUES bytes (manifest_meta s layout.schema.now.0 (spec_json layout.fields.now)) (manifest_type layout.columns.items layout.partition.now) marker (map entry_tree entries)) layout.schema_is
      (subst (λ (t : List ℕ). IsContainerWritten MAX_AVRO_VALUES bytes (manifest_meta layout.schema_text layout.schema.now.0 t) (manifest_type layout.columns.items layout.partition.now) marker (map entry_tree entries)) layout.fields_are
      (subst (λ (cs : List PartColumn). IsContainerWritten MAX_AVRO_VALUES bytes (manifest_meta layout.schema_text layout.schema.now.0 layout.fields_text) (manifest_type cs layout.partition.now) marker (map entry_tree entries)) same
      (subst (λ (n : ℤ). IsContainerWritten MAX_AVRO_VALUES bytes (manifest_meta layout.schema_text n layout.fields_text) (manifest_type columns layout.partition.now) marker (map entry_tree entries)) numbered written)));
  reads_back = subst (λ (cs : List PartColumn). StandsFor MAX_AVRO_VALUES (entries_by cs) bytes entries) same back;
}

pub list_in : (infos : List ManifestInfo) (version : ℕ) (parent : Option ℤ) (bytes : List ℕ) (snapshot : ℤ) → snapshot ≡ pos version → IsContainerWritten MAX_AVRO_VALUES bytes (list_meta snapshot parent snapshot) list_type marker (map info_tree infos) → StandsFor MAX_AVRO_VALUES rows_by bytes infos → IsListOf infos version parent bytes
list_in infos version parent bytes snapshot same written back = record {
  written = subst (λ (n : ℤ). IsContainerWritten MAX_AVRO_VALUES bytes (list_meta n parent n) list_type marker (map info_tree infos)) same written;
  reads_back = back;
}

pub metadata_in : (m : Metadata) (bytes : List ℕ) → bytes ≡ metadata_text m → (again : Metadata) × (read_metadata bytes ≡ Ok again) × SameMetadata m again → IsMetadataIn m bytes
metadata_in m bytes written back = record { written = written; again = back.0; reads_back = back.1; same = back.2 }

-- ---- the entries

pub owner_in : (before : Before) (place : ℕ) (m : KeptManifest) → HasOwners before → place < length before.manifests.now → m ≡ get_or before.manifests.now place m → IsSome (owned_rows before.links.now m.owner)
owner_in before place m owners within at = owners.there m (kept_there before.manifests.now place m within at)

pub born_in : (before : Before) (place : ℕ) (m : KeptManifest) → HasOwners before → place < length before.manifests.now → m ≡ get_or before.manifests.now place m → (row : Held) → Contains (held_rows before.links.now m.owner) row → row.born < 2 ^ 63
born_in before place m owners within at row there = owners.born m row (kept_there before.manifests.now place m within at) there

pub kept_at : {A : Type 0} (xs : List A) (place : ℕ) (x y : A) → x ≡ get_or xs place x → slice_get xs place ≡ Some y → x ≡ y
kept_at xs place x y at is = at ∙ get_or_from_slice_get xs place y x is

pub anew_is : {E : Type 0} (r : Result (Vec RowEntry Global) E) (layout : Layout) (before : Before) (place : ℕ) (m : KeptManifest) → m ≡ get_or before.manifests.now place m → IfOk r (λ entries. (front : List ℕ) → map (entry_in front) entries.items ≡ anew front layout.version before.removed.now (held_rows before.links.now m.owner)) → IfOk r (λ entries. (k : KeptManifest) → slice_get before.manifests.now place ≡ Some k → map (entry_in layout.front) entries.items ≡ anew layout.front layout.version before.removed.now (held_rows before.links.now k.owner))
anew_is (Err e) layout before place m at told = tt
anew_is (Ok entries) layout before place m at told = λ k is.
    told layout.front ∙ ap (λ (x : KeptManifest). anew layout.front layout.version before.removed.now (held_rows before.links.now x.owner)) (kept_at before.manifests.now place m k at is)

pub added_is : {E : Type 0} (r : Result (Vec RowEntry Global) E) (layout : Layout) (before : Before) (place : ℕ) (part : Bor (List (Bor Row))) → part ≡ get_or before.parts.now place part → IfOk r (λ entries. (front : List ℕ) → map (entry_in front) entries.items ≡ map (added_entry front layout.version) (map (λ r. r.now) part.now)) → IfOk r (λ entries. (rows : List Row) → slice_get (parts_at before.parts.now) place ≡ Some rows → map (entry_in layout.front) entries.items ≡ map (added_entry layout.front layout.version) rows)
added_is (Err e) layout before place part at told = tt
added_is (Ok entries) layout before place part at told = λ rows is.
    let k = mapped_at rows_at before.parts.now place rows is in
    told layout.front ∙ ap (map (added_entry layout.front layout.version)) (ap rows_at (kept_at before.parts.now place part k.0 at k.1) ∙ k.2)

-- ---- one manifest

-- the row of a new manifest behind the others
pub info_behind : (layout : Layout) (entries : List EntryData) (bytes : List ℕ) (list : NewList) (number place : ℕ) (info : ManifestInfo) → number ≡ length list.manifests.items → place ≡ length list.infos.items → IsInfoOf layout.front layout.version number entries bytes place info → IsInfoOf layout.front layout.version (length list.manifests.items) entries bytes (length list.infos.items) info
info_behind layout entries bytes list number place info counted at told =
    subst (λ (n : ℕ). IsInfoOf layout.front layout.version n entries bytes (length list.infos.items) info) counted (subst (λ (p : ℕ). IsInfoOf layout.front layout.version number entries bytes p info) at told)

-- a place has one element
one_at : {A : Type 0} (xs : List A) (place : ℕ) (x y : A) → slice_get xs place ≡ Some x → slice_get xs place ≡ Some y → x ≡ y
one_at xs place x y a b = let q : Some x ≡ Some y = sym a ∙ b in cc

-- one manifest is made of it
pub one_made : (layout : Layout) (before : Before) (next : Next) (a b : NextManifest) → IsMadeOf layout before next a → IsMadeOf layout before next b → a ≡ b
one_made layout before (Stays place) a b x y = x.2 ∙ ap stays (one_at (map (live_manifest before.links.now) before.manifests.now) place x.0 y.0 x.1 y.1) ∙ sym y.2
one_made layout before (Anew place) a b x y =
    let removed = before.removed.now in
    x.2 ∙ ap (λ (m : LiveManifest). new (anew layout.front layout.version removed m.rows) (left removed m.rows)) (one_at (map (live_manifest before.links.now) before.manifests.now) place x.0 y.0 x.1 y.1) ∙ sym y.2
one_made layout before (Added place) a b x y = x.2 ∙ ap (added_manifest layout.front layout.version) (one_at (parts_at before.parts.now) place x.0 y.0 x.1 y.1) ∙ sym y.2

-- the entries are those of the new manifest that is made of it
pub MadeNew : Layout → Before → Next → List EntryData → Type 0
MadeNew layout before next entries = (rows : List Held) × IsMadeOf layout before next (new entries rows)

pub made_anew : (layout : Layout) (before : Before) (next : Next) (place : ℕ) (entries : List EntryData) → next ≡ Anew place → CanBeMade layout before next → ((m : KeptManifest) → slice_get before.manifests.now place ≡ Some m → entries ≡ anew layout.front layout.version before.removed.now (held_rows before.links.now m.owner)) → MadeNew layout before next entries
unfolding MadeNew
made_anew layout before next place entries is can told =
    let removed = before.removed.now in
    let of : IsMadeOf layout before (Anew place) can.made = subst (λ (n : Next). IsMadeOf layout before n can.made) is can.of in
    let k = mapped_at (live_manifest before.links.now) before.manifests.now place of.0 of.1 in
    let same : entries ≡ anew layout.front layout.version removed of.0.rows = told k.0 k.1 ∙ ap (λ (x : LiveManifest). anew layout.front layout.version removed x.rows) k.2 in
    let rows : List Held = left removed of.0.rows in
    (rows, subst (λ (n : Next). IsMadeOf layout before n (new entries rows)) (sym is) (of.0, of.1, ap (λ (es : List EntryData). new es rows) same))

pub made_added : (layout : Layout) (before : Before) (next : Next) (place : ℕ) (entries : List EntryData) → next ≡ Added place → CanBeMade layout before next → ((rows : List Row) → slice_get (parts_at before.parts.now) place ≡ Some rows → entries ≡ map (added_entry layout.front layout.version) rows) → MadeNew layout before next entries
unfolding MadeNew
made_added layout before next place entries is can told =
    let of : IsMadeOf layout before (Added place) can.made = subst (λ (n : Next). IsMadeOf layout before n can.made) is can.of in
    let rows : List Held = map (born_at layout.version) of.0 in
    (rows, subst (λ (n : Next). IsMadeOf layout before n (new entries rows)) (sym is) (of.0, of.1, ap (λ (es : List EntryData). new es rows) (told of.0 of.1)))

pub part_within : (layout : Layout) (before : Before) (next : Next) (place : ℕ) → next ≡ Added place → CanBeMade layout before next → place < length before.parts.now
part_within layout before next place is can =
    let of : IsMadeOf layout before (Added place) can.made = subst (λ (n : Next). IsMadeOf layout before n can.made) is can.of in
    subst (λ (n : ℕ). place < n) (length-map before.parts.now rows_at) (slice_get_within (parts_at before.parts.now) place of.0 of.1)

pub made_written : (layout : Layout) (before : Before) (next : Next) (entries same : List EntryData) → CanBeMade layout before next → MadeNew layout before next entries → same ≡ entries → IsWritableIn layout same
unfolding MadeNew
made_written layout before next entries same can made is = subst (IsWritableIn layout) (sym is) (can.writable entries made.0 made.1)

pub adds_new : {X E : Type 0} (r : Result X E) (layout : Layout) (before : Before) (next : Next) (entries same : List EntryData) (old now : NewList) → MadeNew layout before next entries → same ≡ entries → OnOk r (AddsNew layout same old now) → OnOk r ((m : NextManifest) → IsMadeOf layout before next m → Adds layout m old now)
unfolding MadeNew
adds_new (Err e) layout before next entries same old now made is told = tt
adds_new (Ok v) layout before next entries same old now made is told = λ m of.
    subst (λ (n : NextManifest). Adds layout n old now) (one_made layout before next (new entries made.0) m made.1 of) (subst (λ (es : List EntryData). AddsNew layout es old now) is told)

-- what is refused for this is refused so
pub err_is : {X : Type 0} (r : Result X TargetError) (e : TargetError) (P : TargetError → Type 0) → IsErrAnd r (λ f. f ≡ e) → P e → IfErr r P
err_is (Ok v) e P told is = tt
err_is (Err f) e P told is = subst P (sym told) is

refusal_by : (P Q : List ℕ → Type 0) (e : TargetError) → ((bytes : List ℕ) → P bytes → Q bytes) → IsTextRefusal P e → IsTextRefusal Q e
refusal_by P Q Memory step told = tt
refusal_by P Q StoreFault step told = told
refusal_by P Q Contested step told = told
refusal_by P Q (Limit which number) step told = (told.0, told.1, (told.2.0, step told.2.0 told.2.1, told.2.2))
refusal_by P Q (Unsupported feature path) step told = told

pub text_refusal : {X : Type 0} (r : Result X TargetError) (P Q : List ℕ → Type 0) → ((bytes : List ℕ) → P bytes → Q bytes) → IfErr r (IsTextRefusal P) → IfErr r (IsTextRefusal Q)
text_refusal (Ok v) P Q step told = tt
text_refusal (Err e) P Q step told = refusal_by P Q e step told

pub refusal_new : {X : Type 0} (r : Result X TargetError) (layout : Layout) (before : Before) (next : Next) (entries same : List EntryData) → MadeNew layout before next entries → same ≡ entries → IfErr r (IsTextRefusal (IsTextIn layout same)) → IfErr r (IsTextRefusal (IsTextOfNext layout before next))
unfolding MadeNew
refusal_new r layout before next entries same made is told = text_refusal r (IsTextIn layout same) (IsTextOfNext layout before next) (λ bytes text. (entries, made.0, made.1, subst (λ (es : List EntryData). IsTextIn layout es bytes) is text)) told

pub adds_kept : (layout : Layout) (before : Before) (next : Next) (place : ℕ) (k : KeptManifest) (old now : NewList) → next ≡ Stays place → k ≡ get_or before.manifests.now place k → AddsKept k.info old now → (m : NextManifest) → IsMadeOf layout before next m → Adds layout m old now
adds_kept layout before next place k old now is at told m made =
    let of : IsMadeOf layout before (Stays place) m = subst (λ (n : Next). IsMadeOf layout before n m) is made in
    let x = mapped_at (live_manifest before.links.now) before.manifests.now place of.0 of.1 in
    let same : k.info ≡ of.0.info = ap (λ (y : KeptManifest). y.info) (kept_at before.manifests.now place k x.0 at x.1) ∙ ap (λ (y : LiveManifest). y.info) x.2 in
    subst (λ (n : NextManifest). Adds layout n old now) (sym of.2) (subst (λ (i : ManifestInfo). AddsKept i old now) same told)

-- ---- the end of the loop

take_all : {A : Type 0} (xs : List A) (i : ℕ) → length xs ≤ i → take i xs ≡ xs
take_all [] zero past = refl
take_all [] (suc i) past = refl
take_all (x ∷ xs) zero past = absurd (omega (arith, past))
take_all (x ∷ xs) (suc i) past = ap (λ l. x ∷ l) (take_all xs i (omega (arith, past)))

pub all_come : (layout : Layout) (before : Before) (next : List Next) (i : ℕ) (list : NewList) → length next ≤ i → HaveCome layout before next i list → (ms : List NextManifest) → AreEach (IsMadeOf layout before) next ms → AreTexts layout ms list
all_come layout before next i list past come ms are = come.texts ms (subst (λ (ns : List Next). AreEach (IsMadeOf layout before) ns ms) (sym (take_all next i past)) are)

pub refusal_among : {X : Type 0} (r : Result X TargetError) (layout : Layout) (before : Before) (next : List Next) (i : ℕ) (one : Next) (e : TargetError) → i < length next → one ≡ get_or next i one → IsErrAnd r (λ f. f ≡ e) → IsTextRefusal (IsTextOfNext layout before one) e → IfErr r (IsTextRefusal (IsTextAmong layout before next))
refusal_among r layout before next i one e within at told refused =
    err_is r e (IsTextRefusal (IsTextAmong layout before next)) told (refusal_by (IsTextOfNext layout before one) (IsTextAmong layout before next) e (λ bytes text. (one, (i, within, sym at), text)) refused)

-- What is kept of an Iceberg target, by the files in its folder.
use Rattle.std.proofs.Common.{◌≡◌, ◌⊎◌, inl, inr, ℕ, List, Option, [], ◌∷◌, map, Contains, None, sym, ap, ◌∙◌}
use Rattle.std.specs.Prelude.{option_map, slice_get}
use Rattle.lake_store.specs.Disk.{Files}
use Rattle.table_history.specs.Tables.{empty_table}
use Rattle.table_history.specs.TypeTree.{no_columns}
use Rattle.table_history.proofs.RowListLemmas.{Contains-none}
use Rattle.file_links.specs.Rows.{Entry, joined, rows_of}
use Rattle.iceberg_metadata.specs.declared.metadata.Metadata.{Metadata}
use Rattle.iceberg_metadata.specs.declared.metadata.Snapshot.{Snapshot}
use Rattle.iceberg_table.specs.Folder.{metadata_folder}
use Rattle.iceberg_table.specs.Lists.{IsListed}
use Rattle.iceberg_table.specs.OwnFolder.{lies_within, metadata_too}
use Rattle.iceberg_table.proofs.EachLaws.{each_back}
use Rattle.iceberg_version.specs.KeptEnd.{end_of, live_manifest, view_of}
use Rattle.iceberg_version.specs.Writing.{TableEnd, no_version}
use Rattle.iceberg_version.specs.declared.kept.IcebergKept.{IcebergKept}
use Rattle.target_core.specs.Folders.{SameIn}
use Rattle.target_core.specs.Views.{View, absent, standing_of}
use Rattle.target_core.proofs.Unpublished.{no_commits}
use Rattle.target_iceberg.specs.Kept.{HoldsEnd, IsCounted, IsFirst, StandsFor}
use Rattle.target_iceberg.specs.Reading.{Reads}
use Rattle.target_iceberg.specs.SameLemmas.{SameSnapshot, current_too, newest_too}
use Rattle.target_iceberg.specs.SettledLemmas.{absent_own, own_reached, reads_own}
use Rattle.target_iceberg.specs.ViewLemmas.{is_absent}
use Rattle.lake_basics.proofs.Options.{none_or_some}

pub kept_view : (id location : List ℕ) (kept : IcebergKept) (files : Files) → StandsFor id location kept files → Reads files (view_of kept)
kept_view id location kept files stands = stands.reads

counted_by : (kept : IcebergKept) (files : Files) → Reads files (view_of kept) → IsCounted kept.version files
counted_by kept files (inl h) = inl (no_commits (view_of kept) h.1, h.0.versions)
counted_by kept files (inr h) = inr (h.first, h.newest)

pub kept_counted : (id location : List ℕ) (kept : IcebergKept) (files : Files) → StandsFor id location kept files → IsCounted kept.version files
kept_counted id location kept files stands = counted_by kept files stands.reads

-- ---- the same folder

pub counted_own : (version : ℕ) (a b : Files) → SameIn metadata_folder a b → IsCounted version a → IsCounted version b
counted_own version a b same (inl h) = inl (h.0, λ v there. h.1 v ((own_reached a b same).versions v there))
counted_own version a b same (inr h) = inr (h.0, newest_too a b (own_reached a b same) version h.1)

own_snapshot : (a b : Files) → SameIn metadata_folder a b → (m : Metadata) (s : Snapshot) → SameSnapshot a b m s
own_snapshot a b same m s = record {
  list = λ plan planned. same plan.list (lies_within plan.list planned.list.within);
  manifests = λ plan list file planned listed named. same file.path (lies_within file.path (each_back (IsListed m) listed.infos list file listed.listed named).2.path.within);
}

end_own : (id location : List ℕ) (kept : IcebergKept) (a b : Files) → SameIn metadata_folder a b → IsFirst a id location kept ⊎ HoldsEnd a kept → IsFirst b id location kept ⊎ HoldsEnd b kept
end_own id location kept a b same (inl h) = inl (record { none = absent_own a b same h.none; version = h.version; metadata = h.metadata; manifests = h.manifests; links = h.links })
end_own id location kept a b same (inr h) = inr (record {
  metadata = h.metadata;
  says = metadata_too a b same kept.version h.metadata h.says;
  same = h.same;
  mark = h.mark;
  marked = h.marked;
  has = h.has;
  at = h.at;
  current = current_too a b h.metadata h.current (own_snapshot a b same h.metadata h.current.snapshot);
  manifests = h.manifests;
  own = h.own;
})

pub kept_own : (id location : List ℕ) (kept : IcebergKept) (a b : Files) → SameIn metadata_folder a b → StandsFor id location kept a → StandsFor id location kept b
kept_own id location kept a b same h = record { reads = reads_own a b (view_of kept) same h.reads; end = end_own id location kept a b same h.end }

-- ---- before the first commit

-- the end of a target of these partition columns of which nothing is published
abbrev pub first_end : List ℕ → List ℕ → List (List ℕ) → TableEnd
first_end id location partition = record { version = 0; metadata = no_version id location; schema = no_columns; partition = partition; manifests = [] }

none_mapped : {A B : Type 0} (f : A → B) (xs : List A) → map f xs ≡ [] → (x : A) → ¬ Contains xs x
none_mapped f [] is x there = Contains-none x there
none_mapped f (y ∷ ys) is x there = absurd (cc is)

fresh_view : (kept : IcebergKept) (p : List (List ℕ)) → kept.version ≡ 0 → kept.mark ≡ None → kept.table ≡ empty_table p → view_of kept ≡ absent p
fresh_view kept p version mark table = λ i. record { commits = version i; mark = option_map standing_of (mark i); table = table i }

-- What is kept before the first commit stands for files of which nothing is published.
pub fresh_stands : (id location : List ℕ) (kept : IcebergKept) (p : List (List ℕ)) → kept.table ≡ empty_table p → kept.mark ≡ None → end_of kept ≡ first_end id location p → kept.links.owners ≡ []
    → (files : Files) → Reads files (absent []) → StandsFor id location kept files
fresh_stands id location kept p table mark end links files reads =
    let version : kept.version ≡ 0 = ap (λ (e : TableEnd). e.version) end in
    let view = fresh_view kept p version mark table in
    let partition : kept.table.partition ≡ p = ap (λ (v : View). v.table.partition) view in
    let none = is_absent files [] reads in
    record {
      reads = inl (none, view ∙ ap absent (sym partition));
      end = inl (record {
        none = none;
        version = version;
        metadata = ap (λ (e : TableEnd). e.metadata) end;
        manifests = none_mapped (live_manifest kept.links) kept.manifests (ap (λ (e : TableEnd). e.manifests) end);
        links = λ owner e owns. none_or_some (rows_of kept.links owner) owns.0 (ap (λ (owners : List (Option (List Entry))). joined (slice_get owners owner)) links) owns.1;
      });
    }

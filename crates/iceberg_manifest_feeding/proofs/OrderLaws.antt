-- What a refusal in reading order says of a manifest's bytes.
use Rattle.std.proofs.Common.{◌≡◌, inl, inr, ℕ, ◌+◌, List, ◌++◌, length, true, Result, Ok, Err, refl, ap, ◌∙◌, append_assoc, arith}
use Rattle.std.proofs.lemmas.List.{length-append}
use Rattle.lake_basics.specs.Outcome.{with_fault}
use Rattle.lake_basics.proofs.Truth.{true_not_false}
use Rattle.lake_basics.proofs.Lists.{more_behind}
use Rattle.avro_value.specs.Layout.{layout_of}
use Rattle.avro_value.specs.ValueTree.{ValueTree}
use Rattle.avro_value.specs.declared.api.TheConstants.{MAX_VALUES}
use Rattle.avro_value.specs.declared.error.AvroError.{AvroError}
use Rattle.avro_value.specs.declared.error.AvroError.TheVariants as value
use Rattle.avro_container.specs.Faults.{IsFirstFlaw}
use Rattle.avro_container.specs.Laws.{error_of}
use Rattle.avro_container.specs.declared.error.ContainerError.{ContainerError}
use Rattle.avro_container.specs.declared.error.ContainerError.TheVariants as container
use Rattle.avro_container.specs.declared.fault.ContainerFault.{ContainerFault}
use Rattle.avro_container.specs.declared.fault.Flaw.TheVariants as flaw
use Rattle.avro_container.proofs.BlockRefusals.{block_refused}
use Rattle.avro_container.proofs.Headers.{header_faulty, header_refused}
use Rattle.avro_container.proofs.WholeBlocks.{block_faulty}
use Rattle.avro_feeding.specs.Feeding.{Behind, fed, nothing_read}
use Rattle.avro_feeding.specs.Laws.{FaultsNext, StandsBehind, is_header_flaw}
use Rattle.avro_feeding.proofs.BlockStays.{block_fails, header_fails, shifted}
use Rattle.avro_feeding.proofs.PieceLemmas.{added}
use Rattle.table_history.specs.declared.limit.LimitKind.{LimitKind}
use Rattle.table_history.specs.declared.limit.LimitKind.TheVariants.{Values}
use Rattle.iceberg_manifest.specs.Containers.{container_error}
use Rattle.iceberg_manifest.specs.Entry.{EntryData}
use Rattle.iceberg_manifest.specs.EntryReading.{entries_in as entries_read}
use Rattle.iceberg_manifest.specs.Scans.{entry_error}
use Rattle.iceberg_manifest.specs.declared.error.EntryFault.{EntryFault}
use Rattle.iceberg_manifest.specs.declared.error.EntryFault.TheVariants as entry
use Rattle.iceberg_manifest.specs.declared.error.ManifestError.TheVariants as errors
use Rattle.iceberg_manifest.specs.declared.partition.PartColumn.{PartColumn}
use Rattle.iceberg_manifest.proofs.ContainerLaws.{clash, same_err}
use Rattle.iceberg_manifest_feeding.specs.Laws.{IsFaultForGood, IsLimitOfValues, IsReadOrRefused, IsReadSound, IsRefusedOnce}
use Rattle.iceberg_manifest_feeding.specs.Order.{IsFaultAtEnd, IsFaultWithin}
use Rattle.iceberg_manifest_feeding.specs.Steps.{Entries, ended_by, entries_in}
use Rattle.iceberg_manifest_feeding.proofs.EndLaws.{read_whole, refused_end}
use Rattle.iceberg_manifest_feeding.proofs.FaultLaws.{any_place, block_flaw, header_long, long_flaw, refused_within}
use Rattle.iceberg_manifest_feeding.proofs.ReadLaws.{reads}

-- ---- read, or refused once

pub read_or_refused : IsReadOrRefused
read_or_refused columns bytes entries e stands (inl fault) = clash (entries_in columns (fed nothing_read bytes)) entries e (read_whole columns bytes entries stands).read (refused_within columns bytes e fault)
read_or_refused columns bytes entries e stands (inr fault) = clash (ended_by columns (fed nothing_read bytes).0) tt e (read_whole columns bytes entries stands).ends (refused_end columns bytes e fault).1.ends

pub refused_once : IsRefusedOnce
refused_once columns bytes d e (inl p) (inl q) = same_err (entries_in columns (fed nothing_read bytes)) d e (refused_within columns bytes d p) (refused_within columns bytes e q)
refused_once columns bytes d e (inl p) (inr q) = (let end = refused_end columns bytes e q in absurd (clash (entries_in columns (fed nothing_read bytes)) end.0 d end.1.read (refused_within columns bytes d p)))
refused_once columns bytes d e (inr p) (inl q) = (let end = refused_end columns bytes d p in absurd (clash (entries_in columns (fed nothing_read bytes)) end.0 e end.1.read (refused_within columns bytes e q)))
refused_once columns bytes d e (inr p) (inr q) = same_err (ended_by columns (fed nothing_read bytes).0) d e (refused_end columns bytes d p).1.ends (refused_end columns bytes e q).1.ends

pub read_sound : IsReadSound
read_sound columns bytes now e h fault = clash (entries_in columns (fed nothing_read bytes)) now.entries e (reads columns bytes now h) (refused_within columns bytes e fault)

-- ---- a fault stays

left_more : (bytes more : List ℕ) (f : ContainerFault) → f.left ≡ length bytes → f.left + length more ≡ length (bytes ++ more)
left_more bytes more f left = omega (arith, left, length-append bytes more)

first_stays : (bytes more : List ℕ) (f : ContainerFault) → is_header_flaw f.flaw ≡ true → IsFirstFlaw MAX_VALUES bytes f → IsFirstFlaw MAX_VALUES (bytes ++ more) (shifted f more)
first_stays bytes more f header (inl h) = inl (header_faulty MAX_VALUES (bytes ++ more) (shifted f more) (header_fails MAX_VALUES bytes more f (header_long f.flaw header) (header_refused MAX_VALUES bytes f h))).fault
first_stays bytes more f header (inr (inl (meta, marker, head, blocks, parts, is, none, at))) = inr (inl (meta, marker, head, blocks ++ more, more_behind bytes head blocks more parts, is, none, (at.0, left_more bytes more f at.1)))
first_stays bytes more f header (inr (inr (inl (meta, marker, head, blocks, t, parts, is, has, other, at)))) = inr (inr (inl (meta, marker, head, blocks ++ more, t, more_behind bytes head blocks more parts, is, has, other, (at.0, left_more bytes more f at.1))))
first_stays bytes more f header (inr (inr (inr (meta, marker, head, blocks, t, parts, is, has, plain, at)))) = absurd (true_not_false (is_header_flaw f.flaw) header (block_flaw (layout_of t) marker at.3 at.4 f at.9))

stands_on : (bytes more : List ℕ) (front : List (List ValueTree)) (b : Behind) → StandsBehind bytes front b → StandsBehind (bytes ++ more) front (added b more)
stands_on bytes more front b s = record {
  meta = s.meta;
  header = s.header;
  blocks = s.blocks;
  parts = more_behind bytes s.header (s.blocks ++ b.rest) more s.parts ∙ ap (λ (l : List ℕ). s.header ++ l) (append_assoc s.blocks b.rest more);
  is_header = s.is_header;
  schema = s.schema;
  plain = s.plain;
  are_blocks = s.are_blocks;
  few = s.few;
  offset = s.offset;
}

next_stays : (b : Behind) (more : List ℕ) (f : ContainerFault) → (f.flaw ≡ flaw.Short → ⊥) → FaultsNext b f → FaultsNext (added b more) (shifted f more)
next_stays b more f long next =
    let l = layout_of b.schema in
    (block_faulty l b.marker (b.rest ++ more) b.budget (shifted f more) (block_fails l b.marker b.rest more b.budget f (long_flaw f.flaw long) (block_refused l b.marker b.rest b.budget f next))).fault

pub fault_for_good : IsFaultForGood
fault_for_good columns bytes more e (inl (f, first, header, is)) =
    inl (shifted f more, first_stays bytes more f header first, header, is ∙ any_place f.flaw _ _)
fault_for_good columns bytes more e (inr (inl s)) = inr (inl (record {
  front = s.front;
  behind = added s.behind more;
  stands = stands_on bytes more s.front s.behind s.stands;
  readable = s.readable;
  fault = shifted s.fault more;
  next = next_stays s.behind more s.fault s.whole s.next;
  whole = s.whole;
  is = s.is ∙ any_place s.fault.flaw _ _;
}))
fault_for_good columns bytes more e (inr (inr s)) = inr (inr (record {
  front = s.front;
  last = s.last;
  behind = added s.behind more;
  stands = stands_on bytes more _ s.behind s.stands;
  readable = s.readable;
  some = s.some;
  refused = s.refused;
}))

-- ---- which numbers are passed

module _ (which : LimitKind) where
  limit_is : errors.Limit which ≡ errors.Limit Values → which ≡ Values
  limit_is is = cc

  no_malformed : {A : Type 0} → errors.Limit which ≡ errors.Malformed → A
  no_malformed is = absurd (cc)

  of_value : (v : AvroError) → errors.Limit which ≡ container_error (container.Value v) → which ≡ Values
  of_value (value.Limit at) is = limit_is is
  of_value value.Memory is = no_malformed is
  of_value (value.Short at) is = no_malformed is
  of_value (value.BadLong at) is = no_malformed is
  of_value (value.BadLength at) is = no_malformed is
  of_value (value.BadIndex at) is = no_malformed is
  of_value (value.BadText at) is = no_malformed is
  of_value (value.BadBool at) is = no_malformed is

  of_container : (c : ContainerError) → errors.Limit which ≡ container_error c → which ≡ Values
  of_container container.Memory is = absurd (cc)
  of_container container.Codec is = absurd (cc)
  of_container (container.Value v) is = of_value v is
  of_container container.BadMagic is = no_malformed is
  of_container (container.Short at) is = no_malformed is
  of_container (container.BadMeta at) is = no_malformed is
  of_container container.BadSchema is = no_malformed is
  of_container (container.BadBlock at) is = no_malformed is
  of_container (container.BadSync at) is = no_malformed is

  no_entry : (f : EntryFault) → entry_error f ≡ errors.Limit which → ⊥
  no_entry entry.Malformed is = cc
  no_entry entry.RowDeletes is = cc
  no_entry entry.FileFormat is = cc

  no_scan : (r : Result (List EntryData) EntryFault) → ◌≡◌ {A = Entries} (with_fault entry_error r) (Err (errors.Limit which)) → ⊥
  no_scan (Ok es) is = cc
  no_scan (Err f) is = no_entry f (same_err (with_fault {A = List EntryData} entry_error (Err f)) (entry_error f) (errors.Limit which) refl is)

  within_limit : (columns : List PartColumn) (bytes : List ℕ) → IsFaultWithin columns bytes (errors.Limit which) → which ≡ Values
  within_limit columns bytes (inl (f, first, header, is)) = of_container (error_of (length bytes) f) is
  within_limit columns bytes (inr (inl s)) = of_container (error_of (length bytes) s.fault) s.is
  within_limit columns bytes (inr (inr s)) = absurd (no_scan (entries_read columns s.behind.schema _) s.refused)

  end_limit : (columns : List PartColumn) (bytes : List ℕ) → IsFaultAtEnd columns bytes (errors.Limit which) → which ≡ Values
  end_limit columns bytes (inl (f, faults, short, is)) = no_malformed is
  end_limit columns bytes (inr (inl s)) = no_malformed s.is
  end_limit columns bytes (inr (inr s)) = absurd (no_scan (entries_read columns s.behind.schema _) s.refused)

pub limit_of_values : IsLimitOfValues
limit_of_values columns bytes which (inl fault) = within_limit which columns bytes fault
limit_of_values columns bytes which (inr fault) = end_limit which columns bytes fault

-- Metadata that is refused is there, and what was read once isn't refused again.
use Rattle.std.proofs.Common.{◌≡◌, inl, inr, ◌<◌, ℕ, ℤ, List, [], ◌∷◌, length, Option, None, Result, Err, refl, sym, ap, subst, ◌∙◌, arith}
use Rattle.std.specs.Prelude.{IfErr}
use Rattle.std.proofs.lemmas.Option.{none-some, same_Some}
use Rattle.lake_basics.specs.declared.limits.TheConstants.{MAX_FILE_BYTES}
use Rattle.lake_basics.specs.declared.outcome.ReadError.TheVariants as read
use Rattle.lake_store.specs.Disk.{Files}
use Rattle.table_history.specs.First.{NoneOf}
use Rattle.table_history.specs.declared.limit.LimitKind.{LimitKind}
use Rattle.table_history.proofs.FirstLemmas.{none_first, first_in}
use Rattle.iceberg_ancestry.specs.Ancestry.{FormsCycle, LeadsTo, held_at}
use Rattle.iceberg_metadata.specs.Grammar.{IsMetadataText}
use Rattle.iceberg_metadata.specs.Reading.{HasCause, causes}
use Rattle.iceberg_metadata.specs.Schemas.{SchemaReading}
use Rattle.iceberg_metadata.specs.declared.error.MetadataError.{MetadataError}
use Rattle.iceberg_metadata.specs.declared.error.MetadataError.TheVariants as metadata
use Rattle.iceberg_metadata.specs.declared.metadata.Metadata.{Metadata}
use Rattle.iceberg_metadata.specs.declared.metadata.Snapshot.{Snapshot}
use Rattle.iceberg_metadata.proofs.OnceLemmas.{text_once}
use Rattle.iceberg_table.specs.Errors.{IsFileFault, metadata_fault}
use Rattle.iceberg_table.specs.Files.{HoldsFile, SaysMetadata}
use Rattle.iceberg_table.specs.Folder.{HasVersion, IsNewest, version_path}
use Rattle.iceberg_table.specs.Refusals.{IsMetadataFault}
use Rattle.iceberg_table.specs.declared.error.Fault.{Fault}
use Rattle.iceberg_table.specs.declared.error.Fault.TheVariants as fault
use Rattle.iceberg_table.specs.declared.error.IcebergError.{IcebergError}
use Rattle.iceberg_table.specs.declared.error.IcebergError.TheVariants as error
use Rattle.iceberg_table.proofs.OnceLaws.{newest_once}
use Rattle.source_core.specs.Answers.{IsHeadRefusal, IsReadRefusal}
use Rattle.source_core.specs.declared.error.SourceError.{SourceError}
use Rattle.source_core.specs.declared.error.SourceError.TheVariants as source
use Rattle.source_core.specs.declared.head.Head.{Head}
use Rattle.source_iceberg.specs.HeadLemmas.{not_absent}
use Rattle.source_iceberg.specs.Heads.{IsAbsent, IsIcebergHead, StandsForMetadata, metadata_features}
use Rattle.source_iceberg.specs.Reading.{HasFewNames, IsRefusedVersion, ShowsAtHead, Tells, TellsFault}

-- ---- metadata without a current snapshot is refused for a number alone

fault_is : (f g : Fault) → read.Fault f ≡ read.Fault g → f ≡ g
fault_is f g e = cc

no_step : (snapshots around : List Snapshot) (stop : Option ℤ) → LeadsTo snapshots None around stop → (around ≡ [] → ⊥) → ⊥
no_step snapshots [] stop chain moves = moves refl
no_step snapshots (s ∷ ss) stop chain moves = none-some s chain.0

no_cycle : (snapshots before around : List Snapshot) (start at : Option ℤ) → start ≡ None → LeadsTo snapshots start before at → LeadsTo snapshots at around at → (around ≡ [] → ⊥) → ⊥
no_cycle snapshots [] around start at none chain back moves = no_step snapshots around at (subst (λ (o : Option ℤ). LeadsTo snapshots o around at) (sym chain ∙ none) back) moves
no_cycle snapshots (s ∷ ss) around start at none chain back moves = none-some s (sym (ap (held_at snapshots) none) ∙ chain.0)

acyclic : (m : Metadata) → m.current_snapshot ≡ None → FormsCycle m → ⊥
acyclic m none cycle = no_cycle m.snapshots cycle.before cycle.around m.current_snapshot cycle.at none cycle.chain cycle.back cycle.moves

abbrev IsLimit : Fault → Type 0
IsLimit f = (which : LimitKind) × (f ≡ fault.Limit which)

module _ (bytes : List ℕ) (readings : List SchemaReading) (n : Metadata) (text : IsMetadataText bytes readings n) (none : n.current_snapshot ≡ None) (supported : NoneOf (HasCause bytes) metadata_features) where
  limit_only : (e : MetadataError) (f : Fault) → HasCause bytes e → metadata_fault e ≡ read.Fault f → IsLimit f
  limit_only metadata.Memory f has is = absurd has
  limit_only metadata.FormatVersion f has is = absurd (supported.0 has)
  limit_only metadata.Malformed f has is = absurd (has (readings, n, text))
  limit_only metadata.SchemaType f has is = absurd (supported.1.0 has)
  limit_only metadata.Transform f has is = absurd (supported.1.1.0 has)
  limit_only metadata.Renamed f has is = absurd (supported.1.1.1.0 has)
  limit_only metadata.PartitionType f has is = absurd (supported.1.1.1.1.0 has)
  limit_only (metadata.Limit which) f has is = (which, fault_is f (fault.Limit which) (sym is))

  fault_limit : (f : Fault) → IsMetadataFault bytes f → IsLimit f
  fault_limit f (inl (e, first, is)) = limit_only e f (first_in (HasCause bytes) causes e first) is
  fault_limit f (inr (m, is, other, cycle, told)) =
      let same : m ≡ n = text_once bytes is.readings readings m n is.text text in
      absurd (acyclic m (ap (λ (x : Metadata). x.current_snapshot) same ∙ none) cycle)

-- a refusal that isn't for a number
abbrev IsForNumber : SourceError → Type 0
IsForNumber e = (which : LimitKind) × (number : ℕ) × (e ≡ source.Limit which number)

by_limit : (path : List ℕ) (f : Fault) (e : SourceError) → IsLimit f → TellsFault path f e → IsForNumber e
by_limit path f e (which, is) told = (which, _, subst (λ (g : Fault). TellsFault path g e) is told)

module _ (files : Files) (version : ℕ) (newest : IsNewest (HasVersion files) version) where
  stands_number : (w : ℕ) (n : Metadata) → StandsForMetadata files w n → n.current_snapshot ≡ None → w ≡ version → (cause : IcebergError) (e : SourceError) → IsFileFault files (version_path version) IsMetadataFault cause → Tells cause e → IsForNumber e
  stands_number w n stands none same error.Memory e h told = absurd h
  stands_number w n stands none same error.StoreFault e h told = absurd h
  stands_number w n stands none same error.ManyNames e h told = absurd h
  stands_number w n stands none same (error.Missing p) e h told =
      absurd (none-some stands.states.bytes (sym h.1 ∙ subst (λ (v : ℕ). HoldsFile files (version_path v) stands.states.bytes) same stands.states.holds))
  stands_number w n stands none same (error.Large p) e h told = (_, _, told)
  stands_number w n stands none same (error.Refused p f) e h told =
      let bytes : h.1 ≡ stands.states.bytes = same_Some h.1 stands.states.bytes (sym h.2 ∙ subst (λ (v : ℕ). HoldsFile files (version_path v) stands.states.bytes) same stands.states.holds) in
      by_limit p f e (fault_limit stands.states.bytes stands.states.readings n stands.states.text none stands.supported f (subst (λ (bs : List ℕ). IsMetadataFault bs f) bytes h.3)) told

  there : (e : SourceError) → (IsForNumber e → ⊥) → IsRefusedVersion files version e → IsAbsent files → ⊥
  there e other refused (inl none) = none.versions version newest.there
  there e other refused (inr (w, n, stands, none)) = other (stands_number w n stands none (newest_once (HasVersion files) w version stands.states.newest newest) refused.0 e refused.1 refused.2)

  pub version_told : HasFewNames files → (e : SourceError) → IsReadRefusal (IsRefusedVersion files version) e → IsHeadRefusal (IsAbsent files) (ShowsAtHead files) e
  version_told few source.Memory h = tt
  version_told few source.Absent h = absurd h
  version_told few (source.Malformed path) h = (there (source.Malformed path) (λ number. let is = number.2 in absurd (cc)) h, inr (few, inr (version, newest, h)))
  version_told few (source.Unsupported feature path) h = (there (source.Unsupported feature path) (λ number. let is = number.2 in absurd (cc)) h, inr (few, inr (version, newest, h)))
  version_told few (source.Limit which number) h = inr (few, inr (version, newest, h))
  version_told few source.StoreFault h = tt

-- ---- what was read once

module _ (files : Files) (version : ℕ) (m : Metadata) (says : SaysMetadata files version m) where
  same_bytes : (bytes : List ℕ) → HoldsFile files (version_path version) bytes → bytes ≡ says.bytes
  same_bytes bytes holds = same_Some bytes says.bytes (sym holds ∙ says.holds)

  faultless : (f : Fault) → IsMetadataFault says.bytes f → ⊥
  faultless f (inl (e, first, is)) = none_first (HasCause says.bytes) causes e says.supported first
  faultless f (inr (n, is, other, cycle, told)) = says.acyclic (subst (λ (x : Metadata). FormsCycle x) (text_once says.bytes is.readings says.read.readings n m is.text says.read.text) cycle)

  unrefused : (cause : IcebergError) → IsFileFault files (version_path version) IsMetadataFault cause → ⊥
  unrefused error.Memory h = h
  unrefused error.StoreFault h = h
  unrefused error.ManyNames h = h
  unrefused (error.Missing p) h = none-some says.bytes (sym h.1 ∙ says.holds)
  unrefused (error.Large p) h =
      let long = subst (λ (bs : List ℕ). MAX_FILE_BYTES < length bs) (same_bytes h.1 h.2) h.3 in
      let short = says.small in absurd (omega (arith, long, short))
  unrefused (error.Refused p f) h = faultless f (subst (λ (bs : List ℕ). IsMetadataFault bs f) (same_bytes h.1 h.2) h.3)

module _ (files : Files) (head : Head) (is : IsIcebergHead files head) where
  shows_nothing : (e : SourceError) → ShowsAtHead files e → ⊥
  shows_nothing e (inl many) =
      let long = many.0 in
      let few = is.few in absurd (omega (arith, long, few))
  shows_nothing e (inr (few, inl other)) = other.0 is.version is.current.metadata.newest.there
  shows_nothing e (inr (few, inr (version, newest, refused))) =
      let same = newest_once (HasVersion files) version is.version newest is.current.metadata.newest in
      unrefused files is.version is.metadata is.current.metadata.says refused.0 (subst (λ (v : ℕ). IsFileFault files (version_path v) IsMetadataFault refused.0) same refused.1)

  read_again : (e : SourceError) → IsHeadRefusal (IsAbsent files) (ShowsAtHead files) e → IsReadRefusal (λ _. ⊥) e
  read_again source.Memory h = tt
  read_again source.Absent h = not_absent files is.version is.metadata is.snapshot is.current h
  read_again (source.Malformed path) h = shows_nothing (source.Malformed path) h.1
  read_again (source.Unsupported feature path) h = shows_nothing (source.Unsupported feature path) h.1
  read_again (source.Limit which number) h = shows_nothing (source.Limit which number) h
  read_again source.StoreFault h = tt

  pub again : {T : Type 0} (r : Result T SourceError) (e : SourceError) → r ≡ Err e → IsHeadRefusal (IsAbsent files) (ShowsAtHead files) e → IfErr r (IsReadRefusal (λ _. ⊥))
  again r e same h = subst (λ r. IfErr r (IsReadRefusal (λ _. ⊥))) (sym same) (read_again e h)

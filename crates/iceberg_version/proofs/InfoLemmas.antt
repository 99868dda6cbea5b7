-- Rows of lists with equal members.
use Rattle.std.proofs.Common.{◌≡◌, ap, ◌∙◌}
use Rattle.iceberg_manifest.specs.declared.info.ManifestInfo.{ManifestInfo}

-- the same in all members
pub record SameInfo (a b : ManifestInfo) : Type 0 where
  pub path : a.manifest_path ≡ b.manifest_path
  pub size : a.manifest_length ≡ b.manifest_length
  pub spec : a.partition_spec_id ≡ b.partition_spec_id
  pub content : a.content ≡ b.content
  pub sequence : a.sequence_number ≡ b.sequence_number
  pub least : a.min_sequence_number ≡ b.min_sequence_number
  pub snapshot : a.added_snapshot_id ≡ b.added_snapshot_id
  pub added : a.added_files_count ≡ b.added_files_count
  pub existing : a.existing_files_count ≡ b.existing_files_count
  pub deleted : a.deleted_files_count ≡ b.deleted_files_count
  pub added_rows : a.added_rows_count ≡ b.added_rows_count
  pub existing_rows : a.existing_rows_count ≡ b.existing_rows_count
  pub deleted_rows : a.deleted_rows_count ≡ b.deleted_rows_count
  pub place : a.place ≡ b.place

pub same_info : (a b : ManifestInfo) → SameInfo a b → a ≡ b
same_info a b s =
    ap (λ x. record a { manifest_path = x }) s.path
    ∙ ap (λ x. record a { manifest_path = b.manifest_path; manifest_length = x }) s.size
    ∙ ap (λ x. record a { manifest_path = b.manifest_path; manifest_length = b.manifest_length; partition_spec_id = x }) s.spec
    ∙ ap (λ x. record a { manifest_path = b.manifest_path; manifest_length = b.manifest_length; partition_spec_id = b.partition_spec_id; content = x }) s.content
    ∙ ap (λ x. record a { manifest_path = b.manifest_path; manifest_length = b.manifest_length; partition_spec_id = b.partition_spec_id; content = b.content; sequence_number = x }) s.sequence
    ∙ ap (λ x. record a { manifest_path = b.manifest_path; manifest_length = b.manifest_length; partition_spec_id = b.partition_spec_id; content = b.content; sequence_number = b.sequence_number; min_sequence_number = x }) s.least
    ∙ ap (λ x. record a { manifest_path = b.manifest_path; manifest_length = b.manifest_length; partition_spec_id = b.partition_spec_id; content = b.content; sequence_number = b.sequence_number; min_sequence_number = b.min_sequence_number; added_snapshot_id = x }) s.snapshot
    ∙ ap (λ x. record a { manifest_path = b.manifest_path; manifest_length = b.manifest_length; partition_spec_id = b.partition_spec_id; content = b.content; sequence_number = b.sequence_number; min_sequence_number = b.min_sequence_number; added_snapshot_id = b.added_snapshot_id; added_files_count = x }) s.added
    ∙ ap (λ x. record a { manifest_path = b.manifest_path; manifest_length = b.manifest_length; partition_spec_id = b.partition_spec_id; content = b.content; sequence_number = b.sequence_number; min_sequence_number = b.min_sequence_number; added_snapshot_id = b.added_snapshot_id; added_files_count = b.added_files_count; existing_files_count = x }) s.existing
    ∙ ap (λ x. record a { manifest_path = b.manifest_path; manifest_length = b.manifest_length; partition_spec_id = b.partition_spec_id; content = b.content; sequence_number = b.sequence_number; min_sequence_number = b.min_sequence_number; added_snapshot_id = b.added_snapshot_id; added_files_count = b.added_files_count; existing_files_count = b.existing_files_count; deleted_files_count = x }) s.deleted
    ∙ ap (λ x. record a { manifest_path = b.manifest_path; manifest_length = b.manifest_length; partition_spec_id = b.partition_spec_id; content = b.content; sequence_number = b.sequence_number; min_sequence_number = b.min_sequence_number; added_snapshot_id = b.added_snapshot_id; added_files_count = b.added_files_count; existing_files_count = b.existing_files_count; deleted_files_count = b.deleted_files_count; added_rows_count = x }) s.added_rows
    ∙ ap (λ x. record a { manifest_path = b.manifest_path; manifest_length = b.manifest_length; partition_spec_id = b.partition_spec_id; content = b.content; sequence_number = b.sequence_number; min_sequence_number = b.min_sequence_number; added_snapshot_id = b.added_snapshot_id; added_files_count = b.added_files_count; existing_files_count = b.existing_files_count; deleted_files_count = b.deleted_files_count; added_rows_count = b.added_rows_count; existing_rows_count = x }) s.existing_rows
    ∙ ap (λ x. record a { manifest_path = b.manifest_path; manifest_length = b.manifest_length; partition_spec_id = b.partition_spec_id; content = b.content; sequence_number = b.sequence_number; min_sequence_number = b.min_sequence_number; added_snapshot_id = b.added_snapshot_id; added_files_count = b.added_files_count; existing_files_count = b.existing_files_count; deleted_files_count = b.deleted_files_count; added_rows_count = b.added_rows_count; existing_rows_count = b.existing_rows_count; deleted_rows_count = x }) s.deleted_rows
    ∙ ap (λ x. record a { manifest_path = b.manifest_path; manifest_length = b.manifest_length; partition_spec_id = b.partition_spec_id; content = b.content; sequence_number = b.sequence_number; min_sequence_number = b.min_sequence_number; added_snapshot_id = b.added_snapshot_id; added_files_count = b.added_files_count; existing_files_count = b.existing_files_count; deleted_files_count = b.deleted_files_count; added_rows_count = b.added_rows_count; existing_rows_count = b.existing_rows_count; deleted_rows_count = b.deleted_rows_count; place = x }) s.place

use Rattle.std.proofs.Common.{◌≡◌, ◌<◌, ◌^◌, w32, w64, pos, ◌∙◌, ap, sym, length, refl, subst, ℕ, List}
use Rattle.std.proofs.lemmas.Int.{to_z-of_z, to_z_pos}
use Rattle.iceberg_version.specs.Manifests.{file_at}
use Rattle.iceberg_version.proofs.InfoLemmas.{same_info}
use Rattle.iceberg_version.proofs.infos.info_of.Goals as goal

pub returns : goal.returns
returns c =
    let bytes : c.as_slice.result.now ≡ c.args.bytes.now = c.as_slice.ensures.value in
    let short : length c.as_slice.result.now < 2 ^ 63 = subst (λ (bs : List ℕ). length bs < 2 ^ 63) (sym bytes) c.as_slice.ensures.short in (
      c.least_sequence.result,
      c.least_sequence.ensures c.args.front.now,
      same_info _ _ (record {
        path = c.in_ok-file_at.ensures ∙ ap (file_at c.args.front.now) (c.as_str.ensures.value ∙ c.in_ok-path.ensures);
        size = to_z_pos w64 (length c.as_slice.result.now) short ∙ ap (λ (bs : List ℕ). pos (length bs)) bytes;
        spec = refl;
        content = refl;
        sequence = to_z-of_z w64 c.from.result (record { sfits = c.from.type_inv }) ∙ c.from.ensures;
        least = to_z-of_z w64 c.least_sequence.result (record { sfits = c.least_sequence.type_inv });
        snapshot = to_z-of_z w64 c.from-2.result (record { sfits = c.from-2.type_inv }) ∙ c.from-2.ensures;
        added = to_z-of_z w32 c.files_of.result (record { sfits = c.files_of.type_inv }) ∙ c.files_of.ensures c.args.front.now;
        existing = to_z-of_z w32 c.files_of-2.result (record { sfits = c.files_of-2.type_inv }) ∙ c.files_of-2.ensures c.args.front.now;
        deleted = to_z-of_z w32 c.files_of-3.result (record { sfits = c.files_of-3.type_inv }) ∙ c.files_of-3.ensures c.args.front.now;
        added_rows = to_z-of_z w64 c.records_of.result (record { sfits = c.records_of.type_inv }) ∙ c.records_of.ensures c.args.front.now;
        existing_rows = to_z-of_z w64 c.records_of-2.result (record { sfits = c.records_of-2.type_inv }) ∙ c.records_of-2.ensures c.args.front.now;
        deleted_rows = to_z-of_z w64 c.records_of-3.result (record { sfits = c.records_of-3.type_inv }) ∙ c.records_of-3.ensures c.args.front.now;
        place = refl;
      }),
    )

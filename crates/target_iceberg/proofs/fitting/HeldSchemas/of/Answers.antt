use mir.Val.{SFits, to_z}
use Rattle.std.proofs.Common.{◌≡◌, ℤ, pos, w32, w64, None, length, map, rules, arith, ap, sym, ◌∙◌}
use Rattle.std.specs.Prelude.{option_map}
use Rattle.std.proofs.lemmas.Int.{ints, to_z-of_z}
use Rattle.iceberg_metadata.specs.Paths.{held_schema}
use Rattle.target_iceberg.specs.Newest.{with_schemas}
use Rattle.target_iceberg.proofs.FollowLemmas.{first_ids, pairs_length}
use Rattle.target_iceberg.proofs.fitting.HeldSchemas.of.Goals as goal

pub returns-clause-held : goal.returns-clause-held
returns-clause-held c =
    let metadata = c.args.kept.now.metadata in
    let fits : SFits w32 c.args.kept.now.metadata.current_schema = search rules in
    let small : to_z w64 (length c.as_slice-schemas.result.now) ≡ pos (length c.as_slice-schemas.result.now) = omega (arith, ints, c.as_slice-schemas.type_inv.1) in
    record {
      newest = λ path. c.in_ok-newest_shapes.ensures path ∙ ap (λ l. with_schemas None (map (λ s. (s.0, s.1)) l) path) c.as_slice-schemas.ensures;
      current_is = c.in_ok-schema_of.ensures ∙ ap (λ (z : ℤ). option_map (λ s. s.1) (held_schema c.as_slice-schemas.result.now z)) (to_z-of_z w32 metadata.current_schema fits)
          ∙ ap (λ l. option_map (λ s. s.1) (held_schema l metadata.current_schema)) c.as_slice-schemas.ensures;
      count_is = small ∙ ap (λ l. pos (length l)) c.as_slice-schemas.ensures ∙ ap pos (sym (pairs_length metadata.schemas));
      first = first_ids metadata.schemas c.args.kept.now.schema_ids;
    }

use Rattle.std.proofs.Common.{◌≡◌, [], pos, arith, subst, ◌∙◌}
use Rattle.std.proofs.lemmas.Grind.{common_steps}
use Rattle.iceberg_field_ids.specs.Ids.{HasNoIds}
use Rattle.schema_map.specs.Paths.{column_paths}
use Rattle.schema_map.specs.declared.fault.MapError.{MapError}
use Rattle.target_iceberg.proofs.FollowLemmas.{all_pairs, never_passes, zero_ids}
use Rattle.target_iceberg.proofs.fitting.image_of.Goals as goal

pub unreachable-requires : goal.unreachable-requires
unreachable-requires c =
    let schema = c.args.schema.now in
    let none : c.loop-path.path-iterator.rest.items ≡ [] = grind (arith, common_steps) in
    let are : c.from_vec.result ≡ zero_ids (column_paths c.args.schema.now) = c.from_vec.ensures ∙ all_pairs c.loop-path.pairs.items (zero_ids (column_paths c.args.schema.now)) c.loop-path.path-iterator.rest.items none c.loop-path.invariant in
    let refused = subst (λ (e : MapError). HasNoIds c.from_vec.result (pos 0) (column_paths c.args.schema.now) e) c.in-Err-Limit.field-0-is c.in-Err-Limit.ensures.limit in
    never_passes schema c.from_vec.result (pos 0) are refused.1

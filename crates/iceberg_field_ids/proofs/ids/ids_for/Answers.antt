use Rattle.std.proofs.Common.{◌≡◌, ◌∙◌, ap, sym, rules, arith}
use Rattle.std.specs.Prelude.{Ok}
use Rattle.std.proofs.lemmas.Grind.{common_steps}
use Rattle.iceberg_field_ids.specs.Ids.{id_step}
use Rattle.schema_map.specs.Paths.{known_id}
use Rattle.iceberg_field_ids.proofs.IdsFor.{with_ids-step}
use Rattle.iceberg_field_ids.proofs.ids.ids_for.Goals as goal

pub loop-path-preserved : goal.loop-path-preserved
loop-path-preserved c =
    let same : c.known_id.result ≡ known_id c.args.known.now.pairs c.path-item.result = c.known_id.ensures ∙ c.in_ok-found.ensures c.path-item.result ∙ ap (λ ks. known_id ks c.path-item.result) c.as_slice.ensures in
    let given : id_step c.loop-path.last c.known_id.result ≡ Ok (c.in_ok-id.id, c.in_ok-id.last_given) = search rules in
    let step : id_step c.loop-path.last (known_id c.args.known.now.pairs c.path-item.result) ≡ Ok (c.in_ok-id.id, c.in_ok-id.last_given) = ap (id_step c.loop-path.last) (sym same) ∙ given in
    record {
      given = grind (arith, common_steps, with_ids-step, step);
      are = c.in_ok-push_id.ensures.are c.loop-path.invariant.are;
    }

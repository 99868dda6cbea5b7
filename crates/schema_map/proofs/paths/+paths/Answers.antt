use Rattle.std.proofs.Common.{◌≡◌, sym, ◌++◌, ◌∙◌, ap, List, ℕ}
use Rattle.std.specs.Prelude.{codes}
use Rattle.table_history.specs.TypeTree.{TypeTree, ColumnTree, map_of}
use Rattle.table_history.specs.declared.schema.ColumnType.TheVariants.{rolls-Map}
use Rattle.table_history.specs.declared.schema.ColumnType.{fold-roll-ColumnType}
use Rattle.table_history.specs.SchemaView.{type_view, type_step, column_step}
use Rattle.schema_map.specs.Paths.{below, inner_paths}
use Rattle.schema_map.proofs.Prefixes.{part_pushed, two_pushed}
use Rattle.schema_map.proofs.paths.+paths.Goals as goal

pub push_part-returns : goal.push_part-returns
push_part-returns t c =
    part_pushed _ _ _ c.args.prefix.now c.in_ok-path.path c.in_ok-inner.inner c.args.name.now (inner_paths (type_view c.args.kind.now))
    c.in_ok-push.ensures.items c.in_ok-path.ensures c.in_ok-inner.ensures c.in_ok-push_inner.ensures

pub push_inner-returns-in_ok-push_part-in-Map-2 : goal.push_inner-returns-in_ok-push_part-in-Map-2
push_inner-returns-in_ok-push_part-in-Map-2 t c =
    let key : List (List (List ℕ)) = below (codes "key") (inner_paths (type_view c.deref-in-Map.result.now)) in
    let value : List (List (List ℕ)) = below (codes "value") (inner_paths (type_view c.deref-in-Map-2.result.now)) in
    let seen : type_view c.args.kind.now ≡ map_of (type_view c.in-Map.key.value) (type_view c.in-Map.value.value) c.in-Map.nullable = ap type_view c.in-Map.is ∙ ap type_view (sym (rolls-Map c.in-Map.key c.in-Map.value c.in-Map.nullable)) ∙ fold-roll-ColumnType TypeTree ColumnTree type_step column_step _ in
    let whole : inner_paths (type_view c.args.kind.now) ≡ key ++ value = ap inner_paths seen ∙ rw (c.deref-in-Map.ensures, c.deref-in-Map-2.ensures) in
    two_pushed _ _ _ key value (inner_paths (type_view c.args.kind.now)) (λ p. c.args.prefix.now ++ p) whole c.in_ok-push_part-in-Map.ensures c.in_ok-push_part-in-Map-2.ensures

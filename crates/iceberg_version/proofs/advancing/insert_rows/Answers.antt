use Rattle.std.proofs.Common.{◌+◌, ◌∷◌, [], ℕ, Bor, List, arith, drop, map, subst, sym, take}
use Rattle.std.proofs.lemmas.List.{take_all}
use Rattle.table_history.specs.Row.{Row}
use Rattle.file_links.specs.Rows.{HoldsPath, OwnedRows}
use Rattle.iceberg_version.specs.Advance.{AppendsRows, AreFresh}
use Rattle.iceberg_version.specs.Manifests.{born_at}
use Rattle.iceberg_version.proofs.AdvanceLemmas.{appends_both, appends_none, fresh_behind, inserted, rows_left, rows_more, unheld_next}
use Rattle.iceberg_version.proofs.advancing.insert_rows.Goals as goal

pub loop-row-init : goal.loop-row-init
loop-row-init c = record { appended = appends_none c.args.links.now c.args.owner c.requires.owner; room = omega arith; fresh = c.requires.fresh }

pub insert-requires : goal.insert-requires
insert-requires c = record {
  room = omega (arith, c.loop-row.invariant.room, c.requires.room);
  owner = c.loop-row.invariant.appended.there;
  path = subst (λ (r : Row). ¬ HoldsPath c.loop-row.links r.path) (sym c.in_ok-copy.ensures) (unheld_next c.loop-row.links c.args.rows.now c.loop-row.row-index c.row-item.result c.loop-row-test.true c.row-item.is c.loop-row.invariant.fresh);
}

pub loop-row-preserved : goal.loop-row-preserved
loop-row-preserved c =
    let rows : List (Bor Row) = c.args.rows.now in
    let i : ℕ = c.loop-row.row-index in
    let row : Bor Row = c.row-item.result in
    let v : OwnedRows = c.args.links.now in
    let w : OwnedRows = c.loop-row.links in
    let after : OwnedRows = c.insert.new.self in
    let one = inserted c.args.version c.args.owner c.insert.result w after row c.in_ok-copy.field-0 c.from.result c.in_ok-copy.ensures c.from.ensures c.loop-row.invariant.appended.there c.insert.ensures in
    record {
      appended = appends_both c.args.owner (map (born_at c.args.version) (map (λ (r : Bor Row). r.now) (take i rows))) (map (born_at c.args.version) (row.now ∷ [])) (map (born_at c.args.version) (map (λ (r : Bor Row). r.now) (take (i + 1) rows))) v w after (rows_more c.args.version rows i row c.loop-row-test.true c.row-item.is) c.loop-row.invariant.appended one;
      room = omega (arith, c.loop-row.invariant.room, c.insert.ensures.room);
      fresh = fresh_behind c.args.owner c.args.version w after (row.now ∷ []) (map (λ (r : Bor Row). r.now) (drop (i + 1) rows)) (subst (λ (rs : List Row). AreFresh w rs) (rows_left rows i row c.loop-row-test.true c.row-item.is) c.loop-row.invariant.fresh) one;
    }

pub returns : goal.returns
returns c =
    subst (λ (rs : List (Bor Row)). AppendsRows c.args.owner (map (born_at c.args.version) (map (λ (r : Bor Row). r.now) rs)) c.args.links.now c.loop-row.links) (take_all c.loop-row.row-index c.args.rows.now c.loop-row-test.false) c.loop-row.invariant.appended

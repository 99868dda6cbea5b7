use mir.Val.{of_z, to_z}
use Rattle.std.proofs.Common.{◌≡◌, ℤ, cond, w64, true, false, sym, ap, ◌∙◌}
use Rattle.std.specs.Cmp.Lexicographic.{pointwise}
use Rattle.std.specs.Str.{bytes_eq}
use Rattle.std.specs.Option.{option_copied}
use Rattle.std.proofs.lemmas.Int.{to_z-of_z}
use Rattle.schema_map.specs.Paths.{Path}
use Rattle.target_iceberg.specs.Newest.{is_older, later, shape_at}
use Rattle.target_iceberg.proofs.NewestLemmas.{newer_kept, older_left}
use Rattle.target_iceberg.proofs.newest.keep.Goals as goal

pub returns-in_ok-insert : goal.returns-in_ok-insert
returns-in_ok-insert c = λ other.
    let newest = c.args.newest.now in
    let path : Path = c.args.path.items in
    let id : to_z w64 (of_z w64 c.args.id) ≡ c.args.id = to_z-of_z w64 c.args.id c.ranges.id in
    let older : is_older (shape_at newest path) (to_z w64 (of_z w64 c.args.id)) ≡ true = ap (λ (p : Path). is_older (shape_at newest p) (to_z w64 (of_z w64 c.args.id))) (sym c.as_slice.ensures.value) ∙ ap (λ o. is_older o (to_z w64 (of_z w64 c.args.id))) (sym c.get.ensures.value) ∙ sym c.is_older.ensures ∙ c.if-is_older.true in
    newer_kept newest c.insert.new.self c.args.path (to_z w64 (of_z w64 c.args.id)) c.args.shape c.in_ok-insert.ensures.updates older other
    ∙ ap (λ (z : ℤ). cond (pointwise bytes_eq path other) (later (shape_at newest other) (z, c.args.shape)) (shape_at newest other)) id

pub returns-else-is_older : goal.returns-else-is_older
returns-else-is_older c =
    let newer : is_older (shape_at c.args.newest.now c.args.path.items) c.args.id ≡ false = ap (λ (p : Path). is_older (shape_at c.args.newest.now p) c.args.id) (sym c.as_slice.ensures.value) ∙ ap (λ o. is_older o c.args.id) (sym c.get.ensures.value) ∙ ap (is_older (option_copied c.get.result)) (sym (to_z-of_z w64 c.args.id c.ranges.id)) ∙ sym c.is_older.ensures ∙ c.if-is_older.false in
    older_left c.args.newest.now c.args.path.items c.args.id c.args.shape newer

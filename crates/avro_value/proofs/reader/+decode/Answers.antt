use Rattle.std.proofs.Common.{◌≡◌, ◌∷◌, ◌++◌, ◌<◌, [], map, length, refl, sym, ap, ◌∙◌, arith}
use Rattle.std.proofs.lemmas.Result.{err_from_is_err_and}
use Rattle.std.proofs.lemmas.List.{map_push}
use Rattle.avro_value.specs.Layout.{layout, layouts_of, count_of}
use Rattle.avro_value.specs.ValueTree.{value_tree, entry_tree}
use Rattle.avro_value.specs.Reading.{content_at, union_at, branch_at, value_at}
use Rattle.avro_value.proofs.Layouts.{lay, shape-Null, shape-Boolean, shape-Int, shape-Long, shape-Float, shape-Double, shape-Bytes, shape-Text, shape-Fixed, shape-Enum, shape-Array, shape-Map, shape-Union, shape-Fields, count_of_branches, branch_there, fields_from, fields_end}
use Rattle.avro_schema.specs.declared.schema.Schema.{Schema}
use Rattle.avro_value.proofs.Loops.{fails_mapped, fails_bind, many_goes, many_fails, many_done, blocks_begin, blocks_goes, blocks_done, blocks_fails, blocks_past, parts_goes, parts_fails, parts_done}
use Rattle.avro_value.proofs.Values.{value_tree-Null, value_tree-Array, value_tree-Map, value_tree-Fields}
use Rattle.avro_value.proofs.BareValues.{idle_value, idle_behind}
use Rattle.avro_value.proofs.reader.+decode.Goals as goal

pub content-returns-in-Boolean : goal.content-returns-in-Boolean
unfolding content_at
content-returns-in-Boolean t c = rw (lay c.args.schema.now _ c.in-Boolean.is, shape-Boolean) c.boolean.ensures

pub content-returns-in-Int : goal.content-returns-in-Int
unfolding content_at
content-returns-in-Int t c = rw (lay c.args.schema.now _ c.in-Int.is, shape-Int) c.int.ensures

pub content-returns-in-Long : goal.content-returns-in-Long
unfolding content_at
content-returns-in-Long t c = rw (lay c.args.schema.now _ c.in-Long.is, shape-Long) c.long.ensures

pub content-returns-in-Float : goal.content-returns-in-Float
unfolding content_at
content-returns-in-Float t c = rw (lay c.args.schema.now _ c.in-Float.is, shape-Float) c.float.ensures

pub content-returns-in-Double : goal.content-returns-in-Double
unfolding content_at
content-returns-in-Double t c = rw (lay c.args.schema.now _ c.in-Double.is, shape-Double) c.double.ensures

pub content-returns-in-Bytes : goal.content-returns-in-Bytes
unfolding content_at
content-returns-in-Bytes t c = rw (lay c.args.schema.now _ c.in-Bytes.is, shape-Bytes) c.bytes.ensures

pub content-returns-in-Text : goal.content-returns-in-Text
unfolding content_at
content-returns-in-Text t c = rw (lay c.args.schema.now _ c.in-Text.is, shape-Text) c.text.ensures

pub content-returns-in-Null : goal.content-returns-in-Null
unfolding content_at
content-returns-in-Null t c = rw (lay c.args.schema.now _ c.in-Null.is, shape-Null, value_tree-Null) refl

pub content-returns-in-Enum : goal.content-returns-in-Enum
unfolding content_at
content-returns-in-Enum t c =
    let n : length c.in-Enum.symbols.items ≡ c.len.result = omega (arith, c.len.ensures, c.in-Enum.symbols.ok.0) in
    rw (lay c.args.schema.now _ c.in-Enum.is, shape-Enum, n) c.symbol.ensures

pub content-returns-in-Array : goal.content-returns-in-Array
unfolding content_at value_at
content-returns-in-Array t c = rw (lay c.args.schema.now _ c.in-Array.is, shape-Array, ← c.deref.ensures) c.array.ensures

pub content-returns-in-Map : goal.content-returns-in-Map
unfolding content_at value_at
content-returns-in-Map t c = rw (lay c.args.schema.now _ c.in-Map.is, shape-Map, ← c.deref-in-Map.ensures) c.entries.ensures

pub content-returns-in-Fixed : goal.content-returns-in-Fixed
unfolding content_at value_at
content-returns-in-Fixed t c = rw (lay c.args.schema.now _ c.in-Fixed.is, shape-Fixed) c.fixed.ensures

pub content-returns-in-Fields : goal.content-returns-in-Fields
unfolding content_at value_at
content-returns-in-Fields t c = rw (lay c.args.schema.now _ c.in-Fields.is, shape-Fields) c.record.ensures

pub content-returns-in-Union : goal.content-returns-in-Union
unfolding content_at union_at
content-returns-in-Union t c = rw (lay c.args.schema.now _ c.in-Union.is, shape-Union) c.union.ensures

pub array-loop-init : goal.array-loop-init
array-loop-init t c = blocks_begin _ _ _ _ _ (ap (map value_tree) c.new-items.ensures.items) refl

pub array-returns-in_err-block : goal.array-returns-in_err-block
array-returns-in_err-block t c =
    let p = err_from_is_err_and c.from_residual.result c.from_residual.ensures.1 in
    rw (p.1, p.2) (fails_mapped _ _ _ (blocks_fails _ _ _ _ _ _ _ _ c.loop-test.true c.in_err-block.ensures c.loop.invariant))

pub array-returns-then-not-branch : goal.array-returns-then-not-branch
array-returns-then-not-branch t c =
    let h = blocks_done _ _ _ _ _ _ _ _ _ _ c.loop-test.true (rw c.if-not-branch.true at c.in_ok-block.ensures) c.loop.invariant in
    rw (h, value_tree-Array) refl

pub array-loop-preserved : goal.array-loop-preserved
array-loop-preserved t c = blocks_goes _ _ _ _ _ _ _ _ _ _ c.loop-test.true (rw c.if-not-branch.false at c.in_ok-block.ensures) c.loop.invariant

pub array-returns : goal.array-returns
array-returns t c =
    let h = blocks_past _ _ _ _ _ _ _ c.loop-test.false c.loop.invariant in
    rw (h, c.fault.ensures) refl

pub entries-loop-init : goal.entries-loop-init
entries-loop-init t c = blocks_begin _ _ _ _ _ (ap (map entry_tree) c.new-found.ensures.items) refl

pub entries-returns-in_err-block_of_entries : goal.entries-returns-in_err-block_of_entries
entries-returns-in_err-block_of_entries t c =
    let p = err_from_is_err_and c.from_residual.result c.from_residual.ensures.1 in
    rw (p.1, p.2) (fails_mapped _ _ _ (blocks_fails _ _ _ _ _ _ _ _ c.loop-test.true c.in_err-block_of_entries.ensures c.loop.invariant))

pub entries-returns-then-not-branch : goal.entries-returns-then-not-branch
entries-returns-then-not-branch t c =
    let h = blocks_done _ _ _ _ _ _ _ _ _ _ c.loop-test.true (rw c.if-not-branch.true at c.in_ok-block_of_entries.ensures) c.loop.invariant in
    rw (h, value_tree-Map) refl

pub entries-loop-preserved : goal.entries-loop-preserved
entries-loop-preserved t c = blocks_goes _ _ _ _ _ _ _ _ _ _ c.loop-test.true (rw c.if-not-branch.false at c.in_ok-block_of_entries.ensures) c.loop.invariant

pub entries-returns : goal.entries-returns
entries-returns t c =
    let h = blocks_past _ _ _ _ _ _ _ c.loop-test.false c.loop.invariant in
    rw (h, c.fault.ensures) refl

pub many-returns-then-is_bare : goal.many-returns-then-is_bare
many-returns-then-is_bare t c = rw c.fault.ensures (idle_behind _ _ _ _ _ (idle_value _ (sym c.is_bare.ensures ∙ c.if-is_bare.true)) c.if-count-input.true)

pub many-returns-in_err-value : goal.many-returns-in_err-value
many-returns-in_err-value t c =
    let p = err_from_is_err_and c.from_residual.result c.from_residual.ensures.1 in
    rw (p.1, p.2) (many_fails _ _ _ _ _ _ _ _ c.loop-test.true c.in_err-value.ensures c.loop.invariant)

pub many-loop-preserved : goal.many-loop-preserved
many-loop-preserved t c =
    let n = c.in_ok-value.field-0 in
    let e : map value_tree c.push.new.self.items ≡ map value_tree c.loop.values.items ++ value_tree n ∷ [] = rw c.in_ok-push.ensures.items (map_push _ c.loop.values.items n) in
    rw e (many_goes _ _ _ _ _ _ _ _ c.loop-test.true c.in_ok-value.ensures c.loop.invariant)

pub many-returns : goal.many-returns
many-returns t c = many_done _ _ _ _ _ _ _ c.loop-test.false c.loop.invariant

pub many_entries-returns-in_err-one_entry : goal.many_entries-returns-in_err-one_entry
many_entries-returns-in_err-one_entry t c =
    let p = err_from_is_err_and c.from_residual.result c.from_residual.ensures.1 in
    rw (p.1, p.2) (many_fails _ _ _ _ _ _ _ _ c.loop-test.true c.in_err-one_entry.ensures c.loop.invariant)

pub many_entries-loop-preserved : goal.many_entries-loop-preserved
many_entries-loop-preserved t c =
    let n = c.in_ok-one_entry.field-0 in
    let e : map entry_tree c.push.new.self.items ≡ map entry_tree c.loop.found.items ++ entry_tree n ∷ [] = rw c.in_ok-push.ensures.items (map_push _ c.loop.found.items n) in
    rw e (many_goes _ _ _ _ _ _ _ _ c.loop-test.true c.in_ok-one_entry.ensures c.loop.invariant)

pub many_entries-returns : goal.many_entries-returns
many_entries-returns t c = many_done _ _ _ _ _ _ _ c.loop-test.false c.loop.invariant

pub record-returns-in_err-value : goal.record-returns-in_err-value
record-returns-in_err-value t c =
    let p = err_from_is_err_and c.from_residual-in_err-value.result c.from_residual-in_err-value.ensures.1 in
    let e = fields_from c.args.fields.now.items _ c.loop-field.field-index c.field-item.result c.deref-field-items.ensures.value c.loop-field-test.true c.field-item.is in
    rw (p.1, p.2) (fails_mapped _ _ _ (parts_fails _ _ _ _ _ _ _ c.in_err-value.ensures (rw e at c.loop-field.invariant)))

pub record-loop-field-preserved : goal.record-loop-field-preserved
record-loop-field-preserved t c =
    let e = fields_from c.args.fields.now.items _ c.loop-field.field-index c.field-item.result c.deref-field-items.ensures.value c.loop-field-test.true c.field-item.is in
    let n = c.in_ok-value.field-0 in
    let pushed : map value_tree c.push.new.self.items ≡ map value_tree c.loop-field.values.items ++ value_tree n ∷ [] = rw c.in_ok-push.ensures.items (map_push _ c.loop-field.values.items n) in
    rw pushed (parts_goes _ _ _ _ _ _ _ c.in_ok-value.ensures (rw e at c.loop-field.invariant))

pub record-returns : goal.record-returns
record-returns t c =
    let e = fields_end c.args.fields.now.items _ c.loop-field.field-index c.deref-field-items.ensures.value c.loop-field-test.false in
    let h = parts_done _ _ _ _ (rw e at c.loop-field.invariant) in
    rw (h, value_tree-Fields) refl

pub union-returns-in_err-index : goal.union-returns-in_err-index
unfolding union_at
union-returns-in_err-index t c =
    let bs = c.args.branches.now in
    let n : count_of (layouts_of (map layout bs.items)) ≡ c.len.result = omega (arith, count_of_branches bs.items, c.len.ensures, bs.ok.0) in
    let p = err_from_is_err_and c.from_residual.result c.from_residual.ensures.1 in
    rw (p.1, p.2, n) (fails_bind _ _ _ c.in_err-index.ensures.read)

pub union-returns-in_err-inner : goal.union-returns-in_err-inner
unfolding union_at
union-returns-in_err-inner t c =
    let bs = c.args.branches.now in
    let n : count_of (layouts_of (map layout bs.items)) ≡ c.len.result = omega (arith, count_of_branches bs.items, c.len.ensures, bs.ok.0) in
    let lt : c.in_ok-index.index < length bs.items = omega (arith, c.in_ok-index.ensures.below, c.len.ensures, bs.ok.0) in
    let rest = c.index.new.input.rest.now in
    let budget = c.index.new.input.budget in
    let b : branch_at (layouts_of (map layout bs.items)) c.in_ok-index.index rest budget ≡ value_at (layout c.index-2.result.now) rest budget =
    branch_there bs.items c.in_ok-index.index c.index-2.result.now rest budget lt ∙ ap (λ (s : Schema). value_at (layout s) rest budget) (sym c.index-2.ensures) in
    let p = err_from_is_err_and c.from_residual-in_err-inner.result c.from_residual-in_err-inner.ensures.1 in
    rw (p.1, p.2, n, c.in_ok-index.ensures.read, b) (fails_mapped _ _ _ c.in_err-inner.ensures)

pub union-returns : goal.union-returns
unfolding union_at
union-returns t c =
    let bs = c.args.branches.now in
    let n : count_of (layouts_of (map layout bs.items)) ≡ c.len.result = omega (arith, count_of_branches bs.items, c.len.ensures, bs.ok.0) in
    let lt : c.in_ok-index.index < length bs.items = omega (arith, c.in_ok-index.ensures.below, c.len.ensures, bs.ok.0) in
    let rest = c.index.new.input.rest.now in
    let budget = c.index.new.input.budget in
    let b : branch_at (layouts_of (map layout bs.items)) c.in_ok-index.index rest budget ≡ value_at (layout c.index-2.result.now) rest budget =
    branch_there bs.items c.in_ok-index.index c.index-2.result.now rest budget lt ∙ ap (λ (s : Schema). value_at (layout s) rest budget) (sym c.index-2.ensures) in
    rw (n, c.in_ok-index.ensures.read, b, c.in_ok-inner.ensures, c.in_ok-branch.ensures) refl

use Rattle.std.proofs.Common.{◌≡◌, pos, ℕ, List, [], ◌∷◌, codes, refl, arith}
use Rattle.std.specs.List.{IsDistinct}
use Rattle.std.specs.Ordering.{int_eq}
use Rattle.std.specs.Str.{bytes_eq}
use Rattle.std.proofs.lemmas.List.{length-map}
use Rattle.iceberg_manifest.specs.WrittenTypes.{part_names}
use Rattle.iceberg_manifest.specs.declared.partition.PartColumn.{PartColumn}
use Rattle.iceberg_manifest_writing.specs.RowEntries.{entry_in}
use Rattle.iceberg_rows.specs.declared.samples.TheConstants.{COLUMNS as columns}
use Rattle.iceberg_rows.proofs.samples.manifest_of.Goals as goal

own_names : (cs : List PartColumn) (a b : List ℕ) → a ≡ codes "day" → b ≡ codes "country" → IsDistinct bytes_eq (part_names cs (a ∷ b ∷ []))
unfolding IsDistinct
own_names cs a b is other = rw (is, other) ((refl, tt), (tt, tt))

own_ids : IsDistinct int_eq (pos 1000 ∷ pos 1001 ∷ [])
unfolding IsDistinct
own_ids = ((refl, tt), (tt, tt))

pub manifest_bytes-requires : goal.manifest_bytes-requires
manifest_bytes-requires c = record {
  named = refl;
  own_names = own_names columns _ _ c.in_ok-from_str.ensures c.in_ok-from_str-2.ensures;
  own_ids = own_ids;
  few_columns = omega arith;
  values = c.requires.values c.in_ok-front.front;
  few = omega (arith, c.requires.few, length-map c.args.entries.now (entry_in c.in_ok-front.front));
}

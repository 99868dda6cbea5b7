-- Where the columns have names and ids of their own, the fields that are written of them have names of their own.
use Rattle.std.proofs.Common.{◌≡◌, ℕ, ◌^◌, ◌<◌, ℤ, pos, negsuc, List, [], ◌∷◌, map, Bool, true, false, if◌then◌else◌, refl, arith, FitsSigned, w32}
use Rattle.std.proofs.lemmas.Bool.Decides.{Decides-int_eq}
use Rattle.std.proofs.lemmas.Slice.Eq.{bytes_eq-Decides}
use Rattle.std.proofs.lemmas.Fmt.{signed_decimal_injective}
use lib.Signed.{mag}
use Rattle.std.proofs.lemmas.Int.{ints}
use Rattle.std.specs.Fmt.{signed_decimal}
use Rattle.std.specs.List.{AllByRecursion, IsDistinct, list_all}
use Rattle.std.specs.Ordering.{int_eq}
use Rattle.std.specs.Str.{bytes_eq}
use Rattle.schema_map.specs.Image.{is_avro_name}
use Rattle.iceberg_manifest.specs.WrittenTypes.{part_names, id_name}
use Rattle.iceberg_manifest.specs.ManifestWriting.{field_ids, HasId}
use Rattle.iceberg_manifest.specs.declared.partition.PartColumn.{PartColumn}

mag_small : (z : ℤ) → FitsSigned w32 z → mag z < 2 ^ 63
mag_small (pos n) fits = omega (arith, ints, fits)
mag_small (negsuc n) fits = omega (arith, ints, fits)

id_named_apart : (c d : PartColumn) → HasId c → HasId d → int_eq c.field_id d.field_id ≡ false → bytes_eq (id_name c) (id_name d) ≡ false
id_named_apart c d fit_c fit_d other = by (bytes_eq (id_name c) (id_name d)) refl
  where
    by : (b : Bool) → bytes_eq (id_name c) (id_name d) ≡ b → b ≡ false
    by false e = refl
    by true e =
        let same : id_name c ≡ id_name d = (bytes_eq-Decides (id_name c) (id_name d)).0 e in
        let digits : signed_decimal c.field_id ≡ signed_decimal d.field_id = cc in
        let ids : c.field_id ≡ d.field_id = signed_decimal_injective c.field_id d.field_id (mag_small c.field_id fit_c) (mag_small d.field_id fit_d) digits in
        let equal : int_eq c.field_id d.field_id ≡ true = (Decides-int_eq c.field_id d.field_id).1 ids in
        absurd (cc)

all_named_apart : (c : PartColumn) (cs : List PartColumn) → HasId c → AllByRecursion HasId cs → AllByRecursion (λ j. int_eq c.field_id j ≡ false) (field_ids cs) → AllByRecursion (λ n. bytes_eq (id_name c) n ≡ false) (map id_name cs)
all_named_apart c [] fit fits others = tt
all_named_apart c (d ∷ ds) fit fits others = (id_named_apart c d fit fits.0 others.0, all_named_apart c ds fit fits.1 others.1)

id_names_distinct : (cs : List PartColumn) → AllByRecursion HasId cs → IsDistinct int_eq (field_ids cs) → IsDistinct bytes_eq (map id_name cs)
unfolding IsDistinct
id_names_distinct [] fit own = tt
id_names_distinct (c ∷ cs) fit own = (all_named_apart c cs fit.0 fit.1 own.0, id_names_distinct cs fit.1 own.1)

pub own_part_names : (cs : List PartColumn) (names : List (List ℕ)) → AllByRecursion HasId cs → IsDistinct int_eq (field_ids cs) → IsDistinct bytes_eq names → IsDistinct bytes_eq (part_names cs names)
own_part_names cs names fit own_ids own_names = by (list_all is_avro_name names)
  where
    by : (b : Bool) → IsDistinct bytes_eq (if b then names else map id_name cs)
    by true = own_names
    by false = id_names_distinct cs fit own_ids

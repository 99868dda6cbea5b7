-- What `to_avro` writes is read back as the Image.
use Rattle.std.proofs.Common.{◌≡◌, ◌≤◌, List, ℕ, Bool, true, false, ◌&&◌, Option, Some, None, Result, Ok, Err, refl, sym, subst, cond}
use Rattle.std.specs.Prelude.{IfOk, OnOk}
use Rattle.serde_json.specs.Data.{depth}
use Rattle.serde_json.specs.Read.{max_depth}
use Rattle.json_reading.specs.Json.{IsReadAgain}
use Rattle.lake_basics.specs.Outcome.{GivesUnlessMemory}
use Rattle.table_history.specs.TypeTree.{ColumnTrees, struct_of}
use Rattle.table_history.specs.Sound.{IsSound}
use Rattle.table_history.specs.SchemaSize.{IsWithinLimits}
use Rattle.schema_map.specs.declared.fault.MapError.{MapError}
use Rattle.schema_map.specs.Errors.{is_memory}
use Rattle.schema_map.specs.Image.{wide_columns, have_text_keys, have_avro_names}
use Rattle.schema_avro.specs.Avro.{limited_avro_schema_of}
use Rattle.schema_avro.specs.AvroSpelling.{IsAvroText}
use Rattle.schema_avro.specs.AvroWriting.{avro_data, avro_text, avro_schema_text}
use Rattle.schema_avro.proofs.AvroRefused.{avro_said, avro_defined}
use Rattle.schema_avro.proofs.AvroRead.{avro_text_only, within_no_limit}
use Rattle.schema_avro.proofs.AvroWritten.{avro_shallow, avro_spelled}
use Rattle.schema_map.proofs.Wide.{wide_limits}

keys_of : (a b : Bool) (x y : ColumnTrees) → cond {A = Option ColumnTrees} (a && b) (Some x) None ≡ Some y → a ≡ true
keys_of true b x y e = refl
keys_of false b x y e = absurd cc

pub read_back : (cs : ColumnTrees) (text : List ℕ) → IsAvroText (wide_columns cs) text → IsWithinLimits cs → limited_avro_schema_of text ≡ Ok (wide_columns cs)
read_back cs text is limits = rw (avro_text_only text (wide_columns cs) is, within_no_limit (wide_columns cs) (wide_limits cs limits))

pub written_back : (cs : ColumnTrees) (r : Result (List ℕ) MapError) → GivesUnlessMemory is_memory (λ t. t) r (avro_schema_text cs) → OnOk r (depth (avro_data (struct_of cs) 0).0 ≤ max_depth → IsReadAgain (avro_data (struct_of cs) 0).0)
    → IfOk r (λ t. IsSound cs → IsWithinLimits cs → IsAvroText (wide_columns cs) t × (limited_avro_schema_of t ≡ Ok (wide_columns cs)))
written_back cs (Ok text) given again =
    λ sound limits.
    let keys = keys_of (have_text_keys cs) (have_avro_names cs) (wide_columns cs) (wide_columns cs) (avro_defined cs (Ok text) given) in
    let same = avro_said cs text given in
    let spelled : IsAvroText (wide_columns cs) text = subst (λ (t : List ℕ). IsAvroText (wide_columns cs) t) (sym same) (avro_spelled cs (avro_text cs) sound limits keys (again (avro_shallow cs limits))) in
    (spelled, read_back cs text spelled limits)
written_back cs (Err e) given again = tt

-- The outline of a held schema refuses nothing but faults of the grammar.
use Rattle.std.proofs.Common.{◌≡◌, ℕ, zero, suc, List, [], ◌∷◌, Bool, true, false, cond, Option, Result, Ok, Err, codes, refl}
use Rattle.std.specs.Str.{bytes_eq}
use Rattle.avro_schema.specs.Names.{are_distinct}
use Rattle.serde_json.specs.Data.{Data, null, boolean, number, string, array, object}
use Rattle.serde_json.specs.Read.{max_depth}
use Rattle.lake_basics.specs.Outcome.{◌>>=◌, required, each}
use Rattle.lake_basics.proofs.Steps.{Refuses, refuses_ok, refuses_err, refuses_bind, refuses_required, refuses_each}
use Rattle.json_reading.specs.Json.{items}
use Rattle.schema_map.specs.Paths.{Path}
use Rattle.iceberg_metadata.specs.declared.error.MetadataError.{MetadataError}
use Rattle.iceberg_metadata.specs.declared.error.MetadataError.TheVariants.{Malformed}
use Rattle.iceberg_metadata.specs.declared.outline.Outline.{Outline}
use Rattle.iceberg_metadata.specs.Members.{text_in, int_in, bool_in, list_in, member_in}
use Rattle.iceberg_metadata.specs.Outlines.{Walk, part_outline, field_outline, fields_outline, own_names, struct_outline, list_outline, map_outline, nested_outline, shape_outline, type_outline, schema_outline, with_other, with_word, column_of_word, nothing_met}

abbrev pub IsMalformed : MetadataError → Type 0
IsMalformed e = e ≡ Malformed

abbrev Faulty : {A : Type 0} → Result A MetadataError → Type 0
Faulty r = Refuses IsMalformed r

must : {A : Type 0} (o : Option A) → Faulty (required Malformed o)
must o = refuses_required IsMalformed Malformed o refl

good : (o : Outline) → Faulty (Ok o)
good o = refuses_ok IsMalformed o

bad : {A : Type 0} → Faulty {A = A} (Err Malformed)
bad = refuses_err IsMalformed Malformed refl

chain : {A B : Type 0} (r : Result A MetadataError) (f : A → Result B MetadataError) → Faulty r → ((a : A) → Faulty (f a)) → Faulty (r >>= f)
chain r f = refuses_bind IsMalformed r f

either : {A : Type 0} (b : Bool) (x y : Result A MetadataError) → Faulty x → Faulty y → Faulty (cond b x y)
either true x y f g = f
either false x y f g = g

distinct_fault : (b : Bool) → Faulty {A = Unit {0}} (cond b (Ok tt) (Err Malformed))
distinct_fault true = refuses_ok IsMalformed tt
distinct_fault false = bad

own_fault : (ds : List Data) → Faulty (own_names ds)
own_fault ds = chain (each (text_in (codes "name")) ds) _ (refuses_each IsMalformed (text_in (codes "name")) ds (λ d. must _)) (λ names. distinct_fault (are_distinct names))

abbrev Faults : Walk → Type 0
Faults part = (prefix : Path) (d : Data) (o : Outline) → Faulty (part prefix d o)

module _ (part : Walk) (inner : Faults part) where
  field_fault : (prefix : Path) (d : Data) (o : Outline) → Faulty (field_outline part prefix d o)
  unfolding field_outline
  field_fault prefix d o = chain (int_in (codes "id") d) _ (must _) (λ id. chain (text_in (codes "name") d) _ (must _) (λ name. chain (bool_in (codes "required") d) _ (must _) (λ is_required. chain (member_in (codes "type") d) _ (must _) (λ kind. inner _ kind _))))

  fields_fault : (prefix : Path) (ds : List Data) (o : Outline) → Faulty (fields_outline (field_outline part prefix) ds o)
  fields_fault prefix [] o = good o
  fields_fault prefix (d ∷ ds) o = chain (field_outline part prefix d o) _ (field_fault prefix d o) (λ more. fields_fault prefix ds more)

  struct_fault : (prefix : Path) (d : Data) (o : Outline) → Faulty (struct_outline part prefix d o)
  unfolding struct_outline
  struct_fault prefix d o = chain (list_in (codes "fields") d) _ (must _) (λ fields. chain (own_names (items fields)) _ (own_fault (items fields)) (λ own. fields_fault prefix (items fields) o))

  list_fault : (prefix : Path) (d : Data) (o : Outline) → Faulty (list_outline part prefix d o)
  unfolding list_outline
  list_fault prefix d o = chain (int_in (codes "element-id") d) _ (must _) (λ id. chain (bool_in (codes "element-required") d) _ (must _) (λ is_required. chain (member_in (codes "element") d) _ (must _) (λ element. inner _ element _)))

  map_fault : (prefix : Path) (d : Data) (o : Outline) → Faulty (map_outline part prefix d o)
  unfolding map_outline
  map_fault prefix d o =
      chain (int_in (codes "key-id") d) _ (must _)
      (λ key_id. chain (int_in (codes "value-id") d) _ (must _)
      (λ value_id. chain (bool_in (codes "value-required") d) _ (must _)
      (λ is_required. chain (member_in (codes "key") d) _ (must _) (λ key. chain (member_in (codes "value") d) _ (must _) (λ value. chain (part_outline part prefix (codes "key") key_id key o) _ (inner _ key _) (λ more. inner _ value _))))))

  nested_fault : (prefix : Path) (d : Data) (o : Outline) → Faulty (nested_outline part prefix d o)
  unfolding nested_outline
  nested_fault prefix d o = chain (text_in (codes "type") d) _ (must _) (λ word. either (bytes_eq word (codes "struct")) _ _ (struct_fault prefix d o) (either (bytes_eq word (codes "list")) _ _ (list_fault prefix d o) (either (bytes_eq word (codes "map")) _ _ (map_fault prefix d o) (good (with_other o)))))

  shape_fault : (prefix : Path) (d : Data) (o : Outline) → Faulty (shape_outline part prefix d o)
  shape_fault prefix null o = bad
  shape_fault prefix (boolean b) o = bad
  shape_fault prefix (number n) o = bad
  shape_fault prefix (string word) o = good (with_word (column_of_word word) o)
  shape_fault prefix (array ds) o = bad
  shape_fault prefix (object ms) o = nested_fault prefix (object ms) o

type_fault : (n : ℕ) → Faults (type_outline n)
unfolding type_outline
type_fault zero prefix d o = bad
type_fault (suc n) prefix d o = shape_fault (type_outline n) (type_fault n) prefix d o

pub outline_fault : (d : Data) → Faulty (schema_outline d)
unfolding schema_outline
outline_fault d = chain (text_in (codes "type") d) _ (must _) (λ word. either (bytes_eq word (codes "struct")) _ _ (struct_fault (type_outline max_depth) (type_fault max_depth) [] d nothing_met) bad)

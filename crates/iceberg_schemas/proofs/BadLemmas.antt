-- Where the JSON of a type has no outline, it isn't in the grammar.
use Rattle.std.proofs.Common.{◌≡◌, ◌⊎◌, ℕ, zero, suc, ◌≤◌, Bool, true, false, cond, List, [], ◌∷◌, Option, Some, None, Result, Ok, Err, codes, refl, sym, subst, ◌∙◌, inl, inr, ⊎_elim, arith}
use Rattle.std.specs.Prelude.{IfErr}
use Rattle.std.specs.List.{IsDistinct}
use Rattle.std.specs.Str.{bytes_eq}
use Rattle.std.proofs.lemmas.Bool.{false≢true}
use Rattle.avro_schema.specs.Names.{are_distinct}
use Rattle.partition_map.proofs.ColumnLemmas.{distinct_exactly}
use Rattle.serde_json.specs.Data.{Data, null, boolean, number, string, array, object, Items, depth}
use Rattle.serde_json.specs.Find.{get}
use Rattle.serde_json.specs.Read.{max_depth}
use Rattle.lake_basics.specs.Outcome.{◌>>=◌, required, each}
use Rattle.lake_basics.proofs.Steps.{bind_err}
use Rattle.json_reading.specs.Json.{text_member, bool_member, int_member, list_member, items}
use Rattle.schema_map.specs.Among.{IsAmong}
use Rattle.schema_map.specs.Paths.{Path}
use Rattle.schema_map.specs.Places.{IsNamed, field_names}
use Rattle.schema_map.proofs.Failing.{each_failed, not_word}
use Rattle.schema_map.proofs.Places.{named_word}
use Rattle.schema_iceberg.specs.IcebergRefusal.{IsBadIcebergField, IsBadIcebergSchema}
use Rattle.iceberg_metadata.specs.declared.error.MetadataError.{MetadataError}
use Rattle.iceberg_metadata.specs.Errors.{Gives}
use Rattle.iceberg_metadata.specs.declared.error.MetadataError.TheVariants.{Memory, FormatVersion, Malformed, SchemaType, Transform, Renamed, PartitionType, Limit}
use Rattle.iceberg_metadata.specs.declared.outline.Outline.{Outline}
use Rattle.iceberg_metadata.specs.Members.{text_in}
use Rattle.iceberg_metadata.specs.Outlines.{Walk, part_outline, field_outline, fields_outline, if_distinct, own_names, struct_outline, list_outline, map_outline, nested_outline, shape_outline, type_outline, schema_outline, nothing_met, with_other}
use Rattle.iceberg_schemas.specs.SchemaOutlines.{IsNoIcebergOutline}
use Rattle.iceberg_schemas.proofs.OutlineLemmas.{outline_fault}
use Rattle.iceberg_schemas.proofs.DepthLemmas.{field_depth, part_depth}
use Rattle.iceberg_schemas.proofs.PlaceLemmas.{HasBad, bad_here, bad_part}
use Rattle.iceberg_schemas.proofs.WalkLemmas.{names_there}

-- What must be there isn't, or what comes behind it fails.
pub lacks : {A B : Type 0} (o : Option A) (f : A → Result B MetadataError) (e : MetadataError) → (required Malformed o >>= f) ≡ Err e → (o ≡ None) ⊎ ((x : A) × (o ≡ Some x) × (f x ≡ Err e))
lacks None f e h = inl refl
lacks (Some x) f e h = inr (x, refl, h)

pub none_of : {A : Type 0} (o : Option A) (e : MetadataError) → required Malformed o ≡ Err e → o ≡ None
none_of None e h = refl
none_of (Some x) e h = absurd cc

-- ---- names

not_own : (b : Bool) (e : MetadataError) → cond {A = Result (Unit {0}) MetadataError} b (Ok tt) (Err Malformed) ≡ Err e → b ≡ false
not_own true e h = absurd cc
not_own false e h = refl

abbrev AreBadFields : Items → Type 0
AreBadFields ds = (IsDistinct bytes_eq (field_names ds) → ⊥) ⊎ ((field : Data) × IsAmong field (items ds) × IsBadIcebergField field)

names_bad : (ds : Items) (e : MetadataError) → own_names (items ds) ≡ Err e → AreBadFields ds
names_bad ds e h = ⊎_elim missing twice (bind_err (each (text_in (codes "name")) (items ds)) if_distinct e h)
  where
    missing : each (text_in (codes "name")) (items ds) ≡ Err e → AreBadFields ds
    missing fails = let at = each_failed (text_in (codes "name")) (items ds) e fails in inr (at.at, at.among, inr (inl (none_of (text_member (codes "name") at.at) e at.fails)))

    twice : ((names : List (List ℕ)) × (each (text_in (codes "name")) (items ds) ≡ Ok names) × (if_distinct names ≡ Err e)) → AreBadFields ds
    twice names =
        let other : are_distinct names.0 ≡ false = not_own (are_distinct names.0) e names.2 in
        inl (λ distinct. false≢true (sym other ∙ (distinct_exactly names.0).1 (subst (IsDistinct bytes_eq) (sym (names_there (items ds) names.0 names.1)) distinct)))

-- The types that fail in so many levels, although they nest in no more, have a bad place.
abbrev Fails : ℕ → Walk → Type 0
Fails n part = (prefix : Path) (d : Data) (o : Outline) (e : MetadataError) → suc (depth d) ≤ n → part prefix d o ≡ Err e → HasBad d

module _ (n : ℕ) (part : Walk) (inner : Fails n part) where
  -- ---- fields

  abbrev BadField : Data → Type 0
  BadField field = IsBadIcebergField field ⊎ ((kind : Data) × (get (codes "type") field ≡ Some kind) × HasBad kind)

  field_bad : (prefix : Path) (field : Data) (o : Outline) (e : MetadataError) → depth field ≤ n → field_outline part prefix field o ≡ Err e → BadField field
  unfolding field_outline
  field_bad prefix field o e small h =
      ⊎_elim (λ none. inl (inl none)) (λ id.
      ⊎_elim (λ none. inl (inr (inl none))) (λ name.
      ⊎_elim (λ none. inl (inr (inr (inl none)))) (λ is_required.
      ⊎_elim (λ none. inl (inr (inr (inr none)))) (λ kind.
      inr (kind.0, kind.1, inner _ kind.0 _ e (part_depth (codes "type") field kind.0 n kind.1 small) kind.2))
      (lacks (get (codes "type") field) _ e is_required.2))
      (lacks (bool_member (codes "required") field) _ e name.2))
      (lacks (text_member (codes "name") field) _ e id.2))
      (lacks (int_member (codes "id") field) _ e h)

  fields_bad : (prefix : Path) (ds : List Data) (o : Outline) (e : MetadataError) → ((field : Data) → IsAmong field ds → depth field ≤ n) → fields_outline (field_outline part prefix) ds o ≡ Err e → (field : Data) × IsAmong field ds × BadField field
  fields_bad prefix [] o e small h = absurd cc
  fields_bad prefix (d ∷ ds) o e small h =
      ⊎_elim
      (λ here. (d, inl refl, field_bad prefix d o e (small d (inl refl)) here))
      (λ later. let bad = fields_bad prefix ds later.0 e (λ field among. small field (inr among)) later.2 in (bad.0, inr bad.1, bad.2))
      (bind_err (field_outline part prefix d o) _ e h)

  -- ---- types with parts

  struct_bad : (prefix : Path) (d : Data) (o : Outline) (e : MetadataError) → IsNamed (codes "struct") d → depth d ≤ suc n → struct_outline part prefix d o ≡ Err e → HasBad d
  unfolding struct_outline
  struct_bad prefix d o e named small h =
      ⊎_elim (λ none. bad_here d (inr (inl (named, inl none)))) (λ fields. ⊎_elim (own_bad fields.0 fields.1) (λ own. in_fields fields.0 fields.1 (fields_bad prefix (items fields.0) o e (λ field among. field_depth d fields.0 field n fields.1 among small) own.2)) (bind_err (own_names (items fields.0)) _ e fields.2))
      (lacks (list_member (codes "fields") d) _ e h)
    where
      own_bad : (ds : Items) → list_member (codes "fields") d ≡ Some ds → own_names (items ds) ≡ Err e → HasBad d
      own_bad ds lists fails = bad_here d (inr (inl (named, inr (ds, lists, names_bad ds e fails))))

      in_fields : (ds : Items) → list_member (codes "fields") d ≡ Some ds → ((field : Data) × IsAmong field (items ds) × BadField field) → HasBad d
      in_fields ds lists at =
          ⊎_elim
          (λ bad. bad_here d (inr (inl (named, inr (ds, lists, inr (at.0, at.1, bad))))))
          (λ kind. bad_part d kind.0 (inl (ds, at.0, named, lists, at.1, kind.1)) kind.2)
          at.2

  list_bad : (prefix : Path) (d : Data) (o : Outline) (e : MetadataError) → IsNamed (codes "list") d → depth d ≤ n → list_outline part prefix d o ≡ Err e → HasBad d
  unfolding list_outline
  list_bad prefix d o e named small h =
      ⊎_elim (λ none. bad_here d (inr (inr (inl (named, inl none))))) (λ id.
      ⊎_elim (λ none. bad_here d (inr (inr (inl (named, inr (inl none)))))) (λ is_required.
      ⊎_elim (λ none. bad_here d (inr (inr (inl (named, inr (inr none)))))) (λ element.
      bad_part d element.0 (inr (inl (named, element.1))) (inner _ element.0 _ e (part_depth (codes "element") d element.0 n element.1 small) element.2))
      (lacks (get (codes "element") d) _ e is_required.2))
      (lacks (bool_member (codes "element-required") d) _ e id.2))
      (lacks (int_member (codes "element-id") d) _ e h)

  map_bad : (prefix : Path) (d : Data) (o : Outline) (e : MetadataError) → IsNamed (codes "map") d → depth d ≤ n → map_outline part prefix d o ≡ Err e → HasBad d
  unfolding map_outline
  map_bad prefix d o e named small h =
      ⊎_elim (λ none. bad_here d (inr (inr (inr (named, inl none))))) (λ key_id.
      ⊎_elim (λ none. bad_here d (inr (inr (inr (named, inr (inl none)))))) (λ value_id.
      ⊎_elim (λ none. bad_here d (inr (inr (inr (named, inr (inr (inl none))))))) (λ is_required.
      ⊎_elim (λ none. bad_here d (inr (inr (inr (named, inr (inr (inr (inl none)))))))) (λ key.
      ⊎_elim (λ none. bad_here d (inr (inr (inr (named, inr (inr (inr (inr none)))))))) (λ value.
      ⊎_elim
      (λ first. bad_part d key.0 (inr (inr (named, inl key.1))) (inner _ key.0 _ e (part_depth (codes "key") d key.0 n key.1 small) first))
      (λ more. bad_part d value.0 (inr (inr (named, inr value.1))) (inner _ value.0 _ e (part_depth (codes "value") d value.0 n value.1 small) more.2))
      (bind_err (part_outline part prefix (codes "key") key_id.0 key.0 o) _ e value.2))
      (lacks (get (codes "value") d) _ e key.2))
      (lacks (get (codes "key") d) _ e is_required.2))
      (lacks (bool_member (codes "value-required") d) _ e value_id.2))
      (lacks (int_member (codes "value-id") d) _ e key_id.2))
      (lacks (int_member (codes "key-id") d) _ e h)

  -- ---- types

  nested_bad : (prefix : Path) (d : Data) (o : Outline) (e : MetadataError) → ((w : List ℕ) → d ≡ string w → ⊥) → depth d ≤ n → nested_outline part prefix d o ≡ Err e → HasBad d
  unfolding nested_outline
  nested_bad prefix d o e no_word small h =
      ⊎_elim
      (λ none. bad_here d (inl (no_word, none)))
      (λ word. by word.0 word.1 (bytes_eq word.0 (codes "struct")) (bytes_eq word.0 (codes "list")) (bytes_eq word.0 (codes "map")) refl refl refl word.2)
      (lacks (text_member (codes "type") d) _ e h)
    where
      more : depth d ≤ suc n
      more = omega (arith, small)

      by : (w : List ℕ) → text_member (codes "type") d ≡ Some w → (a b c : Bool) → bytes_eq w (codes "struct") ≡ a → bytes_eq w (codes "list") ≡ b → bytes_eq w (codes "map") ≡ c
          → cond a (struct_outline part prefix d o) (cond b (list_outline part prefix d o) (cond c (map_outline part prefix d o) (Ok (with_other o)))) ≡ Err e → HasBad d
      by w is true b c ea eb ec f = struct_bad prefix d o e (named_word d w (codes "struct") is ea) more f
      by w is false true c ea eb ec f = list_bad prefix d o e (named_word d w (codes "list") is eb) small f
      by w is false false true ea eb ec f = map_bad prefix d o e (named_word d w (codes "map") is ec) small f
      by w is false false false ea eb ec f = absurd cc

  shape_bad : (prefix : Path) (d : Data) (o : Outline) (e : MetadataError) → depth d ≤ n → shape_outline part prefix d o ≡ Err e → HasBad d
  shape_bad prefix null o e small h = bad_here null (inl (λ w is. absurd cc, refl))
  shape_bad prefix (boolean b) o e small h = bad_here (boolean b) (inl (λ w is. absurd cc, refl))
  shape_bad prefix (number m) o e small h = bad_here (number m) (inl (λ w is. absurd cc, refl))
  shape_bad prefix (string w) o e small h = absurd cc
  shape_bad prefix (array ds) o e small h = bad_here (array ds) (inl (λ w is. absurd cc, refl))
  shape_bad prefix (object ms) o e small h = nested_bad prefix (object ms) o e (λ w is. absurd cc) small h

less : (d : Data) (n : ℕ) → suc (depth d) ≤ suc n → depth d ≤ n
less d n small = omega (arith, small)

type_bad : (n : ℕ) → Fails n (type_outline n)
unfolding type_outline
type_bad zero prefix d o e small h = absurd (omega (arith, small))
type_bad (suc n) prefix d o e small h = shape_bad n (type_outline n) (type_bad n) prefix d o e (less d n small) h

-- ---- a schema

pub outline_bad : (d : Data) (e : MetadataError) → depth d ≤ max_depth → schema_outline d ≡ Err e → IsBadIcebergSchema d
unfolding schema_outline
outline_bad d e small h = ⊎_elim (λ none. inl (λ named. let wrong : None ≡ Some (codes "struct") = sym none ∙ named in absurd cc)) (λ word. by word.0 word.1 (bytes_eq word.0 (codes "struct")) refl word.2) (lacks (text_member (codes "type") d) _ e h)
  where
    by : (w : List ℕ) → text_member (codes "type") d ≡ Some w → (b : Bool) → bytes_eq w (codes "struct") ≡ b → cond b (struct_outline (type_outline max_depth) [] d nothing_met) (Err Malformed) ≡ Err e → IsBadIcebergSchema d
    by w is true same f = inr (struct_bad max_depth (type_outline max_depth) (type_bad max_depth) [] d nothing_met e (named_word d w (codes "struct") is same) (omega (arith, small)) f)
    by w is false other f = inl (λ named. not_word w (codes "struct") other (sym is ∙ named))

-- ---- by what a reading gives

pub given_no_outline : (d : Data) (r : Result Outline MetadataError) → Gives r (schema_outline d) → depth d ≤ max_depth → IfErr r (IsNoIcebergOutline d)
given_no_outline d (Ok o) given small = tt
given_no_outline d (Err Memory) given small = tt
given_no_outline d (Err Malformed) given small = outline_bad d Malformed small given
given_no_outline d (Err FormatVersion) given small = absurd (let wrong = outline_fault d FormatVersion given in cc)
given_no_outline d (Err SchemaType) given small = absurd (let wrong = outline_fault d SchemaType given in cc)
given_no_outline d (Err Transform) given small = absurd (let wrong = outline_fault d Transform given in cc)
given_no_outline d (Err Renamed) given small = absurd (let wrong = outline_fault d Renamed given in cc)
given_no_outline d (Err PartitionType) given small = absurd (let wrong = outline_fault d PartitionType given in cc)
given_no_outline d (Err (Limit which)) given small = absurd (let wrong = outline_fault d (Limit which) given in cc)

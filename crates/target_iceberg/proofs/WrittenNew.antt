-- The metadata of a new version, in its file.
use Rattle.std.proofs.Common.{◌≡◌, ◌⊎◌, ⊎_elim, ℕ, ℤ, pos, ◌+◌, List, [], ◌∷◌, ◌++◌, map, Bool, true, false, cond, Contains, Option, Some, refl, sym, ap, subst, ◌∙◌, arith}
use Rattle.std.specs.Prelude.{◌≤ℤ◌, find, flat_map, option_map}
use Rattle.std.specs.List.{IsDistinct}
use Rattle.std.specs.List.Sorted.{IsPermutation}
use Rattle.std.specs.Str.{bytes_eq}
use Rattle.std.proofs.lemmas.Bool.{false≢true}
use Rattle.std.proofs.lemmas.Cmp.{nat_list_eq_equiv}
use Rattle.std.proofs.lemmas.Int.{ints}
use Rattle.std.proofs.lemmas.List.Sorted.{Contains-permutation, IsPermutation-map}
use Rattle.std.proofs.lemmas.Map.Keys.{IsDistinct-IsPermutation, IsDistinct-head, IsDistinct-tail}
use Rattle.std.proofs.lemmas.Slice.Eq.{bytes_eq-Decides}
use Rattle.serde_json.specs.Written.{compact_text}
use Rattle.table_history.specs.TypeTree.{ColumnTrees}
use Rattle.table_history.specs.declared.table.Commit.{Commit}
use Rattle.table_history.proofs.RowListLemmas.{Contains-cases, Contains-head, Contains-none, all_at}
use Rattle.iceberg_ancestry.specs.Ancestry.{held_at}
use Rattle.iceberg_metadata.specs.Paths.{current_schema, default_fields, fields_of, held_schema, held_spec}
use Rattle.iceberg_metadata.specs.Schemas.{HeldSchema}
use Rattle.iceberg_metadata.specs.Writing.{SameMetadata}
use Rattle.iceberg_metadata.specs.declared.metadata.Metadata.{Metadata}
use Rattle.iceberg_metadata.specs.declared.metadata.Snapshot.{Snapshot}
use Rattle.iceberg_metadata.specs.declared.metadata.SpecField.{SpecField}
use Rattle.iceberg_version.specs.Schemas.{AreSpecFields, FIRST_PARTITION_ID, Schemas}
use Rattle.iceberg_version.specs.Sound.{have_first_ids}
use Rattle.iceberg_version.specs.Writing.{IsWritten, MAX_SNAPSHOTS, NewVersion, TableEnd, last_of, mapping_property, mark_of, mark_property, metadata_of as made_of, next_version, properties_of, snapshot_of, spec_of}
use Rattle.iceberg_version.proofs.Shared.{in_map}
use Rattle.target_core.specs.Mark.{IsMarkText, mark_data}
use Rattle.target_core.specs.Views.{Origin}
use Rattle.target_core.specs.declared.mark.Mark.{Mark}
use Rattle.target_iceberg.specs.Form.{HasOwnForm, HasOwnSpec}
use Rattle.target_iceberg.specs.Reading.{HasMark, property}
use Rattle.target_iceberg.proofs.WrittenMetadata.{IsSoundAt, current_held, snapshot_cases}
use Rattle.target_iceberg.proofs.WrittenSchemas.{AreSoundNext, field_names_are}

-- ---- the mark

abbrev Property : Type 0
Property = List ℕ × List ℕ

property_by : (b : Bool) (p : Property) (o : Option Property) (text : List ℕ) → (b ≡ true → p.1 ≡ text) → (b ≡ false → option_map (λ q. q.1) o ≡ Some text) → option_map (λ q. q.1) (cond b (Some p) o) ≡ Some text
property_by true p o text here later = ap (λ (t : List ℕ). Some t) (here refl)
property_by false p o text here later = later refl

-- of distinct names each has its own property
property_in : (name text : List ℕ) (ps : List Property) → IsDistinct bytes_eq (map (λ q. q.0) ps) → Contains ps (name, text) → property name ps ≡ Some text
property_in name text [] distinct there = absurd (Contains-none (name, text) there)
property_in name text (p ∷ ps) distinct there =
    ⊎_elim
    (λ (same : p ≡ (name, text)).
    property_by (bytes_eq p.0 name) p (find (λ q. bytes_eq q.0 name) ps) text (λ is. ap (λ (q : Property). q.1) same) (λ other. absurd (false≢true (sym other ∙ (bytes_eq-Decides p.0 name).1 (ap (λ (q : Property). q.0) same)))))
    (λ (later : Contains ps (name, text)).
    let apart : bytes_eq p.0 name ≡ false = all_at (λ y. bytes_eq p.0 y ≡ false) (map (λ q. q.0) ps) name (IsDistinct-head bytes_eq p.0 (map (λ q. q.0) ps) distinct) (in_map (λ (q : Property). q.0) ps (name, text) later) in
    property_by (bytes_eq p.0 name) p (find (λ q. bytes_eq q.0 name) ps) text (λ is. absurd (false≢true (sym apart ∙ is))) (λ other. property_in name text ps (IsDistinct-tail bytes_eq p.0 (map (λ q. q.0) ps) distinct) later))
    (Contains-cases p ps (name, text) there)

two_names : (t u : List ℕ) → IsDistinct bytes_eq (map (λ (q : Property). q.0) ((mark_property, t) ∷ (mapping_property, u) ∷ []))
unfolding IsDistinct
two_names t u = ((refl, tt), (tt, tt))

mark_found : (t u : List ℕ) (ps : List Property) → IsPermutation ((mark_property, t) ∷ (mapping_property, u) ∷ []) ps → property mark_property ps ≡ Some t
mark_found t u ps moves =
    let both = (mark_property, t) ∷ (mapping_property, u) ∷ [] in
    let names = IsDistinct-IsPermutation bytes_eq nat_list_eq_equiv.symm (map (λ (q : Property). q.0) both) (map (λ q. q.0) ps) (IsPermutation-map (λ (q : Property). q.0) both ps moves) (two_names t u) in
    property_in mark_property t ps names (Contains-permutation both ps (mark_property, t) moves (Contains-head (mark_property, t) ((mapping_property, u) ∷ [])))

-- ---- what is read back

-- The metadata is that of the new version, but for the order of its properties.
pub record IsNew (end : TableEnd) (schemas : Schemas) (fields : List SpecField) (snapshot : Snapshot) (m : Metadata) : Type 0 where
  pub uuid : m.uuid ≡ end.metadata.uuid
  pub location : m.location ≡ end.metadata.location
  pub schemas_are : m.schemas ≡ schemas.held
  pub current_schema_is : m.current_schema ≡ schemas.current.0
  pub last_id : m.last_column_id ≡ schemas.last_id
  pub specs : m.specs ≡ spec_of fields ∷ []
  pub default_spec : m.default_spec ≡ pos 0
  pub current : m.current_snapshot ≡ Some snapshot.id
  pub snapshots : m.snapshots ≡ last_of MAX_SNAPSHOTS (end.metadata.snapshots ++ snapshot ∷ [])

module _ (end : TableEnd) (origin : Origin) (now : ℕ) (commit : Commit) (written : NewVersion) (is : IsWritten end origin now commit written) (again : Metadata) (same : SameMetadata written.metadata again) where
  abbrev pub new_snapshot : Snapshot
  new_snapshot = snapshot_of end.metadata (next_version end) commit.change is.schemas.current.0 now

  abbrev made : Metadata
  made = made_of end origin now commit is.schemas is.fields

  again_is : again ≡ record made { properties = again.properties }
  again_is = sym same.others ∙ ap (λ (m : Metadata). record m { properties = again.properties }) is.metadata

  pub new_is : IsNew end is.schemas is.fields new_snapshot again
  new_is = record {
    uuid = ap (λ (m : Metadata). m.uuid) again_is;
    location = ap (λ (m : Metadata). m.location) again_is;
    schemas_are = ap (λ (m : Metadata). m.schemas) again_is;
    current_schema_is = ap (λ (m : Metadata). m.current_schema) again_is;
    last_id = ap (λ (m : Metadata). m.last_column_id) again_is;
    specs = ap (λ (m : Metadata). m.specs) again_is;
    default_spec = ap (λ (m : Metadata). m.default_spec) again_is;
    current = ap (λ (m : Metadata). m.current_snapshot) again_is;
    snapshots = ap (λ (m : Metadata). m.snapshots) again_is;
  }

  abbrev new_mark : Mark
  new_mark = mark_of (next_version end) origin commit.position

  pub new_marked : IsMarkText (compact_text (mark_data new_mark)) new_mark → HasMark again new_mark
  new_marked reads =
      let properties = properties_of new_mark is.schemas.current in
      let moves : IsPermutation properties again.properties = subst (λ (m : Metadata). IsPermutation m.properties again.properties) is.metadata same.properties in
      record { text = compact_text (mark_data new_mark); found = mark_found (compact_text (mark_data new_mark)) _ again.properties moves; reads = reads }

-- ---- its form

module _ (end : TableEnd) (stated_names : List (List ℕ)) (schemas : Schemas) (fields : List SpecField) (snapshot : Snapshot) (m : Metadata) (is : IsNew end schemas fields snapshot m) where
  pub fields_are : default_fields m ≡ fields
  fields_are = λ i. fields_of (held_spec (is.specs i) (is.default_spec i))

  pub schema_found : held_schema schemas.held schemas.current.0 ≡ Some schemas.current → current_schema m ≡ Some schemas.current
  schema_found found = (λ i. held_schema (is.schemas_are i) (is.current_schema_is i)) ∙ found

  own_spec : held_schema schemas.held schemas.current.0 ≡ Some schemas.current → AreSpecFields schemas.current FIRST_PARTITION_ID stated_names fields → HasOwnSpec m
  own_spec found are =
      let names = field_names_are schemas.current FIRST_PARTITION_ID stated_names fields are in
      let own : AreSpecFields schemas.current FIRST_PARTITION_ID (map (λ f. f.name) fields) fields = subst (λ (l : List (List ℕ)). AreSpecFields schemas.current FIRST_PARTITION_ID l fields) (sym names) are in
      record {
        schema = schemas.current;
        current = schema_found found;
        id = is.default_spec;
        fields = subst (λ (l : List SpecField). AreSpecFields schemas.current FIRST_PARTITION_ID (map (λ f. f.name) l) l) (sym fields_are) own;
      }

pub raised : (n : ℕ) (i : ℤ) → i ≤ℤ pos n → i ≤ℤ pos (n + 1)
raised n i low = omega (arith, ints, low)

module _ (end : TableEnd) (sound : IsSoundAt end.version end.metadata) (schemas : Schemas) (fields : List SpecField) (snapshot : Snapshot) (named : snapshot.id ≡ pos (end.version + 1)) (parent : snapshot.parent ≡ end.metadata.current_snapshot) (m : Metadata) (is : IsNew end schemas fields snapshot m) where
  pub new_cases : (s : Snapshot) → Contains m.snapshots s → Contains end.metadata.snapshots s ⊎ (snapshot ≡ s)
  new_cases s there = snapshot_cases end.metadata end.version sound snapshot named parent s (subst (λ (l : List Snapshot). Contains l s) is.snapshots there)

  pub new_current : held_at m.snapshots m.current_snapshot ≡ Some snapshot
  new_current = (λ i. held_at (is.snapshots i) (is.current i)) ∙ current_held end.metadata end.version sound snapshot named parent

  low_ids : (s : Snapshot) → Contains m.snapshots s → s.id ≤ℤ pos (end.version + 1)
  low_ids s there =
      ⊎_elim
      (λ old. raised end.version s.id (sound.snapshots s old))
      (λ (new : snapshot ≡ s). let at : s.id ≡ pos (end.version + 1) = ap (λ (x : Snapshot). x.id) (sym new) ∙ named in omega (arith, ints, at))
      (new_cases s there)

  low_parents : (s : Snapshot) (p : ℤ) → Contains m.snapshots s → s.parent ≡ Some p → p ≤ℤ pos (end.version + 1)
  low_parents s p there of =
      ⊎_elim
      (λ old. raised end.version p (sound.parents s p old of))
      (λ (new : snapshot ≡ s). raised end.version p (sound.current p (sym parent ∙ ap (λ (x : Snapshot). x.parent) new ∙ of)))
      (new_cases s there)

  pub own_form : (names : List (List ℕ)) → AreSpecFields schemas.current FIRST_PARTITION_ID names fields → (stated : ColumnTrees) → AreSoundNext stated schemas → HasOwnForm (end.version + 1) m
  own_form names are stated next = record {
    location = λ front same. sound.location front (sym is.location ∙ same);
    spec = own_spec end names schemas fields snapshot m is next.found are;
    schema_ids = ap have_first_ids is.schemas_are ∙ next.first_ids;
    field_ids = λ id there. subst (λ (last : ℤ). id ≤ℤ last) (sym is.last_id) (next.field_ids id (subst (λ (l : List HeldSchema). Contains (flat_map (λ s. s.2) l) id) is.schemas_are there));
    snapshots = low_ids;
    parents = low_parents;
  }

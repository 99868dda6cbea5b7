-- The parts of structs, lists and maps, and the facts in them.
use Rattle.std.proofs.Common.{◌≡◌, ◌⊎◌, ℕ, ℤ, List, Some, None, codes, refl, sym, subst, ◌∙◌, inl, inr, ⊎_elim}
use Rattle.std.specs.List.{IsDistinct}
use Rattle.std.specs.Str.{bytes_eq}
use Rattle.serde_json.specs.Data.{Data, string, Items}
use Rattle.serde_json.specs.Find.{get}
use Rattle.json_reading.specs.Json.{text_member, int_member, list_member, items}
use Rattle.schema_map.specs.Among.{IsAmong}
use Rattle.schema_map.specs.Paths.{Path}
use Rattle.schema_map.specs.Places.{IsNamed, field_names}
use Rattle.schema_iceberg.specs.IcebergRefusal.{IsIcebergPart, IsBadIcebergField, IsBadIcebergList, IsBadIcebergMap, IsBadIcebergType, IsOtherIcebergType}
use Rattle.iceberg_metadata.specs.declared.outline.Outline.{Outline}
use Rattle.iceberg_metadata.specs.Outlines.{with_other}
use Rattle.iceberg_schemas.specs.SchemaOutlines.{IsNamedPart}
use Rattle.iceberg_schemas.proofs.FactLemmas.{Fact, Adds, adds_other, adds_none, adds_as}
use Rattle.iceberg_schemas.proofs.PlaceLemmas.{struct_list, list_map, no_string, bad_inside, other_here, Facts, PartFacts, InParts, AreNamed, from_facts, IsGood, Walked, walked_parts, same_part}
use Rattle.lake_basics.proofs.Options.{some_once, some_or_none}
use Rattle.schema_map.proofs.Places.{struct_map}

-- ---- fields

abbrev pub FieldFacts : Path → Data → Fact → Type 0
FieldFacts prefix field f =
    (name : List ℕ) × (id : ℤ) × (kind : Data) × (text_member (codes "name") field ≡ Some name) × (int_member (codes "id") field ≡ Some id) × (get (codes "type") field ≡ Some kind) × PartFacts prefix name id kind f

abbrev pub IsGoodField : Data → Type 0
IsGoodField field =
    (IsBadIcebergField field → ⊥) × ((kind : Data) → get (codes "type") field ≡ Some kind → IsGood kind) × ((name : List ℕ) × (id : ℤ) × (text_member (codes "name") field ≡ Some name) × (int_member (codes "id") field ≡ Some id))

abbrev pub ListFacts : Path → List Data → Fact → Type 0
ListFacts prefix ds f = (field : Data) × IsAmong field ds × FieldFacts prefix field f

abbrev pub AreGoodFields : List Data → Type 0
AreGoodFields ds = (field : Data) → IsAmong field ds → IsGoodField field

-- ---- structs

pub struct_known : (d : Data) → IsNamed (codes "struct") d → IsOtherIcebergType d → ⊥
struct_known d named (inl word) = no_string word.0 (codes "struct") (subst (IsNamed (codes "struct")) word.1 named)
struct_known d named (inr other) = other.2.0 (sym other.1 ∙ named)

module _ (d : Data) (named : IsNamed (codes "struct") d) (ds : Items) (lists : list_member (codes "fields") d ≡ Some ds) (good : AreGoodFields (items ds)) where
  among_fields : (es : Items) (field : Data) → list_member (codes "fields") d ≡ Some es → IsAmong field (items es) → IsAmong field (items ds)
  among_fields es field is among = subst (λ x. IsAmong field (items x)) (some_once _ es ds is lists) among

  struct_own : IsDistinct bytes_eq (field_names ds) → IsBadIcebergType d → ⊥
  struct_own own (inl none) = some_or_none _ (codes "struct") named none.1
  struct_own own (inr (inl bad)) = ⊎_elim (some_or_none _ ds lists) (λ listed. ⊎_elim (λ twice. twice (subst (λ x. IsDistinct bytes_eq (field_names x)) (some_once _ ds listed.0 lists listed.1) own)) (λ field. (good field.0 (among_fields listed.0 field.0 listed.1 field.1)).0 field.2) listed.2) bad.1
  struct_own own (inr (inr (inl list))) = struct_list d named list.0
  struct_own own (inr (inr (inr map))) = struct_map d named map.0

  struct_parts : (p : Data) → IsIcebergPart d p → IsGood p
  struct_parts p (inl s) = (good s.1 (among_fields s.0 s.1 s.3 s.4)).1 p s.5
  struct_parts p (inr (inl list)) = absurd (struct_list d named list.0)
  struct_parts p (inr (inr map)) = absurd (struct_map d named map.0)

  struct_named : AreNamed d
  struct_named p (inl s) = let is = (good s.1 (among_fields s.0 s.1 s.3 s.4)).2 in (is.0, is.1, inl (s.0, s.1, s.2, s.3, s.4, is.2, is.3, s.5))
  struct_named p (inr (inl list)) = absurd (struct_list d named list.0)
  struct_named p (inr (inr map)) = absurd (struct_map d named map.0)

  struct_from : (prefix : Path) (f : Fact) → InParts prefix d f → ListFacts prefix (items ds) f
  struct_from prefix f p = by p.3
    where
      by : IsNamedPart d p.0 p.1 p.2 → ListFacts prefix (items ds) f
      by (inl s) = (s.1, among_fields s.0 s.1 s.3 s.4, (p.0, p.1, p.2, s.5, s.6, s.7, p.4))
      by (inr (inl list)) = absurd (struct_list d named list.0)
      by (inr (inr (inl key))) = absurd (struct_map d named key.0)
      by (inr (inr (inr value))) = absurd (struct_map d named value.0)

  struct_to : (prefix : Path) (f : Fact) → ListFacts prefix (items ds) f → InParts prefix d f
  struct_to prefix f is = let at = is.2 in (at.0, at.1, at.2, inl (ds, is.0, named, lists, is.1, at.3, at.4, at.5), at.6)

  pub struct_gone_over : (prefix : Path) (o p : Outline) → IsDistinct bytes_eq (field_names ds) → Adds (ListFacts prefix (items ds)) o p → Walked prefix d o p
  struct_gone_over prefix o p own adds =
      walked_parts prefix d o p (struct_own own) (struct_known d named) struct_named struct_parts (adds_as (ListFacts prefix (items ds)) (InParts prefix d) o p adds (struct_to prefix) (struct_from prefix))

-- ---- lists

list_known : (d : Data) → IsNamed (codes "list") d → IsOtherIcebergType d → ⊥
list_known d named (inl word) = no_string word.0 (codes "list") (subst (IsNamed (codes "list")) word.1 named)
list_known d named (inr other) = other.2.1.0 (sym other.1 ∙ named)

list_own : (d : Data) → IsNamed (codes "list") d → (IsBadIcebergList d → ⊥) → IsBadIcebergType d → ⊥
list_own d named good (inl none) = some_or_none _ (codes "list") named none.1
list_own d named good (inr (inl struct)) = struct_list d struct.0 named
list_own d named good (inr (inr (inl list))) = good list.1
list_own d named good (inr (inr (inr map))) = list_map d named map.0

module _ (d : Data) (named : IsNamed (codes "list") d) (id : ℤ) (id_is : int_member (codes "element-id") d ≡ Some id) (element : Data) (element_is : get (codes "element") d ≡ Some element) where
  list_parts : IsGood element → (p : Data) → IsIcebergPart d p → IsGood p
  list_parts good p (inl struct) = absurd (struct_list d struct.2 named)
  list_parts good p (inr (inl list)) = subst IsGood (some_once _ element p element_is list.1) good
  list_parts good p (inr (inr map)) = absurd (list_map d named map.0)

  list_named : AreNamed d
  list_named p (inl struct) = absurd (struct_list d struct.2 named)
  list_named p (inr (inl list)) = (codes "element", id, inr (inl (named, refl, id_is, list.1)))
  list_named p (inr (inr map)) = absurd (list_map d named map.0)

  list_to : (prefix : Path) (f : Fact) → PartFacts prefix (codes "element") id element f → InParts prefix d f
  list_to prefix f h = (codes "element", id, element, inr (inl (named, refl, id_is, element_is)), h)

  list_from : (prefix : Path) (f : Fact) → InParts prefix d f → PartFacts prefix (codes "element") id element f
  list_from prefix f p = by p.3
    where
      by : IsNamedPart d p.0 p.1 p.2 → PartFacts prefix (codes "element") id element f
      by (inl struct) = absurd (struct_list d struct.2 named)
      by (inr (inl list)) = same_part prefix p.0 (codes "element") p.1 id p.2 element f list.1 (some_once _ p.1 id list.2 id_is) (some_once _ p.2 element list.3 element_is) p.4
      by (inr (inr (inl key))) = absurd (list_map d named key.0)
      by (inr (inr (inr value))) = absurd (list_map d named value.0)

  pub list_gone_over : (prefix : Path) (o p : Outline) → (IsBadIcebergList d → ⊥) → IsGood element → Adds (PartFacts prefix (codes "element") id element) o p → Walked prefix d o p
  list_gone_over prefix o p own good adds =
      walked_parts prefix d o p (list_own d named own) (list_known d named) list_named (list_parts good) (adds_as (PartFacts prefix (codes "element") id element) (InParts prefix d) o p adds (list_to prefix) (list_from prefix))

-- ---- maps

map_known : (d : Data) → IsNamed (codes "map") d → IsOtherIcebergType d → ⊥
map_known d named (inl word) = no_string word.0 (codes "map") (subst (IsNamed (codes "map")) word.1 named)
map_known d named (inr other) = other.2.1.1.0 (sym other.1 ∙ named)

map_own : (d : Data) → IsNamed (codes "map") d → (IsBadIcebergMap d → ⊥) → IsBadIcebergType d → ⊥
map_own d named good (inl none) = some_or_none _ (codes "map") named none.1
map_own d named good (inr (inl struct)) = struct_map d struct.0 named
map_own d named good (inr (inr (inl list))) = list_map d list.0 named
map_own d named good (inr (inr (inr map))) = good map.1

module _ (d : Data) (named : IsNamed (codes "map") d) (key_id value_id : ℤ) (key_id_is : int_member (codes "key-id") d ≡ Some key_id) (value_id_is : int_member (codes "value-id") d ≡ Some value_id)
    (key value : Data) (key_is : get (codes "key") d ≡ Some key) (value_is : get (codes "value") d ≡ Some value) where
  abbrev pub BothFacts : Path → Fact → Type 0
  BothFacts prefix f = PartFacts prefix (codes "key") key_id key f ⊎ PartFacts prefix (codes "value") value_id value f

  map_parts : IsGood key → IsGood value → (p : Data) → IsIcebergPart d p → IsGood p
  map_parts k v p (inl struct) = absurd (struct_map d struct.2 named)
  map_parts k v p (inr (inl list)) = absurd (list_map d list.0 named)
  map_parts k v p (inr (inr map)) = ⊎_elim (λ is. subst IsGood (some_once _ key p key_is is) k) (λ is. subst IsGood (some_once _ value p value_is is) v) map.1

  map_named : AreNamed d
  map_named p (inl struct) = absurd (struct_map d struct.2 named)
  map_named p (inr (inl list)) = absurd (list_map d list.0 named)
  map_named p (inr (inr map)) = ⊎_elim (λ is. (codes "key", key_id, inr (inr (inl (named, refl, key_id_is, is))))) (λ is. (codes "value", value_id, inr (inr (inr (named, refl, value_id_is, is))))) map.1

  map_to : (prefix : Path) (f : Fact) → BothFacts prefix f → InParts prefix d f
  map_to prefix f = ⊎_elim (λ h. (codes "key", key_id, key, inr (inr (inl (named, refl, key_id_is, key_is))), h)) (λ h. (codes "value", value_id, value, inr (inr (inr (named, refl, value_id_is, value_is))), h))

  map_from : (prefix : Path) (f : Fact) → InParts prefix d f → BothFacts prefix f
  map_from prefix f p = by p.3
    where
      by : IsNamedPart d p.0 p.1 p.2 → BothFacts prefix f
      by (inl struct) = absurd (struct_map d struct.2 named)
      by (inr (inl list)) = absurd (list_map d list.0 named)
      by (inr (inr (inl k))) = inl (same_part prefix p.0 (codes "key") p.1 key_id p.2 key f k.1 (some_once _ p.1 key_id k.2 key_id_is) (some_once _ p.2 key k.3 key_is) p.4)
      by (inr (inr (inr v))) = inr (same_part prefix p.0 (codes "value") p.1 value_id p.2 value f v.1 (some_once _ p.1 value_id v.2 value_id_is) (some_once _ p.2 value v.3 value_is) p.4)

  pub map_gone_over : (prefix : Path) (o p : Outline) → (IsBadIcebergMap d → ⊥) → IsGood key → IsGood value → Adds (BothFacts prefix) o p → Walked prefix d o p
  map_gone_over prefix o p own k v adds = walked_parts prefix d o p (map_own d named own) (map_known d named) map_named (map_parts k v) (adds_as (BothFacts prefix) (InParts prefix d) o p adds (map_to prefix) (map_from prefix))

-- ---- types without parts

module _ (d : Data) (struct : IsNamed (codes "struct") d → ⊥) (list : IsNamed (codes "list") d → ⊥) (map : IsNamed (codes "map") d → ⊥) where
  leaf_part : (p : Data) → IsIcebergPart d p → ⊥
  leaf_part p (inl s) = struct s.2
  leaf_part p (inr (inl l)) = list l.0
  leaf_part p (inr (inr m)) = map m.0

  leaf_named : AreNamed d
  leaf_named p is = absurd (leaf_part p is)

  leaf_in : (prefix : Path) (f : Fact) → InParts prefix d f → ⊥
  leaf_in prefix f p = by p.3
    where
      by : IsNamedPart d p.0 p.1 p.2 → ⊥
      by (inl s) = struct s.2
      by (inr (inl l)) = list l.0
      by (inr (inr (inl m))) = map m.0
      by (inr (inr (inr m))) = map m.0

  pub leaf_own : ((((w : List ℕ) → d ≡ string w → ⊥) × (text_member (codes "type") d ≡ None)) → ⊥) → IsBadIcebergType d → ⊥
  leaf_own word (inl none) = word none
  leaf_own word (inr (inl s)) = struct s.0
  leaf_own word (inr (inr (inl l))) = list l.0
  leaf_own word (inr (inr (inr m))) = map m.0

  leaf_known : (prefix : Path) (o : Outline) → (IsBadIcebergType d → ⊥) → (IsOtherIcebergType d → ⊥) → Walked prefix d o o
  leaf_known prefix o own known = walked_parts prefix d o o own known leaf_named (λ p is. absurd (leaf_part p is)) (adds_none (InParts prefix d) o (leaf_in prefix))

  leaf_good : (IsBadIcebergType d → ⊥) → IsGood d
  leaf_good own bad = ⊎_elim own (λ inside. leaf_part inside.0 inside.1) (bad_inside d bad)

  pub leaf_other : (prefix : Path) (o : Outline) → (IsBadIcebergType d → ⊥) → IsOtherIcebergType d → Walked prefix d o (with_other o)
  leaf_other prefix o own other =
      record {
        good = leaf_good own;
        adds = adds_as (λ f. f ≡ None) (Facts prefix d) o (with_other o) (adds_other o) (λ f none. subst (Facts prefix d) (sym none) (other_here d other)) (λ f h. ⊎_elim (λ is. is.1) (λ p. absurd (leaf_in prefix f p)) (from_facts prefix d leaf_named f h));
      }

module _ (w : List ℕ) where
  string_own : IsBadIcebergType (string w) → ⊥
  string_own = leaf_own (string w) (no_string w (codes "struct")) (no_string w (codes "list")) (no_string w (codes "map")) (λ none. none.0 w refl)

  pub string_known : (prefix : Path) (o : Outline) → (IsOtherIcebergType (string w) → ⊥) → Walked prefix (string w) o o
  string_known prefix o = leaf_known (string w) (no_string w (codes "struct")) (no_string w (codes "list")) (no_string w (codes "map")) prefix o string_own

  pub string_other : (prefix : Path) (o : Outline) → IsOtherIcebergType (string w) → Walked prefix (string w) o (with_other o)
  string_other prefix o = leaf_other (string w) (no_string w (codes "struct")) (no_string w (codes "list")) (no_string w (codes "map")) prefix o string_own

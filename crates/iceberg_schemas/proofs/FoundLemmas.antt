-- What the outline of a schema tells of its JSON.
use Rattle.std.proofs.Common.{◌≡◌, ℕ, ℤ, Bool, true, false, cond, List, [], Option, Some, None, Result, Ok, Err, codes, refl, sym, subst, ◌∙◌, inl, inr, ⊎_elim}
use Rattle.std.specs.Prelude.{IfOk}
use Rattle.std.specs.Str.{bytes_eq}
use Rattle.std.proofs.lemmas.Bool.{false≢true}
use Rattle.serde_json.specs.Data.{Data, Items}
use Rattle.serde_json.specs.Read.{max_depth}
use Rattle.lake_basics.proofs.Steps.{bind_ok, required_some}
use Rattle.json_reading.specs.Json.{text_member, list_member, items}
use Rattle.schema_map.specs.Among.{IsAmong}
use Rattle.schema_map.specs.Paths.{Path}
use Rattle.schema_map.specs.Places.{IsNamed}
use Rattle.schema_map.proofs.Places.{named_word, struct_map}
use Rattle.schema_iceberg.specs.IcebergRefusal.{IsIcebergPart, IsBadIcebergSchema, IcebergColumnHasOther}
use Rattle.iceberg_metadata.specs.Errors.{Gives}
use Rattle.iceberg_metadata.specs.declared.error.MetadataError.{MetadataError}
use Rattle.iceberg_metadata.specs.declared.error.MetadataError.TheVariants.{Malformed}
use Rattle.iceberg_metadata.specs.declared.outline.Outline.{Outline}
use Rattle.iceberg_metadata.specs.Members.{text_in}
use Rattle.iceberg_metadata.specs.Outlines.{struct_outline, type_outline, schema_outline, nothing_met}
use Rattle.iceberg_schemas.specs.SchemaOutlines.{HasColumn, IsIcebergOutline}
use Rattle.iceberg_schemas.proofs.PlaceLemmas.{struct_list, HasOther, bad_here, other_part, other_inside, Facts, IsGood, Walked}
use Rattle.iceberg_schemas.proofs.PartLemmas.{struct_known}
use Rattle.iceberg_schemas.proofs.WalkLemmas.{struct_walked, type_walked}

module _ (d : Data) (named : IsNamed (codes "struct") d) where
  -- a field that has no name isn't in the grammar
  field_name : IsGood d → (ds : Items) (field : Data) → list_member (codes "fields") d ≡ Some ds → IsAmong field (items ds) → (name : List ℕ) × (text_member (codes "name") field ≡ Some name)
  field_name good ds field lists among = by (text_member (codes "name") field) refl
    where
      by : (o : Option (List ℕ)) → text_member (codes "name") field ≡ o → (name : List ℕ) × (text_member (codes "name") field ≡ Some name)
      by (Some name) is = (name, is)
      by None is = absurd (good (bad_here d (inr (inl (named, inr (ds, lists, inr (field, among, inr (inl is))))))))

  column_other : IsGood d → (part : Data) → IsIcebergPart d part → HasOther part → (name : List ℕ) × IcebergColumnHasOther d name
  column_other good part (inl s) other = let name = field_name good s.0 s.1 s.3 s.4 in (name.0, (s.0, s.1, part, other.0, other.1, s.3, s.4, name.1, s.5, other.2, other.3))
  column_other good part (inr (inl list)) other = absurd (struct_list d named list.0)
  column_other good part (inr (inr map)) other = absurd (struct_map d named map.0)

  has_column : IsGood d → HasOther d → (name : List ℕ) × IcebergColumnHasOther d name
  has_column good other = ⊎_elim (λ here. absurd (struct_known d named here)) (λ inside. column_other good inside.0 inside.1 inside.2) (other_inside d other)

  has_other : (name : List ℕ) → IcebergColumnHasOther d name → HasOther d
  has_other name h = other_part d h.2 (inl (h.0, h.1, named, h.5, h.6, h.8)) (h.3, h.4, h.9, h.10)

  in_grammar : IsGood d → IsBadIcebergSchema d → ⊥
  in_grammar good (inl other) = other named
  in_grammar good (inr bad) = good bad

  outline_is : (o : Outline) → Walked [] d nothing_met o → IsIcebergOutline d o
  outline_is o w =
      record {
        grammar = in_grammar w.good;
        columns = columns;
        each_column = λ path id has. w.adds.told (Some (path, id)) (path, refl, has);
        other = λ is. has_column w.good (⊎_elim (λ e. absurd (false≢true e)) (λ other. other) (w.adds.only None is));
        none = λ is name has. false≢true (sym is ∙ w.adds.told None (has_other name has));
      }
    where
      columns : (path : Path) (id : ℤ) → IsAmong (path, id) o.paths → HasColumn path id d
      columns path id among = ⊎_elim (λ none. absurd none) (λ (at : Facts [] d (Some (path, id))). subst (λ p. HasColumn p id d) (sym at.1) at.2) (w.adds.only (Some (path, id)) among)

pub outline_found : (d : Data) (o : Outline) → schema_outline d ≡ Ok o → IsIcebergOutline d o
unfolding schema_outline
outline_found d o h =
    let word = bind_ok (text_in (codes "type") d) _ o h in
    by word.0 (required_some Malformed (text_member (codes "type") d) word.0 word.1) (bytes_eq word.0 (codes "struct")) refl word.2
  where
    by : (w : List ℕ) → text_member (codes "type") d ≡ Some w → (b : Bool) → bytes_eq w (codes "struct") ≡ b → cond b (struct_outline (type_outline max_depth) [] d nothing_met) (Err Malformed) ≡ Ok o → IsIcebergOutline d o
    by w is true same f = let named = named_word d w (codes "struct") is same in outline_is d named o (struct_walked (type_outline max_depth) (type_walked max_depth) [] d nothing_met o named f)
    by w is false other f = absurd cc

-- ---- by what a reading gives

pub given_outline : (d : Data) (r : Result Outline MetadataError) → Gives r (schema_outline d) → IfOk r (IsIcebergOutline d)
given_outline d (Ok o) given = outline_found d o given
given_outline d (Err e) given = tt

-- What the text of a schema tells of a commit, by its outline.
use Rattle.std.proofs.Common.{◌≡◌, ℕ, Bool, true, false, cond, List, ◌∷◌, Some, None, Ok, Contains, codes, refl, sym, ap, subst, ◌∙◌, inl, inr, ⊎_elim}
use Rattle.std.specs.Str.{bytes_eq}
use Rattle.std.proofs.lemmas.Bool.{false≢true}
use Rattle.std.proofs.lemmas.Slice.Eq.{bytes_eq-Decides}
use Rattle.serde_json.specs.Data.{Data}
use Rattle.json_reading.specs.Json.{json, list_member}
use Rattle.table_history.specs.History.{column_type}
use Rattle.table_history.specs.Sound.{names_of}
use Rattle.table_history.specs.TypeTree.{TypeTree, ColumnTrees, no_columns, column}
use Rattle.table_history.proofs.RowListLemmas.{Contains-none, Contains-head, Contains-tail, Contains-cases}
use Rattle.schema_delta.specs.Delta.{delta_schema_of}
use Rattle.schema_delta.specs.DeltaRefusal.{IsBadDeltaSchema, DeltaColumnHasOther, IsDeltaRefused}
use Rattle.schema_map.specs.Places.{field_names}
use Rattle.schema_map.specs.declared.fault.MapError.TheVariants as map_errors
use Rattle.schema_delta.proofs.DeltaSchema.{given_found}
use Rattle.delta_outline.specs.Outlines.{IsOutline}
use Rattle.delta_outline.specs.declared.outline.Outline.{Outline}
use Rattle.delta_outline.proofs.SpelledLemmas.{spelled_outline}
use Rattle.delta_change.specs.Change.{LacksField}

-- ---- names of columns

name_missing : (cs : ColumnTrees) (name : List ℕ) → (Contains (names_of cs) name → ⊥) → column_type cs name ≡ None
name_missing no_columns name none = refl
name_missing (column n t b cs) name none = by (bytes_eq n name) (λ rest. name_missing cs name rest) refl
  where
    by : (x : Bool) → ((Contains (names_of cs) name → ⊥) → column_type cs name ≡ None) → bytes_eq n name ≡ x → cond x (Some t) (column_type cs name) ≡ None
    by true rest same = absurd (none (subst (Contains (n ∷ names_of cs)) ((bytes_eq-Decides n name).0 same) (Contains-head n (names_of cs))))
    by false rest other = rest (λ there. none (Contains-tail n (names_of cs) name there))

some_type : (t : TypeTree) → Some t ≡ None → ⊥
some_type t e = absurd cc

pub missing_name : (cs : ColumnTrees) (name : List ℕ) → column_type cs name ≡ None → Contains (names_of cs) name → ⊥
missing_name no_columns name is there = Contains-none name there
missing_name (column n t b cs) name is there = by (bytes_eq n name) (λ rest later. missing_name cs name rest later) refl is
  where
    by : (x : Bool) → (column_type cs name ≡ None → Contains (names_of cs) name → ⊥) → bytes_eq n name ≡ x → cond x (Some t) (column_type cs name) ≡ None → ⊥
    by true rest same e = some_type t e
    by false rest other e = ⊎_elim (λ here. false≢true (sym other ∙ (bytes_eq-Decides n name).1 here)) (λ later. rest e later) (Contains-cases n (names_of cs) name there)

-- ---- by an outline

module _ (text : List ℕ) (o : Outline) (has : IsOutline text o) where
  one_data : (d : Data) → json text ≡ Some d → d ≡ has.whole
  one_data d h = let same : Some d ≡ Some has.whole = sym h ∙ has.reads in cc

  pub good_text : IsDeltaRefused text map_errors.BadSchema → ⊥
  good_text (inl none) = let wrong : None ≡ Some has.whole = sym none ∙ has.reads in absurd cc
  good_text (inr bad) = has.grammar (subst IsBadDeltaSchema (one_data bad.0 bad.1) bad.2)

  pub has_field : (name : List ℕ) → LacksField text name → Contains o.names name → ⊥
  has_field name h there =
      let same : Some h.1 ≡ Some has.fields = sym h.3 ∙ ap (list_member (codes "fields")) (one_data h.0 h.2) ∙ has.lists in
      let fields : h.1 ≡ has.fields = cc in
      h.4 (subst (λ ns. Contains ns name) (has.names ∙ ap field_names (sym fields)) there)

  pub lacks_field : (name : List ℕ) → (Contains o.names name → ⊥) → LacksField text name
  lacks_field name none = (has.whole, has.fields, has.reads, has.lists, λ there. none (subst (λ ns. Contains ns name) (sym has.names) there))

  pub no_other_type : o.has_other ≡ false → (name : List ℕ) → IsDeltaRefused text (map_errors.SchemaType name) → ⊥
  no_other_type none name told = has.none none name (subst (λ d. DeltaColumnHasOther d name) (one_data told.0 told.1) told.2)

  pub some_other_type : o.has_other ≡ true → (name : List ℕ) × IsDeltaRefused text (map_errors.SchemaType name)
  some_other_type other = let at = has.other other in (at.0, (has.whole, has.reads, at.1))

-- ---- of a text that spells a schema

abbrev pub outline_of : ColumnTrees → Outline
outline_of schema = record { names = names_of schema; has_other = false }

pub spelled : (text : List ℕ) (schema : ColumnTrees) → delta_schema_of text ≡ Ok schema → IsOutline text (outline_of schema)
spelled text schema spells = spelled_outline text schema (given_found text (Ok schema) spells).0

pub spelled_good : (text : List ℕ) (schema : ColumnTrees) → delta_schema_of text ≡ Ok schema → IsDeltaRefused text map_errors.BadSchema → ⊥
spelled_good text schema spells = good_text text (outline_of schema) (spelled text schema spells)

pub spelled_type : (text : List ℕ) (schema : ColumnTrees) → delta_schema_of text ≡ Ok schema → (name : List ℕ) → IsDeltaRefused text (map_errors.SchemaType name) → ⊥
spelled_type text schema spells = no_other_type text (outline_of schema) (spelled text schema spells) refl

pub spelled_field : (text : List ℕ) (schema : ColumnTrees) → delta_schema_of text ≡ Ok schema → (name : List ℕ) → LacksField text name → column_type schema name ≡ None
spelled_field text schema spells name lacks = name_missing schema name (has_field text (outline_of schema) (spelled text schema spells) name lacks)

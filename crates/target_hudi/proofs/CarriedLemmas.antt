-- A row whose folder carries its values is read back with them.
use Rattle.std.proofs.Common.{◌≡◌, inl, inr, ℕ, ◌-◌, ◌≤◌, List, [], ◌∷◌, length, drop, Contains, Option, None, Some, refl, sym, ap, subst, ◌∙◌, arith, length-append}
use Rattle.std.specs.Prelude.{option_and_then, option_map}
use Rattle.std.proofs.lemmas.Bool.{cond-true, le-leb}
use Rattle.std.proofs.lemmas.List.Prefix.{end_rest}
use Rattle.std.proofs.lemmas.Str.{is_utf8-from_IsUtf8}
use Rattle.std.proofs.lemmas.Option.{none-some, same_Some}
use Rattle.table_history.specs.History.{FitColumns, FitsColumn, column_type}
use Rattle.table_history.specs.Row.{Row}
use Rattle.table_history.specs.TypeTree.{ColumnTrees, TypeTree}
use Rattle.table_history.specs.declared.row.PartValue.{PartValue}
use Rattle.table_history.proofs.RowListLemmas.{Contains-head, Contains-tail}
use Rattle.partition_map.specs.Columns.{column_kind}
use Rattle.partition_map.specs.Folder.{CarriesValues, EachCarries, PartCarries, folder_components, hive_folders, last_components, unescaped_bytes, unescaped_text}
use Rattle.partition_map.specs.Kind.{IsOfKind, part_kind_of}
use Rattle.partition_map.specs.Stands.{HiveStands}
use Rattle.partition_map.specs.declared.folder.FolderStyle.{FolderStyle}
use Rattle.partition_map.specs.declared.kind.PartKind.{PartKind}
use Rattle.partition_map.proofs.FolderLemmas.{value_part_says}
use Rattle.partition_map.proofs.KindLemmas.{kind_exactly, some_kind}
use Rattle.partition_map.proofs.Laws.{kind_of_type}
use Rattle.hudi_timeline.specs.Schemas.{AreKindsOf}
use Rattle.hudi_files.specs.Values.{HasValues, PartStands, PartsStand, component_parts, value_parts}
use Rattle.hudi_files.proofs.ValueLemmas.{value_parts-length}
use Rattle.target_core.specs.Conditions.{HasKind}
use Rattle.target_hudi.proofs.KnownLemmas.{Known, known_as, known_both, not_false, stands, stands_so}

-- ---- the kinds of the values

-- each value is of the kind in its place
abbrev pub AreOfKinds : List PartKind → List PartValue → Type 0
AreOfKinds [] [] = Unit {0}
AreOfKinds [] (v ∷ vs) = ⊥
AreOfKinds (kind ∷ kinds) [] = ⊥
AreOfKinds (kind ∷ kinds) (v ∷ vs) = IsOfKind kind v × AreOfKinds kinds vs

value_kind : (type : Option TypeTree) (kind : PartKind) (v : PartValue) → option_and_then part_kind_of type ≡ Some kind → FitsColumn type v → IsOfKind kind v
value_kind None kind v is fits = absurd (none-some kind is)
value_kind (Some t) kind v is fits = (kind_of_type t kind is v).1 fits

pub of_kinds : (schema : ColumnTrees) (names : List (List ℕ)) (kinds : List PartKind) (vs : List PartValue) → AreKindsOf schema names kinds → FitColumns schema names vs → AreOfKinds kinds vs
of_kinds schema [] [] [] are fit = tt
of_kinds schema [] [] (v ∷ vs) are fit = fit
of_kinds schema [] (kind ∷ kinds) vs are fit = absurd (cc)
of_kinds schema (name ∷ names) [] vs are fit = absurd (cc)
of_kinds schema (name ∷ names) (kind ∷ kinds) [] are fit = fit
of_kinds schema (name ∷ names) (kind ∷ kinds) (v ∷ vs) are fit =
    let first : column_kind schema name ≡ Some kind = cc in
    let rest : AreKindsOf schema names kinds = cc in
    (value_kind (column_type schema name) kind v first fit.0, of_kinds schema names kinds vs rest fit.1)

pub kinds_there : (schema : ColumnTrees) (names : List (List ℕ)) → ((name : List ℕ) → Contains names name → HasKind schema name) → (kinds : List PartKind) × AreKindsOf schema names kinds
kinds_there schema [] have = ([], refl)
kinds_there schema (name ∷ names) have =
    let first = some_kind (column_kind schema name) ((kind_exactly schema name).1 (have name (Contains-head name names))) in
    let rest = kinds_there schema names (λ n there. have n (Contains-tail name names n there)) in
    (first.0 ∷ rest.0, (λ i. first.1 i ∷ rest.1 i))

-- ---- the parts of a folder

-- each part carries the value in its place
abbrev PartsCarry : List (List ℕ) → List PartValue → Type 0
PartsCarry [] vs = Unit {0}
PartsCarry (part ∷ parts) [] = ⊥
PartsCarry (part ∷ parts) (v ∷ vs) = PartCarries part v × PartsCarry parts vs

-- the parts of these components are there, and carry the values
record HasParts (found : Option (List (List ℕ))) (vs : List PartValue) : Type 0 where
  parts : List (List ℕ)
  there : found ≡ Some parts
  carry : PartsCarry parts vs

parts_of : (names components : List (List ℕ)) (vs : List PartValue) → EachCarries names components vs → HasParts (component_parts hive_folders names components) vs
parts_of [] components vs carries = record { parts = []; there = refl; carry = tt }
parts_of (name ∷ names) [] vs carries = absurd carries
parts_of (name ∷ names) (component ∷ components) [] carries = absurd carries
parts_of (name ∷ names) (component ∷ components) (v ∷ vs) carries =
    let first = (value_part_says hive_folders name component carries.0.part).1 carries.0.named in
    let rest = parts_of names components vs carries.1 in
    record {
      parts = carries.0.part ∷ rest.parts;
      there = λ i. option_and_then (λ part. option_map (λ parts. part ∷ parts) (rest.there i)) (first i);
      carry = (carries.0.carries, rest.carry);
    }

last_there : (path : List ℕ) (names : List (List ℕ)) (vs : List PartValue) (c : CarriesValues path names vs) → last_components (length names) path ≡ Some c.components
last_there path names vs c =
    let all = folder_components path in
    let fits : length names ≤ length all = omega (arith, ap length c.last, length-append c.front c.components, c.count) in
    let rest : drop (length all - length c.components) all ≡ c.components = end_rest all c.components c.front c.last in
    cond-true _ _ _ (le-leb (length names) (length all) fits) ∙ ap Some (ap (λ n. drop (length all - n) all) (sym c.count) ∙ rest)

carried : (path : List ℕ) (names : List (List ℕ)) (vs : List PartValue) → CarriesValues path names vs → HasParts (value_parts hive_folders names path) vs
carried path names vs c =
    let found = parts_of names c.components vs c.spelled in
    record { parts = found.parts; there = ap (option_and_then (component_parts hive_folders names)) (last_there path names vs c) ∙ found.there; carry = found.carry }

-- ---- the values that the parts stand for

all_stand : (kinds : List PartKind) (parts : List (List ℕ)) (vs : List PartValue) → length parts ≡ length kinds → AreOfKinds kinds vs → PartsCarry parts vs → PartsStand hive_folders kinds parts vs
all_stand [] parts [] long of carry = refl
all_stand [] parts (v ∷ vs) long of carry = absurd of
all_stand (kind ∷ kinds) [] vs long of carry = absurd (omega (arith, long))
all_stand (kind ∷ kinds) (part ∷ parts) [] long of carry = absurd of
all_stand (kind ∷ kinds) (part ∷ parts) (v ∷ vs) long of carry =
    let bytes = unescaped_bytes hive_folders part in
    let text : unescaped_text hive_folders part ≡ Some bytes = cond-true _ _ _ (is_utf8-from_IsUtf8 bytes carry.0.utf8) in
    let first : PartStands hive_folders kind part v = (bytes, text, stands_so kind carry.0.stands.0 bytes v of.0 carry.0.stands.1) in
    (v, vs, first, all_stand kinds parts vs (omega (arith, long)) of.1 carry.1, refl)

module _ (style : FolderStyle) where
  part_stands : (kind : PartKind) (part : List ℕ) (v : PartValue) → Known (PartStands style kind part v)
  part_stands kind part v = by (unescaped_text style part) refl
    where
      by : (found : Option (List ℕ)) → unescaped_text style part ≡ found → Known (PartStands style kind part v)
      by None is = inr (λ h. none-some h.0 (sym is ∙ h.1))
      by (Some text) is =
          known_as
          (λ (h : HiveStands kind text v). (text, is, h))
          (λ (h : PartStands style kind part v). subst (λ t. HiveStands kind t v) (same_Some h.0 text (sym h.1 ∙ is)) h.2)
          (stands kind text v)

  parts_stand : (kinds : List PartKind) (parts : List (List ℕ)) (vs : List PartValue) → Known (PartsStand style kinds parts vs)
  parts_stand [] parts [] = inl refl
  parts_stand [] parts (v ∷ vs) = inr (λ (e : v ∷ vs ≡ []). absurd (cc))
  parts_stand (kind ∷ kinds) [] vs = inr (λ h. h)
  parts_stand (kind ∷ kinds) (part ∷ parts) [] = inr (λ (h : PartsStand style (kind ∷ kinds) (part ∷ parts) []). let wrong = h.4 in absurd (cc))
  parts_stand (kind ∷ kinds) (part ∷ parts) (v ∷ vs) =
      known_as
      (λ (h : PartStands style kind part v × PartsStand style kinds parts vs). (v, vs, h.0, h.1, refl))
      (λ (h : PartsStand style (kind ∷ kinds) (part ∷ parts) (v ∷ vs)).
      let first : h.0 ≡ v = let e = h.4 in cc in
      let rest : h.1 ≡ vs = let e = h.4 in cc in
      (subst (PartStands style kind part) first h.2, subst (PartsStand style kinds parts) rest h.3))
      (known_both (part_stands kind part v) (parts_stand kinds parts vs))

-- ---- a row

-- a row without the values that its folder spells
abbrev pub bare_of : Row → Row
bare_of row = record { path = row.path; values = []; count = row.count; size = row.size }

module _ (names : List (List ℕ)) (kinds : List PartKind) (counted : length kinds ≡ length names) (row : Row) (of : AreOfKinds kinds row.values)
    (carries : (CarriesValues row.path names row.values → ⊥) → ⊥) where
  has_by : (found : Option (List (List ℕ))) → value_parts hive_folders names row.path ≡ found → HasValues hive_folders names kinds (bare_of row) row
  has_by None is = absurd (carries (λ c. let has = carried row.path names row.values c in none-some has.parts (sym is ∙ has.there)))
  has_by (Some parts) is = record {
    parts = parts;
    spelled = is;
    values = not_false (parts_stand hive_folders kinds parts row.values) (λ never. carries (λ c.
        let has = carried row.path names row.values c in
        let same : has.parts ≡ parts = same_Some has.parts parts (sym has.there ∙ is) in
        let long : length parts ≡ length kinds = value_parts-length hive_folders names row.path parts is ∙ sym counted in
        never (all_stand kinds parts row.values long of (subst (λ ps. PartsCarry ps row.values) same has.carry))));
    path = refl;
    count = refl;
    size = refl;
  }

  pub has_values : HasValues hive_folders names kinds (bare_of row) row
  has_values = has_by (value_parts hive_folders names row.path) refl

-- The field ids of an Iceberg target, and that commits of few columns come nowhere near the greatest version or field id.
use Rattle.std.proofs.Common.{◌≡◌, inl, inr, ⊎_elim, ℕ, suc, ◌+◌, ◌*◌, ◌≤◌, pos, Bool, true, false, List, [], ◌∷◌, ◌++◌, length, Contains, Option, Some, None, Result, Ok, Err, refl, sym, ap, subst, ◌∙◌, arith, if◌then◌else◌}
use Rattle.std.specs.Cmp.Lexicographic.{pointwise}
use Rattle.std.specs.Int.{int_max}
use Rattle.std.specs.Prelude.{ℤ, ◌≤ℤ◌, ◌<ℤ◌, ◌+ℤ◌, flat_map, fold, int_lt, is_some, unwrap_or}
use Rattle.std.specs.Str.{bytes_eq}
use Rattle.std.proofs.lemmas.Grind.{flat_map-append}
use Rattle.std.proofs.lemmas.Int.{fold-int_max_reached, ints}
use Rattle.std.proofs.lemmas.List.{append-nil}
use Rattle.std.proofs.lemmas.List.Elements.{Contains-append_cases}
use Rattle.lake_basics.specs.Outcome.{◌>>=◌}
use Rattle.lake_basics.specs.declared.limits.TheConstants.{MAX_ICEBERG_VERSION}
use Rattle.table_history.proofs.RowListLemmas.{Contains-cases, Contains-head, Contains-none, Contains-one, Contains-tail}
use Rattle.table_history.specs.TypeTree.{ColumnTrees, no_columns}
use Rattle.table_history.specs.declared.limit.LimitKind.TheVariants as limit
use Rattle.table_history.specs.declared.table.Change.{Change}
use Rattle.table_history.specs.declared.table.Commit.{Commit}
use Rattle.schema_map.proofs.Bound.{bound}
use Rattle.schema_map.specs.Image.{wide_columns}
use Rattle.schema_map.specs.Paths.{Path, column_paths, known_id}
use Rattle.schema_map.specs.declared.fault.MapError.{MapError}
use Rattle.schema_map.specs.declared.fault.MapError.TheVariants.{Limit}
use Rattle.iceberg_field_ids.proofs.IcebergGiven.{column_paths_wide}
use Rattle.iceberg_field_ids.specs.Ids.{PassesGreatest, id_step, ids_for, new_count}
use Rattle.iceberg_metadata.specs.Paths.{PathId, path_ids}
use Rattle.iceberg_metadata.specs.Schemas.{HeldSchema}
use Rattle.iceberg_version.specs.Schemas.{AddsSchema, AreNextSchemas, KeepsSchemas, Schemas}
use Rattle.iceberg_version.specs.Writing.{IsWritten, NewVersion, Passes, PassesVersions, TableEnd, end_behind, stated_behind}
use Rattle.iceberg_version.proofs.HeldLemmas.{zip_id}
use Rattle.iceberg_metadata.specs.declared.metadata.Metadata.{Metadata}
use Rattle.target_core.specs.Views.{Origin}

-- ---- the ids that paths are given

-- Each of these paths has an id up to this.
abbrev pub AreUpTo : ℕ → List PathId → Type 0
AreUpTo most known = (p : PathId) → Contains known p → p.1 ≤ℤ pos most

raised : (most more : ℕ) (id : ℤ) → most ≤ more → id ≤ℤ pos most → id ≤ℤ pos more
raised most more id le low = omega (arith, ints, le, low)

up_to_more : (most more : ℕ) (known : List PathId) → most ≤ more → AreUpTo most known → AreUpTo more known
up_to_more most more known le low p there = raised most more p.1 le (low p there)

known_up_to : (most : ℕ) (known : List PathId) (path : Path) (id : ℤ) → AreUpTo most known → known_id known path ≡ Some id → id ≤ℤ pos most
known_up_to most [] path id low is = absurd (cc)
known_up_to most (k ∷ known) path id low is = by (pointwise bytes_eq k.0 path) is (λ later. known_up_to most known path id (λ p there. low p (Contains-tail k known p there)) later)
  where
    by : (b : Bool) → (if b then Some k.1 else known_id known path) ≡ Some id → (known_id known path ≡ Some id → id ≤ℤ pos most) → id ≤ℤ pos most
    by true same rest = let one : k.1 ≡ id = cc in subst (λ (i : ℤ). i ≤ℤ pos most) one (low k (Contains-head k known))
    by false later rest = rest later

-- the ids of a step: that of the path, and the last one then
abbrev gives : ℤ × ℤ → Result (ℤ × ℤ) MapError
gives t = Ok t

abbrev BothUpTo : ℕ → ℤ × ℤ → Type 0
BothUpTo most t = (t.0 ≤ℤ pos most) × (t.1 ≤ℤ pos most)

step_up_to : (most : ℕ) (last : ℤ) (o : Option ℤ) (t : ℤ × ℤ) → ((id : ℤ) → o ≡ Some id → id ≤ℤ pos most) → last ≤ℤ pos most → id_step last o ≡ Ok t → BothUpTo (most + 1) t
step_up_to most last (Some id) t known under is =
    let same : (id, last) ≡ t = cc in
    subst (BothUpTo (most + 1)) same (raised most (most + 1) id (omega arith) (known id refl), raised most (most + 1) last (omega arith) under)
step_up_to most last None t known under is = by (int_lt last (pos MAX_ICEBERG_VERSION)) is
  where
    made : (id : ℤ) → gives (id, id) ≡ gives t → (id, id) ≡ t
    made id e = cc

    by : (b : Bool) → ((if b then Ok (last +ℤ pos 1) else Err (Limit limit.Versions)) >>= λ id. gives (id, id)) ≡ gives t → BothUpTo (most + 1) t
    by true e =
        let next : (last +ℤ pos 1) ≤ℤ pos (most + 1) = omega (arith, ints, under) in
        subst (BothUpTo (most + 1)) (made (last +ℤ pos 1) e) (next, next)
    by false e = absurd (cc)

-- Each id is a known one, or at most one for each path behind the last.
given_up_to : (known : List PathId) (most : ℕ) (last : ℤ) (paths : List Path) (ids : List ℤ) → AreUpTo most known → last ≤ℤ pos most → ids_for known last paths ≡ Ok ids → (id : ℤ) → Contains ids id → id ≤ℤ pos (most + length paths)
given_up_to known most last [] ids low under is id there = let none : [] ≡ ids = cc in absurd (Contains-none id (subst (λ (l : List ℤ). Contains l id) (sym none) there))
given_up_to known most last (path ∷ paths) ids low under is id there =
    let t = bound (id_step last (known_id known path)) _ ids is in
    let others = bound (ids_for known t.value.1 paths) _ ids t.behind in
    let all : t.value.0 ∷ others.value ≡ ids = let e = others.behind in cc in
    let step = step_up_to most last (known_id known path) t.value (λ i at. known_up_to most known path i low at) under t.first in
    ⊎_elim
    (λ (first : t.value.0 ≡ id). raised (most + 1) (most + length (path ∷ paths)) id (omega arith) (subst (λ (i : ℤ). i ≤ℤ pos (most + 1)) first step.0))
    (λ (later : Contains others.value id).
    raised (most + 1 + length paths) (most + length (path ∷ paths)) id (omega arith) (given_up_to known (most + 1) t.value.1 paths others.value (up_to_more most (most + 1) known (omega arith) low) step.1 others.first id later))
    (Contains-cases t.value.0 others.value id (subst (λ (l : List ℤ). Contains l id) (sym all) there))

-- ---- the schemas of a version

-- so many columns, nested ones and all, are the most
abbrev pub IsNarrow : ColumnTrees → Type 0
IsNarrow schema = length (column_paths schema) ≤ 2

-- The last field id and each id of a held schema is up to this, and each held schema is narrow.
pub record AreLow (most : ℕ) (schemas : List HeldSchema) (last : ℤ) : Type 0 where
  pub last_low : last ≤ℤ pos most
  pub known : AreUpTo most (flat_map path_ids schemas)
  pub narrow : (s : HeldSchema) → Contains schemas s → IsNarrow s.1

pub low_more : (most more : ℕ) (schemas : List HeldSchema) (last : ℤ) → most ≤ more → AreLow most schemas last → AreLow more schemas last
low_more most more schemas last le low = record { last_low = raised most more last le low.last_low; known = up_to_more most more (flat_map path_ids schemas) le low.known; narrow = low.narrow }

pub none_low : (last : ℤ) → last ≡ pos 0 → AreLow 0 [] last
none_low last is = record { last_low = omega (arith, ints, is); known = λ p there. absurd (Contains-none p there); narrow = λ s there. absurd (Contains-none s there) }

pub no_columns_narrow : IsNarrow no_columns
no_columns_narrow = omega arith

wide_narrow : (stated : ColumnTrees) → IsNarrow stated → IsNarrow (wide_columns stated)
wide_narrow stated is = let same = ap (λ (l : List Path). length l) (column_paths_wide stated) in omega (arith, is, same)

module _ (most : ℕ) (m : Metadata) (stated : ColumnTrees) (next : Schemas) (low : AreLow most m.schemas m.last_column_id) (narrow : IsNarrow stated) where
  keeps_low : KeepsSchemas m stated next → AreLow most next.held next.last_id
  keeps_low is = subst (λ (l : List HeldSchema). AreLow most l next.last_id) (sym is.held) (subst (AreLow most m.schemas) (sym is.last_id) low)

  adds_low : AddsSchema m stated next → AreLow (most + 2) next.held next.last_id
  adds_low is = record {
    last_low = subst (λ (i : ℤ). i ≤ℤ pos (most + 2)) (sym is.last_id) (⊎_elim (λ same. subst (λ (i : ℤ). i ≤ℤ pos (most + 2)) (sym same) (raised most (most + 2) m.last_column_id (omega arith) low.last_low)) (each (fold int_max m.last_column_id is.ids)) (fold-int_max_reached m.last_column_id is.ids (fold int_max m.last_column_id is.ids) refl));
    known = λ p there. ⊎_elim (old p) (new p) (Contains-append_cases (flat_map path_ids m.schemas) (path_ids next.current) p (subst (λ (l : List PathId). Contains l p) split there));
    narrow = λ s there. ⊎_elim (low.narrow s) (λ last. subst (λ (c : ColumnTrees). IsNarrow c) (ap (λ (h : HeldSchema). h.1) (sym is.current ∙ Contains-one next.current s last)) (wide_narrow stated narrow))
        (Contains-append_cases m.schemas (next.current ∷ []) s (subst (λ (l : List HeldSchema). Contains l s) is.held there));
  }
    where
      each : (id : ℤ) → Contains is.ids id → id ≤ℤ pos (most + 2)
      each id there = raised (most + length (column_paths stated)) (most + 2) id (omega (arith, narrow)) (given_up_to (flat_map path_ids m.schemas) most m.last_column_id (column_paths stated) is.ids low.known low.last_low is.are id there)

      old : (p : PathId) → Contains (flat_map path_ids m.schemas) p → p.1 ≤ℤ pos (most + 2)
      old p there = raised most (most + 2) p.1 (omega arith) (low.known p there)

      new : (p : PathId) → Contains (path_ids next.current) p → p.1 ≤ℤ pos (most + 2)
      new p there = each p.1 (subst (λ (h : HeldSchema). Contains h.2 p.1) is.current (zip_id (column_paths next.current.1) next.current.2 p there))

      split : flat_map path_ids next.held ≡ flat_map path_ids m.schemas ++ path_ids next.current
      split =
          ap (flat_map path_ids) is.held
          ∙ flat_map-append path_ids m.schemas (next.current ∷ [])
          ∙ ap (λ (l : List PathId). flat_map path_ids m.schemas ++ l) (append-nil (path_ids next.current))

  -- Behind a commit of a narrow schema the ids are at most two more.
  pub next_low : AreNextSchemas m stated next → AreLow (most + 2) next.held next.last_id
  next_low (inl keeps) = low_more most (most + 2) next.held next.last_id (omega arith) (keeps_low keeps)
  next_low (inr adds) = adds_low adds.1

-- ---- no number is passed

-- The schema that it states is narrow.
abbrev pub StatesNarrow : Commit → Type 0
StatesNarrow commit = (schema : ColumnTrees) → commit.change.schema ≡ Some schema → IsNarrow schema

pub behind_narrow : (end : TableEnd) (change : Change) → IsNarrow end.schema → ((schema : ColumnTrees) → change.schema ≡ Some schema → IsNarrow schema) → IsNarrow (stated_behind end change)
behind_narrow end change before states = by change.schema states
  where
    by : (o : Option ColumnTrees) → ((schema : ColumnTrees) → o ≡ Some schema → IsNarrow schema) → IsNarrow (unwrap_or o end.schema)
    by None each = before
    by (Some schema) each = each schema refl

few_new : (known : List PathId) (paths : List Path) → new_count known paths ≤ length paths
few_new known [] = omega arith
few_new known (path ∷ paths) = by (is_some (known_id known path)) (few_new known paths)
  where
    by : (b : Bool) → new_count known paths ≤ length paths → (if b then new_count known paths else suc (new_count known paths)) ≤ suc (length paths)
    by true rest = omega (arith, rest)
    by false rest = omega (arith, rest)

none_greatest : (most : ℕ) (known : List PathId) (last : ℤ) (stated : ColumnTrees) → last ≤ℤ pos most → IsNarrow stated → most + 2 ≤ MAX_ICEBERG_VERSION → PassesGreatest known last (column_paths stated) → ⊥
none_greatest most known last stated low narrow small passes = by (new_count known (column_paths stated)) (few_new known (column_paths stated)) passes.1
  where
    by : (n : ℕ) → n ≤ length (column_paths stated) → (pos MAX_ICEBERG_VERSION) <ℤ (last +ℤ pos n) → ⊥
    by n few past = omega (arith, ints, few, past, low, narrow, small)

none_at : (most : ℕ) (end : TableEnd) (change : Change) → AreLow most end.metadata.schemas end.metadata.last_column_id → IsNarrow (stated_behind end change) → end.version + 1 ≤ MAX_ICEBERG_VERSION → most + 2 ≤ MAX_ICEBERG_VERSION → PassesVersions end change → ⊥
none_at most end change low narrow within small (inl many) = omega (arith, many, within)
none_at most end change low narrow within small (inr greatest) = none_greatest most (flat_map path_ids end.metadata.schemas) end.metadata.last_column_id (stated_behind end change) low.last_low narrow small greatest

-- behind what is written for a commit
pub written_low : (most : ℕ) (end : TableEnd) (origin : Origin) (now : ℕ) (commit : Commit) (written : NewVersion) → AreLow most end.metadata.schemas end.metadata.last_column_id → IsNarrow (stated_behind end commit.change) → IsWritten end origin now commit written
    → AreLow (most + 2) written.metadata.schemas written.metadata.last_column_id
written_low most end origin now commit written low narrow is =
    subst (λ (m : Metadata). AreLow (most + 2) m.schemas m.last_column_id) (sym is.metadata) (next_low most end.metadata (stated_behind end commit.change) is.schemas low narrow is.layout.schemas_are)

-- None of these commits passes the greatest version or field id.
pub no_versions : (end : TableEnd) (origin : Origin) (now : ℕ) (commits : List Commit) (n most : ℕ) → AreLow most end.metadata.schemas end.metadata.last_column_id → IsNarrow end.schema → ((commit : Commit) → Contains commits commit → StatesNarrow commit)
    → end.version + length commits ≤ MAX_ICEBERG_VERSION → most + 2 * length commits ≤ MAX_ICEBERG_VERSION → Passes end origin now commits limit.Versions n → ⊥
no_versions end origin now [] n most low narrow states within small passes = passes
no_versions end origin now (commit ∷ []) n most low narrow states within small passes =
    none_at most end commit.change low (behind_narrow end commit.change narrow (states commit (Contains-head commit []))) (omega (arith, within)) (omega (arith, small)) passes.1
no_versions end origin now (commit ∷ (next ∷ commits)) n most low narrow states within small passes =
    let stated = behind_narrow end commit.change narrow (states commit (Contains-head commit (next ∷ commits))) in
    no_versions (end_behind end commit passes.0) origin now (next ∷ commits) n (most + 2) (written_low most end origin now commit passes.0 low stated passes.1) (wide_narrow (stated_behind end commit.change) stated)
    (λ other there. states other (Contains-tail commit (next ∷ commits) other there)) (omega (arith, within)) (omega (arith, small)) passes.2

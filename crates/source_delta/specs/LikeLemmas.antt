-- What a commit says over a table it says over each table like it, and it takes them to tables that are alike.
use Rattle.std.proofs.Common.{◌≡◌, ◌≢◌, ◌⊎◌, ◌↔◌, ℕ, List, [], ◌∷◌, Contains, Option, Some, None, Result, Ok, refl, sym, ap, subst, ◌∙◌, inl, inr, ⊎_elim}
use Rattle.std.specs.List.{IsDistinct}
use Rattle.std.specs.Str.{bytes_eq}
use Rattle.std.proofs.lemmas.Option.{same_Some}
use Rattle.table_history.specs.First.{NoneOf}
use Rattle.table_history.specs.History.{FitsColumn, column_type}
use Rattle.table_history.specs.Row.{Row}
use Rattle.table_history.specs.Rows.{SameRows}
use Rattle.table_history.specs.TypeTree.{ColumnTrees}
use Rattle.table_history.specs.declared.row.PartValue.{PartValue}
use Rattle.table_history.specs.declared.table.Table.{Table}
use Rattle.table_history.proofs.RowListLemmas.{Contains-head, Contains-tail}
use Rattle.partition_map.specs.Columns.{HasOtherKind, LacksKinds, column_kind}
use Rattle.delta_change.specs.Change.{ChangesPartition, HasOtherPartition, HasOtherValue, IsOutsideGrammar, Shows, commit_features}
use Rattle.delta_live.specs.Live.{IsRowBehind, PartColumns, ArePartColumns}
use Rattle.delta_change.specs.TableBehind.{IsSchemaBehind, Spells, StatesSchema, partition_before, partition_behind, rows_before, schema_before}
use Rattle.delta_log.specs.declared.commit.DeltaCommit.{DeltaCommit}
use Rattle.delta_log.specs.declared.commit.MetaData.{MetaData}
use Rattle.delta_change.proofs.KindLemmas.{same_columns}
use Rattle.delta_change.proofs.TableLemmas.{partition_kept}
use Rattle.delta_table.specs.Log.{IsStep}
use Rattle.source_core.specs.Histories.{IsLike}
use Rattle.source_core.proofs.Histories.{like_same}
use Rattle.table_history.specs.Tables.{SameTable}
use Rattle.source_delta.specs.Histories.{IsReadableOver}
use Rattle.partition_map.proofs.KindLemmas.{same_kind}

-- ---- partition columns

-- columns of the same kinds are partition columns together
part_columns : (a b : ColumnTrees) (names : List (List ℕ)) (columns : PartColumns) → ((name : List ℕ) → Contains names name → column_kind a name ≡ column_kind b name) → ArePartColumns b names columns → ArePartColumns a names columns
part_columns a b [] [] same are = tt
part_columns a b [] (c ∷ columns) same are = absurd are
part_columns a b (n ∷ names) [] same are = absurd are
part_columns a b (n ∷ names) (c ∷ columns) same are =
    (are.0, same n (Contains-head n names) ∙ are.1, part_columns a b names columns (λ name there. same name (Contains-tail n names name there)) are.2)

-- ---- tables before a commit

-- Before both there is no table, or the two are alike.
abbrev pub LikeBefore : Option Table → Option Table → Type 0
LikeBefore None None = Unit {0}
LikeBefore (Some held) (Some table) = IsLike held table
LikeBefore _ _ = ⊥

rows_like : (a b : Option Table) → LikeBefore a b → SameRows (rows_before a) (rows_before b)
rows_like None None like row = (λ there. there, λ there. there)
rows_like None (Some t) like row = absurd like
rows_like (Some t) None like row = absurd like
rows_like (Some held) (Some table) like row = like.rows row

partition_like : (a b : Option Table) → LikeBefore a b → partition_before a ≡ partition_before b
partition_like None None like = refl
partition_like None (Some t) like = absurd like
partition_like (Some t) None like = absurd like
partition_like (Some held) (Some table) like = like.partition

fits_like : (a b : Option Table) → LikeBefore a b → (name : List ℕ) → Contains (partition_before b) name → (v : PartValue) → FitsColumn (column_type (schema_before a) name) v ↔ FitsColumn (column_type (schema_before b) name) v
fits_like None None like name there v = (λ h. h, λ h. h)
fits_like None (Some t) like name there v = absurd like
fits_like (Some t) None like name there v = absurd like
fits_like (Some held) (Some table) like name there v = like.kinds name there v

kinds_like : (a b : Option Table) → LikeBefore a b → (name : List ℕ) → Contains (partition_before b) name → column_kind (schema_before a) name ≡ column_kind (schema_before b) name
kinds_like a b like name there = same_kind (schema_before a) (schema_before b) name (fits_like a b like name there)

one_ok : {E : Type 0} (r : Result ColumnTrees E) (a b : ColumnTrees) → r ≡ Ok a → r ≡ Ok b → a ≡ b
one_ok r a b x y = cc

-- ---- what the commit says over them

module _ (a b : Option Table) (like : LikeBefore a b) where
  outside : (c : DeltaCommit) → IsOutsideGrammar c b → IsOutsideGrammar c a
  outside c h = by a b like h
    where
      by : (x y : Option Table) → LikeBefore x y → IsOutsideGrammar c y → IsOutsideGrammar c x
      by None None l (inl lacks) = inl lacks
      by None (Some t) l (inl lacks) = absurd l
      by (Some t) None l (inl lacks) = absurd l
      by (Some s) (Some t) l (inl lacks) = let none : Some t ≡ None = lacks.0 in absurd cc
      by x y l (inr bad) = inr bad

  lacking : (o : Option MetaData) (schema : ColumnTrees) → IsSchemaBehind o b schema → LacksKinds schema (partition_behind o b) → (s : ColumnTrees) × IsSchemaBehind o a s × LacksKinds s (partition_behind o a)
  lacking (Some m) schema is lacks = (schema, is, lacks)
  lacking None schema is lacks = (
    schema_before a,
    refl,
    ⊎_elim
        (λ twice. inl (λ once. twice (subst (IsDistinct bytes_eq) (partition_like a b like) once)))
        (λ none. inr (
          none.0,
          subst (λ names. Contains names none.0) (sym (partition_like a b like)) none.1,
          kinds_like a b like none.0 none.1 ∙ ap (λ s. column_kind s none.0) (sym is) ∙ none.2,
        ))
        lacks,
  )

  columned : (o : Option MetaData) (schema : ColumnTrees) (columns : PartColumns) → IsSchemaBehind o b schema → ArePartColumns schema (partition_behind o b) columns → (s : ColumnTrees) × IsSchemaBehind o a s × ArePartColumns s (partition_behind o a) columns
  columned (Some m) schema columns is are = (schema, is, are)
  columned None schema columns is are = (
    schema_before a,
    refl,
    subst (λ names. ArePartColumns (schema_before a) names columns) (sym (partition_like a b like))
        (part_columns (schema_before a) (schema_before b) (partition_before b) columns (kinds_like a b like) (subst (λ s. ArePartColumns s (partition_before b) columns) is are)),
  )

  partition_other : (c : DeltaCommit) → HasOtherPartition c b → HasOtherPartition c a
  partition_other c h = lacking c.meta h.0 h.1 h.2

  value_other : (c : DeltaCommit) → HasOtherValue c b → HasOtherValue c a
  value_other c h = let of = columned c.meta h.0 h.1 h.2 h.3 in (of.0, h.1, of.1, of.2, h.4, h.5, h.6, h.7, h.8)

changed_over : (c : DeltaCommit) (held table : Table) → IsLike held table → (ChangesPartition c (Some held) → ⊥) → (m : MetaData) (schema : ColumnTrees) → c.meta ≡ Some m → Spells m schema
    → (m.partition ≢ table.partition) ⊎ HasOtherKind table.schema schema m.partition → ⊥
changed_over c held table like none m schema is spells changes =
    let states : StatesSchema c.meta (Some schema) = subst (λ o. StatesSchema o (Some schema)) (sym is) spells in
    let kept : m.partition ≡ held.partition = sym (ap (λ (o : Option MetaData). partition_behind o (Some held)) is) ∙ partition_kept c held (Some schema) states none in
    let same : m.partition ≡ table.partition = kept ∙ like.partition in
    ⊎_elim
    (λ other. other same)
    (λ other. none (
      held,
      m,
      schema,
      refl,
      is,
      spells,
      inr (record {
        name = other.name;
        named = other.named;
        old = other.old;
        was = same_kind held.schema table.schema other.name (like.kinds other.name (subst (λ names. Contains names other.name) same other.named)) ∙ other.was;
        new = other.new;
        is = other.is;
        changed = other.changed;
      }),
    ))
    changes

partition_changed : (c : DeltaCommit) (a b : Option Table) → LikeBefore a b → (ChangesPartition c a → ⊥) → ChangesPartition c b → ⊥
partition_changed c None None like none h = none h
partition_changed c None (Some t) like none h = absurd like
partition_changed c (Some t) None like none h = absurd like
partition_changed c (Some held) (Some table) like none h =
    changed_over c held table like none h.1 h.2 h.4 h.5 (subst (λ (t : Table). (h.1.partition ≢ t.partition) ⊎ HasOtherKind t.schema h.2 h.1.partition) (sym (same_Some table h.0 h.3)) h.6)

supported_like : (c : DeltaCommit) (a b : Option Table) → LikeBefore a b → NoneOf (Shows c a) commit_features → NoneOf (Shows c b) commit_features
supported_like c a b like s = (
  s.0,
  (
    s.1.0,
    (
      s.1.1.0,
      (
        s.1.1.1.0,
        (
          (λ h. s.1.1.1.1.0 (partition_other a b like c h)),
          ((λ h. partition_changed c a b like s.1.1.1.1.1.0 h), ((λ h. s.1.1.1.1.1.1.0 (value_other a b like c h)), tt)),
        ),
      ),
    ),
  ),
)

-- Where it can be read over the one, it can over the other.
pub readable_like : (c : DeltaCommit) (a b : Option Table) → LikeBefore a b → IsReadableOver c a → IsReadableOver c b
readable_like c a b like can = record { grammar = λ h. can.grammar (outside a b like c h); supported = supported_like c a b like can.supported; schema = can.schema }

-- ---- the tables behind it

module _ (a b : Option Table) (like : LikeBefore a b) where
  partition_after : (o : Option MetaData) → partition_behind o a ≡ partition_behind o b
  partition_after None = partition_like a b like
  partition_after (Some m) = refl

  fits_after : (o : Option MetaData) (s t : ColumnTrees) → IsSchemaBehind o a s → IsSchemaBehind o b t → (name : List ℕ) → Contains (partition_behind o b) name → (v : PartValue) → FitsColumn (column_type s name) v ↔ FitsColumn (column_type t name) v
  fits_after None s t is it name there v =
      subst (λ (u : ColumnTrees). FitsColumn (column_type u name) v ↔ FitsColumn (column_type t name) v) (sym is)
      (subst (λ (u : ColumnTrees). FitsColumn (column_type (schema_before a) name) v ↔ FitsColumn (column_type u name) v) (sym it) (fits_like a b like name there v))
  fits_after (Some m) s t is it name there v =
      let same : s ≡ t = one_ok _ s t is it in
      (λ h. subst (λ u. FitsColumn (column_type u name) v) same h, λ h. subst (λ u. FitsColumn (column_type u name) v) (sym same) h)

  row_after : (c : DeltaCommit) (columns : PartColumns) (row : Row) → IsRowBehind columns (rows_before a) c row ↔ IsRowBehind columns (rows_before b) c row
  row_after c columns row = (
    λ h. ⊎_elim inl (λ old. inr ((rows_like a b like row).0 old.0, old.1)) h,
    λ h. ⊎_elim inl (λ old. inr ((rows_like a b like row).1 old.0, old.1)) h,
  )

  module _ (c : DeltaCommit) (x y : Table) (one : IsStep c a x) (other : IsStep c b y) where
    next_partition : x.partition ≡ y.partition
    next_partition = one.partition ∙ partition_after c.meta ∙ sym other.partition

    next_fits : (name : List ℕ) → Contains y.partition name → (v : PartValue) → FitsColumn (column_type x.schema name) v ↔ FitsColumn (column_type y.schema name) v
    next_fits name there v = fits_after c.meta x.schema y.schema one.schema other.schema name (subst (λ names. Contains names name) other.partition there) v

    next_kinds : (name : List ℕ) → Contains y.partition name → column_kind x.schema name ≡ column_kind y.schema name
    next_kinds name there = same_kind x.schema y.schema name (next_fits name there)

    next_columns : one.columns ≡ other.columns
    next_columns =
        same_columns x.schema y.schema y.partition one.columns other.columns (subst (λ names. ArePartColumns x.schema names one.columns) next_partition one.kinds) other.kinds
        (λ name there o k was is. cc (sym was ∙ next_kinds name there ∙ is))

    next_rows : SameRows x.rows y.rows
    next_rows row = (
      λ there. (other.rows.rows row).1 ((row_after c other.columns row).0 (subst (λ cs. IsRowBehind cs (rows_before a) c row) next_columns ((one.rows.rows row).0 there))),
      λ there. (one.rows.rows row).1 (subst (λ cs. IsRowBehind cs (rows_before a) c row) (sym next_columns) ((row_after c other.columns row).1 ((other.rows.rows row).0 there))),
    )

    -- The tables behind it are alike.
    pub next_like : IsLike x y
    next_like = record { rows = next_rows; partition = next_partition; kinds = next_fits }

-- ---- the same tables

-- Before both there is no table, or they are the same.
abbrev pub SameBefore : Option Table → Option Table → Type 0
SameBefore None None = Unit {0}
SameBefore (Some a) (Some b) = SameTable a b
SameBefore _ _ = ⊥

pub like_before : (a b : Option Table) → SameBefore a b → LikeBefore a b
like_before None None same = tt
like_before None (Some t) same = absurd same
like_before (Some t) None same = absurd same
like_before (Some a) (Some b) same = like_same a b same

schema_same : (a b : Option Table) → SameBefore a b → schema_before a ≡ schema_before b
schema_same None None same = refl
schema_same None (Some t) same = absurd same
schema_same (Some t) None same = absurd same
schema_same (Some a) (Some b) same = same.schema

schema_after : (a b : Option Table) → SameBefore a b → (o : Option MetaData) (s t : ColumnTrees) → IsSchemaBehind o a s → IsSchemaBehind o b t → s ≡ t
schema_after a b same None s t is it = is ∙ schema_same a b same ∙ sym it
schema_after a b same (Some m) s t is it = one_ok _ s t is it

-- The same tables are taken to the same ones.
pub next_same : (a b : Option Table) → SameBefore a b → (c : DeltaCommit) (x y : Table) → IsStep c a x → IsStep c b y → SameTable x y
next_same a b same c x y one other =
    let like = next_like a b (like_before a b same) c x y one other in
    record { rows = like.rows; partition = like.partition; schema = schema_after a b same c.meta x.schema y.schema one.schema other.schema }

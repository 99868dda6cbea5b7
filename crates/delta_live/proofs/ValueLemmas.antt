-- The values of added files, and the rows that they make.
use Rattle.std.proofs.Common.{◌≡◌, ℕ, suc, ◌+◌, ◌<◌, ◌^◌, List, [], ◌∷◌, ◌++◌, length, get_or, take, drop, cond, true, false, Option, Some, None, Contains, refl, sym, ap, subst, ◌∙◌, ⊎_elim}
use Rattle.std.specs.Prelude.{option_to_list}
use Rattle.std.specs.Str.{bytes_eq}
use Rattle.std.proofs.lemmas.List.{append-nil}
use Rattle.table_history.specs.History.{column_type, FitColumns}
use Rattle.table_history.specs.Path.{IsPath}
use Rattle.table_history.specs.Rows.{paths_of}
use Rattle.table_history.specs.TypeTree.{ColumnTrees}
use Rattle.table_history.specs.declared.row.FileRow.{FileRow}
use Rattle.table_history.specs.declared.row.PartValue.{PartValue}
use Rattle.table_history.specs.declared.feature.Feature.{Feature}
use Rattle.table_history.proofs.RowListLemmas.{Contains-none, Contains-head, Contains-tail, Contains-cases}
use Rattle.partition_map.specs.Stands.{DeltaStands}
use Rattle.partition_map.specs.declared.kind.PartKind.{PartKind}
use Rattle.partition_map.proofs.KindLemmas.{fits_kind}
use Rattle.partition_map.proofs.Laws.{delta_of_kind}
use Rattle.partition_map.proofs.StandsLemmas.{delta_same}
use Rattle.delta_log.specs.declared.commit.FileAction.{FileAction}
use Rattle.delta_log.specs.declared.commit.FileAction.TheVariants as file
use Rattle.delta_log.specs.declared.error.DeltaError.{DeltaError}
use Rattle.delta_log.specs.declared.error.DeltaError.TheVariants as errors
use Rattle.delta_live.specs.Live.{SpellsNoValue, IsSoundRow, PartColumns, text_of, AreValues, AddsRow, ArePartColumns}
use Rattle.delta_live.specs.RowSteps.{Tells, IsRowOf, AreRowsOf, added_paths}
use Rattle.delta_log.specs.Sound.{IsSoundFile}
use Rattle.lake_basics.proofs.Lists.{last_of, next_of}

-- ---- the text of a column

abbrev Texts : Type 0
Texts = List (List ℕ × Option (List ℕ))

pub text_here : (name : List ℕ) (texts : Texts) (i : ℕ) (p : List ℕ × Option (List ℕ)) (whole : Option (List ℕ)) → i < length texts → p ≡ get_or texts i p → bytes_eq name p.0 ≡ true → text_of name (drop i texts) ≡ whole → p.1 ≡ whole
text_here name texts i p whole within at is so_far = sym (ap (text_of name) (next_of texts i p within at) ∙ ap (λ b. cond b p.1 (text_of name (drop (i + 1) texts))) is) ∙ so_far

pub text_later : (name : List ℕ) (texts : Texts) (i : ℕ) (p : List ℕ × Option (List ℕ)) (whole : Option (List ℕ)) → i < length texts → p ≡ get_or texts i p → bytes_eq name p.0 ≡ false → text_of name (drop i texts) ≡ whole → text_of name (drop (i + 1) texts) ≡ whole
text_later name texts i p whole within at is so_far = sym (ap (text_of name) (next_of texts i p within at) ∙ ap (λ b. cond b p.1 (text_of name (drop (i + 1) texts))) is) ∙ so_far

-- ---- values

values_push : (columns : PartColumns) (texts : Texts) (vs : List PartValue) (c : List ℕ × PartKind) (v : PartValue) → AreValues columns texts vs → DeltaStands c.1 (text_of c.0 texts) v → AreValues (columns ++ c ∷ []) texts (vs ++ v ∷ [])
values_push [] texts [] c v h stands = (stands, tt)
values_push [] texts (w ∷ vs) c v h stands = absurd h
values_push (d ∷ ds) texts [] c v h stands = absurd h
values_push (d ∷ ds) texts (w ∷ vs) c v h stands = (h.0, values_push ds texts vs c v h.1 stands)

pub values_more : (columns : PartColumns) (texts : Texts) (vs : List PartValue) (i : ℕ) (c : List ℕ × PartKind) (v : PartValue) → i < length columns → c ≡ get_or columns i c
    → AreValues (take i columns) texts vs → DeltaStands c.1 (text_of c.0 texts) v → AreValues (take (i + 1) columns) texts (vs ++ v ∷ [])
values_more columns texts vs i c v within at h stands = subst (λ l. AreValues l texts (vs ++ v ∷ [])) (sym (last_of columns i c within at)) (values_push (take i columns) texts vs c v h stands)

pub tells_more : (feature : Feature) (P Q : Type 0) → (P → Q) → (e : DeltaError) → Tells feature P e → Tells feature Q e
tells_more feature P Q f errors.Memory h = tt
tells_more feature P Q f (errors.Malformed line) h = absurd h
tells_more feature P Q f (errors.DoublePath line) h = absurd h
tells_more feature P Q f (errors.Unsupported g line) h = (h.0, h.1, f h.2)
tells_more feature P Q f (errors.Limit which) h = absurd h

-- ---- rows

rows_push : (columns : PartColumns) (files : List FileAction) (rows : List FileRow) (p : List ℕ) (vs : Texts) (size count : ℕ) (row : FileRow) → AreRowsOf columns files rows → AddsRow columns (file.Add p vs size count) row
    → AreRowsOf columns (files ++ file.Add p vs size count ∷ []) (rows ++ row ∷ [])
rows_push columns [] rows p vs size count row h adds = (row, [], adds, refl, ap (λ l. l ++ row ∷ []) h)
rows_push columns (file.Add q ws s n ∷ files) rows p vs size count row h adds = (h.0, h.1 ++ row ∷ [], h.2, rows_push columns files h.1 p vs size count row h.3 adds, ap (λ l. l ++ row ∷ []) h.4)
rows_push columns (file.Remove q ∷ files) rows p vs size count row h adds = rows_push columns files rows p vs size count row h adds

rows_kept : (columns : PartColumns) (files : List FileAction) (rows : List FileRow) (p : List ℕ) → AreRowsOf columns files rows → AreRowsOf columns (files ++ file.Remove p ∷ []) rows
rows_kept columns [] rows p h = h
rows_kept columns (file.Add q ws s n ∷ files) rows p h = (h.0, h.1, h.2, rows_kept columns files h.1 p h.3, h.4)
rows_kept columns (file.Remove q ∷ files) rows p h = rows_kept columns files rows p h

rows_more : (columns : PartColumns) (files : List FileAction) (rows : List FileRow) (i : ℕ) (f : FileAction) (row : FileRow) → i < length files → f ≡ get_or files i f
    → AreRowsOf columns (take i files) rows → IsRowOf columns f (Some row) → AreRowsOf columns (take (i + 1) files) (rows ++ row ∷ [])
rows_more columns files rows i f row within at h is = subst (λ l. AreRowsOf columns l (rows ++ row ∷ [])) (sym (last_of files i f within at)) (by f is)
  where
    by : (g : FileAction) → IsRowOf columns g (Some row) → AreRowsOf columns (take i files ++ g ∷ []) (rows ++ row ∷ [])
    by (file.Add p vs size count) adds = rows_push columns (take i files) rows p vs size count row h adds
    by (file.Remove p) none = absurd cc

rows_same : (columns : PartColumns) (files : List FileAction) (rows : List FileRow) (i : ℕ) (f : FileAction) → i < length files → f ≡ get_or files i f
    → AreRowsOf columns (take i files) rows → IsRowOf columns f None → AreRowsOf columns (take (i + 1) files) rows
rows_same columns files rows i f within at h is = subst (λ l. AreRowsOf columns l rows) (sym (last_of files i f within at)) (by f is)
  where
    by : (g : FileAction) → IsRowOf columns g None → AreRowsOf columns (take i files ++ g ∷ []) rows
    by (file.Add p vs size count) adds = absurd adds
    by (file.Remove p) none = rows_kept columns (take i files) rows p h

pub rows_step : (columns : PartColumns) (files : List FileAction) (rows : List FileRow) (i : ℕ) (f : FileAction) (o : Option FileRow) → i < length files → f ≡ get_or files i f
    → AreRowsOf columns (take i files) rows → IsRowOf columns f o → AreRowsOf columns (take (i + 1) files) (rows ++ option_to_list o)
rows_step columns files rows i f (Some row) within at h is = rows_more columns files rows i f row within at h is
rows_step columns files rows i f None within at h is = subst (AreRowsOf columns (take (i + 1) files)) (sym (append-nil rows)) (rows_same columns files rows i f within at h is)

-- the rows' paths are those of the adds
pub rows_paths : (columns : PartColumns) (files : List FileAction) (rows : List FileRow) → AreRowsOf columns files rows → paths_of rows ≡ added_paths files
rows_paths columns [] rows h = ap paths_of h
rows_paths columns (file.Add p vs size count ∷ files) rows h = ap paths_of h.4 ∙ (λ i. h.2.0 i ∷ rows_paths columns files h.1 h.3 i)
rows_paths columns (file.Remove p ∷ files) rows h = rows_paths columns files rows h

-- each row is added by an action
pub row_from : (columns : PartColumns) (files : List FileAction) (rows : List FileRow) (row : FileRow) → AreRowsOf columns files rows → Contains rows row → (f : FileAction) × Contains files f × AddsRow columns f row
row_from columns [] rows row h there = absurd (Contains-none row (subst (λ l. Contains l row) h there))
row_from columns (file.Add p vs size count ∷ files) rows row h there =
    ⊎_elim
    (λ e. (file.Add p vs size count, Contains-head (file.Add p vs size count) files, subst (AddsRow columns (file.Add p vs size count)) e h.2))
    (λ later. let rest = row_from columns files h.1 row h.3 later in (rest.0, Contains-tail (file.Add p vs size count) files rest.0 rest.1, rest.2))
    (Contains-cases h.0 h.1 row (subst (λ l. Contains l row) h.4 there))
row_from columns (file.Remove p ∷ files) rows row h there = let rest = row_from columns files rows row h there in (rest.0, Contains-tail (file.Remove p) files rest.0 rest.1, rest.2)

-- the texts stand for one list of values
pub values_same : (columns : PartColumns) (texts : Texts) (vs ws : List PartValue) → AreValues columns texts vs → AreValues columns texts ws → vs ≡ ws
values_same [] texts [] [] h k = refl
values_same [] texts [] (w ∷ ws) h k = absurd k
values_same [] texts (v ∷ vs) ws h k = absurd h
values_same (c ∷ cs) texts [] ws h k = absurd h
values_same (c ∷ cs) texts (v ∷ vs) [] h k = absurd k
values_same (c ∷ cs) texts (v ∷ vs) (w ∷ ws) h k = (λ i. delta_same c.1 (text_of c.0 texts) v w h.0 k.0 i ∷ values_same cs texts vs ws h.1 k.1 i)

-- an action adds one row at most
row_same : (columns : PartColumns) (p : List ℕ) (vs : Texts) (size count : ℕ) (r s : FileRow) → AddsRow columns (file.Add p vs size count) r → AddsRow columns (file.Add p vs size count) s → r ≡ s
row_same columns p vs size count r s h k =
    let values = values_same columns vs r.values s.values h.1 k.1 in
    λ i. record { path = (h.0 ∙ sym k.0) i; values = values i; count = (h.3 ∙ sym k.3) i; size = (h.2 ∙ sym k.2) i }

-- what an action adds is among the rows
pub row_to : (columns : PartColumns) (files : List FileAction) (rows : List FileRow) (row : FileRow) (f : FileAction) → AreRowsOf columns files rows → Contains files f → AddsRow columns f row → Contains rows row
row_to columns [] rows row f h there adds = absurd (Contains-none f there)
row_to columns (file.Add p vs size count ∷ files) rows row f h there adds =
    subst (λ l. Contains l row) (sym h.4)
    (⊎_elim
    (λ e. subst (Contains (h.0 ∷ h.1)) (row_same columns p vs size count h.0 row h.2 (subst (λ g. AddsRow columns g row) (sym e) adds)) (Contains-head h.0 h.1))
    (λ later. Contains-tail h.0 h.1 row (row_to columns files h.1 row f h.3 later adds))
    (Contains-cases (file.Add p vs size count) files f there))
row_to columns (file.Remove p ∷ files) rows row f h there adds =
    ⊎_elim
    (λ e. absurd (subst (λ g. AddsRow columns g row) (sym e) adds))
    (λ later. row_to columns files rows row f h later adds)
    (Contains-cases (file.Remove p) files f there)

-- ---- each value stands for something

value_at : (columns : PartColumns) (texts : Texts) (vs : List PartValue) (c : List ℕ × PartKind) → AreValues columns texts vs → Contains columns c → (v : PartValue) × DeltaStands c.1 (text_of c.0 texts) v
value_at [] texts vs c h there = absurd (Contains-none c there)
value_at (d ∷ ds) texts [] c h there = absurd h
value_at (d ∷ ds) texts (v ∷ vs) c h there =
    ⊎_elim
    (λ e. (v, subst (λ (x : List ℕ × PartKind). DeltaStands x.1 (text_of x.0 texts) v) e h.0))
    (λ later. value_at ds texts vs c h.1 later)
    (Contains-cases d ds c there)

pub has_values : (columns : PartColumns) (files : List FileAction) (rows : List FileRow) (f : FileAction) (c : List ℕ × PartKind) → AreRowsOf columns files rows → Contains files f → Contains columns c → SpellsNoValue c f → ⊥
has_values columns [] rows f c h there column none = Contains-none f there
has_values columns (file.Add p vs size count ∷ files) rows f c h there column none =
    ⊎_elim
    (λ e.
    let has = value_at columns vs h.0.values c h.2.1 column in
    let never : SpellsNoValue c (file.Add p vs size count) = subst (SpellsNoValue c) (sym e) none in
    never has.0 has.1)
    (λ later. has_values columns files h.1 f c h.3 later column none)
    (Contains-cases (file.Add p vs size count) files f there)
has_values columns (file.Remove p ∷ files) rows f c h there column none =
    ⊎_elim
    (λ e. let never : SpellsNoValue c (file.Remove p) = subst (SpellsNoValue c) (sym e) none in never)
    (λ later. has_values columns files rows f c h later column none)
    (Contains-cases (file.Remove p) files f there)

-- ---- values and their columns

pub values_fit : (schema : ColumnTrees) (names : List (List ℕ)) (columns : PartColumns) (texts : Texts) (vs : List PartValue) → ArePartColumns schema names columns → AreValues columns texts vs → FitColumns schema names vs
values_fit schema [] [] texts [] are h = tt
values_fit schema [] [] texts (v ∷ vs) are h = absurd h
values_fit schema [] (c ∷ cs) texts vs are h = absurd are
values_fit schema (n ∷ ns) [] texts vs are h = absurd are
values_fit schema (n ∷ ns) (c ∷ cs) texts [] are h = absurd h
values_fit schema (n ∷ ns) (c ∷ cs) texts (v ∷ vs) are h =
    (fits_kind (column_type schema n) c.1 v are.1 (delta_of_kind c.1 (text_of c.0 texts) v h.0), values_fit schema ns cs texts vs are.2 h.1)

-- ---- a row that an action adds

pub sound_row : (schema : ColumnTrees) (names : List (List ℕ)) (columns : PartColumns) (f : FileAction) (row : FileRow) → ArePartColumns schema names columns → IsSoundFile f → AddsRow columns f row → IsSoundRow schema names row
sound_row schema names columns (file.Add p vs size count) row are sound adds = record {
  path = subst IsPath (sym adds.0) sound.0;
  values = values_fit schema names columns vs row.values are adds.1;
  count = subst (λ n. n < 2 ^ 63) (sym adds.3) sound.3;
  size = subst (λ n. n < 2 ^ 63) (sym adds.2) sound.2;
}
sound_row schema names columns (file.Remove p) row are sound adds = absurd adds

pub columns_length : (schema : ColumnTrees) (names : List (List ℕ)) (columns : PartColumns) → ArePartColumns schema names columns → length columns ≡ length names
columns_length schema [] [] are = refl
columns_length schema [] (c ∷ cs) are = absurd are
columns_length schema (n ∷ ns) [] are = absurd are
columns_length schema (n ∷ ns) (c ∷ cs) are = ap suc (columns_length schema ns cs are.2)

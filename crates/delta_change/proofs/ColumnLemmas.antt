-- What a commit says of the table's columns: the steps of the work, as facts of the commit.
use Rattle.std.proofs.Common.{◌≡◌, ◌⊎◌, ℕ, ℤ, pos, negsuc, Bool, true, false, not, cond, ◌||◌, ◌&&◌, List, [], ◌∷◌, Option, Some, None, is_some, is_none, Result, Ok, Err, Contains, codes, refl, sym, ap, subst, ◌∙◌, inl, inr, ⊎_elim}
use Rattle.std.specs.Prelude.{◌==◌}
use Rattle.std.specs.Cmp.Lexicographic.{pointwise}
use Rattle.std.specs.List.{list_any, list_all, IsDistinct}
use Rattle.std.specs.Str.{bytes_eq}
use Rattle.std.proofs.lemmas.Bool.{and_parts, cases_Bool, eqb-true, false≢true, not-false, not-true, or_parts}
use Rattle.std.proofs.lemmas.Cmp.{nat_list_eq_equiv}
use Rattle.std.proofs.lemmas.Map.Views.{Contains-from_any, list_any-from_Contains}
use Rattle.std.proofs.lemmas.Slice.Eq.{bytes_eq-Decides, slice_eq-Decides}
use Rattle.avro_schema.specs.Names.{are_distinct}
use Rattle.lake_basics.specs.Outcome.{◌>>=◌, required, each, FailsUnlessMemory}
use Rattle.lake_basics.proofs.Truth.{or_nothing}
use Rattle.table_history.specs.First.{IsFirst, NoneOf}
use Rattle.table_history.specs.History.{column_type}
use Rattle.table_history.specs.TypeTree.{TypeTree, ColumnTrees}
use Rattle.table_history.specs.declared.feature.Feature.{Feature}
use Rattle.table_history.specs.declared.feature.Feature.TheVariants.{ReaderVersion, ReaderFeature, ColumnMapping, SchemaType, PartitionType, PartitionChange}
use Rattle.table_history.specs.declared.limit.LimitKind.{LimitKind}
use Rattle.table_history.specs.declared.table.Table.{Table}
use Rattle.table_history.proofs.RowListLemmas.{Contains-none, Contains-head, Contains-tail, Contains-cases}
use Rattle.partition_map.specs.Columns.{column_kind, LacksKinds, HasOtherKind, has_other_kind}
use Rattle.partition_map.specs.declared.kind.PartKind.{PartKind}
use Rattle.partition_map.proofs.ColumnLemmas.{distinct_exactly, has_other_exactly}
use Rattle.schema_delta.specs.Delta.{delta_schema_of}
use Rattle.schema_delta.specs.DeltaRefusal.{IsDeltaRefused}
use Rattle.delta_outline.specs.Outlines.{IsOutline, outline_of_text}
use Rattle.delta_outline.specs.declared.fault.OutlineFault.{OutlineFault}
use Rattle.delta_outline.specs.declared.outline.Outline.{Outline}
use Rattle.delta_outline.proofs.OutlineLemmas.{text_found, text_refused}
use Rattle.schema_delta.proofs.DeltaRefused.{given_refused}
use Rattle.schema_map.specs.declared.fault.MapError.{MapError}
use Rattle.schema_map.specs.declared.fault.MapError.TheVariants as map_errors
use Rattle.delta_log.specs.declared.commit.DeltaCommit.{DeltaCommit}
use Rattle.delta_log.specs.declared.commit.MetaData.{MetaData}
use Rattle.delta_log.specs.declared.commit.Protocol.{Protocol}
use Rattle.delta_log.specs.declared.error.DeltaError.{DeltaError}
use Rattle.delta_log.specs.declared.error.DeltaError.TheVariants as errors
use Rattle.delta_change.specs.Change.{LacksFirstActions, IsOutsideGrammar, LacksField, HasOtherReader, known_features, NeedsOtherFeature, MapsColumns, HasOtherType, HasOtherPartition, ChangesPartition, HasLargeSchema, Shows, commit_features, IsChangeRefusal}
use Rattle.delta_change.specs.ChangeSteps.{is_reader, has_other_reader, is_known, is_unknown, lists_unknown, needs_other_feature, is_mapping, maps_columns, first_feature, unshown_by, unshown, is_column, is_named, told_by, outlined_by, judged, judged_schema, part_column, judged_columns, changes_partition, changes_base, unchanged, ColumnsBehind, stated_columns, kept_columns, lacks_first_actions, columns_by, columns_of, AreColumnsBehind}
use Rattle.delta_log.specs.Grammar.{lists_features}
use Rattle.delta_log.specs.Judging.{is_memory}
use Rattle.delta_log.proofs.SaysLemmas.{version_three}
use Rattle.delta_live.specs.Live.{PartColumns, ArePartColumns}
use Rattle.delta_change.specs.TableBehind.{partition_behind, Spells, StatesSchema, IsSchemaBehind}
use Rattle.delta_change.proofs.AnyLemmas.{any_from, any_to}
use Rattle.delta_change.proofs.SchemaTextLemmas.{missing_name, good_text, has_field, lacks_field, no_other_type, some_other_type, outline_of, spelled, spelled_good, spelled_type, spelled_field}

abbrev early_features : List Feature
early_features = ReaderVersion ∷ ReaderFeature ∷ ColumnMapping ∷ []

-- ---- one schema at most

pub one_schema : (m : MetaData) (s t : ColumnTrees) → Spells m s → Spells m t → s ≡ t
one_schema m s t a b = cc (sym a ∙ b)

no_fault : (m : MetaData) (s : ColumnTrees) (e : MapError) → Spells m s → delta_schema_of m.schema ≡ Err e → ⊥
no_fault m s e a b = absurd cc

one_meta : (c : DeltaCommit) (m n : MetaData) → c.meta ≡ Some m → c.meta ≡ Some n → m ≡ n
one_meta c m n a b = cc (sym a ∙ b)

some_meta : (c : DeltaCommit) (m : MetaData) → c.meta ≡ None → c.meta ≡ Some m → ⊥
some_meta c m a b = absurd cc

-- ---- what the protocol and the settings show

any_false : {X : Type 0} (p : X → Bool) (xs : List X) → list_any p xs ≡ false → (x : X) → Contains xs x → p x ≡ true → ⊥
any_false p xs none x there passes = false≢true (sym none ∙ any_from p xs x there passes)

reader_three : (z : ℤ) → is_reader z ≡ true → (z ≡ pos 1) ⊎ ((z ≡ pos 2) ⊎ (z ≡ pos 3))
reader_three (pos v) h = by (v == 1) (v == 2) (v == 3) refl refl refl h
  where
    by : (a b d : Bool) → (v == 1) ≡ a → (v == 2) ≡ b → (v == 3) ≡ d → (a || (b || d)) ≡ true → (pos v ≡ pos 1) ⊎ ((pos v ≡ pos 2) ⊎ (pos v ≡ pos 3))
    by true b d ea eb ed e = inl (ap pos (eqb-true v 1 ea))
    by false true d ea eb ed e = inr (inl (ap pos (eqb-true v 2 eb)))
    by false false true ea eb ed e = inr (inr (ap pos (eqb-true v 3 ed)))
    by false false false ea eb ed e = absurd (false≢true e)
reader_three (negsuc n) h = absurd (false≢true h)

not_one : (z w : ℤ) → is_reader z ≡ false → is_reader w ≡ true → z ≡ w → ⊥
not_one z w other known e = false≢true (sym other ∙ ap is_reader e ∙ known)

reader_shown : (c : DeltaCommit) → has_other_reader c.protocol ≡ true → HasOtherReader c
reader_shown c h = by c.protocol refl h
  where
    by : (o : Option Protocol) → c.protocol ≡ o → has_other_reader o ≡ true → HasOtherReader c
    by None is e = absurd (false≢true e)
    by (Some p) is e = let other : is_reader p.reader ≡ false = not-true _ e in (p, is, not_one p.reader (pos 1) other refl, not_one p.reader (pos 2) other refl, not_one p.reader (pos 3) other refl)

reader_not_shown : (c : DeltaCommit) → has_other_reader c.protocol ≡ false → HasOtherReader c → ⊥
reader_not_shown c h shows =
    let known : is_reader shows.0.reader ≡ true = not-false _ (sym (ap has_other_reader shows.1) ∙ h) in
    ⊎_elim shows.2 (λ more. ⊎_elim shows.3 shows.4 more) (reader_three shows.0.reader known)

known_any : (name : List ℕ) → list_any (bytes_eq name) known_features ≡ is_known name
known_any name =
    λ i. bytes_eq name (codes "columnMapping") || (bytes_eq name (codes "deletionVectors") || (bytes_eq name (codes "timestampNtz") || (bytes_eq name (codes "v2Checkpoint") || or_nothing (bytes_eq name (codes "vacuumProtocolCheck")) i)))

feature_shown : (c : DeltaCommit) → needs_other_feature c.protocol ≡ true → NeedsOtherFeature c
feature_shown c h = by c.protocol refl h
  where
    named : (p : Protocol) (o : Option (List (List ℕ))) → c.protocol ≡ Some p → p.reader ≡ pos 3 → p.reader_features ≡ o → lists_unknown o ≡ true → NeedsOtherFeature c
    named p None is three are e = absurd (false≢true e)
    named p (Some names) is three are e =
        let other = any_to is_unknown names e in
        (p, names, other.0, is, three, are, other.1, λ known. false≢true (sym (not-true _ other.2) ∙ sym (known_any other.0) ∙ list_any-from_Contains nat_list_eq_equiv other.0 known_features known))

    by : (o : Option Protocol) → c.protocol ≡ o → needs_other_feature o ≡ true → NeedsOtherFeature c
    by None is e = absurd (false≢true e)
    by (Some p) is e = let both = and_parts (lists_features p.reader) (lists_unknown p.reader_features) e in named p p.reader_features is (version_three p.reader both.0) refl both.1

feature_not_shown : (c : DeltaCommit) → needs_other_feature c.protocol ≡ false → NeedsOtherFeature c → ⊥
feature_not_shown c h shows =
    let p = shows.0 in
    let unknown : is_unknown shows.2 ≡ true =
    ⊎_elim
    (λ t. absurd (shows.7 (Contains-from_any {eq = bytes_eq} (λ x y. (bytes_eq-Decides x y).0) shows.2 known_features (known_any shows.2 ∙ t))))
    (λ f. ap not f)
    (cases_Bool (is_known shows.2)) in
    let lists : lists_unknown p.reader_features ≡ true = ap lists_unknown shows.5 ∙ any_from is_unknown shows.1 shows.2 shows.6 unknown in
    let three : lists_features p.reader ≡ true = ap lists_features shows.4 in
    let needs : needs_other_feature c.protocol ≡ true = ap needs_other_feature shows.3 ∙ (λ i. three i && lists i) in
    false≢true (sym h ∙ needs)

mapping_shown : (c : DeltaCommit) → maps_columns c.meta ≡ true → MapsColumns c
mapping_shown c h = by c.meta refl h
  where
    by : (o : Option MetaData) → c.meta ≡ o → maps_columns o ≡ true → MapsColumns c
    by None is e = absurd (false≢true e)
    by (Some m) is e =
        let found = any_to is_mapping m.configuration e in
        let both = and_parts (bytes_eq found.0.0 (codes "delta.columnMapping.mode")) (not (bytes_eq found.0.1 (codes "none"))) found.2 in
        let key : found.0.0 ≡ codes "delta.columnMapping.mode" = (bytes_eq-Decides found.0.0 (codes "delta.columnMapping.mode")).0 both.0 in
        (m, found.0.1, is, subst (λ k. Contains m.configuration (k, found.0.1)) key found.1, λ none. false≢true (sym (not-true _ both.1) ∙ (bytes_eq-Decides found.0.1 (codes "none")).1 none))

mapping_not_shown : (c : DeltaCommit) → maps_columns c.meta ≡ false → MapsColumns c → ⊥
mapping_not_shown c h shows =
    let m = shows.0 in
    let mode = shows.1 in
    let other : not (bytes_eq mode (codes "none")) ≡ true = ⊎_elim (λ t. absurd (shows.4 ((bytes_eq-Decides mode (codes "none")).0 t))) (λ f. ap not f) (cases_Bool (bytes_eq mode (codes "none"))) in
    let key : bytes_eq (codes "delta.columnMapping.mode") (codes "delta.columnMapping.mode") ≡ true = refl in
    let passes : is_mapping (codes "delta.columnMapping.mode", mode) ≡ true = λ i. key i && other i in
    false≢true (sym h ∙ ap maps_columns shows.2 ∙ any_from is_mapping m.configuration (codes "delta.columnMapping.mode", mode) shows.3 passes)

Early : DeltaCommit → Option Feature → Type 0
Early c None = NoneOf (Shows c None) early_features
Early c (Some f) = IsFirst (Shows c None) early_features f

first_is : (c : DeltaCommit) → Early c (first_feature c)
unfolding Early
first_is c = by (has_other_reader c.protocol) (needs_other_feature c.protocol) (maps_columns c.meta) refl refl refl
  where
    by : (a b d : Bool) → has_other_reader c.protocol ≡ a → needs_other_feature c.protocol ≡ b → maps_columns c.meta ≡ d
        → Early c (cond a (Some ReaderVersion) (cond b (Some ReaderFeature) (cond d (Some ColumnMapping) None)))
    by true b d ea eb ed = inl (refl, reader_shown c ea)
    by false true d ea eb ed = inr (reader_not_shown c ea, inl (refl, feature_shown c eb))
    by false false true ea eb ed = inr (reader_not_shown c ea, inr (feature_not_shown c eb, inl (refl, mapping_shown c ed)))
    by false false false ea eb ed = (reader_not_shown c ea, (feature_not_shown c eb, (mapping_not_shown c ed, tt)))

-- ---- the features of the protocol and the settings

early_refusal : (c : DeltaCommit) (base : Option Table) (f : Feature) → (IsOutsideGrammar c base → ⊥) → IsFirst (Shows c None) early_features f → IsChangeRefusal c base (errors.Unsupported f 0)
early_refusal c base f grammar shows = (refl, grammar, first_of shows)
  where
    first_of : IsFirst (Shows c None) early_features f → IsFirst (Shows c base) commit_features f
    first_of h = ⊎_elim (λ a. inl a) (λ more. inr (more.0, ⊎_elim (λ b. inl b) (λ more'. inr (more'.0, ⊎_elim (λ d. inl d) (λ more''. absurd more''.1) more'.1)) more.1)) h

-- ---- partition columns that aren't columns

-- a partition column that isn't a top-level column of the schema
HasStray : ColumnTrees → List (List ℕ) → Type 0
HasStray schema names = (name : List ℕ) × Contains names name × (column_type schema name ≡ None)

stray_here : (schema : ColumnTrees) (n : List ℕ) (ns : List (List ℕ)) (o : Option TypeTree) → column_type schema n ≡ o → (list_all (is_column schema) ns ≡ false → HasStray schema ns)
    → (is_some o && list_all (is_column schema) ns) ≡ false → HasStray schema (n ∷ ns)
unfolding HasStray
stray_here schema n ns None is rest e = (n, Contains-head n ns, is)
stray_here schema n ns (Some t) is rest e = let more = rest e in (more.0, Contains-tail n ns more.0 more.1, more.2)

some_stray : (schema : ColumnTrees) (names : List (List ℕ)) → list_all (is_column schema) names ≡ false → HasStray schema names
some_stray schema [] h = absurd (false≢true (sym h))
some_stray schema (n ∷ ns) h = stray_here schema n ns (column_type schema n) refl (some_stray schema ns) h

no_stray : (schema : ColumnTrees) (names : List (List ℕ)) → list_all (is_column schema) names ≡ true → HasStray schema names → ⊥
unfolding HasStray
no_stray schema [] h stray = Contains-none stray.0 stray.1
no_stray schema (n ∷ ns) h stray =
    let both = and_parts (is_column schema n) (list_all (is_column schema) ns) h in
    ⊎_elim
    (λ e. false≢true (ap is_some (sym (ap (column_type schema) e ∙ stray.2)) ∙ both.0))
    (λ later. no_stray schema ns both.1 (stray.0, later, stray.2))
    (Contains-cases n ns stray.0 stray.1)

-- ---- names in lists

all_false : (p : List ℕ → Bool) (ns : List (List ℕ)) → list_all p ns ≡ false → (n : List ℕ) × Contains ns n × (p n ≡ false)
all_false p [] h = absurd (false≢true (sym h))
all_false p (n ∷ ns) h = by (λ e. all_false p ns e) (p n) refl h
  where
    by : (list_all p ns ≡ false → (x : List ℕ) × Contains ns x × (p x ≡ false)) → (b : Bool) → p n ≡ b → (b && list_all p ns) ≡ false → (x : List ℕ) × Contains (n ∷ ns) x × (p x ≡ false)
    by later false is e = (n, Contains-head n ns, is)
    by later true is e = let rest = later e in (rest.0, Contains-tail n ns rest.0 rest.1, rest.2)

all_true : (p : List ℕ → Bool) (ns : List (List ℕ)) → list_all p ns ≡ true → (x : List ℕ) → Contains ns x → p x ≡ true
all_true p [] h x there = absurd (Contains-none x there)
all_true p (n ∷ ns) h x there =
    let both = and_parts (p n) (list_all p ns) h in
    ⊎_elim (λ e. subst (λ y. p y ≡ true) e both.0) (λ later. all_true p ns both.1 x later) (Contains-cases n ns x there)

named_in : (names : List (List ℕ)) (name : List ℕ) → is_named names name ≡ true → Contains names name
named_in names name h = Contains-from_any {eq = bytes_eq} (λ x y. (bytes_eq-Decides x y).0) name names h

not_named : (names : List (List ℕ)) (name : List ℕ) → is_named names name ≡ false → Contains names name → ⊥
not_named names name h there = false≢true (sym h ∙ list_any-from_Contains nat_list_eq_equiv name names there)

-- ---- other kinds

pub names_same : (xs ys : List (List ℕ)) → (pointwise bytes_eq xs ys ≡ true → xs ≡ ys) × (xs ≡ ys → pointwise bytes_eq xs ys ≡ true)
names_same xs ys = slice_eq-Decides bytes_eq-Decides xs ys (pointwise bytes_eq xs ys) refl

no_other : (old new : ColumnTrees) (names : List (List ℕ)) → has_other_kind old new names ≡ false → HasOtherKind old new names → ⊥
no_other old new names h other = false≢true (sym h ∙ (has_other_exactly old new names).1 other)

-- ---- the columns of a list of names

columns_read : (schema : ColumnTrees) (names : List (List ℕ)) (columns : PartColumns) → each (part_column schema) names ≡ Ok columns → ArePartColumns schema names columns
columns_read schema [] [] h = tt
columns_read schema [] (c ∷ cs) h = absurd cc
columns_read schema (n ∷ ns) columns h = by (columns_read schema ns) (column_kind schema n) (each (part_column schema) ns) columns refl refl h
  where
    by : ((cs : PartColumns) → each (part_column schema) ns ≡ Ok cs → ArePartColumns schema ns cs) → (k : Option PartKind) (r : Result PartColumns DeltaError) (columns : PartColumns) → column_kind schema n ≡ k → each (part_column schema) ns ≡ r
        → ((required (errors.Unsupported PartitionType 0) k >>= λ kind. Ok (n, kind)) >>= λ first. r >>= λ others. Ok (first ∷ others)) ≡ Ok columns → ArePartColumns schema (n ∷ ns) columns
    by rest None r columns kind is e = absurd cc
    by rest (Some k) (Err x) columns kind is e = absurd cc
    by rest (Some k) (Ok cs) columns kind is e = let same : (n, k) ∷ cs ≡ columns = cc in subst (ArePartColumns schema (n ∷ ns)) same (refl, kind, rest cs is)

columns_refused : (schema : ColumnTrees) (names : List (List ℕ)) (e : DeltaError) → each (part_column schema) names ≡ Err e → (e ≡ errors.Unsupported PartitionType 0) × (name : List ℕ) × Contains names name × (column_kind schema name ≡ None)
columns_refused schema [] e h = absurd cc
columns_refused schema (n ∷ ns) e h = by (columns_refused schema ns) (column_kind schema n) (each (part_column schema) ns) refl refl h
  where
    by : ((x : DeltaError) → each (part_column schema) ns ≡ Err x → (x ≡ errors.Unsupported PartitionType 0) × (name : List ℕ) × Contains ns name × (column_kind schema name ≡ None)) → (k : Option PartKind) (r : Result PartColumns DeltaError)
        → column_kind schema n ≡ k → each (part_column schema) ns ≡ r → ((required (errors.Unsupported PartitionType 0) k >>= λ kind. Ok (n, kind)) >>= λ first. r >>= λ others. Ok (first ∷ others)) ≡ Err e
        → (e ≡ errors.Unsupported PartitionType 0) × (name : List ℕ) × Contains (n ∷ ns) name × (column_kind schema name ≡ None)
    by rest None r kind is h = let same : errors.Unsupported PartitionType 0 ≡ e = cc in (sym same, n, Contains-head n ns, kind)
    by rest (Some k) (Ok cs) kind is h = absurd cc
    by rest (Some k) (Err x) kind is h = let same : x ≡ e = cc in let more = rest x is in (sym same ∙ more.0, more.1, Contains-tail n ns more.1 more.2, more.3)

-- where each has a kind, and none is named twice, no kind is lacking
pub has_kind : (schema : ColumnTrees) (names : List (List ℕ)) (columns : PartColumns) (name : List ℕ) → ArePartColumns schema names columns → Contains names name → column_kind schema name ≡ None → ⊥
has_kind schema [] columns name are there none = Contains-none name there
has_kind schema (n ∷ ns) [] name are there none = are
has_kind schema (n ∷ ns) (c ∷ cs) name are there none =
    ⊎_elim
    (λ e. let wrong : Some c.1 ≡ None = sym are.1 ∙ ap (column_kind schema) e ∙ none in absurd cc)
    (λ later. has_kind schema ns cs name are.2 later none)
    (Contains-cases n ns name there)

lacks_none : (schema : ColumnTrees) (names : List (List ℕ)) (columns : PartColumns) → IsDistinct bytes_eq names → ArePartColumns schema names columns → LacksKinds schema names → ⊥
lacks_none schema names columns distinct are lacks = ⊎_elim (λ twice. twice distinct) (λ none. has_kind schema names columns none.0 are none.1 none.2) lacks

-- ---- a commit with metadata

module _ (c : DeltaCommit) (m : MetaData) (base : Option Table) (is : c.meta ≡ Some m) (first : LacksFirstActions c base → ⊥) where
  same_meta : (n : MetaData) → c.meta ≡ Some n → n ≡ m
  same_meta n h = one_meta c n m h is

  -- ---- by the outline of its text

  module _ (o : Outline) (has : IsOutline m.schema o) where
    inside : ((name : List ℕ) → Contains m.partition name → (Contains o.names name → ⊥) → ⊥) → IsOutsideGrammar c base → ⊥
    inside all bad =
        ⊎_elim
        first
        (λ more. ⊎_elim
        (λ text. good_text m.schema o has (subst (λ (n : MetaData). IsDeltaRefused n.schema map_errors.BadSchema) (same_meta text.0 text.1) text.2))
        (λ stray.
        let same = same_meta stray.0 stray.2 in
        all stray.1 (subst (λ (n : MetaData). Contains n.partition stray.1) same stray.3) (has_field m.schema o has stray.1 (subst (λ (n : MetaData). LacksField n.schema stray.1) same stray.4)))
        more)
        bad

    no_type_in : o.has_other ≡ false → HasOtherType c → ⊥
    no_type_in none h = no_other_type m.schema o has none h.1 (subst (λ (n : MetaData). IsDeltaRefused n.schema (map_errors.SchemaType h.1)) (same_meta h.0 h.2) h.3)

    some_type : o.has_other ≡ true → HasOtherType c
    some_type other = let at = some_other_type m.schema o has other in (m, at.0, is, at.1)

  -- ---- what is read

  -- what is read is in the grammar
  inside_read : (schema : ColumnTrees) → Spells m schema → (HasStray schema m.partition → ⊥) → IsOutsideGrammar c base → ⊥
  unfolding HasStray
  inside_read schema spells none bad =
      ⊎_elim
      first
      (λ more. ⊎_elim
      (λ text. spelled_good m.schema schema spells (subst (λ (n : MetaData). IsDeltaRefused n.schema map_errors.BadSchema) (same_meta text.0 text.1) text.2))
      (λ stray.
      let same = same_meta stray.0 stray.2 in
      none (stray.1, subst (λ (n : MetaData). Contains n.partition stray.1) same stray.3, spelled_field m.schema schema spells stray.1 (subst (λ (n : MetaData). LacksField n.schema stray.1) same stray.4)))
      more)
      bad

  no_type : (schema : ColumnTrees) → Spells m schema → HasOtherType c → ⊥
  no_type schema spells h = spelled_type m.schema schema spells h.1 (subst (λ (n : MetaData). IsDeltaRefused n.schema (map_errors.SchemaType h.1)) (same_meta h.0 h.2) h.3)

  no_large : (schema : ColumnTrees) (which : LimitKind) → Spells m schema → HasLargeSchema c which → ⊥
  no_large schema which spells h = no_fault m schema (map_errors.Limit which) spells (subst (λ n. delta_schema_of n.schema ≡ Err (map_errors.Limit which)) (same_meta h.0 h.1) h.2)

  behind_is : (schema : ColumnTrees) → IsSchemaBehind c.meta base schema → Spells m schema
  behind_is schema h = subst (λ o. IsSchemaBehind o base schema) is h

  is_behind : (schema : ColumnTrees) → Spells m schema → IsSchemaBehind c.meta base schema
  is_behind schema h = subst (λ o. IsSchemaBehind o base schema) (sym is) h

  partition_is : partition_behind c.meta base ≡ m.partition
  partition_is = ap (λ o. partition_behind o base) is

  module _ (schema : ColumnTrees) (spells : Spells m schema) where
    no_partition : (LacksKinds schema m.partition → ⊥) → HasOtherPartition c base → ⊥
    no_partition none h = none (subst (λ s. LacksKinds s m.partition) (one_schema m h.0 schema (behind_is h.0 h.1) spells) (subst (LacksKinds h.0) partition_is h.2))

    some_partition : LacksKinds schema m.partition → HasOtherPartition c base
    some_partition lacks = (schema, is_behind schema spells, subst (LacksKinds schema) (sym partition_is) lacks)

    Changed : Type 0
    Changed = (t : Table) × (base ≡ Some t) × (((m.partition ≡ t.partition) → ⊥) ⊎ HasOtherKind t.schema schema m.partition)

    no_change : (Changed → ⊥) → ChangesPartition c base → ⊥
    unfolding Changed
    no_change none h =
        let same = same_meta h.1 h.4 in
        let one = one_schema m h.2 schema (subst (λ n. Spells n h.2) same h.5) spells in
        none (
          h.0,
          h.3,
          subst (λ s. ((m.partition ≡ h.0.partition) → ⊥) ⊎ HasOtherKind h.0.schema s m.partition) one
              (subst (λ (n : MetaData). ((n.partition ≡ h.0.partition) → ⊥) ⊎ HasOtherKind h.0.schema h.2 n.partition) same h.6),
        )

    some_change : Changed → ChangesPartition c base
    unfolding Changed
    some_change h = (h.0, m, schema, h.1, is, spells, h.2)

    changed_to : changes_base base m schema ≡ true → Changed
    unfolding Changed
    changed_to h = by base refl h
      where
        table : (t : Table) → base ≡ Some t → changes_partition t m schema ≡ true → (t : Table) × (base ≡ Some t) × (((m.partition ≡ t.partition) → ⊥) ⊎ HasOtherKind t.schema schema m.partition)
        table t is e =
            ⊎_elim
            (λ same. (t, is, inr ((has_other_exactly t.schema schema m.partition).0 (subst (λ b. (not b || has_other_kind t.schema schema m.partition) ≡ true) same e))))
            (λ other. (t, is, inl (λ names. false≢true (sym other ∙ (names_same m.partition t.partition).1 names))))
            (cases_Bool (pointwise bytes_eq m.partition t.partition))

        by : (o : Option Table) → base ≡ o → changes_base o m schema ≡ true → (t : Table) × (base ≡ Some t) × (((m.partition ≡ t.partition) → ⊥) ⊎ HasOtherKind t.schema schema m.partition)
        by None is e = absurd (false≢true e)
        by (Some t) is e = table t is e

    not_changed : changes_base base m schema ≡ false → Changed → ⊥
    unfolding Changed
    not_changed h changed =
        let t = changed.0 in
        let neither : changes_partition t m schema ≡ false = sym (ap (λ o. changes_base o m schema) changed.1) ∙ h in
        let parts = or_parts (not (pointwise bytes_eq m.partition t.partition)) (has_other_kind t.schema schema m.partition) neither in
        ⊎_elim
        (λ other. other ((names_same m.partition t.partition).0 (not-false _ parts.0)))
        (λ kind. no_other t.schema schema m.partition parts.1 kind)
        changed.2

    columns_behind : (columns : PartColumns) → (HasStray schema m.partition → ⊥) → NoneOf (Shows c None) early_features → IsDistinct bytes_eq m.partition → ArePartColumns schema m.partition columns → (Changed → ⊥) → AreColumnsBehind c base (Some schema) columns
    columns_behind columns none_stray early distinct are none_changed = record {
      grammar = inside_read schema spells none_stray;
      supported = (early.0, (early.1.0, (early.1.1.0, (no_type schema spells, (no_partition (lacks_none schema m.partition columns distinct are), (no_change none_changed, tt))))));
      stated = subst (λ o. StatesSchema o (Some schema)) (sym is) spells;
      behind = is_behind schema spells;
      kinds = subst (λ names. ArePartColumns schema names columns) (sym partition_is) are;
    }

    partition_refusal : (HasStray schema m.partition → ⊥) → NoneOf (Shows c None) early_features → LacksKinds schema m.partition → IsChangeRefusal c base (errors.Unsupported PartitionType 0)
    partition_refusal none_stray early lacks =
        (refl, inside_read schema spells none_stray, inr (early.0, inr (early.1.0, inr (early.1.1.0, inr (no_type schema spells, inl (refl, some_partition lacks))))))

    change_refusal : (columns : PartColumns) → (HasStray schema m.partition → ⊥) → NoneOf (Shows c None) early_features → IsDistinct bytes_eq m.partition → ArePartColumns schema m.partition columns → Changed → IsChangeRefusal c base (errors.Unsupported PartitionChange 0)
    change_refusal columns none_stray early distinct are changed = (
      refl,
      inside_read schema spells none_stray,
      inr (early.0, inr (early.1.0, inr (early.1.1.0, inr (no_type schema spells, inr (no_partition (lacks_none schema m.partition columns distinct are), inl (refl, some_change changed)))))),
    )

  -- ---- a schema that can't be read

  module _ (e : MapError) (fault : delta_schema_of m.schema ≡ Err e) (o : Outline) (has : IsOutline m.schema o) (all : (name : List ℕ) → Contains m.partition name → (Contains o.names name → ⊥) → ⊥) (early : NoneOf (Shows c None) early_features) where
    not_read : (schema : ColumnTrees) → IsSchemaBehind c.meta base schema → ⊥
    not_read schema h = no_fault m schema e (behind_is schema h) fault

    not_spelled : (n : MetaData) (schema : ColumnTrees) → c.meta ≡ Some n → Spells n schema → ⊥
    not_spelled n schema h spells = no_fault m schema e (subst (λ k. Spells k schema) (same_meta n h) spells) fault

    type_refusal : HasOtherType c → IsChangeRefusal c base (errors.Unsupported SchemaType 0)
    type_refusal type = (refl, inside o has all, inr (early.0, inr (early.1.0, inr (early.1.1.0, inl (refl, type)))))

    none_shown : (HasOtherType c → ⊥) → NoneOf (Shows c base) commit_features
    none_shown no_other =
        (early.0, (early.1.0, (early.1.1.0, (no_other, ((λ h. not_read h.0 h.1), ((λ h. not_spelled h.1 h.2 h.4 h.5), ((λ h. not_read h.0 h.2), tt)))))))

    limit_refusal : (which : LimitKind) → e ≡ map_errors.Limit which → IsDeltaRefused m.schema (map_errors.Limit which) → o.has_other ≡ false → IsChangeRefusal c base (errors.Limit which)
    limit_refusal which same cause none = (inside o has all, none_shown (no_type_in o has none), inl (m, is, fault ∙ ap Err same, cause))

-- ---- a commit with metadata, as a function of it

-- What a function gives of the columns holds of the commit.
pub Judged : DeltaCommit → Option Table → Result ColumnsBehind DeltaError → Type 0
Judged c base (Ok r) = AreColumnsBehind c base r.0 r.1
Judged c base (Err e) = IsChangeRefusal c base e

module _ (c : DeltaCommit) (m : MetaData) (base : Option Table) (is : c.meta ≡ Some m) (first : LacksFirstActions c base → ⊥) where
  ReadAs : Result (Result ColumnTrees DeltaError) DeltaError → Type 0
  ReadAs (Ok (Ok schema)) = Spells m schema × (HasStray schema m.partition → ⊥)
  ReadAs (Ok (Err e)) = (IsOutsideGrammar c base → ⊥) × (NoneOf (Shows c None) early_features → IsChangeRefusal c base e)
  ReadAs (Err e) = IsChangeRefusal c base e

  read_columns : (schema : ColumnTrees) → Spells m schema → (b : Bool) → list_all (is_column schema) m.partition ≡ b
      → ReadAs (cond b (Ok schema) (Err (errors.Malformed 0)) >>= λ s. Ok (Ok s))
  unfolding ReadAs HasStray
  read_columns schema spells true all = (spells, no_stray schema m.partition all)
  read_columns schema spells false all =
      let stray = some_stray schema m.partition all in
      let none = missing_name schema stray.0 stray.2 in
      (refl, inr (inr (m, stray.0, is, stray.1, lacks_field m.schema (outline_of schema) (spelled m.schema schema spells) stray.0 none)))

  -- ---- what gives no schema

  AllNamed : Outline → Type 0
  AllNamed o = (name : List ℕ) → Contains m.partition name → (Contains o.names name → ⊥) → ⊥

  module _ (e : MapError) (fault : delta_schema_of m.schema ≡ Err e) (told : DeltaError)
      (tell : (o : Outline) → IsOutline m.schema o → AllNamed o → o.has_other ≡ false → NoneOf (Shows c None) early_features → IsChangeRefusal c base told) where
    type_step : (o : Outline) → IsOutline m.schema o → AllNamed o → (b : Bool) → o.has_other ≡ b → ReadAs (Ok (Err (cond b (errors.Unsupported SchemaType 0) told)))
    unfolding ReadAs AllNamed
    type_step o has all true other = (inside c m base is first o has all, λ early. type_refusal c m base is first e fault o has all early (some_type c m base is first o has other))
    type_step o has all false none = (inside c m base is first o has all, tell o has all none)

    named_step : (o : Outline) → IsOutline m.schema o → (b : Bool) → list_all (is_named o.names) m.partition ≡ b → ReadAs (cond b (Ok (told_by told o)) (Err (errors.Malformed 0)) >>= λ x. Ok (Err x))
    unfolding ReadAs AllNamed
    named_step o has true all = type_step o has (λ name there missing. missing (named_in o.names name (all_true (is_named o.names) m.partition all name there))) o.has_other refl
    named_step o has false some =
        let at = all_false (is_named o.names) m.partition some in
        (refl, inr (inr (m, at.0, is, at.1, lacks_field m.schema o has at.0 (not_named o.names at.0 at.2))))

    outlined_step : (r : Result Outline OutlineFault) → outline_of_text m.schema ≡ r → ReadAs (outlined_by m told r >>= λ x. Ok (Err x))
    unfolding ReadAs
    outlined_step (Ok o) h = named_step o (text_found m.schema o h) (list_all (is_named o.names) m.partition) refl
    outlined_step (Err f) h = (refl, inr (inl (m, is, text_refused m.schema f h)))

  read_as : (r : Result ColumnTrees MapError) → delta_schema_of m.schema ≡ r → ReadAs (judged m r)
  unfolding ReadAs AllNamed
  read_as (Ok schema) h = read_columns schema h (list_all (is_column schema) m.partition) refl
  read_as (Err map_errors.Memory) h = tt
  read_as (Err map_errors.BadSchema) h = (refl, inr (inl (m, is, given_refused m.schema (Err map_errors.BadSchema) h)))
  read_as (Err (map_errors.SchemaType name)) h =
      let type : HasOtherType c = (m, name, is, given_refused m.schema (Err (map_errors.SchemaType name)) h) in
      outlined_step (map_errors.SchemaType name) h (errors.Unsupported SchemaType 0)
      (λ o has all none early. type_refusal c m base is first (map_errors.SchemaType name) h o has all early type)
      (outline_of_text m.schema) refl
  read_as (Err (map_errors.AvroName name)) h = tt
  read_as (Err (map_errors.Limit which)) h =
      outlined_step (map_errors.Limit which) h (errors.Limit which)
      (λ o has all none early. limit_refusal c m base is first (map_errors.Limit which) h o has all early which refl (given_refused m.schema (Err (map_errors.Limit which)) h) none)
      (outline_of_text m.schema) refl

  module _ (schema : ColumnTrees) (spells : Spells m schema) (none : HasStray schema m.partition → ⊥) (early : NoneOf (Shows c None) early_features) where
    last_step : (columns : PartColumns) → IsDistinct bytes_eq m.partition → ArePartColumns schema m.partition columns → (b : Bool) → changes_base base m schema ≡ b
        → Judged c base (cond b (Err (errors.Unsupported PartitionChange 0)) (Ok tt) >>= λ (u : Unit {0}). Ok (Some schema, columns))
    unfolding Judged
    last_step columns distinct are true changes = change_refusal c m base is first schema spells columns none early distinct are (changed_to c m base is first schema spells changes)
    last_step columns distinct are false changes = columns_behind c m base is first schema spells columns none early distinct are (not_changed c m base is first schema spells changes)

    kinds_step : IsDistinct bytes_eq m.partition → (r : Result PartColumns DeltaError) → each (part_column schema) m.partition ≡ r
        → Judged c base (r >>= λ columns. unchanged base m schema >>= λ (u : Unit {0}). Ok (Some schema, columns))
    unfolding Judged
    kinds_step distinct (Ok columns) h = last_step columns distinct (columns_read schema m.partition columns h) (changes_base base m schema) refl
    kinds_step distinct (Err e) h =
        let x = columns_refused schema m.partition e h in
        subst (IsChangeRefusal c base) (sym x.0) (partition_refusal c m base is first schema spells none early (inr (x.1, x.2, x.3)))

    columns_step : (b : Bool) → are_distinct m.partition ≡ b
        → Judged c base (cond b (each (part_column schema) m.partition) (Err (errors.Unsupported PartitionType 0)) >>= λ columns. unchanged base m schema >>= λ (u : Unit {0}). Ok (Some schema, columns))
    unfolding Judged
    columns_step true twice = kinds_step ((distinct_exactly m.partition).0 twice) (each (part_column schema) m.partition) refl
    columns_step false twice = partition_refusal c m base is first schema spells none early (inl (λ d. false≢true (sym twice ∙ (distinct_exactly m.partition).1 d)))

  read_step : (read : Result ColumnTrees DeltaError) → ReadAs (Ok read) → (f : Option Feature) → Early c f
      → Judged c base (unshown_by f >>= λ (u : Unit {0}). read >>= λ schema. judged_columns schema m.partition >>= λ columns. unchanged base m schema >>= λ (u : Unit {0}). Ok (Some schema, columns))
  unfolding Judged ReadAs Early
  read_step (Ok schema) h None early = columns_step schema h.0 h.1 early (are_distinct m.partition) refl
  read_step (Err e) h None early = h.1 early
  read_step (Ok schema) h (Some f) shows = early_refusal c base f (inside_read c m base is first schema h.0 h.1) shows
  read_step (Err e) h (Some f) shows = early_refusal c base f h.0 shows

  stated_step : (r : Result (Result ColumnTrees DeltaError) DeltaError) → ReadAs r
      → Judged c base (r >>= λ read. unshown c >>= λ (u : Unit {0}). read >>= λ schema. judged_columns schema m.partition >>= λ columns. unchanged base m schema >>= λ (u : Unit {0}). Ok (Some schema, columns))
  unfolding Judged ReadAs
  stated_step (Ok read) h = read_step read h (first_feature c) (first_is c)
  stated_step (Err e) h = h

  stated_is : Judged c base (stated_columns c m base)
  unfolding stated_columns
  stated_is = stated_step (judged_schema m) (read_as (delta_schema_of m.schema) refl)

-- ---- a commit without metadata

module _ (c : DeltaCommit) (t : Table) (none : c.meta ≡ None) where
  kept_grammar : IsOutsideGrammar c (Some t) → ⊥
  kept_grammar bad = ⊎_elim (λ lacks. let e = lacks.0 in absurd cc) (λ more. ⊎_elim (λ text. some_meta c text.0 none text.1) (λ stray. some_meta c stray.0 none stray.2) more) bad

  kept_type : HasOtherType c → ⊥
  kept_type h = some_meta c h.0 none h.2

  kept_names : partition_behind c.meta (Some t) ≡ t.partition
  kept_names = ap (λ o. partition_behind o (Some t)) none

  kept_schema : (schema : ColumnTrees) → IsSchemaBehind c.meta (Some t) schema → schema ≡ t.schema
  kept_schema schema h = subst (λ o. IsSchemaBehind o (Some t) schema) none h

  kept_partition : (LacksKinds t.schema t.partition → ⊥) → HasOtherPartition c (Some t) → ⊥
  kept_partition has h = has (subst (λ s. LacksKinds s t.partition) (kept_schema h.0 h.1) (subst (LacksKinds h.0) kept_names h.2))

  kept_lacks : LacksKinds t.schema t.partition → HasOtherPartition c (Some t)
  kept_lacks h = (t.schema, subst (λ o. IsSchemaBehind o (Some t) t.schema) (sym none) refl, subst (LacksKinds t.schema) (sym kept_names) h)

  kept_behind : (columns : PartColumns) → NoneOf (Shows c None) early_features → IsDistinct bytes_eq t.partition → ArePartColumns t.schema t.partition columns → AreColumnsBehind c (Some t) None columns
  kept_behind columns early distinct are = record {
    grammar = kept_grammar;
    supported = (early.0, (early.1.0, (early.1.1.0, (kept_type, (kept_partition (lacks_none t.schema t.partition columns distinct are), ((λ h. some_meta c h.1 none h.4), tt))))));
    stated = subst (λ o. StatesSchema o None) (sym none) refl;
    behind = subst (λ o. IsSchemaBehind o (Some t) t.schema) (sym none) refl;
    kinds = subst (λ names. ArePartColumns t.schema names columns) (sym kept_names) are;
  }

  kept_refusal : NoneOf (Shows c None) early_features → LacksKinds t.schema t.partition → IsChangeRefusal c (Some t) (errors.Unsupported PartitionType 0)
  kept_refusal early lacks = (refl, kept_grammar, inr (early.0, inr (early.1.0, inr (early.1.1.0, inr (kept_type, inl (refl, kept_lacks lacks))))))

  kept_kinds : NoneOf (Shows c None) early_features → IsDistinct bytes_eq t.partition → (r : Result PartColumns DeltaError) → each (part_column t.schema) t.partition ≡ r → Judged c (Some t) (r >>= λ columns. Ok (None, columns))
  unfolding Judged
  kept_kinds early distinct (Ok columns) h = kept_behind columns early distinct (columns_read t.schema t.partition columns h)
  kept_kinds early distinct (Err e) h = let x = columns_refused t.schema t.partition e h in subst (IsChangeRefusal c (Some t)) (sym x.0) (kept_refusal early (inr (x.1, x.2, x.3)))

  kept_step : NoneOf (Shows c None) early_features → (b : Bool) → are_distinct t.partition ≡ b → Judged c (Some t) (cond b (each (part_column t.schema) t.partition) (Err (errors.Unsupported PartitionType 0)) >>= λ columns. Ok (None, columns))
  unfolding Judged
  kept_step early true twice = kept_kinds early ((distinct_exactly t.partition).0 twice) (each (part_column t.schema) t.partition) refl
  kept_step early false twice = kept_refusal early (inl (λ d. false≢true (sym twice ∙ (distinct_exactly t.partition).1 d)))

  kept_first : (f : Option Feature) → Early c f → Judged c (Some t) (unshown_by f >>= λ (u : Unit {0}). judged_columns t.schema t.partition >>= λ columns. Ok (None, columns))
  unfolding Judged Early
  kept_first None early = kept_step early (are_distinct t.partition) refl
  kept_first (Some f) shows = early_refusal c (Some t) f kept_grammar shows

  kept_is : Judged c (Some t) (kept_columns c t)
  unfolding kept_columns
  kept_is = kept_first (first_feature c) (first_is c)

-- ---- any commit

lacks_first : (c : DeltaCommit) (base : Option Table) → lacks_first_actions c base ≡ true → LacksFirstActions c base
lacks_first c None h = (refl, by c.protocol c.meta refl refl h)
  where
    by : (p : Option Protocol) (m : Option MetaData) → c.protocol ≡ p → c.meta ≡ m → (is_none p || is_none m) ≡ true → (c.protocol ≡ None) ⊎ (c.meta ≡ None)
    by None m ep em e = inl ep
    by (Some p) None ep em e = inr em
    by (Some p) (Some m) ep em e = absurd (false≢true e)
lacks_first c (Some t) h = absurd (false≢true h)

has_first : (c : DeltaCommit) (base : Option Table) → lacks_first_actions c base ≡ false → LacksFirstActions c base → ⊥
has_first c None h lacks =
    let parts = or_parts (is_none c.protocol) (is_none c.meta) h in
    ⊎_elim (λ p. false≢true (sym parts.0 ∙ ap is_none p)) (λ m. false≢true (sym parts.1 ∙ ap is_none m)) lacks.1
has_first c (Some t) h lacks = let e = lacks.0 in absurd cc

by_meta : (c : DeltaCommit) (base : Option Table) → (LacksFirstActions c base → ⊥) → (o : Option MetaData) → c.meta ≡ o → Judged c base (columns_by c o base)
by_meta c base first (Some m) is = stated_is c m base is first
by_meta c (Some t) first None is = kept_is c t is
by_meta c None first None is = absurd (first (refl, inr is))

columns_is : (c : DeltaCommit) (base : Option Table) (b : Bool) → lacks_first_actions c base ≡ b → Judged c base (cond b (Err (errors.Malformed 0)) (columns_by c c.meta base))
unfolding Judged
columns_is c base true h = (refl, inl (lacks_first c base h))
columns_is c base false h = by_meta c base (has_first c base h) c.meta refl

-- what is given of the columns holds of the commit
pub columns_hold : (c : DeltaCommit) (base : Option Table) → Judged c base (columns_of c base)
columns_hold c base = columns_is c base (lacks_first_actions c base) refl

judged_at : (c : DeltaCommit) (base : Option Table) (r s : Result ColumnsBehind DeltaError) → r ≡ s → Judged c base r → Judged c base s
judged_at c base r s same h = subst (Judged c base) same h

pub columns_given : (c : DeltaCommit) (base : Option Table) (stated : Option ColumnTrees) (columns : PartColumns) → columns_of c base ≡ Ok (stated, columns) → AreColumnsBehind c base stated columns
unfolding Judged
columns_given c base stated columns is = judged_at c base (columns_of c base) (Ok (stated, columns)) is (columns_hold c base)

pub columns_told : (c : DeltaCommit) (base : Option Table) (e : DeltaError) → FailsUnlessMemory (is_memory e) e (columns_of c base) → IsChangeRefusal c base e
unfolding Judged
columns_told c base errors.Memory h = tt
columns_told c base (errors.Malformed line) h = judged_at c base (columns_of c base) (Err (errors.Malformed line)) h (columns_hold c base)
columns_told c base (errors.DoublePath line) h = judged_at c base (columns_of c base) (Err (errors.DoublePath line)) h (columns_hold c base)
columns_told c base (errors.Unsupported f line) h = judged_at c base (columns_of c base) (Err (errors.Unsupported f line)) h (columns_hold c base)
columns_told c base (errors.Limit which) h = judged_at c base (columns_of c base) (Err (errors.Limit which)) h (columns_hold c base)

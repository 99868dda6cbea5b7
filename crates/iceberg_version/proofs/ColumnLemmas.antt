-- The partition columns of manifests, one by one.
use Rattle.std.proofs.Common.{◌≡◌, ◌+◌, ◌<◌, ◌≤◌, ℕ, Contains, List, [], ◌∷◌, ◌++◌, Option, Some, None, IsSome, drop, get_or, map, length, sym, ap, subst, ◌∙◌}
use Rattle.std.proofs.lemmas.List.{append-nil, append_assoc, drop_all, drop_more, get_or-map}
use Rattle.std.proofs.lemmas.Option.{get_or_from_slice_get, slice_get-get_or}
use Rattle.partition_map.specs.Columns.{column_kind}
use Rattle.partition_map.specs.declared.kind.PartKind.{PartKind}
use Rattle.table_history.specs.TypeTree.{ColumnTrees}
use Rattle.iceberg_manifest.specs.declared.partition.PartColumn.{PartColumn}
use Rattle.iceberg_metadata.specs.declared.metadata.SpecField.{SpecField}
use Rattle.iceberg_version.specs.Writing.{AreColumns}

-- Whatever the columns of the rest are, they come behind these.
abbrev pub AreColumnsUpTo : ColumnTrees → List (List ℕ) → List SpecField → ℕ → List PartColumn → Type 0
AreColumnsUpTo schema names fields i columns = (rest : List PartColumn) → AreColumns schema (drop i names) (drop i fields) rest → AreColumns schema names fields (columns ++ rest)

pub no_column : (schema : ColumnTrees) (names : List (List ℕ)) (fields : List SpecField) (columns : List PartColumn) → columns ≡ [] → AreColumnsUpTo schema names fields 0 columns
no_column schema names fields columns none = λ rest are. subst (λ (cs : List PartColumn). AreColumns schema names fields (cs ++ rest)) (sym none) are

-- the kind at this place
kind_at : (schema : ColumnTrees) (names : List (List ℕ)) (kinds : List (Option PartKind)) (i : ℕ) (k : Option PartKind) → kinds ≡ map (column_kind schema) names → i < length names → k ≡ get_or kinds i None → k ≡ column_kind schema (get_or names i [])
kind_at schema names kinds i k are within at = at ∙ ap (λ (ks : List (Option PartKind)). get_or ks i None) are ∙ get_or-map (column_kind schema) names i [] None within

pub has_kind : (schema : ColumnTrees) (names : List (List ℕ)) (kinds : List (Option PartKind)) (i : ℕ) (k : Option PartKind) → ((name : List ℕ) → Contains names name → IsSome (column_kind schema name)) → kinds ≡ map (column_kind schema) names → i < length names → k ≡ get_or kinds i None → IsSome k
has_kind schema names kinds i k all are within at =
    let name = get_or names i [] in
    let there : Contains names name = (i, within, get_or_from_slice_get names i name name (slice_get-get_or names i [] within)) in
    subst IsSome (sym (kind_at schema names kinds i k are within at)) (all name there)

pub one_column : (schema : ColumnTrees) (names : List (List ℕ)) (fields : List SpecField) (kinds : List (Option PartKind)) (i : ℕ) (k : Option PartKind) (f : SpecField) (c : PartColumn) (columns after : List PartColumn) → kinds ≡ map (column_kind schema) names → i < length names → i < length fields → k ≡ get_or kinds i None → f ≡ get_or fields i f → c.field_id ≡ f.field_id → Some c.kind ≡ k → after ≡ columns ++ c ∷ [] → AreColumnsUpTo schema names fields i columns → AreColumnsUpTo schema names fields (i + 1) after
one_column schema names fields kinds i k f c columns after are in_names in_fields kind_is field_is id kind pushes before = λ rest left.
    let name = get_or names i [] in
    let ns : drop i names ≡ name ∷ drop (i + 1) names = drop_more names i [] in_names in
    let fs : drop i fields ≡ f ∷ drop (i + 1) fields = drop_more fields i f in_fields ∙ ap (λ (x : SpecField). x ∷ drop (i + 1) fields) (sym field_is) in
    let here : AreColumns schema (name ∷ drop (i + 1) names) (f ∷ drop (i + 1) fields) (c ∷ rest) = (id, sym (kind ∙ kind_at schema names kinds i k are in_names kind_is), left) in
    let all = before (c ∷ rest) (subst (λ (xs : List (List ℕ)). AreColumns schema xs (drop i fields) (c ∷ rest)) (sym ns) (subst (λ (xs : List SpecField). AreColumns schema (name ∷ drop (i + 1) names) xs (c ∷ rest)) (sym fs) here)) in
    let joined : after ++ rest ≡ columns ++ (c ∷ rest) = ap (λ (cs : List PartColumn). cs ++ rest) pushes ∙ append_assoc columns (c ∷ []) rest in
    subst (λ (cs : List PartColumn). AreColumns schema names fields cs) (sym joined) all

pub all_columns : (schema : ColumnTrees) (names : List (List ℕ)) (fields : List SpecField) (i : ℕ) (columns : List PartColumn) → length names ≤ i → length fields ≤ i → AreColumnsUpTo schema names fields i columns → AreColumns schema names fields columns
all_columns schema names fields i columns past_names past_fields before =
    let empty : AreColumns schema (drop i names) (drop i fields) [] = subst (λ (xs : List (List ℕ)). AreColumns schema xs (drop i fields) []) (sym (drop_all i names past_names)) (subst (λ (xs : List SpecField). AreColumns schema [] xs []) (sym (drop_all i fields past_fields)) tt) in
    subst (λ (cs : List PartColumn). AreColumns schema names fields cs) (append-nil columns) (before [] empty)

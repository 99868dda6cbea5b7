-- A schema is read exactly where the text is an Avro schema text of it.
use Rattle.std.proofs.Common.{◌≡◌, ◌⊎◌, inl, inr, ℕ, List, [], ◌∷◌, Bool, true, false, Option, Some, None, Result, Ok, Err, refl, sym, ap, subst, ◌∙◌, cond}
use Rattle.std.specs.Prelude.{IfOk, IfErr, nat_lt}
use Rattle.std.proofs.lemmas.Bool.{ltb-false, le-ltb}
use Rattle.avro_schema.specs.Tree as avro
use Rattle.avro_schema.specs.Tree.{SchemaTree, schema_tree, FieldTrees, no_fields, field}
use Rattle.avro_schema.specs.Grammar.{IsSchemaText}
use Rattle.avro_schema.specs.Reading as reading
use Rattle.avro_schema.specs.declared.error.SchemaError.{SchemaError}
use Rattle.avro_schema.proofs.Texts.{text_found, text_read}
use Rattle.lake_basics.specs.Outcome.{◌>>=◌, with_fault, GivesUnlessMemory, FailsUnlessMemory}
use Rattle.lake_basics.specs.declared.limits.TheConstants.{MAX_COLUMNS}
use Rattle.table_history.specs.TypeTree.{TypeTree, ColumnTree, ColumnTrees, columns_of, struct_of}
use Rattle.table_history.specs.declared.limit.LimitKind.{LimitKind}
use Rattle.table_history.specs.declared.limit.LimitKind.TheVariants.{Columns, Depth}
use Rattle.schema_avro.specs.declared.fault.TypeFault.{TypeFault}
use Rattle.schema_map.specs.declared.fault.MapError.{MapError}
use Rattle.schema_map.specs.declared.fault.MapError.TheVariants as map_errors
use Rattle.schema_map.specs.Errors.{is_memory}
use Rattle.table_history.specs.Sound.{IsSound}
use Rattle.table_history.specs.SchemaSize.{column_count, column_levels, max_type_levels, IsWithinLimits}
use Rattle.schema_map.specs.Limits.{schema_limit}
use Rattle.schema_avro.specs.Avro.{Part, avro_column, avro_front, avro_part, avro_columns, avro_top_column, avro_top_columns, schema_with, schema_of_avro, avro_schema_of, unless_limit, limited_avro_schema_of}
use Rattle.schema_avro.specs.AvroSpelling.{shape_of, IsAvroType, IsAvroText, HasRow, HasNoRow, IsFirstWithoutRow, IsUnread, IsAvroRefused}
use Rattle.schema_map.proofs.Bound.{bound}
use Rattle.schema_map.proofs.Columns.{column_list, columns_of-column_list}
use Rattle.schema_map.proofs.Reading.{gives_same}
use Rattle.schema_avro.proofs.AvroFound.{part_found, columns_found}
use Rattle.schema_avro.proofs.AvroOnly.{part_only, type_only, columns_only}
use Rattle.schema_avro.proofs.AvroOwn.{text_sound}

abbrev listed : List ColumnTree → Result (List ColumnTree) MapError
listed cs = Ok cs

abbrev plain : List ColumnTree → Result (List ColumnTree) TypeFault
plain cs = Ok cs

abbrev whole : ColumnTrees → Result ColumnTrees MapError
whole cs = Ok cs

abbrev bad : MapError
bad = map_errors.BadSchema

-- ---- columns

top_column_found : (name : List ℕ) (part : Part) (c : ColumnTree) → avro_top_column name part ≡ Ok c → avro_column name part ≡ Ok c
top_column_found name (Ok p) c e = cc
top_column_found name (Err x) c e = absurd cc

top_columns_found : (fields : FieldTrees) (cs : List ColumnTree) → avro_top_columns fields ≡ Ok cs → avro_columns fields ≡ Ok cs
top_columns_found no_fields cs e = let same : [] ≡ cs = cc in ap plain same
top_columns_found (field name part id fields) cs e =
    let first = bound (avro_top_column name (avro_part part)) _ cs e in
    let others = bound (avro_top_columns fields) _ cs first.behind in
    let same : first.value ∷ others.value ≡ cs = let h : listed (first.value ∷ others.value) ≡ Ok cs = others.behind in cc in
    rw (top_column_found name (avro_part part) first.value first.first, top_columns_found fields others.value others.first) (ap plain same)

top_columns_only : (fields : FieldTrees) (cs : List ColumnTree) → avro_columns fields ≡ Ok cs → avro_top_columns fields ≡ Ok cs
top_columns_only no_fields cs e = let same : [] ≡ cs = cc in ap listed same
top_columns_only (field name part id fields) cs e =
    let first = bound (avro_column name (avro_part part)) _ cs e in
    let others = bound (avro_columns fields) _ cs first.behind in
    let same : first.value ∷ others.value ≡ cs = let h : plain (first.value ∷ others.value) ≡ Ok cs = others.behind in cc in
    rw (first.first, top_columns_only fields others.value others.first) (ap listed same)

no_row : (part : SchemaTree) (x : TypeFault) → avro_part part ≡ Err x → HasNoRow part
no_row part x e kind t nullable at is = let read : avro_part part ≡ Ok (t, nullable) = part_only part kind t nullable at (type_only t kind is) in absurd cc

row : (part : SchemaTree) (p : TypeTree × Bool) → avro_part part ≡ Ok p → HasRow part
row part p e = let found = part_found part p.0 p.1 e in (found.kind, p.0, p.1, found.part, found.is)

-- a column's name, where its type is the first that has no row
record Fault (fields : FieldTrees) (e : MapError) : Type 0 where
  name : List ℕ
  is : e ≡ map_errors.SchemaType name
  first : IsFirstWithoutRow name fields

behind_row : (name : List ℕ) (part : SchemaTree) (id : _) (fields : FieldTrees) (e : MapError) (r : Result (List ColumnTree) MapError) (p : TypeTree × Bool) → avro_part part ≡ Ok p → ((x : MapError) → r ≡ Err x → Fault fields x) → avro_front (avro_top_column name (Ok p)) r ≡ Err e → Fault (field name part id fields) e
behind_row name part id fields e (Ok cs) p is behind h = absurd cc
behind_row name part id fields e (Err x) p is behind h =
    let same : x ≡ e = cc in
    let inner = behind x refl in
    subst (λ y. Fault (field name part id fields) y) same (record { name = inner.name; is = inner.is; first = inr (row part p is, inner.first) })

front_fault : (name : List ℕ) (part : SchemaTree) (id : _) (fields : FieldTrees) (e : MapError) (r : Part) → avro_part part ≡ r → ((x : MapError) → avro_top_columns fields ≡ Err x → Fault fields x) → avro_front (avro_top_column name r) (avro_top_columns fields) ≡ Err e → Fault (field name part id fields) e
front_fault name part id fields e (Ok p) read behind h = behind_row name part id fields e (avro_top_columns fields) p read behind h
front_fault name part id fields e (Err x) read behind h = let same : map_errors.SchemaType name ≡ e = cc in record { name = name; is = sym same; first = inl (refl, no_row part x read) }

top_columns_fault : (fields : FieldTrees) (e : MapError) → avro_top_columns fields ≡ Err e → Fault fields e
top_columns_fault no_fields e is = absurd cc
top_columns_fault (field name part id fields) e is = front_fault name part id fields e (avro_part part) refl (top_columns_fault fields) is

-- ---- schemas

schema_found : (t : SchemaTree) (cs : ColumnTrees) → schema_of_avro t ≡ Ok cs → IsAvroType (struct_of cs) t
schema_found (schema_tree avro.null l p s) cs e = absurd cc
schema_found (schema_tree avro.boolean l p s) cs e = absurd cc
schema_found (schema_tree avro.int l p s) cs e = absurd cc
schema_found (schema_tree avro.long l p s) cs e = absurd cc
schema_found (schema_tree avro.float l p s) cs e = absurd cc
schema_found (schema_tree avro.double l p s) cs e = absurd cc
schema_found (schema_tree avro.bytes l p s) cs e = absurd cc
schema_found (schema_tree avro.text l p s) cs e = absurd cc
schema_found (schema_tree (avro.fixed_of m z) l p s) cs e = absurd cc
schema_found (schema_tree (avro.enum_of m z) l p s) cs e = absurd cc
schema_found (schema_tree (avro.array_of m z) l p s) cs e = absurd cc
schema_found (schema_tree (avro.map_of m z w) l p s) cs e = absurd cc
schema_found (schema_tree (avro.union_of m) l p s) cs e = absurd cc
schema_found (schema_tree (avro.record_of name fields) l p s) cs e =
    let columns = bound (avro_top_columns fields) _ cs e in
    let same : columns_of columns.value ≡ cs = let h : whole (columns_of columns.value) ≡ Ok cs = columns.behind in cc in
    let read = top_columns_found fields columns.value columns.first in
    subst (λ (xs : ColumnTrees). IsAvroType (struct_of xs) (schema_tree (avro.record_of name fields) l p s)) same (name, fields, refl, columns_found fields columns.value read)

schema_only : (t : SchemaTree) (cs : ColumnTrees) → IsAvroType (struct_of cs) t → schema_of_avro t ≡ Ok cs
schema_only (schema_tree shape l p s) cs (name, fields, shaped, are) =
    rw (shaped, top_columns_only fields (column_list cs) (columns_only cs fields are)) (ap whole (columns_of-column_list cs))

-- why a schema isn't read
abbrev IsRefusal : SchemaTree → MapError → Type 0
IsRefusal t e = ((e ≡ bad) × ((name : List ℕ) (fields : FieldTrees) → shape_of t ≡ avro.record_of name fields → ⊥))
    ⊎ ((column : List ℕ) × (name : List ℕ) × (fields : FieldTrees) × (e ≡ map_errors.SchemaType column) × (shape_of t ≡ avro.record_of name fields) × IsFirstWithoutRow column fields)

columns_fault : (name : List ℕ) (fields : FieldTrees) (l : _) (p s : Option ℕ) (r : Result (List ColumnTree) MapError) (e : MapError) → ((x : MapError) → r ≡ Err x → Fault fields x) → schema_with r ≡ Err e → IsRefusal (schema_tree (avro.record_of name fields) l p s) e
columns_fault name fields l p s (Ok cs) e behind is = absurd cc
columns_fault name fields l p s (Err x) e behind is =
    let same : x ≡ e = cc in
    let fault = behind x refl in
    inr (fault.name, name, fields, sym same ∙ fault.is, refl, fault.first)

schema_fault : (t : SchemaTree) (e : MapError) → schema_of_avro t ≡ Err e → IsRefusal t e
schema_fault (schema_tree avro.null l p s) e is = inl (let same : bad ≡ e = cc in sym same, λ name fields no. absurd cc)
schema_fault (schema_tree avro.boolean l p s) e is = inl (let same : bad ≡ e = cc in sym same, λ name fields no. absurd cc)
schema_fault (schema_tree avro.int l p s) e is = inl (let same : bad ≡ e = cc in sym same, λ name fields no. absurd cc)
schema_fault (schema_tree avro.long l p s) e is = inl (let same : bad ≡ e = cc in sym same, λ name fields no. absurd cc)
schema_fault (schema_tree avro.float l p s) e is = inl (let same : bad ≡ e = cc in sym same, λ name fields no. absurd cc)
schema_fault (schema_tree avro.double l p s) e is = inl (let same : bad ≡ e = cc in sym same, λ name fields no. absurd cc)
schema_fault (schema_tree avro.bytes l p s) e is = inl (let same : bad ≡ e = cc in sym same, λ name fields no. absurd cc)
schema_fault (schema_tree avro.text l p s) e is = inl (let same : bad ≡ e = cc in sym same, λ name fields no. absurd cc)
schema_fault (schema_tree (avro.fixed_of m z) l p s) e is = inl (let same : bad ≡ e = cc in sym same, λ name fields no. absurd cc)
schema_fault (schema_tree (avro.enum_of m z) l p s) e is = inl (let same : bad ≡ e = cc in sym same, λ name fields no. absurd cc)
schema_fault (schema_tree (avro.array_of m z) l p s) e is = inl (let same : bad ≡ e = cc in sym same, λ name fields no. absurd cc)
schema_fault (schema_tree (avro.map_of m z w) l p s) e is = inl (let same : bad ≡ e = cc in sym same, λ name fields no. absurd cc)
schema_fault (schema_tree (avro.union_of m) l p s) e is = inl (let same : bad ≡ e = cc in sym same, λ name fields no. absurd cc)
schema_fault (schema_tree (avro.record_of name fields) l p s) e is = columns_fault name fields l p s (avro_top_columns fields) e (top_columns_fault fields) is

-- ---- texts

abbrev read_of : List ℕ → Result SchemaTree MapError
read_of text = with_fault (λ _. bad) (reading.schema_of text)

was_read : (r : Result SchemaTree SchemaError) (t : SchemaTree) → with_fault (λ _. bad) r ≡ Ok t → r ≡ Ok t
was_read (Ok u) t e = cc
was_read (Err x) t e = absurd cc

pub avro_text_found : (text : List ℕ) (cs : ColumnTrees) → avro_schema_of text ≡ Ok cs → IsAvroText cs text
avro_text_found text cs e =
    let t = bound (read_of text) schema_of_avro cs e in
    (t.value, text_found text t.value (was_read (reading.schema_of text) t.value t.first), schema_found t.value cs t.behind)

pub avro_text_only : (text : List ℕ) (cs : ColumnTrees) → IsAvroText cs text → avro_schema_of text ≡ Ok cs
avro_text_only text cs (t, spelled, is) = rw (text_read text t spelled) (schema_only t cs is)

refusal_told : (text : List ℕ) (t : SchemaTree) (e : MapError) → reading.schema_of text ≡ Ok t → IsRefusal t e → IsUnread text e
refusal_told text t e read (inl (is, no_record)) = subst (λ x. IsUnread text x) (sym is) (λ name fields u spelled shaped. no_record name fields (ap shape_of (one_tree text t u read spelled) ∙ shaped))
  where
    one_tree : (text : List ℕ) (t u : SchemaTree) → reading.schema_of text ≡ Ok t → IsSchemaText text u → t ≡ u
    one_tree text t u read spelled = let other = text_read text u spelled in cc
refusal_told text t e read (inr (column, name, fields, is, shaped, first)) = subst (λ x. IsUnread text x) (sym is) (name, fields, t, text_found text t read, shaped, first)

no_text : (text : List ℕ) (x : SchemaError) → reading.schema_of text ≡ Err x → IsUnread text bad
no_text text x e = λ name fields t spelled shaped. let read = text_read text t spelled in absurd cc

pub avro_text_fault : (text : List ℕ) (e : MapError) → avro_schema_of text ≡ Err e → IsUnread text e
avro_text_fault text e is = by _ refl is
  where
    by : (r : Result SchemaTree SchemaError) → reading.schema_of text ≡ r → (with_fault (λ _. bad) r >>= schema_of_avro) ≡ Err e → IsUnread text e
    by (Ok t) read h = refusal_told text t e read (schema_fault t e h)
    by (Err x) read h = let same : bad ≡ e = cc in subst (λ y. IsUnread text y) same (no_text text x read)

-- ---- what is given

refused_by : (text : List ℕ) (e : MapError) (b : Bool) → is_memory e ≡ b → FailsUnlessMemory b e (avro_schema_of text) → IsUnread text e
refused_by text map_errors.Memory b is given = tt
refused_by text map_errors.BadSchema false is given = avro_text_fault text map_errors.BadSchema given
refused_by text (map_errors.SchemaType n) false is given = avro_text_fault text (map_errors.SchemaType n) given
refused_by text (map_errors.AvroName n) false is given = avro_text_fault text (map_errors.AvroName n) given
refused_by text (map_errors.Limit w) false is given = avro_text_fault text (map_errors.Limit w) given
refused_by text map_errors.BadSchema true is given = absurd cc
refused_by text (map_errors.SchemaType n) true is given = absurd cc
refused_by text (map_errors.AvroName n) true is given = absurd cc
refused_by text (map_errors.Limit w) true is given = absurd cc

pub read_found : (text : List ℕ) (r : Result ColumnTrees MapError) → GivesUnlessMemory is_memory (λ s. s) r (avro_schema_of text) → IfOk r (λ s. IsAvroText s text × IsSound s)
read_found text (Ok s) given = let is = avro_text_found text s given in (is, text_sound s text is)
read_found text (Err e) given = tt

pub read_only : (text : List ℕ) (r : Result ColumnTrees MapError) → GivesUnlessMemory is_memory (λ s. s) r (avro_schema_of text) → (cs : ColumnTrees) → IsAvroText cs text → GivesUnlessMemory is_memory (λ s. s) r (Ok cs)
read_only text r given cs is = gives_same (λ s. s) r (avro_schema_of text) (Ok cs) given (avro_text_only text cs is)

pub read_refused : (text : List ℕ) (r : Result ColumnTrees MapError) → GivesUnlessMemory is_memory (λ s. s) r (avro_schema_of text) → IfErr r (λ e. IsUnread text e)
read_refused text (Ok s) given = tt
read_refused text (Err e) given = refused_by text e (is_memory e) refl given

-- ---- within the limits

limit_by : (cs : ColumnTrees) (a b : Bool) → nat_lt MAX_COLUMNS (column_count cs) ≡ a → nat_lt max_type_levels (column_levels cs) ≡ b → cond a (Some Columns) (cond b (Some Depth) None) ≡ None → IsWithinLimits cs
limit_by cs true b many deep e = absurd cc
limit_by cs false true many deep e = absurd cc
limit_by cs false false many deep e = record { levels = ltb-false max_type_levels (column_levels cs) deep; columns = ltb-false MAX_COLUMNS (column_count cs) many }

pub no_limit : (cs : ColumnTrees) → schema_limit cs ≡ None → IsWithinLimits cs
no_limit cs e = limit_by cs _ _ refl refl e

pub within_no_limit : (cs : ColumnTrees) → IsWithinLimits cs → schema_limit cs ≡ None
within_no_limit cs is = rw (le-ltb MAX_COLUMNS (column_count cs) is.columns, le-ltb max_type_levels (column_levels cs) is.levels)

unlimited : (cs ds : ColumnTrees) (o : Option LimitKind) → unless_limit o cs ≡ Ok ds → (o ≡ None) × (cs ≡ ds)
unlimited cs ds None e = (refl, let h : whole cs ≡ Ok ds = e in cc)
unlimited cs ds (Some w) e = absurd cc

pub limited_found : (text : List ℕ) (cs : ColumnTrees) → limited_avro_schema_of text ≡ Ok cs → IsAvroText cs text × IsSound cs × IsWithinLimits cs
limited_found text cs e =
    let read = bound (avro_schema_of text) _ cs e in
    let same = unlimited read.value cs (schema_limit read.value) read.behind in
    let is = avro_text_found text read.value read.first in
    subst (λ (xs : ColumnTrees). IsAvroText xs text × IsSound xs × IsWithinLimits xs) same.1 (is, text_sound read.value text is, no_limit read.value same.0)

unread_refused : (text : List ℕ) (e : MapError) → IsUnread text e → IsAvroRefused text e
unread_refused text map_errors.Memory is = is
unread_refused text map_errors.BadSchema is = is
unread_refused text (map_errors.SchemaType n) is = is
unread_refused text (map_errors.AvroName n) is = is
unread_refused text (map_errors.Limit w) is = absurd is

limited_fault : (text : List ℕ) (e : MapError) → limited_avro_schema_of text ≡ Err e → IsAvroRefused text e
limited_fault text e is = by _ refl is
  where
    passed : (cs : ColumnTrees) (o : Option LimitKind) → avro_schema_of text ≡ Ok cs → schema_limit cs ≡ o → unless_limit o cs ≡ Err e → IsAvroRefused text e
    passed cs None read limit h = absurd cc
    passed cs (Some w) read limit h = let same : map_errors.Limit w ≡ e = cc in subst (λ x. IsAvroRefused text x) same (cs, avro_text_found text cs read, limit)

    by : (r : Result ColumnTrees MapError) → avro_schema_of text ≡ r → (r >>= λ cs. unless_limit (schema_limit cs) cs) ≡ Err e → IsAvroRefused text e
    by (Ok cs) read h = passed cs (schema_limit cs) read refl h
    by (Err x) read h = let same : x ≡ e = cc in subst (λ y. IsAvroRefused text y) same (unread_refused text x (avro_text_fault text x read))

limited_by : (text : List ℕ) (e : MapError) (b : Bool) → is_memory e ≡ b → FailsUnlessMemory b e (limited_avro_schema_of text) → IsAvroRefused text e
limited_by text map_errors.Memory b is given = tt
limited_by text map_errors.BadSchema false is given = limited_fault text map_errors.BadSchema given
limited_by text (map_errors.SchemaType n) false is given = limited_fault text (map_errors.SchemaType n) given
limited_by text (map_errors.AvroName n) false is given = limited_fault text (map_errors.AvroName n) given
limited_by text (map_errors.Limit w) false is given = limited_fault text (map_errors.Limit w) given
limited_by text map_errors.BadSchema true is given = absurd cc
limited_by text (map_errors.SchemaType n) true is given = absurd cc
limited_by text (map_errors.AvroName n) true is given = absurd cc
limited_by text (map_errors.Limit w) true is given = absurd cc

pub from_found : (text : List ℕ) (r : Result ColumnTrees MapError) → GivesUnlessMemory is_memory (λ s. s) r (limited_avro_schema_of text) → IfOk r (λ s. IsAvroText s text × IsSound s × IsWithinLimits s)
from_found text (Ok s) given = limited_found text s given
from_found text (Err e) given = tt

pub from_only : (text : List ℕ) (r : Result ColumnTrees MapError) → GivesUnlessMemory is_memory (λ s. s) r (limited_avro_schema_of text) → (cs : ColumnTrees) → IsAvroText cs text → IsWithinLimits cs → GivesUnlessMemory is_memory (λ s. s) r (Ok cs)
from_only text r given cs is limits = gives_same (λ s. s) r (limited_avro_schema_of text) (Ok cs) given (rw (avro_text_only text cs is, within_no_limit cs limits))

pub from_refused : (text : List ℕ) (r : Result ColumnTrees MapError) → GivesUnlessMemory is_memory (λ s. s) r (limited_avro_schema_of text) → IfErr r (λ e. IsAvroRefused text e)
from_refused text (Ok s) given = tt
from_refused text (Err e) given = limited_by text e (is_memory e) refl given

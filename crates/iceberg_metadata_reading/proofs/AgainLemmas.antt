-- Metadata that was read can be written.
use Rattle.std.proofs.Common.{◌≡◌, ◌≢◌, ℤ, negsuc, List, [], ◌∷◌, ◌++◌, map, String, Less, Bool, true, false, cond, Option, Some, None, Result, Ok, Err, All, Global, codes, refl, sym, ap, subst, ◌∙◌, is_eq}
use Rattle.std.proofs.lemmas.List.{append-nil}
use Rattle.std.proofs.lemmas.List.Elements.{All-nil, All-cons}
use Rattle.std.proofs.lemmas.Map.Keys.{sorted_head, sorted_tail, IsDistinct-cons}
use Rattle.std.proofs.lemmas.Map.Text.{is_eq-slice_cmp}
use Rattle.std.proofs.lemmas.Bool.Decides.{Decides-int_eq}
use Rattle.std.specs.Prelude.{ℕ, string_bytes, IfOk, OnOk}
use Rattle.std.specs.List.{AllByRecursion, IsDistinct}
use Rattle.std.specs.List.Sorted.{IsStrictlySortedBy}
use Rattle.std.specs.Ordering.{int_eq}
use Rattle.std.specs.Str.{bytes_eq}
use Rattle.std.specs.String.{string_cmp}
use Rattle.serde_json.specs.Data.{Data}
use Rattle.serde_json.specs.View.{view, members_view}
use Rattle.serde_json.specs.declared.value.Value.{Value}
use Rattle.lake_basics.specs.Outcome.{each, required, with_fault, with_front}
use Rattle.lake_basics.proofs.Each.{with_front-push}
use Rattle.lake_basics.proofs.Steps.{bind_ok, ok_is}
use Rattle.json_reading.specs.Json.{whole, items, pairs, text, present}
use Rattle.schema_iceberg.specs.Iceberg.{iceberg_schema}
use Rattle.schema_map.specs.declared.fault.MapError.{MapError}
use Rattle.schema_map.specs.declared.fault.MapError.TheVariants as map_errors
use Rattle.table_history.specs.First.{NoneOf}
use Rattle.table_history.specs.TypeTree.{ColumnTrees}
use Rattle.table_history.specs.declared.limit.LimitKind.TheVariants.{Columns, Depth, PartitionColumns}
use Rattle.iceberg_metadata.specs.declared.error.MetadataError.{MetadataError}
use Rattle.iceberg_metadata.specs.declared.error.MetadataError.TheVariants.{Malformed, SchemaType, Transform, Renamed, PartitionType, Limit}
use Rattle.iceberg_metadata.specs.declared.metadata.Metadata.{Metadata}
use Rattle.iceberg_metadata.specs.Grammar.{IsConsistent}
use Rattle.iceberg_metadata.specs.Members.{int_in, property, current_snapshot, unless_minus_one}
use Rattle.iceberg_metadata.specs.Schemas.{HeldSchema, HeldUnread, SchemaReading, ReadColumns, size_limit, refusal_of, kept_unread, unread_reading, columns_by, columns_reading, schema_reading, readable, unread, schema_ids}
use Rattle.iceberg_metadata.specs.Reading.{Shows, SaysThat, HasCause, causes, IsRead}
use Rattle.iceberg_metadata.specs.Writing.{CanBeHeld, HaveOwnNames, IsWritable}

-- ---- schemas

abbrev SchemaColumns : Type 0
SchemaColumns = ColumnTrees × List ℤ

not_kept : (refusal : MetadataError) (d : Data) (x : SchemaColumns) → kept_unread refusal d ≡ Ok (Ok x) → ⊥
not_kept refusal d x is = let first = bind_ok (unread_reading refusal d) _ (Ok x) is in let other = first.2 in absurd (cc)

columns_are : (d : Data) (r : Result SchemaColumns MapError) (x : SchemaColumns) → columns_by d (with_fault refusal_of r) ≡ Ok (Ok x) → r ≡ Ok x
columns_are d (Ok y) x is = cc
columns_are d (Err map_errors.Memory) x is = absurd (cc)
columns_are d (Err map_errors.BadSchema) x is = absurd (cc)
columns_are d (Err (map_errors.SchemaType column)) x is = absurd (not_kept SchemaType d x is)
columns_are d (Err (map_errors.AvroName column)) x is = absurd (not_kept SchemaType d x is)
columns_are d (Err (map_errors.Limit which)) x is = absurd (not_kept (Limit (size_limit which)) d x is)

can_be_held : (d : Data) (id : ℤ) (x : SchemaColumns) → schema_reading d ≡ Ok (id, Ok x) → CanBeHeld (id, x.0, x.1)
unfolding schema_reading
can_be_held d id x is =
    let a = bind_ok (int_in (codes "schema-id") d) _ (id, Ok x) is in
    let b = bind_ok (columns_reading d) _ (id, Ok x) a.2 in
    let same : (a.0, b.0) ≡ (id, Ok x) = ok_is (a.0, b.0) (id, Ok x) b.2 in
    let columns : b.0 ≡ Ok x = ap (λ (r : SchemaReading). r.1) same in
    (d, columns_are d (iceberg_schema d) x (b.1 ∙ ap (λ (r : ReadColumns). Ok r) columns))

-- Each schema can be held, and has its id.
record AreHeld (rs : List SchemaReading) : Type 0 where
  all : All CanBeHeld (readable rs)
  ids : map (λ s. s.0) (readable rs) ≡ schema_ids rs

one_held : (d : Data) (id : ℤ) (r : ReadColumns) (others : List SchemaReading) → schema_reading d ≡ Ok (id, r) → unread ((id, r) ∷ others) ≡ [] → (unread others ≡ [] → AreHeld others) → AreHeld ((id, r) ∷ others)
one_held d id (Ok x) others is none more =
    let rest = more none in
    record { all = All-cons CanBeHeld (id, x.0, x.1) (readable others) (can_be_held d id x is) rest.all; ids = ap (λ (ids : List ℤ). id ∷ ids) rest.ids }
one_held d id (Err e) others is none more = absurd (cc)

all_held : (ds : List Data) (rs : List SchemaReading) → each schema_reading ds ≡ Ok rs → unread rs ≡ [] → AreHeld rs
all_held [] rs is none = subst AreHeld (ok_is [] rs is) (record { all = All-nil CanBeHeld; ids = refl })
all_held (d ∷ ds) rs is none =
    let a = bind_ok (schema_reading d) _ rs is in
    let b = bind_ok (each schema_reading ds) _ rs a.2 in
    let whole : a.0 ∷ b.0 ≡ rs = ok_is (a.0 ∷ b.0) rs b.2 in
    subst AreHeld whole (one_held d a.0.0 a.0.1 b.0 a.1 (ap unread whole ∙ none) (λ rest. all_held ds b.0 b.1 rest))

-- ---- the current snapshot

unless_is : (b : Bool) (id : ℤ) → int_eq id (negsuc 0) ≡ b → cond b None (Some id) ≢ Some (negsuc 0)
unless_is true id same is = absurd (cc)
unless_is false id other is =
    let this : id ≡ negsuc 0 = cc is in
    let equal : int_eq id (negsuc 0) ≡ true = (Decides-int_eq id (negsuc 0)).1 this in
    absurd (cc)

none_is : (c : Option ℤ) → ◌≡◌ {A = Result (Option ℤ) MetadataError} (Ok None) (Ok c) → c ≢ Some (negsuc 0)
none_is c is same = absurd (cc)

current_is : (o : Option Data) (c : Option ℤ) → current_snapshot o ≡ Ok c → c ≢ Some (negsuc 0)
current_is None c is = none_is c is
current_is (Some d) c is =
    let a = bind_ok (required Malformed (whole d)) _ c is in
    subst (λ (x : Option ℤ). x ≢ Some (negsuc 0)) (ok_is (unless_minus_one a.0) c a.2) (unless_is (int_eq a.0 (negsuc 0)) a.0 refl)

-- ---- properties

abbrev Entry : Type 0
Entry = String Global × Value

abbrev names_in : List Entry → List (List ℕ)
names_in es = map (λ e. string_bytes e.0) es

apart : (key : String Global) (es : List Entry) → AllByRecursion (λ k. string_cmp key k ≡ Less) (map (λ e. e.0) es) → AllByRecursion (λ name. bytes_eq (string_bytes key) name ≡ false) (names_in es)
apart key [] all = tt
apart key (e ∷ es) all = (sym (is_eq-slice_cmp (string_bytes key) (string_bytes e.0)) ∙ ap is_eq all.0, apart key es all.1)

distinct_keys : (es : List Entry) → IsStrictlySortedBy string_cmp (map (λ e. e.0) es) → IsDistinct bytes_eq (names_in es)
unfolding IsDistinct
distinct_keys [] sorted = tt
distinct_keys (e ∷ es) sorted = IsDistinct-cons bytes_eq (string_bytes e.0) (names_in es) (apart e.0 es (sorted_head string_cmp e.0 (map (λ x. x.0) es) sorted)) (distinct_keys es (sorted_tail string_cmp e.0 (map (λ x. x.0) es) sorted))

names_kept : (es : List Entry) (ps : List (List ℕ × List ℕ)) → each property (pairs (members_view es)) ≡ Ok ps → map (λ p. p.0) ps ≡ names_in es
names_kept [] ps is = let none : ps ≡ [] = cc in ap (map (λ p. p.0)) none
names_kept (e ∷ es) ps is =
    let a = bind_ok (property (string_bytes e.0, view e.1)) _ ps is in
    let b = bind_ok (each property (pairs (members_view es))) _ ps a.2 in
    let whole : a.0 ∷ b.0 ≡ ps = ok_is (a.0 ∷ b.0) ps b.2 in
    let t = bind_ok (text Malformed (view e.1)) _ a.0 a.1 in
    let entry : (string_bytes e.0, t.0) ≡ a.0 = ok_is (string_bytes e.0, t.0) a.0 t.2 in
    let name : a.0.0 ≡ string_bytes e.0 = sym (ap (λ (p : List ℕ × List ℕ). p.0) entry) in
    sym (ap (map (λ (p : List ℕ × List ℕ). p.0)) whole) ∙ ap (λ (n : List ℕ). n ∷ map (λ (p : List ℕ × List ℕ). p.0) b.0) name ∙ ap (λ (ns : List (List ℕ)). string_bytes e.0 ∷ ns) (names_kept es b.0 b.1)

-- what is read of a map's entries has distinct names
pub own_names : (es : List Entry) (ps : List (List ℕ × List ℕ)) → IsStrictlySortedBy string_cmp (map (λ e. e.0) es) → each property (pairs (members_view es)) ≡ Ok ps → HaveOwnNames ps
own_names es ps sorted is = subst (IsDistinct bytes_eq) (sym (names_kept es ps is)) (distinct_keys es sorted)

-- one more at a step of a loop over them
pub property_pushed : (left rest : List Entry) (e : Entry) (ps more : List (List ℕ × List ℕ)) (name t : List ℕ) (all : Result (List (List ℕ × List ℕ)) MetadataError) → left ≡ e ∷ rest → more ≡ ps ++ (name, t) ∷ [] → name ≡ string_bytes e.0 → text Malformed (view e.1) ≡ Ok t
    → with_front ps (each property (pairs (members_view left))) ≡ all → with_front more (each property (pairs (members_view rest))) ≡ all
property_pushed left rest e ps more name t all next pushed named is before =
    let read : property (string_bytes e.0, view e.1) ≡ Ok (name, t) = rw is (ap (λ (n : List ℕ). Ok (n, t)) (sym named)) in
    let at_next : with_front ps (each property (pairs (members_view (e ∷ rest)))) ≡ all = subst (λ (l : List Entry). with_front ps (each property (pairs (members_view l))) ≡ all) next before in
    rw pushed (with_front-push property ps (string_bytes e.0, view e.1) (pairs (members_view rest)) (name, t) read ∙ at_next)

-- the same at the end of a loop over them
pub own_at_end : (es left : List Entry) (ps : List (List ℕ × List ℕ)) → IsStrictlySortedBy string_cmp (map (λ e. e.0) es) → left ≡ [] → with_front ps (each property (pairs (members_view left))) ≡ each property (pairs (members_view es)) → HaveOwnNames ps
own_at_end es left ps sorted none is =
    let whole : with_front ps (each property (pairs (members_view left))) ≡ Ok ps = subst (λ (l : List Entry). with_front ps (each property (pairs (members_view l))) ≡ Ok ps) (sym none) (ap (λ (qs : List (List ℕ × List ℕ)). Ok qs) (append-nil ps)) in
    own_names es ps sorted (sym is ∙ whole)

pub no_names : (ps : List (List ℕ × List ℕ)) → ps ≡ [] → HaveOwnNames ps
unfolding IsDistinct
no_names ps is = subst HaveOwnNames (sym is) tt

-- ---- the whole

pub read_writable : (bytes : List ℕ) (m : Metadata) → IsRead bytes m → NoneOf (HasCause bytes) causes → HaveOwnNames m.properties → IsWritable m
read_writable bytes m is none own =
    let says = is.text.says in
    let held = all_held (items says.schema_list) is.readings says.schemas is.whole in
    let ids : map (λ (s : HeldSchema). s.0) m.schemas ≡ schema_ids is.readings = ap (map (λ (s : HeldSchema). s.0)) says.held ∙ held.ids in
    let told : (P : List HeldUnread → Metadata → Type 0) → P [] m → SaysThat bytes P = λ P p. (is.readings, m, is.text, subst (λ (es : List HeldUnread). P es m) (sym is.whole) p) in
    let later = none.1.1 in
    record {
      schemas = subst (All CanBeHeld) (sym says.held) held.all;
      consistent = subst (IsConsistent m) (sym ids) is.text.consistent;
      properties = own;
      current = current_is (present (codes "current-snapshot-id") is.text.value) m.current_snapshot says.current_snapshot;
      shown = (λ x. x, (λ x. x, (λ s. later.0 (told (Shows SchemaType) s), (λ s. later.1.0 (told (Shows Transform) s), (λ s. later.1.1.0 (told (Shows Renamed) s), (λ s. later.1.1.1.0 (told (Shows PartitionType) s), (λ s. later.1.1.1.1.0 (told (Shows (Limit Columns)) s), (λ s. later.1.1.1.1.1.0 (told (Shows (Limit Depth)) s), (λ s. later.1.1.1.1.1.1.0 (told (Shows (Limit PartitionColumns)) s), tt)))))))));
    }

pub given_writable : (bytes : List ℕ) (r : Result Metadata MetadataError) → IfOk r (IsRead bytes) → OnOk r (NoneOf (HasCause bytes) causes) → IfOk r (λ m. HaveOwnNames m.properties) → IfOk r IsWritable
given_writable bytes (Ok m) is none own = read_writable bytes m is none own
given_writable bytes (Err e) is none own = tt

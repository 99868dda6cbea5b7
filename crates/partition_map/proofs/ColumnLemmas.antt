-- The kinds of columns, by their names.
use Rattle.std.proofs.Common.{◌≡◌, ◌≢◌, ◌↔◌, ℕ, ◌+◌, ◌<◌, ◌≤◌, Bool, true, false, not, cond, ◌||◌, ◌&&◌, List, [], ◌∷◌, length, get_or, drop, take, ◌++◌, map, Option, Some, None, is_some, Contains, refl, sym, ap, ◌∙◌, ⊎_elim, rules}
use Rattle.std.specs.List.{list_any, IsDistinct, AllByRecursion}
use Rattle.std.specs.Map.{update}
use Rattle.std.specs.Option.{option_and_then, unwrap_or}
use Rattle.std.specs.Str.{bytes_eq}
use Rattle.std.proofs.lemmas.Bool.{cases_Bool, false≢true, or_parts}
use Rattle.std.proofs.lemmas.List.{drop_more, drop_all, take_more, map-append}
use Rattle.std.proofs.lemmas.Slice.Eq.{bytes_eq-Decides}
use Rattle.std.proofs.lemmas.Map.Keys.{IsDistinct-cons, IsDistinct-head, IsDistinct-tail}
use Rattle.avro_schema.specs.Names.{are_distinct}
use Rattle.table_history.specs.History.{column_type}
use Rattle.table_history.specs.SchemaView.{type_view, column_view, columns_view}
use Rattle.table_history.specs.TypeTree.{TypeTree, ColumnTree, ColumnTrees, column, columns_of}
use Rattle.table_history.specs.declared.schema.Column.{Column}
use Rattle.table_history.specs.declared.schema.ColumnType.{the_lemmas}
use Rattle.table_history.proofs.RowListLemmas.{Contains-none, Contains-head, Contains-tail, Contains-cases}
use Rattle.partition_map.specs.Columns.{column_kind, HasOtherKind, is_same_kind, is_other_kind, changes_kind, has_other_kind}
use Rattle.partition_map.specs.Kind.{part_kind_of}
use Rattle.partition_map.specs.declared.kind.PartKind.{PartKind}
use Rattle.partition_map.specs.declared.kind.PartKind.TheVariants as kind
use Rattle.lake_basics.proofs.Truth.{false_and_true, or_true}

-- ---- a map of kinds
abbrev Kinds : Type 0
Kinds = List ℕ → Option (Option PartKind)

not_some : (o : Option (Option PartKind)) → is_some o ≡ false → o ≡ None
not_some None h = refl
not_some (Some k) h = absurd (false≢true (sym h))

known : (o : Option (Option PartKind)) (a b : Option PartKind) → is_some o ≡ true → unwrap_or o a ≡ unwrap_or o b
known None a b h = absurd (false≢true h)
known (Some k) a b h = refl

pub column_here : (cs : List Column) (i : ℕ) (c : Column) → i < length cs → c ≡ get_or cs i c → columns_view (drop i cs) ≡ column c.name (type_view c.kind) c.nullable (columns_view (drop (i + 1) cs))
column_here cs i c within at =
    let shown : column_view c ≡ record { name = c.name; kind = type_view c.kind; nullable = c.nullable } = search (rules, the_lemmas) in
    ap columns_view (drop_more cs i c within) ∙ ap (λ (d : Column). columns_view (d ∷ drop (i + 1) cs)) (sym at) ∙ ap (λ (d : ColumnTree). columns_of (d ∷ map column_view (drop (i + 1) cs))) shown

-- The column of a new name is put into the map.
put : (old new : Kinds) (n : List ℕ) (t : TypeTree) (b : Bool) (rest : ColumnTrees) (all : Option PartKind) (name : List ℕ)
    → is_some (old n) ≡ false → new name ≡ update bytes_eq old n (Some (part_kind_of t)) name
    → unwrap_or (old name) (column_kind (column n t b rest) name) ≡ all → unwrap_or (new name) (column_kind rest name) ≡ all
put old new n t b rest all name absent put_is before =
    ⊎_elim
    (λ (same : bytes_eq n name ≡ true).
    let none : old name ≡ None = ap old (sym ((bytes_eq-Decides n name).0 same)) ∙ not_some (old n) absent in
    ap (λ o. unwrap_or o (column_kind rest name)) (put_is ∙ ap (λ (c : Bool). cond c (Some (part_kind_of t)) (old name)) same)
    ∙ sym (λ i. unwrap_or (none i) (option_and_then part_kind_of (cond (same i) (Some t) (column_type rest name)))) ∙ before)
    (λ (other : bytes_eq n name ≡ false).
    ap (λ o. unwrap_or o (column_kind rest name)) (put_is ∙ ap (λ (c : Bool). cond c (Some (part_kind_of t)) (old name)) other)
    ∙ sym (ap (λ (c : Bool). unwrap_or (old name) (option_and_then part_kind_of (cond c (Some t) (column_type rest name)))) other) ∙ before)
    (cases_Bool (bytes_eq n name))

-- A column of its name is in the map.
passed : (old : Kinds) (n : List ℕ) (t : TypeTree) (b : Bool) (rest : ColumnTrees) (all : Option PartKind) (name : List ℕ)
    → is_some (old n) ≡ true
    → unwrap_or (old name) (column_kind (column n t b rest) name) ≡ all → unwrap_or (old name) (column_kind rest name) ≡ all
passed old n t b rest all name there before =
    ⊎_elim
    (λ (same : bytes_eq n name ≡ true).
    known (old name) (column_kind rest name) (column_kind (column n t b rest) name) (ap (λ m. is_some (old m)) (sym ((bytes_eq-Decides n name).0 same)) ∙ there) ∙ before)
    (λ (other : bytes_eq n name ≡ false).
    sym (ap (λ (c : Bool). unwrap_or (old name) (option_and_then part_kind_of (cond c (Some t) (column_type rest name)))) other) ∙ before)
    (cases_Bool (bytes_eq n name))

pub put_column : (cs : List Column) (i : ℕ) (c : Column) → i < length cs → c ≡ get_or cs i c → (old new : Kinds) (n name : List ℕ)
    → n ≡ c.name → is_some (old n) ≡ false → new name ≡ update bytes_eq old n (Some (part_kind_of (type_view c.kind))) name
    → unwrap_or (old name) (column_kind (columns_view (drop i cs)) name) ≡ column_kind (columns_view cs) name
    → unwrap_or (new name) (column_kind (columns_view (drop (i + 1) cs)) name) ≡ column_kind (columns_view cs) name
put_column cs i c within at old new n name named absent put_is before =
    put old new c.name (type_view c.kind) c.nullable (columns_view (drop (i + 1) cs)) (column_kind (columns_view cs) name) name
    (ap (λ m. is_some (old m)) (sym named) ∙ absent) (put_is ∙ ap (λ m. update bytes_eq old m (Some (part_kind_of (type_view c.kind))) name) named)
    (sym (ap (λ (trees : ColumnTrees). unwrap_or (old name) (column_kind trees name)) (column_here cs i c within at)) ∙ before)

pub passed_column : (cs : List Column) (i : ℕ) (c : Column) → i < length cs → c ≡ get_or cs i c → (old : Kinds) (n name : List ℕ)
    → n ≡ c.name → is_some (old n) ≡ true
    → unwrap_or (old name) (column_kind (columns_view (drop i cs)) name) ≡ column_kind (columns_view cs) name
    → unwrap_or (old name) (column_kind (columns_view (drop (i + 1) cs)) name) ≡ column_kind (columns_view cs) name
passed_column cs i c within at old n name named there before =
    passed old c.name (type_view c.kind) c.nullable (columns_view (drop (i + 1) cs)) (column_kind (columns_view cs) name) name
    (ap (λ m. is_some (old m)) (sym named) ∙ there)
    (sym (ap (λ (trees : ColumnTrees). unwrap_or (old name) (column_kind trees name)) (column_here cs i c within at)) ∙ before)

pub no_column_left : (cs : List Column) (i : ℕ) → length cs ≤ i → (old : Kinds) (name : List ℕ)
    → unwrap_or (old name) (column_kind (columns_view (drop i cs)) name) ≡ column_kind (columns_view cs) name → unwrap_or (old name) None ≡ column_kind (columns_view cs) name
no_column_left cs i past old name before =
    sym (ap (λ (rest : List Column). unwrap_or (old name) (column_kind (columns_view rest) name)) (drop_all i cs past)) ∙ before

-- ---- columns of another kind
pub same_kind : (a b : PartKind) → is_same_kind a b ≡ true → a ≡ b
same_kind kind.Boolean kind.Boolean h = refl
same_kind kind.Int kind.Int h = refl
same_kind kind.Long kind.Long h = refl
same_kind kind.Text kind.Text h = refl
same_kind kind.Date kind.Date h = refl
same_kind _ _ h = absurd (false≢true h)

pub itself : (a : PartKind) → is_same_kind a a ≡ true
itself kind.Boolean = refl
itself kind.Int = refl
itself kind.Long = refl
itself kind.Text = refl
itself kind.Date = refl

changed_at : (old new : Option PartKind) → is_other_kind old new ≡ true → (o : PartKind) × (n : PartKind) × (old ≡ Some o) × (new ≡ Some n) × (o ≢ n)
changed_at None new h = absurd (false≢true h)
changed_at (Some o) None h = absurd (false≢true h)
changed_at (Some o) (Some n) h = (o, n, refl, refl, λ e. false≢true (sym (ap not (ap (λ x. is_same_kind o x) (sym e) ∙ itself o)) ∙ h))

is_changed : (old new : Option PartKind) (o n : PartKind) → old ≡ Some o → new ≡ Some n → o ≢ n → is_other_kind old new ≡ true
is_changed old new o n was is changed =
    let differs : is_same_kind o n ≡ false = ⊎_elim (λ same. absurd (changed (same_kind o n same))) (λ other. other) (cases_Bool (is_same_kind o n)) in
    (λ i. is_other_kind (was i) (is i)) ∙ ap not differs

has_other : (old new : ColumnTrees) (names : List (List ℕ)) → has_other_kind old new names ≡ true → HasOtherKind old new names
has_other old new [] h = absurd (false≢true h)
has_other old new (n ∷ ns) h =
    ⊎_elim
    (λ here. let at = changed_at (column_kind old n) (column_kind new n) here in record { name = n; named = Contains-head n ns; old = at.0; was = at.2; new = at.1; is = at.3; changed = at.4 })
    (λ not_here.
    let later = has_other old new ns (sym (ap (λ b. b || has_other_kind old new ns) not_here) ∙ h) in
    record { name = later.name; named = Contains-tail n ns later.name later.named; old = later.old; was = later.was; new = later.new; is = later.is; changed = later.changed })
    (cases_Bool (changes_kind old new n))

found_other : (old new : ColumnTrees) (names : List (List ℕ)) (name : List ℕ) → Contains names name → changes_kind old new name ≡ true → has_other_kind old new names ≡ true
found_other old new [] name there changes = absurd (Contains-none name there)
found_other old new (n ∷ ns) name there changes =
    ⊎_elim
    (λ e. ap (λ b. b || has_other_kind old new ns) (ap (changes_kind old new) e ∙ changes))
    (λ later. ap (λ b. changes_kind old new n || b) (found_other old new ns name later changes) ∙ or_true (changes_kind old new n))
    (Contains-cases n ns name there)

pub has_other_exactly : (old new : ColumnTrees) (names : List (List ℕ)) → (has_other_kind old new names ≡ true) ↔ HasOtherKind old new names
has_other_exactly old new names =
    (has_other old new names, λ other. found_other old new names other.name other.named (is_changed _ _ other.old other.new other.was other.is other.changed))

-- Tests that agree at each name find the same.
pub same_tests : (p q : List ℕ → Bool) → ((name : List ℕ) → p name ≡ q name) → (names : List (List ℕ)) → list_any p names ≡ list_any q names
same_tests p q agree [] = refl
same_tests p q agree (n ∷ ns) = (λ i. agree n i || same_tests p q agree ns i)

-- one kind more
pub kind_more : (f g : List ℕ → Option PartKind) → ((name : List ℕ) → f name ≡ g name) → (names : List (List ℕ)) (i : ℕ) (name read : List ℕ) (so_far after : List (Option PartKind)) (kind : Option PartKind)
    → i < length names → name ≡ get_or names i name → so_far ≡ map g (take i names) → read ≡ name → kind ≡ f read → after ≡ so_far ++ kind ∷ [] → after ≡ map g (take (i + 1) names)
kind_more f g agree names i name read so_far after kind within at before read_is kind_is pushed =
    let last : map g (take (i + 1) names) ≡ map g (take i names) ++ g name ∷ [] = ap (map g) (take_more names i name within ∙ ap (λ x. take i names ++ x ∷ []) (sym at)) ∙ map-append g (take i names) (name ∷ []) in
    pushed ∙ (λ j. before j ++ (kind_is ∙ ap f read_is ∙ agree name) j ∷ []) ∙ sym last

-- Tests by maps of kinds find what tests of the schemas find.
pub differ_as : (old new : ColumnTrees) (was is : List ℕ → Option PartKind) → ((name : List ℕ) → was name ≡ column_kind old name) → ((name : List ℕ) → is name ≡ column_kind new name)
    → (names : List (List ℕ)) → list_any (λ name. is_other_kind (was name) (is name)) names ≡ has_other_kind old new names
differ_as old new was is was_as is_as names =
    same_tests (λ name. is_other_kind (was name) (is name)) (changes_kind old new) (λ name i. is_other_kind (was_as name i) (is_as name i)) names

-- ---- distinct names

not_again : (x : List ℕ) (xs : List (List ℕ)) → list_any (bytes_eq x) xs ≡ false → AllByRecursion (λ y. bytes_eq x y ≡ false) xs
not_again x [] h = tt
not_again x (y ∷ ys) h = let both = or_parts (bytes_eq x y) (list_any (bytes_eq x) ys) h in (both.0, not_again x ys both.1)

none_again : (x : List ℕ) (xs : List (List ℕ)) → AllByRecursion (λ y. bytes_eq x y ≡ false) xs → list_any (bytes_eq x) xs ≡ false
none_again x [] h = refl
none_again x (y ∷ ys) h = (λ i. h.0 i || none_again x ys h.1 i)

distinct_nothing : IsDistinct bytes_eq []
unfolding IsDistinct
distinct_nothing = tt

distinct_to : (xs : List (List ℕ)) → are_distinct xs ≡ true → IsDistinct bytes_eq xs
distinct_to [] h = distinct_nothing
distinct_to (x ∷ xs) h =
    let both = false_and_true (list_any (bytes_eq x) xs) (are_distinct xs) h in IsDistinct-cons bytes_eq x xs (not_again x xs both.0) (distinct_to xs both.1)

pub distinct_from : (xs : List (List ℕ)) → IsDistinct bytes_eq xs → are_distinct xs ≡ true
distinct_from [] d = refl
distinct_from (x ∷ xs) d =
    (λ i. not (none_again x xs (IsDistinct-head bytes_eq x xs d) i) && distinct_from xs (IsDistinct-tail bytes_eq x xs d) i)

pub distinct_exactly : (xs : List (List ℕ)) → (are_distinct xs ≡ true) ↔ IsDistinct bytes_eq xs
distinct_exactly xs = (distinct_to xs, distinct_from xs)

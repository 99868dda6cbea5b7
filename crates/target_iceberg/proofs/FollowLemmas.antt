-- What a target holds behind commits, and the first of them that changes a type.
use Rattle.std.proofs.Common.{◌≡◌, ◌⊎◌, inl, inr, ⊎_elim, ℕ, suc, ◌<◌, ◌+◌, Bool, true, false, cond, ◌||◌, List, [], ◌∷◌, ◌++◌, length, get_or, drop, map, Contains, Option, Some, None, refl, sym, ap, subst, ◌∙◌, arith}
use Rattle.std.specs.Prelude.{ℤ, pos, negsuc, ◌+ℤ◌, ◌<ℤ◌, ◌≤ℤ◌, is_some, not, unwrap_or}
use Rattle.std.specs.List.{list_all}
use Rattle.std.specs.Cmp.Lexicographic.{pointwise}
use Rattle.std.specs.Ordering.{int_eq}
use Rattle.std.specs.Str.{bytes_eq}
use Rattle.std.proofs.lemmas.Bool.{and_parts, cases_Bool, cond-false, cond-true, false≢true}
use Rattle.std.proofs.lemmas.Bool.Decides.{Decides-int_eq, nat_tests}
use Rattle.std.proofs.lemmas.Int.{ints}
use Rattle.std.proofs.lemmas.List.{append-nil, length-append}
use Rattle.std.proofs.lemmas.List.Elements.{Contains-append_cases}
use Rattle.iceberg_metadata.specs.Judging.{are_distinct, is_among}
use Rattle.iceberg_metadata.specs.Paths.{held_schema}
use Rattle.iceberg_metadata.specs.Schemas.{HeldSchema}
use Rattle.iceberg_metadata.proofs.PathLemmas.{path_Decides}
use Rattle.iceberg_version.specs.Sound.{have_first_ids, is_own_image, is_under}
use Rattle.iceberg_field_ids.proofs.IcebergGiven.{column_paths_wide}
use Rattle.iceberg_field_ids.specs.Ids.{PassesGreatest, new_count}
use Rattle.schema_map.specs.Paths.{Path, column_paths, known_id}
use Rattle.schema_map.specs.Image.{wide_columns}
use Rattle.schema_map.proofs.ImageTwice.{columns_twice}
use Rattle.table_history.specs.TypeEqLaws.{columns_eq-Decides}
use Rattle.table_history.specs.TypeTree.{ColumnTrees}
use Rattle.table_history.specs.declared.table.Commit.{Commit}
use Rattle.table_history.proofs.RowListLemmas.{Contains-cases, Contains-head, Contains-none, Contains-tail}
use Rattle.target_iceberg.specs.Fitting.{ChangesType, HasTypeChange, HeldState, IdSchema, IsFirstChange, IsFirstTypeChange, held_behind, is_current, may_become, state_behind, state_with, stated_in, type_at}
use Rattle.target_iceberg.specs.Following.{AreFirst, AreHeldBy, IsAtCurrent, IsChangeOf, IsReady}
use Rattle.target_iceberg.specs.Newest.{HeldShape, IsTop, is_changed, with_schema, with_schemas}
use Rattle.target_iceberg.proofs.TypeLemmas.{become_self, first_change, here as held_last, no_change, of_both, same_type}
use Rattle.lake_basics.proofs.Truth.{never_both}
use Rattle.lake_basics.proofs.Lists.{next_of}

-- ---- the ids of held schemas

pair_of : HeldSchema → IdSchema
pair_of s = (s.0, s.1)

abbrev pub pairs_of : List HeldSchema → List IdSchema
pairs_of schemas = map (λ s. (s.0, s.1)) schemas

from_pair : (schemas : List HeldSchema) (x : IdSchema) → Contains (pairs_of schemas) x → (s : HeldSchema) × Contains schemas s × ((s.0, s.1) ≡ x)
from_pair [] x there = absurd (Contains-none x there)
from_pair (s ∷ schemas) x there = ⊎_elim
    (λ (here : (s.0, s.1) ≡ x). (s, Contains-head s schemas, here))
    (λ later. let found = from_pair schemas x later in (found.0, Contains-tail s schemas found.0 found.1, found.2))
    (Contains-cases (s.0, s.1) (pairs_of schemas) x there)

all_at : (p : HeldSchema → Bool) (schemas : List HeldSchema) (s : HeldSchema) → list_all p schemas ≡ true → Contains schemas s → p s ≡ true
all_at p [] s all there = absurd (Contains-none s there)
all_at p (t ∷ schemas) s all there =
    let both = and_parts (p t) (list_all p schemas) all in
    ⊎_elim (λ (here : t ≡ s). ap p (sym here) ∙ both.0) (λ later. all_at p schemas s both.1 later) (Contains-cases t schemas s there)

under_it : (id : ℤ) (n : ℕ) → is_under n id ≡ true → id <ℤ pos n
under_it (pos i) n is = grind (arith, ints, nat_tests)
under_it (negsuc i) n is = absurd (false≢true is)

pub pairs_length : (schemas : List HeldSchema) → length (pairs_of schemas) ≡ length schemas
pairs_length [] = refl
pairs_length (s ∷ schemas) = ap suc (pairs_length schemas)

among : (schemas : List HeldSchema) (x : IdSchema) (id : ℤ) → Contains (pairs_of schemas) x → id ≡ x.0 → is_among (map (λ s. s.0) schemas) id ≡ true
among [] x id there same = absurd (Contains-none x there)
among (s ∷ schemas) x id there same = ⊎_elim
    (λ (here : (s.0, s.1) ≡ x).
    let equal : int_eq id s.0 ≡ true = (Decides-int_eq id s.0).1 (same ∙ ap (λ (y : IdSchema). y.0) (sym here)) in
    ap (λ b. b || is_among (map (λ s. s.0) schemas) id) equal)
    (λ later. or_true (int_eq id s.0) (is_among (map (λ s. s.0) schemas) id) (among schemas x id later same))
    (Contains-cases (s.0, s.1) (pairs_of schemas) x there)
  where
    or_true : (a b : Bool) → b ≡ true → (a || b) ≡ true
    or_true true b is = refl
    or_true false b is = is

one_id : (schemas : List HeldSchema) → are_distinct (map (λ s. s.0) schemas) ≡ true → (x y : IdSchema) → Contains (pairs_of schemas) x → Contains (pairs_of schemas) y → x.0 ≡ y.0 → x ≡ y
one_id [] distinct x y there also same = absurd (Contains-none x there)
one_id (s ∷ schemas) distinct x y there also same =
    let both = and_parts (not (is_among (map (λ s. s.0) schemas) s.0)) (are_distinct (map (λ s. s.0) schemas)) distinct in
    ⊎_elim
    (λ (here : (s.0, s.1) ≡ x). ⊎_elim
    (λ (too : (s.0, s.1) ≡ y). sym here ∙ too)
    (λ later. absurd (never_both (is_among (map (λ s. s.0) schemas) s.0) both.0 (among schemas y s.0 later (ap (λ (z : IdSchema). z.0) here ∙ same))))
    (Contains-cases (s.0, s.1) (pairs_of schemas) y also))
    (λ later. ⊎_elim
    (λ (too : (s.0, s.1) ≡ y). absurd (never_both (is_among (map (λ s. s.0) schemas) s.0) both.0 (among schemas x s.0 later (ap (λ (z : IdSchema). z.0) too ∙ sym same))))
    (λ also_later. one_id schemas both.1 x y later also_later same)
    (Contains-cases (s.0, s.1) (pairs_of schemas) y also))
    (Contains-cases (s.0, s.1) (pairs_of schemas) x there)

pub first_ids : (schemas : List HeldSchema) → have_first_ids schemas ≡ true → AreFirst (pairs_of schemas)
first_ids schemas is =
    let both = and_parts (are_distinct (map (λ s. s.0) schemas)) (list_all (λ s. is_under (length schemas) s.0) schemas) is in
    record {
      under = λ x there.
          let from = from_pair schemas x there in
          subst (λ (n : ℕ). x.0 <ℤ pos n) (sym (pairs_length schemas)) (subst (λ (y : IdSchema). y.0 <ℤ pos (length schemas)) from.2 (under_it from.0.0 (length schemas) (all_at (λ s. is_under (length schemas) s.0) schemas from.0 both.1 from.1)));
      single = λ x y there also same. one_id schemas both.0 x y there also same;
    }

-- ---- one schema more

with_more : (o : Option HeldShape) (held more : List IdSchema) (path : Path) → with_schemas o (held ++ more) path ≡ with_schemas (with_schemas o held path) more path
with_more o [] more path = refl
with_more o (s ∷ held) more path = with_more (with_schema o s path) held more path

before_more : (a : ℤ) (n : ℕ) → a <ℤ pos n → a <ℤ pos (n + 1)
before_more a n is = omega (arith, ints, is)

last_under : (n : ℕ) → pos n <ℤ pos (n + 1)
last_under n = omega (arith, ints)

never_self : (a : ℤ) (n : ℕ) → a <ℤ pos n → a ≡ pos n → ⊥
never_self a n is same = absurd (omega (arith, ints, is, same))

next_first : (held : List IdSchema) (image : ColumnTrees) → AreFirst held → AreFirst (held ++ (pos (length held), image) ∷ [])
next_first held image first =
    let more : length (held ++ (pos (length held), image) ∷ []) ≡ length held + 1 = length-append held ((pos (length held), image) ∷ []) in
    record {
      under = λ x there. subst (λ (n : ℕ). x.0 <ℤ pos n) (sym more) (⊎_elim
          (λ within. before_more x.0 (length held) (first.under x within))
          (λ last. ⊎_elim (λ (here : (pos (length held), image) ≡ x). subst (λ (y : IdSchema). y.0 <ℤ pos (length held + 1)) here (last_under (length held))) (λ none. absurd (Contains-none x none)) (Contains-cases (pos (length held), image) [] x last))
          (Contains-append_cases held ((pos (length held), image) ∷ []) x there));
      single = λ x y there also same. ⊎_elim
          (λ within. ⊎_elim
          (λ also_within. first.single x y within also_within same)
          (λ (here : (pos (length held), image) ≡ y). absurd (never_self x.0 (length held) (first.under x within) (same ∙ ap (λ (z : IdSchema). z.0) (sym here))))
          (in_more y also))
          (λ (here : (pos (length held), image) ≡ x). ⊎_elim
          (λ also_within. absurd (never_self y.0 (length held) (first.under y also_within) (sym same ∙ ap (λ (z : IdSchema). z.0) (sym here))))
          (λ (too : (pos (length held), image) ≡ y). sym here ∙ too)
          (in_more y also))
          (in_more x there);
    }
  where
    in_more : (x : IdSchema) → Contains (held ++ (pos (length held), image) ∷ []) x → Contains held x ⊎ ((pos (length held), image) ≡ x)
    in_more x there = ⊎_elim inl (λ last. ⊎_elim inr (λ none. absurd (Contains-none x none)) (Contains-cases (pos (length held), image) [] x last)) (Contains-append_cases held ((pos (length held), image) ∷ []) x there)

module _ (shapes : Path → Option HeldShape) (current : Option ColumnTrees) (count : ℤ) (state : HeldState) (held : AreHeldBy shapes current count state) (image stated : ColumnTrees) (wide : image ≡ wide_columns stated) where
  now : Bool
  now = is_current state.current (wide_columns stated)

  same_test : is_current current image ≡ is_current state.current (wide_columns stated)
  same_test = λ i. is_current (held.current_is i) (wide i)

  current_one : (o : Option ColumnTrees) → is_current o image ≡ true → o ≡ Some image
  current_one None is = absurd (false≢true is)
  current_one (Some s) is = ap (λ x. Some x) ((columns_eq-Decides s image).0 is)

  pub held_same : is_current current image ≡ true → AreHeldBy shapes current count (state_with state stated)
  held_same is =
      let stays : held_behind state stated ≡ state.held = cond-true (is_current state.current (wide_columns stated)) state.held (state.held ++ (pos (length state.held), wide_columns stated) ∷ []) (sym same_test ∙ is) in
      record {
        newest = λ path. held.newest path ∙ ap (λ (l : List IdSchema). with_schemas None l path) (sym stays);
        current_is = current_one current is ∙ ap (λ x. Some x) wide;
        count_is = held.count_is ∙ ap (λ (l : List IdSchema). pos (length l)) (sym stays);
        first = subst AreFirst (sym stays) held.first;
      }

  pub held_more : (next : Path → Option HeldShape) (more : ℤ) → is_current current image ≡ false → ((path : Path) → next path ≡ with_schema (shapes path) (count, image) path) → more ≡ count +ℤ pos 1 → AreHeldBy next (Some image) more (state_with state stated)
  held_more next more other kept counted =
      let grows : held_behind state stated ≡ state.held ++ (pos (length state.held), wide_columns stated) ∷ [] = cond-false (is_current state.current (wide_columns stated)) state.held (state.held ++ (pos (length state.held), wide_columns stated) ∷ []) (sym same_test ∙ other) in
      record {
        newest = λ path.
            kept path
            ∙ (λ i. with_schema (held.newest path i) (held.count_is i, wide i) path)
            ∙ sym (with_more None state.held ((pos (length state.held), wide_columns stated) ∷ []) path)
            ∙ ap (λ (l : List IdSchema). with_schemas None l path) (sym grows);
        current_is = ap (λ x. Some x) wide;
        count_is = counted ∙ ap (λ (z : ℤ). z +ℤ pos 1) held.count_is ∙ ap pos (sym (length-append state.held ((pos (length state.held), wide_columns stated) ∷ []))) ∙ ap (λ (l : List IdSchema). pos (length l)) (sym grows);
        first = subst AreFirst (sym grows) (next_first state.held (wide_columns stated) held.first);
      }

pub own_image : (table : ColumnTrees) → is_own_image table ≡ true → wide_columns table ≡ table
own_image table is = (columns_eq-Decides (wide_columns table) table).0 is

-- without a stated schema, behind a commit
pub held_still : (shapes : Path → Option HeldShape) (current : Option ColumnTrees) (count : ℤ) (state : HeldState) → AreHeldBy shapes current count state → IsAtCurrent state → AreHeldBy shapes current count (state_with state state.schema)
held_still shapes current count state held at =
    held_same shapes current count state held state.schema state.schema (sym at.own) (ap (λ (o : Option ColumnTrees). is_current o state.schema) (held.current_is ∙ at.current) ∙ (columns_eq-Decides state.schema state.schema).1 refl)

-- ---- a commit more

module _ (state : HeldState) (commit : Commit) where
  pub behind_none : commit.change.schema ≡ None → state_with state state.schema ≡ state_behind state commit
  behind_none none = ap (λ (o : Option ColumnTrees). state_with state (unwrap_or o state.schema)) (sym none)

  -- without a stated schema nothing changes where the one before is the current one
  pub none_changes : commit.change.schema ≡ None → IsAtCurrent state → (name : List ℕ) → HasTypeChange state commit name → ⊥
  none_changes none at name change = at.none name (subst (λ (o : Option ColumnTrees). IsFirstTypeChange state.held (unwrap_or o state.schema) name) none change)

top_same : (f g : Path → Bool) (paths : List Path) (o : Option (List ℕ)) → ((path : Path) → f path ≡ g path) → IsTop f paths o → IsTop g paths o
top_same f g paths None same top = λ path there. sym (same path) ∙ top path there
top_same f g paths (Some name) same top = record {
  front = top.front;
  path = top.path;
  behind = top.behind;
  split = top.split;
  here = sym (same top.path) ∙ top.here;
  none = λ other there. sym (same other) ∙ top.none other there;
  below = top.below;
  is = top.is;
}

module _ (shapes : Path → Option HeldShape) (current : Option ColumnTrees) (count : ℤ) (state : HeldState) (held : AreHeldBy shapes current count state) (image stated : ColumnTrees) (wide : image ≡ wide_columns stated) where
  of_stated : (o : Option (List ℕ)) → IsTop (λ path. is_changed (shapes path) (with_schema None (pos 0, image) path)) (column_paths image) o
      → IsTop (λ path. is_changed (with_schemas None state.held path) (with_schema None (pos 0, wide_columns stated) path)) (column_paths (wide_columns stated)) o
  of_stated o top = top_same (λ path. is_changed (shapes path) (with_schema None (pos 0, wide_columns stated) path)) (λ path. is_changed (with_schemas None state.held path) (with_schema None (pos 0, wide_columns stated) path)) (column_paths (wide_columns stated)) o
      (λ path. ap (λ h. is_changed h (with_schema None (pos 0, wide_columns stated) path)) (held.newest path))
      (subst (λ (s : ColumnTrees). IsTop (λ path. is_changed (shapes path) (with_schema None (pos 0, s) path)) (column_paths s) o) wide top)

  pub nothing_changes : IsTop (λ path. is_changed (shapes path) (with_schema None (pos 0, image) path)) (column_paths image) None → (name : List ℕ) → IsFirstTypeChange state.held stated name → ⊥
  nothing_changes top = no_change state.held held.first stated (of_stated None top)

  pub one_changes : (name : List ℕ) → IsTop (λ path. is_changed (shapes path) (with_schema None (pos 0, image) path)) (column_paths image) (Some name) → IsFirstTypeChange state.held stated name
  one_changes name top = first_change state.held held.first stated name (of_stated (Some name) top)

-- ---- a held schema changes no type

-- What changes a type in the Image of a schema changes it in the schema.
change_back : (held : List IdSchema) (stated : ColumnTrees) (path : Path) → ChangesType held (wide_columns stated) path → ChangesType held stated path
change_back held stated path change = record {
  before = change.before;
  was = change.was;
  after = change.after;
  is = ap (λ (s : ColumnTrees). type_at s path) (sym (columns_twice stated)) ∙ change.is;
  other = change.other;
}

change_to : (held : List IdSchema) (stated : ColumnTrees) (path : Path) → ChangesType held stated path → ChangesType held (wide_columns stated) path
change_to held stated path change = record {
  before = change.before;
  was = change.was;
  after = change.after;
  is = ap (λ (s : ColumnTrees). type_at s path) (columns_twice stated) ∙ change.is;
  other = change.other;
}

first_back : (held : List IdSchema) (stated : ColumnTrees) (name : List ℕ) → IsFirstTypeChange held (wide_columns stated) name → IsFirstTypeChange held stated name
first_back held stated name change = record {
  front = change.front;
  path = change.path;
  behind = change.behind;
  split = sym (column_paths_wide stated) ∙ change.split;
  here = change_back held stated change.path change.here;
  none = λ other there never. change.none other there (change_to held stated other never);
  below = change.below;
  is = change.is;
}

module _ (state : HeldState) (stated : ColumnTrees) (first : AreFirst state.held) where
  abbrev last : IdSchema
  last = (pos (length state.held), wide_columns stated)

  -- Of all schemas that have a path the one that is held behind the others is the newest.
  never_newest : (path : Path) → ChangesType (state.held ++ (pos (length state.held), wide_columns stated) ∷ []) (wide_columns stated) path → ⊥
  never_newest path change =
      let at : type_at (wide_columns stated) path ≡ Some change.after = ap (λ (s : ColumnTrees). type_at s path) (sym (columns_twice stated)) ∙ change.is in
      let newer : pos (length state.held) ≤ℤ change.was.schema.0 = change.was.newest last change.after (held_last state.held last path) at in
      ⊎_elim
      (λ before. let under = first.under change.was.schema before in absurd (omega (arith, ints, newer, under)))
      (λ (here : last ≡ change.was.schema).
      let same : change.after ≡ change.before = same_type (type_at (wide_columns stated) path) change.after change.before at (ap (λ (s : IdSchema). type_at s.1 path) here ∙ change.was.at) in
      false≢true (sym change.other ∙ ap (may_become change.before) same ∙ become_self change.before))
      (of_both state.held last path change.was.schema change.was.holds)

  -- A schema that was taken over changes no type of those that are held with it.
  pub still_none : ((name : List ℕ) → IsFirstTypeChange state.held stated name → ⊥) → (name : List ℕ) → IsFirstTypeChange (held_behind state stated) (wide_columns stated) name → ⊥
  still_none none name change = by (is_current state.current (wide_columns stated)) refl change
    where
      by : (b : Bool) → is_current state.current (wide_columns stated) ≡ b → IsFirstTypeChange (cond b state.held (state.held ++ (pos (length state.held), wide_columns stated) ∷ [])) (wide_columns stated) name → ⊥
      by true is change = none name (first_back state.held stated name change)
      by false is change = never_newest change.path change.here

-- ---- along the commits

-- Behind the first commits, so many, the target holds this, and the first change of all of them is that of the rest.
pub record AtCommit (state : HeldState) (table : ColumnTrees) (index : ℕ) (shapes : Path → Option HeldShape) (current : Option ColumnTrees) (count : ℤ) (commits rest : List Commit) : Type 0 where
  pub here : HeldState
  pub held : AreHeldBy shapes current count here
  pub before : index ≡ 0 → here.schema ≡ table
  pub behind : 0 < index → IsAtCurrent here
  pub to : (name : List ℕ) → IsFirstChange state commits name → IsFirstChange here rest name
  pub back : (name : List ℕ) → IsFirstChange here rest name → IsFirstChange state commits name

pub at_start : (state : HeldState) (shapes : Path → Option HeldShape) (current : Option ColumnTrees) (count : ℤ) (commits : List Commit) → AreHeldBy shapes current count state → AtCommit state state.schema 0 shapes current count commits commits
at_start state shapes current count commits held = record { here = state; held = held; before = λ _. refl; behind = λ never. absurd (omega (arith, never)); to = λ name h. h; back = λ name h. h }

module _ (state : HeldState) (table : ColumnTrees) (index : ℕ) (shapes : Path → Option HeldShape) (current : Option ColumnTrees) (count : ℤ) (commits : List Commit) (commit : Commit) (rest : List Commit) (s : AtCommit state table index shapes current count commits (commit ∷ rest)) where
  pub ready : (first : Bool) → (first ≡ true → index ≡ 0) → (first ≡ false → 0 < index) → IsReady s.here table first
  ready first zero some = record { before = λ is. s.before (zero is); behind = λ is. s.behind (some is) }

  pub changes_here : (name : List ℕ) → HasTypeChange s.here commit name → IsFirstChange state commits name
  changes_here name change = s.back name (inl change)

  pub passed_on : (next : Path → Option HeldShape) (now : Option ColumnTrees) (more : ℤ) → ((name : List ℕ) → HasTypeChange s.here commit name → ⊥) → AreHeldBy next now more (state_behind s.here commit) → AtCommit state table (index + 1) next now more commits rest
  passed_on next now more none held = record {
    here = state_behind s.here commit;
    held = held;
    before = λ is. absurd (omega (arith, is));
    behind = λ _. record {
      current = refl;
      own = columns_twice (stated_in s.here commit);
      none = still_none s.here (stated_in s.here commit) s.held.first none;
    };
    to = λ name h. ⊎_elim (λ (change : HasTypeChange s.here commit name). absurd (none name change)) (λ later. later.1) (s.to name h);
    back = λ name h. s.back name (inr (none, h));
  }

pub no_commits_left : (state : HeldState) (table : ColumnTrees) (index : ℕ) (shapes : Path → Option HeldShape) (current : Option ColumnTrees) (count : ℤ) (commits rest : List Commit) → rest ≡ [] → AtCommit state table index shapes current count commits rest → IsChangeOf state commits None
no_commits_left state table index shapes current count commits rest none s name change = subst (λ (l : List Commit). IsFirstChange s.here l name) none (s.to name change)

-- ---- the current schema, and the ids of a schema's own paths

pub found_schema : (schemas : List HeldSchema) (i : ℕ) (id : ℤ) (held : HeldSchema) → i < length schemas → held ≡ get_or schemas i held → int_eq held.0 id ≡ true → held_schema (drop i schemas) id ≡ held_schema schemas id → Some held ≡ held_schema schemas id
found_schema schemas i id held within at named before =
    sym (ap (λ (l : List HeldSchema). held_schema l id) (next_of schemas i held within at) ∙ ap (λ b. cond b (Some held) (held_schema (drop (i + 1) schemas) id)) named) ∙ before

pub passed_schema : (schemas : List HeldSchema) (i : ℕ) (id : ℤ) (held : HeldSchema) → i < length schemas → held ≡ get_or schemas i held → int_eq held.0 id ≡ false → held_schema (drop i schemas) id ≡ held_schema schemas id → held_schema (drop (i + 1) schemas) id ≡ held_schema schemas id
passed_schema schemas i id held within at named before =
    sym (ap (λ (l : List HeldSchema). held_schema l id) (next_of schemas i held within at) ∙ ap (λ b. cond b (Some held) (held_schema (drop (i + 1) schemas) id)) named) ∙ before

abbrev pub zero_ids : List Path → List (Path × ℤ)
zero_ids paths = map (λ p. (p, pos 0)) paths

own_known : (all : List Path) (path : Path) → Contains all path → is_some (known_id (zero_ids all) path) ≡ true
own_known [] path there = absurd (Contains-none path there)
own_known (p ∷ all) path there = ⊎_elim
    (λ (here : pointwise bytes_eq p path ≡ true). ap (λ b. is_some (cond b (Some (pos 0)) (known_id (zero_ids all) path))) here)
    (λ (off : pointwise bytes_eq p path ≡ false).
    ap (λ b. is_some (cond b (Some (pos 0)) (known_id (zero_ids all) path))) off
    ∙ ⊎_elim (λ (same : p ≡ path). absurd (false≢true (sym off ∙ (path_Decides p path).1 same))) (λ later. own_known all path later) (Contains-cases p all path there))
    (cases_Bool (pointwise bytes_eq p path))

none_new : (all paths : List Path) → ((path : Path) → Contains paths path → Contains all path) → new_count (zero_ids all) paths ≡ 0
none_new all [] within = refl
none_new all (p ∷ paths) within =
    ap (λ b. cond b (new_count (zero_ids all) paths) (suc (new_count (zero_ids all) paths))) (own_known all p (within p (Contains-head p paths)))
    ∙ none_new all paths (λ path there. within path (Contains-tail p paths path there))

pub never_passes : (schema : ColumnTrees) (known : List (Path × ℤ)) (last : ℤ) → known ≡ zero_ids (column_paths schema) → PassesGreatest known last (column_paths schema) → ⊥
never_passes schema known last are passes =
    let none : new_count known (column_paths schema) ≡ 0 = ap (λ (k : List (Path × ℤ)). new_count k (column_paths schema)) are ∙ none_new (column_paths schema) (column_paths schema) (λ path there. there) in
    let some = passes.0 in
    omega (arith, none, some)

pub all_pairs : (pairs goal : List (Path × ℤ)) (rest : List Path) → rest ≡ [] → pairs ++ zero_ids rest ≡ goal → pairs ≡ goal
all_pairs pairs goal rest none so_far = sym (ap (λ (r : List Path). pairs ++ zero_ids r) none ∙ append-nil pairs) ∙ so_far

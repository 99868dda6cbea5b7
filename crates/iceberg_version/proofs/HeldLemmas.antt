-- The schemas that a version holds behind a commit.
use Rattle.std.proofs.Common.{◌≡◌, ◌≢◌, ◌⊎◌, inl, inr, ⊎_elim, ℕ, ℤ, pos, negsuc, ◌+◌, ◌<◌, ◌≤◌, List, [], ◌∷◌, ◌++◌, map, length, Bool, true, false, not, cond, Contains, Option, None, Some, Ok, refl, sym, ap, subst, ◌∙◌, arith}
use Rattle.std.specs.Prelude.{◌≤ℤ◌, ◌||◌, flat_map, fold, is_some}
use Rattle.std.specs.Int.{int_max}
use Rattle.std.specs.List.{list_all, list_any, zip}
use Rattle.std.specs.Ordering.{int_eq}
use Rattle.std.proofs.lemmas.Bool.{and_from, and_parts, false≢true, not-true}
use Rattle.std.proofs.lemmas.Bool.Decides.{Decides-int_eq, nat_tests}
use Rattle.std.proofs.lemmas.Int.{fold-int_max_bounds, ints}
use Rattle.std.proofs.lemmas.List.{append-nil, length-append}
use Rattle.std.proofs.lemmas.List.Elements.{All-contains, Contains-append_cases, Contains-append_left}
use Rattle.schema_map.specs.IcebergFits.{FitsIceberg}
use Rattle.schema_map.specs.Paths.{Path, column_paths, known_id}
use Rattle.schema_map.specs.Image.{wide_columns}
use Rattle.iceberg_field_ids.proofs.IcebergGiven.{column_paths_wide}
use Rattle.schema_iceberg.proofs.IcebergSound.{given_fits}
use Rattle.schema_iceberg.proofs.IcebergWritten.{iceberg_reads_back}
use Rattle.iceberg_field_ids.proofs.IdsGiven.{are_given}
use Rattle.iceberg_field_ids.proofs.OwnIdsGiven.{own_paths}
use Rattle.schema_map.proofs.ImageTwice.{image_twice}
use Rattle.table_history.specs.Sound.{IsSound}
use Rattle.table_history.specs.TypeTree.{ColumnTrees}
use Rattle.table_history.specs.declared.kind.Kind.TheVariants.{Iceberg}
use Rattle.table_history.proofs.RowListLemmas.{Contains-cases, Contains-head, Contains-none, Contains-tail}
use Rattle.iceberg_metadata.specs.Judging.{are_distinct, is_among}
use Rattle.iceberg_metadata.specs.Paths.{IsRenamed, PathId, held_schema, path_ids}
use Rattle.iceberg_metadata.specs.Schemas.{HeldSchema}
use Rattle.iceberg_metadata.specs.Writing.{CanBeHeld, schema_data}
use Rattle.iceberg_metadata.specs.declared.metadata.Metadata.{Metadata}
use Rattle.iceberg_metadata.proofs.ListLemmas.{all_from}
use Rattle.iceberg_version.specs.Schemas.{AddsSchema, AreNextSchemas, KeepsSchemas, Schemas, known_ids}
use Rattle.iceberg_version.specs.Sound.{IsSoundMetadata, have_first_ids, is_under}
use Rattle.iceberg_version.proofs.IdLemmas.{known_there, still_agree}
use Rattle.iceberg_version.proofs.Shared.{in_flat, map_push, of_flat, of_map}
use Rattle.iceberg_table.proofs.PlanLaws.{in_schemas}

-- ---- tests of lists

all_by : {A : Type 0} (p q : A → Bool) (xs : List A) → ((x : A) → p x ≡ true → q x ≡ true) → list_all p xs ≡ true → list_all q xs ≡ true
all_by p q [] so all = refl
all_by p q (x ∷ xs) so all = let parts = and_parts (p x) (list_all p xs) all in and_from (q x) (list_all q xs) (so x parts.0) (all_by p q xs so parts.1)

all_push : {A : Type 0} (p : A → Bool) (xs : List A) (x : A) → list_all p xs ≡ true → p x ≡ true → list_all p (xs ++ x ∷ []) ≡ true
all_push p [] x all one = and_from (p x) true one refl
all_push p (y ∷ xs) x all one = let parts = and_parts (p y) (list_all p xs) all in and_from (p y) (list_all p (xs ++ x ∷ [])) parts.0 (all_push p xs x parts.1 one)

any_push : {A : Type 0} (p : A → Bool) (xs : List A) (x : A) → list_any p xs ≡ false → p x ≡ false → list_any p (xs ++ x ∷ []) ≡ false
any_push p [] x none last = rw last refl
any_push p (y ∷ xs) x none last = by (p y) none (λ rest. any_push p xs x rest last)
  where
    by : (b : Bool) → (b || list_any p xs) ≡ false → (list_any p xs ≡ false → list_any p (xs ++ x ∷ []) ≡ false) → (b || list_any p (xs ++ x ∷ [])) ≡ false
    by true is rest = absurd (false≢true (sym is))
    by false is rest = rest is

-- ---- ids

other_id : (a b : ℤ) → a ≢ b → int_eq a b ≡ false
other_id a b other = by (int_eq a b) refl
  where
    by : (t : Bool) → int_eq a b ≡ t → t ≡ false
    by true is = absurd (other ((Decides-int_eq a b).0 is))
    by false is = refl

pub distinct_push : (ids : List ℤ) (id : ℤ) → are_distinct ids ≡ true → ((i : ℤ) → Contains ids i → i ≢ id) → are_distinct (ids ++ id ∷ []) ≡ true
distinct_push [] id distinct others = refl
distinct_push (x ∷ ids) id distinct others =
    let parts = and_parts (not (is_among ids x)) (are_distinct ids) distinct in
    let apart = any_push (int_eq x) ids id (not-true (is_among ids x) parts.0) (other_id x id (others x (Contains-head x ids))) in
    and_from (not (is_among (ids ++ id ∷ []) x)) (are_distinct (ids ++ id ∷ [])) (ap not apart) (distinct_push ids id parts.1 (λ i there. others i (Contains-tail x ids i there)))

under_bound : (n : ℕ) (i : ℤ) → is_under n i ≡ true → i ≢ pos n
under_bound n (pos i) under same = let less : i < n = grind (arith, nat_tests) in omega (arith, ints, less, same)
under_bound n (negsuc i) under same = absurd (false≢true under)

under_more : (n m : ℕ) (i : ℤ) → n ≤ m → is_under n i ≡ true → is_under m i ≡ true
under_more n m (pos i) more under = grind (arith, nat_tests)
under_more n m (negsuc i) more under = absurd (false≢true under)

last_under : (n m : ℕ) → m ≡ n + 1 → is_under m (pos n) ≡ true
last_under n m is = grind (arith, nat_tests)

flat_push : {A B : Type 0} (f : A → List B) (xs : List A) (x : A) → flat_map f (xs ++ x ∷ []) ≡ flat_map f xs ++ f x
flat_push f [] x = append-nil (f x)
flat_push f (y ∷ xs) x = ap (λ l. f y ++ l) (flat_push f xs x) ∙ sym (joined (f y) (flat_map f xs) (f x))
  where
    joined : {C : Type 0} (us vs ws : List C) → (us ++ vs) ++ ws ≡ us ++ (vs ++ ws)
    joined [] vs ws = refl
    joined (u ∷ us) vs ws = ap (λ l. u ∷ l) (joined us vs ws)

pub zip_id : (paths : List Path) (ids : List ℤ) (p : PathId) → Contains (zip paths ids) p → Contains ids p.1
zip_id [] ids p there = absurd (Contains-none p there)
zip_id (path ∷ paths) [] p there = absurd (Contains-none p there)
zip_id (path ∷ paths) (id ∷ ids) p there =
    ⊎_elim
    (λ (same : (path, id) ≡ p). subst (λ i. Contains (id ∷ ids) i) (ap (λ (x : PathId). x.1) same) (Contains-head id ids))
    (λ more. Contains-tail id ids p.1 (zip_id paths ids p more))
    (Contains-cases (path, id) (zip paths ids) p there)

-- ---- held schemas

schema_by : (b : Bool) (s : HeldSchema) (o : Option HeldSchema) (t : HeldSchema) → (b ≡ true → s ≡ t) → (b ≡ false → o ≡ Some t) → cond b (Some s) o ≡ Some t
schema_by true s o t here later = ap (λ (x : HeldSchema). Some x) (here refl)
schema_by false s o t here later = later refl

schema_last : (xs : List HeldSchema) (s : HeldSchema) → ((t : HeldSchema) → Contains xs t → t.0 ≢ s.0) → held_schema (xs ++ s ∷ []) s.0 ≡ Some s
schema_last [] s others = schema_by (int_eq s.0 s.0) s None s (λ is. refl) (λ other. absurd (false≢true (sym other ∙ (Decides-int_eq s.0 s.0).1 refl)))
schema_last (t ∷ xs) s others =
    schema_by (int_eq t.0 s.0) t (held_schema (xs ++ s ∷ []) s.0) s (λ is. absurd (others t (Contains-head t xs) ((Decides-int_eq t.0 s.0).0 is))) (λ other. schema_last xs s (λ u there. others u (Contains-tail t xs u there)))

schema_id_by : (s : HeldSchema) (ss : List HeldSchema) (id : ℤ) (t : HeldSchema) (b : Bool) → int_eq s.0 id ≡ b → cond b (Some s) (held_schema ss id) ≡ Some t → (held_schema ss id ≡ Some t → t.0 ≡ id) → t.0 ≡ id
schema_id_by s ss id t true at is rest = let same : s ≡ t = cc in subst (λ (x : HeldSchema). x.0 ≡ id) same ((Decides-int_eq s.0 id).0 at)
schema_id_by s ss id t false at is rest = rest is

pub schema_id : (ss : List HeldSchema) (id : ℤ) (t : HeldSchema) → held_schema ss id ≡ Some t → t.0 ≡ id
schema_id [] id t is = absurd (cc)
schema_id (s ∷ ss) id t is = schema_id_by s ss id t (int_eq s.0 id) refl is (schema_id ss id t)

-- a schema that can be held has an id for each column path
pub held_size : (s : HeldSchema) → CanBeHeld s → length (column_paths s.1) ≡ length s.2
held_size s can = let fits : FitsIceberg s.1 s.2 = given_fits can.0 (Ok (s.1, s.2)) can.1 in sym fits.size

pub fits_held : (s : HeldSchema) (stated : ColumnTrees) → s.1 ≡ wide_columns stated → FitsIceberg s.1 s.2 → CanBeHeld s
fits_held s stated wide fits =
    let twice : Some (wide_columns (wide_columns stated)) ≡ Some (wide_columns stated) = image_twice Iceberg stated (wide_columns stated) refl in
    let same : wide_columns s.1 ≡ s.1 = ap wide_columns wide ∙ (let e : wide_columns (wide_columns stated) ≡ wide_columns stated = cc twice in e) ∙ sym wide in
    (schema_data s, iceberg_reads_back s.1 s.2 s.0 fits.sound fits.within fits.are fits.size ∙ ap (λ (cs : ColumnTrees). Ok (cs, s.2)) same)

-- ---- the schemas behind a commit

-- The current one is held under its id, each can be read, ids are those from 0 on, no field id is past the last one, and no column is renamed.
pub record AreSoundNext (m : Metadata) (stated : ColumnTrees) (next : Schemas) : Type 0 where
  pub found : held_schema next.held next.current.0 ≡ Some next.current
  pub columns : next.current.1 ≡ wide_columns stated
  pub first_ids : have_first_ids next.held ≡ true
  pub field_ids : (id : ℤ) → Contains (flat_map (λ s. s.2) next.held) id → id ≤ℤ next.last_id
  pub read : (s : HeldSchema) → Contains next.held s → CanBeHeld s
  pub renamed : IsRenamed (flat_map path_ids next.held) → ⊥
  pub grown : (s : HeldSchema) → Contains m.schemas s → Contains next.held s

abbrev ids_of : List HeldSchema → List ℤ
ids_of schemas = map (λ s. s.0) schemas

pub current_there : (m : Metadata) (stated : ColumnTrees) (next : Schemas) → AreSoundNext m stated next → Contains next.held next.current
current_there m stated next sound = in_schemas next.held next.current.0 next.current sound.found

module _ (m : Metadata) (stated : ColumnTrees) (next : Schemas) (first_ids : have_first_ids m.schemas ≡ true) where
  pub found_kept : KeepsSchemas m stated next → held_schema next.held next.current.0 ≡ Some next.current
  found_kept is = ap (λ (l : List HeldSchema). held_schema l next.current.0) is.held ∙ ap (held_schema m.schemas) (schema_id m.schemas m.current_schema next.current is.current.held) ∙ is.current.held

  module _ (is : AddsSchema m stated next) where
    abbrev count : ℕ
    count = length m.schemas

    new_id : next.current.0 ≡ pos count
    new_id = ap (λ (s : HeldSchema). s.0) is.current

    parts : (are_distinct (ids_of m.schemas) ≡ true) × (list_all (λ s. is_under count s.0) m.schemas ≡ true)
    parts = and_parts (are_distinct (ids_of m.schemas)) (list_all (λ s. is_under count s.0) m.schemas) first_ids

    other_ids : (s : HeldSchema) → Contains m.schemas s → s.0 ≢ next.current.0
    other_ids s there same = under_bound count s.0 (all_from (λ (t : HeldSchema). is_under count t.0) m.schemas s parts.1 there) (same ∙ new_id)

    pub all_first : have_first_ids (m.schemas ++ next.current ∷ []) ≡ true
    all_first =
        let len = length-append m.schemas (next.current ∷ []) in
        let more : length (m.schemas ++ next.current ∷ []) ≡ count + 1 = omega (arith, len) in
        let total = length (m.schemas ++ next.current ∷ []) in
        let ids : are_distinct (ids_of (m.schemas ++ next.current ∷ [])) ≡ true =
        ap are_distinct (map_push (λ (s : HeldSchema). s.0) m.schemas next.current)
        ∙ distinct_push (ids_of m.schemas) next.current.0 parts.0 (λ i there. let s = of_map (λ (t : HeldSchema). t.0) m.schemas i there in subst (λ j. j ≢ next.current.0) s.2 (other_ids s.0 s.1)) in
        let old : list_all (λ s. is_under total s.0) m.schemas ≡ true = all_by (λ (s : HeldSchema). is_under count s.0) (λ s. is_under total s.0) m.schemas (λ s under. under_more count total s.0 (omega (arith, more)) under) parts.1 in
        let last : is_under total next.current.0 ≡ true = ap (is_under total) new_id ∙ last_under count total more in
        and_from (are_distinct (ids_of (m.schemas ++ next.current ∷ []))) (list_all (λ s. is_under total s.0) (m.schemas ++ next.current ∷ [])) ids (all_push (λ (s : HeldSchema). is_under total s.0) m.schemas next.current old last)

    pub found_added : held_schema next.held next.current.0 ≡ Some next.current
    found_added = ap (λ (l : List HeldSchema). held_schema l next.current.0) is.held ∙ schema_last m.schemas next.current other_ids

module _ (version : ℕ) (m : Metadata) (stated : ColumnTrees) (next : Schemas) (first_ids : have_first_ids m.schemas ≡ true) (before : IsSoundMetadata version m) where
  kept_next : KeepsSchemas m stated next → AreSoundNext m stated next
  kept_next is =
      record {
        found = found_kept m stated next first_ids is;
        columns = is.current.columns;
        first_ids = ap have_first_ids is.held ∙ first_ids;
        field_ids = λ i there. subst (λ (last : ℤ). i ≤ℤ last) (sym is.last_id) (before.field_ids i (subst (λ (l : List HeldSchema). Contains (flat_map (λ s. s.2) l) i) is.held there));
        read = λ s there. before.schemas s (subst (λ (l : List HeldSchema). Contains l s) is.held there);
        renamed = subst (λ (l : List HeldSchema). IsRenamed (flat_map path_ids l) → ⊥) (sym is.held) before.renamed;
        grown = λ s there. subst (λ (l : List HeldSchema). Contains l s) (sym is.held) there;
      }

  module _ (is : AddsSchema m stated next) where
    one_more : (s : HeldSchema) → Contains next.held s → Contains m.schemas s ⊎ (next.current ≡ s)
    one_more s there =
        ⊎_elim (λ old. inl old) (λ new. ⊎_elim (λ same. inr same) (λ none. absurd (Contains-none s none)) (Contains-cases next.current [] s new)) (Contains-append_cases m.schemas (next.current ∷ []) s (subst (λ (l : List HeldSchema). Contains l s) is.held there))

    known_within : (k : PathId) → Contains (known_ids m) k → k.1 ≤ℤ m.last_column_id
    known_within k there =
        let s = of_flat path_ids m.schemas k there in
        before.field_ids k.1 (in_flat (λ (t : HeldSchema). t.2) m.schemas s.0 k.1 s.1 (zip_id (column_paths s.0.1) s.0.2 k s.2))

    new_pairs : path_ids next.current ≡ zip (column_paths stated) is.ids
    new_pairs = ap path_ids is.current ∙ ap (λ (paths : List Path). zip paths is.ids) (column_paths_wide stated)

    all_pairs : flat_map path_ids next.held ≡ known_ids m ++ zip (column_paths stated) is.ids
    all_pairs = ap (flat_map path_ids) is.held ∙ flat_push path_ids m.schemas next.current ∙ ap (λ (ps : List PathId). known_ids m ++ ps) new_pairs

    none_renamed : IsSound stated → IsRenamed (flat_map path_ids next.held) → ⊥
    none_renamed sound r =
        still_agree (known_ids m) m.last_column_id (column_paths stated) is.ids (own_paths stated sound) is.are known_within (λ p q there_p there_q differ. before.renamed (record { one = p; other = q; has_one = there_p; has_other = there_q; differ = differ }))
        r.one r.other (subst (λ (ps : List PathId). Contains ps r.one) all_pairs r.has_one) (subst (λ (ps : List PathId). Contains ps r.other) all_pairs r.has_other) r.differ

    added_next : IsSound stated → Contains m.schemas next.current ⊎ FitsIceberg next.current.1 next.current.2 → AreSoundNext m stated next
    added_next sound fits =
        let columns : next.current.1 ≡ wide_columns stated = ap (λ (s : HeldSchema). s.1) is.current in
        let bounds = fold-int_max_bounds m.last_column_id is.ids (fold int_max m.last_column_id is.ids) refl in
        let current : CanBeHeld next.current = ⊎_elim (λ old. before.schemas next.current old) (λ new. fits_held next.current stated columns new) fits in
        record {
          found = found_added m stated next first_ids is;
          columns = columns;
          first_ids = ap have_first_ids is.held ∙ all_first m stated next first_ids is;
          field_ids = λ i there.
              let s = of_flat (λ (t : HeldSchema). t.2) next.held i there in
              subst (λ (last : ℤ). i ≤ℤ last) (sym is.last_id)
              (⊎_elim
              (λ old. let low = before.field_ids i (in_flat (λ (t : HeldSchema). t.2) m.schemas s.0 i old s.2) in let base = bounds.0 in omega (arith, ints, low, base))
              (λ (new : next.current ≡ s.0). All-contains (λ x. x ≤ℤ fold int_max m.last_column_id is.ids) is.ids i bounds.1 (subst (λ (t : HeldSchema). Contains t.2 i) (sym new ∙ is.current) s.2))
              (one_more s.0 s.1));
          read = λ s there. ⊎_elim (λ old. before.schemas s old) (λ (new : next.current ≡ s). subst CanBeHeld new current) (one_more s there);
          renamed = none_renamed sound;
          grown = λ s there. subst (λ (l : List HeldSchema). Contains l s) (sym is.held) (Contains-append_left m.schemas (next.current ∷ []) s there);
        }

  pub sound_next : IsSound stated → Contains m.schemas next.current ⊎ FitsIceberg next.current.1 next.current.2 → AreNextSchemas m stated next → AreSoundNext m stated next
  sound_next sound fits (inl keeps) = kept_next keeps
  sound_next sound fits (inr adds) = added_next adds.1 sound fits

  -- a top-level column of the stated schema has a field id in the current one
  pub column_found : AreNextSchemas m stated next → (path : Path) → Contains (column_paths stated) path → is_some (known_id (path_ids next.current) path) ≡ true
  column_found (inl keeps) path there =
      let s = next.current in
      let size = held_size s (before.schemas s (in_schemas m.schemas m.current_schema s keeps.current.held)) in
      let paths : column_paths s.1 ≡ column_paths stated = ap column_paths keeps.current.columns ∙ column_paths_wide stated in
      known_there (column_paths s.1) s.2 path (omega (arith, size)) (subst (λ (ps : List Path). Contains ps path) (sym paths) there)
  column_found (inr adds) path there =
      let given = are_given (known_ids m) m.last_column_id (column_paths stated) adds.1.ids adds.1.are in
      let size = given.size in
      ap (λ (ps : List PathId). is_some (known_id ps path)) (new_pairs adds.1) ∙ known_there (column_paths stated) adds.1.ids path (omega (arith, size)) there

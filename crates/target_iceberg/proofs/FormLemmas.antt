-- The form of a version, part by part.
use Rattle.std.proofs.Common.{◌≡◌, ◌≢◌, ◌≤◌, ◌<◌, ◌+◌, ◌≤ℤ◌, ℕ, ℤ, pos, Bool, true, false, List, [], ◌∷◌, ◌++◌, length, map, drop, get_or, Contains, Option, Some, None, Bor, refl, sym, ap, subst, ◌∙◌, ⊎_elim, arith}
use Rattle.std.specs.declared.alloc.AllocError.{AllocError}
use Rattle.std.specs.Prelude.{◌↔◌, Err, IfOk, Ok, Result, flat_map, is_some, if◌then◌else◌, IsTrue, MatchOption}
use Rattle.std.specs.Cmp.Lexicographic.{pointwise}
use Rattle.std.specs.List.{AllByRecursion, zip}
use Rattle.std.specs.Str.{bytes_eq}
use Rattle.schema_map.specs.Paths.{Path, known_id}
use Rattle.std.proofs.lemmas.Bool.{false≢true}
use Rattle.std.proofs.lemmas.List.{drop-drop, drop_all, get_or-map}
use Rattle.std.proofs.lemmas.List.Elements.{Contains-append_cases, Contains-append_left, Contains-append_right}
use Rattle.table_history.proofs.RowListLemmas.{Contains-none, all_at, all_from}
use Rattle.iceberg_metadata.specs.Paths.{PathId, current_schema, default_fields, path_ids}
use Rattle.iceberg_metadata.specs.Schemas.{HeldSchema}
use Rattle.iceberg_metadata.specs.declared.metadata.Metadata.{Metadata}
use Rattle.iceberg_metadata.specs.declared.metadata.SpecField.{SpecField}
use Rattle.iceberg_version.specs.Schemas.{AreSpecFields, FIRST_PARTITION_ID, IsSpecField}
use Rattle.iceberg_version.specs.Sound.{have_first_ids}
use Rattle.target_iceberg.specs.Form.{HasOwnForm, HasOwnSpec}
use Rattle.target_iceberg.specs.FormSteps.{AreFields, IsGiven, IsPlain, IsUpTo}
use Rattle.lake_basics.proofs.Lists.{next_of}

-- ---- item by item

module _ {X : Type 0} (P : X → Type 0) (xs : List X) (i : ℕ) (so_far : AllByRecursion P (drop i xs) ↔ AllByRecursion P xs) where
  module _ (x : X) (within : i < length xs) (is : x ≡ get_or xs i x) where
    pub all_more : P x → AllByRecursion P (drop (i + 1) xs) ↔ AllByRecursion P xs
    all_more here = (
      λ rest. so_far.0 (subst (AllByRecursion P) (sym (next_of xs i x within is)) (here, rest)),
      λ all. (subst (AllByRecursion P) (next_of xs i x within is) (so_far.1 all)).1,
    )

    pub all_stop : (P x → ⊥) → IsTrue false ↔ AllByRecursion P xs
    all_stop never = (
      λ none. absurd (false≢true none),
      λ all. absurd (never (subst (AllByRecursion P) (next_of xs i x within is) (so_far.1 all)).0),
    )

  pub all_end : length xs ≤ i → IsTrue true ↔ AllByRecursion P xs
  all_end past = (λ _. so_far.0 (subst (AllByRecursion P) (sym (drop_all i xs past)) tt), λ _. refl)

-- what a test tells
pub passed : {P : Type 0} (test : Bool) → IsTrue test ↔ P → test ≡ true → P
passed test tested passes = tested.0 passes

pub failed : {P : Type 0} (test : Bool) → IsTrue test ↔ P → test ≡ false → P → ⊥
failed test tested fails p = false≢true (sym fails ∙ tested.1 p)

-- ---- fields

module _ (pairs : List PathId) (k : ℕ) (xs : List SpecField) (i : ℕ) (so_far : AreFields pairs (k + i) (drop i xs) ↔ AreFields pairs k xs) where
  module _ (x : SpecField) (within : i < length xs) (is : x ≡ get_or xs i x) where
    pub fields_more : IsSpecField pairs (k + i) x.name x → AreFields pairs (k + (i + 1)) (drop (i + 1) xs) ↔ AreFields pairs k xs
    fields_more here = let next : k + (i + 1) ≡ k + i + 1 = omega arith in (
      λ rest. so_far.0 (subst (AreFields pairs (k + i)) (sym (next_of xs i x within is)) (here, subst (λ (n : ℕ). AreFields pairs n (drop (i + 1) xs)) next rest)),
      λ all. subst (λ (n : ℕ). AreFields pairs n (drop (i + 1) xs)) (sym next) (subst (AreFields pairs (k + i)) (next_of xs i x within is) (so_far.1 all)).1,
    )

    pub fields_stop : (IsSpecField pairs (k + i) x.name x → ⊥) → IsTrue false ↔ AreFields pairs k xs
    fields_stop never = (
      λ none. absurd (false≢true none),
      λ all. absurd (never (subst (AreFields pairs (k + i)) (next_of xs i x within is) (so_far.1 all)).0),
    )

  pub fields_end : length xs ≤ i → IsTrue true ↔ AreFields pairs k xs
  fields_end past = (λ _. so_far.0 (subst (AreFields pairs (k + i)) (sym (drop_all i xs past)) tt), λ _. refl)

pub fields_begin : (pairs : List PathId) (k : ℕ) (xs : List SpecField) → AreFields pairs (k + 0) xs ↔ AreFields pairs k xs
fields_begin pairs k xs = let same : k + 0 ≡ k = omega arith in (λ h. subst (λ (n : ℕ). AreFields pairs n xs) same h, λ h. subst (λ (n : ℕ). AreFields pairs n xs) (sym same) h)

spec_to : (schema : HeldSchema) (k : ℕ) (fields : List SpecField) → AreFields (path_ids schema) k fields → AreSpecFields schema k (map (λ f. f.name) fields) fields
spec_to schema k [] are = tt
spec_to schema k (f ∷ fields) are = (are.0, spec_to schema (k + 1) fields are.1)

spec_from : (schema : HeldSchema) (k : ℕ) (fields : List SpecField) → AreSpecFields schema k (map (λ f. f.name) fields) fields → AreFields (path_ids schema) k fields
spec_from schema k [] are = tt
spec_from schema k (f ∷ fields) are = (are.0, spec_from schema (k + 1) fields are.1)

-- ---- a slash

pub slash_by : (bytes location : List ℕ) → bytes ≡ location → (r : Option (Bor (List ℕ))) → MatchOption r ((front : List ℕ) → bytes ≢ front ++ 47 ∷ []) (λ x. bytes ≡ x.now ++ 47 ∷ []) → (test : Bool) → test ≡ is_some r → IsTrue test ↔ ((front : List ℕ) × (location ≡ front ++ 47 ∷ []))
slash_by bytes location same None none test is = (λ whole. absurd (false≢true (sym is ∙ whole)), λ front. absurd (none front.0 (same ∙ front.1)))
slash_by bytes location same (Some x) some test is = (λ _. (x.now, sym same ∙ some), λ _. is)

-- ---- the whole

given_to : (last : ℤ) (ss : List HeldSchema) → AllByRecursion (IsGiven last) ss → (id : ℤ) → Contains (flat_map (λ (s : HeldSchema). s.2) ss) id → id ≤ℤ last
given_to last [] all id there = absurd (Contains-none id there)
given_to last (s ∷ ss) all id there =
    ⊎_elim
    (λ here. all_at (λ (i : ℤ). i ≤ℤ last) s.2 id all.0 here)
    (λ later. given_to last ss all.1 id later)
    (Contains-append_cases s.2 (flat_map (λ (t : HeldSchema). t.2) ss) id there)

given_from : (last : ℤ) (ss : List HeldSchema) → ((id : ℤ) → Contains (flat_map (λ (s : HeldSchema). s.2) ss) id → id ≤ℤ last) → AllByRecursion (IsGiven last) ss
given_from last [] all = tt
given_from last (s ∷ ss) all = (
  all_from (λ (i : ℤ). i ≤ℤ last) s.2 (λ id there. all id (Contains-append_left s.2 (flat_map (λ (t : HeldSchema). t.2) ss) id there)),
  given_from last ss (λ id there. all id (Contains-append_right s.2 (flat_map (λ (t : HeldSchema). t.2) ss) id there)),
)

module _ (version : ℕ) (m : Metadata) where
  plain_of : HasOwnForm version m → IsPlain version m
  plain_of own = record {
    location = own.location;
    given = given_from m.last_column_id m.schemas own.field_ids;
    snapshots = all_from (IsUpTo version) m.snapshots (λ s there. record { id = own.snapshots s there; parent = λ parent is. own.parents s parent there is });
  }

  form_of : IsPlain version m → have_first_ids m.schemas ≡ true → HasOwnSpec m → HasOwnForm version m
  form_of plain first spec = record {
    location = plain.location;
    spec = spec;
    schema_ids = first;
    field_ids = given_to m.last_column_id m.schemas plain.given;
    snapshots = λ s there. (all_at (IsUpTo version) m.snapshots s plain.snapshots there).id;
    parents = λ s parent there is. (all_at (IsUpTo version) m.snapshots s plain.snapshots there).parent parent is;
  }

  pub not_plain : (plain : Bool) → IsTrue plain ↔ IsPlain version m → plain ≡ false → IsTrue false ↔ HasOwnForm version m
  not_plain plain tested fails = (λ none. absurd (false≢true none), λ own. absurd (false≢true (sym fails ∙ tested.1 (plain_of own))))

  pub other_ids : (first : Bool) → first ≡ have_first_ids m.schemas → first ≡ false → IsTrue false ↔ HasOwnForm version m
  other_ids first is fails = (λ none. absurd (false≢true none), λ own. absurd (false≢true (sym fails ∙ is ∙ own.schema_ids)))

  pub by_spec : (plain first spec : Bool) → IsTrue plain ↔ IsPlain version m → plain ≡ true → first ≡ have_first_ids m.schemas → first ≡ true → IsTrue spec ↔ HasOwnSpec m → IsTrue spec ↔ HasOwnForm version m
  by_spec plain first spec tested passes is first_is spec_is = (λ whole. form_of (tested.0 passes) (sym is ∙ first_is) (spec_is.0 whole), λ own. spec_is.1 own.spec)

some_same : (o : Option HeldSchema) (a b : HeldSchema) → o ≡ Some a → o ≡ Some b → a ≡ b
some_same o a b x y = cc

module _ (m : Metadata) (schema : HeldSchema) (current : current_schema m ≡ Some schema) (id : m.default_spec ≡ pos 0) where
  pub spec_by : (are : Bool) → IsTrue are ↔ AreFields (path_ids schema) FIRST_PARTITION_ID (default_fields m) → IsTrue are ↔ HasOwnSpec m
  spec_by are tested = (
    λ whole. record { schema = schema; current = current; id = id; fields = spec_to schema FIRST_PARTITION_ID (default_fields m) (tested.0 whole) },
    λ own. tested.1 (spec_from schema FIRST_PARTITION_ID (default_fields m) (subst (λ (s : HeldSchema). AreSpecFields s FIRST_PARTITION_ID (map (λ f. f.name) (default_fields m)) (default_fields m)) (some_same (current_schema m) own.schema schema own.current current) own.fields)),
  )

-- ---- what is tested without memory

module _ (version : ℕ) (m : Metadata) where
  pub slash_stop : (slash : Bool) → IsTrue slash ↔ ((front : List ℕ) × (m.location ≡ front ++ 47 ∷ [])) → slash ≡ true → IsTrue false ↔ IsPlain version m
  slash_stop slash tested is = (λ none. absurd (false≢true none), λ plain. let front = tested.0 is in absurd (plain.location front.0 front.1))

  pub given_stop : (given : Bool) → IsTrue given ↔ AllByRecursion (IsGiven m.last_column_id) m.schemas → given ≡ false → IsTrue false ↔ IsPlain version m
  given_stop given tested fails = (λ none. absurd (false≢true none), λ plain. absurd (failed given tested fails plain.given))

  pub plain_by : (slash given up : Bool) → IsTrue slash ↔ ((front : List ℕ) × (m.location ≡ front ++ 47 ∷ [])) → slash ≡ false → IsTrue given ↔ AllByRecursion (IsGiven m.last_column_id) m.schemas → given ≡ true
      → IsTrue up ↔ AllByRecursion (IsUpTo version) m.snapshots → IsTrue up ↔ IsPlain version m
  plain_by slash given up is_slash no_slash is_given all_given is_up = (
    λ whole. record { location = λ front is. false≢true (sym no_slash ∙ is_slash.1 (front, is)); given = is_given.0 all_given; snapshots = is_up.0 whole },
    λ plain. is_up.1 plain.snapshots,
  )

-- ---- ids

pub id_at : (schemas : List HeldSchema) (k : ℕ) (s : HeldSchema) → k < length schemas → s ≡ get_or schemas k s → get_or (map (λ (t : HeldSchema). t.0) schemas) k (pos 0) ≡ s.0
id_at schemas k s within is = get_or-map (λ (t : HeldSchema). t.0) schemas k s (pos 0) within ∙ ap (λ (t : HeldSchema). t.0) (sym is)

-- ---- the column of a name

no_ids : (ps : List Path) (path : Path) → known_id (zip ps []) path ≡ None
no_ids [] path = refl
no_ids (p ∷ ps) path = refl

known_step : (p : Path) (ps : List Path) (ids : List ℤ) (path : Path) → pointwise bytes_eq p path ≡ false → known_id (zip (p ∷ ps) ids) path ≡ known_id (zip ps (drop 1 ids)) path
known_step p ps [] path other = sym (no_ids ps path)
known_step p ps (id ∷ ids) path other = ap (λ (b : Bool). if b then Some id else known_id (zip ps ids) path) other

pub known_more : (paths : List Path) (ids : List ℤ) (i : ℕ) (p : Path) (path : Path) → i < length paths → p ≡ get_or paths i p → pointwise bytes_eq p path ≡ false → known_id (zip (drop i paths) (drop i ids)) path ≡ known_id (zip paths ids) path
    → known_id (zip (drop (i + 1) paths) (drop (i + 1) ids)) path ≡ known_id (zip paths ids) path
known_more paths ids i p path within is other so_far =
    ap (λ (l : List ℤ). known_id (zip (drop (i + 1) paths) l) path) (sym (drop-drop 1 i ids))
    ∙ sym (known_step p (drop (i + 1) paths) (drop i ids) path other) ∙ ap (λ (l : List Path). known_id (zip l (drop i ids)) path) (sym (next_of paths i p within is)) ∙ so_far

pub whole_form : (version : ℕ) (m : Metadata) (plain first : Bool) → IsTrue plain ↔ IsPlain version m → plain ≡ true → first ≡ have_first_ids m.schemas → first ≡ true → (r : Result Bool AllocError) → IfOk r (λ own. IsTrue own ↔ HasOwnSpec m) → IfOk r (λ own. IsTrue own ↔ HasOwnForm version m)
whole_form version m plain first tested passes is first_is (Ok own) spec_is = by_spec version m plain first own tested passes is first_is spec_is
whole_form version m plain first tested passes is first_is (Err e) spec_is = tt

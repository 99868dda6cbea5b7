-- What a text of metadata is read as, and the first cause why it isn't.
use Rattle.std.proofs.Common.{◌≡◌, ◌⊎◌, ℕ, ℤ, pos, nat_lt, List, [], ◌∷◌, length, Bool, true, false, Option, Some, None, Result, Ok, Err, Contains, refl, sym, ap, subst, ◌∙◌, inl, inr, ⊎_elim}
use Rattle.std.specs.Prelude.{IfOk, IfErr, OnOk}
use Rattle.std.specs.Bool.{Decides}
use Rattle.std.specs.List.{list_any}
use Rattle.std.proofs.lemmas.Bool.{false≢true}
use Rattle.std.proofs.lemmas.Bool.Decides.{Decides-ltb}
use Rattle.serde_json.specs.Data.{Data}
use Rattle.lake_basics.specs.Outcome.{◌>>=◌, required, FailsUnlessMemory}
use Rattle.lake_basics.specs.declared.limits.TheConstants.{MAX_PARTITION_COLUMNS}
use Rattle.lake_basics.proofs.Steps.{bind_ok, bind_err, ok_is, err_is, required_some}
use Rattle.json_reading.specs.Json.{json, items}
use Rattle.table_history.specs.First.{IsFirst, NoneOf}
use Rattle.table_history.specs.declared.limit.LimitKind.{LimitKind}
use Rattle.table_history.specs.declared.limit.LimitKind.TheVariants as limit
use Rattle.table_history.proofs.RowListLemmas.{Contains-head}
use Rattle.iceberg_metadata.specs.declared.error.MetadataError.{MetadataError}
use Rattle.iceberg_metadata.specs.declared.error.MetadataError.TheVariants.{Memory, FormatVersion, Malformed, SchemaType, Transform, Renamed, PartitionType, Limit}
use Rattle.iceberg_metadata.specs.declared.metadata.Metadata.{Metadata}
use Rattle.iceberg_metadata.specs.Errors.{is_memory, Gives}
use Rattle.iceberg_metadata.specs.Members.{format_version}
use Rattle.iceberg_metadata.specs.Schemas.{SchemaReading, HeldUnread, unread, refusals, schema_ids}
use Rattle.iceberg_metadata.specs.Paths.{default_fields, all_path_ids}
use Rattle.iceberg_metadata.specs.Grammar.{IsMetadataText, IsInGrammar}
use Rattle.iceberg_metadata.specs.Reading.{HasOtherVersion, Shows, SaysThat, HasCause, causes, IsRead}
use Rattle.iceberg_metadata.specs.Judging.{is_schema_type, is_limit_of_columns, is_limit_of_depth, is_other_transform, is_renamed, has_other_partition, contents, first_that, tests, judged, refused_by, metadata_of}
use Rattle.iceberg_metadata.proofs.ConsistentLemmas.{consistent_Decides}
use Rattle.iceberg_metadata.proofs.ContentLemmas.{done, IsFound, contents_found, contents_are}
use Rattle.iceberg_metadata.proofs.JudgedLemmas.{AllDecide, first_told, none_told, refusal_Decides, type_is, columns_is, depth_is, transform_Decides, partition_Decides}
use Rattle.iceberg_metadata_reading.proofs.MalformedLemmas.{contents_malformed}
use Rattle.iceberg_metadata.proofs.PathLemmas.{renamed_Decides}
use Rattle.iceberg_schemas.proofs.ToldLemmas.{IsKept, IsFault, readings_kept}

-- ---- one reading of a text

contents_of_text : (bytes : List ℕ) (d : Data) (rs : List SchemaReading) (m : Metadata) → json bytes ≡ Some d → IsMetadataText bytes rs m → contents d ≡ Ok (m, unread rs)
contents_of_text bytes d rs m is text =
    let same : text.value ≡ d = some_is text.value d (sym text.is ∙ is) in
    subst (λ v. contents v ≡ Ok (m, unread rs)) same (contents_are text.value rs m text.says ((consistent_Decides m (schema_ids rs)).1 text.consistent))
  where
    some_is : (x y : Data) → Some x ≡ Some y → x ≡ y
    some_is x y e = cc e

text_of_contents : (bytes : List ℕ) (d : Data) (m : Metadata) (es : List HeldUnread) → json bytes ≡ Some d → (found : IsFound d m es) → IsMetadataText bytes found.readings m
text_of_contents bytes d m es is found = record { value = d; is = is; says = found.says; consistent = (consistent_Decides m (schema_ids found.readings)).0 found.consistent }

-- ---- tests and causes

-- the text says this, and these are its schemas that can't be taken over
pub record IsKnown (bytes : List ℕ) (m : Metadata) (es : List HeldUnread) : Type 0 where
  pub value : Data
  pub is : json bytes ≡ Some value
  pub contents : contents value ≡ Ok (m, es)

module _ (bytes : List ℕ) (m : Metadata) (es : List HeldUnread) (known : IsKnown bytes m es) where
  found : IsFound known.value m es
  found = contents_found known.value m es known.contents

  text : IsMetadataText bytes found.readings m
  text = text_of_contents bytes known.value m es known.is found

  said : (P : List HeldUnread → Metadata → Type 0) → P es m → SaysThat bytes P
  said P p = (found.readings, m, text, subst (λ l. P l m) (sym found.others_are) p)

  says : (P : List HeldUnread → Metadata → Type 0) → SaysThat bytes P → P es m
  says P s =
      let other = contents_of_text bytes known.value s.0 s.1 known.is s.2 in
      let same : (s.1, unread s.0) ≡ (m, es) = ok_is (s.1, unread s.0) (m, es) (sym other ∙ known.contents) in
      subst (λ (p : Metadata × List HeldUnread). P p.1 p.0) same s.3

  said_Decides : (b : Bool) (P : List HeldUnread → Metadata → Type 0) → Decides b (P es m) → Decides b (SaysThat bytes P)
  said_Decides b P same = (λ h. said P (same.0 h), λ s. same.1 (says P s))

  kept : (e : MetadataError) → Contains (refusals es) e → IsKept e
  kept = subst (λ l. (e : MetadataError) → Contains (refusals l) e → IsKept e) found.others_are (readings_kept (items found.says.schema_list) found.readings found.says.schemas)

  limit_Decides : (b : Bool) (which : LimitKind) → (which ≡ limit.PartitionColumns → ⊥) → Decides b (Contains (refusals es) (Limit which)) → Decides b (Shows (Limit which) es m)
  limit_Decides b which other same = (λ h. inl (same.0 h), λ s. ⊎_elim same.1 (λ p. absurd (other p.0)) s)

  many_Decides : Decides (nat_lt MAX_PARTITION_COLUMNS (length (default_fields m))) (Shows (Limit limit.PartitionColumns) es m)
  many_Decides =
      (λ h. inr (refl, (Decides-ltb MAX_PARTITION_COLUMNS (length (default_fields m))).0 h), λ s. ⊎_elim (λ there. absurd (kept (Limit limit.PartitionColumns) there)) (λ p. (Decides-ltb MAX_PARTITION_COLUMNS (length (default_fields m))).1 p.1) s)

  all_tests : AllDecide (HasCause bytes) (tests m es)
  all_tests = (
    said_Decides (list_any is_schema_type (refusals es)) (Shows SchemaType) (refusal_Decides is_schema_type SchemaType refl type_is (refusals es)),
    (
      said_Decides (list_any is_other_transform (default_fields m)) (Shows Transform) (transform_Decides m),
      (
        said_Decides (is_renamed (all_path_ids es m.schemas)) (Shows Renamed) (renamed_Decides (all_path_ids es m.schemas)),
        (
          said_Decides (has_other_partition m es) (Shows PartitionType) (partition_Decides m es),
          (
            said_Decides (list_any is_limit_of_columns (refusals es)) (Shows (Limit limit.Columns)) (limit_Decides (list_any is_limit_of_columns (refusals es)) limit.Columns (λ e. cc) (refusal_Decides is_limit_of_columns (Limit limit.Columns) refl columns_is (refusals es))),
            (
              said_Decides (list_any is_limit_of_depth (refusals es)) (Shows (Limit limit.Depth)) (limit_Decides (list_any is_limit_of_depth (refusals es)) limit.Depth (λ e. cc) (refusal_Decides is_limit_of_depth (Limit limit.Depth) refl depth_is (refusals es))),
              (
                said_Decides (nat_lt MAX_PARTITION_COLUMNS (length (default_fields m))) (Shows (Limit limit.PartitionColumns)) many_Decides,
                tt,
              ),
            ),
          ),
        ),
      ),
    ),
  )

  not_version : HasOtherVersion bytes → ⊥
  not_version v =
      let same : v.0 ≡ known.value = data_is v.0 known.value (sym v.2 ∙ known.is) in
      v.4 (whole_is (pos 2) v.1 (sym (ap format_version same ∙ found.says.version) ∙ v.3))
    where
      data_is : (x y : Data) → Some x ≡ Some y → x ≡ y
      data_is x y e = cc e

      whole_is : (x y : ℤ) → Some x ≡ Some y → y ≡ x
      whole_is x y e = cc e

  not_malformed : (IsInGrammar bytes → ⊥) → ⊥
  not_malformed outside = outside (found.readings, m, text)

  pub first_cause : (e : MetadataError) → judged m es ≡ Err e → IsFirst (HasCause bytes) causes e
  first_cause e h = inr (not_version, inr (not_malformed, first_told (HasCause bytes) (tests m es) e all_tests (refused (first_that (tests m es)) e h)))
    where
      refused : (o : Option MetadataError) (x : MetadataError) → refused_by o ≡ Err x → o ≡ Some x
      refused None x is = absurd (cc)
      refused (Some y) x is = ap Some (err_is y x is)

  none_of : (o : Option MetadataError) → refused_by o ≡ done → o ≡ None
  none_of None is = refl
  none_of (Some y) is = absurd (cc)

  pub no_cause : judged m es ≡ done → NoneOf (HasCause bytes) causes
  no_cause h = (not_version, (not_malformed, none_told (HasCause bytes) (tests m es) all_tests (none_of (first_that (tests m es)) h)))

  nothing_kept : (l : List MetadataError) → ((e : MetadataError) → Contains l e → IsKept e) → (Contains l SchemaType → ⊥) → (Contains l (Limit limit.Columns) → ⊥) → (Contains l (Limit limit.Depth) → ⊥) → l ≡ []
  nothing_kept [] all a b c = refl
  nothing_kept (e ∷ l) all a b c = absurd (by e (all e (Contains-head e l)) (Contains-head e l))
    where
      by : (x : MetadataError) → IsKept x → Contains (e ∷ l) x → ⊥
      by SchemaType k there = a there
      by (Limit limit.Columns) k there = b there
      by (Limit limit.Depth) k there = c there
      by (Limit limit.File) k there = k
      by (Limit limit.Names) k there = k
      by (Limit limit.LiveFiles) k there = k
      by (Limit limit.Commits) k there = k
      by (Limit limit.Publish) k there = k
      by (Limit limit.Actions) k there = k
      by (Limit limit.Values) k there = k
      by (Limit limit.Path) k there = k
      by (Limit limit.PartitionColumns) k there = k
      by (Limit limit.Versions) k there = k
      by Memory k there = k
      by FormatVersion k there = k
      by Malformed k there = k
      by Transform k there = k
      by Renamed k there = k
      by PartitionType k there = k

  none_of_these : (us : List HeldUnread) → refusals us ≡ [] → us ≡ []
  none_of_these [] none = refl
  none_of_these (u ∷ us) none = absurd (cc)

  pub read_whole : judged m es ≡ done → IsRead bytes m
  read_whole h =
      let none = no_cause h in
      let later = none.1.1 in
      record {
        readings = found.readings;
        text = text;
        whole = found.others_are ∙ none_of_these es (nothing_kept (refusals es) kept
            (λ there. later.0 (said (Shows SchemaType) there))
            (λ there. later.1.1.1.1.0 (said (Shows (Limit limit.Columns)) (inl there)))
            (λ there. later.1.1.1.1.1.0 (said (Shows (Limit limit.Depth)) (inl there))));
      }

-- ---- the whole reading

no_json : (bytes : List ℕ) → json bytes ≡ None → IsFirst (HasCause bytes) causes Malformed
no_json bytes none = inr ((λ v. none_some (json bytes) v.0 none v.2), inl (refl, λ g. none_some (json bytes) g.2.value none g.2.is))
  where
    none_some : (o : Option Data) (d : Data) → o ≡ None → o ≡ Some d → ⊥
    none_some o d a b = absurd (cc)

bad_contents : (bytes : List ℕ) (d : Data) (e : MetadataError) → (e ≡ Memory → ⊥) → json bytes ≡ Some d → contents d ≡ Err e → IsFirst (HasCause bytes) causes e
bad_contents bytes d e other is h = ⊎_elim malformed version (contents_malformed d e h)
  where
    not_in : IsInGrammar bytes → ⊥
    not_in g = ok_err (g.1, unread g.0) e (contents_of_text bytes d g.0 g.1 is g.2) h
      where
        ok_err : (p : Metadata × List HeldUnread) (x : MetadataError) → contents d ≡ Ok p → contents d ≡ Err x → ⊥
        ok_err p x a b = absurd (cc)

    data_is : (x y : Data) → Some x ≡ Some y → x ≡ y
    data_is x y s = cc s

    malformed : IsFault e × ((v : ℤ) → format_version d ≡ Some v → v ≡ pos 2) → IsFirst (HasCause bytes) causes e
    malformed p = inr ((λ v. v.4 (p.1 v.1 (ap format_version (data_is d v.0 (sym is ∙ v.2)) ∙ v.3))), inl (⊎_elim (λ m. m) (λ m. absurd (other m)) p.0, not_in))

    version : (e ≡ FormatVersion) × (v : ℤ) × (format_version d ≡ Some v) × (v ≡ pos 2 → ⊥) → IsFirst (HasCause bytes) causes e
    version p = inl (p.0, (d, p.1, is, p.2, p.3))

pub refused_first : (bytes : List ℕ) (e : MetadataError) → (e ≡ Memory → ⊥) → metadata_of bytes ≡ Err e → IsFirst (HasCause bytes) causes e
unfolding metadata_of
refused_first bytes e other h = by (json bytes) refl h
  where
    kept_contents : (d : Data) → json bytes ≡ Some d → (c : Metadata × List HeldUnread) → contents d ≡ Ok c → (judged c.0 c.1 >>= λ u. Ok c.0) ≡ Err e → IsFirst (HasCause bytes) causes e
    kept_contents d is c said g =
        ⊎_elim
        (λ refused. first_cause bytes c.0 c.1 (record { value = d; is = is; contents = said }) e refused)
        (λ p. ok_err c.0 p.2)
        (bind_err (judged c.0 c.1) (λ u. Ok c.0) e g)
      where
        ok_err : (m : Metadata) → Ok m ≡ Err e → IsFirst (HasCause bytes) causes e
        ok_err m a = absurd (cc)

    by : (o : Option Data) → json bytes ≡ o → (required Malformed o >>= λ d. contents d >>= λ c. judged c.0 c.1 >>= λ u. Ok c.0) ≡ Err e → IsFirst (HasCause bytes) causes e
    by None is g = subst (IsFirst (HasCause bytes) causes) (err_is Malformed e g) (no_json bytes is)
    by (Some d) is g =
        ⊎_elim
        (λ refused. bad_contents bytes d e other is refused)
        (λ p. kept_contents d is p.0 p.1 p.2)
        (bind_err (contents d) (λ c. judged c.0 c.1 >>= λ u. Ok c.0) e g)

record IsTaken (bytes : List ℕ) (m : Metadata) : Type 0 where
  refused : List HeldUnread
  known : IsKnown bytes m refused
  good : judged m refused ≡ done

taken_of : (bytes : List ℕ) (m : Metadata) → metadata_of bytes ≡ Ok m → IsTaken bytes m
unfolding metadata_of
taken_of bytes m h =
    let a = bind_ok (required Malformed (json bytes)) _ m h in
    let b = bind_ok (contents a.0) _ m a.2 in
    let c = bind_ok (judged b.0.0 b.0.1) _ m b.2 in
    subst (IsTaken bytes) (ok_is b.0.0 m c.2) (record { refused = b.0.1; known = record { value = a.0; is = required_some Malformed (json bytes) a.0 a.1; contents = b.1 }; good = c.1 })

pub read_found : (bytes : List ℕ) (m : Metadata) → metadata_of bytes ≡ Ok m → IsRead bytes m
read_found bytes m h = let t = taken_of bytes m h in read_whole bytes m t.refused t.known t.good

pub read_supported : (bytes : List ℕ) (m : Metadata) → metadata_of bytes ≡ Ok m → NoneOf (HasCause bytes) causes
read_supported bytes m h = let t = taken_of bytes m h in no_cause bytes m t.refused t.known t.good

pub first_not_none : {A : Type 0} (P : A → Type 0) (xs : List A) (x : A) → IsFirst P xs x → NoneOf P xs → ⊥
first_not_none P [] x first none = first
first_not_none P (y ∷ ys) x (inl here) none = none.0 here.1
first_not_none P (y ∷ ys) x (inr later) none = first_not_none P ys x later.1 none.1

-- ---- answers

memory_is : (e : MetadataError) → is_memory e ≡ true → e ≡ Memory
memory_is Memory is = refl
memory_is FormatVersion is = absurd (false≢true is)
memory_is Malformed is = absurd (false≢true is)
memory_is SchemaType is = absurd (false≢true is)
memory_is Transform is = absurd (false≢true is)
memory_is Renamed is = absurd (false≢true is)
memory_is PartitionType is = absurd (false≢true is)
memory_is (Limit which) is = absurd (false≢true is)

not_memory : (bytes : List ℕ) (e : MetadataError) (b : Bool) → is_memory e ≡ b → FailsUnlessMemory b e (metadata_of bytes) → (e ≡ Memory) ⊎ ((e ≡ Memory → ⊥) × (metadata_of bytes ≡ Err e))
not_memory bytes e true is h = inl (memory_is e is)
not_memory bytes e false is h = inr (λ same. false≢true (sym is ∙ ap is_memory same), h)

module _ (bytes : List ℕ) where
  pub given_found : (r : Result Metadata MetadataError) → Gives r (metadata_of bytes) → IfOk r (IsRead bytes)
  given_found (Ok m) h = read_found bytes m h
  given_found (Err e) h = tt

  pub given_supported : (r : Result Metadata MetadataError) → Gives r (metadata_of bytes) → OnOk r (NoneOf (HasCause bytes) causes)
  given_supported (Ok m) h = read_supported bytes m h
  given_supported (Err e) h = tt

  pub given_refused : (r : Result Metadata MetadataError) → Gives r (metadata_of bytes) → IfErr r (λ e. (e ≡ Memory) ⊎ IsFirst (HasCause bytes) causes e)
  given_refused (Ok m) h = tt
  given_refused (Err e) h = ⊎_elim (λ is. inl is) (λ p. inr (refused_first bytes e p.0 p.1)) (not_memory bytes e (is_memory e) refl h)

  pub given_complete : (r : Result Metadata MetadataError) → Gives r (metadata_of bytes) → NoneOf (HasCause bytes) causes → IfErr r (λ e. e ≡ Memory)
  given_complete (Ok m) h none = tt
  given_complete (Err e) h none =
      ⊎_elim (λ is. is) (λ p. absurd (first_not_none (HasCause bytes) causes e (refused_first bytes e p.0 p.1) none)) (not_memory bytes e (is_memory e) refl h)

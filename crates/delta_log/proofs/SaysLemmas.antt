-- A line's reading, as a function, gives just what the line says.
use Rattle.std.proofs.Common.{◌≡◌, ◌⊎◌, inl, inr, ⊎_elim, ◌≢◌, ℕ, ℤ, pos, negsuc, List, [], ◌∷◌, map, length, codes, Option, Some, None, option_map, IsSome, Bool, true, false, cond, Result, Ok, Err, refl, sym, ap, subst, ◌∙◌, arith, Contains}
use Rattle.std.proofs.lemmas.Bool.Decides.{nat_tests}
use Rattle.std.proofs.lemmas.Cmp.{nat_list_eq_equiv}
use Rattle.std.proofs.lemmas.List.Elements.{All-from_recursion, All-contains}
use Rattle.std.proofs.lemmas.List.Sums.{AllPass-from_list_all, list_all-from_AllPass}
use Rattle.std.specs.Prelude.{is_some, is_none, option_and_then, ◌==◌, ◌||◌, ◌&&◌}
use Rattle.std.specs.List.{AllByRecursion, AllZip, list_all}
use Rattle.std.specs.Str.{bytes_eq}
use Rattle.serde_json.specs.Data.{Data, null, boolean, number, string, array, object, Items, Members}
use Rattle.serde_json.specs.Find.{as_array, as_object, get}
use Rattle.serde_json.specs.Read.{read}
use Rattle.lake_basics.specs.Outcome.{◌>>=◌, required, each}
use Rattle.json_reading.specs.Json.{json, text, text_member, whole_member, count, count_member, list_member, object_member, present, items, pairs, text_or_null_data}
use Rattle.delta_log.specs.declared.action.LineAction.{LineAction}
use Rattle.delta_log.specs.declared.action.LineAction.TheVariants as action
use Rattle.delta_log.specs.declared.commit.MetaData.{MetaData}
use Rattle.delta_log.specs.declared.commit.Protocol.{Protocol}
use Rattle.delta_log.specs.declared.error.LineFault.{LineFault}
use Rattle.delta_log.specs.declared.error.LineFault.TheVariants.{Malformed}
use Rattle.delta_log.specs.Actions.{Lacks, AreTexts, AreSettings, AreColumnValues, HasFeatures, SaysProtocol, HasConfiguration, SaysMetaData, AreStatistics, StatesCount, SaysAdd, SaysRemove, action_names, SaysAction, IsSpace, IsBlank, LineSays}
use Rattle.delta_log.specs.Grammar as grammar
use Rattle.delta_log.specs.Grammar.{text_or_null, keyed, setting, partition_value, settings, features, lists_features, needed_features, stated_count, record_count_in, record_count, only_action, object_action, is_space, line_action}
use Rattle.delta_log.proofs.EachLemmas.{Splits, split_each, each_cons}

-- ---- readings that succeed

abbrev Gave : {A B : Type 0} → Result A LineFault → (A → Result B LineFault) → B → Type 0
Gave {A} r f b = (x : A) × (r ≡ Ok x) × (f x ≡ Ok b)

gave : {A B : Type 0} (r : Result A LineFault) (f : A → Result B LineFault) (b : B) → (r >>= f) ≡ Ok b → Gave r f b
gave (Ok x) f b e = (x, refl, e)
gave (Err fault) f b e = absurd (cc)

pub there : {A : Type 0} (o : Option A) (x : A) → required Malformed o ≡ Ok x → o ≡ Some x
there None x e = absurd (cc)
there (Some y) x e = let same : y ≡ x = cc in ap (λ z. Some z) same

ok_same : {A : Type 0} (x y : A) → ◌≡◌ {A = Result A LineFault} (Ok x) (Ok y) → x ≡ y
ok_same x y e = cc

-- ---- lists of values

text_is : (d : Data) (t : List ℕ) → text Malformed d ≡ Ok t → d ≡ string t
text_is null t e = absurd (cc)
text_is (boolean b) t e = absurd (cc)
text_is (number n) t e = absurd (cc)
text_is (string s) t e = ap string (ok_same s t e)
text_is (array ds) t e = absurd (cc)
text_is (object ms) t e = absurd (cc)

text_or_null_is : (d : Data) (t : Option (List ℕ)) → text_or_null d ≡ Ok t → d ≡ text_or_null_data t
text_or_null_is null t e = ap text_or_null_data (ok_same None t e)
text_or_null_is (boolean b) t e = absurd (cc)
text_or_null_is (number n) t e = absurd (cc)
text_or_null_is (string s) t e = ap text_or_null_data (ok_same (Some s) t e)
text_or_null_is (array ds) t e = absurd (cc)
text_or_null_is (object ms) t e = absurd (cc)

pub reads_text_or_null : (t : Option (List ℕ)) → text_or_null (text_or_null_data t) ≡ Ok t
reads_text_or_null None = refl
reads_text_or_null (Some t) = refl

-- Where what f gives is what shown shows, a list of what it gives is shown item by item.
shown_each : {A B : Type 0} (f : A → Result B LineFault) (shown : B → A) → ((x : A) (y : B) → f x ≡ Ok y → x ≡ shown y) → (xs : List A) (ys : List B) → each f xs ≡ Ok ys → xs ≡ map shown ys
unfolding Splits
shown_each f shown is [] ys e = ap (map shown) (ok_same [] ys e)
shown_each f shown is (x ∷ xs) ys e =
    let parts = split_each f x xs ys e in
    ap (λ y. y ∷ xs) (is x parts.0 parts.2) ∙ ap (λ l. shown parts.0 ∷ l) (shown_each f shown is xs parts.1 parts.3) ∙ ap (map shown) (sym parts.4)

each_shown : {A B : Type 0} (f : A → Result B LineFault) (shown : B → A) → ((y : B) → f (shown y) ≡ Ok y) → (ys : List B) → each f (map shown ys) ≡ Ok ys
each_shown f shown gives [] = refl
each_shown f shown gives (y ∷ ys) = each_cons f (shown y) (map shown ys) y ys (gives y) (each_shown f shown gives ys)

abbrev shown_keyed : {A : Type 0} → (A → Data) → List ℕ × A → List ℕ × Data
shown_keyed shown p = (p.0, shown p.1)

keyed_is : {A : Type 0} (f : Data → Result A LineFault) (shown : A → Data) → ((d : Data) (x : A) → f d ≡ Ok x → d ≡ shown x) → (p : List ℕ × Data) (q : List ℕ × A) → keyed f p ≡ Ok q → p ≡ shown_keyed shown q
keyed_is {A} f shown is p q e =
    let parts = gave (f p.1) (λ x. Ok (p.0, x)) q e in
    ap (λ d. (p.0, d)) (is p.1 parts.0 parts.1) ∙ ap (shown_keyed shown) (ok_same (p.0, parts.0) q parts.2)

keyed_reads : {A : Type 0} (f : Data → Result A LineFault) (shown : A → Data) → ((x : A) → f (shown x) ≡ Ok x) → (q : List ℕ × A) → keyed f (shown_keyed shown q) ≡ Ok q
keyed_reads f shown gives q = rw (gives q.1) refl

texts_are : (listed : Items) (texts : List (List ℕ)) → each (text Malformed) (items listed) ≡ Ok texts → AreTexts listed texts
texts_are listed texts e = shown_each (text Malformed) string text_is (items listed) texts e

are_texts : (listed : Items) (texts : List (List ℕ)) → AreTexts listed texts → each (text Malformed) (items listed) ≡ Ok texts
are_texts listed texts is = ap (each (text Malformed)) is ∙ each_shown (text Malformed) string (λ t. refl) texts

settings_are : (ms : Members) (vs : List (List ℕ × List ℕ)) → each setting (pairs ms) ≡ Ok vs → AreSettings ms vs
settings_are ms vs e = shown_each setting (shown_keyed string) (keyed_is (text Malformed) string text_is) (pairs ms) vs e

are_settings : (ms : Members) (vs : List (List ℕ × List ℕ)) → AreSettings ms vs → each setting (pairs ms) ≡ Ok vs
are_settings ms vs is = ap (each setting) is ∙ each_shown setting (shown_keyed string) (keyed_reads (text Malformed) string (λ t. refl)) vs

values_are : (ms : Members) (vs : List (List ℕ × Option (List ℕ))) → each partition_value (pairs ms) ≡ Ok vs → AreColumnValues ms vs
values_are ms vs e = shown_each partition_value (shown_keyed text_or_null_data) (keyed_is text_or_null text_or_null_data text_or_null_is) (pairs ms) vs e

are_values : (ms : Members) (vs : List (List ℕ × Option (List ℕ))) → AreColumnValues ms vs → each partition_value (pairs ms) ≡ Ok vs
are_values ms vs is = ap (each partition_value) is ∙ each_shown partition_value (shown_keyed text_or_null_data) (keyed_reads text_or_null text_or_null_data reads_text_or_null) vs

-- ---- kinds of values

array_is : (d : Data) (listed : Items) → as_array d ≡ Some listed → d ≡ array listed
array_is null listed e = absurd (cc)
array_is (boolean b) listed e = absurd (cc)
array_is (number n) listed e = absurd (cc)
array_is (string s) listed e = absurd (cc)
array_is (array ds) listed e = let same : ds ≡ listed = cc in ap array same
array_is (object ms) listed e = absurd (cc)

object_is : (d : Data) (ms : Members) → as_object d ≡ Some ms → d ≡ object ms
object_is null ms e = absurd (cc)
object_is (boolean b) ms e = absurd (cc)
object_is (number n) ms e = absurd (cc)
object_is (string s) ms e = absurd (cc)
object_is (array ds) ms e = absurd (cc)
object_is (object ks) ms e = let same : ks ≡ ms = cc in ap object same

-- ---- the protocol

module _ (d : Data) where
  features_by : (name : List ℕ) (o : Option Data) (r : Option (List (List ℕ))) → present name d ≡ o → features o ≡ Ok r → HasFeatures d name r
  features_by name None r is e = subst (HasFeatures d name) (ok_same None r e) is
  features_by name (Some m) r is e =
      let listed = gave (required Malformed (as_array m)) (λ ns. each (text Malformed) (items ns) >>= λ ts. Ok (Some ts)) r e in
      let texts = gave (each (text Malformed) (items listed.0)) (λ ts. Ok (Some ts)) r listed.2 in
      let array_of : m ≡ array listed.0 = array_is m listed.0 (there (as_array m) listed.0 listed.1) in
      subst (HasFeatures d name) (ok_same (Some texts.0) r texts.2) (listed.0, is ∙ ap (λ x. Some x) array_of, texts_are listed.0 texts.0 texts.1)

  features_read : (name : List ℕ) (r : Option (List (List ℕ))) → HasFeatures d name r → features (present name d) ≡ Ok r
  features_read name None lacks = ap features lacks
  features_read name (Some texts) has = ap features has.1 ∙ (rw (are_texts has.0 texts has.2) refl)

-- Where the flag is set, there must be a list.
listed_by : (b : Bool) (stated r : Option (List (List ℕ))) → cond (b && is_none stated) (Err Malformed) (Ok stated) ≡ Ok r → (stated ≡ r) × (b ≡ true → IsSome r)
listed_by true None r e = absurd (cc)
listed_by true (Some ts) r e = let same = ok_same (Some ts) r e in (same, λ h. subst (λ o. IsSome o) same refl)
listed_by false stated r e = (ok_same stated r e, λ h. absurd (cc))

listed_read : (b : Bool) (r : Option (List (List ℕ))) → (b ≡ true → IsSome r) → cond (b && is_none r) (Err Malformed) (Ok r) ≡ Ok r
listed_read true None needed = let none : false ≡ true = needed refl in absurd (cc)
listed_read true (Some ts) needed = refl
listed_read false r needed = refl

pub version_three : (v : ℤ) → lists_features v ≡ true → v ≡ pos 3
version_three (pos n) e = let three : n ≡ 3 = grind (arith, nat_tests) in ap pos three
version_three (negsuc n) e = absurd (cc)

needed_by : (v : ℤ) (stated r : Option (List (List ℕ))) → needed_features v stated ≡ Ok r → (stated ≡ r) × (v ≡ pos 3 → IsSome r)
needed_by v stated r e = let parts = listed_by (lists_features v) stated r e in (parts.0, λ h. parts.1 (ap lists_features h))

needed_read : (v : ℤ) (r : Option (List (List ℕ))) → (v ≡ pos 3 → IsSome r) → needed_features v r ≡ Ok r
needed_read v r needed = listed_read (lists_features v) r (λ h. needed (version_three v h))

protocol_says : (d : Data) (a : LineAction) → grammar.protocol d ≡ Ok a → (p : Protocol) × (a ≡ action.Protocol p) × SaysProtocol d p
unfolding grammar.protocol
protocol_says d a e =
    let reader = gave (required Malformed (whole_member (codes "minReaderVersion") d)) _ a e in
    let writer = gave (required Malformed (whole_member (codes "minWriterVersion") d)) _ a reader.2 in
    let stated = gave (features (present (codes "readerFeatures") d)) _ a writer.2 in
    let needed = gave (needed_features reader.0 stated.0) _ a stated.2 in
    let listed = gave (features (present (codes "writerFeatures") d)) _ a needed.2 in
    let parts = needed_by reader.0 stated.0 needed.0 needed.1 in
    let p : Protocol = record { reader = reader.0; writer = writer.0; reader_features = needed.0; writer_features = listed.0 } in (
      p,
      sym (ok_same (action.Protocol p) a listed.2),
      record {
        reader = there (whole_member (codes "minReaderVersion") d) reader.0 reader.1;
        writer = there (whole_member (codes "minWriterVersion") d) writer.0 writer.1;
        reader_features = subst (HasFeatures d (codes "readerFeatures")) parts.0 (features_by d (codes "readerFeatures") (present (codes "readerFeatures") d) stated.0 refl stated.1);
        writer_features = features_by d (codes "writerFeatures") (present (codes "writerFeatures") d) listed.0 refl listed.1;
        listed = parts.1;
      },
    )

protocol_reads : (d : Data) (p : Protocol) → SaysProtocol d p → grammar.protocol d ≡ Ok (action.Protocol p)
unfolding grammar.protocol
protocol_reads d p h =
    rw (
      h.reader,
      h.writer,
      features_read d (codes "readerFeatures") p.reader_features h.reader_features,
      needed_read p.reader p.reader_features h.listed,
      features_read d (codes "writerFeatures") p.writer_features h.writer_features,
    ) refl

-- ---- the table

configuration_by : (d : Data) (o : Option Data) (vs : List (List ℕ × List ℕ)) → get (codes "configuration") d ≡ o → settings o ≡ Ok vs → HasConfiguration d vs
configuration_by d None vs is e = inl (is, sym (ok_same [] vs e))
configuration_by d (Some m) vs is e =
    let given = gave (required Malformed (as_object m)) (λ ms. each setting (pairs ms)) vs e in
    inr (given.0, is ∙ ap (λ x. Some x) (object_is m given.0 (there (as_object m) given.0 given.1)), settings_are given.0 vs given.2)

configuration_read : (d : Data) (vs : List (List ℕ × List ℕ)) → HasConfiguration d vs → settings (get (codes "configuration") d) ≡ Ok vs
configuration_read d vs (inl h) = ap settings h.0 ∙ ap (λ l. Ok l) (sym h.1)
configuration_read d vs (inr h) = ap settings h.1 ∙ are_settings h.0 vs h.2

meta_says : (d : Data) (a : LineAction) → grammar.meta_data d ≡ Ok a → (m : MetaData) × (is_parquet : Bool) × (a ≡ action.MetaData m is_parquet) × SaysMetaData d m is_parquet
unfolding grammar.meta_data
meta_says d a e =
    let id = gave (required Malformed (text_member (codes "id") d)) _ a e in
    let format = gave (required Malformed (get (codes "format") d)) _ a id.2 in
    let provider = gave (required Malformed (text_member (codes "provider") format.0)) _ a format.2 in
    let schema = gave (required Malformed (text_member (codes "schemaString") d)) _ a provider.2 in
    let columns = gave (required Malformed (list_member (codes "partitionColumns") d)) _ a schema.2 in
    let partition = gave (each (text Malformed) (items columns.0)) _ a columns.2 in
    let given = gave (settings (get (codes "configuration") d)) _ a partition.2 in
    let m : MetaData = record { id = id.0; schema = schema.0; partition = partition.0; configuration = given.0 } in
    let is_parquet = bytes_eq provider.0 (codes "parquet") in (
      m,
      is_parquet,
      sym (ok_same (action.MetaData m is_parquet) a given.2),
      record {
        id = there (text_member (codes "id") d) id.0 id.1;
        format = format.0;
        formatted = there (get (codes "format") d) format.0 format.1;
        provider = provider.0;
        provided = there (text_member (codes "provider") format.0) provider.0 provider.1;
        parquet = refl;
        schema = there (text_member (codes "schemaString") d) schema.0 schema.1;
        columns = columns.0;
        partitioned = there (list_member (codes "partitionColumns") d) columns.0 columns.1;
        partition = texts_are columns.0 partition.0 partition.1;
        configuration = configuration_by d (get (codes "configuration") d) given.0 refl given.1;
      },
    )

meta_reads : (d : Data) (m : MetaData) (is_parquet : Bool) → SaysMetaData d m is_parquet → grammar.meta_data d ≡ Ok (action.MetaData m is_parquet)
unfolding grammar.meta_data
meta_reads d m is_parquet h =
    rw (h.id, h.formatted, h.provided, h.schema, h.partitioned, are_texts h.columns m.partition h.partition, configuration_read d m.configuration h.configuration)
    (ap (λ b. Ok (action.MetaData m b)) (sym h.parquet))

-- ---- the record count

abbrev Counts : Data → Option ℕ → Type 0
Counts d None = get (codes "numRecords") d ≡ None
Counts d (Some count) = count_member (codes "numRecords") d ≡ Some count

count_of : Data → Result (Option ℕ) LineFault
count_of d = cond (is_some (get (codes "numRecords") d)) (required Malformed (option_map Some (count_member (codes "numRecords") d))) (Ok None)

number_by : (d : Data) (o : Option ℕ) (n : Option ℕ) → count_member (codes "numRecords") d ≡ o → required {A = Option ℕ} Malformed (option_map Some o) ≡ Ok n → Counts d n
number_by d None n is e = absurd (cc)
number_by d (Some count) n is e = subst (Counts d) (ok_same (Some count) n e) is

count_by : (d : Data) (o : Option Data) (n : Option ℕ) → get (codes "numRecords") d ≡ o → cond (is_some o) (required {A = Option ℕ} Malformed (option_map Some (count_member (codes "numRecords") d))) (Ok None) ≡ Ok n → Counts d n
count_by d None n is e = subst (Counts d) (ok_same None n e) is
count_by d (Some m) n is e = number_by d (count_member (codes "numRecords") d) n refl e

some_read : (o : Option Data) (count : ℕ) (f : Data → Option ℕ) → option_and_then f o ≡ Some count → cond (is_some o) (required {A = Option ℕ} Malformed (option_map Some (option_and_then f o))) (Ok None) ≡ Ok (Some count)
some_read None count f is = absurd (cc)
some_read (Some m) count f is = rw is refl

counts_read : (d : Data) (n : Option ℕ) → Counts d n → count_of d ≡ Ok n
unfolding count_of
counts_read d None h = rw h refl
counts_read d (Some n) h = some_read (get (codes "numRecords") d) n count h

stated_by : (stats : List ℕ) (n : Option ℕ) → stated_count stats ≡ Ok n → (ms : Members) × (read stats ≡ Some (object ms)) × Counts (object ms) n
unfolding stated_count
stated_by stats n e =
    let given = gave (required Malformed (read stats)) _ n e in
    let held = gave (required Malformed (as_object given.0)) _ n given.2 in
    let is : given.0 ≡ object held.0 = object_is given.0 held.0 (there (as_object given.0) held.0 held.1) in
    (held.0, there (read stats) given.0 given.1 ∙ ap (λ x. Some x) is, subst (λ x. Counts x n) is (count_by given.0 (get (codes "numRecords") given.0) n refl held.2))

states_by : (d : Data) (n : Option ℕ) (ms : Members) → AreStatistics d ms → Counts (object ms) n → StatesCount d n
states_by d None ms stats h = inr (ms, stats, h)
states_by d (Some n) ms stats h = (ms, stats, h)

no_length : (s : List ℕ) → (length s == 0) ≡ true → s ≡ []
no_length [] e = refl
no_length (b ∷ s) e = absurd (grind (arith, nat_tests))

text_by : (d : Data) (s : List ℕ) (b : Bool) (n : Option ℕ) → present (codes "stats") d ≡ Some (string s) → (length s == 0) ≡ b → cond b (Ok None) (stated_count s) ≡ Ok n → StatesCount d n
text_by d s true n is empty e = subst (StatesCount d) (ok_same None n e) (inl (inr (is ∙ ap (λ t. Some (string t)) (no_length s empty))))
text_by d s false n is some e =
    let parts = stated_by s n e in
    states_by d n parts.0 (record { text = s; stated = is; some = grind (arith, nat_tests); object = parts.1 }) parts.2

record_by : (d : Data) (o : Option Data) (n : Option ℕ) → present (codes "stats") d ≡ o → record_count_in o ≡ Ok n → StatesCount d n
record_by d None n is e = subst (StatesCount d) (ok_same None n e) (inl (inl is))
record_by d (Some m) n is e =
    let stats = gave (text Malformed m) (λ s. cond (length s == 0) (Ok None) (stated_count s)) n e in
    text_by d stats.0 (length stats.0 == 0) n (is ∙ ap (λ x. Some x) (text_is m stats.0 stats.1)) refl stats.2

stated_read : (d : Data) (n : Option ℕ) (ms : Members) → AreStatistics d ms → Counts (object ms) n → record_count_in (present (codes "stats") d) ≡ Ok n
unfolding stated_count count_of
stated_read d n ms stats counts =
    let over = stats.some in
    let some : (length stats.text == 0) ≡ false = grind (arith, nat_tests) in
    ap record_count_in stats.stated ∙ (rw (some, stats.object) (counts_read (object ms) n counts))

count_reads : (d : Data) (n : Option ℕ) → StatesCount d n → record_count d ≡ Ok n
unfolding record_count
count_reads d None (inl (inl lacks)) = ap record_count_in lacks
count_reads d None (inl (inr empty)) = ap record_count_in empty
count_reads d None (inr h) = stated_read d None h.0 h.1 h.2
count_reads d (Some n) h = stated_read d (Some n) h.0 h.1 h.2

-- ---- files

add_says : (d : Data) (a : LineAction) → grammar.add d ≡ Ok a
    → (uri : List ℕ) × (values : List (List ℕ × Option (List ℕ))) × (size : ℕ) × (n : Option ℕ) × (vector : Bool) × (a ≡ action.Add uri values size n vector) × SaysAdd d uri values size n vector
unfolding grammar.add record_count
add_says d a e =
    let uri = gave (required Malformed (text_member (codes "path") d)) _ a e in
    let given = gave (required Malformed (object_member (codes "partitionValues") d)) _ a uri.2 in
    let values = gave (each partition_value (pairs given.0)) _ a given.2 in
    let size = gave (required Malformed (count_member (codes "size") d)) _ a values.2 in
    let n = gave (record_count d) _ a size.2 in
    let vector = is_some (present (codes "deletionVector") d) in (
      uri.0,
      values.0,
      size.0,
      n.0,
      vector,
      sym (ok_same (action.Add uri.0 values.0 size.0 n.0 vector) a n.2),
      record {
        path = there (text_member (codes "path") d) uri.0 uri.1;
        members = given.0;
        partitioned = there (object_member (codes "partitionValues") d) given.0 given.1;
        columns = values_are given.0 values.0 values.1;
        sized = there (count_member (codes "size") d) size.0 size.1;
        counted = record_by d (present (codes "stats") d) n.0 refl n.1;
        vector = refl;
      },
    )

add_reads : (d : Data) (uri : List ℕ) (values : List (List ℕ × Option (List ℕ))) (size : ℕ) (n : Option ℕ) (vector : Bool) → SaysAdd d uri values size n vector → grammar.add d ≡ Ok (action.Add uri values size n vector)
unfolding grammar.add
add_reads d uri values size n vector h =
    rw (h.path, h.partitioned, are_values h.members values h.columns, h.sized, count_reads d n h.counted) (ap (λ b. Ok (action.Add uri values size n b)) (sym h.vector))

remove_says : (d : Data) (a : LineAction) → grammar.remove d ≡ Ok a → (uri : List ℕ) × (vector : Bool) × (a ≡ action.Remove uri vector) × SaysRemove d uri vector
unfolding grammar.remove
remove_says d a e =
    let uri = gave (required Malformed (text_member (codes "path") d)) _ a e in
    let vector = is_some (present (codes "deletionVector") d) in
    (uri.0, vector, sym (ok_same (action.Remove uri.0 vector) a uri.2), record { path = there (text_member (codes "path") d) uri.0 uri.1; vector = refl })

remove_reads : (d : Data) (uri : List ℕ) (vector : Bool) → SaysRemove d uri vector → grammar.remove d ≡ Ok (action.Remove uri vector)
unfolding grammar.remove
remove_reads d uri vector h = rw h.path (ap (λ b. Ok (action.Remove uri b)) (sym h.vector))

-- ---- objects

abbrev LackOthers : Data → List ℕ → Type 0
LackOthers d name = AllByRecursion (λ other. (other ≡ name) ⊎ Lacks d other) action_names

alone_of : (d : Data) (name : List ℕ) → LackOthers d name → (other : List ℕ) → Contains action_names other → other ≢ name → Lacks d other
alone_of d name all other among apart =
    ⊎_elim (λ same. absurd (apart same)) (λ h. h)
    (All-contains (λ o. (o ≡ name) ⊎ Lacks d o) action_names other (All-from_recursion (λ o. (o ≡ name) ⊎ Lacks d o) action_names all) among)

only_says : (d : Data) (p m a r : Option Data) (x : LineAction) → present (codes "protocol") d ≡ p → present (codes "metaData") d ≡ m → present (codes "add") d ≡ a → present (codes "remove") d ≡ r → only_action p m a r ≡ Ok x → SaysAction d x
only_says d None None None None x p m a r e =
    subst (SaysAction d) (ok_same action.NoAction x e)
    (λ name among. All-contains (λ o. Lacks d o) action_names name (All-from_recursion (λ o. Lacks d o) action_names (p, (m, (a, (r, tt))))) among)
only_says d (Some c) None None None x p m a r e =
    let said = protocol_says c x e in
    subst (SaysAction d) (sym said.1) (c, record { there = p; alone = alone_of d (codes "protocol") (inl refl, (inr m, (inr a, (inr r, tt)))) }, said.2)
only_says d None (Some c) None None x p m a r e =
    let said = meta_says c x e in
    subst (SaysAction d) (sym said.2) (c, record { there = m; alone = alone_of d (codes "metaData") (inr p, (inl refl, (inr a, (inr r, tt)))) }, said.3)
only_says d None None (Some c) None x p m a r e =
    let said = add_says c x e in
    subst (SaysAction d) (sym said.5) (c, record { there = a; alone = alone_of d (codes "add") (inr p, (inr m, (inl refl, (inr r, tt)))) }, said.6)
only_says d None None None (Some c) x p m a r e =
    let said = remove_says c x e in
    subst (SaysAction d) (sym said.2) (c, record { there = r; alone = alone_of d (codes "remove") (inr p, (inr m, (inr a, (inl refl, tt)))) }, said.3)
only_says d (Some b) (Some c) a r x _ _ _ _ e = absurd (cc)
only_says d (Some b) None (Some c) r x _ _ _ _ e = absurd (cc)
only_says d (Some b) None None (Some c) x _ _ _ _ e = absurd (cc)
only_says d None (Some b) (Some c) r x _ _ _ _ e = absurd (cc)
only_says d None (Some b) None (Some c) x _ _ _ _ e = absurd (cc)
only_says d None None (Some b) (Some c) x _ _ _ _ e = absurd (cc)

object_says : (d : Data) (x : LineAction) → object_action d ≡ Ok x → (ms : Members) × (d ≡ object ms) × SaysAction d x
unfolding object_action
object_says d x e =
    let given = gave (required Malformed (as_object d)) _ x e in (
      given.0,
      object_is d given.0 (there (as_object d) given.0 given.1),
      only_says d (present (codes "protocol") d) (present (codes "metaData") d) (present (codes "add") d) (present (codes "remove") d) x refl refl refl refl given.2,
    )

apart : (x y : List ℕ) → bytes_eq x y ≡ false → x ≢ y
apart x y differ same = let alike : bytes_eq x x ≡ true = nat_list_eq_equiv.refl x in let unlike : bytes_eq x x ≡ false = subst (λ z. bytes_eq x z ≡ false) (sym same) differ in absurd (cc)

protocol_among : Contains action_names (codes "protocol")
protocol_among = (0, omega arith, refl)

meta_among : Contains action_names (codes "metaData")
meta_among = (1, omega arith, refl)

add_among : Contains action_names (codes "add")
add_among = (2, omega arith, refl)

remove_among : Contains action_names (codes "remove")
remove_among = (3, omega arith, refl)

object_reads : (ms : Members) (x : LineAction) → SaysAction (object ms) x → object_action (object ms) ≡ Ok x
unfolding object_action
object_reads ms action.NoAction h = rw (h (codes "protocol") protocol_among, h (codes "metaData") meta_among, h (codes "add") add_among, h (codes "remove") remove_among) refl
object_reads ms (action.Protocol p) (c, has, says) =
    rw (
      has.there,
      has.alone (codes "metaData") meta_among (apart (codes "metaData") (codes "protocol") refl),
      has.alone (codes "add") add_among (apart (codes "add") (codes "protocol") refl),
      has.alone (codes "remove") remove_among (apart (codes "remove") (codes "protocol") refl),
    ) (protocol_reads c p says)
object_reads ms (action.MetaData m is_parquet) (c, has, says) =
    rw (
      has.there,
      has.alone (codes "protocol") protocol_among (apart (codes "protocol") (codes "metaData") refl),
      has.alone (codes "add") add_among (apart (codes "add") (codes "metaData") refl),
      has.alone (codes "remove") remove_among (apart (codes "remove") (codes "metaData") refl),
    ) (meta_reads c m is_parquet says)
object_reads ms (action.Add uri values size n vector) (c, has, says) =
    rw (
      has.there,
      has.alone (codes "protocol") protocol_among (apart (codes "protocol") (codes "add") refl),
      has.alone (codes "metaData") meta_among (apart (codes "metaData") (codes "add") refl),
      has.alone (codes "remove") remove_among (apart (codes "remove") (codes "add") refl),
    ) (add_reads c uri values size n vector says)
object_reads ms (action.Remove uri vector) (c, has, says) =
    rw (
      has.there,
      has.alone (codes "protocol") protocol_among (apart (codes "protocol") (codes "remove") refl),
      has.alone (codes "metaData") meta_among (apart (codes "metaData") (codes "remove") refl),
      has.alone (codes "add") add_among (apart (codes "add") (codes "remove") refl),
    ) (remove_reads c uri vector says)

-- ---- lines

space_by : (b : ℕ) (x y z : Bool) → (b == 32) ≡ x → (b == 9) ≡ y → (b == 13) ≡ z → (x || y || z) ≡ true → IsSpace b
space_by b true y z p q r h = inl (grind (arith, nat_tests))
space_by b false true z p q r h = inr (inl (grind (arith, nat_tests)))
space_by b false false true p q r h = inr (inr (grind (arith, nat_tests)))
space_by b false false false p q r h = absurd (cc)

space_is : (b : ℕ) → is_space b ≡ true → IsSpace b
space_is b h = space_by b (b == 32) (b == 9) (b == 13) refl refl refl h

is_space_of : (b : ℕ) → IsSpace b → is_space b ≡ true
is_space_of b (inl e) = subst (λ x. is_space x ≡ true) (sym e) refl
is_space_of b (inr (inl e)) = subst (λ x. is_space x ≡ true) (sym e) refl
is_space_of b (inr (inr e)) = subst (λ x. is_space x ≡ true) (sym e) refl

blank_is : (line : List ℕ) → list_all is_space line ≡ true → IsBlank line
blank_is line h = λ k d lt. space_is _ (AllPass-from_list_all is_space line h k d lt)

blank_reads : (line : List ℕ) → IsBlank line → list_all is_space line ≡ true
blank_reads line blank = list_all-from_AllPass is_space line (λ k d lt. is_space_of _ (blank k d lt))

-- what the reading of a line gives, the line says
pub says_action : (line : List ℕ) (a : LineAction) → line_action line ≡ Ok a → LineSays line a
unfolding line_action
says_action line a e = by (list_all is_space line) refl e
  where
    by : (b : Bool) → list_all is_space line ≡ b → cond b (Ok action.NoAction) (required Malformed (json line) >>= object_action) ≡ Ok a → LineSays line a
    by true blank h = inl (blank_is line blank, sym (ok_same action.NoAction a h))
    by false some h =
        let given = gave (required Malformed (json line)) object_action a h in
        let said = object_says given.0 a given.2 in
        inr (
          said.0,
          record { some = λ blank. let all = blank_reads line blank in absurd (cc); object = there (json line) given.0 given.1 ∙ ap (λ x. Some x) said.1 },
          subst (λ d. SaysAction d a) said.1 said.2,
        )

not_blank : (line : List ℕ) → (IsBlank line → ⊥) → list_all is_space line ≡ false
not_blank line some = by (list_all is_space line) refl
  where
    by : (b : Bool) → list_all is_space line ≡ b → list_all is_space line ≡ false
    by true blank = absurd (some (blank_is line blank))
    by false other = other

-- what a line says, its reading gives
pub reads_action : (line : List ℕ) (a : LineAction) → LineSays line a → line_action line ≡ Ok a
unfolding line_action
reads_action line a (inl (blank, none)) = rw (blank_reads line blank) (ap (λ x. Ok x) (sym none))
reads_action line a (inr (ms, is, said)) = rw (not_blank line is.some, is.object) (object_reads ms a said)

-- where the reading is refused, the line says nothing
pub says_none : (line : List ℕ) → line_action line ≡ Err Malformed → (a : LineAction) → LineSays line a → ⊥
says_none line refused a said = let read = reads_action line a said in cc

-- ---- all lines

pub says_each : (lines : List (List ℕ)) (actions : List LineAction) → each line_action lines ≡ Ok actions → AllZip LineSays lines actions
unfolding Splits
says_each [] [] e = tt
says_each [] (a ∷ actions) e = absurd (cc)
says_each (line ∷ lines) [] e = let parts = split_each line_action line lines [] e in let none = parts.4 in absurd (cc)
says_each (line ∷ lines) (a ∷ actions) e =
    let parts = split_each line_action line lines (a ∷ actions) e in
    let same = parts.4 in
    let first : parts.0 ≡ a = cc in
    let rest : parts.1 ≡ actions = cc in
    (says_action line a (subst (λ x. line_action line ≡ Ok x) first parts.2), says_each lines actions (subst (λ xs. each line_action lines ≡ Ok xs) rest parts.3))

pub reads_each : (lines : List (List ℕ)) (actions : List LineAction) → AllZip LineSays lines actions → each line_action lines ≡ Ok actions
reads_each [] [] h = refl
reads_each [] (a ∷ actions) h = absurd h
reads_each (line ∷ lines) [] h = absurd h
reads_each (line ∷ lines) (a ∷ actions) h = each_cons line_action line lines a actions (reads_action line a h.0) (reads_each lines actions h.1)

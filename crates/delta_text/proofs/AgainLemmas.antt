-- What is written is read again.
use Rattle.std.proofs.Common.{◌≡◌, ℕ, ◌+◌, ◌<◌, ◌≤◌, ◌^◌, ℤ, pos, negsuc, List, [], ◌∷◌, ◌++◌, length, map, Option, Some, None, option_map, Bool, true, false, cond, Ok, refl, sym, ap, subst, ◌∙◌, append_assoc, length-append, arith, All, IfSome}
use Rattle.std.proofs.lemmas.Grind.{common_steps, flat_map-append}
use Rattle.std.proofs.lemmas.Int.{ints}
use Rattle.std.proofs.lemmas.List.{append-nil, map-append, length-map}
use Rattle.std.proofs.lemmas.Cmp.{nat_list_eq_equiv}
use Rattle.std.proofs.lemmas.List.Elements.{All-nil, All-cons, All-head, All-tail}
use Rattle.std.proofs.lemmas.List.Sorted.{IsPermutation-map}
use Rattle.std.proofs.lemmas.Map.Keys.{IsDistinct-IsPermutation}
use Rattle.std.proofs.lemmas.List.Splits.{slice_split-cons_no}
use Rattle.std.specs.Prelude.{◌&&◌, ◌==◌, flat_map, option_to_list, FitsSigned, nat_le, IsSome}
use Rattle.std.specs.Int.{w64}
use Rattle.std.specs.List.{list_any, slice_split, onto_first, AllByRecursion, IsDistinct}
use Rattle.std.specs.Str.{bytes_eq, is_utf8}
use Rattle.std.proofs.lemmas.Bool.{or_parts}
use Rattle.serde_json.specs.Data.{Data, string, object, Members, no_members}
use Rattle.serde_json.specs.Find.{as_i64, of_integer}
use Rattle.serde_json.specs.Read.{read}
use Rattle.serde_json.specs.Written.{compact_text}
use Rattle.lake_basics.specs.declared.limits.TheConstants.{MAX_ACTIONS}
use Rattle.lake_basics.specs.Outcome.{each}
use Rattle.lake_basics.proofs.Numbers.{natural_test}
use Rattle.lake_basics.proofs.Truth.{and_false}
use Rattle.lake_basics.proofs.Texts.{front_distinct}
use Rattle.json_reading.specs.Json.{json, text, text_or_null_data, texts_data, members_with, items, pairs, IsReadAgain}
use Rattle.partition_map.specs.UriPath.{inside_table, uri_path}
use Rattle.partition_map.specs.Uri.{escaped_path}
use Rattle.delta_log.specs.declared.action.LineAction.{LineAction}
use Rattle.delta_log.specs.declared.action.LineAction.TheVariants as action
use Rattle.delta_log.specs.declared.commit.DeltaCommit.{DeltaCommit}
use Rattle.delta_log.specs.declared.commit.FileAction.{FileAction}
use Rattle.delta_log.specs.declared.commit.FileAction.TheVariants as file
use Rattle.delta_log.specs.declared.commit.MetaData.{MetaData}
use Rattle.delta_log.specs.declared.commit.Protocol.{Protocol}
use Rattle.delta_log.specs.declared.error.LineFault.TheVariants.{Malformed}
use Rattle.delta_log.specs.Commit.{file_path, file_paths}
use Rattle.delta_log.specs.Grammar.{text_or_null, setting, partition_value, lists_features, protocol, meta_data, add, remove, object_action, line_action, record_count, stated_count}
use Rattle.delta_log.specs.Judging.{is_newline, acts_on, with_action, with_line, with_lines, with_new_file, no_lines, commit_of}
use Rattle.delta_log.specs.Sound.{HaveDistinctNames, HasNeededFeatures, IsSoundFile, IsWritable}
use Rattle.delta_text.specs.Writing.{add_data, protocol_data, meta_data_data, stats_data, file_data, line_text, commit_text, sorted_pairs, sorted_file, sorted_meta, sorted_commit, SameMeta, SameFile, SameFiles, SameCommit}
use Rattle.delta_text.specs.Again.{HasReadableStats, HasReadableUri, IsFileAgain, IsProtocolAgain, HasReadableParts}
use Rattle.delta_log.proofs.FaultLemmas.{distinct_last}
use Rattle.delta_log.proofs.SaysLemmas.{reads_text_or_null}
use Rattle.delta_text.proofs.SortedLemmas.{sorted_pairs_same}
use Rattle.delta_text.proofs.WrittenLemmas.{is_line, is_line-compact_text, each-members_with}

-- ---- parts

values_again : (vs : List (List ℕ × Option (List ℕ))) → each partition_value (pairs (members_with text_or_null_data vs no_members)) ≡ Ok (sorted_pairs vs)
values_again vs = each-members_with text_or_null text_or_null_data reads_text_or_null vs no_members [] refl

settings_again : (ps : List (List ℕ × List ℕ)) → each setting (pairs (members_with string ps no_members)) ≡ Ok (sorted_pairs ps)
settings_again ps = each-members_with (text Malformed) string (λ s. refl) ps no_members [] refl

texts_again : (ts : List (List ℕ)) → each (text Malformed) (items (texts_data ts)) ≡ Ok ts
texts_again [] = refl
texts_again (t ∷ ts) = rw (texts_again ts)

integer_again : (z : ℤ) → FitsSigned w64 z → as_i64 (of_integer z) ≡ Some z
integer_again (pos n) fits = let small : n < 2 ^ 63 = omega (arith, ints, fits) in rw (natural_test n small)
integer_again (negsuc n) fits = refl

-- ---- objects

abbrev protocol_of : ℤ → ℤ → Option (List (List ℕ)) → Option (List (List ℕ)) → Protocol
protocol_of v w r s = record { reader = v; writer = w; reader_features = r; writer_features = s }

abbrev no_list : Option (List (List ℕ))
no_list = None

not_listed : (b : Bool) → (b ≡ true → IsSome no_list) → (b && true) ≡ false
not_listed true needed = sym (needed refl)
not_listed false needed = refl

protocol_by : (v w : ℤ) (r s : Option (List (List ℕ))) → HasNeededFeatures (protocol_of v w r s) → as_i64 (of_integer v) ≡ Some v → as_i64 (of_integer w) ≡ Some w → object_action (protocol_data (protocol_of v w r s)) ≡ Ok (action.Protocol (protocol_of v w r s))
unfolding object_action protocol
protocol_by v w None None needed first second = rw (first, second, not_listed (lists_features v) needed)
protocol_by v w (Some ts) None needed first second = rw (first, second, texts_again ts, and_false (lists_features v))
protocol_by v w None (Some us) needed first second = rw (first, second, not_listed (lists_features v) needed, texts_again us)
protocol_by v w (Some ts) (Some us) needed first second = rw (first, second, texts_again ts, and_false (lists_features v), texts_again us)

protocol_again : (p : Protocol) → HasNeededFeatures p → IsProtocolAgain p → object_action (protocol_data p) ≡ Ok (action.Protocol p)
protocol_again p needed again = protocol_by p.reader p.writer p.reader_features p.writer_features needed (integer_again p.reader again.reader) (integer_again p.writer again.writer)

meta_again : (m : MetaData) → object_action (meta_data_data m) ≡ Ok (action.MetaData (sorted_meta m) true)
unfolding object_action meta_data
meta_again m = rw (texts_again m.partition, settings_again m.configuration)

abbrev action_of : FileAction → LineAction
action_of (file.Add path values size count) = action.Add (escaped_path path) (sorted_pairs values) size (Some count) false
action_of (file.Remove path) = action.Remove (escaped_path path) false

json_is_read : (b : Bool) (o : Option Data) (d : Data) → cond b o None ≡ Some d → o ≡ Some d
json_is_read true o d is = is
json_is_read false o d is = absurd (cc)

counted_again : (stats : List ℕ) (count : ℕ) → count < 2 ^ 63 → json stats ≡ Some (stats_data count) → stated_count stats ≡ Ok (Some count)
unfolding stated_count
counted_again stats count small is = let reads : read stats ≡ Some (stats_data count) = json_is_read (is_utf8 stats) (read stats) (stats_data count) is in rw (reads, natural_test count small)

add_again : (now : ℕ) (uri : List ℕ) (ms : Members) (vs : List (List ℕ × Option (List ℕ))) (size : ℕ) (stats : List ℕ) (count : ℕ) → each partition_value (pairs ms) ≡ Ok vs → size < 2 ^ 63
    → (length stats == 0) ≡ false → stated_count stats ≡ Ok (Some count) → object_action (add_data now uri (object ms) size stats) ≡ Ok (action.Add uri vs size (Some count) false)
unfolding object_action add record_count
add_again now uri ms vs size stats count values small some counted = rw (values, natural_test size small, some, counted)

file_again : (now : ℕ) (f : FileAction) → IsSoundFile f → HasReadableStats f → object_action (file_data now f) ≡ Ok (action_of f)
unfolding object_action remove
file_again now (file.Add path values size count) sound stats =
    add_again now (escaped_path path) (members_with text_or_null_data values no_members) (sorted_pairs values) size (compact_text (stats_data count)) count (values_again values) sound.2 (grind (arith, common_steps))
    (counted_again (compact_text (stats_data count)) count sound.3 stats)
file_again now (file.Remove path) sound stats = refl

-- ---- lines

object_line : (c e : DeltaCommit) (ms : Members) (a : LineAction) → IsReadAgain (object ms) → object_action (object ms) ≡ Ok a → with_action c a ≡ Ok e → with_line c (compact_text (object ms)) ≡ Ok e
unfolding with_line line_action
object_line c e ms a again says judged = rw (again, says) judged

split_line : (xs ys : List ℕ) → is_line xs → slice_split is_newline (xs ++ 10 ∷ ys) ≡ xs ∷ slice_split is_newline ys
split_line [] ys line = refl
split_line (x ∷ xs) ys line =
    let parts = or_parts _ _ line in
    slice_split-cons_no is_newline x (xs ++ 10 ∷ ys) parts.0 ∙ ap (onto_first x) (split_line xs ys parts.1)

-- behind these bytes, reading goes on from this commit
pub record GoesOn (out : List ℕ) (c : DeltaCommit) : Type 0 where
  pub number : ℕ
  pub goes_on : (rest : List ℕ) → commit_of (out ++ rest) ≡ with_lines number c (slice_split is_newline rest)

on_none : GoesOn [] no_lines
unfolding commit_of
on_none = record { number = 1; goes_on = λ rest. refl }

one_line : (n : ℕ) (c e : DeltaCommit) (line : List ℕ) (more : List (List ℕ)) → with_line c line ≡ Ok e → with_lines n c (line ∷ more) ≡ with_lines (n + 1) e more
unfolding with_lines
one_line n c e line more read = rw read

on_line : (out : List ℕ) (c e : DeltaCommit) (d : Data) → GoesOn out c → with_line c (compact_text d) ≡ Ok e → GoesOn (out ++ line_text d) e
on_line out c e d so_far read = record {
  number = so_far.number + 1;
  goes_on = λ rest.
      let placed : (out ++ line_text d) ++ rest ≡ out ++ (compact_text d ++ 10 ∷ rest) = append_assoc out (line_text d) rest ∙ ap (λ s. out ++ s) (append_assoc (compact_text d) (10 ∷ []) rest) in
      ap commit_of placed ∙ so_far.goes_on (compact_text d ++ 10 ∷ rest) ∙ ap (with_lines so_far.number c) (split_line (compact_text d) rest (is_line-compact_text d))
      ∙ one_line so_far.number c e (compact_text d) (slice_split is_newline rest) read;
}

no_line : (n : ℕ) (c : DeltaCommit) → with_lines n c ([] ∷ []) ≡ Ok c
unfolding with_lines with_line line_action
no_line n c = refl

on_end : (out : List ℕ) (c : DeltaCommit) → GoesOn out c → commit_of out ≡ Ok c
on_end out c so_far = ap commit_of (sym (append-nil out)) ∙ so_far.goes_on [] ∙ no_line so_far.number c

-- ---- file actions

same_path : (f : FileAction) → file_path (sorted_file f) ≡ file_path f
same_path (file.Add path values size count) = refl
same_path (file.Remove path) = refl

same_paths : (fs : List FileAction) → file_paths (map sorted_file fs) ≡ file_paths fs
same_paths [] = refl
same_paths (f ∷ fs) = rw (same_path f, same_paths fs)

abbrev with_files : Option Protocol → Option MetaData → List FileAction → DeltaCommit
with_files p m fs = record { protocol = p; meta = m; files = map sorted_file fs }

judged : (c : DeltaCommit) (f : FileAction) → uri_path (escaped_path (file_path f)) ≡ inside_table (file_path f) → length c.files < MAX_ACTIONS → acts_on (file_path f) c.files ≡ false → with_action c (action_of f) ≡ Ok (with_new_file c (sorted_file f))
judged c (file.Add path values size count) leads few new = let room : nat_le MAX_ACTIONS (length c.files) ≡ false = grind (arith, common_steps) in rw (leads, room, new)
judged c (file.Remove path) leads few new = let room : nat_le MAX_ACTIONS (length c.files) ≡ false = grind (arith, common_steps) in rw (leads, room, new)

sound_path : (f : FileAction) → IsSoundFile f → HasReadableUri f → uri_path (escaped_path (file_path f)) ≡ inside_table (file_path f)
sound_path (file.Add path values size count) sound uri = uri sound.0
sound_path (file.Remove path) sound uri = uri sound

one_file : (now : ℕ) (c : DeltaCommit) (f : FileAction) → IsSoundFile f → IsFileAgain now f → length c.files < MAX_ACTIONS → acts_on (file_path f) c.files ≡ false
    → with_line c (compact_text (file_data now f)) ≡ Ok (with_new_file c (sorted_file f))
one_file now c (file.Add path values size count) sound again few new =
    let f = file.Add path values size count in
    object_line c _ _ (action_of f) again.line (file_again now f sound again.stats) (judged c f (sound_path f sound again.uri) few new)
one_file now c (file.Remove path) sound again few new =
    let f = file.Remove path in
    object_line c _ _ (action_of f) again.line (file_again now f sound again.stats) (judged c f (sound_path f sound again.uri) few new)

new_path : (before more : List FileAction) (f : FileAction) → IsDistinct bytes_eq (file_paths (before ++ f ∷ more)) → acts_on (file_path f) (map sorted_file before) ≡ false
new_path before more f distinct =
    let whole : file_paths (before ++ f ∷ more) ≡ (file_paths before ++ file_path f ∷ []) ++ file_paths more = map-append file_path before (f ∷ more) ∙ sym (append_assoc (file_paths before) (file_path f ∷ []) (file_paths more)) in
    let front = front_distinct (file_paths before ++ file_path f ∷ []) (file_paths more) (subst (IsDistinct bytes_eq) whole distinct) in
    ap (list_any (bytes_eq (file_path f))) (same_paths before) ∙ distinct_last (file_paths before) (file_path f) front

on_files : (now : ℕ) (p : Option Protocol) (m : Option MetaData) (before more : List FileAction) (out : List ℕ) → GoesOn out (with_files p m before) → All IsSoundFile more → AllByRecursion (IsFileAgain now) more
    → IsDistinct bytes_eq (file_paths (before ++ more)) → length before + length more ≤ MAX_ACTIONS → GoesOn (out ++ flat_map line_text (map (file_data now) more)) (with_files p m (before ++ more))
on_files now p m before [] out so_far sound again distinct few = rw (append-nil out, append-nil before) so_far
on_files now p m before (f ∷ more) out so_far sound again distinct few =
    let room : length (map sorted_file before) < MAX_ACTIONS = rw length-map (omega arith) in
    let next : with_line (with_files p m before) (compact_text (file_data now f)) ≡ Ok (with_files p m (before ++ f ∷ [])) =
    one_file now (with_files p m before) f (All-head IsSoundFile f more sound) again.0 room (new_path before more f distinct) ∙ ap (λ fs. Ok (record { protocol = p; meta = m; files = fs })) (sym (map-append sorted_file before (f ∷ []))) in
    let shorter : length (before ++ f ∷ []) + length more ≤ MAX_ACTIONS = rw length-append (omega arith) in
    let still : IsDistinct bytes_eq (file_paths ((before ++ f ∷ []) ++ more)) = subst (λ l. IsDistinct bytes_eq (file_paths l)) (sym (append_assoc before (f ∷ []) more)) distinct in
    let rest = on_files now p m (before ++ f ∷ []) more (out ++ line_text (file_data now f)) (on_line out _ _ (file_data now f) so_far next) (All-tail IsSoundFile f more sound) again.1 still shorter in
    rw (append_assoc out (line_text (file_data now f)) (flat_map line_text (map (file_data now) more)), append_assoc before (f ∷ []) more) at rest

-- ---- the whole commit

on_protocol : (o : Option Protocol) → IfSome o HasNeededFeatures → IfSome o IsProtocolAgain → GoesOn (flat_map line_text (map protocol_data (option_to_list o))) (with_files o None [])
on_protocol None needed again = on_none
on_protocol (Some p) needed again =
    let line : with_line no_lines (compact_text (protocol_data p)) ≡ Ok (with_files (Some p) None []) = object_line no_lines _ _ (action.Protocol p) again.line (protocol_again p needed again) refl in
    rw append-nil (on_line [] no_lines _ (protocol_data p) on_none line)

on_meta : (o : Option Protocol) (n : Option MetaData) (out : List ℕ) → IfSome n (λ m. IsReadAgain (meta_data_data m)) → GoesOn out (with_files o None []) → GoesOn (out ++ flat_map line_text (map meta_data_data (option_to_list n))) (with_files o (option_map sorted_meta n) [])
on_meta o None out again so_far = rw append-nil so_far
on_meta o (Some m) out again so_far =
    let line : with_line (with_files o None []) (compact_text (meta_data_data m)) ≡ Ok (with_files o (Some (sorted_meta m)) []) = object_line _ _ _ (action.MetaData (sorted_meta m) true) again (meta_again m) refl in
    rw append-nil (on_line out _ _ (meta_data_data m) so_far line)

pub commit_again : (now : ℕ) (c : DeltaCommit) → IsWritable c → HasReadableParts now c → commit_of (commit_text now c) ≡ Ok (sorted_commit c)
commit_again now c fits parts =
    let few : 0 + length c.files ≤ MAX_ACTIONS = omega (arith, fits.few) in
    let first = on_protocol c.protocol fits.protocol parts.protocol in
    let second = on_meta c.protocol c.meta _ parts.meta first in
    let whole = on_files now c.protocol (option_map sorted_meta c.meta) [] c.files _ second fits.sound.files parts.files fits.sound.distinct few in
    let protocols = map protocol_data (option_to_list c.protocol) in
    let metas = map meta_data_data (option_to_list c.meta) in
    let lines = map (file_data now) c.files in
    let placed = flat_map-append line_text protocols (metas ++ lines) ∙ ap (λ s. flat_map line_text protocols ++ s) (flat_map-append line_text metas lines)
    ∙ sym (append_assoc (flat_map line_text protocols) (flat_map line_text metas) (flat_map line_text lines)) in
    ap commit_of placed ∙ on_end _ _ whole

-- ---- the same commit

same_file : (f : FileAction) → IsSoundFile f → SameFile f (sorted_file f)
same_file (file.Add path values size count) sound = (refl, sorted_pairs_same values sound.1, refl, refl)
same_file (file.Remove path) sound = refl

same_files : (fs : List FileAction) → All IsSoundFile fs → SameFiles fs (map sorted_file fs)
same_files [] sound = tt
same_files (f ∷ fs) sound = (same_file f (All-head IsSoundFile f fs sound), same_files fs (All-tail IsSoundFile f fs sound))

same_meta : (o : Option MetaData) → IfSome o (λ m. IsDistinct bytes_eq (map (λ p. p.0) m.configuration)) → SameMeta o (option_map sorted_meta o)
same_meta None names = tt
same_meta (Some m) names = (refl, refl, refl, sorted_pairs_same m.configuration names)

pub same_again : (c : DeltaCommit) → IsWritable c → SameCommit c (sorted_commit c)
same_again c fits = record { protocol = refl; meta = same_meta c.meta fits.sound.configuration; files = same_files c.files fits.sound.files }

-- ---- what is read again may be written again

names_sorted : {A : Type 0} (ps : List (List ℕ × A)) → HaveDistinctNames ps → HaveDistinctNames (sorted_pairs ps)
names_sorted ps distinct =
    IsDistinct-IsPermutation bytes_eq (λ x y. nat_list_eq_equiv.symm x y) (map (λ p. p.0) ps) (map (λ p. p.0) (sorted_pairs ps)) (IsPermutation-map (λ p. p.0) ps (sorted_pairs ps) (sorted_pairs_same ps distinct)) distinct

sound_file : (f : FileAction) → IsSoundFile f → IsSoundFile (sorted_file f)
sound_file (file.Add path values size count) sound = (sound.0, names_sorted values sound.1, sound.2, sound.3)
sound_file (file.Remove path) sound = sound

sound_files : (fs : List FileAction) → All IsSoundFile fs → All IsSoundFile (map sorted_file fs)
sound_files [] sound = All-nil IsSoundFile
sound_files (f ∷ fs) sound = All-cons IsSoundFile (sorted_file f) (map sorted_file fs) (sound_file f (All-head IsSoundFile f fs sound)) (sound_files fs (All-tail IsSoundFile f fs sound))

sound_settings : (o : Option MetaData) → IfSome o (λ m. HaveDistinctNames m.configuration) → IfSome (option_map sorted_meta o) (λ m. HaveDistinctNames m.configuration)
sound_settings None names = tt
sound_settings (Some m) names = names_sorted m.configuration names

pub writable_again : (c : DeltaCommit) → IsWritable c → IsWritable (sorted_commit c)
writable_again c fits = record {
  sound = record {
    files = sound_files c.files fits.sound.files;
    distinct = subst (IsDistinct bytes_eq) (sym (same_paths c.files)) fits.sound.distinct;
    configuration = sound_settings c.meta fits.sound.configuration;
  };
  protocol = fits.protocol;
  few = rw length-map fits.few;
}

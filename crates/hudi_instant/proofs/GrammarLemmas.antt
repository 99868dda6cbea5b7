-- What reads an instant's JSON reads just what states an instant.
use Rattle.std.proofs.Common.{◌≡◌, ℕ, zero, suc, ◌+◌, ◌<◌, ◌≤◌, ◌^◌, inl, inr, List, [], ◌∷◌, ◌++◌, length, get_or, Option, Some, None, option_and_then, Bool, true, false, cond, Result, Ok, Err, refl, sym, ap, subst, ◌∙◌, append_assoc, arith, nat_lt, nat_le}
use Rattle.std.specs.Prelude.{codes, All, option_to_list, IsSome, IfOk, IsErrOf}
use Rattle.std.specs.List.{AllByRecursion}
use Rattle.std.proofs.lemmas.Grind.{common_steps}
use Rattle.std.proofs.lemmas.List.{append-nil}
use Rattle.serde_json.specs.Data.{Data, null, boolean, number, string, array, object, Members, no_members, member}
use Rattle.serde_json.specs.Find.{get, as_str, as_array, as_object}
use Rattle.json_reading.specs.Json.{json, present, count, items, pairs, text, text_member, count_member, object_member}
use Rattle.lake_basics.specs.Outcome.{◌>>=◌, required}
use Rattle.table_history.specs.Path.{IsPathOfAnyLength, is_path_of_any_length}
use Rattle.table_history.proofs.PathTests.{path_of_any_length_decided}
use Rattle.hudi_names.specs.declared.error.HudiError.{HudiError}
use Rattle.hudi_instant.specs.declared.instant.Instant.{Instant}
use Rattle.hudi_instant.specs.declared.instant.Stat.{Stat}
use Rattle.hudi_names.specs.declared.error.HudiError.TheVariants.{Memory, Malformed, Unsupported, Limit}
use Rattle.lake_basics.specs.declared.limits.TheConstants.{MAX_ACTIONS}
use Rattle.table_history.specs.declared.limit.LimitKind.TheVariants.{Actions}
use Rattle.lake_basics.specs.Outcome.{FailsUnlessMemory}
use Rattle.lake_basics.proofs.Numbers.{natural_test}
use Rattle.hudi_names.specs.Errors.{malformed, is_memory, Gives}
use Rattle.hudi_instant.specs.Instants as read
use Rattle.hudi_instant.specs.InstantGrammar.{IsSize, IsStat, IsSkipped, AreStats, ArraysHoldStats, AreIds, ArraysHoldIds, AreReplaced, IsTextOrNone, IsExtraText, StatesInstant, mark_in}
use Rattle.hudi_instant.specs.InstantText.{IsSoundStat, IsSound}
use Rattle.hudi_instant.proofs.PathForms.{is_path_of_any_length-true}

-- ---- steps of a reading

then_ok : {A B : Type 0} (r : Result A HudiError) (f : A → Result B HudiError) (b : B) → (r >>= f) ≡ Ok b → (a : A) × (r ≡ Ok a) × (f a ≡ Ok b)
then_ok (Ok a) f b is = (a, refl, is)
then_ok (Err e) f b is = absurd (cc)

required_ok : {A : Type 0} (o : Option A) (a : A) → required malformed o ≡ Ok a → o ≡ Some a
required_ok None a is = absurd (cc)
required_ok (Some x) a is = let same : x ≡ a = cc in ap Some same

present_member : (o : Option Data) (P : Data → Option (List ℕ)) (t : List ℕ) → option_and_then P o ≡ Some t → (d : Data) × (o ≡ Some d) × (P d ≡ Some t)
present_member None P t is = absurd (cc)
present_member (Some d) P t is = (d, refl, is)

counted_member : (o : Option Data) (n : ℕ) → option_and_then count o ≡ Some n → (d : Data) × (o ≡ Some d) × (count d ≡ Some n)
counted_member None n is = absurd (cc)
counted_member (Some d) n is = (d, refl, is)

text_read : (name : List ℕ) (d : Data) (t : List ℕ) → text_member name d ≡ Some t → read.text_member name d ≡ Ok t
text_read name d t is = let at = present_member (get name d) as_str t is in rw (at.1, at.2)

text_stated : (name : List ℕ) (d : Data) (t : List ℕ) → read.text_member name d ≡ Ok t → text_member name d ≡ Some t
text_stated name d t is =
    let at = then_ok (required malformed (get name d)) (text malformed) t is in rw (required_ok (get name d) at.0 at.1) (required_ok (as_str at.0) t at.2)

number_read : (d : Data) (n : ℕ) → count d ≡ Some n → n < 2 ^ 63 → read.size_number d ≡ Some n
number_read d n is small = rw (is, natural_test n small)

small_by : (b : Bool) (m n : ℕ) → nat_lt m (2 ^ 63) ≡ b → cond b (Some m) None ≡ Some n → (m ≡ n) × (m < 2 ^ 63)
small_by true m n test is = (cc, grind (arith, common_steps))
small_by false m n test is = absurd (cc)

number_by : (o : Option ℕ) (n : ℕ) → option_and_then read.if_small o ≡ Some n → (o ≡ Some n) × (n < 2 ^ 63)
number_by None n is = absurd (cc)
number_by (Some m) n is = let same = small_by (nat_lt m (2 ^ 63)) m n refl is in (ap Some same.0, subst (λ (k : ℕ). k < 2 ^ 63) same.0 same.1)

number_stated : (d : Data) (n : ℕ) → read.size_number d ≡ Some n → (count d ≡ Some n) × (n < 2 ^ 63)
number_stated d n is = number_by (count d) n is

size_read : (o : Option Data) (n : ℕ) → IsSize o n → read.size o ≡ Ok n
size_read None n is = ap Ok (sym is)
size_read (Some d) n is = rw (number_read d n is.0 is.1)

size_stated : (o : Option Data) (n : ℕ) → read.size o ≡ Ok n → IsSize o n
size_stated None n is = let same : 0 ≡ n = cc in sym same
size_stated (Some d) n is = number_stated d n (required_ok (read.size_number d) n is)

-- ---- a stat

data_path_read : (d : Data) (t : List ℕ) → as_str d ≡ Some t → IsPathOfAnyLength t → read.data_path d ≡ Ok t
data_path_read d t is form = rw (is, is_path_of_any_length-true t form)

formed_by : (b : Bool) (p t : List ℕ) → is_path_of_any_length p ≡ b → cond b (Ok p) (Err malformed) ≡ Ok t → (p ≡ t) × IsPathOfAnyLength p
formed_by true p t decided is = (cc, (path_of_any_length_decided p).0 decided)
formed_by false p t decided is = absurd (cc)

data_path_stated : (d : Data) (t : List ℕ) → read.data_path d ≡ Ok t → (as_str d ≡ Some t) × IsPathOfAnyLength t
data_path_stated d t is =
    let at = then_ok (text malformed d) (λ p. cond (is_path_of_any_length p) (Ok p) (Err malformed)) t is in
    let formed = formed_by (is_path_of_any_length at.0) at.0 t refl at.2 in
    (required_ok (as_str d) at.0 at.1 ∙ ap Some formed.0, subst IsPathOfAnyLength formed.0 formed.1)

is_object : (name : List ℕ) (d x : Data) → get name d ≡ Some x → (ms : Members) × (as_object d ≡ Some ms)
is_object name null x is = absurd (cc)
is_object name (boolean b) x is = absurd (cc)
is_object name (number n) x is = absurd (cc)
is_object name (string s) x is = absurd (cc)
is_object name (array ds) x is = absurd (cc)
is_object name (object ms) x is = (ms, refl)

some_of : {A : Type 0} (o : Option A) → IsSome o → (a : A) × (o ≡ Some a)
some_of None h = absurd (cc)
some_of (Some a) h = (a, refl)

abbrev alone : Data → Option Data
alone d = present (codes "k") (object (member (codes "k") d no_members))

alone_text : (x : Data) (t : List ℕ) → as_str x ≡ Some t → alone x ≡ Some x
alone_text null t is = absurd (cc)
alone_text (boolean b) t is = absurd (cc)
alone_text (number n) t is = absurd (cc)
alone_text (string s) t is = refl
alone_text (array ds) t is = absurd (cc)
alone_text (object ms) t is = absurd (cc)

alone_same : (y x : Data) → alone y ≡ Some x → y ≡ x
alone_same null x is = absurd (cc)
alone_same (boolean b) x is = cc
alone_same (number n) x is = cc
alone_same (string s) x is = cc
alone_same (array ds) x is = cc
alone_same (object ms) x is = cc

and_then_same : (o : Option Data) (x : Data) → option_and_then alone o ≡ Some x → o ≡ Some x
and_then_same None x is = absurd (cc)
and_then_same (Some y) x is = ap Some (alone_same y x is)

present_stated : (name : List ℕ) (d x : Data) → present name d ≡ Some x → get name d ≡ Some x
present_stated name d x is = and_then_same (get name d) x is

present_text : (name : List ℕ) (d x : Data) (t : List ℕ) → get name d ≡ Some x → as_str x ≡ Some t → present name d ≡ Some x
present_text name d x t at is = rw at (alone_text x t is)

stat_read : (d : Data) (s : Stat) → IsStat d s → read.stat d ≡ Ok (Some s)
unfolding read.stat
stat_read d s h =
    let path = present_member (get (codes "path") d) as_str s.path h.path in
    let whole = is_object (codes "path") d path.0 path.1 in
    let named = present_text (codes "path") d path.0 s.path path.1 path.2 in
    let writes = counted_member (get (codes "numWrites") d) s.writes h.writes in
    rw (
      whole.1,
      named,
      data_path_read path.0 s.path path.2 h.form,
      text_read (codes "fileId") d s.file_id h.file_id,
      text_read (codes "partitionPath") d s.partition_path h.partition_path,
      writes.1,
      number_read writes.0 s.writes writes.2 h.small,
      size_read (get (codes "fileSizeInBytes") d) s.size h.size,
    )

stat_skipped : (d : Data) → IsSkipped d → read.stat d ≡ Ok None
unfolding read.stat
stat_skipped d h = let whole = some_of (as_object d) h.shape in rw (whole.1, h.path)

-- what a stat that was read is
abbrev IsReadStat : Data → Option Stat → Type 0
IsReadStat d None = IsSkipped d
IsReadStat d (Some s) = IsStat d s

abbrev stat_made : List ℕ → List ℕ → List ℕ → ℕ → ℕ → Stat
stat_made path file_id partition_path writes size = record { file_id = file_id; partition_path = partition_path; path = path; writes = writes; size = size }

abbrev stat_given : Option Stat → Result (Option Stat) HudiError
stat_given o = Ok o

made_by : (d : Data) (s : Stat) (o : Option Stat) → IsStat d s → stat_given (Some s) ≡ stat_given o → IsReadStat d o
made_by d s None h is = absurd (cc)
made_by d s (Some t) h is = let same : s ≡ t = cc in subst (IsStat d) same h

counted_at : (name : List ℕ) (d x : Data) (n : ℕ) → get name d ≡ Some x → count x ≡ Some n → count_member name d ≡ Some n
counted_at name d x n at is = rw (at, is)

text_at : (name : List ℕ) (d x : Data) (t : List ℕ) → get name d ≡ Some x → as_str x ≡ Some t → text_member name d ≡ Some t
text_at name d x t at is = rw (at, is)

object_at : (name : List ℕ) (d x : Data) (ms : Members) → get name d ≡ Some x → as_object x ≡ Some ms → object_member name d ≡ Some ms
object_at name d x ms at is = rw (at, is)

stat_at_stated : (p : Option Data) (d : Data) (o : Option Stat) → IsSome (as_object d) → present (codes "path") d ≡ p → read.stat_at d p ≡ Ok o → IsReadStat d o
stat_at_stated None d None shape at is = record { shape = shape; path = at }
stat_at_stated None d (Some s) shape at is = absurd (cc)
stat_at_stated (Some x) d o shape at is =
    let path = then_ok (read.data_path x) _ o is in
    let file_id = then_ok (read.text_member (codes "fileId") d) _ o path.2 in
    let partition = then_ok (read.text_member (codes "partitionPath") d) _ o file_id.2 in
    let number = then_ok (required malformed (get (codes "numWrites") d)) _ o partition.2 in
    let writes = then_ok (required malformed (read.size_number number.0)) _ o number.2 in
    let sized = number_stated number.0 writes.0 (required_ok (read.size_number number.0) writes.0 writes.1) in
    let size = then_ok (read.size (get (codes "fileSizeInBytes") d)) _ o writes.2 in
    let formed = data_path_stated x path.0 path.1 in
    let counted = counted_at (codes "numWrites") d number.0 writes.0 (required_ok (get (codes "numWrites") d) number.0 number.1) sized.0 in
    let named = text_at (codes "path") d x path.0 (present_stated (codes "path") d x at) formed.0 in
    made_by d (stat_made path.0 file_id.0 partition.0 writes.0 size.0) o
    (record {
      path = named;
      form = formed.1;
      file_id = text_stated (codes "fileId") d file_id.0 file_id.1;
      partition_path = text_stated (codes "partitionPath") d partition.0 partition.1;
      writes = counted;
      small = sized.1;
      size = size_stated (get (codes "fileSizeInBytes") d) size.0 size.1;
    }) size.2

stat_stated : (d : Data) (o : Option Stat) → read.stat d ≡ Ok o → IsReadStat d o
unfolding read.stat
stat_stated d o is =
    let whole = then_ok (required malformed (as_object d)) (λ ms. read.stat_at d (present (codes "path") d)) o is in
    let shape : IsSome (as_object d) = rw (required_ok (as_object d) whole.0 whole.1) refl in stat_at_stated (present (codes "path") d) d o shape refl whole.2

-- ---- arrays of stats

stats_read : (found ss : List Stat) (ds : List Data) → AreStats ds ss → read.with_stats found ds ≡ Ok (found ++ ss)
stats_read found ss [] is = ap Ok (sym (append-nil found) ∙ ap (λ l. found ++ l) (sym is))
stats_read found ss (d ∷ ds) (inl h) = rw (stat_skipped d h.0, append-nil found) (stats_read found ss ds h.1)
stats_read found ss (d ∷ ds) (inr h) =
    rw (stat_read d h.0 h.2) (stats_read (found ++ h.0 ∷ []) h.1 ds h.3 ∙ ap Ok (append_assoc found (h.0 ∷ []) h.1 ∙ ap (λ l. found ++ l) (sym h.4)))

-- the stats that were read behind those found
abbrev ReadBehind : {B : Type 0} → List B → List B → (List B → Type 0) → Type 0
ReadBehind {B} found r P = (new : List B) × P new × (r ≡ found ++ new)

one_more : (o : Option Stat) (d : Data) (ds : List Data) (found r : List Stat) → IsReadStat d o → ReadBehind (found ++ option_to_list o) r (AreStats ds) → ReadBehind found r (AreStats (d ∷ ds))
one_more None d ds found r one more = (more.0, inl (one, more.1), more.2 ∙ ap (λ l. l ++ more.0) (append-nil found))
one_more (Some s) d ds found r one more = (s ∷ more.0, inr (s, more.0, one, more.1, refl), more.2 ∙ append_assoc found (s ∷ []) more.0)

stats_stated : (found r : List Stat) (ds : List Data) → read.with_stats found ds ≡ Ok r → ReadBehind found r (AreStats ds)
stats_stated found r [] is = let same : found ≡ r = cc in ([], refl, sym same ∙ sym (append-nil found))
stats_stated found r (d ∷ ds) is =
    let one = then_ok (read.stat d) (λ s. read.with_stats (found ++ option_to_list s) ds) r is in
    one_more one.0 d ds found r (stat_stated d one.0 one.1) (stats_stated (found ++ option_to_list one.0) r ds one.2)

partitions_read : (found ss : List Stat) (ps : List (List ℕ × Data)) → ArraysHoldStats ps ss → read.with_partitions found ps ≡ Ok (found ++ ss)
partitions_read found ss [] is = ap Ok (sym (append-nil found) ∙ ap (λ l. found ++ l) (sym is))
partitions_read found ss (p ∷ ps) h =
    rw (h.3, stats_read found h.1 (items h.0) h.4) (partitions_read (found ++ h.1) h.2 ps h.5 ∙ ap Ok (append_assoc found h.1 h.2 ∙ ap (λ l. found ++ l) (sym h.6)))

partitions_stated : (found r : List Stat) (ps : List (List ℕ × Data)) → read.with_partitions found ps ≡ Ok r → ReadBehind found r (ArraysHoldStats ps)
partitions_stated found r [] is = let same : found ≡ r = cc in ([], refl, sym same ∙ sym (append-nil found))
partitions_stated found r (p ∷ ps) is =
    let list = then_ok (required malformed (as_array p.1)) _ r is in
    let more = then_ok (read.with_stats found (items list.0)) _ r list.2 in
    let front = stats_stated found more.0 (items list.0) more.1 in
    let rest = partitions_stated more.0 r ps more.2 in (
      front.0 ++ rest.0,
      (list.0, front.0, rest.0, required_ok (as_array p.1) list.0 list.1, front.1, rest.1, refl),
      rest.2 ∙ ap (λ l. l ++ rest.0) front.2 ∙ append_assoc found front.0 rest.0,
    )

-- ---- arrays of ids

ids_read : (found ids : List (List ℕ × List ℕ)) (k : List ℕ) (ds : List Data) → AreIds k ds ids → read.with_ids found k ds ≡ Ok (found ++ ids)
ids_read found ids k [] is = ap Ok (sym (append-nil found) ∙ ap (λ l. found ++ l) (sym is))
ids_read found ids k (d ∷ ds) h =
    rw h.2 (ids_read (found ++ (k, h.0) ∷ []) h.1 k ds h.3 ∙ ap Ok (append_assoc found ((k, h.0) ∷ []) h.1 ∙ ap (λ l. found ++ l) (sym h.4)))

ids_stated : (found r : List (List ℕ × List ℕ)) (k : List ℕ) (ds : List Data) → read.with_ids found k ds ≡ Ok r → ReadBehind found r (AreIds k ds)
ids_stated found r k [] is = let same : found ≡ r = cc in ([], refl, sym same ∙ sym (append-nil found))
ids_stated found r k (d ∷ ds) is =
    let id = then_ok (text malformed d) (λ id. read.with_ids (found ++ (k, id) ∷ []) k ds) r is in
    let rest = ids_stated (found ++ (k, id.0) ∷ []) r k ds id.2 in
    ((k, id.0) ∷ rest.0, (id.0, rest.0, required_ok (as_str d) id.0 id.1, rest.1, refl), rest.2 ∙ append_assoc found ((k, id.0) ∷ []) rest.0)

replaced_read : (found ids : List (List ℕ × List ℕ)) (ps : List (List ℕ × Data)) → ArraysHoldIds ps ids → read.with_replaced found ps ≡ Ok (found ++ ids)
replaced_read found ids [] is = ap Ok (sym (append-nil found) ∙ ap (λ l. found ++ l) (sym is))
replaced_read found ids (p ∷ ps) h =
    rw (h.3, ids_read found h.1 p.0 (items h.0) h.4) (replaced_read (found ++ h.1) h.2 ps h.5 ∙ ap Ok (append_assoc found h.1 h.2 ∙ ap (λ l. found ++ l) (sym h.6)))

replaced_stated : (found r : List (List ℕ × List ℕ)) (ps : List (List ℕ × Data)) → read.with_replaced found ps ≡ Ok r → ReadBehind found r (ArraysHoldIds ps)
replaced_stated found r [] is = let same : found ≡ r = cc in ([], refl, sym same ∙ sym (append-nil found))
replaced_stated found r (p ∷ ps) is =
    let list = then_ok (required malformed (as_array p.1)) _ r is in
    let more = then_ok (read.with_ids found p.0 (items list.0)) _ r list.2 in
    let front = ids_stated found more.0 p.0 (items list.0) more.1 in
    let rest = replaced_stated more.0 r ps more.2 in (
      front.0 ++ rest.0,
      (list.0, front.0, rest.0, required_ok (as_array p.1) list.0 list.1, front.1, rest.1, refl),
      rest.2 ∙ ap (λ l. l ++ rest.0) front.2 ∙ append_assoc found front.0 rest.0,
    )

gone_read : (o : Option Data) (ids : List (List ℕ × List ℕ)) → AreReplaced o ids → read.replaced o ≡ Ok ids
gone_read None ids is = ap Ok (sym is)
gone_read (Some d) ids h = rw h.1 (replaced_read [] ids (pairs h.0) h.2)

gone_stated : (o : Option Data) (ids : List (List ℕ × List ℕ)) → read.replaced o ≡ Ok ids → AreReplaced o ids
gone_stated None ids is = let same : [] ≡ ids = cc in sym same
gone_stated (Some d) ids is =
    let whole = then_ok (required malformed (as_object d)) (λ ms. read.with_replaced [] (pairs ms)) ids is in
    let all = replaced_stated [] ids (pairs whole.0) whole.2 in (whole.0, required_ok (as_object d) whole.0 whole.1, subst (ArraysHoldIds (pairs whole.0)) (sym all.2) all.1)

-- ---- texts

text_if_any_read : (o : Option Data) (t : Option (List ℕ)) → IsTextOrNone o t → read.text_if_any o ≡ Ok t
text_if_any_read None t is = ap Ok (sym is)
text_if_any_read (Some d) t h = rw h.1 (ap Ok (sym h.2))

text_if_any_stated : (o : Option Data) (t : Option (List ℕ)) → read.text_if_any o ≡ Ok t → IsTextOrNone o t
text_if_any_stated None t is = let same : None ≡ t = cc in sym same
text_if_any_stated (Some d) t is =
    let stated = then_ok (text malformed d) (λ s. Ok (Some s)) t is in
    let same : Some stated.0 ≡ t = cc in (stated.0, required_ok (as_str d) stated.0 stated.1, sym same)

extra_read : (o : Option Data) (name : List ℕ) (t : Option (List ℕ)) → IsExtraText o name t → read.extra_text o name ≡ Ok t
extra_read None name t is = ap Ok (sym is)
extra_read (Some extra) name t h = let whole = some_of (as_object extra) h.0 in rw whole.1 (text_if_any_read (present name extra) t h.1)

extra_stated : (o : Option Data) (name : List ℕ) (t : Option (List ℕ)) → read.extra_text o name ≡ Ok t → IsExtraText o name t
extra_stated None name t is = let same : None ≡ t = cc in sym same
extra_stated (Some extra) name t is =
    let whole = then_ok (required malformed (as_object extra)) (λ ms. read.text_if_any (present name extra)) t is in
    let shape : IsSome (as_object extra) = rw (required_ok (as_object extra) whole.0 whole.1) refl in (shape, text_if_any_stated (present name extra) t whole.2)

-- ---- the whole

object_by : (o : Option Data) (ms : Members) → option_and_then as_object o ≡ Some ms → (x : Data) × (o ≡ Some x) × (as_object x ≡ Some ms)
object_by None ms is = absurd (cc)
object_by (Some x) ms is = (x, refl, is)

object_read : (name : List ℕ) (d : Data) (ms : Members) → object_member name d ≡ Some ms → (x : Data) × (get name d ≡ Some x) × (as_object x ≡ Some ms)
object_read name d ms is = object_by (get name d) ms is

abbrev instant_made : List Stat → List (List ℕ × List ℕ) → Option (List ℕ) → Option (List ℕ) → Instant
instant_made stats gone schema mark = record { stats = stats; replaced = gone; schema = schema; mark = mark }

pub instant_read : (d : Data) (i : Instant) → StatesInstant d i → read.instant d ≡ Ok i
unfolding read.instant
instant_read d i h =
    let held = object_read (codes "partitionToWriteStats") d h.partitions h.has_stats in
    let whole = is_object (codes "partitionToWriteStats") d held.0 held.1 in
    rw (
      whole.1,
      held.1,
      held.2,
      partitions_read [] i.stats (pairs h.partitions) h.stats,
      gone_read (present (codes "partitionToReplaceFileIds") d) i.replaced h.replaced,
      extra_read (present (codes "extraMetadata") d) (codes "schema") i.schema h.schema,
    )
    (ap (λ mark. Ok (instant_made i.stats i.replaced i.schema mark)) (sym h.mark))

pub instant_stated : (d : Data) (i : Instant) → read.instant d ≡ Ok i → StatesInstant d i
unfolding read.instant
instant_stated d i is =
    let whole = then_ok (required malformed (as_object d)) _ i is in
    let held = then_ok (required malformed (get (codes "partitionToWriteStats") d)) _ i whole.2 in
    let members = then_ok (required malformed (as_object held.0)) _ i held.2 in
    let stats = then_ok (read.with_partitions [] (pairs members.0)) _ i members.2 in
    let gone = then_ok (read.replaced (present (codes "partitionToReplaceFileIds") d)) _ i stats.2 in
    let schema = then_ok (read.extra_text (present (codes "extraMetadata") d) (codes "schema")) _ i gone.2 in
    let same : instant_made stats.0 gone.0 schema.0 (mark_in (present (codes "extraMetadata") d)) ≡ i = let made = schema.2 in cc in
    let has = object_at (codes "partitionToWriteStats") d held.0 members.0 (required_ok (get (codes "partitionToWriteStats") d) held.0 held.1) (required_ok (as_object held.0) members.0 members.1) in
    let all = partitions_stated [] stats.0 (pairs members.0) stats.1 in
    subst (StatesInstant d) same
    (record {
      partitions = members.0;
      has_stats = has;
      stats = subst (ArraysHoldStats (pairs members.0)) (sym all.2) all.1;
      replaced = gone_stated (present (codes "partitionToReplaceFileIds") d) gone.0 gone.1;
      schema = extra_stated (present (codes "extraMetadata") d) (codes "schema") schema.0 schema.1;
      mark = refl;
    })

-- ---- what an instant that was read is fit for

size_small : (o : Option Data) (n : ℕ) → IsSize o n → n < 2 ^ 63
size_small None n is = subst (λ (k : ℕ). k < 2 ^ 63) (sym is) (omega arith)
size_small (Some d) n is = is.1

stat_sound : (d : Data) (s : Stat) → IsStat d s → IsSoundStat s
stat_sound d s h = record { path = h.form; writes = h.small; size = size_small (get (codes "fileSizeInBytes") d) s.size h.size }

all_joined : (xs ys : List Stat) → AllByRecursion IsSoundStat xs → AllByRecursion IsSoundStat ys → AllByRecursion IsSoundStat (xs ++ ys)
all_joined [] ys h k = k
all_joined (x ∷ xs) ys h k = (h.0, all_joined xs ys h.1 k)

stats_sound : (ds : List Data) (ss : List Stat) → AreStats ds ss → AllByRecursion IsSoundStat ss
stats_sound [] ss is = subst (AllByRecursion IsSoundStat) (sym is) tt
stats_sound (d ∷ ds) ss (inl h) = stats_sound ds ss h.1
stats_sound (d ∷ ds) ss (inr h) = subst (AllByRecursion IsSoundStat) (sym h.4) (stat_sound d h.0 h.2, stats_sound ds h.1 h.3)

arrays_sound : (ps : List (List ℕ × Data)) (ss : List Stat) → ArraysHoldStats ps ss → AllByRecursion IsSoundStat ss
arrays_sound [] ss is = subst (AllByRecursion IsSoundStat) (sym is) tt
arrays_sound (p ∷ ps) ss h = subst (AllByRecursion IsSoundStat) (sym h.6) (all_joined h.1 h.2 (stats_sound (items h.0) h.1 h.4) (arrays_sound ps h.2 h.5))

each_at : (s : Stat) (ss : List Stat) (k : ℕ) (d : Stat) → IsSoundStat s → All IsSoundStat ss → k < length (s ∷ ss) → IsSoundStat (get_or (s ∷ ss) k d)
each_at s ss zero d first more within = first
each_at s ss (suc k) d first more within = more k d (omega (arith, within))

each_from : (s : Stat) (ss : List Stat) → IsSoundStat s → All IsSoundStat ss → All IsSoundStat (s ∷ ss)
each_from s ss first more = λ k d within. each_at s ss k d first more within

each_of : (ss : List Stat) → AllByRecursion IsSoundStat ss → All IsSoundStat ss
each_of [] h = λ k d within. absurd (omega (arith, within))
each_of (s ∷ ss) h = each_from s ss h.0 (each_of ss h.1)

few_by : (b : Bool) (i j : Instant) → nat_le (length i.stats + length i.replaced) MAX_ACTIONS ≡ b → cond b (Ok i) (Err (Limit Actions)) ≡ Ok j → (i ≡ j) × (length i.stats + length i.replaced ≤ MAX_ACTIONS)
few_by true i j test is = (cc, grind (arith, common_steps))
few_by false i j test is = absurd (cc)

-- what reading bytes gives, and what is true of it
pub record ReadsInstant (bytes : List ℕ) (i : Instant) : Type 0 where
  pub states : (d : Data) × (json bytes ≡ Some d) × StatesInstant d i
  pub sound : IsSound i

pub read_gives : (bytes : List ℕ) (i : Instant) → read.json_instant bytes ≡ Ok i → ReadsInstant bytes i
unfolding read.json_instant
read_gives bytes i is =
    let d = then_ok (required malformed (json bytes)) (λ d. read.instant d >>= read.within_actions) i is in
    let j = then_ok (read.instant d.0) read.within_actions i d.2 in
    let few = few_by (nat_le (length j.0.stats + length j.0.replaced) MAX_ACTIONS) j.0 i refl j.2 in
    let states = subst (StatesInstant d.0) few.0 (instant_stated d.0 j.0 j.1) in
    record {
      states = (d.0, required_ok (json bytes) d.0 d.1, states);
      sound = record { stats = each_of i.stats (arrays_sound (pairs states.partitions) i.stats states.stats); few = subst (λ (k : Instant). length k.stats + length k.replaced ≤ MAX_ACTIONS) few.0 few.1 };
    }

abbrev refused_with : HudiError → Result Instant HudiError
refused_with e = Err e

limit_not_malformed : (b : Bool) (i : Instant) → cond b (Ok i) (Err (Limit Actions)) ≡ refused_with malformed → ⊥
limit_not_malformed true i is = cc
limit_not_malformed false i is = cc

-- what is refused as malformed states no instant
pub read_refuses : (bytes : List ℕ) → read.json_instant bytes ≡ Err malformed → (d : Data) (i : Instant) → json bytes ≡ Some d → StatesInstant d i → ⊥
unfolding read.json_instant
read_refuses bytes is d i text states =
    let read_whole : read.json_instant bytes ≡ read.within_actions i = rw (text, instant_read d i states) refl in
    limit_not_malformed (nat_le (length i.stats + length i.replaced) MAX_ACTIONS) i (sym read_whole ∙ is)

pub grammar_of : (r : Result Instant HudiError) (bytes : List ℕ) → Gives r (read.json_instant bytes) → IfOk r (λ i. (d : Data) × (json bytes ≡ Some d) × StatesInstant d i)
grammar_of (Ok i) bytes h = (read_gives bytes i h).states
grammar_of (Err e) bytes h = tt

pub sound_of : (r : Result Instant HudiError) (bytes : List ℕ) → Gives r (read.json_instant bytes) → IfOk r IsSound
sound_of (Ok i) bytes h = (read_gives bytes i h).sound
sound_of (Err e) bytes h = tt

refusal_is : (e : HudiError) (reading : Result Instant HudiError) → FailsUnlessMemory (is_memory e) e reading → e ≡ malformed → reading ≡ Err malformed
refusal_is Memory reading h is = absurd (cc)
refusal_is (Malformed line) reading h is = h ∙ ap Err is
refusal_is (Unsupported feature) reading h is = h ∙ ap Err is
refusal_is (Limit which) reading h is = h ∙ ap Err is

pub refuses_of : (r : Result Instant HudiError) (bytes : List ℕ) → Gives r (read.json_instant bytes) → IsErrOf r malformed → (d : Data) (i : Instant) → json bytes ≡ Some d → StatesInstant d i → ⊥
refuses_of (Ok j) bytes h is d i text states = absurd (cc)
refuses_of (Err e) bytes h is d i text states = let same : e ≡ malformed = cc in read_refuses bytes (refusal_is e (read.json_instant bytes) h same) d i text states

-- The log of a drill passes no number where it is read.
use Rattle.std.proofs.Common.{◌≡◌, inl, inr, ⊎_elim, ℕ, zero, suc, ◌+◌, ◌*◌, ◌≤◌, ◌<◌, true, List, [], ◌∷◌, ◌++◌, length, map, Contains, Option, Some, None, refl, sym, ap, subst, ◌∙◌, codes, arith}
use Rattle.std.specs.Prelude.{slice_get}
use Rattle.std.specs.Bool.{Decides}
use Rattle.std.specs.Cmp.Lexicographic.{slice_cmp}
use Rattle.std.specs.FinMap as finmap
use Rattle.std.specs.Fmt.{decimal}
use Rattle.std.specs.List.{IsDistinct}
use Rattle.std.specs.Ordering.{nat_cmp}
use Rattle.std.proofs.lemmas.Bool.{cases_lt}
use Rattle.std.proofs.lemmas.Cmp.{eq_by_cmp_equiv, nat_list_cmp_total}
use Rattle.std.proofs.lemmas.List.{append_cancel_left, length-append, length-map}
use Rattle.table_history.proofs.RowListLemmas.{Contains-head, Contains-tail}
use Rattle.std.proofs.lemmas.Map.Keys.{IsDistinct-from_sorted}
use Rattle.std.proofs.lemmas.Map.Made.{is_member-Decides, length-le_from_is_member}
use Rattle.lake_basics.specs.declared.limits.TheConstants.{MAX_ACTIONS, MAX_COMMITS, MAX_FILE_BYTES, MAX_NAMES}
use Rattle.lake_basics.proofs.Texts.{fewer}
use Rattle.lake_basics.proofs.Lists.{some_at}
use Rattle.lake_basics.proofs.Options.{some_of}
use Rattle.lake_store.specs.Disk.{Files, names_in}
use Rattle.lake_store.proofs.DiskLaws.{is_path, path_here, same_path}
use Rattle.lake_store.proofs.OrderLaws.{names_in_listed}
use Rattle.table_history.specs.First.{IsFirst}
use Rattle.table_history.specs.Row.{Row}
use Rattle.table_history.specs.Rows.{paths_of}
use Rattle.table_history.specs.declared.limit.LimitKind.{LimitKind}
use Rattle.table_history.specs.declared.limit.LimitKind.TheVariants.{LiveFiles, PartitionColumns}
use Rattle.table_history.specs.declared.table.Commit.{Commit}
use Rattle.table_history.specs.declared.table.Table.{Table}
use Rattle.conformance.specs.Drill.{AreSaid, added_file, drill_bytes, drill_commit, numbers_under}
use Rattle.conformance.proofs.Bounds.{added_paths, few_files, path_there, paths_count, row_from, short_bytes}
use Rattle.conformance.proofs.Numbers.{length_map}
use Rattle.conformance.proofs.Tables.{added_or_not, base_of, no_meta, row_of_path, rows_after, step_of, table_after}
use Rattle.delta_live.specs.Live.{ActsOn, AddsRow, AreRowsBehind, PartColumns}
use Rattle.delta_change.specs.Change.{HasLargeSchema, IsChangeRefusal, Passes, commit_limits}
use Rattle.delta_change.specs.TableBehind.{partition_behind, rows_before}
use Rattle.delta_log.specs.Judging.{commit_of}
use Rattle.delta_log.specs.Readable.{IsReadableCommit}
use Rattle.delta_log.specs.VersionName.{IsVersionName}
use Rattle.delta_log.specs.declared.commit.DeltaCommit.{DeltaCommit}
use Rattle.delta_log.specs.declared.commit.FileAction.{FileAction}
use Rattle.delta_log.specs.declared.commit.MetaData.{MetaData}
use Rattle.delta_log.specs.declared.error.DeltaError.{DeltaError}
use Rattle.delta_log.specs.declared.error.DeltaError.TheVariants as errors
use Rattle.delta_log.proofs.ReadableLemmas.{fault_excluded, is_read}
use Rattle.delta_table.specs.Log.{IsReadLog, IsStep, SaysCommit}
use Rattle.delta_table.specs.Refusals.{IsLogRefusal, IsUnfit, IsUnreadable, IsVersionRefusal}
use Rattle.delta_table.specs.Versions.{HasVersion, HoldsVersion, IsVersionPath, log_folder}
use Rattle.delta_table.specs.declared.error.LogError.{LogError}
use Rattle.delta_table.specs.declared.error.LogError.TheVariants as log
use Rattle.delta_table.proofs.LogLaws.{step_made}
use Rattle.delta_table.proofs.PathLaws.{bytes_once, ok_once, path_once}
use Rattle.table_history.specs.Tables.{SameTable}
use Rattle.table_history.proofs.FirstLemmas.{none_first}
use Rattle.source_core.specs.declared.error.SourceError.TheVariants as source
use Rattle.source_delta.specs.LikeLemmas.{LikeBefore, SameBefore, like_before, next_like, next_same}
use Rattle.source_delta.specs.Reading.{HasEach, IsRefusedLog, LacksVersion, ShowsAtHead, ShowsFromScratch, Tells, TellsCommit}
use Rattle.source_delta.specs.Since.{AreCommits, HasManyActions, HasManyCommits, HaveActions, IsCommitOf, IsRefusedBehind, IsRefusedOver, ShowsFromPosition, StopsBehind}
use Rattle.lake_play.specs.Causes.{HoldsLog}
use Rattle.lake_play.proofs.Places.{numbers_back}
use Rattle.lake_play.proofs.Faults.{readable_step}
use Rattle.lake_play.proofs.Targets.{first_get}

-- ---- the log after some of the commits

-- Each version is that of a commit of the drill, and the log's folder has few names.
pub record IsDrillLog (number : ℕ) (files : Files) : Type 0 where
  pub each : (version : ℕ) (bytes : List ℕ) → HoldsVersion files version bytes → (version < 200) × (bytes ≡ drill_bytes number version)
  pub few : length (names_in files log_folder) ≤ 200

-- these are the first of the drill's commits
abbrev pub AreFirst : ℕ → List (List ℕ) → Type 0
AreFirst number commits = (behind : List (List ℕ)) × (commits ++ behind ≡ map (drill_bytes number) (numbers_under 200))

-- distinct names among these are no more than these
few_names : (xs ys : List (List ℕ)) → IsDistinct is_path xs → ((q : List ℕ) → Contains xs q → Contains ys q) → length xs ≤ length ys
few_names xs ys distinct among =
    length-le_from_is_member {eq = is_path} (eq_by_cmp_equiv nat_list_cmp_total) xs ys distinct (λ q is. (is_member-Decides {eq = is_path} decides ys q).1 (among q ((is_member-Decides {eq = is_path} decides xs q).0 is)))
  where
    decides : (a b : List ℕ) → Decides (is_path a b) (a ≡ b)
    decides a b = (λ is. same_path a b is, λ same. subst (λ (c : List ℕ). is_path a c ≡ true) same (path_here a))

module _ (number : ℕ) (files : Files) (commits : List (List ℕ)) (first_of : AreFirst number commits) (holds : HoldsLog commits files) where
  abbrev all : List (List ℕ)
  all = map (drill_bytes number) (numbers_under 200)

  few_commits : length commits ≤ 200
  few_commits =
      let both : length all ≡ length commits + length first_of.0 = ap (λ (l : List (List ℕ)). length l) (sym first_of.1) ∙ length-append commits first_of.0 in
      let count = length_map (drill_bytes number) 200 in
      omega (arith, both, count)

  bytes_at : (version : ℕ) (bytes : List ℕ) → slice_get commits version ≡ Some bytes → version < length commits → drill_bytes number version ≡ bytes
  bytes_at version bytes at within =
      let there : slice_get all version ≡ Some bytes = ap (λ (l : List (List ℕ)). slice_get l version) (sym first_of.1) ∙ first_get commits first_of.0 version within ∙ at in
      (numbers_back (drill_bytes number) 200 version bytes there).1

  each : (version : ℕ) (bytes : List ℕ) → HoldsVersion files version bytes → (version < 200) × (bytes ≡ drill_bytes number version)
  each version bytes held =
      let from = holds.1.only version (bytes, held) in
      let at = some_at commits version from.1 in
      let few = few_commits in
      let less = from.1 in
      (omega (arith, few, less), bytes_once files version bytes at.0 held (holds.1.holds version at.0 from.0 at.1) ∙ sym (bytes_at version at.0 at.1 from.1))

  -- the names of the versions before this one that are there
  names_before : (n : ℕ) → n ≤ length commits → (names : List (List ℕ)) × (length names ≤ n) × ((version : ℕ) (name : List ℕ) → version < n → holds.0 ≤ version → IsVersionName name version → Contains names name)
  names_before zero le = ([], omega arith, λ version name less from named. absurd (omega (arith, less)))
  names_before (suc n) le =
      let before = names_before n (omega (arith, le)) in
      let short = before.1 in
      ⊎_elim
      (λ (low : n < holds.0). (
        before.0,
        omega (arith, short),
        λ version name less from named. before.2 version name (omega (arith, less, from, low)) from named,
      ))
      (λ (here : holds.0 ≤ n).
      let at = some_at commits n (omega (arith, le)) in
      let held = holds.1.holds n at.0 here at.1 in (
        held.is.name ∷ before.0,
        omega (arith, short),
        λ version name less from named. ⊎_elim
            (λ (earlier : version < n). Contains-tail held.is.name before.0 name (before.2 version name earlier from named))
            (λ (past : n ≤ version).
            let last : version ≡ n = omega (arith, less, past) in
            let path : IsVersionPath (codes "_delta_log/" ++ name) n = record { name = name; named = subst (IsVersionName name) last named; split = refl } in
            let same : held.is.name ≡ name = append_cancel_left (codes "_delta_log/") held.is.name name (sym held.is.split ∙ path_once n held.path (codes "_delta_log/" ++ name) held.is path) in
            subst (λ (m : List ℕ). Contains (held.is.name ∷ before.0) m) same (Contains-head held.is.name before.0))
            (cases_lt version n),
      ))
      (cases_lt n holds.0)

  few : length (names_in files log_folder) ≤ 200
  few =
      let lists = names_in_listed files log_folder in
      let known = names_before (length commits) (omega arith) in
      let short = known.1 in
      let most = few_commits in
      let count = few_names (names_in files log_folder) known.0 (IsDistinct-from_sorted (slice_cmp nat_cmp) (names_in files log_folder) lists.sorted) (λ name there.
      let proper = (lists.members name).0 there in
      let of = holds.1.alone (codes "_delta_log/" ++ name) (name, refl) proper.1 in
      let some = some_of (finmap.get files (codes "_delta_log/" ++ name)) proper.1 in
      let from = holds.1.only of.0 (some.0, record { path = codes "_delta_log/" ++ name; is = of.1; there = some.1 }) in
      let same : of.1.name ≡ name = append_cancel_left (codes "_delta_log/") of.1.name name (sym of.1.split) in
      known.2 of.0 name from.1 from.0 (subst (λ (m : List ℕ). IsVersionName m of.0) same of.1.named)) in
      omega (arith, count, short, most)

  pub drill_log : IsDrillLog number files
  drill_log = record { each = each; few = few }

-- ---- what is read of it

module _ (number : ℕ) (said : AreSaid number) (files : Files) (is : IsDrillLog number files) where
  says_is : (version : ℕ) (c : DeltaCommit) → SaysCommit files version c → (version < 200) × (c ≡ drill_commit number version)
  says_is version c says =
      let of = is.each version says.bytes says.holds in
      let read : IsReadableCommit says.bytes (drill_commit number version) = subst (λ (b : List ℕ). IsReadableCommit b (drill_commit number version)) (sym of.1) (said.says version of.0) in
      (of.0, ok_once (commit_of says.bytes) c (drill_commit number version) (is_read says.bytes c says.readable) (is_read says.bytes (drill_commit number version) read))

  step : (version : ℕ) (c : DeltaCommit) → SaysCommit files version c → IsStep c (base_of number version) (table_after number (suc version))
  step version c says =
      let of = says_is version c says in
      subst (λ (d : DeltaCommit). IsStep d (base_of number version) (table_after number (suc version))) (sym of.1) (step_of number version of.0 said.spells)

  read_same : (n : ℕ) (last : Option Table) → IsReadLog files n last → SameBefore last (base_of number n)
  read_same zero last read = subst (λ l. SameBefore l None) (sym read) tt
  read_same (suc version) last read =
      let before = read_same version read.0 read.1 in
      let same : SameTable read.4 (table_after number (suc version)) = next_same read.0 (base_of number version) before read.2 read.4 (table_after number (suc version)) read.5.0 (step version read.2 read.3) in
      subst (λ l. SameBefore l (Some (table_after number (suc version)))) (sym read.6) same

  -- ---- a commit over a table

  columns_behind : (version : ℕ) (base : Option Table) → LikeBefore base (base_of number version) → partition_behind (drill_commit number version).meta base ≡ codes "d" ∷ []
  columns_behind zero base like = refl
  columns_behind (suc i) None like = absurd like
  columns_behind (suc i) (Some held) like = ap (λ (o : Option MetaData). partition_behind o (Some held)) (no_meta number i) ∙ like.partition

  -- a row before a commit is that of a file that an earlier one adds
  row_before : (version : ℕ) (base : Option Table) (row : Row) → LikeBefore base (base_of number version) → Contains (rows_before base) row → Contains (rows_after number version) row
  row_before zero None row like there = there
  row_before zero (Some held) row like there = absurd like
  row_before (suc i) None row like there = absurd like
  row_before (suc i) (Some held) row like there = (like.rows row).0 there

  few_behind : (version : ℕ) (base : Option Table) (columns : PartColumns) (behind : List Row) → version < 200 → LikeBefore base (base_of number version) → AreRowsBehind columns (rows_before base) (drill_commit number version) behind → length behind ≤ 10000
  few_behind version base columns behind less like are =
      let count = fewer (paths_of behind) (added_paths number 200) are.distinct known in
      let all = paths_count number 200 in
      let same = length-map behind (λ (r : Row). r.path) in
      omega (arith, count, all, same)
    where
      known : (path : List ℕ) → Contains (paths_of behind) path → Contains (added_paths number 200) path
      known path there =
          let of = row_of_path behind path there in
          subst (Contains (added_paths number 200)) of.2
          (⊎_elim
          (λ (added : (f : FileAction) × Contains (drill_commit number version).files f × AddsRow columns f of.0).
          let found = added_or_not number version added.0 (λ g. AddsRow columns g of.0) (λ k j none. none) added.1 added.2 in
          let adds : AddsRow columns (added_file number version found.0) of.0 = subst (λ (g : FileAction). AddsRow columns g of.0) (sym found.2) added.2 in
          subst (Contains (added_paths number 200)) (sym adds.0) (path_there number 200 version found.0 less found.1))
          (λ (old : Contains (rows_before base) of.0 × ¬ ActsOn of.0.path (drill_commit number version)).
          let found = row_from number version of.0 (row_before version base of.0 like old.0) in
          let earlier = found.2 in
          subst (λ (r : Row). Contains (added_paths number 200) r.path) found.4 (path_there number 200 found.0 found.1 (omega (arith, earlier, less)) found.3))
          ((are.rows of.0).0 of.1))

  over_small : (version : ℕ) (base : Option Table) (which : LimitKind) → version < 200 → LikeBefore base (base_of number version) → IsChangeRefusal (drill_commit number version) base (errors.Limit which) → ⊥
  over_small version base which less like refusal =
      ⊎_elim
      (λ (large : HasLargeSchema (drill_commit number version) which). (readable_step (drill_commit number version) (base_of number version) (table_after number (suc version)) (step_of number version less said.spells)).schema which large)
      (λ (passes : ((w : LimitKind) → ¬ HasLargeSchema (drill_commit number version) w) × IsFirst (Passes (drill_commit number version) base) commit_limits which).
      none_first (Passes (drill_commit number version) base) commit_limits which (few_columns, (few_rows, tt)) passes.1)
      refusal.2
    where
      few_columns : Passes (drill_commit number version) base PartitionColumns → ⊥
      few_columns many =
          let one : length (partition_behind (drill_commit number version).meta base) ≡ 1 = ap (λ (l : List (List ℕ)). length l) (columns_behind version base like) in
          omega (arith, many, one)

      few_rows : Passes (drill_commit number version) base LiveFiles → ⊥
      few_rows many =
          let few = few_behind version base many.1 many.2 less like many.5 in
          let more = many.6 in
          omega (arith, few, more)

  over_told : (version : ℕ) (c : DeltaCommit) (base : Option Table) (which : LimitKind) → SaysCommit files version c → LikeBefore base (base_of number version) → IsChangeRefusal c base (errors.Limit which) → ⊥
  over_told version c base which says like refusal =
      let of = says_is version c says in
      over_small version base which of.0 like (subst (λ (d : DeltaCommit). IsChangeRefusal d base (errors.Limit which)) of.1 refusal)

  -- ---- a version by itself

  never_unread : (version : ℕ) (cause : DeltaError) → IsUnreadable files version cause → ⊥
  never_unread version cause fault =
      let of = is.each version fault.0 fault.1 in
      fault_excluded fault.0 (drill_commit number version) cause (subst (λ (b : List ℕ). IsReadableCommit b (drill_commit number version)) (sym of.1) (said.says version of.0)) fault.2

  never_long : (version : ℕ) (bytes : List ℕ) → HoldsVersion files version bytes → MAX_FILE_BYTES < length bytes → ⊥
  never_long version bytes held long =
      let of = is.each version bytes held in
      let short = short_bytes number version of.0 in
      let same : length bytes ≡ length (drill_bytes number version) = ap (λ (l : List ℕ). length l) of.1 in
      omega (arith, long, short, same)

  never_unfit : (version : ℕ) (base : Option Table) (which : LimitKind) → IsReadLog files version base → IsUnfit files version base (errors.Limit which) → ⊥
  never_unfit version base which read unfit = over_told version unfit.0 base which unfit.1 (like_before base (base_of number version) (read_same version base read)) unfit.2

  -- ---- what the source tells

  told_limit : (version : ℕ) (cause : DeltaError) (which : LimitKind) (n : ℕ) → TellsCommit version cause (source.Limit which n) → ((w : LimitKind) → cause ≡ errors.Limit w → ⊥) → ⊥
  told_limit version errors.Memory which n tells none = tells
  told_limit version (errors.Malformed line) which n tells none = let other : source.Limit which n ≡ source.Malformed tells.0 = tells.2 in absurd cc
  told_limit version (errors.DoublePath line) which n tells none = let other : source.Limit which n ≡ source.Malformed tells.0 = tells.2 in absurd cc
  told_limit version (errors.Unsupported feature line) which n tells none = let other : source.Limit which n ≡ source.Unsupported feature tells.0 = tells.2 in absurd cc
  told_limit version (errors.Limit w) which n tells none = none w refl

  never_log : (newest : ℕ) (cause : LogError) (which : LimitKind) (n : ℕ) → newest < 200 → IsLogRefusal files newest cause → Tells cause (source.Limit which n) → ⊥
  never_log newest log.Memory which n less refusal tells = tells
  never_log newest log.StoreFault which n less refusal tells = tells
  never_log newest log.ManyNames which n less refusal tells = refusal
  never_log newest log.ManyCommits which n less refusal tells = omega (arith, less, refusal)
  never_log newest (log.Missing v) which n less refusal tells = let other : source.Limit which n ≡ source.Malformed tells.0 = tells.2 in absurd cc
  never_log newest (log.Large v) which n less refusal tells = let large = refusal.1.4.1 in never_long refusal.1.0 large.0 large.1 large.2
  never_log newest (log.Refused v cause) which n less refusal tells =
      told_limit v cause which n tells (λ w same. ⊎_elim
      (λ (unread : IsUnreadable files refusal.1.0 cause). never_unread refusal.1.0 cause unread)
      (λ (unfit : IsUnfit files refusal.1.0 refusal.1.1 cause). never_unfit refusal.1.0 refusal.1.1 w refusal.1.3 (subst (IsUnfit files refusal.1.0 refusal.1.1) same unfit))
      refusal.1.4.1)

  never_version : (version : ℕ) (cause : LogError) (which : LimitKind) (n : ℕ) → IsVersionRefusal files version cause → Tells cause (source.Limit which n) → ⊥
  never_version version log.Memory which n refusal tells = tells
  never_version version log.StoreFault which n refusal tells = tells
  never_version version log.ManyNames which n refusal tells = refusal
  never_version version log.ManyCommits which n refusal tells = refusal
  never_version version (log.Missing v) which n refusal tells = let other : source.Limit which n ≡ source.Malformed tells.0 = tells.2 in absurd cc
  never_version version (log.Large v) which n refusal tells = let large = refusal.1 in never_long version large.0 large.1 large.2
  never_version version (log.Refused v cause) which n refusal tells = told_limit v cause which n tells (λ w same. never_unread version cause refusal.1)

  never_many : MAX_NAMES < length (names_in files log_folder) → ⊥
  never_many many = let few = is.few in omega (arith, many, few)

  has_less : (version : ℕ) → HasVersion files version → version < 200
  has_less version has = (is.each version has.0 has.1).0

  pub at_head_small : (which : LimitKind) (n : ℕ) → ShowsAtHead files (source.Limit which n) → ⊥
  at_head_small which n (inl many) = never_many many.0
  at_head_small which n (inr shows) = let refused = shows.1.1 in never_log 0 refused.0 which n (omega arith) refused.1 refused.2

  pub from_scratch_small : (which : LimitKind) (n : ℕ) → ShowsFromScratch files (source.Limit which n) → ⊥
  from_scratch_small which n (inl many) = never_many many.0
  from_scratch_small which n (inr shows) =
      let newest = shows.1 in
      let there = shows.2.there in
      ⊎_elim
      (λ (lacks : LacksVersion files newest (source.Limit which n)). let other = lacks.4 in absurd cc)
      (λ (read : HasEach files newest × IsRefusedLog files newest (source.Limit which n)). let refused = read.1 in never_log newest refused.0 which n (has_less newest there) refused.1 refused.2)
      shows.3

  -- ---- from a position

  like_on : (cs : List Commit) (version : ℕ) (base before : Table) → LikeBefore (Some base) (base_of number (suc version)) → AreCommits files version base cs before → LikeBefore (Some before) (base_of number (suc (version + length cs)))
  like_on [] version base before like are =
      let none : version + 0 ≡ version = omega arith in
      subst (λ (n : ℕ). LikeBefore (Some before) (base_of number (suc n))) (sym none) (subst (λ (t : Table). LikeBefore (Some t) (base_of number (suc version))) are like)
  like_on (commit ∷ cs) version base before like are =
      let one : version + 1 ≡ suc version = omega arith in
      let made : IsCommitOf files (suc version) base commit are.0 = subst (λ (n : ℕ). IsCommitOf files n base commit are.0) one are.1 in
      let stepped : IsStep made.says (Some base) are.0 = step_made made.says (Some base) commit.change are.0 made.made.taken.grammar made.made.taken.supported made.made.change made.leads in
      let more : suc version + length cs ≡ version + length (commit ∷ cs) = omega arith in
      subst (λ (n : ℕ). LikeBefore (Some before) (base_of number (suc n))) more
      (like_on cs (suc version) are.0 before
      (next_like (Some base) (base_of number (suc version)) like made.says are.0 (table_after number (suc (suc version))) stepped (step (suc version) made.says made.read))
      (subst (λ (n : ℕ). AreCommits files n are.0 cs before) one are.2))

  few_actions : (version count actions : ℕ) → HaveActions files version count actions → actions ≤ 100 * count
  few_actions version zero actions none = omega (arith, none)
  few_actions version (suc count) actions have =
      let before = few_actions version count have.0 have.1 in
      let of = says_is (version + suc count) have.2 have.3 in
      let most = few_files number (version + suc count) in
      let same : length have.2.files ≡ length (drill_commit number (version + suc count)).files = ap (λ (c : DeltaCommit). length c.files) of.1 in
      let sum = have.4 in
      omega (arith, before, most, same, sum)

  behind_small : (version : ℕ) (before : Table) (actions : ℕ) (which : LimitKind) (n : ℕ) → actions ≤ 20000 → LikeBefore (Some before) (base_of number version) → IsRefusedBehind files version before actions (source.Limit which n) → ⊥
  behind_small version before actions which n few like (inl refused) = never_version version refused.0 which n refused.1 refused.2
  behind_small version before actions which n few like (inr over) =
      let says = over.1 in
      ⊎_elim
      (λ (many : HasManyActions actions over.0 (source.Limit which n)).
      let of = says_is version over.0 says in
      let most = few_files number version in
      let same : length over.0.files ≡ length (drill_commit number version).files = ap (λ (c : DeltaCommit). length c.files) of.1 in
      let more = many.0 in
      omega (arith, few, most, same, more))
      (λ (refused : (actions + length over.0.files ≤ MAX_ACTIONS) × IsRefusedOver version over.0 before (source.Limit which n)).
      let of = refused.1 in
      told_limit version of.0 which n of.2 (λ w same. over_told version over.0 (Some before) w says like (subst (IsChangeRefusal over.0 (Some before)) same of.1)))
      over.2

  never_behind : (version newest : ℕ) (base : Table) (which : LimitKind) (n : ℕ) → newest < 200 → LikeBefore (Some base) (base_of number (suc version)) → StopsBehind files version newest base (source.Limit which n) → ⊥
  never_behind version newest base which n less like stops =
      let below = stops.within in
      let count = few_actions version (length stops.commits) stops.actions stops.counted in
      let next : suc (version + length stops.commits) ≡ version + length stops.commits + 1 = omega arith in
      behind_small (version + length stops.commits + 1) stops.before stops.actions which n (omega (arith, count, below, less))
      (subst (λ (k : ℕ). LikeBefore (Some stops.before) (base_of number k)) next (like_on stops.commits version base stops.before like stops.are)) stops.refused

  -- over a table like the one there
  pub from_position_small : (position : List ℕ) (base : Table) (which : LimitKind) (n : ℕ) → ((version : ℕ) → version < 200 → position ≡ decimal version → LikeBefore (Some base) (base_of number (suc version))) → ShowsFromPosition files position base (source.Limit which n) → ⊥
  from_position_small position base which n like shows =
      let version = shows.0 in
      let newest = shows.1 in
      let reached = shows.2 in
      let less = has_less newest reached.is.there in
      let low = reached.within in
      ⊎_elim
      (λ (many : HasManyCommits version newest (source.Limit which n)). let more = many.0 in omega (arith, more, less))
      (λ (on : (newest ≤ version + MAX_COMMITS) × StopsBehind files version newest base (source.Limit which n)). never_behind version newest base which n less (like version (omega (arith, low, less)) reached.spelled) on.1)
      shows.3

-- The histories that a Delta table's log holds: they end at its newest version, and its commits lead along them.
use Rattle.std.proofs.Common.{◌≡◌, ◌≤◌, ◌<◌, ◌+◌, ℕ, zero, suc, List, [], ◌∷◌, ◌++◌, Contains, length, Option, Some, None, refl, sym, ap, subst, ◌∙◌, append_assoc, arith, ⊎_elim}
use Rattle.std.proofs.lemmas.Bool.{cases_lt}
use Rattle.std.proofs.lemmas.Fmt.{decimal_injective}
use Rattle.std.proofs.lemmas.List.{length-append}
use Rattle.std.specs.Fmt.{decimal}
use Rattle.std.specs.Prelude.{option_map, slice_get, unwrap_or}
use Rattle.std.proofs.lemmas.Option.{same_Some}
use Rattle.lake_basics.specs.declared.limits.TheConstants.{MAX_DELTA_VERSION}
use Rattle.lake_basics.proofs.Lists.{get_behind, some_at}
use Rattle.lake_store.specs.Disk.{Files}
use Rattle.table_history.specs.History.{History, positions_of}
use Rattle.table_history.specs.Rows.{SameRows}
use Rattle.table_history.specs.TypeTree.{ColumnTrees}
use Rattle.table_history.specs.declared.table.Commit.{Commit}
use Rattle.table_history.specs.declared.table.Table.{Table}
use Rattle.table_history.proofs.Laws.{change_of_same_rows}
use Rattle.table_history.proofs.RowListLemmas.{Contains-head, Contains-tail}
use Rattle.delta_change.specs.Change.{CanFollow}
use Rattle.delta_change.specs.TableBehind.{IsSchemaBehind, StatesSchema}
use Rattle.delta_log.specs.declared.commit.DeltaCommit.{DeltaCommit}
use Rattle.delta_log.specs.declared.commit.MetaData.{MetaData}
use Rattle.delta_change.proofs.TableLemmas.{after_rows, partition_kept}
use Rattle.delta_table.specs.Log.{IsReadLog, IsStep, SaysCommit}
use Rattle.delta_table.specs.SameVersions.{has_too, own_versions, says_too, versions_sym}
use Rattle.delta_table.specs.Versions.{HasVersion, log_folder}
use Rattle.delta_table.proofs.LogLaws.{step_made}
use Rattle.delta_table.proofs.PathLaws.{says_once}
use Rattle.target_core.specs.Folders.{SameIn}
use Rattle.source_core.specs.Histories.{IsLast, IsLike, LeadAlong, LeadsTo}
use Rattle.table_history.specs.Tables.{SameTable}
use Rattle.source_core.specs.declared.head.Head.{Head}
use Rattle.source_delta.specs.Heads.{IsDeltaHead, IsNewest, IsTableAtHead}
use Rattle.source_delta.specs.Histories.{HoldsHistory, IsReadableOver, table_before}
use Rattle.source_delta.specs.LikeLemmas.{SameBefore, like_before, next_like, next_same, readable_like}
use Rattle.source_delta.specs.Since.{AreCommits, IsCommitOf, IsSince, Reaches}
use Rattle.source_delta.specs.SinceLemmas.{one_newest, small, version_within}

-- ---- the log's folder alone

pub holds_own : (a b : Files) (history : History) → SameIn log_folder a b → HoldsHistory a history → HoldsHistory b history
holds_own a b history same h =
    let to = own_versions a b same in
    let from = versions_sym a b to in
    record {
      kept = h.kept;
      are = record {
        there = has_too a b to h.kept.newest h.are.there;
        last = λ version has. h.are.last version (has_too b a from version has);
        within = h.are.within;
        run = λ version low up. has_too a b to version (h.are.run version low up);
        gap = λ version next has. h.are.gap version next (has_too b a from version has);
      };
      count = h.count;
      positions = h.positions;
      tables = λ version entry c kept at says can. h.tables version entry c kept at (says_too b a from version c says) can;
    }

-- ---- places in a history

at_next : {X : Type 0} (front : List X) (x y : X) (behind : List X) → slice_get (front ++ x ∷ y ∷ behind) (suc (length front)) ≡ Some y
at_next [] x y behind = refl
at_next (z ∷ front) x y behind = at_next front x y behind

last_of : {X : Type 0} (x : X) (xs : List X) → (front : List X) × (last : X) × (x ∷ xs ≡ front ++ last ∷ [])
last_of x [] = ([], x, refl)
last_of x (y ∷ xs) = let rest = last_of y xs in (x ∷ rest.0, rest.1, ap (λ l. x ∷ l) rest.2)

ends_in : {X : Type 0} (xs : List X) (n : ℕ) → length xs ≡ n + 1 → (front : List X) × (last : X) × (xs ≡ front ++ last ∷ [])
ends_in [] n is = absurd (omega (arith, is))
ends_in (x ∷ xs) n is = last_of x xs

-- ---- the versions

newest_of : (files : Files) (history : History) (h : HoldsHistory files history) → IsNewest files h.kept.newest
newest_of files history h = record { there = h.are.there; last = h.are.last }

-- Kept are the versions from one on from which none is missing up to the newest.
kept_by : (files : Files) (history : History) (h : HoldsHistory files history) (version : ℕ) → ((v : ℕ) → version ≤ v → v ≤ h.kept.newest → HasVersion files v) → h.kept.first ≤ version
kept_by files history h version there = ⊎_elim (λ less. absurd (by h.kept.first refl less)) (λ within. within) (cases_lt version h.kept.first)
  where
    by : (first : ℕ) → first ≡ h.kept.first → version < h.kept.first → ⊥
    by zero is less = absurd (omega (arith, is, less))
    by (suc f) is less =
        let next : f + 1 ≡ h.kept.first = omega (arith, is) in
        let low : version ≤ f = omega (arith, next, less) in
        let last = h.are.within in
        let up : f ≤ h.kept.newest = omega (arith, next, last) in
        h.are.gap f next (there f low up)

-- ---- the end

has_each : (files : Files) (count : ℕ) (last : Option Table) → IsReadLog files count last → (version : ℕ) → version < count → HasVersion files version
has_each files zero last log version under = absurd (omega (arith, under))
has_each files (suc count) last log version under =
    ⊎_elim
    (λ earlier. has_each files count log.0 log.1 version earlier)
    (λ past.
    let here : count ≡ version = omega (arith, under, past) in
    subst (HasVersion files) here (log.3.bytes, log.3.holds))
    (cases_lt version count)

readable_of : (c : DeltaCommit) (base : Option Table) → CanFollow c base → IsReadableOver c base
readable_of c base can = record { grammar = can.grammar; supported = can.supported; schema = can.schema }

-- The table that the log makes of so many versions is the history's.
read_same : (files : Files) (history : History) (h : HoldsHistory files history) → h.kept.first ≤ 0 → (count : ℕ) (last : Option Table) → count ≤ length history → IsReadLog files count last → SameBefore last (table_before history count)
read_same files history h all zero last within log = subst (λ l. SameBefore l None) (sym log) tt
read_same files history h all (suc version) last within log =
    let under : version < length history = omega (arith, within) in
    let place = some_at history version under in
    let before = read_same files history h all version log.0 (omega (arith, within)) log.1 in
    let kept : h.kept.first ≤ version = omega (arith, all) in
    let can : IsReadableOver log.2 (table_before history version) = readable_like log.2 log.0 (table_before history version) (like_before log.0 (table_before history version) before) (readable_of log.2 log.0 log.5.1) in
    let step = h.tables version place.0 log.2 kept place.1 log.3 can in
    let same = next_same log.0 (table_before history version) before log.2 log.4 place.0.1 log.5.0 step in
    let behind : table_before history (suc version) ≡ Some place.0.1 = ap (option_map (λ (entry : List ℕ × Table). entry.1)) place.1 in
    subst (λ l. SameBefore l (table_before history (suc version))) (sym log.6) (subst (SameBefore (Some log.4)) (sym behind) same)

-- Two readings of so many versions make the same table.
read_once : (files : Files) (count : ℕ) (a b : Option Table) → IsReadLog files count a → IsReadLog files count b → SameBefore a b
read_once files zero a b one other = subst (λ x. SameBefore x b) (sym one) (subst (SameBefore None) (sym other) tt)
read_once files (suc version) a b one other =
    let before = read_once files version one.0 other.0 one.1 other.1 in
    let commit = says_once files version one.2 other.2 one.3 other.3 in
    let step : IsStep one.2 other.0 other.4 = subst (λ c. IsStep c other.0 other.4) (sym commit) other.5.0 in
    let same : SameTable one.4 other.4 = next_same one.0 other.0 before one.2 one.4 other.4 one.5.0 step in
    subst (λ x. SameBefore x b) (sym one.6) (subst (SameBefore (Some one.4)) (sym other.6) same)

pub one_table : (files : Files) (a b : Table) → IsTableAtHead files a → IsTableAtHead files b → SameTable a b
one_table files a b x y =
    let newest = one_newest files y.newest x.newest y.is x.is in
    read_once files (x.newest + 1) (Some a) (Some b) x.log (subst (λ n. IsReadLog files (n + 1) (Some b)) newest y.log)

pub last : (files : Files) (history : History) (head : Head) → HoldsHistory files history → IsDeltaHead files head
    → (last : List ℕ × Table) × IsLast history last × (last.0 ≡ head.position) × ((table : Table) → IsTableAtHead files table → SameTable table last.1)
last files history head h is =
    let end = ends_in history h.kept.newest h.count in
    let count : length history ≡ length end.0 + 1 = ap (λ (l : History). length l) end.2 ∙ length-append end.0 (end.1 ∷ []) in
    let newest = h.count in
    let version : length end.0 ≡ h.kept.newest = omega (arith, count, newest) in
    let place : slice_get history (length end.0) ≡ Some end.1 = subst (λ (l : History). slice_get l (length end.0) ≡ Some end.1) (sym end.2) (get_behind end.0 end.1 []) in
    let position = h.positions (length end.0) end.1 place in
    let one = one_newest files h.kept.newest is.newest (newest_of files history h) is.is in (
      end.1,
      (end.0, end.2),
      position ∙ ap decimal (version ∙ one) ∙ sym is.position,
      λ table made. same_table table made end.0 end.1 version place,
    )
  where
    same_table : (table : Table) → IsTableAtHead files table → (front : History) (entry : List ℕ × Table) → length front ≡ h.kept.newest → slice_get history (length front) ≡ Some entry → SameTable table entry.1
    same_table table made front entry version place =
        let one = one_newest files h.kept.newest made.newest (newest_of files history h) made.is in
        let count : made.newest + 1 ≡ suc (length front) = omega (arith, version, one) in
        let log : IsReadLog files (suc (length front)) (Some table) = subst (λ n. IsReadLog files n (Some table)) count made.log in
        let all = kept_by files history h 0 (λ v from up. has_each files (made.newest + 1) (Some table) made.log v (omega (arith, up, one))) in
        let whole = h.count in
        let within : suc (length front) ≤ length history = omega (arith, whole, version) in
        let same = read_same files history h all (suc (length front)) (Some table) within log in
        subst (SameBefore (Some table)) (ap (option_map (λ (entry : List ℕ × Table). entry.1)) place) same

-- ---- positions

position_at : (history : History) (version : ℕ) (entry : List ℕ × Table) → slice_get history version ≡ Some entry → Contains (positions_of history) entry.0
position_at [] version entry at = absurd cc
position_at (first ∷ history) zero entry at = subst (λ (e : List ℕ × Table). Contains (positions_of (first ∷ history)) e.0) (same_Some first entry at) (Contains-head first.0 (positions_of history))
position_at (first ∷ history) (suc version) entry at = Contains-tail first.0 (positions_of history) entry.0 (position_at history version entry at)

-- Each version up to the newest has its place in a history.
pub reached_held : (files : Files) (history : History) (position : List ℕ) → HoldsHistory files history → Reaches files position → Contains (positions_of history) position
reached_held files history position h reached =
    let is = reached.2 in
    let newest = one_newest files reached.1 h.kept.newest is.is (newest_of files history h) in
    let up = is.within in
    let count = h.count in
    let under : reached.0 < length history = omega (arith, up, newest, count) in
    let place = some_at history reached.0 under in
    subst (Contains (positions_of history)) (h.positions reached.0 place.0 place.1 ∙ sym is.spelled) (position_at history reached.0 place.0 place.1)

-- ---- what is behind an entry

-- Each table behind this one, the first of them of the version after this, is of its version, and what the commit of that makes of the table before it.
abbrev Follow : Files → ℕ → List ℕ × Table → History → Type 0
Follow files version entry [] = Unit {0}
Follow files version entry (next ∷ behind) =
    (next.0 ≡ decimal (version + 1))
    × ((c : DeltaCommit) → SaysCommit files (version + 1) c → IsReadableOver c (Some entry.1) → IsStep c (Some entry.1) next.1)
    × Follow files (version + 1) next behind

follow : (files : Files) (history : History) (h : HoldsHistory files history) (front behind : History) (entry : List ℕ × Table) → history ≡ front ++ entry ∷ behind → h.kept.first ≤ length front + 1 → Follow files (length front) entry behind
follow files history h front [] entry is kept = tt
follow files history h front (next ∷ behind) entry is kept =
    let one : suc (length front) ≡ length front + 1 = omega arith in
    let place : slice_get history (length front) ≡ Some entry = subst (λ (l : History). slice_get l (length front) ≡ Some entry) (sym is) (get_behind front entry (next ∷ behind)) in
    let after : slice_get history (suc (length front)) ≡ Some next = subst (λ (l : History). slice_get l (suc (length front)) ≡ Some next) (sym is) (at_next front entry next behind) in
    let before : table_before history (suc (length front)) ≡ Some entry.1 = ap (option_map (λ (e : List ℕ × Table). e.1)) place in
    let kept' : h.kept.first ≤ suc (length front) = omega (arith, kept) in
    let longer : length (front ++ entry ∷ []) ≡ length front + 1 = length-append front (entry ∷ []) in
    let rest = follow files history h (front ++ entry ∷ []) behind next (is ∙ sym (append_assoc front (entry ∷ []) (next ∷ behind))) (omega (arith, kept, longer)) in (
      h.positions (suc (length front)) next after ∙ ap decimal one,
      λ c says can. subst (λ b. IsStep c b next.1) before
          (h.tables (suc (length front)) next c kept' after (subst (λ n. SaysCommit files n c) (sym one) says) (subst (λ b. IsReadableOver c b) (sym before) can)),
      subst (λ n. Follow files n next behind) longer rest,
    )

schema_of : (o : Option MetaData) (stated : Option ColumnTrees) (table : Table) (schema : ColumnTrees) → StatesSchema o stated → IsSchemaBehind o (Some table) schema → schema ≡ unwrap_or stated table.schema
schema_of None None table schema states is = is
schema_of None (Some s) table schema states is = absurd cc
schema_of (Some m) None table schema states is = absurd states
schema_of (Some m) (Some s) table schema states is = let same : schema ≡ s = cc (sym is ∙ states) in same

-- One commit of these leads from the table to the next, and over one like it to one like that.
module _ (files : Files) (version : ℕ) (held after : Table) (entry next : List ℕ × Table) (commit : Commit) (like : IsLike held entry.1) (is : IsCommitOf files version held commit after) (position : next.0 ≡ decimal version) (tied : IsReadableOver is.says (Some entry.1) → IsStep is.says (Some entry.1) next.1) where
  over : IsReadableOver is.says (Some entry.1)
  over = readable_like is.says (Some held) (Some entry.1) like (readable_of is.says (Some held) is.made.taken)

  made : IsStep is.says (Some held) after
  made = step_made is.says (Some held) commit.change after is.made.taken.grammar is.made.taken.supported is.made.change is.leads

  next_held : IsLike after next.1
  next_held = next_like (Some held) (Some entry.1) like is.says after next.1 made (tied over)

  behind_rows : SameRows is.made.change.behind next.1.rows
  behind_rows row =
      let rows = after_rows is.says (Some held) commit.change is.made.change is.made.taken.supported after is.leads row in
      (λ there. (next_held.rows row).0 (rows.1 there), λ there. rows.0 ((next_held.rows row).1 there))

  leads_to : LeadsTo entry.1 commit next
  leads_to = record {
    position = is.made.position ∙ sym position;
    rows = change_of_same_rows held.rows entry.1.rows is.made.change.behind next.1.rows commit.change.removed commit.change.added like.rows behind_rows is.made.change.diff;
    schema = schema_of is.says.meta commit.change.schema entry.1 next.1.schema is.made.change.stated (tied over).schema;
    partition = (tied over).partition ∙ partition_kept is.says entry.1 commit.change.schema is.made.change.stated over.supported.1.1.1.1.1.0;
  }

leads_along : (files : Files) (version : ℕ) (held : Table) (entry : List ℕ × Table) (behind : History) (commits : List Commit) (last : Table)
    → IsLike held entry.1 → Follow files version entry behind → length commits ≡ length behind → AreCommits files version held commits last → LeadAlong entry.1 behind commits
leads_along files version held entry [] [] last like tied many are = refl
leads_along files version held entry [] (commit ∷ commits) last like tied many are = absurd (omega (arith, many))
leads_along files version held entry (next ∷ behind) [] last like tied many are = absurd (omega (arith, many))
leads_along files version held entry (next ∷ behind) (commit ∷ commits) last like tied many are = (
  leads_to files (version + 1) held are.0 entry next commit like are.1 tied.0 (tied.1 are.1.says are.1.read),
  leads_along files (version + 1) are.0 next behind commits last
      (next_held files (version + 1) held are.0 entry next commit like are.1 tied.0 (tied.1 are.1.says are.1.read)) tied.2 (omega (arith, many)) are.2,
)

pub along : (files : Files) (front behind : History) (entry : List ℕ × Table) (base : Table) (commits : List Commit)
    → HoldsHistory files (front ++ entry ∷ behind) → IsLike base entry.1 → Reaches files entry.0 → IsSince files entry.0 base commits → LeadAlong entry.1 behind commits
along files front behind entry base commits h like reached since =
    let history = front ++ entry ∷ behind in
    let is = reached.2 in
    let place = get_behind front entry behind in
    let spelled = h.positions (length front) entry place in
    let count : length history ≡ length front + length (entry ∷ behind) = length-append front (entry ∷ behind) in
    let whole = h.count in
    let within = version_within files h.kept.newest h.are.there in
    let low : length front ≤ MAX_DELTA_VERSION = omega (arith, count, whole, within) in
    let newest = one_newest files h.kept.newest (since.version + length commits) (newest_of files history h) since.newest in
    let newest' = one_newest files h.kept.newest reached.1 (newest_of files history h) is.is in
    let within' : since.version ≤ MAX_DELTA_VERSION = omega (arith, newest, within) in
    let up = is.within in
    let within'' : reached.0 ≤ MAX_DELTA_VERSION = omega (arith, newest', within, up) in
    let version : length front ≡ since.version = decimal_injective (length front) since.version (small (length front) low) (small since.version within') (sym spelled ∙ since.spelled) in
    let version' : length front ≡ reached.0 = decimal_injective (length front) reached.0 (small (length front) low) (small reached.0 within'') (sym spelled ∙ is.spelled) in
    let kept = kept_by files history h (length front + 1) (λ v from to. is.later v (omega (arith, from, version')) (omega (arith, to, newest'))) in
    let many : length commits ≡ length behind = omega (arith, count, whole, newest, version) in
    leads_along files (length front) base entry behind commits since.last like (follow files history h front behind entry refl kept) many
    (subst (λ n. AreCommits files n base commits since.last) (sym version) since.are)

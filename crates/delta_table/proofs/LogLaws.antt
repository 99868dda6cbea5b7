-- Logs one version longer, and the live files of a log.
use Rattle.std.proofs.Common.{◌≡◌, ◌⊎◌, ℕ, zero, suc, ◌+◌, ◌≤◌, Contains, Option, Some, None, refl, sym, ap, subst, ◌∙◌, arith, inl, inr, ⊎_elim}
use Rattle.std.specs.Prelude.{unwrap_or}
use Rattle.std.proofs.lemmas.Option.{none-some, same_Some}
use Rattle.lake_basics.specs.declared.limits.TheConstants.{MAX_COMMITS}
use Rattle.lake_basics.proofs.Numbers.{less_or_at}
use Rattle.lake_store.specs.Disk.{Files}
use Rattle.table_history.specs.Row.{Row}
use Rattle.table_history.specs.First.{NoneOf}
use Rattle.table_history.specs.Tables.{IsAfter, LeadsTo}
use Rattle.table_history.specs.TypeTree.{ColumnTrees}
use Rattle.table_history.specs.declared.table.Change.{Change}
use Rattle.table_history.specs.declared.table.Table.{Table}
use Rattle.table_history.proofs.RowListLemmas.{Contains-none}
use Rattle.delta_change.specs.Change.{IsChangeOf, IsOutsideGrammar, Shows, commit_features}
use Rattle.delta_live.specs.Live.{PartColumns, ActsOn, AddsRow, ArePartColumns}
use Rattle.delta_change.specs.TableBehind.{IsSchemaBehind, StatesSchema, partition_behind, schema_before, table_before}
use Rattle.delta_log.specs.declared.commit.MetaData.{MetaData}
use Rattle.delta_change.proofs.KindLemmas.{same_columns}
use Rattle.delta_change.proofs.TableLemmas.{before_rows, before_schema, kinds_stay, partition_before, partition_kept, stated_behind}
use Rattle.delta_log.specs.declared.commit.DeltaCommit.{DeltaCommit}
use Rattle.delta_log.specs.declared.commit.FileAction.{FileAction}
use Rattle.delta_table.specs.declared.log.Log.{Log}
use Rattle.delta_table.specs.Log.{HasLiveRows, IsLiveBefore, IsLog, IsLogBy, IsLogOf, IsNewestMeta, IsNewestPart, IsReadLog, IsStep, IsTaken, SaysCommit, stated_at}
use Rattle.delta_table.specs.Refusals.{IsLogRefusal, IsStepRefusal}
use Rattle.delta_table.specs.declared.error.LogError.{LogError}
use Rattle.delta_table.specs.declared.error.LogError.TheVariants as error
use Rattle.delta_table.proofs.PathLaws.{says_once}

-- ---- one version more

pub longer : (Taken : DeltaCommit → Option Table → Table → Type 0) (files : Files) (version : ℕ) (base : Option Table) (c : DeltaCommit) (next : Table) → IsLogBy Taken files version base → SaysCommit files version c → Taken c base next
    → IsLogBy Taken files (version + 1) (Some next)
longer Taken files version base c next log says taken =
    let count : suc version ≡ version + 1 = omega arith in
    subst (λ n. IsLogBy Taken files n (Some next)) count (base, log, c, says, next, taken, refl)

-- a log that is read is a log
pub read_is_log : (files : Files) (count : ℕ) (last : Option Table) → IsReadLog files count last → IsLog files count last
read_is_log files zero last log = log
read_is_log files (suc version) last log = (log.0, read_is_log files version log.0 log.1, log.2, log.3, log.4, log.5.0, log.6)

-- the newest part of a kind
module _ {A : Type 0} (part : DeltaCommit → Option A) (files : Files) where
  pub newest_here : (version : ℕ) (c : DeltaCommit) (a : A) → SaysCommit files version c → part c ≡ Some a → IsNewestPart part files (version + 1) a
  newest_here version c a says is = record { version = version; within = omega arith; commit = c; says = says; is = is; last = λ later d after before _. absurd (omega (arith, after, before)) }

  pub newest_stays : (version : ℕ) (c : DeltaCommit) (a : A) → SaysCommit files version c → part c ≡ None → IsNewestPart part files version a → IsNewestPart part files (version + 1) a
  newest_stays version c a says none was =
      let within = was.within in
      record {
        version = was.version;
        within = omega (arith, within);
        commit = was.commit;
        says = was.says;
        is = was.is;
        last = λ later d after before says_d. ⊎_elim (λ earlier. was.last later d after earlier says_d) (λ same. ap part (says_once files version d c (subst (λ v. SaysCommit files v d) same says_d) says) ∙ none) (less_or_at later version before);
      }

  -- of one commit more: its own, or else the one so far
  pub newest_next : (version : ℕ) (c : DeltaCommit) (a : A) → SaysCommit files version c → (o : Option A) → part c ≡ o → IsNewestPart part files version a → IsNewestPart part files (version + 1) (unwrap_or o a)
  newest_next version c a says None is was = newest_stays version c a says is was
  newest_next version c a says (Some b) is was = newest_here version c b says is

-- ---- what a log says

pub log_first : (files : Files) (c : DeltaCommit) (log : Log) → SaysCommit files 0 c → IsTaken c None log.table → c.meta ≡ Some log.meta → log.meta_version ≡ 0 → c.protocol ≡ Some log.protocol → IsLogOf files 1 log
unfolding newest_here
log_first files c log says step meta at protocol = record {
  table = longer IsTaken files 0 None c log.table refl says step;
  meta = newest_here (λ (d : DeltaCommit). d.meta) files 0 c log.meta says meta;
  meta_version = at;
  protocol = newest_here (λ (d : DeltaCommit). d.protocol) files 0 c log.protocol says protocol;
}

-- the newest metadata with the version that it is from
abbrev IsMetaAt : Files → ℕ → MetaData → ℕ → Type 0
IsMetaAt files count meta at = (is : IsNewestMeta files count meta) × (at ≡ is.version)

-- of one commit more
meta_next : (files : Files) (version : ℕ) (c : DeltaCommit) (meta : MetaData) (at : ℕ) → SaysCommit files version c → (o : Option MetaData) → c.meta ≡ o → IsMetaAt files version meta at → IsMetaAt files (version + 1) (unwrap_or o meta) (stated_at o version at)
unfolding newest_here newest_stays
meta_next files version c meta at says None is was = (newest_stays (λ (d : DeltaCommit). d.meta) files version c meta says is was.0, was.1)
meta_next files version c meta at says (Some m) is was = (newest_here (λ (d : DeltaCommit). d.meta) files version c m says is, refl)

pub log_next : (files : Files) (version : ℕ) (c : DeltaCommit) (log next : Log) → IsLogOf files version log → SaysCommit files version c → IsTaken c (Some log.table) next.table
    → next.meta ≡ unwrap_or c.meta log.meta → next.meta_version ≡ stated_at c.meta version log.meta_version → next.protocol ≡ unwrap_or c.protocol log.protocol → IsLogOf files (version + 1) next
log_next files version c log next was says step meta at protocol =
    let behind = meta_next files version c log.meta log.meta_version says c.meta refl (was.meta, was.meta_version) in
    let newest : IsMetaAt files (version + 1) next.meta next.meta_version = subst (λ (n : ℕ). IsMetaAt files (version + 1) next.meta n) (sym at) (subst (λ (m : MetaData). IsMetaAt files (version + 1) m (stated_at c.meta version log.meta_version)) (sym meta) behind) in
    record {
      table = longer IsTaken files version (Some log.table) c next.table was.table says step;
      meta = newest.0;
      meta_version = newest.1;
      protocol = subst (IsNewestPart (λ (d : DeltaCommit). d.protocol) files (version + 1)) (sym protocol) (newest_next (λ (d : DeltaCommit). d.protocol) files version c log.protocol says c.protocol refl was.protocol);
    }

-- a version that is refused behind those that can be read
pub stops_at : (files : Files) (newest version : ℕ) (base : Option Table) (e : LogError) → newest + 1 ≤ MAX_COMMITS → version ≤ newest → IsReadLog files version base → IsStepRefusal files version base e → IsLogRefusal files newest e
stops_at files newest version base error.Memory few within log refused = tt
stops_at files newest version base error.StoreFault few within log refused = tt
stops_at files newest version base error.ManyNames few within log refused = refused
stops_at files newest version base error.ManyCommits few within log refused = absurd refused
stops_at files newest version base (error.Missing v) few within log refused = (few, (version, base, within, log, refused))
stops_at files newest version base (error.Large v) few within log refused = (few, (version, base, within, log, refused))
stops_at files newest version base (error.Refused v e) few within log refused = (few, (version, base, within, log, refused))

-- ---- one commit

-- the table that a commit's change leaves is the table behind it
pub step_made : (c : DeltaCommit) (base : Option Table) (change : Change) (next : Table) → (IsOutsideGrammar c base → ⊥) → NoneOf (Shows c base) commit_features → IsChangeOf c base change → IsAfter (table_before c base) change next → IsStep c base next
step_made c base change next grammar supported is after =
    let schema : unwrap_or change.schema (schema_before base) ≡ next.schema = ap (unwrap_or change.schema) (sym (before_schema c base)) ∙ sym after.schema in
    let partition : partition_behind c.meta base ≡ next.partition = sym (partition_before c base change.schema is.stated supported.1.1.1.1.1.0) ∙ sym after.partition in
    let leads : LeadsTo (table_before c base).rows change.removed change.added is.behind = subst (λ l. LeadsTo l change.removed change.added is.behind) (sym (before_rows c base)) is.leads in
    record {
      grammar = grammar;
      supported = supported;
      schema = subst (IsSchemaBehind c.meta base) schema (stated_behind c.meta base change.schema is.stated);
      partition = sym partition;
      columns = is.columns;
      kinds = subst (λ s. ArePartColumns s next.partition is.columns) schema (subst (λ p. ArePartColumns (unwrap_or change.schema (schema_before base)) p is.columns) partition is.kinds);
      rows = record {
        distinct = after.distinct;
        rows = λ row. (
          λ there. (is.rows.rows row).0 ((leads row).0 ((after.rows row).0 there)),
          λ of. (after.rows row).1 ((leads row).1 ((is.rows.rows row).1 of)),
        );
      };
    }

-- ---- live files

-- the partition columns keep their kinds
pub columns_stay : (c : DeltaCommit) (t next : Table) (columns : PartColumns) (step : IsStep c (Some t) next) → ArePartColumns t.schema t.partition columns → step.columns ≡ columns
columns_stay c t next columns step were = by c.meta refl step.schema
  where
    names : next.partition ≡ partition_behind c.meta (Some t)
    names = step.partition

    go : (stated : Option ColumnTrees) → StatesSchema c.meta stated → next.schema ≡ unwrap_or stated t.schema → step.columns ≡ columns
    go stated states schema =
        let kept = kinds_stay c t stated states step.supported.1.1.1.1.1.0 in
        let same = partition_kept c t stated states step.supported.1.1.1.1.1.0 in
        let now = subst (λ p. ArePartColumns (unwrap_or stated t.schema) p step.columns) names (subst (λ s. ArePartColumns s next.partition step.columns) schema step.kinds) in
        sym (same_columns t.schema (unwrap_or stated t.schema) (partition_behind c.meta (Some t)) columns step.columns (subst (λ p. ArePartColumns t.schema p columns) (sym same) were) now kept)

    by : (o : Option MetaData) → c.meta ≡ o → IsSchemaBehind o (Some t) next.schema → step.columns ≡ columns
    by None is schema = go None (subst (λ m. StatesSchema m None) (sym is) refl) schema
    by (Some m) is schema = go (Some next.schema) (subst (λ o. StatesSchema o (Some next.schema)) (sym is) schema) refl

none_zero : (files : Files) (version : ℕ) → IsLog files version None → version ≡ 0
none_zero files zero log = refl
none_zero files (suc version) log = absurd (none-some log.4 log.6)

module _ (files : Files) (version : ℕ) (c : DeltaCommit) (says : SaysCommit files version c) (columns : PartColumns) where
  -- what the commit adds is live behind it
  added_live : (row : Row) (f : FileAction) → Contains c.files f → AddsRow columns f row → IsLiveBefore files (version + 1) columns row
  added_live row f there adds = record {
    version = version;
    within = omega arith;
    commit = c;
    says = says;
    action = f;
    acts = there;
    adds = adds;
    newest = λ later d after before _. absurd (omega (arith, after, before));
  }

  -- and so is what was live before it, where it doesn't act on its path
  kept_live : (row : Row) → IsLiveBefore files version columns row → (ActsOn row.path c → ⊥) → IsLiveBefore files (version + 1) columns row
  kept_live row was quiet =
      let within = was.within in
      record {
        version = was.version;
        within = omega (arith, within);
        commit = was.commit;
        says = was.says;
        action = was.action;
        acts = was.acts;
        adds = was.adds;
        newest = λ later d after before says_d. ⊎_elim (λ earlier. was.newest later d after earlier says_d)
            (λ same. subst (λ e. ActsOn row.path e → ⊥) (says_once files version c d says (subst (λ v. SaysCommit files v d) same says_d)) quiet) (less_or_at later version before);
      }

  -- what is live behind it was added by it, or was live before it
  live_cases : (row : Row) → IsLiveBefore files (version + 1) columns row → ((f : FileAction) × Contains c.files f × AddsRow columns f row) ⊎ (IsLiveBefore files version columns row × (ActsOn row.path c → ⊥))
  live_cases row live =
      ⊎_elim
      (λ earlier. inr (
        record {
          version = live.version;
          within = earlier;
          commit = live.commit;
          says = live.says;
          action = live.action;
          acts = live.acts;
          adds = live.adds;
          newest = λ later d after before says_d. live.newest later d after (omega (arith, before)) says_d;
        },
        live.newest version c earlier (omega arith) says,
      ))
      (λ same.
      let one = says_once files version live.commit c (subst (λ v. SaysCommit files v live.commit) same live.says) says in
      inl (live.action, subst (λ d. Contains d.files live.action) one live.acts, live.adds))
      (less_or_at live.version version live.within)

-- The rows of the table that a log makes are the live ones.
pub live_rows : (files : Files) (count : ℕ) (table : Table) → IsLog files count (Some table) → HasLiveRows files count table
live_rows files zero table log = absurd (some_none table log)
  where
    some_none : (t : Table) → Some t ≡ None → ⊥
    some_none t e = cc
live_rows files (suc version) table log =
    let next = log.4 in
    let made = of_base (λ t before. live_rows files version t before) log.0 log.1 log.2 log.3 next log.5 in
    let same : next ≡ table = same_Some next table (sym log.6) in
    let count : version + 1 ≡ suc version = omega arith in
    subst (HasLiveRows files (suc version)) same (subst (λ n. HasLiveRows files n next) count made)
  where
    of_base : ((t : Table) → IsLog files version (Some t) → HasLiveRows files version t) → (base : Option Table) → IsLog files version base → (c : DeltaCommit) → SaysCommit files version c → (next : Table) → IsStep c base next → HasLiveRows files (version + 1) next
    of_base so_far None before c says next step = record {
      columns = step.columns;
      kinds = step.kinds;
      rows = λ row. (
        λ there. ⊎_elim (λ h. added_live files version c says step.columns row h.0 h.1 h.2) (λ h. absurd (Contains-none row h.0)) ((step.rows.rows row).0 there),
        λ live. (step.rows.rows row).1 (⊎_elim inl (λ h. let within = h.0.within in let none = none_zero files version before in absurd (omega (arith, within, none))) (live_cases files version c says step.columns row live)),
      );
    }
    of_base so_far (Some t) before c says next step =
        let was = so_far t before in
        let same = columns_stay c t next was.columns step was.kinds in
        record {
          columns = step.columns;
          kinds = step.kinds;
          rows = λ row. (
            λ there. ⊎_elim (λ h. added_live files version c says step.columns row h.0 h.1 h.2)
                (λ h. kept_live files version c says step.columns row (subst (λ cs. IsLiveBefore files version cs row) (sym same) ((was.rows row).0 h.0)) h.1) ((step.rows.rows row).0 there),
            λ live. (step.rows.rows row).1
                (⊎_elim inl (λ h. inr ((was.rows row).1 (subst (λ cs. IsLiveBefore files version cs row) same h.0), h.1)) (live_cases files version c says step.columns row live)),
          );
        }

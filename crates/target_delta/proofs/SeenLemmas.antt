-- What a Delta log that was read up to its newest version stands at.
use Rattle.std.proofs.Common.{◌≡◌, ◌≢◌, inl, inr, ℕ, suc, ◌+◌, ◌≤◌, List, Option, Some, None, refl, sym, ap, subst, ◌∙◌, arith}
use Rattle.std.specs.Prelude.{IfOk, Result, Ok, Err}
use Rattle.std.specs.Option.{option_map}
use Rattle.std.proofs.lemmas.Bool.{cases_lt}
use Rattle.lake_basics.specs.declared.limits.TheConstants.{MAX_DELTA_VERSION}
use Rattle.lake_store.specs.Disk.{Files}
use Rattle.table_history.specs.declared.kind.Kind.{Kind}
use Rattle.table_history.specs.declared.table.Table.{Table}
use Rattle.partition_map.proofs.KindLemmas.{kind_exactly}
use Rattle.delta_change.specs.Change.{IsTableOfLog}
use Rattle.delta_log.specs.declared.commit.DeltaCommit.{DeltaCommit}
use Rattle.delta_log.specs.declared.commit.MetaData.{MetaData}
use Rattle.delta_table.specs.Versions.{IsVersionPath}
use Rattle.delta_table.specs.Log.{HasLiveRows, IsLog, IsLogOf, IsNewestProtocol, SaysCommit}
use Rattle.delta_table.specs.declared.log.Log.{Log}
use Rattle.delta_table.proofs.LogLaws.{live_rows, read_is_log}
use Rattle.delta_table.proofs.PathLaws.{says_once}
use Rattle.target_core.specs.Conditions.{IsPublishable}
use Rattle.target_core.specs.Mark.{IsMarkText}
use Rattle.target_core.specs.SeenView.{IsSeen, IsSeenSound}
use Rattle.target_core.specs.Views.{Standing, standing_of}
use Rattle.target_core.specs.declared.mark.Mark.{Mark}
use Rattle.target_core.specs.declared.target.Seen.{Seen}
use Rattle.target_core.specs.declared.target.Seen.TheVariants.{Absent, Ours, Foreign}
use Rattle.target_core.specs.declared.target.TargetError.{TargetError}
use Rattle.target_delta.specs.Inspecting.{IsForeign}
use Rattle.target_delta.specs.InspectSteps.{IsKeptOf, IsMarkOf, IsNewest, IsSeenOf}
use Rattle.target_delta.specs.Kept.{HoldsEnd, StandsFor, view_of}
use Rattle.target_delta.specs.Names.{HasVersions}
use Rattle.target_delta.specs.Reading.{IsMarkAt, IsOurs, Reads, mark_setting, setting}
use Rattle.target_delta.specs.declared.kept.DeltaKept.{DeltaKept}
use Rattle.target_delta.specs.LogLemmas.{log_front}

-- ---- the table may be published

pub publishable : (table : Table) → IsTableOfLog table → IsPublishable table
publishable table is = record {
  sound = is.sound;
  paths = is.paths;
  live_files = is.live_files;
  partition_columns = is.partition_columns;
  partition_distinct = is.partition_distinct;
  partition_kinds = λ name there. (kind_exactly table.schema name).0 (is.partition_kinds name there);
  schema = is.schema;
  size = is.size;
}

-- ---- the newest version's mark

module _ (files : Files) (newest : ℕ) (log : Log) (is : IsLogOf files (newest + 1) log) where
  -- the newest metadata is of the newest version, where that version has its own
  own_meta : (c : DeltaCommit) (m : MetaData) → SaysCommit files newest c → c.meta ≡ Some m → (log.meta_version ≡ newest) × (m ≡ log.meta)
  own_meta c m says stated =
      elim (cases_lt is.meta.version newest) [
        | inl lt ↦ absurd (none_some m (sym (is.meta.last newest c lt (omega arith) says) ∙ stated))
        | inr le ↦
            let within = is.meta.within in
            let version : is.meta.version ≡ newest = omega (arith, le, within) in
            let commit : is.meta.commit ≡ c = says_once files newest is.meta.commit c (subst (λ (n : ℕ). SaysCommit files n is.meta.commit) version is.meta.says) says in
            let both : Some m ≡ Some log.meta = sym stated ∙ ap (λ (d : DeltaCommit). d.meta) (sym commit) ∙ is.meta.is in
            (is.meta_version ∙ version, cc)
      ]
    where
      none_some : (x : MetaData) → None ≡ Some x → ⊥
      none_some x e = absurd cc

  pub mark_at : (mark : Mark) → IsMarkOf log newest mark → IsMarkAt files newest (standing_of mark)
  mark_at mark of =
      let version : is.meta.version ≡ newest = sym is.meta_version ∙ of.own in
      record {
        commit = is.meta.commit;
        read = subst (λ (n : ℕ). SaysCommit files n is.meta.commit) version is.meta.says;
        mark = mark;
        has = record { meta = log.meta; stated = is.meta.is; text = of.text; found = of.found; reads = of.reads };
        at = of.at;
        is = refl;
      }

  pub mark_of_at : (standing : Standing) (at : IsMarkAt files newest standing) → IsMarkOf log newest at.mark
  mark_of_at standing at =
      let own = own_meta at.commit at.has.meta at.read at.has.stated in
      record {
        own = own.0;
        text = at.has.text;
        found = subst (λ (m : MetaData). setting mark_setting m.configuration ≡ Some at.has.text) own.1 at.has.found;
        reads = at.has.reads;
        at = at.at;
      }

-- ---- what is seen

module _ (files : Files) (newest : ℕ) (log : Log) (is : IsLogOf files (newest + 1) log) (last : IsNewest files newest) (within : newest ≤ MAX_DELTA_VERSION) where
  count : newest + 1 ≡ suc newest
  count = omega arith

  whole : IsLog files (suc newest) (Some log.table)
  whole = subst (λ (n : ℕ). IsLog files n (Some log.table)) count (read_is_log files (newest + 1) (Some log.table) is.table)

  all_there : HasVersions files (suc newest)
  all_there = record {
    within = omega (arith, within);
    there = λ version lt. let front = log_front files (suc newest) version (Some log.table) lt whole in (front.3.bytes, front.3.holds);
    none = λ version le has. let upto = last.last version has in omega (arith, le, upto);
  }

  module _ (mark : Mark) (of : IsMarkOf log newest mark) (kept : DeltaKept) (k : IsKeptOf log newest mark kept) where
    ours : IsOurs files (view_of kept)
    ours = record {
      newest = newest;
      count = k.commits ∙ count;
      versions = all_there;
      log = subst (λ (t : Table). IsLog files (suc newest) (Some t)) (sym k.table) whole;
      live = subst (λ (t : Table). HasLiveRows files (suc newest) t) (sym k.table) (live_rows files (suc newest) log.table whole);
      standing = standing_of mark;
      mark = ap (λ (m : Option Mark). option_map standing_of m) k.marked;
      marked = mark_at files newest log is mark of;
    }

    end : HoldsEnd files kept
    end =
        let at = mark_at files newest log is mark of in
        record {
          newest = newest;
          count = k.commits ∙ count;
          commit = is.meta.commit;
          says = subst (λ (n : ℕ). SaysCommit files n is.meta.commit) (sym is.meta_version ∙ of.own) is.meta.says;
          meta = log.meta;
          stated = is.meta.is;
          id = sym k.id;
          at = ap (λ (m : Option Mark). option_map (λ (n : Mark). n.at) m) k.marked ∙ ap (λ (t : List ℕ). Some t) of.at;
          protocol = log.protocol;
          newest_protocol = subst (λ (n : ℕ). IsNewestProtocol files n log.protocol) count is.protocol;
          ntz = sym k.ntz;
        }

    pub stands : (id : List ℕ) → StandsFor id kept files
    stands id = record { reads = inr ours; end = inr end }

  pub seen_here : (source : Kind) (id : List ℕ) (seen : Seen DeltaKept) → IsSeenOf log newest source seen → IsSeen (Reads files) (IsForeign source files) view_of (λ kept. StandsFor id kept files) source seen
  seen_here source id Absent h = absurd h
  seen_here source id (Ours kept) h = (stands h.0 h.1 kept h.3 id, (standing_of h.0, ap (λ (m : Option Mark). option_map standing_of m) h.3.marked, h.2))
  seen_here source id (Foreign path) h = inr (inr (record {
    newest = newest;
    named = h.0;
    versions = all_there;
    table = log.table;
    log = whole;
    unmarked = λ standing at same. h.1 at.mark (mark_of_at files newest log is standing at) (ap (λ (s : Standing). s.origin.source) at.is ∙ same);
  }))

  pub seen_whole : (source : Kind) (id : List ℕ) (r : Result (Seen DeltaKept) TargetError) → IfOk r (IsSeenOf log newest source) → IfOk r (IsSeen (Reads files) (IsForeign source files) view_of (λ kept. StandsFor id kept files) source)
  seen_whole source id (Err e) h = tt
  seen_whole source id (Ok seen) h = seen_here source id seen h

-- what is kept of a log of a table that may be followed on
-- a version without a mark of its own
abbrev IsForeignVersion : ℕ → Seen DeltaKept → Type 0
IsForeignVersion newest seen = (path : List ℕ) × (seen ≡ Foreign path) × IsVersionPath path newest

pub unmarked_seen : {E : Type 0} (newest : ℕ) (log : Log) (source : Kind) (r : Result (Seen DeltaKept) E) → ((mark : Mark) → IsMarkOf log newest mark → mark.source ≢ source) → IfOk r (IsForeignVersion newest) → IfOk r (IsSeenOf log newest source)
unmarked_seen newest log source (Ok seen) none is = subst (IsSeenOf log newest source) (sym is.1) (is.2, none)
unmarked_seen newest log source (Err e) none is = tt

pub foreign_sound : {E : Type 0} (newest : ℕ) (source : Kind) (r : Result (Seen DeltaKept) E) → IfOk r (IsForeignVersion newest) → IfOk r (IsSeenSound view_of source)
foreign_sound newest source (Ok seen) is = subst (IsSeenSound view_of source) (sym is.1) tt
foreign_sound newest source (Err e) is = tt

pub kept_sound : (log : Log) (newest : ℕ) (source : Kind) (mark : Mark) (kept : DeltaKept) → IsTableOfLog log.table → IsKeptOf log newest mark kept → mark.source ≡ source → IsSeenSound view_of source (Ours kept)
kept_sound log newest source mark kept table k is = (let count = k.commits in omega (arith, count), subst IsPublishable (sym k.table) (publishable log.table table), (standing_of mark, ap (λ (m : Option Mark). option_map standing_of m) k.marked, is))

-- Where the setting's text is no mark, the log has none.
pub no_mark : (log : Log) (newest : ℕ) (settings : List (List ℕ × List ℕ)) (text : List ℕ) (mark : Mark) → settings ≡ log.meta.configuration → Some text ≡ setting mark_setting settings → ((m : Mark) → IsMarkText text m → ⊥) → IsMarkOf log newest mark → ⊥
no_mark log newest settings text mark are found none of =
    let both : Some text ≡ Some of.text = found ∙ ap (setting mark_setting) are ∙ of.found in
    let same : of.text ≡ text = cc in
    none mark (subst (λ (t : List ℕ). IsMarkText t mark) same of.reads)

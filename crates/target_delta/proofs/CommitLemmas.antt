-- What the files read as when a commit's version is there or not, and what is kept behind it.
use Rattle.std.proofs.Common.{◌≡◌, ◌≢◌, ◌⊎◌, inl, inr, ⊎_elim, ℕ, suc, ◌+◌, ◌<◌, ◌==◌, ◌||◌, Bool, true, false, cond, List, [], ◌∷◌, Contains, Option, Some, None, refl, sym, ap, subst, ◌∙◌, arith}
use Rattle.std.specs.Prelude.{◌↔◌, option_map, unwrap_or}
use Rattle.std.specs.FinMap as map
use Rattle.std.proofs.lemmas.Bool.{cases_lt}
use Rattle.std.proofs.lemmas.Bool.Decides.{nat_tests}
use Rattle.std.proofs.lemmas.List.Elements.{Contains-append_cases, Contains-append_left}
use Rattle.std.proofs.lemmas.Slice.Eq.{bytes_eq-Decides}
use Rattle.serde_json.specs.Written.{compact_text}
use Rattle.lake_store.specs.Disk.{Files}
use Rattle.table_history.specs.Row.{Row}
use Rattle.table_history.specs.Rows.{HasPath}
use Rattle.table_history.specs.Tables.{IsRowAfter}
use Rattle.table_history.specs.TypeTree.{ColumnTrees}
use Rattle.table_history.specs.declared.limit.LimitKind.{LimitKind}
use Rattle.table_history.specs.declared.table.Commit.{Commit}
use Rattle.table_history.specs.declared.table.Table.{Table}
use Rattle.partition_map.specs.Columns.{HasOtherKind}
use Rattle.delta_live.specs.Live.{ArePartColumns}
use Rattle.delta_change.specs.TableBehind.{rows_before}
use Rattle.delta_text.specs.Writing.{SameFile}
use Rattle.delta_log.specs.declared.commit.DeltaCommit.{DeltaCommit}
use Rattle.delta_log.specs.declared.commit.FileAction.{FileAction}
use Rattle.delta_log.specs.declared.commit.FileAction.TheVariants as file
use Rattle.delta_log.specs.declared.commit.MetaData.{MetaData}
use Rattle.delta_log.specs.declared.commit.Protocol.{Protocol}
use Rattle.delta_table.specs.Log.{IsLog, IsNewestMeta, IsNewestProtocol, IsStep, SaysCommit}
use Rattle.delta_table.specs.Versions.{IsVersionPath}
use Rattle.delta_table.proofs.PathLaws.{says_once}
use Rattle.target_core.specs.Changes.{IsGone}
use Rattle.target_core.specs.Conditions.{CanPublish, Fits, IsPublishable}
use Rattle.target_core.specs.Gained.{StillCarries}
use Rattle.target_core.specs.Mark.{mark_data}
use Rattle.target_core.specs.Step.{IsBefore, IsBehind}
use Rattle.target_core.specs.Views.{IsAdvanced, IsSchemaAfter, Origin, View, standing_at, standing_of}
use Rattle.target_core.specs.declared.mark.Mark.{Mark}
use Rattle.target_core.proofs.Unpublished.{no_commits}
use Rattle.target_delta.specs.DeltaMeaning.{delta_meaning, image}
use Rattle.target_delta.specs.Fitting.{Unfit, kinds_of}
use Rattle.target_delta.specs.Kept.{HoldsEnd, IsFirst, StandsFor, end_of, view_of}
use Rattle.target_delta.specs.Names.{HasVersions}
use Rattle.target_delta.specs.NewVersion.{IsNewVersion}
use Rattle.target_delta.specs.Reading.{HasMark, IsAbsent, IsCarried, IsMarkAt, IsOurs, KeepsId, Reads, mark_setting, setting}
use Rattle.target_delta.specs.Writing.{LogEnd, Passes, have_ntz, mark_of, names_ntz, ntz_protocol, plain_protocol, protocol_due, schema_behind}
use Rattle.target_delta.specs.declared.kept.DeltaKept.{DeltaKept}
use Rattle.target_delta.specs.FitLemmas.{fits_alike, fits_rest}
use Rattle.target_delta.specs.KeptLemmas.{versions_of_reads}
use Rattle.target_delta.proofs.KindLemmas.{other_kinds}
use Rattle.target_delta.proofs.PublishLemmas.{IsBeside, below, carried_below, ours_now, reads_before, says_below}
use Rattle.target_delta.proofs.StepLemmas.{StandsBefore, added_again, added_from, again, due_first, found, meta_partition, protocol_is, spelled, step}
use Rattle.target_delta.proofs.WrittenLemmas.{again_from, again_of, only_setting}

schema_after : (o : Option ColumnTrees) (before after : ColumnTrees) → after ≡ unwrap_or o before → IsSchemaAfter image o before after
schema_after None before after is = is
schema_after (Some s) before after is = ap (λ (t : ColumnTrees). Some t) (sym is)

zero_by : (n : ℕ) → (n == 0) ≡ true → n ≡ 0
zero_by n is = grind (arith, nat_tests)

-- the path of a version that isn't there
pub free_path : (files : Files) (name : List ℕ) (n : ℕ) → IsVersionPath name n → HasVersions files n → map.get files name ≡ None
free_path files name n named versions =
    elim (map.get files name) as (λ (o : Option (List ℕ)). map.get files name ≡ o → map.get files name ≡ None) [
      | None ↦ λ is. is
      | Some bytes ↦ λ is. absurd (versions.none n (omega arith) (bytes, record { path = name; is = named; there = is }))
    ] refl

-- ---- the actions of a version that is read again

same_remove : (path : List ℕ) (g : FileAction) → SameFile (file.Remove path) g → g ≡ file.Remove path
same_remove path (file.Add q ws bytes records) same = absurd same
same_remove path (file.Remove q) same = ap file.Remove (sym same)

remove_same : (f : FileAction) (path : List ℕ) → SameFile f (file.Remove path) → f ≡ file.Remove path
remove_same (file.Add q ws bytes records) path same = absurd same
remove_same (file.Remove q) path same = ap file.Remove same

add_or_remove : (f : FileAction) (path other : List ℕ) (values : List (List ℕ × Option (List ℕ))) (size count : ℕ) → f ≡ file.Remove path → f ≡ file.Add other values size count → ⊥
add_or_remove f path other values size count a b = cc

module _ (origin : Origin) (now : ℕ) (kept next : DeltaKept) (commit : Commit) (bytes : List ℕ) (v : IsNewVersion origin now kept commit bytes next) where
  commits_are : next.commits ≡ kept.commits + 1
  commits_are = ap (λ (e : LogEnd). e.version) v.end

  standing_is : option_map standing_of next.mark ≡ Some (standing_at origin commit.position)
  standing_is = ap (λ (m : Option Mark). option_map standing_of m) v.mark

  pub advanced : IsAdvanced image origin (view_of kept) commit (view_of next)
  advanced = record {
    commits = commits_are;
    mark = standing_is;
    rows = v.after.rows;
    distinct = v.after.distinct;
    partition = v.after.partition;
    schema = schema_after commit.change.schema kept.table.schema next.table.schema v.after.schema;
  }

  pub fits_behind : (commits : List Commit) → Fits (Unfit (end_of kept)) kept.table.partition (commit ∷ commits) → Fits (Unfit (end_of next)) next.table.partition commits
  fits_behind commits fits = subst (λ (e : LogEnd). Fits (Unfit e) e.partition commits) (sym v.end) (fits_rest (end_of kept) commit commits fits)

  pub passes_behind : (commits : List Commit) (which : LimitKind) (number : ℕ) → Passes (end_of next) origin now commits which number → Passes (end_of kept) origin now (commit ∷ commits) which number
  passes_behind [] which number h = absurd h
  passes_behind (c ∷ cs) which number h = subst (λ (e : LogEnd). Passes e origin now (c ∷ cs) which number) v.end h

  -- ---- the removes

  removes_again : (path : List ℕ) → IsGone commit.change path ↔ Contains v.again.files (file.Remove path)
  removes_again path = (
    λ gone.
        let here = (v.is.files.gone (file.Remove path)).1 (path, gone, refl) in
        let within : Contains v.written.files (file.Remove path) = subst (λ (l : List FileAction). Contains l (file.Remove path)) (sym v.is.files.split) (Contains-append_left v.is.files.removes v.is.files.adds (file.Remove path) here) in
        let g = again_of v.written.files v.again.files (file.Remove path) v.same.files within in
        subst (λ (x : FileAction). Contains v.again.files x) (same_remove path g.0 g.2) g.1,
    λ there.
        let f = again_from v.written.files v.again.files (file.Remove path) v.same.files there in
        let is : f.0 ≡ file.Remove path = remove_same f.0 path f.2 in
        ⊎_elim
        (λ (left : Contains v.is.files.removes f.0).
        let gone = (v.is.files.gone f.0).0 left in
        let same : gone.0 ≡ path = let both : file.Remove gone.0 ≡ file.Remove path = sym gone.2 ∙ is in cc in
        subst (λ (p : List ℕ). IsGone commit.change p) same gone.1)
        (λ (right : Contains v.is.files.adds f.0).
        let from = v.is.files.from_row f.0 right in
        absurd (add_or_remove f.0 path from.0.path from.2.values from.0.size from.0.count is from.2.is))
        (Contains-append_cases v.is.files.removes v.is.files.adds f.0 (subst (λ (l : List FileAction). Contains l f.0) v.is.files.split f.1)),
  )

  module _ (can : CanPublish (view_of kept) commit) (fits : Fits (Unfit (end_of kept)) kept.table.partition (commit ∷ [])) where
    publishable : IsPublishable next.table
    publishable = can.after next.table v.after

    no_other_kind : 0 < kept.commits → HasOtherKind kept.table.schema next.table.schema kept.table.partition → ⊥
    no_other_kind published h = by_stated commit.change.schema refl
      where
        changed : kinds_of kept.table.schema kept.table.partition ≢ kinds_of next.table.schema kept.table.partition
        changed = other_kinds kept.table.schema next.table.schema kept.table.partition h

        none_empty : commit ∷ [] ≡ [] → ⊥
        none_empty is = cc

        by_stated : (o : Option ColumnTrees) → commit.change.schema ≡ o → ⊥
        by_stated None is =
            let same : next.table.schema ≡ kept.table.schema = v.after.schema ∙ ap (λ (o : Option ColumnTrees). unwrap_or o kept.table.schema) is in
            changed (ap (λ (s : ColumnTrees). kinds_of s kept.table.partition) (sym same))
        by_stated (Some s) is =
            let same : next.table.schema ≡ s = v.after.schema ∙ ap (λ (o : Option ColumnTrees). unwrap_or o kept.table.schema) is in
            fits_alike (end_of kept) kept.table.partition (commit ∷ []) fits
            (none_empty, inr (inl (published, (s, is, subst (λ (t : ColumnTrees). kinds_of kept.table.schema kept.table.partition ≢ kinds_of t kept.table.partition) same changed))))

    -- ---- the table before

    before_by : (base : Option Table) → kept.table.rows ≡ rows_before base → (base ≡ None → (kept.commits ≡ 0) × (kept.names_ntz ≡ false))
        → ((t : Table) → base ≡ Some t → (t.schema ≡ kept.table.schema) × (t.partition ≡ kept.table.partition) × (0 < kept.commits)) → StandsBefore (end_of kept) base commit next.table
    before_by base rows first held = record {
      first = first;
      held = held;
      schema = v.after.schema;
      partition = v.after.partition;
      distinct = subst (λ (rs : List Row). (path : List ℕ) → Contains commit.change.removed path → HasPath rs path) rows can.change.removed_there;
      new = subst (λ (rs : List Row). (row : Row) → Contains commit.change.added row → HasPath rs row.path → Contains commit.change.removed row.path) rows can.change.added_new;
      rows = subst (λ (rs : List Row). (row : Row) → Contains next.table.rows row ↔ IsRowAfter rs commit.change.removed commit.change.added row) rows v.after.rows;
      publishable = publishable;
      kinds = no_other_kind;
      spells = v.spells;
    }

    record TableBefore (old : Files) : Type 0 where
      pub base : Option Table
      pub log : IsLog old kept.commits base
      pub before : StandsBefore (end_of kept) base commit next.table

    first_end : (id : List ℕ) (old : Files) → IsAbsent old → IsFirst old id kept ⊎ HoldsEnd old kept → kept.names_ntz ≡ false
    first_end id old none (inl first) = first.ntz
    first_end id old none (inr held) = absurd (none.versions held.newest (held.says.bytes, held.says.holds))

    module _ (id : List ℕ) (old : Files) (stands : StandsFor id kept old) where
      table_before : Reads old (view_of kept) → TableBefore old
      table_before (inl none) =
          let rows : kept.table.rows ≡ [] = ap (λ (w : View). w.table.rows) none.1 in
          let count : kept.commits ≡ 0 = no_commits (view_of kept) none.1 in
          record {
            base = None;
            log = subst (λ (n : ℕ). IsLog old n None) (sym count) refl;
            before = before_by None rows (λ _. (count, first_end id old none.0 stands.end)) (λ t is. absurd (cc));
          }
      table_before (inr ours) = record {
        base = Some kept.table;
        log = subst (λ (n : ℕ). IsLog old n (Some kept.table)) (sym ours.count) ours.log;
        before = before_by (Some kept.table) refl (λ is. absurd (cc))
            (λ t is. let one : kept.table ≡ t = cc in (ap (λ (x : Table). x.schema) (sym one), ap (λ (x : Table). x.partition) (sym one), let count = ours.count in omega (arith, count)));
      }

      versions : HasVersions old kept.commits
      versions = versions_of_reads old (view_of kept) stands.reads

      module _ (name : List ℕ) (named : IsVersionPath name kept.commits) (new : Files) (beside : IsBeside name old new) where
        free : map.get old name ≡ None
        free = free_path old name kept.commits named versions

        pub earlier : StillCarries (delta_meaning id) kept.commits old new
        earlier c change s le carried = carried_below name kept.commits named old new free beside id c change s le carried

        pub is_before : map.get new name ≡ None → IsBefore (delta_meaning id) (view_of kept) old new
        is_before none = record {
          reads = reads_before name kept.commits named old new free beside none (view_of kept) stands.reads;
          earlier = earlier;
        }

        module _ (there : map.get new name ≡ Some bytes) where
          says : SaysCommit new kept.commits v.again
          says = record { bytes = bytes; holds = record { path = name; is = named; there = there }; readable = v.readable }

          abbrev base_now : TableBefore old
          base_now = table_before stands.reads

          stepped : IsStep v.again base_now.base next.table
          stepped = step (end_of kept) origin commit v.written v.again v.is v.same base_now.base next.table base_now.before

          abbrev meta_now : MetaData
          meta_now = (again (end_of kept) origin commit v.written v.again v.is v.same base_now.base next.table base_now.before).again

          stated : v.again.meta ≡ Some meta_now
          stated = (again (end_of kept) origin commit v.written v.again v.is v.same base_now.base next.table base_now.before).is

          abbrev mark : Mark
          mark = mark_of (end_of kept) origin commit.position

          settings : meta_now.configuration ≡ (mark_setting, compact_text (mark_data mark)) ∷ []
          settings = only_setting (mark_setting, compact_text (mark_data mark)) meta_now.configuration (again (end_of kept) origin commit v.written v.again v.is v.same base_now.base next.table base_now.before).settings

          first_setting : (text : List ℕ) → setting mark_setting ((mark_setting, text) ∷ []) ≡ Some text
          first_setting text = ap (λ (b : Bool). option_map (λ (p : List ℕ × List ℕ). p.1) (cond b (Some (mark_setting, text)) None)) ((bytes_eq-Decides mark_setting mark_setting).1 refl)

          has_mark : HasMark v.again mark
          has_mark = record {
            meta = meta_now;
            stated = stated;
            text = compact_text (mark_data mark);
            found = ap (λ (s : List (List ℕ × List ℕ)). setting mark_setting s) settings ∙ first_setting (compact_text (mark_data mark));
            reads = v.reads_back;
          }

          marked : IsMarkAt new kept.commits (standing_at origin commit.position)
          marked = record { commit = v.again; read = says; mark = mark; has = has_mark; at = refl; is = refl }

          count_now : next.commits ≡ suc kept.commits
          count_now = omega (arith, commits_are)

          ours : IsOurs new (view_of next)
          ours = ours_now name kept.commits named old new free beside versions v.within bytes there (view_of kept) (view_of next) base_now.base v.again (standing_at origin commit.position) base_now.log says stepped count_now standing_is marked

          -- ---- what it carries

          id_is : meta_now.id ≡ kept.id
          id_is = sym (again (end_of kept) origin commit v.written v.again v.is v.same base_now.base next.table base_now.before).id

          keeps_by : IsFirst old id kept ⊎ HoldsEnd old kept → KeepsId id new kept.commits meta_now.id
          keeps_by (inl first) = subst (λ (n : ℕ). KeepsId id new n meta_now.id) (sym first.commits) (id_is ∙ first.id_is)
          keeps_by (inr held) =
              let count = held.count in
              let before : IsNewestMeta new (suc held.newest) held.meta = record {
                version = held.newest;
                within = omega arith;
                commit = held.commit;
                says = says_below name kept.commits named old new free beside held.newest held.commit (omega (arith, count)) held.says;
                is = held.stated;
                last = λ later c after within said. absurd (omega (arith, after, within));
              } in
              subst (λ (n : ℕ). KeepsId id new n meta_now.id) (sym count) (held.meta, before, id_is ∙ sym held.id)

          pub carries : IsCarried id new (kept.commits + 1) commit.change (standing_at origin commit.position)
          carries =
              let columns = found (end_of kept) origin commit v.written v.again v.is v.same base_now.base next.table base_now.before in
              record {
                version = kept.commits;
                is = omega arith;
                commit = v.again;
                read = says;
                meta = meta_now;
                stated = stated;
                keeps = keeps_by stands.end;
                schema = next.table.schema;
                spelled = spelled (end_of kept) origin commit v.written v.again v.is v.same base_now.base next.table base_now.before;
                columns = columns.0;
                kinds = subst (λ (p : List (List ℕ)). ArePartColumns next.table.schema p columns.0) (sym (meta_partition (end_of kept) origin commit v.written v.again v.is v.same base_now.base next.table base_now.before meta_now stated)) columns.1;
                adds = λ row. (
                  added_again (end_of kept) origin commit v.written v.again v.is v.same base_now.base next.table base_now.before columns.0 columns.1 row,
                  λ h. added_from (end_of kept) origin commit v.written v.again v.is v.same base_now.base next.table base_now.before columns.0 columns.1 h.0 row h.1 h.2,
                );
                removes = removes_again;
                marked = marked;
              }

          pub is_behind : IsBehind (delta_meaning id) origin (view_of kept) old commit (view_of next) new
          is_behind = record { reads = inr ours; carries = carries; earlier = earlier }

          -- ---- the newest protocol

          abbrev has_ntz_now : Bool
          has_ntz_now = have_ntz (schema_behind (end_of kept) commit.change)

          ntz_now : next.names_ntz ≡ (kept.names_ntz || has_ntz_now)
          ntz_now = ap (λ (e : LogEnd). e.ntz) v.end

          due : v.again.protocol ≡ protocol_due kept.commits kept.names_ntz has_ntz_now
          due = protocol_is (end_of kept) origin commit v.written v.again v.is v.same base_now.base next.table base_now.before

          record ProtocolNow : Type 0 where
            pub protocol : Protocol
            pub newest : IsNewestProtocol new (suc kept.commits) protocol
            pub ntz : names_ntz protocol ≡ next.names_ntz

          stated_here : (p : Protocol) → v.again.protocol ≡ Some p → IsNewestProtocol new (suc kept.commits) p
          stated_here p is = record { version = kept.commits; within = omega arith; commit = v.again; says = says; is = is; last = λ later c after before h. absurd (omega (arith, after, before)) }

          stated_before : (newest : ℕ) (p : Protocol) → kept.commits ≡ suc newest → v.again.protocol ≡ None → IsNewestProtocol old (suc newest) p → IsNewestProtocol new (suc kept.commits) p
          stated_before newest p count none h =
              let lt : h.version < kept.commits = let within = h.within in omega (arith, within, count) in
              record {
                version = h.version;
                within = omega (arith, lt);
                commit = h.commit;
                says = says_below name kept.commits named old new free beside h.version h.commit lt h.says;
                is = h.is;
                last = λ later c after before said. elim (cases_lt later kept.commits) [
                  | inl less ↦
                      let was : SaysCommit old later c = record {
                        bytes = said.bytes;
                        holds = record { path = said.holds.path; is = said.holds.is; there = sym (below name kept.commits named old new free beside said.holds.path later less said.holds.is) ∙ said.holds.there };
                        readable = said.readable;
                      } in
                      h.last later c after (omega (arith, less, count)) was
                  | inr ge ↦
                      let same : later ≡ kept.commits = omega (arith, ge, before) in
                      let commits : c ≡ v.again = says_once new kept.commits c v.again (subst (λ (n : ℕ). SaysCommit new n c) same said) says in
                      ap (λ (d : DeltaCommit). d.protocol) commits ∙ none
                ];
              }

          none_named : (n : ℕ) (named has : Bool) → protocol_due n named has ≡ None → (named || has) ≡ named
          none_named n true true is = refl
          none_named n true false is = refl
          none_named n false true is = absurd (cc)
          none_named n false false is = refl

          by_zero : (b : Bool) (p : Protocol) → cond b (Some plain_protocol) None ≡ Some p → b ≡ true
          by_zero true p is = refl
          by_zero false p is = absurd (cc)

          plain_is : (b : Bool) (p : Protocol) → cond b (Some plain_protocol) None ≡ Some p → names_ntz p ≡ false
          plain_is true p is = let same : plain_protocol ≡ p = cc in ap names_ntz (sym same)
          plain_is false p is = absurd (cc)

          some_named : (n : ℕ) (named has : Bool) (p : Protocol) → ((n == 0) ≡ true → named ≡ false) → protocol_due n named has ≡ Some p → names_ntz p ≡ (named || has)
          some_named n true true p first is = absurd (cc)
          some_named n false true p first is = let same : ntz_protocol ≡ p = cc in ap names_ntz (sym same)
          some_named n true false p first is = let not : true ≡ false = first (by_zero (n == 0) p is) in absurd (cc)
          some_named n false false p first is = plain_is (n == 0) p is

          first_named : IsFirst old id kept ⊎ HoldsEnd old kept → (kept.commits == 0) ≡ true → kept.names_ntz ≡ false
          first_named (inl first) is = first.ntz
          first_named (inr held) is =
              let none = zero_by kept.commits is in
              let count = held.count in
              absurd (omega (arith, none, count))

          protocol_by : IsFirst old id kept ⊎ HoldsEnd old kept → (o : Option Protocol) → v.again.protocol ≡ o → ProtocolNow
          protocol_by end_is (Some p) is = record { protocol = p; newest = stated_here p is; ntz = some_named kept.commits kept.names_ntz has_ntz_now p (first_named end_is) (sym due ∙ is) ∙ sym ntz_now }
          protocol_by (inl first) None is = absurd (due_first has_ntz_now ((λ i. protocol_due (sym first.commits i) (sym first.ntz i) has_ntz_now) ∙ sym due ∙ is))
          protocol_by (inr held) None is = record {
            protocol = held.protocol;
            newest = stated_before held.newest held.protocol held.count is held.newest_protocol;
            ntz = held.ntz ∙ sym (none_named kept.commits kept.names_ntz has_ntz_now (sym due ∙ is)) ∙ sym ntz_now;
          }

          pub stands_now : StandsFor id next new
          stands_now =
              let p = protocol_by stands.end v.again.protocol refl in
              record {
                reads = inr ours;
                end = inr (record {
                  newest = kept.commits;
                  count = count_now;
                  commit = v.again;
                  says = says;
                  meta = meta_now;
                  stated = stated;
                  id = id_is ∙ sym (ap (λ (e : LogEnd). e.id) v.end);
                  at = ap (λ (m : Option Mark). option_map (λ (n : Mark). n.at) m) v.mark;
                  protocol = p.protocol;
                  newest_protocol = p.newest;
                  ntz = p.ntz;
                });
              }

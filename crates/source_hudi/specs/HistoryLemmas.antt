-- The commits of a timeline lead along the histories that its files hold, and its table at the head is the last one there.
use Rattle.std.proofs.Common.{◌≡◌, ⊎_elim, ℕ, zero, suc, true, cond, List, [], ◌∷◌, ◌++◌, Contains, Option, Some, None, codes, refl, sym, ap, subst, ◌∙◌}
use Rattle.std.specs.Prelude.{filter}
use Rattle.std.specs.List.{IsDistinct}
use Rattle.std.specs.Str.{bytes_eq}
use Rattle.std.specs.Cmp.Lexicographic.{bytes_decides, slice_cmp, texts_ties}
use Rattle.std.specs.Ordering.{is_eq, is_lt, nat_cmp}
use Rattle.std.specs.declared.cmp.Ordering.{Ordering}
use Rattle.std.specs.declared.cmp.Ordering.TheVariants.{Less, Equal, Greater}
use Rattle.std.proofs.lemmas.List.{map-append}
use Rattle.std.proofs.lemmas.List.Elements.{Contains-append_right}
use Rattle.lake_store.specs.Disk.{Files}
use Rattle.lake_store.specs.Runs.{IsIn}
use Rattle.table_history.specs.History.{History, IsHistory, positions_of}
use Rattle.table_history.specs.declared.table.Commit.{Commit}
use Rattle.table_history.specs.declared.table.Table.{Table}
use Rattle.table_history.proofs.RowListLemmas.{Contains-cases, Contains-filter, Contains-head, Contains-none, Contains-tail, all_at, filter_whole}
use Rattle.hudi_timeline.specs.Change.{LeadsThrough}
use Rattle.hudi_timeline.specs.Live.{Timeline, completed}
use Rattle.hudi_groups.specs.declared.form.Form.TheVariants.{Base}
use Rattle.hudi_table.specs.Files.{SaysProperties}
use Rattle.hudi_table.specs.Folder.{AreInOrder, IsHead, IsReached, IsUpTo}
use Rattle.hudi_table.specs.Instants.{timeline_folder}
use Rattle.hudi_table.specs.Reading.{SayTimeline}
use Rattle.hudi_table.specs.declared.instants.CompletedInstant.{CompletedInstant}
use Rattle.hudi_table.specs.declared.properties.Properties.{Properties}
use Rattle.hudi_table.specs.declared.reading.Naming.TheVariants as naming
use Rattle.hudi_table.proofs.FolderLaws.{order_up_to_head, reached_times}
use Rattle.hudi_table.proofs.TimeOrder.{up_to_itself}
use Rattle.source_core.specs.Histories.{IsLast, IsLike, LeadAlong, LeadsTo}
use Rattle.table_history.specs.Tables.{SameTable}
use Rattle.source_core.specs.declared.head.Head.{Head}
use Rattle.source_core.proofs.Histories.{like_same}
use Rattle.source_core.proofs.Lists.{end_append, end_in, end_of, first_apart}
use Rattle.target_core.specs.Folders.{SameIn}
use Rattle.target_core.specs.FolderLemmas.{names_own, same_back}
use Rattle.source_hudi.specs.Heads.{IsHudiHead, IsTableAtHead}
use Rattle.source_hudi.specs.Histories.{HoldsHistory, IsFromFirst, IsMadeBy, IsReadable, LeaveTables, LeavesFirst, LeavesTable, times_of}
use Rattle.source_hudi.specs.Instants.{IsArchiveEmpty, archive_folder, reached_in}
use Rattle.source_hudi.specs.LikeLemmas.{first_same, leads_like, step_same}
use Rattle.source_hudi.specs.ListLemmas.{end_front, end_map, in_map, last_distinct, map_in, split_last}
use Rattle.source_hudi.specs.OwnLemmas.{properties_too, reached_same, says_too}
use Rattle.source_hudi.specs.Since.{AreCommits, IsSince, is_later, later_in}
use Rattle.source_hudi.specs.SinceLemmas.{not_later, same_time}
use Rattle.lake_basics.proofs.Texts.{behind_distinct}

-- ---- the instants behind a position

is_up : (position time : List ℕ) → IsUpTo position time → (position ≡ time → ⊥) → is_later position time ≡ true
is_up position time up apart = by (slice_cmp nat_cmp position time) refl
  where
    by : (o : Ordering) → slice_cmp nat_cmp position time ≡ o → is_later position time ≡ true
    by Less e = ap is_lt e
    by Equal e = absurd (apart ((bytes_decides position time).0 (texts_ties position time ∙ ap is_eq e)))
    by Greater e = absurd (up e)

up_to_same : (a b : List ℕ) → a ≡ b → IsUpTo a b
up_to_same a b e = subst (IsUpTo a) e (up_to_itself a)

later_passed : (p : List ℕ) (c : CompletedInstant) (cs : List CompletedInstant) → IsUpTo c.time p → filter (λ d. is_later p d.time) (c ∷ cs) ≡ filter (λ d. is_later p d.time) cs
later_passed p c cs up = ap (λ b. cond b (c ∷ filter (λ d. is_later p d.time) cs) (filter (λ d. is_later p d.time) cs)) (not_later p c.time up)

later_times : (ws : List (List ℕ)) (p : List ℕ) (ys : List (List ℕ)) (cs : List CompletedInstant) → AreInOrder cs → times_of cs ≡ ws ++ p ∷ ys → IsDistinct bytes_eq (ws ++ p ∷ ys)
    → times_of (filter (λ c. is_later p c.time) cs) ≡ ys
later_times [] p ys [] order e distinct = absurd cc
later_times (w ∷ ws) p ys [] order e distinct = absurd cc
later_times [] p ys (c ∷ cs) order e distinct =
    let first : c.time ≡ p = cc in
    let rest : times_of cs ≡ ys = cc in
    let later : (d : CompletedInstant) → Contains cs d → is_later p d.time ≡ true =
    λ d there.
    is_up p d.time
    (subst (λ (t : List ℕ). IsUpTo t d.time) first (all_at (λ (e : CompletedInstant). IsUpTo c.time e.time) cs d order.0 there))
    (first_apart p d.time ys distinct (subst (λ (l : List (List ℕ)). Contains l d.time) rest (map_in (λ (e : CompletedInstant). e.time) cs d there))) in
    ap times_of (later_passed p c cs (up_to_same c.time p first) ∙ filter_whole (λ (d : CompletedInstant). is_later p d.time) cs later) ∙ rest
later_times (w ∷ ws) p ys (c ∷ cs) order e distinct =
    let rest : times_of cs ≡ ws ++ p ∷ ys = cc in
    let of = in_map (λ (d : CompletedInstant). d.time) cs p (subst (λ (l : List (List ℕ)). Contains l p) (sym rest) (Contains-append_right ws (p ∷ ys) p (Contains-head p ys))) in
    let up : IsUpTo c.time p = subst (IsUpTo c.time) of.2 (all_at (λ (e : CompletedInstant). IsUpTo c.time e.time) cs of.0 order.0 of.1) in
    ap times_of (later_passed p c cs up) ∙ later_times ws p ys cs order.1 rest (behind_distinct w (ws ++ p ∷ ys) distinct)

-- ---- the commits lead along the history

leave_behind : (files : Files) (front behind : History) → LeaveTables files (front ++ behind) → LeaveTables files behind
leave_behind files [] behind leave = leave
leave_behind files (entry ∷ front) behind leave = leave_behind files front behind (λ v. leave (suc v))

module _ (files : Files) (properties : Properties) (says : SaysProperties files properties) where
  lead_along : (before : List ℕ × Table) (behind : History) (cs : List CompletedInstant) (base : Table) (commits : List Commit) (last : Table) → LeaveTables files (before ∷ behind)
      → ((c : CompletedInstant) → Contains cs c → Contains (reached_in files) c) → times_of cs ≡ positions_of behind → IsLike base before.1 → before.1.partition ≡ properties.table.partition
      → AreCommits files properties.table base cs commits last → LeadAlong before.1 behind commits
  lead_along before [] [] base commits last leave there times like columns made = made.0
  lead_along before [] (c ∷ cs) base commits last leave there times like columns made = absurd cc
  lead_along before (after ∷ behind) [] base commits last leave there times like columns made = absurd cc
  lead_along before (after ∷ behind) (c ∷ cs) base commits last leave there times like columns made =
      let time : c.time ≡ after.0 = cc in
      let rest : times_of cs ≡ positions_of behind = cc in
      let commit = made.0 in
      let of = made.4 in
      let u = completed Base of.instant in
      let leaves : IsReadable u properties.table (Some before.1) → IsMadeBy u properties.table (Some before.1) after.1 =
      leave zero before after refl refl c (there c (Contains-head c cs)) time properties of.instant says of.says in
      let step = leads_like u properties.table base before.1 commit.change made.2 after.1 like columns of.change made.5 leaves in
      let first : LeadsTo before.1 commit after = record { position = of.position ∙ time; rows = step.rows; schema = step.schema; partition = step.partition } in
      let others = lead_along after behind cs made.2 made.1 last (λ v. leave (suc v)) (λ d in_rest. there d (Contains-tail c cs d in_rest)) rest step.like (step.partition ∙ columns) made.6 in
      subst (LeadAlong before.1 (after ∷ behind)) (sym made.3) (first, others)

positions_split : (front behind : History) (entry : List ℕ × Table) → positions_of (front ++ entry ∷ behind) ≡ positions_of front ++ entry.0 ∷ positions_of behind
positions_split front behind entry = map-append (λ (e : List ℕ × Table). e.0) front (entry ∷ behind)

later_positions : (files : Files) (front behind : History) (entry : List ℕ × Table) → IsHistory (front ++ entry ∷ behind) → HoldsHistory files (front ++ entry ∷ behind) → IsReached files entry.0
    → times_of (later_in files entry.0) ≡ positions_of behind
later_positions files front behind entry is holds at =
    let split = positions_split front behind entry in
    let times = times_of (reached_in files) in
    let distinct : IsDistinct bytes_eq (positions_of front ++ entry.0 ∷ positions_of behind) = subst (IsDistinct bytes_eq) split is.distinct in
    let of = (reached_times files entry.0).1 at in
    let there : Contains times entry.0 = subst (Contains times) of.2 (map_in (λ (c : CompletedInstant). c.time) (reached_in files) of.0 of.1) in
    let parts = split_last (positions_of front) entry.0 (positions_of behind) holds.archived times distinct (sym split ∙ holds.positions) there in
    let kept : IsDistinct bytes_eq times = last_distinct holds.archived times (subst (IsDistinct bytes_eq) holds.positions is.distinct) in
    later_times parts.0 entry.0 (positions_of behind) (reached_in files) (order_up_to_head files) parts.1 (subst (IsDistinct bytes_eq) parts.1 kept)

-- The instants up to the head have their places in a history.
pub reached_held : (files : Files) (history : History) (position : List ℕ) → HoldsHistory files history → IsReached files position → Contains (positions_of history) position
reached_held files history position holds at =
    let times = times_of (reached_in files) in
    let of = (reached_times files position).1 at in
    let there : Contains times position = subst (Contains times) of.2 (map_in (λ (c : CompletedInstant). c.time) (reached_in files) of.0 of.1) in
    subst (λ (l : List (List ℕ)). Contains l position) (sym holds.positions) (Contains-append_right holds.archived times position there)

pub along : (files : Files) (front behind : History) (entry : List ℕ × Table) (base : Table) (commits : List Commit) → IsHistory (front ++ entry ∷ behind) → HoldsHistory files (front ++ entry ∷ behind)
    → IsLike base entry.1 → IsReached files entry.0 → IsSince files entry.0 base commits → LeadAlong entry.1 behind commits
along files front behind entry base commits is holds like at since =
    let made = since.up_to.made in
    lead_along files since.properties since.says entry behind (later_in files entry.0) base commits made.last
    (leave_behind files front (entry ∷ behind) holds.tables)
    (λ c there. (Contains-filter (λ (d : CompletedInstant). is_later entry.0 d.time) (reached_in files) c there).0)
    (later_positions files front behind entry is holds at)
    like
    (sym like.partition ∙ sym since.up_to.partition)
    made.taken.made

-- ---- the table at the head

up_to_end : (c : CompletedInstant) (cs : List CompletedInstant) → AreInOrder (c ∷ cs) → (d : CompletedInstant) → Contains (c ∷ cs) d → IsUpTo d.time (end_of c cs).time
up_to_end c [] order d there =
    ⊎_elim
    (λ e. up_to_same d.time c.time (ap (λ (x : CompletedInstant). x.time) (sym e)))
    (λ later. absurd (Contains-none d later))
    (Contains-cases c [] d there)
up_to_end c (e ∷ es) order d there =
    ⊎_elim
    (λ same. subst (λ (x : CompletedInstant). IsUpTo x.time (end_of e es).time) same (all_at (λ (x : CompletedInstant). IsUpTo c.time x.time) (e ∷ es) (end_of e es) order.0 (end_in e es)))
    (λ later. up_to_end e es order.1 d later)
    (Contains-cases c (e ∷ es) d there)

head_at_end : (files : Files) (head : List ℕ) → IsHead files head → (c : CompletedInstant) (cs : List CompletedInstant) → reached_in files ≡ c ∷ cs → (end_of c cs).time ≡ head
head_at_end files head is c cs e =
    let of = (reached_times files head).1 is.0 in
    let end_reached : IsReached files (end_of c cs).time = (reached_times files (end_of c cs).time).0 (end_of c cs, subst (λ (l : List CompletedInstant). Contains l (end_of c cs)) (sym e) (end_in c cs), refl) in
    let head_up = up_to_end c cs (subst AreInOrder e (order_up_to_head files)) of.0 (subst (λ (l : List CompletedInstant). Contains l of.0) e of.1) in
    same_time (end_of c cs).time head (is.1 (end_of c cs).time end_reached) (subst (λ (time : List ℕ). IsUpTo time (end_of c cs).time) of.2 head_up)

end_time : (entry : List ℕ × Table) (history : History) (archived : List (List ℕ)) (c : CompletedInstant) (cs : List CompletedInstant) → positions_of (entry ∷ history) ≡ archived ++ times_of (c ∷ cs) → (end_of entry history).0 ≡ (end_of c cs).time
end_time entry history archived c cs e =
    end_map (λ (h : List ℕ × Table). h.0) entry history ∙ by archived e ∙ sym (end_map (λ (d : CompletedInstant). d.time) c cs)
  where
    by : (older : List (List ℕ)) → entry.0 ∷ positions_of history ≡ older ++ c.time ∷ times_of cs → end_of entry.0 (positions_of history) ≡ end_of c.time (times_of cs)
    by [] e =
        let first : entry.0 ≡ c.time = cc in
        let rest : positions_of history ≡ times_of cs = cc in
        λ i. end_of (first i) (rest i)
    by (o ∷ os) e =
        let rest : positions_of history ≡ os ++ c.time ∷ times_of cs = cc in
        ap (λ (l : List (List ℕ)). end_of entry.0 l) rest ∙ end_append entry.0 os c.time (times_of cs)

module _ (files : Files) (properties : Properties) (says : SaysProperties files properties) where
  -- the later ones make those of theirs
  end_same : (before : List ℕ × Table) (behind : History) (cs : List CompletedInstant) (held : Table) (timeline : Timeline) (end : Table) → LeaveTables files (before ∷ behind)
      → ((c : CompletedInstant) → Contains cs c → Contains (reached_in files) c) → times_of cs ≡ positions_of behind → SameTable held before.1 → before.1.partition ≡ properties.table.partition
      → SayTimeline files naming.Base cs timeline → LeadsThrough properties.table (Some held) timeline end → SameTable end (end_of before behind).1
  end_same before [] [] held timeline end leave there times same columns say leads =
      let is : end ≡ held = subst (λ (l : Timeline). LeadsThrough properties.table (Some held) l end) say leads in
      subst (λ (t : Table). SameTable t before.1) (sym is) same
  end_same before [] (c ∷ cs) held timeline end leave there times same columns say leads = absurd cc
  end_same before (after ∷ behind) [] held timeline end leave there times same columns say leads = absurd cc
  end_same before (after ∷ behind) (c ∷ cs) held timeline end leave there times same columns say leads =
      let time : c.time ≡ after.0 = cc in
      let rest : times_of cs ≡ positions_of behind = cc in
      let u = completed Base say.0 in
      let to = subst (λ (l : Timeline). LeadsThrough properties.table (Some held) l end) say.4 leads in
      let like = like_same held before.1 same in
      let leaves : IsReadable u properties.table (Some before.1) → IsMadeBy u properties.table (Some before.1) after.1 =
      leave zero before after refl refl c (there c (Contains-head c cs)) time properties say.0 says say.2 in
      let next = step_same u properties.table held before.1 to.0 to.1 after.1 like columns to.2 to.3 leaves same in
      let partition = (leads_like u properties.table held before.1 to.0 to.1 after.1 like columns to.2 to.3 leaves).partition in
      end_same after behind cs to.1 say.1 end (λ v. leave (suc v)) (λ d in_rest. there d (Contains-tail c cs d in_rest)) rest next (partition ∙ columns) say.3 to.4

  -- all of them make that of the last entry
  whole_same : (entry : List ℕ × Table) (history : History) (c : CompletedInstant) (cs : List CompletedInstant) (timeline : Timeline) (end : Table) → reached_in files ≡ c ∷ cs
      → LeavesFirst files (entry ∷ history) → LeaveTables files (entry ∷ history) → positions_of (entry ∷ history) ≡ times_of (c ∷ cs)
      → SayTimeline files naming.Base (c ∷ cs) timeline → LeadsThrough properties.table None timeline end → SameTable end (end_of entry history).1
  whole_same entry history c cs timeline end e first leave times say leads =
      let time : c.time ≡ entry.0 = cc in
      let rest : times_of cs ≡ positions_of history = cc in
      let there : (d : CompletedInstant) → Contains (c ∷ cs) d → Contains (reached_in files) d = λ d within. subst (λ (l : List CompletedInstant). Contains l d) (sym e) within in
      let u = completed Base say.0 in
      let to = subst (λ (l : Timeline). LeadsThrough properties.table None l end) say.4 leads in
      let leaves : IsReadable u properties.table None → IsMadeBy u properties.table None entry.1 = first entry refl c (there c (Contains-head c cs)) time properties say.0 says say.2 in
      let next = first_same u properties.table to.0 to.1 entry.1 to.2 to.3 leaves in
      end_same entry history cs to.1 say.1 end leave (λ d within. there d (Contains-tail c cs d within)) rest next (sym next.partition ∙ to.3.partition) say.3 to.4

module _ (files : Files) (head : Head) (is : IsHudiHead files head) where
  head_table : (entry : List ℕ × Table) (history : History) (c : CompletedInstant) (cs : List CompletedInstant) → reached_in files ≡ c ∷ cs → HoldsHistory files (entry ∷ history) → (t : Table) → IsTableAtHead files t → SameTable t (end_of entry history).1
  head_table entry history c cs e holds t at =
      let from = holds.whole at.whole.archive in
      let made = at.whole.up_to.made in
      let times : positions_of (entry ∷ history) ≡ times_of (c ∷ cs) = holds.positions ∙ ap (λ (l : List (List ℕ)). l ++ times_of (reached_in files)) from.none ∙ ap times_of e in
      let timeline = made.read.before ++ made.read.newest ∷ [] in
      let say = subst (λ (l : List CompletedInstant). SayTimeline files naming.Base l timeline) e made.read.say in
      subst (λ (w : Table). SameTable w (end_of entry history).1) (sym made.is)
      (whole_same files at.properties at.says entry history c cs timeline made.latest.table e from.first holds.tables times say made.read.leads)

  last_of : (history : History) (cs : List CompletedInstant) → reached_in files ≡ cs → HoldsHistory files history
      → (last : List ℕ × Table) × IsLast history last × (last.0 ≡ head.position) × ((table : Table) → IsTableAtHead files table → SameTable table last.1)
  last_of history [] e holds =
      let of = (reached_times files head.position).1 is.position.0 in
      absurd (Contains-none of.0 (subst (λ (l : List CompletedInstant). Contains l of.0) e of.1))
  last_of [] (c ∷ cs) e holds = absurd (none_there holds.archived c.time (times_of cs) (holds.positions ∙ ap (λ (l : List CompletedInstant). holds.archived ++ times_of l) e))
    where
      none_there : (older : List (List ℕ)) (t : List ℕ) (ts : List (List ℕ)) → [] ≡ older ++ t ∷ ts → ⊥
      none_there [] t ts e = absurd cc
      none_there (o ∷ os) t ts e = absurd cc
  last_of (entry ∷ history) (c ∷ cs) e holds = (
    end_of entry history,
    end_front entry history,
    end_time entry history holds.archived c cs (holds.positions ∙ ap (λ (l : List CompletedInstant). holds.archived ++ times_of l) e) ∙ head_at_end files head.position is.position c cs e,
    head_table entry history c cs e holds,
  )

pub last : (files : Files) (history : History) (head : Head) → IsHistory history → HoldsHistory files history → IsHudiHead files head
    → (last : List ℕ × Table) × IsLast history last × (last.0 ≡ head.position) × ((table : Table) → IsTableAtHead files table → SameTable table last.1)
last files history head is holds at = last_of files head at history (reached_in files) refl holds

-- ---- the same files in the timeline's folder

archive_own : (a b : Files) → SameIn timeline_folder a b → IsArchiveEmpty b → IsArchiveEmpty a
archive_own a b same empty = sym (names_own archive_folder (λ name. (name, refl)) a b (λ path within. same path (behind path within))) ∙ empty
  where
    behind : (path : List ℕ) → IsIn archive_folder path → IsIn timeline_folder path
    behind path within = (codes "archived/" ++ within.0, within.1)

module _ (a b : Files) (same : SameIn timeline_folder a b) where
  leaves_own : (c : CompletedInstant) (base : Option Table) (next : Table) → LeavesTable a c base next → LeavesTable b c base next
  leaves_own c base next leaves properties instant says_properties says_instant =
      let back = same_back timeline_folder a b same in
      leaves properties instant (properties_too b a back properties says_properties) (says_too b a back c instant says_instant)

  there_own : (c : CompletedInstant) → Contains (reached_in b) c → Contains (reached_in a) c
  there_own c there = subst (λ (l : List CompletedInstant). Contains l c) (sym (reached_same a b same)) there

  tables_own : (history : History) → LeaveTables a history → LeaveTables b history
  tables_own history leave v before entry at next c there time = leaves_own c (Some before.1) entry.1 (leave v before entry at next c (there_own c there) time)

  first_own : (archived : List (List ℕ)) (history : History) → IsFromFirst a archived history → IsFromFirst b archived history
  first_own archived history h = record {
    none = h.none;
    first = λ entry at c there time. leaves_own c None entry.1 (h.first entry at c (there_own c there) time);
  }

pub holds_own : (a b : Files) (history : History) → SameIn timeline_folder a b → HoldsHistory a history → HoldsHistory b history
holds_own a b history same h = record {
  archived = h.archived;
  positions = h.positions ∙ ap (λ (l : List CompletedInstant). h.archived ++ times_of l) (reached_same a b same);
  tables = tables_own a b same history h.tables;
  whole = λ empty. first_own a b same h.archived history (h.whole (archive_own a b same empty));
}

-- What the steps of inspecting find, taken together.
use Rattle.std.proofs.Common.{◌≡◌, ◌≢◌, ◌⊎◌, inl, inr, ⊎_elim, ℕ, suc, ◌+◌, ◌-◌, ◌<◌, ◌&&◌, Bool, true, false, cond, List, [], ◌∷◌, ◌++◌, length, filter, Contains, Option, Some, None, refl, sym, ap, subst, ◌∙◌, arith}
use Rattle.std.specs.Prelude.{codes, IfErr, IfOk, IfSome, Result, Ok, Err, option_map, slice_get}
use Rattle.std.specs.FinMap as map
use Rattle.std.specs.List.{filter_map}
use Rattle.std.specs.Option.{ForSome}
use Rattle.std.proofs.lemmas.List.{length-append}
use Rattle.std.proofs.lemmas.List.Elements.{Contains-append_cases, Contains-append_right}
use Rattle.lake_basics.specs.Outcome.{◌>>=◌, each}
use Rattle.lake_basics.proofs.Options.{none_there}
use Rattle.lake_store.specs.Disk.{Files, names_in}
use Rattle.table_history.specs.declared.feature.Feature.{Feature}
use Rattle.table_history.specs.declared.kind.Kind.{Kind}
use Rattle.table_history.specs.declared.limit.LimitKind.{LimitKind}
use Rattle.table_history.specs.declared.table.Table.{Table}
use Rattle.table_history.proofs.RowListLemmas.{Contains-head, Contains-one}
use Rattle.partition_map.proofs.KindLemmas.{kind_exactly}
use Rattle.hudi_names.specs.Time.{IsSomeTime}
use Rattle.hudi_timeline.specs.Change.{IsTableOf}
use Rattle.hudi_properties.specs.Pairs.{in_order, is_filled, pair_at, pair_of, properties_of, required_at}
use Rattle.hudi_properties.specs.Lines.{logical_lines}
use Rattle.hudi_properties.specs.TableProperties.{first_feature, table_of, unless_shown}
use Rattle.hudi_names.specs.declared.error.HudiError.{HudiError}
use Rattle.hudi_names.specs.declared.error.HudiError.TheVariants as hudi
use Rattle.hudi_instant.specs.declared.instant.Instant.{Instant}
use Rattle.hudi_properties.specs.declared.table.HudiTable.{HudiTable}
use Rattle.hudi_table.proofs.ReadingLaws.{live_rows}
use Rattle.hudi_table.specs.Files.{HasFault}
use Rattle.hudi_table.specs.Instants.{IsOfNames, completed_of, instants_in, is_commit, is_done, is_second, path_of}
use Rattle.hudi_table.specs.Reading.{IsNextHere, IsReadingOf, table_in}
use Rattle.hudi_table.specs.Refusals.{IsFileRefusal, IsPropertyFault, IsStepRefusal}
use Rattle.hudi_table.specs.declared.error.TimelineError.{TimelineError}
use Rattle.hudi_table.specs.declared.error.TimelineError.TheVariants as timeline
use Rattle.hudi_table.specs.declared.instants.CompletedInstant.{CompletedInstant}
use Rattle.hudi_table.specs.declared.instants.InstantName.{InstantName}
use Rattle.hudi_table.specs.declared.properties.Properties.{Properties}
use Rattle.hudi_table.specs.declared.reading.Latest.{Latest}
use Rattle.hudi_table.specs.declared.reading.Naming.TheVariants.{External}
use Rattle.hudi_table.specs.declared.timeline.Timeline.{Timeline}
use Rattle.hudi_table.proofs.FolderLaws.{SaysOf, instant_says}
use Rattle.hudi_table.proofs.ReadingLaws.{reading_further}
use Rattle.hudi_table.proofs.UpLists.{picked_from}
use Rattle.hudi_commit.specs.Names.{IsThere, properties_path, timeline_folder, timeline_path}
use Rattle.hudi_commit.specs.Orderly.{LacksProperties}
use Rattle.target_core.specs.Conditions.{IsPublishable}
use Rattle.target_core.specs.Held.{are_held}
use Rattle.target_core.specs.Mark.{IsMarkText}
use Rattle.target_core.specs.Refusals.{IsInspectRefusal}
use Rattle.target_core.specs.Views.{IsOfSource, Standing, standing_of}
use Rattle.target_core.specs.declared.mark.Mark.{Mark}
use Rattle.target_core.specs.declared.target.TargetError.{TargetError}
use Rattle.target_core.specs.declared.target.TargetError.TheVariants as target
use Rattle.target_core.proofs.HeldRows.{are_held_by}
use Rattle.target_hudi.specs.Inspecting.{IsCrowded, IsFaulty, IsForeign, IsReadUpTo, PassesIn}
use Rattle.target_hudi.specs.InspectSteps.{AllMarked, HasManyClaims, HasOwnForm, IsInstantStop, IsKeptOf, IsMarkOf, IsNameStop, IsNextOurs, IsOurReading, IsOwnInstant, IsOwnTimeline, IsProperties, IsSoundNewest, IsStop, IsStopIn, is_missing, latest_in, stop_of}
use Rattle.target_hudi.specs.Kept.{IsNewest, StandsFor, view_of}
use Rattle.target_hudi.specs.Reading.{HasOwnProperties, IsAbsent, IsMarkAt, IsOurs, NamesInstant, commits_in, completed_in}
use Rattle.target_hudi.specs.declared.inspect.Newest.{Newest}
use Rattle.target_hudi.specs.declared.kept.HudiKept.{HudiKept}
use Rattle.target_hudi.specs.declared.stop.Stop.{Stop}
use Rattle.target_hudi.specs.declared.stop.Stop.TheVariants as stop
use Rattle.target_hudi.specs.OnceLemmas.{one_instant, one_place}
use Rattle.target_hudi.proofs.OwnNameLemmas.{first_foreign, instant_at, looks_up, names_instant}

-- ---- stops

-- one refusal for another's numbers
refused_further : (P Q : LimitKind → ℕ → Type 0) → ((which : LimitKind) (number : ℕ) → P which number → Q which number) → (e : TargetError) → IsInspectRefusal P e → IsInspectRefusal Q e
refused_further P Q further target.Memory refused = tt
refused_further P Q further target.StoreFault refused = tt
refused_further P Q further target.Contested refused = refused
refused_further P Q further (target.Limit which number) refused = further which number refused
refused_further P Q further (target.Unsupported feature path) refused = refused

stop_further : (F G : List ℕ → Type 0) (P Q : LimitKind → ℕ → Type 0) → ((path : List ℕ) → F path → G path) → ((which : LimitKind) (number : ℕ) → P which number → Q which number) → (s : Stop) → IsStop F P s → IsStop G Q s
stop_further F G P Q foreign crowded (stop.Refused e) is = refused_further P Q crowded e is
stop_further F G P Q foreign crowded (stop.Foreign path) is = foreign path is

-- ---- properties

-- no fault of properties tells of a number
bind_err : {A B : Type 0} (r : Result A HudiError) (f : A → Result B HudiError) (e : HudiError) → (r >>= f) ≡ Err e → (r ≡ Err e) ⊎ ((x : A) × (r ≡ Ok x) × (f x ≡ Err e))
bind_err (Ok x) f e is = inr (x, refl, is)
bind_err (Err d) f e is = let same : d ≡ e = cc (is) in inl (ap (λ (x : HudiError). Err x) same)

ok_err : {A : Type 0} (x : A) (e : HudiError) → Ok x ≡ Err e → ⊥
ok_err x e is = cc

pair_fault : (number : ℕ) (o : Option (List ℕ × List ℕ)) (which : LimitKind) → required_at number o ≡ Err (hudi.Limit which) → ⊥
pair_fault number None which is = cc
pair_fault number (Some pair) which is = cc

each_fault : {A B : Type 0} (which : LimitKind) (f : A → Result B HudiError) → ((x : A) → f x ≡ Err (hudi.Limit which) → ⊥) → (xs : List A) → each f xs ≡ Err (hudi.Limit which) → ⊥
each_fault which f never [] is = cc
each_fault {A} {B} which f never (x ∷ xs) is =
    ⊎_elim
    (λ first. never x first)
    (λ (rest : (y : B) × (f x ≡ Ok y) × ((each f xs >>= λ ys. Ok (y ∷ ys)) ≡ Err (hudi.Limit which))).
    ⊎_elim
    (λ later. each_fault which f never xs later)
    (λ (done : (ys : List B) × (each f xs ≡ Ok ys) × (Ok (rest.0 ∷ ys) ≡ Err (hudi.Limit which))). ok_err (rest.0 ∷ done.0) (hudi.Limit which) done.2)
    (bind_err (each f xs) (λ ys. Ok (rest.0 ∷ ys)) (hudi.Limit which) rest.2))
    (bind_err (f x) (λ y. each f xs >>= λ ys. Ok (y ∷ ys)) (hudi.Limit which) is)

lines_fault : (bytes : List ℕ) (which : LimitKind) → properties_of bytes ≡ Err (hudi.Limit which) → ⊥
unfolding properties_of
lines_fault bytes which is =
    let lines = filter is_filled (logical_lines bytes) in
    ⊎_elim
    (λ first. each_fault which pair_at (λ line. pair_fault line.number (pair_of line.content) which) lines first)
    (λ (done : (ps : List (List ℕ × List ℕ)) × (each pair_at lines ≡ Ok ps) × (Ok (in_order ps) ≡ Err (hudi.Limit which))). ok_err (in_order done.0) (hudi.Limit which) done.2)
    (bind_err (each pair_at lines) (λ ps. Ok (in_order ps)) (hudi.Limit which) is)

feature_fault : (o : Option Feature) (table : HudiTable) (which : LimitKind) → unless_shown o table ≡ Err (hudi.Limit which) → ⊥
feature_fault None table which is = cc
feature_fault (Some feature) table which is = cc

properties_fault : (bytes : List ℕ) (which : LimitKind) → HasFault bytes (hudi.Limit which) → ⊥
properties_fault bytes which (inl unread) = lines_fault bytes which unread
properties_fault bytes which (inr (pairs, read, shown)) = feature_fault (first_feature pairs) (table_of pairs) which shown

abbrev properties_name : List ℕ
properties_name = codes "hoodie.properties"

module _ (source : Kind) (files : Files) where
  -- the properties aren't read, and where they are missing an instant's name is there
  pub properties_stop : (e : TimelineError) → IsFileRefusal files properties_name (IsPropertyFault files) e → ((path : List ℕ) → e ≡ timeline.Missing path → LacksProperties files) → IsStopIn source files (stop_of e)
  properties_stop timeline.Memory refused lacks = tt
  properties_stop timeline.StoreFault refused lacks = tt
  properties_stop timeline.ManyNames refused lacks = absurd refused
  properties_stop timeline.ManyCommits refused lacks = absurd refused
  properties_stop (timeline.Missing path) refused lacks = inl (refused.0, inl (lacks path refl))
  properties_stop (timeline.Large path) refused lacks = inr (inl (refl, refl, (refused.1, refused.2, refused.3)))
  properties_stop (timeline.Refused path hudi.Memory) refused lacks = tt
  properties_stop (timeline.Refused path (hudi.Malformed line)) refused lacks = inl (refused.0, inr (refused.1.0, refused.1.1, inl (hudi.Malformed line, tt, refused.1.2)))
  properties_stop (timeline.Refused path (hudi.Unsupported feature)) refused lacks = inl (refused.0, inr (refused.1.0, refused.1.1, inl (hudi.Unsupported feature, tt, refused.1.2)))
  properties_stop (timeline.Refused path (hudi.Limit which)) refused lacks = absurd (properties_fault refused.1.0 which refused.1.2)

  -- ---- names

  module _ (front : List InstantName) (i : InstantName) (behind : List InstantName) (split : instants_in (names_in files timeline_folder) ≡ front ++ i ∷ behind) (own : (j : InstantName) → Contains front j → IsOwnInstant files j) where
    pub name_stop : SaysOf (names_in files timeline_folder) i → HasOwnProperties files → (s : Stop) → IsNameStop files i s → IsStopIn source files s
    name_stop told properties s is = stop_further
        (λ path. (path ≡ timeline_path i.name) × (IsOwnInstant files i → ⊥)) (IsForeign source files)
        (λ which number. HasOwnForm i × (i.is_pending ≡ true) × HasManyClaims files which number) (IsCrowded source files)
        (λ path (h : (path ≡ timeline_path i.name) × (IsOwnInstant files i → ⊥)). inr (inl (first_foreign files front i behind split own told properties h.1 path h.0)))
        (λ which number (h : HasOwnForm i × (i.is_pending ≡ true) × HasManyClaims files which number). inr (inr (inl (h.2.0, h.2.1, looks_up files front i behind split own told properties h.0 h.1, h.2.2))))
        s is

  -- ---- completed instants

  -- why an instant that is there isn't read
  pub step_stop : (p : Properties) (c : CompletedInstant) (latest : Option Latest) (e : TimelineError) → IsThere files (path_of c.name) → IsStepRefusal files External p.table c (table_in latest) e → IsInstantStop source files p c latest (stop_of e)
  step_stop p c latest timeline.Memory there refused = tt
  step_stop p c latest timeline.StoreFault there refused = tt
  step_stop p c latest timeline.ManyNames there refused = absurd refused
  step_stop p c latest timeline.ManyCommits there refused = absurd refused
  step_stop p c latest (timeline.Missing path) there refused = absurd (none_there (map.get files (path_of c.name)) refused.1 there)
  step_stop p c latest (timeline.Large path) there refused = inl (refl, refl, (refused.1, refused.2, refused.3))
  step_stop p c latest (timeline.Refused path hudi.Memory) there refused = tt
  step_stop p c latest (timeline.Refused path (hudi.Malformed line)) there refused = (refused.0, inl (hudi.Malformed line, tt, refused.1))
  step_stop p c latest (timeline.Refused path (hudi.Unsupported feature)) there refused = (refused.0, inl (hudi.Unsupported feature, tt, refused.1))
  step_stop p c latest (timeline.Refused path (hudi.Limit which)) there refused = inr (refl, refused.1)

  module _ (p : Properties) (c : CompletedInstant) (latest : Option Latest) (next : Latest) (here : IsNextHere files External p.table c (table_in latest) next) where
    stated : next.mark ≡ here.here.instant.mark
    stated = here.mark ∙ here.here.mark

    mark_of_at : (standing : Standing) (at : IsMarkAt files c standing) → IsMarkOf next c at.mark
    mark_of_at standing at = record {
      text = at.text;
      stated = stated ∙ ap (λ (i : Instant). i.mark) (one_instant files c here.here.instant at.instant here.here.says at.says) ∙ at.stated;
      reads = at.reads;
      at = at.at;
    }

    -- an instant that is read and has no mark of its own
    pub unmarked : ((mark : Mark) → IsMarkOf next c mark → mark.source ≢ source) → IsFaulty source files p c latest
    unmarked none = inr (next, here, λ standing at same. none at.mark (mark_of_at standing at) (ap (λ (s : Standing). s.origin.source) at.is ∙ same))

    pub unmarked_stop : (s : Stop) → IsStop (λ path. (path ≡ path_of c.name) × ((mark : Mark) → IsMarkOf next c mark → mark.source ≢ source)) (λ which number. ⊥) s → IsInstantStop source files p c latest s
    unmarked_stop s is = stop_further
        (λ path. (path ≡ path_of c.name) × ((mark : Mark) → IsMarkOf next c mark → mark.source ≢ source)) (λ path. (path ≡ path_of c.name) × IsFaulty source files p c latest)
        (λ which number. ⊥) (PassesIn files p c latest)
        (λ path (h : (path ≡ path_of c.name) × ((mark : Mark) → IsMarkOf next c mark → mark.source ≢ source)). (h.0, unmarked h.1))
        (λ which number never. absurd never)
        s is

  -- what stops at an instant behind those that are read
  pub instant_stop : (p : Properties) (c : CompletedInstant) (latest : Option Latest) → IsReadUpTo source files p c latest → (s : Stop) → IsInstantStop source files p c latest s → IsStopIn source files s
  instant_stop p c latest before s is = stop_further
      (λ path. (path ≡ path_of c.name) × IsFaulty source files p c latest) (IsForeign source files)
      (PassesIn files p c latest) (IsCrowded source files)
      (λ path (h : (path ≡ path_of c.name) × IsFaulty source files p c latest). inr (inr (record { instant = c; is = h.0; table = p; latest = latest; before = before; faulty = h.1 })))
      (λ which number passes. inr (inr (inr (inr (c, p, latest, before, passes)))))
      s is

  -- the instants with one more
  pub marked_more : (front : List CompletedInstant) (c : CompletedInstant) (standing : Standing) → AllMarked source files front → IsMarkAt files c standing → standing.origin.source ≡ source → AllMarked source files (front ++ c ∷ [])
  marked_more front c standing all at is d there =
      ⊎_elim
      (λ before. all d before)
      (λ last. subst (λ (e : CompletedInstant). (s : Standing) × IsMarkAt files e s × (s.origin.source ≡ source)) (Contains-one c d last) (standing, at, is))
      (Contains-append_cases front (c ∷ []) d there)

  pub read_more : (p : Properties) (front : List CompletedInstant) (before : Option Newest) (c : CompletedInstant) (next : Newest) → IsOurReading source files p front before → IsNextOurs source files p c before next → IsOurReading source files p (front ++ c ∷ []) (Some next)
  read_more p front before c next was step = record {
    read = reading_further files External p.table front (latest_in before) c next.latest was.read step.here;
    marked = marked_more front c (standing_of next.mark) was.marked step.marked step.source_is;
    last = (front, c, refl, step.marked, step.at);
  }

  pub read_none : (p : Properties) → IsOurReading source files p [] None
  read_none p = record { read = refl; marked = λ c there. absurd (none c there); last = tt }
    where
      none : (c : CompletedInstant) → Contains [] c → ⊥
      none c there = let lt = there.1 in absurd (omega arith)

  -- ---- what is found

  newest_in : (o : Option (List ℕ)) (front : List CompletedInstant) (c : CompletedInstant) → o ≡ Some c.time → completed_in files ≡ front ++ c ∷ [] → IsNewest files o
  newest_in None front c is split = cc
  newest_in (Some time) front c is split = let same : time ≡ c.time = cc (is) in (front, c, split, sym same)

  view_at : (kept : HudiKept) (count : ℕ) (standing : Standing) (t : Table) → kept.commits ≡ count → option_map standing_of kept.mark ≡ Some standing → kept.table ≡ t → view_of kept ≡ record { commits = count; mark = Some standing; table = t }
  view_at kept count standing t commits mark table =
      ap (λ (n : ℕ). record { commits = n; mark = option_map standing_of kept.mark; table = kept.table }) commits
      ∙ ap (λ (m : Option Standing). record { commits = count; mark = m; table = kept.table }) mark
      ∙ ap (λ (u : Table). record { commits = count; mark = Some standing; table = u }) table

  -- lists with one more at their ends
  same_last : (front other : List CompletedInstant) (c d : CompletedInstant) → front ++ c ∷ [] ≡ other ++ d ∷ [] → c ≡ d
  same_last front other c d same =
      let lengths : length front + 1 ≡ length other + 1 = sym (length-append front (c ∷ [])) ∙ ap (λ (l : List CompletedInstant). length l) same ∙ length-append other (d ∷ []) in
      (one_place front c [] other d [] (omega (arith, lengths)) same).1

  module _ (p : Properties) (cs : List CompletedInstant) (own : IsOwnTimeline files p cs) (newest : Newest) (read : IsOurReading source files p cs (Some newest)) (front : List CompletedInstant) (c : CompletedInstant) (split : cs ≡ front ++ c ∷ []) (kept : HudiKept) (k : IsKeptOf newest (length cs) c.time kept) where
    count : kept.commits ≡ commits_in files
    count = k.commits_are ∙ ap (λ (l : List CompletedInstant). length l) own.are

    whole : IsReadingOf files External p.table (completed_in files) (Some newest.latest)
    whole = subst (λ (l : List CompletedInstant). IsReadingOf files External p.table l (Some newest.latest)) own.are read.read

    ours : IsOurs files (view_of kept)
    ours = record {
      properties = own.properties;
      names = own.names;
      table = p;
      says = own.says;
      latest = newest.latest;
      read = whole;
      live = live_rows files External p.table (completed_in files) newest.latest whole;
      source = source;
      marked = subst (AllMarked source files) own.are read.marked;
      front = read.last.0;
      newest = read.last.1;
      last = sym own.are ∙ read.last.2;
      standing = standing_of newest.mark;
      stands = read.last.3;
      view_is = view_at kept (commits_in files) (standing_of newest.mark) newest.latest.table count (ap (λ (m : Option Mark). option_map standing_of m) k.marked) k.table;
    }

    last_is : read.last.1 ≡ c
    last_is = same_last read.last.0 front read.last.1 c (sym read.last.2 ∙ split)

    named_newest : option_map (λ (m : Mark). m.at) kept.mark ≡ kept.newest
    named_newest =
        ap (λ (m : Option Mark). option_map (λ (n : Mark). n.at) m) k.marked
        ∙ ap (λ (t : List ℕ). Some t) (read.last.4 ∙ ap (λ (d : CompletedInstant). d.time) last_is)
        ∙ sym k.newest_is

    pub kept_found : StandsFor kept files
    kept_found = record { reads = inr ours; at = named_newest; counted = record { commits = count; newest = newest_in kept.newest front c k.newest_is (sym own.are ∙ split) } }

pub kept_source : (source : Kind) (newest : Newest) (commits : ℕ) (time : List ℕ) (kept : HudiKept) → IsKeptOf newest commits time kept → newest.mark.source ≡ source → IsOfSource source (view_of kept)
kept_source source newest commits time kept k is = (standing_of newest.mark, ap (λ (m : Option Mark). option_map standing_of m) k.marked, is)

-- ---- the table may be published

pub publishable : (table : HudiTable) (t : Table) → IsTableOf table t → IsPublishable t
publishable table t is = record {
  sound = is.sound;
  paths = is.paths;
  live_files = is.live_files;
  partition_columns = is.partition_columns;
  partition_distinct = is.partition_distinct;
  partition_kinds = λ name there. (kind_exactly t.schema name).0 (is.partition_kinds name there);
  schema = is.schema;
  size = is.size;
}

-- ---- the names that a list tells

completed_time : (names : List (List ℕ)) (i : InstantName) (c : CompletedInstant) → completed_of names i ≡ Some c → i.time ≡ c.time
completed_time names i c is = by (is_commit i.action && is_done i.state) is
  where
    by : (b : Bool) → cond b (Some (record { name = i.name; time = i.time; is_second = is_second names i })) None ≡ Some c → i.time ≡ c.time
    by true found =
        let same : record { name = i.name; time = i.time; is_second = is_second names i } ≡ c = cc (found) in
        ap (λ (d : CompletedInstant). d.time) same
    by false found = cc

-- completed instants are at real times where all instants are
pub real_times : (t : Timeline) → IsOfNames t → ((i : InstantName) → Contains t.instants i → HasOwnForm i) → (c : CompletedInstant) → Contains t.completed c → IsSomeTime c.time
real_times t of form c within =
    let inside = subst (λ (u : Timeline). Contains u.completed c) of.is within in
    let from = picked_from (completed_of of.names) (instants_in of.names) c inside in
    let there = subst (λ (u : Timeline). Contains u.instants from.0) (sym of.is) from.1 in
    subst IsSomeTime (completed_time of.names from.0 c from.2) (form from.0 there).1

-- an instant's name is there where instants are
pub properties_lacking : (files : Files) (instants : List InstantName) → instants ≡ instants_in (names_in files timeline_folder) → (instants ≡ [] → ⊥) → map.get files properties_path ≡ None → LacksProperties files
properties_lacking files [] are some none = absurd (some refl)
properties_lacking files (i ∷ rest) are some none =
    let named = names_instant files i (instant_says (names_in files timeline_folder) i (subst (λ (l : List InstantName). Contains l i) are (0, omega arith, refl))) in
    (named.state, i.name, named.proper, named.says, named.there, λ there. none_there (map.get files properties_path) none there)

-- without an instant's name none need be there
pub properties_needless : (files : Files) → instants_in (names_in files timeline_folder) ≡ [] → map.get files properties_path ≡ None → HasOwnProperties files
properties_needless files none missing = record {
  own = λ bytes holds. absurd (none_some (map.get files properties_path) bytes missing holds);
  there = λ lacks.
      let named : NamesInstant files lacks.1 = record { proper = lacks.2; there = lacks.4; state = lacks.0; says = lacks.3 } in
      let i = instant_at files lacks.1 named in
      let inside = subst (λ (l : List InstantName). Contains l i.0) none i.1 in
      let lt = inside.1 in absurd (omega arith);
}
  where
    none_some : (o : Option (List ℕ)) (b : List ℕ) → o ≡ None → o ≡ Some b → ⊥
    none_some o b none some = let both : None ≡ Some b = sym none ∙ some in cc

-- ---- the last of a list

pub last_split : (cs : List CompletedInstant) (c : CompletedInstant) → slice_get cs (length cs - 1) ≡ Some c → (front : List CompletedInstant) × (cs ≡ front ++ c ∷ [])
last_split [] c is = cc
last_split (x ∷ []) c is = let same : x ≡ c = cc (is) in ([], ap (λ (y : CompletedInstant). y ∷ []) same)
last_split (x ∷ y ∷ cs) c is =
    let rest = last_split (y ∷ cs) c (ap (λ k. slice_get (x ∷ y ∷ cs) k) (sym shorter) ∙ is) in
    (x ∷ rest.0, ap (λ (l : List CompletedInstant). x ∷ l) rest.1)
  where
    shorter : length (x ∷ y ∷ cs) - 1 ≡ suc (length (y ∷ cs) - 1)
    shorter = omega arith

pub last_within : (cs : List CompletedInstant) (c : CompletedInstant) → slice_get cs (length cs - 1) ≡ Some c → Contains cs c
last_within cs c is =
    let split = last_split cs c is in
    subst (λ (l : List CompletedInstant). Contains l c) (sym split.1) (Contains-append_right split.0 (c ∷ []) c (Contains-head c []))

pub some_length : (cs : List CompletedInstant) (c : CompletedInstant) → slice_get cs (length cs - 1) ≡ Some c → 0 < length cs
some_length [] c is = cc
some_length (x ∷ cs) c is = omega arith

-- ---- what is true of what is kept

pub real_some : (time : List ℕ) → IsSomeTime time → ForSome (Some time) (λ t. ∥ IsSomeTime t ∥₁)
real_some time real = λ t e. let same : time ≡ t = cc (e) in ∣ subst IsSomeTime same real ∣₁

pub some_begun : {A : Type 0} (time : List ℕ) → Some time ≡ None → A
some_begun time e = cc

pub held_table : (table : HudiTable) (t : Table) → IsTableOf table t → are_held t.rows ≡ true
held_table table t is = are_held_by t.rows is.live_files is.paths

-- Where the stated text is no mark, the instant has none.
pub no_mark : (latest : Latest) (c : CompletedInstant) (stated text : List ℕ) (mark : Mark) → latest.mark ≡ Some stated → text ≡ stated → ((m : Mark) → IsMarkText text m → ⊥) → IsMarkOf latest c mark → ⊥
no_mark latest c stated text mark is same none of =
    let both : Some stated ≡ Some of.text = sym is ∙ of.stated in
    let one : of.text ≡ text = cc in
    none mark (subst (λ (t : List ℕ). IsMarkText t mark) one of.reads)

pub sound_latest : (source : Kind) (p : Properties) (before : Option Newest) (latest : Option Latest) → latest ≡ latest_in before → IfSome before (IsSoundNewest source p) → IfSome latest (λ l. IsTableOf p.table l.table)
sound_latest source p before latest is sound = subst (λ (o : Option Latest). IfSome o (λ l. IsTableOf p.table l.table)) (sym is) (by before sound)
  where
    by : (o : Option Newest) → IfSome o (IsSoundNewest source p) → IfSome (latest_in o) (λ l. IsTableOf p.table l.table)
    by None none = tt
    by (Some newest) one = one.0

-- ---- properties that are read, or not

missing_path : (path : List ℕ) (e : TimelineError) → e ≡ timeline.Missing path → is_missing e ≡ true
missing_path path e is = ap is_missing is

module _ (files : Files) (instants : List InstantName) (listed : instants ≡ instants_in (names_in files timeline_folder)) where
  -- where they are missing and no instant is there
  pub needless_found : (e : TimelineError) → IsFileRefusal files properties_name (IsPropertyFault files) e → is_missing e ≡ true → instants ≡ [] → HasOwnProperties files
  needless_found timeline.Memory refused missing none = cc
  needless_found timeline.StoreFault refused missing none = cc
  needless_found timeline.ManyNames refused missing none = cc
  needless_found timeline.ManyCommits refused missing none = cc
  needless_found (timeline.Missing path) refused missing none = properties_needless files (sym listed ∙ none) refused.1
  needless_found (timeline.Large path) refused missing none = cc
  needless_found (timeline.Refused path e) refused missing none = cc

  lacking_path : (e : TimelineError) → IsFileRefusal files properties_name (IsPropertyFault files) e → (is_missing e ≡ true → instants ≢ []) → (path : List ℕ) → e ≡ timeline.Missing path → LacksProperties files
  lacking_path e refused some path is =
      let missing = subst (IsFileRefusal files properties_name (IsPropertyFault files)) is refused in
      properties_lacking files instants listed (some (missing_path path e is)) missing.1

  pub unread_found : (e : TimelineError) (r : Result (Option Properties) Stop) → IsFileRefusal files properties_name (IsPropertyFault files) e → IfOk r (λ found. (found ≡ None) × (is_missing e ≡ true) × (instants ≡ [])) → IfOk r (IsProperties files instants)
  unread_found e (Ok found) refused told = subst (IsProperties files instants) (sym told.0) (needless_found e refused told.1 told.2, told.2)
  unread_found e (Err s) refused told = tt

  pub unread_stops : (source : Kind) (e : TimelineError) (r : Result (Option Properties) Stop) → IsFileRefusal files properties_name (IsPropertyFault files) e → IfErr r (λ s. (s ≡ stop_of e) × (is_missing e ≡ true → instants ≢ [])) → IfErr r (IsStopIn source files)
  unread_stops source e (Ok found) refused told = tt
  unread_stops source e (Err s) refused told = subst (IsStopIn source files) (sym told.0) (properties_stop source files e refused (lacking_path e refused told.1))

-- without an instant's name nothing is published
pub empty_absent : (files : Files) → HasOwnProperties files → instants_in (names_in files timeline_folder) ≡ [] → IsAbsent files
empty_absent files own none = record {
  properties = own;
  names = λ name named.
      let i = instant_at files name named in
      let inside = subst (λ (l : List InstantName). Contains l i.0) none i.1 in
      let lt = inside.1 in absurd (omega arith);
  none = ap (λ (l : List InstantName). filter_map (completed_of (names_in files timeline_folder)) l) none;
}

-- What the files stand for while a commit is published: as before, or with the commit's instant behind the others.
use Rattle.std.proofs.Common.{◌≡◌, ◌⊎◌, inl, inr, ⊎_elim, ℕ, ◌+◌, ◌<◌, true, List, [], ◌∷◌, ◌++◌, length, Contains, Option, Some, None, refl, sym, ap, subst, ◌∙◌, arith}
use Rattle.std.specs.Prelude.{IfSome, option_map}
use Rattle.std.specs.FinMap as map
use Rattle.std.proofs.lemmas.List.{length-append}
use Rattle.std.proofs.lemmas.List.Elements.{Contains-append_right}
use Rattle.lake_store.specs.Disk.{Files}
use Rattle.table_history.specs.Rows.{HasDistinctPaths}
use Rattle.table_history.specs.Tables.{empty_table}
use Rattle.table_history.specs.declared.table.Commit.{Commit}
use Rattle.table_history.specs.declared.table.Table.{Table}
use Rattle.table_history.proofs.RowListLemmas.{Contains-head, Contains-none}
use Rattle.schema_map.specs.Image.{wide_columns}
use Rattle.hudi_groups.proofs.GroupChangeLemmas.{distinct_none}
use Rattle.hudi_properties.specs.declared.table.HudiTable.{HudiTable}
use Rattle.hudi_table.proofs.ReadingLaws.{live_rows}
use Rattle.hudi_table.specs.Files.{ReadsAs, SaysProperties}
use Rattle.hudi_table.specs.Folder.{IsEarlier}
use Rattle.hudi_table.specs.Reading.{IsReadingOf, table_in}
use Rattle.hudi_table.specs.declared.instants.CompletedInstant.{CompletedInstant}
use Rattle.hudi_table.specs.declared.properties.Properties.{Properties}
use Rattle.hudi_table.specs.declared.reading.Latest.{Latest}
use Rattle.hudi_table.specs.declared.reading.Naming.TheVariants.{External}
use Rattle.hudi_commit.specs.Names.{properties_path}
use Rattle.target_core.specs.Conditions.{CanPublish, Fits, GoesOn}
use Rattle.target_core.specs.Gained.{StillCarries}
use Rattle.target_core.specs.Step.{IsBefore, IsBehind}
use Rattle.target_core.specs.Views.{IsOfSource, IsUnpublished, Origin, Standing, View, standing_at, standing_of}
use Rattle.target_core.specs.declared.mark.Mark.{Mark}
use Rattle.target_core.proofs.HeldRows.{held_paths}
use Rattle.target_hudi.specs.Fitting.{Unfit}
use Rattle.target_hudi.specs.HudiMeaning.{hudi_meaning}
use Rattle.target_hudi.specs.Kept.{IsNewest, StandsFor, end_of, held_of, view_of}
use Rattle.target_hudi.specs.NewInstant.{AreGiven, IsNewInstant}
use Rattle.target_hudi.specs.OnceLemmas.{latest_partition, one_standing, one_table_of}
use Rattle.target_hudi.specs.Reading.{HasOwnNames, HasOwnProperties, IsAbsent, IsCarried, IsMarkAt, IsOurs, Reads, commits_in, completed_in}
use Rattle.target_hudi.specs.ReadingLemmas.{own_of}
use Rattle.target_hudi.specs.Steps.{IsBase, IsStep, IsTableFor}
use Rattle.target_hudi.specs.TableName.{new_pairs}
use Rattle.target_hudi.specs.ViewLemmas.{commits_read}
use Rattle.target_hudi.specs.Writing.{mark_of}
use Rattle.target_hudi.specs.declared.kept.HudiKept.{HudiKept}
use Rattle.target_hudi.proofs.BehindLemmas.{AreOurs, carries_now, ours_now, own_names, own_properties}
use Rattle.target_hudi.proofs.BesideLemmas.{IsBeside, carried_still, completed_before, completed_behind, marked_still, properties_still, reading_still}
use Rattle.target_hudi.proofs.KeepsLemmas.{avro_names, behind, newest_is, standing_is}
use Rattle.target_hudi.proofs.MomentLemmas.{AreAsGiven, AreDue, AreGivenNow, IsGrown, IsStill}
use Rattle.target_hudi.proofs.ReadTableLemmas.{latest_distinct, latest_wide}
use Rattle.target_hudi.proofs.TimelineLemmas.{AreEarlier, all_earlier, new_one}
use Rattle.target_hudi.proofs.StepLemmas.{step}
use Rattle.lake_basics.proofs.Lists.{none_longer}

-- The properties of a table with a completed instant say of folders that names and escaped values are there.
pub record HasFolders (files : Files) : Type 0 where
  pub hive_style : (p : Properties) → 0 < commits_in files → SaysProperties files p → p.table.hive_style ≡ true
  pub url_encode : (p : Properties) → 0 < commits_in files → SaysProperties files p → p.table.url_encode ≡ true

some_commits : (front : List CompletedInstant) (c : CompletedInstant) (cs : List CompletedInstant) → cs ≡ front ++ c ∷ [] → 0 < length cs
some_commits front c cs is = let count : length cs ≡ length front + 1 = ap length is ∙ length-append front (c ∷ []) in omega (arith, count)

module _ (name : List ℕ) (origin : Origin) (now : ℕ) (kept next : HudiKept) (commit : Commit) (instant : List ℕ) (properties : Option (List ℕ)) (text : List ℕ) (v : IsNewInstant (end_of name kept) origin now kept commit instant properties text next)
    (old : Files) (newest : IsNewest old kept.newest) where
  later_than : (last : List ℕ) → kept.newest ≡ Some last → IsEarlier last instant
  later_than last is = subst (λ (o : Option (List ℕ)). IfSome o (λ (l : List ℕ). IsEarlier l instant)) is v.later

  -- the instants of before are all earlier
  pub earlier : AreEarlier old instant
  earlier = all_earlier old kept.newest instant newest later_than

  due_by : (o : Option (List ℕ)) → AreGiven (end_of name kept) o → AreDue o old
  due_by None given = tt
  due_by (Some bytes) given = subst (λ (n : Option (List ℕ)). IsNewest old n) given.0 newest

  -- the properties are given where nothing is completed
  pub due : AreDue properties old
  due = due_by properties v.given

  -- each commit of before carries what it carried
  pub earlier_still : (files : Files) → IsBeside instant old files → StillCarries hudi_meaning kept.commits old files
  earlier_still files beside c change standing le was = carried_still instant v.real old earlier files beside c change standing was

  abbrev mark : Mark
  mark = mark_of instant origin commit.position

  -- ---- what the files hold before

  -- the table before the commit, as the files say it
  record IsBaseHere (new : Files) : Type 0 where
    pub table : Properties
    pub says : SaysProperties new table
    pub fit : IsTableFor table.table kept.table.partition
    pub base : Option Latest
    pub read : IsReadingOf old External table.table (completed_in old) base
    pub is_base : IsBase kept.table (held_of kept) (table_in base)
    pub distinct : HasDistinctPaths kept.table.rows
    pub marks : (c : CompletedInstant) → Contains (completed_in old) c → (standing : Standing) × IsMarkAt old c standing × (standing.origin.source ≡ mark.source)

  module _ (can : CanPublish (view_of kept) commit) (fits : Fits (Unfit (held_of kept)) kept.table.partition (commit ∷ [])) (goes : GoesOn origin.source (view_of kept)) (folders : HasFolders old) (reads : Reads old (view_of kept)) where
    -- ---- nothing is published

    first_base : (bytes : List ℕ) → AreGiven (end_of name kept) (Some bytes) → (new : Files) → map.get new properties_path ≡ Some bytes → IsAbsent old → IsUnpublished (view_of kept) → IsBaseHere new
    first_base bytes given new there none bare =
        let empty : kept.table ≡ empty_table kept.table.partition = ap (λ (w : View). w.table) bare in
        let fresh = given.2 in
        record {
          table = record { pairs = new_pairs name kept.table.partition; table = fresh.table };
          says = record { bytes = bytes; holds = there; read = fresh.reads };
          fit = record {
            partition_is = fresh.partition_is (λ column within. avro_names name origin now kept next commit instant properties text v can fits (ap (λ (t : Table). t.schema) empty) column within);
            hive_style = fresh.hive_style;
            url_encode = fresh.url_encode;
          };
          base = None;
          read = none.none;
          is_base = (empty, ap (λ (o : Option (List ℕ)). option_map (λ (t : List ℕ). record { partition = kept.table.partition; columns = kept.table.schema }) o) given.0);
          distinct = subst (λ (t : Table). HasDistinctPaths t.rows) (sym empty) distinct_none;
          marks = λ c within. absurd (Contains-none c (subst (λ (l : List CompletedInstant). Contains l c) none.none within));
        }

    -- ---- our own commits are published

    module _ (ours : IsOurs old (view_of kept)) where
      some : completed_in old ≡ [] → ⊥
      some none = none_longer ours.front ours.newest [] (sym none ∙ ours.last)

      table_is : kept.table ≡ ours.latest.table
      table_is = ap (λ (w : View). w.table) ours.view_is

      held_by : (o : Option (List ℕ)) → kept.newest ≡ o → IsNewest old o → held_of kept ≡ Some (record { partition = kept.table.partition; columns = kept.table.schema })
      held_by None is none = absurd (some none)
      held_by (Some time) is at = ap (λ (o : Option (List ℕ)). option_map (λ (t : List ℕ). record { partition = kept.table.partition; columns = kept.table.schema }) o) is

      source_is : ours.source ≡ origin.source
      source_is = ⊎_elim
          (λ (bare : IsUnpublished (view_of kept)). let both : None ≡ Some ours.standing = sym (ap (λ (w : View). w.mark) bare) ∙ ap (λ (w : View). w.mark) ours.view_is in absurd (cc))
          (λ (of : IsOfSource origin.source (view_of kept)).
          let within : Contains (completed_in old) ours.newest = subst (λ (l : List CompletedInstant). Contains l ours.newest) (sym ours.last) (Contains-append_right ours.front (ours.newest ∷ []) ours.newest (Contains-head ours.newest [])) in
          let m = ours.marked ours.newest within in
          let one : m.0 ≡ ours.standing = one_standing old ours.newest m.0 ours.standing m.1 ours.stands in
          let two : Some of.0 ≡ Some ours.standing = sym of.1 ∙ ap (λ (w : View). w.mark) ours.view_is in
          let same : of.0 ≡ ours.standing = cc in
          sym m.2 ∙ ap (λ (s : Standing). s.origin.source) (one ∙ sym same) ∙ of.2)
          goes

      later_base : (new : Files) → map.get new properties_path ≡ map.get old properties_path → IsBaseHere new
      later_base new same = record {
        table = ours.table;
        says = record { bytes = ours.says.bytes; holds = same ∙ ours.says.holds; read = ours.says.read };
        fit = record {
          partition_is = sym (latest_partition old External ours.table.table (completed_in old) ours.latest ours.read) ∙ sym (ap (λ (t : Table). t.partition) table_is);
          hive_style = folders.hive_style ours.table (some_commits ours.front ours.newest (completed_in old) ours.last) ours.says;
          url_encode = folders.url_encode ours.table (some_commits ours.front ours.newest (completed_in old) ours.last) ours.says;
        };
        base = Some ours.latest;
        read = ours.read;
        is_base = (
          sym table_is,
          held_by kept.newest refl newest,
          subst (λ (t : Table). wide_columns t.schema ≡ t.schema) (sym table_is) (latest_wide old External ours.table.table (completed_in old) ours.latest ours.read),
        );
        distinct = subst (λ (t : Table). HasDistinctPaths t.rows) (sym table_is) (latest_distinct old External ours.table.table (completed_in old) ours.latest ours.read);
        marks = λ c within. let m = ours.marked c within in (m.0, m.1, m.2 ∙ source_is);
      }

    base_by : (o : Option (List ℕ)) → AreGiven (end_of name kept) o → (new : Files) → AreGivenNow o old new → Reads old (view_of kept) → IsBaseHere new
    base_by None given new now_given (inl none) = absurd (not_first kept.newest refl newest)
      where
        not_first : (o : Option (List ℕ)) → kept.newest ≡ o → IsNewest old o → ⊥
        not_first None is at = given is
        not_first (Some time) is at = none_longer at.0 at.1 [] (sym none.0.none ∙ at.2)
    base_by None given new now_given (inr ours) = later_base ours new now_given
    base_by (Some bytes) given new now_given (inl none) = first_base bytes given new now_given none.0 none.1
    base_by (Some bytes) given new now_given (inr ours) = absurd (some ours (subst (λ (n : Option (List ℕ)). IsNewest old n) given.0 newest))

    -- ---- as before

    bytes_by : (o : Option (List ℕ)) → AreGiven (end_of name kept) o → (new : Files) → AreAsGiven o old new → (bytes : List ℕ) → map.get new properties_path ≡ Some bytes → (map.get old properties_path ≡ Some bytes) ⊎ AreOurs bytes
    bytes_by None given new as_given bytes holds = inl (sym as_given ∙ holds)
    bytes_by (Some own) given new as_given bytes holds = ⊎_elim
        (λ was. inl was)
        (λ (is : bytes ≡ own). inr (record { pairs = new_pairs name kept.table.partition; table = given.2.table }, subst (λ (b : List ℕ). ReadsAs b (record { pairs = new_pairs name kept.table.partition; table = given.2.table })) (sym is) given.2.reads, given.2.ours))
        (as_given bytes holds)

    module _ (files : Files) (still : IsStill properties instant old files) where
      same_completed : completed_in files ≡ completed_in old
      same_completed = completed_before instant v.real old earlier files still.beside still.none

      own_before : HasOwnProperties files × HasOwnNames files
      own_before =
          let own = own_of old (view_of kept) reads in (
            own_properties instant v.real old files still.beside still.orderly (bytes_by properties v.given files still.properties) own.0,
            own_names instant v.real old files still.beside still.orderly own.1,
          )

      reads_by : Reads old (view_of kept) → Reads files (view_of kept)
      reads_by (inl none) = inl (record { properties = own_before.0; names = own_before.1; none = same_completed ∙ none.0.none }, none.1)
      reads_by (inr ours) =
          let among : (c : CompletedInstant) → Contains (completed_in files) c → Contains (completed_in old) c = λ c within. subst (λ (l : List CompletedInstant). Contains l c) same_completed within in
          let read : IsReadingOf files External ours.table.table (completed_in files) (Some ours.latest) = subst (λ (cs : List CompletedInstant). IsReadingOf files External ours.table.table cs (Some ours.latest)) (sym same_completed) (reading_still instant v.real old earlier files still.beside External ours.table.table (completed_in old) (Some ours.latest) (λ c within. within) ours.read) in
          inr (record {
            properties = own_before.0;
            names = own_before.1;
            table = ours.table;
            says = properties_still instant v.real old earlier files still.beside ours.table (some ours) ours.says;
            latest = ours.latest;
            read = read;
            live = live_rows files External ours.table.table (completed_in files) ours.latest read;
            source = ours.source;
            marked = λ c within. let m = ours.marked c (among c within) in (m.0, marked_still instant v.real old earlier files still.beside c m.0 (among c within) m.1, m.2);
            front = ours.front;
            newest = ours.newest;
            last = same_completed ∙ ours.last;
            standing = ours.standing;
            stands = marked_still instant v.real old earlier files still.beside ours.newest ours.standing (subst (λ (l : List CompletedInstant). Contains l ours.newest) (sym ours.last) (Contains-append_right ours.front (ours.newest ∷ []) ours.newest (Contains-head ours.newest []))) ours.stands;
            view_is = ours.view_is ∙ (λ i. record { commits = length (sym same_completed i); mark = Some ours.standing; table = ours.latest.table });
          })

      pub is_before : IsBefore hudi_meaning (view_of kept) old files
      is_before = record { reads = reads_by reads; earlier = earlier_still files still.beside }

      pub folders_before : HasFolders files
      folders_before = record {
        hive_style = λ p more says. by_one p more says (λ q. q.table.hive_style ≡ true) (λ q. folders.hive_style q);
        url_encode = λ p more says. by_one p more says (λ q. q.table.url_encode ≡ true) (λ q. folders.url_encode q);
      }
        where
          by_one : (p : Properties) → 0 < commits_in files → SaysProperties files p → (P : Properties → Type 0) → ((q : Properties) → 0 < commits_in old → SaysProperties old q → P q) → P p
          by_one p more says P fact =
              let count : 0 < commits_in old = subst (λ (cs : List CompletedInstant). 0 < length cs) same_completed more in
              let some_old : completed_in old ≡ [] → ⊥ = λ none. let zero : length (completed_in old) ≡ 0 = ap length none in absurd (omega (arith, zero, count)) in
              fact p count (record { bytes = says.bytes; holds = sym (still.beside.properties some_old) ∙ says.holds; read = says.read })

    -- ---- with the commit behind

    module _ (files : Files) (grown : IsGrown properties instant text old files) where
      abbrev here : IsBaseHere files
      here = base_by properties v.given files grown.properties reads

      stepped : IsStep here.table.table (table_in here.base) instant commit v.written next.table
      stepped = step here.table.table kept.table (held_of kept) (table_in here.base) origin instant commit v.written kept.commits (option_map standing_of kept.mark) next.table
          here.fit here.is_base here.distinct (held_paths kept.table.rows kept.rows_held) can fits v.is v.sound v.read_back (behind name origin now kept next commit instant properties text v)

      own_behind : HasOwnProperties files × HasOwnNames files
      own_behind =
          let own = own_of old (view_of kept) reads in (
            own_properties instant v.real old files grown.beside grown.orderly (bytes_by properties v.given files (as_given properties grown.properties)) own.0,
            own_names instant v.real old files grown.beside grown.orderly own.1,
          )
        where
          as_given : (o : Option (List ℕ)) → AreGivenNow o old files → AreAsGiven o old files
          as_given None same = same
          as_given (Some own) there = λ bytes holds. inr (let both : Some bytes ≡ Some own = sym holds ∙ there in cc)

      count_old : length (completed_in old) ≡ kept.commits
      count_old = commits_read old (view_of kept) reads

      completed_now : completed_in files ≡ completed_in old ++ new_one instant v.real ∷ []
      completed_now = completed_behind instant v.real old earlier files grown.beside text grown.there

      count_now : commits_in files ≡ next.commits
      count_now =
          let more : length (completed_in files) ≡ length (completed_in old) + 1 = ap length completed_now ∙ length-append (completed_in old) (new_one instant v.real ∷ []) in
          omega (arith, more, count_old, v.commits)

      mark_now : option_map standing_of next.mark ≡ Some (standing_of mark)
      mark_now = standing_is name origin now kept next commit instant properties text v

      pub reads_behind : Reads files (view_of next)
      reads_behind = inr (ours_now instant v.real old earlier files grown.beside text grown.there v.written v.read here.table here.says here.base here.read commit next.table stepped mark refl _ v.is.mark v.marked own_behind.0 own_behind.1 here.marks (view_of next)
          (λ i. record { commits = sym count_now i; mark = mark_now i; table = next.table }))

      pub is_behind : IsBehind hudi_meaning origin (view_of kept) old commit (view_of next) files
      is_behind = record {
        reads = reads_behind;
        carries = subst (λ (n : ℕ). IsCarried files n commit.change (standing_at origin commit.position)) (omega (arith, count_old))
            (carries_now instant v.real old earlier files grown.beside text grown.there v.written v.read here.table here.says here.base here.read commit next.table stepped mark refl _ v.is.mark v.marked);
        earlier = earlier_still files grown.beside;
      }

      pub stands_now : StandsFor next files
      stands_now = record {
        reads = reads_behind;
        counted = record {
          commits = sym count_now;
          newest = subst (λ (n : Option (List ℕ)). IsNewest files n) (sym (newest_is name origin now kept next commit instant properties text v)) (completed_in old, new_one instant v.real, completed_now, refl);
        };
        at = ap (λ (o : Option Mark). option_map (λ (m : Mark). m.at) o) v.mark ∙ sym (newest_is name origin now kept next commit instant properties text v);
      }

      pub folders_behind : HasFolders files
      folders_behind = record {
        hive_style = λ p more says. ap (λ (t : HudiTable). t.hive_style) (one_table_of files p here.table says here.says) ∙ here.fit.hive_style;
        url_encode = λ p more says. ap (λ (t : HudiTable). t.url_encode) (one_table_of files p here.table says here.says) ∙ here.fit.url_encode;
      }

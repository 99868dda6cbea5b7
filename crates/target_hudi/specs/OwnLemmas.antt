-- What is foreign or too much in a Hudi target's files depends on its own folder alone.
use Rattle.std.proofs.Common.{◌≡◌, inl, inr, ⊎_elim, ℕ, ◌<◌, List, ◌∷◌, ◌++◌, length, Option, None, Some, Contains, codes, sym, subst, ◌∙◌}
use Rattle.lake_basics.specs.declared.limits.TheConstants.{MAX_COMMITS, MAX_NAMES}
use Rattle.lake_store.specs.Disk.{Files, front_of, names_in}
use Rattle.lake_store.specs.Runs.{IsIn}
use Rattle.lake_store.proofs.OrderLaws.{names_in_listed, names_in_sorted}
use Rattle.table_history.specs.declared.kind.Kind.{Kind}
use Rattle.table_history.specs.declared.limit.LimitKind.{LimitKind}
use Rattle.table_history.specs.declared.table.Commit.{Commit}
use Rattle.table_history.specs.declared.table.Table.{Table}
use Rattle.std.proofs.lemmas.List.Elements.{Contains-append_left}
use Rattle.hudi_names.specs.declared.error.HudiError.{HudiError}
use Rattle.hudi_names.specs.declared.error.HudiError.TheVariants as errors
use Rattle.hudi_instant.specs.declared.instant.Instant.{Instant}
use Rattle.hudi_properties.specs.declared.table.HudiTable.{HudiTable}
use Rattle.hudi_table.specs.Files.{HoldsFile, SaysInstant}
use Rattle.hudi_table.specs.Instants.{path_of}
use Rattle.hudi_table.specs.Reading.{IsNextHere, IsReadingOf, table_in}
use Rattle.hudi_table.specs.Refusals.{IsUnfit, IsUnreadable}
use Rattle.hudi_table.specs.declared.instants.CompletedInstant.{CompletedInstant}
use Rattle.hudi_table.specs.declared.properties.Properties.{Properties}
use Rattle.hudi_table.specs.declared.reading.Latest.{Latest}
use Rattle.hudi_table.specs.declared.reading.Naming.TheVariants.{External}
use Rattle.hudi_commit.specs.Names.{claim_path, claims_folder, completed_path, properties_path, timeline_folder, timeline_path}
use Rattle.hudi_commit.specs.Orderly.{LacksProperties}
use Rattle.hudi_commit.proofs.StepLaws.{in_timeline}
use Rattle.target_core.specs.Folders.{SameIn}
use Rattle.target_core.specs.Views.{Origin, Standing}
use Rattle.target_core.specs.FolderLemmas.{one_order}
use Rattle.target_hudi.specs.Inspecting.{HasForeignProperties, IsCrowded, IsFaulty, IsFirstForeignName, IsForeign, IsForeignName, IsLarge, IsReadUpTo, LooksUpClaims, PassesIn}
use Rattle.target_hudi.specs.Reading.{HasOwnNames, HasOwnProperties, IsMarkAt, IsOwnName, NamesInstant}
use Rattle.target_hudi.specs.Writing.{Passes, TimelineEnd}
use Rattle.target_hudi.specs.ReadingLemmas.{AreCompleted, read_too, says_properties_too}
use Rattle.target_hudi.specs.SettledLemmas.{completed_own, own_sym, own_there, own_timeline}

-- ---- names

module _ (folder : List ℕ) (inside : (name : List ℕ) → IsIn timeline_folder (front_of folder ++ name)) where
  names_too : (a b : Files) → SameIn timeline_folder a b → (name : List ℕ) → Contains (names_in a folder) name → Contains (names_in b folder) name
  names_too a b same name there =
      let is = ((names_in_listed a folder).members name).0 there in
      ((names_in_listed b folder).members name).1 (is.0, own_there a b same (front_of folder ++ name) (inside name) is.1)

  names_own : (a b : Files) → SameIn timeline_folder a b → names_in b folder ≡ names_in a folder
  names_own a b same = one_order (names_in b folder) (names_in a folder) (names_in_sorted b folder) (names_in_sorted a folder) (names_too b a (own_sym a b same)) (names_too a b same)

timeline_own : (a b : Files) → SameIn timeline_folder a b → names_in b timeline_folder ≡ names_in a timeline_folder
timeline_own a b same = names_own timeline_folder in_timeline a b same

claims_own : (a b : Files) → SameIn timeline_folder a b → names_in b claims_folder ≡ names_in a claims_folder
claims_own a b same = names_own claims_folder (λ name. in_timeline _) a b same

pub passes_own : (a b : Files) (end : TimelineEnd) (origin : Origin) (now : ℕ) (commits : List Commit) (which : LimitKind) (number : ℕ) → SameIn timeline_folder a b → Passes a end origin now commits which number → Passes b end origin now commits which number
passes_own a b end origin now commits which number same (inl h) = inl (h.0, h.1, h.2, subst (λ (names : List (List ℕ)). MAX_NAMES < length names) (sym (claims_own a b same)) h.3)
passes_own a b end origin now commits which number same (inr h) = inr h

-- ---- files

module _ (a b : Files) (same : SameIn timeline_folder a b) where
  holds_own : (name bytes : List ℕ) → HoldsFile a name bytes → HoldsFile b name bytes
  holds_own name bytes holds = same (path_of name) (in_timeline name) ∙ holds

  says_own : (c : CompletedInstant) (i : Instant) → SaysInstant a c i → SaysInstant b c i
  says_own c i h = record { first = h.first; bytes = h.bytes; holds = holds_own c.name h.bytes h.holds; reads = h.reads }

  mark_own : (c : CompletedInstant) (s : Standing) → IsMarkAt a c s → IsMarkAt b c s
  mark_own c s h = record { instant = h.instant; says = says_own c h.instant h.says; text = h.text; stated = h.stated; mark = h.mark; reads = h.reads; at = h.at; is = h.is }

  named_own : (name : List ℕ) → NamesInstant a name → NamesInstant b name
  named_own name h = record { proper = h.proper; there = own_there a b same (timeline_path name) (in_timeline name) h.there; state = h.state; says = h.says }

  own_name_own : (name : List ℕ) → IsOwnName a name → IsOwnName b name
  own_name_own name (instant, real, inl done) = (instant, real, inl done)
  own_name_own name (instant, real, inr (stage, is, either)) =
      (instant, real, inr (stage, is, ⊎_elim (λ claim. inl (own_there a b same (claim_path instant) (in_timeline _) claim)) (λ done. inr (own_there a b same (completed_path instant) (in_timeline _) done)) either))

module _ (a b : Files) (same : SameIn timeline_folder a b) where
  back : SameIn timeline_folder b a
  back = own_sym a b same

  lacks_own : LacksProperties a → LacksProperties b
  lacks_own (state, name, proper, says, there, none) =
      (state, name, proper, says, own_there a b same (timeline_path name) (in_timeline name) there, λ has. none (own_there b a back properties_path (in_timeline _) has))

  foreign_name_own : (name : List ℕ) → IsForeignName a name → IsForeignName b name
  foreign_name_own name h = record { names = named_own a b same name h.names; foreign = λ own. h.foreign (own_name_own b a back name own) }

  own_names_own : HasOwnNames a → HasOwnNames b
  own_names_own h name names = own_name_own a b same name (h name (named_own b a back name names))

  unreadable_own : (c : CompletedInstant) (e : HudiError) → IsUnreadable a c e → IsUnreadable b c e
  unreadable_own c e (inl h) = inl h
  unreadable_own c e (inr (first, bytes, holds, refused)) = inr (first, bytes, holds_own a b same c.name bytes holds, refused)

  unfit_own : (table : HudiTable) (c : CompletedInstant) (base : Option Table) (e : HudiError) → IsUnfit a External table c base e → IsUnfit b External table c base e
  unfit_own table c base e h = (h.0, says_own a b same c h.0 h.1, h.2)

  next_own : (table : HudiTable) (c : CompletedInstant) (base : Option Table) (next : Latest) → IsNextHere a External table c base next → IsNextHere b External table c base next
  next_own table c base next h = record { made = h.made; here = record { instant = h.here.instant; says = says_own a b same c h.here.instant h.here.says; change = h.here.change; mark = h.here.mark }; after = h.after; mark = h.mark }

  reading_own : (table : HudiTable) (cs : List CompletedInstant) (latest : Option Latest) → AreCompleted a cs → IsReadingOf a External table cs latest → IsReadingOf b External table cs latest
  reading_own table cs None are h = h
  reading_own table cs (Some latest) are h = read_too a b (own_timeline a b same) External table cs latest are h

  large_own : (name : List ℕ) → IsLarge a name → IsLarge b name
  large_own name h = (h.0, holds_own a b same name h.0 h.1, h.2)

module _ (a b : Files) (same : SameIn timeline_folder a b) where
  own_properties_own : HasOwnProperties a → HasOwnProperties b
  own_properties_own h = record { own = λ bytes holds. h.own bytes (holds_own b a (back a b same) (codes "hoodie.properties") bytes holds); there = λ lacks. h.there (lacks_own b a (back a b same) lacks) }

  foreign_properties_own : HasForeignProperties a → HasForeignProperties b
  foreign_properties_own (inl lacks) = inl (lacks_own a b same lacks)
  foreign_properties_own (inr h) = inr (h.0, holds_own a b same (codes "hoodie.properties") h.0 h.1, h.2)

  first_name_own : (path : List ℕ) → IsFirstForeignName a path → IsFirstForeignName b path
  first_name_own path h = record {
    properties = own_properties_own h.properties;
    name = h.name;
    is = h.is;
    foreign = foreign_name_own a b same h.name h.foreign;
    first = λ other foreign. h.first other (foreign_name_own b a (back a b same) other foreign);
  }

  up_to_own : (source : Kind) (table : Properties) (c : CompletedInstant) (latest : Option Latest) → IsReadUpTo source a table c latest → IsReadUpTo source b table c latest
  up_to_own source table c latest h = record {
    properties = own_properties_own h.properties;
    names = own_names_own a b same h.names;
    says = says_properties_too a b (own_timeline a b same) table h.says;
    front = h.front;
    behind = h.behind;
    split = completed_own a b same ∙ h.split;
    read = reading_own a b same table.table h.front latest (λ d there. subst (λ (l : List CompletedInstant). Contains l d) (sym h.split) (Contains-append_left h.front (c ∷ h.behind) d there)) h.read;
    marked = λ before there. let marked = h.marked before there in (marked.0, mark_own a b same before marked.0 marked.1, marked.2);
  }

  faulty_own : (source : Kind) (table : Properties) (c : CompletedInstant) (latest : Option Latest) → IsFaulty source a table c latest → IsFaulty source b table c latest
  faulty_own source table c latest (inl (e, fault, inl h)) = inl (e, fault, inl (unreadable_own a b same c e h))
  faulty_own source table c latest (inl (e, fault, inr h)) = inl (e, fault, inr (unfit_own a b same table.table c (table_in latest) e h))
  faulty_own source table c latest (inr (next, here, none)) =
      inr (next, next_own a b same table.table c (table_in latest) next here, λ standing marked. none standing (mark_own b a (back a b same) c standing marked))

  pub foreign_own : (source : Kind) (path : List ℕ) → IsForeign source a path → IsForeign source b path
  foreign_own source path (inl h) = inl (h.0, foreign_properties_own h.1)
  foreign_own source path (inr (inl h)) = inr (inl (first_name_own path h))
  foreign_own source path (inr (inr h)) =
      inr (inr (record { instant = h.instant; is = h.is; table = h.table; latest = h.latest; before = up_to_own source h.table h.instant h.latest h.before; faulty = faulty_own source h.table h.instant h.latest h.faulty }))

  -- ---- numbers that are passed

  passes_in_own : (table : Properties) (c : CompletedInstant) (latest : Option Latest) (which : LimitKind) (number : ℕ) → PassesIn a table c latest which number → PassesIn b table c latest which number
  passes_in_own table c latest which number (inl h) = inl (h.0, h.1, large_own a b same c.name h.2)
  passes_in_own table c latest which number (inr (is, inl h)) = inr (is, inl (unreadable_own a b same c (errors.Limit which) h))
  passes_in_own table c latest which number (inr (is, inr h)) = inr (is, inr (unfit_own a b same table.table c (table_in latest) (errors.Limit which) h))

  claims_looked_up_own : LooksUpClaims a → LooksUpClaims b
  claims_looked_up_own h = record {
    properties = own_properties_own h.properties;
    stage = h.stage;
    instant = h.instant;
    time = h.time;
    pending = named_own a b same _ h.pending;
    lacking = λ done. h.lacking (own_there b a (back a b same) (completed_path h.instant) (in_timeline _) done);
    before = λ other names less. own_name_own a b same other (h.before other (named_own b a (back a b same) other names) less);
  }

  pub crowded_own : (source : Kind) (which : LimitKind) (number : ℕ) → IsCrowded source a which number → IsCrowded source b which number
  crowded_own source which number (inl h) = inl (h.0, h.1, subst (λ (names : List (List ℕ)). MAX_NAMES < length names) (sym (timeline_own a b same)) h.2)
  crowded_own source which number (inr (inl h)) = inr (inl (h.0, h.1, large_own a b same (codes "hoodie.properties") h.2))
  crowded_own source which number (inr (inr (inl h))) = inr (inr (inl (h.0, h.1, claims_looked_up_own h.2, subst (λ (names : List (List ℕ)). MAX_NAMES < length names) (sym (claims_own a b same)) h.3)))
  crowded_own source which number (inr (inr (inr (inl h)))) =
      inr (inr (inr (inl (h.0, h.1, own_properties_own h.2, own_names_own a b same h.3, subst (λ (cs : List CompletedInstant). MAX_COMMITS < length cs) (sym (completed_own a b same)) h.4))))
  crowded_own source which number (inr (inr (inr (inr h)))) = inr (inr (inr (inr (h.0, h.1, h.2, up_to_own source h.1 h.0 h.2 h.3, passes_in_own h.1 h.0 h.2 which number h.4))))

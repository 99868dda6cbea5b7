-- The commits after a position, version by version.
use Rattle.std.proofs.Common.{◌≡◌, ◌≤◌, ◌<◌, ◌+◌, Bool, true, false, ℕ, zero, suc, Option, None, List, [], ◌∷◌, ◌++◌, length, Some, inr, refl, sym, ap, subst, ◌∙◌, arith}
use Rattle.std.proofs.lemmas.List.{length-append}
use Rattle.std.proofs.lemmas.Bool.Decides.{nat_tests}
use Rattle.std.proofs.lemmas.Fmt.{decimal_injective}
use Rattle.std.specs.Fmt.{decimal}
use Rattle.std.specs.Prelude.{MatchOption, nat_lt}
use Rattle.lake_basics.specs.declared.limits.TheConstants.{MAX_ACTIONS, MAX_COMMITS, MAX_DELTA_VERSION, MAX_NAMES}
use Rattle.lake_basics.proofs.Numbers.{le_not_less}
use Rattle.lake_store.specs.Disk.{Files, names_in}
use Rattle.table_history.specs.Tables.{CanApply, IsAfter, SameTable}
use Rattle.table_history.specs.declared.table.Commit.{Commit}
use Rattle.table_history.specs.declared.table.Table.{Table}
use Rattle.table_history.proofs.SameTableLemmas.{after_same, afters_same, can_apply_same, same_itself}
use Rattle.delta_change.specs.Change.{IsTableOfLog}
use Rattle.delta_log.specs.declared.commit.DeltaCommit.{DeltaCommit}
use Rattle.delta_table.specs.Log.{SaysCommit}
use Rattle.delta_table.specs.Versions.{AreVersions, HasVersion, log_folder}
use Rattle.delta_table.specs.declared.versions.Versions.{Versions}
use Rattle.target_core.specs.Conditions.{IsPublishable}
use Rattle.source_core.proofs.Answers.{weaker}
use Rattle.source_core.specs.Answers.{IsReadRefusal}
use Rattle.source_core.specs.Since.{CanApplyAll, FitAll, IsSinceRefusal}
use Rattle.source_core.specs.declared.error.SourceError.{SourceError}
use Rattle.source_core.specs.declared.error.SourceError.TheVariants as source
use Rattle.source_delta.specs.Heads.{IsNewest}
use Rattle.source_delta.specs.Later.{GoesOnBy, IsOneMore}
use Rattle.source_delta.specs.Reading.{HasManyNames}
use Rattle.source_delta.specs.Since.{AreCommits, HaveActions, IsCommitOf, IsReached, IsRefusedBehind, IsRefusedOver, IsSince, Reaches, ShowsFromPosition}
use Rattle.source_delta.specs.SinceLemmas.{one_newest, small, version_within}
use Rattle.source_delta.specs.declared.since.Later.{Later}
use Rattle.source_delta.proofs.Publishable.{log_of_publishable, publishable_of_log}

-- ---- whether they are there

-- a first version from which none is missing, where each one after this version is there
first_under : (first version : ℕ) → ((w : ℕ) → w + 1 ≡ first → version < w → ⊥) → first ≤ version + 1
first_under zero version none = omega arith
first_under (suc w) version none = by (nat_lt version w) refl
  where
    by : (b : Bool) → nat_lt version w ≡ b → suc w ≤ version + 1
    by true is = let behind : version < w = grind (arith, nat_tests) in let next : w + 1 ≡ suc w = omega arith in absurd (none w next behind)
    by false is = let from : w ≤ version = grind (arith, nat_tests) in omega (arith, from)

module _ (files : Files) (position : List ℕ) (version newest : ℕ) (spelled : position ≡ decimal version) (within : version ≤ MAX_DELTA_VERSION) (is : IsNewest files newest) (versions : Versions) (are : AreVersions (HasVersion files) versions) where
  same_newest : versions.newest ≡ newest
  same_newest = one_newest files versions.newest newest (record { there = are.there; last = are.last }) is

  -- no other version is spelled so
  same_version : (v n : ℕ) → IsReached files position v n → v ≡ version
  same_version v n h =
      let up = h.within in
      let last = version_within files n h.is.there in
      decimal_injective v version (small v (omega (arith, up, last))) (small version within) (sym h.spelled ∙ spelled)

  run_behind : (v n : ℕ) → IsReached files position v n → versions.first ≤ version + 1
  run_behind v n h =
      let same = same_version v n h in
      let newest_too = one_newest files n newest h.is is in
      let least = are.within in
      let last = same_newest in
      first_under versions.first version (λ w before behind. are.gap w before (h.later w (omega (arith, same, behind)) (omega (arith, newest_too, least, last, before))))

  up_to : (v n : ℕ) → IsReached files position v n → version ≤ newest
  up_to v n h =
      let same = same_version v n h in
      let newest_too = one_newest files n newest h.is is in
      let up = h.within in omega (arith, same, newest_too, up)

  pub reached_of : (o : Option ℕ) → MatchOption o ((version ≤ newest) × (versions.first ≤ version + 1) → ⊥) (λ v. (v ≡ version) × (version ≤ newest) × (versions.first ≤ version + 1))
      → MatchOption o (Reaches files position → ⊥) (λ v. IsReached files position v newest)
  reached_of None h = λ r. h (up_to r.0 r.1 r.2, run_behind r.0 r.1 r.2)
  reached_of (Some v) h =
      let from = h.2 in
      let last = same_newest in
      subst (λ n. IsReached files position n newest) (sym h.0) (record {
        spelled = spelled;
        is = is;
        within = h.1;
        later = λ w behind up. are.run w (omega (arith, from, behind)) (omega (arith, last, up));
      })

-- ---- one version more

one_longer : (commits : List Commit) (commit : Commit) → length (commits ++ commit ∷ []) ≡ length commits + 1
one_longer commits commit = length-append commits (commit ∷ [])

commits_on : (files : Files) (commits : List Commit) (version : ℕ) (base before : Table) (commit : Commit) (after : Table)
    → AreCommits files version base commits before → IsCommitOf files (version + length commits + 1) before commit after → AreCommits files version base (commits ++ commit ∷ []) after
commits_on files [] version base before commit after are is =
    let first : version + length {A = Commit} [] + 1 ≡ version + 1 = omega arith in
    (after, subst (λ (t : Table). IsCommitOf files (version + 1) t commit after) (sym are) (subst (λ n. IsCommitOf files n before commit after) first is), refl)
commits_on files (c ∷ commits) version base before commit after are is =
    let same : version + length (c ∷ commits) + 1 ≡ version + 1 + length commits + 1 = omega arith in
    (are.0, are.1, commits_on files commits (version + 1) are.0 before commit after are.2 (subst (λ n. IsCommitOf files n before commit after) same is))

-- what the first versions after this one have made of the base
pub record AreLater (files : Files) (version : ℕ) (base : Table) (later : Later) : Type 0 where
  pub commits : AreCommits files version base later.commits later.table
  pub actions : HaveActions files version (length later.commits) later.actions

pub later_begins : (files : Files) (version : ℕ) (base : Table) (later : Later) → later.commits ≡ [] → later.table ≡ base → later.actions ≡ 0 → AreLater files version base later
later_begins files version base later commits table actions = record {
  commits = subst (λ (cs : List Commit). AreCommits files version base cs later.table) (sym commits) (sym table);
  actions = subst (λ (cs : List Commit). HaveActions files version (length cs) later.actions) (sym commits) actions;
}

pub later_on : (files : Files) (version : ℕ) (base : Table) (before after : Later)
    → AreLater files version base before → IsOneMore files (version + length before.commits + 1) before after → AreLater files version base after
later_on files version base before after are more =
    let count = length before.commits in
    let long : suc count ≡ length (before.commits ++ more.commit ∷ []) = let one = one_longer before.commits more.commit in omega (arith, one) in
    let at : version + count + 1 ≡ version + suc count = omega arith in
    record {
      commits = subst (λ (cs : List Commit). AreCommits files version base cs after.table) (sym more.commits)
          (commits_on files before.commits version base before.table more.commit after.table are.commits more.is);
      actions = subst (λ (cs : List Commit). HaveActions files version (length cs) after.actions) (sym more.commits)
          (subst (λ n. HaveActions files version n after.actions) long (before.actions, are.actions, more.is.says, subst (λ n. SaysCommit files n more.is.says) at more.is.read, more.actions));
    }

pub later_longer : (before after : Later) → GoesOnBy before after → length after.commits ≡ length before.commits + 1
later_longer before after more = ap length more.commits ∙ one_longer before.commits more.commit

-- ---- all of them

pub are_since : (files : Files) (position : List ℕ) (version newest : ℕ) (base : Table) (later : Later) → IsReached files position version newest → newest ≤ version + MAX_COMMITS
    → version + length later.commits ≡ newest → later.actions ≤ MAX_ACTIONS → AreLater files version base later → IsSince files position base later.commits
are_since files position version newest base later reached few all few_actions are = record {
  version = version;
  spelled = reached.spelled;
  newest = subst (λ n. IsNewest files n) (sym all) reached.is;
  few = omega (arith, few, all);
  last = later.table;
  are = are.commits;
  actions = later.actions;
  counted = are.actions;
  few_actions = few_actions;
}

pub stops_behind : (files : Files) (position : List ℕ) (version newest : ℕ) (base : Table) (later : Later) → IsReached files position version newest → newest ≤ version + MAX_COMMITS
    → version + length later.commits < newest → later.actions ≤ MAX_ACTIONS → AreLater files version base later → (e : SourceError)
    → IsReadRefusal (IsRefusedBehind files (version + length later.commits + 1) later.table later.actions) e → IsReadRefusal (ShowsFromPosition files position base) e
stops_behind files position version newest base later reached few within few_actions are e refused =
    weaker (IsRefusedBehind files (version + length later.commits + 1) later.table later.actions) (ShowsFromPosition files position base)
    (λ d h. (
      version,
      newest,
      reached,
      inr (
        few,
        record {
          commits = later.commits;
          before = later.table;
          are = are.commits;
          actions = later.actions;
          counted = are.actions;
          few_actions = few_actions;
          within = within;
          refused = h;
        },
      ),
    )) e refused

-- no version, where the newest is this one
pub none_since : (files : Files) (position : List ℕ) (version newest : ℕ) (base : Table) (commits : List Commit) → IsReached files position version newest → newest ≡ version → commits ≡ [] → IsSince files position base commits
none_since files position version newest base commits reached same none =
    let all : newest ≡ version + 0 = omega (arith, same) in
    subst (IsSince files position base) (sym none) (record {
      version = version;
      spelled = reached.spelled;
      newest = subst (λ n. IsNewest files n) all reached.is;
      few = omega arith;
      last = base;
      are = refl;
      actions = 0;
      counted = refl;
      few_actions = omega arith;
    })

-- what can't be taken over the table before it is refused behind that
pub over_behind : (files : Files) (version : ℕ) (says : DeltaCommit) (before : Table) (actions : ℕ) → SaysCommit files version says → actions + length says.files ≤ MAX_ACTIONS
    → (e : SourceError) → IsReadRefusal (IsRefusedOver version says before) e → IsReadRefusal (IsRefusedBehind files version before actions) e
over_behind files version says before actions reads few e refused =
    weaker (IsRefusedOver version says before) (IsRefusedBehind files version before actions) (λ d of. inr (says, reads, inr (few, of))) e refused

-- names that aren't too many can be listed
pub names_refused : (files : Files) (position : List ℕ) (base : Table) → length (names_in files log_folder) ≤ MAX_NAMES → (e : SourceError) → IsReadRefusal (HasManyNames files) e
    → IsReadRefusal (ShowsFromPosition files position base) e
names_refused files position base few e h = weaker (HasManyNames files) (ShowsFromPosition files position base) (λ d many. absurd (le_not_less (length (names_in files log_folder)) MAX_NAMES few many.0)) e h

-- what is told is told of versions that are there
pub since_refused : (files : Files) (position : List ℕ) (base : Table) (e : SourceError) → IsReadRefusal (ShowsFromPosition files position base) e
    → IsSinceRefusal (Reaches files position) (ShowsFromPosition files position base) e
since_refused files position base source.Memory h = tt
since_refused files position base source.Absent h = h
since_refused files position base (source.Malformed path) h = ((h.0, h.1, h.2), h)
since_refused files position base (source.Unsupported feature path) h = ((h.0, h.1, h.2), h)
since_refused files position base (source.Limit which number) h = ((h.0, h.1, h.2), h)
since_refused files position base source.StoreFault h = tt

-- ---- that they may be applied

-- each change fits the table before it, and leaves one that commits may leave where that one is
abbrev pub LeadOn : Table → List Commit → Table → Type 0
LeadOn before [] last = before ≡ last
LeadOn before (commit ∷ commits) last =
    CanApply before commit.change × (IsTableOfLog before → (table : Table) → IsAfter before commit.change table → IsTableOfLog table)
    × ((after : Table) × IsAfter before commit.change after × LeadOn after commits last)

lead_more : (commits : List Commit) (base : Table) (before after : Later) (more : GoesOnBy before after) → LeadOn base commits before.table → LeadOn base (commits ++ more.commit ∷ []) after.table
lead_more [] base before after more fit =
    subst (λ (t : Table). LeadOn t (more.commit ∷ []) after.table) (sym fit) (more.fits, more.leaves, (after.table, more.leads, refl))
lead_more (commit ∷ commits) base before after more fit = (fit.0, fit.1, (fit.2.0, fit.2.1, lead_more commits fit.2.0 before after more fit.2.2))

pub lead_begins : (base : Table) (later : Later) → later.commits ≡ [] → later.table ≡ base → LeadOn base later.commits later.table
lead_begins base later commits table = subst (λ (cs : List Commit). LeadOn base cs later.table) (sym commits) (sym table)

pub lead_on : (base : Table) (before after : Later) → LeadOn base before.commits before.table → GoesOnBy before after → LeadOn base after.commits after.table
lead_on base before after fit more = subst (λ (cs : List Commit). LeadOn base cs after.table) (sym more.commits) (lead_more before.commits base before after more fit)

fit_each : (commits : List Commit) (before alike last : Table) → SameTable before alike → LeadOn before commits last → FitAll alike commits
fit_each [] before alike last same on = tt
fit_each (commit ∷ commits) before alike last same on = (
  can_apply_same before alike commit.change same on.0,
  λ table after.
      let of = after_same before alike commit.change table same after in
      fit_each commits on.2.0 table last (afters_same before commit.change on.2.0 table on.2.1 of) on.2.2,
)

pub fit_all : (base : Table) (commits : List Commit) (last : Table) → LeadOn base commits last → FitAll base commits
fit_all base commits last on = fit_each commits base base last (same_itself base) on

apply_each : (commits : List Commit) (before alike last : Table) → SameTable before alike → IsTableOfLog before → LeadOn before commits last → CanApplyAll alike commits
apply_each [] before alike last same is fit = tt
apply_each (commit ∷ commits) before alike last same is fit = (
  can_apply_same before alike commit.change same fit.0,
  λ table after.
      let of = after_same before alike commit.change table same after in (
        publishable_of_log table (fit.1 is table of),
        apply_each commits fit.2.0 table last (afters_same before commit.change fit.2.0 table fit.2.1 of) (fit.1 is fit.2.0 fit.2.1) fit.2.2,
      ),
)

pub can_apply_all : (base : Table) (commits : List Commit) (last : Table) → IsPublishable base → LeadOn base commits last → CanApplyAll base commits
can_apply_all base commits last is fit = apply_each commits base base last (same_itself base) (log_of_publishable base is) fit

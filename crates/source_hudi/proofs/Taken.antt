-- Instants that are taken one after another.
use Rattle.std.proofs.Common.{◌≡◌, ◌==◌, ◌+◌, ℕ, true, false, List, [], ◌∷◌, ◌++◌, length, refl, sym, ap, subst, ◌∙◌, arith}
use Rattle.std.proofs.lemmas.Bool.{false≢true}
use Rattle.std.proofs.lemmas.Bool.Decides.{nat_tests}
use Rattle.std.proofs.lemmas.Option.{same_Some}
use Rattle.lake_store.specs.Disk.{Files}
use Rattle.table_history.specs.Tables.{IsAfter}
use Rattle.table_history.specs.declared.table.Commit.{Commit}
use Rattle.table_history.specs.declared.table.Table.{Table}
use Rattle.hudi_timeline.specs.Change.{IsTableOf}
use Rattle.hudi_instant.specs.declared.instant.Instant.{Instant}
use Rattle.hudi_properties.specs.declared.table.HudiTable.{HudiTable}
use Rattle.hudi_table.specs.Files.{SaysInstant}
use Rattle.hudi_table.specs.declared.instants.CompletedInstant.{CompletedInstant}
use Rattle.target_core.specs.Conditions.{IsPublishable}
use Rattle.source_core.specs.Answers.{IsReadRefusal}
use Rattle.source_core.specs.Since.{CanApplyAll, FitAll}
use Rattle.source_core.specs.declared.error.SourceError.{SourceError}
use Rattle.source_core.proofs.Answers.{weaker}
use Rattle.source_hudi.specs.Since.{AreCommits, AreCommitsOf, AreTaken, GoesFurther, HasRefusedAfter, HaveActions, IsCommitOf, IsTakenFurther, ShowsAtInstant, actions_of}
use Rattle.source_hudi.proofs.Applying.{FitsTable, LeadOn, can_apply, fit_all, lead_further}
use Rattle.source_hudi.proofs.Publishable.{publishable_of, table_of_publishable}

-- ---- one instant more

module _ (files : Files) (table : HudiTable) where
  commits_further : (cs : List CompletedInstant) (base : Table) (commits : List Commit) (before : Table) (c : CompletedInstant) (commit : Commit) (after : Table)
      → AreCommits files table base cs commits before → IsCommitOf files table before c commit → IsAfter before commit.change after → AreCommits files table base (cs ++ c ∷ []) (commits ++ commit ∷ []) after
  commits_further [] base commits before c commit after made of is = (
    commit,
    [],
    after,
    ap (λ (l : List Commit). l ++ commit ∷ []) made.0,
    subst (λ (t : Table). IsCommitOf files table t c commit) made.1 of,
    subst (λ (t : Table). IsAfter t commit.change after) made.1 is,
    (refl, refl),
  )
  commits_further (d ∷ cs) base commits before c commit after made of is = (
    made.0,
    made.1 ++ commit ∷ [],
    made.2,
    ap (λ (l : List Commit). l ++ commit ∷ []) made.3,
    made.4,
    made.5,
    commits_further cs made.2 made.1 before c commit after made.6 of is,
  )

  actions_further : (cs : List CompletedInstant) (n : ℕ) (c : CompletedInstant) (i : Instant) → HaveActions files cs n → SaysInstant files c i → HaveActions files (cs ++ c ∷ []) (n + actions_of i)
  actions_further [] n c i have says =
      let a = actions_of i in
      let sum : n + a ≡ a + 0 = omega (arith, have) in
      (i, 0, says, refl, sum)
  actions_further (d ∷ cs) n c i have says =
      let a = actions_of i in
      let b = actions_of have.0 in
      let m = have.1 in
      let is : n ≡ b + m = have.4 in
      let sum : n + a ≡ b + (m + a) = omega (arith, is) in
      (have.0, m + a, have.2, actions_further cs m c i have.3 says, sum)

  pub taken_further : (base : Table) (cs : List CompletedInstant) (commits : List Commit) (before : Table) (n : ℕ) (c : CompletedInstant) (more : List Commit) (after : Table) (together : ℕ)
      → AreTaken files table base cs commits before n → IsTakenFurther files table c commits before n more after together → AreTaken files table base (cs ++ c ∷ []) more after together
  taken_further base cs commits before n c more after together taken step = record {
    made = subst (λ (l : List Commit). AreCommits files table base (cs ++ c ∷ []) l after) (sym step.behind) (commits_further cs base commits before c step.commit after taken.made step.is step.after);
    counted = subst (λ (m : ℕ). HaveActions files (cs ++ c ∷ []) m) (sym step.counted) (actions_further cs n c step.is.instant taken.counted step.is.says);
    few = step.few;
  }

  pub none_taken : (base : Table) (commits : List Commit) (last : Table) (n : ℕ) → commits ≡ [] → last ≡ base → n ≡ 0 → AreTaken files table base [] commits last n
  none_taken base commits last n none same zero = record { made = (none, same); counted = zero; few = omega (arith, zero) }

  pub none_made : (base : Table) (instants : List CompletedInstant) (commits : List Commit) → true ≡ (length instants == 0) → commits ≡ [] → AreCommitsOf files table base instants commits
  none_made base [] commits empty none = record { few = omega arith; last = base; actions = 0; taken = none_taken base commits base 0 none refl refl }
  none_made base (c ∷ cs) commits empty none =
      let full : (length (c ∷ cs) == 0) ≡ false = grind (arith, nat_tests) in
      absurd (false≢true (sym full ∙ sym empty))

  pub refused_at : (base : Table) (instants front : List CompletedInstant) (c : CompletedInstant) (behind : List CompletedInstant) (commits : List Commit) (before : Table) (n : ℕ) → instants ≡ front ++ c ∷ behind
      → AreTaken files table base front commits before n → (e : SourceError) → IsReadRefusal (ShowsAtInstant files table c before n) e → IsReadRefusal (HasRefusedAfter files table base instants) e
  refused_at base instants front c behind commits before n split taken e refused =
      weaker (ShowsAtInstant files table c before n) (HasRefusedAfter files table base instants)
      (λ d h. record { front = front; instant = c; behind = behind; split = split; commits = commits; before = before; actions = n; taken = taken; refused = h }) e refused

-- ---- that the commits may be applied

abbrev pub Leads : HudiTable → Table → List Commit → Table → Type 0
Leads table base commits last = LeadOn (IsTableOf table) (publishable_of table) base commits last

pub goes_further : (table : HudiTable) (base : Table) (commits : List Commit) (before : Table) (more : List Commit) (after : Table) → Leads table base commits before → GoesFurther table commits before more after → Leads table base more after
goes_further table base commits before more after fit step =
    let fits : FitsTable (IsTableOf table) (publishable_of table) before step.commit after = record {
      fits = step.goes_on.fits;
      leaves = λ is t to. step.goes_on.leaves (λ b e. subst (λ (x : Table). IsTableOf table x) (same_Some before b e) is) t to;
      after = step.after;
    } in
    subst (λ (l : List Commit). Leads table base l after) (sym step.behind) (lead_further (IsTableOf table) (publishable_of table) commits base before step.commit after fit fits)

pub none_leads : (table : HudiTable) (base : Table) (commits : List Commit) (last : Table) → commits ≡ [] → last ≡ base → Leads table base commits last
none_leads table base commits last none same = subst (λ (l : List Commit). Leads table base l last) (sym none) same

pub can_apply_all : (table : HudiTable) (base : Table) (commits : List Commit) (last : Table) → table.partition ≡ base.partition → Leads table base commits last → IsPublishable base → CanApplyAll base commits
can_apply_all table base commits last partition fit is = can_apply (IsTableOf table) (publishable_of table) commits base last (table_of_publishable table base partition is) fit

pub fit_each : (table : HudiTable) (base : Table) (commits : List Commit) (last : Table) → Leads table base commits last → FitAll base commits
fit_each table base commits last leads = fit_all (IsTableOf table) (publishable_of table) commits base last leads

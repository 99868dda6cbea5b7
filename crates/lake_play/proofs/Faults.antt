-- Why the source isn't read while events are played: for a number that is passed, or for a version that was removed.
use Rattle.std.proofs.Common.{◌≡◌, inl, inr, ⊎_elim, ℕ, zero, suc, ◌+◌, ◌^◌, ◌≤◌, ◌<◌, List, [], ◌∷◌, ◌++◌, length, All, Contains, Option, Some, None, Ok, refl, sym, ap, subst, ◌∙◌, arith}
use Rattle.std.specs.Prelude.{option_map, slice_get}
use Rattle.std.specs.Fmt.{decimal}
use Rattle.std.proofs.lemmas.Bool.{cases_lt}
use Rattle.std.proofs.lemmas.Fmt.{decimal_injective}
use Rattle.lake_basics.specs.Outcome.{each}
use Rattle.lake_basics.specs.declared.limits.TheConstants.{MAX_ACTIONS, MAX_COMMITS, MAX_DELTA_VERSION}
use Rattle.lake_basics.proofs.Lists.{all_middle, some_at}
use Rattle.lake_store.specs.Disk.{Disk}
use Rattle.table_history.specs.First.{IsFirst, NoneOf}
use Rattle.table_history.specs.History.{History}
use Rattle.table_history.specs.declared.feature.Feature.TheVariants.{NeedsCheckpoint}
use Rattle.table_history.specs.declared.limit.LimitKind.{LimitKind}
use Rattle.table_history.specs.declared.table.Commit.{Commit}
use Rattle.table_history.specs.declared.table.Table.{Table}
use Rattle.table_history.specs.TypeTree.{ColumnTrees}
use Rattle.table_history.proofs.FirstLemmas.{none_first}
use Rattle.conformance.specs.Histories.{IsExtension, IsHistoryFrom}
use Rattle.delta_change.specs.Change.{HasLargeSchema, IsChangeRefusal, Shows, commit_features}
use Rattle.delta_change.specs.TableBehind.{IsSchemaBehind}
use Rattle.delta_log.proofs.EachLemmas.{Cuts, cut_each}
use Rattle.delta_log.proofs.ReadableLemmas.{again_excluded, misplaced_excluded}
use Rattle.delta_log.proofs.SaysLemmas.{says_action, reads_action, reads_each}
use Rattle.delta_log.specs.Grammar.{line_action}
use Rattle.delta_log.specs.Judging.{lines_of}
use Rattle.delta_log.specs.Readable.{ActsAgain, AreLinesInGrammar, IsAtFault, IsFirstFault, IsMisplaced, IsReadableCommit, ShowsOnLine, line_features}
use Rattle.delta_log.specs.declared.action.LineAction.{LineAction}
use Rattle.delta_log.specs.declared.commit.DeltaCommit.{DeltaCommit}
use Rattle.delta_log.specs.declared.commit.MetaData.{MetaData}
use Rattle.delta_log.specs.declared.error.DeltaError.{DeltaError}
use Rattle.delta_log.specs.declared.error.DeltaError.TheVariants as errors
use Rattle.delta_table.proofs.LogLaws.{step_made}
use Rattle.delta_table.proofs.PathLaws.{bytes_once}
use Rattle.delta_table.specs.Log.{IsReadLog, IsStep, SaysCommit}
use Rattle.delta_table.specs.Refusals.{IsLogRefusal, IsUnfit, IsUnreadable, IsVersionRefusal}
use Rattle.delta_table.specs.Versions.{HasVersion}
use Rattle.delta_table.specs.declared.error.LogError.{LogError}
use Rattle.delta_table.specs.declared.error.LogError.TheVariants as log
use Rattle.source_core.specs.Histories.{IsLike}
use Rattle.source_core.specs.declared.error.SourceError.{SourceError}
use Rattle.source_core.specs.declared.error.SourceError.TheVariants as source
use Rattle.source_delta.specs.Histories.{IsReadableOver}
use Rattle.source_delta.specs.LikeLemmas.{LikeBefore, SameBefore, like_before, next_like, next_same, readable_like}
use Rattle.source_delta.specs.Reading.{HasEach, IsRefusedLog, LacksVersion, ShowsAtHead, ShowsFromScratch, Tells, TellsCommit}
use Rattle.source_delta.specs.Since.{AreCommits, HasManyActions, HasManyCommits, IsRefusedBehind, IsRefusedOver, ShowsFromPosition, StopsBehind}
use Rattle.source_delta.specs.SinceLemmas.{small}
use Rattle.lake_play.proofs.Histories.{before_from, entry_of, has_kept, same_length, says_extension}
use Rattle.lake_play.proofs.Logs.{HoldsCommits}

-- ---- faults that aren't a commit's own

-- it isn't that the bytes are in no grammar, or that they show a feature
abbrev pub IsMild : DeltaError → Type 0
IsMild errors.Memory = Unit {0}
IsMild (errors.Limit which) = Unit {0}
IsMild _ = ⊥

abbrev IsPlain : LineAction → Type 0
IsPlain a = NoneOf (λ f. ShowsOnLine f a) line_features

line_mild : (lines : List (List ℕ)) (line : List ℕ) (before : List LineAction) (a : LineAction) (rest : List LineAction) (n : ℕ) (e : DeltaError) → line_action line ≡ Ok a → AreLinesInGrammar lines (before ++ a ∷ rest) → All IsPlain (before ++ a ∷ rest) → IsAtFault before line n e → IsMild e
line_mild lines line before a rest n errors.Memory is grammar plain fault = tt
line_mild lines line before a rest n (errors.Malformed m) is grammar plain fault =
    ⊎_elim (λ h. h a (says_action line a is)) (λ h. let one = reads_action line h.0 h.1 in let same : h.0 ≡ a = cc in misplaced_excluded lines before a rest grammar (subst (IsMisplaced before) same h.2)) fault.1
line_mild lines line before a rest n (errors.DoublePath m) is grammar plain fault =
    let one = reads_action line fault.1 fault.2.0 in let same : fault.1 ≡ a = cc in again_excluded lines before a rest grammar (subst (ActsAgain before) same fault.5)
line_mild lines line before a rest n (errors.Unsupported f m) is grammar plain fault =
    let one = reads_action line fault.1 fault.2.0 in let same : fault.1 ≡ a = cc in
    none_first (λ g. ShowsOnLine g a) line_features f (all_middle IsPlain before a rest plain) (subst (λ x. IsFirst (λ g. ShowsOnLine g x) line_features f) same fault.3)
line_mild lines line before a rest n (errors.Limit w) is grammar plain fault = tt

extension_mild : (bytes : List ℕ) (base : Option Table) (next : Table) (e : DeltaError) → IsExtension bytes base next → IsFirstFault bytes e → IsMild e
unfolding Cuts
extension_mild bytes base next e made first =
    let cut = cut_each line_action first.front first.line first.behind made.actions (ap (each line_action) (sym first.split) ∙ reads_each (lines_of bytes) made.actions made.grammar.says) in
    let one = cut.3 in
    let other = reads_each first.front first.before first.readable.grammar.says in
    let same : cut.0 ≡ first.before = cc in
    let split : made.actions ≡ first.before ++ cut.1 ∷ cut.2 = cut.5 ∙ ap (λ l. l ++ cut.1 ∷ cut.2) same in
    line_mild (lines_of bytes) first.line first.before cut.1 cut.2 (1 + length first.front) e cut.4 (subst (AreLinesInGrammar (lines_of bytes)) split made.grammar) (subst (All IsPlain) split made.supported) first.fault

-- ---- over a table

schema_once : (o : Option MetaData) (base : Option Table) (schema : ColumnTrees) (c : DeltaCommit) (which : LimitKind) → c.meta ≡ o → IsSchemaBehind o base schema → HasLargeSchema c which → ⊥
schema_once None base schema c which is behind large = let both : None ≡ Some large.0 = sym is ∙ large.1 in absurd cc
schema_once (Some m) base schema c which is behind large =
    let both : Some m ≡ Some large.0 = sym is ∙ large.1 in
    let same : m ≡ large.0 = cc in
    let text = ap (λ (x : MetaData). x.schema) same in
    let fault = large.2 in cc

pub readable_step : (c : DeltaCommit) (base : Option Table) (next : Table) → IsStep c base next → IsReadableOver c base
readable_step c base next step = record { grammar = step.grammar; supported = step.supported; schema = λ which large. schema_once c.meta base next.schema c which refl step.schema large }

change_mild : (c : DeltaCommit) (base : Option Table) (e : DeltaError) → IsReadableOver c base → IsChangeRefusal c base e → IsMild e
change_mild c base errors.Memory can refusal = tt
change_mild c base (errors.Malformed line) can refusal = can.grammar refusal.1
change_mild c base (errors.DoublePath line) can refusal = refusal
change_mild c base (errors.Unsupported feature line) can refusal = none_first (Shows c base) commit_features feature can.supported refusal.2
change_mild c base (errors.Limit which) can refusal = tt

like_sym : (a b : Option Table) → LikeBefore a b → LikeBefore b a
like_sym None None like = tt
like_sym None (Some t) like = absurd like
like_sym (Some t) None like = absurd like
like_sym (Some x) (Some y) like = record {
  rows = λ row. ((like.rows row).1, (like.rows row).0);
  partition = sym like.partition;
  kinds = λ name there v. let both = like.kinds name (subst (λ names. Contains names name) like.partition there) v in (both.1, both.0);
}

-- ---- what a source tells

-- A version that isn't there was removed; else a number is passed.
abbrev pub IsPlayedFault : ℕ → SourceError → Type 0
IsPlayedFault first (source.Unsupported feature path) = (feature ≡ NeedsCheckpoint) × (0 < first)
IsPlayedFault first (source.Limit which number) = Unit {0}
IsPlayedFault first _ = ⊥

told_commit : (first version : ℕ) (cause : DeltaError) (e : SourceError) → IsMild cause → TellsCommit version cause e → IsPlayedFault first e
told_commit first version errors.Memory e mild tells = absurd tells
told_commit first version (errors.Malformed line) e mild tells = absurd mild
told_commit first version (errors.DoublePath line) e mild tells = absurd mild
told_commit first version (errors.Unsupported feature line) e mild tells = absurd mild
told_commit first version (errors.Limit which) e mild tells = subst (IsPlayedFault first) (sym tells) tt

module _ (commits : List (List ℕ)) (first : ℕ) (disk : Disk) (h : HoldsCommits commits first disk) (history : History) (is : IsHistoryFrom 0 None commits history) where
  count : length history ≡ length commits
  count = same_length 0 None commits history is

  -- the table of a version that is there
  entry : (version : ℕ) → HasVersion disk.files version → (e : List ℕ × Table) × (slice_get history version ≡ Some e)
  entry version has = let within = (h.only version has).1 in let e = count in some_at history version (omega (arith, within, e))

  step_of : (version : ℕ) (c : DeltaCommit) → SaysCommit disk.files version c → (e : List ℕ × Table) × (slice_get history version ≡ Some e) × IsStep c (before_from None history version) e.1
  step_of version c says =
      let has : HasVersion disk.files version = (says.bytes, says.holds) in
      let at = entry version has in
      let of = entry_of 0 None commits history is version at.0 at.1 in
      let one = bytes_once disk.files version says.bytes of.bytes says.holds (h.holds version of.bytes (h.only version has).0 of.at) in
      (at.0, at.1, says_extension of.bytes (before_from None history version) at.0.1 c of.extends (subst (λ (b : List ℕ). IsReadableCommit b c) one says.readable))

  unreadable_mild : (version : ℕ) (e : DeltaError) → IsUnreadable disk.files version e → IsMild e
  unreadable_mild version e fault =
      let has : HasVersion disk.files version = (fault.0, fault.1) in
      let at = entry version has in
      let of = entry_of 0 None commits history is version at.0 at.1 in
      let one = bytes_once disk.files version fault.0 of.bytes fault.1 (h.holds version of.bytes (h.only version has).0 of.at) in
      extension_mild of.bytes (before_from None history version) at.0.1 e of.extends (subst (λ (b : List ℕ). IsFirstFault b e) one fault.2)

  over_mild : (version : ℕ) (c : DeltaCommit) (base : Option Table) (e : DeltaError) → SaysCommit disk.files version c → LikeBefore base (before_from None history version) → IsChangeRefusal c base e → IsMild e
  over_mild version c base e says like refusal =
      let at = step_of version c says in
      let before = before_from None history version in
      change_mild c base e (readable_like c before base (like_sym base before like) (readable_step c before at.0.1 at.2)) refusal

  read_same : (n : ℕ) (last : Option Table) → IsReadLog disk.files n last → SameBefore last (before_from None history n)
  read_same zero last read = subst (λ l. SameBefore l None) (sym read) tt
  read_same (suc version) last read =
      let before = read_same version read.0 read.1 in
      let at = step_of version read.2 read.3 in
      let same = next_same read.0 (before_from None history version) before read.2 read.4 at.0.1 read.5.0 at.2 in
      let behind : before_from None history (suc version) ≡ Some at.0.1 = ap (option_map (λ (entry : List ℕ × Table). entry.1)) at.1 in
      subst (λ l. SameBefore l (before_from None history (suc version))) (sym read.6) (subst (SameBefore (Some read.4)) (sym behind) same)

  unfit_mild : (version : ℕ) (base : Option Table) (e : DeltaError) → IsReadLog disk.files version base → IsUnfit disk.files version base e → IsMild e
  unfit_mild version base e read fault = over_mild version fault.0 base e fault.1 (like_before base (before_from None history version) (read_same version base read)) fault.2

  log_fault : (newest : ℕ) (cause : LogError) (e : SourceError) → ((v : ℕ) → v ≤ newest → HasVersion disk.files v) → IsLogRefusal disk.files newest cause → Tells cause e → IsPlayedFault first e
  log_fault newest log.Memory e every refusal tells = absurd tells
  log_fault newest log.StoreFault e every refusal tells = absurd tells
  log_fault newest log.ManyNames e every refusal tells = absurd refusal
  log_fault newest log.ManyCommits e every refusal tells = subst (IsPlayedFault first) (sym tells) tt
  log_fault newest (log.Missing v) e every refusal tells = absurd (refusal.1.4.1 (every refusal.1.0 refusal.1.2))
  log_fault newest (log.Large v) e every refusal tells = subst (IsPlayedFault first) (sym tells) tt
  log_fault newest (log.Refused v cause) e every refusal tells =
      told_commit first v cause e (⊎_elim (λ unread. unreadable_mild refusal.1.0 cause unread) (λ unfit. unfit_mild refusal.1.0 refusal.1.1 cause refusal.1.3 unfit) refusal.1.4.1) tells

  pub at_head_fault : (e : SourceError) → ShowsAtHead disk.files e → IsPlayedFault first e
  at_head_fault e (inl many) = subst (IsPlayedFault first) (sym many.1) tt
  at_head_fault e (inr shows) =
      let refused = shows.1.1 in
      log_fault 0 refused.0 e (λ v le. let none : 0 ≡ v = omega (arith, le) in subst (HasVersion disk.files) none shows.1.0) refused.1 refused.2

  pub from_scratch_fault : (e : SourceError) → ShowsFromScratch disk.files e → IsPlayedFault first e
  from_scratch_fault e (inl many) = subst (IsPlayedFault first) (sym many.1) tt
  from_scratch_fault e (inr shows) =
      ⊎_elim
      (λ (lacks : LacksVersion disk.files shows.1 e).
      let within = (h.only shows.1 shows.2.there).1 in
      let low = lacks.2.within in
      let removed : 0 < first = ⊎_elim (λ (none : first < 1). absurd (lacks.2.missing (has_kept commits first disk h lacks.0 (omega (arith, none)) (omega (arith, low, within))))) (λ (some : 1 ≤ first). some) (cases_lt first 1) in
      subst (IsPlayedFault first) (sym lacks.4) (refl, removed))
      (λ (read : HasEach disk.files shows.1 × IsRefusedLog disk.files shows.1 e). let refused = read.1 in log_fault shows.1 refused.0 e read.0 refused.1 refused.2)
      shows.3

  -- ---- from a position

  like_on : (cs : List Commit) (version : ℕ) (base before : Table) (at : List ℕ × Table) → slice_get history version ≡ Some at → IsLike base at.1 → AreCommits disk.files version base cs before → LikeBefore (Some before) (before_from None history (version + length cs + 1))
  like_on [] version base before at there like are =
      let same : suc version ≡ version + 0 + 1 = omega arith in
      let behind : before_from None history (suc version) ≡ Some at.1 = ap (option_map (λ (entry : List ℕ × Table). entry.1)) there in
      subst (λ (n : ℕ). LikeBefore (Some before) (before_from None history n)) same (subst (LikeBefore (Some before)) (sym behind) (subst (λ (t : Table). IsLike t at.1) are like))
  like_on (commit ∷ cs) version base before at there like are =
      let made = are.1 in
      let next = step_of (version + 1) made.says made.read in
      let one : suc version ≡ version + 1 = omega arith in
      let behind : before_from None history (version + 1) ≡ Some at.1 = ap (before_from None history) (sym one) ∙ ap (option_map (λ (entry : List ℕ × Table). entry.1)) there in
      let stepped : IsStep made.says (Some base) are.0 = step_made made.says (Some base) commit.change are.0 made.made.taken.grammar made.made.taken.supported made.made.change made.leads in
      let other : IsStep made.says (Some at.1) next.0.1 = subst (λ (o : Option Table). IsStep made.says o next.0.1) behind next.2 in
      let more : version + 1 + length cs + 1 ≡ version + length (commit ∷ cs) + 1 = omega arith in
      subst (λ (n : ℕ). LikeBefore (Some before) (before_from None history n)) more
      (like_on cs (version + 1) are.0 before next.0 next.1 (next_like (Some base) (Some at.1) like made.says are.0 next.0.1 stepped other) are.2)

  version_by : (version : ℕ) (e : SourceError) (cause : LogError) → HasVersion disk.files version → IsVersionRefusal disk.files version cause → Tells cause e → IsPlayedFault first e
  version_by version e log.Memory has refusal tells = absurd tells
  version_by version e log.StoreFault has refusal tells = absurd tells
  version_by version e log.ManyNames has refusal tells = absurd refusal
  version_by version e log.ManyCommits has refusal tells = absurd refusal
  version_by version e (log.Missing v) has refusal tells = absurd (refusal.1 has)
  version_by version e (log.Large v) has refusal tells = subst (IsPlayedFault first) (sym tells) tt
  version_by version e (log.Refused v cause) has refusal tells = told_commit first v cause e (unreadable_mild version cause refusal.1) tells

  behind_fault : (version : ℕ) (before : Table) (actions : ℕ) (e : SourceError) → HasVersion disk.files version → LikeBefore (Some before) (before_from None history version) → IsRefusedBehind disk.files version before actions e → IsPlayedFault first e
  behind_fault version before actions e has like (inl refused) = version_by version e refused.0 has refused.1 refused.2
  behind_fault version before actions e has like (inr over) =
      ⊎_elim
      (λ (many : HasManyActions actions over.0 e). subst (IsPlayedFault first) (sym many.1) tt)
      (λ (refused : (actions + length over.0.files ≤ MAX_ACTIONS) × IsRefusedOver version over.0 before e).
      let of = refused.1 in
      told_commit first version of.0 e (over_mild version over.0 (Some before) of.0 over.1 like of.1) of.2)
      over.2

  -- over a table like the one there
  pub from_position_fault : (place : ℕ) (at : List ℕ × Table) (base : Table) (e : SourceError) → slice_get history place ≡ Some at → place < 2 ^ 64 → IsLike base at.1 → ShowsFromPosition disk.files (decimal place) base e → IsPlayedFault first e
  from_position_fault place at base e there few like shows =
      let version = shows.0 in
      let newest = shows.1 in
      let reached = shows.2 in
      ⊎_elim
      (λ (many : HasManyCommits version newest e). subst (IsPlayedFault first) (sym many.1) tt)
      (λ (on : (newest ≤ version + MAX_COMMITS) × StopsBehind disk.files version newest base e).
      let stops = on.1 in
      let up : newest ≤ MAX_DELTA_VERSION = reached.is.there.1.is.named.within in
      let low = reached.within in
      let same : place ≡ version = decimal_injective place version few (small version (omega (arith, up, low))) reached.spelled in
      let below = stops.within in
      let here : slice_get history version ≡ Some at = subst (λ (n : ℕ). slice_get history n ≡ Some at) same there in
      behind_fault (version + length stops.commits + 1) stops.before stops.actions e
      (reached.later (version + length stops.commits + 1) (omega arith) (omega (arith, below)))
      (like_on stops.commits version base stops.before at here like stops.are) stops.refused)
      shows.3

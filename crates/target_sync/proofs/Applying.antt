-- What applying a plan leaves, by how it ends.
use Rattle.std.proofs.Common.{◌≡◌, ◌≢◌, ◌⊎◌, inl, inr, ⊎_elim, ◌+◌, ◌<◌, ◌≤◌, ℕ, Bool, true, false, List, [], ◌∷◌, length, take, Option, refl, sym, ap, subst, arith}
use Rattle.std.proofs.Math.Seq.{take-length}
use Rattle.std.proofs.lemmas.Bool.{cases_lt}
use Rattle.std.specs.Prelude.{Result, Ok, Err, IsErrOf}
use Rattle.lake_store.specs.Disk.{Disk, Files, MayLeave}
use Rattle.lake_store.specs.Runs.{FailsBy, IsContestedBy, IsEachMoment, OnlyReads}
use Rattle.lake_store.specs.declared.store.Store.{Ghosts}
use Rattle.lake_store.proofs.MomentLaws.{goes_further, started, weaker}
use Rattle.lake_store.proofs.RunLaws.{NowOnly, alone_by_reading, reading_begins}
use Rattle.table_history.specs.declared.kind.Kind.{Kind}
use Rattle.table_history.specs.declared.limit.LimitKind.{LimitKind}
use Rattle.table_history.specs.declared.limit.LimitKind.TheVariants.{Names}
use Rattle.table_history.specs.declared.table.Change.{Change}
use Rattle.table_history.specs.declared.table.Commit.{Commit}
use Rattle.table_history.specs.TypeTree.{ColumnTrees}
use Rattle.target_core.specs.Conditions.{CanPublishAll, Fits, GoesOn}
use Rattle.target_core.specs.Folders.{MayLeaveIn, after_crash, folder_of}
use Rattle.target_core.specs.Meaning.{Meaning}
use Rattle.target_core.specs.Outcome.{Uncontested}
use Rattle.target_core.specs.OwnFiles.{MayNotTouch, TouchesOwn}
use Rattle.target_core.specs.Progress.{IsRefusedAt, KeepsShown}
use Rattle.target_core.specs.Publishing.{LeavesSome, Publishes}
use Rattle.target_core.specs.Refusals.{IsCommitRefusal, IsFitsRefusal}
use Rattle.target_core.specs.Views.{Origin, Standing, View, standing_at}
use Rattle.target_core.proofs.Steps.{gained_none}
use Rattle.target_core.specs.declared.target.TargetError.{TargetError}
use Rattle.target_core.specs.declared.target.TargetError.TheVariants.{Memory, StoreFault, Contested, Limit, Unsupported}
use Rattle.target_sync.specs.Applied.{Applies, IsApplyRefusal, IsLimitedAt, IsTold, PassesAtFirst, PassesIn, StayShown}
use Rattle.target_sync.specs.Targets.{IsStart}
use Rattle.target_sync.specs.declared.apply.Report.{Report}
use Rattle.target_sync.proofs.Counting.{contested_as, contested_never, fails_as, fails_never}
use Rattle.target_sync.proofs.Sizes.{StaysShort, short_reading}

-- what a crash leaves of a settled target
pub record CrashLaws (target : Meaning) : Type 0 where
  pub reads : (disk : Disk) (image : Files) (v : View) → target.settled disk → MayLeaveIn (folder_of target.kind) disk image → target.reads disk.files v → target.reads image v
  pub carries : (disk : Disk) (image : Files) (v : View) (c : ℕ) (change : Change) (m : Standing) → target.settled disk → MayLeaveIn (folder_of target.kind) disk image → target.reads disk.files v → c ≤ v.commits
      → target.carries disk.files c change m → target.carries image c change m
  pub settled : (disk : Disk) (image : Files) → target.settled disk → MayLeaveIn (folder_of target.kind) disk image → target.settled (after_crash image)
  pub within : (files : Files) (v : View) (c : ℕ) (change : Change) (m : Standing) → target.reads files v → target.carries files c change m → c ≤ v.commits

false_true : false ≡ true → ⊥
false_true is = cc is

err_is : {X Y : Type 0} (e d : TargetError) → ◌≡◌ {A = Result X TargetError} (Err e) (Err d) → ◌≡◌ {A = Result Y TargetError} (Err e) (Err d)
err_is e d is = let same : e ≡ d = cc is in ap (λ (x : TargetError). Err x) same

err_same : {X : Type 0} (e d : TargetError) → ◌≡◌ {A = Result X TargetError} (Err e) (Err d) → e ≡ d
err_same e d is = cc is

ok_err : {X : Type 0} (x : X) (d : TargetError) → ◌≡◌ {A = Result X TargetError} (Ok x) (Err d) → ⊥
ok_err x d is = cc is

names_or : (which : LimitKind) → (which ≡ Names) ⊎ (which ≢ Names)
names_or Names = inl refl
names_or _ = inr (λ is. cc is)

module _ {S : Type 0} (store : Ghosts S) (target : Meaning) (origin : Origin) (start : View) (commits : List Commit) where
  -- while files are only read a crash shows none of them
  pub stay_behind : CrashLaws target → (old mid new : S) → store.tells → OnlyReads store old mid → target.reads (store.disk old).files start → target.settled (store.disk old) → (files : Files)
      → IsEachMoment store mid new (StayShown target origin start.commits commits files) → IsEachMoment store old new (StayShown target origin start.commits commits files)
  stay_behind crash old mid new told reading reads settled files stay =
      goes_further store old mid new (StayShown target origin start.commits commits files)
      (weaker store old mid (MayLeave (store.disk old)) (StayShown target origin start.commits commits files)
      (λ image may i shown.
      let le : start.commits + i + 1 ≤ start.commits = crash.within image start (start.commits + i + 1) shown.0.change (standing_at origin shown.0.position) (crash.reads (store.disk old) image start settled (λ path own clean. may path clean) reads) shown.2 in
      absurd (omega (arith, le)))
      (λ t. reading.moments))
      (λ t. stay) told

  -- of another answer
  publishes_as : (U V : Type 0) (done other : Bool) (old new : S) → (V → U) → (other ≡ true → done ≡ true) → Publishes store target origin start commits U done old new → Publishes store target origin start commits V other old new
  publishes_as U V done other old new from is run = record {
    all = λ o. run.all (is o);
    at_return = λ v. run.at_return (from v);
    moments = λ v. run.moments (from v);
    settled = λ v. run.settled (from v);
    earlier = run.earlier;
    bytes = run.bytes;
  }

  pub publishes_nothing : NowOnly store → CrashLaws target → (s : S) (U : Type 0) → store.tells → target.reads (store.disk s).files start → target.settled (store.disk s) → Publishes store target origin start commits U false s s
  publishes_nothing only_now crash s U told reads settled =
      let before : Files = (store.disk s).files in
      let reading = reading_begins store only_now s told in
      record {
        all = λ is. absurd (false_true is);
        at_return = λ u. record { count = 0; gained = gained_none target origin start before commits before reads (λ c change m le was. was) };
        moments = λ u. started store only_now s (LeavesSome target origin start before commits)
            (λ t image may. (
              record {
                count = 0;
                gained = gained_none target origin start before commits image (crash.reads (store.disk s) image start settled (λ path own clean. may path clean) reads)
                    (λ c change m le was. crash.carries (store.disk s) image start c change m settled (λ path own clean. may path clean) reads le was);
              },
              crash.settled (store.disk s) image settled (λ path own clean. may path clean),
            )) told;
        settled = λ u. settled;
        earlier = λ c change m le was. was;
        bytes = alone_by_reading store (target.reached before) s s reading;
      }

  module _ (unfit : TargetError → Type 0) (passes : List Commit → LimitKind → ℕ → Type 0) (written : List Commit → Files → Type 0) (partition : List (List ℕ)) (full : Bool) where
    unfit_refusal : (Idle : Type 0) (passed : LimitKind → ℕ → Type 0) (e : TargetError) → Idle → IsFitsRefusal unfit e → IsApplyRefusal Idle unfit passed e
    unfit_refusal Idle passed Memory idle is = tt
    unfit_refusal Idle passed StoreFault idle is = absurd is
    unfit_refusal Idle passed Contested idle is = absurd is
    unfit_refusal Idle passed (Limit which number) idle is = inl (idle, is)
    unfit_refusal Idle passed (Unsupported feature path) idle is = (idle, is)

    no_fault : (e : TargetError) → IsFitsRefusal unfit e → e ≡ StoreFault → ⊥
    no_fault e is same = subst (IsFitsRefusal unfit) same is

    no_contest : (e : TargetError) → IsFitsRefusal unfit e → e ≡ Contested → ⊥
    no_contest e is same = subst (IsFitsRefusal unfit) same is

    -- the commits don't fit
    pub applies_unfit : NowOnly store → CrashLaws target → (s : S) (Stands : Type 0) → (Stands → target.reads (store.disk s).files start × target.settled (store.disk s)) → (e : TargetError) → IsFitsRefusal unfit e
        → Applies store target unfit passes written origin start partition commits full Stands s s (Err e)
    applies_unfit only_now crash s Stands from e is =
        let reading : store.tells → OnlyReads store s s = λ told. reading_begins store only_now s told in
        record {
          alone = λ told. alone_by_reading store (MayNotTouch target.kind) s s (reading told);
          short = short_reading store s s reading;
          publishes = λ told stands. publishes_nothing only_now crash s (Uncontested {T = Report} (Err e)) told (from stands).0 (from stands).1;
          none = λ told none. reading told;
          columns = λ some. inr ((λ is. false_true is), reading);
          writes = λ told stands. tt;
          reported = tt;
          stopped = λ told stands. inl (reading told);
          contested = λ told stands is_contest. absurd (no_contest e is (err_same e Contested is_contest));
          limited = λ told stands which number is_limit. inl (reading told, inl (subst (IsFitsRefusal unfit) (err_same e (Limit which number) is_limit) is));
          refused = λ told. unfit_refusal (OnlyReads store s s) (PassesIn passes commits) e (reading told) is;
          fault = fails_never store.faults store.may_fail s _ (λ same. no_fault e is (err_same e StoreFault same));
          contest = contested_never store.contests store.may_contest s _ (λ same. no_contest e is (err_same e Contested same));
        }

    module _ (Stands : Type 0) (old new : S) (columns : commits ≢ [] → start.table.partition ≡ partition) (still : store.tells → commits ≡ [] → OnlyReads store old new) (alone : store.tells → TouchesOwn store target.kind old new)
        (short : store.tells → StaysShort store old new) where
      refusal_at : (Idle : Type 0) (place : ℕ) → place < length commits → (e : TargetError) → IsCommitRefusal (passes (take (place + 1) commits)) e → IsApplyRefusal Idle unfit (PassesIn passes commits) e
      refusal_at Idle place within Memory is = tt
      refusal_at Idle place within StoreFault is = tt
      refusal_at Idle place within Contested is = tt
      refusal_at Idle place within (Limit which number) is = inr (place, within, is)
      refusal_at Idle place within (Unsupported feature path) is = absurd is

      passed_first : (place : ℕ) → place ≡ 0 → place < length commits → (which : LimitKind) (number : ℕ) → passes (take (place + 1) commits) which number → PassesAtFirst passes commits which number
      passed_first place first within which number passed = (omega (arith, within), subst (λ (n : ℕ). passes (take (n + 1) commits) which number) first passed)

      has_some : (cs : List Commit) (place : ℕ) → place < length cs → cs ≢ []
      has_some [] place within none = omega (arith, within)
      has_some (c ∷ cs) place within none = cc none

      -- publishing was refused
      pub applies_refused : (e : TargetError)
          → (store.tells → Stands → Publishes store target origin start commits (e ≡ Contested → ⊥) false old new)
          → (store.tells → IsRefusedAt store target passes written Stands origin start commits old new e)
          → (store.tells → Stands → IsEachMoment store old new (KeepsShown target origin start commits (store.disk new).files e))
          → FailsBy store old new (IsErrOf {T = ℕ} (Err e) StoreFault) → IsContestedBy store old new (IsErrOf {T = ℕ} (Err e) Contested)
          → Applies store target unfit passes written origin start partition commits full Stands old new (Err e)
      applies_refused e publishes refused kept cause contest = record {
        alone = alone;
        short = short;
        publishes = publishes;
        none = still;
        columns = λ some. inl (columns some);
        writes = λ told stands. tt;
        reported = tt;
        stopped = λ told stands.
            let at = refused told in
            let within = at.within in
            inr (record { place = at.place; within = omega (arith, within); left = at.stay stands; gained = at.gained stands });
        contested = λ told stands is_contest.
            let at = refused told in
            record {
              place = at.place;
              within = at.within;
              columns = columns (has_some commits at.place at.within);
              published = at.before stands;
              left = at.stay stands;
              newest = at.contested stands (err_same e Contested is_contest);
              stay = weaker store old new (KeepsShown target origin start commits (store.disk new).files e) (StayShown target origin start.commits commits (store.disk new).files)
                  (λ image kept_at. kept_at.contested (err_same e Contested is_contest)) (λ t. kept t stands) told;
              theirs = at.theirs stands (err_same e Contested is_contest);
            };
        limited = λ told stands which number is_limit.
            let at = refused told in
            let same : e ≡ Limit which number = err_same e (Limit which number) is_limit in
            let limited_with : (which ≢ Names → (0 < at.place) × written (take at.place commits) (store.disk new).files) → IsLimitedAt store target passes written origin start partition commits old new which number
            = λ untouched. record {
              place = at.place;
              within = at.within;
              columns = columns (has_some commits at.place at.within);
              passed = subst (λ (x : TargetError). IsCommitRefusal (passes (take (at.place + 1) commits)) x) same at.cause;
              left = at.stay stands;
              gained = at.limited stands which number same;
              untouched = untouched;
            } in
            ⊎_elim
            (λ names. inr (limited_with (λ other. absurd (other names))))
            (λ other. ⊎_elim
            (λ some. inr (limited_with (λ _. (some, at.untouched stands which number same other))))
            (λ none.
            let first : at.place ≡ 0 = omega (arith, none) in
            let passed : IsCommitRefusal (passes (take (at.place + 1) commits)) (Limit which number) = subst (λ (x : TargetError). IsCommitRefusal (passes (take (at.place + 1) commits)) x) same at.cause in
            inl (at.unmoved which number same other first, inr (passed_first at.place first at.within which number passed)))
            (cases_lt 0 at.place))
            (names_or which);
        refused = λ told. refusal_at (OnlyReads store old new) (refused told).place (refused told).within e (refused told).cause;
        fault = fails_as store.faults store.may_fail old new _ _ (err_is e StoreFault) cause;
        contest = contested_as store.contests store.may_contest old new _ _ (err_is e Contested) (err_is e Contested) contest;
      }

      module _ (count : ℕ) (publishes : store.tells → Stands → Publishes store target origin start commits (Unit {0}) true old new)
          (cause : FailsBy store old new (IsErrOf {T = ℕ} (Ok count) StoreFault)) (contest : IsContestedBy store old new (IsErrOf {T = ℕ} (Ok count) Contested)) where
        memory_is : (d : TargetError) → (Memory ≡ d → ⊥) → ◌≡◌ {A = Result Report TargetError} (Err Memory) (Err d) → ⊥
        memory_is d apart is = apart (err_same Memory d is)

        -- all are published, and memory ran out behind them
        pub applies_untold : NowOnly store → (store.tells → Stands → written commits (store.disk new).files) → Applies store target unfit passes written origin start partition commits full Stands old new (Err Memory)
        applies_untold only_now has_written = record {
          alone = alone;
          short = short;
          publishes = λ told stands. publishes_as (Unit {0}) (Memory ≡ Contested → ⊥) true false old new (λ v. tt) (λ is. absurd (false_true is)) (publishes told stands);
          none = still;
          columns = λ some. inl (columns some);
          writes = λ told stands. tt;
          reported = tt;
          stopped = λ told stands. inr (record {
            place = length commits;
            within = omega arith;
            left = record {
              middle = new;
              left = subst (λ (cs : List Commit). written cs (store.disk new).files) (sym (take-length commits)) (has_written told stands);
              stay = alone_by_reading store (target.reached (store.disk new).files) new new (reading_begins store only_now new told);
            };
            gained = λ u. (
              length commits,
              omega arith,
              omega arith,
              (publishes told stands).all refl,
              ((store.disk new).files, subst (λ (cs : List Commit). written cs (store.disk new).files) (sym (take-length commits)) (has_written told stands), λ path reached. refl),
            );
          });
          contested = λ told stands is. absurd (memory_is Contested (λ same. cc same) is);
          limited = λ told stands which number is. absurd (memory_is (Limit which number) (λ same. cc same) is);
          refused = λ told. tt;
          fault = fails_as store.faults store.may_fail old new _ _ (λ is. absurd (memory_is StoreFault (λ same. cc same) is)) cause;
          contest = contested_as store.contests store.may_contest old new _ _ (λ is. absurd (memory_is Contested (λ same. cc same) is)) (λ is. absurd (ok_err count Contested is)) contest;
        }

        pub applies_all : (store.tells → Stands → written commits (store.disk new).files) → (report : Report) → IsTold target origin start commits full (store.tells × Stands) (store.disk new).files report → Applies store target unfit passes written origin start partition commits full Stands old new (Ok report)
        applies_all has_written report told = record {
          alone = alone;
          short = short;
          publishes = publishes;
          none = still;
          columns = λ some. inl (columns some);
          writes = has_written;
          reported = told;
          stopped = λ told stands. tt;
          contested = λ told stands is. absurd (ok_err report Contested is);
          limited = λ told stands which number is. absurd (ok_err report (Limit which number) is);
          refused = λ told. tt;
          fault = fails_as store.faults store.may_fail old new _ _ (λ is. absurd (ok_err report StoreFault is)) cause;
          contest = contested_as store.contests store.may_contest old new _ _ (λ is. absurd (ok_err report Contested is)) (λ is. absurd (ok_err count Contested is)) contest;
        }

-- what is started from is gone on from
pub goes_on_start : (source : Kind) (partition : List (List ℕ)) (view : View) → IsStart source partition view → GoesOn source view
goes_on_start source partition view (inl is) = inl is.0
goes_on_start source partition view (inr is) = inr is.0

-- the partition columns of what fits are those of the target, where there is something to publish
pub columns_fit : (source : Kind) (partition : List (List ℕ)) (commits : List Commit) (view : View) → IsStart source partition view → (commits ≢ [] → 0 < view.commits → view.table.partition ≡ partition) → commits ≢ [] → view.table.partition ≡ partition
columns_fit source partition commits view (inl is) law some = is.1
columns_fit source partition commits view (inr is) law some = law some is.1

-- so it may be published
pub can_where : (image : ColumnTrees → Option ColumnTrees) (origin : Origin) (partition : List (List ℕ)) (commits : List Commit) (view : View) → (commits ≢ [] → view.table.partition ≡ partition) → (view.table.partition ≡ partition → CanPublishAll image origin view commits)
    → CanPublishAll image origin view commits
can_where image origin partition [] view columns can = tt
can_where image origin partition (commit ∷ commits) view columns can = can (columns (λ e. cc e))

-- and fits with the target's own
pub fits_where : (unfit : List (List ℕ) → List Commit → TargetError → Type 0) (partition : List (List ℕ)) (commits : List Commit) (view : View) → ((names : List (List ℕ)) → Fits unfit names []) → (commits ≢ [] → view.table.partition ≡ partition)
    → Fits unfit partition commits → Fits unfit view.table.partition commits
fits_where unfit partition [] view none columns fits = none view.table.partition
fits_where unfit partition (commit ∷ commits) view none columns fits = subst (λ (names : List (List ℕ)). Fits unfit names (commit ∷ commits)) (sym (columns (λ e. cc e))) fits

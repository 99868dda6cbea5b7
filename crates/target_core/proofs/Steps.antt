-- How a target goes from commit to commit.
use Rattle.std.proofs.Common.{◌≡◌, ◌⊎◌, inl, inr, ⊎_elim, refl, ℕ, zero, suc, ◌+◌, ◌<◌, ◌≤◌, List, [], ◌∷◌, ◌++◌, length, take, Option, Some, Bool, true, false, sym, ◌∙◌, ap, subst, arith, below_more}
use Rattle.std.proofs.lemmas.Bool.{cases_lt}
use Rattle.std.proofs.lemmas.List.{take_more, length-take-le}
use Rattle.std.proofs.lemmas.Option.{slice_get_within, get_or_from_slice_get}
use Rattle.std.specs.Prelude.{slice_get}
use Rattle.std.specs.FinMap as map
use Rattle.lake_store.specs.Disk.{Files, MayLeave}
use Rattle.lake_store.specs.Runs.{IsEachMoment, LeavesAlone}
use Rattle.lake_store.specs.declared.store.Store.{Ghosts}
use Rattle.lake_store.proofs.MomentLaws.{goes_further, started, weaker}
use Rattle.lake_store.proofs.RunLaws.{NowOnly, alone_by_reading, alone_further, alone_of_fewer, reading_begins}
use Rattle.table_history.specs.TypeTree.{ColumnTrees}
use Rattle.table_history.specs.declared.table.Change.{Change}
use Rattle.table_history.specs.declared.table.Commit.{Commit}
use Rattle.target_core.specs.Folders.{after_crash}
use Rattle.target_core.specs.Gained.{Carries, CarriesAll, CarriesAt, Gained, GainedSome, StillCarries}
use Rattle.target_core.specs.Meaning.{Meaning}
use Rattle.target_core.specs.Progress.{KeepsShown}
use Rattle.target_core.specs.Publishing.{LeavesSome, Publishes}
use Rattle.target_core.specs.Views.{IsAdvanced, IsAdvancedAll, Origin, Standing, View, standing_at}
use Rattle.target_core.specs.declared.target.TargetError.{TargetError}
use Rattle.target_core.specs.declared.target.TargetError.TheVariants.{Memory, StoreFault, Contested, Limit, Unsupported}
use Rattle.target_core.proofs.Same.{advanced_same, advanced_to, same_refl, same_sym}
use Rattle.target_core.proofs.Underway.{IsUnderWay, LeavesFew}

module _ (image : ColumnTrees → Option ColumnTrees) (origin : Origin) where
  pub commits_after : (start : View) (commits : List Commit) (last : View) → IsAdvancedAll image origin start commits last → last.commits ≡ start.commits + length commits
  commits_after start [] last is = omega (arith, is.commits)
  commits_after start (commit ∷ commits) last is = commits_after is.0 commits last is.2 ∙ omega (arith, is.1.commits)

  pub count_taken : (start : View) (commits : List Commit) (i : ℕ) (here : View) → IsAdvancedAll image origin start (take i commits) here → i ≤ length commits → here.commits ≡ start.commits + i
  count_taken start commits i here leads within = commits_after start (take i commits) here leads ∙ ap (λ (n : ℕ). start.commits + n) (length-take-le i commits within)

  advanced_more : (start : View) (commits : List Commit) (here : View) (commit : Commit) (next : View) → IsAdvancedAll image origin start commits here → IsAdvanced image origin here commit next → IsAdvancedAll image origin start (commits ++ commit ∷ []) next
  advanced_more start [] here commit next is step = (next, advanced_same image origin here start commit next (same_sym start here is) step, same_refl next)
  advanced_more start (first ∷ commits) here commit next is step = (is.0, is.1, advanced_more is.0 commits here commit next is.2 step)

  take_here : (commits : List Commit) (i : ℕ) (commit : Commit) → slice_get commits i ≡ Some commit → take (i + 1) commits ≡ take i commits ++ commit ∷ []
  take_here commits i commit at =
      let within : i < length commits = slice_get_within commits i commit at in
      take_more commits i commit within ∙ ap (λ (x : Commit). take i commits ++ x ∷ []) (get_or_from_slice_get commits i commit commit at)

  -- one commit more of a list
  pub advanced_take : (start : View) (commits : List Commit) (i : ℕ) (here : View) (commit : Commit) (next : View) → slice_get commits i ≡ Some commit → IsAdvancedAll image origin start (take i commits) here → IsAdvanced image origin here commit next
      → IsAdvancedAll image origin start (take (i + 1) commits) next
  advanced_take start commits i here commit next at is step =
      subst (λ (cs : List Commit). IsAdvancedAll image origin start cs next) (sym (take_here commits i commit at)) (advanced_more start (take i commits) here commit next is step)

module _ (target : Meaning) (origin : Origin) where
  pub gained_none : (start : View) (before : Files) (commits : List Commit) (files : Files) → target.reads files start → StillCarries target start.commits before files → Gained target origin start before commits 0 files
  gained_none start before commits files stands earlier = record { within = omega arith; view = start; leads = same_refl start; stands = stands; each = λ i commit lt at. absurd (omega arith); earlier = earlier }

  module _ (start : View) (before : Files) (commits : List Commit) (i : ℕ) (here : View) (mid : Files) (leads : IsAdvancedAll target.image origin start (take i commits) here)
      (within : i ≤ length commits) (each : Carries target origin start.commits commits i mid) (earlier : StillCarries target start.commits before mid)
      (commit : Commit) (at : slice_get commits i ≡ Some commit) where
    count_here : here.commits ≡ start.commits + i
    count_here = count_taken target.image origin start commits i here leads within

    within_here : i < length commits
    within_here = slice_get_within commits i commit at

    -- the first i are still there
    pub each_still : (files : Files) → StillCarries target here.commits mid files → Carries target origin start.commits commits i files
    each_still files still k c lt is = still (start.commits + k + 1) c.change (standing_at origin c.position) (omega (arith, count_here)) (each k c lt is)

    pub earlier_still : (files : Files) → StillCarries target here.commits mid files → StillCarries target start.commits before files
    earlier_still files still c change standing le was = still c change standing (omega (arith, count_here)) (earlier c change standing le was)

    -- and the new one carries its own
    new_one : (files : Files) → Gained target origin here mid (commit ∷ []) 1 files → (c : Commit) → slice_get commits i ≡ Some c → target.carries files (start.commits + i + 1) c.change (standing_at origin c.position)
    new_one files step c is =
        let one : commit ≡ c = cc (at, is) in
        let sum : here.commits + 0 + 1 ≡ start.commits + i + 1 = omega (arith, count_here) in
        subst (λ (n : ℕ). target.carries files n c.change (standing_at origin c.position)) sum (step.each 0 c (omega arith) (ap (λ (x : Commit). Some x) one))

    pub each_more : (files : Files) → Gained target origin here mid (commit ∷ []) 1 files → Carries target origin start.commits commits (i + 1) files
    each_more files step k c lt is =
        below_more (λ (k : ℕ). (c : Commit) → slice_get commits k ≡ Some c → target.carries files (start.commits + k + 1) c.change (standing_at origin c.position)) i
        (λ k lt c is. each_still files step.earlier k c lt is) (new_one files step) k lt c is

    -- a step of one commit goes on from what was gained
    pub gained_more : (n : ℕ) (files : Files) → Gained target origin here mid (commit ∷ []) n files → Gained target origin start before commits (i + n) files
    gained_more zero files step =
        let same : i ≡ i + 0 = omega arith in
        subst (λ (k : ℕ). Gained target origin start before commits k files) same
        (record {
          within = within;
          view = step.view;
          leads = advanced_to target.image origin start (take i commits) here step.view step.leads leads;
          stands = step.stands;
          each = each_still files step.earlier;
          earlier = earlier_still files step.earlier;
        })
    gained_more (suc zero) files step = record {
      within = omega (arith, within_here);
      view = step.view;
      leads = advanced_to target.image origin start (take (i + 1) commits) step.leads.0 step.view step.leads.2 (advanced_take target.image origin start commits i here commit step.leads.0 at leads step.leads.1);
      stands = step.stands;
      each = each_more files step;
      earlier = earlier_still files step.earlier;
    }
    gained_more (suc (suc n)) files step = absurd (omega (arith, step.within))

    pub gained_some : (files : Files) → GainedSome target origin here mid (commit ∷ []) files → GainedSome target origin start before commits files
    gained_some files step = record { count = i + step.count; gained = gained_more step.count files step.gained }

-- a commit that files carry is one of their view
abbrev pub IsWithin : Meaning → Type 0
IsWithin target = (files : Files) (view : View) (c : ℕ) (change : Change) (standing : Standing) → target.reads files view → target.carries files c change standing → c ≤ view.commits

-- whether another writer was in the way
contested_or : (e : TargetError) → (e ≡ Contested) ⊎ (e ≡ Contested → ⊥)
contested_or Memory = inr (λ is. cc)
contested_or StoreFault = inr (λ is. cc)
contested_or Contested = inl refl
contested_or (Limit which number) = inr (λ is. cc)
contested_or (Unsupported feature path) = inr (λ is. cc)

some_moments : {S : Type 0} (store : Ghosts S) (target : Meaning) (origin : Origin) (start : View) (commits : List Commit) (n : ℕ) (old new : S) → store.tells
    → IsEachMoment store old new (LeavesFew target origin start (store.disk old).files commits n) → IsEachMoment store old new (LeavesSome target origin start (store.disk old).files commits)
some_moments store target origin start commits n old new told few =
    weaker store old new (LeavesFew target origin start (store.disk old).files commits n) (LeavesSome target origin start (store.disk old).files commits) (λ files was. (was.0, was.2)) (λ t. few) told

-- a crash that leaves at most n of them shows none but the first n
shown_few : (target : Meaning) (origin : Origin) (start : View) (before : Files) (commits : List Commit) (n : ℕ) → IsWithin target → (image : Files) → LeavesFew target origin start before commits n image
    → (k : ℕ) → CarriesAt target origin start.commits commits k image → k < n
shown_few target origin start before commits n within image left k shown =
    let gained = left.0.gained in
    let few = left.1 in
    let count = count_taken target.image origin start commits left.0.count gained.view gained.leads gained.within in
    let number = within image gained.view (start.commits + k + 1) shown.0.change (standing_at origin shown.0.position) gained.stands shown.2 in
    omega (arith, few, count, number)

-- runs of a store
module _ {S : Type 0} (store : Ghosts S) (target : Meaning) (origin : Origin) (start : View) (commits : List Commit) where
  -- before the first commit
  pub under_way_none : NowOnly store → (s : S) → store.tells → target.settled (store.disk s)
      → ((files : Files) → MayLeave (store.disk s) files → target.reads files start × StillCarries target start.commits (store.disk s).files files × target.settled (after_crash files))
      → IsUnderWay store target origin start commits 0 start s s
  under_way_none only_now s told settled crash = record {
    within = omega arith;
    leads = same_refl start;
    each = λ i commit lt at. absurd (omega arith);
    earlier = λ c change standing le was. was;
    moments = started store only_now s (LeavesFew target origin start (store.disk s).files commits 0)
        (λ t files may.
        let left = crash files may in
        (record { count = 0; gained = gained_none target origin start (store.disk s).files commits files left.0 left.1 }, omega arith, left.2)) told;
    settled = settled;
    bytes = alone_by_reading store (target.reached (store.disk s).files) s s (reading_begins store only_now s told);
  }

  module _ (i : ℕ) (here : View) (old mid new : S) (so_far : IsUnderWay store target origin start commits i here old mid) (commit : Commit) (at : slice_get commits i ≡ Some commit)
      (U : Type 0) (done : Bool) (step : Publishes store target origin here (commit ∷ []) U done mid new) (told : store.tells)
      (stays : (a b : Files) → ((path : List ℕ) → target.reached a path → map.get b path ≡ map.get a path) → (path : List ℕ) → target.reached a path → target.reached b path) where
    files_old : Files
    files_old = (store.disk old).files

    few_on : U → IsEachMoment store old new (LeavesFew target origin start (store.disk old).files commits (i + 1))
    few_on u = goes_further store old mid new (LeavesFew target origin start (store.disk old).files commits (i + 1))
        (weaker store old mid (LeavesFew target origin start (store.disk old).files commits i) (LeavesFew target origin start (store.disk old).files commits (i + 1))
        (λ files was. let few = was.1 in (was.0, omega (arith, few), was.2)) (λ t. so_far.moments))
        (weaker store mid new (LeavesSome target origin here (store.disk mid).files (commit ∷ [])) (LeavesFew target origin start (store.disk old).files commits (i + 1))
        (λ files was.
        let few : was.0.count ≤ 1 = was.0.gained.within in (
          record {
            count = i + was.0.count;
            gained = gained_more target origin start (store.disk old).files commits i here (store.disk mid).files so_far.leads so_far.within so_far.each so_far.earlier commit at was.0.count files was.0.gained;
          },
          omega (arith, few),
          was.1,
        ))
        (λ t. step.moments u)) told

    moments_on : U → IsEachMoment store old new (LeavesSome target origin start (store.disk old).files commits)
    moments_on u = some_moments store target origin start commits (i + 1) old new told (few_on u)

    bytes_on : LeavesAlone store (target.reached (store.disk old).files) old new
    bytes_on = alone_further store (target.reached (store.disk old).files) old mid new (λ t. so_far.bytes)
        (λ t. alone_of_fewer store (target.reached (store.disk mid).files) (target.reached (store.disk old).files) mid new
        (λ path was. stays (store.disk old).files (store.disk mid).files (λ p r. so_far.bytes.disk.files p r) path was) step.bytes) told

    -- one commit more
    pub under_way_more : U → done ≡ true → (next : View) → IsAdvanced target.image origin here commit next → IsUnderWay store target origin start commits (i + 1) next old new
    under_way_more u is_done next advanced = record {
      within = let lt : i < length commits = slice_get_within commits i commit at in omega (arith, lt);
      leads = advanced_take target.image origin start commits i here commit next at so_far.leads advanced;
      each = each_more target origin start (store.disk old).files commits i here (store.disk mid).files so_far.leads so_far.within so_far.each so_far.earlier commit at (store.disk new).files (step.all is_done);
      earlier = earlier_still target origin start (store.disk old).files commits i here (store.disk mid).files so_far.leads so_far.within so_far.each so_far.earlier commit at (store.disk new).files step.earlier;
      moments = few_on u;
      settled = step.settled u;
      bytes = bytes_on;
    }

    -- or a refusal
    pub refused_on : (V : Type 0) → (V → U) → Publishes store target origin start commits V false old new
    refused_on V is = record {
      all = λ never. cc;
      at_return = λ v. gained_some target origin start (store.disk old).files commits i here (store.disk mid).files so_far.leads so_far.within so_far.each so_far.earlier commit at (store.disk new).files (step.at_return (is v));
      moments = λ v. moments_on (is v);
      settled = λ v. step.settled (is v);
      earlier = earlier_still target origin start (store.disk old).files commits i here (store.disk mid).files so_far.leads so_far.within so_far.each so_far.earlier commit at (store.disk new).files step.earlier;
      bytes = bytes_on;
    }

    -- behind which the commits before it are published
    pub before_on : Carries target origin start.commits commits i (store.disk new).files
    before_on = each_still target origin start (store.disk old).files commits i here (store.disk mid).files so_far.leads so_far.within so_far.each so_far.earlier commit at (store.disk new).files step.earlier

    module _ (within : IsWithin target) where
      kept_behind : (e : TargetError) → (e ≡ Contested → ⊥) → (image : Files) → LeavesFew target origin start (store.disk old).files commits (i + 1) image → KeepsShown target origin start commits (store.disk new).files e image
      kept_behind e free image left = record {
        before = λ _ k shown.
            let most = shown_few target origin start (store.disk old).files commits (i + 1) within image left k shown in
            λ j c lt is. before_on j c (omega (arith, most, lt)) is;
        contested = λ is. absurd (free is);
      }

      kept_first : (e : TargetError) → e ≡ Contested → (image : Files) → LeavesFew target origin start (store.disk old).files commits i image → KeepsShown target origin start commits (store.disk new).files e image
      kept_first e was image left = record {
        before = λ free. absurd (free was);
        contested = λ _ k shown. (shown.0, shown.1, before_on k shown.0 (shown_few target origin start (store.disk old).files commits i within image left k shown) shown.1);
      }

      kept_all : (e : TargetError) → e ≡ Contested → (image : Files) → CarriesAll target image (store.disk new).files → KeepsShown target origin start commits (store.disk new).files e image
      kept_all e was image all = record {
        before = λ free. absurd (free was);
        contested = λ _ k shown. (shown.0, shown.1, all (start.commits + k + 1) shown.0.change (standing_at origin shown.0.position) shown.2);
      }

      -- and what a crash would have shown stays
      pub kept_on : (e : TargetError) → ((e ≡ Contested → ⊥) → U) → (e ≡ Contested → IsEachMoment store mid new (λ image. CarriesAll target image (store.disk new).files))
          → IsEachMoment store old new (KeepsShown target origin start commits (store.disk new).files e)
      kept_on e free stays = ⊎_elim
          (λ was. goes_further store old mid new (KeepsShown target origin start commits (store.disk new).files e)
          (weaker store old mid (LeavesFew target origin start (store.disk old).files commits i) (KeepsShown target origin start commits (store.disk new).files e) (kept_first e was) (λ t. so_far.moments))
          (weaker store mid new (λ image. CarriesAll target image (store.disk new).files) (KeepsShown target origin start commits (store.disk new).files e) (kept_all e was) (λ t. stays was)) told)
          (λ never. weaker store old new (LeavesFew target origin start (store.disk old).files commits (i + 1)) (KeepsShown target origin start commits (store.disk new).files e) (kept_behind e never) (λ t. few_on (free never)) told)
          (contested_or e)

    -- these alone are published, or one more, unless another writer was in the way
    pub gained_on : ((files : Files) (v : View) → target.reads files v → target.commits_in files ≡ v.commits) → U
        → Gained target origin start (store.disk old).files commits i (store.disk new).files ⊎ (Gained target origin start (store.disk old).files commits (i + 1) (store.disk new).files × (here.commits < target.commits_in (store.disk new).files))
    gained_on counts u =
        let some = step.at_return u in
        let few : some.count ≤ 1 = some.gained.within in
        let more = gained_more target origin start (store.disk old).files commits i here (store.disk mid).files so_far.leads so_far.within so_far.each so_far.earlier commit at some.count (store.disk new).files some.gained in
        ⊎_elim
        (λ one.
        let next : i + some.count ≡ i + 1 = omega (arith, one, few) in
        let held : target.commits_in (store.disk new).files ≡ some.gained.view.commits = counts (store.disk new).files some.gained.view some.gained.stands in
        let count = count_taken target.image origin here (commit ∷ []) some.count some.gained.view some.gained.leads some.gained.within in
        inr (subst (λ (k : ℕ). Gained target origin start (store.disk old).files commits k (store.disk new).files) next more, omega (arith, held, count, one)))
        (λ none.
        let same : i + some.count ≡ i = omega (arith, none) in
        inl (subst (λ (k : ℕ). Gained target origin start (store.disk old).files commits k (store.disk new).files) same more))
        (cases_lt 0 some.count)

    -- and these alone, where it reads as before
    pub stopped_on : target.reads (store.disk new).files here → Gained target origin start (store.disk old).files commits i (store.disk new).files
    stopped_on reads = record {
      within = so_far.within;
      view = here;
      leads = so_far.leads;
      stands = reads;
      each = before_on;
      earlier = earlier_still target origin start (store.disk old).files commits i here (store.disk mid).files so_far.leads so_far.within so_far.each so_far.earlier commit at (store.disk new).files step.earlier;
    }

  -- all of them
  pub all_on : store.tells → (n : ℕ) (here : View) (old new : S) → n ≡ length commits → IsUnderWay store target origin start commits n here old new → target.reads (store.disk new).files here → (V : Type 0) → Publishes store target origin start commits V true old new
  all_on told n here old new is so_far stands V =
      let gained : Gained target origin start (store.disk old).files commits n (store.disk new).files
      = record { within = so_far.within; view = here; leads = so_far.leads; stands = stands; each = so_far.each; earlier = so_far.earlier } in
      record {
        all = λ is_true. subst (λ (k : ℕ). Gained target origin start (store.disk old).files commits k (store.disk new).files) is gained;
        at_return = λ v. record { count = n; gained = gained };
        moments = λ v. some_moments store target origin start commits n old new told so_far.moments;
        settled = λ v. so_far.settled;
        earlier = so_far.earlier;
        bytes = so_far.bytes;
      }

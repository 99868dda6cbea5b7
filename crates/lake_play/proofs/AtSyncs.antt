-- What stays true of a play's store, up to each of its syncs.
use Rattle.std.proofs.Common.{◌≡◌, ◌≢◌, ℕ, zero, suc, ◌+◌, ◌^◌, ◌≤◌, ◌<◌, Bool, true, List, [], ◌∷◌, ◌++◌, length, Option, Some, None, refl, sym, ap, subst, ◌∙◌, arith}
use Rattle.std.specs.List.{AllByRecursion}
use Rattle.std.specs.Prelude.{slice_get}
use Rattle.std.proofs.lemmas.List.{append-nil, append_assoc, length-append}
use Rattle.std.proofs.lemmas.Option.{none-some, same_Some}
use Rattle.conformance.specs.Histories.{AreInOrder, IsHistoryFrom, extensions}
use Rattle.conformance.specs.declared.event.Event.{Event}
use Rattle.conformance.specs.declared.event.Event.TheVariants as event
use Rattle.conformance.proofs.Legal.{last_more, last_table}
use Rattle.lake_store.specs.Fuse.{with_stop}
use Rattle.lake_store.specs.declared.fuse.FuseStore.{FuseStore}
use Rattle.table_history.specs.History.{History}
use Rattle.table_history.specs.declared.kind.Kind.{Kind}
use Rattle.table_history.specs.declared.kind.Kind.TheVariants.{Delta, Hudi, Iceberg}
use Rattle.table_history.specs.declared.table.Table.{Table}
use Rattle.target_sync.specs.declared.plan.Mode.TheVariants as modes
use Rattle.target_sync.specs.declared.status.Status.{Status}
use Rattle.lake_play.specs.Playing.{Crashes, Extends, IsSynced, PlaysAll, with_answer}
use Rattle.lake_play.specs.Standing.{floor_behind}
use Rattle.lake_play.specs.declared.playing.Progress.{Progress}
use Rattle.lake_play.proofs.Plays.{Keeps, crash_keeps, extend_keeps, nothing_keeps, sync_keeps}

-- Nothing but commits, syncs behind a first commit, stops and crashes.
abbrev pub IsPlain : Bool → List Event → Type 0
IsPlain some [] = Unit {0}
IsPlain some (event.Extend bytes ∷ events) = IsPlain true events
IsPlain some (event.Shorten below ∷ events) = ⊥
IsPlain some (event.Sync target ∷ events) = (some ≡ true) × IsPlain some events
IsPlain some (event.Full target ∷ events) = ⊥
IsPlain some (event.Stop call ∷ events) = IsPlain some events
IsPlain some (event.Crash choices ∷ events) = IsPlain some events

-- What is said of the number of syncs so far, of the commits so far and of the store stays true, whatever is played and where each sync ends so.
pub record Stays (history : History) (now : ℕ) (Ends : Status → Type 0) (P : ℕ → List (List ℕ) → FuseStore → Type 0) : Type 0 where
  pub extended : (syncs : ℕ) (commits : List (List ℕ)) (front behind : History) (hudi iceberg : ℕ) (old new : FuseStore) (bytes : List ℕ) → Keeps history commits front behind 0 hudi iceberg old → Extends (length commits) bytes old new
      → P syncs commits old → P syncs (commits ++ bytes ∷ []) new
  pub synced : (syncs : ℕ) (commits : List (List ℕ)) (front behind : History) (hudi iceberg : ℕ) (old new : FuseStore) (target : Kind) (given : Status) → Keeps history commits front behind 0 hudi iceberg old → length commits ≤ 2 ^ 64 → 0 < length commits
      → IsSynced target modes.Sync now old new given → Ends given → P syncs commits old → P (syncs + 1) commits new
  pub stopped : (syncs : ℕ) (commits : List (List ℕ)) (old : FuseStore) (call : Option ℕ) → P syncs commits old → P syncs commits (with_stop old call)
  pub crashed : (syncs : ℕ) (commits : List (List ℕ)) (front behind : History) (hudi iceberg : ℕ) (old new : FuseStore) (choices : List ℕ) → Keeps history commits front behind 0 hudi iceberg old → Crashes choices old new → P syncs commits old → P syncs commits new

-- ---- what events spend

-- so much for each event
abbrev pub spending : (Event → ℕ) → List Event → ℕ
spending weight [] = 0
spending weight (event ∷ events) = weight event + spending weight events

-- The same, of how much the events have spent so far in place of the number of syncs.
pub record StaysBy (history : History) (now : ℕ) (Ends : Status → Type 0) (weight : Event → ℕ) (P : ℕ → List (List ℕ) → FuseStore → Type 0) : Type 0 where
  pub extended : (spent : ℕ) (commits : List (List ℕ)) (front behind : History) (hudi iceberg : ℕ) (old new : FuseStore) (bytes : List ℕ) → Keeps history commits front behind 0 hudi iceberg old → Extends (length commits) bytes old new
      → P spent commits old → P (spent + weight (event.Extend bytes)) (commits ++ bytes ∷ []) new
  pub synced : (spent : ℕ) (commits : List (List ℕ)) (front behind : History) (hudi iceberg : ℕ) (old new : FuseStore) (target : Kind) (given : Status) → Keeps history commits front behind 0 hudi iceberg old → length commits ≤ 2 ^ 64 → 0 < length commits
      → IsSynced target modes.Sync now old new given → Ends given → P spent commits old → P (spent + weight (event.Sync target)) commits new
  pub stopped : (spent : ℕ) (commits : List (List ℕ)) (old : FuseStore) (call : ℕ) → P spent commits old → P (spent + weight (event.Stop call)) commits (with_stop old (Some call))
  pub crashed : (spent : ℕ) (commits : List (List ℕ)) (front behind : History) (hudi iceberg : ℕ) (old new : FuseStore) (choices : List ℕ) → Keeps history commits front behind 0 hudi iceberg old → Crashes choices old new → P spent commits old
      → P (spent + weight (event.Crash choices)) commits new

-- two such things
pub both_stay : (history : History) (now : ℕ) (Ends : Status → Type 0) (P Q : ℕ → List (List ℕ) → FuseStore → Type 0) → Stays history now Ends P → Stays history now Ends Q → Stays history now Ends (λ syncs commits store. P syncs commits store × Q syncs commits store)
both_stay history now Ends P Q p q = record {
  extended = λ syncs commits front behind hudi iceberg old new bytes keeps is was. (p.extended syncs commits front behind hudi iceberg old new bytes keeps is was.0, q.extended syncs commits front behind hudi iceberg old new bytes keeps is was.1);
  synced = λ syncs commits front behind hudi iceberg old new target given keeps small some is ends was.
      (p.synced syncs commits front behind hudi iceberg old new target given keeps small some is ends was.0, q.synced syncs commits front behind hudi iceberg old new target given keeps small some is ends was.1);
  stopped = λ syncs commits old call was. (p.stopped syncs commits old call was.0, q.stopped syncs commits old call was.1);
  crashed = λ syncs commits front behind hudi iceberg old new choices keeps is was. (p.crashed syncs commits front behind hudi iceberg old new choices keeps is was.0, q.crashed syncs commits front behind hudi iceberg old new choices keeps is was.1);
}

-- A sync behind a first commit, before which no more than so much was spent, was answered so, over a store of which that is true. No version was removed before it.
pub record IsSyncAt (history : History) (now : ℕ) (P : ℕ → List (List ℕ) → FuseStore → Type 0) (all : List (List ℕ)) (most : ℕ) (given : Status) : Type 0 where
  pub target : Kind
  pub other : target ≢ Delta
  pub spent : ℕ
  pub few : spent ≤ most
  pub commits : List (List ℕ)
  pub behind : List (List ℕ)
  pub first : commits ++ behind ≡ all
  pub some : 0 < length commits
  pub front : History
  pub rest : History
  pub hudi : ℕ
  pub iceberg : ℕ
  pub old : FuseStore
  pub new : FuseStore
  pub keeps : Keeps history commits front rest 0 hudi iceberg old
  pub holds : P spent commits old
  pub synced : IsSynced target modes.Sync now old new given

-- the answers before this place ended so
abbrev pub EndBefore : (Status → Type 0) → List Status → ℕ → Type 0
EndBefore Ends answers place = (i : ℕ) (given : Status) → i < place → slice_get answers i ≡ Some given → Ends given

module _ (history : History) (total now : ℕ) (small : total ≤ 2 ^ 64) (Ends : Status → Type 0) (weight : Event → ℕ) (P : ℕ → List (List ℕ) → FuseStore → Type 0) (stays : StaysBy history now Ends weight P) (all : List (List ℕ)) (most : ℕ) where
  -- These were the other answers. Where that is true of the store, so it is of the store of each sync up to the first that ends otherwise.
  -- So it is of the store at the end, where all end so.
  pub record Found (spent : ℕ) (commits : List (List ℕ)) (old new : FuseStore) (before after : Progress) : Type 0 where
    pub answers : List Status
    pub told : after.answers ≡ before.answers ++ answers
    pub end : P spent commits old → AllByRecursion Ends answers → (end : ℕ) × (there : List (List ℕ)) × (end ≤ most) × P end there new
    pub at : P spent commits old → (place : ℕ) (given : Status) → slice_get answers place ≡ Some given → EndBefore Ends answers place → IsSyncAt history now P all most given

  pub syncs_on : (events : List Event) (some : Bool) (spent : ℕ) (commits : List (List ℕ)) (front behind : History) (hudi iceberg : ℕ) (before : Progress) (old : FuseStore) (after : Progress) (new : FuseStore)
      → IsPlain some events → (some ≡ true → 0 < length commits) → spent + spending weight events ≤ most → Keeps history commits front behind 0 hudi iceberg old
      → before.first ≡ 0 → before.next ≡ length commits → total ≡ length commits + length (extensions events) → commits ++ extensions events ≡ all
      → PlaysAll now events before old after new → AreInOrder (length commits) events → IsHistoryFrom (length commits) (last_table None front) (extensions events) behind
      → Found spent commits old new before after
  syncs_on [] some spent commits front behind hudi iceberg before old after new plain behind_some few keeps first next sum whole plays order made =
      record { answers = []; told = sym (ap (λ (p : Progress). p.answers) plays.0) ∙ sym (append-nil before.answers); end = λ holds ended. (spent, commits, omega (arith, few), subst (P spent commits) plays.1 holds); at = λ holds place given is ended. absurd (none-some given is) }
  syncs_on (event.Extend bytes ∷ events) some spent commits front [] hudi iceberg before old after new plain behind_some few keeps first next sum whole plays order made = absurd made
  syncs_on (event.Extend bytes ∷ events) some spent commits front (entry ∷ more) hudi iceberg before old after new plain behind_some few keeps first next sum whole plays order made =
      let between = plays.1 in
      let mid : Progress = record before { next = before.next + 1 } in
      let grown : length (commits ++ bytes ∷ []) ≡ length commits + 1 = length-append commits (bytes ∷ []) in
      let is : Extends (length commits) bytes old between = subst (λ (n : ℕ). Extends n bytes old between) next plays.2.0 in
      let ends = syncs_on events true (spent + weight (event.Extend bytes)) (commits ++ bytes ∷ []) (front ++ entry ∷ []) more hudi iceberg mid between after new plain (λ _. omega (arith, grown)) (omega (arith, few))
      (extend_keeps history commits front (entry ∷ more) 0 hudi iceberg old between keeps bytes entry more is refl made.1 made.0) first (omega (arith, next, grown)) (omega (arith, sum, grown))
      (append_assoc commits (bytes ∷ []) (extensions events) ∙ whole) (subst (λ (m : Progress). PlaysAll now events m between after new) plays.2.1 plays.3)
      (subst (λ (n : ℕ). AreInOrder n events) (sym grown) order)
      (subst (λ (o : Option Table). IsHistoryFrom (length (commits ++ bytes ∷ [])) o (extensions events) more) (sym (last_more None front entry))
      (subst (λ (n : ℕ). IsHistoryFrom n (Some entry.1) (extensions events) more) (sym grown) made.2)) in
      let next_holds : P spent commits old → P (spent + weight (event.Extend bytes)) (commits ++ bytes ∷ []) between = stays.extended spent commits front (entry ∷ more) hudi iceberg old between bytes keeps is in
      record { answers = ends.answers; told = ends.told; end = λ holds. ends.end (next_holds holds); at = λ holds. ends.at (next_holds holds) }
  syncs_on (event.Shorten below ∷ events) some spent commits front behind hudi iceberg before old after new plain behind_some few keeps first next sum whole plays order made = absurd plain
  syncs_on (event.Sync target ∷ events) some spent commits front behind hudi iceberg before old after new plain behind_some few keeps first next sum whole plays order made =
      let between = plays.1 in
      let given = plays.2.0 in
      let fit : length commits ≤ 2 ^ 64 = omega (arith, sum, small) in
      let there = behind_some plain.0 in
      let ends = syncs_on events some (spent + weight (event.Sync target)) commits front behind (floor_behind Hudi target (length commits) hudi given) (floor_behind Iceberg target (length commits) iceberg given) (with_answer before given) between after new plain.1 behind_some (omega (arith, few))
      (sync_keeps history commits front behind 0 hudi iceberg old between keeps fit modes.Sync now given target plays.2.1) first next sum whole
      (subst (λ (m : Progress). PlaysAll now events m between after new) plays.2.2 plays.3) order.1 made in
      record {
        answers = given ∷ ends.answers;
        told = ends.told ∙ append_assoc before.answers (given ∷ []) ends.answers;
        end = λ holds ended. ends.end (stays.synced spent commits front behind hudi iceberg old between target given keeps fit there plays.2.1 ended.0 holds) ended.1;
        at = by given between order.0 fit there plays.2.1 ends;
      }
    where
      by : (answer : Status) (between : FuseStore) → target ≢ Delta → length commits ≤ 2 ^ 64 → 0 < length commits → IsSynced target modes.Sync now old between answer → (ends : Found (spent + weight (event.Sync target)) commits between new (with_answer before answer) after)
          → P spent commits old → (place : ℕ) (given : Status) → slice_get (answer ∷ ends.answers) place ≡ Some given → EndBefore Ends (answer ∷ ends.answers) place → IsSyncAt history now P all most given
      by answer between other fit there synced ends holds zero given is ended =
          let same : answer ≡ given = same_Some answer given is in
          record {
            target = target;
            other = other;
            spent = spent;
            few = omega (arith, few);
            commits = commits;
            behind = extensions events;
            first = whole;
            some = there;
            front = front;
            rest = behind;
            hudi = hudi;
            iceberg = iceberg;
            old = old;
            new = between;
            keeps = keeps;
            holds = holds;
            synced = subst (IsSynced target modes.Sync now old between) same synced;
          }
      by answer between other fit there synced ends holds (suc place) given is ended =
          ends.at (stays.synced spent commits front behind hudi iceberg old between target answer keeps fit there synced (ended 0 answer (omega arith) refl) holds) place given is (λ i one less at. ended (suc i) one (omega (arith, less)) at)
  syncs_on (event.Full target ∷ events) some spent commits front behind hudi iceberg before old after new plain behind_some few keeps first next sum whole plays order made = absurd plain
  syncs_on (event.Stop call ∷ events) some spent commits front behind hudi iceberg before old after new plain behind_some few keeps first next sum whole plays order made =
      let between = plays.1 in
      let ends = syncs_on events some (spent + weight (event.Stop call)) commits front behind hudi iceberg before between after new plain behind_some (omega (arith, few))
      (nothing_keeps history commits front behind 0 hudi iceberg old between keeps (Some call) plays.2.0) first next sum whole (subst (λ (m : Progress). PlaysAll now events m between after new) plays.2.1 plays.3) order made in
      let next_holds : P spent commits old → P (spent + weight (event.Stop call)) commits between = λ holds. subst (P (spent + weight (event.Stop call)) commits) (sym plays.2.0) (stays.stopped spent commits old call holds) in
      record { answers = ends.answers; told = ends.told; end = λ holds. ends.end (next_holds holds); at = λ holds. ends.at (next_holds holds) }
  syncs_on (event.Crash choices ∷ events) some spent commits front behind hudi iceberg before old after new plain behind_some few keeps first next sum whole plays order made =
      let between = plays.1 in
      let ends = syncs_on events some (spent + weight (event.Crash choices)) commits front behind hudi iceberg before between after new plain behind_some (omega (arith, few))
      (crash_keeps history commits front behind 0 hudi iceberg old between keeps choices plays.2.0) first next sum whole (subst (λ (m : Progress). PlaysAll now events m between after new) plays.2.1 plays.3) order made in
      let next_holds : P spent commits old → P (spent + weight (event.Crash choices)) commits between = stays.crashed spent commits front behind hudi iceberg old between choices keeps plays.2.0 in
      record { answers = ends.answers; told = ends.told; end = λ holds. ends.end (next_holds holds); at = λ holds. ends.at (next_holds holds) }

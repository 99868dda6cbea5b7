-- A timeline has one head, the commits since a position end there, and what is said of them depends on the timeline's folder alone.
use Rattle.std.proofs.Common.{◌≡◌, ◌↔◌, ◌⊎◌, inl, inr, ⊎_elim, ℕ, Bool, true, false, cond, List, [], ◌∷◌, Contains, Option, Some, None, codes, refl, sym, ap, subst, ◌∙◌}
use Rattle.std.specs.Prelude.{Ok, filter}
use Rattle.std.specs.List.{AllByRecursion}
use Rattle.std.specs.Cmp.Lexicographic.{bytes_decides, slice_cmp, texts_ties}
use Rattle.std.specs.Ordering.{is_eq, is_lt, nat_cmp, ordering_reverse}
use Rattle.std.specs.declared.cmp.Ordering.{Ordering}
use Rattle.std.specs.declared.cmp.Ordering.TheVariants.{Less, Equal, Greater}
use Rattle.std.proofs.lemmas.Bool.{cases_Bool}
use Rattle.std.proofs.lemmas.Cmp.{nat_list_cmp_total}
use Rattle.lake_store.specs.Disk.{Files}
use Rattle.table_history.specs.declared.table.Commit.{Commit}
use Rattle.table_history.specs.declared.table.Table.{Table}
use Rattle.table_history.proofs.RowListLemmas.{Contains-cases, Contains-filter, Contains-head, Contains-none, Contains-tail, all_at, filter_contains}
use Rattle.hudi_names.specs.declared.name.Action.{Action}
use Rattle.hudi_properties.specs.Pairs.{properties_of}
use Rattle.hudi_properties.specs.TableProperties.{property}
use Rattle.hudi_properties.specs.declared.table.HudiTable.{HudiTable}
use Rattle.hudi_table.specs.Files.{SaysProperties}
use Rattle.hudi_table.specs.Folder.{AreInOrder, IsCompletedAt, IsHead, IsReached, IsUpTo}
use Rattle.hudi_table.specs.Instants.{HasTime, timeline_folder}
use Rattle.hudi_table.specs.declared.instants.CompletedInstant.{CompletedInstant}
use Rattle.hudi_table.specs.declared.properties.Properties.{Properties}
use Rattle.hudi_table.proofs.FolderLaws.{order_up_to_head, reached_times}
use Rattle.hudi_table.proofs.TimeOrder.{earlier_still}
use Rattle.source_core.specs.Since.{EndAt}
use Rattle.source_core.specs.declared.error.SourceError.{SourceError}
use Rattle.source_core.specs.declared.head.Head.{Head}
use Rattle.source_core.proofs.Heads.{same_parts}
use Rattle.target_core.specs.Folders.{SameIn}
use Rattle.source_hudi.specs.Heads.{IsHudiHead, IsPending, IsTableName}
use Rattle.source_hudi.specs.Instants.{reached_in}
use Rattle.source_hudi.specs.OwnLemmas.{file_too, head_too, no_properties_own, properties_too, reached_same, reaches_own, says_too, unread_back, unread_own, unreadable_too}
use Rattle.source_hudi.specs.Since.{AreAllReadAfter, AreCommits, AreCommitsOf, AreCommitsUpTo, AreTaken, HasBadInstant, HasRefusedAfter, HaveActions, IsFirstUnreadAfter, IsSince, ShowsAfter, ShowsAtInstant, ShowsInLater, ShowsOver, ShowsReached, ShowsSince, is_later, later_in}

-- A position is reached exactly where a commit or replacecommit is completed at that time and the time isn't behind the head.
pub reached_exactly : (files : Files) (head position : List ℕ) → IsHead files head → IsReached files position ↔ (IsCompletedAt files position × IsUpTo position head)
reached_exactly files head position is = (λ at. (at.0, is.1 position at), λ h. (h.0, λ pending at. earlier_still position head pending h.1 (is.0.1 pending at)))

-- ---- one head

-- each is up to the other
pub same_time : (a b : List ℕ) → IsUpTo a b → IsUpTo b a → a ≡ b
same_time a b up down = by (slice_cmp nat_cmp a b) refl
  where
    by : (o : Ordering) → slice_cmp nat_cmp a b ≡ o → a ≡ b
    by Less e = absurd (down (nat_list_cmp_total.antisymm b a ∙ ap ordering_reverse e))
    by Equal e = (bytes_decides a b).0 (texts_ties a b ∙ ap is_eq e)
    by Greater e = absurd (up e)

one_position : (files : Files) (a b : List ℕ) → IsHead files a → IsHead files b → a ≡ b
one_position files a b h k = same_time a b (k.1 a h.0) (h.1 b k.0)

one_pending : (files : Files) (a b : Option (List ℕ)) → IsPending files a → IsPending files b → a ≡ b
one_pending files None None h k = refl
one_pending files None (Some t) h k = absurd (h t k.0)
one_pending files (Some s) None h k = absurd (k s h.0)
one_pending files (Some s) (Some t) h k = ap (λ (l : List ℕ). Some l) (same_time s t (h.1 t k.0) (k.1 s h.0))

one_pairs : (files : Files) (p q : Properties) → SaysProperties files p → SaysProperties files q → p.pairs ≡ q.pairs
one_pairs files p q h k =
    let there : Some h.bytes ≡ Some k.bytes = sym h.holds ∙ k.holds in
    let bytes : h.bytes ≡ k.bytes = cc in
    let read : Ok p.pairs ≡ Ok q.pairs = sym h.read.0 ∙ ap properties_of bytes ∙ k.read.0 in
    cc

one_name : (files : Files) (a b : Option (List ℕ)) → IsTableName files a → IsTableName files b → a ≡ b
one_name files a b h k = h.2 ∙ ap (property (codes "hoodie.table.name")) (one_pairs files h.0 k.0 h.1 k.1) ∙ sym k.2

pub one_head : (files : Files) (a b : Head) → IsHudiHead files a → IsHudiHead files b → a ≡ b
one_head files a b h k =
    let position = one_position files a.position b.position h.position k.position in
    let pending = one_pending files a.pending b.pending h.pending k.pending in
    let name = one_name files a.table b.table h.table k.table in
    same_parts a b position pending name

-- ---- the later instants

all_kept : {X : Type 0} (p : X → Bool) (P : X → Type 0) (xs : List X) → AllByRecursion P xs → AllByRecursion P (filter p xs)
all_kept p P [] all = tt
all_kept p P (x ∷ xs) all =
    ⊎_elim
    (λ (passes : p x ≡ true). subst (λ b. AllByRecursion P (cond b (x ∷ filter p xs) (filter p xs))) (sym passes) (all.0, all_kept p P xs all.1))
    (λ (fails : p x ≡ false). subst (λ b. AllByRecursion P (cond b (x ∷ filter p xs) (filter p xs))) (sym fails) (all_kept p P xs all.1))
    (cases_Bool (p x))

order_kept : (p : CompletedInstant → Bool) (cs : List CompletedInstant) → AreInOrder cs → AreInOrder (filter p cs)
order_kept p [] order = tt
order_kept p (c ∷ cs) order =
    ⊎_elim
    (λ (passes : p c ≡ true). subst (λ b. AreInOrder (cond b (c ∷ filter p cs) (filter p cs))) (sym passes) (all_kept p (λ d. IsUpTo c.time d.time) cs order.0, order_kept p cs order.1))
    (λ (fails : p c ≡ false). subst (λ b. AreInOrder (cond b (c ∷ filter p cs) (filter p cs))) (sym fails) (order_kept p cs order.1))
    (cases_Bool (p c))

none_kept : {X : Type 0} (p : X → Bool) (xs : List X) → ((x : X) → Contains xs x → p x ≡ false) → filter p xs ≡ []
none_kept p [] none = refl
none_kept p (x ∷ xs) none = ap (λ b. cond b (x ∷ filter p xs) (filter p xs)) (none x (Contains-head x xs)) ∙ none_kept p xs (λ y there. none y (Contains-tail x xs y there))

later_up : (position time : List ℕ) → is_later position time ≡ true → IsUpTo position time
later_up position time later greater = by (slice_cmp nat_cmp position time) later greater
  where
    by : (o : Ordering) → is_lt o ≡ true → o ≡ Greater → ⊥
    by Less later greater = cc
    by Equal later greater = cc
    by Greater later greater = cc

pub not_later : (position time : List ℕ) → IsUpTo time position → is_later position time ≡ false
not_later position time up = by (slice_cmp nat_cmp position time) refl
  where
    by : (o : Ordering) → slice_cmp nat_cmp position time ≡ o → is_later position time ≡ false
    by Less e = absurd (up (nat_list_cmp_total.antisymm time position ∙ ap ordering_reverse e))
    by Equal e = ap is_lt e
    by Greater e = ap is_lt e

module _ (files : Files) (head : List ℕ) (is : IsHead files head) where
  up_to_head : (c : CompletedInstant) → Contains (reached_in files) c → IsUpTo c.time head
  up_to_head c there = is.1 c.time ((reached_times files c.time).0 (c, there, refl))

  none_after_head : later_in files head ≡ []
  none_after_head = none_kept (λ c. is_later head c.time) (reached_in files) (λ c there. not_later head c.time (up_to_head c there))

  later_within : (position : List ℕ) (c : CompletedInstant) → Contains (later_in files position) c → IsUpTo position c.time × IsUpTo c.time head
  later_within position c there =
      let from = Contains-filter (λ (d : CompletedInstant). is_later position d.time) (reached_in files) c there in
      (later_up position c.time from.1, up_to_head c from.0)

  head_later : (position : List ℕ) → IsReached files position → (position ≡ head) ⊎ HasTime (later_in files position) head
  head_later position at = by (slice_cmp nat_cmp position head) refl
    where
      by : (o : Ordering) → slice_cmp nat_cmp position head ≡ o → (position ≡ head) ⊎ HasTime (later_in files position) head
      by Less e =
          let c = (reached_times files head).1 is.0 in
          inr (c.0, filter_contains (λ (d : CompletedInstant). is_later position d.time) (reached_in files) c.0 c.1 (ap (is_later position) c.2 ∙ ap is_lt e), c.2)
      by Equal e = inl ((bytes_decides position head).0 (texts_ties position head ∙ ap is_eq e))
      by Greater e = absurd (is.1 position at e)

-- ---- the commits end at the head

ends_from : (files : Files) (table : HudiTable) (head : List ℕ) (cs : List CompletedInstant) (base : Table) (commits : List Commit) (last : Table) (position : List ℕ) → AreCommits files table base cs commits last → AreInOrder cs
    → ((c : CompletedInstant) → Contains cs c → IsUpTo position c.time × IsUpTo c.time head) → (position ≡ head) ⊎ HasTime cs head → EndAt head position commits
ends_from files table head [] base commits last position made order within at =
    subst (EndAt head position) (sym made.0) (⊎_elim (λ same. same) (λ there. absurd (Contains-none there.0 there.1)) at)
ends_from files table head (c ∷ cs) base commits last position made order within at =
    let up = within c (Contains-head c cs) in
    let further : (c.time ≡ head) ⊎ HasTime cs head =
    ⊎_elim
    (λ same. inl (same_time c.time head up.1 (subst (λ t. IsUpTo t c.time) same up.0)))
    (λ there. ⊎_elim (λ same. inl (ap (λ (d : CompletedInstant). d.time) same ∙ there.2)) (λ later. inr (there.0, later, there.2)) (Contains-cases c cs there.0 there.1))
    at in
    let rest = ends_from files table head cs made.2 made.1 last c.time made.6 order.1 (λ d there. (all_at (λ (e : CompletedInstant). IsUpTo c.time e.time) cs d order.0 there, (within d (Contains-tail c cs d there)).1)) further in
    subst (EndAt head position) (sym made.3) (subst (λ t. EndAt head t made.1) (sym made.4.position) rest)

pub ends : (files : Files) (head : Head) (position : List ℕ) (base : Table) (commits : List Commit) → IsHudiHead files head → IsReached files position → IsSince files position base commits → EndAt head.position position commits
ends files head position base commits is at since =
    let made = since.up_to.made in
    ends_from files since.properties.table head.position (later_in files position) base commits made.last position made.taken.made
    (order_kept (λ c. is_later position c.time) (reached_in files) (order_up_to_head files))
    (later_within files head.position is.position position)
    (head_later files head.position is.position position at)

no_commits : (files : Files) (table : HudiTable) (base : Table) (cs : List CompletedInstant) (commits : List Commit) (last : Table) → cs ≡ [] → AreCommits files table base cs commits last → commits ≡ []
no_commits files table base cs commits last none made = (subst (λ (ds : List CompletedInstant). AreCommits files table base ds commits last) none made).0

pub none_at_head : (files : Files) (head : Head) (base : Table) (commits : List Commit) → IsHudiHead files head → IsSince files head.position base commits → commits ≡ []
none_at_head files head base commits is since =
    let made = since.up_to.made in
    no_commits files since.properties.table base (later_in files head.position) commits made.last (none_after_head files head.position is.position) made.taken.made

-- ---- the same files in the timeline's folder

later_same : (a b : Files) (position : List ℕ) → SameIn timeline_folder a b → later_in a position ≡ later_in b position
later_same a b position same = ap (filter (λ (c : CompletedInstant). is_later position c.time)) (reached_same a b same)

module _ (a b : Files) (same : SameIn timeline_folder a b) where
  commits_too : (table : HudiTable) (base : Table) (cs : List CompletedInstant) (commits : List Commit) (last : Table) → AreCommits a table base cs commits last → AreCommits b table base cs commits last
  commits_too table base [] commits last h = h
  commits_too table base (c ∷ cs) commits last h =
      let of = h.4 in (
        h.0,
        h.1,
        h.2,
        h.3,
        record { position = of.position; instant = of.instant; says = says_too a b same c of.instant of.says; change = of.change },
        h.5,
        commits_too table h.2 cs h.1 last h.6,
      )

  actions_too : (cs : List CompletedInstant) (n : ℕ) → HaveActions a cs n → HaveActions b cs n
  actions_too [] n h = h
  actions_too (c ∷ cs) n h = (h.0, h.1, says_too a b same c h.0 h.2, actions_too cs h.1 h.3, h.4)

  taken_too : (table : HudiTable) (base : Table) (cs : List CompletedInstant) (commits : List Commit) (last : Table) (n : ℕ) → AreTaken a table base cs commits last n → AreTaken b table base cs commits last n
  taken_too table base cs commits last n h = record { made = commits_too table base cs commits last h.made; counted = actions_too cs n h.counted; few = h.few }

  made_too : (table : HudiTable) (base : Table) (cs : List CompletedInstant) (commits : List Commit) → AreCommitsOf a table base cs commits → AreCommitsOf b table base cs commits
  made_too table base cs commits h = record { few = h.few; last = h.last; actions = h.actions; taken = taken_too table base cs commits h.last h.actions h.taken }

  all_read_too : (position head : List ℕ) → AreAllReadAfter a position head → AreAllReadAfter b position head
  all_read_too position head all name action h = all name action (h.0, unread_back a b head name action same h.1)

  up_to_too : (position head : List ℕ) (table : HudiTable) (base : Table) (commits : List Commit) → AreCommitsUpTo a position head table base commits → AreCommitsUpTo b position head table base commits
  up_to_too position head table base commits h = record {
    partition = h.partition;
    all_read = all_read_too position head h.all_read;
    made = subst (λ (cs : List CompletedInstant). AreCommitsOf b table base cs commits) (later_same a b position same) (made_too table base (later_in a position) commits h.made);
  }

  -- ---- causes

  unread_after_too : (position head name : List ℕ) (action : Action) → IsFirstUnreadAfter a position head name action → IsFirstUnreadAfter b position head name action
  unread_after_too position head name action h = record {
    is = (h.is.0, unread_own a b head name action same h.is.1);
    first = λ other act unread. h.first other act (unread.0, unread_back a b head other act same unread.1);
  }

  bad_too : (c : CompletedInstant) (e : SourceError) → HasBadInstant a c e → HasBadInstant b c e
  bad_too c e h = (h.0, file_too a b same c.name _ _ (unreadable_too a b same c) h.0 h.1, h.2)

  at_instant_too : (table : HudiTable) (c : CompletedInstant) (before : Table) (n : ℕ) (e : SourceError) → ShowsAtInstant a table c before n e → ShowsAtInstant b table c before n e
  at_instant_too table c before n e (inl h) = inl (bad_too c e h)
  at_instant_too table c before n e (inr h) = inr (h.0, says_too a b same c h.0 h.1, h.2)

  refused_after_too : (table : HudiTable) (base : Table) (cs : List CompletedInstant) (e : SourceError) → HasRefusedAfter a table base cs e → HasRefusedAfter b table base cs e
  refused_after_too table base cs e h = record {
    front = h.front;
    instant = h.instant;
    behind = h.behind;
    split = h.split;
    commits = h.commits;
    before = h.before;
    actions = h.actions;
    taken = taken_too table base h.front h.commits h.before h.actions h.taken;
    refused = at_instant_too table h.instant h.before h.actions e h.refused;
  }

  in_later_too : (table : HudiTable) (base : Table) (cs : List CompletedInstant) (e : SourceError) → ShowsInLater a table base cs e → ShowsInLater b table base cs e
  in_later_too table base cs e (inl h) = inl h
  in_later_too table base cs e (inr h) = inr (h.0, refused_after_too table base cs e h.1)

  after_too : (position head : List ℕ) (table : HudiTable) (base : Table) (e : SourceError) → ShowsAfter a position head table base e → ShowsAfter b position head table base e
  after_too position head table base e (inl h) = inl (h.0, h.1, unread_after_too position head h.0 h.1 h.2, h.3)
  after_too position head table base e (inr h) =
      inr (all_read_too position head h.0, subst (λ (cs : List CompletedInstant). ShowsInLater b table base cs e) (later_same a b position same) (in_later_too table base (later_in a position) e h.1))

  over_too : (position head : List ℕ) (table : HudiTable) (base : Table) (e : SourceError) → ShowsOver a position head table base e → ShowsOver b position head table base e
  over_too position head table base e (inl h) = inl h
  over_too position head table base e (inr h) = inr (h.0, after_too position head table base e h.1)

  reached_shows_too : (position : List ℕ) (base : Table) (e : SourceError) → ShowsReached a position base e → ShowsReached b position base e
  reached_shows_too position base e (inl h) = inl (no_properties_own a b e same h)
  reached_shows_too position base e (inr h) = inr (h.0, properties_too a b same h.0 h.1, h.2, head_too a b same h.2 h.3, over_too position h.2 h.0.table base e h.4)

pub since_own : (a b : Files) (position : List ℕ) (base : Table) (commits : List Commit) → SameIn timeline_folder a b → IsSince a position base commits → IsSince b position base commits
since_own a b position base commits same h = record {
  head = h.head;
  is_head = head_too a b same h.head h.is_head;
  properties = h.properties;
  says = properties_too a b same h.properties h.says;
  up_to = up_to_too a b same position h.head h.properties.table base commits h.up_to;
}

pub from_position_own : (a b : Files) (position : List ℕ) (base : Table) (e : SourceError) → SameIn timeline_folder a b → ShowsSince a position base e → ShowsSince b position base e
from_position_own a b position base e same h = (reaches_own a b position same h.0, reached_shows_too a b same position base e h.1)

-- A commit that joins others stands for them.
use Rattle.std.proofs.Common.{◌≡◌, ◌↔◌, ◌⊎◌, inl, inr, ⊎_elim, ℕ, List, [], ◌∷◌, ◌++◌, Option, Some, None, All, Contains, refl, sym, ap, subst, ◌∙◌, append_assoc}
use Rattle.std.proofs.lemmas.Bool.{cases_Bool}
use Rattle.std.proofs.lemmas.List.Elements.{All-nil, All-cons, All-head, All-tail, All-append}
use Rattle.std.proofs.lemmas.Slice.Eq.{bytes_eq-Decides}
use Rattle.std.specs.Str.{bytes_eq}
use Rattle.table_history.specs.Row.{Row}
use Rattle.table_history.proofs.RowListLemmas.{Contains-none, Contains-head, Contains-tail, Contains-cases}
use Rattle.delta_log.specs.declared.commit.DeltaCommit.{DeltaCommit}
use Rattle.delta_log.specs.declared.commit.FileAction.{FileAction}
use Rattle.delta_log.specs.declared.commit.FileAction.TheVariants as file
use Rattle.delta_log.specs.Commit.{file_path, file_paths}
use Rattle.delta_log.proofs.FilePathLemmas.{action_named}
use Rattle.delta_live.specs.Live.{ActsOn, AddsRow, IsLive, IsLiveOver, PartColumns}
use Rattle.delta_compaction.specs.Law.{IsNewestAction, IsNewestPart, Joins, StandsFor}
use Rattle.lake_basics.proofs.Lists.{none_longer}

-- ---- lists

-- A list that is cut at an item, where it is two lists joined: the item stands in the first or in the second.
abbrev Cut : {X : Type 0} → List X → List X → List X → X → List X → Type 0
Cut {X} xs ys front x later =
    ((rest : List X) × (later ≡ rest ++ ys) × (xs ≡ front ++ x ∷ rest)) ⊎ ((mid : List X) × (front ≡ xs ++ mid) × (ys ≡ mid ++ x ∷ later))

cut_more : {X : Type 0} (z : X) (xs ys front : List X) (x : X) (later : List X) → Cut xs ys front x later → Cut (z ∷ xs) ys (z ∷ front) x later
cut_more z xs ys front x later (inl h) = inl (h.0, h.1, ap (λ l. z ∷ l) h.2)
cut_more z xs ys front x later (inr h) = inr (h.0, ap (λ l. z ∷ l) h.1, h.2)

cut : {X : Type 0} (xs ys front : List X) (x : X) (later : List X) → xs ++ ys ≡ front ++ x ∷ later → Cut xs ys front x later
cut [] ys front x later e = inr (front, refl, e)
cut (z ∷ xs) ys [] x later e = let same : z ≡ x = cc in let rest : xs ++ ys ≡ later = cc in inl (xs, sym rest, ap (λ w. w ∷ xs) same)
cut (z ∷ xs) ys (w ∷ front) x later e =
    let same : z ≡ w = cc in
    let rest : xs ++ ys ≡ front ++ x ∷ later = cc in
    subst (λ v. Cut (z ∷ xs) ys (v ∷ front) x later) same (cut_more z xs ys front x later (cut xs ys front x later rest))

-- a list of one item
abbrev IsOnly : {X : Type 0} → X → List X → X → List X → Type 0
IsOnly y front x later = (front ≡ []) × (x ≡ y) × (later ≡ [])

only : {X : Type 0} (y : X) (front : List X) (x : X) (later : List X) → y ∷ [] ≡ front ++ x ∷ later → IsOnly y front x later
only y [] x later e = let same : y ≡ x = cc in let rest : [] ≡ later = cc in (refl, sym same, sym rest)
only y (z ∷ front) x later e = let rest : [] ≡ front ++ x ∷ later = cc in absurd (none_longer front x later rest)

pub all_both : {X : Type 0} (P : X → Type 0) (xs ys : List X) → All P (xs ++ ys) → All P xs × All P ys
all_both P [] ys all = (All-nil P, all)
all_both P (x ∷ xs) ys all = let rest = all_both P xs ys (All-tail P x (xs ++ ys) all) in (All-cons P x xs (All-head P x (xs ++ ys) all) rest.0, rest.1)

all_one : {X : Type 0} (P : X → Type 0) (x : X) → P x → All P (x ∷ [])
all_one P x p = All-cons P x [] p (All-nil P)

all_at : {X : Type 0} (P : X → Type 0) (xs front : List X) (x : X) (later : List X) → xs ≡ front ++ x ∷ later → All P xs → P x
all_at P xs front x later split all = All-head P x later (all_both P front (x ∷ later) (subst (All P) split all)).1

-- ---- parts of commits

module _ {A : Type 0} (part : DeltaCommit → Option A) where
  lacks : DeltaCommit → Type 0
  lacks c = part c ≡ None

  newest_further : (c : DeltaCommit) (commits : List DeltaCommit) (a : A) → IsNewestPart part commits a → IsNewestPart part (c ∷ commits) a
  newest_further c commits a h = record { front = c ∷ h.front; commit = h.commit; later = h.later; split = ap (λ l. c ∷ l) h.split; is = h.is; newest = h.newest }

  newest_behind : (before commits : List DeltaCommit) (a : A) → IsNewestPart part commits a → IsNewestPart part (before ++ commits) a
  newest_behind [] commits a h = h
  newest_behind (c ∷ before) commits a h = newest_further c (before ++ commits) a (newest_behind before commits a h)

  newest_here : (c : DeltaCommit) (commits : List DeltaCommit) (o : Option A) → part c ≡ o → All (λ d. part d ≡ None) commits → All (λ d. part d ≡ None) (c ∷ commits) ⊎ ((a : A) × IsNewestPart part (c ∷ commits) a)
  newest_here c commits None is none = inl (All-cons (λ d. part d ≡ None) c commits is none)
  newest_here c commits (Some a) is none = inr (a, record { front = []; commit = c; later = commits; split = refl; is = is; newest = none })

  pub newest_or_none : (commits : List DeltaCommit) → All (λ d. part d ≡ None) commits ⊎ ((a : A) × IsNewestPart part commits a)
  newest_or_none [] = inl (All-nil (λ d. part d ≡ None))
  newest_or_none (c ∷ commits) = ⊎_elim (newest_here c commits (part c) refl) (λ h. inr (h.0, newest_further c commits h.0 h.1)) (newest_or_none commits)

  module _ (commits : List DeltaCommit) (c : DeltaCommit) (joins : (a : A) → (part c ≡ Some a) ↔ IsNewestPart part commits a) where
    none_in : part c ≡ None → All (λ d. part d ≡ None) commits
    none_in none = ⊎_elim (λ all. all) (λ h. let some = (joins h.0).1 h.1 in absurd (cc)) (newest_or_none commits)

    none_by : (o : Option A) → part c ≡ o → All (λ d. part d ≡ None) commits → o ≡ None
    none_by None is all = refl
    none_by (Some a) is all =
        let newest = (joins a).0 is in
        let none : part newest.commit ≡ None = all_at (λ d. part d ≡ None) commits newest.front newest.commit newest.later newest.split all in
        let some : part newest.commit ≡ Some a = newest.is in
        absurd (cc)

    part_to : (before : List DeltaCommit) (a : A) → IsNewestPart part (before ++ c ∷ []) a → IsNewestPart part (before ++ commits) a
    part_to before a h = ⊎_elim
        (λ (there : (rest : List DeltaCommit) × (h.later ≡ rest ++ c ∷ []) × (before ≡ h.front ++ h.commit ∷ rest)).
        let both = all_both (λ d. part d ≡ None) there.0 (c ∷ []) (subst (All (λ d. part d ≡ None)) there.1 h.newest) in
        record {
          front = h.front;
          commit = h.commit;
          later = there.0 ++ commits;
          split = ap (λ l. l ++ commits) there.2 ∙ append_assoc h.front (h.commit ∷ there.0) commits;
          is = h.is;
          newest = All-append (λ d. part d ≡ None) there.0 commits both.0 (none_in (All-head (λ d. part d ≡ None) c [] both.1));
        })
        (λ (here : (mid : List DeltaCommit) × (h.front ≡ before ++ mid) × (c ∷ [] ≡ mid ++ h.commit ∷ h.later)).
        let one = only c here.0 h.commit h.later here.2 in
        newest_behind before commits a ((joins a).0 (subst (λ d. part d ≡ Some a) one.1 h.is)))
        (cut before (c ∷ []) h.front h.commit h.later h.split)

    part_from : (before : List DeltaCommit) (a : A) → IsNewestPart part (before ++ commits) a → IsNewestPart part (before ++ c ∷ []) a
    part_from before a h = ⊎_elim
        (λ (there : (rest : List DeltaCommit) × (h.later ≡ rest ++ commits) × (before ≡ h.front ++ h.commit ∷ rest)).
        let both = all_both (λ d. part d ≡ None) there.0 commits (subst (All (λ d. part d ≡ None)) there.1 h.newest) in
        record {
          front = h.front;
          commit = h.commit;
          later = there.0 ++ c ∷ [];
          split = ap (λ l. l ++ c ∷ []) there.2 ∙ append_assoc h.front (h.commit ∷ there.0) (c ∷ []);
          is = h.is;
          newest = All-append (λ d. part d ≡ None) there.0 (c ∷ []) both.0 (all_one (λ d. part d ≡ None) c (none_by (part c) refl both.1));
        })
        (λ (here : (mid : List DeltaCommit) × (h.front ≡ before ++ mid) × (commits ≡ mid ++ h.commit ∷ h.later)).
        let is : part c ≡ Some a = (joins a).1 (record { front = here.0; commit = h.commit; later = h.later; split = here.2; is = h.is; newest = h.newest }) in
        record { front = before; commit = c; later = []; split = refl; is = is; newest = All-nil (λ d. part d ≡ None) })
        (cut before commits h.front h.commit h.later h.split)

    pub same_part : (before : List DeltaCommit) (a : A) → IsNewestPart part (before ++ c ∷ []) a ↔ IsNewestPart part (before ++ commits) a
    same_part before a = (part_to before a, part_from before a)

-- ---- file actions

-- one of the actions is on the path, or none is
abbrev HasAction : List ℕ → List FileAction → Type 0
HasAction path files = (f : FileAction) × Contains files f × (file_path f ≡ path)

pub named_action : (path : List ℕ) (files : List FileAction) → Contains (file_paths files) path → HasAction path files
named_action path [] there = absurd (Contains-none path there)
named_action path (f ∷ files) there = ⊎_elim
    (λ here. (f, Contains-head f files, here))
    (λ later. let h = named_action path files later in (h.0, Contains-tail f files h.0 h.1, h.2))
    (Contains-cases (file_path f) (file_paths files) path there)

acts_or_not : (path : List ℕ) (files : List FileAction) → HasAction path files ⊎ (Contains (file_paths files) path → ⊥)
acts_or_not path [] = inr (λ there. Contains-none path there)
acts_or_not path (f ∷ files) = ⊎_elim
    (λ holds. inl (f, Contains-head f files, (bytes_eq-Decides (file_path f) path).0 holds))
    (λ fails. ⊎_elim
    (λ (h : HasAction path files). inl (h.0, Contains-tail f files h.0 h.1, h.2))
    (λ none. inr (λ there. ⊎_elim (λ here. let holds = (bytes_eq-Decides (file_path f) path).1 here in absurd (cc)) none (Contains-cases (file_path f) (file_paths files) path there)))
    (acts_or_not path files))
    (cases_Bool (bytes_eq (file_path f) path))

action_further : (c : DeltaCommit) (commits : List DeltaCommit) (f : FileAction) → IsNewestAction commits f → IsNewestAction (c ∷ commits) f
action_further c commits f h = record { front = c ∷ h.front; commit = h.commit; later = h.later; split = ap (λ l. c ∷ l) h.split; acts = h.acts; newest = h.newest }

-- No commit acts on the path, or some action on it is the newest.
newest_action : (path : List ℕ) (commits : List DeltaCommit) → All (λ c. ActsOn path c → ⊥) commits ⊎ ((f : FileAction) × (file_path f ≡ path) × IsNewestAction commits f)
newest_action path [] = inl (All-nil (λ c. ActsOn path c → ⊥))
newest_action path (c ∷ commits) = ⊎_elim
    (λ none. ⊎_elim
    (λ (h : HasAction path c.files). inr (
      h.0,
      h.2,
      record {
        front = [];
        commit = c;
        later = commits;
        split = refl;
        acts = h.1;
        newest = subst (λ p. All (λ d. ActsOn p d → ⊥) commits) (sym h.2) none;
      },
    ))
    (λ not. inl (All-cons (λ d. ActsOn path d → ⊥) c commits not none))
    (acts_or_not path c.files))
    (λ h. inr (h.0, h.1, action_further c commits h.0 h.2))
    (newest_action path commits)

adds_path : (columns : PartColumns) (action : FileAction) (row : Row) → AddsRow columns action row → row.path ≡ file_path action
adds_path columns (file.Add path values size count) row adds = adds.0
adds_path columns (file.Remove path) row adds = absurd adds

module _ (commits : List DeltaCommit) (c : DeltaCommit) (joins : (f : FileAction) → Contains c.files f ↔ IsNewestAction commits f) where
  idle_in : (path : List ℕ) → (ActsOn path c → ⊥) → All (λ d. ActsOn path d → ⊥) commits
  idle_in path idle = ⊎_elim (λ all. all) (λ h. absurd (idle (subst (Contains (file_paths c.files)) h.1 (action_named c.files h.0 ((joins h.0).1 h.2))))) (newest_action path commits)

  idle_by : (path : List ℕ) → All (λ d. ActsOn path d → ⊥) commits → ActsOn path c → ⊥
  idle_by path all acts =
      let h = named_action path c.files acts in
      let newest = (joins h.0).0 h.1 in
      all_at (λ d. ActsOn path d → ⊥) commits newest.front newest.commit newest.later newest.split all (subst (Contains (file_paths newest.commit.files)) h.2 (action_named newest.commit.files h.0 newest.acts))

  module _ (columns : PartColumns) (before : List DeltaCommit) (row : Row) where
    abbrev Idle : DeltaCommit → Type 0
    Idle d = ActsOn row.path d → ⊥

    live_to : IsLive columns (before ++ c ∷ []) row → IsLive columns (before ++ commits) row
    live_to h = ⊎_elim
        (λ (there : (rest : List DeltaCommit) × (h.behind ≡ rest ++ c ∷ []) × (before ≡ h.front ++ h.commit ∷ rest)).
        let both = all_both (λ d. ActsOn row.path d → ⊥) there.0 (c ∷ []) (subst (All (λ d. ActsOn row.path d → ⊥)) there.1 h.newest) in
        record {
          front = h.front;
          commit = h.commit;
          behind = there.0 ++ commits;
          action = h.action;
          split = ap (λ l. l ++ commits) there.2 ∙ append_assoc h.front (h.commit ∷ there.0) commits;
          acts = h.acts;
          adds = h.adds;
          newest = All-append (λ d. ActsOn row.path d → ⊥) there.0 commits both.0 (idle_in row.path (All-head (λ d. ActsOn row.path d → ⊥) c [] both.1));
        })
        (λ (here : (mid : List DeltaCommit) × (h.front ≡ before ++ mid) × (c ∷ [] ≡ mid ++ h.commit ∷ h.behind)).
        let one = only c here.0 h.commit h.behind here.2 in
        let newest = (joins h.action).0 (subst (λ d. Contains d.files h.action) one.1 h.acts) in
        record {
          front = before ++ newest.front;
          commit = newest.commit;
          behind = newest.later;
          action = h.action;
          split = ap (λ l. before ++ l) newest.split ∙ sym (append_assoc before newest.front (newest.commit ∷ newest.later));
          acts = newest.acts;
          adds = h.adds;
          newest = subst (λ p. All (λ d. ActsOn p d → ⊥) newest.later) (sym (adds_path columns h.action row h.adds)) newest.newest;
        })
        (cut before (c ∷ []) h.front h.commit h.behind h.split)

    live_from : IsLive columns (before ++ commits) row → IsLive columns (before ++ c ∷ []) row
    live_from h = ⊎_elim
        (λ (there : (rest : List DeltaCommit) × (h.behind ≡ rest ++ commits) × (before ≡ h.front ++ h.commit ∷ rest)).
        let both = all_both (λ d. ActsOn row.path d → ⊥) there.0 commits (subst (All (λ d. ActsOn row.path d → ⊥)) there.1 h.newest) in
        record {
          front = h.front;
          commit = h.commit;
          behind = there.0 ++ c ∷ [];
          action = h.action;
          split = ap (λ l. l ++ c ∷ []) there.2 ∙ append_assoc h.front (h.commit ∷ there.0) (c ∷ []);
          acts = h.acts;
          adds = h.adds;
          newest = All-append (λ d. ActsOn row.path d → ⊥) there.0 (c ∷ []) both.0 (all_one (λ d. ActsOn row.path d → ⊥) c (idle_by row.path both.1));
        })
        (λ (here : (mid : List DeltaCommit) × (h.front ≡ before ++ mid) × (commits ≡ mid ++ h.commit ∷ h.behind)).
        let there : Contains c.files h.action = (joins h.action).1 (record {
          front = here.0;
          commit = h.commit;
          later = h.behind;
          split = here.2;
          acts = h.acts;
          newest = subst (λ p. All (λ d. ActsOn p d → ⊥) h.behind) (adds_path columns h.action row h.adds) h.newest;
        }) in
        record { front = before; commit = c; behind = []; action = h.action; split = refl; acts = there; adds = h.adds; newest = All-nil (λ d. ActsOn row.path d → ⊥) })
        (cut before commits h.front h.commit h.behind h.split)

    module _ (origin : List Row) where
      over_to : IsLiveOver columns origin (before ++ c ∷ []) row → IsLiveOver columns origin (before ++ commits) row
      over_to (inl live) = inl (live_to live)
      over_to (inr kept) =
          let both = all_both (λ d. ActsOn row.path d → ⊥) before (c ∷ []) kept.1 in
          inr (kept.0, All-append (λ d. ActsOn row.path d → ⊥) before commits both.0 (idle_in row.path (All-head (λ d. ActsOn row.path d → ⊥) c [] both.1)))

      over_from : IsLiveOver columns origin (before ++ commits) row → IsLiveOver columns origin (before ++ c ∷ []) row
      over_from (inl live) = inl (live_from live)
      over_from (inr kept) =
          let both = all_both (λ d. ActsOn row.path d → ⊥) before commits kept.1 in
          inr (kept.0, All-append (λ d. ActsOn row.path d → ⊥) before (c ∷ []) both.0 (all_one (λ d. ActsOn row.path d → ⊥) c (idle_by row.path both.1)))

pub stands_for : (commits : List DeltaCommit) (c : DeltaCommit) → Joins commits c → StandsFor commits c
stands_for commits c joins = record {
  rows = λ columns origin before row. (over_to commits c joins.files columns before row origin, over_from commits c joins.files columns before row origin);
  protocol = same_part (λ d. d.protocol) commits c joins.protocol;
  meta = same_part (λ d. d.meta) commits c joins.meta;
}

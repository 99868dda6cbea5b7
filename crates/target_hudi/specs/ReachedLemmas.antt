-- What a target stands for depends on the files that its commits reach alone.
use Rattle.std.proofs.Common.{◌≡◌, inl, inr, ⊎_elim, ℕ, ◌≤◌, false, List, [], ◌∷◌, Contains, Option, Some, None, refl, sym, ap, subst, ◌∙◌}
use Rattle.std.specs.Prelude.{is_some}
use Rattle.std.specs.FinMap as map
use Rattle.std.proofs.lemmas.Bool.{cases_Bool, false≢true}
use Rattle.lake_store.specs.Disk.{Disk, Files, IsClean, IsName}
use Rattle.lake_store.specs.Runs.{IsIn}
use Rattle.table_history.specs.declared.table.Change.{Change}
use Rattle.table_history.proofs.RowListLemmas.{Contains-head, Contains-none}
use Rattle.hudi_names.specs.declared.name.Action.TheVariants as action
use Rattle.hudi_names.specs.declared.name.State.TheVariants as state
use Rattle.hudi_table.specs.Instants.{path_of}
use Rattle.hudi_table.specs.declared.instants.CompletedInstant.{CompletedInstant}
use Rattle.hudi_commit.specs.Names.{IsInstantIn, IsThere, completed_name, properties_path, timeline_folder, timeline_path}
use Rattle.hudi_commit.specs.Orderly.{IsSameTimeline}
use Rattle.hudi_commit.proofs.NameLaws.{cancel, completed_no_leftover, not_properties_name, properties_stay}
use Rattle.hudi_commit.proofs.OrderlyLaws.{there}
use Rattle.hudi_commit.proofs.StepLaws.{in_timeline}
use Rattle.target_core.specs.Views.{Standing, View}
use Rattle.target_hudi.specs.Reading.{HasOwnNames, HasOwnProperties, IsAbsent, IsCarried, IsOurs, IsReached, IsSettledTarget, NamesInstant, Reads, completed_in}
use Rattle.target_hudi.specs.InstantLemmas.{from_there, named, replaced}
use Rattle.target_hudi.specs.ReadingLemmas.{carried_too, in_middle, never_pending, reads_by}
use Rattle.target_hudi.specs.SettledLemmas.{kept_clean}
use Rattle.lake_basics.proofs.Lists.{none_longer}

-- ---- what is reached

pub reached_in : (files : Files) (path : List ℕ) → IsReached files path → IsIn timeline_folder path
reached_in files path h = ⊎_elim
    (λ (is : path ≡ path_of h.0.name). (h.0.name, is))
    (λ (is : path ≡ properties_path). subst (λ (p : List ℕ). IsIn timeline_folder p) (sym is) (in_timeline _))
    h.2

-- the file of a completed instant is reached
pub instant_reached : (files : Files) (c : CompletedInstant) → Contains (completed_in files) c → IsReached files (path_of c.name)
instant_reached files c within = (c, within, inl refl, (named files c within).there)

-- it is there in files that have what is reached
stays : (a b : Files) → ((path : List ℕ) → IsReached a path → map.get b path ≡ map.get a path) → (c : CompletedInstant) → Contains (completed_in a) c → (d : CompletedInstant) × Contains (completed_in b) d × (d.name ≡ c.name)
stays a b same c within =
    let is = named a c within in
    from_there b c.name is.proper (there a b (path_of c.name) (same (path_of c.name) (instant_reached a c within)) is.there) is.digits is.action is.says is.commit

pub reached_stays : (a b : Files) → ((path : List ℕ) → IsReached a path → map.get b path ≡ map.get a path) → (path : List ℕ) → IsReached a path → IsReached b path
reached_stays a b same path h =
    let d = stays a b same h.0 h.1 in
    (d.0, d.1, ⊎_elim (λ (is : path ≡ path_of h.0.name). inl (is ∙ ap path_of (sym d.2))) (λ (is : path ≡ properties_path). inr is) h.2, there a b path (same path h) h.3)

pub reached_clean : (disk : Disk) (path : List ℕ) → IsSettledTarget disk → IsReached disk.files path → IsClean disk path
reached_clean disk path settled h = ⊎_elim
    (λ (is : path ≡ path_of h.0.name).
    let n = named disk.files h.0 h.1 in
    subst (λ (p : List ℕ). IsClean disk p) (sym is) (kept_clean disk settled.timeline (path_of h.0.name) (in_timeline h.0.name) (completed_no_leftover h.0.name n.proper (n.digits, n.action, n.says))))
    (λ (is : path ≡ properties_path). subst (λ (p : List ℕ). IsClean disk p) (sym is) (kept_clean disk settled.timeline properties_path (in_timeline _) properties_stay))
    h.2

-- ---- files with what is reached and no more

not_there : (o : Option (List ℕ)) → is_some o ≡ false → o ≡ None
not_there None is = refl
not_there (Some bytes) is = absurd (false≢true (sym is))

none_there : (files : Files) (path : List ℕ) → map.get files path ≡ None → IsThere files path → ⊥
none_there files path none found = false≢true (sym (ap is_some none) ∙ found)

module _ (a b : Files) (same : (path : List ℕ) → IsReached a path → map.get b path ≡ map.get a path) (none : (path : List ℕ) → IsIn timeline_folder path → (IsReached a path → ⊥) → map.get b path ≡ None) where
  -- a name that is there in the second is there in the first
  back : (name : List ℕ) → IsThere b (timeline_path name) → IsThere a (timeline_path name)
  back name found = ⊎_elim
      (λ yes. yes)
      (λ no. absurd (none_there b (timeline_path name) (none (timeline_path name) (in_timeline name) (λ h. false≢true (sym no ∙ h.3))) found))
      (cases_Bool (is_some (map.get a (timeline_path name))))

  -- an instant's name that is reached is a completed one's
  reached_done : (name : List ℕ) → NamesInstant b name → IsReached a (timeline_path name) → IsInstantIn state.Completed name
  reached_done name n h = ⊎_elim
      (λ (is : timeline_path name ≡ path_of h.0.name).
      let d = named a h.0 h.1 in
      subst (λ (m : List ℕ). IsInstantIn state.Completed m) (sym (cancel name h.0.name is)) (d.digits, d.action, d.says))
      (λ (is : timeline_path name ≡ properties_path). absurd (not_properties_name n.state name n.says is))
      h.2

  names : HasOwnNames a → HasOwnNames b
  names own name n =
      let is = own name (record { proper = n.proper; there = back name n.there; state = n.state; says = n.says }) in (
        is.0,
        is.1,
        ⊎_elim
            inl
            (λ p. absurd (none_there b (timeline_path name) (none (timeline_path name) (in_timeline name) (λ h. never_pending p.0 is.0 name is.1.1.digits p.1 (reached_done name n h))) n.there))
            is.2,
      )

  -- a completed instant's name in the first is reached
  same_name : HasOwnNames a → (name : List ℕ) → IsName name → IsInstantIn state.Completed name → IsThere a (timeline_path name) → map.get b (timeline_path name) ≡ map.get a (timeline_path name)
  same_name own name proper says found =
      let is = own name (record { proper = proper; there = found; state = state.Completed; says = says }) in
      ⊎_elim
      (λ (done : name ≡ completed_name is.0).
      let c = from_there a (completed_name is.0) (subst IsName done proper) (subst (λ (m : List ℕ). IsThere a (timeline_path m)) done found) 17 action.ReplaceCommit (replaced is.0 is.1.1.digits) refl in
      same (timeline_path name) (c.0, c.1, inl (ap path_of (done ∙ sym c.2)), found))
      (λ p. absurd (never_pending p.0 is.0 name is.1.1.digits p.1 says))
      is.2

  same_completed : HasOwnNames a → (name : List ℕ) → IsName name → IsInstantIn state.Completed name → map.get b (timeline_path name) ≡ map.get a (timeline_path name)
  same_completed own name proper says = ⊎_elim
      (λ yes. same_name own name proper says yes)
      (λ no. none (timeline_path name) (in_timeline name) (λ h. false≢true (sym no ∙ h.3)) ∙ sym (not_there (map.get a (timeline_path name)) no))
      (cases_Bool (is_some (map.get a (timeline_path name))))

  module _ (v : View) (ours : IsOurs a v) where
    properties_there : IsThere a properties_path
    properties_there = ap is_some ours.says.holds

    properties_same : map.get b properties_path ≡ map.get a properties_path
    properties_same = same properties_path (ours.newest, in_middle (completed_in a) ours.front ours.newest [] ours.last, inr refl, properties_there)

    timeline : IsSameTimeline a b
    timeline = record { completed = same_completed ours.names; properties = properties_same }

    properties : HasOwnProperties b
    properties = record {
      own = λ bytes holds. ours.properties.own bytes (sym properties_same ∙ holds);
      there = λ lacks. lacks.5 (there a b properties_path properties_same properties_there);
    }

    ours_stay : Reads b v
    ours_stay = reads_by a b timeline v properties (names ours.names) (inr ours)

    pub ours_carry : (number : ℕ) (change : Change) (s : Standing) → IsCarried a number change s → IsCarried b number change s
    ours_carry number change s h = carried_too a b timeline number change s h

  -- without a completed instant nothing is reached
  module _ (absent_a : IsAbsent a) where
    nothing : (path : List ℕ) → IsReached a path → ⊥
    nothing path h = some_in (completed_in a) absent_a.none h.0 h.1
      where
        some_in : (cs : List CompletedInstant) → cs ≡ [] → (c : CompletedInstant) → Contains cs c → ⊥
        some_in cs is c within = Contains-none c (subst (λ (l : List CompletedInstant). Contains l c) is within)

    empty : (path : List ℕ) → IsIn timeline_folder path → IsThere b path → ⊥
    empty path within found = none_there b path (none path within (nothing path)) found

    absent_completed : (cs : List CompletedInstant) → ((c : CompletedInstant) → Contains cs c → ⊥) → cs ≡ []
    absent_completed [] without = refl
    absent_completed (c ∷ cs) without = absurd (without c (Contains-head c cs))

    absent_stays : IsAbsent b
    absent_stays = record {
      properties = record {
        own = λ bytes holds. absurd (empty properties_path (in_timeline _) (ap is_some holds));
        there = λ lacks. empty (timeline_path lacks.1) (in_timeline lacks.1) lacks.4;
      };
      names = λ name n. absurd (empty (timeline_path name) (in_timeline name) n.there);
      none = absent_completed (completed_in b) (λ c within. empty (path_of c.name) (in_timeline c.name) (named b c within).there);
    }

pub reached_alone : (a b : Files) (v : View) → ((path : List ℕ) → IsReached a path → map.get b path ≡ map.get a path) → ((path : List ℕ) → IsIn timeline_folder path → (IsReached a path → ⊥) → map.get b path ≡ None)
    → Reads a v → Reads b v × ((number : ℕ) (change : Change) (s : Standing) → number ≤ v.commits → IsCarried a number change s → IsCarried b number change s)
reached_alone a b v same none (inl h) = (inl (absent_stays a b same none h.0, h.1), λ number change s le carried. absurd (none_longer carried.front carried.commit carried.behind (sym h.0.none ∙ carried.split)))
reached_alone a b v same none (inr h) = (ours_stay a b same none v h, λ number change s le carried. ours_carry a b same none v h number change s carried)

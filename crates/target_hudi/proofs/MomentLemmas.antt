-- What publishing an instant leaves, at return and after a crash: files beside those before it, with or without that instant.
use Rattle.std.proofs.Common.{◌≡◌, ◌⊎◌, ◌≢◌, inl, inr, ⊎_elim, ℕ, List, [], Contains, Option, Some, None, refl, sym, ap, subst, ◌∙◌}
use Rattle.std.specs.FinMap as map
use Rattle.lake_store.specs.Disk.{Files, with_file}
use Rattle.lake_store.specs.Runs.{IsIn}
use Rattle.lake_store.proofs.DiskLaws.{get-insert_here, get-insert_other, get-remove_here, get-remove_other}
use Rattle.table_history.proofs.RowListLemmas.{Contains-none}
use Rattle.hudi_names.specs.Time.{IsSomeTime}
use Rattle.hudi_names.specs.declared.name.State.{State}
use Rattle.hudi_names.specs.declared.name.State.TheVariants as state
use Rattle.hudi_table.specs.Instants.{path_of}
use Rattle.hudi_table.specs.declared.instants.CompletedInstant.{CompletedInstant}
use Rattle.hudi_commit.specs.Names.{IsInstantIn, IsLeftover, completed_name, completed_path, properties_path, timeline_folder, timeline_path}
use Rattle.hudi_commit.specs.Orderly.{IsAlike, IsOrderly}
use Rattle.hudi_commit.specs.Runs.{IsAfter, IsBase, IsBefore, IsKept, NotGiven, prepared, with_commit}
use Rattle.hudi_commit.proofs.NameLaws.{cancel, completed_no_leftover, completed_not_properties, completed_stays, not_properties_name, properties_stay}
use Rattle.hudi_commit.proofs.OpenLaws.{open_leftover}
use Rattle.hudi_commit.proofs.OrderlyLaws.{there_none}
use Rattle.hudi_commit.proofs.StepLaws.{in_timeline}
use Rattle.target_hudi.specs.InstantLemmas.{named}
use Rattle.target_hudi.specs.Reading.{IsReached, completed_in}
use Rattle.target_hudi.proofs.BesideLemmas.{IsBeside}
use Rattle.target_hudi.proofs.TimelineLemmas.{AreEarlier, free}

-- The properties are given where nothing is completed.
abbrev pub AreDue : Option (List ℕ) → Files → Type 0
AreDue None files = Unit {0}
AreDue (Some bytes) files = completed_in files ≡ []

-- The properties are as they were, or as they are given.
abbrev pub AreAsGiven : Option (List ℕ) → Files → Files → Type 0
AreAsGiven None old new = map.get new properties_path ≡ map.get old properties_path
AreAsGiven (Some given) old new = (bytes : List ℕ) → map.get new properties_path ≡ Some bytes → (map.get old properties_path ≡ Some bytes) ⊎ (bytes ≡ given)

-- as they were, or as they are given where they are
abbrev pub AreGivenNow : Option (List ℕ) → Files → Files → Type 0
AreGivenNow None old new = map.get new properties_path ≡ map.get old properties_path
AreGivenNow (Some given) old new = map.get new properties_path ≡ Some given

-- The files are orderly and the instant isn't there.
pub record IsStill (given : Option (List ℕ)) (instant : List ℕ) (old new : Files) : Type 0 where
  pub orderly : IsOrderly new
  pub beside : IsBeside instant old new
  pub none : map.get new (completed_path instant) ≡ None
  pub properties : AreAsGiven given old new

-- The files are orderly and the instant is there with this text.
pub record IsGrown (given : Option (List ℕ)) (instant text : List ℕ) (old new : Files) : Type 0 where
  pub orderly : IsOrderly new
  pub beside : IsBeside instant old new
  pub there : map.get new (completed_path instant) ≡ Some text
  pub properties : AreGivenNow given old new

module _ (properties : Option (List ℕ)) (instant : List ℕ) (real : IsSomeTime instant) (old : Files) (due : AreDue properties old) where
  -- all paths but the instant's and given properties are as they were
  abbrev IsBut : Files → Type 0
  IsBut base = (path : List ℕ) → path ≢ completed_path instant → NotGiven properties path → map.get base path ≡ map.get old path

  no_properties : (state : State) (name : List ℕ) (o : Option (List ℕ)) → IsInstantIn state name → NotGiven o (timeline_path name)
  no_properties state name None says = tt
  no_properties state name (Some bytes) says = not_properties_name state name says

  some_given : (o : Option (List ℕ)) → AreDue o old → (completed_in old ≡ [] → ⊥) → NotGiven o properties_path
  some_given None due some = tt
  some_given (Some bytes) due some = absurd (some due)

  properties_apart : properties_path ≢ completed_path instant
  properties_apart same = completed_not_properties instant real.1.digits (sym same)

  beside_but : (base new : Files) → IsBut base → IsAlike base new → IsBeside instant old new
  beside_but base new but alike = record {
    completed = λ name proper says apart.
        alike (timeline_path name) (in_timeline name) (completed_no_leftover name proper says)
        ∙ but (timeline_path name) (λ same. apart (cancel name (completed_name instant) same)) (no_properties state.Completed name properties says);
    properties = λ some. alike properties_path (in_timeline _) properties_stay ∙ but properties_path properties_apart (some_given properties due some);
  }

  -- what is left alone, as far as it is in the timeline's folder and no leftover
  pub beside_stays : (new : Files) → ((path : List ℕ) → IsKept properties instant old path → IsIn timeline_folder path → (IsLeftover path → ⊥) → map.get new path ≡ map.get old path) → IsBeside instant old new
  beside_stays new keeps = record {
    completed = λ name proper says apart. keeps (timeline_path name) (record {
      leftover = λ left. completed_no_leftover name proper says (open_leftover old (timeline_path name) left);
      completed = λ same. apart (cancel name (completed_name instant) same);
      given = no_properties state.Completed name properties says;
    }) (in_timeline name) (completed_no_leftover name proper says);
    properties = λ some. keeps properties_path (record {
      leftover = λ left. properties_stay (open_leftover old properties_path left);
      completed = properties_apart;
      given = some_given properties due some;
    }) (in_timeline _) properties_stay;
  }

  pub beside_kept : (new : Files) → ((path : List ℕ) → IsKept properties instant old path → map.get new path ≡ map.get old path) → IsBeside instant old new
  beside_kept new keeps = beside_stays new (λ path kept within stays. keeps path kept)

  -- what commits reach is left alone
  pub reached_kept : (earlier : AreEarlier old instant) → (path : List ℕ) → IsReached old path → IsKept properties instant old path
  reached_kept earlier path reached = by reached.2
    where
      some : completed_in old ≡ [] → ⊥
      some none = Contains-none reached.0 (subst (λ (l : List CompletedInstant). Contains l reached.0) none reached.1)

      by : (path ≡ path_of reached.0.name) ⊎ (path ≡ properties_path) → IsKept properties instant old path
      by (inl same) =
          let h = named old reached.0 reached.1 in
          let says : IsInstantIn state.Completed reached.0.name = (h.digits, h.action, h.says) in
          subst (IsKept properties instant old) (sym same) (record {
            leftover = λ left. completed_no_leftover reached.0.name h.proper says (open_leftover old (timeline_path reached.0.name) left);
            completed = λ is. there_none old (timeline_path reached.0.name) h.there (ap (λ (p : List ℕ). map.get old p) is ∙ free instant real old earlier);
            given = no_properties state.Completed reached.0.name properties says;
          })
      by (inr same) = subst (IsKept properties instant old) (sym same) (record {
        leftover = λ left. properties_stay (open_leftover old properties_path left);
        completed = properties_apart;
        given = some_given properties due some;
      })

  -- ---- before

  base_but : (o : Option (List ℕ)) (base : Files) → IsBase o old base → (path : List ℕ) → NotGiven o path → map.get base path ≡ map.get old path
  base_but None base is path apart = ap (λ (f : Files). map.get f path) is
  base_but (Some bytes) base is path apart = ⊎_elim
      (λ same. ap (λ (f : Files). map.get f path) same)
      (λ (more : (base ≡ with_file old properties_path None) ⊎ (base ≡ with_file old properties_path (Some bytes))). ⊎_elim
      (λ same. ap (λ (f : Files). map.get f path) same ∙ get-remove_other old properties_path path apart)
      (λ same. ap (λ (f : Files). map.get f path) same ∙ get-insert_other old properties_path bytes path apart)
      more)
      is

  not_given_completed : (o : Option (List ℕ)) → NotGiven o (completed_path instant)
  not_given_completed None = tt
  not_given_completed (Some bytes) = completed_not_properties instant real.1.digits

  properties_before : (o : Option (List ℕ)) (base new : Files) → IsBase o old base → map.get new properties_path ≡ map.get base properties_path → AreAsGiven o old new
  properties_before None base new is same = same ∙ ap (λ (f : Files). map.get f properties_path) is
  properties_before (Some given) base new is same = λ bytes holds. ⊎_elim
      (λ as_was. inl (sym (same ∙ ap (λ (f : Files). map.get f properties_path) as_was) ∙ holds))
      (λ (more : (base ≡ with_file old properties_path None) ⊎ (base ≡ with_file old properties_path (Some given))). ⊎_elim
      (λ gone. let both : None ≡ Some bytes = sym (same ∙ ap (λ (f : Files). map.get f properties_path) gone ∙ get-remove_here old properties_path) ∙ holds in absurd (cc))
      (λ new_ones. inr (let both : Some given ≡ Some bytes = sym (same ∙ ap (λ (f : Files). map.get f properties_path) new_ones ∙ get-insert_here old properties_path given) ∙ holds in cc))
      more)
      is

  pub still_before : (earlier : AreEarlier old instant) (new : Files) → IsBefore properties old new → IsStill properties instant old new
  still_before earlier new before = record {
    orderly = before.stands.orderly;
    beside = beside_but before.base new (λ path apart given. base_but properties before.base before.is_base path given) before.stands.alike;
    none = before.stands.alike (completed_path instant) (in_timeline _) (completed_stays instant real.1.digits) ∙ base_but properties before.base before.is_base (completed_path instant) (not_given_completed properties) ∙ free instant real old earlier;
    properties = properties_before properties before.base new before.is_base (before.stands.alike properties_path (in_timeline _) properties_stay);
  }

  -- ---- behind

  prepared_but : (o : Option (List ℕ)) (path : List ℕ) → NotGiven o path → map.get (prepared o old) path ≡ map.get old path
  prepared_but None path apart = refl
  prepared_but (Some bytes) path apart = get-insert_other old properties_path bytes path apart

  properties_behind : (o : Option (List ℕ)) (new : Files) → map.get new properties_path ≡ map.get (prepared o old) properties_path → AreGivenNow o old new
  properties_behind None new same = same
  properties_behind (Some given) new same = same ∙ get-insert_here old properties_path given

  pub grown_alike : (text : List ℕ) (new : Files) → IsOrderly new → IsAlike (with_commit properties old instant text) new → IsGrown properties instant text old new
  grown_alike text new orderly alike = record {
    orderly = orderly;
    beside = beside_but (with_commit properties old instant text) new (λ path apart given. get-insert_other (prepared properties old) (completed_path instant) text path apart ∙ prepared_but properties path given) alike;
    there = alike (completed_path instant) (in_timeline _) (completed_stays instant real.1.digits) ∙ get-insert_here (prepared properties old) (completed_path instant) text;
    properties = properties_behind properties new (alike properties_path (in_timeline _) properties_stay ∙ get-insert_other (prepared properties old) (completed_path instant) text properties_path properties_apart);
  }

  pub grown_after : (text : List ℕ) (new : Files) → IsAfter (prepared properties old) instant text new → IsGrown properties instant text old new
  grown_after text new after = grown_alike text new after.stands.orderly after.stands.alike

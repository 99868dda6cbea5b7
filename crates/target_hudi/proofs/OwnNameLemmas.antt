-- Which names of instants in a timeline's folder are own, by what is read of them.
use Rattle.std.proofs.Common.{◌≡◌, ◌≢◌, ◌⊎◌, inl, inr, ⊎_elim, ◌==◌, ℕ, ◌+◌, Bool, true, false, not, List, [], ◌∷◌, ◌++◌, Contains, ◌↔◌, MatchOption, Option, Some, None, refl, sym, ap, subst, ◌∙◌, arith}
use Rattle.std.specs.Prelude.{ℤ, codes, is_some, option_map}
use Rattle.std.specs.Char.{is_ascii_digit}
use Rattle.std.specs.Cmp.Lexicographic.{slice_cmp}
use Rattle.std.specs.List.{AllByRecursion, list_all}
use Rattle.std.specs.Ordering.{nat_cmp}
use Rattle.std.specs.Str.{bytes_eq}
use Rattle.std.specs.declared.cmp.Ordering.{Ordering}
use Rattle.std.specs.declared.cmp.Ordering.TheVariants.{Less}
use Rattle.std.proofs.lemmas.Bool.{and_parts, false≢true}
use Rattle.std.proofs.lemmas.Bool.Decides.{nat_tests}
use Rattle.std.proofs.lemmas.List.Elements.{Contains-append_cases, Contains-append_left}
use Rattle.std.proofs.lemmas.Slice.Eq.{bytes_eq-Decides}
use Rattle.lake_basics.proofs.Truth.{never_both}
use Rattle.lake_store.specs.Disk.{Files, IsName, names_in}
use Rattle.lake_store.proofs.OrderLaws.{names_in_listed, names_in_sorted}
use Rattle.table_history.proofs.OrderLemmas.{not_itself}
use Rattle.table_history.proofs.RowListLemmas.{Contains-cases, all_at}
use Rattle.hudi_names.specs.Name.{IsRestOf, instant_of}
use Rattle.hudi_names.specs.Time.{IsDigits, IsSomeTime, IsTime}
use Rattle.hudi_names.specs.declared.name.Action.{Action}
use Rattle.hudi_names.specs.declared.name.Action.TheVariants.{ReplaceCommit, Unknown}
use Rattle.hudi_names.specs.declared.name.State.{State}
use Rattle.hudi_names.specs.declared.name.State.TheVariants as state
use Rattle.hudi_names.proofs.NameLemmas.{named_exactly}
use Rattle.hudi_groups.proofs.AnyLemmas.{any_from, any_to}
use Rattle.hudi_table.specs.Instants as table
use Rattle.hudi_table.specs.Instants.{has_name, instant_named, instant_with, instants_in, is_missing, time_of}
use Rattle.hudi_table.specs.declared.instants.InstantName.{InstantName}
use Rattle.hudi_table.proofs.FolderLaws.{SaysOf, instant_says}
use Rattle.hudi_table.proofs.UpLists.{Up, picked, sorted_up, up_picked}
use Rattle.hudi_table.proofs.TimeOrder.{before_dot}
use Rattle.hudi_commit.specs.Names.{Inflight, IsThere, Requested, Stage, claim_path, claims_folder, completed_name, completed_path, pending_name, timeline_folder, timeline_path}
use Rattle.hudi_commit.proofs.NameLaws.{completed_is_name, is_instant_of}
use Rattle.target_core.proofs.Texts.{turned}
use Rattle.target_hudi.specs.Inspecting.{IsFirstForeignName, LooksUpClaims}
use Rattle.target_hudi.specs.InspectSteps.{HasOwnForm, IsOwnInstant}
use Rattle.target_hudi.specs.Reading.{HasOwnNames, HasOwnProperties, IsOwnName, NamesInstant}

abbrev Instant : Type 0
Instant = ℕ × Action × State

abbrev cmp : List ℕ → List ℕ → Ordering
cmp = slice_cmp nat_cmp

-- ---- tests

pub time_decided : (o : Option ℤ) (b : Bool) (time : List ℕ) → b ≡ is_some o → MatchOption o ((ms : ℤ) → IsTime time ms → ⊥) (λ ms. IsTime time ms) → (b ≡ true) ↔ IsSomeTime time
time_decided None b time is none = (λ yes. absurd (false≢true (sym is ∙ yes)), λ real. absurd (none real.0 real.1))
time_decided (Some ms) b time is real = (λ yes. (ms, real), λ other. is)

pub name_decided : (names : List (List ℕ)) (name : List ℕ) (b : Bool) → b ≡ has_name names name → (b ≡ true) ↔ Contains names name
name_decided names name b is = (
  λ yes. let found = any_to (bytes_eq name) names (sym is ∙ yes) in subst (Contains names) (sym ((bytes_eq-Decides name found.0).0 found.2)) found.1,
  λ there. is ∙ any_from (bytes_eq name) names name there ((bytes_eq-Decides name name).1 refl),
)

-- ---- a time before the first dot

above_dot : (c : ℕ) → is_ascii_digit c ≡ true → (c == 46) ≡ false
above_dot c h = grind (arith, nat_tests)

digits_all : (t : List ℕ) → IsDigits t → list_all is_ascii_digit t ≡ true
digits_all t is = (and_parts _ (list_all is_ascii_digit t) (is_instant_of t is)).1

time_completed : (t : List ℕ) → IsDigits t → time_of (completed_name t) ≡ t
time_completed t is = before_dot t (codes "replacecommit") (digits_all t is)

time_pending : (s : Stage) (t : List ℕ) → IsDigits t → time_of (pending_name s t) ≡ t
time_pending Requested t is = before_dot t (codes "replacecommit.requested") (digits_all t is)
time_pending Inflight t is = before_dot t (codes "replacecommit.inflight") (digits_all t is)

-- ---- a name of a replacecommit

known : ReplaceCommit ≢ Unknown
known e = cc

by_rest : (time word rest name : List ℕ) (s : State) → name ≡ time ++ 46 ∷ rest → word ≡ codes "replacecommit" → IsRestOf word s rest → (name ≡ completed_name time) ⊎ ((g : Stage) × (name ≡ pending_name g time))
by_rest time word rest name state.Completed split is rest_is = inl (split ∙ ap (λ (r : List ℕ). time ++ 46 ∷ r) (rest_is ∙ is))
by_rest time word rest name state.Requested split is rest_is = inr (Requested, split ∙ ap (λ (r : List ℕ). time ++ 46 ∷ r) (rest_is ∙ ap (λ (w : List ℕ). w ++ codes ".requested") is))
by_rest time word rest name state.Inflight split is rest_is =
    ⊎_elim
    (λ commit. absurd (commit_apart (sym commit.0 ∙ is)))
    (λ other. inr (Inflight, split ∙ ap (λ (r : List ℕ). time ++ 46 ∷ r) (other.1 ∙ ap (λ (w : List ℕ). w ++ codes ".inflight") is)))
    rest_is
  where
    commit_apart : codes "commit" ≡ codes "replacecommit" → ⊥
    commit_apart e = cc

completed_says : (t : List ℕ) → IsDigits t → instant_of (completed_name t) ≡ Some (17, ReplaceCommit, state.Completed)
completed_says t is =
    (named_exactly (completed_name t) 17 ReplaceCommit state.Completed known).1
    (record { time = t; word = codes "replacecommit"; rest = codes "replacecommit"; parts = record { split = refl; form = inr is.len; numeral = digits_all t is }; len = is.len; named = refl; says = refl })

pending_says : (s : Stage) (t : List ℕ) → IsDigits t → (g : State) × (instant_of (pending_name s t) ≡ Some (17, ReplaceCommit, g))
pending_says Requested t is = (
  state.Requested,
  (named_exactly (pending_name Requested t) 17 ReplaceCommit state.Requested known).1
      (record { time = t; word = codes "replacecommit"; rest = codes "replacecommit.requested"; parts = record { split = refl; form = inr is.len; numeral = digits_all t is }; len = is.len; named = refl; says = refl }),
)
pending_says Inflight t is = (
  state.Inflight,
  (named_exactly (pending_name Inflight t) 17 ReplaceCommit state.Inflight known).1
      (record { time = t; word = codes "replacecommit"; rest = codes "replacecommit.inflight"; parts = record { split = refl; form = inr is.len; numeral = digits_all t is }; len = is.len; named = refl; says = inr ((λ e. cc e), refl) }),
)

abbrev action_in : Action → Option Instant → Action
action_in other (Some p) = p.1
action_in other None = other

abbrev instant : ℕ → Action → State → Option Instant
instant d a s = Some (d, a, s)

same_action : (d e : ℕ) (a b : Action) (s g : State) → instant d a s ≡ instant e b g → a ≡ b
same_action d e a b s g same = ap (action_in a) same

-- ---- what the folder's names tell

module _ (files : Files) where
  abbrev folder : List (List ℕ)
  folder = names_in files timeline_folder

  abbrev instants : List InstantName
  instants = instants_in folder

  in_folder : (name : List ℕ) → Contains folder name → IsName name × IsThere files (timeline_path name)
  in_folder name there = ((names_in_listed files timeline_folder).members name).0 there

  of_folder : (name : List ℕ) → IsName name → IsThere files (timeline_path name) → Contains folder name
  of_folder name proper there = ((names_in_listed files timeline_folder).members name).1 (proper, there)

  parts : (name : List ℕ) (o : Option Instant) (i : InstantName) → option_map (λ (p : Instant). instant_with folder name p.1 p.2) o ≡ Some i → (p : Instant) × (o ≡ Some p) × (instant_with folder name p.1 p.2 ≡ i)
  parts name None i is = cc
  parts name (Some p) i is = let same : instant_with folder name p.1 p.2 ≡ i = cc (is) in (p, refl, same)

  pub instant_at : (name : List ℕ) → NamesInstant files name → (i : InstantName) × Contains instants i × (i.name ≡ name)
  instant_at name is =
      let i = instant_with folder name is.says.1 is.state in
      (i, picked (instant_named folder) folder name i (of_folder name is.proper is.there) (ap (option_map (λ (p : Instant). instant_with folder name p.1 p.2)) is.says.2), refl)

  pub names_instant : (i : InstantName) → SaysOf folder i → NamesInstant files i.name
  names_instant i told = let at = in_folder i.name told.there in record { proper = at.0; there = at.1; state = i.state; says = (told.digits, i.action, told.says) }

  -- ---- in byte order

  rise : (n m : List ℕ) (i j : InstantName) → cmp n m ≡ Less → instant_named folder n ≡ Some i → instant_named folder m ≡ Some j → cmp i.name j.name ≡ Less
  rise n m i j less is_i is_j =
      let a = parts n (instant_of n) i is_i in
      let b = parts m (instant_of m) j is_j in
      let first : n ≡ i.name = ap (λ (k : InstantName). k.name) a.2 in
      let second : m ≡ j.name = ap (λ (k : InstantName). k.name) b.2 in
      subst (λ (x : List ℕ). cmp x j.name ≡ Less) first (subst (λ (x : List ℕ). cmp n x ≡ Less) second less)

  abbrev Below : InstantName → InstantName → Type 0
  Below i j = cmp i.name j.name ≡ Less

  up_instants : Up Below instants
  up_instants = up_picked (instant_named folder) (λ (n m : List ℕ). cmp n m ≡ Less) Below rise folder (sorted_up cmp folder (names_in_sorted files timeline_folder))

  up_behind : (front : List InstantName) (i : InstantName) (behind : List InstantName) → Up Below (front ++ i ∷ behind) → AllByRecursion (Below i) behind
  up_behind [] i behind up = up.0
  up_behind (j ∷ front) i behind up = up_behind front i behind up.1

  -- what comes before one of them is in front of it
  in_front : (front : List InstantName) (i : InstantName) (behind : List InstantName) → instants ≡ front ++ i ∷ behind → (j : InstantName) → Contains instants j → cmp j.name i.name ≡ Less → Contains front j
  in_front front i behind split j there less =
      let rest = up_behind front i behind (subst (Up Below) split up_instants) in
      ⊎_elim
      (λ before. before)
      (λ from.
      ⊎_elim
      (λ (same : i ≡ j). absurd (not_itself j.name (subst (λ (k : InstantName). cmp j.name k.name ≡ Less) same less)))
      (λ later. absurd (turned i.name j.name (all_at (Below i) behind j rest later) less))
      (Contains-cases i behind j from))
      (Contains-append_cases front (i ∷ behind) j (subst (λ (l : List InstantName). Contains l j) split there))

  -- ---- own names

  missing_not : (name : List ℕ) → is_missing folder (Some name) ≡ true → Contains folder name → ⊥
  missing_not name missing there = never_both (has_name folder name) missing ((name_decided folder name (has_name folder name) refl).1 there)

  not_missing : (name : List ℕ) → is_missing folder (Some name) ≡ false → Contains folder name
  not_missing name there = (name_decided folder name (has_name folder name) refl).0 (not_false (has_name folder name) there)
    where
      not_false : (b : Bool) → not b ≡ false → b ≡ true
      not_false true is = refl
      not_false false is = cc

  module _ (i : InstantName) (told : SaysOf folder i) where
    pub form_name : HasOwnForm i → (i.name ≡ completed_name i.time) ⊎ ((s : Stage) × (i.name ≡ pending_name s i.time))
    form_name form =
        let says : instant_of i.name ≡ Some (told.digits, ReplaceCommit, i.state) = subst (λ (a : Action). instant_of i.name ≡ Some (told.digits, a, i.state)) form.0 told.says in
        let n = (named_exactly i.name told.digits ReplaceCommit i.state known).0 says in
        let time : n.time ≡ i.time = sym (told.time ∙ ap time_of n.parts.split ∙ before_dot n.time n.rest n.parts.numeral) in
        subst (λ (t : List ℕ). (i.name ≡ completed_name t) ⊎ ((s : Stage) × (i.name ≡ pending_name s t))) time (by_rest n.time n.word n.rest i.name i.state n.parts.split n.named n.says)

    pending_is : HasOwnForm i → i.is_pending ≡ is_missing folder (Some (completed_name i.time))
    pending_is form = told.pending ∙ ap (λ (a : Action). is_missing folder (table.completed_name a i.time)) form.0

    pub pending_lacks : HasOwnForm i → i.is_pending ≡ true → IsThere files (completed_path i.time) → ⊥
    pending_lacks form pending there =
        missing_not (completed_name i.time) (sym (pending_is form) ∙ pending) (of_folder (completed_name i.time) (completed_is_name i.time form.1.1.digits) there)

    pub others_completed : HasOwnForm i → i.is_pending ≡ false → IsThere files (completed_path i.time)
    others_completed form other = (in_folder (completed_name i.time) (not_missing (completed_name i.time) (sym (pending_is form) ∙ other))).1

    pub own_name : IsOwnInstant files i → IsOwnName files i.name
    own_name own = (i.time, own.0.1, ⊎_elim (λ completed. inl completed) (λ pending. inr (pending.0, pending.1, by i.is_pending refl)) (form_name own.0))
      where
        by : (b : Bool) → i.is_pending ≡ b → IsThere files (claim_path i.time) ⊎ IsThere files (completed_path i.time)
        by true is = inl (own.1 is)
        by false is = inr (others_completed own.0 is)

    own_at : (t : List ℕ) → IsSomeTime t → (s : State) → time_of i.name ≡ t → instant_of i.name ≡ Some (17, ReplaceCommit, s) → HasOwnForm i
    own_at t real s time says = (same_action told.digits 17 i.action ReplaceCommit i.state s (sym told.says ∙ says), subst IsSomeTime (sym (told.time ∙ time)) real)

    pub own_instant : IsOwnName files i.name → IsOwnInstant files i
    own_instant (t, real, inl same) =
        let digits = real.1.digits in
        let time : time_of i.name ≡ t = ap time_of same ∙ time_completed t digits in
        let form = own_at t real state.Completed time (ap instant_of same ∙ completed_says t digits) in
        let here : i.name ≡ completed_name i.time = same ∙ ap completed_name (sym (told.time ∙ time)) in
        (form, λ pending. absurd (missing_not (completed_name i.time) (sym (pending_is form) ∙ pending) (subst (Contains folder) here told.there)))
    own_instant (t, real, inr (s, same, there)) =
        let digits = real.1.digits in
        let time : time_of i.name ≡ t = ap time_of same ∙ time_pending s t digits in
        let says = pending_says s t digits in
        let form = own_at t real says.0 time (ap instant_of same ∙ says.1) in
        let is : t ≡ i.time = sym (told.time ∙ time) in
        (form, λ pending. ⊎_elim (λ claimed. subst (λ (u : List ℕ). IsThere files (claim_path u)) is claimed) (λ done. absurd (pending_lacks form pending (subst (λ (u : List ℕ). IsThere files (completed_path u)) is done))) there)

  -- ---- the first name that isn't own

  module _ (front : List InstantName) (i : InstantName) (behind : List InstantName) (split : instants ≡ front ++ i ∷ behind) (own : (j : InstantName) → Contains front j → IsOwnInstant files j) where
    own_before : (other : List ℕ) → NamesInstant files other → cmp other i.name ≡ Less → IsOwnName files other
    own_before other names less =
        let j = instant_at other names in
        let less_j : cmp j.0.name i.name ≡ Less = ap (λ (n : List ℕ). cmp n i.name) j.2 ∙ less in
        let inside = in_front front i behind split j.0 j.1 less_j in
        subst (IsOwnName files) j.2 (own_name j.0 (instant_says folder j.0 j.1) (own j.0 inside))

    pub first_foreign : SaysOf folder i → HasOwnProperties files → (IsOwnInstant files i → ⊥) → (path : List ℕ) → path ≡ timeline_path i.name → IsFirstForeignName files path
    first_foreign told properties foreign path is = record {
      properties = properties;
      name = i.name;
      is = is;
      foreign = record { names = names_instant i told; foreign = λ is_own. foreign (own_instant i told is_own) };
      first = λ other is_foreign less. is_foreign.foreign (own_before other is_foreign.names less);
    }

    pub looks_up : SaysOf folder i → HasOwnProperties files → HasOwnForm i → i.is_pending ≡ true → LooksUpClaims files
    looks_up told properties form pending =
        ⊎_elim
        (λ (same : i.name ≡ completed_name i.time). absurd (pending_lacks i told form pending (subst (λ (n : List ℕ). IsThere files (timeline_path n)) same (in_folder i.name told.there).1)))
        (λ (named : (s : Stage) × (i.name ≡ pending_name s i.time)). record {
          properties = properties;
          stage = named.0;
          instant = i.time;
          time = form.1;
          pending = subst (NamesInstant files) named.1 (names_instant i told);
          lacking = pending_lacks i told form pending;
          before = λ other names less. own_before other names (ap (cmp other) named.1 ∙ less);
        })
        (form_name i told form)

  pub own_names : ((j : InstantName) → Contains instants j → IsOwnInstant files j) → HasOwnNames files
  own_names own name names =
      let j = instant_at name names in
      subst (IsOwnName files) j.2 (own_name j.0 (instant_says folder j.0 j.1) (own j.0 j.1))

-- ---- claims

pub claimed : (files : Files) (names : List (List ℕ)) (t : List ℕ) → names ≡ names_in files claims_folder → Contains names t → IsThere files (claim_path t)
claimed files names t are there = (((names_in_listed files claims_folder).members t).0 (subst (λ (l : List (List ℕ)). Contains l t) are there)).1

pub unclaimed : (files : Files) (names : List (List ℕ)) (t : List ℕ) → names ≡ names_in files claims_folder → IsDigits t → (Contains names t → ⊥) → IsThere files (claim_path t) → ⊥
unclaimed files names t are is none there =
    let proper : IsName t = (λ empty. no_digits t is empty, λ slash. (completed_is_name t is).1 (Contains-append_left t (codes ".replacecommit") 47 slash)) in
    none (subst (λ (l : List (List ℕ)). Contains l t) (sym are) (((names_in_listed files claims_folder).members t).1 (proper, there)))
  where
    no_digits : (s : List ℕ) → IsDigits s → s ≡ [] → ⊥
    no_digits [] digits empty = absurd (cc digits.len)
    no_digits (c ∷ s) digits empty = cc

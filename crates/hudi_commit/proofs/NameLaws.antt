-- The paths of a timeline's files are apart, since each path is read back as its name.
use Rattle.std.proofs.Common.{◌≡◌, ◌≢◌, inl, inr, ⊎_elim, ◌==◌, ℕ, ◌≤◌, Bool, true, false, not, ◌&&◌, ◌||◌, List, [], ◌∷◌, ◌++◌, length, take, drop, refl, sym, ◌∙◌, ap, subst, arith}
use Rattle.std.specs.Prelude.{Option, None, Some, Contains, if◌then◌else◌, codes}
use Rattle.std.specs.Char.{is_ascii_digit}
use Rattle.std.specs.List.{list_any, list_all}
use Rattle.std.specs.Str.{bytes_eq}
use Rattle.std.specs.Str.Parse.{AllDigits}
use Rattle.std.proofs.Math.Seq.{take-append_seam, drop-append_seam}
use Rattle.std.proofs.lemmas.Bool.{and_from, and_parts, eqb-true, false_from_ne_true}
use Rattle.std.proofs.lemmas.Bool.Decides.{nat_tests}
use Rattle.std.proofs.lemmas.List.Folds.{list_any-append, list_any_at}
use Rattle.std.proofs.lemmas.Str.Parse.{digit_at}
use Rattle.lake_store.specs.Disk.{behind, is_name, IsName}
use Rattle.hudi_names.specs.Name.{instant_of, IsInstantName}
use Rattle.hudi_names.specs.Time.{IsDigits}
use Rattle.hudi_names.specs.declared.name.Action.{Action}
use Rattle.hudi_names.specs.declared.name.Action.TheVariants as action
use Rattle.hudi_names.specs.declared.name.State.{State}
use Rattle.hudi_names.specs.declared.name.State.TheVariants as state
use Rattle.hudi_names.proofs.NameLemmas.{named_exactly}
use Rattle.hudi_commit.specs.Names.{Stage, Requested, Inflight, IsInstantIn, IsLeftover, claim_path, completed_name, completed_path, pending_name, pending_path, properties_path, staged_properties_path, suffix_of, timeline_path}

-- what a path is the name of
pub data Name : Type 0 where
  Properties : Name
  StagedProperties : Name
  Claim : (instant : List ℕ) → Name
  Pending : (stage : Stage) (instant : List ℕ) → Name
  Completed : (instant : List ℕ) → Name
  Other : Name

abbrev is_instant : List ℕ → Bool
is_instant text = (length text == 17) && list_all is_ascii_digit text

abbrev claim_name : List ℕ → Name
claim_name name =
    if is_instant name then Claim name
    else if bytes_eq name (codes "properties") then StagedProperties
    else Other

-- what a rest behind 17 digits makes of a name
abbrev instant_name : List ℕ → List ℕ → Name
instant_name instant rest =
    if bytes_eq rest (suffix_of Requested) then Pending Requested instant
    else if bytes_eq rest (suffix_of Inflight) then Pending Inflight instant
    else if bytes_eq rest (codes ".replacecommit") then Completed instant
    else Other

abbrev timeline_name : List ℕ → Name
timeline_name name =
    if is_instant (take 17 name) then instant_name (take 17 name) (drop 17 name)
    else if bytes_eq name (codes "hoodie.properties") then Properties
    else Other

abbrev folder_name : Option (List ℕ) → List ℕ → Name
folder_name (Some claim) name = claim_name claim
folder_name None name = timeline_name name

abbrev path_name : Option (List ℕ) → Name
path_name (Some name) = folder_name (behind (codes ".lakebridge/") name) name
path_name None = Other

abbrev pub name_of : List ℕ → Name
name_of path = path_name (behind (codes ".hoodie/") path)

-- ---- 17 digits
all_digits : (ds : List ℕ) → AllDigits 10 ds → list_all is_ascii_digit ds ≡ true
all_digits [] h = refl
all_digits (c ∷ cs) h = and_from (is_ascii_digit c) (list_all is_ascii_digit cs) (first c (digit_at (c ∷ cs) 0 h (omega arith))) (all_digits cs h.1)
  where
    first : (c : ℕ) → (48 ≤ c) × (c ≤ 57) → is_ascii_digit c ≡ true
    first c h = grind (arith, nat_tests, h.0, h.1)

pub is_instant_of : (t : List ℕ) → IsDigits t → is_instant t ≡ true
is_instant_of t h = and_from (length t == 17) (list_all is_ascii_digit t) (ap (λ n. n == 17) h.len) (all_digits t h.numeral.1)

pub name_of-properties : name_of properties_path ≡ Properties
name_of-properties = refl

pub name_of-staged_properties : name_of staged_properties_path ≡ StagedProperties
name_of-staged_properties = refl

pub name_of-claim : (t : List ℕ) → IsDigits t → name_of (claim_path t) ≡ Claim t
name_of-claim t is = ap (λ b. if b then Claim t else if bytes_eq t (codes "properties") then StagedProperties else Other) (is_instant_of t is)

module _ (rest : List ℕ) where
  pub seventeen : (t : List ℕ) → IsDigits t → (take 17 (t ++ rest) ≡ t) × (drop 17 (t ++ rest) ≡ rest)
  seventeen t is = (ap (λ n. take n (t ++ rest)) (sym is.len) ∙ take-append_seam t rest, ap (λ n. drop n (t ++ rest)) (sym is.len) ∙ drop-append_seam t rest)

  timeline_name-instant : (t : List ℕ) → IsDigits t → timeline_name (t ++ rest) ≡ instant_name t rest
  timeline_name-instant t is =
      let parts = seventeen t is in
      ap (λ b. if b then instant_name (take 17 (t ++ rest)) (drop 17 (t ++ rest))
      else if bytes_eq (t ++ rest) (codes "hoodie.properties") then Properties
      else Other) (ap is_instant parts.0 ∙ is_instant_of t is)
      ∙ ap (λ a. instant_name a (drop 17 (t ++ rest))) parts.0 ∙ ap (instant_name t) parts.1

  no_dot : (c : ℕ) → is_ascii_digit c ≡ true → (46 == c) ≡ false
  no_dot c is = false_from_ne_true (46 == c) (λ same. absurd (cc (ap is_ascii_digit (eqb-true 46 c same) ∙ is)))

  not_behind : (t : List ℕ) → (length t ≡ 17) → list_all is_ascii_digit t ≡ true → behind (codes ".lakebridge/") (t ++ rest) ≡ None
  not_behind [] len is = cc len
  not_behind (c ∷ t) len is =
      let digit = and_parts (is_ascii_digit c) (list_all is_ascii_digit t) is in
      ap (λ b. if b then behind (codes "lakebridge/") (t ++ rest) else None) (no_dot c digit.0)

  name_of-instant : (t : List ℕ) → IsDigits t → name_of (codes ".hoodie/" ++ (t ++ rest)) ≡ instant_name t rest
  name_of-instant t is = ap (λ o. folder_name o (t ++ rest)) (not_behind t is.len (all_digits t is.numeral.1)) ∙ timeline_name-instant t is

pub name_of-pending : (s : Stage) (t : List ℕ) → IsDigits t → name_of (pending_path s t) ≡ Pending s t
name_of-pending Requested t is = name_of-instant (suffix_of Requested) t is
name_of-pending Inflight t is = name_of-instant (suffix_of Inflight) t is

pub name_of-completed : (t : List ℕ) → IsDigits t → name_of (completed_path t) ≡ Completed t
name_of-completed t is = name_of-instant (codes ".replacecommit") t is

-- paths of two names are two paths
pub apart : (p q : List ℕ) (m n : Name) → name_of p ≡ m → name_of q ≡ n → m ≢ n → p ≢ q
apart p q m n pm qn differ same = differ (sym pm ∙ ap name_of same ∙ qn)

-- ---- leftovers
pub properties_stay : IsLeftover properties_path → ⊥
properties_stay = ⊎_elim (apart properties_path staged_properties_path Properties StagedProperties name_of-properties name_of-staged_properties (λ e. cc)) (⊎_elim
    (λ (c : (t : List ℕ) × IsDigits t × (properties_path ≡ claim_path t)). cc (ap name_of c.2 ∙ name_of-claim c.0 c.1))
    (λ (p : (s : Stage) × (t : List ℕ) × IsDigits t × (properties_path ≡ pending_path s t)). cc (ap name_of p.3 ∙ name_of-pending p.0 p.1 p.2)))

pub completed_stays : (u : List ℕ) → IsDigits u → IsLeftover (completed_path u) → ⊥
completed_stays u is = ⊎_elim (λ e. cc (sym (name_of-completed u is) ∙ ap name_of e)) (⊎_elim
    (λ (c : (t : List ℕ) × IsDigits t × (completed_path u ≡ claim_path t)). cc (sym (name_of-completed u is) ∙ ap name_of c.2 ∙ name_of-claim c.0 c.1))
    (λ (p : (s : Stage) × (t : List ℕ) × IsDigits t × (completed_path u ≡ pending_path s t)). cc (sym (name_of-completed u is) ∙ ap name_of p.3 ∙ name_of-pending p.0 p.1 p.2)))

pub staged_leftover : IsLeftover staged_properties_path
staged_leftover = inl refl

pub claim_leftover : (t : List ℕ) → IsDigits t → IsLeftover (claim_path t)
claim_leftover t is = inr (inl (t, is, refl))

pub pending_leftover : (s : Stage) (t : List ℕ) → IsDigits t → IsLeftover (pending_path s t)
pending_leftover s t is = inr (inr (s, t, is, refl))

-- ---- names of instants
pub state_of : Stage → State
state_of Requested = state.Requested
state_of Inflight = state.Inflight

pub not_completed : (s : Stage) → state_of s ≢ state.Completed
unfolding state_of
not_completed Requested e = absurd (cc e)
not_completed Inflight e = absurd (cc e)

says : (s : Stage) (t : List ℕ) → IsDigits t → IsInstantName (pending_name s t) 17 action.ReplaceCommit (state_of s)
unfolding state_of
says Requested t is = record { time = t; word = codes "replacecommit"; rest = codes "replacecommit.requested"; parts = record { split = refl; form = inr is.len; numeral = all_digits t is.numeral.1 }; len = is.len; named = refl; says = refl }
says Inflight t is = record { time = t; word = codes "replacecommit"; rest = codes "replacecommit.inflight"; parts = record { split = refl; form = inr is.len; numeral = all_digits t is.numeral.1 }; len = is.len; named = refl; says = inr ((λ e. cc e), refl) }

pub pending_instant : (s : Stage) (t : List ℕ) → IsDigits t → IsInstantIn (state_of s) (pending_name s t)
pending_instant s t is = (17, action.ReplaceCommit, (named_exactly (pending_name s t) 17 action.ReplaceCommit (state_of s) (λ e. cc e)).1 (says s t is))

pub completed_instant : (t : List ℕ) → IsDigits t → IsInstantIn state.Completed (completed_name t)
completed_instant t is = (
  17,
  action.ReplaceCommit,
  (named_exactly (completed_name t) 17 action.ReplaceCommit state.Completed (λ e. cc e)).1
      (record { time = t; word = codes "replacecommit"; rest = codes "replacecommit"; parts = record { split = refl; form = inr is.len; numeral = all_digits t is.numeral.1 }; len = is.len; named = refl; says = refl }),
)

-- an instant has no slash
no_slash : (t : List ℕ) → list_all is_ascii_digit t ≡ true → list_any (λ b. b == 47) t ≡ false
no_slash [] is = refl
no_slash (c ∷ t) is =
    let parts = and_parts (is_ascii_digit c) (list_all is_ascii_digit t) is in
    or_none (c == 47) (list_any (λ b. b == 47) t) (false_from_ne_true (c == 47) (λ same. absurd (cc (sym (ap is_ascii_digit (eqb-true c 47 same)) ∙ parts.0)))) (no_slash t parts.1)
  where
    or_none : (a b : Bool) → a ≡ false → b ≡ false → (a || b) ≡ false
    or_none a b p q = ap (λ x. x || b) p ∙ q

instant_file : (t suffix : List ℕ) → IsDigits t → list_any (λ b. b == 47) suffix ≡ false → IsName (t ++ suffix)
instant_file [] suffix is none = absurd (cc is.len)
instant_file (c ∷ t) suffix is none =
    let free : list_any (λ b. b == 47) (c ∷ t ++ suffix) ≡ false = list_any-append (λ b. b == 47) (c ∷ t) suffix ∙ ap (λ x. x || list_any (λ b. b == 47) suffix) (no_slash (c ∷ t) (all_digits (c ∷ t) is.numeral.1)) ∙ none in (
      λ e. absurd (cc e),
      λ within. absurd (cc (sym free ∙ list_any_at (λ b. b == 47) (c ∷ t ++ suffix) within.0 47 within.1 (ap (λ x. x == 47) within.2))),
    )

pub pending_is_name : (s : Stage) (t : List ℕ) → IsDigits t → IsName (pending_name s t)
pending_is_name Requested t is = instant_file t (suffix_of Requested) is refl
pending_is_name Inflight t is = instant_file t (suffix_of Inflight) is refl

pub completed_is_name : (t : List ℕ) → IsDigits t → IsName (completed_name t)
completed_is_name t is = instant_file t (codes ".replacecommit") is refl

pub instant_is_name : (t : List ℕ) → IsDigits t → is_name t ≡ true
instant_is_name [] is = absurd (cc is.len)
instant_is_name (c ∷ t) is = ap not (no_slash (c ∷ t) (all_digits (c ∷ t) is.numeral.1))

-- what lies in the claims' folder is no name of the timeline's
pub no_inner : (name rest : List ℕ) → IsName name → name ≢ codes ".lakebridge/" ++ rest
no_inner name rest is same = is.1 (subst (λ n. Contains n 47) (sym same) (11, omega arith, refl))

pub cancel : (a b : List ℕ) → timeline_path a ≡ timeline_path b → a ≡ b
cancel a b same = cc same

pub leftover_name : (name : List ℕ) → IsName name → IsLeftover (timeline_path name) → (s : Stage) × (t : List ℕ) × IsDigits t × (name ≡ pending_name s t)
leftover_name name is = ⊎_elim
    (λ e. absurd (no_inner name (codes "properties") is (cancel name (codes ".lakebridge/properties") e)))
    (⊎_elim
    (λ (c : (t : List ℕ) × IsDigits t × (timeline_path name ≡ claim_path t)). absurd (no_inner name c.0 is (cancel name (codes ".lakebridge/" ++ c.0) c.2)))
    (λ (p : (s : Stage) × (t : List ℕ) × IsDigits t × (timeline_path name ≡ pending_path s t)). (p.0, p.1, p.2, cancel name (pending_name p.0 p.1) p.3)))

-- a pending name tells its instant
pub same_instant : (s v : Stage) (t u : List ℕ) → IsDigits t → IsDigits u → pending_name s t ≡ pending_name v u → u ≡ t
same_instant s v t u is_t is_u same =
    let both : Pending s t ≡ Pending v u = sym (name_of-pending s t is_t) ∙ ap (λ n. name_of (timeline_path n)) same ∙ name_of-pending v u is_u in cc both

abbrev pub state_in : State → Option (ℕ × Action × State) → State
state_in other (Some p) = p.2
state_in other None = other

-- a completed instant's name is no leftover's
pub completed_no_leftover : (name : List ℕ) → IsName name → IsInstantIn state.Completed name → IsLeftover (timeline_path name) → ⊥
completed_no_leftover name named is leftover =
    let p = leftover_name name named leftover in
    let pending = pending_instant p.0 p.1 p.2 in
    not_completed p.0 (ap (state_in state.Completed) (sym pending.2 ∙ sym (ap instant_of p.3) ∙ is.2))

-- the properties' name is no instant's
pub not_properties_name : (state : State) (name : List ℕ) → IsInstantIn state name → timeline_path name ≢ properties_path
not_properties_name state name is same = absurd (cc (sym is.2 ∙ ap instant_of (cancel name (codes "hoodie.properties") same)))

pub not_staged_name : (name : List ℕ) → IsName name → timeline_path name ≢ staged_properties_path
not_staged_name name is same = no_inner name (codes "properties") is (cancel name (codes ".lakebridge/properties") same)

-- what is no leftover, and what is one of an instant, isn't the staged properties
pub not_staged : (q : List ℕ) → (IsLeftover q → ⊥) → q ≢ staged_properties_path
not_staged q free same = free (inl same)

pub claim_not_staged : (t : List ℕ) → IsDigits t → claim_path t ≢ staged_properties_path
claim_not_staged t is = apart (claim_path t) staged_properties_path (Claim t) StagedProperties (name_of-claim t is) name_of-staged_properties (λ e. cc)

pub claim_not_properties : (t : List ℕ) → IsDigits t → claim_path t ≢ properties_path
claim_not_properties t is = apart (claim_path t) properties_path (Claim t) Properties (name_of-claim t is) name_of-properties (λ e. cc)

pub pending_not_staged : (s : Stage) (t : List ℕ) → IsDigits t → pending_path s t ≢ staged_properties_path
pending_not_staged s t is = apart (pending_path s t) staged_properties_path (Pending s t) StagedProperties (name_of-pending s t is) name_of-staged_properties (λ e. cc)

pub pending_not_properties : (s : Stage) (t : List ℕ) → IsDigits t → pending_path s t ≢ properties_path
pending_not_properties s t is = apart (pending_path s t) properties_path (Pending s t) Properties (name_of-pending s t is) name_of-properties (λ e. cc)

pub completed_not_properties : (t : List ℕ) → IsDigits t → completed_path t ≢ properties_path
completed_not_properties t is = apart (completed_path t) properties_path (Completed t) Properties (name_of-completed t is) name_of-properties (λ e. cc)

-- Which completed instants a folder has: those that its names tell, and the same ones where a reader of the timeline sees the same.
use Rattle.std.proofs.Common.{◌≡◌, inr, ℕ, ◌+◌, ◌==◌, ◌&&◌, Bool, true, false, List, [], ◌∷◌, ◌++◌, cond, length, map, codes, Contains, Option, Some, None, refl, sym, ap, subst, ◌∙◌, arith}
use Rattle.std.specs.Prelude.{option_map}
use Rattle.std.specs.Char.{is_ascii_digit}
use Rattle.std.specs.List.{AllByRecursion, list_all}
use Rattle.std.specs.List.Sorted.{IsStrictlySortedBy}
use Rattle.std.specs.Ordering.{nat_cmp}
use Rattle.std.specs.Cmp.Lexicographic.{slice_cmp}
use Rattle.std.specs.Str.{bytes_eq}
use Rattle.std.specs.declared.cmp.Ordering.TheVariants.{Less}
use Rattle.std.specs.Bool.{Decides}
use Rattle.std.proofs.lemmas.Bool.{and_parts}
use Rattle.std.proofs.lemmas.Bool.Decides.{nat_tests, same_from_decides}
use Rattle.std.proofs.lemmas.Map.Views.{Contains-from_any}
use Rattle.std.proofs.lemmas.Slice.Eq.{bytes_eq-Decides}
use Rattle.lake_store.specs.Disk.{Files, IsName, names_in}
use Rattle.lake_store.proofs.OrderLaws.{names_in_listed, names_in_sorted}
use Rattle.table_history.specs.Rows.{IsInByteOrder}
use Rattle.table_history.proofs.Laws.{in_order_same}
use Rattle.hudi_names.specs.Name.{instant_of}
use Rattle.hudi_names.specs.Time.{IsDigits}
use Rattle.hudi_names.specs.declared.name.Action.{Action}
use Rattle.hudi_names.specs.declared.name.Action.TheVariants as action
use Rattle.hudi_names.specs.declared.name.State.{State}
use Rattle.hudi_names.specs.declared.name.State.TheVariants as state
use Rattle.hudi_names.proofs.NameLemmas.{named_exactly}
use Rattle.hudi_groups.proofs.AnyLemmas.{any_from}
use Rattle.hudi_table.specs.Instants.{completed_of, has_name, instant_named, instant_with, instants_in, is_commit, is_done, is_replacecommit, is_second, path_of, time_of}
use Rattle.hudi_table.specs.declared.instants.CompletedInstant.{CompletedInstant}
use Rattle.hudi_table.specs.declared.instants.InstantName.{InstantName}
use Rattle.hudi_table.proofs.UpLists.{Up, picked, picked_from, sorted_up, up_picked}
use Rattle.hudi_table.proofs.FolderLaws.{done_state}
use Rattle.hudi_table.proofs.TimeOrder.{before_dot}
use Rattle.hudi_commit.specs.Names.{IsInstantIn, IsThere, completed_name, timeline_folder}
use Rattle.hudi_commit.specs.Orderly.{IsSameTimeline}
use Rattle.hudi_commit.proofs.NameLaws.{is_instant_of}
use Rattle.hudi_commit.proofs.OrderlyLaws.{there}
use Rattle.target_hudi.specs.Reading.{completed_in}

-- ---- what a completed instant's name says

-- The folder has the instant's name, which is that of a completed commit or replacecommit.
pub record IsNamed (files : Files) (c : CompletedInstant) : Type 0 where
  pub proper : IsName c.name
  pub there : IsThere files (path_of c.name)
  pub digits : ℕ
  pub action : Action
  pub commit : is_commit action ≡ true
  pub says : instant_of c.name ≡ Some (digits, action, state.Completed)
  pub time : c.time ≡ time_of c.name
  pub second : c.is_second ≡ (is_replacecommit action && has_name (names_in files timeline_folder) (c.time ++ codes ".commit"))

abbrev Said : Type 0
Said = ℕ × Action × State

named_parts : (names : List (List ℕ)) (name : List ℕ) (o : Option Said) (i : InstantName) → option_map (λ (p : Said). instant_with names name p.1 p.2) o ≡ Some i → (p : Said) × (o ≡ Some p) × (instant_with names name p.1 p.2 ≡ i)
named_parts names name None i is = absurd (cc)
named_parts names name (Some p) i is = let same : instant_with names name p.1 p.2 ≡ i = cc in (p, refl, same)

abbrev as_completed : List (List ℕ) → InstantName → CompletedInstant
as_completed names i = record { name = i.name; time = i.time; is_second = is_second names i }

completed_parts : (names : List (List ℕ)) (i : InstantName) (c : CompletedInstant) → completed_of names i ≡ Some c → (is_commit i.action ≡ true) × (i.state ≡ state.Completed) × (as_completed names i ≡ c)
completed_parts names i c is = by (is_commit i.action && is_done i.state) refl is
  where
    by : (b : Bool) → (is_commit i.action && is_done i.state) ≡ b → cond b (Some (as_completed names i)) None ≡ Some c → (is_commit i.action ≡ true) × (i.state ≡ state.Completed) × (as_completed names i ≡ c)
    by true passes found =
        let parts = and_parts (is_commit i.action) (is_done i.state) passes in
        let same : as_completed names i ≡ c = cc in
        (parts.0, done_state i.state parts.1, same)
    by false fails found = absurd (cc)

module _ (files : Files) where
  abbrev names : List (List ℕ)
  names = names_in files timeline_folder

  named_of : (name : List ℕ) → Contains names name → (digits : ℕ) (a : Action) → instant_of name ≡ Some (digits, a, state.Completed) → is_commit a ≡ true → IsNamed files (as_completed names (instant_with names name a state.Completed))
  named_of name within digits a says commit =
      let listed = ((names_in_listed files timeline_folder).members name).0 within in
      record { proper = listed.0; there = listed.1; digits = digits; action = a; commit = commit; says = says; time = refl; second = refl }

  pub named : (c : CompletedInstant) → Contains (completed_in files) c → IsNamed files c
  named c within =
      let from = picked_from (completed_of names) (instants_in names) c within in
      let name = picked_from (instant_named names) names from.0 from.1 in
      let says = named_parts names name.0 (instant_of name.0) from.0 name.2 in
      let parts = completed_parts names from.0 c from.2 in
      let commit : is_commit says.0.1 ≡ true = ap (λ (i : InstantName). is_commit i.action) says.2 ∙ parts.0 in
      let done : says.0.2 ≡ state.Completed = ap (λ (i : InstantName). i.state) says.2 ∙ parts.1 in
      let is = named_of name.0 name.1 says.0.0 says.0.1 (says.1 ∙ ap (λ (s : State). Some (says.0.0, says.0.1, s)) done) commit in
      subst (IsNamed files) (ap (λ (s : State). as_completed names (instant_with names name.0 says.0.1 s)) (sym done) ∙ ap (as_completed names) says.2 ∙ parts.2) is

  pub from_name : (c : CompletedInstant) → IsNamed files c → Contains (completed_in files) c
  from_name c is =
      let within = ((names_in_listed files timeline_folder).members c.name).1 (is.proper, is.there) in
      let i = instant_with names c.name is.action state.Completed in
      let among = picked (instant_named names) names c.name i within (ap (option_map (λ (p : Said). instant_with names c.name p.1 p.2)) is.says) in
      let made : completed_of names i ≡ Some (as_completed names i) = ap (λ b. cond (b && is_done state.Completed) (Some (as_completed names i)) None) is.commit in
      let same : as_completed names i ≡ c = λ j. record { name = c.name; time = sym is.time j; is_second = (ap (λ t. is_replacecommit is.action && has_name names (t ++ codes ".commit")) (sym is.time) ∙ sym is.second) j } in
      subst (Contains (completed_in files)) same (picked (completed_of names) (instants_in names) i (as_completed names i) among made)

  -- a name that is there and is that of a completed commit or replacecommit
  pub from_there : (name : List ℕ) → IsName name → IsThere files (path_of name) → (digits : ℕ) (a : Action) → instant_of name ≡ Some (digits, a, state.Completed) → is_commit a ≡ true
      → (c : CompletedInstant) × Contains (completed_in files) c × (c.name ≡ name)
  from_there name proper found digits a says commit =
      let within = ((names_in_listed files timeline_folder).members name).1 (proper, found) in
      let c = as_completed names (instant_with names name a state.Completed) in
      (c, from_name c (named_of name within digits a says commit), refl)

  -- ---- the order of their names

  abbrev IsBefore : List ℕ → List ℕ → Type 0
  IsBefore n m = slice_cmp nat_cmp n m ≡ Less

  names_rise : (n m : List ℕ) (i j : InstantName) → IsBefore n m → instant_named names n ≡ Some i → instant_named names m ≡ Some j → IsBefore i.name j.name
  names_rise n m i j before is_i is_j =
      let a = ap (λ (k : InstantName). k.name) (named_parts names n (instant_of n) i is_i).2 in
      let b = ap (λ (k : InstantName). k.name) (named_parts names m (instant_of m) j is_j).2 in
      subst (λ x. IsBefore x j.name) a (subst (IsBefore n) b before)

  completed_rise : (i j : InstantName) (c d : CompletedInstant) → IsBefore i.name j.name → completed_of names i ≡ Some c → completed_of names j ≡ Some d → IsBefore c.name d.name
  completed_rise i j c d before is_c is_d =
      let a = ap (λ (k : CompletedInstant). k.name) (completed_parts names i c is_c).2 in
      let b = ap (λ (k : CompletedInstant). k.name) (completed_parts names j d is_d).2 in
      subst (λ x. IsBefore x d.name) a (subst (IsBefore i.name) b before)

  sorted_all : (name : List ℕ) (cs : List CompletedInstant) → AllByRecursion (λ (d : CompletedInstant). IsBefore name d.name) cs → AllByRecursion (λ m. IsBefore name m) (map (λ (d : CompletedInstant). d.name) cs)
  sorted_all name [] all = tt
  sorted_all name (c ∷ cs) all = (all.0, sorted_all name cs all.1)

  sorted : (cs : List CompletedInstant) → Up (λ (c d : CompletedInstant). IsBefore c.name d.name) cs → IsInByteOrder (map (λ (d : CompletedInstant). d.name) cs)
  unfolding IsStrictlySortedBy
  sorted [] up = tt
  sorted (c ∷ cs) up = (sorted_all c.name cs up.0, sorted cs up.1)

  pub in_byte_order : IsInByteOrder (map (λ (d : CompletedInstant). d.name) (completed_in files))
  in_byte_order =
      let up = sorted_up (slice_cmp nat_cmp) names (names_in_sorted files timeline_folder) in
      sorted (completed_in files) (up_picked (completed_of names) (λ (i j : InstantName). IsBefore i.name j.name) (λ (c d : CompletedInstant). IsBefore c.name d.name) completed_rise (instants_in names)
      (up_picked (instant_named names) IsBefore (λ (i j : InstantName). IsBefore i.name j.name) names_rise names up))

-- ---- a commit beside a replacecommit of the same time

known : action.ReplaceCommit ≡ action.Unknown → ⊥
known e = cc

commit_known : action.Commit ≡ action.Unknown → ⊥
commit_known e = cc

-- the completed name of 17 digits is that of a replacecommit
pub replaced : (digits : List ℕ) → IsDigits digits → instant_of (completed_name digits) ≡ Some (17, action.ReplaceCommit, state.Completed)
replaced digits is =
    let numeral = (and_parts (length digits == 17) (list_all is_ascii_digit digits) (is_instant_of digits is)).1 in
    (named_exactly (completed_name digits) 17 action.ReplaceCommit state.Completed known).1
    (record { time = digits; word = codes "replacecommit"; rest = codes "replacecommit"; parts = record { split = refl; form = inr is.len; numeral = numeral }; len = is.len; named = refl; says = refl })

above_dot : (c : ℕ) → is_ascii_digit c ≡ true → (c == 46) ≡ false
above_dot c is = grind (arith, nat_tests)

-- the name of the commit of a replacecommit's time
pub beside : (name : List ℕ) (digits : ℕ) → instant_of name ≡ Some (digits, action.ReplaceCommit, state.Completed) → instant_of (time_of name ++ codes ".commit") ≡ Some (digits, action.Commit, state.Completed)
beside name digits says =
    let is = (named_exactly name digits action.ReplaceCommit state.Completed known).0 says in
    let time : time_of name ≡ is.time = ap time_of is.parts.split ∙ before_dot is.time is.rest is.parts.numeral in
    ap (λ t. instant_of (t ++ codes ".commit")) time
    ∙ (named_exactly (is.time ++ codes ".commit") digits action.Commit state.Completed commit_known).1
    (record { time = is.time; word = codes "commit"; rest = codes "commit"; parts = record { split = refl; form = is.parts.form; numeral = is.parts.numeral }; len = is.len; named = refl; says = refl })

-- ---- a timeline that a reader sees the same

pub same_sym : (a b : Files) → IsSameTimeline a b → IsSameTimeline b a
same_sym a b same = record { completed = λ name proper is. sym (same.completed name proper is); properties = sym same.properties }

pub there_too : (a b : Files) → IsSameTimeline a b → (name : List ℕ) → IsName name → IsInstantIn state.Completed name → IsThere a (path_of name) → IsThere b (path_of name)
there_too a b same name proper is found = there a b (path_of name) (same.completed name proper is) found

pub has : (names : List (List ℕ)) (name : List ℕ) → Decides (has_name names name) (Contains names name)
has names name = (λ is. Contains-from_any (λ x y same. (bytes_eq-Decides x y).0 same) name names is, λ within. any_from (bytes_eq name) names name within ((bytes_eq-Decides name name).1 refl))

in_folder_too : (a b : Files) → IsSameTimeline a b → (name : List ℕ) → IsInstantIn state.Completed name → Contains (names_in a timeline_folder) name → Contains (names_in b timeline_folder) name
in_folder_too a b same name is within =
    let listed = ((names_in_listed a timeline_folder).members name).0 within in
    ((names_in_listed b timeline_folder).members name).1 (listed.0, there_too a b same name listed.0 is listed.1)

one_has : (a b : Files) → IsSameTimeline a b → (name : List ℕ) → IsInstantIn state.Completed name → has_name (names_in a timeline_folder) name ≡ has_name (names_in b timeline_folder) name
one_has a b same name is =
    let there_a = has (names_in a timeline_folder) name in
    same_from_decides (has_name (names_in a timeline_folder) name) (has_name (names_in b timeline_folder) name)
    (λ yes. in_folder_too a b same name is (there_a.0 yes), λ within. there_a.1 (in_folder_too b a (same_sym a b same) name is within))
    (has (names_in b timeline_folder) name)

second_too : (a b : Files) → IsSameTimeline a b → (name : List ℕ) (digits : ℕ) (act : Action) → instant_of name ≡ Some (digits, act, state.Completed)
    → (is_replacecommit act && has_name (names_in a timeline_folder) (time_of name ++ codes ".commit")) ≡ (is_replacecommit act && has_name (names_in b timeline_folder) (time_of name ++ codes ".commit"))
second_too a b same name digits action.ReplaceCommit says = one_has a b same (time_of name ++ codes ".commit") (digits, action.Commit, beside name digits says)
second_too a b same name digits action.Commit says = refl
second_too a b same name digits action.Ignored says = refl
second_too a b same name digits action.MergeOnRead says = refl
second_too a b same name digits action.Restore says = refl
second_too a b same name digits action.Unknown says = refl

pub named_too : (a b : Files) → IsSameTimeline a b → (c : CompletedInstant) → IsNamed a c → IsNamed b c
named_too a b same c is = record {
  proper = is.proper;
  there = there_too a b same c.name is.proper (is.digits, is.action, is.says) is.there;
  digits = is.digits;
  action = is.action;
  commit = is.commit;
  says = is.says;
  time = is.time;
  second = is.second
      ∙ ap (λ t. is_replacecommit is.action && has_name (names_in a timeline_folder) (t ++ codes ".commit")) is.time
      ∙ second_too a b same c.name is.digits is.action is.says
      ∙ ap (λ t. is_replacecommit is.action && has_name (names_in b timeline_folder) (t ++ codes ".commit")) (sym is.time);
}

pub within_too : (a b : Files) → IsSameTimeline a b → (c : CompletedInstant) → Contains (completed_in a) c → Contains (completed_in b) c
within_too a b same c within = from_name b c (named_too a b same c (named a c within))

-- the completed instants are the same
pub completed_same : (a b : Files) → IsSameTimeline a b → completed_in b ≡ completed_in a
completed_same a b same = in_order_same (λ (c : CompletedInstant). c.name) (completed_in b) (completed_in a) (in_byte_order b) (in_byte_order a) (λ c. (within_too b a (same_sym a b same) c, within_too a b same c))

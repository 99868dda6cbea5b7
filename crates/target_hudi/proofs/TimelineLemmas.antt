-- The completed instants of a folder's files, where one later than all others may come to them.
use Rattle.std.proofs.Common.{◌≡◌, ⊎_elim, ℕ, ◌==◌, ◌&&◌, Bool, true, false, List, [], ◌∷◌, ◌++◌, length, map, codes, Contains, Option, Some, None, refl, sym, ap, subst, ◌∙◌}
use Rattle.std.specs.Prelude.{is_some}
use Rattle.std.specs.FinMap as finite
use Rattle.std.specs.Char.{is_ascii_digit}
use Rattle.std.specs.Cmp.Lexicographic.{slice_cmp, texts_ties}
use Rattle.std.specs.List.{AllByRecursion, list_all}
use Rattle.std.specs.List.Sorted.{IsStrictlySortedBy}
use Rattle.std.specs.Ordering.{is_eq, nat_cmp, ordering_reverse}
use Rattle.std.specs.Str.{bytes_eq}
use Rattle.std.specs.declared.cmp.Ordering.{Ordering}
use Rattle.std.specs.declared.cmp.Ordering.TheVariants.{Less, Equal, Greater}
use Rattle.std.proofs.lemmas.Bool.{and_parts, false≢true}
use Rattle.std.proofs.lemmas.Bool.Decides.{same_from_decides}
use Rattle.std.proofs.lemmas.Cmp.{nat_list_cmp_total, tied_itself}
use Rattle.std.proofs.lemmas.List.Elements.{Contains-append_cases, Contains-append_left, Contains-append_right}
use Rattle.std.proofs.lemmas.Slice.Eq.{bytes_eq-Decides}
use Rattle.lake_store.specs.Disk.{Files, IsName, names_in}
use Rattle.lake_store.proofs.DiskLaws.{path_cases}
use Rattle.lake_store.proofs.OrderLaws.{names_in_listed}
use Rattle.table_history.specs.Rows.{IsInByteOrder}
use Rattle.table_history.proofs.Laws.{in_order_same}
use Rattle.table_history.proofs.RowListLemmas.{Contains-cases, Contains-head, Contains-none, Contains-one, Contains-tail, all_at}
use Rattle.hudi_names.specs.Name.{instant_of}
use Rattle.hudi_names.specs.Time.{IsDigits, IsSomeTime}
use Rattle.hudi_names.specs.declared.name.Action.{Action}
use Rattle.hudi_names.specs.declared.name.Action.TheVariants as action
use Rattle.hudi_names.specs.declared.name.State.{State}
use Rattle.hudi_names.specs.declared.name.State.TheVariants as state
use Rattle.hudi_groups.proofs.AnyLemmas.{any_none}
use Rattle.hudi_table.specs.Folder.{AreInOrder, IsEarlier, IsUpTo}
use Rattle.hudi_table.specs.Instants.{has_name, is_commit, is_replacecommit, time_of}
use Rattle.hudi_table.specs.declared.instants.CompletedInstant.{CompletedInstant}
use Rattle.hudi_table.proofs.FolderLaws.{order_of_folder}
use Rattle.hudi_table.proofs.TimeOrder.{before_dot, earlier_still, times_rise, up_to_itself}
use Rattle.hudi_commit.specs.Names.{IsInstantIn, IsThere, completed_name, completed_path, timeline_folder, timeline_path}
use Rattle.hudi_commit.proofs.NameLaws.{completed_is_name, is_instant_of}
use Rattle.hudi_commit.proofs.OrderlyLaws.{there, there_none}
use Rattle.target_hudi.specs.InstantLemmas.{beside, from_name, from_there, has, in_byte_order, named, replaced}
use Rattle.target_hudi.specs.Kept.{IsNewest}
use Rattle.target_hudi.specs.Reading.{completed_in}
use Rattle.lake_basics.proofs.Truth.{and_false}

-- ---- the newest one

up_to_last : (front : List CompletedInstant) (newest c : CompletedInstant) → AreInOrder (front ++ newest ∷ []) → Contains (front ++ newest ∷ []) c → IsUpTo c.time newest.time
up_to_last [] newest c order within = subst (λ (d : CompletedInstant). IsUpTo d.time newest.time) (Contains-one newest c within) (up_to_itself newest.time)
up_to_last (d ∷ front) newest c order within =
    ⊎_elim
    (λ (same : d ≡ c). subst (λ (e : CompletedInstant). IsUpTo e.time newest.time) same (all_at (λ (e : CompletedInstant). IsUpTo d.time e.time) (front ++ newest ∷ []) newest order.0 (Contains-append_right front (newest ∷ []) newest (Contains-head newest []))))
    (λ later. up_to_last front newest c order.1 later)
    (Contains-cases d (front ++ newest ∷ []) c within)

-- the completed instants are all earlier than this time
abbrev pub AreEarlier : Files → List ℕ → Type 0
AreEarlier files instant = (c : CompletedInstant) → Contains (completed_in files) c → IsEarlier c.time instant

pub all_earlier : (files : Files) (newest : Option (List ℕ)) (instant : List ℕ) → IsNewest files newest → ((last : List ℕ) → newest ≡ Some last → IsEarlier last instant) → AreEarlier files instant
all_earlier files None instant none later c within = absurd (Contains-none c (subst (λ (l : List CompletedInstant). Contains l c) none within))
all_earlier files (Some last) instant is later c within =
    let order = subst AreInOrder is.2 (order_of_folder files) in
    let up = up_to_last is.0 is.1 c order (subst (λ (l : List CompletedInstant). Contains l c) is.2 within) in
    earlier_still c.time is.1.time instant up (subst (λ (t : List ℕ). IsEarlier t instant) (sym is.3) (later last refl))

-- ---- names in order

never_itself : (a : List ℕ) → IsEarlier a a → ⊥
never_itself a earlier = let both : Less ≡ Equal = sym earlier ∙ tied_itself nat_list_cmp_total a in absurd (cc)

-- a name whose time is earlier comes before, where both are of commits or replacecommits
name_before : (n m : List ℕ) (dn dm : ℕ) (an am : Action) → instant_of n ≡ Some (dn, an, state.Completed) → is_commit an ≡ true → instant_of m ≡ Some (dm, am, state.Completed) → is_commit am ≡ true
    → IsEarlier (time_of n) (time_of m) → (o : Ordering) → slice_cmp nat_cmp n m ≡ o → IsEarlier n m
name_before n m dn dm an am says_n commit_n says_m commit_m earlier Less is = is
name_before n m dn dm an am says_n commit_n says_m commit_m earlier Equal is =
    let one : n ≡ m = (bytes_eq-Decides n m).0 (texts_ties n m ∙ ap is_eq is) in
    absurd (never_itself (time_of m) (subst (λ (t : List ℕ). IsEarlier (time_of t) (time_of m)) one earlier))
name_before n m dn dm an am says_n commit_n says_m commit_m earlier Greater is =
    let up = times_rise m n dm dn am an state.Completed state.Completed says_m commit_m says_n commit_n (nat_list_cmp_total.antisymm m n ∙ ap ordering_reverse is) in
    absurd (up (nat_list_cmp_total.antisymm (time_of m) (time_of n) ∙ ap ordering_reverse earlier))

abbrev name_in : CompletedInstant → List ℕ
name_in c = c.name

all_more : (x : List ℕ) (one : CompletedInstant) (cs : List CompletedInstant) → AllByRecursion (IsEarlier x) (map name_in cs) → IsEarlier x one.name → AllByRecursion (IsEarlier x) (map name_in (cs ++ one ∷ []))
all_more x one [] all last = (last, tt)
all_more x one (c ∷ cs) all last = (all.0, all_more x one cs all.1 last)

-- one instant more, whose name comes behind all others
order_more : (cs : List CompletedInstant) (one : CompletedInstant) → IsInByteOrder (map name_in cs) → ((c : CompletedInstant) → Contains cs c → IsEarlier c.name one.name) → IsInByteOrder (map name_in (cs ++ one ∷ []))
unfolding IsStrictlySortedBy
order_more [] one order last = (tt, tt)
order_more (c ∷ cs) one order last = (all_more c.name one cs order.0 (last c (Contains-head c cs)), order_more cs one order.1 (λ d within. last d (Contains-tail c cs d within)))

-- ---- the new instant

module _ (instant : List ℕ) (real : IsSomeTime instant) where
  digits : IsDigits instant
  digits = real.1.digits

  abbrev name : List ℕ
  name = completed_name instant

  says : instant_of name ≡ Some (17, action.ReplaceCommit, state.Completed)
  says = replaced instant digits

  time_is : time_of name ≡ instant
  time_is = before_dot instant (codes "replacecommit") (and_parts (length instant == 17) (list_all is_ascii_digit instant) (is_instant_of instant digits)).1

  -- the completed instant of that name
  abbrev pub new_one : CompletedInstant
  new_one = record { name = name; time = instant; is_second = false }

  -- where a file of that name is, that instant is completed
  pub found_completed : (files : Files) → IsThere files (completed_path instant) → (c : CompletedInstant) × Contains (completed_in files) c × (c.time ≡ instant)
  found_completed files there =
      let c = from_there files name (completed_is_name instant digits) there 17 action.ReplaceCommit says refl in
      (c.0, c.1, (named files c.0 c.1).time ∙ ap time_of c.2 ∙ time_is)

  abbrev replaces : Option (ℕ × Action × State) → Bool
  replaces None = false
  replaces (Some p) = is_replacecommit p.1

  -- no name of a completed commit is the new one
  commit_apart : (q : List ℕ) (d : ℕ) → instant_of q ≡ Some (d, action.Commit, state.Completed) → q ≡ name → ⊥
  commit_apart q d is same = false≢true (ap replaces (sym is ∙ ap instant_of same ∙ says))

  -- between two files that have the same completed instants but for the new one
  module _ (a b : Files) (same : (q : List ℕ) → IsName q → IsInstantIn state.Completed q → (q ≡ name → ⊥) → finite.get b (timeline_path q) ≡ finite.get a (timeline_path q)) where
    there_in : (q : List ℕ) → IsName q → IsInstantIn state.Completed q → (q ≡ name → ⊥) → IsThere a (timeline_path q) → IsThere b (timeline_path q)
    there_in q proper is apart found = there a b (timeline_path q) (same q proper is apart) found

    has_in : (q : List ℕ) (d : ℕ) → instant_of q ≡ Some (d, action.Commit, state.Completed) → Contains (names_in a timeline_folder) q → Contains (names_in b timeline_folder) q
    has_in q d is within =
        let listed = ((names_in_listed a timeline_folder).members q).0 within in
        ((names_in_listed b timeline_folder).members q).1 (listed.0, there_in q listed.0 (d, action.Commit, is) (commit_apart q d is) listed.1)

  module _ (a b : Files) (same : (q : List ℕ) → IsName q → IsInstantIn state.Completed q → (q ≡ name → ⊥) → finite.get b (timeline_path q) ≡ finite.get a (timeline_path q)) where
    back : (q : List ℕ) → IsName q → IsInstantIn state.Completed q → (q ≡ name → ⊥) → finite.get a (timeline_path q) ≡ finite.get b (timeline_path q)
    back q proper is apart = sym (same q proper is apart)

    second_in : (q : List ℕ) (d : ℕ) (act : Action) → instant_of q ≡ Some (d, act, state.Completed)
        → (is_replacecommit act && has_name (names_in a timeline_folder) (time_of q ++ codes ".commit")) ≡ (is_replacecommit act && has_name (names_in b timeline_folder) (time_of q ++ codes ".commit"))
    second_in q d action.ReplaceCommit is =
        let commit = beside q d is in
        let has_a = has (names_in a timeline_folder) (time_of q ++ codes ".commit") in
        same_from_decides (has_name (names_in a timeline_folder) (time_of q ++ codes ".commit")) (has_name (names_in b timeline_folder) (time_of q ++ codes ".commit"))
        (λ yes. has_in a b same (time_of q ++ codes ".commit") d commit (has_a.0 yes), λ within. has_a.1 (has_in b a back (time_of q ++ codes ".commit") d commit within))
        (has (names_in b timeline_folder) (time_of q ++ codes ".commit"))
    second_in q d action.Commit is = refl
    second_in q d action.Ignored is = refl
    second_in q d action.MergeOnRead is = refl
    second_in q d action.Restore is = refl
    second_in q d action.Unknown is = refl

    -- an instant of the one is one of the other
    within_in : (c : CompletedInstant) → (c.name ≡ name → ⊥) → Contains (completed_in a) c → Contains (completed_in b) c
    within_in c apart within =
        let is = named a c within in
        from_name b c (record {
          proper = is.proper;
          there = there_in a b same c.name is.proper (is.digits, is.action, is.says) apart is.there;
          digits = is.digits;
          action = is.action;
          commit = is.commit;
          says = is.says;
          time = is.time;
          second = is.second
              ∙ ap (λ t. is_replacecommit is.action && has_name (names_in a timeline_folder) (t ++ codes ".commit")) is.time
              ∙ second_in c.name is.digits is.action is.says
              ∙ ap (λ t. is_replacecommit is.action && has_name (names_in b timeline_folder) (t ++ codes ".commit")) (sym is.time);
        })

  module _ (old : Files) (earlier : AreEarlier old instant) where
    not_there : IsThere old (completed_path instant) → ⊥
    not_there there =
        let c = found_completed old there in
        never_itself instant (subst (λ (t : List ℕ). IsEarlier t instant) c.2 (earlier c.0 c.1))

    none_by : (o : Option (List ℕ)) → finite.get old (completed_path instant) ≡ o → finite.get old (completed_path instant) ≡ None
    none_by None is = is
    none_by (Some bytes) is = absurd (not_there (ap is_some is))

    -- nothing of that name is there
    pub free : finite.get old (completed_path instant) ≡ None
    free = none_by (finite.get old (completed_path instant)) refl

    -- it has another name than those before
    pub apart_old : (c : CompletedInstant) → Contains (completed_in old) c → c.name ≡ name → ⊥
    apart_old c within same = not_there (subst (λ (n : List ℕ). IsThere old (timeline_path n)) same (named old c within).there)

    -- and no commit of its time
    no_commit : Contains (names_in old timeline_folder) (time_of name ++ codes ".commit") → ⊥
    no_commit within =
        let q = time_of name ++ codes ".commit" in
        let listed = ((names_in_listed old timeline_folder).members q).0 within in
        let c = from_there old q listed.0 listed.1 17 action.Commit (beside name 17 says) refl in
        let time : c.0.time ≡ instant = (named old c.0 c.1).time ∙ ap time_of c.2 ∙ ap (λ (t : List ℕ). time_of (t ++ codes ".commit")) time_is ∙ before_dot instant (codes "commit") (and_parts (length instant == 17) (list_all is_ascii_digit instant) (is_instant_of instant digits)).1 in
        never_itself instant (subst (λ (t : List ℕ). IsEarlier t instant) time (earlier c.0 c.1))

    -- files in which that instant may be there too
    module _ (new : Files) (same : (q : List ℕ) → IsName q → IsInstantIn state.Completed q → (q ≡ name → ⊥) → finite.get new (timeline_path q) ≡ finite.get old (timeline_path q)) where
      again : (q : List ℕ) → IsName q → IsInstantIn state.Completed q → (q ≡ name → ⊥) → finite.get old (timeline_path q) ≡ finite.get new (timeline_path q)
      again q proper is apart = sym (same q proper is apart)

      -- it isn't there
      pub completed_alike : finite.get new (completed_path instant) ≡ None → completed_in new ≡ completed_in old
      completed_alike none = in_order_same name_in (completed_in new) (completed_in old) (in_byte_order new) (in_byte_order old) (λ c. (
        λ within. within_in new old again c (λ here. there_none new (completed_path instant) (subst (λ (n : List ℕ). IsThere new (timeline_path n)) here (named new c within).there) none) within,
        λ within. within_in old new same c (apart_old c within) within,
      ))

      none_beside : has_name (names_in new timeline_folder) (time_of name ++ codes ".commit") ≡ false
      none_beside = any_none (bytes_eq (time_of name ++ codes ".commit")) (names_in new timeline_folder) (λ x within here.
          let one : time_of name ++ codes ".commit" ≡ x = (bytes_eq-Decides (time_of name ++ codes ".commit") x).0 here in
          no_commit (has_in new old again (time_of name ++ codes ".commit") 17 (beside name 17 says) (subst (Contains (names_in new timeline_folder)) (sym one) within)))

      only_one : (c : CompletedInstant) → c.name ≡ name → Contains (completed_in new) c → new_one ≡ c
      only_one c here within =
          let is = named new c within in
          let time : c.time ≡ instant = is.time ∙ ap time_of here ∙ time_is in
          let none = ap (λ (t : List ℕ). has_name (names_in new timeline_folder) (t ++ codes ".commit")) (time ∙ sym time_is) ∙ none_beside in
          let second : c.is_second ≡ false = is.second ∙ ap (λ (b : Bool). is_replacecommit is.action && b) none ∙ and_false (is_replacecommit is.action) in
          (λ i. record { name = sym here i; time = sym time i; is_second = sym second i })

      one_within : IsThere new (completed_path instant) → Contains (completed_in new) new_one
      one_within there =
          let c = from_there new name (completed_is_name instant digits) there 17 action.ReplaceCommit says refl in
          subst (Contains (completed_in new)) (sym (only_one c.0 c.2 c.1)) c.1

      before_one : (c : CompletedInstant) → Contains (completed_in old) c → IsEarlier c.name name
      before_one c within =
          let is = named old c within in
          let time : IsEarlier (time_of c.name) (time_of name) = (λ i. slice_cmp nat_cmp (sym is.time i) (time_is i)) ∙ earlier c within in
          name_before c.name name is.digits 17 is.action action.ReplaceCommit is.says is.commit says refl time (slice_cmp nat_cmp c.name name) refl

      -- it is there
      pub completed_more : IsThere new (completed_path instant) → completed_in new ≡ completed_in old ++ new_one ∷ []
      completed_more there = in_order_same name_in (completed_in new) (completed_in old ++ new_one ∷ []) (in_byte_order new) (order_more (completed_in old) new_one (in_byte_order old) before_one) (λ c. (
        λ within. ⊎_elim
            (λ (here : c.name ≡ name). Contains-append_right (completed_in old) (new_one ∷ []) c (subst (Contains (new_one ∷ [])) (only_one c here within) (Contains-head new_one [])))
            (λ apart. Contains-append_left (completed_in old) (new_one ∷ []) c (within_in new old again c apart within))
            (path_cases c.name name),
        λ within. ⊎_elim
            (λ before. within_in old new same c (apart_old c before) before)
            (λ last. subst (Contains (completed_in new)) (Contains-one new_one c last) (one_within there))
            (Contains-append_cases (completed_in old) (new_one ∷ []) c within),
      ))

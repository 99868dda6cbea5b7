-- What says the newest lines of commits joins the commits.
use Rattle.std.proofs.Common.{◌≡◌, ◌↔◌, ◌⊎◌, inl, inr, ⊎_elim, ℕ, List, [], ◌∷◌, ◌++◌, Option, Some, None, true, false, cond, All, Contains, refl, sym, ap, subst, ◌∙◌}
use Rattle.std.specs.Prelude.{option_to_list}
use Rattle.std.specs.List.{AllByRecursion, IsDistinct}
use Rattle.std.specs.Map.{values_of}
use Rattle.std.specs.Str.{bytes_eq}
use Rattle.std.proofs.lemmas.Bool.{cases_Bool, cond-true, cond-false}
use Rattle.std.proofs.lemmas.List.Elements.{All-nil, All-cons, All-head, All-tail, Contains-append_cases, Contains-append_left, Contains-append_right}
use Rattle.std.proofs.lemmas.Map.Keys.{IsDistinct-head, IsDistinct-tail}
use Rattle.std.proofs.lemmas.Slice.Eq.{bytes_eq-Decides}
use Rattle.table_history.proofs.RowListLemmas.{Contains-none, Contains-head}
use Rattle.delta_log.specs.declared.action.LineAction.{LineAction}
use Rattle.delta_log.specs.declared.action.LineAction.TheVariants as action
use Rattle.delta_log.specs.declared.commit.DeltaCommit.{DeltaCommit}
use Rattle.delta_log.specs.declared.commit.FileAction.{FileAction}
use Rattle.delta_log.specs.Commit.{file_path, file_paths}
use Rattle.delta_log.specs.Judging.{lines_of}
use Rattle.delta_log.specs.Readable.{States, file_in, files, meta_in, path_in, paths, protocol_in}
use Rattle.delta_log.proofs.StepLemmas.{IsFair}
use Rattle.delta_live.specs.Live.{ActsOn}
use Rattle.delta_compaction.specs.declared.key.LineKey.{LineKey}
use Rattle.delta_compaction.specs.declared.key.LineKey.TheVariants as key
use Rattle.delta_compaction.specs.Agreeing.{SaysThese}
use Rattle.delta_compaction.specs.Law.{IsNewestAction, IsNewestPart, Joins}
use Rattle.delta_compaction.specs.Reconciled.{AreNewest}
use Rattle.delta_compaction.specs.Taken.{AreTaken}
use Rattle.delta_compaction.proofs.ActionLemmas.{about_meta, about_path, about_protocol, meta_about, path_about, protocol_about}
use Rattle.delta_compaction.proofs.LastLemmas.{AllTell, GiveLast, GiveNone, HasLast, LackAll, Matches, Tells, given, given_back, has_last, last_given, last_has, last_told, nothing_given, none_given, only_given, told_last}
use Rattle.delta_compaction.proofs.LawLemmas.{named_action}
use Rattle.delta_log.proofs.FilePathLemmas.{action_named}
use Rattle.delta_compaction.proofs.ReadsLemmas.{AllRead, Reads, all_actions, all_exact, all_reads, groups_of}
use Rattle.lake_basics.proofs.Texts.{bytes_itself}

-- ---- parts of commits: the protocol and the metadata

module _ {A : Type 0} (g : LineAction → Option A) (part : DeltaCommit → Option A) where
  abbrev HasPart : DeltaCommit → A → Type 0
  HasPart c a = part c ≡ Some a

  abbrev LacksPart : DeltaCommit → Type 0
  LacksPart c = part c ≡ None

  listed : (o : Option A) (a : A) → o ≡ Some a → Contains (option_to_list o) a
  listed None a e = absurd (cc)
  listed (Some x) a e = let same : x ≡ a = cc in subst (Contains (x ∷ [])) same (Contains-head x [])

  empty_none : (o : Option A) → option_to_list o ≡ [] → o ≡ None
  empty_none None e = refl
  empty_none (Some x) e = absurd (cc)

  tells_part : (c : DeltaCommit) (actions : List LineAction) → option_to_list (part c) ≡ given g actions → Tells (λ d a. part d ≡ Some a) (λ d. part d ≡ None) g c actions
  tells_part c actions e = record {
    has = λ a. (
      (λ last. given_back g (part c) a (subst (λ l. Contains l a) (sym e) (last_given g actions a last))),
      (λ is. only_given g actions a (sym e ∙ ap option_to_list is)),
    );
    lacks = (
      (λ none. empty_none (part c) (e ∙ nothing_given g actions none)),
      (λ is. none_given g actions (sym e ∙ ap option_to_list is)),
    );
  }

  lack_parts : (said : List DeltaCommit) → LackAll (λ d a. part d ≡ Some a) (λ d. part d ≡ None) said → All (λ c. part c ≡ None) said
  lack_parts [] lack = All-nil (λ c. part c ≡ None)
  lack_parts (c ∷ said) lack = All-cons (λ d. part d ≡ None) c said lack.0 (lack_parts said lack.1)

  parts_lack : (said : List DeltaCommit) → All (λ c. part c ≡ None) said → LackAll (λ d a. part d ≡ Some a) (λ d. part d ≡ None) said
  parts_lack [] all = tt
  parts_lack (c ∷ said) all = (All-head (λ d. part d ≡ None) c said all, parts_lack said (All-tail (λ d. part d ≡ None) c said all))

  pub newest_part : (said : List DeltaCommit) (a : A) → HasLast (λ d x. part d ≡ Some x) (λ d. part d ≡ None) said a → IsNewestPart part said a
  newest_part [] a has = absurd has
  newest_part (c ∷ said) a (inl rest) =
      let h = newest_part said a rest in record { front = c ∷ h.front; commit = h.commit; later = h.later; split = ap (λ l. c ∷ l) h.split; is = h.is; newest = h.newest }
  newest_part (c ∷ said) a (inr here) = record { front = []; commit = c; later = said; split = refl; is = here.0; newest = lack_parts said here.1 }

  part_last : (said front : List DeltaCommit) (c : DeltaCommit) (later : List DeltaCommit) (a : A) → said ≡ front ++ c ∷ later → part c ≡ Some a → All (λ d. part d ≡ None) later → HasLast (λ d x. part d ≡ Some x) (λ d. part d ≡ None) said a
  part_last [] [] c later a split is all = absurd (cc)
  part_last [] (f ∷ front) c later a split is all = absurd (cc)
  part_last (d ∷ said) [] c later a split is all =
      let same : d ≡ c = cc in
      let rest : said ≡ later = cc in
      inr (ap part same ∙ is, parts_lack said (subst (All (λ x. part x ≡ None)) (sym rest) all))
  part_last (d ∷ said) (f ∷ front) c later a split is all = let rest : said ≡ front ++ c ∷ later = cc in inl (part_last said front c later a rest is all)

  pub last_part : (said : List DeltaCommit) (a : A) → IsNewestPart part said a → HasLast (λ d x. part d ≡ Some x) (λ d. part d ≡ None) said a
  last_part said a h = part_last said h.front h.commit h.later a h.split h.is h.newest

  module _ (states : (c : DeltaCommit) (actions : List LineAction) → States actions c → option_to_list (part c) ≡ given g actions) where
    all_tell : (commits : List (List ℕ)) (said : List DeltaCommit) (groups : List (List LineAction)) → AllRead commits said groups → AllTell (λ d a. part d ≡ Some a) (λ d. part d ≡ None) g said groups
    all_tell [] [] [] h = tt
    all_tell (bytes ∷ commits) (c ∷ said) (actions ∷ groups) h = (tells_part c actions (states c actions h.1), all_tell commits said groups h.3)
    all_tell [] [] (actions ∷ groups) h = absurd h
    all_tell [] (c ∷ said) groups h = absurd h
    all_tell (bytes ∷ commits) [] groups h = absurd h
    all_tell (bytes ∷ commits) (c ∷ said) [] h = absurd h

    module _ (commits : List (List ℕ)) (said : List DeltaCommit) (taken : AreTaken commits said) (entries : List (LineKey × List ℕ)) (newest : AreNewest commits entries) (told : List LineAction) (reads : Reads (values_of entries) told)
        (k : LineKey) (matches : Matches g k) where
      pub same_part : (c : DeltaCommit) → option_to_list (part c) ≡ given g told → (a : A) → (part c ≡ Some a) ↔ IsNewestPart part said a
      same_part c e a =
          let groups = groups_of commits said taken in
          let tell = all_tell commits said groups.0 groups.1 in
          let lines = all_reads commits said groups.0 groups.1 in
          let exact = all_exact commits said taken in (
            (λ is. newest_part said a (has_last (λ d x. part d ≡ Some x) (λ d. part d ≡ None) g said groups.0 a tell
                (told_last g k matches commits entries newest (all_actions groups.0) lines exact told a reads (subst (λ l. Contains l a) e (listed (part c) a is))))),
            (λ h. given_back g (part c) a (subst (λ l. Contains l a) (sym e)
                (last_told g k matches commits entries newest (all_actions groups.0) lines exact told a reads (last_has (λ d x. part d ≡ Some x) (λ d. part d ≡ None) g said groups.0 a tell (last_part said a h))))),
          )

-- ---- file actions

-- the file action on a path
abbrev pub file_on : List ℕ → Option (List ℕ) → Option FileAction → Option FileAction
file_on q None f = None
file_on q (Some p) f = cond (bytes_eq p q) f None

abbrev pub file_at : List ℕ → LineAction → Option FileAction
file_at q a = file_on q (path_in a) (file_in a)

-- The action has a file action, on its path, or it has neither.
abbrev HasFile : LineAction → Type 0
HasFile a = ((f : FileAction) × (file_in a ≡ Some f) × (path_in a ≡ Some (file_path f))) ⊎ ((file_in a ≡ None) × (path_in a ≡ None))

pub has_file : (a : LineAction) → IsFair a → ((f : FileAction) × (file_in a ≡ Some f) × (path_in a ≡ Some (file_path f))) ⊎ ((file_in a ≡ None) × (path_in a ≡ None))
has_file action.NoAction fair = inr (refl, refl)
has_file (action.Protocol p) fair = inr (refl, refl)
has_file (action.MetaData m is_parquet) fair = inr (refl, refl)
has_file (action.Add uri values size (Some count) has_deletion_vector) fair = inl (_, refl, refl)
has_file (action.Add uri values size None has_deletion_vector) fair = absurd (fair.supported.1.1.0 refl)
has_file (action.Remove uri has_deletion_vector) fair = inl (_, refl, refl)

at_path : (a : LineAction) (f : FileAction) → file_in a ≡ Some f → path_in a ≡ Some (file_path f) → file_at (file_path f) a ≡ Some f
at_path a f is on = ap (λ o. file_on (file_path f) o (file_in a)) on ∙ cond-true (bytes_eq (file_path f) (file_path f)) (file_in a) None (bytes_itself (file_path f)) ∙ is

off_path : (q : List ℕ) (a : LineAction) (f : FileAction) → file_in a ≡ Some f → path_in a ≡ Some (file_path f) → bytes_eq (file_path f) q ≡ false → file_at q a ≡ None
off_path q a f is on other = ap (λ o. file_on q o (file_in a)) on ∙ cond-false (bytes_eq (file_path f) q) (file_in a) None other

no_file : (q : List ℕ) (a : LineAction) → path_in a ≡ None → file_at q a ≡ None
no_file q a none = ap (λ o. file_on q o (file_in a)) none

-- what the action gives at a path is its file action, and that is on the path
at_is : (q : List ℕ) (a : LineAction) (f : FileAction) → IsFair a → file_at q a ≡ Some f → (file_in a ≡ Some f) × (file_path f ≡ q)
at_is q a f fair e = ⊎_elim
    (λ (has : (h : FileAction) × (file_in a ≡ Some h) × (path_in a ≡ Some (file_path h))). ⊎_elim
    (λ holds.
    let on : file_path has.0 ≡ q = (bytes_eq-Decides (file_path has.0) q).0 holds in
    let given_here : file_at q a ≡ Some has.0 = ap (λ p. file_at p a) (sym on) ∙ at_path a has.0 has.1 has.2 in
    let same : has.0 ≡ f = cc in
    (has.1 ∙ ap (λ x. Some x) same, ap file_path (sym same) ∙ on))
    (λ fails. let none = off_path q a has.0 has.1 has.2 fails in absurd (cc))
    (cases_Bool (bytes_eq (file_path has.0) q)))
    (λ (has : (file_in a ≡ None) × (path_in a ≡ None)). let none = no_file q a has.1 in absurd (cc))
    (has_file a fair)

abbrev pub AllFair : List LineAction → Type 0
AllFair [] = Unit {0}
AllFair (a ∷ actions) = IsFair a × AllFair actions

pub fair_of : (lines : List (List ℕ)) (actions : List LineAction) → Reads lines actions → AllFair actions
fair_of [] [] h = tt
fair_of [] (a ∷ actions) h = absurd h
fair_of (line ∷ lines) [] h = absurd h
fair_of (line ∷ lines) (a ∷ actions) h = (h.1, fair_of lines actions h.2)

module _ (q : List ℕ) where
  -- the file actions on the path among all
  on_path : (actions : List LineAction) (f : FileAction) → AllFair actions → Contains (given (file_at q) actions) f → Contains (files actions) f × (file_path f ≡ q)
  on_path [] f fair there = absurd (Contains-none f there)
  on_path (a ∷ actions) f fair there = ⊎_elim
      (λ here. let is = at_is q a f fair.0 (given_back (file_at q) (file_at q a) f here) in
      (Contains-append_left (option_to_list (file_in a)) (files actions) f (subst (λ o. Contains (option_to_list o) f) (sym is.0) (Contains-head f [])), is.1))
      (λ later. let rest = on_path actions f fair.1 later in (Contains-append_right (option_to_list (file_in a)) (files actions) f rest.0, rest.1))
      (Contains-append_cases (option_to_list (file_at q a)) (given (file_at q) actions) f there)

  path_of : (actions : List LineAction) (f : FileAction) → AllFair actions → Contains (files actions) f → file_path f ≡ q → Contains (given (file_at q) actions) f
  path_of [] f fair there on = absurd (Contains-none f there)
  path_of (a ∷ actions) f fair there on = ⊎_elim
      (λ here. let is = given_back file_in (file_in a) f here in
      Contains-append_left (option_to_list (file_at q a)) (given (file_at q) actions) f (subst (λ o. Contains (option_to_list o) f) (sym (here_at a f fair.0 is on)) (Contains-head f [])))
      (λ later. Contains-append_right (option_to_list (file_at q a)) (given (file_at q) actions) f (path_of actions f fair.1 later on))
      (Contains-append_cases (option_to_list (file_in a)) (files actions) f there)
    where
      here_at : (a : LineAction) (f : FileAction) → IsFair a → file_in a ≡ Some f → file_path f ≡ q → file_at q a ≡ Some f
      here_at a f fair is on = ⊎_elim
          (λ (has : (h : FileAction) × (file_in a ≡ Some h) × (path_in a ≡ Some (file_path h))).
          let some : file_in a ≡ Some has.0 = has.1 in
          let same : has.0 ≡ f = cc in
          ap (λ p. file_at p a) (sym on) ∙ at_path a f is (has.2 ∙ ap (λ h. Some (file_path h)) same))
          (λ (has : (file_in a ≡ None) × (path_in a ≡ None)). let none = has.0 in absurd (cc))
          (has_file a fair)

  given_none : (actions : List LineAction) → ((f : FileAction) → Contains (given (file_at q) actions) f → ⊥) → GiveNone (file_at q) actions
  given_none [] fails = tt
  given_none (a ∷ actions) fails = (by (file_at q a) refl, given_none actions (λ f there. fails f (Contains-append_right (option_to_list (file_at q a)) (given (file_at q) actions) f there)))
    where
      by : (o : Option FileAction) → file_at q a ≡ o → file_at q a ≡ None
      by None is = is
      by (Some f) is = absurd (fails f (Contains-append_left (option_to_list (file_at q a)) (given (file_at q) actions) f (subst (λ o. Contains (option_to_list o) f) (sym is) (Contains-head f []))))

  -- no two actions are on one path, so that the last one on the path is the only one
  apart : (p : List ℕ) (actions : List LineAction) (f : FileAction) → AllFair actions → AllByRecursion (λ y. bytes_eq p y ≡ false) (paths actions) → p ≡ q → Contains (given (file_at q) actions) f → ⊥
  apart p [] f fair all same there = absurd (Contains-none f there)
  apart p (a ∷ actions) f fair all same there = ⊎_elim
      (λ (has : (h : FileAction) × (file_in a ≡ Some h) × (path_in a ≡ Some (file_path h))).
      let both = subst (λ o. AllByRecursion (λ y. bytes_eq p y ≡ false) (option_to_list o ++ paths actions)) has.2 all in
      ⊎_elim
      (λ here.
      let is = at_is q a f fair.0 (given_back (file_at q) (file_at q a) f here) in
      let on : file_path has.0 ≡ q = (let some : file_in a ≡ Some has.0 = has.1 in let other : file_in a ≡ Some f = is.0 in let eq : has.0 ≡ f = cc in ap file_path eq ∙ is.1) in
      let holds : bytes_eq p (file_path has.0) ≡ true = (bytes_eq-Decides p (file_path has.0)).1 (same ∙ sym on) in
      let fails : bytes_eq p (file_path has.0) ≡ false = both.0 in
      absurd (cc))
      (λ later. apart p actions f fair.1 both.1 same later)
      (Contains-append_cases (option_to_list (file_at q a)) (given (file_at q) actions) f there))
      (λ (has : (file_in a ≡ None) × (path_in a ≡ None)).
      let rest = subst (λ o. AllByRecursion (λ y. bytes_eq p y ≡ false) (option_to_list o ++ paths actions)) has.1 all in
      ⊎_elim
      (λ here. let is = given_back (file_at q) (file_at q a) f here in let none = no_file q a has.1 in absurd (cc))
      (λ later. apart p actions f fair.1 rest same later)
      (Contains-append_cases (option_to_list (file_at q a)) (given (file_at q) actions) f there))
      (has_file a fair.0)

  only_last : (actions : List LineAction) (f : FileAction) → AllFair actions → IsDistinct bytes_eq (paths actions) → Contains (given (file_at q) actions) f → GiveLast (file_at q) actions f
  only_last [] f fair distinct there = absurd (Contains-none f there)
  only_last (a ∷ actions) f fair distinct there = ⊎_elim
      (λ (has : (h : FileAction) × (file_in a ≡ Some h) × (path_in a ≡ Some (file_path h))).
      let cut = subst (λ o. IsDistinct bytes_eq (option_to_list o ++ paths actions)) has.2 distinct in
      ⊎_elim
      (λ here.
      let is = at_is q a f fair.0 (given_back (file_at q) (file_at q a) f here) in
      let some : file_in a ≡ Some has.0 = has.1 in
      let other : file_in a ≡ Some f = is.0 in
      let eq : has.0 ≡ f = cc in
      let on : file_path has.0 ≡ q = ap file_path eq ∙ is.1 in
      inr (given_back (file_at q) (file_at q a) f here, given_none actions (λ g later. apart (file_path has.0) actions g fair.1 (IsDistinct-head bytes_eq (file_path has.0) (paths actions) cut) on later)))
      (λ later. inl (only_last actions f fair.1 (IsDistinct-tail bytes_eq (file_path has.0) (paths actions) cut) later))
      (Contains-append_cases (option_to_list (file_at q a)) (given (file_at q) actions) f there))
      (λ (has : (file_in a ≡ None) × (path_in a ≡ None)).
      let cut = subst (λ o. IsDistinct bytes_eq (option_to_list o ++ paths actions)) has.1 distinct in
      ⊎_elim
      (λ here. let is = given_back (file_at q) (file_at q a) f here in let none = no_file q a has.1 in absurd (cc))
      (λ later. inl (only_last actions f fair.1 cut later))
      (Contains-append_cases (option_to_list (file_at q a)) (given (file_at q) actions) f there))
      (has_file a fair.0)

  -- ---- commits

  tells_files : (c : DeltaCommit) (actions : List LineAction) → AllFair actions → IsDistinct bytes_eq (paths actions) → c.files ≡ files actions → Tells (λ d f. Contains d.files f × (file_path f ≡ q)) (λ d. ActsOn q d → ⊥) (file_at q) c actions
  tells_files c actions fair distinct is = record {
    has = λ f. (
      (λ last. let on = on_path actions f fair (last_given (file_at q) actions f last) in (subst (λ l. Contains l f) (sym is) on.0, on.1)),
      (λ has. only_last actions f fair distinct (path_of actions f fair (subst (λ l. Contains l f) is has.0) has.1)),
    );
    lacks = (
      (λ none acts.
          let f = named_action q c.files acts in
          let there = path_of actions f.0 fair (subst (λ l. Contains l f.0) is f.1) f.2 in
          absurd (Contains-none f.0 (subst (λ l. Contains l f.0) (nothing_given (file_at q) actions none) there))),
      (λ idle. given_none actions (λ f there. let on = on_path actions f fair there in idle (subst (Contains (file_paths c.files)) on.1 (action_named c.files f (subst (λ l. Contains l f) (sym is) on.0))))),
    );
  }

  all_tell_files : (commits : List (List ℕ)) (said : List DeltaCommit) (groups : List (List LineAction)) → AllRead commits said groups → AllTell (λ d f. Contains d.files f × (file_path f ≡ q)) (λ d. ActsOn q d → ⊥) (file_at q) said groups
  all_tell_files [] [] [] h = tt
  all_tell_files (bytes ∷ commits) (c ∷ said) (actions ∷ groups) h = (tells_files c actions (fair_of (lines_of bytes) actions h.0) h.2 h.1.files, all_tell_files commits said groups h.3)
  all_tell_files [] [] (actions ∷ groups) h = absurd h
  all_tell_files [] (c ∷ said) groups h = absurd h
  all_tell_files (bytes ∷ commits) [] groups h = absurd h
  all_tell_files (bytes ∷ commits) (c ∷ said) [] h = absurd h

  idle_all : (said : List DeltaCommit) → LackAll (λ d (f : FileAction). Contains d.files f × (file_path f ≡ q)) (λ d. ActsOn q d → ⊥) said → All (λ c. ActsOn q c → ⊥) said
  idle_all [] lack = All-nil (λ c. ActsOn q c → ⊥)
  idle_all (c ∷ said) lack = All-cons (λ d. ActsOn q d → ⊥) c said lack.0 (idle_all said lack.1)

  all_idle : (said : List DeltaCommit) → All (λ c. ActsOn q c → ⊥) said → LackAll (λ d (f : FileAction). Contains d.files f × (file_path f ≡ q)) (λ d. ActsOn q d → ⊥) said
  all_idle [] all = tt
  all_idle (c ∷ said) all = (All-head (λ d. ActsOn q d → ⊥) c said all, all_idle said (All-tail (λ d. ActsOn q d → ⊥) c said all))

  action_of : (said : List DeltaCommit) (f : FileAction) → file_path f ≡ q → HasLast (λ d g. Contains d.files g × (file_path g ≡ q)) (λ d. ActsOn q d → ⊥) said f → IsNewestAction said f
  action_of [] f on has = absurd has
  action_of (c ∷ said) f on (inl rest) =
      let h = action_of said f on rest in record { front = c ∷ h.front; commit = h.commit; later = h.later; split = ap (λ l. c ∷ l) h.split; acts = h.acts; newest = h.newest }
  action_of (c ∷ said) f on (inr here) = record {
    front = [];
    commit = c;
    later = said;
    split = refl;
    acts = here.0.0;
    newest = subst (λ p. All (λ d. ActsOn p d → ⊥) said) (sym on) (idle_all said here.1);
  }

  last_at : (said front : List DeltaCommit) (c : DeltaCommit) (later : List DeltaCommit) (f : FileAction) → said ≡ front ++ c ∷ later → Contains c.files f → file_path f ≡ q → All (λ d. ActsOn q d → ⊥) later
      → HasLast (λ d g. Contains d.files g × (file_path g ≡ q)) (λ d. ActsOn q d → ⊥) said f
  last_at [] [] c later f split acts on all = absurd (cc)
  last_at [] (e ∷ front) c later f split acts on all = absurd (cc)
  last_at (d ∷ said) [] c later f split acts on all =
      let same : d ≡ c = cc in
      let rest : said ≡ later = cc in
      inr ((subst (λ x. Contains x.files f) (sym same) acts, on), all_idle said (subst (All (λ x. ActsOn q x → ⊥)) (sym rest) all))
  last_at (d ∷ said) (e ∷ front) c later f split acts on all = let rest : said ≡ front ++ c ∷ later = cc in inl (last_at said front c later f rest acts on all)

pub protocol_matches : Matches protocol_in key.Protocol
protocol_matches line a read fair = (about_protocol line a read, protocol_about line a read)

pub meta_matches : Matches meta_in key.MetaData
meta_matches line a read fair = ((λ about. let m = about_meta line a read about in (m.0, ap meta_in m.2)), meta_about line a read)

pub file_matches : (q : List ℕ) → Matches (file_at q) (key.File q)
file_matches q line a read fair = (
  (λ about. by_file (about_path line a read q about) (has_file a fair)),
  (λ f e. let is = at_is q a f fair e in path_about line a read q (there f is.0 is.1 (has_file a fair))),
)
  where
    by_file : path_in a ≡ Some q → ((f : FileAction) × (file_in a ≡ Some f) × (path_in a ≡ Some (file_path f))) ⊎ ((file_in a ≡ None) × (path_in a ≡ None)) → (f : FileAction) × (file_at q a ≡ Some f)
    by_file on (inl has) = let other = has.2 in let same : file_path has.0 ≡ q = cc in (has.0, ap (λ p. file_at p a) (sym same) ∙ at_path a has.0 has.1 has.2)
    by_file on (inr has) = let none = has.1 in absurd (cc)

    there : (f : FileAction) → file_in a ≡ Some f → file_path f ≡ q → ((h : FileAction) × (file_in a ≡ Some h) × (path_in a ≡ Some (file_path h))) ⊎ ((file_in a ≡ None) × (path_in a ≡ None)) → path_in a ≡ Some q
    there f is on (inl has) = let some : file_in a ≡ Some has.0 = has.1 in let same : has.0 ≡ f = cc in has.2 ∙ ap (λ h. Some (file_path h)) same ∙ ap (λ p. Some p) on
    there f is on (inr has) = let none = has.0 in absurd (cc)

pub joins_by : (commits : List (List ℕ)) (said : List DeltaCommit) → AreTaken commits said → (entries : List (LineKey × List ℕ)) → AreNewest commits entries → (told : List LineAction) → Reads (values_of entries) told → (c : DeltaCommit) → SaysThese told c → Joins said c
joins_by commits said taken entries newest told reads c says = record {
  protocol = same_part protocol_in (λ d. d.protocol) (λ d actions states. states.protocol) commits said taken entries newest told reads key.Protocol protocol_matches c says.protocol;
  meta = same_part meta_in (λ d. d.meta) (λ d actions states. states.meta) commits said taken entries newest told reads key.MetaData meta_matches c says.meta;
  files = λ f.
      let q = file_path f in
      let groups = groups_of commits said taken in
      let tell = all_tell_files q commits said groups.0 groups.1 in
      let lines = all_reads commits said groups.0 groups.1 in
      let exact = all_exact commits said taken in
      let fair = fair_of (values_of entries) told reads in (
        (λ there. action_of q said f refl (has_last (λ d g. Contains d.files g × (file_path g ≡ q)) (λ d. ActsOn q d → ⊥) (file_at q) said groups.0 f tell
            (told_last (file_at q) (key.File q) (file_matches q) commits entries newest (all_actions groups.0) lines exact told f reads (path_of q told f fair ((says.files f).0 there) refl)))),
        (λ h. (says.files f).1 (on_path q told f fair
            (last_told (file_at q) (key.File q) (file_matches q) commits entries newest (all_actions groups.0) lines exact told f reads
            (last_has (λ d g. Contains d.files g × (file_path g ≡ q)) (λ d. ActsOn q d → ⊥) (file_at q) said groups.0 f tell (last_at q said h.front h.commit h.later f h.split h.acts refl h.newest)))).0),
      );
}

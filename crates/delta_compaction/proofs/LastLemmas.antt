-- The last of the actions of commits that gives something, against the newest line and the newest commit.
use Rattle.std.proofs.Common.{◌≡◌, ◌↔◌, ◌⊎◌, inl, inr, ⊎_elim, ℕ, List, [], ◌∷◌, ◌++◌, Option, Some, None, Ok, All, Contains, refl, sym, ap, subst, ◌∙◌}
use Rattle.std.specs.Prelude.{flat_map, option_to_list}
use Rattle.std.specs.Map.{values_of}
use Rattle.std.proofs.lemmas.List.Elements.{All-nil, All-cons, All-head, All-tail, Contains-append_cases, Contains-append_left, Contains-append_right}
use Rattle.table_history.proofs.RowListLemmas.{Contains-none, Contains-one, Contains-head, Contains-tail, Contains-cases}
use Rattle.delta_log.specs.declared.action.LineAction.{LineAction}
use Rattle.delta_log.specs.declared.commit.DeltaCommit.{DeltaCommit}
use Rattle.delta_log.specs.Grammar.{line_action}
use Rattle.delta_log.proofs.StepLemmas.{IsFair}
use Rattle.delta_compaction.specs.declared.key.LineKey.{LineKey}
use Rattle.delta_compaction.specs.declared.kind.LineKind.TheVariants as kind
use Rattle.delta_compaction.specs.Kinds.{line_kind}
use Rattle.delta_compaction.specs.Lines.{IsAbout}
use Rattle.delta_compaction.specs.Reconciled.{AreNewest, IsNewestLine, all_lines}
use Rattle.delta_compaction.proofs.EntryLemmas.{KeepsLast, KeepsNone}
use Rattle.delta_compaction.proofs.ReadsLemmas.{Exacts, Reads, all_actions, exact_at, read_at}

-- ---- the last line that is kept as one about something is the newest line about it

none_about : (lines : List (List ℕ)) (k : LineKey) → Exacts lines → KeepsNone line_kind lines k → All (λ l. IsAbout l k → ⊥) lines
none_about [] k exact none = All-nil (λ l. IsAbout l k → ⊥)
none_about (line ∷ lines) k exact none = All-cons (λ l. IsAbout l k → ⊥) line lines (λ about. none.0 ((exact.0 k).1 about)) (none_about lines k exact.1 none.1)

none_kept : (lines : List (List ℕ)) (k : LineKey) → Exacts lines → All (λ l. IsAbout l k → ⊥) lines → KeepsNone line_kind lines k
none_kept [] k exact none = tt
none_kept (line ∷ lines) k exact none =
    ((λ kept. All-head (λ l. IsAbout l k → ⊥) line lines none ((exact.0 k).0 kept)), none_kept lines k exact.1 (All-tail (λ l. IsAbout l k → ⊥) line lines none))

newest_further : (line : List ℕ) (lines : List (List ℕ)) (k : LineKey) (w : List ℕ) → IsNewestLine lines k w → IsNewestLine (line ∷ lines) k w
newest_further line lines k w h = record { front = line ∷ h.front; later = h.later; split = ap (λ l. line ∷ l) h.split; about = h.about; newest = h.newest }

pub newest_line : (lines : List (List ℕ)) (k : LineKey) (w : List ℕ) → Exacts lines → KeepsLast line_kind lines k w → IsNewestLine lines k w
newest_line [] k w exact last = absurd last
newest_line (line ∷ lines) k w exact (inl last) = newest_further line lines k w (newest_line lines k w exact.1 last)
newest_line (line ∷ lines) k w exact (inr here) = record {
  front = [];
  later = lines;
  split = ap (λ l. l ∷ lines) (sym here.1);
  about = subst (λ l. IsAbout l k) (sym here.1) ((exact.0 k).0 here.0);
  newest = none_about lines k exact.1 here.2;
}

kept_at : (lines front : List (List ℕ)) (k : LineKey) (w : List ℕ) (later : List (List ℕ)) → lines ≡ front ++ w ∷ later → Exacts lines → IsAbout w k → All (λ l. IsAbout l k → ⊥) later → KeepsLast line_kind lines k w
kept_at [] [] k w later split exact about newest = absurd (cc)
kept_at [] (f ∷ front) k w later split exact about newest = absurd (cc)
kept_at (line ∷ lines) [] k w later split exact about newest =
    let same : line ≡ w = cc in
    let rest : lines ≡ later = cc in
    inr ((exact.0 k).1 (subst (λ l. IsAbout l k) (sym same) about), sym same, none_kept lines k exact.1 (subst (All (λ l. IsAbout l k → ⊥)) (sym rest) newest))
kept_at (line ∷ lines) (f ∷ front) k w later split exact about newest =
    let rest : lines ≡ front ++ w ∷ later = cc in
    inl (kept_at lines front k w later rest exact.1 about newest)

pub kept_line : (lines : List (List ℕ)) (k : LineKey) (w : List ℕ) → Exacts lines → IsNewestLine lines k w → KeepsLast line_kind lines k w
kept_line lines k w exact h = kept_at lines h.front k w h.later h.split exact h.about h.newest

-- ---- what the actions give

module _ {B : Type 0} (g : LineAction → Option B) where
  abbrev pub given : List LineAction → List B
  given actions = flat_map (λ a. option_to_list (g a)) actions

  abbrev pub GiveNone : List LineAction → Type 0
  GiveNone [] = Unit {0}
  GiveNone (a ∷ actions) = (g a ≡ None) × GiveNone actions

  abbrev pub GiveLast : List LineAction → B → Type 0
  GiveLast [] b = ⊥
  GiveLast (a ∷ actions) b = GiveLast actions b ⊎ ((g a ≡ Some b) × GiveNone actions)

  pub none_both : (hs bs : List LineAction) → GiveNone hs → GiveNone bs → GiveNone (hs ++ bs)
  none_both [] bs one other = other
  none_both (a ∷ hs) bs one other = (one.0, none_both hs bs one.1 other)

  pub none_parts : (hs bs : List LineAction) → GiveNone (hs ++ bs) → GiveNone hs × GiveNone bs
  none_parts [] bs none = (tt, none)
  none_parts (a ∷ hs) bs none = let rest = none_parts hs bs none.1 in ((none.0, rest.0), rest.1)

  pub last_parts : (hs bs : List LineAction) (b : B) → GiveLast (hs ++ bs) b → GiveLast bs b ⊎ (GiveLast hs b × GiveNone bs)
  last_parts [] bs b last = inl last
  last_parts (a ∷ hs) bs b (inl last) = ⊎_elim inl (λ (h : GiveLast hs b × GiveNone bs). inr (inl h.0, h.1)) (last_parts hs bs b last)
  last_parts (a ∷ hs) bs b (inr here) = let rest = none_parts hs bs here.1 in inr (inr (here.0, rest.0), rest.1)

  pub last_behind : (hs bs : List LineAction) (b : B) → GiveLast bs b → GiveLast (hs ++ bs) b
  last_behind [] bs b last = last
  last_behind (a ∷ hs) bs b last = inl (last_behind hs bs b last)

  pub last_before : (hs bs : List LineAction) (b : B) → GiveLast hs b → GiveNone bs → GiveLast (hs ++ bs) b
  last_before [] bs b last none = absurd last
  last_before (a ∷ hs) bs b (inl last) none = inl (last_before hs bs b last none)
  last_before (a ∷ hs) bs b (inr here) none = inr (here.0, none_both hs bs here.1 none)

  gives : (a : LineAction) (b : B) → g a ≡ Some b → Contains (option_to_list (g a)) b
  gives a b e = subst (λ o. Contains (option_to_list o) b) (sym e) (Contains-head b [])

  pub given_back : (o : Option B) (b : B) → Contains (option_to_list o) b → o ≡ Some b
  given_back None b there = absurd (Contains-none b there)
  given_back (Some x) b there = ap (λ y. Some y) (Contains-one x b there)

  pub last_given : (actions : List LineAction) (b : B) → GiveLast actions b → Contains (given actions) b
  last_given [] b last = absurd last
  last_given (a ∷ actions) b (inl last) = Contains-append_right (option_to_list (g a)) (given actions) b (last_given actions b last)
  last_given (a ∷ actions) b (inr here) = Contains-append_left (option_to_list (g a)) (given actions) b (gives a b here.0)

  pub none_given : (actions : List LineAction) → given actions ≡ [] → GiveNone actions
  none_given [] e = tt
  none_given (a ∷ actions) e = by (g a) refl (none_given actions) e
    where
      by : (o : Option B) → g a ≡ o → (given actions ≡ [] → GiveNone actions) → option_to_list o ++ given actions ≡ [] → GiveNone (a ∷ actions)
      by None is rest h = (is, rest h)
      by (Some x) is rest h = absurd (cc)

  pub nothing_given : (actions : List LineAction) → GiveNone actions → given actions ≡ []
  nothing_given [] none = refl
  nothing_given (a ∷ actions) none = ap (λ o. option_to_list o ++ given actions) none.0 ∙ nothing_given actions none.1

  -- actions that give one thing alone
  pub only_given : (actions : List LineAction) (b : B) → given actions ≡ b ∷ [] → GiveLast actions b
  only_given [] b e = absurd (cc)
  only_given (a ∷ actions) b e = by (g a) refl (only_given actions b) e
    where
      by : (o : Option B) → g a ≡ o → (given actions ≡ b ∷ [] → GiveLast actions b) → option_to_list o ++ given actions ≡ b ∷ [] → GiveLast (a ∷ actions) b
      by None is more h = inl (more h)
      by (Some x) is more h =
          let same : x ≡ b = cc in
          let rest : given actions ≡ [] = cc in
          inr (is ∙ ap (λ y. Some y) same, none_given actions rest)

  -- ---- lines about a key

  -- A line is about the key just where its action gives something.
  abbrev pub Matches : LineKey → Type 0
  Matches k = (line : List ℕ) (a : LineAction) → line_action line ≡ Ok a → IsFair a → (IsAbout line k → (b : B) × (g a ≡ Some b)) × ((b : B) → g a ≡ Some b → IsAbout line k)

  module _ (k : LineKey) (matches : Matches k) where
    none_actions : (lines : List (List ℕ)) (actions : List LineAction) → Reads lines actions → Exacts lines → KeepsNone line_kind lines k → GiveNone actions
    none_actions [] [] h exact none = tt
    none_actions [] (a ∷ actions) h exact none = absurd h
    none_actions (line ∷ lines) [] h exact none = absurd h
    none_actions (line ∷ lines) (a ∷ actions) h exact none = (by (g a) refl, none_actions lines actions h.2 exact.1 none.1)
      where
        by : (o : Option B) → g a ≡ o → g a ≡ None
        by None is = is
        by (Some b) is = absurd (none.0 ((exact.0 k).1 ((matches line a h.0 h.1).1 b is)))

    none_lines : (lines : List (List ℕ)) (actions : List LineAction) → Reads lines actions → Exacts lines → GiveNone actions → KeepsNone line_kind lines k
    none_lines [] [] h exact none = tt
    none_lines [] (a ∷ actions) h exact none = absurd h
    none_lines (line ∷ lines) [] h exact none = absurd h
    none_lines (line ∷ lines) (a ∷ actions) h exact none =
        ((λ kept. let b = (matches line a h.0 h.1).0 ((exact.0 k).0 kept) in let some = b.1 in let nothing = none.0 in absurd (cc)), none_lines lines actions h.2 exact.1 none.1)

    -- what the last line of the key gives
    abbrev GivesLast : List ℕ → List LineAction → Type 0
    GivesLast w actions = (a : LineAction) × (b : B) × (line_action w ≡ Ok a) × (g a ≡ Some b) × GiveLast actions b

    last_action : (lines : List (List ℕ)) (actions : List LineAction) (w : List ℕ) → Reads lines actions → Exacts lines → KeepsLast line_kind lines k w → GivesLast w actions
    last_action [] [] w h exact last = absurd last
    last_action [] (a ∷ actions) w h exact last = absurd h
    last_action (line ∷ lines) [] w h exact last = absurd h
    last_action (line ∷ lines) (a ∷ actions) w h exact (inl last) = let rest = last_action lines actions w h.2 exact.1 last in (rest.0, rest.1, rest.2, rest.3, inl rest.4)
    last_action (line ∷ lines) (a ∷ actions) w h exact (inr here) =
        let b = (matches line a h.0 h.1).0 ((exact.0 k).0 here.0) in
        (a, b.0, subst (λ l. line_action l ≡ Ok a) (sym here.1) h.0, b.1, inr (b.1, none_actions lines actions h.2 exact.1 here.2))

    abbrev LastLine : List (List ℕ) → B → Type 0
    LastLine lines b = (w : List ℕ) × (a : LineAction) × KeepsLast line_kind lines k w × (line_action w ≡ Ok a) × (g a ≡ Some b)

    last_line : (lines : List (List ℕ)) (actions : List LineAction) (b : B) → Reads lines actions → Exacts lines → GiveLast actions b → LastLine lines b
    last_line [] [] b h exact last = absurd last
    last_line [] (a ∷ actions) b h exact last = absurd h
    last_line (line ∷ lines) [] b h exact last = absurd h
    last_line (line ∷ lines) (a ∷ actions) b h exact (inl last) = let rest = last_line lines actions b h.2 exact.1 last in (rest.0, rest.1, inl rest.2, rest.3, rest.4)
    last_line (line ∷ lines) (a ∷ actions) b h exact (inr here) =
        (line, a, inr ((exact.0 k).1 ((matches line a h.0 h.1).1 b here.0), refl, none_lines lines actions h.2 exact.1 here.1), h.0, here.0)

    -- ---- the newest lines

    module _ (commits : List (List ℕ)) (entries : List (LineKey × List ℕ)) (newest : AreNewest commits entries) (actions : List LineAction) (reads : Reads (all_lines commits) actions) (exact : Exacts (all_lines commits)) where
      -- the entry that gives something
      abbrev EntryGives : List (LineKey × List ℕ) → B → Type 0
      EntryGives es b = (e : LineKey × List ℕ) × (a : LineAction) × Contains es e × (line_action e.1 ≡ Ok a) × (g a ≡ Some b)

      entry_of : (es : List (LineKey × List ℕ)) (told : List LineAction) (b : B) → Reads (values_of es) told → Contains (given told) b → EntryGives es b
      entry_of [] [] b h there = absurd (Contains-none b there)
      entry_of [] (a ∷ told) b h there = absurd h
      entry_of (e ∷ es) [] b h there = absurd h
      entry_of (e ∷ es) (a ∷ told) b h there = ⊎_elim
          (λ here. (e, a, Contains-head e es, h.0, given_back (g a) b here))
          (λ later. let rest = entry_of es told b h.2 later in (rest.0, rest.1, Contains-tail e es rest.0 rest.2, rest.3, rest.4))
          (Contains-append_cases (option_to_list (g a)) (given told) b there)

      entry_gives : (es : List (LineKey × List ℕ)) (told : List LineAction) (e : LineKey × List ℕ) (a : LineAction) (b : B) → Reads (values_of es) told → Contains es e → line_action e.1 ≡ Ok a → g a ≡ Some b → Contains (given told) b
      entry_gives [] told e a b h there read is = absurd (Contains-none e there)
      entry_gives (f ∷ es) [] e a b h there read is = absurd h
      entry_gives (f ∷ es) (c ∷ told) e a b h there read is = ⊎_elim
          (λ (here : f ≡ e).
          let one : line_action e.1 ≡ Ok c = ap (λ (x : LineKey × List ℕ). line_action x.1) (sym here) ∙ h.0 in
          let same : a ≡ c = cc in
          Contains-append_left (option_to_list (g c)) (given told) b (gives c b (ap g (sym same) ∙ is)))
          (λ later. Contains-append_right (option_to_list (g c)) (given told) b (entry_gives es told e a b h.2 later read is))
          (Contains-cases f es e there)

      -- an entry whose line is about the key has that key
      keyed : (e : LineKey × List ℕ) → Contains entries e → IsAbout e.1 k → e.0 ≡ k
      keyed e there about =
          let line = (newest.newest e.0 e.1).0 there in
          let is = exact_at line.front e.1 line.later (subst Exacts line.split exact) in
          let one : line_kind e.1 ≡ kind.Kept e.0 = (is e.0).1 line.about in
          let other : line_kind e.1 ≡ kind.Kept k = (is k).1 about in
          cc

      fair_entry : (e : LineKey × List ℕ) → Contains entries e → (a : LineAction) × (line_action e.1 ≡ Ok a) × IsFair a
      fair_entry e there = let line = (newest.newest e.0 e.1).0 there in read_at line.front e.1 line.later actions (subst (λ l. Reads l actions) line.split reads)

      pub told_last : (told : List LineAction) (b : B) → Reads (values_of entries) told → Contains (given told) b → GiveLast actions b
      told_last told b h there =
          let found = entry_of entries told b h there in
          let fair = fair_entry found.0 found.2 in
          let read : line_action found.0.1 ≡ Ok found.1 = found.3 in
          let again : line_action found.0.1 ≡ Ok fair.0 = fair.1 in
          let same : fair.0 ≡ found.1 = cc in
          let about = (matches found.0.1 found.1 read (subst IsFair same fair.2)).1 b found.4 in
          let key = keyed found.0 found.2 about in
          let line = (newest.newest found.0.0 found.0.1).0 found.2 in
          let last = kept_line (all_lines commits) k found.0.1 exact (subst (λ x. IsNewestLine (all_lines commits) x found.0.1) key line) in
          let is = last_action (all_lines commits) actions found.0.1 reads exact last in
          let third : line_action found.0.1 ≡ Ok is.0 = is.2 in
          let action_same : is.0 ≡ found.1 = cc in
          let one : g found.1 ≡ Some is.1 = ap g (sym action_same) ∙ is.3 in
          let other : g found.1 ≡ Some b = found.4 in
          let given_same : is.1 ≡ b = cc in
          subst (GiveLast actions) given_same is.4

      pub last_told : (told : List LineAction) (b : B) → Reads (values_of entries) told → GiveLast actions b → Contains (given told) b
      last_told told b h last =
          let found = last_line (all_lines commits) actions b reads exact last in
          let there = (newest.newest k found.0).1 (newest_line (all_lines commits) k found.0 exact found.2) in
          entry_gives entries told (k, found.0) found.1 b h there found.3 found.4

-- ---- commits one after another

module _ {B : Type 0} (Has : DeltaCommit → B → Type 0) (Lacks : DeltaCommit → Type 0) where
  abbrev pub LackAll : List DeltaCommit → Type 0
  LackAll [] = Unit {0}
  LackAll (c ∷ said) = Lacks c × LackAll said

  -- Of the commits that have something, the newest has this.
  abbrev pub HasLast : List DeltaCommit → B → Type 0
  HasLast [] b = ⊥
  HasLast (c ∷ said) b = HasLast said b ⊎ (Has c b × LackAll said)

  module _ (g : LineAction → Option B) where
    -- The commit has just what the last of its actions gives.
    pub record Tells (c : DeltaCommit) (actions : List LineAction) : Type 0 where
      pub has : (b : B) → GiveLast g actions b ↔ Has c b
      pub lacks : GiveNone g actions ↔ Lacks c

    abbrev pub AllTell : List DeltaCommit → List (List LineAction) → Type 0
    AllTell [] [] = Unit {0}
    AllTell (c ∷ said) (actions ∷ groups) = Tells c actions × AllTell said groups
    AllTell _ _ = ⊥

    lack_all : (said : List DeltaCommit) (groups : List (List LineAction)) → AllTell said groups → GiveNone g (all_actions groups) → LackAll said
    lack_all [] [] tell none = tt
    lack_all [] (actions ∷ groups) tell none = absurd tell
    lack_all (c ∷ said) [] tell none = absurd tell
    lack_all (c ∷ said) (actions ∷ groups) tell none = let parts = none_parts g actions (all_actions groups) none in (tell.0.lacks.0 parts.0, lack_all said groups tell.1 parts.1)

    give_none : (said : List DeltaCommit) (groups : List (List LineAction)) → AllTell said groups → LackAll said → GiveNone g (all_actions groups)
    give_none [] [] tell lack = tt
    give_none [] (actions ∷ groups) tell lack = absurd tell
    give_none (c ∷ said) [] tell lack = absurd tell
    give_none (c ∷ said) (actions ∷ groups) tell lack = none_both g actions (all_actions groups) (tell.0.lacks.1 lack.0) (give_none said groups tell.1 lack.1)

    pub has_last : (said : List DeltaCommit) (groups : List (List LineAction)) (b : B) → AllTell said groups → GiveLast g (all_actions groups) b → HasLast said b
    has_last [] [] b tell last = absurd last
    has_last [] (actions ∷ groups) b tell last = absurd tell
    has_last (c ∷ said) [] b tell last = absurd tell
    has_last (c ∷ said) (actions ∷ groups) b tell last = ⊎_elim
        (λ rest. inl (has_last said groups b tell.1 rest))
        (λ (here : GiveLast g actions b × GiveNone g (all_actions groups)). inr ((tell.0.has b).0 here.0, lack_all said groups tell.1 here.1))
        (last_parts g actions (all_actions groups) b last)

    pub last_has : (said : List DeltaCommit) (groups : List (List LineAction)) (b : B) → AllTell said groups → HasLast said b → GiveLast g (all_actions groups) b
    last_has [] groups b tell has = absurd has
    last_has (c ∷ said) [] b tell has = absurd tell
    last_has (c ∷ said) (actions ∷ groups) b tell (inl rest) = last_behind g actions (all_actions groups) b (last_has said groups b tell.1 rest)
    last_has (c ∷ said) (actions ∷ groups) b tell (inr here) = last_before g actions (all_actions groups) b ((tell.0.has b).1 here.0) (give_none said groups tell.1 here.1)

-- The text of the newest lines is a commit that can be read, and agrees with the commits.
use Rattle.std.proofs.Common.{◌≡◌, ◌⊎◌, inl, inr, ⊎_elim, ℕ, suc, ◌+◌, ◌≤◌, List, [], ◌∷◌, ◌++◌, length, Option, Some, None, true, false, cond, Less, Ok, All, Contains, refl, sym, ap, subst, ◌∙◌, arith}
use Rattle.std.specs.Prelude.{option_to_list}
use Rattle.std.specs.List.{AllByRecursion, IsDistinct, count_by}
use Rattle.std.specs.List.Sorted.{IsStrictlySortedBy}
use Rattle.std.specs.Map.{keys_of, values_of}
use Rattle.std.specs.Str.{bytes_eq}
use Rattle.std.proofs.lemmas.List.Sums.{sum_by-cons}
use Rattle.std.proofs.lemmas.Bool.{cases_Bool}
use Rattle.std.proofs.lemmas.Cmp.{tied_itself}
use Rattle.std.proofs.lemmas.List.{append-nil}
use Rattle.std.proofs.lemmas.List.Elements.{All-nil, All-cons, All-push}
use Rattle.std.proofs.lemmas.Map.Keys.{sorted_head, sorted_tail, IsDistinct-cons}
use Rattle.std.proofs.lemmas.Slice.Eq.{bytes_eq-Decides}
use Rattle.lake_basics.specs.declared.limits.TheConstants.{MAX_ACTIONS}
use Rattle.lake_basics.specs.Outcome.{each}
use Rattle.table_history.specs.First.{NoneOf}
use Rattle.table_history.proofs.RowListLemmas.{Contains-head, Contains-tail}
use Rattle.delta_log.specs.declared.action.LineAction.{LineAction}
use Rattle.delta_log.specs.declared.action.LineAction.TheVariants as action
use Rattle.delta_log.specs.declared.commit.DeltaCommit.{DeltaCommit}
use Rattle.delta_log.specs.declared.commit.FileAction.{FileAction}
use Rattle.delta_log.specs.declared.commit.MetaData.{MetaData}
use Rattle.delta_log.specs.declared.commit.Protocol.{Protocol}
use Rattle.delta_log.specs.Commit.{file_path, file_paths}
use Rattle.delta_log.specs.Grammar.{line_action}
use Rattle.delta_log.specs.Judging.{lines_of}
use Rattle.delta_log.specs.Readable.{AreReadable, HasLongPath, IsReadableCommit, NamesNoPath, ShowsOnLine, file_in, files, line_features, meta_in, metas, path_in, paths, protocol_in, protocols}
use Rattle.delta_log.proofs.EachLemmas.{each_push}
use Rattle.delta_log.proofs.FaultLemmas.{push_of}
use Rattle.delta_log.proofs.SaysLemmas.{says_each, reads_each as lines_read}
use Rattle.delta_log.proofs.StepLemmas.{IsFair}
use Rattle.delta_compaction.specs.declared.key.LineKey.{LineKey}
use Rattle.delta_compaction.specs.declared.key.LineKey.TheVariants as key
use Rattle.delta_compaction.specs.declared.kind.LineKind.TheVariants as kind
use Rattle.delta_compaction.specs.Agreeing.{Agrees, SaysThese}
use Rattle.delta_compaction.specs.Kinds.{IsOneLine, is_file, line_kind}
use Rattle.delta_compaction.specs.Lines.{IsAbout, key_order}
use Rattle.delta_compaction.specs.Reconciled.{AreNewest, text_of}
use Rattle.delta_compaction.specs.Taken.{AreTaken}
use Rattle.delta_compaction.proofs.ActionLemmas.{about_path, path_about}
use Rattle.delta_compaction.proofs.JoinLemmas.{has_file, meta_matches, protocol_matches}
use Rattle.delta_compaction.proofs.KeyLemmas.{key_total}
use Rattle.delta_compaction.proofs.LastLemmas.{Matches, given}
use Rattle.delta_compaction.proofs.ReadsLemmas.{Exact, Exacts, Reads, all_actions, all_exact, all_reads, exact_at, groups_of, read_at, reads_each}
use Rattle.delta_compaction.proofs.SplitLemmas.{line_of, lines_of_text}

abbrev Entries : Type 0
Entries = List (LineKey × List ℕ)

-- ---- entries with the actions of their lines

-- Each line is about its key, is kept as that alone, and has its action.
abbrev Tied : Entries → List LineAction → Type 0
Tied [] [] = Unit {0}
Tied [] (a ∷ told) = ⊥
Tied (e ∷ es) [] = ⊥
Tied (e ∷ es) (a ∷ told) = (line_action e.1 ≡ Ok a) × IsFair a × IsAbout e.1 e.0 × Exact e.1 × IsOneLine e.1 × Tied es told

abbrev HasTied : Entries → Type 0
HasTied es = (told : List LineAction) × Tied es told

module _ (commits : List (List ℕ)) (said : List DeltaCommit) (taken : AreTaken commits said) (entries : Entries) (newest : AreNewest commits entries) where
  tie : (es : Entries) → ((e : LineKey × List ℕ) → Contains es e → Contains entries e) → HasTied es
  tie [] among = ([], tt)
  tie (e ∷ es) among =
      let rest = tie es (λ x there. among x (Contains-tail e es x there)) in
      let line = (newest.newest e.0 e.1).0 (among e (Contains-head e es)) in
      let groups = groups_of commits said taken in
      let reads = all_reads commits said groups.0 groups.1 in
      let a = read_at line.front e.1 line.later (all_actions groups.0) (subst (λ l. Reads l (all_actions groups.0)) line.split reads) in
      let exact = exact_at line.front e.1 line.later (subst Exacts line.split (all_exact commits said taken)) in
      (a.0 ∷ rest.0, (a.1, a.2, line.about, exact, line_of commits line.front e.1 line.later line.split, rest.1))

  tied_all : HasTied entries
  tied_all = tie entries (λ e there. there)

tied_reads : (es : Entries) (told : List LineAction) → Tied es told → Reads (values_of es) told
tied_reads [] [] h = tt
tied_reads [] (a ∷ told) h = absurd h
tied_reads (e ∷ es) [] h = absurd h
tied_reads (e ∷ es) (a ∷ told) h = (h.0, h.1, tied_reads es told h.5)

tied_lines : (es : Entries) (told : List LineAction) → Tied es told → All IsOneLine (values_of es)
tied_lines [] [] h = All-nil IsOneLine
tied_lines [] (a ∷ told) h = absurd h
tied_lines (e ∷ es) [] h = absurd h
tied_lines (e ∷ es) (a ∷ told) h = All-cons IsOneLine e.1 (values_of es) h.4 (tied_lines es told h.5)

-- ---- keys that are over another

abbrev Over : LineKey → Entries → Type 0
Over k es = AllByRecursion (λ q. key_order k q ≡ Less) (keys_of es)

not_over : (k q : LineKey) → k ≡ q → key_order k q ≡ Less → ⊥
not_over k q same less = let tied = tied_itself key_total k in let itself = subst (λ x. key_order k x ≡ Less) (sym same) less in absurd (cc)

-- the key of a line that is about one thing
key_is : (e : LineKey × List ℕ) (k : LineKey) → Exact e.1 → IsAbout e.1 e.0 → IsAbout e.1 k → e.0 ≡ k
key_is e k exact about other =
    let one : line_kind e.1 ≡ kind.Kept e.0 = (exact e.0).1 about in
    let two : line_kind e.1 ≡ kind.Kept k = (exact k).1 other in
    cc

module _ {B : Type 0} (g : LineAction → Option B) (k : LineKey) (matches : Matches g k) where
  none_over : (low : LineKey) (es : Entries) (told : List LineAction) → low ≡ k → Over low es → Tied es told → given g told ≡ []
  none_over low [] [] is over h = refl
  none_over low [] (a ∷ told) is over h = absurd h
  none_over low (e ∷ es) [] is over h = absurd h
  none_over low (e ∷ es) (a ∷ told) is over h = by (g a) refl (none_over low es told is over.1 h.5)
    where
      by : (o : Option B) → g a ≡ o → given g told ≡ [] → option_to_list (g a) ++ given g told ≡ []
      by None e' rest = ap (λ o. option_to_list o ++ given g told) e' ∙ rest
      by (Some b) e' rest =
          let about = (matches e.1 a h.0 h.1).1 b e' in
          absurd (not_over low e.0 (is ∙ sym (key_is e k h.3 h.2 about)) over.0)

  few_given : (es : Entries) (told : List LineAction) → IsStrictlySortedBy key_order (keys_of es) → Tied es told → length (given g told) ≤ 1
  few_given [] [] sorted h = omega arith
  few_given [] (a ∷ told) sorted h = absurd h
  few_given (e ∷ es) [] sorted h = absurd h
  few_given (e ∷ es) (a ∷ told) sorted h = by (g a) refl (few_given es told (sorted_tail key_order e.0 (keys_of es) sorted) h.5)
    where
      by : (o : Option B) → g a ≡ o → length (given g told) ≤ 1 → length (option_to_list (g a) ++ given g told) ≤ 1
      by None e' rest = subst (λ o. length (option_to_list o ++ given g told) ≤ 1) (sym e') rest
      by (Some b) e' rest =
          let about = (matches e.1 a h.0 h.1).1 b e' in
          let key : e.0 ≡ k = key_is e k h.3 h.2 about in
          let none : given g told ≡ [] = none_over e.0 es told key (sorted_head key_order e.0 (keys_of es) sorted) h.5 in
          let one : option_to_list (g a) ++ given g told ≡ b ∷ [] = ap (λ o. option_to_list o ++ given g told) e' ∙ ap (λ l. b ∷ l) none in
          let len : length (option_to_list (g a) ++ given g told) ≡ 1 = ap length one in
          omega (arith, len)

-- ---- paths

path_over : (path : List ℕ) (es : Entries) (told : List LineAction) → Over (key.File path) es → Tied es told → AllByRecursion (λ y. bytes_eq path y ≡ false) (paths told)
path_over path [] [] over h = tt
path_over path [] (a ∷ told) over h = absurd h
path_over path (e ∷ es) [] over h = absurd h
path_over path (e ∷ es) (a ∷ told) over h = by (path_in a) refl (path_over path es told over.1 h.5)
  where
    by : (o : Option (List ℕ)) → path_in a ≡ o → AllByRecursion (λ y. bytes_eq path y ≡ false) (paths told) → AllByRecursion (λ y. bytes_eq path y ≡ false) (option_to_list (path_in a) ++ paths told)
    by None e' rest = subst (λ o. AllByRecursion (λ y. bytes_eq path y ≡ false) (option_to_list o ++ paths told)) (sym e') rest
    by (Some other) e' rest =
        let about = path_about e.1 a h.0 other e' in
        let named : e.0 ≡ key.File other = key_is e (key.File other) h.3 h.2 about in
        let apart : bytes_eq path other ≡ false = ⊎_elim
        (λ holds. absurd (not_over (key.File path) e.0 (ap (λ p. key.File p) ((bytes_eq-Decides path other).0 holds) ∙ sym named) over.0))
        (λ fails. fails)
        (cases_Bool (bytes_eq path other)) in
        subst (λ o. AllByRecursion (λ y. bytes_eq path y ≡ false) (option_to_list o ++ paths told)) (sym e') (apart, rest)

distinct_paths : (es : Entries) (told : List LineAction) → IsStrictlySortedBy key_order (keys_of es) → Tied es told → IsDistinct bytes_eq (paths told)
unfolding IsDistinct
distinct_paths [] [] sorted h = tt
distinct_paths [] (a ∷ told) sorted h = absurd h
distinct_paths (e ∷ es) [] sorted h = absurd h
distinct_paths (e ∷ es) (a ∷ told) sorted h = by (path_in a) refl (distinct_paths es told (sorted_tail key_order e.0 (keys_of es) sorted) h.5)
  where
    by : (o : Option (List ℕ)) → path_in a ≡ o → IsDistinct bytes_eq (paths told) → IsDistinct bytes_eq (option_to_list (path_in a) ++ paths told)
    by None e' rest = subst (λ o. IsDistinct bytes_eq (option_to_list o ++ paths told)) (sym e') rest
    by (Some path) e' rest =
        let about = path_about e.1 a h.0 path e' in
        let named : e.0 ≡ key.File path = key_is e (key.File path) h.3 h.2 about in
        let over = subst (λ k. Over k es) named (sorted_head key_order e.0 (keys_of es) sorted) in
        subst (λ o. IsDistinct bytes_eq (option_to_list o ++ paths told)) (sym e') (IsDistinct-cons bytes_eq path (paths told) (path_over path es told over h.5) rest)

abbrev HasFile : LineAction → Type 0
HasFile a = ((f : FileAction) × (file_in a ≡ Some f) × (path_in a ≡ Some (file_path f))) ⊎ ((file_in a ≡ None) × (path_in a ≡ None))

module _ (e : LineKey × List ℕ) (es : Entries) (a : LineAction) (told : List LineAction) (h : Tied (e ∷ es) (a ∷ told)) (rest : length (files told) ≡ count_by is_file (keys_of es)) where
  abbrev Counted : Type 0
  Counted = length (option_to_list (file_in a) ++ files told) ≡ count_by is_file (keys_of (e ∷ es))

  one_file : (f : FileAction) → file_in a ≡ Some f → is_file e.0 ≡ true → Counted
  one_file f some holds =
      let one : suc (length (files told)) ≡ 1 + count_by is_file (keys_of es) = omega (arith, rest) in
      ap (λ o. length (option_to_list o ++ files told)) some ∙ one ∙ ap (λ b. cond b 1 0 + count_by is_file (keys_of es)) (sym holds) ∙ sym (sum_by-cons (λ k. cond (is_file k) 1 0) e.0 (keys_of es))

  none_file : file_in a ≡ None → is_file e.0 ≡ false → Counted
  none_file nothing fails =
      let none : length (files told) ≡ 0 + count_by is_file (keys_of es) = omega (arith, rest) in
      ap (λ o. length (option_to_list o ++ files told)) nothing ∙ none ∙ ap (λ b. cond b 1 0 + count_by is_file (keys_of es)) (sym fails) ∙ sym (sum_by-cons (λ k. cond (is_file k) 1 0) e.0 (keys_of es))

  other_file : (k : LineKey) → e.0 ≡ k → is_file k ≡ false → HasFile a → Counted
  other_file k is fails (inr has) = none_file has.0 (ap is_file is ∙ fails)
  other_file k is fails (inl has) =
      let about = path_about e.1 a h.0 (file_path has.0) has.2 in
      let named : e.0 ≡ key.File (file_path has.0) = key_is e (key.File (file_path has.0)) h.3 h.2 about in
      let holds : is_file e.0 ≡ true = ap is_file named in
      let against : is_file e.0 ≡ false = ap is_file is ∙ fails in
      absurd (cc)

  count_key : (k : LineKey) → e.0 ≡ k → HasFile a → Counted
  count_key key.Protocol is has = other_file key.Protocol is refl has
  count_key key.MetaData is has = other_file key.MetaData is refl has
  count_key (key.Transaction app) is has = other_file (key.Transaction app) is refl has
  count_key (key.Domain domain) is has = other_file (key.Domain domain) is refl has
  count_key (key.File path) is (inl has) = one_file has.0 has.1 (ap is_file is)
  count_key (key.File path) is (inr has) =
      let some = about_path e.1 a h.0 path (subst (IsAbout e.1) is h.2) in
      let nothing = has.1 in
      absurd (cc)

-- as many lines with a file's key as file actions
count_files : (es : Entries) (told : List LineAction) → Tied es told → length (files told) ≡ count_by is_file (keys_of es)
count_files [] [] h = refl
count_files [] (a ∷ told) h = absurd h
count_files (e ∷ es) [] h = absurd h
count_files (e ∷ es) (a ∷ told) h = count_key e es a told h (count_files es told h.5) e.0 refl (has_file a h.1)

-- ---- the text

to_option : {A : Type 0} (xs : List A) → length xs ≤ 1 → (o : Option A) × (option_to_list o ≡ xs)
to_option [] few = (None, refl)
to_option (x ∷ []) few = (Some x, refl)
to_option (x ∷ y ∷ xs) few = absurd (omega (arith, few))

no_action : IsFair action.NoAction
no_action = record { uri = λ h. let none = h.1 in absurd (cc); supported = ((λ h. h), ((λ h. let none = h.1 in absurd (cc)), ((λ h. h), ((λ h. h), tt)))); short = λ h. let none = h.2 in absurd (cc) }

all_uris : (lines : List (List ℕ)) (told : List LineAction) → Reads lines told → All (λ a. NamesNoPath a → ⊥) told
all_uris [] [] h = All-nil (λ a. NamesNoPath a → ⊥)
all_uris [] (a ∷ told) h = absurd h
all_uris (line ∷ lines) [] h = absurd h
all_uris (line ∷ lines) (a ∷ told) h = All-cons (λ x. NamesNoPath x → ⊥) a told h.1.uri (all_uris lines told h.2)

all_supported : (lines : List (List ℕ)) (told : List LineAction) → Reads lines told → All (λ a. NoneOf (λ f. ShowsOnLine f a) line_features) told
all_supported [] [] h = All-nil (λ a. NoneOf (λ f. ShowsOnLine f a) line_features)
all_supported [] (a ∷ told) h = absurd h
all_supported (line ∷ lines) [] h = absurd h
all_supported (line ∷ lines) (a ∷ told) h = All-cons (λ x. NoneOf (λ f. ShowsOnLine f x) line_features) a told h.1.supported (all_supported lines told h.2)

all_short : (lines : List (List ℕ)) (told : List LineAction) → Reads lines told → All (λ a. HasLongPath a → ⊥) told
all_short [] [] h = All-nil (λ a. HasLongPath a → ⊥)
all_short [] (a ∷ told) h = absurd h
all_short (line ∷ lines) [] h = absurd h
all_short (line ∷ lines) (a ∷ told) h = All-cons (λ x. HasLongPath x → ⊥) a told h.1.short (all_short lines told h.2)

-- what a blank line more gives
blank_more : {B : Type 0} (g : LineAction → Option B) (told : List LineAction) → g action.NoAction ≡ None → given g (told ++ action.NoAction ∷ []) ≡ given g told
blank_more g told none = push_of g told action.NoAction ∙ ap (λ o. given g told ++ option_to_list o) none ∙ append-nil (given g told)

-- The text is read as a commit that says what the lines say.
pub record IsReadText (entries : List (LineKey × List ℕ)) (told : List LineAction) : Type 0 where
  pub reads : Reads (values_of entries) told
  pub commit : DeltaCommit
  pub readable : IsReadableCommit (text_of entries) commit
  pub says : SaysThese told commit

module _ (entries : Entries) (told : List LineAction) (sorted : IsStrictlySortedBy key_order (keys_of entries)) (tied : Tied entries told) where
  reads : Reads (values_of entries) told
  reads = tied_reads entries told tied

  protocol : (o : Option Protocol) × (option_to_list o ≡ protocols told)
  protocol = to_option (protocols told) (few_given protocol_in key.Protocol protocol_matches entries told sorted tied)

  meta : (o : Option MetaData) × (option_to_list o ≡ metas told)
  meta = to_option (metas told) (few_given meta_in key.MetaData meta_matches entries told sorted tied)

  abbrev all : List LineAction
  all = told ++ action.NoAction ∷ []

  text_readable : length (files told) ≤ MAX_ACTIONS → AreReadable (lines_of (text_of entries)) all
  unfolding line_action
  text_readable few =
      let lines : lines_of (text_of entries) ≡ values_of entries ++ [] ∷ [] = lines_of_text (values_of entries) (tied_lines entries told tied) in
      let one_protocol = few_given protocol_in key.Protocol protocol_matches entries told sorted tied in
      let one_meta = few_given meta_in key.MetaData meta_matches entries told sorted tied in
      record {
        grammar = record {
          says = says_each (lines_of (text_of entries)) all (ap (each line_action) lines ∙ each_push line_action (values_of entries) [] told action.NoAction (reads_each (values_of entries) told reads) refl);
          protocols = subst (λ l. length l ≤ 1) (sym (blank_more protocol_in told refl)) one_protocol;
          metas = subst (λ l. length l ≤ 1) (sym (blank_more meta_in told refl)) one_meta;
          uris = All-push (λ a. NamesNoPath a → ⊥) told action.NoAction (all_uris (values_of entries) told reads) no_action.uri;
          distinct = subst (IsDistinct bytes_eq) (sym (blank_more path_in told refl)) (distinct_paths entries told sorted tied);
        };
        supported = All-push (λ a. NoneOf (λ f. ShowsOnLine f a) line_features) told action.NoAction (all_supported (values_of entries) told reads) no_action.supported;
        short = All-push (λ a. HasLongPath a → ⊥) told action.NoAction (all_short (values_of entries) told reads) no_action.short;
        few = subst (λ l. length l ≤ MAX_ACTIONS) (sym (blank_more file_in told refl)) few;
      }

  text_says : (c : DeltaCommit) → IsReadableCommit (text_of entries) c → SaysThese told c
  unfolding line_action
  text_says c readable =
      let lines : lines_of (text_of entries) ≡ values_of entries ++ [] ∷ [] = lines_of_text (values_of entries) (tied_lines entries told tied) in
      let mine : each line_action (lines_of (text_of entries)) ≡ Ok (told ++ action.NoAction ∷ []) =
      ap (each line_action) lines ∙ each_push line_action (values_of entries) [] told action.NoAction (reads_each (values_of entries) told reads) refl in
      let theirs : each line_action (lines_of (text_of entries)) ≡ Ok readable.actions = lines_read (lines_of (text_of entries)) readable.actions readable.readable.grammar.says in
      let same : readable.actions ≡ told ++ action.NoAction ∷ [] = cc in
      record {
        protocol = readable.states.protocol ∙ ap protocols same ∙ blank_more protocol_in told refl;
        meta = readable.states.meta ∙ ap metas same ∙ blank_more meta_in told refl;
        files = λ f.
            let is = readable.states.files ∙ ap files same ∙ blank_more file_in told refl in
            ((λ there. subst (λ l. Contains l f) is there), (λ there. subst (λ l. Contains l f) (sym is) there));
      }

  abbrev text_commit : DeltaCommit
  text_commit = record { protocol = protocol.0; meta = meta.0; files = files told }

  text_read : length (files told) ≤ MAX_ACTIONS → IsReadText entries told
  text_read few = record {
    reads = reads;
    commit = text_commit;
    readable = record {
      actions = all;
      readable = text_readable few;
      states = record {
        protocol = protocol.1 ∙ sym (blank_more protocol_in told refl);
        meta = meta.1 ∙ sym (blank_more meta_in told refl);
        files = sym (blank_more file_in told refl);
      };
    };
    says = record { protocol = protocol.1; meta = meta.1; files = λ f. ((λ h. h), (λ h. h)) };
  }

-- the paths of the actions are those of the file actions
file_paths_are : (lines : List (List ℕ)) (told : List LineAction) → Reads lines told → paths told ≡ file_paths (files told)
file_paths_are [] [] h = refl
file_paths_are [] (a ∷ told) h = absurd h
file_paths_are (line ∷ lines) [] h = absurd h
file_paths_are (line ∷ lines) (a ∷ told) h = by (file_paths_are lines told h.2) (has_file a h.1)
  where
    by : paths told ≡ file_paths (files told) → HasFile a → option_to_list (path_in a) ++ paths told ≡ file_paths (option_to_list (file_in a) ++ files told)
    by rest (inl has) = ap (λ o. option_to_list o ++ paths told) has.2 ∙ ap (λ l. file_path has.0 ∷ l) rest ∙ ap (λ o. file_paths (option_to_list o ++ files told)) (sym has.1)
    by rest (inr has) = ap (λ o. option_to_list o ++ paths told) has.1 ∙ rest ∙ ap (λ o. file_paths (option_to_list o ++ files told)) (sym has.0)

-- The actions of the newest lines, and what they show of the text.
pub record HasTold (entries : List (LineKey × List ℕ)) : Type 0 where
  pub told : List LineAction
  pub reads : Reads (values_of entries) told
  pub distinct_files : IsDistinct bytes_eq (file_paths (files told))
  pub says : (c : DeltaCommit) → IsReadableCommit (text_of entries) c → SaysThese told c
  pub count : length (files told) ≡ count_by is_file (keys_of entries)
  pub text : length (files told) ≤ MAX_ACTIONS → IsReadText entries told

pub told_of : (commits : List (List ℕ)) (said : List DeltaCommit) → AreTaken commits said → (entries : List (LineKey × List ℕ)) → AreNewest commits entries → HasTold entries
told_of commits said taken entries newest =
    let tied = tied_all commits said taken entries newest in
    record {
      told = tied.0;
      reads = tied_reads entries tied.0 tied.1;
      distinct_files = subst (IsDistinct bytes_eq) (file_paths_are (values_of entries) tied.0 (tied_reads entries tied.0 tied.1)) (distinct_paths entries tied.0 newest.sorted tied.1);
      says = text_says entries tied.0 newest.sorted tied.1;
      count = count_files entries tied.0 tied.1;
      text = text_read entries tied.0 newest.sorted tied.1;
    }

-- a text of few file actions agrees
pub text_agrees : (commits : List (List ℕ)) (said : List DeltaCommit) → AreTaken commits said → (entries : List (LineKey × List ℕ)) → AreNewest commits entries → count_by is_file (keys_of entries) ≤ MAX_ACTIONS → Agrees (text_of entries) commits
text_agrees commits said taken entries newest few =
    let told = told_of commits said taken entries newest in
    let text = told.text (let count = told.count in omega (arith, count, few)) in
    record { commit = text.commit; readable = text.readable; entries = entries; newest = newest; actions = told.told; read = reads_each (values_of entries) told.told told.reads; says = text.says }

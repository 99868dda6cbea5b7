-- Reading line by line gives the commit that the lines together are, or the first line at fault.
use Rattle.std.proofs.Common.{◌≡◌, ⊎_elim, ℕ, ◌+◌, ◌<◌, ◌≤◌, List, [], ◌∷◌, ◌++◌, length, Option, Some, None, false, Result, Ok, Err, refl, sym, ap, subst, ◌∙◌, append_assoc, length-append, arith, All}
use Rattle.std.proofs.lemmas.Cmp.{nat_list_eq_equiv}
use Rattle.std.proofs.lemmas.Grind.{flat_map-append}
use Rattle.std.proofs.lemmas.List.{append-nil, map-append}
use Rattle.std.proofs.lemmas.List.Elements.{All-push, All-nil}
use Rattle.std.proofs.lemmas.Map.Keys.{IsDistinct-push, IsDistinct-from_apart}
use Rattle.std.specs.Prelude.{option_to_list, flat_map, IfOk, IfErr}
use Rattle.std.specs.List.{IsDistinct}
use Rattle.std.specs.Str.{bytes_eq}
use Rattle.lake_basics.specs.declared.limits.TheConstants.{MAX_ACTIONS}
use Rattle.lake_basics.specs.Outcome.{◌>>=◌, with_fault, each}
use Rattle.lake_basics.proofs.Lists.{all_middle}
use Rattle.lake_basics.proofs.Options.{same_options}
use Rattle.lake_basics.proofs.Texts.{front_distinct}
use Rattle.table_history.specs.declared.limit.LimitKind.{LimitKind}
use Rattle.table_history.specs.declared.limit.LimitKind.TheVariants as limits
use Rattle.delta_log.specs.declared.action.LineAction.{LineAction}
use Rattle.delta_log.specs.declared.action.LineAction.TheVariants as action
use Rattle.delta_log.specs.declared.commit.DeltaCommit.{DeltaCommit}
use Rattle.delta_log.specs.declared.commit.FileAction.{FileAction}
use Rattle.delta_log.specs.declared.error.DeltaError.{DeltaError}
use Rattle.delta_log.specs.declared.error.DeltaError.TheVariants as errors
use Rattle.delta_log.specs.declared.error.Fault.{Fault}
use Rattle.delta_log.specs.declared.error.LineFault.{LineFault}
use Rattle.delta_log.specs.Commit.{file_path, file_paths}
use Rattle.delta_log.specs.Grammar.{line_action}
use Rattle.delta_log.specs.Judging.{acts_on, with_action, with_line, with_lines, judged, at_line, error_at, no_lines, lines_of, commit_of, Answers}
use Rattle.table_history.specs.First.{IsFirst, NoneOf}
use Rattle.table_history.proofs.FirstLemmas.{none_first, first_in}
use Rattle.delta_log.specs.Readable.{States, protocol_in, meta_in, path_in, file_in, protocols, metas, paths, files, NamesNoPath, ShowsOnLine, line_features, HasLongPath, PassesOnLine, line_limits, AreLinesInGrammar, AreReadable, IsReadableCommit, IsMisplaced, ActsAgain, IsAtFault, IsFirstFault, IsRefusal, IsGrammarError}
use Rattle.delta_log.proofs.EachLemmas.{each_push, cut_each, Cuts}
use Rattle.delta_log.proofs.SaysLemmas.{says_action, reads_action, says_each, reads_each}
use Rattle.delta_log.proofs.StepLemmas.{Step, step_of}
use Rattle.delta_log.proofs.FaultLemmas.{Says, push_of, line_fault}

-- ---- what has been read

-- These lines have these actions, of which none shows anything, and the commit says what they say.
pub record Holds (front : List (List ℕ)) (before : List LineAction) (c : DeltaCommit) : Type 0 where
  pub read : each line_action front ≡ Ok before
  pub uris : All (λ a. NamesNoPath a → ⊥) before
  pub supported : All (λ a. NoneOf (λ f. ShowsOnLine f a) line_features) before
  pub short : All (λ a. HasLongPath a → ⊥) before
  pub distinct : IsDistinct bytes_eq (file_paths c.files)
  pub few : length c.files ≤ MAX_ACTIONS
  pub says : Says before c

holds_nothing : Holds [] [] no_lines
holds_nothing = record {
  read = refl;
  uris = All-nil (λ x. NamesNoPath x → ⊥);
  supported = All-nil (λ x. NoneOf (λ f. ShowsOnLine f x) line_features);
  short = All-nil (λ x. HasLongPath x → ⊥);
  distinct = IsDistinct-from_apart bytes_eq [] (λ i j d _ within. absurd (omega arith));
  few = omega arith;
  says = record { states = record { protocol = refl; meta = refl; files = refl }; named = refl };
}

one_at_most : {A : Type 0} (o : Option A) (xs : List A) → option_to_list o ≡ xs → length xs ≤ 1
one_at_most None xs is = subst (λ l. length l ≤ 1) is (omega arith)
one_at_most (Some x) xs is = subst (λ l. length l ≤ 1) is (omega arith)

readable_of : (front : List (List ℕ)) (before : List LineAction) (c : DeltaCommit) → Holds front before c → AreReadable front before
readable_of front before c h = record {
  grammar = record {
    says = says_each front before h.read;
    protocols = one_at_most c.protocol (protocols before) h.says.states.protocol;
    metas = one_at_most c.meta (metas before) h.says.states.meta;
    uris = h.uris;
    distinct = subst (IsDistinct bytes_eq) (sym h.says.named) h.distinct;
  };
  supported = h.supported;
  short = h.short;
  few = subst (λ l. length l ≤ MAX_ACTIONS) h.says.states.files h.few;
}

distinct_more : (fs : List FileAction) (o : Option FileAction) → IsDistinct bytes_eq (file_paths fs) → ((f : FileAction) → o ≡ Some f → acts_on (file_path f) fs ≡ false) → IsDistinct bytes_eq (file_paths (fs ++ option_to_list o))
distinct_more fs None distinct new = subst (λ l. IsDistinct bytes_eq (file_paths l)) (sym (append-nil fs)) distinct
distinct_more fs (Some f) distinct new =
    subst (IsDistinct bytes_eq) (sym (map-append file_path fs (f ∷ []))) (IsDistinct-push nat_list_eq_equiv (file_paths fs) (file_path f) distinct (new f refl))

hold_more : (front : List (List ℕ)) (before : List LineAction) (c e : DeltaCommit) (line : List ℕ) (a : LineAction) → Holds front before c → line_action line ≡ Ok a → Step c a e → Holds (front ++ line ∷ []) (before ++ a ∷ []) e
hold_more front before c e line a h is step = record {
  read = each_push line_action front line before a h.read is;
  uris = All-push (λ x. NamesNoPath x → ⊥) before a h.uris step.fair.uri;
  supported = All-push (λ x. NoneOf (λ f. ShowsOnLine f x) line_features) before a h.supported step.fair.supported;
  short = All-push (λ x. HasLongPath x → ⊥) before a h.short step.fair.short;
  distinct = subst (λ l. IsDistinct bytes_eq (file_paths l)) (sym step.files) (distinct_more c.files (file_in a) h.distinct step.new);
  few = step.few h.few;
  says = record {
    states = record {
      protocol = step.protocol ∙ ap (λ l. l ++ option_to_list (protocol_in a)) h.says.states.protocol ∙ sym (push_of protocol_in before a);
      meta = step.meta ∙ ap (λ l. l ++ option_to_list (meta_in a)) h.says.states.meta ∙ sym (push_of meta_in before a);
      files = step.files ∙ ap (λ l. l ++ option_to_list (file_in a)) h.says.states.files ∙ sym (push_of file_in before a);
    };
    named =
        push_of path_in before a ∙ ap (λ l. l ++ option_to_list (path_in a)) h.says.named ∙ ap (λ l. file_paths c.files ++ l) step.path
        ∙ sym (map-append file_path c.files (option_to_list (file_in a))) ∙ ap file_paths (sym step.files);
  };
}

-- ---- lines

-- the action of a line that was read, and that the commit holds it
One : List (List ℕ) → List LineAction → List ℕ → DeltaCommit → Type 0
One front before line e = (a : LineAction) × Holds (front ++ line ∷ []) (before ++ a ∷ []) e

one_read : (front : List (List ℕ)) (before : List LineAction) (c e : DeltaCommit) (line : List ℕ) (r : Result LineAction LineFault) → Holds front before c → line_action line ≡ r → (with_fault judged r >>= with_action c) ≡ Ok e → One front before line e
unfolding One
one_read front before c e line (Ok a) h is reads = (a, hold_more front before c e line a h is (step_of c a e reads))
one_read front before c e line (Err f) h is reads = absurd (cc)

one_line : (front : List (List ℕ)) (before : List LineAction) (c e : DeltaCommit) (line : List ℕ) → Holds front before c → with_line c line ≡ Ok e → One front before line e
unfolding with_line
one_line front before c e line h reads = one_read front before c e line (line_action line) h refl reads

-- Behind these lines all is read.
pub All_read : List (List ℕ) → DeltaCommit → Type 0
All_read lines d = (actions : List LineAction) × Holds lines actions d

-- A line behind these is the first at fault.
pub record Stops (front lines : List (List ℕ)) (e : DeltaError) : Type 0 where
  pub more : List (List ℕ)
  pub line : List ℕ
  pub behind : List (List ℕ)
  pub actions : List LineAction
  pub commit : DeltaCommit
  pub split : front ++ lines ≡ (front ++ more) ++ line ∷ behind
  pub holds : Holds (front ++ more) actions commit
  pub fault : IsAtFault actions line (1 + length (front ++ more)) e

-- what reading the rest gives
pub Ends : List (List ℕ) → List (List ℕ) → Result DeltaCommit DeltaError → Type 0
Ends front lines (Ok d) = All_read (front ++ lines) d
Ends front lines (Err e) = Stops front lines e

stops_later : (front lines : List (List ℕ)) (line : List ℕ) (e : DeltaError) → Stops (front ++ line ∷ []) lines e → Stops front (line ∷ lines) e
stops_later front lines line e s =
    let same : (front ++ line ∷ []) ++ s.more ≡ front ++ line ∷ s.more = append_assoc front (line ∷ []) s.more in
    record {
      more = line ∷ s.more;
      line = s.line;
      behind = s.behind;
      actions = s.actions;
      commit = s.commit;
      split = sym (append_assoc front (line ∷ []) lines) ∙ s.split ∙ ap (λ l. l ++ s.line ∷ s.behind) same;
      holds = subst (λ l. Holds l s.actions s.commit) same s.holds;
      fault = subst (λ l. IsAtFault s.actions s.line (1 + length l) e) same s.fault;
    }

ends_later : (front lines : List (List ℕ)) (line : List ℕ) (r : Result DeltaCommit DeltaError) → Ends (front ++ line ∷ []) lines r → Ends front (line ∷ lines) r
unfolding Ends
ends_later front lines line (Ok d) h = subst (λ l. All_read l d) (append_assoc front (line ∷ []) lines) h
ends_later front lines line (Err e) h = stops_later front lines line e h

ends_here : (front lines : List (List ℕ)) (before : List LineAction) (c : DeltaCommit) (line : List ℕ) (n : ℕ) (f : Fault) → Holds front before c → n ≡ 1 + length front → with_line c line ≡ Err f → Stops front (line ∷ lines) (error_at n f)
ends_here front lines before c line n f h count is = record {
  more = [];
  line = line;
  behind = lines;
  actions = before;
  commit = c;
  split = ap (λ l. l ++ line ∷ lines) (sym (append-nil front));
  holds = subst (λ l. Holds l before c) (sym (append-nil front)) h;
  fault = subst (λ l. IsAtFault before line (1 + length l) (error_at n f)) (sym (append-nil front)) (subst (λ m. IsAtFault before line m (error_at n f)) count (line_fault before c line n h.says f is));
}

ends_by : (front lines : List (List ℕ)) (before : List LineAction) (c : DeltaCommit) (line : List ℕ) (n : ℕ) (r : Result DeltaCommit Fault) → Holds front before c → n ≡ 1 + length front → with_line c line ≡ r
    → ((d : DeltaCommit) (after : List LineAction) → Holds (front ++ line ∷ []) after d → Ends (front ++ line ∷ []) lines (with_lines (n + 1) d lines)) → Ends front (line ∷ lines) (at_line n r >>= λ d. with_lines (n + 1) d lines)
unfolding Ends One
ends_by front lines before c line n (Ok d) h count is more =
    let one = one_line front before c d line h is in
    ends_later front lines line (with_lines (n + 1) d lines) (more d (before ++ one.0 ∷ []) one.1)
ends_by front lines before c line n (Err f) h count is more = ends_here front lines before c line n f h count is

ends_of : (front lines : List (List ℕ)) (before : List LineAction) (c : DeltaCommit) (n : ℕ) → Holds front before c → n ≡ 1 + length front → Ends front lines (with_lines n c lines)
unfolding with_lines Ends All_read
ends_of front [] before c n h count = subst (λ l. All_read l c) (sym (append-nil front)) (before, h)
ends_of front (line ∷ lines) before c n h count =
    let longer : n + 1 ≡ 1 + length (front ++ line ∷ []) = rw length-append (omega (arith, count)) in
    ends_by front lines before c line n (with_line c line) h count refl (λ d after holds. ends_of (front ++ line ∷ []) lines after d (n + 1) holds longer)

pub ends_whole : (bytes : List ℕ) → Ends [] (lines_of bytes) (commit_of bytes)
unfolding commit_of
ends_whole bytes = ends_of [] (lines_of bytes) [] no_lines 1 holds_nothing refl

-- ---- what can't be both

abbrev flat_map_of : {B : Type 0} → (LineAction → Option B) → List LineAction → List B
flat_map_of f actions = flat_map (λ x. option_to_list (f x)) actions

-- the actions of a list that has this one behind those
cut_of : {B : Type 0} (f : LineAction → Option B) (before : List LineAction) (a : LineAction) (rest : List LineAction)
    → flat_map_of f (before ++ a ∷ rest) ≡ flat_map_of f before ++ (option_to_list (f a) ++ flat_map_of f rest)
cut_of f before a rest = flat_map-append (λ x. option_to_list (f x)) before (a ∷ rest)

two_many : {B : Type 0} (f : LineAction → Option B) (before : List LineAction) (a : LineAction) (rest : List LineAction) → length (flat_map_of f (before ++ a ∷ rest)) ≤ 1 → 0 < length (flat_map_of f (a ∷ [])) → 0 < length (flat_map_of f before) → ⊥
two_many f before a rest few one other =
    let alone : length (flat_map_of f (a ∷ [])) ≡ length (option_to_list (f a)) = ap length (append-nil (option_to_list (f a))) in
    let whole : length (flat_map_of f (before ++ a ∷ rest)) ≡ length (flat_map_of f before) + (length (option_to_list (f a)) + length (flat_map_of f rest)) = ap length (cut_of f before a rest) ∙ rw (length-append, length-append) in
    omega (arith, few, one, other, alone, whole)

pub misplaced_excluded : (lines : List (List ℕ)) (before : List LineAction) (a : LineAction) (rest : List LineAction) → AreLinesInGrammar lines (before ++ a ∷ rest) → IsMisplaced before a → ⊥
misplaced_excluded lines before a rest grammar =
    ⊎_elim (λ h. all_middle (λ x. NamesNoPath x → ⊥) before a rest grammar.uris h)
    (⊎_elim (λ h. two_many protocol_in before a rest grammar.protocols h.0 h.1) (λ h. two_many meta_in before a rest grammar.metas h.0 h.1))

pub again_excluded : (lines : List (List ℕ)) (before : List LineAction) (a : LineAction) (rest : List LineAction) → AreLinesInGrammar lines (before ++ a ∷ rest) → ActsAgain before a → ⊥
again_excluded lines before a rest grammar again =
    let whole : paths (before ++ a ∷ rest) ≡ paths (before ++ a ∷ []) ++ paths rest =
    ap paths (sym (append_assoc before (a ∷ []) rest)) ∙ flat_map-append (λ x. option_to_list (path_in x)) (before ++ a ∷ []) rest in
    again (front_distinct (paths (before ++ a ∷ [])) (paths rest) (subst (IsDistinct bytes_eq) whole grammar.distinct))

-- the actions of lines that have a line at fault
Found : List LineAction → List LineAction → List ℕ → Type 0
Found actions before line = (a : LineAction) × (rest : List LineAction) × (line_action line ≡ Ok a) × (actions ≡ before ++ a ∷ rest)

found_at : (lines front : List (List ℕ)) (line : List ℕ) (behind : List (List ℕ)) (before actions : List LineAction) → lines ≡ front ++ line ∷ behind → each line_action front ≡ Ok before → each line_action lines ≡ Ok actions → Found actions before line
unfolding Found Cuts
found_at lines front line behind before actions split read all =
    let cut = cut_each line_action front line behind actions (ap (each line_action) (sym split) ∙ all) in
    let one = cut.3 in let same : cut.0 ≡ before = cc in
    (cut.1, cut.2, cut.4, cut.5 ∙ ap (λ l. l ++ cut.1 ∷ cut.2) same)

-- a file action that shows no feature is counted
counted : (a : LineAction) (path : List ℕ) → path_in a ≡ Some path → NoneOf (λ f. ShowsOnLine f a) line_features → length (option_to_list (file_in a)) ≡ 1
counted action.NoAction path is none = absurd (cc)
counted (action.Protocol p) path is none = absurd (cc)
counted (action.MetaData m b) path is none = absurd (cc)
counted (action.Add uri values size None v) path is none = absurd (none.1.1.0 refl)
counted (action.Add uri values size (Some n) v) path is none = refl
counted (action.Remove uri v) path is none = refl

limit_excluded : (lines : List (List ℕ)) (before : List LineAction) (a : LineAction) (rest : List LineAction) (w : LimitKind) → AreReadable lines (before ++ a ∷ rest) → NoneOf (λ f. ShowsOnLine f a) line_features → PassesOnLine before a w → ⊥
limit_excluded lines before a rest limits.Path readable none passes = all_middle (λ x. HasLongPath x → ⊥) before a rest readable.short passes
limit_excluded lines before a rest limits.Actions readable none passes =
    let one = counted a passes.0 passes.1 none in let over = passes.2 in let few = readable.few in
    let whole : length (files (before ++ a ∷ rest)) ≡ length (files before) + (length (option_to_list (file_in a)) + length (files rest)) = ap length (cut_of file_in before a rest) ∙ rw (length-append, length-append) in
    omega (arith, few, over, one, whole)
limit_excluded lines before a rest _ readable none passes = passes

grammar_fault : (lines : List (List ℕ)) (line : List ℕ) (before : List LineAction) (a : LineAction) (rest : List LineAction) (n : ℕ) (e : DeltaError) → line_action line ≡ Ok a → AreLinesInGrammar lines (before ++ a ∷ rest) → IsGrammarError e → IsAtFault before line n e → ⊥
grammar_fault lines line before a rest n errors.Memory is grammar kind fault = fault
grammar_fault lines line before a rest n (errors.Malformed m) is grammar kind fault =
    ⊎_elim (λ h. h a (says_action line a is)) (λ h. let one = reads_action line h.0 h.1 in let same : h.0 ≡ a = cc in misplaced_excluded lines before a rest grammar (subst (IsMisplaced before) same h.2)) fault.1
grammar_fault lines line before a rest n (errors.DoublePath m) is grammar kind fault =
    let one = reads_action line fault.1 fault.2.0 in let same : fault.1 ≡ a = cc in again_excluded lines before a rest grammar (subst (ActsAgain before) same fault.5)
grammar_fault lines line before a rest n (errors.Unsupported f m) is grammar kind fault = kind
grammar_fault lines line before a rest n (errors.Limit w) is grammar kind fault = kind

any_fault : (lines : List (List ℕ)) (line : List ℕ) (before : List LineAction) (a : LineAction) (rest : List LineAction) (n : ℕ) (e : DeltaError) → line_action line ≡ Ok a → AreReadable lines (before ++ a ∷ rest) → IsAtFault before line n e → ⊥
any_fault lines line before a rest n errors.Memory is readable fault = fault
any_fault lines line before a rest n (errors.Malformed m) is readable fault = grammar_fault lines line before a rest n (errors.Malformed m) is readable.grammar tt fault
any_fault lines line before a rest n (errors.DoublePath m) is readable fault = grammar_fault lines line before a rest n (errors.DoublePath m) is readable.grammar tt fault
any_fault lines line before a rest n (errors.Unsupported f m) is readable fault =
    let one = reads_action line fault.1 fault.2.0 in let same : fault.1 ≡ a = cc in
    none_first (λ g. ShowsOnLine g a) line_features f (all_middle (λ x. NoneOf (λ g. ShowsOnLine g x) line_features) before a rest readable.supported) (subst (λ x. IsFirst (λ g. ShowsOnLine g x) line_features f) same fault.3)
any_fault lines line before a rest n (errors.Limit w) is readable fault =
    let one = reads_action line fault.0 fault.1.0 in let same : fault.0 ≡ a = cc in
    let supported = all_middle (λ x. NoneOf (λ g. ShowsOnLine g x) line_features) before a rest readable.supported in
    limit_excluded lines before a rest w readable supported (subst (λ x. PassesOnLine before x w) same (first_in (PassesOnLine before fault.0) line_limits w fault.3))

-- ---- answers

-- what reading a commit gives
pub Reads : List ℕ → Result DeltaCommit DeltaError → Type 0
Reads bytes (Ok c) = IsReadableCommit bytes c
Reads bytes (Err e) = IsFirstFault bytes e

reads_whole : (bytes : List ℕ) (r : Result DeltaCommit DeltaError) → commit_of bytes ≡ r → Reads bytes r
unfolding Reads Ends All_read
reads_whole bytes (Ok c) is =
    let whole = subst (Ends [] (lines_of bytes)) is (ends_whole bytes) in
    record { actions = whole.0; readable = readable_of (lines_of bytes) whole.0 c whole.1; states = whole.1.says.states }
reads_whole bytes (Err e) is =
    let stops = subst (Ends [] (lines_of bytes)) is (ends_whole bytes) in
    record { front = stops.more; line = stops.line; behind = stops.behind; before = stops.actions; split = stops.split; readable = readable_of stops.more stops.actions stops.commit stops.holds; fault = stops.fault }

-- what the reading gives is a commit that can be read
pub commit_readable : (bytes : List ℕ) (c : DeltaCommit) → commit_of bytes ≡ Ok c → IsReadableCommit bytes c
unfolding Reads
commit_readable bytes c is = reads_whole bytes (Ok c) is

pub same_stated : (actions : List LineAction) (c d : DeltaCommit) → States actions c → States actions d → c ≡ d
same_stated actions c d says also =
    ap (λ o. record { protocol = o; meta = c.meta; files = c.files }) (same_options c.protocol d.protocol (says.protocol ∙ sym also.protocol))
    ∙ ap (λ o. record { protocol = d.protocol; meta = o; files = c.files }) (same_options c.meta d.meta (says.meta ∙ sym also.meta))
    ∙ ap (λ l. record { protocol = d.protocol; meta = d.meta; files = l }) (says.files ∙ sym also.files)

-- A commit that can be read has no first fault.
pub fault_excluded : (bytes : List ℕ) (c : DeltaCommit) (e : DeltaError) → IsReadableCommit bytes c → IsFirstFault bytes e → ⊥
unfolding Found
fault_excluded bytes c e whole first =
    let found = found_at (lines_of bytes) first.front first.line first.behind first.before whole.actions first.split (reads_each first.front first.before first.readable.grammar.says) (reads_each (lines_of bytes) whole.actions whole.readable.grammar.says) in
    any_fault (lines_of bytes) first.line first.before found.0 found.1 (1 + length first.front) e found.2 (subst (AreReadable (lines_of bytes)) found.3 whole.readable) first.fault

read_by : (bytes : List ℕ) (c : DeltaCommit) (r : Result DeltaCommit DeltaError) → commit_of bytes ≡ r → Reads bytes r → IsReadableCommit bytes c → r ≡ Ok c
unfolding Reads Found
read_by bytes c (Ok d) is reads whole =
    let one = reads_each (lines_of bytes) reads.actions reads.readable.grammar.says in let other = reads_each (lines_of bytes) whole.actions whole.readable.grammar.says in let same : reads.actions ≡ whole.actions = cc in
    let says : States whole.actions d = subst (λ l. States l d) same reads.states in
    ap Ok (same_stated whole.actions d c says whole.states)
read_by bytes c (Err e) is reads whole = absurd (fault_excluded bytes c e whole reads)

-- what is a commit that can be read is read
pub is_read : (bytes : List ℕ) (c : DeltaCommit) → IsReadableCommit bytes c → commit_of bytes ≡ Ok c
is_read bytes c whole = read_by bytes c (commit_of bytes) refl (reads_whole bytes (commit_of bytes) refl) whole

pub found_by : (bytes : List ℕ) (r : Result DeltaCommit DeltaError) → Answers r (commit_of bytes) → IfOk r (λ c. IsReadableCommit bytes c)
unfolding Reads
found_by bytes (Ok c) gives = reads_whole bytes (Ok c) gives
found_by bytes (Err e) gives = tt

pub only_by : (bytes : List ℕ) (r : Result DeltaCommit DeltaError) → Answers r (commit_of bytes) → (c : DeltaCommit) → IsReadableCommit bytes c → Answers r (Ok c)
only_by bytes r gives c whole = subst (Answers r) (is_read bytes c whole) gives

pub fault_by : (bytes : List ℕ) (r : Result DeltaCommit DeltaError) → Answers r (commit_of bytes) → IfErr r (λ e. IsRefusal bytes e)
unfolding Reads
fault_by bytes (Ok c) gives = tt
fault_by bytes (Err errors.Memory) gives = tt
fault_by bytes (Err (errors.Malformed n)) gives = reads_whole bytes (Err (errors.Malformed n)) gives
fault_by bytes (Err (errors.DoublePath n)) gives = reads_whole bytes (Err (errors.DoublePath n)) gives
fault_by bytes (Err (errors.Unsupported f n)) gives = reads_whole bytes (Err (errors.Unsupported f n)) gives
fault_by bytes (Err (errors.Limit w)) gives = reads_whole bytes (Err (errors.Limit w)) gives

grammar_fails : (bytes : List ℕ) (e : DeltaError) → IsFirstFault bytes e → IsGrammarError e → (actions : List LineAction) → AreLinesInGrammar (lines_of bytes) actions → ⊥
unfolding Found
grammar_fails bytes e first kind actions grammar =
    let found = found_at (lines_of bytes) first.front first.line first.behind first.before actions first.split (reads_each first.front first.before first.readable.grammar.says) (reads_each (lines_of bytes) actions grammar.says) in
    grammar_fault (lines_of bytes) first.line first.before found.0 found.1 (1 + length first.front) e found.2 (subst (AreLinesInGrammar (lines_of bytes)) found.3 grammar) kind first.fault

pub grammar_by : (bytes : List ℕ) (r : Result DeltaCommit DeltaError) → Answers r (commit_of bytes) → IfErr r (λ e. IsGrammarError e → (actions : List LineAction) → AreLinesInGrammar (lines_of bytes) actions → ⊥)
unfolding Reads
grammar_by bytes (Ok c) gives = tt
grammar_by bytes (Err errors.Memory) gives = λ kind. absurd kind
grammar_by bytes (Err (errors.Malformed n)) gives = grammar_fails bytes (errors.Malformed n) (reads_whole bytes (Err (errors.Malformed n)) gives)
grammar_by bytes (Err (errors.DoublePath n)) gives = grammar_fails bytes (errors.DoublePath n) (reads_whole bytes (Err (errors.DoublePath n)) gives)
grammar_by bytes (Err (errors.Unsupported f n)) gives = λ kind. absurd kind
grammar_by bytes (Err (errors.Limit w)) gives = λ kind. absurd kind

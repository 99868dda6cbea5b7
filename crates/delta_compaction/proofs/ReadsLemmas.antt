-- Lines with their actions, and the last of the actions that gives something.
use Rattle.std.proofs.Common.{◌≡◌, ◌⊎◌, ⊎_elim, ℕ, List, [], ◌∷◌, ◌++◌, false, Ok, All, refl, ap, ◌∙◌}
use Rattle.std.specs.Prelude.{flat_map}
use Rattle.std.specs.List.{IsDistinct}
use Rattle.std.specs.Str.{bytes_eq}
use Rattle.std.proofs.lemmas.Bool.{cases_Bool}
use Rattle.std.proofs.lemmas.List.Elements.{All-head, All-tail}
use Rattle.lake_basics.specs.Outcome.{each}
use Rattle.partition_map.specs.UriPath.{UriPath, inside_table, too_long, outside_table, no_path, uri_path}
use Rattle.delta_log.specs.declared.action.LineAction.{LineAction}
use Rattle.delta_log.specs.declared.commit.DeltaCommit.{DeltaCommit}
use Rattle.delta_log.specs.Grammar.{line_action}
use Rattle.delta_log.specs.Judging.{lines_of}
use Rattle.delta_log.specs.Readable.{AreReadable, HasLongPath, NamesNoPath, ShowsOnLine, States, line_features, paths}
use Rattle.table_history.specs.First.{NoneOf}
use Rattle.delta_log.proofs.EachLemmas.{Splits, split_each, each_cons}
use Rattle.delta_log.proofs.SaysLemmas.{reads_each as lines_read}
use Rattle.delta_log.proofs.StepLemmas.{IsFair}
use Rattle.delta_compaction.specs.declared.key.LineKey.{LineKey}
use Rattle.delta_compaction.specs.declared.kind.LineKind.TheVariants as kind
use Rattle.delta_compaction.specs.Kinds.{is_stray, line_kind}
use Rattle.delta_compaction.specs.Lines.{ActsOnUri, IsAbout, IsStray}
use Rattle.delta_compaction.specs.Reconciled.{all_lines}
use Rattle.delta_compaction.specs.Taken.{AreTaken}
use Rattle.delta_compaction.proofs.ActionLemmas.{acts_uri}
use Rattle.delta_compaction.proofs.KindLemmas.{about_kind, kind_about, stray_line}

-- ---- lines with their actions

-- Each line has its action, which shows nothing for which it is refused.
abbrev pub Reads : List (List ℕ) → List LineAction → Type 0
Reads [] [] = Unit {0}
Reads [] (a ∷ actions) = ⊥
Reads (line ∷ lines) [] = ⊥
Reads (line ∷ lines) (a ∷ actions) = (line_action line ≡ Ok a) × IsFair a × Reads lines actions

reads_by : (lines : List (List ℕ)) (actions : List LineAction) → each line_action lines ≡ Ok actions → All (λ a. NamesNoPath a → ⊥) actions → All (λ a. NoneOf (λ f. ShowsOnLine f a) line_features) actions → All (λ a. HasLongPath a → ⊥) actions
    → Reads lines actions
unfolding Splits
reads_by [] [] e uris supported short = tt
reads_by [] (a ∷ actions) e uris supported short = absurd (cc)
reads_by (line ∷ lines) [] e uris supported short = let parts = split_each line_action line lines [] e in let fails = parts.4 in absurd (cc)
reads_by (line ∷ lines) (a ∷ actions) e uris supported short =
    let parts = split_each line_action line lines (a ∷ actions) e in
    let whole = parts.4 in
    let same : parts.0 ≡ a = cc in
    let rest : parts.1 ≡ actions = cc in (
      parts.2 ∙ ap (λ x. Ok x) same,
      record { uri = All-head (λ x. NamesNoPath x → ⊥) a actions uris; supported = All-head (λ x. NoneOf (λ f. ShowsOnLine f x) line_features) a actions supported; short = All-head (λ x. HasLongPath x → ⊥) a actions short },
      reads_by lines actions (parts.3 ∙ ap (λ x. Ok x) rest) (All-tail (λ x. NamesNoPath x → ⊥) a actions uris) (All-tail (λ x. NoneOf (λ f. ShowsOnLine f x) line_features) a actions supported) (All-tail (λ x. HasLongPath x → ⊥) a actions short),
    )

pub reads_of : (lines : List (List ℕ)) (actions : List LineAction) → AreReadable lines actions → Reads lines actions
reads_of lines actions h = reads_by lines actions (lines_read lines actions h.grammar.says) h.grammar.uris h.supported h.short

pub reads_each : (lines : List (List ℕ)) (actions : List LineAction) → Reads lines actions → each line_action lines ≡ Ok actions
reads_each [] [] h = refl
reads_each [] (a ∷ actions) h = absurd h
reads_each (line ∷ lines) [] h = absurd h
reads_each (line ∷ lines) (a ∷ actions) h = each_cons line_action line lines a actions h.0 (reads_each lines actions h.2)

pub reads_append : (xs ys : List (List ℕ)) (hs bs : List LineAction) → Reads xs hs → Reads ys bs → Reads (xs ++ ys) (hs ++ bs)
reads_append [] ys [] bs one other = other
reads_append [] ys (a ∷ hs) bs one other = absurd one
reads_append (x ∷ xs) ys [] bs one other = absurd one
reads_append (x ∷ xs) ys (a ∷ hs) bs one other = (one.0, one.1, reads_append xs ys hs bs one.2 other)

-- ---- exact lines

-- A line is kept as just what it is about.
abbrev pub Exact : List ℕ → Type 0
Exact line = (k : LineKey) → (line_kind line ≡ kind.Kept k → IsAbout line k) × (IsAbout line k → line_kind line ≡ kind.Kept k)

abbrev pub Exacts : List (List ℕ) → Type 0
Exacts [] = Unit {0}
Exacts (line ∷ lines) = Exact line × Exacts lines

pub plain_of : (line : List ℕ) → (IsStray line → ⊥) → is_stray (line_kind line) ≡ false
plain_of line plain = ⊎_elim (λ odd. absurd (plain (stray_line line odd))) (λ fails. fails) (cases_Bool (is_stray (line_kind line)))

placed : (line : List ℕ) (a : LineAction) → line_action line ≡ Ok a → IsFair a → (uri : List ℕ) → ActsOnUri line uri → (path : List ℕ) × (uri_path uri ≡ inside_table path)
placed line a read fair uri acts = by (uri_path uri) refl
  where
    by : (place : UriPath) → uri_path uri ≡ place → (path : List ℕ) × (uri_path uri ≡ inside_table path)
    by (inside_table path) at = (path, at)
    by (too_long path) at = absurd (fair.short (uri, path, acts_uri line a read uri acts, at))
    by outside_table at = absurd (fair.supported.1.0 (uri, acts_uri line a read uri acts, at))
    by no_path at = absurd (fair.uri (uri, acts_uri line a read uri acts, at))

pub exact_line : (line : List ℕ) (a : LineAction) → line_action line ≡ Ok a → IsFair a → (IsStray line → ⊥) → Exact line
exact_line line a read fair plain k = (kind_about line k, about_kind line (plain_of line plain) (placed line a read fair) k)

pub exact_lines : (lines : List (List ℕ)) (actions : List LineAction) → Reads lines actions → All (λ line. IsStray line → ⊥) lines → Exacts lines
exact_lines [] actions h plain = tt
exact_lines (line ∷ lines) [] h plain = absurd h
exact_lines (line ∷ lines) (a ∷ actions) h plain =
    (exact_line line a h.0 h.1 (All-head (λ l. IsStray l → ⊥) line lines plain), exact_lines lines actions h.2 (All-tail (λ l. IsStray l → ⊥) line lines plain))

pub exacts_append : (xs ys : List (List ℕ)) → Exacts xs → Exacts ys → Exacts (xs ++ ys)
exacts_append [] ys one other = other
exacts_append (x ∷ xs) ys one other = (one.0, exacts_append xs ys one.1 other)

pub exact_at : (front : List (List ℕ)) (line : List ℕ) (later : List (List ℕ)) → Exacts (front ++ line ∷ later) → Exact line
exact_at [] line later all = all.0
exact_at (l ∷ front) line later all = exact_at front line later all.1

pub read_at : (front : List (List ℕ)) (line : List ℕ) (later : List (List ℕ)) (actions : List LineAction) → Reads (front ++ line ∷ later) actions → (a : LineAction) × (line_action line ≡ Ok a) × IsFair a
read_at [] line later [] h = absurd h
read_at [] line later (a ∷ actions) h = (a, h.0, h.1)
read_at (l ∷ front) line later [] h = absurd h
read_at (l ∷ front) line later (a ∷ actions) h = read_at front line later actions h.2

-- ---- commits with the actions of their lines

-- Each commit has the actions of its lines, and says what they say.
abbrev pub AllRead : List (List ℕ) → List DeltaCommit → List (List LineAction) → Type 0
AllRead [] [] [] = Unit {0}
AllRead (bytes ∷ commits) (c ∷ said) (actions ∷ groups) = Reads (lines_of bytes) actions × States actions c × IsDistinct bytes_eq (paths actions) × AllRead commits said groups
AllRead _ _ _ = ⊥

abbrev pub all_actions : List (List LineAction) → List LineAction
all_actions groups = flat_map (λ g. g) groups

abbrev HasGroups : List (List ℕ) → List DeltaCommit → Type 0
HasGroups commits said = (groups : List (List LineAction)) × AllRead commits said groups

pub groups_of : (commits : List (List ℕ)) (said : List DeltaCommit) → AreTaken commits said → (groups : List (List LineAction)) × AllRead commits said groups
groups_of [] [] taken = ([], tt)
groups_of [] (c ∷ said) taken = absurd (cc taken)
groups_of (bytes ∷ commits) [] taken = absurd taken
groups_of (bytes ∷ commits) (c ∷ said) taken =
    let readable = taken.0.readable in
    let rest = groups_of commits said taken.1 in
    (readable.actions ∷ rest.0, (reads_of (lines_of bytes) readable.actions readable.readable, readable.states, readable.readable.grammar.distinct, rest.1))

pub all_reads : (commits : List (List ℕ)) (said : List DeltaCommit) (groups : List (List LineAction)) → AllRead commits said groups → Reads (all_lines commits) (all_actions groups)
all_reads [] [] [] h = tt
all_reads (bytes ∷ commits) (c ∷ said) (actions ∷ groups) h = reads_append (lines_of bytes) (all_lines commits) actions (all_actions groups) h.0 (all_reads commits said groups h.3)
all_reads [] [] (actions ∷ groups) h = absurd h
all_reads [] (c ∷ said) groups h = absurd h
all_reads (bytes ∷ commits) [] groups h = absurd h
all_reads (bytes ∷ commits) (c ∷ said) [] h = absurd h

pub all_exact : (commits : List (List ℕ)) (said : List DeltaCommit) → AreTaken commits said → Exacts (all_lines commits)
all_exact [] said taken = tt
all_exact (bytes ∷ commits) [] taken = absurd taken
all_exact (bytes ∷ commits) (c ∷ said) taken =
    exacts_append (lines_of bytes) (all_lines commits)
    (exact_lines (lines_of bytes) taken.0.readable.actions (reads_of (lines_of bytes) taken.0.readable.actions taken.0.readable.readable) taken.0.plain)
    (all_exact commits said taken.1)

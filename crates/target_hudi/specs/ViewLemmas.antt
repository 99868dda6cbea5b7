-- One view at most, and one change of each commit.
use Rattle.std.proofs.Common.{◌≡◌, ◌⊎◌, inl, inr, ℕ, suc, ◌+◌, ◌≤◌, List, [], ◌∷◌, ◌++◌, length, Contains, Some, refl, sym, ap, subst, ◌∙◌, arith}
use Rattle.std.proofs.lemmas.List.{length-append}
use Rattle.lake_store.specs.Disk.{Files}
use Rattle.table_history.specs.Path.{IsPath}
use Rattle.table_history.specs.Row.{Row}
use Rattle.table_history.specs.declared.table.Change.{Change}
use Rattle.partition_map.specs.declared.kind.PartKind.{PartKind}
use Rattle.hudi_timeline.specs.Live.{completed}
use Rattle.hudi_timeline.specs.Schemas.{AreKindsOf}
use Rattle.hudi_instant.specs.declared.instant.Instant.{Instant}
use Rattle.hudi_properties.specs.declared.table.HudiTable.{HudiTable}
use Rattle.hudi_table.specs.Files.{SaysInstant}
use Rattle.hudi_table.specs.Reading.{IsLatestOf, form_of}
use Rattle.hudi_table.specs.declared.instants.CompletedInstant.{CompletedInstant}
use Rattle.hudi_table.specs.declared.reading.Latest.{Latest}
use Rattle.hudi_table.specs.declared.reading.Naming.TheVariants.{External}
use Rattle.target_core.specs.Changes.{IsGone, SameRowChange}
use Rattle.target_core.specs.Views.{IsPublished, IsUnpublished, SameView, Standing, View, absent}
use Rattle.target_core.proofs.Unpublished.{no_commits}
use Rattle.target_hudi.specs.Reading.{HasStatRow, IsAbsent, IsCarried, IsMarkAt, IsOurs, Reads, commits_in, completed_in}
use Rattle.target_hudi.specs.Writing.{replaced_of}
use Rattle.target_hudi.specs.OnceLemmas.{latest_partition, one_instant, one_kinds, one_place, one_rows, one_schema, one_standing, one_table_of}
use Rattle.lake_basics.proofs.Lists.{none_longer}

-- ---- counts

longer : {X : Type 0} (front : List X) (x : X) (behind : List X) → length (front ++ x ∷ behind) ≡ suc (length front + length behind)
longer front x behind = let len = length-append front (x ∷ behind) in omega (arith, len)

pub commits_read : (files : Files) (v : View) → Reads files v → commits_in files ≡ v.commits
commits_read files v (inl h) = ap (λ (cs : List CompletedInstant). length cs) h.0.none ∙ sym (no_commits v h.1)
commits_read files v (inr h) = sym (ap (λ (w : View). w.commits) h.view_is)

-- the newest instant is the last of so many
newest_place : (files : Files) (v : View) (h : IsOurs files v) → v.commits ≡ suc (length h.front)
newest_place files v h =
    let len = longer h.front h.newest [] in
    let all : commits_in files ≡ length (h.front ++ h.newest ∷ []) = ap (λ (cs : List CompletedInstant). length cs) h.last in
    let count = commits_read files v (inr h) in
    omega (arith, len, all, count)

-- ---- one view

pub absent_or_ours : (files : Files) (view : View) → IsAbsent files → IsOurs files view → ⊥
absent_or_ours files view none ours = none_longer ours.front ours.newest [] (sym none.none ∙ ours.last)

same_newest : (files : Files) (v w : View) (a : IsOurs files v) (b : IsOurs files w) → a.newest ≡ b.newest
same_newest files v w a b =
    let place_a = newest_place files v a in
    let place_b = newest_place files w b in
    let count_a = commits_read files v (inr a) in
    let count_b = commits_read files w (inr b) in
    let len : length a.front ≡ length b.front = omega (arith, place_a, place_b, count_a, count_b) in
    (one_place a.front a.newest [] b.front b.newest [] len (sym a.last ∙ b.last)).1

abbrev view_with : Files → Standing → Latest → View
view_with files standing latest = record { commits = commits_in files; mark = Some standing; table = latest.table }

ours_one : (files : Files) (v w : View) → IsOurs files v → IsOurs files w → SameView v w
ours_one files v w a b =
    let cs = completed_in files in
    let table : a.table.table ≡ b.table.table = one_table_of files a.table b.table a.says b.says in
    let read : IsLatestOf files External b.table.table cs a.latest = subst (λ (t : HudiTable). IsLatestOf files External t cs a.latest) table a.read in
    let stands : IsMarkAt files b.newest a.standing = subst (λ (c : CompletedInstant). IsMarkAt files c a.standing) (same_newest files v w a b) a.stands in
    let same : SameView (view_with files a.standing a.latest) (view_with files b.standing b.latest) = record {
      commits = refl;
      mark = ap (λ (s : Standing). Some s) (one_standing files b.newest a.standing b.standing stands b.stands);
      rows = one_rows files External b.table.table cs a.latest b.latest read b.read;
      partition = latest_partition files External b.table.table cs a.latest read ∙ sym (latest_partition files External b.table.table cs b.latest b.read);
      schema = one_schema files External b.table.table cs a.latest b.latest read b.read;
    } in
    subst (λ (x : View). SameView x w) (sym a.view_is) (subst (λ (x : View). SameView (view_with files a.standing a.latest) x) (sym b.view_is) same)

pub one_view : (files : Files) (v w : View) → Reads files v → Reads files w → SameView v w ⊎ (IsUnpublished v × IsUnpublished w)
one_view files v w (inl a) (inl b) = inr (a.1, b.1)
one_view files v w (inl a) (inr b) = absurd (absent_or_ours files w a.0 b)
one_view files v w (inr a) (inl b) = absurd (absent_or_ours files v b.0 a)
one_view files v w (inr a) (inr b) = inl (ours_one files v w a b)

-- ---- absent

pub absent_any : (files : Files) (p q : List (List ℕ)) → Reads files (absent p) → Reads files (absent q)
absent_any files p q (inl a) = inl (a.0, refl)
absent_any files p q (inr b) = absurd (let count = newest_place files (absent p) b in omega (arith, count))

pub published : (files : Files) (v : View) → Reads files v → IsUnpublished v ⊎ IsPublished v
published files v (inl a) = inl a.1
published files v (inr b) = inr (let count = newest_place files v b in omega (arith, count), (b.standing, ap (λ (x : View). x.mark) b.view_is))

-- ---- what a commit carries

abbrev HasGone : Instant → List ℕ → Type 0
HasGone instant path = IsPath path × Contains instant.replaced (replaced_of path)

module _ (files : Files) (number : ℕ) (a b : Change) (s t : Standing) (h : IsCarried files number a s) (k : IsCarried files number b t) where
  place : (h.front ≡ k.front) × (h.commit ≡ k.commit)
  place =
      let is = h.is in
      let too = k.is in
      let len : length h.front ≡ length k.front = omega (arith, is, too) in
      one_place h.front h.commit h.behind k.front k.commit k.behind len (sym h.split ∙ k.split)

  instant : h.instant ≡ k.instant
  instant = one_instant files k.commit h.instant k.instant (subst (λ (c : CompletedInstant). SaysInstant files c h.instant) place.1 h.says) k.says

  table : h.table.table ≡ k.table.table
  table = one_table_of files h.table k.table h.says_table k.says_table

  schema : h.latest.table.schema ≡ k.latest.table.schema
  schema =
      let cs : h.front ++ h.commit ∷ [] ≡ k.front ++ k.commit ∷ [] = λ i. place.0 i ++ place.1 i ∷ [] in
      one_schema files External k.table.table (k.front ++ k.commit ∷ []) h.latest k.latest
      (subst (λ (x : HudiTable). IsLatestOf files External x (k.front ++ k.commit ∷ []) h.latest) table
      (subst (λ (l : List CompletedInstant). IsLatestOf files External h.table.table l h.latest) cs h.read))
      k.read

  kinds : h.kinds ≡ k.kinds
  kinds = one_kinds h.latest.table.schema k.latest.table.schema k.table.table.partition h.kinds k.kinds schema (subst (λ (x : HudiTable). AreKindsOf h.latest.table.schema x.partition h.kinds) table h.are_kinds) k.are_kinds

  added_too : (row : Row) → Contains a.added row → Contains b.added row
  added_too row is = (k.adds row).1 (subst (λ (c : CompletedInstant). HasStatRow k.table.table k.kinds (completed (form_of External c.time) k.instant) row) place.1
      (subst (λ (i : Instant). HasStatRow k.table.table k.kinds (completed (form_of External h.commit.time) i) row) instant
      (subst (λ (ks : List PartKind). HasStatRow k.table.table ks (completed (form_of External h.commit.time) h.instant) row) kinds
      (subst (λ (x : HudiTable). HasStatRow x h.kinds (completed (form_of External h.commit.time) h.instant) row) table ((h.adds row).0 is)))))

  gone_too : (path : List ℕ) → IsGone a path → IsGone b path
  gone_too path is = (k.removes path).1 (subst (λ (i : Instant). HasGone i path) instant ((h.removes path).0 is))

  one_mark_there : s ≡ t
  one_mark_there = one_standing files k.commit s t (subst (λ (c : CompletedInstant). IsMarkAt files c s) place.1 h.marked) k.marked

pub one_change : (files : Files) (number : ℕ) (a b : Change) (s t : Standing) → IsCarried files number a s → IsCarried files number b t → SameRowChange a b × (s ≡ t)
one_change files number a b s t h k = (
  record { added = λ row. (added_too files number a b s t h k row, added_too files number b a t s k h row); gone = λ path. (gone_too files number a b s t h k path, gone_too files number b a t s k h path) },
  one_mark_there files number a b s t h k,
)

pub carries_within : (files : Files) (v : View) (number : ℕ) (change : Change) (s : Standing) → Reads files v → IsCarried files number change s → number ≤ v.commits
carries_within files v number change s reads h =
    let len = longer h.front h.commit h.behind in
    let all : commits_in files ≡ length (h.front ++ h.commit ∷ h.behind) = ap (λ (cs : List CompletedInstant). length cs) h.split in
    let count = commits_read files v reads in
    let is = h.is in
    omega (arith, len, all, count, is)

pub newest : (files : Files) (v : View) (change : Change) (s : Standing) → Reads files v → IsCarried files v.commits change s → v.mark ≡ Some s
newest files v change s (inl a) h = absurd (none_longer h.front h.commit h.behind (sym a.0.none ∙ h.split))
newest files v change s (inr b) h =
    let count = newest_place files v b in
    let is = h.is in
    let len : length b.front ≡ length h.front = omega (arith, count, is) in
    let commit : b.newest ≡ h.commit = (one_place b.front b.newest [] h.front h.commit h.behind len (sym b.last ∙ h.split)).1 in
    ap (λ (x : View). x.mark) b.view_is ∙ ap (λ (t : Standing). Some t) (one_standing files h.commit b.standing s (subst (λ (c : CompletedInstant). IsMarkAt files c b.standing) commit b.stands) h.marked)

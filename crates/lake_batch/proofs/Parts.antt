-- Whatever the other tables of a batch hold and answer, each table's part is at its run as the batch found it, and stays as its run left it.
use Rattle.std.proofs.Common.{◌≡◌, ◌≢◌, ◌⊎◌, inl, inr, ⊎_elim, ℕ, zero, suc, ◌+◌, ◌≤◌, List, [], ◌∷◌, ◌++◌, length, map, refl, sym, ◌∙◌, ap, subst, arith, append_assoc, true, false}
use Rattle.std.specs.Prelude.{Contains, Some, slice_get}
use Rattle.std.specs.List.{AllByRecursion, IsDistinct}
use Rattle.std.specs.Str.{bytes_eq}
use Rattle.std.proofs.lemmas.List.Elements.{All-head, All-tail, Contains-append_right}
use Rattle.std.proofs.lemmas.Slice.Eq.{bytes_eq-Decides}
use Rattle.lake_store.specs.Runs.{IsIn, LeavesAlone}
use Rattle.lake_store.specs.declared.sink.Sink as sinks
use Rattle.lake_store.specs.declared.store.Store.{Ghosts}
use Rattle.table_history.specs.Path.{IsPath}
use Rattle.target_sync.specs.declared.status.Status.{Status}
use Rattle.source_core.proofs.Files.{same_files}
use Rattle.sync_driver.specs.Formats.{Formats}
use Rattle.lake_batch.specs.Batch.{AreApart, AreFolders, folder_of}
use Rattle.lake_batch.specs.Part.{IsBeside, part_files, path_in}
use Rattle.lake_batch.specs.PartAt.{get-part}
use Rattle.lake_batch.specs.Tables.{AreRun, RunsTable}
use Rattle.lake_batch.specs.declared.batch.Item.{Item}
use Rattle.lake_basics.proofs.Lists.{all_at_place}

-- ---- folders

-- Of two paths through folders that are one path, either folder is the other one, or one lies in the other.
fork : (f g r s : List ℕ) → f ++ 47 ∷ r ≡ g ++ 47 ∷ s → (f ≡ g) ⊎ IsIn g f ⊎ IsIn f g
fork [] [] r s is = inl refl
fork [] (c ∷ g) r s is = let head : 47 ≡ c = cc is in inr (inr (g, ap (λ (b : ℕ). b ∷ g) (sym head)))
fork (c ∷ f) [] r s is = let head : c ≡ 47 = cc is in inr (inl (f, ap (λ (b : ℕ). b ∷ f) head))
fork (c ∷ f) (d ∷ g) r s is = more (fork f g r s rest)
  where
    head : c ≡ d
    head = cc is

    rest : f ++ 47 ∷ r ≡ g ++ 47 ∷ s
    rest = cc is

    more : (f ≡ g) ⊎ IsIn g f ⊎ IsIn f g → (c ∷ f ≡ d ∷ g) ⊎ IsIn (d ∷ g) (c ∷ f) ⊎ IsIn (c ∷ f) (d ∷ g)
    more (inl same) = inl (λ i. head i ∷ same i)
    more (inr (inl within)) = inr (inl (within.0, λ i. head i ∷ within.1 i))
    more (inr (inr within)) = inr (inr (within.0, λ i. sym head i ∷ within.1 i))

in_folder : (folder rest : List ℕ) → folder ≢ [] → path_in folder rest ≡ folder ++ 47 ∷ rest
in_folder [] rest some = absurd (some refl)
in_folder (c ∷ folder) rest some = append_assoc (c ∷ folder) (47 ∷ []) rest

path_filled : (folder : List ℕ) → IsPath folder → folder ≢ []
path_filled [] path none = (path.form.segments 0 [] (omega arith)).filled refl
path_filled (c ∷ folder) path none = cc none

-- no path in the folder is one in the other table's
abbrev Misses : List ℕ → Item → Type 0
Misses folder other = (rest : List ℕ) → IsBeside other.folder (path_in folder rest)

misses : (folder : List ℕ) (other : Item) → folder ≢ [] → other.folder ≢ [] → folder ≢ other.folder → (IsIn other.folder folder → ⊥) → (IsIn folder other.folder → ⊥) → Misses folder other
misses folder other some some_other apart out out_other rest within is =
    let same : folder ++ 47 ∷ rest ≡ other.folder ++ 47 ∷ within = sym (in_folder folder rest some) ∙ is ∙ in_folder other.folder within some_other in
    ⊎_elim apart (λ lies. ⊎_elim out out_other lies) (fork folder other.folder rest within same)

-- no path in a table's folder is one in another's
abbrev pub AreMissed : List Item → Type 0
AreMissed [] = Unit {0}
AreMissed (item ∷ items) = AllByRecursion (λ other. Misses item.folder other × Misses other.folder item) items × AreMissed items

contains_folder : (items : List Item) (item : Item) → Contains items item → Contains (map folder_of items) item.folder
contains_folder [] item within = let none = within.1 in absurd (omega (arith, none))
contains_folder (first ∷ items) item (zero, within, is) = (zero, omega arith, ap folder_of is)
contains_folder (first ∷ items) item (suc k, within, is) =
    let more = contains_folder items item (k, omega (arith, within), is) in Contains-append_right (first.folder ∷ []) (map folder_of items) item.folder more

abbrev FitsBehind : ℕ → Item → Type 0
FitsBehind before item = IsPath item.folder × (before + 1 + length item.folder ≤ 1024)

pub are_missed : (before : ℕ) (items : List Item) → AreFolders before items → AreApart (map folder_of items) → AreMissed items
unfolding IsDistinct
are_missed before [] folders apart = tt
are_missed before (item ∷ items) folders apart = (each items (λ other within. within) (All-tail (FitsBehind before) item items folders) apart.distinct.0, are_missed before items (All-tail (FitsBehind before) item items folders) rest)
  where
    here : Contains (map folder_of (item ∷ items)) item.folder
    here = (0, omega arith, refl)

    behind : (folder : List ℕ) → Contains (map folder_of items) folder → Contains (map folder_of (item ∷ items)) folder
    behind = Contains-append_right (item.folder ∷ []) (map folder_of items)

    rest : AreApart (map folder_of items)
    rest = record { distinct = apart.distinct.1; outside = λ folder within lies. apart.outside folder (behind folder within) (lies.0, behind lies.0 lies.1, lies.2) }

    each : (others : List Item) → ((other : Item) → Contains others other → Contains items other) → AreFolders before others → AllByRecursion (λ y. bytes_eq item.folder y ≡ false) (map folder_of others)
        → AllByRecursion (λ other. Misses item.folder other × Misses other.folder item) others
    each [] among folders_of apart_of = tt
    each (other ∷ others) among folders_of apart_of =
        let filled : item.folder ≢ [] = path_filled item.folder (All-head (FitsBehind before) item items folders).0 in
        let filled_other : other.folder ≢ [] = path_filled other.folder (All-head (FitsBehind before) other others folders_of).0 in
        let there : Contains (map folder_of (item ∷ items)) other.folder = behind other.folder (contains_folder items other (among other (0, omega arith, refl))) in
        let differs : item.folder ≢ other.folder = λ same. let yes : bytes_eq item.folder other.folder ≡ true = (bytes_eq-Decides item.folder other.folder).1 same in cc (sym yes ∙ apart_of.0) in
        let out : IsIn other.folder item.folder → ⊥ = λ lies. apart.outside item.folder here (other.folder, there, lies) in
        let out_other : IsIn item.folder other.folder → ⊥ = λ lies. apart.outside other.folder there (item.folder, here, lies) in (
          (misses item.folder other filled filled_other differs out out_other, misses other.folder item filled_other filled (λ same. differs (sym same)) out_other out),
          each others (λ next within. among next (Contains-append_right (other ∷ []) others next within)) (All-tail (FitsBehind before) other others folders_of) apart_of.1,
        )

-- ---- runs

module _ {S O : Type 0} (store : Ghosts S) (sink : sinks.Ghosts O) (formats : Formats) (gives : ℕ → Type 0) (place : List ℕ) (told : store.tells) where
  -- a run over a part leaves a folder as it is that it misses
  part_kept : (folder : List ℕ) (other : Item) (old new : S) (out_old out_new : O) (s : Status) → Misses folder other → RunsTable store sink formats gives place other old new out_old out_new s
      → part_files folder (store.disk new).files ≡ part_files folder (store.disk old).files
  part_kept folder other old new out_old out_new s apart run =
      let alone : LeavesAlone store (IsBeside other.folder) old new = run.beside told in
      same_files _ _ (λ q. get-part folder (store.disk new).files q ∙ alone.disk.files (path_in folder q) (apart q) ∙ sym (get-part folder (store.disk old).files q))

  parts_kept : (folder : List ℕ) (items : List Item) (statuses : List Status) (old new : S) (out_old out_new : O) → AllByRecursion (Misses folder) items → AreRun store sink formats gives place items statuses old new out_old out_new
      → part_files folder (store.disk new).files ≡ part_files folder (store.disk old).files
  parts_kept folder [] [] old new out_old out_new apart ran = ap (λ (s : S). part_files folder (store.disk s).files) ran.0
  parts_kept folder (item ∷ items) [] old new out_old out_new apart ran = ap (λ (s : S). part_files folder (store.disk s).files) ran.0
  parts_kept folder [] (s ∷ statuses) old new out_old out_new apart ran = absurd ran
  parts_kept folder (item ∷ items) (s ∷ statuses) old new out_old out_new apart ran =
      parts_kept folder items statuses ran.0 new ran.1 out_new apart.1 ran.3 ∙ part_kept folder item old ran.0 out_old ran.1 s apart.0 ran.2

  -- A table's run, with its part as the batch found it, which stays as the run left it.
  pub record RanAlone (item : Item) (s : Status) (old new : S) : Type 0 where
    pub before : S
    pub after : S
    pub out_before : O
    pub out_after : O
    pub run : RunsTable store sink formats gives place item before after out_before out_after s
    pub found : part_files item.folder (store.disk before).files ≡ part_files item.folder (store.disk old).files
    pub left : part_files item.folder (store.disk new).files ≡ part_files item.folder (store.disk after).files

  pub each_part : (items : List Item) (statuses : List Status) (old new : S) (out_old out_new : O) → AreMissed items → AreRun store sink formats gives place items statuses old new out_old out_new
      → (n : ℕ) (item : Item) (s : Status) → slice_get items n ≡ Some item → slice_get statuses n ≡ Some s → RanAlone item s old new
  each_part [] statuses old new out_old out_new apart ran n item s at given = absurd (cc at)
  each_part (first ∷ items) [] old new out_old out_new apart ran n item s at given = absurd (cc given)
  each_part (first ∷ items) (t ∷ statuses) old new out_old out_new apart ran zero item s at given =
      let same : first ≡ item = cc at in
      let ends : t ≡ s = cc given in
      subst (λ i. RanAlone i s old new) same (subst (λ u. RanAlone first u old new) ends (record {
        before = old;
        after = ran.0;
        out_before = out_old;
        out_after = ran.1;
        run = ran.2;
        found = refl;
        left = parts_kept first.folder items statuses ran.0 new ran.1 out_new (misses_all items apart.0) ran.3;
      }))
    where
      misses_all : (others : List Item) → AllByRecursion (λ other. Misses first.folder other × Misses other.folder first) others → AllByRecursion (Misses first.folder) others
      misses_all [] all = tt
      misses_all (other ∷ others) all = (all.0.0, misses_all others all.1)
  each_part (first ∷ items) (t ∷ statuses) old new out_old out_new apart ran (suc n) item s at given =
      let later : RanAlone item s ran.0 new = each_part items statuses ran.0 new ran.1 out_new apart.1 ran.3 n item s at given in
      record {
        before = later.before;
        after = later.after;
        out_before = later.out_before;
        out_after = later.out_after;
        run = later.run;
        found = later.found ∙ part_kept item.folder first old ran.0 out_old ran.1 t (all_at_place (λ other. Misses first.folder other × Misses other.folder first) items n item apart.0 at).1 ran.2;
        left = later.left;
      }

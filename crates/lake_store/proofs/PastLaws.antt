-- That a store in memory knows what it was. For the crates above too, where they crash such a store or write to it.
use Rattle.std.proofs.Common.{◌≡◌, ◌≢◌, ◌⊎◌, ◌||◌, not, inl, inr, ⊎_elim, ℕ, ◌≤◌, Bool, true, false, List, [], ◌∷◌, length, refl, sym, ◌∙◌, ap, subst, cond, if◌then◌else◌, filter, map as list_map, String, string_bytes, arith, Some, None, Option}
use Rattle.std.specs.declared.alloc.Global.{Global}
use Rattle.std.specs.Ordering.{nat_cmp}
use Rattle.std.specs.BTreeMap.{BTreeMap}
use Rattle.std.specs.FinMap.Entries.{find-where_key, where_key}
use Rattle.lake_store.specs.Trees.{files_of}
use Rattle.std.specs.List.{list_any}
use Rattle.std.specs.FinMap as map
use Rattle.std.specs.FinSet as set
use Rattle.lake_store.specs.Crash.{among}
use Rattle.lake_store.specs.Disk.{Disk, Files, Paths, MayLeave, SameElsewhere, moved, with_file, with_path}
use Rattle.lake_store.specs.Moments.{Elapses}
use Rattle.lake_store.specs.Past.{disk_before, disks_before, memory_of, put_back}
use Rattle.lake_store.specs.Memory.{LeftBy, Memory, disk_of, left_since_of, time_of}
use Rattle.lake_store.specs.declared.memory.Change.{Change}
use Rattle.lake_store.specs.declared.memory.Change.TheVariants.{At, Crashed, Moved}
use Rattle.std.specs.Cmp.Lexicographic.{nat_list_cmp_total, slice_cmp}
use Rattle.lake_store.proofs.DiskLaws.{is_path, path_here, path_other, path_cases, get-insert_here, get-insert_other, get-remove_here, get-remove_other, contains-insert_other, contains-remove_here, contains-remove_other}
use Rattle.lake_store.proofs.TreeLaws.{same_files, same_paths}

-- a call that changes the disk
pub elapses_changed : (old new : Memory) → new.past ≡ old.disk ∷ old.past → Elapses disk_of time_of left_since_of old new
elapses_changed old new is = record {
  later = subst (λ all. length old.past ≤ length all) (sym is) (omega arith);
  nothing_else = λ t image le left. ⊎_elim (λ now. inr now.1) (λ before. inl (subst (λ all. LeftBy all t image) is before)) left;
  keeps = λ t image le left. inr (subst (λ all. LeftBy all t image) (sym is) left);
}

-- what it replaced is kept
pub grown : (old new : Disk) (past past' : List Change) (change : Change) → past' ≡ change ∷ past → disk_before change new ≡ old → disks_before new past' ≡ old ∷ disks_before old past
grown old new past past' change is back = ap (disks_before new) is ∙ ap (λ d. d ∷ disks_before d past) back

-- the same, of a store that is seen as a disk and those before
pub grown_by : (old : Memory) (files : Files) (dirty : Paths) (past past' : List Change) (new : Disk) (change : Change) → memory_of files dirty past ≡ old → past' ≡ change ∷ past → disk_before change new ≡ record { files = files; dirty = dirty } → disks_before new past' ≡ old.disk ∷ old.past
grown_by old files dirty past past' new change view is back = grown (record { files = files; dirty = dirty }) new past past' change is back ∙ ap (λ (m : Memory). m.disk ∷ m.past) view

pub same_disk : (a b : Disk) → a.files ≡ b.files → a.dirty ≡ b.dirty → a ≡ b
same_disk a b files dirty = λ i. record { files = files i; dirty = dirty i }

pub get-with_here : (m : Files) (p : List ℕ) (o : Option (List ℕ)) → map.get (with_file m p o) p ≡ o
get-with_here m p None = get-remove_here m p
get-with_here m p (Some b) = get-insert_here m p b

pub get-with_other : (m : Files) (p : List ℕ) (o : Option (List ℕ)) (q : List ℕ) → q ≢ p → map.get (with_file m p o) q ≡ map.get m q
get-with_other m p None q apart = get-remove_other m p q apart
get-with_other m p (Some b) q apart = get-insert_other m p b q apart

contains-insert_here : (s : Paths) (p : List ℕ) → set.contains (set.insert s p) p ≡ true
contains-insert_here s p = set.contains-insert nat_list_cmp_total s p p ∙ ap (λ t. t || set.contains s p) (path_here p)

contains-with_here : (s : Paths) (p : List ℕ) (b : Bool) → set.contains (with_path s p b) p ≡ b
contains-with_here s p true = contains-insert_here s p
contains-with_here s p false = contains-remove_here s p

contains-with_other : (s : Paths) (p : List ℕ) (b : Bool) (q : List ℕ) → q ≢ p → set.contains (with_path s p b) q ≡ set.contains s q
contains-with_other s p true q apart = contains-insert_other s p q apart
contains-with_other s p false q apart = contains-remove_other s p q apart

pub files_back : (old new : Files) (p : List ℕ) → ((q : List ℕ) → q ≢ p → map.get new q ≡ map.get old q) → with_file new p (map.get old p) ≡ old
files_back old new p same = same_files _ _ (λ q. ⊎_elim
    (λ is. ap (map.get _) is ∙ get-with_here new p (map.get old p) ∙ ap (map.get old) (sym is))
    (λ apart. get-with_other new p (map.get old p) q apart ∙ same q apart) (path_cases q p))

paths_back : (old new : Paths) (p : List ℕ) → ((q : List ℕ) → q ≢ p → set.contains new q ≡ set.contains old q) → with_path new p (set.contains old p) ≡ old
paths_back old new p same = same_paths _ _ (λ q. ⊎_elim
    (λ is. ap (set.contains _) is ∙ contains-with_here new p (set.contains old p) ∙ ap (set.contains old) (sym is))
    (λ apart. contains-with_other new p (set.contains old p) q apart ∙ same q apart) (path_cases q p))

-- the change of one path
pub back_at : (old new : Disk) (p : List ℕ) → SameElsewhere p old new → disk_before (At p (map.get old.files p) (set.contains old.dirty p)) new ≡ old
back_at old new p same = same_disk _ old (files_back old.files new.files p same.files) (paths_back old.dirty new.dirty p same.dirty)

-- a move
module _ (old : Disk) (from to b : List ℕ) (there : map.get old.files from ≡ Some b) (free : map.get old.files to ≡ None) where
  abbrev new : Disk
  new = moved old from to b

  apart : from ≢ to
  apart same = cc (sym there ∙ ap (map.get old.files) same ∙ free)

  moved_there : map.get new.files to ≡ Some b
  moved_there = get-insert_here _ to b

  moved_files_back : with_file (map.remove new.files to) from (map.get new.files to) ≡ old.files
  moved_files_back = ap (with_file (map.remove new.files to) from) (moved_there ∙ sym there) ∙ files_back old.files (map.remove new.files to) from (λ q elsewhere. at q elsewhere (path_cases q to))
    where
      at : (q : List ℕ) → q ≢ from → (q ≡ to) ⊎ (q ≢ to) → map.get (map.remove new.files to) q ≡ map.get old.files q
      at q elsewhere (inl is) = ap (map.get _) is ∙ get-remove_here new.files to ∙ sym (ap (map.get old.files) is ∙ free)
      at q elsewhere (inr other) = get-remove_other new.files to q other ∙ get-insert_other _ to b q other ∙ get-remove_other old.files from q elsewhere

  pub back_moved : disk_before (Moved from to (set.contains old.dirty to)) new ≡ old
  back_moved = same_disk _ old moved_files_back (paths_back old.dirty new.dirty to (contains-remove_other old.dirty to))

-- a crash
put_one_more : (files kept so_far : Files) (paths : List (List ℕ)) (p q : List ℕ) → map.get so_far q ≡ cond (list_any (is_path q) paths) (map.get kept q) (map.get files q) → (q ≡ p) ⊎ (q ≢ p)
    → map.get (with_file so_far p (map.get kept p)) q ≡ cond (is_path q p || list_any (is_path q) paths) (map.get kept q) (map.get files q)
put_one_more files kept so_far paths p q before (inl is) = ap (map.get _) is ∙ get-with_here so_far p (map.get kept p) ∙ ap (map.get kept) (sym is)
    ∙ ap (λ t. cond (t || list_any (is_path q) paths) (map.get kept q) (map.get files q)) (sym (ap (λ r. is_path r p) is ∙ path_here p))
put_one_more files kept so_far paths p q before (inr other) = get-with_other so_far p (map.get kept p) q other ∙ before
    ∙ ap (λ t. cond (t || list_any (is_path q) paths) (map.get kept q) (map.get files q)) (sym (path_other q p other))

get-put_back : (files kept : Files) (paths : List (List ℕ)) (q : List ℕ) → map.get (put_back files kept paths) q ≡ cond (list_any (is_path q) paths) (map.get kept q) (map.get files q)
get-put_back files kept [] q = refl
get-put_back files kept (p ∷ paths) q = put_one_more files kept (put_back files kept paths) paths p q (get-put_back files kept paths q) (path_cases q p)

pub get-among : (files : Files) (paths : Paths) (q : List ℕ) → map.get (among files paths) q ≡ cond (set.contains paths q) (map.get files q) None
get-among files paths q = map.get-retain_keys files (set.contains paths) q (λ x tied. set.contains_tied nat_list_cmp_total paths q x tied)

pub back_crashed : (old : Disk) (image : Files) → MayLeave old image → disk_before (Crashed (among old.files old.dirty) old.dirty) (record { files = image; dirty = set.empty }) ≡ old
back_crashed old image may = same_disk _ old (same_files _ _ (λ q. get-put_back image (among old.files old.dirty) (set.items old.dirty) q
    ∙ ap (λ t. cond t (map.get (among old.files old.dirty) q) (map.get image q)) (sym (set.contains-items old.dirty q))
    ∙ at q (set.contains old.dirty q) refl)) refl
  where
    at : (q : List ℕ) (t : Bool) → set.contains old.dirty q ≡ t → cond t (map.get (among old.files old.dirty) q) (map.get image q) ≡ map.get old.files q
    at q true is = get-among old.files old.dirty q ∙ ap (λ t. cond t (map.get old.files q) None) is
    at q false is = may q is

-- a path that is added and taken out again
pub unmarked : (s : Paths) (p : List ℕ) → set.contains s p ≡ false → set.remove (set.insert s p) p ≡ s
unmarked s p absent = ap (with_path (set.insert s p) p) (sym absent) ∙ paths_back s (set.insert s p) p (contains-insert_other s p)

pub marked : (s : Paths) (p : List ℕ) → set.contains s p ≡ true → set.insert s p ≡ s
marked s p present = ap (with_path s p) (sym present) ∙ paths_back s s p (λ q apart. refl)

-- a call that changes one path
module _ (old : Memory) (files : Files) (dirty : Paths) (past room past' : List Change) (view : memory_of files dirty past ≡ old) (new : Disk) where
  pub past_at : (p path : List ℕ) (bytes : Option (List ℕ)) (was : Bool) → past' ≡ At path bytes was ∷ room → room ≡ past
      → path ≡ p → bytes ≡ map.get files p → was ≡ set.contains dirty p → SameElsewhere p (record { files = files; dirty = dirty }) new → disks_before new past' ≡ old.disk ∷ old.past
  past_at p path bytes was is roomy named had was_dirty same =
      grown_by old files dirty past past' new (At p (map.get files p) (set.contains dirty p)) view (is ∙ (λ i. At (named i) (had i) (was_dirty i) ∷ roomy i)) (back_at (record { files = files; dirty = dirty }) new p same)

  -- a call that moves a file
  pub past_moved : (from to b from' to' : List ℕ) (was : Bool) → past' ≡ Moved from' to' was ∷ room → room ≡ past
      → from' ≡ from → to' ≡ to → was ≡ set.contains dirty to → map.get files from ≡ Some b → map.get files to ≡ None → new ≡ moved (record { files = files; dirty = dirty }) from to b → disks_before new past' ≡ old.disk ∷ old.past
  past_moved from to b from' to' was is roomy named_from named_to was_dirty there free moves =
      grown_by old files dirty past past' new (Moved from to (set.contains dirty to)) view (is ∙ (λ i. Moved (named_from i) (named_to i) (was_dirty i) ∷ roomy i))
      (ap (disk_before (Moved from to (set.contains dirty to))) moves ∙ back_moved (record { files = files; dirty = dirty }) from to b there free)

pub not_swap : (b c : Bool) → not b ≡ c → b ≡ not c
not_swap true c is = ap not is
not_swap false c is = ap not is

-- a call that crashes
pub past_crashed : (old : Memory) (files : Files) (dirty : Paths) (past room past' : List Change) (image kept : Files) (was rest : Paths) → memory_of files dirty past ≡ old → past' ≡ Crashed kept was ∷ room → room ≡ past
    → kept ≡ among files dirty → was ≡ dirty → rest ≡ set.empty → MayLeave (record { files = files; dirty = dirty }) image → disks_before (record { files = image; dirty = rest }) past' ≡ old.disk ∷ old.past
past_crashed old files dirty past room past' image kept was rest view is roomy had was_dirty clean may =
    grown_by old files dirty past past' (record { files = image; dirty = rest }) (Crashed (among files dirty) dirty) view (is ∙ (λ i. Crashed (had i) (was_dirty i) ∷ roomy i))
    (ap (λ d. disk_before (Crashed (among files dirty) dirty) (record { files = image; dirty = d })) clean ∙ back_crashed (record { files = files; dirty = dirty }) image may)

abbrev seen : String Global × List ℕ → List ℕ × List ℕ
seen e = (string_bytes e.0, e.1)

abbrev is_kept : Paths → String Global × List ℕ → Bool
is_kept paths e = set.contains paths (string_bytes e.0)

seen_one_more : (paths : Paths) (e : String Global × List ℕ) (es : List (String Global × List ℕ)) (keep : Bool) → list_map seen (filter (is_kept paths) es) ≡ where_key (slice_cmp nat_cmp) (set.contains paths) (list_map seen es)
    → list_map seen (if keep then e ∷ filter (is_kept paths) es else filter (is_kept paths) es) ≡ (if keep then seen e ∷ where_key (slice_cmp nat_cmp) (set.contains paths) (list_map seen es) else where_key (slice_cmp nat_cmp) (set.contains paths) (list_map seen es))
seen_one_more paths e es true so_far = ap (λ l. seen e ∷ l) so_far
seen_one_more paths e es false so_far = so_far

seen-filter : (paths : Paths) (es : List (String Global × List ℕ)) → list_map seen (filter (is_kept paths) es) ≡ where_key (slice_cmp nat_cmp) (set.contains paths) (list_map seen es)
seen-filter paths [] = refl
seen-filter paths (e ∷ es) = seen_one_more paths e es (is_kept paths e) (seen-filter paths es)

-- a tree of which the entries at some paths are kept
pub files_of-kept : (old new : BTreeMap (String Global) (List ℕ)) (paths : Paths) → new.entries ≡ filter (is_kept paths) old.entries → files_of new ≡ among (files_of old) paths
files_of-kept old new paths is = same_files _ _ (λ q. map.get-from_entries nat_list_cmp_total (list_map seen new.entries) q
    ∙ ap (map.find (slice_cmp nat_cmp) q) (ap (list_map seen) is ∙ seen-filter paths old.entries)
    ∙ find-where_key (slice_cmp nat_cmp) (set.contains paths) q (λ x tied. set.contains_tied nat_list_cmp_total paths q x tied) (list_map seen old.entries)
    ∙ ap (λ o. cond (set.contains paths q) o None) (sym (map.get-from_entries nat_list_cmp_total (list_map seen old.entries) q))
    ∙ sym (get-among (files_of old) paths q))

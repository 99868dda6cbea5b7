-- A target while events are played: what changes nothing of it, and what a crash leaves.
use Rattle.std.proofs.Common.{◌≡◌, inl, ℕ, zero, suc, ◌≤◌, ◌<◌, List, [], ◌∷◌, ◌++◌, length, Contains, Option, Some, None, refl, sym, ap, subst, ◌∙◌, arith}
use Rattle.std.specs.Prelude.{IsSome, slice_get}
use Rattle.std.specs.FinMap as map
use Rattle.std.specs.FinSet as set
use Rattle.std.specs.Ordering.{nat_cmp}
use Rattle.std.specs.Cmp.Lexicographic.{slice_cmp}
use Rattle.lake_store.specs.Disk.{Disk, Files, IsClean, MayLeave, empty_disk, front_of, names_in}
use Rattle.lake_store.specs.Runs.{IsIn}
use Rattle.lake_store.proofs.OrderLaws.{names_in_listed}
use Rattle.source_core.specs.Histories.{IsAt, ShowsTable}
use Rattle.table_history.proofs.RowListLemmas.{Contains-none}
use Rattle.table_history.specs.History.{History}
use Rattle.table_history.specs.TypeTree.{ColumnTrees}
use Rattle.table_history.specs.declared.kind.Kind.TheVariants.{Delta}
use Rattle.hudi_commit.specs.Names.{timeline_folder, timeline_path}
use Rattle.iceberg_table.specs.Folder.{metadata_folder}
use Rattle.target_core.specs.Folders.{MayLeaveIn, SameIn, after_crash, folder_of}
use Rattle.target_core.specs.Meaning.{Meaning}
use Rattle.target_core.specs.Views.{View, absent}
use Rattle.target_hudi.specs.Reading as hudi_reading
use Rattle.target_hudi.specs.SettledLemmas as hudi
use Rattle.target_hudi.proofs.KeepsLemmas.{none_of}
use Rattle.target_iceberg.specs.Reading as iceberg_reading
use Rattle.target_iceberg.specs.SettledLemmas as iceberg
use Rattle.hudi_table.specs.Instants.{timeline_of}
use Rattle.lake_play.specs.Standing.{StandsWithin, meaning_of_hudi, meaning_of_iceberg}

-- ---- the laws of a target that are used

pub record Laws (target : Meaning) : Type 0 where
  pub reads_own : (a b : Files) (v : View) → SameIn (folder_of target.kind) a b → target.reads a v → target.reads b v
  pub settled_own : (a b : Disk) → SameIn (folder_of target.kind) a.files b.files → ((path : List ℕ) → IsIn (folder_of target.kind) path → IsClean a path → IsClean b path) → target.settled a → target.settled b
  pub crash_reads : (disk : Disk) (image : Files) (v : View) → target.settled disk → MayLeaveIn (folder_of target.kind) disk image → target.reads disk.files v → target.reads image v
  pub crash_settled : (disk : Disk) (image : Files) → target.settled disk → MayLeaveIn (folder_of target.kind) disk image → target.settled (after_crash image)
  pub settled_absent : (disk : Disk) → target.reads disk.files (absent []) → ((path : List ℕ) → IsIn (folder_of target.kind) path → IsClean disk path) → target.settled disk
  pub nothing : target.reads empty_disk.files (absent [])

-- ---- a store without files

not_there : (path : List ℕ) → IsSome (map.get empty_disk.files path) → ⊥
not_there path is = let none : map.get empty_disk.files path ≡ None = map.get-empty (slice_cmp nat_cmp) path in cc

no_names : (folder : List ℕ) → names_in empty_disk.files folder ≡ []
no_names folder = none_of (names_in empty_disk.files folder) (λ name there. not_there (front_of folder ++ name) ((((names_in_listed empty_disk.files folder).members name).0 there).1))

no_hudi : hudi_reading.Reads empty_disk.files (absent [])
no_hudi = inl (
  record {
    properties = record { own = λ bytes holds. absurd (none_some bytes (sym (map.get-empty (slice_cmp nat_cmp) _) ∙ holds)); there = λ lacks. not_there _ lacks.4 };
    names = λ name names. absurd (not_there (timeline_path name) names.there);
    none = ap (λ (names : List (List ℕ)). (timeline_of names).completed) (no_names timeline_folder);
  },
  refl,
)
  where
    none_some : (x : List ℕ) → None ≡ Some x → ⊥
    none_some x is = cc

no_iceberg : iceberg_reading.Reads empty_disk.files (absent [])
no_iceberg = inl (
  record {
    versions = λ version has. nothing has.0 (subst (λ (names : List (List ℕ)). Contains names has.0) (no_names metadata_folder) has.1);
    names = λ name proper there. absurd (not_there _ there);
  },
  refl,
)
  where
    nothing : (x : List ℕ) → Contains [] x → ⊥
    nothing x there = Contains-none x there

pub hudi_laws : Laws meaning_of_hudi
hudi_laws = record {
  reads_own = hudi.reads_own;
  settled_own = λ a b same fewer settled. hudi.settled_own a b same fewer settled;
  crash_reads = λ disk image v settled may reads. hudi.crash_reads disk image settled may v reads;
  crash_settled = λ disk image settled may. hudi.crash_settled disk image settled may;
  settled_absent = hudi.settled_absent;
  nothing = no_hudi;
}

pub iceberg_laws : Laws meaning_of_iceberg
iceberg_laws = record {
  reads_own = iceberg.reads_own;
  settled_own = λ a b same fewer settled. iceberg.settled_own a b same fewer settled;
  crash_reads = λ disk image v settled may reads. iceberg.crash_reads disk image settled may v reads;
  crash_settled = λ disk image settled may. iceberg.crash_settled disk image settled may;
  settled_absent = iceberg.settled_absent;
  nothing = no_iceberg;
}

-- ---- where it stands

-- The target stands within these, and a crash can't change where.
pub record IsPlayed (target : Meaning) (history : History) (floor count : ℕ) (disk : Disk) : Type 0 where
  pub stands : StandsWithin target history floor count disk.files
  pub settled : target.settled disk

module _ (target : Meaning) (laws : Laws target) (history : History) where
  pub at_nothing : IsPlayed target history 0 0 empty_disk
  at_nothing = record {
    stands = record { j = 0; from_there = omega arith; up_to = omega arith; at = record { view = absent []; reads = laws.nothing; shows = refl } };
    settled = laws.settled_absent empty_disk laws.nothing (λ path within. set.contains-empty (slice_cmp nat_cmp) path);
  }

  at_same : (a b : Files) (j : ℕ) → SameIn (folder_of target.kind) a b → IsAt Delta target history a j → IsAt Delta target history b j
  at_same a b j same at = record { view = at.view; reads = laws.reads_own a b at.view same at.reads; shows = at.shows }

  pub same_played : (floor count : ℕ) (a b : Disk) → SameIn (folder_of target.kind) a.files b.files → ((path : List ℕ) → IsIn (folder_of target.kind) path → IsClean a path → IsClean b path) → IsPlayed target history floor count a → IsPlayed target history floor count b
  same_played floor count a b same fewer h = record {
    stands = record { j = h.stands.j; from_there = h.stands.from_there; up_to = h.stands.up_to; at = at_same a.files b.files h.stands.j same h.stands.at };
    settled = laws.settled_own a b same fewer h.settled;
  }

  -- what a crash may leave
  pub left_standing : (floor count : ℕ) (disk : Disk) (image : Files) → MayLeave disk image → IsPlayed target history floor count disk → StandsWithin target history floor count image
  left_standing floor count disk image may h = record {
    j = h.stands.j;
    from_there = h.stands.from_there;
    up_to = h.stands.up_to;
    at = record { view = h.stands.at.view; reads = laws.crash_reads disk image h.stands.at.view h.settled (λ path own clean. may path clean) h.stands.at.reads; shows = h.stands.at.shows };
  }

  pub crash_played : (floor count : ℕ) (disk new : Disk) → MayLeave disk new.files → new ≡ after_crash new.files → IsPlayed target history floor count disk → IsPlayed target history floor count new
  crash_played floor count disk new may clean h = record {
    stands = left_standing floor count disk new.files may h;
    settled = subst target.settled (sym clean) (laws.crash_settled disk new.files h.settled (λ path own c. may path c));
  }

  -- more commits
  pub later_played : (floor count more : ℕ) (disk : Disk) → count ≤ more → IsPlayed target history floor count disk → IsPlayed target history floor more disk
  later_played floor count more disk le h =
      let up = h.stands.up_to in
      record { stands = record { j = h.stands.j; from_there = h.stands.from_there; up_to = omega (arith, le, up); at = h.stands.at }; settled = h.settled }

-- ---- the first tables of a history

pub first_get : {X : Type 0} (front behind : List X) (i : ℕ) → i < length front → slice_get (front ++ behind) i ≡ slice_get front i
first_get [] behind i within = absurd (omega (arith, within))
first_get (x ∷ front) behind zero within = refl
first_get (x ∷ front) behind (suc i) within = first_get front behind i (omega (arith, within))

pub shows_front : (image : ColumnTrees → Option ColumnTrees) (front behind : History) (j : ℕ) (view : View) → j ≤ length front → ShowsTable Delta image (front ++ behind) j view → ShowsTable Delta image front j view
shows_front image front behind zero view le shows = shows
shows_front image front behind (suc j) view le shows = (shows.0, sym (first_get front behind j le) ∙ shows.1, shows.2)

pub shows_whole : (image : ColumnTrees → Option ColumnTrees) (front behind : History) (j : ℕ) (view : View) → j ≤ length front → ShowsTable Delta image front j view → ShowsTable Delta image (front ++ behind) j view
shows_whole image front behind zero view le shows = shows
shows_whole image front behind (suc j) view le shows = (shows.0, first_get front behind j le ∙ shows.1, shows.2)

module _ (target : Meaning) (front behind : History) (files : Files) (j : ℕ) (le : j ≤ length front) where
  pub at_front : IsAt Delta target (front ++ behind) files j → IsAt Delta target front files j
  at_front at = record { view = at.view; reads = at.reads; shows = shows_front target.image front behind j at.view le at.shows }

  pub at_whole : IsAt Delta target front files j → IsAt Delta target (front ++ behind) files j
  at_whole at = record { view = at.view; reads = at.reads; shows = shows_whole target.image front behind j at.view le at.shows }

-- How log compactions come one after another, at each moment.
use Rattle.std.proofs.Common.{◌≡◌, ◌≢◌, ◌⊎◌, inl, inr, ⊎_elim, ℕ, List, Option, Some, None, refl, sym, ap, subst, ◌∙◌}
use Rattle.std.specs.FinMap as map
use Rattle.std.proofs.lemmas.Option.{none-some}
use Rattle.lake_store.specs.Disk.{Disk, Files, IsClean}
use Rattle.lake_store.specs.Publication.{IsAbsentOrWhole, IsPublished, IsStaged, IsStagedImage}
use Rattle.lake_store.specs.Runs.{LeavesOnly, OnlyReads}
use Rattle.lake_store.specs.declared.store.Store.{Ghosts}
use Rattle.lake_store.proofs.DiskLaws.{path_cases}
use Rattle.lake_store.proofs.MomentLaws.{goes_further, weaker}
use Rattle.delta_log.specs.declared.commit.DeltaCommit.{DeltaCommit}
use Rattle.delta_table.specs.SameVersions.{SameVersions, versions_sym}
use Rattle.delta_compaction.specs.Agreeing.{Agrees}
use Rattle.delta_compaction.specs.Taken.{AreTaken}
use Rattle.delta_compact.specs.Blocks.{HasCompaction, HoldsBlock, HoldsCompaction, IsBlockPath, IsBlockText, IsCompacted}
use Rattle.delta_compact.specs.Compacting.{Compacts, IsCompactedImage, IsCompactedOver, IsGained, IsKeptOrGained, IsOthers, NoBlock, staged_path}
use Rattle.delta_compact.specs.Refusals.{IsStale}
use Rattle.delta_compact.proofs.Held.{block_too}
use Rattle.delta_compact.proofs.Paths.{not_staged, not_staged_version, not_version, one_block}

-- ---- files

module _ (Blocks Taken : ℕ → Type 0) (old new : Disk) (over : IsCompactedOver Blocks Taken old new) where
  -- no version changes
  pub versions_stay : SameVersions old.files new.files
  versions_stay path version is = ⊎_elim (λ same. same)
      (λ other. ⊎_elim (λ (gained : IsGained Blocks old.files path (map.get new.files path)). absurd (not_version path version gained.block is gained.is))
      (λ (others : IsOthers Taken old.files path). absurd (not_version path version others.block is others.is)) other)
      (over.files path (not_staged_version path version is))

  versions_back : SameVersions new.files old.files
  versions_back = versions_sym old.files new.files versions_stay

  pub held_back : (block : ℕ) (commits : List (List ℕ)) → HoldsBlock new.files block commits → HoldsBlock old.files block commits
  held_back block commits h = block_too new.files old.files versions_back block commits h

  pub held_on : (block : ℕ) (commits : List (List ℕ)) → HoldsBlock old.files block commits → HoldsBlock new.files block commits
  held_on block commits h = block_too old.files new.files versions_stay block commits h

  pub text_back : (block : ℕ) (text : List ℕ) → IsBlockText new.files block text → IsBlockText old.files block text
  text_back block text h = (h.0, held_back block h.0 h.1, h.2)

  -- a file that is there stays
  stays : (path : List ℕ) (bytes : List ℕ) → path ≢ staged_path → map.get old.files path ≡ Some bytes → map.get new.files path ≡ Some bytes
  stays path bytes apart there = ⊎_elim (λ same. same ∙ there)
      (λ other. ⊎_elim (λ (gained : IsGained Blocks old.files path (map.get new.files path)). absurd (none-some bytes (sym gained.absent ∙ there)))
      (λ (others : IsOthers Taken old.files path). absurd (none-some bytes (sym others.absent ∙ there))) other)
      (over.files path apart)

  compaction_on : (block : ℕ) (bytes : List ℕ) → HoldsCompaction old.files block bytes → HoldsCompaction new.files block bytes
  compaction_on block bytes h = record { path = h.path; is = h.is; there = stays h.path bytes (not_staged h.path block h.is) h.there }

  pub compacted_on : (block : ℕ) → IsCompacted old.files block → IsCompacted new.files block
  compacted_on block h = record { commits = h.commits; held = held_on block h.commits h.held; said = h.said; taken = h.taken; text = h.text; there = compaction_on block h.text h.there; agrees = h.agrees }

  pub has_on : (block : ℕ) → HasCompaction old.files block → HasCompaction new.files block
  has_on block h = (h.0, compaction_on block h.0 h.1)

  pub stale_on : (block : ℕ) → IsStale old.files block → IsStale new.files block
  stale_on block h = record { bytes = h.bytes; there = compaction_on block h.bytes h.there; cause = ⊎_elim inl (λ c. inr (c.0, held_on block c.0 c.1, c.2)) h.cause }

-- of a block that isn't among them, nothing is new
module _ (Blocks : ℕ → Type 0) (old new : Disk) (over : IsCompactedOver Blocks NoBlock old new) where
  compaction_back : (block : ℕ) (bytes : List ℕ) → (Blocks block → ⊥) → HoldsCompaction new.files block bytes → HoldsCompaction old.files block bytes
  compaction_back block bytes not_among h = record {
    path = h.path;
    is = h.is;
    there = ⊎_elim (λ same. sym same ∙ h.there)
        (λ other. ⊎_elim
        (λ (gained : IsGained Blocks old.files h.path (map.get new.files h.path)). absurd (not_among (subst Blocks (one_block h.path gained.block block gained.is h.is) gained.among)))
        (λ (others : IsOthers NoBlock old.files h.path). absurd others.taken) other)
        (over.files h.path (not_staged h.path block h.is));
  }

  pub has_back : (block : ℕ) → (Blocks block → ⊥) → HasCompaction new.files block → HasCompaction old.files block
  has_back block not_among h = (h.0, compaction_back block h.0 not_among h.1)

  pub stale_back : (block : ℕ) → (Blocks block → ⊥) → IsStale new.files block → IsStale old.files block
  stale_back block not_among h = record {
    bytes = h.bytes;
    there = compaction_back block h.bytes not_among h.there;
    cause = ⊎_elim inl (λ c. inr (c.0, held_back Blocks NoBlock old new over block c.0 c.1, c.2)) h.cause;
  }

-- ---- one after another

module _ (B C D Taken Wider : ℕ → Type 0) (from_b : (block : ℕ) → B block → D block) (from_c : (block : ℕ) → C block → D block) (wider : (block : ℕ) → Taken block → Wider block) (old mid : Disk) (over : IsCompactedOver B NoBlock old mid) where
  absent_before : (path : List ℕ) → path ≢ staged_path → map.get mid.files path ≡ None → map.get old.files path ≡ None
  absent_before path apart none = ⊎_elim (λ same. sym same ∙ none)
      (λ other. ⊎_elim (λ (gained : IsGained B old.files path (map.get mid.files path)). gained.absent) (λ (others : IsOthers NoBlock old.files path). others.absent) other)
      (over.files path apart)

  kept_so_far : (path : List ℕ) (now : Option (List ℕ)) → now ≡ map.get mid.files path → IsKeptOrGained B NoBlock old.files path (map.get mid.files path) → IsKeptOrGained D Wider old.files path now
  kept_so_far path now is so_far = ⊎_elim (λ same. inl (is ∙ same))
      (λ other. ⊎_elim
      (λ (gained : IsGained B old.files path (map.get mid.files path)). inr (inl (record {
        absent = gained.absent;
        block = gained.block;
        among = from_b gained.block gained.among;
        is = gained.is;
        text = gained.text;
        made = gained.made;
        there = is ∙ gained.there;
      })))
      (λ (others : IsOthers NoBlock old.files path). absurd others.taken) other)
      so_far

  pub kept_further : (path : List ℕ) (now : Option (List ℕ)) → path ≢ staged_path → IsKeptOrGained C Taken mid.files path now → IsKeptOrGained D Wider old.files path now
  kept_further path now apart more = ⊎_elim
      (λ same. kept_so_far path now same (over.files path apart))
      (λ other. ⊎_elim
      (λ (gained : IsGained C mid.files path now). inr (inl (record {
        absent = absent_before path apart gained.absent;
        block = gained.block;
        among = from_c gained.block gained.among;
        is = gained.is;
        text = gained.text;
        made = text_back B NoBlock old mid over gained.block gained.text gained.made;
        there = gained.there;
      })))
      (λ (others : IsOthers Taken mid.files path). inr (inr (record { absent = absent_before path apart others.absent; block = others.block; taken = wider others.block others.taken; is = others.is })))
      other)
      more

  pub over_further : (new : Disk) → IsCompactedOver C Taken mid new → IsCompactedOver D Wider old new
  over_further new more = record {
    files = λ path apart. kept_further path (map.get new.files path) apart (more.files path apart);
    clean = λ path apart was. more.clean path apart (over.clean path apart was);
  }

  pub image_further : (image : Files) → IsCompactedImage C Taken mid image → IsCompactedImage D Wider old image
  image_further image more path apart was = kept_further path (map.get image path) apart (more path apart (over.clean path apart was))

  pub image_so_far : (image : Files) → IsCompactedImage B NoBlock old image → IsCompactedImage D Wider old image
  image_so_far image so_far path apart was = ⊎_elim (λ same. inl same)
      (λ other. ⊎_elim
      (λ (gained : IsGained B old.files path (map.get image path)). inr (inl (record {
        absent = gained.absent;
        block = gained.block;
        among = from_b gained.block gained.among;
        is = gained.is;
        text = gained.text;
        made = gained.made;
        there = gained.there;
      })))
      (λ (others : IsOthers NoBlock old.files path). absurd others.taken) other)
      (so_far path apart was)

module _ {S : Type 0} (store : Ghosts S) where
  -- what only reads
  pub reading_compacts : (Blocks Taken : ℕ → Type 0) (old new : S) → OnlyReads store old new → Compacts store Blocks Taken old new
  reading_compacts Blocks Taken old new only = record {
    disk = record {
      files = λ path apart. inl (ap (λ (d : Disk). map.get d.files path) only.disk);
      clean = λ path apart was. subst (λ (d : Disk). IsClean d path) (sym only.disk) was;
    };
    moments = record {
      later = only.moments.later;
      each = λ image left path apart was. inl (only.moments.each image left path was);
      before = λ t image le left. ⊎_elim inl (λ may. inr (λ path apart was. inl (may path was))) (only.moments.before t image le left);
    };
  }

  -- some blocks, and then some more
  pub compacts_further : (B C D Taken Wider : ℕ → Type 0) → ((block : ℕ) → B block → D block) → ((block : ℕ) → C block → D block) → ((block : ℕ) → Taken block → Wider block) → (old mid new : S) → store.tells
      → Compacts store B NoBlock old mid → Compacts store C Taken mid new → Compacts store D Wider old new
  compacts_further B C D Taken Wider from_b from_c wider old mid new told one more = record {
    disk = over_further B C D Taken Wider from_b from_c wider (store.disk old) (store.disk mid) one.disk (store.disk new) more.disk;
    moments = goes_further store old mid new (IsCompactedImage D Wider (store.disk old))
        (weaker store old mid (IsCompactedImage B NoBlock (store.disk old)) (IsCompactedImage D Wider (store.disk old))
        (image_so_far B C D Taken Wider from_b from_c wider (store.disk old) (store.disk mid) one.disk) (λ t. one.moments))
        (weaker store mid new (IsCompactedImage C Taken (store.disk mid)) (IsCompactedImage D Wider (store.disk old))
        (image_further B C D Taken Wider from_b from_c wider (store.disk old) (store.disk mid) one.disk) (λ t. more.moments)) told;
  }

  -- reading, and then some blocks
  pub compacts_behind : (C Taken Wider : ℕ → Type 0) → ((block : ℕ) → Taken block → Wider block) → (old mid new : S) → store.tells → OnlyReads store old mid → Compacts store C Taken mid new → Compacts store C Wider old new
  compacts_behind C Taken Wider wider old mid new told only more =
      compacts_further NoBlock C C Taken Wider (λ b none. absurd none) (λ b among. among) wider old mid new told (reading_compacts NoBlock NoBlock old mid only) more

  -- ---- one log compaction

  module _ (block : ℕ) (name bytes : List ℕ) (is : IsBlockPath name block) (old new : S) (made : IsBlockText (store.disk old).files block bytes) (free : map.get (store.disk old).files name ≡ None) (Taken : Type 0) (Wider : ℕ → Type 0) (wider : Taken → Wider block) where
    abbrev Only : ℕ → Type 0
    Only b = b ≡ block

    name_kept : (now : Option (List ℕ)) → (now ≡ None) ⊎ (now ≡ Some bytes) ⊎ Taken → IsKeptOrGained Only Wider (store.disk old).files name now
    name_kept now (inl none) = inl (none ∙ sym free)
    name_kept now (inr (inl whole)) = inr (inl (record { absent = free; block = block; among = refl; is = is; text = bytes; made = made; there = whole }))
    name_kept now (inr (inr taken)) = inr (inr (record { absent = free; block = block; taken = wider taken; is = is }))

    path_kept : (files : Files) (path : List ℕ) → ((path ≢ name) → map.get files path ≡ map.get (store.disk old).files path) → IsAbsentOrWhole name bytes Taken files → IsKeptOrGained Only Wider (store.disk old).files path (map.get files path)
    path_kept files path others file = ⊎_elim
        (λ (here : path ≡ name). subst (λ (p : List ℕ). IsKeptOrGained Only Wider (store.disk old).files p (map.get files p)) (sym here) (name_kept (map.get files name) file))
        (λ (apart : path ≢ name). inl (others apart))
        (path_cases path name)

    image_kept : (image : Files) → IsStagedImage staged_path name bytes Taken (store.disk old) image → IsCompactedImage Only Wider (store.disk old) image
    image_kept image h path apart was = ⊎_elim
        (λ (here : path ≡ name). subst (λ (p : List ℕ). IsKeptOrGained Only Wider (store.disk old).files p (map.get image p)) (sym here)
        (name_kept (map.get image name) (h.file (subst (λ (p : List ℕ). IsClean (store.disk old) p) here was))))
        (λ (other : path ≢ name). inl (h.others path apart other was))
        (path_cases path name)

    pub staged_compacts : store.tells → IsStaged staged_path name bytes Taken (store.disk old) (store.disk new) → LeavesOnly store old new (IsStagedImage staged_path name bytes Taken (store.disk old)) → Compacts store Only Wider old new
    staged_compacts told left moments = record {
      disk = record {
        files = λ path apart. path_kept (store.disk new).files path (λ other. left.others path apart other) left.file;
        clean = λ path apart was. left.clean path apart was;
      };
      moments = weaker store old new (IsStagedImage staged_path name bytes Taken (store.disk old)) (IsCompactedImage Only Wider (store.disk old)) image_kept moments told;
    }

  -- at the end of it the block's log compaction is there
  pub published_compacted : (block : ℕ) (name bytes : List ℕ) (commits : List (List ℕ)) (old new : S) → IsBlockPath name block → HoldsBlock (store.disk old).files block commits → ((said : List DeltaCommit) × AreTaken commits said) → Agrees bytes commits
      → IsPublished staged_path name bytes (store.disk old) (store.disk new) → IsCompacted (store.disk new).files block
  published_compacted block name bytes commits old new is held taken agrees published = record {
    commits = commits;
    said = taken.0;
    taken = taken.1;
    text = bytes;
    held = block_too (store.disk old).files (store.disk new).files
        (λ path version of. published.others path (not_staged_version path version of) (λ same. not_version path version block of (subst (λ (p : List ℕ). IsBlockPath p block) (sym same) is))) block commits held;
    there = record { path = name; is = is; there = published.file };
    agrees = agrees;
  }

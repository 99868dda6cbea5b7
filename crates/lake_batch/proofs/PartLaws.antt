-- What the calls of the whole store do to its part.
use Rattle.std.proofs.Common.{◌≡◌, ◌≢◌, inl, inr, ⊎_elim, ℕ, ◌||◌, ◌&&◌, not, cond, List, sym, ◌∙◌, ap}
use Rattle.std.specs.Prelude.{Some, None}
use Rattle.std.specs.Ordering.{nat_cmp}
use Rattle.std.specs.Cmp.Lexicographic.{slice_cmp, nat_list_cmp_total}
use Rattle.std.specs.FinMap as map
use Rattle.std.specs.FinSet as set
use Rattle.lake_store.specs.Disk.{AddsShort, Disk, Files, IsPartlySynced, Moves, Paths, SameElsewhere, behind, front_of, moved, removed, stored, synced, written}
use Rattle.lake_store.proofs.NameLaws.{behind_front}
use Rattle.lake_store.proofs.TreeLaws.{same_paths}
use Rattle.source_core.proofs.Files.{same_files}
use Rattle.lake_batch.specs.Part.{part_disk, part_files, part_paths, path_in}
use Rattle.lake_batch.specs.PartAt.{clean-part, contains-part, get-part, here, part-clean}

module _ (folder : List ℕ) where
  pub part-insert : (files : Files) (p b : List ℕ) → part_files folder (map.insert files (path_in folder p) b) ≡ map.insert (part_files folder files) p b
  part-insert files p b = same_files _ _ (λ q.
      get-part folder (map.insert files (path_in folder p) b) q ∙ map.get-insert nat_list_cmp_total files (path_in folder p) b (path_in folder q)
      ∙ (λ i. cond (here folder q p i) (Some b) (sym (get-part folder files q) i)) ∙ sym (map.get-insert nat_list_cmp_total (part_files folder files) p b q))

  pub part-remove : (files : Files) (p : List ℕ) → part_files folder (map.remove files (path_in folder p)) ≡ map.remove (part_files folder files) p
  part-remove files p = same_files _ _ (λ q.
      get-part folder (map.remove files (path_in folder p)) q ∙ map.get-remove nat_list_cmp_total files (path_in folder p) (path_in folder q)
      ∙ (λ i. cond (here folder q p i) None (sym (get-part folder files q) i)) ∙ sym (map.get-remove nat_list_cmp_total (part_files folder files) p q))

  pub part-no_paths : part_paths folder set.empty ≡ set.empty
  part-no_paths = same_paths _ _ (λ q. contains-part folder set.empty q ∙ set.contains-empty (slice_cmp nat_cmp) (path_in folder q) ∙ sym (set.contains-empty (slice_cmp nat_cmp) q))

  pub part-insert_path : (paths : Paths) (p : List ℕ) → part_paths folder (set.insert paths (path_in folder p)) ≡ set.insert (part_paths folder paths) p
  part-insert_path paths p = same_paths _ _ (λ q.
      contains-part folder (set.insert paths (path_in folder p)) q ∙ set.contains-insert nat_list_cmp_total paths (path_in folder p) (path_in folder q)
      ∙ (λ i. here folder q p i || sym (contains-part folder paths q) i) ∙ sym (set.contains-insert nat_list_cmp_total (part_paths folder paths) p q))

  pub part-remove_path : (paths : Paths) (p : List ℕ) → part_paths folder (set.remove paths (path_in folder p)) ≡ set.remove (part_paths folder paths) p
  part-remove_path paths p = same_paths _ _ (λ q.
      contains-part folder (set.remove paths (path_in folder p)) q ∙ set.contains-remove nat_list_cmp_total paths (path_in folder p) (path_in folder q)
      ∙ (λ i. not (here folder q p i) && sym (contains-part folder paths q) i) ∙ sym (set.contains-remove nat_list_cmp_total (part_paths folder paths) p q))

  -- what a call leaves of the part
  pub part-written : (d : Disk) (p b : List ℕ) → part_disk folder (written d (path_in folder p) b) ≡ written (part_disk folder d) p b
  part-written d p b = λ i. record { files = part-insert d.files p b i; dirty = part-insert_path d.dirty p i }

  pub part-stored : (d : Disk) (p b : List ℕ) → part_disk folder (stored d (path_in folder p) b) ≡ stored (part_disk folder d) p b
  part-stored d p b = λ i. record { files = part-insert d.files p b i; dirty = part-remove_path d.dirty p i }

  pub part-removed : (d : Disk) (p : List ℕ) → part_disk folder (removed d (path_in folder p)) ≡ removed (part_disk folder d) p
  part-removed d p = λ i. record { files = part-remove d.files p i; dirty = part-remove_path d.dirty p i }

  pub part-moved : (d : Disk) (from to b : List ℕ) → part_disk folder (moved d (path_in folder from) (path_in folder to) b) ≡ moved (part_disk folder d) from to b
  part-moved d from to b = λ i. record {
    files = (part-insert (map.remove d.files (path_in folder from)) to b ∙ ap (λ (m : Files). map.insert m to b) (part-remove d.files from)) i;
    dirty = part-remove_path d.dirty to i;
  }

  pub part-synced : (d : Disk) → part_disk folder (synced d) ≡ synced (part_disk folder d)
  part-synced d = λ i. record { files = part_files folder d.files; dirty = part-no_paths i }

  -- the path of another file is another one
  apart : (p q : List ℕ) → q ≢ p → path_in folder q ≢ path_in folder p
  apart p q other same =
      let both : Some q ≡ Some p = sym (behind_front (front_of folder) q) ∙ ap (behind (front_of folder)) same ∙ behind_front (front_of folder) p in other (cc both)

  pub part-elsewhere : (d e : Disk) (p : List ℕ) → SameElsewhere (path_in folder p) d e → SameElsewhere p (part_disk folder d) (part_disk folder e)
  part-elsewhere d e p same = record {
    files = λ q other. get-part folder e.files q ∙ same.files (path_in folder q) (apart p q other) ∙ sym (get-part folder d.files q);
    dirty = λ q other. contains-part folder e.dirty q ∙ same.dirty (path_in folder q) (apart p q other) ∙ sym (contains-part folder d.dirty q);
  }

  pub part-short : (most : ℕ) (old new : Files) → AddsShort most old new → AddsShort most (part_files folder old) (part_files folder new)
  part-short most old new short q bytes there = ⊎_elim (λ before. inl (get-part folder old q ∙ before)) (λ few. inr few) (short (path_in folder q) bytes (sym (get-part folder new q) ∙ there))

  pub part-partly : (d e : Disk) → IsPartlySynced d e → IsPartlySynced (part_disk folder d) (part_disk folder e)
  part-partly d e partly = record {
    files = ap (part_files folder) partly.files;
    clean = λ q clean. part-clean folder e q (partly.clean (path_in folder q) (clean-part folder d q clean));
  }

  pub part-moves : (d e : Disk) (from to : List ℕ) → Moves (path_in folder from) (path_in folder to) d e → Moves from to (part_disk folder d) (part_disk folder e)
  part-moves d e from to moves = (moves.0, get-part folder d.files from ∙ moves.1, ap (part_disk folder) moves.2 ∙ part-moved d from to moves.0)

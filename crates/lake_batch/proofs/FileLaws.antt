-- The front of a batch's file tells what the whole file does.
use Rattle.std.proofs.Common.{◌≡◌, ◌<◌, ℕ, List, [], ◌∷◌, length, take, drop, min, refl, ◌∙◌, ap, subst, arith, length-take}
use Rattle.std.specs.Prelude.{IfOk, Option, Some, None, Result, Ok, Err, IsErrOf}
use Rattle.std.specs.Option.{option_map}
use Rattle.std.specs.FinMap as map
use Rattle.std.proofs.lemmas.List.{take_all}
use Rattle.lake_basics.specs.declared.outcome.ReadError.{ReadError}
use Rattle.lake_basics.specs.declared.outcome.ReadError.TheVariants as errors
use Rattle.lake_store.specs.Cause.{HasFault, HasNoContest}
use Rattle.lake_store.specs.Disk.{Files}
use Rattle.lake_store.specs.Moments.{Elapses}
use Rattle.lake_store.specs.declared.store.Store.{Ghosts}
use Rattle.lake_store.specs.declared.store.StoreError.{StoreError}
use Rattle.lake_store.specs.declared.store.StoreError.TheVariants as refused
use Rattle.lake_store.proofs.RunLaws.{NowOnly, reading_begins, reading_steps}
use Rattle.lake_batch.specs.Batch.{IsBatch, IsFault, IsReadBy, IsShort}
use Rattle.lake_batch.specs.Whole.{AreTables, IsFileRead, ReadsFile}
use Rattle.lake_batch.specs.declared.batch.Batch.{Batch}
use Rattle.lake_batch.specs.declared.batch.Why.{Why}
use Rattle.lake_batch.specs.declared.batch.Why.TheVariants.{Missing, Long, Syntax, Shape, Many, Folder, Overlap}
use Rattle.lake_batch.specs.declared.file.FileError.{FileError}
use Rattle.lake_batch.specs.declared.file.FileError.TheVariants as unread

-- the first bytes of a file, one more than a batch has at most
abbrev pub front_of_file : List ℕ → List ℕ
front_of_file bytes = take 1048577 (drop 0 bytes)

front_is : (bytes : List ℕ) → front_of_file bytes ≡ take 1048577 bytes
front_is [] = refl
front_is (b ∷ bytes) = refl

front_length : (bytes : List ℕ) → length (front_of_file bytes) ≡ min 1048577 (length bytes)
front_length bytes = ap length (front_is bytes) ∙ length-take 1048577 bytes

short_whole : (bytes : List ℕ) → IsShort (front_of_file bytes) → front_of_file bytes ≡ bytes
short_whole bytes short = let n = front_length bytes in front_is bytes ∙ take_all 1048577 bytes (omega (arith, n, short))

long_whole : (bytes : List ℕ) → 1048576 < length (front_of_file bytes) → 1048576 < length bytes
long_whole bytes long = let n = front_length bytes in omega (arith, n, long)

fault_whole : (place bytes : List ℕ) (why : Why) → IsFault place (front_of_file bytes) why → IsFault place bytes why
fault_whole place bytes Missing fault = fault
fault_whole place bytes Long fault = long_whole bytes fault
fault_whole place bytes Syntax fault = subst (λ b. IsFault place b Syntax) (short_whole bytes fault.0) fault
fault_whole place bytes Shape fault = subst (λ b. IsFault place b Shape) (short_whole bytes fault.0) fault
fault_whole place bytes Many fault = subst (λ b. IsFault place b Many) (short_whole bytes fault.0) fault
fault_whole place bytes Folder fault = subst (λ b. IsFault place b Folder) (short_whole bytes fault.0) fault
fault_whole place bytes Overlap fault = subst (λ b. IsFault place b Overlap) (short_whole bytes fault.0) fault

abbrev pub file_answer : Result Batch (ReadError Why) → Result Batch FileError
file_answer (Ok batch) = Ok batch
file_answer (Err errors.Memory) = Err unread.Memory
file_answer (Err (errors.Fault why)) = Err (unread.No why)

-- the bytes of a file, behind the part of it that was read
part_given : (o : Option (List ℕ)) (part : List ℕ) → Some part ≡ option_map (λ bytes. front_of_file bytes) o → (bytes : List ℕ) × (o ≡ Some bytes) × (part ≡ front_of_file bytes)
part_given None part is = absurd (cc is)
part_given (Some bytes) part is = (bytes, refl, cc is)

none_given : (o : Option (List ℕ)) → None ≡ option_map (λ bytes. front_of_file bytes) o → o ≡ None
none_given None is = refl
none_given (Some bytes) is = absurd (cc is)

read_so : (place : List ℕ) (files : Files) (file bytes : List ℕ) (r : Result Batch (ReadError Why)) → map.get files file ≡ Some bytes → IsReadBy place (front_of_file bytes) r → IsFileRead place files file (file_answer r)
read_so place files file bytes (Ok batch) is read = (bytes, is, subst (λ b. IsBatch place b batch.tables) (short_whole bytes read.short) read)
read_so place files file bytes (Err errors.Memory) is read = tt
read_so place files file bytes (Err (errors.Fault Missing)) is read = absurd read
read_so place files file bytes (Err (errors.Fault Long)) is read = (bytes, is, fault_whole place bytes Long read)
read_so place files file bytes (Err (errors.Fault Syntax)) is read = (bytes, is, fault_whole place bytes Syntax read)
read_so place files file bytes (Err (errors.Fault Shape)) is read = (bytes, is, fault_whole place bytes Shape read)
read_so place files file bytes (Err (errors.Fault Many)) is read = (bytes, is, fault_whole place bytes Many read)
read_so place files file bytes (Err (errors.Fault Folder)) is read = (bytes, is, fault_whole place bytes Folder read)
read_so place files file bytes (Err (errors.Fault Overlap)) is read = (bytes, is, fault_whole place bytes Overlap read)

tables_of : (place bytes : List ℕ) (r : Result Batch (ReadError Why)) → IsReadBy place bytes r → AreTables place (file_answer r)
tables_of place bytes (Ok batch) read = (read.few, read.folders, read.apart)
tables_of place bytes (Err errors.Memory) read = tt
tables_of place bytes (Err (errors.Fault why)) read = tt

answer_read : (r : Result Batch (ReadError Why)) → file_answer r ≡ Err unread.Failed → ⊥
answer_read (Ok batch) is = cc is
answer_read (Err errors.Memory) is = cc is
answer_read (Err (errors.Fault why)) is = cc is

-- what the read of the file's front gave, and what was made of it
module _ {S : Type 0} (store : Ghosts S) (only_now : NowOnly store) (place file : List ℕ) (old new : S) (r : Result (Option (List ℕ)) StoreError)
    (bytes : store.tells → IfOk r (λ part. part ≡ option_map (λ bytes. front_of_file bytes) (map.get (store.disk old).files file)))
    (same : store.tells → store.disk new ≡ store.disk old) (call : store.tells → Elapses store.disk store.time store.left_since old new)
    (cause : HasFault store.faults store.may_fail old new (IsErrOf r refused.Failed)) (contest : HasNoContest store.contests store.may_contest old new (IsErrOf r refused.Taken)) where
  at_front : (o : Option (List ℕ)) → r ≡ Ok o → store.tells → o ≡ option_map (λ bytes. front_of_file bytes) (map.get (store.disk old).files file)
  at_front o is told = subst (λ x. IfOk x (λ part. part ≡ option_map (λ bytes. front_of_file bytes) (map.get (store.disk old).files file))) is (bytes told)

  reads_file : (answer : Result Batch FileError) → (answer ≡ Err unread.Failed → IsErrOf r refused.Failed) → (store.tells → IsFileRead place (store.disk old).files file answer) → AreTables place answer → ReadsFile store place file old new answer
  reads_file answer failed given tables = record {
    reads = reading_steps store old old new (reading_begins store only_now old) same call;
    cause = record { later = cause.later; still = cause.still; rose = λ is. cause.rose (failed is); allowed = λ is. cause.allowed (failed is) };
    contest = record { same = contest.same; still = contest.still; never = λ none. none };
    given = given;
    tables = tables;
  }

  pub has_bytes : (part : List ℕ) (read : Result Batch (ReadError Why)) → r ≡ Ok (Some part) → IsReadBy place part read → ReadsFile store place file old new (file_answer read)
  has_bytes part read is by = reads_file (file_answer read) (λ failed. absurd (answer_read read failed))
      (λ told. let whole = part_given (map.get (store.disk old).files file) part (at_front (Some part) is told) in
      read_so place (store.disk old).files file whole.0 read whole.1 (subst (λ b. IsReadBy place b read) whole.2 by))
      (tables_of place part read by)

  pub has_none : r ≡ Ok None → ReadsFile store place file old new (Err (unread.No Missing))
  has_none is = reads_file (Err (unread.No Missing)) (λ failed. let both : ◌≡◌ {A = Result Batch FileError} (Err (unread.No Missing)) (Err unread.Failed) = failed in absurd (cc both)) (λ told. none_given (map.get (store.disk old).files file) (at_front None is told)) tt

  pub has_failed : r ≡ Err refused.Failed → ReadsFile store place file old new (Err unread.Failed)
  has_failed is = reads_file (Err unread.Failed) (λ failed. is) (λ told. tt) tt

  pub has_no_memory : ReadsFile store place file old new (Err unread.Memory)
  has_no_memory = reads_file (Err unread.Memory) (λ failed. let both : ◌≡◌ {A = Result Batch FileError} (Err unread.Memory) (Err unread.Failed) = failed in absurd (cc both)) (λ told. tt) tt

-- A manifest's file, piece by piece.
use Rattle.std.proofs.Common.{◌≡◌, ◌⊎◌, ℕ, ◌+◌, ◌*◌, ◌-◌, ◌^◌, ◌<◌, ◌≤◌, min, List, [], ◌++◌, length, take, drop, Option, Some, None, option_map, Bool, true, false, Result, refl, sym, ap, subst, ◌∙◌, inl, ⊎_elim, arith}
use Rattle.std.proofs.lemmas.Result.{IfErr-at_err}
use Rattle.std.specs.Prelude.{IfErr, IfSome, IsErrOf}
use Rattle.std.proofs.lemmas.List.{length-append, length-drop, length-take, take_all, take_min, take-append-drop}
use Rattle.std.proofs.Math.Seq.{take-add}
use Rattle.std.specs.FinMap as map
use Rattle.lake_basics.specs.declared.limits.TheConstants.{MAX_FILE_BYTES}
use Rattle.lake_basics.specs.declared.outcome.ReadError.{ReadError}
use Rattle.lake_basics.specs.declared.outcome.ReadError.TheVariants as read
use Rattle.lake_store.specs.Disk.{Files}
use Rattle.lake_store.specs.declared.store.StoreError.{StoreError}
use Rattle.lake_store.specs.declared.store.StoreError.TheVariants as store
use Rattle.iceberg_manifest.specs.declared.error.ManifestError.{ManifestError}
use Rattle.iceberg_manifest.specs.declared.error.ManifestError.TheVariants as manifest
use Rattle.iceberg_manifest.specs.declared.partition.PartColumn.{PartColumn}
use Rattle.iceberg_manifest_feeding.specs.Feeding.{HasRead, so_far as reads}
use Rattle.iceberg_manifest_feeding.specs.declared.feeder.ManifestFeeder.{ManifestFeeder}
use Rattle.iceberg_manifest_feeding.specs.Order.{IsFaultWithin}
use Rattle.iceberg_manifest_feeding.proofs.OrderLaws.{fault_for_good, read_sound}
use Rattle.iceberg_table.specs.Errors.{IsFault, IsFileFault, IsRefusal, error_at, error_of_read, manifest_fault}
use Rattle.iceberg_table.specs.Files.{HoldsFile, HoldsShortFile}
use Rattle.iceberg_table.specs.Manifests.{IsLargeManifest, IsManifestFault, IsManifestRefusal, IsShownWithin}
use Rattle.iceberg_table.specs.Pieces.{AreSomeTaken, AreTaken, HasReadSome, IsOneMore, IsReadSoFar, IsReadWhole, IsRefusedPiece, IsUnread, left}
use Rattle.iceberg_table.specs.declared.error.Fault.{Fault}
use Rattle.iceberg_table.specs.declared.error.IcebergError.{IcebergError}
use Rattle.iceberg_table.specs.declared.error.IcebergError.TheVariants as error
use Rattle.iceberg_table.specs.declared.list.ManifestFile.{ManifestFile}
use Rattle.iceberg_table.specs.declared.pieces.Pieces.{Pieces}
use Rattle.iceberg_table.specs.declared.pieces.TheConstants.{PIECE_BYTES}
use Rattle.iceberg_table.proofs.FaultLaws.{refused_further}
use Rattle.iceberg_table.proofs.ManifestLaws.{held_once}

-- ---- the bytes of a piece

abbrev part_of : ℕ → List ℕ → List ℕ
part_of read bytes = take PIECE_BYTES (drop read bytes)

-- the file at this path, of which this is a part
pub record IsPart (files : Files) (path : List ℕ) (read : ℕ) (piece : List ℕ) : Type 0 where
  pub bytes : List ℕ
  pub holds : HoldsFile files path bytes
  pub is : piece ≡ part_of read bytes

mapped : (files : Files) (path : List ℕ) (read : ℕ) (piece : List ℕ) (o : Option (List ℕ)) → map.get files path ≡ o → Some piece ≡ option_map (λ bytes. take PIECE_BYTES (drop read bytes)) o → IsPart files path read piece
mapped files path read piece None is part = absurd (cc)
mapped files path read piece (Some bytes) is part = record { bytes = bytes; holds = is; is = cc }

pub part_here : (files : Files) (path at : List ℕ) (read : ℕ) (piece : List ℕ) → at ≡ path → Some piece ≡ option_map (λ bytes. take PIECE_BYTES (drop read bytes)) (map.get files at) → IsPart files path read piece
part_here files path at read piece same part = mapped files path read piece (map.get files at) (sym (ap (map.get files) same)) part

gone : (read : ℕ) (o : Option (List ℕ)) → None ≡ option_map (λ (bytes : List ℕ). take PIECE_BYTES (drop read bytes)) o → o ≡ None
gone read None part = refl
gone read (Some bytes) part = absurd (cc)

-- Where no part is told, there is no file.
pub gone_here : (files : Files) (path at : List ℕ) (read : ℕ) → at ≡ path → None ≡ option_map (λ (bytes : List ℕ). take PIECE_BYTES (drop read bytes)) (map.get files at) → map.get files path ≡ None
gone_here files path at read same part = sym (ap (map.get files) same) ∙ gone read (map.get files at) part

-- A piece has the length that was asked for at most.
pub short_here : (o : Option (List ℕ)) (piece slice : List ℕ) → o ≡ Some piece → slice ≡ piece → IfSome o (λ bytes. length bytes ≤ PIECE_BYTES) → length slice ≤ PIECE_BYTES
short_here o piece slice is same short =
    subst (λ (l : List ℕ). length l ≤ PIECE_BYTES) (sym same) (subst (λ (part : Option (List ℕ)). IfSome part (λ bytes. length bytes ≤ PIECE_BYTES)) is short)

module _ (read : ℕ) (bytes piece : List ℕ) (is : piece ≡ part_of read bytes) where
  part_length : length piece ≡ min PIECE_BYTES (length bytes - read)
  part_length = ap length is ∙ length-take PIECE_BYTES (drop read bytes) ∙ ap (min PIECE_BYTES) (length-drop read bytes)

  part_is : piece ≡ take (length piece) (drop read bytes)
  part_is = is ∙ sym (take_min PIECE_BYTES (drop read bytes)) ∙ ap (λ n. take n (drop read bytes)) (sym (ap length is ∙ length-take PIECE_BYTES (drop read bytes)))

  front_more : take read bytes ++ piece ≡ take (read + length piece) bytes
  front_more = ap (λ l. take read bytes ++ l) part_is ∙ sym (take-add read (length piece) bytes)

  all_read : length piece < PIECE_BYTES → length bytes ≤ read + length piece
  all_read short = let len = part_length in omega (arith, len, short)

  longer : read ≤ MAX_FILE_BYTES → MAX_FILE_BYTES < read + length piece → MAX_FILE_BYTES < length bytes
  longer within long = let len = part_length in omega (arith, len, within, long)

-- ---- what has been read

pub nothing_taken : (columns : List PartColumn) (p : Pieces) → HasRead columns [] (reads p.feeder) → p.read ≡ 0 → AreTaken columns [] p
nothing_taken columns p feeder none = record { fed = feeder; read = none }

pub one_taken : (columns : List PartColumn) (bytes piece : List ℕ) (p next : Pieces) → AreTaken columns bytes p → IsOneMore columns p piece next → AreTaken columns (bytes ++ piece) next
one_taken columns bytes piece p next taken one = record {
  fed = one.fed bytes taken;
  read = one.read ∙ ap (λ n. n + length piece) taken.read ∙ sym (length-append bytes piece);
}

pub some_taken : (columns : List PartColumn) (piece : List ℕ) (p next : Pieces) → IsOneMore columns p piece next → AreSomeTaken columns p → AreSomeTaken columns next
some_taken columns piece p next one some = (some.0 ++ piece, one_taken columns some.0 piece p next some.1 one)

pub some_read : (columns : List PartColumn) (p : Pieces) → p.read ≤ MAX_FILE_BYTES → AreSomeTaken columns p → HasReadSome columns p.feeder
some_read columns p within some = let is = some.1.read in (some.0, omega (arith, is, within), some.1.fed)

pub nothing_so_far : (files : Files) (columns : List PartColumn) (path : List ℕ) (p : Pieces) → HasRead columns [] (reads p.feeder) → p.read ≡ 0 → p.is_whole ≡ false → IsReadSoFar files columns path p
nothing_so_far files columns path p feeder none whole = record {
  bytes = [];
  taken = nothing_taken columns p feeder none;
  front = λ all holds. sym (ap (λ n. take n all) none);
  whole = λ is. absurd (cc);
  full = λ not. (0, none);
}

one_longer : (count read n : ℕ) → read ≡ count * PIECE_BYTES → PIECE_BYTES ≤ n → n ≤ PIECE_BYTES → read + n ≡ (count + 1) * PIECE_BYTES
one_longer count read n is low high = omega (arith, is, low, high)

-- the bytes with a piece more are a front of the file too
front_taken : (files : Files) (columns : List PartColumn) (path : List ℕ) (p next : Pieces) (piece : List ℕ) → (part : IsPart files path p.read piece) → IsOneMore columns p piece next → (so_far : IsReadSoFar files columns path p) → (all : List ℕ) → HoldsFile files path all → so_far.bytes ++ piece ≡ take next.read all
front_taken files columns path p next piece part one so_far all holds =
    let same = held_once files path part.bytes all part.holds holds in
    let of : piece ≡ part_of p.read all = part.is ∙ ap (part_of p.read) same in
    ap (λ l. l ++ piece) (so_far.front all holds) ∙ front_more p.read all piece of ∙ ap (λ n. take n all) (sym one.read)

pub read_more : (files : Files) (columns : List PartColumn) (path : List ℕ) (p next : Pieces) (piece : List ℕ) → p.is_whole ≡ false → length piece ≤ PIECE_BYTES → IsPart files path p.read piece → IsOneMore columns p piece next → IsReadSoFar files columns path p
    → IsReadSoFar files columns path next
read_more files columns path p next piece more short part one so_far = record {
  bytes = so_far.bytes ++ piece;
  taken = one_taken columns so_far.bytes piece p next so_far.taken one;
  front = front_taken files columns path p next piece part one so_far;
  whole = λ is.
      let end : length part.bytes ≤ next.read = subst (λ n. length part.bytes ≤ n) (sym one.read) (all_read p.read part.bytes piece part.is (one.last is)) in
      let all = front_taken files columns path p next piece part one so_far part.bytes part.holds ∙ take_all next.read part.bytes end in
      subst (λ (l : List ℕ). HoldsFile files path l) (sym all) part.holds;
  full = λ not. let so = so_far.full more in (so.0 + 1, one.read ∙ one_longer so.0 p.read (length piece) so.1 (one.full not) short);
}

pub whole_read : (files : Files) (columns : List PartColumn) (path : List ℕ) (p : Pieces) → p.is_whole ≡ true → p.read ≤ MAX_FILE_BYTES → IsReadSoFar files columns path p → IsReadWhole files columns path p.feeder
whole_read files columns path p is within so_far =
    let count = so_far.taken.read in
    record { bytes = so_far.bytes; holds = so_far.whole is; short = omega (arith, count, within); fed = so_far.taken.fed }

-- ---- what is refused

at_bound : (count read n : ℕ) → read ≡ count * PIECE_BYTES → n ≤ PIECE_BYTES → read ≤ MAX_FILE_BYTES → MAX_FILE_BYTES < read + n → read ≡ MAX_FILE_BYTES
at_bound count read n is short within long = omega (arith, is, short, within, long)

large_here : (files : Files) (columns : List PartColumn) (path : List ℕ) (p : Pieces) (piece : List ℕ) → p.is_whole ≡ false → p.read ≤ MAX_FILE_BYTES → length piece ≤ PIECE_BYTES → IsPart files path p.read piece → IsReadSoFar files columns path p → MAX_FILE_BYTES < p.read + length piece
    → IsLargeManifest files columns path
large_here files columns path p piece more within short part so_far long =
    let so = so_far.full more in
    let end = at_bound so.0 p.read (length piece) so.1 short within long in
    let front : so_far.bytes ≡ take MAX_FILE_BYTES part.bytes = so_far.front part.bytes part.holds ∙ ap (λ n. take n part.bytes) end in (
      part.bytes,
      part.holds,
      longer p.read part.bytes piece part.is within long,
      λ e f. read_sound columns (take MAX_FILE_BYTES part.bytes) (reads p.feeder) e (subst (λ (l : List ℕ). HasRead columns l (reads p.feeder)) front so_far.taken.fed) f,
    )

-- A fault among fewer bytes is one among all that are read.
within_bound : (columns : List PartColumn) (n : ℕ) (bytes : List ℕ) (f : Fault) → n ≤ MAX_FILE_BYTES → IsShownWithin columns (take n bytes) f → IsShownWithin columns (take MAX_FILE_BYTES bytes) f
within_bound columns n bytes f within (e, fault, told) =
    let sum : n + (MAX_FILE_BYTES - n) ≡ MAX_FILE_BYTES = omega (arith, within) in
    let cut : take n bytes ++ take (MAX_FILE_BYTES - n) (drop n bytes) ≡ take MAX_FILE_BYTES bytes = sym (take-add n (MAX_FILE_BYTES - n) bytes) ∙ ap (λ k. take k bytes) sum in
    (e, subst (λ (l : List ℕ). IsFaultWithin columns l e) cut (fault_for_good columns (take n bytes) (take (MAX_FILE_BYTES - n) (drop n bytes)) e fault), told)

pub piece_refused : (files : Files) (columns : List PartColumn) (path : List ℕ) (p : Pieces) (piece : List ℕ) (e : IcebergError) → p.is_whole ≡ false → p.read ≤ MAX_FILE_BYTES → length piece ≤ PIECE_BYTES → IsPart files path p.read piece → IsReadSoFar files columns path p → IsRefusedPiece columns path p piece e
    → IsRefusal (IsUnread files columns path) e
piece_refused files columns path p piece error.Memory more within short part so_far h = tt
piece_refused files columns path p piece error.StoreFault more within short part so_far h = tt
piece_refused files columns path p piece error.ManyNames more within short part so_far h = h
piece_refused files columns path p piece (error.Missing q) more within short part so_far h = absurd h
piece_refused files columns path p piece (error.Large q) more within short part so_far h = (h.0, large_here files columns path p piece more within short part so_far h.1)
piece_refused files columns path p piece (error.Refused q f) more within short part so_far h =
    let n = p.read + length piece in
    let front : so_far.bytes ++ piece ≡ take n part.bytes = ap (λ l. l ++ piece) (so_far.front part.bytes part.holds) ∙ front_more p.read part.bytes piece part.is in
    let shown = subst (λ (l : List ℕ). IsShownWithin columns l f) front (h.2 so_far.bytes so_far.taken) in
    (h.0, part.bytes, part.holds, within_bound columns n part.bytes f h.1 shown)

-- what is told of a piece that the store refuses
pub part_refused : (files : Files) (columns : List PartColumn) (path told : List ℕ) (e : StoreError) → ((n : ℕ) → e ≡ store.TooLong n → ⊥) → IsRefusal (IsUnread files columns path) (error_of_read told e)
part_refused files columns path told store.Memory never = tt
part_refused files columns path told store.Failed never = tt
part_refused files columns path told (store.TooLong n) never = absurd (never n refl)
part_refused files columns path told store.Taken never = tt

-- No piece is refused for a fault of the store.
pub no_fault : {T : Type 0} (columns : List PartColumn) (path : List ℕ) (p : Pieces) (piece : List ℕ) (r : Result T IcebergError) → IfErr r (IsRefusedPiece columns path p piece) → IsErrOf r error.StoreFault → ⊥
no_fault {T} columns path p piece r h is = IfErr-at_err (IsRefusedPiece columns path p piece) is h

-- ---- one piece more

-- the bytes are fewer than any that are counted
pub few_bytes : (columns : List PartColumn) (bytes piece : List ℕ) (p : Pieces) → AreTaken columns bytes p → p.read + length piece ≤ MAX_FILE_BYTES → length (bytes ++ piece) < 2 ^ 64 - 1
few_bytes columns bytes piece p taken within =
    let count = taken.read in
    let both = length-append bytes piece in omega (arith, count, both, within)

-- What a block at fault is told as. Want of memory is no fault.
pub piece_shows : (columns : List PartColumn) (path : List ℕ) (p : Pieces) (piece : List ℕ) (e : ManifestError) (r : ReadError Fault) → r ≡ manifest_fault e → p.read + length piece ≤ MAX_FILE_BYTES
    → ((bytes : List ℕ) → AreTaken columns bytes p → (e ≡ manifest.Memory) ⊎ IsFaultWithin columns (bytes ++ piece) e) → IsRefusedPiece columns path p piece (error_at path r)
piece_shows columns path p piece e read.Memory same within refused = tt
piece_shows columns path p piece e (read.Fault f) same within refused =
    (refl, within, λ bytes taken. ⊎_elim (λ memory. absurd (no_memory (same ∙ ap manifest_fault memory))) (λ fault. (e, fault, sym same)) (refused bytes taken))
  where
    no_memory : read.Fault f ≡ read.Memory → ⊥
    no_memory is = cc

-- There is less left to read.
pub further_on : (columns : List PartColumn) (p next : Pieces) (piece : List ℕ) → p.is_whole ≡ false → p.read ≤ MAX_FILE_BYTES → IsOneMore columns p piece next → left next.is_whole next.read < left p.is_whole p.read
further_on columns p next piece more within one = subst (λ w. left next.is_whole next.read < left w p.read) (sym more) (by next.is_whole refl)
  where
    by : (w : Bool) → next.is_whole ≡ w → left w next.read < left false p.read
    by true is = omega (arith, within)
    by false is = let full = one.full is in let read = one.read in let bound = one.within in omega (arith, full, read, bound, within)

-- ---- all of a manifest

module _ (files : Files) (location : List ℕ) (columns : List PartColumn) (before : ℕ) (file : ManifestFile) where
  -- a fault within the bytes that are read is one of the manifest
  within_fault : (bytes : List ℕ) (f : Fault) → IsShownWithin columns (take MAX_FILE_BYTES bytes) f → IsManifestFault location columns before file bytes f
  within_fault bytes f (e, fault, told) =
      let front = take MAX_FILE_BYTES bytes in
      let all = subst (λ (l : List ℕ). IsFaultWithin columns l e) (take-append-drop MAX_FILE_BYTES bytes) (fault_for_good columns front (drop MAX_FILE_BYTES bytes) e fault) in
      inl (e, inl all, told)

  unread : (e : IcebergError) → IsUnread files columns file.path e → IsManifestRefusal files location columns before file e
  unread error.Memory h = h
  unread error.StoreFault h = h
  unread error.ManyNames h = h
  unread (error.Missing p) h = h
  unread (error.Large p) h = h
  unread (error.Refused p f) h = (h.0, (h.1, h.2, within_fault h.1 f h.3, λ _. h.3))

  pub unread_refused : (e : IcebergError) → IsRefusal (IsUnread files columns file.path) e → IsRefusal (IsManifestRefusal files location columns before file) e
  unread_refused e refused = refused_further (IsUnread files columns file.path) (IsManifestRefusal files location columns before file) e unread refused

  -- A refused manifest has a fault as a file has that is read whole.
  pub as_file_fault : (e : IcebergError) → IsManifestRefusal files location columns before file e → IsFileFault files file.path (IsManifestFault location columns before file) e
  as_file_fault error.Memory h = h
  as_file_fault error.StoreFault h = h
  as_file_fault error.ManyNames h = h
  as_file_fault (error.Missing p) h = h
  as_file_fault (error.Large p) h = (h.0, h.1.0, h.1.1, h.1.2)
  as_file_fault (error.Refused p f) h = (h.0, h.1.0, h.1.1, h.1.2)

  shown_by : (feeder : ManifestFeeder) (whole : IsReadWhole files columns file.path feeder) (e : ReadError Fault) → IsFault (IsManifestFault location columns before file whole.bytes) e → IsRefusal (IsManifestRefusal files location columns before file) (error_at file.path e)
  shown_by feeder whole read.Memory shows = tt
  shown_by feeder whole (read.Fault f) shows = let short = whole.short in (refl, (whole.bytes, whole.holds, shows, λ long. absurd (omega (arith, short, long))))

  -- what the bytes of a manifest that isn't too large show
  pub end_refused : (feeder : ManifestFeeder) (whole : IsReadWhole files columns file.path feeder) (e : ReadError Fault) (r : IcebergError) → (r ≡ error.Memory) ⊎ (r ≡ error_at file.path e) → IsFault (IsManifestFault location columns before file whole.bytes) e
      → IsRefusal (IsManifestRefusal files location columns before file) r
  end_refused feeder whole e r is shows =
      ⊎_elim (λ memory. subst (IsRefusal (IsManifestRefusal files location columns before file)) (sym memory) tt) (λ told. subst (IsRefusal (IsManifestRefusal files location columns before file)) (sym told) (shown_by feeder whole e shows)) is

pub short_file : (files : Files) (columns : List PartColumn) (path : List ℕ) (feeder : ManifestFeeder) → IsReadWhole files columns path feeder → HoldsShortFile files path
short_file files columns path feeder whole = record { bytes = whole.bytes; holds = whole.holds; short = whole.short }

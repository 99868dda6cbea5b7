-- A version's file, piece by piece.
use Rattle.std.proofs.Common.{◌≡◌, ℕ, ◌+◌, ◌*◌, ◌-◌, ◌^◌, ◌<◌, ◌≤◌, min, List, ◌++◌, length, take, drop, Option, Some, None, option_map, Bool, true, false, Result, Ok, Err, refl, sym, ap, subst, ◌∙◌, arith}
use Rattle.std.proofs.lemmas.Result.{IfErr-at_err}
use Rattle.std.specs.Prelude.{IfErr, IfSome, IsErrOf}
use Rattle.std.proofs.lemmas.List.{length-drop, length-take, take_all, take_min, take-append-drop}
use Rattle.std.proofs.Math.Seq.{take-add}
use Rattle.std.specs.FinMap as map
use Rattle.lake_basics.specs.declared.limits.TheConstants.{MAX_FILE_BYTES}
use Rattle.lake_basics.specs.Outcome.{FailsUnlessMemory}
use Rattle.lake_store.specs.Disk.{Files}
use Rattle.delta_log.specs.declared.commit.DeltaCommit.{DeltaCommit}
use Rattle.delta_log.specs.declared.error.DeltaError.{DeltaError}
use Rattle.delta_log.specs.declared.error.DeltaError.TheVariants as delta
use Rattle.delta_log.specs.Judging.{Answers, is_memory}
use Rattle.delta_log.specs.Readable.{IsFirstFault, IsReadableCommit, IsRefusal}
use Rattle.delta_feeding.specs.Feeding.{State, fed, nothing_read, told}
use Rattle.delta_feeding.specs.Laws.{IsFaultWithin}
use Rattle.delta_feeding.proofs.EarlyLemmas.{fault_for_good, taken_sound, told_early, within_more}
use Rattle.delta_feeding.proofs.PieceLemmas.{pieces_join}
use Rattle.delta_table.specs.Log.{SaysCommit}
use Rattle.delta_table.specs.Pieces.{IsGoing, IsOneMore, IsReadSoFar, IsReadWhole, IsRefusedPiece, left}
use Rattle.delta_table.specs.Refusals.{IsLarge, IsShort, IsVersionRefusal, TellsOf, error_at}
use Rattle.delta_table.specs.Versions.{HoldsVersion, IsVersionPath}
use Rattle.delta_table.specs.declared.error.LogError.{LogError}
use Rattle.delta_table.specs.declared.error.LogError.TheVariants as error
use Rattle.delta_table.specs.declared.pieces.Pieces.{Pieces}
use Rattle.delta_table.specs.declared.pieces.TheConstants.{PIECE_BYTES}
use Rattle.delta_table.proofs.PathLaws.{bytes_once}

-- ---- what a feeder tells

went_by : (state r : State) → told state ≡ Ok tt → Answers state r → (state ≡ r) × IsGoing state
went_by (Ok s) r ok h = (sym h, (s, refl))
went_by (Err e) r ok h = absurd (cc)

-- Nothing is refused: the piece is fed.
pub went : (state r : State) → told state ≡ Ok tt → Answers state r → (state ≡ r) × IsGoing state
went state r ok h = went_by state r ok h

refused_as : (version : ℕ) (p : Pieces) (piece : List ℕ) (e : DeltaError) → p.read + length piece ≤ MAX_FILE_BYTES → FailsUnlessMemory (is_memory e) e (fed p.feeder piece) → IsRefusedPiece version p piece (error_at version e)
refused_as version p piece delta.Memory le h = tt
refused_as version p piece (delta.Malformed n) le h = (refl, le, h)
refused_as version p piece (delta.DoublePath n) le h = (refl, le, h)
refused_as version p piece (delta.Unsupported f n) le h = (refl, le, h)
refused_as version p piece (delta.Limit w) le h = (refl, le, h)

same_error : (d e : DeltaError) → told (Err d) ≡ Err e → d ≡ e
same_error d e h = cc

-- A line at fault is told.
pub stopped : (version : ℕ) (p : Pieces) (piece : List ℕ) (state : State) (e : DeltaError) → p.read + length piece ≤ MAX_FILE_BYTES → told state ≡ Err e → Answers state (fed p.feeder piece) → IsRefusedPiece version p piece (error_at version e)
stopped version p piece (Ok s) e le err h = absurd (cc)
stopped version p piece (Err d) e le err h =
    subst (λ (x : DeltaError). IsRefusedPiece version p piece (error_at version x)) (same_error d e err) (refused_as version p piece d le h)

-- ---- the bytes of a piece

abbrev part_of : ℕ → List ℕ → List ℕ
part_of read bytes = take PIECE_BYTES (drop read bytes)

-- the version's file, of which this is a part
pub record IsPart (files : Files) (version read : ℕ) (piece : List ℕ) : Type 0 where
  pub bytes : List ℕ
  pub holds : HoldsVersion files version bytes
  pub is : piece ≡ part_of read bytes

mapped : (files : Files) (version read : ℕ) (path piece : List ℕ) (o : Option (List ℕ)) → IsVersionPath path version → map.get files path ≡ o → Some piece ≡ option_map (λ bytes. take PIECE_BYTES (drop read bytes)) o → IsPart files version read piece
mapped files version read path piece None named is part = absurd (cc)
mapped files version read path piece (Some bytes) named is part = record { bytes = bytes; holds = record { path = path; is = named; there = is }; is = cc }

pub part_here : (files : Files) (version read : ℕ) (path piece : List ℕ) → IsVersionPath path version → Some piece ≡ option_map (λ bytes. take PIECE_BYTES (drop read bytes)) (map.get files path) → IsPart files version read piece
part_here files version read path piece named part = mapped files version read path piece (map.get files path) named refl part

gone : (read : ℕ) (o : Option (List ℕ)) → None ≡ option_map (λ (bytes : List ℕ). take PIECE_BYTES (drop read bytes)) o → o ≡ None
gone read None part = refl
gone read (Some bytes) part = absurd (cc)

-- Where no part is told, there is no file.
pub gone_here : (files : Files) (read : ℕ) (path : List ℕ) → None ≡ option_map (λ (bytes : List ℕ). take PIECE_BYTES (drop read bytes)) (map.get files path) → map.get files path ≡ None
gone_here files read path part = gone read (map.get files path) part

-- A piece has the length that was asked for at most.
pub short_here : (o : Option (List ℕ)) (piece slice : List ℕ) → o ≡ Some piece → slice ≡ piece → IfSome o (λ bytes. length bytes ≤ PIECE_BYTES) → length slice ≤ PIECE_BYTES
short_here o piece slice is same short =
    subst (λ (l : List ℕ). length l ≤ PIECE_BYTES) (sym same) (subst (λ (part : Option (List ℕ)). IfSome part (λ bytes. length bytes ≤ PIECE_BYTES)) is short)

module _ (read : ℕ) (bytes piece : List ℕ) (is : piece ≡ part_of read bytes) where
  part_length : length piece ≡ min PIECE_BYTES (length bytes - read)
  part_length = ap length is ∙ length-take PIECE_BYTES (drop read bytes) ∙ ap (min PIECE_BYTES) (length-drop read bytes)

  part_is : piece ≡ take (length piece) (drop read bytes)
  part_is = is ∙ sym (take_min PIECE_BYTES (drop read bytes)) ∙ ap (λ n. take n (drop read bytes)) (sym (ap length is ∙ length-take PIECE_BYTES (drop read bytes)))

  front_more : take read bytes ++ piece ≡ take (read + length piece) bytes
  front_more = ap (λ l. take read bytes ++ l) part_is ∙ sym (take-add read (length piece) bytes)

  all_read : length piece < PIECE_BYTES → length bytes ≤ read + length piece
  all_read short = let len = part_length in omega (arith, len, short)

  longer : read ≤ MAX_FILE_BYTES → MAX_FILE_BYTES < read + length piece → MAX_FILE_BYTES < length bytes
  longer within long = let len = part_length in omega (arith, len, within, long)

fed_more : (p : Pieces) (bytes piece : List ℕ) → piece ≡ part_of p.read bytes → p.feeder ≡ fed nothing_read (take p.read bytes) → fed p.feeder piece ≡ fed nothing_read (take (p.read + length piece) bytes)
fed_more p bytes piece is front = ap (λ (s : State). fed s piece) front ∙ sym (pieces_join nothing_read (take p.read bytes) piece) ∙ ap (fed nothing_read) (front_more p.read bytes piece is)

-- ---- what has been read

pub nothing_so_far : (files : Files) (version : ℕ) (p : Pieces) → p.feeder ≡ nothing_read → p.read ≡ 0 → p.is_whole ≡ false → IsReadSoFar files version p
unfolding fed
nothing_so_far files version p feeder read whole = record {
  front = λ bytes holds. rw read feeder;
  whole = λ is. absurd (cc);
  full = λ not. (0, read);
  going = (_, feeder);
}

one_longer : (count read n : ℕ) → read ≡ count * PIECE_BYTES → PIECE_BYTES ≤ n → n ≤ PIECE_BYTES → read + n ≡ (count + 1) * PIECE_BYTES
one_longer count read n is low high = omega (arith, is, low, high)

pub read_more : (files : Files) (version : ℕ) (p next : Pieces) (piece : List ℕ) → p.is_whole ≡ false → length piece ≤ PIECE_BYTES → IsPart files version p.read piece → IsOneMore p piece next → IsReadSoFar files version p → IsReadSoFar files version next
read_more files version p next piece more short part one so_far = record {
  front = λ bytes holds.
      let same = bytes_once files version part.bytes bytes part.holds holds in
      let of : piece ≡ part_of p.read bytes = part.is ∙ ap (part_of p.read) same in
      one.fed ∙ fed_more p bytes piece of (so_far.front bytes holds) ∙ ap (λ n. fed nothing_read (take n bytes)) (sym one.read);
  whole = λ is. (part.bytes, part.holds, subst (λ n. length part.bytes ≤ n) (sym one.read) (all_read p.read part.bytes piece part.is (one.last is)));
  full = λ not. let so = so_far.full more in (so.0 + 1, one.read ∙ one_longer so.0 p.read (length piece) so.1 (one.full not) short);
  going = one.going;
}

pub whole_read : (files : Files) (version : ℕ) (p : Pieces) → p.is_whole ≡ true → p.read ≤ MAX_FILE_BYTES → IsReadSoFar files version p → IsReadWhole files version p.feeder
whole_read files version p is within so_far =
    let all = so_far.whole is in
    let le = all.2 in
    record {
      bytes = all.0;
      holds = all.1;
      short = omega (arith, le, within);
      read = so_far.front all.0 all.1 ∙ ap (fed nothing_read) (take_all p.read all.0 all.2);
    }

-- ---- what is refused

at_bound : (count read n : ℕ) → read ≡ count * PIECE_BYTES → n ≤ PIECE_BYTES → read ≤ MAX_FILE_BYTES → MAX_FILE_BYTES < read + n → read ≡ MAX_FILE_BYTES
at_bound count read n is short within long = omega (arith, is, short, within, long)

few : (n : ℕ) (bytes : List ℕ) → n ≤ MAX_FILE_BYTES → length (take n bytes) < 2 ^ 64 - 1
few n bytes within = let len = length-take n bytes in omega (arith, len, within)

large_here : (files : Files) (version : ℕ) (p : Pieces) (piece : List ℕ) → p.is_whole ≡ false → p.read ≤ MAX_FILE_BYTES → length piece ≤ PIECE_BYTES → IsPart files version p.read piece → IsReadSoFar files version p → MAX_FILE_BYTES < p.read + length piece → IsLarge files version
large_here files version p piece more within short part so_far long =
    let so = so_far.full more in
    let end = at_bound so.0 p.read (length piece) so.1 short within long in
    let read : fed nothing_read (take MAX_FILE_BYTES part.bytes) ≡ Ok so_far.going.0 = ap (λ n. fed nothing_read (take n part.bytes)) (sym end) ∙ sym (so_far.front part.bytes part.holds) ∙ so_far.going.1 in
    let least : MAX_FILE_BYTES ≤ MAX_FILE_BYTES = omega arith in (
      part.bytes,
      part.holds,
      longer p.read part.bytes piece part.is within long,
      λ e f. taken_sound (take MAX_FILE_BYTES part.bytes) so_far.going.0 e (few MAX_FILE_BYTES part.bytes least) read f,
    )

-- A fault among fewer bytes is one among all that are read.
within_bound : (n : ℕ) (bytes : List ℕ) (e : DeltaError) → n ≤ MAX_FILE_BYTES → IsFaultWithin (take n bytes) e → IsFaultWithin (take MAX_FILE_BYTES bytes) e
within_bound n bytes e within f =
    let sum : n + (MAX_FILE_BYTES - n) ≡ MAX_FILE_BYTES = omega (arith, within) in
    let cut : take n bytes ++ take (MAX_FILE_BYTES - n) (drop n bytes) ≡ take MAX_FILE_BYTES bytes = sym (take-add n (MAX_FILE_BYTES - n) bytes) ∙ ap (λ k. take k bytes) sum in
    subst (λ (l : List ℕ). IsFaultWithin l e) cut (within_more (take n bytes) (take (MAX_FILE_BYTES - n) (drop n bytes)) e f)

pub piece_refused : (files : Files) (version : ℕ) (p : Pieces) (piece : List ℕ) (e : LogError) → p.is_whole ≡ false → p.read ≤ MAX_FILE_BYTES → length piece ≤ PIECE_BYTES → IsPart files version p.read piece → IsReadSoFar files version p → IsRefusedPiece version p piece e
    → IsVersionRefusal files version e
piece_refused files version p piece error.Memory more within short part so_far h = tt
piece_refused files version p piece error.StoreFault more within short part so_far h = absurd h
piece_refused files version p piece error.ManyNames more within short part so_far h = absurd h
piece_refused files version p piece error.ManyCommits more within short part so_far h = absurd h
piece_refused files version p piece (error.Missing v) more within short part so_far h = absurd h
piece_refused files version p piece (error.Large v) more within short part so_far h = (h.0, large_here files version p piece more within short part so_far h.1)
piece_refused files version p piece (error.Refused v e) more within short part so_far h =
    let n = p.read + length piece in
    let front : fed nothing_read (take n part.bytes) ≡ Err e = sym (fed_more p part.bytes piece part.is (so_far.front part.bytes part.holds)) ∙ h.2 in
    let f = told_early (take n part.bytes) e (few n part.bytes h.1) front in
    let first = subst (λ (l : List ℕ). IsFirstFault l e) (take-append-drop n part.bytes) (fault_for_good (take n part.bytes) (drop n part.bytes) e f) in
    (h.0, (part.bytes, part.holds, first, λ long. within_bound n part.bytes e h.1 f))

pub piece_told : (version : ℕ) (p : Pieces) (piece : List ℕ) (e : LogError) → IsRefusedPiece version p piece e → TellsOf (λ v. v ≡ version) e
piece_told version p piece error.Memory h = tt
piece_told version p piece error.StoreFault h = tt
piece_told version p piece error.ManyNames h = tt
piece_told version p piece error.ManyCommits h = tt
piece_told version p piece (error.Missing v) h = absurd h
piece_told version p piece (error.Large v) h = h.0
piece_told version p piece (error.Refused v e) h = h.0

-- ---- the end

-- what is told of a file that has no more bytes than are read
pub end_refused : (files : Files) (version : ℕ) (state : State) (e : DeltaError) → IsReadWhole files version state → ((bytes : List ℕ) → state ≡ fed nothing_read bytes → length bytes < 2 ^ 64 - 1 → IsRefusal bytes e) → IsVersionRefusal files version (error_at version e)
end_refused files version state e whole refused = by e (refused whole.bytes whole.read small)
  where
    small : length whole.bytes < 2 ^ 64 - 1
    small = let short = whole.short in omega (arith, short)

    never : (c : DeltaError) → MAX_FILE_BYTES < length whole.bytes → IsFaultWithin (take MAX_FILE_BYTES whole.bytes) c
    never c long = let short = whole.short in absurd (omega (arith, short, long))

    by : (c : DeltaError) → IsRefusal whole.bytes c → IsVersionRefusal files version (error_at version c)
    by delta.Memory h = tt
    by (delta.Malformed n) h = (refl, (whole.bytes, whole.holds, h, never (delta.Malformed n)))
    by (delta.DoublePath n) h = (refl, (whole.bytes, whole.holds, h, never (delta.DoublePath n)))
    by (delta.Unsupported f n) h = (refl, (whole.bytes, whole.holds, h, never (delta.Unsupported f n)))
    by (delta.Limit w) h = (refl, (whole.bytes, whole.holds, h, never (delta.Limit w)))

pub end_says : (files : Files) (version : ℕ) (state : State) (c : DeltaCommit) → IsReadWhole files version state → ((bytes : List ℕ) → state ≡ fed nothing_read bytes → length bytes < 2 ^ 64 - 1 → IsReadableCommit bytes c) → SaysCommit files version c
end_says files version state c whole found =
    let short = whole.short in
    record { bytes = whole.bytes; holds = whole.holds; readable = found whole.bytes whole.read (omega (arith, short)) }

pub is_short : (files : Files) (version : ℕ) (state : State) → IsReadWhole files version state → IsShort files version
is_short files version state whole bytes holds = subst (λ (l : List ℕ). length l ≤ MAX_FILE_BYTES) (bytes_once files version whole.bytes bytes whole.holds holds) whole.short

-- ---- one piece more

-- There is less left to read.
pub further_on : (p next : Pieces) (piece : List ℕ) → p.is_whole ≡ false → p.read ≤ MAX_FILE_BYTES → IsOneMore p piece next → left next.is_whole next.read < left p.is_whole p.read
further_on p next piece more within one = subst (λ w. left next.is_whole next.read < left w p.read) (sym more) (by next.is_whole refl)
  where
    by : (w : Bool) → next.is_whole ≡ w → left w next.read < left false p.read
    by true is = omega (arith, within)
    by false is = let full = one.full is in let read = one.read in let bound = one.within in omega (arith, full, read, bound, within)

-- No piece is refused for a fault of the store.
pub no_fault : {T : Type 0} (version : ℕ) (p : Pieces) (piece : List ℕ) (r : Result T LogError) → IfErr r (IsRefusedPiece version p piece) → IsErrOf r error.StoreFault → ⊥
no_fault {T} version p piece r h is = IfErr-at_err (IsRefusedPiece version p piece) is h

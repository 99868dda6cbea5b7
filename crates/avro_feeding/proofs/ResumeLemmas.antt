-- Where the reading of a header goes on: behind the magic, and behind each item of the metadata that is whole.
use Rattle.std.proofs.Common.{◌≡◌, ℕ, zero, suc, ◌+◌, ◌-◌, ◌*◌, ◌%◌, ◌^◌, ◌<◌, Bool, true, false, cond, not, List, [], ◌∷◌, ◌++◌, length, take, drop, Option, Some, None, Result, Ok, Err, IfSome, refl, sym, ap, subst, ◌∙◌, append_assoc, arith, inl, eqb, ne_eqb, nat_lt}
use Rattle.std.specs.Str.{bytes_eq}
use Rattle.std.proofs.lemmas.Bool.{lt-ltb}
use Rattle.std.proofs.lemmas.List.{length-append, drop_at, take_rest}
use Rattle.std.proofs.lemmas.Slice.Eq.{bytes_eq-Decides}
use Rattle.lake_basics.specs.Outcome.{◌>>=◌}
use Rattle.avro_value.specs.declared.api.TheConstants.{MAX_VALUES}
use Rattle.avro_value.specs.declared.fault.Fault.{Fault}
use Rattle.avro_value.specs.declared.fault.Fault.TheVariants.{Short, BadLong, BadLength, BadIndex, BadText, BadBool, Limit}
use Rattle.avro_value.specs.declared.fault.FaultAt.{FaultAt}
use Rattle.avro_value.specs.declared.input.BlockHead.{BlockHead}
use Rattle.avro_value.specs.declared.input.BlockSize.{BlockSize}
use Rattle.avro_value.specs.Reading.{Item, Read, fault_at, item_at, run_at, text_at, bytes_at, many_at, block_at, sized_at, block_ends, one_block_at, blocks_at, with_count, entry_at, all_blocks_at}
use Rattle.avro_value.specs.Spelling.{LengthPrefixed, PrefixedText}
use Rattle.avro_value.proofs.BlockLaws.{HeadTaken, block_takes, after_block, number_item_again, negative_signed, eqb_false}
use Rattle.avro_value.proofs.ItemLaws.{run_takes, bytes_takes, bytes_again, text_takes, text_again}
use Rattle.avro_value.proofs.NumberLaws.{even_signed}
use Rattle.avro_value.proofs.ReaderLaws.{TakesBy, AgainBy, item_takes, item_again}
use Rattle.avro_value.proofs.ValueLaws.{counted_takes, counted_again}
use Rattle.avro_container.specs.declared.fault.ContainerFault.{ContainerFault}
use Rattle.avro_container.specs.declared.fault.Flaw.TheVariants as flaw
use Rattle.avro_container.specs.Format.{Pairs, magic}
use Rattle.avro_container.specs.Reading.{Step, flaw_at, meta_at, meta_fault_by, meta_step, run_in, header_at}
use Rattle.avro_container.proofs.Headers.{magic_again}
use Rattle.avro_feeding.specs.declared.metadata.Next.TheVariants as next
use Rattle.avro_feeding.specs.declared.metadata.PairsLeft.{PairsLeft}
use Rattle.avro_feeding.specs.declared.metadata.Resume.{Resume}
use Rattle.avro_feeding.specs.declared.metadata.Size.{Size}
use Rattle.avro_feeding.specs.declared.metadata.Stop.{Stop}
use Rattle.avro_feeding.specs.Feeding.{in_header, is_short, after_header, read_header}
use Rattle.avro_feeding.specs.Resuming.{is_early, is_cut_header, IsCutHeader, is_cut, blob_at, pair_at, fits, size_of, pairs_of, behind_pairs, pairs_at, rest_at, stop_of, IsStop, IsResume, AtBlock, AtName, AtValue}
use Rattle.avro_feeding.specs.Views.{IsFedBy, summary}
use Rattle.avro_feeding.proofs.PieceLemmas.{with_header, opened_is}

-- ---- the header, by what follows its magic

meta_is : (rest : List ℕ) → meta_at rest MAX_VALUES ≡ blocks_at pair_at (length rest + 1) rest (MAX_VALUES - 1)
unfolding meta_at all_blocks_at with_count
meta_is rest = refl

abbrev placed : ℕ → Item (List ℕ) → Step (List ℕ × List ℕ)
placed whole r = elim r as (λ _. Step (List ℕ × List ℕ)) [ Err f ↦ Err (flaw_at flaw.Short whole) | Ok x ↦ Ok x ]

marker_cut : (whole : ℕ) (pairs : Pairs) (bytes : List ℕ) → is_cut_header {A = Pairs × List ℕ × List ℕ} (run_in whole 16 bytes >>= λ marker. Ok (pairs, marker.0, marker.1)) ≡ nat_lt (length bytes) 16
unfolding run_in run_at
marker_cut whole pairs bytes = go (nat_lt (length bytes) 16)
  where
    go : (b : Bool) → is_cut_header {A = Pairs × List ℕ × List ℕ} (placed whole (cond {A = Item (List ℕ)} b (Err Short) (Ok (take 16 bytes, drop 16 bytes))) >>= λ marker. Ok (pairs, marker.0, marker.1)) ≡ b
    go true = refl
    go false = refl

early_is : (whole left : ℕ) (r : Fault) → is_short (meta_fault_by r whole left).flaw ≡ is_early r
early_is whole left Short = refl
early_is whole left BadLong = refl
early_is whole left BadLength = refl
early_is whole left BadIndex = refl
early_is whole left BadText = refl
early_is whole left BadBool = refl
early_is whole left Limit = refl

cut_is : (whole : ℕ) (r : Read Pairs) → is_cut_header {A = Pairs × List ℕ × List ℕ} (meta_step whole r >>= λ meta. run_in whole 16 meta.1 >>= λ marker. Ok (meta.0, marker.0, marker.1)) ≡ is_cut r
cut_is whole (Ok x) = marker_cut whole x.0 x.1
cut_is whole (Err f) = early_is whole f.left f.fault

header_is : (rest : List ℕ) → is_cut_header (header_at MAX_VALUES (magic ++ rest)) ≡ is_cut (blocks_at pair_at (length rest + 1) rest (MAX_VALUES - 1))
unfolding header_at
header_is rest = rw (magic_again rest, meta_is rest) (cut_is (length (magic ++ rest)) (blocks_at pair_at (length rest + 1) rest (MAX_VALUES - 1)))

-- the test that no magic is there
pub magic_is : (front text : List ℕ) (b : Bool) → b ≡ not (bytes_eq front text) → b ≡ false → text ≡ magic → front ≡ magic
magic_is front text b is failed same = (bytes_eq-Decides front text).0 (go (bytes_eq front text) (sym is ∙ failed)) ∙ same
  where
    go : (c : Bool) → not c ≡ false → c ≡ true
    go true h = refl
    go false h = absurd (cc)

pub begins : (bytes front rest : List ℕ) → run_at 4 bytes ≡ Ok (front, rest) → front ≡ magic → AtBlock bytes 4 (MAX_VALUES - 1)
begins bytes front rest e is =
    let t = run_takes 4 bytes (front, rest) e in
    record {
      front = magic;
      rest = rest;
      parts = t.1 ∙ ap (λ (l : List ℕ). l ++ rest) (sym t.2.0 ∙ is);
      place = refl;
      goes_on = λ more. (length more + 1, λ c. header_is more ∙ c);
    }

-- ---- one item more

-- what stands behind the place
at_rest : (bytes : List ℕ) (r : Resume) (h : IsResume bytes r) → take (length bytes - r.place) (drop r.place bytes) ≡ h.rest
at_rest bytes r h = take_rest bytes r.place ∙ ap (λ (n : ℕ). drop n bytes) h.place ∙ ap (drop (length h.front)) h.parts ∙ drop_at h.front h.rest (length h.front) refl

abbrev GoesBehind : List ℕ → List ℕ → Resume → Type 0
GoesBehind front item s = (rest : List ℕ) → (fuel : ℕ) × (is_cut (rest_at s.next (length (front ++ (item ++ rest))) fuel rest s.budget) ≡ true → IsCutHeader (front ++ (item ++ rest)))

behind_item : (bytes : List ℕ) (r s : Resume) (h : IsResume bytes r) (item after : List ℕ) → h.rest ≡ item ++ after → s.place ≡ length bytes - length after → GoesBehind h.front item s → IsResume bytes s
behind_item bytes r s h item after parts place goes =
    let whole : bytes ≡ (h.front ++ item) ++ after = h.parts ∙ ap (λ (l : List ℕ). h.front ++ l) parts ∙ sym (append_assoc h.front item after) in
    record {
      front = h.front ++ item;
      rest = after;
      parts = whole;
      place = omega (arith, place, ap length whole, length-append (h.front ++ item) after);
      goes_on = λ rest. subst (λ (l : List ℕ). (fuel : ℕ) × (is_cut (rest_at s.next (length l) fuel rest s.budget) ≡ true → IsCutHeader l)) (sym (append_assoc h.front item rest)) (goes rest);
    }

-- The bytes end in the item.
cut_so : (bytes : List ℕ) (r : Resume) (h : IsResume bytes r) → ((fuel : ℕ) → is_cut (rest_at r.next (length (h.front ++ h.rest)) fuel h.rest r.budget) ≡ true) → IsCutHeader bytes
cut_so bytes r h early = subst (λ (l : List ℕ). IsCutHeader l) (sym h.parts) (let g = h.goes_on h.rest in g.1 (early g.0))

stops_so : (bytes : List ℕ) (r : Fault) (s : Stop) → s ≡ stop_of r → (r ≡ Short → IsCutHeader bytes) → IsStop bytes s
stops_so bytes r s is cut = subst (λ (t : Stop). IsStop bytes t) (sym is) (go r cut)
  where
    go : (q : Fault) → (q ≡ Short → IsCutHeader bytes) → IsStop bytes (stop_of q)
    go Short h = h refl
    go BadLong h = tt
    go BadLength h = tt
    go BadIndex h = tt
    go BadText h = tt
    go BadBool h = tt
    go Limit h = tt

-- ---- a value

blob_takes : TakesBy blob_at LengthPrefixed (λ _. 1) 0
blob_takes = counted_takes (item_at bytes_at) LengthPrefixed (λ _. 1) (λ bytes budget x e.
    let t = item_takes bytes_at LengthPrefixed (λ _. 0) (λ _. refl) bytes_takes bytes budget x e in
    let c = t.counted in
    record { front = t.front; parts = t.parts; spelled = t.spelled; counted = omega (arith, c) })

blob_again : AgainBy blob_at LengthPrefixed (λ _. 1) 0
blob_again = counted_again (item_at bytes_at) LengthPrefixed (λ _. 1) (λ _. omega arith) (λ x front rest budget left p e. item_again bytes_at LengthPrefixed (λ _. 0) (λ _. refl) bytes_again x front rest budget left p (omega (arith, e)))

pub behind_value : (bytes : List ℕ) (place budget : ℕ) (left : PairsLeft) (value after : List ℕ) (room end : ℕ) → AtValue bytes place budget left → blob_at (take (length bytes - place) (drop place bytes)) budget ≡ Ok (value, after, room) → end ≡ length bytes - length after
    → AtName bytes end room left
behind_value bytes place budget left value after room end h e at =
    let r : Resume = record { place = place; budget = budget; next = next.Value left } in
    let s : Resume = record { place = end; budget = room; next = next.Name left } in
    let t = blob_takes h.rest budget (value, after, room) (subst (λ (l : List ℕ). blob_at l budget ≡ Ok (value, after, room)) (at_rest bytes r h) e) in
    behind_item bytes r s h t.front after t.parts at (λ rest. (let g = h.goes_on (t.front ++ rest) in (g.0, λ c. g.1 (rw (blob_again value t.front rest budget room t.spelled t.counted) c))))

pub stops_at_value : (bytes : List ℕ) (place budget : ℕ) (left : PairsLeft) (f : FaultAt) (s : Stop) → AtValue bytes place budget left → blob_at (take (length bytes - place) (drop place bytes)) budget ≡ Err f → s ≡ stop_of f.fault → IsStop bytes s
stops_at_value bytes place budget left f s h e is =
    let r : Resume = record { place = place; budget = budget; next = next.Value left } in
    let failed : blob_at h.rest budget ≡ Err f = subst (λ (l : List ℕ). blob_at l budget ≡ Err f) (at_rest bytes r h) e in
    stops_so bytes f.fault s is (λ short. cut_so bytes r h (λ fuel. rw failed (ap is_early short)))

-- ---- a name

key_takes : TakesBy (item_at text_at) PrefixedText (λ _. 0) 0
key_takes = item_takes text_at PrefixedText (λ _. 0) (λ _. refl) text_takes

key_again : AgainBy (item_at text_at) PrefixedText (λ _. 0) 0
key_again = item_again text_at PrefixedText (λ _. 0) (λ _. refl) text_again

abbrev with_key : List ℕ → List ℕ × List ℕ × ℕ → Read (List ℕ × List ℕ)
with_key key value = Ok ((key, value.0), value.1, value.2)

abbrev with_pair : List ℕ × List ℕ → Pairs × List ℕ × ℕ → Read Pairs
with_pair pair xs = Ok (pair ∷ xs.0, xs.1, xs.2)

abbrev with_pairs : ℕ → (List ℕ × List ℕ) × List ℕ × ℕ → Read Pairs
with_pairs n x = many_at pair_at n x.1 x.2 >>= with_pair x.0

named : (left : PairsLeft) (n all fuel : ℕ) (bytes key rest : List ℕ) (budget room : ℕ) → left.names ≡ suc n → item_at text_at bytes budget ≡ Ok (key, rest, room)
    → is_cut (pairs_at left all fuel bytes budget) ≡ is_cut (blob_at rest room >>= λ value. pairs_at (record { names = n; size = left.size }) all fuel value.1 value.2)
unfolding many_at entry_at
named left n all fuel bytes key rest budget room names e = rw (names, e) (on_value (blob_at rest room))
  where
    on_pairs : (pair : List ℕ × List ℕ) (r : Read Pairs) → is_cut ((r >>= with_pair pair) >>= behind_pairs left.size all fuel) ≡ is_cut (r >>= behind_pairs left.size all fuel)
    on_pairs pair (Ok xs) = refl
    on_pairs pair (Err f) = refl

    on_value : (r : Read (List ℕ)) → is_cut (((r >>= with_key key) >>= with_pairs n) >>= behind_pairs left.size all fuel) ≡ is_cut (r >>= λ value. many_at pair_at n value.1 value.2 >>= behind_pairs left.size all fuel)
    on_value (Ok v) = on_pairs (key, v.0) (many_at pair_at n v.1 v.2)
    on_value (Err f) = refl

unnamed : (left : PairsLeft) (n all fuel : ℕ) (bytes : List ℕ) (budget : ℕ) (f : FaultAt) → left.names ≡ suc n → item_at text_at bytes budget ≡ Err f → is_cut (pairs_at left all fuel bytes budget) ≡ is_early f.fault
unfolding many_at entry_at
unnamed left n all fuel bytes budget f names e = rw (names, e) refl

pub behind_name : (bytes : List ℕ) (place budget : ℕ) (left : PairsLeft) (n : ℕ) (key after : List ℕ) (room end : ℕ) → AtName bytes place budget left → left.names ≡ suc n → item_at text_at (take (length bytes - place) (drop place bytes)) budget ≡ Ok (key, after, room) → end ≡ length bytes - length after
    → AtValue bytes end room (record { names = n; size = left.size })
behind_name bytes place budget left n key after room end h names e at =
    let r : Resume = record { place = place; budget = budget; next = next.Name left } in
    let s : Resume = record { place = end; budget = room; next = next.Value (record { names = n; size = left.size }) } in
    let t = key_takes h.rest budget (key, after, room) (subst (λ (l : List ℕ). item_at text_at l budget ≡ Ok (key, after, room)) (at_rest bytes r h) e) in
    behind_item bytes r s h t.front after t.parts at
    (λ rest. (let g = h.goes_on (t.front ++ rest) in
    (g.0, λ c. g.1 (named left n (length (h.front ++ (t.front ++ rest))) g.0 (t.front ++ rest) key rest budget room names (key_again key t.front rest budget room t.spelled t.counted) ∙ c))))

pub stops_at_name : (bytes : List ℕ) (place budget : ℕ) (left : PairsLeft) (n : ℕ) (f : FaultAt) (s : Stop) → AtName bytes place budget left → left.names ≡ suc n → item_at text_at (take (length bytes - place) (drop place bytes)) budget ≡ Err f → s ≡ stop_of f.fault → IsStop bytes s
stops_at_name bytes place budget left n f s h names e is =
    let r : Resume = record { place = place; budget = budget; next = next.Name left } in
    let failed : item_at text_at h.rest budget ≡ Err f = subst (λ (l : List ℕ). item_at text_at l budget ≡ Err f) (at_rest bytes r h) e in
    stops_so bytes f.fault s is (λ short. cut_so bytes r h (λ fuel. unnamed left n (length (h.front ++ h.rest)) fuel h.rest budget f names failed ∙ ap is_early short))

-- ---- a block's end

no_pairs : (left : PairsLeft) (all fuel place : ℕ) (rest : List ℕ) (budget : ℕ) → left.names ≡ 0 → fits left.size place ≡ true → all - length rest ≡ place → is_cut (pairs_at left all fuel rest budget) ≡ is_cut (blocks_at pair_at fuel rest budget)
unfolding many_at
no_pairs left all fuel place rest budget none fit at = rw (none, at, fit) refl

pub behind_block : (bytes : List ℕ) (place budget : ℕ) (left : PairsLeft) → AtName bytes place budget left → left.names ≡ 0 → fits left.size place ≡ true → AtBlock bytes place budget
behind_block bytes place budget left h none fit = record {
  front = h.front;
  rest = h.rest;
  parts = h.parts;
  place = h.place;
  goes_on = λ rest. (let g = h.goes_on rest in
      let at = h.place in
      (g.0, λ c. g.1 (no_pairs left (length (h.front ++ rest)) g.0 place rest budget none fit (omega (arith, at, length-append h.front rest)) ∙ c)));
}

-- ---- what stands before a block's pairs

-- the size has as many bytes behind it
abbrev SizeBefore : Option BlockSize → List ℕ → Type 0
SizeBefore None rest = Unit {0}
SizeBefore (Some size) rest = size.items ≡ length rest

-- the same before any bytes
record HeadAgain (n : ℕ) (size : Option BlockSize) (bytes after : List ℕ) : Type 0 where
  item : List ℕ
  parts : bytes ≡ item ++ after
  again : (rest : List ℕ) (budget : ℕ) → (s : Option BlockSize) × (block_at (item ++ rest) budget ≡ Ok (Some (record { count = n; size = s }), rest, budget)) × ((place : ℕ) → size_of place s ≡ size_of place size) × SizeBefore s rest

head_again : (n : ℕ) (size : Option BlockSize) (bytes after : List ℕ) → HeadTaken bytes (Some (record { count = n; size = size })) after → HeadAgain n size bytes after
unfolding block_at sized_at
head_again n None bytes after h =
    let low = h.0 in
    let f = h.2 in
    let long = f.2 in
    let even = even_signed long.0 n long.1 in
    let half = even.1 in
    let some : eqb long.0 0 ≡ false = ne_eqb long.0 0 (λ e. absurd (omega (arith, half, low, e))) in
    record {
      item = f.0;
      parts = f.1;
      again = λ rest budget. (None, (let number = number_item_again long.0 f.0 rest budget budget long.2 (omega arith) in rw (number, some, even.0, half) refl), (λ place. refl), tt);
    }
head_again n (Some size) bytes after h =
    let low = h.0 in
    let high = h.1 in
    let f = h.2 in
    let long = f.3 in
    let odd = negative_signed long.0 n low long.1 in
    let number_is = odd.1 in
    let not_even = eqb_false (long.0 % 2) 0 odd.0 in
    let some : eqb long.0 0 ≡ false = ne_eqb long.0 0 (λ e. absurd (not_even (omega (arith, e)))) in
    let last : eqb long.0 (2 ^ 64 - 1) ≡ false = ne_eqb long.0 (2 ^ 64 - 1) (λ e. absurd (omega (arith, e, number_is, high))) in
    record {
      item = f.0 ++ f.1;
      parts = f.2 ∙ sym (append_assoc f.0 f.1 after);
      again = λ rest budget. (
        Some (record { spelled = size.spelled; left = length (f.1 ++ rest); items = length rest }),
        (let number = number_item_again long.0 f.0 (f.1 ++ rest) budget budget long.2 (omega arith) in
            let sizes = number_item_again size.spelled f.1 rest budget budget f.4 (omega arith) in
            rw (append_assoc f.0 f.1 rest, number, some, odd.0, last, number_is, sizes) refl),
        (λ place. refl),
        refl,
      );
    }

front_cut : (xs : Pairs) (r : Read Pairs) → is_cut (r >>= λ more. Ok (xs ++ more.0, more.1, more.2)) ≡ is_cut r
front_cut xs (Ok more) = refl
front_cut xs (Err f) = refl

abbrev some_pairs : Pairs × List ℕ × ℕ → Unit {0} → Read (Option Pairs)
some_pairs xs done = Ok (Some xs.0, xs.1, xs.2)

abbrev ended_pairs : ℕ → Option BlockSize → Pairs × List ℕ × ℕ → Read (Option Pairs)
ended_pairs n s xs = block_ends (record { count = n; size = s }) xs.1 >>= some_pairs xs

abbrev behind_ended : ℕ → Option Pairs × List ℕ × ℕ → Read Pairs
behind_ended fuel block = after_block pair_at fuel block.0 block.1 block.2

-- the pairs and the blocks behind a block's head
pairs_cut : (n place all fuel : ℕ) (rest : List ℕ) (s : Option BlockSize) → SizeBefore s rest → all ≡ place + length rest → (r : Read Pairs) → is_cut ((r >>= ended_pairs n s) >>= behind_ended fuel) ≡ is_cut (r >>= behind_pairs (size_of place s) all fuel)
unfolding block_ends
pairs_cut n place all fuel rest None before whole (Ok xs) = front_cut xs.0 (blocks_at pair_at fuel xs.1 xs.2)
pairs_cut n place all fuel rest None before whole (Err f) = refl
pairs_cut n place all fuel rest (Some size) before whole (Ok xs) =
    let same : 2 * (size.items - length xs.1) ≡ 2 * ((all - length xs.1) - place) = omega (arith, before, whole) in
    rw same (on (eqb size.spelled (2 * ((all - length xs.1) - place))))
  where
    on : (b : Bool) → is_cut ((cond {A = Result (Unit {0}) FaultAt} b (Ok tt) (Err (record { fault = BadLength; left = size.left })) >>= some_pairs xs) >>= behind_ended fuel) ≡ is_cut (cond {A = Read Pairs} b (blocks_at pair_at fuel xs.1 xs.2) (Err (fault_at xs.1 BadLength)))
    on true = front_cut xs.0 (blocks_at pair_at fuel xs.1 xs.2)
    on false = refl
pairs_cut n place all fuel rest (Some size) before whole (Err f) = refl

headed : (bytes rest : List ℕ) (budget n place all fuel : ℕ) (s : Option BlockSize) → block_at bytes budget ≡ Ok (Some (record { count = n; size = s }), rest, budget) → SizeBefore s rest → all ≡ place + length rest
    → is_cut (blocks_at pair_at (suc fuel) bytes budget) ≡ is_cut (pairs_at (record { names = n; size = size_of place s }) all fuel rest budget)
unfolding blocks_at one_block_at
headed bytes rest budget n place all fuel s e before whole = rw e (pairs_cut n place all fuel rest s before whole (many_at pair_at n rest budget))

-- Reading runs out of fuel only where it ends too early.
on_fuel : (bytes rest whole : List ℕ) (budget room all : ℕ) (left : PairsLeft) → ((fuel : ℕ) → is_cut (blocks_at pair_at (suc fuel) bytes budget) ≡ is_cut (pairs_at left all fuel rest room)) → (fuel : ℕ) → (is_cut (blocks_at pair_at fuel bytes budget) ≡ true → IsCutHeader whole)
    → (f : ℕ) × (is_cut (pairs_at left all f rest room) ≡ true → IsCutHeader whole)
unfolding blocks_at
on_fuel bytes rest whole budget room all left same zero cut = (0, λ c. cut refl)
on_fuel bytes rest whole budget room all left same (suc fuel) cut = (fuel, λ c. cut (same fuel ∙ c))

pub behind_head : (bytes : List ℕ) (place budget : ℕ) (head : BlockHead) (left : PairsLeft) (after : List ℕ) (room end : ℕ) → AtBlock bytes place budget → block_at (take (length bytes - place) (drop place bytes)) budget ≡ Ok (Some head, after, room) → end ≡ length bytes - length after → left ≡ pairs_of end head
    → AtName bytes end room left
behind_head bytes place budget head left after room end h e at is =
    let r : Resume = record { place = place; budget = budget; next = next.Block } in
    let s : Resume = record { place = end; budget = room; next = next.Name left } in
    let t = block_takes h.rest budget (Some head, after, room) (subst (λ (l : List ℕ). block_at l budget ≡ Ok (Some head, after, room)) (at_rest bytes r h) e) in
    let a = head_again head.count head.size h.rest after t.taken in
    let whole : length bytes ≡ length h.front + length h.rest = ap length h.parts ∙ length-append h.front h.rest in
    let behind : length h.rest ≡ length a.item + length after = ap length a.parts ∙ length-append a.item after in
    behind_item bytes r s h a.item after a.parts at
    (λ rest. (let all = length (h.front ++ (a.item ++ rest)) in
    let b = a.again rest budget in
    let sum : all ≡ end + length rest = omega (arith, at, whole, behind, length-append h.front (a.item ++ rest), length-append a.item rest) in
    let same : record { names = head.count; size = size_of end b.0 } ≡ left = ap (λ (z : Option Size). record { names = head.count; size = z }) (b.2 end) ∙ sym is in
    let g = h.goes_on (a.item ++ rest) in
    on_fuel (a.item ++ rest) rest (h.front ++ (a.item ++ rest)) budget room all left
    (λ fuel. headed (a.item ++ rest) rest budget head.count end all fuel b.0 b.1 b.3 sum ∙ ap (λ (p : PairsLeft). is_cut (pairs_at p all fuel rest budget)) same ∙ ap (λ (n : ℕ). is_cut (pairs_at left all fuel rest n)) (sym t.room_is))
    g.0 g.1))

no_head : (fuel : ℕ) (bytes : List ℕ) (budget : ℕ) (f : FaultAt) → block_at bytes budget ≡ Err f → f.fault ≡ Short → is_cut (blocks_at pair_at fuel bytes budget) ≡ true
unfolding blocks_at one_block_at
no_head zero bytes budget f e short = refl
no_head (suc fuel) bytes budget f e short = rw e (ap is_early short)

pub stops_at_block : (bytes : List ℕ) (place budget : ℕ) (f : FaultAt) (s : Stop) → AtBlock bytes place budget → block_at (take (length bytes - place) (drop place bytes)) budget ≡ Err f → s ≡ stop_of f.fault → IsStop bytes s
stops_at_block bytes place budget f s h e is =
    let r : Resume = record { place = place; budget = budget; next = next.Block } in
    let failed : block_at h.rest budget ≡ Err f = subst (λ (l : List ℕ). block_at l budget ≡ Err f) (at_rest bytes r h) e in
    stops_so bytes f.fault s is (λ short. cut_so bytes r h (λ fuel. no_head fuel h.rest budget f failed short))

no_more : (fuel : ℕ) (bytes after : List ℕ) (budget room : ℕ) → block_at bytes budget ≡ Ok (None, after, room) → length after < 16 → is_cut (blocks_at pair_at fuel bytes budget) ≡ true
unfolding blocks_at one_block_at
no_more zero bytes after budget room e few = refl
no_more (suc fuel) bytes after budget room e few = rw e (lt-ltb (length after) 16 few)

-- The bytes end in the marker.
pub cut_marker : (bytes : List ℕ) (place budget : ℕ) (after : List ℕ) (room : ℕ) → AtBlock bytes place budget → block_at (take (length bytes - place) (drop place bytes)) budget ≡ Ok (None, after, room) → length after < 16 → IsCutHeader bytes
cut_marker bytes place budget after room h e few =
    let r : Resume = record { place = place; budget = budget; next = next.Block } in
    let ended : block_at h.rest budget ≡ Ok (None, after, room) = subst (λ (l : List ℕ). block_at l budget ≡ Ok (None, after, room)) (at_rest bytes r h) e in
    cut_so bytes r h (λ fuel. no_more fuel h.rest after budget room ended few)

-- ---- a piece

pub more_come : (kept piece bytes : List ℕ) (resume : Option Resume) → bytes ≡ kept ++ piece → IfSome resume (IsResume kept) → IfSome resume (IsResume bytes)
more_come kept piece bytes None is h = h
more_come kept piece bytes (Some r) is h = record {
  front = h.front;
  rest = h.rest ++ piece;
  parts = is ∙ ap (λ (l : List ℕ). l ++ piece) h.parts ∙ append_assoc h.front h.rest piece;
  place = h.place;
  goes_on = h.goes_on;
}

cut_fault : (r : Step (Pairs × List ℕ × List ℕ)) → is_cut_header r ≡ true → (f : ContainerFault) × (r ≡ Err f) × (is_short f.flaw ≡ true)
cut_fault (Ok h) e = absurd (cc)
cut_fault (Err f) e = (f, refl, e)

waits : (bytes : List ℕ) → IsCutHeader bytes → read_header bytes ≡ (Ok (in_header bytes), [])
waits bytes h =
    let f = cut_fault (header_at MAX_VALUES bytes) h in
    ap (after_header bytes) (opened_is bytes ∙ ap (λ (r : Step (Pairs × List ℕ × List ℕ)). r >>= with_header bytes) f.1) ∙ rw f.2 refl

pub waits_fed : (kept piece bytes : List ℕ) → bytes ≡ kept ++ piece → IsCutHeader bytes → IsFedBy (Ok (in_header kept)) piece (Ok (in_header bytes), None)
waits_fed kept piece bytes is h =
    subst (λ (l : List ℕ). IsFedBy (Ok (in_header kept)) piece (Ok (in_header l), None)) (sym is)
    (inl (ap summary (sym (waits (kept ++ piece) (subst (λ (l : List ℕ). IsCutHeader l) is h)))))

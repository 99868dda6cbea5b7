-- The new list, of which the first manifests are those before that have live rows.
use Rattle.std.proofs.Common.{zero, suc, ◌≡◌, ◌≢◌, ◌+◌, ◌-◌, ◌<◌, ◌≤◌, ℕ, Bool, true, false, cond, Contains, List, [], ◌∷◌, ◌++◌, Option, Some, None, map, drop, length, get_or, not, slice_get, refl, sym, ap, subst, ◌∙◌, ⊎_elim, arith}
use Rattle.std.specs.Prelude.{option_map, unwrap_or}
use Rattle.std.specs.List.{flat_map, list_any, range_with_len}
use Rattle.std.proofs.lemmas.Bool.{cases_eq, false≢true, or_parts}
use Rattle.std.proofs.lemmas.List.{drop-drop, get_or-drop, length-drop, length-map, take-append-drop}
use Rattle.std.proofs.lemmas.List.Elements.{Contains-append_cases, Contains-append_left}
use Rattle.std.proofs.lemmas.Option.{slice_get-map, slice_get_read, slice_get_within}
use Rattle.table_history.specs.Row.{Row}
use Rattle.table_history.proofs.RowListLemmas.{Contains-cases, Contains-head, Contains-none, Contains-tail}
use Rattle.file_links.specs.Rows.{OwnedRows}
use Rattle.file_links.specs.declared.slots.Held.{Held}
use Rattle.iceberg_version.specs.Advance.{IsPlaced, Source, added, added_rows, all_new, before, live_rows, new_rows, owners_of, source_of}
use Rattle.iceberg_version.specs.Carrying.{AreCarriedOn, AreNext, IsNextList, IsNextOf}
use Rattle.iceberg_version.specs.KeptEnd.{held_rows, live_manifest}
use Rattle.iceberg_manifest.specs.Lists.{AreEach}
use Rattle.iceberg_version.specs.Manifests.{AreParts, LiveManifest, NextManifest, born_at, is_lost, left}
use Rattle.iceberg_version.specs.declared.carrying.Next.{Next}
use Rattle.iceberg_version.specs.declared.carrying.Next.TheVariants.{Added, Anew, Stays}
use Rattle.iceberg_version.specs.declared.kept.KeptManifest.{KeptManifest}
use Rattle.iceberg_version.proofs.OwnerLemmas.{AreApart, HasRows}
use Rattle.iceberg_version.proofs.Shared.{in_map, of_map}

-- ---- the manifests before

-- what the manifest at this place becomes
abbrev pub goes_on : List (List ℕ) → LiveManifest → ℕ → Next
goes_on removed m place = cond (list_any (is_lost removed) m.rows) (Anew place) (Stays place)

source_by : (parts : List (List Row)) (b : Bool) (place : ℕ) → source_of parts (cond b (Anew place) (Stays place)) ≡ before place
source_by parts true place = refl
source_by parts false place = refl

here_at : {X : Type 0} (all : List X) (place : ℕ) (x : X) (xs : List X) → x ∷ xs ≡ drop place all → slice_get all place ≡ Some x
here_at {X} all place x xs e =
    let len : length (x ∷ xs) ≡ length all - place = ap length e ∙ length-drop place all in
    let within : place < length all = omega arith in
    let at : get_or (drop place all) 0 x ≡ get_or all (place + 0) x = get_or-drop place all 0 x in
    let zero : place + 0 ≡ place = omega arith in
    slice_get_read all (length all) place x refl within (ap (λ (ys : List X). get_or ys 0 x) e ∙ at ∙ ap (λ (n : ℕ). get_or all n x) zero)

behind_at : {X : Type 0} (all : List X) (place : ℕ) (x : X) (xs : List X) → x ∷ xs ≡ drop place all → xs ≡ drop (place + 1) all
behind_at all place x xs e = ap (drop 1) e ∙ drop-drop 1 place all

-- One of the first of the new list is what some manifest from this place on becomes, which has live rows.
pub record IsCarried (removed : List (List ℕ)) (all : List LiveManifest) (from : ℕ) (next : Next) : Type 0 where
  pub place : ℕ
  pub behind : from ≤ place
  pub manifest : LiveManifest
  pub at : slice_get all place ≡ Some manifest
  pub rows : manifest.rows ≢ []
  pub is : next ≡ goes_on removed manifest place

pub all_carried : (removed : List (List ℕ)) (all : List LiveManifest) (place : ℕ) (ms : List LiveManifest) (next : List Next) (one : Next) → ms ≡ drop place all → AreCarriedOn removed place ms next → Contains next one → IsCarried removed all place one
all_carried removed all place [] next one e are c = absurd (Contains-none one (subst (λ (ns : List Next). Contains ns one) are c))
all_carried removed all place (m ∷ ms) next one e are c =
    let later = λ (rest : List Next) (a : AreCarriedOn removed (place + 1) ms rest) (there : Contains rest one).
    let r = all_carried removed all (place + 1) ms rest one (behind_at all place m ms e) a there in
    let far : place ≤ r.place = omega (arith, r.behind) in
    let is : IsCarried removed all place one = record { place = r.place; behind = far; manifest = r.manifest; at = r.at; rows = r.rows; is = r.is } in is in
    ⊎_elim
    (λ skipped. later next skipped.1 c)
    (λ taken.
    ⊎_elim
    (λ same. record { place = place; behind = omega arith; manifest = m; at = here_at all place m ms e; rows = taken.3.rows; is = sym same ∙ taken.3.is })
    (λ there. later taken.1 taken.4 there)
    (Contains-cases taken.0 taken.1 one (subst (λ (ns : List Next). Contains ns one) taken.2 c)))
    are

pub each_carried_on : (removed : List (List ℕ)) (all : List LiveManifest) (place : ℕ) (ms : List LiveManifest) (next : List Next) (p : ℕ) (k : LiveManifest) → ms ≡ drop place all → AreCarriedOn removed place ms next → place ≤ p → slice_get all p ≡ Some k → k.rows ≢ [] → Contains next (goes_on removed k p)
each_carried_on removed all place [] next p k e are far at some =
    absurd (past p (length all) (slice_get_within all p k at) (omega (arith, ap length e, length-drop place all)))
  where
    past : (a b : ℕ) → a < b → b ≤ a → ⊥
    past a b h g = let z : ⊥ = omega arith in z
each_carried_on removed all place (m ∷ ms) next p k e are far at some =
    ⊎_elim
    (λ same.
    let mine : m ≡ k = (let q : Some m ≡ Some k = sym (here_at all place m ms e) ∙ ap (slice_get all) same ∙ at in cc) in
    ⊎_elim
    (λ skipped. absurd (some (sym (ap (λ (x : LiveManifest). x.rows) mine) ∙ skipped.0)))
    (λ taken.
    let is : taken.0 ≡ goes_on removed k p = taken.3.is ∙ (λ i. goes_on removed (mine i) (same i)) in
    subst (λ (ns : List Next). Contains ns (goes_on removed k p)) (sym taken.2) (subst (λ (n : Next). Contains (taken.0 ∷ taken.1) n) is (Contains-head taken.0 taken.1)))
    are)
    (λ apart.
    let more : place + 1 ≤ p = omega arith in
    ⊎_elim
    (λ skipped. each_carried_on removed all (place + 1) ms next p k (behind_at all place m ms e) skipped.1 more at some)
    (λ taken. subst (λ (ns : List Next). Contains ns (goes_on removed k p)) (sym taken.2) (Contains-tail taken.0 taken.1 (goes_on removed k p) (each_carried_on removed all (place + 1) ms taken.1 p k (behind_at all place m ms e) taken.4 more at some)))
    are)
    (cases_eq place p)

-- ---- and the added parts

-- One whose rows are those of a place before is among the first.
among_first : (parts : List (List Row)) (carried : List Next) (count : List ℕ) (one : Next) (p : ℕ) → Contains (carried ++ map (λ place. Added place) count) one → source_of parts one ≡ before p → Contains carried one
among_first parts carried count one p c is =
    ⊎_elim
    (λ first. first)
    (λ later.
    let r = of_map (λ (k : ℕ). Added k) count one later in
    let wrong : added (unwrap_or (slice_get parts r.0) []) ≡ before p = ap (source_of parts) r.2 ∙ is in cc)
    (Contains-append_cases carried (map (λ (k : ℕ). Added k) count) one c)

place_by : (parts : List (List Row)) (b : Bool) (k p : ℕ) → source_of parts (cond b (Anew k) (Stays k)) ≡ before p → k ≡ p
place_by parts true k p is = cc
place_by parts false k p is = cc

pub named_alive : (removed : List (List ℕ)) (all : List LiveManifest) (parts : List (List Row)) (place : ℕ) (ms : List LiveManifest) (carried : List Next) (count : List ℕ) (p : ℕ) → ms ≡ drop place all → AreCarriedOn removed place ms carried → Contains (map (source_of parts) (carried ++ map (λ k. Added k) count)) (before p) → (place ≤ p) × ((m : LiveManifest) × (slice_get all p ≡ Some m) × (m.rows ≢ []))
named_alive removed all parts place ms carried count p e are c =
    let r = of_map (source_of parts) (carried ++ map (λ (k : ℕ). Added k) count) (before p) c in
    let one = all_carried removed all place ms carried r.0 e are (among_first parts carried count r.0 p r.1 r.2) in
    let same : one.place ≡ p = place_by parts (list_any (is_lost removed) one.manifest.rows) one.place p (sym (ap (source_of parts) one.is) ∙ r.2) in
    (subst (λ (n : ℕ). place ≤ n) same one.behind, (one.manifest, sym (ap (slice_get all) same) ∙ one.at, one.rows))

pub alive_named : (removed : List (List ℕ)) (all : List LiveManifest) (parts : List (List Row)) (carried : List Next) (count : List ℕ) (p : ℕ) (m : LiveManifest) → AreCarriedOn removed 0 all carried → slice_get all p ≡ Some m → m.rows ≢ [] → Contains (map (source_of parts) (carried ++ map (λ k. Added k) count)) (before p)
alive_named removed all parts carried count p m are at some =
    let there = each_carried_on removed all 0 all carried p m refl are (omega arith) at some in
    subst (λ (s : Source). Contains (map (source_of parts) (carried ++ map (λ (k : ℕ). Added k) count)) s) (source_by parts (list_any (is_lost removed) m.rows) p)
    (in_map (source_of parts) (carried ++ map (λ (k : ℕ). Added k) count) (goes_on removed m p) (Contains-append_left carried (map (λ (k : ℕ). Added k) count) (goes_on removed m p) there))

added_apart : (parts : List (List Row)) (count : List ℕ) → AreApart (map (source_of parts) (map (λ k. Added k) count))
added_apart parts [] = tt
added_apart parts (k ∷ count) = added_apart parts count

apart_by : (parts : List (List Row)) (b : Bool) (place : ℕ) (ss : List Source) → ¬ Contains ss (before place) → AreApart ss → AreApart (source_of parts (cond b (Anew place) (Stays place)) ∷ ss)
apart_by parts true place ss lacks apart = (lacks, apart)
apart_by parts false place ss lacks apart = (lacks, apart)

pub named_apart : (removed : List (List ℕ)) (all : List LiveManifest) (parts : List (List Row)) (place : ℕ) (ms : List LiveManifest) (carried : List Next) (count : List ℕ) → ms ≡ drop place all → AreCarriedOn removed place ms carried → AreApart (map (source_of parts) (carried ++ map (λ k. Added k) count))
named_apart removed all parts place [] carried count e are = subst (λ (ns : List Next). AreApart (map (source_of parts) (ns ++ map (λ (k : ℕ). Added k) count))) (sym are) (added_apart parts count)
named_apart removed all parts place (m ∷ ms) carried count e are =
    let behind = behind_at all place m ms e in
    ⊎_elim
    (λ skipped. named_apart removed all parts (place + 1) ms carried count behind skipped.1)
    (λ taken.
    let tail : List Source = map (source_of parts) (taken.1 ++ map (λ (k : ℕ). Added k) count) in
    let lacks : ¬ Contains tail (before place) = λ c. (let far = (named_alive removed all parts (place + 1) ms taken.1 count place behind taken.4 c).0 in let z : ⊥ = omega (arith, far) in z) in
    let whole : AreApart (source_of parts (goes_on removed m place) ∷ tail) = apart_by parts (list_any (is_lost removed) m.rows) place tail lacks (named_apart removed all parts (place + 1) ms taken.1 count behind taken.4) in
    subst (λ (ns : List Next). AreApart (map (source_of parts) (ns ++ map (λ (k : ℕ). Added k) count))) (sym taken.2) (subst (λ (n : Next). AreApart (source_of parts n ∷ tail)) (sym taken.3.is) whole))
    are

-- ---- the rows of those that stay

left_by : (removed : List (List ℕ)) (h : Held) (rows : List Held) (b : Bool) → b ≡ false → left removed rows ≡ rows → cond (not b) (h ∷ left removed rows) (left removed rows) ≡ h ∷ rows
left_by removed h rows true is same = absurd (false≢true (sym is))
left_by removed h rows false is same = ap (λ (hs : List Held). h ∷ hs) same

left_whole : (removed : List (List ℕ)) (rows : List Held) → list_any (is_lost removed) rows ≡ false → left removed rows ≡ rows
left_whole removed [] none = refl
left_whole removed (h ∷ rows) none =
    let both = or_parts (is_lost removed h) (list_any (is_lost removed) rows) none in
    left_by removed h rows (is_lost removed h) both.0 (left_whole removed rows both.1)

stays_by : (b : Bool) (p k : ℕ) → Stays p ≡ cond b (Anew k) (Stays k) → (b ≡ false) × (k ≡ p)
stays_by true p k is = absurd cc
stays_by false p k is = (refl, cc)

pub stays_whole : (removed : List (List ℕ)) (all : List LiveManifest) (carried : List Next) (count : List ℕ) (p : ℕ) (m : LiveManifest) → AreCarriedOn removed 0 all carried → Contains (carried ++ map (λ k. Added k) count) (Stays p) → slice_get all p ≡ Some m → left removed m.rows ≡ m.rows
stays_whole removed all carried count p m are c at =
    let one = all_carried removed all 0 all carried (Stays p) refl are (among_first [] carried count (Stays p) p c refl) in
    let is = stays_by (list_any (is_lost removed) one.manifest.rows) p one.place one.is in
    let same : one.manifest ≡ m = (let q : Some one.manifest ≡ Some m = sym one.at ∙ ap (slice_get all) is.1 ∙ at in cc) in
    left_whole removed m.rows (sym (ap (λ (x : LiveManifest). list_any (is_lost removed) x.rows) same) ∙ is.0)

-- ---- the rows of all of them

mapped_by : {X Y : Type 0} (f : X → Y) (o : Option X) (y : Y) → option_map f o ≡ Some y → (x : X) × (o ≡ Some x) × (f x ≡ y)
mapped_by f None y is = absurd cc
mapped_by f (Some x) y is = (x, refl, cc)

pub mapped_at : {X Y : Type 0} (f : X → Y) (xs : List X) (p : ℕ) (y : Y) → slice_get (map f xs) p ≡ Some y → (x : X) × (slice_get xs p ≡ Some x) × (f x ≡ y)
mapped_at f xs p y at = mapped_by f (slice_get xs p) y (sym (slice_get-map f xs p) ∙ at)

live_at : (v : OwnedRows) (ms : List KeptManifest) (p o : ℕ) (m : LiveManifest) → slice_get (map (live_manifest v) ms) p ≡ Some m → slice_get (owners_of ms) p ≡ Some o → m.rows ≡ held_rows v o
live_at v ms p o m at owner =
    let a = mapped_at (live_manifest v) ms p m at in
    let b = mapped_at (λ (k : KeptManifest). k.owner) ms p o owner in
    let same : a.0 ≡ b.0 = (let q : Some a.0 ≡ Some b.0 = sym a.1 ∙ b.1 in cc) in
    sym (ap (λ (x : LiveManifest). x.rows) a.2) ∙ ap (λ (k : KeptManifest). held_rows v k.owner) same ∙ ap (held_rows v) b.2

-- the rows of those that stay are as they were
abbrev AreWhole : List (List ℕ) → List LiveManifest → List Next → Type 0
AreWhole removed lives next = (p : ℕ) (m : LiveManifest) → Contains next (Stays p) → slice_get lives p ≡ Some m → left removed m.rows ≡ m.rows

row_match : (front : List ℕ) (version : ℕ) (removed : List (List ℕ)) (v w : OwnedRows) (ms : List KeptManifest) (parts : List (List Row)) (n : Next) (next : List Next) (is : NextManifest) (o : ℕ) → AreWhole removed (map (live_manifest v) ms) (n ∷ next) → IsNextOf front version removed (map (live_manifest v) ms) parts n is → HasRows ms version (λ q. left removed (held_rows v q)) w (source_of parts n) o → held_rows w o ≡ live_rows is
row_match front version removed v w ms parts (Stays p) next is o whole one rows =
    let m = one.0 in
    rows.1 ∙ ap (left removed) (sym (live_at v ms p o m one.1 rows.0)) ∙ whole p m (Contains-head (Stays p) next) one.1 ∙ ap live_rows (sym one.2)
row_match front version removed v w ms parts (Anew p) next is o whole one rows =
    let m = one.0 in
    rows.1 ∙ ap (left removed) (sym (live_at v ms p o m one.1 rows.0)) ∙ ap live_rows (sym one.2)
row_match front version removed v w ms parts (Added p) next is o whole one rows =
    rows ∙ ap (λ (part : Option (List Row)). map (born_at version) (unwrap_or part [])) one.1 ∙ ap live_rows (sym one.2)

pub rows_match : (front : List ℕ) (version : ℕ) (removed : List (List ℕ)) (v w : OwnedRows) (ms : List KeptManifest) (parts : List (List Row)) (next : List Next) (are : List NextManifest) (os : List ℕ) → AreWhole removed (map (live_manifest v) ms) next → AreNext front version removed (map (live_manifest v) ms) parts next are → AreEach (HasRows ms version (λ q. left removed (held_rows v q)) w) (map (source_of parts) next) os → map (held_rows w) os ≡ map live_rows are
rows_match front version removed v w ms parts [] [] [] whole one rows = refl
rows_match front version removed v w ms parts [] [] (o ∷ os) whole one rows = absurd rows
rows_match front version removed v w ms parts [] (is ∷ are) os whole one rows = absurd one
rows_match front version removed v w ms parts (n ∷ next) [] os whole one rows = absurd one
rows_match front version removed v w ms parts (n ∷ next) (is ∷ are) [] whole one rows = absurd rows
rows_match front version removed v w ms parts (n ∷ next) (is ∷ are) (o ∷ os) whole one rows =
    let first : held_rows w o ≡ live_rows is = row_match front version removed v w ms parts n next is o whole one.0 rows.0 in
    let rest = rows_match front version removed v w ms parts next are os (λ p m c at. whole p m (Contains-tail n next (Stays p) c) at) one.1 rows.1 in
    λ i. first i ∷ rest i

-- ---- what such a list names and adds

in_range : (a n k : ℕ) → Contains (range_with_len a n) k → k < a + n
in_range a zero k c = absurd (Contains-none k c)
in_range a (suc n) k c =
    ⊎_elim
    (λ same. let z : k < a + suc n = omega arith in z)
    (λ later. let z : k < (a + 1) + n = in_range (a + 1) n k later in omega arith)
    (Contains-cases a (range_with_len (a + 1) n) k c)

placed_by : (count parts : ℕ) (b : Bool) (place : ℕ) → place < count → IsPlaced count parts (cond b (Anew place) (Stays place))
placed_by count parts true place within = within
placed_by count parts false place within = within

pub next_placed : (removed : List (List ℕ)) (v : OwnedRows) (ms : List KeptManifest) (parts : ℕ) (next : List Next) (one : Next) → IsNextList removed (map (live_manifest v) ms) parts next → Contains next one → IsPlaced (length ms) parts one
next_placed removed v ms parts next one list c =
    ⊎_elim
    (λ first.
    let k = all_carried removed (map (live_manifest v) ms) 0 (map (live_manifest v) ms) list.carried one refl list.before first in
    let within : k.place < length ms = subst (λ (n : ℕ). k.place < n) (length-map ms (live_manifest v)) (slice_get_within (map (live_manifest v) ms) k.place k.manifest k.at) in
    subst (λ (n : Next). IsPlaced (length ms) parts n) (sym k.is) (placed_by (length ms) parts (list_any (is_lost removed) k.manifest.rows) k.place within))
    (λ later.
    let r = of_map (λ (k : ℕ). Added k) (range_with_len 0 parts) one later in
    subst (λ (n : Next). IsPlaced (length ms) parts n) r.2 (let z : r.0 < 0 + parts = in_range 0 parts r.0 r.1 in let y : r.0 < parts = omega arith in y))
    (Contains-append_cases list.carried (map (λ (k : ℕ). Added k) (range_with_len 0 parts)) one (subst (λ (ns : List Next). Contains ns one) list.are c))

added_from : (parts : List (List Row)) (i : ℕ) (rest : List (List Row)) → rest ≡ drop i parts → all_new (map (source_of parts) (map (λ k. Added k) (range_with_len i (length rest)))) ≡ flat_map (λ part. part) rest
added_from parts i [] e = refl
added_from parts i (part ∷ rest) e =
    let at : slice_get parts i ≡ Some part = here_at parts i part rest e in
    let more = added_from parts (i + 1) rest (behind_at parts i part rest e) in
    λ j. unwrap_or (at j) [] ++ more j

none_by : (parts : List (List Row)) (b : Bool) (place : ℕ) → new_rows (source_of parts (cond b (Anew place) (Stays place))) ≡ []
none_by parts true place = refl
none_by parts false place = refl

carried_none : (removed : List (List ℕ)) (parts : List (List Row)) (place : ℕ) (ms : List LiveManifest) (carried tail : List Next) → AreCarriedOn removed place ms carried → added_rows parts (carried ++ tail) ≡ added_rows parts tail
carried_none removed parts place [] carried tail are = ap (λ (ns : List Next). added_rows parts (ns ++ tail)) are
carried_none removed parts place (m ∷ ms) carried tail are =
    ⊎_elim
    (λ skipped. carried_none removed parts (place + 1) ms carried tail skipped.1)
    (λ taken.
    ap (λ (ns : List Next). added_rows parts (ns ++ tail)) taken.2
    ∙ ap (λ (rows : List Row). rows ++ added_rows parts (taken.1 ++ tail)) (ap (λ (n : Next). new_rows (source_of parts n)) taken.3.is ∙ none_by parts (list_any (is_lost removed) m.rows) place)
    ∙ carried_none removed parts (place + 1) ms taken.1 tail taken.4)
    are

pub next_added : (removed : List (List ℕ)) (lives : List LiveManifest) (parts : List (List Row)) (next : List Next) → IsNextList removed lives (length parts) next → added_rows parts next ≡ flat_map (λ part. part) parts
next_added removed lives parts next list =
    ap (added_rows parts) list.are ∙ carried_none removed parts 0 lives list.carried (map (λ (k : ℕ). Added k) (range_with_len 0 (length parts))) list.before ∙ added_from parts 0 parts refl

pub parts_joined : {A : Type 0} (size : ℕ) (xs : List A) (parts : List (List A)) → AreParts size xs parts → flat_map (λ part. part) parts ≡ xs
parts_joined size xs [] none = sym none
parts_joined size xs (part ∷ parts) cut =
    let rest = parts_joined size (drop size xs) parts cut.2 in
    (λ i. cut.1 i ++ rest i) ∙ take-append-drop size xs

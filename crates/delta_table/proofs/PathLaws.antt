-- One path for each version, and the names in the log's folder.
use Rattle.std.proofs.Common.{◌≡◌, ◌≢◌, ℕ, ◌+◌, ◌*◌, ◌-◌, ◌<◌, ◌≤◌, List, [], ◌∷◌, ◌++◌, length, get_or, All, Contains, Some, None, Result, Ok, true, false, refl, sym, ap, subst, ◌∙◌, arith, codes, ⊎_elim}
use Rattle.std.specs.Str.Parse.{AllDigits, digits_value_after}
use Rattle.std.specs.Char.{digit_value}
use Rattle.std.specs.FinMap as map
use Rattle.std.proofs.lemmas.List.{get_or_default}
use Rattle.std.proofs.lemmas.List.Elements.{All-contains, All-from_recursion, Contains-append_cases}
use Rattle.std.proofs.lemmas.Str.Parse.{digit_at, digit_from_value}
use Rattle.std.proofs.lemmas.Bool.Decides.{nat_tests}
use Rattle.std.specs.Prelude.{IsSome, nat_lt}
use Rattle.std.proofs.lemmas.Option.{same_Some}
use Rattle.lake_store.specs.Disk.{Files, IsName, ListsFolder}
use Rattle.delta_log.specs.VersionName.{IsVersionDigits, IsVersionName}
use Rattle.delta_log.specs.declared.commit.DeltaCommit.{DeltaCommit}
use Rattle.delta_log.specs.declared.error.DeltaError.{DeltaError}
use Rattle.delta_log.specs.Readable.{IsReadableCommit}
use Rattle.delta_log.proofs.ReadableLemmas.{is_read}
use Rattle.delta_log.proofs.VersionLemmas.{parts_of}
use Rattle.delta_table.specs.Versions.{IsNamed, IsVersionPath, HoldsVersion, HasVersion, log_folder}
use Rattle.delta_table.specs.Log.{SaysCommit}
use Rattle.delta_table.specs.Refusals.{IsVersionRefusal, TellsOf, error_of_read}
use Rattle.lake_store.specs.declared.store.StoreError.{StoreError}
use Rattle.lake_store.specs.declared.store.StoreError.TheVariants as store
use Rattle.lake_basics.proofs.Options.{some_of}

digit_in : (c : ℕ) → 48 ≤ c → c ≤ 57 → digit_value c ≡ c - 48
digit_in c low high =
    let under : nat_lt c 48 ≡ false = grind (arith, nat_tests) in
    let within : nat_lt c 58 ≡ true = grind (arith, nat_tests) in rw (under, within) refl

one_digit : (c d : ℕ) → digit_value c < 10 → digit_value d < 10 → digit_value c ≡ digit_value d → c ≡ d
one_digit c d small_c small_d same =
    let c_in = digit_from_value c small_c in
    let d_in = digit_from_value d small_d in
    let low_c : 48 ≤ c = omega (arith, c_in) in
    let high_c : c ≤ 57 = omega (arith, c_in) in
    let low_d : 48 ≤ d = omega (arith, d_in) in
    let high_d : d ≤ 57 = omega (arith, d_in) in
    let value_c = digit_in c low_c high_c in
    let value_d = digit_in d low_d high_d in omega (arith, low_c, low_d, value_c, value_d, same)

after_once : (m n : ℕ) (xs ys : List ℕ) → length xs ≡ length ys → AllDigits 10 xs → AllDigits 10 ys → digits_value_after 10 m xs ≡ digits_value_after 10 n ys → (m ≡ n) × (xs ≡ ys)
after_once m n [] [] len all_x all_y same = (same, refl)
after_once m n [] (y ∷ ys) len all_x all_y same = absurd (omega (arith, len))
after_once m n (x ∷ xs) [] len all_x all_y same = absurd (omega (arith, len))
after_once m n (x ∷ xs) (y ∷ ys) len all_x all_y same =
    let tails : length xs ≡ length ys = omega (arith, len) in
    let rest = after_once (m * 10 + digit_value x) (n * 10 + digit_value y) xs ys tails all_x.1 all_y.1 same in
    let small_x : digit_value x < 10 = all_x.0 in
    let small_y : digit_value y < 10 = all_y.0 in
    let sum : m * 10 + digit_value x ≡ n * 10 + digit_value y = rest.0 in
    let front : m ≡ n = omega (arith, small_x, small_y, sum) in
    let digit : digit_value x ≡ digit_value y = omega (arith, front, sum) in
    (front, ap (λ z. z ∷ xs) (one_digit x y small_x small_y digit) ∙ ap (λ zs. y ∷ zs) rest.1)

digits_once : (version : ℕ) (a b : List ℕ) → IsVersionDigits a version → IsVersionDigits b version → a ≡ b
digits_once version a b ia ib = (after_once 0 0 a b (ia.len ∙ sym ib.len) ia.numeral.1 ib.numeral.1 (sym ia.value ∙ ib.value)).1

-- a name is one version's
pub one_version : (name : List ℕ) (v w : ℕ) → IsVersionName name v → IsVersionName name w → v ≡ w
one_version name v w nv nw =
    let a = parts_of name v nv in
    let b = parts_of name w nw in a.digits.value ∙ sym b.digits.value

pub path_once : (version : ℕ) (p q : List ℕ) → IsVersionPath p version → IsVersionPath q version → p ≡ q
path_once version p q ip iq =
    let a = ip.named.padded in
    let b = iq.named.padded in
    let digits = digits_once version a.digits b.digits a.padded b.padded in
    ip.split ∙ ap (λ n. codes "_delta_log/" ++ n) (a.split ∙ ap (λ d. d ++ codes ".json") digits ∙ sym b.split) ∙ sym iq.split

-- a version has one file
pub bytes_once : (files : Files) (version : ℕ) (x y : List ℕ) → HoldsVersion files version x → HoldsVersion files version y → x ≡ y
bytes_once files version x y hx hy = same_Some x y (sym hx.there ∙ ap (map.get files) (path_once version hx.path hy.path hx.is hy.is) ∙ hy.there)

pub ok_once : (r : Result DeltaCommit DeltaError) (c d : DeltaCommit) → r ≡ Ok c → r ≡ Ok d → c ≡ d
ok_once r c d a b = cc

-- and says one commit
pub says_once : (files : Files) (version : ℕ) (c d : DeltaCommit) → SaysCommit files version c → SaysCommit files version d → c ≡ d
says_once files version c d sc sd =
    let e = bytes_once files version sc.bytes sd.bytes sc.holds sd.holds in
    let read_c = is_read sc.bytes c sc.readable in
    let read_d = is_read sc.bytes d (subst (λ b. IsReadableCommit b d) (sym e) sd.readable) in
    ok_once _ c d read_c read_d

-- ---- one version

-- There is no file at the version's path.
pub missing_here : (files : Files) (version : ℕ) (path : List ℕ) → IsVersionPath path version → map.get files path ≡ None → ¬ HasVersion files version
missing_here files version path is none held =
    let holds = held.1 in absurd (none_some held.0 (sym none ∙ ap (map.get files) (path_once version path holds.path is holds.is) ∙ holds.there))
  where
    none_some : (b : List ℕ) → None ≡ Some b → ⊥
    none_some b e = cc

-- what is told of a piece of a version's file that the store refuses
pub read_refused : (files : Files) (version : ℕ) (e : StoreError) → ((n : ℕ) → e ≡ store.TooLong n → ⊥) → IsVersionRefusal files version (error_of_read version e)
read_refused files version store.Memory never = tt
read_refused files version store.Failed never = tt
read_refused files version (store.TooLong n) never = absurd (never n refl)
read_refused files version store.Taken never = tt

pub read_told : (version : ℕ) (e : StoreError) → TellsOf (λ v. v ≡ version) (error_of_read version e)
read_told version store.Memory = tt
read_told version store.Failed = tt
read_told version (store.TooLong n) = refl
read_told version store.Taken = tt

-- ---- the names in the log's folder

plain_digits : (ds : List ℕ) → AllDigits 10 ds → (b : ℕ) → Contains ds b → b ≢ 47
plain_digits ds all b there e =
    let digit = digit_at ds there.0 all there.1 in
    let same : get_or ds there.0 0 ≡ 47 = get_or_default ds there.0 0 b there.1 ∙ there.2 ∙ e in omega (arith, digit, same)

plain_suffix : All (λ b. b ≢ 47) (codes ".json")
plain_suffix = All-from_recursion (λ (b : ℕ). b ≢ 47) (codes ".json") (λ e. omega (arith, e), (λ e. omega (arith, e), (λ e. omega (arith, e), (λ e. omega (arith, e), (λ e. omega (arith, e), tt)))))

pub version_is_name : (name : List ℕ) (version : ℕ) → IsVersionName name version → IsName name
version_is_name name version of =
    let padded = of.padded in (
      λ none. let len = (parts_of name version of).len in let short : length name ≡ 0 = ap length none in omega (arith, len, short),
      λ slash. ⊎_elim (λ in_digits. plain_digits padded.digits padded.padded.numeral.1 47 in_digits refl) (λ in_suffix. All-contains (λ (b : ℕ). b ≢ 47) (codes ".json") 47 plain_suffix in_suffix refl)
          (Contains-append_cases padded.digits (codes ".json") 47 (subst (λ n. Contains n 47) padded.split slash)),
    )

-- The names in the folder are of just the versions that are there.
pub named_held : (files : Files) (names : List (List ℕ)) → ListsFolder files log_folder names → (version : ℕ) → IsNamed names version → HasVersion files version
named_held files names lists version named =
    let found = some_of _ (((lists.members named.0).0 named.1).1) in (found.0, record { path = codes "_delta_log/" ++ named.0; is = record { name = named.0; named = named.2; split = refl }; there = found.1 })

pub held_named : (files : Files) (names : List (List ℕ)) → ListsFolder files log_folder names → (version : ℕ) → HasVersion files version → IsNamed names version
held_named files names lists version held =
    let holds = held.1 in
    let name = holds.is.name in
    let there : map.get files (codes "_delta_log/" ++ name) ≡ Some held.0 = ap (map.get files) (sym holds.is.split) ∙ holds.there in
    (name, (lists.members name).1 (version_is_name name version holds.is.named, subst IsSome (sym there) refl), holds.is.named)

-- Names in byte order have times in byte order.
use Rattle.std.proofs.Common.{◌≡◌, ◌≢◌, ℕ, ◌+◌, ◌<◌, ◌==◌, List, [], ◌∷◌, ◌++◌, take, cond, not, true, false, Some, refl, sym, ap, ◌∙◌, arith}
use Rattle.std.specs.Prelude.{nat_lt}
use Rattle.std.specs.Char.{is_ascii_digit}
use Rattle.std.specs.List.{before_first, list_all, position_or_len}
use Rattle.std.specs.Ordering.{nat_cmp, ordering_reverse, ordering_then}
use Rattle.std.specs.Cmp.Lexicographic.{slice_cmp}
use Rattle.std.specs.declared.cmp.Ordering.{Ordering}
use Rattle.std.specs.declared.cmp.Ordering.TheVariants.{Less, Equal, Greater}
use Rattle.std.proofs.lemmas.Bool.{and_parts, false≢true}
use Rattle.std.proofs.lemmas.Bool.Decides.{nat_tests}
use Rattle.std.proofs.lemmas.Cmp.{nat_list_cmp_total, tied_itself}
use Rattle.hudi_names.specs.Name.{instant_of}
use Rattle.hudi_names.specs.declared.name.Action.{Action}
use Rattle.hudi_names.specs.declared.name.Action.TheVariants as action
use Rattle.hudi_names.specs.declared.name.State.{State}
use Rattle.hudi_names.proofs.NameLemmas.{named_exactly}
use Rattle.hudi_table.specs.Instants.{is_commit, time_of}
use Rattle.hudi_table.specs.Folder.{IsEarlier, IsUpTo}
use Rattle.lake_basics.proofs.Lists.{take_one_more}

abbrev cmp : List ℕ → List ℕ → Ordering
cmp = slice_cmp nat_cmp

above_dot : (c : ℕ) → is_ascii_digit c ≡ true → 46 < c
above_dot c h = grind (arith, nat_tests)

less_greater : Less ≡ Greater → ⊥
less_greater e = cc

equal_greater : Equal ≡ Greater → ⊥
equal_greater e = cc

greater_less : Greater ≡ Less → ⊥
greater_less e = cc

then_by : (o p q : Ordering) → ordering_then o p ≡ Less → (p ≡ Less → q ≡ Greater → ⊥) → ordering_then o q ≡ Greater → ⊥
then_by Less p q less rest e = less_greater e
then_by Equal p q less rest e = rest less e
then_by Greater p q less rest e = greater_less less

past_dot : (c : ℕ) → 46 < c → nat_cmp c 46 ≡ Greater
past_dot c h =
    let not_less : nat_lt c 46 ≡ false = grind (arith, nat_tests) in
    let not_same : (c == 46) ≡ false = grind (arith, nat_tests) in
    (λ i. cond (not_less i) Less (cond (not_same i) Equal Greater))

-- Two texts in order, each digits and a dot in front, have their digits in order.
rise : (s t r q : List ℕ) → list_all is_ascii_digit s ≡ true → list_all is_ascii_digit t ≡ true → cmp (s ++ 46 ∷ r) (t ++ 46 ∷ q) ≡ Less → cmp s t ≡ Greater → ⊥
rise [] [] r q ds dt less e = equal_greater e
rise [] (y ∷ t) r q ds dt less e = less_greater e
rise (x ∷ s) [] r q ds dt less e =
    let digit = (and_parts (is_ascii_digit x) (list_all is_ascii_digit s) ds).0 in
    greater_less (sym (ap (λ o. ordering_then o (cmp (s ++ 46 ∷ r) q)) (past_dot x (above_dot x digit))) ∙ less)
rise (x ∷ s) (y ∷ t) r q ds dt less e =
    let rest_s = (and_parts (is_ascii_digit x) (list_all is_ascii_digit s) ds).1 in
    let rest_t = (and_parts (is_ascii_digit y) (list_all is_ascii_digit t) dt).1 in
    then_by (nat_cmp x y) (cmp (s ++ 46 ∷ r) (t ++ 46 ∷ q)) (cmp s t) less (λ l. rise s t r q rest_s rest_t l) e

-- what stands before the first dot
pub before_dot : (s r : List ℕ) → list_all is_ascii_digit s ≡ true → before_first (λ b. b == 46) (s ++ 46 ∷ r) ≡ s
before_dot [] r ds = refl
before_dot (x ∷ s) r ds =
    let parts = and_parts (is_ascii_digit x) (list_all is_ascii_digit s) ds in
    let far = above_dot x parts.0 in
    let other : (x == 46) ≡ false = grind (arith, nat_tests) in
    let k = position_or_len (λ b. b == 46) (s ++ 46 ∷ r) in
    ap (λ b. take (cond (not b) (1 + k) 0) (x ∷ s ++ 46 ∷ r)) other ∙ take_one_more k x (s ++ 46 ∷ r) ∙ ap (λ l. x ∷ l) (before_dot s r parts.1)

known : (a : Action) → is_commit a ≡ true → a ≢ action.Unknown
known a commit e = false≢true (sym (ap is_commit e) ∙ commit)

-- Of two names in order that are of commits or replacecommits, the times are in order.
pub times_rise : (n m : List ℕ) (dn dm : ℕ) (an am : Action) (sn sm : State) → instant_of n ≡ Some (dn, an, sn) → is_commit an ≡ true → instant_of m ≡ Some (dm, am, sm) → is_commit am ≡ true
    → cmp n m ≡ Less → IsUpTo (time_of n) (time_of m)
times_rise n m dn dm an am sn sm is_n commit_n is_m commit_m less =
    let a = (named_exactly n dn an sn (known an commit_n)).0 is_n in
    let b = (named_exactly m dm am sm (known am commit_m)).0 is_m in
    let time_n : time_of n ≡ a.time = ap time_of a.parts.split ∙ before_dot a.time a.rest a.parts.numeral in
    let time_m : time_of m ≡ b.time = ap time_of b.parts.split ∙ before_dot b.time b.rest b.parts.numeral in
    λ greater. rise a.time b.time a.rest b.rest a.parts.numeral b.parts.numeral ((λ i. cmp (sym a.parts.split i) (sym b.parts.split i)) ∙ less) ((λ i. cmp (sym time_n i) (sym time_m i)) ∙ greater)

-- ---- the order of texts

pub up_to_itself : (a : List ℕ) → IsUpTo a a
up_to_itself a greater = equal_greater (sym (tied_itself nat_list_cmp_total a) ∙ greater)

-- what is up to something earlier is earlier
pub earlier_still : (a b c : List ℕ) → IsUpTo a b → IsEarlier b c → IsEarlier a c
earlier_still a b c up early = by (cmp a b) refl
  where
    by : (o : Ordering) → cmp a b ≡ o → cmp a c ≡ Less
    by Less e = nat_list_cmp_total.trans a b c e early
    by Equal e = nat_list_cmp_total.congr a b c e ∙ early
    by Greater e = absurd (up e)

-- what is earlier than something is earlier than what that is up to
pub earlier_than : (a b c : List ℕ) → IsEarlier a b → IsUpTo b c → IsEarlier a c
earlier_than a b c early up = by (cmp b c) refl
  where
    by : (o : Ordering) → cmp b c ≡ o → cmp a c ≡ Less
    by Less e = nat_list_cmp_total.trans a b c early e
    by Equal e =
        let turned : cmp c b ≡ Equal = nat_list_cmp_total.antisymm c b ∙ ap ordering_reverse e in
        nat_list_cmp_total.antisymm a c ∙ ap ordering_reverse (nat_list_cmp_total.congr c b a turned) ∙ sym (nat_list_cmp_total.antisymm a b) ∙ early
    by Greater e = absurd (up e)

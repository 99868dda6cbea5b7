-- The whole number under a name as members are put in, and values of which that alone is kept.
use Rattle.std.proofs.Common.{◌≡◌, ℕ, ℤ, List, Option, Some, None, option_map, Bool, true, false, if◌then◌else◌, bytes_eq, true≢false, refl, sym, ap, ◌∙◌}
use Rattle.std.proofs.lemmas.Slice.Eq.{bytes_eq-Decides}
use Rattle.json.specs.Token.{Token}
use Rattle.json.specs.Json.{parse_map}
use Rattle.serde_json.specs.Data.{Num, Data, number, array, object, Items, Members, put}
use Rattle.serde_json.specs.Find.{get_member}
use Rattle.serde_json.proofs.Views.{get_member-put, get_member-put_other}
use Rattle.json_reading.specs.Json.{whole}
use Rattle.json_reading.proofs.Turns.{pick}
use Rattle.json_scan.specs.Passing.{named_whole, kept, behind}

-- what was kept, of a value that was read
pub kept_some : {A B : Type 0} (f : A → B) (o : Option (A × List Token)) (b : B) (r : List Token) → kept f o ≡ Some (b, r) → (a : A) × (o ≡ Some (a, r)) × (f a ≡ b)
kept_some f None b r e = absurd (cc)
kept_some f (Some p) b r e = let first = ap (pick (f p.0, p.1)) e in (p.0, ap (λ q. Some (p.0, q.1)) first, ap (λ q. q.0) first)

named_here : (name k : List ℕ) (d : Data) (ms : Members) (n : Option ℤ) → bytes_eq k name ≡ true → whole d ≡ n → Some n ≡ named_whole name (put k d ms)
named_here name k d ms n same e =
    let is : k ≡ name = (bytes_eq-Decides k name).0 same in
    ap Some (sym e) ∙ sym (ap (option_map whole) (ap (λ l. get_member l (put k d ms)) (sym is) ∙ get_member-put k d ms))

named_elsewhere : (name k : List ℕ) (d : Data) (ms : Members) → bytes_eq k name ≡ false → named_whole name ms ≡ named_whole name (put k d ms)
named_elsewhere name k d ms other =
    let apart = λ (h : name ≡ k). true≢false (sym ((bytes_eq-Decides k name).1 (sym h)) ∙ other) in
    ap (option_map whole) (sym (get_member-put_other name k d ms apart))

named_by : (name k : List ℕ) (d : Data) (ms : Members) (n : Option ℤ) (found : Option (Option ℤ)) (same : Bool) → bytes_eq k name ≡ same → whole d ≡ n → found ≡ named_whole name ms
    → (if same then Some n else found) ≡ named_whole name (put k d ms)
named_by name k d ms n found true same e is = named_here name k d ms n same e
named_by name k d ms n found false other e is = is ∙ named_elsewhere name k d ms other

-- what is found with one member more
pub named_after : (name k : List ℕ) (d : Data) (ms : Members) (n : Option ℤ) (found : Option (Option ℤ)) → whole d ≡ n → found ≡ named_whole name ms → (if bytes_eq k name then Some n else found) ≡ named_whole name (put k d ms)
named_after name k d ms n found e is = named_by name k d ms n found (bytes_eq k name) refl e is

pub number_kept : (o : Option Num) (n : Option ℤ) (ts : List Token) → Some n ≡ option_map (λ m. whole (number m)) o → kept whole (option_map {U = Data × List Token} (λ d. (d, ts)) (option_map number o)) ≡ Some (n, ts)
number_kept None n ts e = absurd (cc)
number_kept (Some m) n ts e = let same : n ≡ whole (number m) = cc in ap (λ x. Some (x, ts)) (sym same)

pub number_refused : (o : Option Num) (ts : List Token) → None ≡ option_map (λ m. whole (number m)) o → option_map {U = Data × List Token} (λ d. (d, ts)) (option_map number o) ≡ None
number_refused None ts e = refl
number_refused (Some m) ts e = absurd (cc)

pub array_kept : (o : Option (Items × List Token)) (ts : List Token) → behind o ≡ Some ts → kept whole (parse_map array o) ≡ Some (None, ts)
array_kept None ts e = absurd (cc)
array_kept (Some p) ts e = let same : p.1 ≡ ts = cc in ap (λ x. Some (None, x)) same

pub object_kept : (o : Option (Members × List Token)) (ts : List Token) → behind o ≡ Some ts → kept whole (parse_map object o) ≡ Some (None, ts)
object_kept None ts e = absurd (cc)
object_kept (Some p) ts e = let same : p.1 ≡ ts = cc in ap (λ x. Some (None, x)) same

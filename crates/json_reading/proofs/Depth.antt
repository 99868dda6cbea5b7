-- How deep the JSON of a member nests.
use Rattle.std.proofs.Common.{◌≡◌, ℕ, suc, ◌≤◌, List, Some, subst, arith}
use Rattle.std.specs.declared.cmp.Ordering.{Ordering}
use Rattle.std.specs.declared.cmp.Ordering.TheVariants.{Less, Equal, Greater}
use Rattle.std.specs.Ordering.{nat_cmp, match_ordering}
use Rattle.std.specs.Cmp.Lexicographic.{slice_cmp}
use Rattle.serde_json.specs.Data.{Data, null, boolean, number, string, array, object, Members, no_members, member, depth, members_depth}
use Rattle.serde_json.specs.Find.{get, get_member}

member_depth : (k : List ℕ) (ms : Members) (p : Data) → get_member k ms ≡ Some p → depth p ≤ members_depth ms
member_depth k no_members p h = absurd cc
member_depth k (member l e ms) p h = by (slice_cmp nat_cmp k l) (λ more. member_depth k ms p more) h
  where
    by : (r : Ordering) → (get_member k ms ≡ Some p → depth p ≤ members_depth ms) → match_ordering r (get_member k ms) (Some e) (get_member k ms) ≡ Some p → depth p ≤ members_depth (member l e ms)
    by Less rest f = let below = rest f in omega (arith, below)
    by Equal rest f = let same : e ≡ p = cc in subst (λ x. depth x ≤ members_depth (member l e ms)) same (omega arith)
    by Greater rest f = let below = rest f in omega (arith, below)

pub get_depth : (k : List ℕ) (d p : Data) → get k d ≡ Some p → suc (depth p) ≤ depth d
get_depth k null p h = absurd cc
get_depth k (boolean b) p h = absurd cc
get_depth k (number n) p h = absurd cc
get_depth k (string s) p h = absurd cc
get_depth k (array ds) p h = absurd cc
get_depth k (object ms) p h = let below = member_depth k ms p h in omega (arith, below)

-- Paths that stand at one place in order are one.
use Rattle.std.proofs.Common.{◌≡◌, sym, is_eq, nat_cmp}
use Rattle.std.specs.Cmp.Lexicographic.{slice_cmp, pointwise, lists_ties}
use Rattle.std.specs.Str.{bytes_eq}
use Rattle.std.proofs.lemmas.Map.Text.{is_eq-slice_cmp}
use Rattle.schema_map.specs.Paths.{Path}

pub path_ties : (p q : Path) → is_eq (slice_cmp (slice_cmp nat_cmp) p q) ≡ pointwise bytes_eq p q
path_ties p q = sym (lists_ties (slice_cmp nat_cmp) (λ x y. sym (is_eq-slice_cmp x y)) p q)

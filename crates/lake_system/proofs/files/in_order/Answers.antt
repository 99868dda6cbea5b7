use Rattle.std.specs.Str.{bytes_eq}
use Rattle.std.specs.Cmp.Lexicographic.{nat_list_cmp_total, texts_ties}
use Rattle.std.proofs.lemmas.List.Filters.{dedup_is}
use Rattle.std.proofs.lemmas.List.Kept.{IsStrictlySortedBy-dedup}
use Rattle.lake_system.proofs.files.in_order.Goals as goal

pub from_sorted-requires : goal.from_sorted-requires
from_sorted-requires c =
    rw (dedup_is bytes_eq c.sort.new.self.items c.dedup.new.self.items c.dedup.ensures.filtered)
    (IsStrictlySortedBy-dedup nat_list_cmp_total texts_ties c.sort.new.self.items c.in_ok-sort.ensures.sorted)

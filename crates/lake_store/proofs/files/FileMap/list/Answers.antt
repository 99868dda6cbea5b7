use Rattle.std.proofs.Common.{◌≡◌, ◌∙◌, ap, sym, subst, string_bytes, List, ℕ}
use Rattle.std.specs.BTreeMap.Range.{entries_between}
use Rattle.std.specs.String.{string_cmp}
use Rattle.lake_store.specs.Disk.{ListsFolder}
use Rattle.std.specs.Map.Iter.{deref_pair}
use Rattle.std.proofs.lemmas.Map.Iter.{rest_all}
use Rattle.lake_store.proofs.KeyLaws.{names_among, names_done}
use Rattle.lake_store.proofs.OrderLaws.{names_in_listed}
use Rattle.lake_store.proofs.RangeLaws.{forward, names_between}
use Rattle.lake_store.proofs.files.FileMap.list.Goals as goal

pub range-path-items-requires : goal.range-path-items-requires
range-path-items-requires c = forward c.args.folder.now c.in_ok-range_of.field-0 c.in_ok-range_of.ensures

pub returns-clause-names : goal.returns-clause-names
returns-clause-names c =
    let none = rest_all deref_pair c.loop-path.path-iterator c.next.new.self c.next.result c.in-None.is c.next.ensures.steps in
    let front = string_bytes c.in_ok-front.front in
    let range = c.in_ok-range_of.field-0 in
    let entries = c.self.inside.files.entries in
    let within : names_among front (entries_between string_cmp range.0 range.1 entries) ≡ names_among front entries =
    subst (λ (f : List ℕ). names_among f (entries_between string_cmp range.0 range.1 entries) ≡ names_among f entries) (sym c.in_ok-front.ensures) (names_between c.args.folder.now range c.in_ok-range_of.ensures entries) in
    names_done front c.args.folder.now c.loop-path.names.items c.loop-path.path-iterator c.into_iter-path-iterator.result c.self.inside.files c.args.self.now none c.loop-path.invariant
    (ap (names_among front) (c.into_iter-path-iterator.ensures.into_iter_gives ∙ c.range-path-items.ensures.between tt) ∙ within) c.range-path-items.ensures.ordered c.self.view_is c.in_ok-front.ensures

pub returns-clause-listed : goal.returns-clause-listed
returns-clause-listed c = subst (ListsFolder c.args.self.now c.args.folder.now) (sym (returns-clause-names c)) (names_in_listed c.args.self.now c.args.folder.now)

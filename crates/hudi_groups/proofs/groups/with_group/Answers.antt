use Rattle.std.proofs.Common.{◌≡◌, ◌||◌, ◌&&◌, not, true, false, sym, ap, ◌∙◌}
use Rattle.std.specs.List.{list_any}
use Rattle.std.specs.Str.{bytes_eq}
use Rattle.table_history.specs.Path.{is_slash}
use Rattle.hudi_groups.specs.Group.{joined}
use Rattle.hudi_groups.specs.GroupSets.{has_group}
use Rattle.hudi_groups.proofs.GroupSetLemmas.{has_group-insert}
use Rattle.hudi_groups.proofs.groups.with_group.Goals as goal

pub returns-then-has_slash : goal.returns-then-has_slash
returns-then-has_slash c = λ q.
    let pair = c.args.pair.now in
    let slash : list_any is_slash pair.1 ≡ true = ap (list_any is_slash) (sym c.as_bytes.ensures.value) ∙ sym c.has_slash.ensures ∙ c.if-has_slash.true in
    ap (λ b. (not b && bytes_eq q (joined pair.0 pair.1)) || has_group c.args.groups q) (sym slash)

pub returns : goal.returns
returns c = λ q.
    let pair = c.args.pair.now in
    let key = c.from_vec.result in
    let plain : list_any is_slash pair.1 ≡ false = ap (list_any is_slash) (sym c.as_bytes.ensures.value) ∙ sym c.has_slash.ensures ∙ c.if-has_slash.false in
    let key_is : key ≡ joined pair.0 pair.1 = c.from_vec.ensures ∙ c.in_ok-group.ensures ∙ (λ i. joined (c.as_bytes-2.ensures.value i) (c.as_bytes-3.ensures.value i)) in
    has_group-insert key c.args.groups c.insert.new.self c.in_ok-insert.ensures.updates q
    ∙ ap (λ l. bytes_eq q l || has_group c.args.groups q) key_is
    ∙ ap (λ b. (not b && bytes_eq q (joined pair.0 pair.1)) || has_group c.args.groups q) (sym plain)

use Rattle.std.proofs.Common.{not, ◌&&◌, hash_set_len, ap, sym, ◌∙◌}
use Rattle.std.specs.List.{list_any}
use Rattle.std.specs.Str.{bytes_eq}
use Rattle.hudi_groups.specs.GroupSets.{Groups, has_group}
use Rattle.hudi_groups.proofs.GroupIndexLemmas.{has_group-remove}
use Rattle.hudi_groups.proofs.index.one_less.Goals as goal
use Rattle.lake_basics.proofs.Lists.{empty_of}

pub returns-then-is_empty : goal.returns-then-is_empty
returns-then-is_empty c = λ p.
    let left = c.remove.new.self in
    let none = empty_of left.keys (ap (λ (s : Groups). hash_set_len s) (sym c.deref.ensures) ∙ c.is_empty.ensures.0 c.if-is_empty.true) in
    sym (ap (list_any (bytes_eq p)) none)
    ∙ has_group-remove c.in_ok-key.key c.deref_mut.result.now left c.remove.ensures.updates p
    ∙ (λ i. not (bytes_eq p (c.in_ok-key.ensures i)) && has_group (c.deref_mut.ensures.value i) p)

pub returns : goal.returns
returns c = λ p.
    has_group-remove c.in_ok-key.key c.deref_mut.result.now c.remove.new.self c.remove.ensures.updates p
    ∙ (λ i. not (bytes_eq p (c.in_ok-key.ensures i)) && has_group (c.deref_mut.ensures.value i) p)

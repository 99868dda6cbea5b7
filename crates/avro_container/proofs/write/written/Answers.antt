use Rattle.std.proofs.Common.{◌≡◌, ◌∙◌, length, arith, rules}
use Rattle.avro_schema.specs.Tree.{tree_of}
use Rattle.avro_container.proofs.WrittenContainers.{is_written}
use Rattle.avro_container.proofs.write.written.Goals as goal

pub returns : goal.returns
returns c =
    let len : length c.args.marker ≡ 16 = search rules in
    λ vs e. is_written 16777216 c.container.result c.args.meta.now c.as_slice.result.now c.in_ok-pairs.pairs.items (tree_of c.args.schema.now) c.args.marker c.args.count c.args.objects.now vs (omega arith) len c.requires.free c.requires.many c.container.ensures.small (c.as_slice.ensures.value ∙ c.in_ok-text.ensures.text) (λ s. rw c.as_slice.ensures.value (c.in_ok-text.ensures.reads_back s)) c.in_ok-pairs.ensures c.container.ensures.text c.container.ensures.are e

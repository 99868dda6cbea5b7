use Rattle.std.proofs.Common.{◌≡◌, ap, ◌∙◌, subst, sym, take}
use Rattle.std.proofs.Math.Facts.{to_z-of_z}
use Rattle.avro_value.specs.Varint.{Long}
use Rattle.avro_value.specs.Writing.{zigzag_of, varint_of}
use Rattle.avro_value.proofs.Shortest.{put_shortest}
use Rattle.avro_value.proofs.WriteLaws.{long_written}
use Rattle.avro_value.proofs.writer.put_long.Goals as goal
use Rattle.avro_value.proofs.writer.put_long.Goals.{After-put_varint}

exact : (c : After-put_varint) → take c.put_varint.result c.put_varint.new.out ≡ varint_of (zigzag_of c.args.n)
exact c = c.put_varint.ensures.exact ∙ ap varint_of (c.zigzag.ensures ∙ ap zigzag_of (to_z-of_z c.ranges.n))

pub returns-clause-shortest : goal.returns-clause-shortest
returns-clause-shortest c = put_shortest c.put_varint.new.out c.args.n c.put_varint.result c.put_varint.array_long c.put_varint.ensures.within (exact c)

pub returns-clause-spelled : goal.returns-clause-spelled
returns-clause-spelled c = subst (Long c.args.n) (sym (exact c)) (long_written c.args.n c.ranges.n)

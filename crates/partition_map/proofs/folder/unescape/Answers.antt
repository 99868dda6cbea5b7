use Rattle.std.proofs.Common.{◌≡◌, sym, subst, ◌∙◌}
use Rattle.std.specs.Str.{IsUtf8}
use Rattle.percent_encoding.specs.declared.DecodeError.TheVariants.{Utf8, OutOfMemory}
use Rattle.partition_map.proofs.FolderLemmas.{unescaped_same, unescaped_some, unescaped_none}
use Rattle.partition_map.proofs.folder.unescape.Goals as goal

pub returns-then-not-may_unescape : goal.returns-then-not-may_unescape
returns-then-not-may_unescape c =
    unescaped_same c.args.style c.args.part.now (c.may_unescape.ensures.same c.if-not-may_unescape.true) c.utf8.part

pub returns-in-Ok : goal.returns-in-Ok
returns-in-Ok c =
    unescaped_some c.args.style c.args.part.now _ (c.may_unescape.ensures.encoded c.if-not-may_unescape.false) (c.in-Ok.ensures.value ∙ c.percent_decode_str.ensures.bytes)
    (subst IsUtf8 c.percent_decode_str.ensures.bytes c.in-Ok.ensures.ok_only_if_utf8)

pub returns-in-Err-Utf8 : goal.returns-in-Err-Utf8
returns-in-Err-Utf8 c = unescaped_none c.args.style c.args.part.now (c.may_unescape.ensures.encoded c.if-not-may_unescape.false) (λ utf8.
    let memory : c.in-Err-Utf8.field-0 ≡ OutOfMemory = c.in-Err-Utf8.ensures.utf8 (subst IsUtf8 (sym c.percent_decode_str.ensures.bytes) utf8) in
    let wrong : Utf8 c.in-Err-Utf8.field-0-0 ≡ OutOfMemory = sym c.in-Err-Utf8.field-0-is ∙ memory in cc)

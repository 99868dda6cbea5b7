use Rattle.std.proofs.Common.{◌<◌, ℕ, List, length, refl, subst, arith}
use Rattle.lake_basics.specs.declared.limits.TheConstants.{MAX_FILE_BYTES}
use Rattle.target_delta.proofs.NewVersionLemmas.{too_long}
use Rattle.target_delta.proofs.version.text_of.Goals as goal

pub returns-then-as_slice-gt-MAX_FILE_BYTES-clause-refusal : goal.returns-then-as_slice-gt-MAX_FILE_BYTES-clause-refusal
returns-then-as_slice-gt-MAX_FILE_BYTES-clause-refusal c =
    let more = c.if-as_slice-gt-MAX_FILE_BYTES.true in
    let long = subst (λ (l : List ℕ). MAX_FILE_BYTES < length l) c.as_slice.ensures.value (omega (arith, more)) in
    (refl, refl, too_long c.args.behind.now c.args.change.now c.args.mark.now c.args.now_ms c.in_ok-bytes.bytes c.in_ok-bytes.ensures long)

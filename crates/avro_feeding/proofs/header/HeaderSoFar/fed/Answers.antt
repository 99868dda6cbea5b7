use Rattle.std.proofs.Common.{◌≡◌, ℕ, List, ◌++◌, ◌∙◌, sym, subst, arith}
use Rattle.avro_feeding.specs.Resuming.{IsCutHeader}
use Rattle.avro_feeding.proofs.ResumeLemmas.{more_come, waits_fed}
use Rattle.avro_feeding.proofs.header.HeaderSoFar.fed.Goals as goal

pub resumed-requires : goal.resumed-requires
resumed-requires c =
    let is : c.as_slice.result.now ≡ c.self.inside.kept ++ c.args.piece.now = grind (arith, c.as_slice.ensures.value, c.extend_from_slice.ensures.items, c.is_err.ensures.value, c.if-is_err.false, c.into_vec-bytes.ensures) in
    more_come c.self.inside.kept c.args.piece.now c.as_slice.result.now c.self.inside.resume is c.self.invariant

pub returns-in-Some : goal.returns-in-Some
returns-in-Some c =
    let is : c.from_vec.result ≡ c.args.self ++ c.args.piece.now = grind (arith, c.from_vec.ensures, c.extend_from_slice.ensures.items, c.is_err.ensures.value, c.if-is_err.false, c.into_vec-bytes.ensures, c.self.view_is) in
    let same : c.as_slice.result.now ≡ c.from_vec.result = c.as_slice.ensures.value ∙ sym c.from_vec.ensures in
    waits_fed c.args.self c.args.piece.now c.from_vec.result is (subst (λ (l : List ℕ). IsCutHeader l) same c.in-Some.ensures.1)

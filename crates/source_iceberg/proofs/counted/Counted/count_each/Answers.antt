use Rattle.std.proofs.Common.{◌≡◌, ◌+◌, ◌∷◌, ◌++◌, [], List, Result, take, ap, sym, subst, append-nil, append_assoc, ◌∙◌}
use Rattle.std.specs.Prelude.{IfErr}
use Rattle.std.proofs.lemmas.List.{take_all, take_more}
use Rattle.std.proofs.lemmas.Result.{err_from_is_err_and}
use Rattle.iceberg_table.specs.declared.manifest.Manifest.{Manifest}
use Rattle.source_core.specs.Answers.{IsReadRefusal}
use Rattle.source_core.specs.declared.error.SourceError.{SourceError}
use Rattle.source_iceberg.specs.Counted.{Counts}
use Rattle.source_iceberg.specs.Since.{HasManyEntries}
use Rattle.source_iceberg.proofs.CountLaws.{many_later}
use Rattle.source_iceberg.proofs.counted.Counted.count_each.Goals as goal

pub loop-manifest-init : goal.loop-manifest-init
loop-manifest-init c = record {
  few = c.requires;
  counts = λ read counts. subst (λ (l : List Manifest). Counts l c.args.self.now) (sym (append-nil read)) counts;
}

pub loop-manifest-preserved : goal.loop-manifest-preserved
loop-manifest-preserved c =
    let xs = c.args.manifests.now in
    let i = c.loop-manifest.manifest-index in
    let x = c.manifest-item.result in
    let longer : take (i + 1) xs ≡ take i xs ++ x ∷ [] = take_more xs i x c.loop-manifest-test.true ∙ ap (λ (y : Manifest). take i xs ++ y ∷ []) (sym c.manifest-item.is) in
    record {
      few = c.in_ok-count.ensures.few;
      counts = λ read counts.
          subst (λ (l : List Manifest). Counts l c.count.new.self) (append_assoc read (take i xs) (x ∷ []) ∙ ap (λ (l : List Manifest). read ++ l) (sym longer))
          (c.in_ok-count.ensures.counts (read ++ take i xs) (c.loop-manifest.invariant.counts read counts));
    }

pub returns-clause-counts : goal.returns-clause-counts
returns-clause-counts c = λ read counts.
    subst (λ (l : List Manifest). Counts (read ++ l) c.loop-manifest.self) (take_all c.loop-manifest.manifest-index c.args.manifests.now c.loop-manifest-test.false) (c.loop-manifest.invariant.counts read counts)

pub returns-in_err-count-clause-many : goal.returns-in_err-count-clause-many
returns-in_err-count-clause-many c = λ read counts.
    let exit = err_from_is_err_and c.from_residual.result c.from_residual.ensures.1 in
    let xs = c.args.manifests.now in
    let i = c.loop-manifest.manifest-index in
    let x = c.manifest-item.result in
    let e = c.in_err-count.field-0.0 in
    let P : SourceError → Type 0 = HasManyEntries read xs in
    let one = c.in_err-count.ensures.many (read ++ take i xs) (c.loop-manifest.invariant.counts read counts) in
    subst (λ (r : Result (Unit {0}) SourceError). IfErr r (IsReadRefusal P)) (sym exit.1)
    (subst (IsReadRefusal P) (sym exit.2) (many_later read xs i x c.loop-manifest-test.true c.manifest-item.is e one))

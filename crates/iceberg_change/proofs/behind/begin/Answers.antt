use Rattle.std.proofs.Common.{List, Some, map, ap, ◌∙◌}
use Rattle.iceberg_table.specs.declared.manifest.Manifest.{Manifest}
use Rattle.iceberg_change.proofs.BehindLaws.{goes_held, holds_none, holds_read, listed_read, starts_held, starts_new}
use Rattle.iceberg_change.proofs.StepLaws.{if_both}
use Rattle.iceberg_change.proofs.behind.begin.Goals as goal
use Rattle.lake_basics.proofs.Options.{ok_also}

pub returns-then-is_for-clause-start : goal.returns-then-is_for-clause-start
returns-then-is_for-clause-start c =
    let columns = c.args.columns.now in
    let before = c.args._before.now in
    let was = goes_held before c.args.listed columns (c.is_for.ensures c.if-is_for.true) c.requires.on in
    if_both c.start_of.result _ _ _ c.start_of.ensures.held c.start_of.ensures.is_held
    (λ s slots same. starts_held columns before c.args.listed.manifests s slots same c.requires.own was.0 was.1)

pub returns-then-is_for-clause-read : goal.returns-then-is_for-clause-read
returns-then-is_for-clause-read c = λ files location listed.
    let columns = c.args.columns.now in
    ok_also c.start_of.result _ _ c.start_of.ensures.held
    (λ s slots. holds_read files location columns c.args.listed.manifests s slots (listed_read files location c.args.listed columns (c.is_for.ensures c.if-is_for.true) listed))

pub returns-clause-start : goal.returns-clause-start
returns-clause-start c =
    if_both c.start_of-2.result _ _ _ c.start_of-2.ensures.held c.start_of-2.ensures.is_held
    (λ s slots same. starts_new c.args.columns.now c.args._before.now s (slots ∙ ap (λ (l : List Manifest). map Some l) c.new.ensures) same c.requires.own)

pub returns-clause-read : goal.returns-clause-read
returns-clause-read c = λ files location listed.
    ok_also c.start_of-2.result _ _ c.start_of-2.ensures.held
    (λ s slots. holds_none files location c.args.columns.now s (slots ∙ ap (λ (l : List Manifest). map Some l) c.new.ensures))

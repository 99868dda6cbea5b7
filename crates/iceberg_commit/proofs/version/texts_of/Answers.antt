use Rattle.std.proofs.Common.{List, refl, subst}
use Rattle.iceberg_manifest.specs.declared.info.ManifestInfo.{ManifestInfo}
use Rattle.iceberg_commit.specs.Texts.{IsListOf, IsTextRefusal}
use Rattle.iceberg_commit.proofs.TextsOfLemmas.{fields_read, kinds_here, layout_here, list_refused, manifest_refused, metadata_refused, schema_read, texts_behind}
use Rattle.iceberg_commit.proofs.version.texts_of.Goals as goal

pub layout_of-requires-clause-kinds : goal.layout_of-requires-clause-kinds
layout_of-requires-clause-kinds c =
    let kept = c.args.kept.now in
    let commit = c.args.commit.now in
    let can = c.requires.can in
    let kinds = c.requires.kinds in
    let m = c.args.metadata.now in
    let place = c.args.place in
    let holds = c.requires.holds in
    let schema = c.index-as_slice-place.result in
    let is_schema = schema_read kept commit can kinds m place holds c.as_slice.result.now schema c.as_slice.ensures c.index-as_slice-place.is in
    kinds_here kept commit can kinds m place holds schema c.as_slice-4.result.now is_schema c.as_slice-4.ensures

pub list_of-requires-clause-layout : goal.list_of-requires-clause-layout
list_of-requires-clause-layout c =
    let kept = c.args.kept.now in
    let commit = c.args.commit.now in
    let can = c.requires.can in
    let kinds = c.requires.kinds in
    let m = c.args.metadata.now in
    let place = c.args.place in
    let holds = c.requires.holds in
    let schema = c.index-as_slice-place.result in
    let fields = c.as_slice-3.result.now in
    let is_schema = schema_read kept commit can kinds m place holds c.as_slice.result.now schema c.as_slice.ensures c.index-as_slice-place.is in
    let is_fields = fields_read kept commit can kinds m place holds c.as_slice-2.result.now c.index-as_slice-0.result fields c.as_slice-2.ensures c.as_slice-3.ensures in
    let layout = c.in_ok-layout.layout in
    let told = c.in_ok-layout.ensures in
    let here = layout_here kept commit can kinds m place holds c.args.version layout schema c.as_slice-4.result.now fields told.front told.version told.partition c.as_slice-4.ensures told.schema is_schema told.fields is_fields told.columns in
    here.is

pub returns-in_err-made-clause-refusal : goal.returns-in_err-made-clause-refusal
returns-in_err-made-clause-refusal c = λ before schemas spec behind.
    let kept = c.args.kept.now in
    let commit = c.args.commit.now in
    let can = c.requires.can in
    let kinds = c.requires.kinds in
    let m = c.args.metadata.now in
    let place = c.args.place in
    let holds = c.requires.holds in
    let schema = c.index-as_slice-place.result in
    let fields = c.as_slice-3.result.now in
    let is_schema = schema_read kept commit can kinds m place holds c.as_slice.result.now schema c.as_slice.ensures c.index-as_slice-place.is in
    let is_fields = fields_read kept commit can kinds m place holds c.as_slice-2.result.now c.index-as_slice-0.result fields c.as_slice-2.ensures c.as_slice-3.ensures in
    let layout = c.in_ok-layout.layout in
    let told = c.in_ok-layout.ensures in
    let here = layout_here kept commit can kinds m place holds c.args.version layout schema c.as_slice-4.result.now fields told.front told.version told.partition c.as_slice-4.ensures told.schema is_schema told.fields is_fields told.columns in
    manifest_refused kept commit can kinds m place holds c.args.version c.args.parent before schemas spec behind layout here c.from_residual-in_err-made.result c.in_err-made.field-0.0 c.from_residual-in_err-made.ensures.1 c.in_err-made.ensures.refusal

pub returns-in_err-list-clause-refusal : goal.returns-in_err-list-clause-refusal
returns-in_err-list-clause-refusal c = λ before schemas spec behind.
    let kept = c.args.kept.now in
    let commit = c.args.commit.now in
    let can = c.requires.can in
    let kinds = c.requires.kinds in
    let m = c.args.metadata.now in
    let place = c.args.place in
    let holds = c.requires.holds in
    let schema = c.index-as_slice-place.result in
    let fields = c.as_slice-3.result.now in
    let is_schema = schema_read kept commit can kinds m place holds c.as_slice.result.now schema c.as_slice.ensures c.index-as_slice-place.is in
    let is_fields = fields_read kept commit can kinds m place holds c.as_slice-2.result.now c.index-as_slice-0.result fields c.as_slice-2.ensures c.as_slice-3.ensures in
    let layout = c.in_ok-layout.layout in
    let told = c.in_ok-layout.ensures in
    let here = layout_here kept commit can kinds m place holds c.args.version layout schema c.as_slice-4.result.now fields told.front told.version told.partition c.as_slice-4.ensures told.schema is_schema told.fields is_fields told.columns in
    let made = c.in_ok-made.ensures.texts in
    let refused = subst (λ (infos : List ManifestInfo). IsTextRefusal (IsListOf infos c.args.version c.args.parent) c.in_err-list.field-0.0) c.as_slice-5.ensures.value c.in_err-list.ensures.refusal in
    list_refused kept commit can kinds m place holds c.args.version c.args.parent before schemas spec behind layout here c.from_residual-in_err-list.result c.in_err-list.field-0.0 c.from_residual-in_err-list.ensures.1 made.0 c.in_ok-made.made made.1 made.2 refused

pub returns-in_err-text-clause-refusal : goal.returns-in_err-text-clause-refusal
returns-in_err-text-clause-refusal c = λ before schemas spec behind.
    let kept = c.args.kept.now in
    let commit = c.args.commit.now in
    let can = c.requires.can in
    let kinds = c.requires.kinds in
    let m = c.args.metadata.now in
    let place = c.args.place in
    let holds = c.requires.holds in
    let schema = c.index-as_slice-place.result in
    let fields = c.as_slice-3.result.now in
    let is_schema = schema_read kept commit can kinds m place holds c.as_slice.result.now schema c.as_slice.ensures c.index-as_slice-place.is in
    let is_fields = fields_read kept commit can kinds m place holds c.as_slice-2.result.now c.index-as_slice-0.result fields c.as_slice-2.ensures c.as_slice-3.ensures in
    let layout = c.in_ok-layout.layout in
    let told = c.in_ok-layout.ensures in
    let here = layout_here kept commit can kinds m place holds c.args.version layout schema c.as_slice-4.result.now fields told.front told.version told.partition c.as_slice-4.ensures told.schema is_schema told.fields is_fields told.columns in
    metadata_refused kept commit can kinds m place holds c.args.version c.args.parent before schemas spec behind layout here c.from_residual-in_err-text.result c.in_err-text.field-0.0 c.from_residual-in_err-text.ensures.1 c.in_err-text.ensures.refusal

pub returns-clause-texts : goal.returns-clause-texts
returns-clause-texts c = λ before schemas spec behind.
    let kept = c.args.kept.now in
    let commit = c.args.commit.now in
    let can = c.requires.can in
    let kinds = c.requires.kinds in
    let m = c.args.metadata.now in
    let place = c.args.place in
    let holds = c.requires.holds in
    let schema = c.index-as_slice-place.result in
    let fields = c.as_slice-3.result.now in
    let is_schema = schema_read kept commit can kinds m place holds c.as_slice.result.now schema c.as_slice.ensures c.index-as_slice-place.is in
    let is_fields = fields_read kept commit can kinds m place holds c.as_slice-2.result.now c.index-as_slice-0.result fields c.as_slice-2.ensures c.as_slice-3.ensures in
    let layout = c.in_ok-layout.layout in
    let told = c.in_ok-layout.ensures in
    let here = layout_here kept commit can kinds m place holds c.args.version layout schema c.as_slice-4.result.now fields told.front told.version told.partition c.as_slice-4.ensures told.schema is_schema told.fields is_fields told.columns in
    let made = c.in_ok-made.ensures.texts in
    let listed = subst (λ (infos : List ManifestInfo). IsListOf infos c.args.version c.args.parent c.in_ok-list.list) c.as_slice-5.ensures.value c.in_ok-list.ensures.text in
    let list = c.in_ok-made.made in
    texts_behind kept commit can kinds m place holds c.args.version c.args.parent before schemas spec behind layout here made.0 list (record { infos = list.infos; manifests = list.manifests; list = c.in_ok-list.list; metadata = c.in_ok-text.text }) made.1 made.2 refl refl listed c.in_ok-text.ensures.text c.in_ok-list.ensures.short c.in_ok-text.ensures.short

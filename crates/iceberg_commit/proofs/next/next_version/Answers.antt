use Rattle.std.proofs.Common.{refl}
use Rattle.std.specs.Option.{option_copied}
use Rattle.target_core.specs.Views.{Origin}
use Rattle.iceberg_commit.proofs.NextVersionLemmas.{begun_mid, can_mid, has_current, listed_mid, next_is}
use Rattle.iceberg_commit.proofs.next.next_version.Goals as goal

pub keep_behind-requires-clause-can : goal.keep_behind-requires-clause-can
keep_behind-requires-clause-can c =
    let origin : Origin = record { source = c.args.source; table = option_copied c.args.table } in
    let new = c.in_ok-written.ensures.written in
    let rest = c.in_ok-written.ensures.rest in
    can_mid c.args.kept.now c.new_version.new.kept origin c.args.now_ms c.args.commit.now c.in_ok-written.written new rest c.requires.can

pub keep_behind-requires-clause-version : goal.keep_behind-requires-clause-version
keep_behind-requires-clause-version c =
    let origin : Origin = record { source = c.args.source; table = option_copied c.args.table } in
    let new = c.in_ok-written.ensures.written in
    let rest = c.in_ok-written.ensures.rest in
    begun_mid c.args.kept.now c.new_version.new.kept origin c.args.now_ms c.args.commit.now c.in_ok-written.written new rest

pub keep_behind-requires-clause-current : goal.keep_behind-requires-clause-current
keep_behind-requires-clause-current c =
    let origin : Origin = record { source = c.args.source; table = option_copied c.args.table } in
    let new = c.in_ok-written.ensures.written in
    let rest = c.in_ok-written.ensures.rest in
    has_current c.args.kept.now c.new_version.new.kept origin c.args.now_ms c.args.commit.now c.in_ok-written.written new rest

pub keep_behind-requires-clause-listed : goal.keep_behind-requires-clause-listed
keep_behind-requires-clause-listed c =
    let origin : Origin = record { source = c.args.source; table = option_copied c.args.table } in
    let new = c.in_ok-written.ensures.written in
    let rest = c.in_ok-written.ensures.rest in
    (new.written.manifests, listed_mid c.args.kept.now c.new_version.new.kept origin c.args.now_ms c.args.commit.now c.in_ok-written.written new rest)

pub returns-clause-is : goal.returns-clause-is
returns-clause-is c =
    let origin : Origin = record { source = c.args.source; table = option_copied c.args.table } in
    let new = c.in_ok-written.ensures.written in
    let rest = c.in_ok-written.ensures.rest in
    let listed = listed_mid c.args.kept.now c.new_version.new.kept origin c.args.now_ms c.args.commit.now c.in_ok-written.written new rest in
    let behind = c.in_ok-keep_behind.ensures new.written.manifests listed in
    next_is c.args.kept.now c.new_version.new.kept origin c.args.now_ms c.args.commit.now c.in_ok-written.written new rest c.in_ok-mark.mark c.in_ok-mark.ensures c.keep_behind.new.kept behind
    (record { version = c.new_version.new.kept.version; manifests = c.in_ok-written.written.manifests.items; list = c.in_ok-written.written.list; metadata = c.in_ok-written.written.metadata }) refl refl refl refl

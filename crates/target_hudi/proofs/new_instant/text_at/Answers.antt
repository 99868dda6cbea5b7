use Rattle.std.proofs.Common.{◌<◌, ℕ, List, Some, sym, ap, subst, ◌∙◌}
use Rattle.std.specs.Option.{option_copied}
use Rattle.table_history.specs.Row.{Row}
use Rattle.hudi_names.specs.Time.{IsSomeTime}
use Rattle.target_core.specs.Held.{are_held}
use Rattle.target_core.specs.Views.{Origin}
use Rattle.target_core.specs.declared.mark.Mark.{Mark}
use Rattle.target_hudi.specs.Kept.{held_of}
use Rattle.target_hudi.specs.Rank.{time_rank}
use Rattle.target_hudi.proofs.NewInstantLemmas.{actions_few, added_paths, leaves_added, loses_removed, read_as, removed_paths, size_after, sound_after, text_is, text_long}
use Rattle.target_hudi.proofs.new_instant.text_at.Goals as goal

pub go_on-requires-clause-real : goal.go_on-requires-clause-real
go_on-requires-clause-real c = subst IsSomeTime (sym c.in_ok-copy.ensures) c.requires.real

pub go_on-requires-clause-later : goal.go_on-requires-clause-later
go_on-requires-clause-later c = subst (λ (t : List ℕ). time_rank c.args.kept.now.newest < time_rank (Some t)) (sym c.in_ok-copy.ensures) c.requires.later

pub written_of-requires-clause-digits : goal.written_of-requires-clause-digits
written_of-requires-clause-digits c = c.requires.real.1.digits

pub written_of-requires-clause-leaves : goal.written_of-requires-clause-leaves
written_of-requires-clause-leaves c = leaves_added c.args.kept.now.table c.go_on.new.kept.table c.args.commit.now c.in_ok-go_on.ensures.table

pub written_of-requires-clause-loses : goal.written_of-requires-clause-loses
written_of-requires-clause-loses c = loses_removed c.args.kept.now.table c.go_on.new.kept.table c.args.commit.now c.in_ok-go_on.ensures.table

pub written_of-requires-clause-added_paths : goal.written_of-requires-clause-added_paths
written_of-requires-clause-added_paths c =
    added_paths c.args.kept.now c.args.commit.now c.requires.can c.go_on.new.kept.table c.in_ok-go_on.ensures.table

pub written_of-requires-clause-paths : goal.written_of-requires-clause-paths
written_of-requires-clause-paths c = removed_paths c.args.kept.now c.args.commit.now c.requires.can

pub written_of-requires-clause-few : goal.written_of-requires-clause-few
written_of-requires-clause-few c =
    actions_few c.args.kept.now c.args.commit.now c.requires.can c.go_on.new.kept.table c.in_ok-go_on.ensures.table

pub held_text-requires-clause-stated : goal.held_text-requires-clause-stated
held_text-requires-clause-stated c =
    read_as (held_of c.args.kept.now) c.args.kept.now.table.partition c.args.commit.now c.requires.fits c.args.kept.now.table c.go_on.new.kept.table c.in_ok-written.written.schema c.in_ok-go_on.ensures.table
    (sound_after c.args.kept.now c.args.commit.now c.requires.can c.go_on.new.kept.table c.in_ok-go_on.ensures.table) (size_after c.args.kept.now c.args.commit.now c.requires.can c.go_on.new.kept.table c.in_ok-go_on.ensures.table)
    c.in_ok-written.ensures.is.stated c.in_ok-written.ensures.read_back

pub invariant_of-kept : goal.invariant_of-kept
invariant_of-kept c = record {
  newest_real = c.go_on.new.kept.newest_real;
  rows_held = ap (λ (rows : List Row). are_held rows) c.held_text.ensures.rows ∙ c.go_on.new.kept.rows_held;
  commits_bounded = c.go_on.new.kept.commits_bounded;
  begun = λ none. absurd (cc (sym none ∙ c.go_on.ensures.newest));
}

pub returns-clause-is : goal.returns-clause-is
returns-clause-is c =
    let origin : Origin = record { source = c.args.source; table = option_copied c.args.table } in
    text_is c.args.kept.now _ c.args.commit.now origin c.args.time.now c.go_on.new.kept.table c.in_ok-go_on.ensures.table c.in_ok-written.written c.in_ok-written.ensures.is c.held_text.result
    c.in_ok-written.ensures.writable c.in_ok-written.ensures.read_back c.in_ok-written.ensures.reads_back c.held_text.ensures.text c.held_text.ensures.read c.held_text.ensures.schema c.held_text.ensures.rows c.held_text.ensures.partition
    (c.go_on.ensures.mark ∙ ap (λ (m : Mark). Some m) c.in_ok-mark.ensures) (c.go_on.ensures.newest ∙ ap (λ (t : List ℕ). Some t) c.in_ok-copy.ensures) c.go_on.ensures.commits

pub returns-clause-refusal : goal.returns-clause-refusal
returns-clause-refusal c =
    let origin : Origin = record { source = c.args.source; table = option_copied c.args.table } in
    text_long c.args.kept.now c.go_on.new.kept c.args.commit.now origin c.args.time.now c.go_on.new.kept.table c.in_ok-go_on.ensures.table c.in_ok-written.written c.in_ok-written.ensures.is c.held_text.result c.held_text.ensures.refusal

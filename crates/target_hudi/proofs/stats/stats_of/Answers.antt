use Rattle.std.proofs.Common.{◌≡◌, List, [], ◌∷◌, ◌++◌, length, map, sym, ap, subst, ◌∙◌}
use Rattle.std.proofs.lemmas.List.{length-map}
use Rattle.std.proofs.lemmas.List.Elements.{All-push, All-same}
use Rattle.hudi_instant.specs.InstantText.{IsSoundStat}
use Rattle.std.specs.List.{IsDistinct}
use Rattle.std.specs.Str.{bytes_eq}
use Rattle.table_history.specs.Row.{Row}
use Rattle.hudi_instant.specs.declared.instant.Stat.{Stat}
use Rattle.target_hudi.specs.Writing.{stat_of}
use Rattle.target_hudi.proofs.StatLemmas.{as_many, distinct_stats, item_there, sound_by, stats_by, stats_more}
use Rattle.target_hudi.proofs.stats.stats_of.Goals as goal
use Rattle.lake_basics.proofs.Lists.{all_taken}

pub loop-row-preserved : goal.loop-row-preserved
loop-row-preserved c =
    let added = c.args.added.now in
    let row = c.row-item.result in
    let there = item_there added c.loop-row.row-index row c.loop-row-test.true c.row-item.is in
    record {
      are = stats_more c.args.instant.now added c.loop-row.row-index row c.in_ok-stat_of.field-0 c.loop-row.stats.items c.push.new.self.items c.loop-row-test.true c.row-item.is c.in_ok-stat_of.ensures.is c.loop-row.invariant.are c.in_ok-push.ensures.items;
      sound = All-same IsSoundStat c.push.new.self.items (c.loop-row.stats.items ++ c.in_ok-stat_of.field-0 ∷ []) c.in_ok-push.ensures.items
          (All-push IsSoundStat c.loop-row.stats.items c.in_ok-stat_of.field-0 c.loop-row.invariant.sound (c.in_ok-stat_of.ensures.sound c.requires.digits (c.requires.paths row there)));
    }

pub sorted_stats-requires : goal.sorted_stats-requires
sorted_stats-requires c =
    let instant = c.args.instant.now in
    let added = c.args.added.now in
    let whole : c.loop-row.stats.items ≡ map (stat_of instant) added = c.loop-row.invariant.are ∙ ap (λ (l : List Row). map (stat_of instant) l) (all_taken added c.loop-row.row-index c.loop-row.auto.row-index-end c.loop-row-test.false) in
    subst (λ (l : List Stat). IsDistinct bytes_eq (map (λ (s : Stat). s.path) l)) (sym whole) (distinct_stats instant added c.requires.distinct)

pub returns-clause-stats : goal.returns-clause-stats
returns-clause-stats c =
    let instant = c.args.instant.now in
    let added = c.args.added.now in
    let whole : c.loop-row.stats.items ≡ map (stat_of instant) added = c.loop-row.invariant.are ∙ ap (λ (l : List Row). map (stat_of instant) l) (all_taken added c.loop-row.row-index c.loop-row.auto.row-index-end c.loop-row-test.false) in
    stats_by instant added c.loop-row.stats.items whole (λ v. v.items) c.sorted_stats.result c.sorted_stats.ensures.stats

pub returns-clause-sound : goal.returns-clause-sound
returns-clause-sound c = sound_by c.loop-row.stats.items c.loop-row.invariant.sound (λ v. v.items) c.sorted_stats.result c.sorted_stats.ensures.stats

pub returns-clause-len : goal.returns-clause-len
returns-clause-len c =
    let instant = c.args.instant.now in
    let added = c.args.added.now in
    let whole : c.loop-row.stats.items ≡ map (stat_of instant) added = c.loop-row.invariant.are ∙ ap (λ (l : List Row). map (stat_of instant) l) (all_taken added c.loop-row.row-index c.loop-row.auto.row-index-end c.loop-row-test.false) in
    as_many (length added) (length c.loop-row.stats.items) (λ v. v.items) c.sorted_stats.result (ap length whole ∙ length-map added (stat_of instant)) c.sorted_stats.ensures.len

use Rattle.std.proofs.Common.{◌≡◌, List, ℕ, ◌∙◌, refl, sym, subst}
use Rattle.target_sync.specs.declared.status.Status.TheVariants.{Done}
use Rattle.sync_driver.specs.Answers.{Command}
use Rattle.sync_driver.specs.Forms.{Words}
use Rattle.sync_driver.specs.Tellings.{Tells}
use Rattle.lake_batch.specs.Part.{StaysBeside, part_of}
use Rattle.lake_batch.specs.Tables.{AreWords, table_line}
use Rattle.lake_batch.proofs.Runs.{put_nothing, runs_table}
use Rattle.lake_batch.proofs.tables.run_table.Goals as goal

pub returns-in_default-clause-ran : goal.returns-in_default-clause-ran
returns-in_default-clause-ran g c = (refl, put_nothing g.O.Sink c.args.out.now (table_line c.args.item.now.folder) Done, λ is. cc is)

pub returns-in_default-put_line : goal.returns-in_default-put_line
returns-in_default-put_line g c = record {
  ran = (refl, subst (λ (l : List ℕ). Tells g.O.Sink c.args.out.now c.put_line.new.out l Done c.put_line.result) (c.deref.ensures.value ∙ c.in-Ok.ensures.0) c.put_line.ensures, c.in_default-put_line.not-Done);
  still = λ time is. is;
}

pub returns-clause-ran : goal.returns-clause-ran
returns-clause-ran g c =
    let words : AreWords c.args.place.now c.args.item.now c.as_slice.result.now = subst (λ (w : Words). AreWords c.args.place.now c.args.item.now w) (sym c.as_slice.ensures.value) c.in-Ok.ensures.2 in
    let command = subst (λ (s : g.row.S.Denot). Command (part_of g.S.Store c.new-under.result.folder) g.O.Sink g.R.Commands.formats (λ time. time ≡ c.now_ms-now.result) c.as_slice.result.now s c.run_part-store.result.0 c.put_line.new.out c.run_part-store.new.out c.run_part-store.result.1) c.new-under.ensures.store
    c.run_part-store.ensures.command in
    let beside = subst (λ (s : g.row.S.Denot). StaysBeside g.S.Store c.new-under.result.folder s c.run_part-store.result.0) c.new-under.ensures.store c.run_part-store.ensures.beside in
    runs_table g.S.Store g.O.Sink g.R.Commands.formats c.args.place.now c.args.item.now (g.C.Clock.gives c.args.clock.now) c.now_ms-now.result c.deref.result.now c.new-under.result.folder c.as_slice.result.now c.args.store c.run_part-store.result.0
    c.args.out.now c.put_line.new.out c.run_part-store.new.out c.run_part-store.result.1 (c.deref.ensures.value ∙ c.in-Ok.ensures.0) (c.new-under.ensures.folder ∙ c.in-Ok.ensures.1) words c.now_ms-now.ensures.given c.in-Done.ensures command beside

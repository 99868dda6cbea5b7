use Rattle.std.proofs.Common.{List, ℕ, Err, ap, inl, inr, refl, subst}
use Rattle.lake_store.specs.declared.sink.SinkError.{SinkError}
use Rattle.target_sync.specs.declared.status.Status.TheVariants as status
use Rattle.lake_play.specs.Drilled.{PutsText}
use Rattle.lake_play.proofs.DrillEnds.{put_cut, put_done, three_texts}
use Rattle.lake_play.proofs.putting.put_summary.Goals as goal

pub returns-in-Ok : goal.returns-in-Ok
returns-in-Ok g c =
    subst (λ (l : List ℕ). PutsText g.O.Sink c.args.out.now c.put_three.new.out l status.Done) (three_texts c.as_bytes-source.ensures.value c.as_bytes-hudi.ensures.value c.as_bytes-iceberg.ensures.value)
    (put_done g.O.Sink c.args.out.now c.put_three.new.out _ c.in-Ok.ensures.cause c.in-Ok.ensures.ok)

pub returns-in-Err-Memory : goal.returns-in-Err-Memory
returns-in-Err-Memory g c =
    subst (λ (l : List ℕ). PutsText g.O.Sink c.args.out.now c.put_three.new.out l status.Memory) (three_texts c.as_bytes-source.ensures.value c.as_bytes-hudi.ensures.value c.as_bytes-iceberg.ensures.value)
    (put_cut g.O.Sink c.args.out.now c.put_three.new.out _ c.in-Err-Memory.ensures.cause status.Memory (λ is. cc is) (inl refl) c.in-Err-Memory.ensures.err)

pub returns-in-Err-Failed : goal.returns-in-Err-Failed
returns-in-Err-Failed g c =
    subst (λ (l : List ℕ). PutsText g.O.Sink c.args.out.now c.put_three.new.out l status.SinkFault) (three_texts c.as_bytes-source.ensures.value c.as_bytes-hudi.ensures.value c.as_bytes-iceberg.ensures.value)
    (put_cut g.O.Sink c.args.out.now c.put_three.new.out _ c.in-Err-Failed.ensures.cause status.SinkFault (λ is. cc is) (inr (refl, ap (λ (e : SinkError). Err e) c.in-Err-Failed.field-0-is)) c.in-Err-Failed.ensures.err)

use Rattle.std.proofs.Common.{◌≡◌, List, ℕ, Result, length, inl, inr, refl, Err, sym, ap, subst, ◌∙◌, ⊎_elim}
use Rattle.std.proofs.lemmas.Bool.{eqb-false}
use Rattle.lake_store.specs.declared.sink.Sink.{Ghosts}
use Rattle.sync_driver.specs.Tellings.{Puts, Tells}
use Rattle.target_sync.specs.declared.status.Status.{Status}
use Rattle.target_sync.specs.declared.status.Status.TheVariants.{Done}
use Rattle.sync_driver.proofs.Saying.{put_told, puts_told}
use Rattle.sync_driver.proofs.tell.put_line.Goals as goal

-- a line that went out whole is told as what is due
told_due : {O : Type 0} (sink : Ghosts O) (old new : O) (line : List ℕ) (due : Status) → Tells sink old new line Done Done → Tells sink old new line due due
told_due sink old new line due told = record {
  faults = told.faults;
  can_fail = told.can_fail;
  status = inl refl;
  silent = told.silent;
  whole = λ tells said. told.whole tells tt;
  front = told.front;
}

-- one that was cut is told as the cut
told_cut : {O : Type 0} (sink : Ghosts O) (old new : O) (line : List ℕ) (due cut : Status) → Puts sink old new line (Err cut) → Tells sink old new line due cut
told_cut sink old new line due cut told = record {
  faults = told.0.faults;
  can_fail = told.0.can_fail;
  status = ⊎_elim (λ is. absurd (told.1 is)) (λ other. inr other) told.0.status;
  silent = told.0.silent;
  whole = told.0.whole;
  front = told.0.front;
}

pub returns-in-Ok : goal.returns-in-Ok
returns-in-Ok g c =
    let sink = g.O.Sink in
    let line = c.args.line.now in
    let old = c.args.out.now in
    let new = c.put-put.new.self in
    let some : length line ≡ 0 → ⊥ = eqb-false (length line) 0 (sym c.is_empty.ensures ∙ c.if-is_empty.false) in
    let put = puts_told sink old new line c.put-put.result
    (put_told sink old new line c.put-put.result (λ none. some (ap (λ (l : List ℕ). length l) none)) c.put-put.ensures.ok c.put-put.ensures.err c.put-put.ensures.cause) in
    told_due sink old new line c.args.due (subst (λ (r : Result (Unit {0}) Status). Puts sink old new line r) (sym c.cut_of_put.ensures ∙ c.in-Ok.is) put)

pub returns-in-Err : goal.returns-in-Err
returns-in-Err g c =
    let sink = g.O.Sink in
    let line = c.args.line.now in
    let old = c.args.out.now in
    let new = c.put-put.new.self in
    let some : length line ≡ 0 → ⊥ = eqb-false (length line) 0 (sym c.is_empty.ensures ∙ c.if-is_empty.false) in
    let put = puts_told sink old new line c.put-put.result
    (put_told sink old new line c.put-put.result (λ none. some (ap (λ (l : List ℕ). length l) none)) c.put-put.ensures.ok c.put-put.ensures.err c.put-put.ensures.cause) in
    told_cut sink old new line c.args.due c.in-Err.cut (subst (λ (r : Result (Unit {0}) Status). Puts sink old new line r) (sym c.cut_of_put.ensures ∙ c.in-Err.is) put)

use Rattle.std.proofs.Common.{◌≤ℤ◌, ℕ, ℤ, Result, Ok, Err, OnErr, sym, subst, w64}
use Rattle.std.proofs.lemmas.Int.{to_z-of_z}
use Rattle.std.specs.Str.Parse.{digits_value}
use Rattle.hudi_names.specs.Time.{IsTimeNumber, IsPast9999}
use Rattle.hudi_names.proofs.TimeLemmas.{digits_small, some_time}
use Rattle.hudi_names.proofs.time.time_text.Goals as goal

on_err : {T E : Type 0} (r : Result T E) (P : Type 0) → P → OnErr r P
on_err (Ok x) P holds = tt
on_err (Err e) P holds = holds

pub returns-in-None-clause-text : goal.returns-in-None-clause-text
returns-in-None-clause-text c = λ text t.
    let fit = to_z-of_z w64 c.args.ms c.ranges.ms in
    c.in-None.ensures.number (digits_value 10 text) (digits_small text t.digits) (subst (IsTimeNumber (digits_value 10 text)) (sym fit) t.number)

pub returns-in-None-clause-past : goal.returns-in-None-clause-past
returns-in-None-clause-past c =
    let fit = to_z-of_z w64 c.args.ms c.ranges.ms in
    let P : ℤ → Type 0 = λ z. (n : ℕ) (earlier : ℤ) → IsTimeNumber n earlier → earlier ≤ℤ z → IsPast9999 z in
    let past = subst P fit c.in-None.ensures.past in λ text earlier t. past (digits_value 10 text) earlier t.number

pub returns-in_err-digits_text-in-Some-clause-memory : goal.returns-in_err-digits_text-in-Some-clause-memory
returns-in_err-digits_text-in-Some-clause-memory c =
    let fit = to_z-of_z w64 c.args.ms c.ranges.ms in
    on_err c.from_residual.result _ (some_time c.in-Some.number c.args.ms c.in-Some.ensures.number.0 (subst (IsTimeNumber c.in-Some.number) fit c.in-Some.ensures.number.1))

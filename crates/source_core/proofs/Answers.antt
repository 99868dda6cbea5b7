-- What follows of an answer from what is known of it.
use Rattle.std.specs.Prelude.{IfErr, IfOk, Result, Ok, Err}
use Rattle.source_core.specs.Answers.{IsReadRefusal}
use Rattle.source_core.specs.declared.error.SourceError.{SourceError}
use Rattle.source_core.specs.declared.error.SourceError.TheVariants as source

pub weaker : (P Q : SourceError → Type 0) → ((e : SourceError) → P e → Q e) → (e : SourceError) → IsReadRefusal P e → IsReadRefusal Q e
weaker P Q to source.Memory h = tt
weaker P Q to source.Absent h = h
weaker P Q to (source.Malformed path) h = to (source.Malformed path) h
weaker P Q to (source.Unsupported feature path) h = to (source.Unsupported feature path) h
weaker P Q to (source.Limit which number) h = to (source.Limit which number) h
weaker P Q to source.StoreFault h = tt

pub errs : {T : Type 0} (r : Result T SourceError) (P Q : SourceError → Type 0) → ((e : SourceError) → P e → Q e) → IfErr r P → IfErr r Q
errs (Ok x) P Q to h = tt
errs (Err e) P Q to h = to e h

pub oks : {T : Type 0} (r : Result T SourceError) (P Q : T → Type 0) → ((x : T) → P x → Q x) → IfOk r P → IfOk r Q
oks (Ok x) P Q to h = to x h
oks (Err e) P Q to h = tt

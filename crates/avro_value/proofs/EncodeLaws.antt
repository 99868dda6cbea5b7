-- What is encoded is a spelling, which is decoded again.
use Rattle.std.proofs.Common.{◌≡◌, ℕ, ◌-◌, ◌≤◌, List, length, Result, Ok, Err, IfOk, slice_range, sym, subst, arith}
use Rattle.std.proofs.lemmas.List.{take_all}
use Rattle.avro_value.specs.declared.error.AvroError.{AvroError}
use Rattle.avro_value.specs.Layout.{Layout}
use Rattle.avro_value.specs.ValueTree.{ValueTree, value_count}
use Rattle.avro_value.specs.Spelling.{Spells}
use Rattle.avro_value.specs.Answers.{Encodes}
use Rattle.avro_value.specs.Laws.{IsSpelled}
use Rattle.avro_value.specs.Fitting.{Fits}
use Rattle.avro_value.proofs.WriteLaws.{written}

pub is_spelled : (l : Layout) (v : ValueTree) (r : Result (List ℕ) AvroError) → Fits l v → Encodes v r → IfOk r (λ b. Spells l v b)
is_spelled l v (Ok b) f e = subst (Spells l v) (sym e.0) (written l v f e.1)
is_spelled l v (Err x) f e = tt

whole : (b : List ℕ) → slice_range b 0 (length b) ≡ b
whole b = take_all (length b - 0) b (omega arith)

pub is_read_back : (limit : ℕ) (l : Layout) (v : ValueTree) (r : Result (List ℕ) AvroError) → IfOk r (λ b. Spells l v b) → IfOk r (λ b. value_count v ≤ limit → IsSpelled limit l b 0 v (length b))
is_read_back limit l v (Ok b) p = λ few. record { after = omega arith; within = omega arith; spelled = subst (Spells l v) (sym (whole b)) p; few = few }
is_read_back limit l v (Err x) p = tt

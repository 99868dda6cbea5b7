-- Text is a run of bytes that passes the test.
use Rattle.std.proofs.Common.{◌≡◌, ℕ, List, Ok, Err, IsUtf8, refl}
use Rattle.std.specs.Str.{is_utf8}
use Rattle.std.proofs.lemmas.Str.{IsUtf8-from_is_utf8, is_utf8-from_IsUtf8}
use Rattle.std.proofs.lemmas.Bool.{false_from_ne_true}
use Rattle.avro_value.specs.declared.fault.Fault.TheVariants.{BadText}
use Rattle.avro_value.specs.Reading.{bytes_at, text_at}

pub text_ok : (input run rest text : List ℕ) → bytes_at input ≡ Ok (run, rest) → text ≡ run → IsUtf8 run → text_at input ≡ Ok (text, rest)
unfolding text_at
text_ok input run rest text e t h = rw (e, is_utf8-from_IsUtf8 run h, t) refl

pub text_err : (input run rest : List ℕ) → bytes_at input ≡ Ok (run, rest) → ¬ (IsUtf8 run) → text_at input ≡ Err BadText
unfolding text_at
text_err input run rest e h = rw (e, false_from_ne_true (is_utf8 run) (λ t. h (IsUtf8-from_is_utf8 run t))) refl

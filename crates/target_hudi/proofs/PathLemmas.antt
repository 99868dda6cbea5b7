-- A path with more behind its name.
use Rattle.std.proofs.Common.{◌≡◌, ⊎_elim, ℕ, ◌<◌, ◌≤◌, false, List, [], ◌∷◌, ◌++◌, length, get_or, All, codes, refl, sym, ap, ◌∙◌, arith, rules}
use Rattle.std.specs.List.{slice_split, onto_first}
use Rattle.std.specs.Str.{IsUtf8}
use Rattle.std.specs.Str.Parse.{AllDigits}
use Rattle.std.proofs.lemmas.Bool.{cases_Bool}
use Rattle.std.proofs.lemmas.Bool.Decides.{nat_tests}
use Rattle.std.proofs.lemmas.Fmt.{IsAscii-from_digits}
use Rattle.std.proofs.lemmas.List.{length-append}
use Rattle.std.proofs.lemmas.List.Elements.{All-append, All-cons, All-from_get_or, All-head, All-nil, All-tail, All-same}
use Rattle.std.proofs.lemmas.List.Splits.{length-slice_split, slice_split-cons_no, slice_split-cons_yes, slice_split_none}
use Rattle.std.proofs.lemmas.Str.{IsUtf8-append, IsUtf8-from_ascii}
use Rattle.std.proofs.lemmas.Str.Parse.{digit_at}
use Rattle.hudi_names.specs.Time.{IsDigits}
use Rattle.table_history.specs.Path.{IsPathOfAnyLength, IsSegment, is_slash}

-- bytes that a name may go on with
pub record IsMore (more : List ℕ) : Type 0 where
  pub utf8 : IsUtf8 more
  pub plain : All (λ b. 32 ≤ b) more
  pub one_part : All (λ b. is_slash b ≡ false) more
  pub long : 3 ≤ length more

long_segment : (segment : List ℕ) → 3 ≤ length segment → IsSegment segment
long_segment segment long = record {
  filled = λ is. let len = ap length is in omega (arith, len, long);
  no_dot = λ is. let len = ap length is in omega (arith, len, long);
  no_dots = λ is. let len = ap length is in omega (arith, len, long);
}

-- the last of the parts goes on
abbrev goes_on : List ℕ → List (List ℕ) → List (List ℕ)
goes_on more [] = []
goes_on more (part ∷ []) = (part ++ more) ∷ []
goes_on more (part ∷ (next ∷ parts)) = part ∷ goes_on more (next ∷ parts)

goes_onto : (b : ℕ) (more : List ℕ) (parts : List (List ℕ)) → 0 < length parts → onto_first b (goes_on more parts) ≡ goes_on more (onto_first b parts)
goes_onto b more [] some = absurd (omega (arith, some))
goes_onto b more (part ∷ []) some = refl
goes_onto b more (part ∷ (next ∷ parts)) some = refl

goes_behind : (more : List ℕ) (parts : List (List ℕ)) → 0 < length parts → [] ∷ goes_on more parts ≡ goes_on more ([] ∷ parts)
goes_behind more [] some = absurd (omega (arith, some))
goes_behind more (part ∷ parts) some = refl

split_more : (path more : List ℕ) → All (λ b. is_slash b ≡ false) more → slice_split is_slash (path ++ more) ≡ goes_on more (slice_split is_slash path)
split_more [] more one = slice_split_none is_slash more one
split_more (b ∷ path) more one =
    let rest = split_more path more one in
    let some : 0 < length (slice_split is_slash path) = omega (arith, length-slice_split is_slash path) in
    ⊎_elim
    (λ slash. slice_split-cons_yes is_slash b (path ++ more) slash ∙ ap (λ l. [] ∷ l) rest ∙ goes_behind more (slice_split is_slash path) some ∙ ap (goes_on more) (sym (slice_split-cons_yes is_slash b path slash)))
    (λ other. slice_split-cons_no is_slash b (path ++ more) other ∙ ap (onto_first b) rest ∙ goes_onto b more (slice_split is_slash path) some ∙ ap (goes_on more) (sym (slice_split-cons_no is_slash b path other)))
    (cases_Bool (is_slash b))

all_go_on : (more : List ℕ) → 3 ≤ length more → (parts : List (List ℕ)) → All IsSegment parts → All IsSegment (goes_on more parts)
all_go_on more long [] all = all
all_go_on more long (part ∷ []) all = All-cons IsSegment (part ++ more) [] (long_segment (part ++ more) (omega (arith, long, length-append part more))) (All-nil IsSegment)
all_go_on more long (part ∷ (next ∷ parts)) all = All-cons IsSegment part (goes_on more (next ∷ parts)) (All-head IsSegment part (next ∷ parts) all) (all_go_on more long (next ∷ parts) (All-tail IsSegment part (next ∷ parts) all))

pub path_more : (path more : List ℕ) → IsPathOfAnyLength path → IsMore more → IsPathOfAnyLength (path ++ more)
path_more path more is goes = record {
  utf8 = IsUtf8-append path more is.utf8 goes.utf8;
  plain = All-append (λ b. 32 ≤ b) path more is.plain goes.plain;
  segments = All-same IsSegment (slice_split is_slash (path ++ more)) (goes_on more (slice_split is_slash path)) (split_more path more goes.one_part) (all_go_on more goes.long (slice_split is_slash path) is.segments);
}

-- ---- the instant and a word for that the file isn't Hudi's

digits_more : (ds : List ℕ) → AllDigits 10 ds → All (λ b. 32 ≤ b) ds × All (λ b. is_slash b ≡ false) ds
digits_more ds are = (
  All-from_get_or (λ b. 32 ≤ b) ds 0 (λ i within. let digit = digit_at ds i are within in omega (arith, digit)),
  All-from_get_or (λ b. is_slash b ≡ false) ds 0 (λ i within. let digit = digit_at ds i are within in not_slash (get_or ds i 0) (omega (arith, digit))),
)
  where
    not_slash : (b : ℕ) → 47 < b → is_slash b ≡ false
    not_slash b above = grind (arith, nat_tests)

pub external_more : (instant : List ℕ) → IsDigits instant → IsMore (codes "_" ++ (instant ++ codes "_hudiext"))
external_more instant digits =
    let front : List ℕ = codes "_" in
    let word : List ℕ = codes "_hudiext" in
    let are = digits_more instant digits.numeral.1 in
    record {
      utf8 = IsUtf8-append front (instant ++ word) (IsUtf8-from_ascii front (search rules)) (IsUtf8-append instant word (IsUtf8-from_ascii instant (IsAscii-from_digits instant digits.numeral.1)) (IsUtf8-from_ascii word (search rules)));
      plain = All-append (λ b. 32 ≤ b) front (instant ++ word) (search rules) (All-append (λ b. 32 ≤ b) instant word are.0 (search rules));
      one_part = All-append (λ b. is_slash b ≡ false) front (instant ++ word) (search rules) (All-append (λ b. is_slash b ≡ false) instant word are.1 (search rules));
      long = omega (arith, length-append front (instant ++ word), length-append instant word, digits.len);
    }

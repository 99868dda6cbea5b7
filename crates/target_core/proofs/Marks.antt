-- A mark's JSON is read as that mark alone.
use Rattle.std.proofs.Common.{◌≡◌, ◌≤◌, ℕ, List, Option, Some, None, Bool, false, true, cond, refl, sym, ◌∙◌, ap, inl, inr, arith}
use Rattle.std.specs.Prelude.{IfOk, IsTrue, Result, Ok, Err}
use Rattle.std.specs.declared.alloc.AllocError.{AllocError}
use Rattle.std.specs.Str.{bytes_eq, is_utf8}
use Rattle.std.proofs.lemmas.Slice.Eq.{bytes_eq-Decides}
use Rattle.serde_json.specs.Data.{Data, depth}
use Rattle.serde_json.specs.Read.{read, max_depth}
use Rattle.serde_json.specs.Written.{compact_text, has_float}
use Rattle.serde_json.specs.Find.{as_str}
use Rattle.json_reading.specs.Json.{IsReadAgain, json, text_or_null_data}
use Rattle.table_history.specs.Words.{kind_word, kind_named}
use Rattle.table_history.specs.declared.kind.Kind.{Kind}
use Rattle.table_history.specs.declared.kind.Kind.TheVariants.{Delta, Iceberg, Hudi}
use Rattle.target_core.specs.declared.mark.Mark.{Mark}
use Rattle.target_core.specs.Mark.{IsMarkData, IsMarkText, candidate, mark_data, earlier_mark_data}

-- what is written has no fraction and nests little

id_no_float : (o : Option (List ℕ)) → has_float (text_or_null_data o) ≡ false
id_no_float None = refl
id_no_float (Some t) = refl

pub mark_no_float : (m : Mark) → has_float (mark_data m) ≡ false
mark_no_float m = rw (id_no_float m.table) refl

id_flat : (o : Option (List ℕ)) → depth (text_or_null_data o) ≡ 0
id_flat None = refl
id_flat (Some t) = refl

pub mark_shallow : (m : Mark) → depth (mark_data m) ≤ max_depth
mark_shallow m = rw (id_flat m.table) (omega arith)

pub earlier_no_float : (m : Mark) → has_float (earlier_mark_data m) ≡ false
earlier_no_float m = refl

pub earlier_shallow : (m : Mark) → depth (earlier_mark_data m) ≤ max_depth
earlier_shallow m = omega arith

-- what bytes are as JSON, they are as a text
pub read_of_json : (bytes : List ℕ) (d : Data) → json bytes ≡ Some d → read bytes ≡ Some d
read_of_json bytes d is = by_test (is_utf8 bytes) is
  where
    by_test : (b : Bool) → cond b (read bytes) None ≡ Some d → read bytes ≡ Some d
    by_test true is = is
    by_test false is = cc

kind_again : (k : Kind) → kind_named (kind_word k) ≡ Some k
kind_again Delta = refl
kind_again Iceberg = refl
kind_again Hudi = refl

id_again : (o : Option (List ℕ)) → as_str (text_or_null_data o) ≡ o
id_again None = refl
id_again (Some t) = refl

candidate_again : (m : Mark) → candidate (mark_data m) ≡ Some m
candidate_again m = rw (kind_again m.source, id_again m.table) refl

candidate_earlier : (m : Mark) → m.table ≡ None → candidate (earlier_mark_data m) ≡ Some m
candidate_earlier m none = rw (kind_again m.source, ← none) refl

pub candidate_is : (d : Data) (m : Mark) → IsMarkData d m → candidate d ≡ Some m
candidate_is d m (inl is) = ap candidate is ∙ candidate_again m
candidate_is d m (inr is) = ap candidate is.1 ∙ candidate_earlier m is.0

-- the text that is written is read as the mark
pub written_again : (r : Result (List ℕ) AllocError) (d : Data) (m : Mark) → d ≡ mark_data m → IfOk r (λ t. has_float d ≡ false → t ≡ compact_text d)
    → IfOk r (λ t. has_float d ≡ false → depth d ≤ max_depth → IsReadAgain d) → IfOk r (λ t. IsMarkText t m)
written_again (Ok t) d m is text again =
    let whole : has_float d ≡ false = rw is (mark_no_float m) in
    let shallow : depth d ≤ max_depth = rw is (mark_shallow m) in
    (d, ap read (text whole) ∙ read_of_json (compact_text d) d (again whole shallow), inl is)
written_again (Err e) d m is text again = tt

-- Two values are one exactly where their texts are.
pub same_by_text : (b : Bool) (x y s t : List ℕ) (d e : Data) → b ≡ bytes_eq x y → x ≡ s → y ≡ t → read s ≡ Some d → read t ≡ Some e → (has_float d ≡ false → s ≡ compact_text d) → (has_float e ≡ false → t ≡ compact_text e) → has_float e ≡ false
    → (IsTrue b → d ≡ e) × (d ≡ e → IsTrue b)
same_by_text b x y s t d e is first second reads other_reads text other_text whole = (
  λ yes.
      let one : x ≡ y = (bytes_eq-Decides x y).0 (sym is ∙ yes) in
      let both : Some d ≡ Some e = sym reads ∙ ap read (sym first ∙ one ∙ second) ∙ other_reads in
      cc,
  λ one.
      let texts : s ≡ t = text (ap has_float one ∙ whole) ∙ ap compact_text one ∙ sym (other_text whole) in
      is ∙ (bytes_eq-Decides x y).1 (first ∙ texts ∙ sym second),
)

-- A text is one mark at most.
pub one_mark : (text : List ℕ) (m n : Mark) → IsMarkText text m → IsMarkText text n → m ≡ n
one_mark text m n one other =
    let reads : Some one.0 ≡ Some other.0 = sym one.1 ∙ other.1 in
    let same : one.0 ≡ other.0 = cc in
    let both : Some m ≡ Some n = sym (candidate_is one.0 m one.2) ∙ ap candidate same ∙ candidate_is other.0 n other.2 in
    cc

-- The natural lines of a text are just those that it is cut into.
use Rattle.std.proofs.Common.{◌≡◌, inl, inr, ℕ, List, [], ◌∷◌, ◌++◌, Bool, true, false, refl, sym, ap, subst, ◌∙◌, arith, All}
use Rattle.std.specs.Prelude.{◌==◌}
use Rattle.std.proofs.lemmas.Bool.Decides.{nat_tests}
use Rattle.std.proofs.lemmas.List.{append-nil}
use Rattle.std.proofs.lemmas.List.Elements.{All-nil, All-cons, All-head, All-tail}
use Rattle.hudi_properties.specs.Lines.{is_line_end, onto_first, lines_after, natural_lines}
use Rattle.hudi_properties.specs.Grammar.{Begins, IsTerminator, IsInLine, IsFirstLine, AreNaturalLines}
use Rattle.hudi_properties.proofs.LineLemmas.{fresh}

-- ---- a text of these lines is cut into them

inside_line : (b : ℕ) → IsInLine b → is_line_end b ≡ false
inside_line b h =
    let a = h.0 in let c = h.1 in
    let first : (b == 10) ≡ false = grind (arith, nat_tests, a) in
    let second : (b == 13) ≡ false = grind (arith, nat_tests, c) in
    rw (first, second) refl

plain_front : (line rest l : List ℕ) (ls : List (List ℕ)) → All IsInLine line → lines_after false rest ≡ l ∷ ls → lines_after false (line ++ rest) ≡ (line ++ l) ∷ ls
plain_front [] rest l ls inside e = e
plain_front (b ∷ line) rest l ls inside e =
    let goes_on : is_line_end b ≡ false = inside_line b (All-head IsInLine b line inside) in
    let cut : lines_after false (b ∷ (line ++ rest)) ≡ onto_first b (lines_after false (line ++ rest)) = rw goes_on in
    cut ∙ ap (onto_first b) (plain_front line rest l ls (All-tail IsInLine b line inside) e)

ended : (t behind : List ℕ) → IsTerminator t → (t ≡ 13 ∷ [] → Begins (λ b. b ≡ 10) behind → ⊥) → lines_after false (t ++ behind) ≡ [] ∷ lines_after false behind
ended t behind (inl is) whole = ap (λ x. lines_after false (x ++ behind)) is
ended t behind (inr (inl is)) whole =
    ap (λ x. lines_after false (x ++ behind)) is
    ∙ ap (λ ls. [] ∷ ls) (fresh 13 behind (λ c cs at _ ten. whole is (subst (Begins (λ b. b ≡ 10)) (sym at) ten)))
ended t behind (inr (inr is)) whole = ap (λ x. lines_after false (x ++ behind)) is

first_cut : (bytes line behind : List ℕ) → IsFirstLine bytes line behind → lines_after false bytes ≡ line ∷ lines_after false behind
first_cut bytes line behind h =
    ap (lines_after false) h.split
    ∙ plain_front line (h.terminator ++ behind) [] (lines_after false behind) h.inside (ended h.terminator behind h.ends h.whole)
    ∙ ap (λ l. l ∷ lines_after false behind) (append-nil line)

cut : (bytes : List ℕ) (lines : List (List ℕ)) → AreNaturalLines bytes lines → lines_after false bytes ≡ lines
cut bytes [] h = absurd h
cut bytes (line ∷ []) h =
    ap (lines_after false) (h.0 ∙ sym (append-nil line)) ∙ plain_front line [] [] [] h.1 refl ∙ ap (λ l. l ∷ []) (append-nil line)
cut bytes (line ∷ next ∷ lines) h = first_cut bytes line h.0 h.1 ∙ ap (λ ls. line ∷ ls) (cut h.0 (next ∷ lines) h.2)

pub natural_once : (bytes : List ℕ) (lines : List (List ℕ)) → AreNaturalLines bytes lines → natural_lines bytes ≡ lines
unfolding natural_lines
natural_once bytes lines h = cut bytes lines h

-- ---- a text has the lines that it is cut into

empty_first : (bytes behind : List ℕ) (lines : List (List ℕ)) → IsFirstLine bytes [] behind → AreNaturalLines behind lines → AreNaturalLines bytes ([] ∷ lines)
empty_first bytes behind [] first h = absurd h
empty_first bytes behind (line ∷ lines) first h = (behind, first, h)

one_more : (b : ℕ) (bytes : List ℕ) (lines : List (List ℕ)) → IsInLine b → AreNaturalLines bytes lines → AreNaturalLines (b ∷ bytes) (onto_first b lines)
one_more b bytes [] inside h = absurd h
one_more b bytes (line ∷ []) inside h = (ap (λ l. b ∷ l) h.0, All-cons IsInLine b line inside h.1)
one_more b bytes (line ∷ next ∷ lines) inside h =
    let first = h.1 in (
      h.0,
      record { terminator = first.terminator; split = ap (λ l. b ∷ l) first.split; inside = All-cons IsInLine b line inside first.inside; ends = first.ends; whole = first.whole },
      h.2,
    )

-- Behind a return the lines are those of the text with it in front.
AreCut : List ℕ → Type 0
AreCut bytes = AreNaturalLines bytes (lines_after false bytes) × AreNaturalLines (13 ∷ bytes) ([] ∷ lines_after true bytes)

newline : (bytes : List ℕ) → IsFirstLine (10 ∷ bytes) [] bytes
newline bytes = record { terminator = 10 ∷ []; split = refl; inside = All-nil IsInLine; ends = inl refl; whole = λ is. absurd (cc) }

return : (bytes : List ℕ) → (Begins (λ b. b ≡ 10) bytes → ⊥) → IsFirstLine (13 ∷ bytes) [] bytes
return bytes other = record { terminator = 13 ∷ []; split = refl; inside = All-nil IsInLine; ends = inr (inl refl); whole = λ _. other }

both : (bytes : List ℕ) → IsFirstLine (13 ∷ 10 ∷ bytes) [] bytes
both bytes = record { terminator = 13 ∷ 10 ∷ []; split = refl; inside = All-nil IsInLine; ends = inr (inr refl); whole = λ is. absurd (cc) }

plain_by : (b : ℕ) (bytes : List ℕ) (x y : Bool) → (b == 10) ≡ x → (b == 13) ≡ y → AreCut bytes → AreNaturalLines (b ∷ bytes) (lines_after false (b ∷ bytes))
unfolding AreCut
plain_by b bytes true y p q h =
    let is : 10 ≡ b = grind (arith, nat_tests) in
    subst (λ c. AreNaturalLines (c ∷ bytes) (lines_after false (c ∷ bytes))) is (empty_first (10 ∷ bytes) bytes (lines_after false bytes) (newline bytes) h.0)
plain_by b bytes false true p q h =
    let is : 13 ≡ b = grind (arith, nat_tests) in
    subst (λ c. AreNaturalLines (c ∷ bytes) (lines_after false (c ∷ bytes))) is h.1
plain_by b bytes false false p q h =
    let inside : IsInLine b = ((λ is. absurd (grind (arith, nat_tests))), (λ is. absurd (grind (arith, nat_tests)))) in
    rw (p, q) (one_more b bytes (lines_after false bytes) inside h.0)

after_by : (b : ℕ) (bytes : List ℕ) (x : Bool) → (b == 10) ≡ x → AreCut bytes → AreNaturalLines (b ∷ bytes) (lines_after false (b ∷ bytes)) → AreNaturalLines (13 ∷ b ∷ bytes) ([] ∷ lines_after true (b ∷ bytes))
unfolding AreCut
after_by b bytes true p h plain =
    let is : 10 ≡ b = grind (arith, nat_tests) in
    subst (λ c. AreNaturalLines (13 ∷ c ∷ bytes) ([] ∷ lines_after true (c ∷ bytes))) is (empty_first (13 ∷ 10 ∷ bytes) bytes (lines_after false bytes) (both bytes) h.0)
after_by b bytes false p h plain =
    let same : lines_after true (b ∷ bytes) ≡ lines_after false (b ∷ bytes) = rw p in
    subst (λ ls. AreNaturalLines (13 ∷ b ∷ bytes) ([] ∷ ls)) (sym same)
    (empty_first (13 ∷ b ∷ bytes) (b ∷ bytes) (lines_after false (b ∷ bytes)) (return (b ∷ bytes) (λ is. absurd (grind (arith, nat_tests)))) plain)

are_cut : (bytes : List ℕ) → AreCut bytes
unfolding AreCut
are_cut [] = ((refl, All-nil IsInLine), ([], return [] (λ is. is), (refl, All-nil IsInLine)))
are_cut (b ∷ bytes) =
    let rest = are_cut bytes in
    let plain = plain_by b bytes (b == 10) (b == 13) refl refl rest in
    (plain, after_by b bytes (b == 10) refl rest plain)

pub natural_are : (bytes : List ℕ) → AreNaturalLines bytes (natural_lines bytes)
unfolding natural_lines AreCut
natural_are bytes = (are_cut bytes).0

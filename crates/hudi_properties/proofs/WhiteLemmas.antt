-- White space and backslashes, as tests and as they stand in the bytes.
use Rattle.std.proofs.Common.{◌≡◌, ◌≢◌, ◌⊎◌, ℕ, zero, suc, ◌-◌, List, [], ◌∷◌, ◌++◌, length, take, drop, Bool, true, false, refl, sym, ap, subst, ◌∙◌, append_assoc, length-append, arith, All}
use Rattle.std.specs.Prelude.{◌==◌, take_while}
use Rattle.std.proofs.Math.Seq.{take-append_seam}
use Rattle.std.proofs.lemmas.Bool.{false_from_ne_true}
use Rattle.std.proofs.lemmas.Bool.Decides.{nat_tests, not_from_Decides, Decides-eqb, Decides-or}
use Rattle.std.specs.Bool.{Decides}
use Rattle.std.proofs.lemmas.List.Sums.{take_while-cons}
use Rattle.std.proofs.lemmas.List.Elements.{All-nil, All-cons, All-head, All-tail}
use Rattle.hudi_properties.specs.Lines.{is_white, trimmed, is_comment, escapes, ends_escaped}
use Rattle.hudi_properties.specs.Grammar.{Begins, IsWhite, IsBehindWhite, IsComment, backslash_pairs, EscapesNext}

-- ---- white space

pub white_decides : (b : ℕ) → Decides (is_white b) (IsWhite b)
white_decides b = Decides-or _ _ (Decides-or _ _ (Decides-eqb b 32) (Decides-eqb b 9)) (Decides-eqb b 12)

-- What is denied fails its test.
pub denied : {P : Type 0} (test : Bool) → Decides test P → (P → ⊥) → test ≡ false
denied test d deny = false_from_ne_true test (λ e. deny (d.0 e))

trimmed_white : (b : ℕ) (bs : List ℕ) → is_white b ≡ true → trimmed (b ∷ bs) ≡ trimmed bs
trimmed_white b bs is =
    let len : length (take_while is_white (b ∷ bs)) ≡ suc (length (take_while is_white bs)) = ap length (take_while-cons is_white b bs) ∙ rw is in
    ap (λ n. drop n (b ∷ bs)) len

trimmed_other : (b : ℕ) (bs : List ℕ) → is_white b ≡ false → trimmed (b ∷ bs) ≡ b ∷ bs
trimmed_other b bs is =
    let len : length (take_while is_white (b ∷ bs)) ≡ 0 = ap length (take_while-cons is_white b bs) ∙ rw is in
    ap (λ n. drop n (b ∷ bs)) len

white_more : (b : ℕ) (bs rest : List ℕ) → IsWhite b → IsBehindWhite bs rest → IsBehindWhite (b ∷ bs) rest
white_more b bs rest is h = record { white = b ∷ h.white; split = ap (λ l. b ∷ l) h.split; skipped = All-cons IsWhite b h.white is h.skipped; ends = h.ends }

white_none : (bs : List ℕ) → (Begins IsWhite bs → ⊥) → IsBehindWhite bs bs
white_none bs other = record { white = []; split = refl; skipped = All-nil IsWhite; ends = other }

behind_by : (b : ℕ) (bs : List ℕ) (x : Bool) → is_white b ≡ x → IsBehindWhite bs (trimmed bs) → IsBehindWhite (b ∷ bs) (trimmed (b ∷ bs))
behind_by b bs true is h = subst (IsBehindWhite (b ∷ bs)) (sym (trimmed_white b bs is)) (white_more b bs (trimmed bs) ((white_decides b).0 is) h)
behind_by b bs false is h = subst (IsBehindWhite (b ∷ bs)) (sym (trimmed_other b bs is)) (white_none (b ∷ bs) (not_from_Decides (is_white b) (white_decides b) is))

pub behind_white : (bs : List ℕ) → IsBehindWhite bs (trimmed bs)
behind_white [] = white_none [] (λ h. h)
behind_white (b ∷ bs) = behind_by b bs (is_white b) refl (behind_white bs)

unwhite : (rest : List ℕ) → (Begins IsWhite rest → ⊥) → trimmed rest ≡ rest
unwhite [] other = refl
unwhite (b ∷ bs) other = trimmed_other b bs (denied (is_white b) (white_decides b) other)

skip_white : (white rest : List ℕ) → All IsWhite white → (Begins IsWhite rest → ⊥) → trimmed (white ++ rest) ≡ rest
skip_white [] rest all other = unwhite rest other
skip_white (b ∷ white) rest all other =
    trimmed_white b (white ++ rest) ((white_decides b).1 (All-head IsWhite b white all)) ∙ skip_white white rest (All-tail IsWhite b white all) other

pub trimmed_once : (bs rest : List ℕ) → IsBehindWhite bs rest → trimmed bs ≡ rest
trimmed_once bs rest h = ap trimmed h.split ∙ skip_white h.white rest h.skipped h.ends

-- ---- comments

mark_decides : (rest : List ℕ) → Decides (is_comment rest) (Begins (λ b. (b ≡ 35) ⊎ (b ≡ 33)) rest)
mark_decides [] = ((λ e. absurd (cc)), λ h. absurd h)
mark_decides (b ∷ bs) = Decides-or _ _ (Decides-eqb b 35) (Decides-eqb b 33)

pub comment_decides : (line : List ℕ) → Decides (is_comment (trimmed line)) (IsComment line)
comment_decides line = (
  λ e. (trimmed line, behind_white line, (mark_decides (trimmed line)).0 e),
  λ h. ap is_comment (trimmed_once line h.0 h.1) ∙ (mark_decides h.0).1 h.2,
)

-- ---- backslashes

pub ends-append : (s : Bool) (xs ys : List ℕ) → ends_escaped s (xs ++ ys) ≡ ends_escaped (ends_escaped s xs) ys
ends-append s [] ys = refl
ends-append s (x ∷ xs) ys = ends-append (escapes s x) xs ys

pairs_cancel : (s : Bool) (n : ℕ) → ends_escaped s (backslash_pairs n) ≡ s
pairs_cancel s zero = refl
pairs_cancel true (suc n) = pairs_cancel true n
pairs_cancel false (suc n) = pairs_cancel false n

other_escapes : (s : Bool) (b : ℕ) → b ≢ 92 → escapes s b ≡ false
other_escapes true b other = refl
other_escapes false b other = let no : (b == 92) ≡ false = grind (arith, nat_tests, other) in rw no refl

unescaped_end : (bs : List ℕ) (s : Bool) → ((start : List ℕ) → bs ≡ start ++ 92 ∷ [] → ⊥) → (bs ≡ [] → s ≡ false) → ends_escaped s bs ≡ false
unescaped_end [] s other empty = empty refl
unescaped_end (b ∷ bs) s other empty =
    unescaped_end bs (escapes s b) (λ start e. other (b ∷ start) (ap (λ l. b ∷ l) e)) (λ none. other_escapes s b (λ is. other [] (λ i. is i ∷ none i)))

escaped_of : (bs : List ℕ) → EscapesNext bs → ends_escaped false bs ≡ true
escaped_of bs h =
    ap (ends_escaped false) h.split ∙ ends-append false h.front (92 ∷ backslash_pairs h.pairs)
    ∙ ap (λ s. ends_escaped s (92 ∷ backslash_pairs h.pairs)) (unescaped_end h.front false h.all (λ _. refl)) ∙ pairs_cancel true h.pairs

run : Bool → ℕ → List ℕ
run true n = 92 ∷ backslash_pairs n
run false n = backslash_pairs n

-- the backslashes at the end, and what stands before them
record Ended (bs : List ℕ) : Type 0 where
  odd : Bool
  front : List ℕ
  pairs : ℕ
  split : bs ≡ front ++ run odd pairs
  all : (start : List ℕ) → front ≡ start ++ 92 ∷ [] → ⊥

one_end : (b : ℕ) → b ≢ 92 → (start : List ℕ) → b ∷ [] ≡ start ++ 92 ∷ [] → ⊥
one_end b other [] e = other (cc)
one_end b other (x ∷ []) e = absurd (cc)
one_end b other (x ∷ y ∷ start) e = absurd (cc)

more_end : (b c : ℕ) (cs : List ℕ) → ((start : List ℕ) → c ∷ cs ≡ start ++ 92 ∷ [] → ⊥) → (start : List ℕ) → b ∷ c ∷ cs ≡ start ++ 92 ∷ [] → ⊥
more_end b c cs all [] e = absurd (cc)
more_end b c cs all (x ∷ start) e = all start (cc)

no_end : (start : List ℕ) → [] ≡ start ++ 92 ∷ [] → ⊥
no_end [] e = absurd (cc)
no_end (x ∷ start) e = absurd (cc)

longer_run : (o : Bool) (n : ℕ) → Ended (92 ∷ run o n)
unfolding run
longer_run true n = record { odd = false; front = []; pairs = suc n; split = refl; all = no_end }
longer_run false n = record { odd = true; front = []; pairs = n; split = refl; all = no_end }

ended_by : (b : ℕ) (bs front : List ℕ) (o : Bool) (n : ℕ) (x : Bool) → (b == 92) ≡ x → bs ≡ front ++ run o n → ((start : List ℕ) → front ≡ start ++ 92 ∷ [] → ⊥) → Ended (b ∷ bs)
ended_by b bs [] o n true is split all =
    let same : 92 ≡ b = grind (arith, nat_tests) in
    subst (λ (l : List ℕ). Ended l) (λ i. same i ∷ sym split i) (longer_run o n)
ended_by b bs [] o n false is split all =
    record { odd = o; front = b ∷ []; pairs = n; split = ap (λ l. b ∷ l) split; all = one_end b (λ e. absurd (grind (arith, nat_tests))) }
ended_by b bs (c ∷ cs) o n x is split all = record { odd = o; front = b ∷ c ∷ cs; pairs = n; split = ap (λ l. b ∷ l) split; all = more_end b c cs all }

end_of : (bs : List ℕ) → Ended bs
unfolding run
end_of [] = record { odd = false; front = []; pairs = 0; split = refl; all = no_end }
end_of (b ∷ bs) = let e = end_of bs in ended_by b bs e.front e.odd e.pairs (b == 92) refl e.split e.all

escaped_by : (bs front : List ℕ) (o : Bool) (n : ℕ) → bs ≡ front ++ run o n → ((start : List ℕ) → front ≡ start ++ 92 ∷ [] → ⊥) → ends_escaped false bs ≡ true → EscapesNext bs
unfolding run
escaped_by bs front true n split all h = record { front = front; pairs = n; split = split; all = all }
escaped_by bs front false n split all h =
    let even : ends_escaped false bs ≡ false =
    ap (ends_escaped false) split ∙ ends-append false front (backslash_pairs n) ∙ ap (λ s. ends_escaped s (backslash_pairs n)) (unescaped_end front false all (λ _. refl)) ∙ pairs_cancel false n in
    absurd (cc)

escaped_is : (bs : List ℕ) → ends_escaped false bs ≡ true → EscapesNext bs
escaped_is bs h = let e = end_of bs in escaped_by bs e.front e.odd e.pairs e.split e.all h

pub escaped_decides : (bs : List ℕ) → Decides (ends_escaped false bs) (EscapesNext bs)
escaped_decides bs = (escaped_is bs, escaped_of bs)

turned : (n : ℕ) → 92 ∷ backslash_pairs n ≡ backslash_pairs n ++ 92 ∷ []
turned zero = refl
turned (suc n) = ap (λ l. 92 ∷ 92 ∷ l) (turned n)

-- The last byte is the backslash that escapes what comes.
pub last_escapes : (bs : List ℕ) → EscapesNext bs → (part : List ℕ) × (bs ≡ part ++ 92 ∷ [])
last_escapes bs h =
    (h.front ++ backslash_pairs h.pairs, h.split ∙ ap (λ l. h.front ++ l) (turned h.pairs) ∙ sym (append_assoc h.front (backslash_pairs h.pairs) (92 ∷ [])))

pub without_last : (part : List ℕ) (b : ℕ) → take (length (part ++ b ∷ []) - 1) (part ++ b ∷ []) ≡ part
without_last part b =
    let len : length (part ++ b ∷ []) - 1 ≡ length part = rw length-append (omega arith) in
    ap (λ n. take n (part ++ b ∷ [])) len ∙ take-append_seam part (b ∷ [])

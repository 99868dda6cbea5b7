-- The key and the element of a line are just those that it is cut into.
use Rattle.std.proofs.Common.{◌≡◌, ◌⊎◌, inl, inr, ⊎_elim, ℕ, ◌+◌, List, [], ◌∷◌, ◌++◌, length, take, drop, Bool, true, false, cond, not, refl, sym, ap, subst, ◌∙◌, append_assoc, arith}
use Rattle.std.specs.Prelude.{◌&&◌}
use Rattle.std.proofs.Math.Seq.{take-append_seam, drop-append_seam}
use Rattle.std.proofs.lemmas.Bool.{and_parts}
use Rattle.std.proofs.lemmas.Bool.Decides.{not_from_Decides, Decides-eqb, Decides-or}
use Rattle.std.specs.Bool.{Decides}
use Rattle.std.proofs.lemmas.List.{append-nil}
use Rattle.hudi_properties.specs.Lines.{trimmed, escapes, ends_escaped}
use Rattle.hudi_properties.specs.Pairs.{is_separator, is_key_end, key_len, behind_separator, value_of}
use Rattle.hudi_properties.specs.Grammar.{Begins, IsBehindWhite, EscapesNext, IsSeparator, EndsKey, IsKey, IsElement}
use Rattle.hudi_properties.proofs.WhiteLemmas.{white_decides, denied, behind_white, trimmed_once, ends-append, escaped_decides}

-- ---- tests

separator_decides : (b : ℕ) → Decides (is_separator b) (IsSeparator b)
separator_decides b = Decides-or _ _ (Decides-eqb b 61) (Decides-eqb b 58)

key_end_decides : (b : ℕ) → Decides (is_key_end b) (EndsKey b)
key_end_decides b = Decides-or _ _ (separator_decides b) (white_decides b)

-- ---- keys

-- These bytes stand behind the front of a line, and a key reaches up to what is behind.
abbrev Stops : List ℕ → List ℕ → List ℕ → Type 0
Stops front key behind = (behind ≡ []) ⊎ (Begins EndsKey behind × (EscapesNext (front ++ key) → ⊥))

abbrev IsWithin : List ℕ → List ℕ → Type 0
IsWithin front key = (start : List ℕ) (b : ℕ) (more : List ℕ) → key ≡ start ++ b ∷ more → EndsKey b → EscapesNext (front ++ start)

same_end : (front : List ℕ) (s : Bool) (b : ℕ) → s ≡ ends_escaped false front → escapes s b ≡ ends_escaped false (front ++ b ∷ [])
same_end front s b is = ap (λ x. escapes x b) is ∙ sym (ends-append false front (b ∷ []))

-- an escaped byte ends no key
stays_by : (front : List ℕ) (s : Bool) (b : ℕ) → s ≡ ends_escaped false front → (EndsKey b → EscapesNext (front ++ [])) → (not s && is_key_end b) ≡ false
stays_by front true b is escaped = refl
stays_by front false b is escaped =
    denied (is_key_end b) (key_end_decides b) (λ ends. let next = (escaped_decides front).1 (subst EscapesNext (append-nil front) (escaped ends)) in cc)

stops_here : (front behind : List ℕ) (s : Bool) → s ≡ ends_escaped false front → Stops front [] behind → key_len s behind ≡ 0
stops_here front [] s is ends = refl
stops_here front (b ∷ behind) s is (inl none) = absurd (cc)
stops_here front (b ∷ behind) s is (inr ends) =
    let open_end : ends_escaped false front ≡ false = denied (ends_escaped false front) (escaped_decides front) (λ h. ends.1 (subst EscapesNext (sym (append-nil front)) h)) in
    let free : s ≡ false = is ∙ open_end in
    rw (free, (key_end_decides b).1 ends.0) refl

key_reach : (front key behind : List ℕ) (s : Bool) → s ≡ ends_escaped false front → IsWithin front key → Stops front key behind → key_len s (key ++ behind) ≡ length key
key_reach front [] behind s is within ends = stops_here front behind s is ends
key_reach front (b ∷ key) behind s is within ends =
    let stays = stays_by front s b is (within [] b key refl) in
    let rest = key_reach (front ++ b ∷ []) key behind (escapes s b) (same_end front s b is)
    (λ start c more e end. subst EscapesNext (sym (append_assoc front (b ∷ []) start)) (within (b ∷ start) c more (ap (λ l. b ∷ l) e) end))
    (⊎_elim (λ none. inl none) (λ h. inr (h.0, λ g. h.1 (subst EscapesNext (append_assoc front (b ∷ []) key) g))) ends) in
    let one : key_len s (b ∷ (key ++ behind)) ≡ 1 + key_len (escapes s b) (key ++ behind) = rw stays refl in
    one ∙ omega (arith, rest)

pub key_once : (line key behind : List ℕ) → IsKey line key behind → (take (key_len false line) line ≡ key) × (drop (key_len false line) line ≡ behind)
key_once line key behind h =
    let len : key_len false line ≡ length key = ap (key_len false) h.split ∙ key_reach [] key behind false refl h.first h.ends in (
      (λ i. take (len i) (h.split i)) ∙ take-append_seam key behind,
      (λ i. drop (len i) (h.split i)) ∙ drop-append_seam key behind,
    )

record Reaches (front rest : List ℕ) (s : Bool) : Type 0 where
  key : List ℕ
  behind : List ℕ
  split : rest ≡ key ++ behind
  ends : Stops front key behind
  within : IsWithin front key
  len : key_len s rest ≡ length key

none_within : (start : List ℕ) (b : ℕ) (more : List ℕ) → [] ≡ start ++ b ∷ more → ⊥
none_within [] b more e = absurd (cc)
none_within (x ∷ start) b more e = absurd (cc)

within_more : (front key : List ℕ) (b : ℕ) (s : Bool) → s ≡ ends_escaped false front → (not s && is_key_end b) ≡ false → IsWithin (front ++ b ∷ []) key → IsWithin front (b ∷ key)
within_more front key b true is stays within [] c more e end = (escaped_decides (front ++ [])).0 (subst (λ l. ends_escaped false l ≡ true) (sym (append-nil front)) (sym is))
within_more front key b false is stays within [] c more e end = let same : c ≡ b = cc in let yes = (key_end_decides b).1 (subst EndsKey same end) in absurd (cc)
within_more front key b s is stays within (x ∷ start) c more e end =
    let same : b ≡ x = cc in
    subst (λ y. EscapesNext (front ++ y ∷ start)) same (subst EscapesNext (append_assoc front (b ∷ []) start) (within start c more (cc) end))

reaches : (rest front : List ℕ) (s : Bool) → s ≡ ends_escaped false front → Reaches front rest s
reaches [] front s is = record { key = []; behind = []; split = refl; ends = inl refl; within = λ start b more e _. absurd (none_within start b more e); len = refl }
reaches (b ∷ bs) front s is = by (not s && is_key_end b) refl (reaches bs (front ++ b ∷ []) (escapes s b) (same_end front s b is))
  where
    by : (x : Bool) → (not s && is_key_end b) ≡ x → Reaches (front ++ b ∷ []) bs (escapes s b) → Reaches front (b ∷ bs) s
    by true stop rest =
        let parts = and_parts (not s) (is_key_end b) stop in
        record {
          key = [];
          behind = b ∷ bs;
          split = refl;
          ends = inr ((key_end_decides b).0 parts.1, λ h. let next = (escaped_decides front).1 (subst EscapesNext (append-nil front) h) in let free = parts.0 in let taken : s ≡ true = is ∙ next in let no = rw taken at free in absurd (cc));
          within = λ start c more e _. absurd (none_within start c more e);
          len = rw stop refl;
        }
    by false stays rest =
        let one : key_len s (b ∷ bs) ≡ 1 + key_len (escapes s b) bs = rw stays refl in
        let more = rest.len in
        record {
          key = b ∷ rest.key;
          behind = rest.behind;
          split = ap (λ l. b ∷ l) rest.split;
          ends = ⊎_elim (λ none. inl none) (λ h. inr (h.0, λ g. h.1 (subst EscapesNext (sym (append_assoc front (b ∷ []) rest.key)) g))) rest.ends;
          within = within_more front rest.key b s is stays rest.within;
          len = one ∙ omega (arith, more);
        }

pub key_is : (line : List ℕ) → IsKey line (take (key_len false line) line) (drop (key_len false line) line)
key_is line =
    let r = reaches line [] false refl in
    let h : IsKey line r.key r.behind = record { split = r.split; ends = r.ends; first = r.within } in
    let parts = key_once line r.key r.behind h in
    subst (λ k. IsKey line k (drop (key_len false line) line)) (sym parts.0) (subst (IsKey line r.key) (sym parts.1) h)

-- ---- elements

abbrev HasElement : List ℕ → List ℕ → Type 0
HasElement rest element = ((Begins IsSeparator rest → ⊥) × (element ≡ rest)) ⊎ ((b : ℕ) × (more : List ℕ) × (rest ≡ b ∷ more) × IsSeparator b × IsBehindWhite more element)

element_by : (b : ℕ) (bs : List ℕ) (x : Bool) → is_separator b ≡ x → HasElement (b ∷ bs) (cond x (trimmed bs) (b ∷ bs))
element_by b bs true is = inr (b, bs, refl, (separator_decides b).0 is, behind_white bs)
element_by b bs false is = inl (not_from_Decides (is_separator b) (separator_decides b) is, refl)

element_behind : (rest : List ℕ) → HasElement rest (behind_separator rest)
element_behind [] = inl ((λ h. h), refl)
element_behind (b ∷ bs) = element_by b bs (is_separator b) refl

pub element_is : (behind : List ℕ) → IsElement behind (value_of behind)
element_is behind = (trimmed behind, behind_white behind, element_behind (trimmed behind))

no_separator : (rest : List ℕ) → (Begins IsSeparator rest → ⊥) → behind_separator rest ≡ rest
no_separator [] other = refl
no_separator (b ∷ bs) other = let no = denied (is_separator b) (separator_decides b) other in rw no refl

element_of : (rest element : List ℕ) → HasElement rest element → behind_separator rest ≡ element
element_of rest element (inl h) = no_separator rest h.0 ∙ sym h.1
element_of rest element (inr h) =
    let one : behind_separator (h.0 ∷ h.1) ≡ trimmed h.1 = rw ((separator_decides h.0).1 h.3) refl in
    ap behind_separator h.2 ∙ one ∙ trimmed_once h.1 element h.4

pub element_once : (behind element : List ℕ) → IsElement behind element → value_of behind ≡ element
element_once behind element h = ap behind_separator (trimmed_once behind h.0 h.1) ∙ element_of h.0 element h.2

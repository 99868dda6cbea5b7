-- Words that spell a form, and words that spell none.
use Rattle.std.proofs.Common.{◌≡◌, ◌≢◌, ◌<◌, ◌^◌, ℕ, ◌+◌, ◌==◌, List, [], Bool, true, false, length, get_or, Option, Some, None, refl, sym, ◌∙◌, ap, subst, arith}
use Rattle.std.specs.Prelude.{MatchOption, if◌then◌else◌}
use Rattle.std.specs.Fmt.{decimal}
use Rattle.std.specs.Str.Parse.{digits_value}
use Rattle.std.proofs.lemmas.Fmt.{decimal_is_IsNumeral}
use Rattle.table_history.specs.declared.kind.Kind.{Kind}
use Rattle.sync_driver.specs.declared.words.Verb.{Verb}
use Rattle.sync_driver.specs.declared.words.Verb.TheVariants as verb
use Rattle.sync_driver.specs.declared.words.Form.{Form}
use Rattle.sync_driver.specs.declared.words.Form.TheVariants.{Sync, Full, Show, Check, Sweep, Compact, Drill}
use Rattle.sync_driver.specs.Forms.{Words, word, kind_at, verb_word, Spells, plain_by, single_by, pair_by, triple_by}

-- ---- a form's verb, and how many words it has

abbrev pub verb_of : Form → Verb
verb_of (Sync f t u) = verb.Sync
verb_of (Full f t u) = verb.Full
verb_of (Show f) = verb.Show
verb_of (Check f t) = verb.Check
verb_of (Sweep t) = verb.Sweep
verb_of Compact = verb.Compact
verb_of (Drill n) = verb.Drill

abbrev pub words_of : Form → ℕ
words_of (Sync f t None) = 4
words_of (Sync f t (Some u)) = 5
words_of (Full f t None) = 4
words_of (Full f t (Some u)) = 5
words_of (Show f) = 3
words_of (Check f t) = 4
words_of (Sweep t) = 3
words_of Compact = 2
words_of (Drill n) = 3

pub verb_there : (words : Words) (form : Form) → Spells words form → word words 1 ≡ Some (verb_word (verb_of form))
verb_there words (Sync f t None) is = is.0.1
verb_there words (Sync f t (Some u)) is = is.0.1
verb_there words (Full f t None) is = is.0.1
verb_there words (Full f t (Some u)) is = is.0.1
verb_there words (Show f) is = is.1
verb_there words (Check f t) is = is.0.1
verb_there words (Sweep t) is = is.1
verb_there words Compact is = is.1
verb_there words (Drill n) is = is.1

pub words_there : (words : Words) (form : Form) → Spells words form → length words ≡ words_of form
words_there words (Sync f t None) is = is.0.0
words_there words (Sync f t (Some u)) is = is.0.0
words_there words (Full f t None) is = is.0.0
words_there words (Full f t (Some u)) is = is.0.0
words_there words (Show f) is = is.0
words_there words (Check f t) is = is.0.0
words_there words (Sweep t) is = is.0
words_there words Compact is = is.0
words_there words (Drill n) is = is.0

-- ---- no two verbs are one word

abbrev key : List ℕ → ℕ
key word = get_or word 0 0 + (get_or word 0 0 + get_or word 1 0)

abbrev verb_of_key : ℕ → Verb
verb_of_key k =
    if k == 351 then verb.Sync
    else (if k == 321 then verb.Full
    else (if k == 334 then verb.Show
    else (if k == 302 then verb.Check
    else (if k == 349 then verb.Sweep
    else (if k == 309 then verb.Compact
    else verb.Drill)))))

verb_by_key : (v : Verb) → verb_of_key (key (verb_word v)) ≡ v
verb_by_key verb.Sync = refl
verb_by_key verb.Full = refl
verb_by_key verb.Show = refl
verb_by_key verb.Check = refl
verb_by_key verb.Sweep = refl
verb_by_key verb.Compact = refl
verb_by_key verb.Drill = refl

pub same_verb : (word : Option (List ℕ)) (a b : Verb) → word ≡ Some (verb_word a) → word ≡ Some (verb_word b) → a ≡ b
same_verb word a b at_a at_b =
    let both : Some (verb_word a) ≡ Some (verb_word b) = sym at_a ∙ at_b in
    let same : verb_word a ≡ verb_word b = cc both in
    sym (verb_by_key a) ∙ (ap (λ (w : List ℕ). verb_of_key (key w)) same ∙ verb_by_key b)

-- ---- words are one form at most

abbrev text_of : Option (List ℕ) → List ℕ
text_of None = []
text_of (Some text) = text

abbrev second_of : ℕ → Option Kind → Option Kind
second_of count second = if count == 5 then second else None

-- the form of these words, if they are one
abbrev form_by : Verb → ℕ → Option Kind → Option Kind → Option Kind → ℕ → Option Form
form_by verb.Sync count (Some f) (Some t) second number = Some (Sync f t (second_of count second))
form_by verb.Full count (Some f) (Some t) second number = Some (Full f t (second_of count second))
form_by verb.Show count (Some f) first second number = Some (Show f)
form_by verb.Check count (Some f) (Some t) second number = Some (Check f t)
form_by verb.Sweep count (Some t) first second number = Some (Sweep t)
form_by verb.Compact count kind first second number = Some Compact
form_by verb.Drill count kind first second number = Some (Drill number)
form_by _ count kind first second number = None

abbrev form_in : Words → Verb → Option Form
form_in words v = form_by v (length words) (kind_at words 2) (kind_at words 3) (kind_at words 4) (digits_value 10 (text_of (word words 2)))

spelled : (words : Words) (form : Form) → Spells words form → form_in words (verb_of form) ≡ Some form
spelled words (Sync f t None) is = rw is.0.0 (rw is.0.2 (rw is.1 refl))
spelled words (Sync f t (Some u)) is = rw is.0.0 (rw is.0.2 (rw is.1 (rw is.2 refl)))
spelled words (Full f t None) is = rw is.0.0 (rw is.0.2 (rw is.1 refl))
spelled words (Full f t (Some u)) is = rw is.0.0 (rw is.0.2 (rw is.1 (rw is.2 refl)))
spelled words (Show f) is = rw is.2 refl
spelled words (Check f t) is = rw is.0.2 (rw is.1 refl)
spelled words (Sweep t) is = rw is.2 refl
spelled words Compact is = refl
spelled words (Drill n) is = ap (λ (m : ℕ). Some (Drill m)) (ap (λ (w : Option (List ℕ)). digits_value 10 (text_of w)) is.2 ∙ (decimal_is_IsNumeral n (omega (arith, is.3))).1)

pub one_form : (words : Words) (a b : Form) → Spells words a → Spells words b → a ≡ b
one_form words a b is other =
    let same : verb_of a ≡ verb_of b = same_verb (word words 1) (verb_of a) (verb_of b) (verb_there words a is) (verb_there words b other) in
    let one : Some a ≡ Some b = sym (spelled words a is) ∙ (ap (λ (v : Verb). form_in words v) same ∙ spelled words b other) in
    cc one

-- ---- words that are no form

pub no_verb : (words : Words) → ((v : Verb) → word words 1 ≡ Some (verb_word v) → ⊥) → (form : Form) → Spells words form → ⊥
no_verb words none form is = none (verb_of form) (verb_there words form is)

-- the exit of a `?`
pub exit : (words : Words) (r : Option Form) → r ≡ None → ((form : Form) → Spells words form → ⊥) → MatchOption r ((form : Form) → Spells words form → ⊥) (λ form. Spells words form)
exit words r none never = subst (λ (r : Option Form). MatchOption r ((form : Form) → Spells words form → ⊥) (λ form. Spells words form)) (sym none) never

-- a verb has forms of so many words
abbrev has_forms : ℕ → Verb → Bool
has_forms count verb.Sync = if count == 4 then true else count == 5
has_forms count verb.Full = if count == 4 then true else count == 5
has_forms count verb.Show = count == 3
has_forms count verb.Check = count == 4
has_forms count verb.Sweep = count == 3
has_forms count verb.Compact = count == 2
has_forms count verb.Drill = count == 3

form_fits : (form : Form) → has_forms (words_of form) (verb_of form) ≡ true
form_fits (Sync f t None) = refl
form_fits (Sync f t (Some u)) = refl
form_fits (Full f t None) = refl
form_fits (Full f t (Some u)) = refl
form_fits (Show f) = refl
form_fits (Check f t) = refl
form_fits (Sweep t) = refl
form_fits Compact = refl
form_fits (Drill n) = refl

-- behind this verb so many words are no form
unfit : (words : Words) (count : ℕ) (v : Verb) → length words ≡ count → word words 1 ≡ Some (verb_word v) → has_forms count v ≡ false → (form : Form) → Spells words form → ⊥
unfit words count v long at none form is =
    let same : verb_of form ≡ v = same_verb (word words 1) (verb_of form) v (verb_there words form is) at in
    let count_same : words_of form ≡ count = sym (words_there words form is) ∙ long in
    let by_count : has_forms (words_of form) (verb_of form) ≡ has_forms count (verb_of form) = ap (λ (n : ℕ). has_forms n (verb_of form)) count_same in
    let by_verb : has_forms count (verb_of form) ≡ has_forms count v = ap (λ (w : Verb). has_forms count w) same in
    let both : false ≡ true = sym none ∙ (sym by_verb ∙ (sym by_count ∙ form_fits form)) in
    cc both

-- behind this verb these words are no form
unread : (words : Words) (v : Verb) → word words 1 ≡ Some (verb_word v) → form_in words v ≡ None → (form : Form) → Spells words form → ⊥
unread words v at none form is =
    let same : verb_of form ≡ v = same_verb (word words 1) (verb_of form) v (verb_there words form is) at in
    let both : None ≡ Some form = sym none ∙ (sym (ap (λ (w : Verb). form_in words w) same) ∙ spelled words form is) in
    cc both

-- ---- the words by their number

abbrev IsFormOrNone : Words → Option Form → Type 0
IsFormOrNone words r = MatchOption r ((form : Form) → Spells words form → ⊥) (λ form. Spells words form)

pub plain_spells : (words : Words) (v : Verb) → length words ≡ 2 → word words 1 ≡ Some (verb_word v) → IsFormOrNone words (plain_by v)
plain_spells words verb.Sync two at = unfit words 2 verb.Sync two at refl
plain_spells words verb.Full two at = unfit words 2 verb.Full two at refl
plain_spells words verb.Show two at = unfit words 2 verb.Show two at refl
plain_spells words verb.Check two at = unfit words 2 verb.Check two at refl
plain_spells words verb.Sweep two at = unfit words 2 verb.Sweep two at refl
plain_spells words verb.Compact two at = (two, at)
plain_spells words verb.Drill two at = unfit words 2 verb.Drill two at refl

-- the word at a place is a number, or none
abbrev pub IsNumberOrNone : Words → ℕ → Option ℕ → Type 0
IsNumberOrNone words place r = MatchOption r ((n : ℕ) → n < 2 ^ 64 → word words place ≡ Some (decimal n) → ⊥) (λ n. (n < 2 ^ 64) × (word words place ≡ Some (decimal n)))

no_number : (words : Words) → word words 1 ≡ Some (verb_word verb.Drill) → ((n : ℕ) → n < 2 ^ 64 → word words 2 ≡ Some (decimal n) → ⊥) → (form : Form) → Spells words form → ⊥
no_number words at none form is =
    let m : ℕ = digits_value 10 (text_of (word words 2)) in
    let same : verb_of form ≡ verb.Drill = same_verb (word words 1) (verb_of form) verb.Drill (verb_there words form is) at in
    let one : Some form ≡ Some (Drill m) = sym (spelled words form is) ∙ ap (λ (w : Verb). form_in words w) same in
    let form_is : form ≡ Drill m = cc one in
    let drill : Spells words (Drill m) = subst (λ (f : Form). Spells words f) form_is is in
    none m drill.3 drill.2

pub single_spells : (words : Words) (v : Verb) (kind : Option Kind) (number : Option ℕ) → length words ≡ 3 → word words 1 ≡ Some (verb_word v) → kind_at words 2 ≡ kind → IsNumberOrNone words 2 number
    → IsFormOrNone words (single_by v kind number)
single_spells words verb.Sync kind number three at kind_is number_is = unfit words 3 verb.Sync three at refl
single_spells words verb.Full kind number three at kind_is number_is = unfit words 3 verb.Full three at refl
single_spells words verb.Show None number three at kind_is number_is = unread words verb.Show at (rw kind_is refl)
single_spells words verb.Show (Some kind) number three at kind_is number_is = (three, at, kind_is)
single_spells words verb.Check kind number three at kind_is number_is = unfit words 3 verb.Check three at refl
single_spells words verb.Sweep None number three at kind_is number_is = unread words verb.Sweep at (rw kind_is refl)
single_spells words verb.Sweep (Some kind) number three at kind_is number_is = (three, at, kind_is)
single_spells words verb.Compact kind number three at kind_is number_is = unfit words 3 verb.Compact three at refl
single_spells words verb.Drill kind None three at kind_is number_is = no_number words at number_is
single_spells words verb.Drill kind (Some n) three at kind_is number_is = (three, at, number_is.1, number_is.0)

pub pair_spells : (words : Words) (v : Verb) (f t : Kind) → length words ≡ 4 → word words 1 ≡ Some (verb_word v) → kind_at words 2 ≡ Some f → kind_at words 3 ≡ Some t → f ≢ t → IsFormOrNone words (pair_by v f t)
pair_spells words verb.Sync f t four at1 at2 at3 ft = ((four, at1, at2), at3, ft)
pair_spells words verb.Full f t four at1 at2 at3 ft = ((four, at1, at2), at3, ft)
pair_spells words verb.Show f t four at1 at2 at3 ft = unfit words 4 verb.Show four at1 refl
pair_spells words verb.Check f t four at1 at2 at3 ft = ((four, at1, at2), at3, ft)
pair_spells words verb.Sweep f t four at1 at2 at3 ft = unfit words 4 verb.Sweep four at1 refl
pair_spells words verb.Compact f t four at1 at2 at3 ft = unfit words 4 verb.Compact four at1 refl
pair_spells words verb.Drill f t four at1 at2 at3 ft = unfit words 4 verb.Drill four at1 refl

pub triple_spells : (words : Words) (v : Verb) (f t u : Kind) → length words ≡ 5 → word words 1 ≡ Some (verb_word v) → kind_at words 2 ≡ Some f → kind_at words 3 ≡ Some t → kind_at words 4 ≡ Some u
    → f ≢ t → f ≢ u → t ≢ u → IsFormOrNone words (triple_by v f t u)
triple_spells words verb.Sync f t u five at1 at2 at3 at4 ft fu tu = ((five, at1, at2), at3, at4, ft, fu, tu)
triple_spells words verb.Full f t u five at1 at2 at3 at4 ft fu tu = ((five, at1, at2), at3, at4, ft, fu, tu)
triple_spells words verb.Show f t u five at1 at2 at3 at4 ft fu tu = unfit words 5 verb.Show five at1 refl
triple_spells words verb.Check f t u five at1 at2 at3 at4 ft fu tu = unfit words 5 verb.Check five at1 refl
triple_spells words verb.Sweep f t u five at1 at2 at3 at4 ft fu tu = unfit words 5 verb.Sweep five at1 refl
triple_spells words verb.Compact f t u five at1 at2 at3 at4 ft fu tu = unfit words 5 verb.Compact five at1 refl
triple_spells words verb.Drill f t u five at1 at2 at3 at4 ft fu tu = unfit words 5 verb.Drill five at1 refl

-- How a command is spelled.
use Rattle.std.specs.Prelude.{◌≡◌, ◌≢◌, ◌<◌, ◌≤◌, ◌==◌, ◌^◌, ℕ, List, [], ◌∷◌, length, slice_get, codes, String, string_bytes, Option, Some, None, option_and_then, if◌then◌else◌}
use Rattle.std.specs.Fmt.{decimal}
use Rattle.std.specs.Option.{option_map}
use Rattle.std.specs.declared.alloc.Global.{Global}
use Rattle.table_history.specs.declared.kind.Kind.{Kind}
use Rattle.table_history.specs.Words.{kind_named}
use Rattle.sync_driver.specs.declared.words.Verb.{Verb}
use Rattle.sync_driver.specs.declared.words.Verb.TheVariants as verb
use Rattle.sync_driver.specs.declared.words.Form.{Form}
use Rattle.sync_driver.specs.declared.words.Form.TheVariants.{Sync, Full, Show, Check, Sweep, Compact, Drill}

abbrev pub Words : Type 0
Words = List (String Global)

-- the text of the word at a place, counted from 0
abbrev pub word : Words → ℕ → Option (List ℕ)
word words place = option_map string_bytes (slice_get words place)

-- the format that the word at a place names
abbrev pub kind_at : Words → ℕ → Option Kind
kind_at words place = option_and_then kind_named (word words place)

abbrev pub verb_word : Verb → List ℕ
verb_word verb.Sync = codes "sync"
verb_word verb.Full = codes "full"
verb_word verb.Show = codes "show"
verb_word verb.Check = codes "check"
verb_word verb.Sweep = codes "sweep"
verb_word verb.Compact = codes "compact"
verb_word verb.Drill = codes "drill"

-- so many words, the first of them a place: behind it the verb and a format
abbrev pub Begins : Words → ℕ → Verb → Kind → Type 0
Begins words count v kind = (length words ≡ count) × (word words 1 ≡ Some (verb_word v)) × (kind_at words 2 ≡ Some kind)

-- The words behind the place are this form. Source and targets are different from each other. A drill's number is under 2^64 and has no leading zeros.
abbrev pub Spells : Words → Form → Type 0
Spells words (Sync f t None) = Begins words 4 verb.Sync f × (kind_at words 3 ≡ Some t) × (f ≢ t)
Spells words (Sync f t (Some u)) = Begins words 5 verb.Sync f × (kind_at words 3 ≡ Some t) × (kind_at words 4 ≡ Some u) × (f ≢ t) × (f ≢ u) × (t ≢ u)
Spells words (Full f t None) = Begins words 4 verb.Full f × (kind_at words 3 ≡ Some t) × (f ≢ t)
Spells words (Full f t (Some u)) = Begins words 5 verb.Full f × (kind_at words 3 ≡ Some t) × (kind_at words 4 ≡ Some u) × (f ≢ t) × (f ≢ u) × (t ≢ u)
Spells words (Show f) = Begins words 3 verb.Show f
Spells words (Check f t) = Begins words 4 verb.Check f × (kind_at words 3 ≡ Some t) × (f ≢ t)
Spells words (Sweep t) = Begins words 3 verb.Sweep t
Spells words Compact = (length words ≡ 2) × (word words 1 ≡ Some (verb_word verb.Compact))
Spells words (Drill n) = (length words ≡ 3) × (word words 1 ≡ Some (verb_word verb.Drill)) × (word words 2 ≡ Some (decimal n)) × (n < 2 ^ 64)

-- the forms by how many words there are behind the verb
abbrev pub plain_by : Verb → Option Form
plain_by verb.Compact = Some Compact
plain_by _ = None

abbrev pub single_by : Verb → Option Kind → Option ℕ → Option Form
single_by verb.Show kind number = option_map Show kind
single_by verb.Sweep kind number = option_map Sweep kind
single_by verb.Drill kind number = option_map Drill number
single_by _ kind number = None

abbrev pub pair_by : Verb → Kind → Kind → Option Form
pair_by verb.Sync f t = Some (Sync f t None)
pair_by verb.Full f t = Some (Full f t None)
pair_by verb.Check f t = Some (Check f t)
pair_by _ f t = None

abbrev pub triple_by : Verb → Kind → Kind → Kind → Option Form
triple_by verb.Sync f t u = Some (Sync f t (Some u))
triple_by verb.Full f t u = Some (Full f t (Some u))
triple_by _ f t u = None

-- a byte before a location, which ends with no slash
abbrev pub before : ℕ → List ℕ → List ℕ
before b [] = if b == 47 then [] else b ∷ []
before b (c ∷ cs) = b ∷ c ∷ cs

-- a place without the slashes at its end
abbrev pub location : List ℕ → List ℕ
location [] = []
location (b ∷ bs) = before b (location bs)

-- it isn't empty, and has at most 1,024 bytes
abbrev pub IsLocation : List ℕ → Type 0
IsLocation place = (0 < length place) × (length place ≤ 1024)

-- the first word is a place of this location
abbrev pub NamesPlace : Words → List ℕ → Type 0
NamesPlace words place = (option_map location (word words 0) ≡ Some place) × IsLocation place

-- the words are a place and a form
abbrev pub IsCommand : Words → List ℕ → Form → Type 0
IsCommand words place form = NamesPlace words place × Spells words form

abbrev pub IsNoCommand : Words → Type 0
IsNoCommand words = (place : List ℕ) (form : Form) → IsCommand words place form → ⊥

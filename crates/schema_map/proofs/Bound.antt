-- What follows of the steps of a reading that gave a value.
use Rattle.std.proofs.Common.{◌≡◌, ℕ, List, Bool, true, false, Option, Some, None, Result, Ok, Err, refl, cond}
use Rattle.std.specs.Prelude.{option_and_then}
use Rattle.serde_json.specs.Data.{Data, null, boolean, number, string, array, object, Items}
use Rattle.serde_json.specs.Find.{as_str, as_bool, as_array}
use Rattle.schema_map.specs.declared.fault.Fault.{Fault}
use Rattle.schema_map.specs.declared.fault.Fault.TheVariants.{BadSchema}
use Rattle.lake_basics.specs.Outcome.{◌>>=◌, required}

pub record Binds {A B E : Type 0} (r : Result A E) (f : A → Result B E) (y : B) : Type 0 where
  pub value : A
  pub first : r ≡ Ok value
  pub behind : f value ≡ Ok y

pub bound : {A B E : Type 0} (r : Result A E) (f : A → Result B E) (y : B) → (r >>= f) ≡ Ok y → Binds r f y
bound (Ok x) f y e = record { value = x; first = refl; behind = e }
bound (Err d) f y e = absurd (cc)

pub was_there : {A : Type 0} (o : Option A) (x : A) → required BadSchema o ≡ Ok x → o ≡ Some x
was_there (Some y) x e = cc
was_there None x e = absurd (cc)

pub was_text : (o : Option Data) (s : List ℕ) → option_and_then as_str o ≡ Some s → o ≡ Some (string s)
was_text (Some (string t)) s e = cc
was_text (Some null) s e = absurd (cc)
was_text (Some (boolean b)) s e = absurd (cc)
was_text (Some (number n)) s e = absurd (cc)
was_text (Some (array ds)) s e = absurd (cc)
was_text (Some (object ms)) s e = absurd (cc)
was_text None s e = absurd (cc)

pub was_bool : (o : Option Data) (b : Bool) → option_and_then as_bool o ≡ Some b → o ≡ Some (boolean b)
was_bool (Some (boolean c)) b e = cc
was_bool (Some null) b e = absurd (cc)
was_bool (Some (string t)) b e = absurd (cc)
was_bool (Some (number n)) b e = absurd (cc)
was_bool (Some (array ds)) b e = absurd (cc)
was_bool (Some (object ms)) b e = absurd (cc)
was_bool None b e = absurd (cc)

pub was_array : (o : Option Data) (ds : Items) → option_and_then as_array o ≡ Some ds → o ≡ Some (array ds)
was_array (Some (array es)) ds e = cc
was_array (Some null) ds e = absurd (cc)
was_array (Some (boolean b)) ds e = absurd (cc)
was_array (Some (string t)) ds e = absurd (cc)
was_array (Some (number n)) ds e = absurd (cc)
was_array (Some (object ms)) ds e = absurd (cc)
was_array None ds e = absurd (cc)

-- A choice gave a value: by which branch.
pub chosen : {A E : Type 0} (P : Type 0) (b : Bool) (r s : Result A E) (y : A) → (b ≡ true → r ≡ Ok y → P) → (b ≡ false → s ≡ Ok y → P) → cond b r s ≡ Ok y → P
chosen P true r s y here there e = here refl e
chosen P false r s y here there e = there refl e

-- a reading that gave x
abbrev pub good : {A : Type 0} → A → Result A Fault
good x = Ok x

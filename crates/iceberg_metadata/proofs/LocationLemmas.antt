-- What is left of a path behind a table's location, and whether it is a path: tests and facts.
use Rattle.std.proofs.Common.{◌≡◌, ℕ, ◌+◌, List, ◌++◌, Bool, true, false, cond, Option, Some, None, MatchOption, Bor, length, take, drop, option_map, refl, sym, ap, ◌∙◌}
use Rattle.std.specs.Bool.{Decides}
use Rattle.std.specs.Str.{bytes_eq}
use Rattle.std.proofs.Math.Seq.{take-append_seam, drop-append_seam}
use Rattle.std.proofs.lemmas.List.{take-append-drop}
use Rattle.std.proofs.lemmas.Slice.Eq.{bytes_eq-Decides}
use Rattle.table_history.proofs.PathTests.{path_decided}
use Rattle.table_history.specs.Path.{IsPath}
use Rattle.iceberg_metadata.specs.Location.{front_of, NamesPath, behind, is_path_behind, names_path}

pub strip_is : (front path : List ℕ) (r : Option (Bor (List ℕ))) → MatchOption r (bytes_eq (take (length front) path) front ≡ false) (λ x. (bytes_eq (take (length front) path) front ≡ true) × (x.now ≡ drop (length front) path) × (length x.now + length front ≡ length path)) → option_map (λ x. x.now) r ≡ behind front path
strip_is front path None h = rw h refl
strip_is front path (Some x) h = rw h.0 (ap Some h.1)

behind_by : (front path rest : List ℕ) (b : Bool) → bytes_eq (take (length front) path) front ≡ b → cond b (Some (drop (length front) path)) None ≡ Some rest → path ≡ front ++ rest
behind_by front path rest true is h =
    let begins : take (length front) path ≡ front = (bytes_eq-Decides (take (length front) path) front).0 is in
    let ends : drop (length front) path ≡ rest = cc in
    sym (take-append-drop (length front) path) ∙ ap (λ l. l ++ drop (length front) path) begins ∙ ap (λ l. front ++ l) ends
behind_by front path rest false is h = absurd (cc)

pub behind_found : (front path rest : List ℕ) → behind front path ≡ Some rest → path ≡ front ++ rest
behind_found front path rest is = behind_by front path rest (bytes_eq (take (length front) path) front) refl is

pub behind_given : (front rest : List ℕ) → behind front (front ++ rest) ≡ Some rest
behind_given front rest =
    let same : bytes_eq (take (length front) (front ++ rest)) front ≡ true = (bytes_eq-Decides (take (length front) (front ++ rest)) front).1 (take-append_seam front rest) in
    rw same (ap Some (drop-append_seam front rest))

names_by : (front file : List ℕ) (b : Bool) → bytes_eq (take (length front) file) front ≡ b → ((rest : List ℕ) → file ≡ front ++ rest → IsPath rest) → is_path_behind (cond b (Some (drop (length front) file)) None) ≡ true
names_by front file true is names =
    let start : take (length front) file ≡ front = (bytes_eq-Decides (take (length front) file) front).0 is in
    (path_decided (drop (length front) file)).1 (names (drop (length front) file) (sym (take-append-drop (length front) file) ∙ ap (λ s. s ++ drop (length front) file) start))
names_by front file false is names = refl

pub names_Decides : (location file : List ℕ) → Decides (names_path (front_of location) file) (NamesPath location file)
names_Decides location file =
    let front = front_of location in
    (λ h rest is. (path_decided rest).0 (sym (ap (λ f. is_path_behind (behind front f)) is ∙ ap is_path_behind (behind_given front rest)) ∙ h), λ names. names_by front file (bytes_eq (take (length front) file) front) refl names)

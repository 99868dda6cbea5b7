-- What a folder holds depends on the files in it alone.
use Rattle.std.proofs.Common.{◌≡◌, ℕ, List, ◌++◌, Option, Contains, sym, subst}
use Rattle.std.specs.Prelude.{IsSome}
use Rattle.lake_store.specs.Disk.{Files, front_of, names_in}
use Rattle.lake_store.specs.Runs.{IsIn}
use Rattle.lake_store.proofs.OrderLaws.{names_in_listed, names_in_sorted}
use Rattle.table_history.specs.Rows.{IsInByteOrder}
use Rattle.table_history.proofs.Laws.{in_order_same}
use Rattle.target_core.specs.Folders.{SameIn}
use Rattle.lake_basics.proofs.Lists.{mapped_itself}

pub one_order : (xs ys : List (List ℕ)) → IsInByteOrder xs → IsInByteOrder ys → ((x : List ℕ) → Contains xs x → Contains ys x) → ((x : List ℕ) → Contains ys x → Contains xs x) → xs ≡ ys
one_order xs ys sorted too there back = in_order_same (λ (x : List ℕ). x) xs ys (subst IsInByteOrder (sym (mapped_itself xs)) sorted) (subst IsInByteOrder (sym (mapped_itself ys)) too) (λ x. (there x, back x))

pub same_back : (folder : List ℕ) (a b : Files) → SameIn folder a b → SameIn folder b a
same_back folder a b same path within = sym (same path within)

module _ (folder : List ℕ) (within : (name : List ℕ) → IsIn folder (front_of folder ++ name)) where
  names_too : (a b : Files) → SameIn folder a b → (name : List ℕ) → Contains (names_in a folder) name → Contains (names_in b folder) name
  names_too a b same name there =
      let is = ((names_in_listed a folder).members name).0 there in
      ((names_in_listed b folder).members name).1 (is.0, subst (λ (o : Option (List ℕ)). IsSome o) (sym (same (front_of folder ++ name) (within name))) is.1)

  pub names_own : (a b : Files) → SameIn folder a b → names_in b folder ≡ names_in a folder
  names_own a b same =
      one_order (names_in b folder) (names_in a folder) (names_in_sorted b folder) (names_in_sorted a folder)
      (names_too b a (same_back folder a b same)) (names_too a b same)

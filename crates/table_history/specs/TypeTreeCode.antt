-- A code of schemas: a tree is written as a list of steps, each of which builds a part from those before it.
use Rattle.std.specs.Prelude.{ℕ, List, [], ◌∷◌, ◌++◌, Bool, false, cond, ◌==◌, ◌≡◌, refl}
use Rattle.std.proofs.Common.{append_assoc, append-nil, ◌∙◌, ap, sym}
use Rattle.std.specs.Coded.{Coded, code_by, coded×, coded_ℕ, coded_bool, coded_list}
use Rattle.table_history.specs.TypeTree.{TypeTree, boolean, byte, short, int, long, float, double, decimal, text, binary, date, timestamp, timestamp_ntz, struct_of, list_of, map_of, ColumnTrees, no_columns, column}

-- which step, whether the part may be null, its numbers, and its name
abbrev pub Step : Type 0
Step = ℕ × (Bool × (ℕ × (ℕ × List ℕ)))

pub data Part : Type 0 where
  a_type : TypeTree → Part
  some_columns : ColumnTrees → Part

abbrev pub struct_top : List Part → List Part
struct_top (some_columns cs ∷ parts) = a_type (struct_of cs) ∷ parts
struct_top _ = []

abbrev pub list_top : Bool → List Part → List Part
list_top b (a_type t ∷ parts) = a_type (list_of t b) ∷ parts
list_top b _ = []

abbrev pub map_top : Bool → List Part → List Part
map_top b (a_type v ∷ a_type k ∷ parts) = a_type (map_of k v b) ∷ parts
map_top b _ = []

abbrev pub column_top : List ℕ → Bool → List Part → List Part
column_top name b (a_type t ∷ some_columns cs ∷ parts) = some_columns (column name t b cs) ∷ parts
column_top name b _ = []

abbrev pub simple : ℕ → TypeTree
simple n =
    cond (n == 0) boolean (cond (n == 1) byte (cond (n == 2) short (cond (n == 3) int (cond (n == 4) long (cond (n == 5) float (cond (n == 6) double (cond (n == 7) text (cond (n == 8) binary (cond (n == 9) date (cond (n == 10) timestamp timestamp_ntz))))))))))

abbrev pub take_step : Step → List Part → List Part
take_step (n, (b, (p, (s, name)))) parts =
    cond (n == 12) (a_type (decimal p s) ∷ parts) (cond (n == 13) (struct_top parts) (cond (n == 14) (list_top b parts) (cond (n == 15) (map_top b parts) (cond (n == 16) (some_columns no_columns ∷ parts) (cond (n == 17) (column_top name b parts) (a_type (simple n) ∷ parts))))))

abbrev pub run : List Step → List Part → List Part
run [] parts = parts
run (s ∷ ss) parts = run ss (take_step s parts)

abbrev pub plain_step : ℕ → List Step
plain_step n = (n, (false, (0, (0, [])))) ∷ []

abbrev mutual
  pub type_steps : TypeTree → List Step
  type_steps boolean = plain_step 0
  type_steps byte = plain_step 1
  type_steps short = plain_step 2
  type_steps int = plain_step 3
  type_steps long = plain_step 4
  type_steps float = plain_step 5
  type_steps double = plain_step 6
  type_steps text = plain_step 7
  type_steps binary = plain_step 8
  type_steps date = plain_step 9
  type_steps timestamp = plain_step 10
  type_steps timestamp_ntz = plain_step 11
  type_steps (decimal p s) = (12, (false, (p, (s, [])))) ∷ []
  type_steps (struct_of cs) = column_steps cs ++ plain_step 13
  type_steps (list_of t b) = type_steps t ++ (14, (b, (0, (0, [])))) ∷ []
  type_steps (map_of k v b) = type_steps k ++ (type_steps v ++ (15, (b, (0, (0, [])))) ∷ [])

  pub column_steps : ColumnTrees → List Step
  column_steps no_columns = plain_step 16
  column_steps (column name t b cs) = column_steps cs ++ (type_steps t ++ (17, (b, (0, (0, name)))) ∷ [])

mutual
  pub run-type_steps : (t : TypeTree) (ss : List Step) (parts : List Part) → run (type_steps t ++ ss) parts ≡ run ss (a_type t ∷ parts)
  run-type_steps boolean ss parts = refl
  run-type_steps byte ss parts = refl
  run-type_steps short ss parts = refl
  run-type_steps int ss parts = refl
  run-type_steps long ss parts = refl
  run-type_steps float ss parts = refl
  run-type_steps double ss parts = refl
  run-type_steps text ss parts = refl
  run-type_steps binary ss parts = refl
  run-type_steps date ss parts = refl
  run-type_steps timestamp ss parts = refl
  run-type_steps timestamp_ntz ss parts = refl
  run-type_steps (decimal p s) ss parts = refl
  run-type_steps (struct_of cs) ss parts =
      ap (λ w. run w parts) (append_assoc (column_steps cs) (plain_step 13) ss) ∙ run-column_steps cs (plain_step 13 ++ ss) parts
  run-type_steps (list_of t b) ss parts =
      let last : List Step = (14, (b, (0, (0, [])))) ∷ [] in
      ap (λ w. run w parts) (append_assoc (type_steps t) last ss) ∙ run-type_steps t (last ++ ss) parts
  run-type_steps (map_of k v b) ss parts =
      let last : List Step = (15, (b, (0, (0, [])))) ∷ [] in
      ap (λ w. run w parts) (append_assoc (type_steps k) (type_steps v ++ last) ss) ∙ run-type_steps k ((type_steps v ++ last) ++ ss) parts
      ∙ ap (λ w. run w (a_type k ∷ parts)) (append_assoc (type_steps v) last ss)
      ∙ run-type_steps v (last ++ ss) (a_type k ∷ parts)

  pub run-column_steps : (cs : ColumnTrees) (ss : List Step) (parts : List Part) → run (column_steps cs ++ ss) parts ≡ run ss (some_columns cs ∷ parts)
  run-column_steps no_columns ss parts = refl
  run-column_steps (column name t b cs) ss parts =
      let last : List Step = (17, (b, (0, (0, name)))) ∷ [] in
      ap (λ w. run w parts) (append_assoc (column_steps cs) (type_steps t ++ last) ss) ∙ run-column_steps cs ((type_steps t ++ last) ++ ss) parts
      ∙ ap (λ w. run w (some_columns cs ∷ parts)) (append_assoc (type_steps t) last ss)
      ∙ run-type_steps t (last ++ ss) (some_columns cs ∷ parts)

abbrev pub top_columns : List Part → ColumnTrees
top_columns (some_columns cs ∷ parts) = cs
top_columns _ = no_columns

pub decoded : (cs : ColumnTrees) → top_columns (run (column_steps cs) []) ≡ cs
decoded cs = ap (λ w. top_columns (run w [])) (sym (append-nil (column_steps cs))) ∙ ap top_columns (run-column_steps cs [] [])

abbrev pub columns_code : Coded ColumnTrees
columns_code =
    code_by (List Step) (coded_list (coded× coded_ℕ (coded× coded_bool (coded× coded_ℕ (coded× coded_ℕ (coded_list coded_ℕ))))))
    column_steps (λ ss. top_columns (run ss [])) decoded

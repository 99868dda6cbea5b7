-- What pieces make of what has been read.
use Rattle.std.proofs.Common.{◌≡◌, ℕ, List, [], ◌∷◌, ◌++◌, false, Ok, Err, refl, sym, ap, ◌∙◌, append_assoc}
use Rattle.std.proofs.lemmas.List.{append-nil}
use Rattle.std.specs.List.{list_any}
use Rattle.std.proofs.lemmas.Bool.{or_parts}
use Rattle.lake_basics.specs.Outcome.{◌>>=◌}
use Rattle.delta_log.specs.declared.error.DeltaError.{DeltaError}
use Rattle.delta_log.specs.Judging.{is_newline}
use Rattle.delta_feeding.specs.Cut.{IsCut}
use Rattle.delta_feeding.specs.Feeding.{SoFar, State, fed, with_byte, with_end, with_next_line}
use Rattle.delta_feeding.specs.Laws.{PiecesJoin}

pub pieces_join : PiecesJoin
unfolding fed
pieces_join state [] q = refl
pieces_join state (b ∷ p) q = pieces_join (state >>= with_byte b) p q

pub fed_refused : (e : DeltaError) (piece : List ℕ) → fed (Err e) piece ≡ Err e
unfolding fed
fed_refused e [] = refl
fed_refused e (b ∷ piece) = fed_refused e piece

abbrev pub longer : SoFar → List ℕ → SoFar
longer s bytes = record s { rest = s.rest ++ bytes }

-- bytes without a newline go on with the last line
pub fed_rest : (s : SoFar) (piece : List ℕ) → list_any is_newline piece ≡ false → fed (Ok s) piece ≡ Ok (longer s piece)
unfolding fed
fed_rest s [] none = ap (λ (r : List ℕ). Ok (record s { rest = r })) (sym (append-nil s.rest))
fed_rest s (b ∷ piece) none =
    let both = or_parts (is_newline b) (list_any is_newline piece) none in
    rw both.0 (fed_rest (longer s (b ∷ [])) piece both.1 ∙ ap (λ (r : List ℕ). Ok (record s { rest = r })) (append_assoc s.rest (b ∷ []) piece))

ended_by : (s : SoFar) (line : List ℕ) → with_end (longer s line) [] ≡ with_end s line
ended_by s line = ap (λ (l : List ℕ). with_next_line s.whole l >>= λ w. Ok (record { whole = w; rest = [] })) (append-nil (s.rest ++ line))

-- a newline ends the last line
pub fed_cut : (s : SoFar) (bytes line behind : List ℕ) → IsCut bytes line behind → fed (Ok s) bytes ≡ fed (with_end s line) behind
unfolding fed
fed_cut s bytes line behind cut =
    let at_newline : fed (Ok (longer s line)) (cut.newline ∷ behind) ≡ fed (with_end (longer s line) []) behind = rw cut.is refl in
    ap (fed (Ok s)) cut.split ∙ pieces_join (Ok s) line (cut.newline ∷ behind) ∙ ap (λ (t : State). fed t (cut.newline ∷ behind)) (fed_rest s line cut.one_line)
    ∙ at_newline ∙ ap (λ (t : State). fed t behind) (ended_by s line)

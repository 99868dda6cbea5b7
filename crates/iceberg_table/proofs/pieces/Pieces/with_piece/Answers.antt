use Rattle.std.proofs.Common.{length, subst, sym, refl}
use Rattle.std.proofs.lemmas.Bool.{ltb-false, ltb-true}
use Rattle.iceberg_table.specs.Pieces.{IsRefusedPiece}
use Rattle.iceberg_table.specs.declared.pieces.TheConstants.{PIECE_BYTES}
use Rattle.iceberg_table.proofs.PieceLaws.{few_bytes, piece_shows}
use Rattle.iceberg_table.proofs.pieces.Pieces.with_piece.Goals as goal

pub returns-in-Ok-clause-more : goal.returns-in-Ok-clause-more
returns-in-Ok-clause-more c =
    let within = c.if-read-gt-MAX_FILE_BYTES.false in
    record {
      fed = λ bytes taken. c.in-Ok.ensures.read bytes taken.fed (few_bytes c.args.columns.now bytes c.args.piece.now c.args.self taken within);
      read = refl;
      within = within;
      last = λ is. ltb-true (length c.args.piece.now) PIECE_BYTES is;
      full = λ not. ltb-false (length c.args.piece.now) PIECE_BYTES not;
    }

pub returns-in-Err-clause-refused : goal.returns-in-Err-clause-refused
returns-in-Err-clause-refused c =
    let within = c.if-read-gt-MAX_FILE_BYTES.false in
    subst (IsRefusedPiece c.args.columns.now c.args.path c.args.self c.args.piece.now) (sym c.error_at.ensures)
    (piece_shows c.args.columns.now c.args.path c.args.self c.args.piece.now c.in-Err.error c.manifest_fault.result c.manifest_fault.ensures within (λ bytes taken. c.in-Err.ensures.refused bytes taken.fed (few_bytes c.args.columns.now bytes c.args.piece.now c.args.self taken within)))

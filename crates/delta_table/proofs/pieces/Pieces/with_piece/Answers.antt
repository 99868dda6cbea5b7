use Rattle.std.proofs.Common.{length, subst, sym, ◌∙◌, refl}
use Rattle.std.proofs.lemmas.Bool.{ltb-false, ltb-true}
use Rattle.delta_feeding.specs.Feeding.{fed}
use Rattle.delta_table.specs.Pieces.{IsRefusedPiece}
use Rattle.delta_table.specs.declared.pieces.TheConstants.{PIECE_BYTES}
use Rattle.delta_table.proofs.PieceLaws.{stopped, went}
use Rattle.delta_table.proofs.pieces.Pieces.with_piece.Goals as goal

pub returns-in-Ok-clause-more : goal.returns-in-Ok-clause-more
returns-in-Ok-clause-more c =
    let go = went c.feed.new.self (fed c.args.self.feeder c.args.piece.now) (sym c.feed.ensures.told ∙ c.in-Ok.is) c.feed.ensures.fed in
    record {
      fed = go.0;
      read = refl;
      within = c.if-read-gt-MAX_FILE_BYTES.false;
      last = λ is. ltb-true (length c.args.piece.now) PIECE_BYTES is;
      full = λ not. ltb-false (length c.args.piece.now) PIECE_BYTES not;
      going = go.1;
    }

pub returns-in-Err-clause-refused : goal.returns-in-Err-clause-refused
returns-in-Err-clause-refused c =
    subst (IsRefusedPiece c.args.version c.args.self c.args.piece.now) (sym c.error_at.ensures)
    (stopped c.args.version c.args.self c.args.piece.now c.feed.new.self c.in-Err.error c.if-read-gt-MAX_FILE_BYTES.false (sym c.feed.ensures.told ∙ c.in-Err.is) c.feed.ensures.fed)

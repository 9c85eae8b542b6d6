use Rattle.kt_worker.proofs.Intervals.{piece_crew, piece_held, piece_inside, piece_may}
use Rattle.kt_pool_trials.proofs.looping.holds_now.Goals as goal

pub take_piece-requires : goal.take_piece-requires
take_piece-requires g c = record {
  crew = piece_crew _ _ _ _ _ _ c.requires.piece;
  inside = piece_inside _ _ _ _ _ _ c.requires.piece;
  may = piece_may _ _ _ _ _ _ c.requires.piece;
}

pub stands-requires : goal.stands-requires
stands-requires g c = record {
  equipped = c.requires.equipped;
  stands = (piece_held _ _ _ _ _ _ c.requires.piece _ c.take_piece.ensures.held).0;
}

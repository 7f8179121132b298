-- What a piece leaves of what a way works on.
use Rattle.std.specs.Prelude.{◌≡◌}
use Rattle.columns.specs.Pieces.{Piece, held, wrote}
use Rattle.columns.specs.declared.work.Work.{Work}

-- the same columns, angles and records are worked on
pub record Same (w v : Work) : Type 0 where
  pub cols : v.cols.ghost_name ≡ w.cols.ghost_name
  pub out : v.out.ghost_name ≡ w.out.ghost_name
  pub angles : v.angles ≡ w.angles

-- the piece p is laid
pub record Worked (w v : Work) (p : Piece) : Type 0 where
  pub same : Same w v
  pub memory : held v.cols.now v.out.now v.at ≡ wrote w.out.now w.at p

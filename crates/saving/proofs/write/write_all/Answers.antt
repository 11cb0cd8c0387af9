use Rattle.std.proofs.Common.{length, take, ap, arith}
use Rattle.std.specs.List.{flat_map}
use Rattle.std.proofs.lemmas.List.{length-append, length-take, length-drop}
use Rattle.std.proofs.lemmas.List.Folds.{length-flat_map-take}
use Rattle.saving.proofs.Pieces.{behind, one_more}
use Rattle.saving.proofs.write.write_all.Goals as goal

pub write-end-requires : goal.write-end-requires
write-end-requires g c =
    let room = length-flat_map-take g.P.Piece.bytes c.args.pieces.now c.loop-piece.piece-index c.piece-item.result c.loop-piece-test.true in
    let same = ap (λ piece. length (g.P.Piece.bytes piece)) c.piece-item.is in
    simp (length-take, length-drop) (omega (arith, c.loop-piece.invariant.0))

pub loop-piece-preserved : goal.loop-piece-preserved
loop-piece-preserved g c =
    let so_far = flat_map g.P.Piece.bytes (take c.loop-piece.piece-index c.args.pieces.now) in
    let piece = g.P.Piece.bytes c.piece-item.result in
    let more = one_more g.P.Piece.bytes c.args.pieces.now c.loop-piece.piece-index c.piece-item.result c.loop-piece-test.true c.piece-item.is in
    rw more (omega (arith, length-append so_far piece), behind c.args.buffer.now c.loop-piece.buffer c.write-end.new.buffer so_far piece c.loop-piece.end c.loop-piece.invariant.0 c.loop-piece.invariant.1 c.write-end.ensures.writes)

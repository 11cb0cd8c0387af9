use Rattle.std.proofs.Common.{◌≡◌, length, take}
use Rattle.std.specs.List.{flat_map}
use Rattle.saving.specs.Saving.{at_front}
use Rattle.saving.proofs.write.write_all.Given as goal

-- the pieces so far are written
abbrev pub invariant-loop-piece : goal.invariant-loop-piece
invariant-loop-piece g l =
    let written = flat_map g.P.Piece.bytes (take l.piece-index l.pieces) in
    (l.end ≡ length written) × (l.buffer ≡ at_front written l.initial.buffer)

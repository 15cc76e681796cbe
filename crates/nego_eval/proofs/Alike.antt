-- Rows in the making stay so whichever rows are kept.
use Rattle.std.proofs.Common.{List, sym, subst}
use Rattle.std.specs.List.{All}
use Rattle.nego_eval.specs.declared.rows.Rows.{Rows}
use Rattle.nego_eval.specs.declared.frame.Frame.{Frame}
use Rattle.nego_eval.specs.Frames.{AreAlike, IsFrame}

pub frame_alike : (rows later : Rows) (frame : Frame) → AreAlike rows later → IsFrame rows frame → IsFrame later frame
frame_alike rows later frame alike h =
    subst (λ r. IsFrame r frame) (sym alike) (record { there = record { node = h.there.node; start = h.there.start }; going = h.going })

pub frames_alike : (rows later : Rows) (frames : List Frame) → AreAlike rows later → All (IsFrame rows) frames → All (IsFrame later) frames
frames_alike rows later frames alike h = λ k d q. frame_alike rows later _ alike (h k d q)

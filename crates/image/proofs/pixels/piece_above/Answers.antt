-- `image::pixels::piece_above` meets its contract. Assumes nothing.
use mathlib.Core.Path.{◌∙◌}
use Rattle.std.proofs.Common.{rules, tests}
use Rattle.image.proofs.Pieces.{pieces_first}
use Rattle.image.proofs.Values.{pieces_place}
use Rattle.image.proofs.pixels.piece_above.Goals as goal

pub returns : goal.returns
returns c =
    let run = c.position.ensures.runs in
    let cut = (rw (run.1, c.chunks.ensures.rest, c.chunks.ensures.size) at (c.chunks.ensures.runs run.0 run.0.seen)) c.requires in
    pieces_first _ _ (λ x b q k. search (rules, tests)) c.args.pixels.now c.args.span c.requires run.0 cut c.position.result run.2
    ∙ pieces_place c.args.pixels.now c.args.span c.requires

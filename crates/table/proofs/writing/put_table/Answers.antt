-- `writing::put_table` meets its contract: the five parts of a file, one after the other.
-- Assumes nothing.
use Rattle.table.specs.File.{if_several, masks_bytes, table_bytes}
use Rattle.table.specs.Number.{number_bytes}
use Rattle.table.specs.Record.{masks, persistents}
use Rattle.table.proofs.Bytes.{length_number, fits, wrote_none, wrote_fits, wrote_more, wrote_all, wrote_leading, wrote_count, wrote_elements, wrote_ranks}
use Rattle.table.proofs.writing.put_table.Goals as goal

pub put_number-count_at-requires : goal.put_number-count_at-requires
put_number-count_at-requires c =
    wrote_fits (wrote_none c.args.out.now) (if_several c.args.table 0) (fits c.args.table _ c.requires.2).0

pub put_at-elements_at-requires : goal.put_at-elements_at-requires
put_at-elements_at-requires c =
    let t = c.args.table in
    rw (← length_number t.count) (wrote_fits (wrote_leading t _ c.put_number-count_at.ensures) (number_bytes t.count) (fits t _ c.requires.2).1)

pub put_masks-ranks_at-requires : goal.put_masks-ranks_at-requires
unfolding masks
put_masks-ranks_at-requires c =
    let t = c.args.table in
    wrote_fits (wrote_count t _ c.put_number-count_at.ensures c.put_at-elements_at.ensures) (masks_bytes (masks t)) (fits t _ c.requires.2).2

pub put_number-persistents_at-requires : goal.put_number-persistents_at-requires
unfolding masks
put_number-persistents_at-requires c =
    let t = c.args.table in
    wrote_fits (wrote_elements t _ c.put_number-count_at.ensures c.put_at-elements_at.ensures c.put_masks-ranks_at.ensures) (if_several t t.ranks) (fits t _ c.requires.2).3

pub put_masks-requires : goal.put_masks-requires
unfolding persistents table_bytes masks
put_masks-requires c =
    let t = c.args.table in
    wrote_fits (wrote_ranks t _ c.put_number-count_at.ensures c.put_at-elements_at.ensures c.put_masks-ranks_at.ensures c.put_number-persistents_at.ensures)
    (masks_bytes (persistents t)) c.requires.2

pub returns : goal.returns
unfolding persistents table_bytes masks
returns c =
    let t = c.args.table in
    let ranks = wrote_ranks t _ c.put_number-count_at.ensures c.put_at-elements_at.ensures c.put_masks-ranks_at.ensures c.put_number-persistents_at.ensures in
    wrote_all (wrote_more ranks (masks_bytes (persistents t)) c.put_masks.ensures.0 c.put_masks.ensures.1) c.requires.2

-- What a computed case opens. It says nothing of its own.
--     computing    on the `unfolding` line of a case it stands for every definition that its own line names: all that the calls are made of
-- Assumes nothing.
use Rattle.std.specs.Prelude.{ℕ}

unfoldable pub computing : ℕ
unfolding Rattle.seq.specs.Bits.bit Rattle.seq.specs.Bits.bits_of Rattle.seq.specs.Tab.up_to Rattle.verdict.specs.Writer.over
    Rattle.table.specs.Mask.positions Rattle.table.specs.Mask.valid_mask Rattle.table.specs.Mask.meets Rattle.table.specs.Mask.sum_inside
    Rattle.table.specs.Mask.sum Rattle.table.specs.Mask.partner Rattle.table.specs.Mask.unpartnered Rattle.table.specs.Mask.persistent_for
    Rattle.table.specs.Record.masks Rattle.table.specs.Record.persistents Rattle.table.specs.Record.bad_count Rattle.table.specs.Record.bad_ranks
    Rattle.table.specs.Record.not_rising Rattle.table.specs.Record.bad_mask Rattle.table.specs.Record.bad_element
    Rattle.table.specs.Record.bad_persistent Rattle.table.specs.Record.bad_place Rattle.table.specs.Record.disjoint_from
    Rattle.table.specs.Record.missed_by Rattle.table.specs.Record.missed_at Rattle.table.specs.Record.persistent_place
    Rattle.table.specs.Record.record_verdict
    Rattle.image.specs.File.raster_pixel Rattle.image.specs.File.pixels_of Rattle.image.specs.File.file_verdict
    Rattle.image.specs.File.image_verdict Rattle.image.specs.File.image_read Rattle.image.specs.File.image_area Rattle.image.specs.File.pixel_verdict
    Rattle.image.specs.File.row_byte Rattle.image.specs.File.image_bytes Rattle.image.specs.File.write_verdict Rattle.image.specs.File.image_written
    Rattle.image.specs.File.image_output Rattle.image.specs.Header.is_digit Rattle.image.specs.Header.decimal_value Rattle.image.specs.Header.strict
    Rattle.image.specs.Header.width_part Rattle.image.specs.Header.height_part Rattle.image.specs.Header.raster Rattle.image.specs.Header.starts_magic
    Rattle.image.specs.Header.header_form Rattle.image.specs.Header.width_of Rattle.image.specs.Header.height_of Rattle.image.specs.Header.decimal
    Rattle.image.specs.Header.header Rattle.image.specs.File.image_of Rattle.image.specs.Size.within Rattle.image.specs.Size.bad_size
    Rattle.image.specs.Size.row_bytes Rattle.image.specs.Majority.majority_of Rattle.image.specs.Majority.three_verdict
    Rattle.image.specs.File.bytes_verdict Rattle.image.specs.Parts.rows_of Rattle.image.specs.Strip.shape_verdict
    Rattle.image.specs.Strip.strip_verdict Rattle.image.specs.Strip.strip_read_verdict Rattle.image.specs.Strip.strip_read Rattle.image.specs.Strip.strip_area
    Rattle.image.specs.Strip.strip_of Rattle.operator.specs.Parts.part_counts Rattle.operator.specs.Parts.summed
    Rattle.image.specs.Majority.majority_verdict Rattle.image.specs.Majority.majority_read Rattle.image.specs.Majority.majority_area
    Rattle.operator.specs.Image.black Rattle.operator.specs.Image.added Rattle.operator.specs.Image.removed
    Rattle.operator.specs.Image.differs Rattle.operator.specs.Image.exchange Rattle.operator.specs.Pass.inside Rattle.operator.specs.Pass.solid
    Rattle.operator.specs.Pass.opened Rattle.operator.specs.Pass.held Rattle.operator.specs.Pass.pass_at Rattle.operator.specs.Pass.pass
    Rattle.history.specs.Call.answer_of Rattle.history.specs.Call.state_of Rattle.history.specs.Collect.collected
    Rattle.history.specs.Collect.collect_verdict Rattle.history.specs.Collect.collect_written
    Rattle.history.specs.Collect.collect_output Rattle.history.specs.Collect.collect_state Rattle.history.specs.History.entered
    Rattle.history.specs.History.next_of Rattle.history.specs.History.joined Rattle.history.specs.History.marked
    Rattle.history.specs.History.passed Rattle.history.specs.History.ran Rattle.history.specs.History.refused_by
    Rattle.history.specs.History.accepted Rattle.history.specs.History.after Rattle.history.specs.Lists.start
    Rattle.history.specs.Lists.lengths_of Rattle.history.specs.Lists.tallied Rattle.history.specs.Lists.step
    Rattle.history.specs.Load.load_verdict Rattle.history.specs.Load.loaded_job Rattle.history.specs.Load.load_state
    Rattle.history.specs.Pass.next_image Rattle.history.specs.Pass.now_added Rattle.history.specs.Pass.now_removed
    Rattle.history.specs.Pass.now_counts Rattle.history.specs.History.files_of Rattle.history.specs.State.bad_parts
    Rattle.history.specs.Pass.exceeds Rattle.history.specs.Pass.with_next Rattle.history.specs.Pass.changed_job
    Rattle.history.specs.Pass.stable_job Rattle.history.specs.Pass.changing Rattle.history.specs.Pass.pass_loaded
    Rattle.history.specs.Pass.pass_ready Rattle.history.specs.Pass.pass_of Rattle.history.specs.Run.run_for
    Rattle.history.specs.Run.run_of Rattle.history.specs.Quota.kept Rattle.history.specs.Quota.open_verdict
    Rattle.history.specs.Quota.open_quota Rattle.history.specs.Quota.lacks Rattle.history.specs.Quota.channel_rule Rattle.history.specs.Quota.available
    Rattle.history.specs.Quota.charged Rattle.history.specs.Channel.channel_verdict
    Rattle.history.specs.Channel.channel_pass_of Rattle.history.specs.Channel.channel_run_for
    Rattle.history.specs.Channel.channel_run_of Rattle.history.specs.History.barred_by Rattle.history.specs.State.empty_job Rattle.history.specs.State.present
    Rattle.history.specs.State.image Rattle.history.specs.State.nonzero Rattle.history.specs.State.inconsistent
    Rattle.history.specs.State.unsound Rattle.history.specs.State.ready_verdict Rattle.history.specs.Rounding.nearest
    Rattle.history.specs.View.view_of Rattle.history.specs.View.cover Rattle.history.specs.View.figures_of
computing = 0

-- `job::cross::pass` meets its contract: the filter goes from the area that the parity names to the other one, and refuses nothing.
-- Assumes nothing.
use Rattle.history.proofs.Ready.{ready_small}
use Rattle.job.proofs.Areas.{image_even, image_odd}
use Rattle.job.proofs.Crossings.{by_room, never_refused, crossing_fits, crossed_even, crossed_odd}
use Rattle.job.proofs.cross.pass.Goals as goal

pub room_of-room-requires : goal.room_of-room-requires
room_of-room-requires c = (ready_small c.requires.0, c.requires.0.counts)

pub returns-in_err-crossed : goal.returns-in_err-crossed
returns-in_err-crossed c =
    absurd (never_refused c.requires.0 c.requires.1 _ c.requires.0.second (image_even _ c.if-job-eq0.true) _ c.pass.ensures.0 c.in_err-crossed.was)

pub conclude-requires : goal.conclude-requires
conclude-requires c =
    crossing_fits c.requires.0 c.requires.1 _ c.requires.0.second (image_even _ c.if-job-eq0.true)
    (by_room _ _ _ _ c.room_of-room.ensures c.pass.ensures) c.in_ok-crossed.was c.done.ensures

pub returns-in_ok-crossed : goal.returns-in_ok-crossed
returns-in_ok-crossed c =
    crossed_even c.requires.0 c.requires.1 c.in_ok-crossed.was c.done.ensures c.conclude.ensures c.if-job-eq0.true
    (image_even _ c.if-job-eq0.true) (by_room _ _ _ _ c.room_of-room.ensures c.pass.ensures)

pub returns-in_err-crossed-2 : goal.returns-in_err-crossed-2
returns-in_err-crossed-2 c =
    absurd (never_refused c.requires.0 c.requires.1 _ c.requires.0.first (image_odd _ c.if-job-eq0.false) _ c.pass-else-job-eq0.ensures.0 c.in_err-crossed-2.was)

pub conclude-requires-else-job-eq0 : goal.conclude-requires-else-job-eq0
conclude-requires-else-job-eq0 c =
    crossing_fits c.requires.0 c.requires.1 _ c.requires.0.first (image_odd _ c.if-job-eq0.false)
    (by_room _ _ _ _ c.room_of-room.ensures c.pass-else-job-eq0.ensures) c.in_ok-crossed-2.was c.done-else-job-eq0.ensures

pub returns-in_ok-crossed-2 : goal.returns-in_ok-crossed-2
returns-in_ok-crossed-2 c =
    crossed_odd c.requires.0 c.requires.1 c.in_ok-crossed-2.was c.done-else-job-eq0.ensures c.conclude-else-job-eq0.ensures c.if-job-eq0.false
    (image_odd _ c.if-job-eq0.false) (by_room _ _ _ _ c.room_of-room.ensures c.pass-else-job-eq0.ensures)

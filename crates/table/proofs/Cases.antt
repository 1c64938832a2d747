-- The cases of specs/Cases, computed.
-- Assumes nothing.
use mathlib.Core.Path.{refl}
use Rattle.seq.specs.Bits.{bit, bits_of}
use Rattle.seq.specs.Tab.{up_to}
use Rattle.table.specs.Cases.{Cases}
use Rattle.table.specs.File.{several, body, rank_bytes, rank_count, persistent_bytes, first_place, numbers, table_of, bytes_left, file_verdict, table_bytes}
use Rattle.table.specs.Mask.{positions, valid_mask, meets, sum_inside, sum, partner, unpartnered, persistent_for}
use Rattle.table.specs.Number.{more, size, value, ends, too_long, not_fewest, group_count, group, number_bytes}
use Rattle.table.specs.Record.{masks, persistents, bad_count, bad_ranks, not_rising, bad_mask, bad_element, bad_place, bad_persistent, disjoint_from, missed_by, missed_at, persistent_place, record_verdict}

pub cases_met : Cases
unfolding record_verdict masks persistents bad_count bad_ranks bad_place bad_element not_rising bad_mask bad_persistent disjoint_from missed_by missed_at persistent_place
    positions valid_mask meets sum_inside sum partner unpartnered persistent_for
    file_verdict several body rank_bytes rank_count persistent_bytes first_place numbers table_of bytes_left table_bytes
    more size value ends too_long not_fewest group_count group number_bytes bit bits_of up_to
cases_met = record { records_met = refl; files_met = refl; unrelated_met = (refl, refl); whole_met = (refl, refl) }

-- 01, demand 2: tables and images written and read back are the same, and accepted files written back have the same bytes; an image's with zeros in
-- its unused bits.
--     table_back, table_file_back, table_read_checked, table_one_form     tables
--     image_accepted, image_size, image_back, image_written_zero, image_file_cleared, image_file_back, image_back_zero,
--     image_read_checked     images
-- Assumes nothing.
use Rattle.std.specs.Prelude.{true, not, List, ◌≡◌, ℕ, eqb, length, Ok}
use Rattle.std.proofs.Math.Pow.{are_bytes}
use Rattle.image.proofs.RoundTrip.{image_round_trip}
use Rattle.image.specs.File as image
use Rattle.image.specs.Header.{width_of, height_of}
use Rattle.image.specs.Padding.{unused_zero, cleared}
use Rattle.table.proofs.RoundTrip.{table_round_trip}
use Rattle.table.specs.declared.Table.{Table}
use Rattle.table.specs.File.{several, table_of, file_verdict, table_bytes}
use Rattle.table.specs.Record.{max_elements, max_ranks, record_verdict}

pub table_back : (t : Table) → length t.elements ≡ max_elements → length t.persistents ≡ max_ranks → record_verdict t ≡ Ok tt
    → (file_verdict (table_bytes t) ≡ Ok tt) × (table_of (table_bytes t) ≡ t)
table_back = table_round_trip.record_back

pub table_file_back : (f : List ℕ) → are_bytes f ≡ true → file_verdict f ≡ Ok tt → table_bytes (table_of f) ≡ f
table_file_back = table_round_trip.file_back

pub table_read_checked : (f : List ℕ) → file_verdict f ≡ Ok tt → record_verdict (table_of f) ≡ Ok tt
table_read_checked = table_round_trip.read_checked

pub table_one_form : (f : List ℕ) → file_verdict f ≡ Ok tt → several f ≡ not (eqb (table_of f).ranks 1)
table_one_form = table_round_trip.one_form

module _ (w h : ℕ) (px : List ℕ) (ok : image.pixel_verdict w h px ≡ Ok tt) where
  pub image_accepted : image.file_verdict (image.image_bytes w h px) ≡ Ok tt
  image_accepted = (image_round_trip.image_back w h px ok).accepted

  pub image_size : (width_of (image.image_bytes w h px) ≡ w) × (height_of (image.image_bytes w h px) ≡ h)
  image_size = ((image_round_trip.image_back w h px ok).width, (image_round_trip.image_back w h px ok).height)

  pub image_back : image.image_of (image.image_bytes w h px) ≡ px
  image_back = (image_round_trip.image_back w h px ok).pixels

  pub image_written_zero : unused_zero (image.image_bytes w h px) ≡ true
  image_written_zero = image_round_trip.written_zero w h px ok

pub image_file_cleared : (f : List ℕ) → are_bytes f ≡ true → image.file_verdict f ≡ Ok tt
    → image.image_bytes (width_of f) (height_of f) (image.image_of f) ≡ cleared f
image_file_cleared = image_round_trip.file_cleared

pub image_file_back : (f : List ℕ) → are_bytes f ≡ true → image.file_verdict f ≡ Ok tt → unused_zero f ≡ true
    → image.image_bytes (width_of f) (height_of f) (image.image_of f) ≡ f
image_file_back = image_round_trip.file_back

pub image_back_zero : (f : List ℕ) → image.file_verdict f ≡ Ok tt
    → image.image_bytes (width_of f) (height_of f) (image.image_of f) ≡ f → unused_zero f ≡ true
image_back_zero = image_round_trip.back_zero

pub image_read_checked : (f : List ℕ) → image.file_verdict f ≡ Ok tt
    → image.pixel_verdict (width_of f) (height_of f) (image.image_of f) ≡ Ok tt
image_read_checked = image_round_trip.read_checked

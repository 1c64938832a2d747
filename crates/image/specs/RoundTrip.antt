-- Images there and back (01, demand 2: files round-trip to the byte; 02, T-02: where their unused bits are zero, else with zeros there).
--     ReadBack w h px     what reading the file of an image gives
--     ImageRoundTrip      an image written and read, a file read and written
-- Assumes nothing.
use Rattle.std.specs.Prelude.{true, List, ◌≡◌, ℕ, Ok}
use Rattle.std.proofs.Math.Pow.{are_bytes}
use Rattle.image.specs.File.{image_of, file_verdict, pixel_verdict, image_bytes}
use Rattle.image.specs.Header.{width_of, height_of}
use Rattle.image.specs.Padding.{unused_zero, cleared}

pub record ReadBack (w h : ℕ) (px : List ℕ) : Type 0 where
  pub accepted : file_verdict (image_bytes w h px) ≡ Ok tt
  pub width : width_of (image_bytes w h px) ≡ w
  pub height : height_of (image_bytes w h px) ≡ h
  pub pixels : image_of (image_bytes w h px) ≡ px

pub record ImageRoundTrip : Type 0 where
  -- an image that the writer accepts, written and read, is accepted and is the same image
  pub image_back : (w h : ℕ) (px : List ℕ) → pixel_verdict w h px ≡ Ok tt → ReadBack w h px
  -- an accepted file, read and written, has its own bytes with zeros in the unused bits
  pub file_cleared : (f : List ℕ) → are_bytes f ≡ true → file_verdict f ≡ Ok tt → image_bytes (width_of f) (height_of f) (image_of f) ≡ cleared f
  -- so where these are zero, and only there, it has the same bytes
  pub file_back : (f : List ℕ) → are_bytes f ≡ true → file_verdict f ≡ Ok tt → unused_zero f ≡ true
      → image_bytes (width_of f) (height_of f) (image_of f) ≡ f
  pub back_zero : (f : List ℕ) → file_verdict f ≡ Ok tt → image_bytes (width_of f) (height_of f) (image_of f) ≡ f → unused_zero f ≡ true
  -- the writer puts zeros there
  pub written_zero : (w h : ℕ) (px : List ℕ) → pixel_verdict w h px ≡ Ok tt → unused_zero (image_bytes w h px) ≡ true
  -- what the reader gives, the writer accepts
  pub read_checked : (f : List ℕ) → file_verdict f ≡ Ok tt → pixel_verdict (width_of f) (height_of f) (image_of f) ≡ Ok tt

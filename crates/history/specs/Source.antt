-- What a load takes its image from. A later kind of load is a constructor more, with a clause of each definition.
--     Source                              an image file, three of one size whose majority is the image (02, T-12), or a strip with its pixels (02, T-08)
--     source_verdict x                     accepted, or number and place
--     source_width x, source_height x       the image's size
--     source_parts x                       the heights of its parts: a single image has one
--     source_pixels x                      its pixels
--     source_read x n, source_area x area    what its reader answers on an area of n bytes, and leaves there
-- Assumes nothing.
use Rattle.std.specs.Prelude.{List, [], ◌∷◌, ℕ}
use Rattle.image.specs.File.{file_verdict, image_read, image_area, image_of, ImageRead}
use Rattle.image.specs.Header.{width_of, height_of}
use Rattle.image.specs.Majority.{majority_of, three_verdict, majority_read, majority_area}
use Rattle.image.specs.declared.strip.Strip.{Strip}
use Rattle.image.specs.Strip.{heights_of, strip_width, strip_height, strip_verdict, strip_read, strip_area}
use Rattle.verdict.specs.Rules.{Verdict}

pub data Source : Type 0 where
  from_file : List ℕ → Source
  from_three : List ℕ → List ℕ → List ℕ → Source
  from_strip : Strip → List ℕ → Source

abbrev pub source_verdict : Source → Verdict
source_verdict (from_file f) = file_verdict f
source_verdict (from_three f g h) = three_verdict f g h
source_verdict (from_strip p px) = strip_verdict p px

abbrev pub source_width : Source → ℕ
source_width (from_file f) = width_of f
source_width (from_three f g h) = width_of f
source_width (from_strip p px) = strip_width p

abbrev pub source_height : Source → ℕ
source_height (from_file f) = height_of f
source_height (from_three f g h) = height_of f
source_height (from_strip p px) = strip_height p

abbrev pub source_parts : Source → List ℕ
source_parts (from_file f) = height_of f ∷ []
source_parts (from_three f g h) = height_of f ∷ []
source_parts (from_strip p px) = heights_of p

abbrev pub source_pixels : Source → List ℕ
source_pixels (from_file f) = image_of f
source_pixels (from_three f g h) = majority_of (image_of f) (image_of g) (image_of h)
source_pixels (from_strip p px) = px

abbrev pub source_read : Source → ℕ → ImageRead
source_read (from_file f) n = image_read f n
source_read (from_three f g h) n = majority_read f g h n
source_read (from_strip p px) n = strip_read p px n

abbrev pub source_area : Source → List ℕ → List ℕ
source_area (from_file f) area = image_area f area
source_area (from_three f g h) area = majority_area f g h area
source_area (from_strip p px) area = strip_area p px area

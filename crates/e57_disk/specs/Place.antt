-- Where the bytes of a new file of the disk are written.
use Rattle.std.specs.Prelude.{◌≡◌, ℕ, List, Option, Some, bit_and, string_bytes}
use Rattle.e57_disk.specs.declared.place.Place.{Place}
use Rattle.e57_disk.specs.declared.place.Place.TheVariants.{Beside, InPlace}

-- who may read, write and run a file of this mode
abbrev pub permissions : ℕ → ℕ
permissions mode = bit_and mode 0o777

-- beside the file of this name, and at the end in its place with these permissions; never in place
abbrev pub TakesPlaceOf : List ℕ → ℕ → Place → Type 0
TakesPlaceOf name mode (Beside out kept) = (string_bytes out ≡ name) × (kept ≡ Some mode)
TakesPlaceOf name mode InPlace = ⊥

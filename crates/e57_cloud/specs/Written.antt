-- What a section that was written means in a file.
use Rattle.std.specs.Prelude.{◌≡◌, ℕ, ◌^◌, ◌<◌, ◌≤◌, List, length, None, ◌/◌}
use Rattle.std.specs.List.{AllByRecursion}
use Rattle.e57_page.specs.File.{logical, logical_size, page_fault}
use Rattle.e57_layout.specs.Standing.{Stands}
use Rattle.e57_layout.specs.Values.{Value, IsKind}
use Rattle.e57_layout.specs.Items.{AreColumns}
use Rattle.e57_layout.specs.Written.{physical, section_spelled}
use Rattle.e57_cloud.specs.Cloud.{Leaf, Cloud, cloud_fault, records_of, kinds_of}

-- no page of the file has a fault
abbrev pub AreRight : List ℕ → Type 0
AreRight file = (n : ℕ) → n < length file / 1024 → page_fault file n ≡ None

-- The section of these records, cut into chunks of n, stands at place q in a file whose pages are right.
pub record IsWritten (file : List ℕ) (q n count : ℕ) (leaves : List Leaf) (columns : List (List Value)) : Type 0 where
  pub right : AreRight file
  pub near : logical_size file ≤ 2 ^ 60
  pub stands : Stands (logical file) q (section_spelled q (kinds_of leaves) n count columns)
  pub chunk : 0 < n
  pub some : 0 < count
  pub counted : count ≤ 2 ^ 40
  pub few : length leaves ≤ 512
  pub kinds_ok : AllByRecursion IsKind (kinds_of leaves)
  pub columns_ok : AreColumns (kinds_of leaves) count columns

-- the cloud of a written section
abbrev pub written_cloud : ℕ → ℕ → ℕ → List Leaf → Cloud
written_cloud node q count leaves = record { node = node; offset = physical q; count = count; leaves = leaves }

-- A cloud whose section is written has no fault, and its records are the columns that were written.
pub record IsCloud (file : List ℕ) (c : Cloud) (columns : List (List Value)) : Type 0 where
  pub sound : cloud_fault file c ≡ None
  pub records : records_of file c ≡ columns

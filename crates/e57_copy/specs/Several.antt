-- Clouds and blobs put one after another into a new file, each with its section from a fresh page on.
use Rattle.std.specs.Prelude.{◌≡◌, ℕ, ◌+◌, ◌/◌, ◌<◌, List, ◌++◌, length, map, None}
use Rattle.e57_base.specs.Target.{TargetView}
use Rattle.e57_page.specs.Place.{payload_length}
use Rattle.e57_page_out.specs.Sequences.{Puts}
use Rattle.e57_page_out.specs.Writing.{Writing, most_bytes}
use Rattle.e57_elements.specs.Tree.{Element}
use Rattle.e57_nodes.specs.Items.{StatedItem}
use Rattle.e57_nodes.specs.Places.{without_places}
use Rattle.e57_verdict.specs.Content.{Content}
use Rattle.e57_verdict.specs.Things.{Body, Thing, body_of, things_fault, things_in}
use Rattle.e57_verdict.specs.Verdict.{all_pages_fault}
use Rattle.e57_plain.specs.Written.{sections_from, offsets_from}

-- No page of the file has a fault, and none of these clouds and blobs.
abbrev pub AreSound : List Thing → List ℕ → Type 0
AreSound things file = (all_pages_fault file ≡ None) × (things_fault file things ≡ None)

-- what they have in the file
abbrev pub bodies_in : List ℕ → List Thing → List Body
bodies_in file things = map (body_of file) things

-- the content of a file with this tree whose items hold these bodies
abbrev pub content_with : Element → List Body → Content
content_with tree bodies = record { tree = without_places tree; bodies = bodies }

-- the content of a file with this tree, where it has no fault
abbrev pub content_in : List ℕ → Element → Content
content_in file e = content_with e (bodies_in file (things_in e))

-- The sections of these items with these bodies were put, and these are their offsets.
pub record PutsItems {T : Type 0} (view : T → TargetView) (n : ℕ) (items : List StatedItem) (bodies : List Body) (out : Writing T) (offsets : List ℕ) (out' : Writing T) : Type 0 where
  pub begin : offsets ≡ offsets_from n (out.size / payload_length) items bodies
  pub wrote : Puts view out (sections_from n (out.size / payload_length) items bodies) out'

-- The first ones of their sections would pass the last page.
pub record PassesFirst (n size : ℕ) (items : List StatedItem) (bodies : List Body) : Type 0 where
  pub before : List ℕ
  pub after : List ℕ
  pub cut : sections_from n (size / payload_length) items bodies ≡ before ++ after
  pub past : most_bytes < size + length before

-- Cases that compute: a blob in a file of one page, its bytes, and each fault of its section.
use Rattle.std.proofs.Common.{◌≡◌, ℕ, List, ◌∷◌, ◌++◌, refl}
use Rattle.std.specs.Prelude.{replicate, codes, Some, None}
use Rattle.e57_bits.specs.Bits.{number, bit}
use Rattle.e57_base.specs.Fault.{fault}
use Rattle.e57_base.specs.declared.kind.Kind.TheVariants.{Page, BlobPlace, BlobId}
use Rattle.e57_layout.specs.Headers.{blob_head_at}
use Rattle.e57_page.specs.File.{logical, page_fault, pages_fault}
use Rattle.e57_verdict.specs.Blob.{Blob, blob_fault, blob_bytes}

-- a page with a blob section of this id at place 48; the length in the section's header is of no account
abbrev file_of : ℕ → List ℕ
file_of id = replicate 48 0 ++ (id ∷ replicate 15 7 ++ (codes "hello" ++ replicate 955 0))

abbrev blob_at : ℕ → ℕ → Blob
blob_at offset length = record { node = 2; offset = offset; length = length }

hello-sound : page_fault (file_of 0) 0 ≡ None → blob_fault (file_of 0) (blob_at 48 5) ≡ None
unfolding blob_fault bit number logical pages_fault blob_head_at
hello-sound right = rw right refl

hello-bytes : blob_bytes (file_of 0) (blob_at 48 5) ≡ codes "hello"
unfolding blob_bytes logical
hello-bytes = refl

-- up to the end of the page's payload, and one byte past it
whole-sound : page_fault (file_of 0) 0 ≡ None → blob_fault (file_of 0) (blob_at 48 956) ≡ None
unfolding blob_fault bit number logical pages_fault blob_head_at
whole-sound right = rw right refl

past-end : blob_fault (file_of 0) (blob_at 48 957) ≡ Some (fault BlobPlace 2 48)
unfolding blob_fault
past-end = refl

-- an empty blob has a header too
empty-sound : page_fault (file_of 0) 0 ≡ None → blob_fault (file_of 0) (blob_at 1004 0) ≡ None
unfolding blob_fault bit number logical pages_fault blob_head_at
empty-sound right = rw right refl

empty-past : blob_fault (file_of 0) (blob_at 1005 0) ≡ Some (fault BlobPlace 2 1005)
unfolding blob_fault
empty-past = refl

-- an offset in the page's checksum word
no-place : blob_fault (file_of 0) (blob_at 1020 0) ≡ Some (fault BlobPlace 2 1020)
unfolding blob_fault
no-place = refl

other-id : page_fault (file_of 3) 0 ≡ None → blob_fault (file_of 3) (blob_at 48 5) ≡ Some (fault BlobId 2 3)
unfolding blob_fault bit number logical pages_fault blob_head_at
other-id right = rw right refl

-- the page comes before the id
wrong-page : page_fault (file_of 3) 0 ≡ Some (fault Page 0 0) → blob_fault (file_of 3) (blob_at 48 5) ≡ Some (fault Page 0 0)
unfolding blob_fault bit number logical pages_fault blob_head_at
wrong-page wrong = rw wrong refl

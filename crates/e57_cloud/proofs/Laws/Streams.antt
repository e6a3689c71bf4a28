-- The stream of a field in one packet.
use Rattle.std.specs.Prelude.{◌≡◌, ℕ, [], ◌∷◌, get_or}
use Rattle.std.proofs.Common.{append-nil}
use Rattle.e57_cloud.specs.Walk.{Packet}
use Rattle.e57_cloud.specs.Chunks.{stream_of}

pub stream-one : (f : ℕ) (p : Packet) → stream_of f (p ∷ []) ≡ get_or p.streams f []
unfolding stream_of
stream-one f p = append-nil (get_or p.streams f [])

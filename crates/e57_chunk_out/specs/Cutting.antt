-- What a packet has of streams of which some bytes are skipped.
use Rattle.std.specs.Prelude.{ℕ, Bool, List, ◌++◌, map}
use Rattle.e57_layout.specs.Packets.{data_head, lengths, packet_head, stream_lengths}
use Rattle.e57_layout.specs.Packing.{front, behind}
use Rattle.e57_chunk_out.specs.Waiting.{Waiting}

-- the fields' streams
abbrev pub streams_of : List Waiting → List (List ℕ)
streams_of fields = map (λ (w : Waiting). w.stream) fields

-- of the streams' bytes, those of a stream behind those of the streams before it, the first `room` behind `skip` bytes
abbrev pub cut : ℕ → ℕ → List (List ℕ) → List (List ℕ)
cut room skip streams = front room (behind skip streams)

-- what stands before the streams of a packet
abbrev pub heads_of : Bool → List (List ℕ) → List ℕ
heads_of restart streams = packet_head (data_head restart streams) ++ stream_lengths (lengths streams)

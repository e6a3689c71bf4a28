-- The streams of a data packet in a buffer.
use Rattle.std.specs.Prelude.{◌≡◌, ℕ, zero, suc, ◌+◌, ◌-◌, ◌*◌, ◌≤◌, List, [], ◌∷◌, length, take, drop, slice_index, Option, IfSome}
use Rattle.std.specs.Option.{option_map}

-- how many bytes a packet has at most
abbrev pub most_bytes : ℕ
most_bytes = 65536

-- where the first stream of a data packet with so many begins
abbrev pub first_stream : ℕ → ℕ
first_stream fields = 6 + 2 * fields

-- the bytes up to each of these ends, each from the end before it, the first from `begin`
abbrev pub pieces : ℕ → List ℕ → List ℕ → List (List ℕ)
pieces begin [] bytes = []
pieces begin (end ∷ ends) bytes = take (end - begin) (drop begin bytes) ∷ pieces end ends bytes

-- none of these ends is below the one before it, and the last one is at most `most`
abbrev pub EndsWithin : ℕ → ℕ → List ℕ → Type 0
EndsWithin begin most [] = begin ≤ most
EndsWithin begin most (end ∷ ends) = (begin ≤ end) × EndsWithin end most ends

-- where stream f begins, by the end of the one before it
abbrev pub stream_begin : ℕ → List ℕ → ℕ → ℕ
stream_begin begin ends zero = begin
stream_begin begin ends (suc f) = slice_index ends f

-- the streams that are held: none, or so many
abbrev pub held_streams : Option ℕ → List ℕ → List ℕ → Option (List (List ℕ))
held_streams fields ends bytes = option_map (λ n. pieces (first_stream n) (take n ends) bytes) fields

-- A buffer with room for a packet, and the ends of the streams that it holds.
pub record IsBuffer (fields : Option ℕ) (ends bytes : List ℕ) : Type 0 where
  pub bytes_room : length bytes ≡ most_bytes
  pub ends_room : length ends ≡ 512
  pub held : IfSome fields (λ n. (n ≤ 512) × EndsWithin (first_stream n) most_bytes (take n ends))

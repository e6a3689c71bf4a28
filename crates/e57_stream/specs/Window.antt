-- A window on the bytes of a stream.
use Rattle.std.specs.Prelude.{◌≡◌, ℕ, ◌-◌, ◌≤◌, List, length, take, drop}

-- how many bytes a window has at most
abbrev pub room : ℕ
room = 65552

-- how many bytes may be left where those of a packet come behind them
abbrev pub most_left : ℕ
most_left = 16

-- how many bytes a packet's stream has at most
abbrev pub most_more : ℕ
most_more = 65536

-- the bytes from `begin` to before `end`
abbrev pub held_bytes : List ℕ → ℕ → ℕ → List ℕ
held_bytes buffer begin end = take (end - begin) (drop begin buffer)

-- a buffer, and where in it the bytes stand
pub record IsRoom (buffer : List ℕ) (begin end : ℕ) : Type 0 where
  pub buffer_room : length buffer ≡ room
  pub order : begin ≤ end
  pub within : end ≤ room

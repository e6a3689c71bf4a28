-- A page of which only a front is written is torn.
use Rattle.std.proofs.Common.{◌≡◌, ℕ, ◌+◌, ◌-◌, ◌*◌, ◌<◌, ◌≤◌, ◌⊎◌, List, ◌++◌, length, get_or, take, drop, slice_index, sym, ap, subst, ◌∙◌, inl, inr, arith}
use Rattle.std.proofs.lemmas.Bool.{cases_lt}
use Rattle.std.proofs.lemmas.List.{append_assoc, length-append, length-take, length-take-le, length-drop, take_at, get_or-take, get_or-drop, get_or_append_left, get_or-append_right}
use Rattle.std.proofs.lemmas.Slice.{drop-append-drop}
use Rattle.e57_base.specs.MemTarget.{with_piece}
use Rattle.e57_base.specs.Target.{Torn}

length_front : (at : ℕ) (piece file : List ℕ) → at ≤ length file → length (take at file ++ piece) ≡ at + length piece
length_front at piece file within = omega (arith, length-append (take at file) piece, length-take-le at file within)

length-with_piece : (at : ℕ) (piece file : List ℕ) → at ≤ length file → length (with_piece at piece file) ≡ at + length piece + (length file - (at + length piece))
length-with_piece at piece file within = omega (arith, length-append (take at file ++ piece) (drop (at + length piece) file), length_front at piece file within, length-drop (at + length piece) file)

take-with_piece : (at : ℕ) (piece file : List ℕ) → at ≤ length file → take at (with_piece at piece file) ≡ take at file
take-with_piece at piece file within = ap (take at) (append_assoc (take at file) piece (drop (at + length piece) file)) ∙ take_at (take at file) (piece ++ drop (at + length piece) file) at (length-take-le at file within)

-- a byte of the piece
get_or-with_piece : (at : ℕ) (piece file : List ℕ) (i : ℕ) → at ≤ length file → at ≤ i → i < at + length piece → get_or (with_piece at piece file) i 0 ≡ get_or piece (i - at) 0
get_or-with_piece at piece file i within from below =
    let here : i < length (take at file ++ piece) = omega (arith, length_front at piece file within) in
    get_or_append_left (take at file ++ piece) (drop (at + length piece) file) 0 i here
    ∙ get_or-append_right (take at file) piece at i 0 (length-take-le at file within) from

-- a byte behind the piece
get_or-with_piece_behind : (at : ℕ) (piece file : List ℕ) (i : ℕ) → at ≤ length file → at + length piece ≤ i → get_or (with_piece at piece file) i 0 ≡ get_or file i 0
get_or-with_piece_behind at piece file i within behind =
    let there : at + length piece + (i - (at + length piece)) ≡ i = omega arith in
    get_or-append_right (take at file ++ piece) (drop (at + length piece) file) (at + length piece) i 0 (length_front at piece file within) behind
    ∙ get_or-drop (at + length piece) file (i - (at + length piece)) 0
    ∙ ap (λ k. get_or file k 0) there

module _ (n count : ℕ) (page piece file : List ℕ) (within : 1024 * n ≤ length file) (front : piece ≡ take count page) (short : length piece ≤ 1024) where
  each_byte : (i : ℕ) → 1024 * n ≤ i → i < length (with_piece (1024 * n) piece file) → i < 1024 * (n + 1) → (slice_index (with_piece (1024 * n) piece file) i ≡ slice_index file i) ⊎ (slice_index (with_piece (1024 * n) piece file) i ≡ slice_index page (i - 1024 * n))
  each_byte i from inside below =
      elim (cases_lt i (1024 * n + length piece)) [
        | inl h ↦ inr (get_or-with_piece (1024 * n) piece file i within from h ∙ ap (λ (bytes : List ℕ). get_or bytes (i - 1024 * n) 0) front ∙ get_or-take count page (i - 1024 * n) 0 (omega (arith, ap length front, length-take count page)))
        | inr h ↦ inl (get_or-with_piece_behind (1024 * n) piece file i within h)
      ]

  pub torn_piece : (new : List ℕ) → new ≡ with_piece (1024 * n) piece file → Torn n page file new
  torn_piece new is =
      subst (λ (bytes : List ℕ). Torn n page file bytes) (sym is) (record {
        before = take-with_piece (1024 * n) piece file within;
        after = drop-append-drop (1024 * n + length piece) file (take (1024 * n) file ++ piece) (1024 * (n + 1)) (omega arith) (length_front (1024 * n) piece file within);
        no_shorter = omega (arith, length-with_piece (1024 * n) piece file within);
        no_longer = omega (arith, length-with_piece (1024 * n) piece file within);
        each = each_byte;
      })

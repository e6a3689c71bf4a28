-- Laws of a piece that is written over a part of some bytes.
use Rattle.std.proofs.Common.{◌≡◌, ℕ, ◌+◌, ◌≤◌, List, ◌++◌, length, take, drop, refl, sym, ap, ◌∙◌, arith}
use Rattle.std.proofs.lemmas.List.{append_assoc, append-nil, length-append, length-take, length-take-le, length-drop, take_at, drop_at, drop_all, take-append-le, drop-append-le, drop-drop, take-append-drop}
use Rattle.e57_base.specs.MemTarget.{with_piece}

pub length-piece : (at : ℕ) (piece bytes : List ℕ) → at + length piece ≤ length bytes → length (with_piece at piece bytes) ≡ length bytes
length-piece at piece bytes within =
    omega (arith, length-append (take at bytes ++ piece) (drop (at + length piece) bytes), length-append (take at bytes) piece, length-take at bytes, length-drop (at + length piece) bytes)

-- between two parts
pub piece-between : (at : ℕ) (front piece middle back : List ℕ) → length front ≡ at → length piece ≡ length middle → with_piece at piece (front ++ (middle ++ back)) ≡ front ++ (piece ++ back)
piece-between at front piece middle back here size =
    let end : length (front ++ middle) ≡ at + length piece = omega (arith, length-append front middle) in
    rw (take_at front (middle ++ back) at here, ← append_assoc front middle back, drop_at (front ++ middle) back (at + length piece) end, append_assoc front piece back) refl

-- behind a first part
pub piece-behind : (n at : ℕ) (front piece bytes : List ℕ) → length front ≡ n → at ≤ length bytes → with_piece (n + at) piece (front ++ bytes) ≡ front ++ with_piece at piece bytes
piece-behind n at front piece bytes size within =
    let low : take (n + at) (front ++ bytes) ≡ front ++ take at bytes =
    ap (λ (xs : List ℕ). take (n + at) (front ++ xs)) (sym (take-append-drop at bytes))
    ∙ ap (take (n + at)) (sym (append_assoc front (take at bytes) (drop at bytes)))
    ∙ take_at (front ++ take at bytes) (drop at bytes) (n + at) (omega (arith, length-append front (take at bytes), length-take-le at bytes within)) in
    let high : drop (n + at + length piece) (front ++ bytes) ≡ drop (at + length piece) bytes =
    ap (λ k. drop k (front ++ bytes)) (turn n at (length piece))
    ∙ sym (drop-drop (at + length piece) n (front ++ bytes))
    ∙ ap (drop (at + length piece)) (drop_at front bytes n size) in
    rw (low, high, append_assoc front (take at bytes) piece, append_assoc front (take at bytes ++ piece) (drop (at + length piece) bytes)) refl
  where
    turn : (n at k : ℕ) → n + at + k ≡ n + (at + k)
    turn n at k = omega arith

-- before a last part
pub piece-before : (at : ℕ) (piece bytes back : List ℕ) → at + length piece ≤ length bytes → with_piece at piece (bytes ++ back) ≡ with_piece at piece bytes ++ back
piece-before at piece bytes back within =
    rw (
      take-append-le at bytes back (omega arith),
      drop-append-le (at + length piece) bytes back within,
      append_assoc (take at bytes ++ piece) (drop (at + length piece) bytes) back,
    ) refl

-- over all bytes
pub piece-whole : (piece bytes : List ℕ) → length piece ≡ length bytes → with_piece 0 piece bytes ≡ piece
piece-whole piece bytes size = rw (drop_all (0 + length piece) bytes (omega arith), append-nil) refl

-- directly behind a front of the bytes
pub piece-next : (at : ℕ) (front piece bytes : List ℕ) → length front ≡ at → with_piece at piece (front ++ drop at bytes) ≡ front ++ piece ++ drop (at + length piece) bytes
piece-next at front piece bytes size =
    let high : drop (at + length piece) (front ++ drop at bytes) ≡ drop (at + length piece) bytes =
    sym (drop-drop (length piece) at (front ++ drop at bytes)) ∙ ap (drop (length piece)) (drop_at front (drop at bytes) at size) ∙ drop-drop (length piece) at bytes in
    rw (take_at front (drop at bytes) at size, high) refl

-- within the first k bytes
pub piece-front : (k at : ℕ) (piece bytes : List ℕ) → at + length piece ≤ k → k ≤ length bytes → take k (with_piece at piece bytes) ≡ with_piece at piece (take k bytes)
piece-front k at piece bytes within fits =
    let size : length (take k bytes) ≡ k = length-take-le k bytes fits in
    let split : with_piece at piece bytes ≡ with_piece at piece (take k bytes) ++ drop k bytes =
    ap (with_piece at piece) (sym (take-append-drop k bytes)) ∙ piece-before at piece (take k bytes) (drop k bytes) (omega arith) in
    ap (take k) split ∙ take_at (with_piece at piece (take k bytes)) (drop k bytes) k (length-piece at piece (take k bytes) (omega arith) ∙ size)

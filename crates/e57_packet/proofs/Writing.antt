-- Pieces that are put one after another.
use Rattle.std.proofs.Common.{◌≡◌, ℕ, ◌+◌, ◌%◌, ◌<◌, List, [], ◌∷◌, ◌++◌, length, take, refl, sym, ap, ◌∙◌}
use Rattle.std.proofs.Math.Nat.{le_refl, mod-eq_of_lt}
use Rattle.std.proofs.lemmas.List.{take_all}
use Rattle.std.specs.Int.{bytes_low_first}
use Rattle.e57_layout.specs.Bytes.{low_bytes}
use Rattle.e57_layout.proofs.Laws.Numbers.{low_bytes-zero, low_bytes-suc, length-low_bytes, little-low_bytes}
use Rattle.e57_packet.specs.Reading.{Puts}

-- one more piece of n bytes, behind those before it
pub put_next : (old new front piece : List ℕ) (at n m : ℕ) → take at old ≡ front → length piece ≡ n → m ≡ at + n → Puts old at piece new → take m new ≡ front ++ piece
put_next old new front piece at n m before long end is = rw (end, ← long, ← before) is

-- the same of the k bytes of a number, the lowest first
pub put_number : (old new front piece : List ℕ) (at k n m : ℕ) → take at old ≡ front → piece ≡ bytes_low_first 0 k n → m ≡ at + k → Puts old at piece new → take m new ≡ front ++ low_bytes k n
put_number old new front piece at k n m before spelled end is =
    let same : piece ≡ low_bytes k n = spelled ∙ little-low_bytes k n in
    let long : length piece ≡ k = ap (λ (b : List ℕ). length b) same ∙ length-low_bytes k n in
    put_next old new front piece at k m before long end is ∙ ap (λ (b : List ℕ). front ++ b) same

-- the same of one byte
pub put_byte : (old new front piece : List ℕ) (at n m : ℕ) → take at old ≡ front → n < 256 → piece ≡ n ∷ [] → m ≡ at + 1 → Puts old at piece new → take m new ≡ front ++ low_bytes 1 n
put_byte old new front piece at n m before small spelled end is =
    let low : n % 256 ≡ n = mod-eq_of_lt small in
    let same : low_bytes 1 n ≡ n ∷ [] = rw (low_bytes-suc, low_bytes-zero, low) refl in
    put_next old new front piece at 1 m before (ap (λ (b : List ℕ). length b) spelled) end is
    ∙ ap (λ (b : List ℕ). front ++ b) (spelled ∙ sym same)

-- all pieces
pub put_all : (new pieces : List ℕ) (n : ℕ) → length new ≡ n → take n new ≡ pieces → new ≡ pieces
put_all new pieces n long is = sym (take_all n new (rw long (le_refl n))) ∙ is

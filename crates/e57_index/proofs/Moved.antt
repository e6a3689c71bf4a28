-- What is read of a piece of bytes is what is read where the piece stands.
use Rattle.std.proofs.Common.{◌≡◌, ℕ, zero, suc, ◌+◌, ◌*◌, ◌≤◌, List, take, drop, refl, arith}
use Rattle.e57_bits.specs.Bits.{number}
use Rattle.e57_layout.specs.IndexPackets.{entry_count_at, level_at, entry_at, entries_at}
use Rattle.e57_section.proofs.Moved.{number-piece}

pub count-piece : (b : List ℕ) (q n : ℕ) → 16 ≤ n → entry_count_at (take n (drop q b)) 0 ≡ entry_count_at b q
unfolding entry_count_at
count-piece b q n h = number-piece b q n 32 (8 * q + 32) 16 (omega arith) refl

pub level-piece : (b : List ℕ) (q n : ℕ) → 16 ≤ n → level_at (take n (drop q b)) 0 ≡ level_at b q
unfolding level_at
level-piece b q n h = number-piece b q n 48 (8 * q + 48) 8 (omega arith) refl

pub entries-piece : (b : List ℕ) (q n at p k : ℕ) → p ≡ q + at → at + 16 * k ≤ n → entries_at (take n (drop q b)) at k ≡ entries_at b p k
unfolding entries_at entry_at
entries-piece b q n at p zero e h = refl
entries-piece b q n at p (suc k) e h =
    let first : number (take n (drop q b)) (8 * at) 64 ≡ number b (8 * p) 64 = number-piece b q n (8 * at) (8 * p) 64 (omega arith) (omega arith) in
    let place : number (take n (drop q b)) (8 * at + 64) 64 ≡ number b (8 * p + 64) 64 = number-piece b q n (8 * at + 64) (8 * p + 64) 64 (omega arith) (omega arith) in
    let rest : entries_at (take n (drop q b)) (at + 16) k ≡ entries_at b (p + 16) k = entries-piece b q n (at + 16) (p + 16) k (omega arith) (omega arith) in
    rw (first, place, rest) refl

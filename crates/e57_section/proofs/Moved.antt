-- What is read of a piece of bytes is what is read where the piece stands.
use Rattle.std.proofs.Common.{◌≡◌, ℕ, zero, suc, ◌+◌, ◌*◌, ◌≤◌, List, take, drop, refl, ap, ◌∙◌, arith, lit≤}
use Rattle.e57_bits.specs.Bits.{number}
use Rattle.e57_bits.proofs.BitLaws.{number-take, number-drop}
use Rattle.e57_layout.specs.Headers.{section_head_at}
use Rattle.e57_layout.specs.Packets.{sort_at, length_at, packet_head_at, stream_count_at, lengths_at}

pub number-piece : (b : List ℕ) (q n t u w : ℕ) → t + w ≤ 8 * n → u ≡ 8 * q + t → number (take n (drop q b)) t w ≡ number b u w
number-piece b q n t u w h e = number-take (drop q b) n t w h ∙ number-drop b q t w ∙ rw e refl

pub section_head-piece : (b : List ℕ) (q : ℕ) → section_head_at (take 32 (drop q b)) 0 ≡ section_head_at b q
unfolding section_head_at
section_head-piece b q =
    let id : number (take 32 (drop q b)) 0 8 ≡ number b (8 * q) 8 = number-piece b q 32 0 (8 * q) 8 (lit≤ tt) (omega arith) in
    let length : number (take 32 (drop q b)) 64 64 ≡ number b (8 * q + 64) 64 = number-piece b q 32 64 (8 * q + 64) 64 (lit≤ tt) refl in
    let data_place : number (take 32 (drop q b)) 128 64 ≡ number b (8 * q + 128) 64 = number-piece b q 32 128 (8 * q + 128) 64 (lit≤ tt) refl in
    let index : number (take 32 (drop q b)) 192 64 ≡ number b (8 * q + 192) 64 = number-piece b q 32 192 (8 * q + 192) 64 (lit≤ tt) refl in
    rw (id, length, data_place, index) refl

pub sort-piece : (b : List ℕ) (q n : ℕ) → 4 ≤ n → sort_at (take n (drop q b)) 0 ≡ sort_at b q
unfolding sort_at
sort-piece b q n h = number-piece b q n 0 (8 * q) 8 (omega arith) (omega arith)

pub length-piece : (b : List ℕ) (q n : ℕ) → 4 ≤ n → length_at (take n (drop q b)) 0 ≡ length_at b q
unfolding length_at
length-piece b q n h = ap (λ x. x + 1) (number-piece b q n 16 (8 * q + 16) 16 (omega arith) refl)

pub packet_head-piece : (b : List ℕ) (q : ℕ) → packet_head_at (take 4 (drop q b)) 0 ≡ packet_head_at b q
unfolding packet_head_at
packet_head-piece b q =
    let sort = sort-piece b q 4 (lit≤ tt) in
    let flags : number (take 4 (drop q b)) 8 8 ≡ number b (8 * q + 8) 8 = number-piece b q 4 8 (8 * q + 8) 8 (lit≤ tt) refl in
    let length = length-piece b q 4 (lit≤ tt) in
    rw (sort, flags, length) refl

pub count-piece : (b : List ℕ) (q n : ℕ) → 6 ≤ n → stream_count_at (take n (drop q b)) 0 ≡ stream_count_at b q
unfolding stream_count_at
count-piece b q n h = number-piece b q n 32 (8 * q + 32) 16 (omega arith) refl

pub lengths-piece : (b : List ℕ) (q n at p k : ℕ) → p ≡ q + at → at + 2 * k ≤ n → lengths_at (take n (drop q b)) at k ≡ lengths_at b p k
unfolding lengths_at
lengths-piece b q n at p zero e h = refl
lengths-piece b q n at p (suc k) e h =
    let first : number (take n (drop q b)) (8 * at) 16 ≡ number b (8 * p) 16 = number-piece b q n (8 * at) (8 * p) 16 (omega arith) (omega arith) in
    let rest : lengths_at (take n (drop q b)) (at + 2) k ≡ lengths_at b (p + 2) k = lengths-piece b q n (at + 2) (p + 2) k (omega arith) (omega arith) in
    rw (first, rest) refl

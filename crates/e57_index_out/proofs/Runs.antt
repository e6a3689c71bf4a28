-- Laws of the entries of a level that are made from their numbers: how they are cut into packets, and which entries name
-- these.
use Rattle.std.proofs.Common.{◌≡◌, ℕ, zero, suc, ◌+◌, ◌-◌, ◌*◌, ◌/◌, ◌<◌, ◌≤◌, min, List, [], ◌∷◌, length, map, drop, refl, sym, ap, ◌∙◌, arith}
use Rattle.std.specs.List.{range_with_len}
use Rattle.std.proofs.lemmas.List.FromFn.{length-map-range_with_len}
use Rattle.e57_layout.specs.declared.packet.Entry.{Entry}
use Rattle.e57_layout.specs.IndexPackets.{index_size}
use Rattle.e57_layout.specs.Written.{physical, first_record, entry_runs, level_size, upper_entries}
use Rattle.e57_layout.proofs.Laws.Index.{entry_runs-nil, entry_runs-step, upper_entries-cons, level_size-cons}
use Rattle.e57_index_out.proofs.Made.{made, drop-made, take-made}

-- run j of n entries
abbrev pub run : (ℕ → Entry) → ℕ → ℕ → List Entry
run f n j = made f (2048 * j) (min 2048 (n - 2048 * j))

length-run : (f : ℕ → Entry) (n j : ℕ) → length (run f n j) ≡ min 2048 (n - 2048 * j)
length-run f n j = length-map-range_with_len f (2048 * j) (min 2048 (n - 2048 * j))

runs-from : (f : ℕ → Entry) (n most j left : ℕ) → n - 2048 * j ≡ left → left ≤ most → entry_runs (made f (2048 * j) left) ≡ made (run f n) j ((left + 2047) / 2048)
runs-from f n most j zero is within = entry_runs-nil
runs-from f n zero j (suc left) is within = absurd (omega arith)
runs-from f n (suc most) j (suc left) is within =
    let count : suc ((suc left - 2048 + 2047) / 2048) ≡ (suc left + 2047) / 2048 = omega arith in
    let size : min 2048 (suc left) ≡ min 2048 (n - 2048 * j) = omega arith in
    let next : 2048 * j + 2048 ≡ 2048 * (j + 1) = omega arith in
    entry_runs-step (f (2048 * j)) (made f (2048 * j + 1) left)
    ∙ ap (λ xs. xs ∷ entry_runs (drop_2048 (suc left))) (take-made f (2048 * j) (suc left) 2048 ∙ ap (λ i. made f (2048 * j) i) size)
    ∙ ap (λ xs. run f n j ∷ entry_runs xs) (drop-made f (2048 * j) (suc left) 2048 ∙ ap (λ i. made f i (suc left - 2048)) next)
    ∙ ap (λ xs. run f n j ∷ xs) (runs-from f n most (j + 1) (suc left - 2048) (omega arith) (omega arith))
    ∙ ap (λ i. made (run f n) j i) count
  where
    drop_2048 : ℕ → List Entry
    drop_2048 left = drop 2048 (made f (2048 * j) left)

-- the runs of n entries
pub runs-made : (f : ℕ → Entry) (n : ℕ) → entry_runs (made f 0 n) ≡ made (run f n) 0 ((n + 2047) / 2048)
runs-made f n = runs-from f n n 0 n (omega arith) (omega arith)

-- entry k of the level above
abbrev pub above : (ℕ → Entry) → ℕ → ℕ → Entry
above f q k = record { first = (f (2048 * k)).first; place = physical (q + k * 32784) }

first-made : (f : ℕ → Entry) (a n : ℕ) → 0 < n → first_record (made f a n) ≡ (f a).first
first-made f a zero some = absurd (omega arith)
first-made f a (suc n) some = refl

upper-nil : (q : ℕ) → upper_entries q [] ≡ []
unfolding upper_entries
upper-nil q = refl

upper-from : (f : ℕ → Entry) (n q count j p : ℕ) → (n - 2048 * j + 2047) / 2048 ≡ count → q + j * 32784 ≡ p → upper_entries p (made (run f n) j count) ≡ made (above f q) j count
upper-from f n q zero j p is place = upper-nil p
upper-from f n q (suc zero) j p is place =
    upper_entries-cons p (run f n j) []
    ∙ ap (λ xs. record { first = first_record (run f n j); place = physical p } ∷ xs) (upper-nil (p + index_size (length (run f n j))))
    ∙ ap (λ k. record { first = k; place = physical p } ∷ []) (first-made f (2048 * j) (min 2048 (n - 2048 * j)) (omega arith))
    ∙ ap (λ i. record { first = (f (2048 * j)).first; place = physical i } ∷ []) (sym place)
upper-from f n q (suc (suc count)) j p is place =
    let size = length-run f n j in
    upper_entries-cons p (run f n j) (made (run f n) (j + 1) (suc count))
    ∙ ap (λ xs. record { first = first_record (run f n j); place = physical p } ∷ xs) (upper-from f n q (suc count) (j + 1) (p + index_size (length (run f n j))) (omega arith) (omega arith))
    ∙ ap (λ k. record { first = k; place = physical p } ∷ made (above f q) (j + 1) (suc count)) (first-made f (2048 * j) (min 2048 (n - 2048 * j)) (omega arith))
    ∙ ap (λ i. record { first = (f (2048 * j)).first; place = physical i } ∷ made (above f q) (j + 1) (suc count)) (sym place)

-- the entries that name the runs of n entries
pub upper-made : (f : ℕ → Entry) (n q : ℕ) → upper_entries q (entry_runs (made f 0 n)) ≡ made (above f q) 0 ((n + 2047) / 2048)
upper-made f n q =
    let none : n - 2048 * 0 ≡ n = omega arith in
    ap (upper_entries q) (runs-made f n) ∙ upper-from f n q ((n + 2047) / 2048) 0 q (ap (λ i. (i + 2047) / 2048) none) (omega arith)

size-from : (f : ℕ → Entry) (n level count j : ℕ) → (n - 2048 * j + 2047) / 2048 ≡ count → 32784 * (count - 1) ≤ level_size level (made (run f n) j count)
size-from f n level zero j is = omega arith
size-from f n level (suc zero) j is = omega arith
size-from f n level (suc (suc count)) j is =
    let size = length-run f n j in
    let later = size-from f n level (suc count) (j + 1) (omega arith) in
    omega (arith, level_size-cons level (run f n j) (made (run f n) (j + 1) (suc count)))

-- all packets but the last are whole
pub size-made : (f : ℕ → Entry) (n level : ℕ) → 32784 * ((n + 2047) / 2048 - 1) ≤ level_size level (entry_runs (made f 0 n))
size-made f n level =
    let none : n - 2048 * 0 ≡ n = omega arith in
    rw (runs-made f n) (size-from f n level ((n + 2047) / 2048) 0 (ap (λ i. (i + 2047) / 2048) none))

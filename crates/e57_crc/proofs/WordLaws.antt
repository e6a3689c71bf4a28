-- The word of a page in both byte orders.
use Rattle.std.proofs.Common.{◌≡◌, ℕ, ◌+◌, ◌*◌, ◌-◌, ◌<◌, ◌==◌, ◌||◌, true, false, List, length, get_or, take, drop, reverse, refl, sym, ap, ◌∙◌, arith, length-drop, lit<, ◌≤◌, ◌⊎◌, inl, inr, eq-eqb, ne_eqb}
use Rattle.std.proofs.lemmas.Bool.{cases_lt}
use Rattle.std.specs.Int.{swap_bytes, w32}
use Rattle.std.proofs.lemmas.List.{get_or-reverse, length-reverse, get_or-drop, get_or_past}
use Rattle.e57_bits.specs.Bits.{number, le}
use Rattle.e57_bits.proofs.BitLaws.{number-byte, number-byte_first}
use Rattle.e57_crc.specs.Crc.{crc, is_right}

-- the number in four bytes, the lowest first
four : ℕ → ℕ → ℕ → ℕ → ℕ
four p q r s = p + 256 * (q + 256 * (r + 256 * s))

number-four : (b : List ℕ) → ((k : ℕ) → get_or b k 0 < 256) → number b 0 32 ≡ four (get_or b 0 0) (get_or b 1 0) (get_or b 2 0) (get_or b 3 0)
unfolding four
number-four b small =
    number-byte_first b 0 24 (small 0)
    ∙ ap (λ n. get_or b 0 0 + 256 * n) (number-byte_first b 1 16 (small 1)
    ∙ ap (λ n. get_or b 1 0 + 256 * n) (number-byte_first b 2 8 (small 2)
    ∙ ap (λ n. get_or b 2 0 + 256 * n) (number-byte b 3 (small 3))))

swap_bytes-four : (p q r s : ℕ) → p < 256 → q < 256 → r < 256 → s < 256 → swap_bytes w32 (four p q r s) ≡ four s r q p
unfolding four
swap_bytes-four p q r s hp hq hr hs = omega arith

le-four : (b : List ℕ) → length b ≡ 4 → le b ≡ number b 0 32
unfolding le
le-four b h = ap (λ n. number b 0 (8 * n)) h

swap_bytes-le : (b : List ℕ) → length b ≡ 4 → ((k : ℕ) → get_or b k 0 < 256) → swap_bytes w32 (number b 0 32) ≡ le (reverse b)
swap_bytes-le b h small =
    let turned : (k : ℕ) → k < 4 → get_or (reverse b) k 0 ≡ get_or b (3 - k) 0 = λ k g. turned_at k g in
    let turned_small : (k : ℕ) → get_or (reverse b) k 0 < 256 = λ k. small_at k (cases_lt k 4) in
    ap (swap_bytes w32) (number-four b small)
    ∙ swap_bytes-four _ _ _ _ (small 0) (small 1) (small 2) (small 3)
    ∙ sym
    (le-four (reverse b) (length-reverse b ∙ h)
    ∙ number-four (reverse b) turned_small
    ∙ cc (turned 0 (lit< tt), turned 1 (lit< tt), turned 2 (lit< tt), turned 3 (lit< tt)))
  where
    turned_at : (k : ℕ) → k < 4 → get_or (reverse b) k 0 ≡ get_or b (3 - k) 0
    turned_at k g =
        let within : k < length b = omega arith in
        let place : length b - 1 - k ≡ 3 - k = omega arith in
        get_or-reverse b k 0 within ∙ ap (λ i. get_or b i 0) place

    small_at : (k : ℕ) → (k < 4) ⊎ (4 ≤ k) → get_or (reverse b) k 0 < 256
    small_at k (inl g) = rw (turned_at k g) (small (3 - k))
    small_at k (inr g) =
        let past : length (reverse b) ≤ k = rw (length-reverse b, h) g in
        rw (get_or_past (reverse b) k 0 past) (lit< tt)

-- the test of a page by its word as a number
is_right-is : (page : List ℕ) → length page ≡ 1024 → ((k : ℕ) → get_or page k 0 < 256) → (stored sum : ℕ) → stored ≡ number (drop 1020 page) 0 32 → sum ≡ crc (take 1020 page)
    → is_right page ≡ ((stored == sum) || (swap_bytes w32 stored == sum))
unfolding is_right
is_right-is page h small stored sum word payload =
    let short : length (drop 1020 page) ≡ 4 = simp length-drop (omega arith) in
    let small_word : (k : ℕ) → get_or (drop 1020 page) k 0 < 256 = λ k. rw get_or-drop (small (1020 + k)) in
    rw (le-four (drop 1020 page) short, ← swap_bytes-le (drop 1020 page) short small_word, word, payload) refl

module _ (page : List ℕ) (h : length page ≡ 1024) (small : (k : ℕ) → get_or page k 0 < 256) (stored sum : ℕ) (word : stored ≡ number (drop 1020 page) 0 32) (payload : sum ≡ crc (take 1020 page)) where
  pub one_order : stored ≡ sum → (stored == sum) ≡ is_right page
  one_order e =
      let test : (stored == sum) ≡ true = eq-eqb stored sum e in
      test ∙ sym (is_right-is page h small stored sum word payload ∙ ap (λ b. b || (swap_bytes w32 stored == sum)) test)

  pub other_order : (stored ≡ sum → ⊥) → (swapped : ℕ) → swapped ≡ swap_bytes w32 stored → (swapped == sum) ≡ is_right page
  other_order ne swapped e =
      let test : (stored == sum) ≡ false = ne_eqb stored sum ne in
      ap (λ n. n == sum) e ∙ sym (is_right-is page h small stored sum word payload ∙ ap (λ b. b || (swap_bytes w32 stored == sum)) test)

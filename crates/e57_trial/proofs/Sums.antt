-- Sums of raw numbers.
use Rattle.std.proofs.Common.{◌≡◌, ℕ, zero, suc, ◌+◌, ◌-◌, ◌%◌, ◌^◌, ◌<◌, ℤ, Bor, List, [], ◌∷◌, ◌++◌, length, map, take, drop, get_or, pos, refl, sym, ap, ◌∙◌, arith}
use Rattle.std.specs.List.{sum_by, range_with_len}
use Rattle.std.proofs.lemmas.List.Sums.{sum_by-append, sum_by-cons}
use Rattle.e57_layout.specs.Values.{Value, whole, word, octets}
use Rattle.e57_blocks.specs.declared.block.Run.{Run}
use Rattle.e57_blocks.specs.declared.block.Run.TheVariants as a_run
use Rattle.e57_blocks.specs.Runs.{run_values, strings_from}
use Rattle.e57_layout.specs.Packing.{join_columns}
use Rattle.e57_trial.specs.Summing.{raw_number, column_sum, first_sum}
use Rattle.e57_verdict.specs.Things.{records_body}
use Rattle.e57_trial.specs.Content.{columns_from, trial_content, trial_sum, x_at}

-- ---- one after another

added : (a b : ℕ) → (a % 2 ^ 64 + b) % 2 ^ 64 ≡ (a + b) % 2 ^ 64
added a b = omega arith

pub sum-none : column_sum [] ≡ 0
unfolding column_sum
sum-none = refl

pub sum-more : (total next : ℕ) (xs ys : List Value) → total ≡ column_sum xs → next ≡ (total + sum_by raw_number ys) % 2 ^ 64 → next ≡ column_sum (xs ++ ys)
unfolding column_sum
sum-more total next xs ys is more =
    more
    ∙ ap (λ n. (n + sum_by raw_number ys) % 2 ^ 64) is
    ∙ added (sum_by raw_number xs) (sum_by raw_number ys)
    ∙ ap (λ n. n % 2 ^ 64) (sym (sum_by-append raw_number xs ys))

pub first-joined : (xs ys : List (List Value)) → length xs ≡ length ys → get_or (join_columns xs ys) 0 [] ≡ get_or xs 0 [] ++ get_or ys 0 []
unfolding join_columns
first-joined [] [] same = refl
first-joined [] (y ∷ ys) same = absurd (omega arith)
first-joined (x ∷ xs) [] same = absurd (omega arith)
first-joined (x ∷ xs) (y ∷ ys) same = refl

-- ---- items that aren't integers

words-sum : (xs : List ℕ) → sum_by raw_number (map word xs) ≡ 0
words-sum [] = refl
words-sum (x ∷ xs) =
    let first : sum_by raw_number (map word (x ∷ xs)) ≡ 0 + sum_by raw_number (map word xs) = sum_by-cons raw_number (word x) (map word xs) in
    let rest = words-sum xs in
    omega (arith, first, rest)

strings-sum : (bytes : List ℕ) (begin : ℕ) (ends : List ℕ) → sum_by raw_number (strings_from bytes begin ends) ≡ 0
unfolding strings_from
strings-sum bytes begin [] = refl
strings-sum bytes begin (e ∷ ends) =
    let first : sum_by raw_number (strings_from bytes begin (e ∷ ends)) ≡ 0 + sum_by raw_number (strings_from bytes e ends) = sum_by-cons raw_number (octets (take (e - begin) (drop begin bytes))) (strings_from bytes e ends) in
    let rest = strings-sum bytes e ends in
    omega (arith, first, rest)

run-sum : (run : Run) → ((x : Bor (List ℤ)) → run ≡ a_run.Ints x → ⊥) → sum_by raw_number (run_values run) ≡ 0
run-sum (a_run.Ints items) never = absurd (never items refl)
run-sum (a_run.Bits32 items) never = words-sum items.now
run-sum (a_run.Bits64 items) never = words-sum items.now
run-sum (a_run.Texts bytes begin ends) never = strings-sum bytes.now begin ends.now

pub same-sum : (total : ℕ) (run : Run) → total < 2 ^ 64 → ((x : Bor (List ℤ)) → run ≡ a_run.Ints x → ⊥) → total ≡ (total + sum_by raw_number (run_values run)) % 2 ^ 64
same-sum total run small never = let none = run-sum run never in omega (arith, small, none)

-- ---- numbers of a rule

pub rule-sum : (f : ℕ → ℕ) (from n : ℕ) → sum_by raw_number (map (λ i. whole (pos (f i))) (range_with_len from n)) ≡ sum_by f (range_with_len from n)
rule-sum f from zero = refl
rule-sum f from (suc n) =
    sum_by-cons raw_number (whole (pos (f from))) (map (λ i. whole (pos (f i))) (range_with_len (from + 1) n))
    ∙ ap (λ k. f from + k) (rule-sum f (from + 1) n)
    ∙ sym (sum_by-cons f from (range_with_len (from + 1) n))

-- ---- of a content of two numbers

pub trial-bodies : (start count : ℕ) → (trial_content start count).bodies ≡ records_body (columns_from start 0 count) ∷ []
unfolding trial_content
trial-bodies start count = refl

pub trial-sum-is : (start count : ℕ) → first_sum (columns_from start 0 count) ≡ trial_sum start count
unfolding column_sum trial_sum
trial-sum-is start count = ap (λ n. n % 2 ^ 64) (rule-sum (x_at start) 0 count)

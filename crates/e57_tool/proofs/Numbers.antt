-- The number that a word of decimal digits writes.
use Rattle.std.proofs.Common.{◌≡◌, ℕ, cond, ◌^◌, ◌<◌, ◌≤◌, Bool, true, false, ◌&&◌, List, length, Option, Some, None, Err, refl, arith}
use Rattle.std.specs.Prelude.{nat_lt, nat_le}
use Rattle.std.specs.List.{list_all}
use Rattle.std.specs.Str.Parse.{digits_value, ParsesUnsigned}
use Rattle.std.proofs.lemmas.Bool.Decides.{nat_tests}
use Rattle.std.proofs.lemmas.Str.Parse.{IsDigitsTest, IsNumeralModel, numerals_by_value, parse_digits}
use Rattle.e57_tool.specs.Cursor.{is_digit, number_of}
use Rattle.std.proofs.lemmas.Bool.{and_parts}

digit_range : (c : ℕ) → is_digit c ≡ true → (48 ≤ c) × (c ≤ 57)
digit_range c e = let parts = and_parts (nat_le 48 c) (nat_le c 57) e in let a = parts.0 in let b = parts.1 in (grind (arith, nat_tests), grind (arith, nat_tests))

range_digit : (c : ℕ) → 48 ≤ c → c ≤ 57 → is_digit c ≡ true
range_digit c low high = grind (arith, nat_tests)

tells : IsDigitsTest (λ ds. list_all is_digit ds ≡ true)
tells =
    record {
      empty = refl;
      parts = λ c cs e. let k = and_parts (is_digit c) (list_all is_digit cs) e in (digit_range c k.0, k.1);
      more = λ c cs k e. rw (range_digit c k.0 k.1, e) refl;
    }

own : IsNumeralModel (λ ds. list_all is_digit ds ≡ true) (digits_value 10)
own = numerals_by_value (λ ds. list_all is_digit ds ≡ true) tells

pub not_parsed : {E : Type 0} (word : List ℕ) (failure : E) → list_all is_digit word ≡ true → ParsesUnsigned {E = E} 64 10 word (Err failure) → None ≡ number_of word
unfolding number_of
not_parsed {E} word failure digits gives =
    let never = parse_digits own {E = E} 64 word (Err failure) gives digits in
    rw digits (either (nat_lt 0 (length word)) (nat_le (length word) 20) (nat_lt (digits_value 10 word) (2 ^ 64)) refl refl never) where
      either : (a b c : Bool) → nat_lt 0 (length word) ≡ a → nat_lt (digits_value 10 word) (2 ^ 64) ≡ c → ((0 < length word) × (digits_value 10 word < 2 ^ 64) → ⊥) → ◌≡◌ {A = Option ℕ} None (cond (a && (b && (true && c))) (Some (digits_value 10 word)) None)
      either true true true is small never = absurd (never (grind (arith, nat_tests), grind (arith, nat_tests)))
      either true true false is small never = refl
      either true false c is small never = refl
      either false b c is small never = refl

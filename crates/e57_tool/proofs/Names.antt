-- The names of a list, one after another, and the words that begin with the front of an option.
use Rattle.std.proofs.Common.{◌≡◌, ◌≢◌, ℕ, ◌+◌, ◌<◌, ◌&&◌, not, Bool, true, false, ◌==◌, List, [], ◌∷◌, length, drop, get_or, Option, Some, None, option_map, MatchOption, Bor, refl, sym, ap, ◌∙◌, arith}
use Rattle.std.specs.Prelude.{nat_lt}
use Rattle.std.specs.List.{starts_with}
use Rattle.std.specs.Str.Pattern.{FindsTextPrefix}
use Rattle.std.proofs.lemmas.Bool.{cond-true, cond-false}
use Rattle.std.proofs.lemmas.Bool.Decides.{nat_tests}
use Rattle.std.proofs.lemmas.Grind.{common_steps}
use Rattle.std.proofs.lemmas.List.Splits.{slice_split_first}
use Rattle.std.proofs.lemmas.Str.Pattern.{IsSplitOnceResult, split_once_first, split_parts, starts_text}
use Rattle.e57_select.specs.Asking.{names_in}
use Rattle.e57_tool.specs.Options.{are_distinct, is_new, value_behind}

-- no comma stands in the text
abbrev HasNoComma : List ℕ → Type 0
HasNoComma text = (i : ℕ) → i < length text → get_or text i 0 ≢ 44

no_comma_first : (b : ℕ) (text : List ℕ) → HasNoComma (b ∷ text) → (b == 44) ≡ false
no_comma_first b text none = let other : b ≢ 44 = none 0 (grind (arith, common_steps)) in grind (arith, nat_tests)

no_comma_later : (b : ℕ) (text : List ℕ) → HasNoComma (b ∷ text) → HasNoComma text
no_comma_later b text none i within = let other = none (i + 1) (grind (arith, common_steps)) in grind (arith, common_steps)

one_name : (text : List ℕ) → HasNoComma text → names_in text ≡ text ∷ []
one_name [] none = refl
one_name (b ∷ text) none = rw (no_comma_first b text none, one_name text (no_comma_later b text none)) refl

-- the text is one name
pub is_name : (text : List ℕ) → IsSplitOnceResult 44 text None → names_in text ≡ text ∷ []
is_name text cases = one_name text (split_parts 44 text None cases (omega arith))

-- the text is a name, a comma, and others
pub is_names : (text : List ℕ) (name others : Bor (List ℕ)) → IsSplitOnceResult 44 text (Some (name, others)) → names_in text ≡ name.now ∷ names_in others.now
is_names text name others cases =
    let parts = split_once_first 44 text (Some (name, others)) cases (omega arith) in
    rw (parts.1, parts.2) (slice_split_first (λ b. b == 44) text 0 parts.0)

-- the value of an option
pub value_is : (front word : List ℕ) (found : Option (Bor (List ℕ))) → MatchOption found (FindsTextPrefix front word None) (λ value. (k : ℕ) × FindsTextPrefix front word (Some k) × (value.now ≡ drop k word) × (length value.now + k ≡ length word)) → option_map (λ value. value.now) found ≡ value_behind front word
value_is front word None cases = sym (cond-false (starts_with _ word front) _ _ (sym (starts_text false front word cases)))
value_is front word (Some value) (k, finds, rest, length_is) =
    let begins = starts_text true front word (k, finds, rw finds.0 finds.2) in
    sym (cond-true (starts_with _ word front) _ _ (sym begins) ∙ ap Some (ap (λ n. drop n word) (sym finds.0) ∙ sym rest))

pub next_name : (text : List ℕ) (name others : Bor (List ℕ)) → IsSplitOnceResult 44 text (Some (name, others)) → is_new name.now (names_in others.now) ≡ true → are_distinct (names_in text) ≡ are_distinct (names_in others.now)
unfolding are_distinct
next_name text name others cases new = rw (is_names text name others cases, new) refl

pub repeated_name : (text : List ℕ) (name others : Bor (List ℕ)) → IsSplitOnceResult 44 text (Some (name, others)) → is_new name.now (names_in others.now) ≡ false → are_distinct (names_in text) ≡ false
unfolding are_distinct
repeated_name text name others cases old = rw (is_names text name others cases, old) refl

is_longer : (n : ℕ) → not (n == 0) ≡ (nat_lt 0 n && true && true)
is_longer n = grind (arith, nat_tests)

pub last_name : (text : List ℕ) (empty : Bool) → IsSplitOnceResult 44 text None → empty ≡ (length text == 0) → not empty ≡ are_distinct (names_in text)
unfolding are_distinct
last_name text empty cases is = rw (is, is_name text cases) (is_longer (length text))

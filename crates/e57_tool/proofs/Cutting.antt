-- A text that is cut at its last colon.
use Rattle.std.proofs.Common.{◌≡◌, ◌≢◌, ℕ, suc, ◌+◌, ◌<◌, ◌≤◌, ◌==◌, false, List, [], ◌∷◌, ◌++◌, length, take, drop, get_or, Option, Some, None, option_map, MatchOption, Bor, refl, sym, ap, ◌∙◌, arith}
use Rattle.std.specs.Str.Pattern.{RFindsChar}
use Rattle.std.proofs.Math.Seq.{drop-cons}
use Rattle.std.proofs.lemmas.Bool.Decides.{nat_tests}
use Rattle.std.proofs.lemmas.Grind.{common_steps}
use Rattle.std.proofs.lemmas.List.{take-append-drop}
use Rattle.std.proofs.lemmas.Str.{len_utf8_ascii}
use Rattle.std.proofs.lemmas.Str.Pattern.{NoCharPasses-char}
use Rattle.e57_tool.specs.FilterOptions.{cut_last}

-- no colon stands in the text
abbrev HasNoColon : List ℕ → Type 0
HasNoColon text = (i : ℕ) → i < length text → get_or text i 0 ≢ 58

no_colon_first : (b : ℕ) (text : List ℕ) → HasNoColon (b ∷ text) → (b == 58) ≡ false
no_colon_first b text none = let other : b ≢ 58 = none 0 (grind (arith, common_steps)) in grind (arith, nat_tests)

no_colon_later : (b : ℕ) (text : List ℕ) → HasNoColon (b ∷ text) → HasNoColon text
no_colon_later b text none i within = let other = none (i + 1) (grind (arith, common_steps)) in grind (arith, common_steps)

uncut : (text : List ℕ) → HasNoColon text → cut_last text ≡ None
unfolding cut_last
uncut [] none = refl
uncut (b ∷ text) none = rw (uncut text (no_colon_later b text none), no_colon_first b text none) refl

cut_there : (front back : List ℕ) → HasNoColon back → cut_last (front ++ 58 ∷ back) ≡ Some (front, back)
unfolding cut_last
cut_there [] back none = rw (uncut back none) refl
cut_there (b ∷ front) back none = rw (cut_there front back none) refl

cut_at : (text : List ℕ) (i j : ℕ) → get_or text i 0 ≡ 58 → j ≡ i + 1 → i < length text → HasNoColon (drop j text) → cut_last text ≡ Some (take i text, drop j text)
cut_at text i j colon next within none =
    let after : suc i ≡ j = omega arith in
    let here : drop i text ≡ 58 ∷ drop j text = drop-cons text i 0 within ∙ (ap (λ b. b ∷ drop (suc i) text) colon ∙ ap (λ n. 58 ∷ drop n text) after) in
    let whole : text ≡ take i text ++ 58 ∷ drop j text = sym (take-append-drop i text) ∙ ap (λ l. take i text ++ l) here in
    ap cut_last whole ∙ cut_there (take i text) (drop j text) none

-- the clause of `rsplit_once` at a colon
pub cut_once : (text : List ℕ) (r : Option (Bor (List ℕ) × Bor (List ℕ))) → MatchOption r (RFindsChar 58 text None) (λ x. (i : ℕ) × (j : ℕ) × RFindsChar 58 text (Some (i, j)) × (x.0.now ≡ take i text) × (x.1.now ≡ drop j text) × (i ≤ j) × (length x.0.now ≡ i) × (length x.1.now + j ≡ length text)) → option_map (λ x. (x.0.now, x.1.now)) r ≡ cut_last text
cut_once text None none = sym (uncut text (λ k. NoCharPasses-char 58 text k none (omega arith)))
cut_once text (Some x) (i, j, finds, front, back, order, long, rest) =
    let low : 58 < 128 = omega arith in
    let next : j ≡ i + 1 = omega (arith, finds.1.ends, len_utf8_ascii 58 low) in
    let within : i < length text = omega arith in
    (λ t. Some (front t, back t)) ∙ sym (cut_at text i j (finds.1.byte low) next within (λ k. NoCharPasses-char 58 (drop j text) k finds.0 low))

-- The text of a magnitude by its pieces.
use Rattle.std.proofs.Common.{◌≡◌, ℕ, ◌+◌, ◌-◌, ◌*◌, ◌/◌, ◌%◌, ◌^◌, ◌<◌, ◌≤◌, ◌≢◌, List, [], ◌∷◌, ◌++◌, replicate, sym, ap, ◌∙◌, arith, lit≤, decimal, append_assoc}
use Rattle.std.proofs.lemmas.List.{append-nil}
use Rattle.std.proofs.Math.Nat.{div-le_self, div-one, mod-one, zero-mul}
use Rattle.e57_decimal.specs.Writing.{whole_digits, most_digits, places_of, point_text, magnitude_text}
use Rattle.e57_decimal.proofs.Places.{point_none, point_some}
use Rattle.e57_decimal.proofs.Wholes.{whole_decimal, decimal_short, raised_digits}

-- the digits before the point, where they are few
pub few_digits : (k n : ℕ) → n < 2 ^ 128 → 39 ≤ k → whole_digits k n ≡ decimal n
few_digits k n low fuel =
    let short = decimal_short n low in
    let room : 2 ^ 128 ≤ 10 ^ 64 = lit≤ tt in
    whole_decimal k n (omega arith) (omega arith)

whole_is : (n down whole : ℕ) → n < 2 ^ 128 → whole ≡ n / 10 ^ down → whole_digits most_digits (n / 10 ^ down) ≡ decimal whole
whole_is n down whole low e =
    let less = div-le_self n (10 ^ down) in
    few_digits most_digits (n / 10 ^ down) (omega arith) (omega arith) ∙ ap decimal (sym e)

pub lowered_whole : (old text : List ℕ) (n down whole rest : ℕ) → n < 2 ^ 128 → whole ≡ n / 10 ^ down → rest ≡ n % 10 ^ down → rest ≡ 0 → text ≡ old ++ decimal whole → text ≡ old ++ magnitude_text n down
unfolding magnitude_text
lowered_whole old text n down whole rest low w r none put =
    put ∙ ap (λ (bs : List ℕ). old ++ bs) (
    sym (whole_is n down whole low w) ∙ sym (append-nil (whole_digits most_digits (n / 10 ^ down)))
    ∙ ap (λ (bs : List ℕ). whole_digits most_digits (n / 10 ^ down) ++ bs) (sym (point_none down (n % 10 ^ down) (sym r ∙ none)))
    )

pub lowered_parts : (old front point text : List ℕ) (n down whole rest : ℕ) → n < 2 ^ 128 → whole ≡ n / 10 ^ down → rest ≡ n % 10 ^ down → rest ≢ 0 → front ≡ old ++ decimal whole → point ≡ front ++ (46 ∷ []) → text ≡ point ++ places_of down rest → text ≡ old ++ magnitude_text n down
unfolding magnitude_text
lowered_parts old front point text n down whole rest low w r some f p t =
    let places : point_text down (n % 10 ^ down) ≡ 46 ∷ places_of down rest = ap (point_text down) (sym r) ∙ point_some down rest some in
    t ∙ ap (λ (bs : List ℕ). bs ++ places_of down rest) (p ∙ ap (λ (bs : List ℕ). bs ++ (46 ∷ [])) f)
    ∙ append_assoc (old ++ decimal whole) (46 ∷ []) (places_of down rest)
    ∙ append_assoc old (decimal whole) (46 ∷ places_of down rest)
    ∙ ap (λ (bs : List ℕ). old ++ (decimal whole ++ bs)) (sym places)
    ∙ ap (λ (bs : List ℕ). old ++ (bs ++ point_text down (n % 10 ^ down))) (sym (whole_is n down whole low w))

-- a whole number
pub whole_text : (n : ℕ) → magnitude_text n 0 ≡ whole_digits most_digits n
unfolding magnitude_text
whole_text n =
    ap (λ k. whole_digits most_digits k ++ point_text 0 (n % 1)) (div-one n)
    ∙ ap (λ (bs : List ℕ). whole_digits most_digits n ++ bs) (point_none 0 (n % 1) (mod-one n)) ∙ append-nil (whole_digits most_digits n)

pub raised_none : (old text : List ℕ) (n zeros : ℕ) → n ≡ 0 → text ≡ old ++ decimal n → text ≡ old ++ magnitude_text (n * 10 ^ zeros) 0
raised_none old text n zeros none put =
    let room : 0 < 2 ^ 128 = lit≤ tt in
    let nothing : n * 10 ^ zeros ≡ n = ap (λ m. m * 10 ^ zeros) none ∙ zero-mul (10 ^ zeros) ∙ sym none in
    put ∙ ap (λ (bs : List ℕ). old ++ bs) (sym (few_digits most_digits n (omega arith) (omega arith)) ∙ sym (whole_text n) ∙ ap (λ m. magnitude_text m 0) (sym nothing))

pub raised_zeros : (old front text : List ℕ) (n zeros : ℕ) → n < 2 ^ 128 → zeros ≤ 60 → n ≢ 0 → front ≡ old ++ decimal n → text ≡ front ++ replicate zeros 48 → text ≡ old ++ magnitude_text (n * 10 ^ zeros) 0
raised_zeros old front text n zeros low few some f t =
    let fuel : most_digits - zeros + zeros ≡ most_digits = omega arith in
    let digits : whole_digits most_digits (n * 10 ^ zeros) ≡ decimal n ++ replicate zeros 48 =
    ap (λ k. whole_digits k (n * 10 ^ zeros)) (sym fuel) ∙ raised_digits (most_digits - zeros) n zeros (omega arith)
    ∙ ap (λ (bs : List ℕ). bs ++ replicate zeros 48) (few_digits (most_digits - zeros) n low (omega arith)) in
    t ∙ ap (λ (bs : List ℕ). bs ++ replicate zeros 48) f ∙ append_assoc old (decimal n) (replicate zeros 48)
    ∙ ap (λ (bs : List ℕ). old ++ bs) (sym digits ∙ sym (whole_text (n * 10 ^ zeros)))

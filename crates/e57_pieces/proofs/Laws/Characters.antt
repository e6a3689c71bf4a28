-- Characters in UTF-8: where a text of characters may be cut, and what stands before the first other one.
use Rattle.std.proofs.Common.{◌≡◌, ◌≢◌, ℕ, suc, ◌+◌, ◌/◌, ◌<◌, ◌≤◌, Bool, true, false, eqb, ltb, leb, ◌||◌, ◌&&◌, not, List, [], ◌∷◌, ◌++◌, length, get_or, take, drop, ◌⊎◌, inl, inr, refl, sym, ap, subst, ◌∙◌, arith, append_assoc}
use Rattle.std.specs.List.{AllByRecursion}
use Rattle.std.specs.Str.{IsUtf8}
use Rattle.std.proofs.lemmas.Bool.{eqb-true, eqb-false, ltb-true, lt-ltb, leb-true, le-leb, cases_lt, and_parts, or_parts, and_from}
use Rattle.std.proofs.lemmas.List.{length-append, append-nil, take_at, get_or_at, nil_from_length}
use Rattle.std.proofs.lemmas.Str.{encodes-append, cons_from_encodes, encode_same, IsUtf8-take, IsCharBoundary-before_ascii, length-encode, len_utf8_bounds, encode_ascii}
use lib.Utf8.{scalar, scalars, encode, encodes, next, low_scalar, scalar_cases}
use Rattle.e57_pieces.specs.Characters.{between, is_character, AreCharacters, BeginsForbidden, IsClean, is_control, is_noncharacter, forbids, clean_len}
use Rattle.e57_base.proofs.Lists.{all_append}

-- ---- tests

pub or_true : (a b : Bool) → (a || b) ≡ true → (a ≡ true) ⊎ (b ≡ true)
or_true true b e = inl refl
or_true false b e = inr e

pub or_left : (a b : Bool) → a ≡ true → (a || b) ≡ true
or_left true b e = refl
or_left false b e = absurd cc

pub or_right : (a b : Bool) → b ≡ true → (a || b) ≡ true
or_right true b e = refl
or_right false b e = e

pub and_left_false : (a b : Bool) → a ≡ false → (a && b) ≡ false
and_left_false true b e = absurd cc
and_left_false false b e = refl

pub not_both : (b : Bool) → b ≡ true → b ≡ false → ⊥
not_both true e f = cc
not_both false e f = cc

pub false_from : (b : Bool) → (b ≡ true → ⊥) → b ≡ false
false_from true never = absurd (never refl)
false_from false never = refl

pub tested : (b : Bool) → (b ≡ true) ⊎ (b ≡ false)
tested true = inl refl
tested false = inr refl

pub between_bounds : (low high c : ℕ) → between low high c ≡ true → (low ≤ c) × (c ≤ high)
between_bounds low high c e = let p = and_parts (leb low c) (leb c high) e in (leb-true low c p.0, leb-true c high p.1)

pub in_between : (low high c : ℕ) → low ≤ c → c ≤ high → between low high c ≡ true
in_between low high c l h = and_from (leb low c) (leb c high) (le-leb low c l) (le-leb c high h)

pub eqb-from_ne : (a b : ℕ) → a ≢ b → eqb a b ≡ false
eqb-from_ne a b ne = false_from (eqb a b) (λ e. ne (eqb-true a b e))

-- ---- characters

-- the numbers of characters, as one of six
abbrev pub IsNumber : ℕ → Type 0
IsNumber c = (c ≡ 9) ⊎ (c ≡ 10) ⊎ (c ≡ 13) ⊎ ((32 ≤ c) × (c ≤ 55295)) ⊎ ((57344 ≤ c) × (c ≤ 65533)) ⊎ ((65536 ≤ c) × (c ≤ 1114111))

is_number : (c : ℕ) → is_character c ≡ true → IsNumber c
unfolding is_character
is_number c e =
    elim (or_true (eqb c 9 || eqb c 10 || eqb c 13 || between 32 55295 c || between 57344 65533 c) (between 65536 1114111 c) e) [
      | inr high ↦ inr (inr (inr (inr (inr (between_bounds 65536 1114111 c high)))))
      | inl e5 ↦ elim (or_true (eqb c 9 || eqb c 10 || eqb c 13 || between 32 55295 c) (between 57344 65533 c) e5) [
        | inr middle ↦ inr (inr (inr (inr (inl (between_bounds 57344 65533 c middle)))))
        | inl e4 ↦ elim (or_true (eqb c 9 || eqb c 10 || eqb c 13) (between 32 55295 c) e4) [
          | inr low ↦ inr (inr (inr (inl (between_bounds 32 55295 c low))))
          | inl e3 ↦ elim (or_true (eqb c 9 || eqb c 10) (eqb c 13) e3) [
            | inr is ↦ inr (inr (inl (eqb-true c 13 is)))
            | inl e2 ↦ elim (or_true (eqb c 9) (eqb c 10) e2) [
              | inr is ↦ inr (inl (eqb-true c 10 is))
              | inl is ↦ inl (eqb-true c 9 is)
            ]
          ]
        ]
      ]
    ]

is_low : (c : ℕ) → 32 ≤ c → c ≤ 55295 → is_character c ≡ true
unfolding is_character
is_low c l h = or_left _ _ (or_left _ _ (or_right (eqb c 9 || eqb c 10 || eqb c 13) (between 32 55295 c) (in_between 32 55295 c l h)))

is_middle : (c : ℕ) → 57344 ≤ c → c ≤ 65533 → is_character c ≡ true
unfolding is_character
is_middle c l h = or_left _ _ (or_right (eqb c 9 || eqb c 10 || eqb c 13 || between 32 55295 c) (between 57344 65533 c) (in_between 57344 65533 c l h))

is_high : (c : ℕ) → 65536 ≤ c → c ≤ 1114111 → is_character c ≡ true
unfolding is_character
is_high c l h = or_right (eqb c 9 || eqb c 10 || eqb c 13 || between 32 55295 c || between 57344 65533 c) (between 65536 1114111 c) (in_between 65536 1114111 c l h)

is_space_number : (c : ℕ) → (eqb c 9 || eqb c 10 || eqb c 13) ≡ true → is_character c ≡ true
unfolding is_character
is_space_number c e = or_left _ _ (or_left _ _ (or_left _ _ e))

no_number : (c : ℕ) → (IsNumber c → ⊥) → is_character c ≡ false
no_number c never = false_from (is_character c) (λ e. never (is_number c e))

scalar_low : (c : ℕ) → c < 55296 → scalar c ≡ true
scalar_low c lt = low_scalar c lt

scalar_high : (c : ℕ) → 57344 ≤ c → c < 1114112 → scalar c ≡ true
scalar_high c l h = rw (ltb-is_false c 55296 (omega arith), le-leb 57344 c l, lt-ltb c 1114112 h) refl where
  ltb-is_false : (a b : ℕ) → b ≤ a → ltb a b ≡ false
  ltb-is_false a b le = false_from (ltb a b) (λ e. absurd (omega (arith, ltb-true a b e)))

pub is_scalar : (c : ℕ) → is_character c ≡ true → scalar c ≡ true
is_scalar c e =
    elim (is_number c e) [
      | inr (inr (inr (inr (inr high)))) ↦ scalar_high c (omega arith) (omega arith)
      | inr (inr (inr (inr (inl middle)))) ↦ scalar_high c (omega arith) (omega arith)
      | inr (inr (inr (inl low))) ↦ scalar_low c (omega arith)
      | inr (inr (inl is)) ↦ scalar_low c (omega arith)
      | inr (inl is) ↦ scalar_low c (omega arith)
      | inl is ↦ scalar_low c (omega arith)
    ]

are_scalars : (cs : List ℕ) → AllByRecursion (λ c. is_character c ≡ true) cs → scalars cs ≡ true
are_scalars [] each = refl
are_scalars (c ∷ cs) each = and_from (scalar c) (scalars cs) (is_scalar c each.0) (are_scalars cs each.1)

pub IsUtf8-AreCharacters : (bytes : List ℕ) → AreCharacters bytes → IsUtf8 bytes
IsUtf8-AreCharacters bytes are = (are.numbers, (are_scalars are.numbers are.each, are.spelled))

all_parts : (P : ℕ → Type 0) (xs ys : List ℕ) → AllByRecursion P (xs ++ ys) → AllByRecursion P xs × AllByRecursion P ys
all_parts P [] ys a = (tt, a)
all_parts P (x ∷ xs) ys a = let p = all_parts P xs ys a.1 in ((a.0, p.0), p.1)

pub AreCharacters-append : (xs ys : List ℕ) → AreCharacters xs → AreCharacters ys → AreCharacters (xs ++ ys)
AreCharacters-append xs ys a b = record {
  numbers = a.numbers ++ b.numbers;
  each = all_append (λ c. is_character c ≡ true) a.numbers b.numbers a.each b.each;
  spelled = rw (encodes-append, a.spelled, b.spelled) refl;
}

pub AreCharacters-nil : AreCharacters []
AreCharacters-nil = record { numbers = []; each = tt; spelled = refl }

-- a front of whole numbers leaves whole numbers
after_front : (xs cs y : List ℕ) → encodes cs ≡ encodes xs ++ y → (es : List ℕ) × (cs ≡ xs ++ es) × (encodes es ≡ y)
after_front [] cs y e = (cs, refl, e)
after_front (x ∷ xs) cs y e =
    let first = cons_from_encodes cs (encodes xs ++ y) x (e ∙ append_assoc (encode x) (encodes xs) y) in
    let more = after_front xs first.0 y first.2 in
    (more.0, first.1 ∙ ap (λ (t : List ℕ). x ∷ t) more.1, more.2)

-- where the front is UTF-8, both parts are characters
pub AreCharacters-parts : (xs ys : List ℕ) → AreCharacters (xs ++ ys) → IsUtf8 xs → AreCharacters xs × AreCharacters ys
AreCharacters-parts xs ys are front =
    let cut = after_front front.0 are.numbers ys (are.spelled ∙ ap (λ (t : List ℕ). t ++ ys) (sym front.1.1)) in
    let each : AllByRecursion (λ c. is_character c ≡ true) (front.0 ++ cut.0) = subst (λ (cs : List ℕ). AllByRecursion (λ c. is_character c ≡ true) cs) cut.1 are.each in
    let parts = all_parts (λ c. is_character c ≡ true) front.0 cut.0 each in
    (record { numbers = front.0; each = parts.0; spelled = front.1.1 }, record { numbers = cut.0; each = parts.1; spelled = cut.2 })

pub AreCharacters-after : (xs ys : List ℕ) → AreCharacters (xs ++ ys) → AreCharacters xs → AreCharacters ys
AreCharacters-after xs ys are front = (AreCharacters-parts xs ys are (IsUtf8-AreCharacters xs front)).1

scalars_after : (xs es : List ℕ) → scalars (xs ++ es) ≡ true → scalars es ≡ true
scalars_after [] es e = e
scalars_after (x ∷ xs) es e = scalars_after xs es (and_parts (scalar x) (scalars (xs ++ es)) e).1

pub IsUtf8-after : (xs ys : List ℕ) → IsUtf8 (xs ++ ys) → AreCharacters xs → IsUtf8 ys
IsUtf8-after xs ys are front =
    let cut = after_front front.numbers are.0 ys (are.1.1 ∙ ap (λ (t : List ℕ). t ++ ys) (sym front.spelled)) in
    (cut.0, (scalars_after front.numbers cut.0 (subst (λ (cs : List ℕ). scalars cs ≡ true) cut.1 are.1.0), cut.2))

-- a text of characters may be cut before an ASCII byte
pub AreCharacters-before : (xs : List ℕ) (c : ℕ) (ys : List ℕ) → c < 128 → AreCharacters (xs ++ c ∷ ys) → AreCharacters xs × AreCharacters (c ∷ ys)
AreCharacters-before xs c ys low are =
    let utf8 = IsUtf8-AreCharacters (xs ++ c ∷ ys) are in
    let read : get_or (xs ++ c ∷ ys) (length xs) 0 ≡ c = get_or_at xs c ys 0 (length xs) refl in
    let within : length xs < length (xs ++ c ∷ ys) = omega (arith, length-append xs (c ∷ ys)) in
    let here = IsCharBoundary-before_ascii (xs ++ c ∷ ys) (length xs) within (omega (arith, read)) in
    let front : IsUtf8 xs = subst (λ (t : List ℕ). IsUtf8 t) (take_at xs (c ∷ ys) (length xs) refl) (IsUtf8-take (xs ++ c ∷ ys) (length xs) utf8 here) in
    AreCharacters-parts xs (c ∷ ys) are front

-- ---- the front of characters

encode_some : (c : ℕ) (rest : List ℕ) → [] ≡ encode c ++ rest → ⊥
encode_some c rest e = omega (arith, ap (λ (t : List ℕ). length t) e, length-append (encode c) rest, length-encode c, len_utf8_bounds c)

joined : (d c : ℕ) (xs ys more : List ℕ) → d ≡ c → xs ≡ ys ++ more → encode d ++ xs ≡ (encode c ++ ys) ++ more
joined d c xs ys more e f = ap (λ (n : ℕ). encode n ++ xs) e ∙ ap (λ (t : List ℕ). encode c ++ t) f ∙ sym (append_assoc (encode c) ys more)

same_number : (c d : ℕ) → is_character c ≡ true → is_character d ≡ false → d ≡ c → ⊥
same_number c d e f same = not_both (is_character c) e (subst (λ (n : ℕ). is_character n ≡ false) same f)

-- characters at the front of a clean text stand in its clean front
within_clean : (fs ss b r : List ℕ) → BeginsForbidden b → AllByRecursion (λ c. is_character c ≡ true) ss → encodes fs ++ b ≡ encodes ss ++ r → (more : List ℕ) × (encodes fs ≡ encodes ss ++ more) × (r ≡ more ++ b)
within_clean fs [] b r forbidden each e = (encodes fs, refl, sym e)
within_clean [] (c ∷ cs) [] r forbidden each e = absurd (encode_some c (encodes cs ++ r) (e ∙ append_assoc (encode c) (encodes cs) r))
within_clean [] (c ∷ cs) (x ∷ xs) r forbidden each e =
    let same = encode_same forbidden.0 c forbidden.1 (encodes cs ++ r) (sym forbidden.3 ∙ e ∙ append_assoc (encode c) (encodes cs) r) in
    absurd (same_number c forbidden.0 each.0 forbidden.2 same.0)
within_clean (d ∷ ds) (c ∷ cs) b r forbidden each e =
    let same = encode_same d c (encodes ds ++ b) (encodes cs ++ r) (sym (append_assoc (encode d) (encodes ds) b) ∙ e ∙ append_assoc (encode c) (encodes cs) r) in
    let more = within_clean ds cs b r forbidden each.1 same.1 in
    (more.0, joined d c (encodes ds) (encodes cs) more.0 same.0 more.1, more.2)

pub in_front : (front back s r : List ℕ) → IsClean front back → front ++ back ≡ s ++ r → AreCharacters s → (more : List ℕ) × (front ≡ s ++ more) × (r ≡ more ++ back)
in_front front back s r clean e are =
    let whole : encodes clean.characters.numbers ++ back ≡ encodes are.numbers ++ r =
    ap (λ (t : List ℕ). t ++ back) clean.characters.spelled ∙ e ∙ ap (λ (t : List ℕ). t ++ r) (sym are.spelled) in
    let more = within_clean clean.characters.numbers are.numbers back r clean.forbidden are.each whole in
    (more.0, sym clean.characters.spelled ∙ more.1 ∙ ap (λ (t : List ℕ). t ++ more.0) are.spelled, more.2)

-- a text has one clean front
pub one_front : (front back front2 back2 : List ℕ) → IsClean front back → IsClean front2 back2 → front ++ back ≡ front2 ++ back2 → front ≡ front2
one_front front back front2 back2 a b e =
    let more = in_front front back front2 back2 a e b.characters in
    let more2 = in_front front2 back2 front back b (sym e) a.characters in
    let short : length more.0 ≡ 0 = omega (arith, ap (λ (t : List ℕ). length t) more.1, ap (λ (t : List ℕ). length t) more2.1, length-append front2 more.0, length-append front more2.0) in
    more.1 ∙ ap (λ (t : List ℕ). front2 ++ t) (nil_from_length more.0 short) ∙ append-nil front2

-- ---- the first other character

control_is : (b : ℕ) → b < 128 → is_character b ≡ not (is_control b)
unfolding is_control
control_is b low =
    elim (tested (eqb b 9 || eqb b 10 || eqb b 13)) [
      | inl space ↦ rw (is_space_number b space, space, and_no (ltb b 32)) refl
      | inr other ↦
          let apart = or_parts (eqb b 9 || eqb b 10) (eqb b 13) other in
          let apart2 = or_parts (eqb b 9) (eqb b 10) apart.0 in
          elim (cases_lt b 32) [
            | inl lt ↦ rw (lt-ltb b 32 lt, other, no_number b (λ n. no_control b lt (eqb-false b 9 apart2.0) (eqb-false b 10 apart2.1) (eqb-false b 13 apart.1) n)) refl
            | inr le ↦ rw (is_low b le (omega arith), not_below b 32 le) refl
          ]
    ] where
      and_no : (b : Bool) → (b && false) ≡ false
      and_no true = refl
      and_no false = refl

      not_below : (a b : ℕ) → b ≤ a → ltb a b ≡ false
      not_below a b le = false_from (ltb a b) (λ e. absurd (omega (arith, ltb-true a b e)))

      no_control : (b : ℕ) → b < 32 → b ≢ 9 → b ≢ 10 → b ≢ 13 → IsNumber b → ⊥
      no_control b lt n9 n10 n13 (inl is) = n9 is
      no_control b lt n9 n10 n13 (inr (inl is)) = n10 is
      no_control b lt n9 n10 n13 (inr (inr (inl is))) = n13 is
      no_control b lt n9 n10 n13 (inr (inr (inr (inl low)))) = omega arith
      no_control b lt n9 n10 n13 (inr (inr (inr (inr (inl middle))))) = omega arith
      no_control b lt n9 n10 n13 (inr (inr (inr (inr (inr high))))) = omega arith

-- a byte that begins none of the two
other_lead : (b : ℕ) (rest : List ℕ) → b ≢ 239 → is_noncharacter (b ∷ rest) ≡ false
unfolding is_noncharacter
other_lead b [] ne = refl
other_lead b (x ∷ []) ne = refl
other_lead b (x ∷ y ∷ rest) ne = and_left_false _ _ (and_left_false _ _ (eqb-from_ne b 239 ne))

lets_pass : (b : ℕ) (rest : List ℕ) → is_control b ≡ false → is_noncharacter (b ∷ rest) ≡ false → clean_len (b ∷ rest) ≡ suc (clean_len rest)
unfolding clean_len forbids
lets_pass b rest other none = rw (other, none) refl

stops : (b : ℕ) (rest : List ℕ) → (is_control b || is_noncharacter (b ∷ rest)) ≡ true → clean_len (b ∷ rest) ≡ 0
unfolding clean_len forbids
stops b rest yes_here = rw yes_here refl

no_control_from : (b : ℕ) → 32 ≤ b → is_control b ≡ false
unfolding is_control
no_control_from b le = and_left_false _ _ (false_from (ltb b 32) (λ e. absurd (omega (arith, ltb-true b 32 e))))

passes : (b : ℕ) (rest : List ℕ) → 32 ≤ b → b ≢ 239 → clean_len (b ∷ rest) ≡ suc (clean_len rest)
passes b rest le ne = lets_pass b rest (no_control_from b le) (other_lead b rest ne)

three : (a b c : ℕ) (rest : List ℕ) → (a ≡ 239 → b ≡ 191 → 190 ≤ c → ⊥) → is_noncharacter (a ∷ b ∷ c ∷ rest) ≡ false
unfolding is_noncharacter
three a b c rest never = false_from (eqb a 239 && eqb b 191 && leb 190 c) (λ e.
    let p = and_parts (eqb a 239 && eqb b 191) (leb 190 c) e in
    let q = and_parts (eqb a 239) (eqb b 191) p.0 in
    never (eqb-true a 239 q.0) (eqb-true b 191 q.1) (leb-true 190 c p.1))

above : (a b : ℕ) → b ≤ a → ltb a b ≡ false
above a b le = false_from (ltb a b) (λ e. absurd (omega (arith, ltb-true a b e)))

encode_2 : (c : ℕ) → 128 ≤ c → c < 2048 → encode c ≡ (192 + c / 64) ∷ next c ∷ []
unfolding encode
encode_2 c low high = rw (above c 128 low, lt-ltb c 2048 high) refl

encode_3 : (c : ℕ) → 2048 ≤ c → c < 65536 → encode c ≡ (224 + c / 4096) ∷ next (c / 64) ∷ next c ∷ []
unfolding encode
encode_3 c low high =
    let far : 128 ≤ c = omega arith in
    rw (above c 128 far, above c 2048 low, lt-ltb c 65536 high) refl

encode_4 : (c : ℕ) → 65536 ≤ c → encode c ≡ (240 + c / 262144) ∷ next (c / 4096) ∷ next (c / 64) ∷ next c ∷ []
unfolding encode
encode_4 c low =
    let far : 128 ≤ c = omega arith in
    let farther : 2048 ≤ c = omega arith in
    rw (above c 128 far, above c 2048 farther, above c 65536 low) refl

clean_1 : (c : ℕ) (rest : List ℕ) → c < 128 → is_character c ≡ true → clean_len (c ∷ rest) ≡ 1 + clean_len rest
clean_1 c rest lt yes_here =
    let ne : c ≢ 239 = omega arith in
    omega (arith, lets_pass c rest (flipped (is_control c) (sym (control_is c lt) ∙ yes_here)) (other_lead c rest ne)) where
      flipped : (b : Bool) → not b ≡ true → b ≡ false
      flipped true e = sym e
      flipped false e = refl

clean_2 : (c : ℕ) (rest : List ℕ) → 128 ≤ c → c < 2048 → clean_len ((192 + c / 64) ∷ next c ∷ rest) ≡ 2 + clean_len rest
clean_2 c rest low high =
    omega (arith, passes (192 + c / 64) (next c ∷ rest) (omega arith) (omega arith), passes (next c) rest (omega arith) (omega arith))

clean_3 : (c : ℕ) (rest : List ℕ) → 2048 ≤ c → c < 65534 → clean_len ((224 + c / 4096) ∷ next (c / 64) ∷ next c ∷ rest) ≡ 3 + clean_len rest
clean_3 c rest low high =
    omega (
      arith,
      lets_pass (224 + c / 4096) (next (c / 64) ∷ next c ∷ rest) (no_control_from (224 + c / 4096) (omega arith)) (three (224 + c / 4096) (next (c / 64)) (next c) rest (λ x y z. omega arith)),
      passes (next (c / 64)) (next c ∷ rest) (omega arith) (omega arith),
      passes (next c) rest (omega arith) (omega arith),
    )

clean_4 : (c : ℕ) (rest : List ℕ) → 65536 ≤ c → clean_len ((240 + c / 262144) ∷ next (c / 4096) ∷ next (c / 64) ∷ next c ∷ rest) ≡ 4 + clean_len rest
clean_4 c rest low =
    omega (
      arith,
      passes (240 + c / 262144) (next (c / 4096) ∷ next (c / 64) ∷ next c ∷ rest) (omega arith) (omega arith),
      passes (next (c / 4096)) (next (c / 64) ∷ next c ∷ rest) (omega arith) (omega arith),
      passes (next (c / 64)) (next c ∷ rest) (omega arith) (omega arith),
      passes (next c) rest (omega arith) (omega arith),
    )

below_last : (c : ℕ) → c < 65536 → is_character c ≡ true → c < 65534
below_last c lt e =
    elim (is_number c e) [
      | inr (inr (inr (inr (inr high)))) ↦ omega arith
      | inr (inr (inr (inr (inl middle)))) ↦ omega arith
      | inr (inr (inr (inl low))) ↦ omega arith
      | inr (inr (inl is)) ↦ omega arith
      | inr (inl is) ↦ omega arith
      | inl is ↦ omega arith
    ]

clean_go : (c : ℕ) (rest : List ℕ) → is_character c ≡ true → clean_len (encode c ++ rest) ≡ length (encode c) + clean_len rest
clean_go c rest here =
    elim (cases_lt c 128) [
      | inl lt ↦ rw (encode_ascii c lt) (clean_1 c rest lt here)
      | inr le ↦ elim (cases_lt c 2048) [
        | inl lt ↦ rw (encode_2 c le lt) (clean_2 c rest le lt)
        | inr le2 ↦ elim (cases_lt c 65536) [
          | inl lt ↦ rw (encode_3 c le2 lt) (clean_3 c rest le2 (below_last c lt here))
          | inr le3 ↦ rw (encode_4 c le3) (clean_4 c rest le3)
        ]
      ]
    ]

clean_65534 : (rest : List ℕ) → clean_len (encode 65534 ++ rest) ≡ 0
unfolding encode clean_len forbids is_control is_noncharacter
clean_65534 rest = refl

clean_65535 : (rest : List ℕ) → clean_len (encode 65535 ++ rest) ≡ 0
unfolding encode clean_len forbids is_control is_noncharacter
clean_65535 rest = refl

clean_low : (c : ℕ) (rest : List ℕ) → c < 128 → is_character c ≡ false → clean_len (c ∷ rest) ≡ 0
clean_low c rest lt other = stops c rest (or_left (is_control c) (is_noncharacter (c ∷ rest)) (flipped (is_control c) (sym (control_is c lt) ∙ other))) where
  flipped : (b : Bool) → not b ≡ false → b ≡ true
  flipped true e = refl
  flipped false e = sym e

-- a number of UTF-8 that is no character and past ASCII
last_two : (c : ℕ) → scalar c ≡ true → 128 ≤ c → is_character c ≡ false → (c ≡ 65534) ⊎ (c ≡ 65535)
last_two c is le other =
    elim (scalar_cases c is) [
      | inl low ↦ absurd (not_both (is_character c) (is_low c (omega arith) (omega arith)) other)
      | inr high ↦ elim (cases_lt c 65534) [
        | inl lt ↦ absurd (not_both (is_character c) (is_middle c (omega arith) (omega arith)) other)
        | inr ge ↦ elim (cases_lt c 65536) [
          | inl lt ↦ elim (cases_lt c 65535) [
            | inl at ↦ inl (omega arith)
            | inr at ↦ inr (omega arith)
          ]
          | inr far ↦ absurd (not_both (is_character c) (is_high c (omega arith) (omega arith)) other)
        ]
      ]
    ]

clean_stop : (c : ℕ) (rest : List ℕ) → scalar c ≡ true → is_character c ≡ false → clean_len (encode c ++ rest) ≡ 0
clean_stop c rest is other =
    elim (cases_lt c 128) [
      | inl lt ↦ rw (encode_ascii c lt) (clean_low c rest lt other)
      | inr le ↦ elim (last_two c is le other) [
        | inl at ↦ ap (λ (n : ℕ). clean_len (encode n ++ rest)) at ∙ clean_65534 rest
        | inr at ↦ ap (λ (n : ℕ). clean_len (encode n ++ rest)) at ∙ clean_65535 rest
      ]
    ]

take_past : (xs ys : List ℕ) (n k : ℕ) → k ≡ length xs + n → take k (xs ++ ys) ≡ xs ++ take n ys
take_past [] ys n k e = let same : k ≡ n = omega arith in rw same refl
take_past (x ∷ xs) ys n k e =
    let same : k ≡ suc (length xs + n) = omega arith in
    rw same (ap (λ (t : List ℕ). x ∷ t) (take_past xs ys n (length xs + n) refl))

drop_past : (xs ys : List ℕ) (n k : ℕ) → k ≡ length xs + n → drop k (xs ++ ys) ≡ drop n ys
drop_past [] ys n k e = let same : k ≡ n = omega arith in rw same refl
drop_past (x ∷ xs) ys n k e =
    let same : k ≡ suc (length xs + n) = omega arith in
    rw same (drop_past xs ys n (length xs + n) refl)

AreCharacters-encode : (c : ℕ) → is_character c ≡ true → AreCharacters (encode c)
AreCharacters-encode c e = record { numbers = c ∷ []; each = (e, tt); spelled = append-nil (encode c) }

forbidden_from : (text rest : List ℕ) (c : ℕ) → is_character c ≡ false → text ≡ encode c ++ rest → BeginsForbidden text
forbidden_from [] rest c other e = tt
forbidden_from (b ∷ bs) rest c other e = (c, rest, other, e)

clean_nil : clean_len [] ≡ 0
unfolding clean_len
clean_nil = refl

IsClean-go : (c : ℕ) (text : List ℕ) (n : ℕ) → is_character c ≡ true → n ≡ length (encode c) + clean_len text → IsClean (take (clean_len text) text) (drop (clean_len text) text) → IsClean (take n (encode c ++ text)) (drop n (encode c ++ text))
IsClean-go c text n here e clean = record {
  characters = subst (λ (t : List ℕ). AreCharacters t) (sym (take_past (encode c) text (clean_len text) n e)) (AreCharacters-append (encode c) (take (clean_len text) text) (AreCharacters-encode c here) clean.characters);
  forbidden = subst (λ (t : List ℕ). BeginsForbidden t) (sym (drop_past (encode c) text (clean_len text) n e)) clean.forbidden;
}

IsClean-stop : (c : ℕ) (text : List ℕ) (n : ℕ) → is_character c ≡ false → n ≡ 0 → IsClean (take n (encode c ++ text)) (drop n (encode c ++ text))
IsClean-stop c text n other e = rw e (record { characters = AreCharacters-nil; forbidden = forbidden_from (encode c ++ text) text c other refl })

clean_numbers : (cs : List ℕ) → scalars cs ≡ true → IsClean (take (clean_len (encodes cs)) (encodes cs)) (drop (clean_len (encodes cs)) (encodes cs))
clean_numbers [] e = record { characters = subst (λ (n : ℕ). AreCharacters (take n [])) (sym clean_nil) AreCharacters-nil; forbidden = subst (λ (n : ℕ). BeginsForbidden (drop n [])) (sym clean_nil) tt }
clean_numbers (c ∷ cs) e =
    let both = and_parts (scalar c) (scalars cs) e in
    elim (tested (is_character c)) [
      | inl here ↦ IsClean-go c (encodes cs) (clean_len (encode c ++ encodes cs)) here (clean_go c (encodes cs) here) (clean_numbers cs both.1)
      | inr other ↦ IsClean-stop c (encodes cs) (clean_len (encode c ++ encodes cs)) other (clean_stop c (encodes cs) both.0 other)
    ]

-- a text in UTF-8 is clean up to the place that the bytes tell
pub IsClean-clean_len : (text : List ℕ) → IsUtf8 text → IsClean (take (clean_len text) text) (drop (clean_len text) text)
IsClean-clean_len text utf8 = subst (λ (t : List ℕ). IsClean (take (clean_len t) t) (drop (clean_len t) t)) utf8.1.1 (clean_numbers utf8.0 utf8.1.0)

pub clean_len_le : (text : List ℕ) → clean_len text ≤ length text
unfolding clean_len
clean_len_le [] = omega arith
clean_len_le (b ∷ bs) =
    elim (tested (forbids (b ∷ bs))) [
      | inl here ↦ rw here (omega arith)
      | inr other ↦ rw other (omega (arith, clean_len_le bs))
    ]

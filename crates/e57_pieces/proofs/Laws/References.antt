-- References, and text with references: what is read is spelled so, and what is spelled so is read.
use Rattle.std.proofs.Common.{◌≡◌, ℕ, zero, suc, ◌+◌, ◌<◌, ◌≤◌, Bool, true, false, eqb, leb, ◌&&◌, List, [], ◌∷◌, ◌++◌, length, inl, inr, Option, Some, None, refl, sym, ap, subst, ◌∙◌, arith, append_assoc}
use Rattle.std.specs.Prelude.{encode_utf8, codes}
use Rattle.std.specs.List.{AllByRecursion, flat_map}
use Rattle.std.specs.Option.{option_or}
use Rattle.std.proofs.lemmas.Bool.{leb-true, le-leb, and_parts, and_from}
use Rattle.std.proofs.lemmas.List.{length-append, append-nil}
use Rattle.e57_pieces.proofs.Laws.Fronts.{Took, bind_some, given_some, map_some, or_some, strip_took, strip_again, BeginsOutside, run_after, run_each, after_stops, run_stops, run_again}
use Rattle.e57_pieces.specs.Characters.{is_character}
use Rattle.e57_pieces.specs.Words.{is_decimal, is_hexadecimal, is_plain, Each, numeral, max_digits}
use Rattle.e57_pieces.specs.Grammar.{IsNamed, IsNumbered, IsReference, IsPart, Means}
use Rattle.e57_pieces.specs.Start.{strip}
use Rattle.e57_pieces.specs.Reading.{◌>>=◌, given, run, after, named_at, are_few, numbered_at, reference_at, parts_then, parts_at, text_at}

-- ---- references

named_took : (word : List ℕ) (c : ℕ) (text : List ℕ) (x : ℕ × List ℕ) → named_at word c text ≡ Some x → (x.0 ≡ c) × (text ≡ word ++ x.1)
named_took word c text x e =
    let m = map_some (λ (rest : List ℕ). (c, rest)) (strip word text) x e in
    subst (λ (y : ℕ × List ℕ). (y.0 ≡ c) × (text ≡ word ++ y.1)) m.2 (refl, strip_took word text m.0 m.1)

regroup : (text mark start digits left rest : List ℕ) → text ≡ mark ++ start → start ≡ digits ++ left → left ≡ codes ";" ++ rest → text ≡ (mark ++ digits ++ codes ";") ++ rest
regroup text mark start digits left rest e f g = e ∙ ap (λ (t : List ℕ). mark ++ t) (f ∙ ap (λ (t : List ℕ). digits ++ t) g) ∙ sym (append_assoc (mark ++ digits) (codes ";") rest ∙ append_assoc mark digits (codes ";" ++ rest))

numbered_took : (mark : List ℕ) (is_digit : ℕ → Bool) (base : ℕ) (text : List ℕ) (x : ℕ × List ℕ) → numbered_at mark is_digit base text ≡ Some x → Took text x.1 (λ s. IsNumbered mark is_digit base s x.0)
unfolding numbered_at
numbered_took mark is_digit base text x e =
    let a = bind_some (strip mark text) (λ (start : List ℕ). strip (codes ";") (after is_digit start) >>= λ (rest : List ℕ). given (are_few (run is_digit start) && is_character (numeral base (run is_digit start))) (numeral base (run is_digit start), rest)) x e in
    let b = bind_some (strip (codes ";") (after is_digit a.0)) (λ (rest : List ℕ). given (are_few (run is_digit a.0) && is_character (numeral base (run is_digit a.0))) (numeral base (run is_digit a.0), rest)) x a.2 in
    let g = given_some (are_few (run is_digit a.0) && is_character (numeral base (run is_digit a.0))) (numeral base (run is_digit a.0), b.0) x b.2 in
    let h = and_parts (are_few (run is_digit a.0)) (is_character (numeral base (run is_digit a.0))) g.0 in
    let l = and_parts (leb 1 (length (run is_digit a.0))) (leb (length (run is_digit a.0)) max_digits) h.0 in
    let some_digits : 0 < length (run is_digit a.0) = omega (arith, leb-true 1 (length (run is_digit a.0)) l.0) in
    let few_digits : length (run is_digit a.0) ≤ max_digits = leb-true (length (run is_digit a.0)) max_digits l.1 in
    let made : Took text b.0 (λ s. IsNumbered mark is_digit base s (numeral base (run is_digit a.0))) = record {
      spelling = mark ++ run is_digit a.0 ++ codes ";";
      holds = record { digits = run is_digit a.0; each = run_each is_digit a.0; some = some_digits; few = few_digits; value = refl; character = h.1; spelled = refl };
      parts = regroup text mark a.0 (run is_digit a.0) (after is_digit a.0) b.0 (strip_took mark text a.0 a.1) (run_after is_digit a.0) (strip_took (codes ";") (after is_digit a.0) b.0 b.1);
    } in
    subst (λ (y : ℕ × List ℕ). Took text y.1 (λ s. IsNumbered mark is_digit base s y.0)) g.1 made

took_named : (word : List ℕ) (c : ℕ) (text : List ℕ) (x : ℕ × List ℕ) → ((d : ℕ) → d ≡ c → IsNamed word d) → named_at word c text ≡ Some x → Took text x.1 (λ s. IsReference s x.0)
took_named word c text x means e =
    let p = named_took word c text x e in
    record { spelling = word; holds = inl (means x.0 p.0); parts = p.1 }

pub reference_took : (text : List ℕ) (x : ℕ × List ℕ) → reference_at text ≡ Some x → Took text x.1 (λ s. IsReference s x.0)
unfolding reference_at
reference_took text x e =
    elim (or_some (named_at (codes "&lt;") 60 text) _ x e) [
      | inl here ↦ took_named (codes "&lt;") 60 text x (λ d is. inl (refl, is)) here
      | inr e1 ↦ elim (or_some (named_at (codes "&gt;") 62 text) _ x e1.1) [
        | inl here ↦ took_named (codes "&gt;") 62 text x (λ d is. inr (inl (refl, is))) here
        | inr e2 ↦ elim (or_some (named_at (codes "&amp;") 38 text) _ x e2.1) [
          | inl here ↦ took_named (codes "&amp;") 38 text x (λ d is. inr (inr (inl (refl, is)))) here
          | inr e3 ↦ elim (or_some (named_at (codes "&apos;") 39 text) _ x e3.1) [
            | inl here ↦ took_named (codes "&apos;") 39 text x (λ d is. inr (inr (inr (inl (refl, is))))) here
            | inr e4 ↦ elim (or_some (named_at (codes "&quot;") 34 text) _ x e4.1) [
              | inl here ↦ took_named (codes "&quot;") 34 text x (λ d is. inr (inr (inr (inr (refl, is))))) here
              | inr e5 ↦ elim (or_some (numbered_at (codes "&#") is_decimal 10 text) (numbered_at (codes "&#x") is_hexadecimal 16 text) x e5.1) [
                | inl here ↦
                    let t = numbered_took (codes "&#") is_decimal 10 text x here in
                    record { spelling = t.spelling; holds = inr (inl t.holds); parts = t.parts }
                | inr last ↦
                    let t = numbered_took (codes "&#x") is_hexadecimal 16 text x last.1 in
                    record { spelling = t.spelling; holds = inr (inr t.holds); parts = t.parts }
              ]
            ]
          ]
        ]
      ]
    ]

lt_again : (rest : List ℕ) → reference_at (codes "&lt;" ++ rest) ≡ Some (60, rest)
unfolding reference_at strip
lt_again rest = refl

gt_again : (rest : List ℕ) → reference_at (codes "&gt;" ++ rest) ≡ Some (62, rest)
unfolding reference_at strip
gt_again rest = refl

amp_again : (rest : List ℕ) → reference_at (codes "&amp;" ++ rest) ≡ Some (38, rest)
unfolding reference_at strip
amp_again rest = refl

apos_again : (rest : List ℕ) → reference_at (codes "&apos;" ++ rest) ≡ Some (39, rest)
unfolding reference_at strip
apos_again rest = refl

quot_again : (rest : List ℕ) → reference_at (codes "&quot;" ++ rest) ≡ Some (34, rest)
unfolding reference_at strip
quot_again rest = refl

-- after `&#` only a number is read
numbers_only : (rest : List ℕ) → reference_at (38 ∷ 35 ∷ rest) ≡ option_or (numbered_at (codes "&#") is_decimal 10 (38 ∷ 35 ∷ rest)) (numbered_at (codes "&#x") is_hexadecimal 16 (38 ∷ 35 ∷ rest))
unfolding reference_at strip
numbers_only rest = refl

no_decimal : (rest : List ℕ) → numbered_at (codes "&#") is_decimal 10 (38 ∷ 35 ∷ 120 ∷ rest) ≡ None
unfolding numbered_at strip after run is_decimal
no_decimal rest = refl

numbered_again : (mark : List ℕ) (is_digit : ℕ → Bool) (base c : ℕ) (s rest : List ℕ) (is : IsNumbered mark is_digit base s c) → is_digit 59 ≡ false → numbered_at mark is_digit base (mark ++ (is.digits ++ (59 ∷ rest))) ≡ Some (c, rest)
unfolding numbered_at
numbered_again mark is_digit base c s rest is ends =
    let again = run_again is_digit is.digits (59 ∷ rest) is.each ends in
    let close : strip (codes ";") (59 ∷ rest) ≡ Some rest = strip_again (codes ";") rest in
    let fits : (are_few is.digits && is_character (numeral base is.digits)) ≡ true =
    and_from _ _ (and_from _ _ (le-leb 1 (length is.digits) (omega (arith, is.some))) (le-leb (length is.digits) max_digits is.few)) (subst (λ (n : ℕ). is_character n ≡ true) is.value is.character) in
    rw (strip_again mark (is.digits ++ (59 ∷ rest)), again.1, close, again.0, fits, is.value) refl

spelled_out : (mark digits s rest : List ℕ) → s ≡ mark ++ digits ++ codes ";" → s ++ rest ≡ mark ++ (digits ++ (59 ∷ rest))
spelled_out mark digits s rest e = ap (λ (t : List ℕ). t ++ rest) e ∙ append_assoc (mark ++ digits) (codes ";") rest ∙ append_assoc mark digits (codes ";" ++ rest)

decimal_ends : is_decimal 59 ≡ false
unfolding is_decimal
decimal_ends = refl

hexadecimal_ends : is_hexadecimal 59 ≡ false
unfolding is_hexadecimal
hexadecimal_ends = refl

decimal_again : (s : List ℕ) (c : ℕ) (rest : List ℕ) → IsNumbered (codes "&#") is_decimal 10 s c → reference_at (s ++ rest) ≡ Some (c, rest)
decimal_again s c rest is =
    ap reference_at (spelled_out (codes "&#") is.digits s rest is.spelled) ∙ numbers_only (is.digits ++ (59 ∷ rest))
    ∙ ap (λ (o : Option (ℕ × List ℕ)). option_or o (numbered_at (codes "&#x") is_hexadecimal 16 (38 ∷ 35 ∷ (is.digits ++ (59 ∷ rest))))) (numbered_again (codes "&#") is_decimal 10 c s rest is decimal_ends)

hexadecimal_again : (s : List ℕ) (c : ℕ) (rest : List ℕ) → IsNumbered (codes "&#x") is_hexadecimal 16 s c → reference_at (s ++ rest) ≡ Some (c, rest)
hexadecimal_again s c rest is =
    ap reference_at (spelled_out (codes "&#x") is.digits s rest is.spelled) ∙ numbers_only (120 ∷ (is.digits ++ (59 ∷ rest)))
    ∙ ap (λ (o : Option (ℕ × List ℕ)). option_or o (numbered_at (codes "&#x") is_hexadecimal 16 (38 ∷ 35 ∷ 120 ∷ (is.digits ++ (59 ∷ rest))))) (no_decimal (is.digits ++ (59 ∷ rest)))
    ∙ numbered_again (codes "&#x") is_hexadecimal 16 c s rest is hexadecimal_ends

at_spelling : (s word rest : List ℕ) (c d : ℕ) → s ≡ word → c ≡ d → reference_at (word ++ rest) ≡ Some (d, rest) → reference_at (s ++ rest) ≡ Some (c, rest)
at_spelling s word rest c d e f again = ap (λ (t : List ℕ). reference_at (t ++ rest)) e ∙ again ∙ ap (λ (n : ℕ). Some (n, rest)) (sym f)

pub reference_again : (s : List ℕ) (c : ℕ) (rest : List ℕ) → IsReference s c → reference_at (s ++ rest) ≡ Some (c, rest)
reference_again s c rest (inl (inl is)) = at_spelling s (codes "&lt;") rest c 60 is.0 is.1 (lt_again rest)
reference_again s c rest (inl (inr (inl is))) = at_spelling s (codes "&gt;") rest c 62 is.0 is.1 (gt_again rest)
reference_again s c rest (inl (inr (inr (inl is)))) = at_spelling s (codes "&amp;") rest c 38 is.0 is.1 (amp_again rest)
reference_again s c rest (inl (inr (inr (inr (inl is))))) = at_spelling s (codes "&apos;") rest c 39 is.0 is.1 (apos_again rest)
reference_again s c rest (inl (inr (inr (inr (inr is))))) = at_spelling s (codes "&quot;") rest c 34 is.0 is.1 (quot_again rest)
reference_again s c rest (inr (inl is)) = decimal_again s c rest is
reference_again s c rest (inr (inr is)) = hexadecimal_again s c rest is

-- each begins with `&`
pub reference_begins : (s : List ℕ) (c : ℕ) → IsReference s c → (more : List ℕ) × (s ≡ 38 ∷ more)
reference_begins s c (inl (inl is)) = (_, is.0)
reference_begins s c (inl (inr (inl is))) = (_, is.0)
reference_begins s c (inl (inr (inr (inl is)))) = (_, is.0)
reference_begins s c (inl (inr (inr (inr (inl is))))) = (_, is.0)
reference_begins s c (inl (inr (inr (inr (inr is))))) = (_, is.0)
reference_begins s c (inr (inl is)) = (_, is.spelled)
reference_begins s c (inr (inr is)) = (_, is.spelled)

pub no_reference : (text : List ℕ) → BeginsOutside (λ b. eqb b 38) text → reference_at text ≡ None
unfolding reference_at numbered_at strip
no_reference [] stops = refl
no_reference (b ∷ bs) stops = rw stops refl

-- ---- text with references

-- no part begins here
pub record NoPart (plain : ℕ → Bool) (text : List ℕ) : Type 0 where
  pub stops : BeginsOutside plain text
  pub none : reference_at text ≡ None

all_append : (P : List ℕ × List ℕ → Type 0) (xs ys : List (List ℕ × List ℕ)) → AllByRecursion P xs → AllByRecursion P ys → AllByRecursion P (xs ++ ys)
all_append P [] ys a b = b
all_append P (x ∷ xs) ys a b = (a.0, all_append P xs ys a.1 b)

flat_append : (f : List ℕ × List ℕ → List ℕ) (xs ys : List (List ℕ × List ℕ)) → flat_map f (xs ++ ys) ≡ flat_map f xs ++ flat_map f ys
flat_append f [] ys = refl
flat_append f (x ∷ xs) ys = ap (λ (t : List ℕ). f x ++ t) (flat_append f xs ys) ∙ sym (append_assoc (f x) (flat_map f xs) (flat_map f ys))

both : (a b c d : List ℕ) → a ≡ b → c ≡ d → a ++ c ≡ b ++ d
both a b c d e f = cc

pub Means-append : (plain : ℕ → Bool) (a b c d : List ℕ) → Means plain a b → Means plain c d → Means plain (a ++ c) (b ++ d)
Means-append plain a b c d m n = record {
  parts = m.parts ++ n.parts;
  each = all_append (λ (part : List ℕ × List ℕ). IsPart plain part.0 part.1) m.parts n.parts m.each n.each;
  spelled = both a (flat_map (λ (part : List ℕ × List ℕ). part.0) m.parts) c (flat_map (λ (part : List ℕ × List ℕ). part.0) n.parts) m.spelled n.spelled ∙ sym (flat_append (λ (part : List ℕ × List ℕ). part.0) m.parts n.parts);
  meant = both b (flat_map (λ (part : List ℕ × List ℕ). part.1) m.parts) d (flat_map (λ (part : List ℕ × List ℕ). part.1) n.parts) m.meant n.meant ∙ sym (flat_append (λ (part : List ℕ × List ℕ). part.1) m.parts n.parts);
}

pub Means-nil : (plain : ℕ → Bool) → Means plain [] []
Means-nil plain = record { parts = []; each = tt; spelled = refl; meant = refl }

pub Means-part : (plain : ℕ → Bool) (s m : List ℕ) → IsPart plain s m → Means plain s m
Means-part plain s m is = record { parts = (s, m) ∷ []; each = (is, tt); spelled = sym (append-nil s); meant = sym (append-nil m) }

plain_means : (plain : ℕ → Bool) (front : List ℕ) → Each plain front → Means plain front front
plain_means plain [] each = Means-nil plain
plain_means plain (b ∷ bs) each = Means-append plain (b ∷ []) (b ∷ []) bs bs (Means-part plain (b ∷ []) (b ∷ []) (inl (b, each.0, refl, refl))) (plain_means plain bs each.1)

then_took : (plain : ℕ → Bool) (goes_on : List ℕ → List ℕ × List ℕ) (o : Option (ℕ × List ℕ)) (bytes front rest : List ℕ) → bytes ≡ front ++ rest → Each plain front → reference_at rest ≡ o
    → ((text : List ℕ) → Took text (goes_on text).1 (λ s. Means plain s (goes_on text).0)) → Took bytes (parts_then front rest goes_on o).1 (λ s. Means plain s (parts_then front rest goes_on o).0)
then_took plain goes_on None bytes front rest e each found more = record { spelling = front; holds = plain_means plain front each; parts = e }
then_took plain goes_on (Some x) bytes front rest e each found more =
    let t = reference_took rest x found in
    let later = more x.1 in
    record {
      spelling = front ++ (t.spelling ++ later.spelling);
      holds = Means-append plain front front (t.spelling ++ later.spelling) (encode_utf8 x.0 ++ (goes_on x.1).0) (plain_means plain front each)
          (Means-append plain t.spelling (encode_utf8 x.0) later.spelling (goes_on x.1).0 (Means-part plain t.spelling (encode_utf8 x.0) (inr (x.0, t.holds, refl))) later.holds);
      parts = e ∙ ap (λ (u : List ℕ). front ++ u) (t.parts ∙ ap (λ (u : List ℕ). t.spelling ++ u) later.parts) ∙ sym (append_assoc front (t.spelling ++ later.spelling) (goes_on x.1).1 ∙ ap (λ (u : List ℕ). front ++ u) (append_assoc t.spelling later.spelling (goes_on x.1).1));
    }

pub parts_took : (plain : ℕ → Bool) (n : ℕ) (bytes : List ℕ) → Took bytes (parts_at plain n bytes).1 (λ s. Means plain s (parts_at plain n bytes).0)
unfolding parts_at
parts_took plain zero bytes = record { spelling = []; holds = Means-nil plain; parts = refl }
parts_took plain (suc n) bytes = then_took plain (λ (rest : List ℕ). parts_at plain n rest) (reference_at (after plain bytes)) bytes (run plain bytes) (after plain bytes) (run_after plain bytes) (run_each plain bytes) refl (λ text. parts_took plain n text)

then_ends : (plain : ℕ → Bool) (goes_on : List ℕ → List ℕ × List ℕ) (o : Option (ℕ × List ℕ)) (bytes front rest : List ℕ) (n : ℕ) → bytes ≡ front ++ rest → BeginsOutside plain rest → reference_at rest ≡ o → length bytes ≤ suc n
    → ((text : List ℕ) → length text ≤ n → NoPart plain (goes_on text).1) → NoPart plain (parts_then front rest goes_on o).1
then_ends plain goes_on None bytes front rest n e stops found le more = record { stops = stops; none = found }
then_ends plain goes_on (Some x) bytes front rest n e stops found le more =
    let t = reference_took rest x found in
    let begins = reference_begins t.spelling x.0 t.holds in
    let long : length t.spelling ≡ suc (length begins.0) = ap (λ (u : List ℕ). length u) begins.1 in
    more x.1 (omega (arith, ap (λ (u : List ℕ). length u) e, ap (λ (u : List ℕ). length u) t.parts, length-append front rest, length-append t.spelling x.1, long))

nothing_left : (plain : ℕ → Bool) (bytes : List ℕ) → length bytes ≤ 0 → NoPart plain bytes
nothing_left plain [] le = record { stops = tt; none = no_reference [] tt }
nothing_left plain (b ∷ bs) le = absurd (omega arith)

pub parts_end : (plain : ℕ → Bool) (n : ℕ) (bytes : List ℕ) → length bytes ≤ n → NoPart plain (parts_at plain n bytes).1
unfolding parts_at
parts_end plain zero bytes le = nothing_left plain bytes le
parts_end plain (suc n) bytes le = then_ends plain (λ (rest : List ℕ). parts_at plain n rest) (reference_at (after plain bytes)) bytes (run plain bytes) (after plain bytes) n (run_after plain bytes) (after_stops plain bytes) refl le (λ text short. parts_end plain n text short)

-- nothing is read where no part begins
pub parts_none : (plain : ℕ → Bool) (n : ℕ) (rest : List ℕ) → NoPart plain rest → parts_at plain n rest ≡ ([], rest)
unfolding parts_at
parts_none plain zero rest ends = refl
parts_none plain (suc n) rest ends =
    let s = run_stops plain rest ends.stops in
    rw (s.0, s.1, ends.none) refl

consed : (b : ℕ) (front rest : List ℕ) (goes_on : List ℕ → List ℕ × List ℕ) (o : Option (ℕ × List ℕ)) → parts_then (b ∷ front) rest goes_on o ≡ (b ∷ (parts_then front rest goes_on o).0, (parts_then front rest goes_on o).1)
consed b front rest goes_on None = refl
consed b front rest goes_on (Some x) = refl

plain_more : (plain : ℕ → Bool) (n b : ℕ) (bytes : List ℕ) → plain b ≡ true → parts_at plain (suc n) (b ∷ bytes) ≡ (b ∷ (parts_at plain (suc n) bytes).0, (parts_at plain (suc n) bytes).1)
unfolding parts_at run after
plain_more plain n b bytes holds = rw holds (consed b (run plain bytes) (after plain bytes) (λ (rest : List ℕ). parts_at plain n rest) (reference_at (after plain bytes)))

reference_more : (plain : ℕ → Bool) (n c : ℕ) (s rest : List ℕ) → plain 38 ≡ false → IsReference s c → parts_at plain (suc n) (s ++ rest) ≡ (encode_utf8 c ++ (parts_at plain n rest).0, (parts_at plain n rest).1)
unfolding parts_at
reference_more plain n c s rest apart is =
    let begins = reference_begins s c is in
    let stops : BeginsOutside plain (s ++ rest) = subst (λ (t : List ℕ). BeginsOutside plain (t ++ rest)) (sym begins.1) apart in
    let e = run_stops plain (s ++ rest) stops in
    let found : reference_at (s ++ rest) ≡ Some (c, rest) = reference_again s c rest is in
    rw (e.0, e.1, found) refl

part_more : (plain : ℕ → Bool) (s m rest text after_all : List ℕ) (n : ℕ) → plain 38 ≡ false → IsPart plain s m → length s + length rest ≤ n
    → ((k : ℕ) → length rest ≤ k → parts_at plain k (rest ++ after_all) ≡ (text, after_all)) → parts_at plain n ((s ++ rest) ++ after_all) ≡ (m ++ text, after_all)
part_more plain s m rest text after_all zero apart (inl is) le more = absurd (omega (arith, ap (λ (t : List ℕ). length t) is.2))
part_more plain s m rest text after_all (suc n) apart (inl is) le more =
    let short : length rest ≤ suc n = omega arith in
    let whole : (s ++ rest) ++ after_all ≡ is.0 ∷ (rest ++ after_all) = ap (λ (t : List ℕ). (t ++ rest) ++ after_all) is.2 in
    ap (parts_at plain (suc n)) whole ∙ plain_more plain n is.0 (rest ++ after_all) is.1 ∙ ap (λ (x : List ℕ × List ℕ). (is.0 ∷ x.0, x.1)) (more (suc n) short) ∙ ap (λ (t : List ℕ). (t ++ text, after_all)) (sym is.3)
part_more plain s m rest text after_all zero apart (inr is) le more =
    let begins = reference_begins s is.0 is.1 in
    absurd (omega (arith, ap (λ (t : List ℕ). length t) begins.1))
part_more plain s m rest text after_all (suc n) apart (inr is) le more =
    let begins = reference_begins s is.0 is.1 in
    let short : length rest ≤ n = omega (arith, ap (λ (t : List ℕ). length t) begins.1) in
    ap (parts_at plain (suc n)) (append_assoc s rest after_all) ∙ reference_more plain n is.0 s (rest ++ after_all) apart is.1 ∙ ap (λ (x : List ℕ × List ℕ). (encode_utf8 is.0 ++ x.0, x.1)) (more n short) ∙ ap (λ (t : List ℕ). (t ++ text, after_all)) (sym is.2)

parts_listed : (plain : ℕ → Bool) (parts : List (List ℕ × List ℕ)) (rest : List ℕ) (n : ℕ) → plain 38 ≡ false → AllByRecursion (λ part. IsPart plain part.0 part.1) parts → NoPart plain rest → length (flat_map (λ (part : List ℕ × List ℕ). part.0) parts) ≤ n
    → parts_at plain n (flat_map (λ (part : List ℕ × List ℕ). part.0) parts ++ rest) ≡ (flat_map (λ (part : List ℕ × List ℕ). part.1) parts, rest)
parts_listed plain [] rest n apart each ends le = parts_none plain n rest ends
parts_listed plain (p ∷ ps) rest n apart each ends le =
    part_more plain p.0 p.1 (flat_map (λ (part : List ℕ × List ℕ). part.0) ps) (flat_map (λ (part : List ℕ × List ℕ). part.1) ps) rest n apart each.0
    (omega (arith, length-append p.0 (flat_map (λ (part : List ℕ × List ℕ). part.0) ps))) (λ k short. parts_listed plain ps rest k apart each.1 ends short)

ampersand : (quote : ℕ) → is_plain quote 38 ≡ false
unfolding is_plain
ampersand quote = refl

-- ---- the whole of the text with references at the front

pub text_took : (quote : ℕ) (bytes : List ℕ) → Took bytes (text_at quote bytes).1 (λ s. Means (is_plain quote) s (text_at quote bytes).0)
text_took quote bytes = parts_took (is_plain quote) (length bytes) bytes

pub text_ends : (quote : ℕ) (bytes : List ℕ) → NoPart (is_plain quote) (text_at quote bytes).1
text_ends quote bytes = parts_end (is_plain quote) (length bytes) bytes (omega arith)

pub text_again : (quote : ℕ) (s m rest : List ℕ) → Means (is_plain quote) s m → NoPart (is_plain quote) rest → text_at quote (s ++ rest) ≡ (m, rest)
text_again quote s m rest means ends =
    let long : length (flat_map (λ (part : List ℕ × List ℕ). part.0) means.parts) ≤ length (s ++ rest) = omega (arith, length-append s rest, ap (λ (t : List ℕ). length t) means.spelled) in
    ap (λ (t : List ℕ). parts_at (is_plain quote) (length (s ++ rest)) (t ++ rest)) means.spelled
    ∙ parts_listed (is_plain quote) means.parts rest (length (s ++ rest)) (ampersand quote) means.each ends long
    ∙ ap (λ (t : List ℕ). (t, rest)) (sym means.meant)

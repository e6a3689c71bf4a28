-- What is taken of a stream is the reading of its strings, wherever it is cut.
use Rattle.std.proofs.Common.{◌≡◌, ℕ, suc, ◌+◌, ◌%◌, ◌/◌, ◌<◌, ◌≤◌, List, [], ◌∷◌, ◌++◌, take, drop, length, get_or, ltb, Bool, true, false, ◌==◌, if◌then◌else◌, refl, sym, ap, ap₂, subst, ◌∙◌, arith, append_assoc}
use Rattle.std.proofs.lemmas.List.{append-nil, length-append, length-take-le, length-drop, take_at, drop_at, drop_all, take-append-le, drop-append-le, get_or_append_left}
use Rattle.std.proofs.lemmas.Bool.Decides.{nat_tests}
use Rattle.e57_bits.specs.Bits.{number}
use Rattle.e57_bits.proofs.BitLaws.{number-take}
use Rattle.e57_layout.specs.Strings.{string_found, prefix_found, prefix_too_long, prefix_cut_off, first_prefix, first_string, after_prefix, string_limit, within_limit}
use Rattle.e57_strings.specs.Progress.{Progress, in_prefix, in_string, prefix_size, stated_length}
use Rattle.e57_strings.specs.Feeds.{Feeds, HasRoom, overwritten}
use Rattle.e57_strings.specs.Holds.{HoldsString, Holds, IsUnfinished, Reads}
use Rattle.e57_strings.specs.declared.cursor.Fed.{Fed}
use Rattle.e57_strings.specs.declared.cursor.Fed.TheVariants.{More, Length, Whole}

lt-true : (a b : ℕ) → a < b → ltb a b ≡ true
lt-true a b h = grind (arith, nat_tests)

lt-false : (a b : ℕ) → b ≤ a → ltb a b ≡ false
lt-false a b h = grind (arith, nat_tests)

-- the first byte decides
first-more : (xs ys : List ℕ) → 0 < length xs → get_or (xs ++ ys) 0 0 ≡ get_or xs 0 0
first-more xs ys h = get_or_append_left xs ys 0 0 h

size-more : (xs ys : List ℕ) → 0 < length xs → prefix_size (xs ++ ys) ≡ prefix_size xs
size-more xs ys h = ap (λ b. if b % 2 == 0 then 1 else 8) (first-more xs ys h)

size-pos : (xs : List ℕ) → 0 < prefix_size xs
size-pos xs = either (get_or xs 0 0 % 2 == 0)
  where
    either : (t : Bool) → 0 < (if t then 1 else 8)
    either true = omega arith
    either false = omega arith

-- the first 64 bits of eight bytes or more
word-more : (xs ys : List ℕ) → 8 ≤ length xs → number (xs ++ ys) 0 64 ≡ number xs 0 64
word-more xs ys h =
    sym (number-take (xs ++ ys) 8 0 64 (omega arith)) ∙ ap (λ zs. number zs 0 64) (take-append-le 8 xs ys h) ∙ number-take xs 8 0 64 (omega arith)

stated-more : (xs ys : List ℕ) → prefix_size xs ≤ length xs → stated_length (xs ++ ys) ≡ stated_length xs
stated-more xs ys h =
    let first = first-more xs ys (omega (arith, size-pos xs)) in
    ap (λ b. if b % 2 == 0 then b / 2 else number (xs ++ ys) 0 64 / 2) first ∙ either (get_or xs 0 0 % 2 == 0) h
  where
    either : (t : Bool) → (if t then 1 else 8) ≤ length xs
        → (if t then get_or xs 0 0 / 2 else number (xs ++ ys) 0 64 / 2) ≡ (if t then get_or xs 0 0 / 2 else number xs 0 64 / 2)
    either true g = refl
    either false g = ap (λ n. n / 2) (word-more xs ys g)

-- a whole prefix, with whatever follows it
pub first_prefix-whole : (xs rest : List ℕ) → prefix_size xs ≤ length xs → first_prefix (xs ++ rest) ≡ within_limit (stated_length xs) (drop (prefix_size xs) xs ++ rest)
unfolding first_prefix
first_prefix-whole [] rest h = absurd (omega (arith, size-pos []))
first_prefix-whole (b ∷ bs) rest h = either (b % 2 == 0) h
  where
    either : (t : Bool) → (if t then 1 else 8) ≤ suc (length bs)
        → (if t then within_limit (b / 2) (bs ++ rest) else (if ltb (length (bs ++ rest)) 7 then prefix_cut_off else within_limit (number (b ∷ (bs ++ rest)) 0 64 / 2) (drop 7 (bs ++ rest))))
        ≡ within_limit (if t then b / 2 else number (b ∷ bs) 0 64 / 2) (drop (if t then 1 else 8) (b ∷ bs) ++ rest)
    either true g = refl
    either false g =
        let there : ltb (length (bs ++ rest)) 7 ≡ false = lt-false (length (bs ++ rest)) 7 (omega (arith, length-append bs rest)) in
        let word : number (b ∷ (bs ++ rest)) 0 64 ≡ number (b ∷ bs) 0 64 = word-more (b ∷ bs) rest g in
        rw there (ap₂ (λ n ys. within_limit (n / 2) ys) word (drop-append-le 7 bs rest (omega arith)))

-- a prefix that isn't whole
pub first_prefix-unfinished : (xs : List ℕ) → length xs < prefix_size xs → first_prefix xs ≡ prefix_cut_off
unfolding first_prefix
first_prefix-unfinished [] h = refl
first_prefix-unfinished (b ∷ bs) h = either (b % 2 == 0) h
  where
    either : (t : Bool) → suc (length bs) < (if t then 1 else 8)
        → (if t then within_limit (b / 2) bs else (if ltb (length bs) 7 then prefix_cut_off else within_limit (number (b ∷ bs) 0 64 / 2) (drop 7 bs))) ≡ prefix_cut_off
    either true g = absurd (omega arith)
    either false g = rw (lt-true (length bs) 7 (omega arith)) refl

unfinished-prefix : (xs : List ℕ) → length xs < prefix_size xs → IsUnfinished (first_string xs)
unfolding first_string
unfinished-prefix xs h = subst (λ r. IsUnfinished (after_prefix r)) (sym (first_prefix-unfinished xs h)) tt

unfinished-string : (xs : List ℕ) (n d : ℕ) → n ≡ stated_length xs → length xs ≡ prefix_size xs + d → d < n → IsUnfinished (first_string xs)
unfolding first_string
unfinished-string xs n d e counted h =
    subst (λ r. IsUnfinished (after_prefix r)) (sym read) (limit (ltb string_limit n))
  where
    left : List ℕ
    left = drop (prefix_size xs) xs ++ []

    read : first_prefix xs ≡ within_limit n left
    read =
        ap first_prefix (sym (append-nil xs))
        ∙ first_prefix-whole xs [] (omega arith)
        ∙ ap (λ m. within_limit m left) (sym e)

    few : length left < n
    few = rw append-nil (omega (arith, length-drop (prefix_size xs) xs))

    limit : (t : Bool) → IsUnfinished (after_prefix (if t then prefix_too_long else prefix_found n left))
    limit true = tt
    limit false = rw (lt-true (length left) n few) tt

-- a whole string, with whatever follows it
found-string : (xs rest : List ℕ) (n : ℕ) → n ≡ stated_length xs → length xs ≡ prefix_size xs + n → n ≤ string_limit
    → first_string (xs ++ rest) ≡ string_found (drop (prefix_size xs) xs) rest
unfolding first_string
found-string xs rest n e counted h =
    let bytes = drop (prefix_size xs) xs in
    let long : length bytes ≡ n = omega (arith, length-drop (prefix_size xs) xs) in
    ap after_prefix (first_prefix-whole xs rest (omega arith) ∙ ap (λ m. within_limit m (bytes ++ rest)) (sym e))
    ∙ rw (lt-false string_limit n h, lt-false (length (bytes ++ rest)) n (omega (arith, length-append bytes rest)), take_at bytes rest n long, drop_at bytes rest n long) refl

-- bytes put behind the ones before them
put-more : (old bytes : List ℕ) (d : ℕ) → d ≤ length old → take (d + length bytes) (overwritten old d bytes) ≡ take d old ++ bytes
put-more old bytes d h =
    let front : length (take d old) ≡ d = length-take-le d old h in
    ap (take (d + length bytes)) (sym (append_assoc (take d old) bytes (drop (d + length bytes) old)))
    ∙ take_at (take d old ++ bytes) (drop (d + length bytes) old) (d + length bytes) (length-append (take d old) bytes ∙ ap (λ m. m + length bytes) front)

-- a string that goes on
holds-more : (so_far bytes old new : List ℕ) (n d m : ℕ) → HoldsString so_far n d old → n ≤ length old → m ≡ length bytes → d + m ≤ n → new ≡ overwritten old d bytes
    → HoldsString (so_far ++ bytes) n (d + m) new
holds-more so_far bytes old new n d m h room count within made =
    let begun : prefix_size so_far ≤ length so_far = omega (arith, h.counted) in
    let size : prefix_size (so_far ++ bytes) ≡ prefix_size so_far = size-more so_far bytes (omega (arith, size-pos so_far)) in
    record {
      stated = h.stated ∙ sym (stated-more so_far bytes begun);
      counted = length-append so_far bytes ∙ counts (length so_far) (prefix_size so_far) d (length bytes) m h.counted count ∙ ap (λ p. p + (d + m)) (sym size);
      within = within;
      put = ap₂ (λ k xs. take (d + k) xs) count made
          ∙ put-more old bytes d (omega (arith, h.within))
          ∙ ap (λ xs. xs ++ bytes) h.put
          ∙ sym (drop-append-le (prefix_size so_far) so_far bytes begun)
          ∙ ap (λ p. drop p (so_far ++ bytes)) (sym size);
    }
  where
    counts : (a p e b k : ℕ) → a ≡ p + e → k ≡ b → a + b ≡ p + (e + k)
    counts a p e b k g f = omega arith

-- before the first byte of a string
pub Holds-none : (out : List ℕ) → Holds [] (in_prefix []) out
Holds-none out = (refl, size-pos [])

-- one place for the bytes so far, however they came
pub Holds-one_place : (so_far : List ℕ) (p q : Progress) (a b : List ℕ) → Holds so_far p a → Holds so_far q b → p ≡ q
Holds-one_place so_far (in_prefix bs) (in_prefix cs) a b h g = ap in_prefix (h.0 ∙ sym g.0)
Holds-one_place so_far (in_prefix bs) (in_string n d) a b h g = absurd (omega (arith, h.1, g.counted))
Holds-one_place so_far (in_string n d) (in_prefix cs) a b h g = absurd (omega (arith, h.counted, g.1))
Holds-one_place so_far (in_string n d) (in_string m e) a b h g =
    let same : d ≡ e = omega (arith, h.counted, g.counted) in
    ap₂ in_string (h.stated ∙ sym g.stated) same

-- what a call takes is what the stream says
pub Feeds-reads : (so_far piece : List ℕ) (before : Progress) (old : List ℕ) (result : Fed) (after : Progress) (new : List ℕ)
    → Holds so_far before old → HasRoom before (length old) → Feeds before piece old result after new → Reads so_far piece result after new
Feeds-reads so_far piece (in_prefix bs) old (More taken) after new h room f =
    let all : bs ++ piece ≡ so_far ++ piece = ap (λ xs. xs ++ piece) h.0 in
    let short : length (so_far ++ piece) < prefix_size (so_far ++ piece) = subst (λ xs. length xs < prefix_size xs) all f.0.unfinished in
    (subst (λ p. Holds (so_far ++ piece) p new) (sym f.0.next) (all, short), unfinished-prefix (so_far ++ piece) short)
Feeds-reads so_far piece (in_prefix bs) old (Length taken n) after new h room f =
    let part = take taken piece in
    let all : bs ++ part ≡ so_far ++ part = ap (λ xs. xs ++ part) h.0 in
    let stated : n ≡ stated_length (so_far ++ part) = f.0.stated ∙ ap stated_length all in
    let size : length (so_far ++ part) ≡ prefix_size (so_far ++ part) =
    length-append so_far part ∙ ap₂ (λ x y. x + y) (ap length (sym h.0)) (length-take-le taken piece f.0.within) ∙ f.0.finished ∙ ap prefix_size all in
    let nothing : drop (prefix_size (so_far ++ part)) (so_far ++ part) ≡ [] = drop_all (prefix_size (so_far ++ part)) (so_far ++ part) (omega arith) in (
      subst (λ p. Holds (so_far ++ part) p new) (sym f.0.next) (record { stated = stated; counted = omega arith; within = omega arith; put = sym nothing }),
      λ rest. first_prefix-whole (so_far ++ part) rest (omega arith) ∙ ap₂ (λ m xs. within_limit m (xs ++ rest)) (sym stated) nothing,
    )
Feeds-reads so_far piece (in_prefix bs) old (Whole taken n) after new h room f = absurd f.0
Feeds-reads so_far piece (in_string n d) old (More taken) after new h room f =
    let more = holds-more so_far piece old new n d taken h room f.all_taken (omega (arith, f.unfinished)) f.put in (
      subst (λ p. Holds (so_far ++ piece) p new) (sym f.next) more,
      unfinished-string (so_far ++ piece) n (d + taken) more.stated more.counted f.unfinished,
    )
Feeds-reads so_far piece (in_string n d) old (Length taken k) after new h room f = absurd f
Feeds-reads so_far piece (in_string n d) old (Whole taken k) after new h room f =
    let e : k ≡ n = f.0 in
    let ends = f.1 in
    let part = take taken piece in
    let more = holds-more so_far part old new n d taken h room (sym (length-take-le taken piece ends.within)) (omega (arith, ends.finished)) ends.put in
    let all : HoldsString (so_far ++ part) n n new = subst (λ m. HoldsString (so_far ++ part) n m new) ends.finished more in
    λ limit rest.
    found-string (so_far ++ part) rest n all.stated all.counted (subst (λ m. m ≤ string_limit) e limit)
    ∙ ap (λ xs. string_found xs rest) (sym all.put ∙ ap (λ m. take m new) (sym e))

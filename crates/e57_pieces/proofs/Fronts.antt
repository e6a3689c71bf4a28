-- What searches of the code say, in the words of the reading functions.
use Rattle.std.proofs.Common.{◌≡◌, ℕ, zero, suc, ◌+◌, ◌<◌, ◌≤◌, Bool, true, false, cond, eqb, List, [], ◌∷◌, length, get_or, take, drop, Option, Some, None, refl, sym, ap, ◌∙◌, arith, MatchOption, unwrap_or, not, zero-add, inl, inr, ◌⊎◌}
use Rattle.std.specs.Option.{option_map}
use Rattle.std.specs.Cmp.Lexicographic.{pointwise}
use Rattle.std.proofs.lemmas.Bool.{eqb-true, eq-eqb}
use Rattle.memchr.specs.Find.{OccursAt, FindsNeedle, IsFirstByte, is_byte3}
use denote.Ref.{Bor}
use Rattle.std.proofs.lemmas.List.{drop_more, drop_all}
use Rattle.e57_pieces.specs.Characters.{clean_len, forbids}
use Rattle.e57_pieces.specs.Words.{is_plain, begins_name, goes_on_name}
use Rattle.e57_pieces.specs.Start.{strip}
use Rattle.e57_pieces.specs.Reading.{run, after, cut_at, name_at}
use Rattle.e57_base.proofs.Options.{option_cases}

-- a class holds up to n, and fails there
pub run_to : (p : ℕ → Bool) (xs : List ℕ) (n : ℕ) → n ≤ length xs → ((k : ℕ) → k < n → p (get_or xs k 0) ≡ true) → (n < length xs → p (get_or xs n 0) ≡ false) → (run p xs ≡ take n xs) × (after p xs ≡ drop n xs)
unfolding run after
run_to p [] zero le holds stops = (refl, refl)
run_to p [] (suc n) le holds stops = (refl, refl)
run_to p (x ∷ xs) zero le holds stops =
    let no : p x ≡ false = stops (omega arith) in
    (rw no refl, rw no refl)
run_to p (x ∷ xs) (suc n) le holds stops =
    let yes : p x ≡ true = holds 0 (omega arith) in
    let more = run_to p xs n (omega arith) (λ k lt. holds (suc k) (omega arith)) (λ lt. stops (omega arith)) in
    (rw yes (ap (λ (ys : List ℕ). x ∷ ys) more.0), rw yes more.1)

pub tested : (b : Bool) → (b ≡ true) ⊎ (b ≡ false)
tested true = inl refl
tested false = inr refl

strip_by : (word text : List ℕ) → strip word text ≡ cond (pointwise eqb (take (length word) text) word) (Some (drop (length word) text)) None
unfolding strip
strip_by [] text = refl
strip_by (p ∷ ps) [] = refl
strip_by (p ∷ ps) (b ∷ bs) =
    elim (tested (eqb b p)) [
      | inl holds ↦ rw holds (strip_by ps bs)
      | inr fails ↦ rw fails refl
    ]

pub strip_is : (word text : List ℕ) (r : Option (Bor (List ℕ))) → MatchOption r (pointwise eqb (take (length word) text) word ≡ false) (λ x. (pointwise eqb (take (length word) text) word ≡ true) × (x.now ≡ drop (length word) text) × (length x.now + length word ≡ length text)) → option_map (λ (x : Bor (List ℕ)). x.now) r ≡ strip word text
strip_is word text None h = sym (strip_by word text ∙ rw h refl)
strip_is word text (Some x) h = sym (strip_by word text ∙ rw (h.0, h.1) refl)

-- ---- the first place of a word

reads_cons : (b p : ℕ) (bs ps : List ℕ) → b ≡ p → ((j : ℕ) → j < length ps → get_or bs (0 + j) 0 ≡ get_or ps j 0) → (j : ℕ) → j < length (p ∷ ps) → get_or (b ∷ bs) (0 + j) 0 ≡ get_or (p ∷ ps) j 0
reads_cons b p bs ps same h zero lt = same
reads_cons b p bs ps same h (suc j) lt = rw zero-add (rw zero-add at (h j (omega arith)))

strip_from : (word text : List ℕ) → OccursAt text word 0 → strip word text ≡ Some (drop (length word) text)
unfolding strip
strip_from [] text occurs = refl
strip_from (p ∷ ps) [] occurs = absurd (omega (arith, occurs.fits))
strip_from (p ∷ ps) (b ∷ bs) occurs =
    let same : b ≡ p = occurs.reads 0 (omega arith) in
    let rest : OccursAt bs ps 0 = record { fits = omega (arith, occurs.fits); reads = λ j lt. rw zero-add (rw zero-add at (occurs.reads (suc j) (omega arith))) } in
    rw (eq-eqb b p same) (strip_from ps bs rest)

occurs_from : (word text rest : List ℕ) → strip word text ≡ Some rest → OccursAt text word 0
unfolding strip
occurs_from [] text rest e = record { fits = omega arith; reads = λ j lt. absurd (omega arith) }
occurs_from (p ∷ ps) [] rest e = absurd cc
occurs_from (p ∷ ps) (b ∷ bs) rest e =
    elim (tested (eqb b p)) [
      | inl holds ↦
          let o = occurs_from ps bs rest (rw holds at e) in
          record { fits = omega (arith, o.fits); reads = reads_cons b p bs ps (eqb-true b p holds) o.reads }
      | inr fails ↦ let f : None ≡ Some rest = rw fails at e in absurd cc
    ]

strip_none : (word text : List ℕ) → (OccursAt text word 0 → ⊥) → strip word text ≡ None
strip_none word text never =
    elim (option_cases (strip word text)) [
      | inl none ↦ none
      | inr some ↦ absurd (never (occurs_from word text some.0 some.1))
    ]

shifted : (b : ℕ) (bs word : List ℕ) (k : ℕ) → OccursAt bs word k → OccursAt (b ∷ bs) word (suc k)
shifted b bs word k o = record {
  fits = omega (arith, o.fits);
  reads = λ j lt. let e : suc k + j ≡ suc (k + j) = omega arith in rw e (o.reads j lt);
}

unshifted : (b : ℕ) (bs word : List ℕ) (k : ℕ) → OccursAt (b ∷ bs) word (suc k) → OccursAt bs word k
unshifted b bs word k o = record {
  fits = omega (arith, o.fits);
  reads = λ j lt. let e : suc k + j ≡ suc (k + j) = omega arith in rw e at (o.reads j lt);
}

pub cut_is : (word text : List ℕ) (r : Option ℕ) → 0 < length word → FindsNeedle text word 0 r → option_map (λ (k : ℕ). (take k text, drop (k + length word) text)) r ≡ cut_at word text
unfolding cut_at
cut_is word [] None some h = refl
cut_is word [] (Some k) some h = absurd (omega (arith, h.1.fits))
cut_is word (b ∷ bs) None some h =
    let none : strip word (b ∷ bs) ≡ None = strip_none word (b ∷ bs) (h 0 (omega arith) (omega arith)) in
    let more : None ≡ cut_at word bs = cut_is word bs None some (λ k low high o. h (suc k) (omega arith) (omega arith) (shifted b bs word k o)) in
    rw (none, ← more) refl
cut_is word (b ∷ bs) (Some zero) some h =
    let found : strip word (b ∷ bs) ≡ Some (drop (length word) (b ∷ bs)) = strip_from word (b ∷ bs) h.1 in
    rw (found, zero-add) refl
cut_is word (b ∷ bs) (Some (suc k)) some h =
    let none : strip word (b ∷ bs) ≡ None = strip_none word (b ∷ bs) (h.0.before 0 (omega arith) (omega arith)) in
    let first : FindsNeedle bs word 0 (Some k) = (record { low = omega arith; high = omega (arith, h.0.high); before = λ j low high o. h.0.before (suc j) (omega arith) (omega arith) (shifted b bs word j o) }, unshifted b bs word k h.1) in
    let more : Some (take k bs, drop (k + length word) bs) ≡ cut_at word bs = cut_is word bs (Some k) some first in
    let e : suc k + length word ≡ suc (k + length word) = omega arith in
    rw (none, ← more, e) refl

-- ---- plain bytes

not_true : (b : Bool) → (b ≡ true → ⊥) → not b ≡ true
not_true true never = absurd (never refl)
not_true false never = refl

not_false : (b : Bool) → b ≡ true → not b ≡ false
not_false true e = refl
not_false false e = absurd cc

pub plain_to : (q : ℕ) (text : List ℕ) (r : Option ℕ) → IsFirstByte (is_byte3 60 38 q) text r → (run (is_plain q) text ≡ take (unwrap_or r (length text)) text) × (after (is_plain q) text ≡ drop (unwrap_or r (length text)) text)
unfolding is_plain
plain_to q text None h = run_to (is_plain q) text (length text) (omega arith) (λ k lt. not_true (is_byte3 60 38 q (get_or text k 0)) (h k (omega arith) lt)) (λ lt. absurd (omega arith))
plain_to q text (Some k) h = run_to (is_plain q) text k (omega (arith, h.0.high)) (λ j lt. not_true (is_byte3 60 38 q (get_or text j 0)) (h.0.before j (omega arith) lt)) (λ lt. not_false (is_byte3 60 38 q (get_or text k 0)) h.1)

pub place_within : (n : ℕ) (test : ℕ → Bool) (text : List ℕ) (r : Option ℕ) → IsFirstByte test text r → unwrap_or r (length text) ≤ length text
place_within n test text None h = omega arith
place_within n test text (Some k) h = omega (arith, h.0.high)

-- ---- characters

pub clean_stop : (text : List ℕ) (i : ℕ) → i < length text → forbids (drop i text) ≡ true → clean_len (drop i text) ≡ 0
unfolding clean_len
clean_stop text i lt e =
    let at : drop i text ≡ get_or text i 0 ∷ drop (i + 1) text = drop_more text i 0 lt in
    rw at (rw (rw at at e) refl)

pub clean_go : (text : List ℕ) (i : ℕ) → i < length text → forbids (drop i text) ≡ false → clean_len (drop i text) ≡ suc (clean_len (drop (i + 1) text))
unfolding clean_len
clean_go text i lt e =
    let at : drop i text ≡ get_or text i 0 ∷ drop (i + 1) text = drop_more text i 0 lt in
    rw at (rw (rw at at e) refl)

pub clean_done : (text : List ℕ) (i : ℕ) → length text ≤ i → clean_len (drop i text) ≡ 0
unfolding clean_len
clean_done text i le = rw (drop_all i text le) refl

-- ---- names

begins_goes_on : (b : ℕ) → begins_name b ≡ true → goes_on_name b ≡ true
unfolding goes_on_name
begins_goes_on b holds = rw holds refl

pub name_is : (text : List ℕ) → 0 < length text → begins_name (get_or text 0 0) ≡ true → name_at text ≡ Some (run goes_on_name text, after goes_on_name text)
unfolding name_at run after
name_is [] some holds = absurd (omega arith)
name_is (b ∷ bs) some holds = rw (holds, begins_goes_on b holds) refl

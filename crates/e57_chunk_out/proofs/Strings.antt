-- Laws of strings one behind another.
use Rattle.std.proofs.Common.{◌≡◌, ℕ, zero, suc, ◌+◌, ◌-◌, ◌*◌, ◌<◌, ◌≤◌, cond, List, [], ◌∷◌, ◌++◌, length, take, drop, get_or, refl, ap, subst, ◌∙◌, arith, length-append, length-drop, nat_le}
use Rattle.std.proofs.lemmas.List.{drop_more, length-take-le, get_or-take}
use Rattle.std.proofs.lemmas.Bool.{cond_both}
use Rattle.e57_layout.specs.Values.{strings, Value, octets}
use Rattle.e57_layout.specs.Bytes.{low_bytes}
use Rattle.e57_layout.proofs.Laws.Numbers.{length-low_bytes}
use Rattle.e57_layout.specs.Strings.{string_limit, string_prefix, string_bytes_of}
use Rattle.e57_layout.specs.Items.{octets_of, field_bytes}
use Rattle.e57_chunk_out.specs.Texts.{strings_at, AreEnds, text_size, texts_size}

-- ---- sizes

pub length-string_prefix : (n : ℕ) → length (string_prefix n) + n ≡ text_size n
unfolding string_prefix text_size
length-string_prefix n =
    cond_both (nat_le n 127) (low_bytes 1 (2 * n)) (low_bytes 8 (2 * n + 1)) (λ (prefix : List ℕ). length prefix + n ≡ cond (nat_le n 127) (1 + n) (8 + n))
    (λ small. rw small (rw (length-low_bytes 1 (2 * n)) refl))
    (λ large. rw large (rw (length-low_bytes 8 (2 * n + 1)) refl))

pub length-string_bytes : (t : List ℕ) → length (string_bytes_of t) ≡ text_size (length t)
unfolding string_bytes_of
length-string_bytes t = length-append (string_prefix (length t)) t ∙ length-string_prefix (length t)

pub text_size-prefix : (n size : ℕ) → size ≡ cond (nat_le n 127) 1 8 → size + n ≡ text_size n
unfolding text_size
text_size-prefix n size e = cond_both (nat_le n 127) 1 8 (λ (k : ℕ). size ≡ k → size + n ≡ cond (nat_le n 127) (1 + n) (8 + n)) (λ small h. rw small (omega arith)) (λ large h. rw large (omega arith)) e

pub text_size-most : (n : ℕ) → text_size n ≤ 8 + n
unfolding text_size
text_size-most n = cond_both (nat_le n 127) (1 + n) (8 + n) (λ (k : ℕ). k ≤ 8 + n) (λ small. omega arith) (λ large. omega arith)

-- ---- ends

module _ (most : ℕ) where
  pub ends-begin : (begin : ℕ) (ends : List ℕ) → AreEnds most begin ends → begin ≤ most
  unfolding AreEnds
  ends-begin begin [] h = h
  ends-begin begin (e ∷ es) h = let later = ends-begin e es h.2 in omega (arith, h.0)

  -- the next string
  pub record IsNextEnd (begin : ℕ) (ends : List ℕ) (k : ℕ) : Type 0 where
    pub order : begin ≤ get_or ends k 0
    pub limit : get_or ends k 0 ≤ begin + string_limit
    pub inside : get_or ends k 0 ≤ most
    pub later : AreEnds most (get_or ends k 0) (drop (k + 1) ends)

  pub next_end : (begin : ℕ) (ends : List ℕ) (k : ℕ) → k < length ends → AreEnds most begin (drop k ends) → IsNextEnd begin ends k
  unfolding AreEnds
  next_end begin ends k h are =
      let these : AreEnds most begin (get_or ends k 0 ∷ drop (k + 1) ends) = subst (λ (es : List ℕ). AreEnds most begin es) (drop_more ends k 0 h) are in
      record { order = these.0; limit = these.1; inside = ends-begin (get_or ends k 0) (drop (k + 1) ends) these.2; later = these.2 }

pub texts_size-next : (begin : ℕ) (ends : List ℕ) (k : ℕ) → k < length ends → texts_size begin (drop k ends) ≡ text_size (get_or ends k 0 - begin) + texts_size (get_or ends k 0) (drop (k + 1) ends)
unfolding texts_size
texts_size-next begin ends k h = ap (texts_size begin) (drop_more ends k 0 h)

pub texts_size-nil : (begin : ℕ) → texts_size begin [] ≡ 0
unfolding texts_size
texts_size-nil begin = refl

pub strings_at-next : (bytes : List ℕ) (begin : ℕ) (ends : List ℕ) (k : ℕ) → k < length ends → field_bytes strings (strings_at bytes begin (drop k ends)) ≡ string_bytes_of (take (get_or ends k 0 - begin) (drop begin bytes)) ++ field_bytes strings (strings_at bytes (get_or ends k 0) (drop (k + 1) ends))
unfolding strings_at field_bytes octets_of
strings_at-next bytes begin ends k h = ap (λ (es : List ℕ). field_bytes strings (strings_at bytes begin es)) (drop_more ends k 0 h)

pub strings_at-nil : (bytes : List ℕ) (begin : ℕ) → field_bytes strings (strings_at bytes begin []) ≡ []
unfolding strings_at field_bytes
strings_at-nil bytes begin = refl

-- the bytes of strings are as many as is counted
pub length-texts : (bytes : List ℕ) (begin : ℕ) (ends : List ℕ) → AreEnds (length bytes) begin ends → length (field_bytes strings (strings_at bytes begin ends)) ≡ texts_size begin ends
unfolding strings_at field_bytes AreEnds texts_size octets_of
length-texts bytes begin [] h = refl
length-texts bytes begin (e ∷ es) h =
    let later : length (field_bytes strings (strings_at bytes e es)) ≡ texts_size e es = length-texts bytes e es h.2 in
    let inside : e ≤ length bytes = ends-begin (length bytes) e es h.2 in
    let size : length (take (e - begin) (drop begin bytes)) ≡ e - begin = length-take-le (e - begin) (drop begin bytes) (rw (length-drop begin bytes) (omega arith)) in
    length-append (string_bytes_of (take (e - begin) (drop begin bytes))) (field_bytes strings (strings_at bytes e es))
    ∙ rw (length-string_bytes (take (e - begin) (drop begin bytes)), size, later) refl

-- ---- some of the strings

-- where string k begins
abbrev pub begin_at : ℕ → List ℕ → ℕ → ℕ
begin_at begin ends k = get_or (begin ∷ ends) k 0

pub ends-take : (most n begin : ℕ) (ends : List ℕ) → AreEnds most begin ends → AreEnds most begin (take n ends)
unfolding AreEnds
ends-take most zero begin ends h = ends-begin most begin ends h
ends-take most (suc n) begin [] h = h
ends-take most (suc n) begin (e ∷ es) h = (h.0, h.1, ends-take most n e es h.2)

pub ends-drop : (most k begin : ℕ) (ends : List ℕ) → k ≤ length ends → AreEnds most begin ends → AreEnds most (begin_at begin ends k) (drop k ends)
unfolding AreEnds
ends-drop most zero begin ends g h = h
ends-drop most (suc k) begin [] g h = absurd (omega arith)
ends-drop most (suc k) begin (e ∷ es) g h = ends-drop most k e es (omega arith) h.2

pub strings_at-take : (bytes : List ℕ) (n begin : ℕ) (ends : List ℕ) → take n (strings_at bytes begin ends) ≡ strings_at bytes begin (take n ends)
unfolding strings_at
strings_at-take bytes zero begin ends = refl
strings_at-take bytes (suc n) begin [] = refl
strings_at-take bytes (suc n) begin (e ∷ es) = ap (λ (values : List Value). octets (take (e - begin) (drop begin bytes)) ∷ values) (strings_at-take bytes n e es)

pub strings_at-drop : (bytes : List ℕ) (k begin : ℕ) (ends : List ℕ) → k ≤ length ends → drop k (strings_at bytes begin ends) ≡ strings_at bytes (begin_at begin ends k) (drop k ends)
unfolding strings_at
strings_at-drop bytes zero begin ends g = refl
strings_at-drop bytes (suc k) begin [] g = absurd (omega arith)
strings_at-drop bytes (suc k) begin (e ∷ es) g = strings_at-drop bytes k e es (omega arith)

-- where a string of the first ones begins
pub begin_at-take : (k until begin : ℕ) (ends : List ℕ) → k ≤ until → begin_at begin (take until ends) k ≡ begin_at begin ends k
begin_at-take zero until begin ends h = refl
begin_at-take (suc k) until begin ends h = get_or-take until ends k 0 (omega arith)

-- The streams that a buffer holds.
use Rattle.std.specs.Prelude.{◌≡◌, ℕ, zero, suc, ◌-◌, ◌<◌, ◌≤◌, List, [], ◌∷◌, length, take, drop, get_or, Option, Some, None, IfSome, IsSomeAnd}
use Rattle.std.specs.Option.{unwrap_or}
use Rattle.std.proofs.Common.{refl, sym, ap, ◌∙◌, arith, get_or-take}
use Rattle.std.proofs.lemmas.List.{length-take}
use Rattle.e57_section.specs.Streams.{first_stream, pieces, EndsWithin, stream_begin, held_streams, IsBuffer}

pub length-pieces : (begin : ℕ) (ends bytes : List ℕ) → length (pieces begin ends bytes) ≡ length ends
length-pieces begin [] bytes = refl
length-pieces begin (end ∷ ends) bytes = ap (λ n. suc n) (length-pieces end ends bytes)

pieces-at : (begin : ℕ) (ends bytes : List ℕ) (f : ℕ) → f < length ends → get_or (pieces begin ends bytes) f [] ≡ take (get_or ends f 0 - stream_begin begin ends f) (drop (stream_begin begin ends f) bytes)
pieces-at begin [] bytes f h = absurd (omega arith)
pieces-at begin (end ∷ ends) bytes zero h = refl
pieces-at begin (end ∷ ends) bytes (suc zero) h = pieces-at end ends bytes zero (omega arith)
pieces-at begin (end ∷ ends) bytes (suc (suc f)) h = pieces-at end ends bytes (suc f) (omega arith)

ends-at : (begin most : ℕ) (ends : List ℕ) (f : ℕ) → EndsWithin begin most ends → f < length ends → (stream_begin begin ends f ≤ get_or ends f 0) × (get_or ends f 0 ≤ most)
ends-at begin most [] f within h = absurd (omega arith)
ends-at begin most (end ∷ ends) zero within h = (within.0, ends-most end most ends within.1)
  where
    ends-most : (begin most : ℕ) (ends : List ℕ) → EndsWithin begin most ends → begin ≤ most
    ends-most begin most [] within = within
    ends-most begin most (end ∷ ends) within = let later = ends-most end most ends within.1 in omega (arith, later, within.0)
ends-at begin most (end ∷ ends) (suc zero) within h = ends-at end most ends zero within.1 (omega arith)
ends-at begin most (end ∷ ends) (suc (suc f)) within h = ends-at end most ends (suc f) within.1 (omega arith)

begin-take : (begin n : ℕ) (ends : List ℕ) (f : ℕ) → f < n → stream_begin begin (take n ends) f ≡ stream_begin begin ends f
begin-take begin n ends zero h = refl
begin-take begin n ends (suc f) h = let below : f < n = omega arith in rw get_or-take refl

-- what is known of the stream of a field
pub record HasStream (fields : ℕ) (ends bytes : List ℕ) (held : Option (List (List ℕ))) (f : ℕ) : Type 0 where
  pub index : f < 512
  pub rises : stream_begin (first_stream fields) ends f ≤ get_or ends f 0
  pub within : get_or ends f 0 ≤ 65536
  pub is : IfSome held (λ streams. take (get_or ends f 0 - stream_begin (first_stream fields) ends f) (drop (stream_begin (first_stream fields) ends f) bytes) ≡ get_or streams f [])

pub has_stream : (fields : Option ℕ) (ends bytes : List ℕ) (held : Option (List (List ℕ))) (f : ℕ) → IsBuffer fields ends bytes → held_streams fields ends bytes ≡ held → IsSomeAnd held (λ streams. f < length streams) → HasStream (unwrap_or fields 0) ends bytes held f
has_stream None ends bytes None f buffer is some = absurd some
has_stream None ends bytes (Some streams) f buffer is some = absurd cc
has_stream (Some n) ends bytes None f buffer is some = absurd some
has_stream (Some n) ends bytes (Some streams) f buffer is some =
    let same : pieces (first_stream n) (take n ends) bytes ≡ streams = cc in
    let few = buffer.held.0 in
    let room = buffer.ends_room in
    let taken : length (take n ends) ≡ n = length-take n ends ∙ omega (arith, few, room) in
    let count : length streams ≡ n = sym (ap (λ (s : List (List ℕ)). length s) same) ∙ length-pieces (first_stream n) (take n ends) bytes ∙ taken in
    let below : f < n = omega (arith, some, count) in
    let there : f < length (take n ends) = omega (arith, below, taken) in
    let same_end : get_or (take n ends) f 0 ≡ get_or ends f 0 = rw get_or-take refl in
    let same_begin = begin-take (first_stream n) n ends f below in
    let limits = ends-at (first_stream n) 65536 (take n ends) f buffer.held.1 there in
    record {
      index = omega (arith, below, few);
      rises = omega (arith, limits.0, same_end, same_begin);
      within = omega (arith, limits.1, same_end);
      is = sym (ap (λ (s : List (List ℕ)). get_or s f []) (sym same) ∙ pieces-at (first_stream n) (take n ends) bytes f there ∙ spanned bytes (get_or (take n ends) f 0) (get_or ends f 0) (stream_begin (first_stream n) (take n ends) f) (stream_begin (first_stream n) ends f) same_end same_begin);
    }
  where
    spanned : (bytes : List ℕ) (e e' b b' : ℕ) → e ≡ e' → b ≡ b' → take (e - b) (drop b bytes) ≡ take (e' - b') (drop b' bytes)
    spanned bytes e e' b b' p q = rw (p, q) refl

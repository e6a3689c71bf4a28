-- Laws of a packet's part of streams, stream by stream.
use Rattle.std.proofs.Common.{◌≡◌, ℕ, zero, suc, ◌+◌, ◌-◌, ◌*◌, ◌<◌, ◌≤◌, min, List, [], ◌∷◌, ◌++◌, length, take, drop, get_or, replicate, set, refl, sym, ap, subst, ◌∙◌, arith}
use Rattle.std.specs.List.{concat}
use Rattle.std.proofs.lemmas.List.{drop_more, take_more, length-map, length-take, length-drop, get_or-map, append-nil, append_assoc, take_more_set, map-append}
use Rattle.e57_layout.specs.Packets.{lengths, total, data_size}
use Rattle.e57_layout.specs.Packing.{front, behind, room_for}
use Rattle.e57_layout.proofs.Laws.Layouts.{total-cons, data_size_is, length-concat}
use Rattle.e57_layout.proofs.Laws.Packing.{length-front, length-behind, total-front}
use Rattle.e57_chunk_out.specs.Waiting.{Waiting}
use Rattle.e57_chunk_out.specs.Cutting.{streams_of, cut}

pub length-cut_streams : (room skip : ℕ) (ss : List (List ℕ)) → length (cut room skip ss) ≡ length ss
length-cut_streams room skip ss = length-front room (behind skip ss) ∙ length-behind skip ss

pub cut-cons : (room skip : ℕ) (s : List ℕ) (ss : List (List ℕ)) → cut room skip (s ∷ ss) ≡ take room (drop skip s) ∷ cut (room - length (drop skip s)) (skip - length s) ss
unfolding front behind
cut-cons room skip s ss = refl

-- a packet's part is within it
pub cut-most : (n skip : ℕ) (ss : List (List ℕ)) → length ss ≡ n → n ≤ 512 → data_size (cut (room_for n) skip ss) ≤ 65536
cut-most n skip ss h few =
    let size : data_size (cut (room_for n) skip ss) ≡ 6 + 2 * length (cut (room_for n) skip ss) + total (cut (room_for n) skip ss) = data_size_is (cut (room_for n) skip ss) in
    let count : length (cut (room_for n) skip ss) ≡ length ss = length-cut_streams (room_for n) skip ss in
    let within : total (front (room_for n) (behind skip ss)) ≡ min (room_for n) (total (behind skip ss)) = total-front (room_for n) (behind skip ss) in
    omega arith

-- how far a packet's part is gone through: the first k streams
pub record IsAt (whole ss : List (List ℕ)) (k room skip : ℕ) : Type 0 where
  pub rest : drop k whole ≡ cut room skip (drop k ss)
  pub count : length whole ≡ length ss

-- the next stream's part
pub record NextPart (whole ss : List (List ℕ)) (k room skip : ℕ) : Type 0 where
  pub part : get_or whole k [] ≡ take room (drop skip (get_or ss k []))
  pub size : length (get_or whole k []) ≡ min room (length (get_or ss k []) - skip)
  pub later : IsAt whole ss (k + 1) (room - length (get_or whole k [])) (skip - length (get_or ss k []))

pub at_first : (room skip : ℕ) (ss : List (List ℕ)) → IsAt (cut room skip ss) ss 0 room skip
at_first room skip ss = record { rest = refl; count = length-cut_streams room skip ss }

pub next_part : (whole ss : List (List ℕ)) (k room skip : ℕ) → IsAt whole ss k room skip → k < length ss → NextPart whole ss k room skip
next_part whole ss k room skip here h =
    let s : List ℕ = get_or ss k [] in
    let there : k < length whole = omega (arith, here.count) in
    let same : (get_or whole k [] ∷ drop (k + 1) whole) ≡ (take room (drop skip s) ∷ cut (room - length (drop skip s)) (skip - length s) (drop (k + 1) ss)) =
    sym (drop_more whole k [] there) ∙ here.rest ∙ ap (cut room skip) (drop_more ss k [] h) ∙ cut-cons room skip s (drop (k + 1) ss) in
    let part : get_or whole k [] ≡ take room (drop skip s) = ap (λ (xs : List (List ℕ)). get_or xs 0 []) same in
    let size : length (get_or whole k []) ≡ min room (length s - skip) = ap (λ (xs : List ℕ). length xs) part ∙ length-take room (drop skip s) ∙ ap (min room) (length-drop skip s) in
    let less : room - length (get_or whole k []) ≡ room - length (drop skip s) = omega (arith, length-drop skip s) in
    record {
      part = part;
      size = size;
      later = record {
        rest = ap (drop 1) same ∙ ap (λ r. cut r (skip - length s) (drop (k + 1) ss)) (sym less);
        count = here.count;
      };
    }

-- sizes of the first k parts
pub total-more : (whole : List (List ℕ)) (k : ℕ) → k < length whole → total (take (k + 1) whole) ≡ total (take k whole) + length (get_or whole k [])
total-more [] k h = absurd (omega arith)
total-more (s ∷ whole) zero h = total-cons s [] ∙ omega arith
total-more (s ∷ whole) (suc k) h =
    let one = total-cons s (take (k + 1) whole) in
    let other = total-cons s (take k whole) in
    let rest = total-more whole k (omega arith) in
    ap (λ n. total (take n (s ∷ whole))) (turn k) ∙ omega arith
  where
    turn : (k : ℕ) → suc k + 1 ≡ suc (k + 1)
    turn k = omega arith

pub total-take : (whole : List (List ℕ)) (k : ℕ) → total (take k whole) ≤ total whole
total-take whole zero = omega arith
total-take [] (suc k) = omega arith
total-take (s ∷ whole) (suc k) =
    let one = total-cons s (take k whole) in
    let other = total-cons s whole in
    let rest = total-take whole k in
    omega arith

pub few_zeros : (m : ℕ) → m ≤ 3 → take {A = ℕ} m (0 ∷ 0 ∷ 0 ∷ []) ≡ replicate m 0
few_zeros zero h = refl
few_zeros (suc zero) h = refl
few_zeros (suc (suc zero)) h = refl
few_zeros (suc (suc (suc zero))) h = refl
few_zeros (suc (suc (suc (suc m)))) h = absurd (omega arith)

pub concat-more : (whole : List (List ℕ)) (k : ℕ) → k < length whole → concat (take (k + 1) whole) ≡ concat (take k whole) ++ get_or whole k []
concat-more [] k h = absurd (omega arith)
concat-more (s ∷ whole) zero h = append-nil s
concat-more (s ∷ whole) (suc k) h =
    ap (λ n. concat (take n (s ∷ whole))) (turn k) ∙ ap (λ (later : List ℕ). s ++ later) (concat-more whole k (omega arith)) ∙ sym (append_assoc s (concat (take k whole)) (get_or whole k []))
  where
    turn : (k : ℕ) → suc k + 1 ≡ suc (k + 1)
    turn k = omega arith

pub lengths-more : (whole : List (List ℕ)) (ns : List ℕ) (k n : ℕ) → k < length whole → k < length ns → take k ns ≡ lengths (take k whole) → n ≡ length (get_or whole k []) → take (k + 1) (set ns k n) ≡ lengths (take (k + 1) whole)
lengths-more whole ns k n h g same is =
    take_more_set ns k n g
    ∙ ap (λ (ms : List ℕ). ms ++ n ∷ []) same
    ∙ ap (λ m. lengths (take k whole) ++ m ∷ []) is
    ∙ sym (map-append (λ (s : List ℕ). length s) (take k whole) (get_or whole k [] ∷ []))
    ∙ ap lengths (sym (take_more whole k [] h))

-- the first k parts and the next one are within all
pub parts-within : (whole : List (List ℕ)) (k : ℕ) → k < length whole → length (concat (take k whole)) + length (get_or whole k []) ≤ length (concat whole)
parts-within whole k h =
    let front : length (concat (take k whole)) ≡ total (take k whole) = length-concat (take k whole) in
    let all : length (concat whole) ≡ total whole = length-concat whole in
    let next = total-more whole k h in
    let most = total-take whole (k + 1) in
    omega arith

-- ---- a stream of a field

pub stream-at : (fields : List Waiting) (k : ℕ) (w : Waiting) (s : List ℕ) → k < length fields → w ≡ get_or fields k w → s ≡ w.stream → s ≡ get_or (streams_of fields) k []
stream-at fields k w s h is e = e ∙ ap (λ (x : Waiting). x.stream) is ∙ sym (get_or-map (λ (x : Waiting). x.stream) fields k w [] h)

pub length-streams : (fields : List Waiting) → length (streams_of fields) ≡ length fields
length-streams fields = length-map fields (λ (x : Waiting). x.stream)

-- the next part of a stream, as it is computed
pub record IsNext (whole ss : List (List ℕ)) (k room skip : ℕ) (part : List ℕ) (left : ℕ) : Type 0 where
  pub is : part ≡ get_or whole k []
  pub there : k < length whole
  pub later : IsAt whole ss (k + 1) (room - length part) left

pub next_of : (fields : List Waiting) (whole : List (List ℕ)) (k room skip : ℕ) (w : Waiting) (s part : List ℕ) (left : ℕ) → IsAt whole (streams_of fields) k room skip → k < length fields → w ≡ get_or fields k w → s ≡ w.stream
    → part ≡ take room (drop skip s) → left ≡ skip - length s → IsNext whole (streams_of fields) k room skip part left
next_of fields whole k room skip w s part left here h at e cut_is left_is =
    let stream : s ≡ get_or (streams_of fields) k [] = stream-at fields k w s h at e in
    let count : length (streams_of fields) ≡ length fields = length-streams fields in
    let next = next_part whole (streams_of fields) k room skip here (omega arith) in
    let is : part ≡ get_or whole k [] = cut_is ∙ ap (λ (xs : List ℕ). take room (drop skip xs)) stream ∙ sym next.part in
    let rest : skip - length (get_or (streams_of fields) k []) ≡ left = ap (λ (xs : List ℕ). skip - length xs) (sym stream) ∙ sym left_is in
    record {
      is = is;
      there = omega (arith, here.count, count);
      later = subst (λ (xs : List ℕ). IsAt whole (streams_of fields) (k + 1) (room - length xs) left) (sym is) (subst (λ l. IsAt whole (streams_of fields) (k + 1) (room - length (get_or whole k [])) l) rest next.later);
    }

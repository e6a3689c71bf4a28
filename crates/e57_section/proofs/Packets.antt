-- The first fault of a packet, and its streams, from the steps of its reading.
use Rattle.std.specs.Prelude.{◌≡◌, ℕ, zero, suc, ◌+◌, ◌-◌, ◌*◌, ◌<◌, ◌≤◌, ◌==◌, ◌||◌, not, nat_lt, Bool, true, false, if◌then◌else◌, List, [], ◌∷◌, length, take, drop, sum, Option, Some, None, is_none, ◌&&◌}
use Rattle.std.proofs.Common.{refl, sym, subst, ap, ◌∙◌, arith, ⊎_elim}
use Rattle.std.proofs.lemmas.Bool.{lt-ltb, le-ltb, eq-eqb, ne_eqb, eqb-true, ltb-false, or_parts, not-false, cases_lt}
use Rattle.std.proofs.lemmas.List.{take-take, drop-take, drop-drop, length-take}
use Rattle.std.proofs.lemmas.List.Sums.{sum_by-cons}
use Rattle.e57_base.specs.declared.fault.Fault.{Fault}
use Rattle.e57_page.specs.File.{logical}
use Rattle.e57_layout.specs.declared.section.Section.{Section}
use Rattle.e57_layout.specs.Packets.{sort_at, length_at, stream_count_at, lengths_at, streams_at, streams_of, total, data_size}
use Rattle.e57_layout.proofs.Laws.Layouts.{total-cons, data_size_is}
use Rattle.e57_packet.specs.Reading.{is_misshapen, stream_ends}
use Rattle.e57_cloud.specs.Walk.{packet_head_fault, is_misshapen_data, packet_fault}
use Rattle.e57_cloud.specs.Met.{needed_at}
use Rattle.e57_section.specs.Steps.{data_fault}
use Rattle.e57_section.specs.Streams.{pieces, EndsWithin}
use Rattle.e57_section.proofs.Moved.{count-piece, lengths-piece}

-- ---- the first fault

pub fault_head : (file : List ℕ) (s : Section) (q : ℕ) (found : Fault) → packet_head_fault file s q ≡ Some found → packet_fault file s q ≡ Some found
unfolding packet_fault
fault_head file s q found e = rw e refl

pub fault_other : (file : List ℕ) (s : Section) (q : ℕ) → packet_head_fault file s q ≡ None → (sort_at (logical file) q ≡ 1 → ⊥) → packet_fault file s q ≡ None
unfolding packet_fault
fault_other file s q e ne = let other = ne_eqb (sort_at (logical file) q) 1 ne in rw (e, other) refl

-- the shape of a piece of a packet's length is that of the packet
shape_is : (b : List ℕ) (q n fields : ℕ) → n ≡ length_at b q → length (take n (drop q b)) ≡ n → is_misshapen (take n (drop q b)) fields ≡ is_misshapen_data b fields q
unfolding is_misshapen is_misshapen_data
shape_is b q n fields e long =
    ⊎_elim
    (λ (small : n < 6). let short = lt-ltb n 6 small in rw (long, ← e, short) refl)
    (λ (six : 6 ≤ n).
    let enough = le-ltb n 6 six in
    let count = count-piece b q n six in
    counted (stream_count_at b q == fields) refl enough count six)
    (cases_lt n 6)
  where
    counted : (same : Bool) → (stream_count_at b q == fields) ≡ same → nat_lt n 6 ≡ false → stream_count_at (take n (drop q b)) 0 ≡ stream_count_at b q → 6 ≤ n
        → (nat_lt (length (take n (drop q b))) 6 || (not (stream_count_at (take n (drop q b)) 0 == fields) || nat_lt (length (take n (drop q b))) (6 + 2 * fields + sum (lengths_at (take n (drop q b)) 6 fields))))
        ≡ (nat_lt (length_at b q) 6 || (not (stream_count_at b q == fields) || nat_lt (length_at b q) (6 + 2 * stream_count_at b q + sum (lengths_at b (q + 6) (stream_count_at b q)))))
    counted false is enough count six = rw (long, ← e, enough, count, is) refl
    counted true is enough count six =
        let all : stream_count_at b q ≡ fields = eqb-true (stream_count_at b q) fields is in
        ⊎_elim
        (λ (cut : n < 6 + 2 * fields).
        let one = lt-ltb n (6 + 2 * fields + sum (lengths_at (take n (drop q b)) 6 fields)) (omega (arith, cut)) in
        let two = lt-ltb n (6 + 2 * fields + sum (lengths_at b (q + 6) fields)) (omega (arith, cut)) in
        let yes = eq-eqb fields fields refl in
        rw (long, ← e, enough, count, all, yes, one, two) refl)
        (λ (there : 6 + 2 * fields ≤ n).
        let same = lengths-piece b q n 6 (q + 6) fields refl there in
        rw (long, ← e, enough, count, all, same) refl)
        (cases_lt n (6 + 2 * fields))

-- of a data packet
pub fault_data : (file : List ℕ) (s : Section) (q n : ℕ) (outcome : Option Fault) → packet_head_fault file s q ≡ None → sort_at (logical file) q ≡ 1 → n ≡ length_at (logical file) q → length (take n (drop q (logical file))) ≡ n → data_fault file s.node q n s.fields ≡ outcome → packet_fault file s q ≡ outcome
unfolding packet_fault
fault_data file s q n outcome e one same long judged =
    let yes = eq-eqb (sort_at (logical file) q) 1 one in
    let shape = shape_is (logical file) q n s.fields same long in
    rw (e, yes, ← same, ← shape) judged

-- ---- how many bytes are needed

pub needed_other : (file : List ℕ) (s : Section) (q : ℕ) → (sort_at (logical file) q ≡ 1 → ⊥) → needed_at file s q ≡ 4
unfolding needed_at
needed_other file s q ne = let other = ne_eqb (sort_at (logical file) q) 1 ne in both (packet_head_fault file s q) other
  where
    both : (found : Option Fault) → (sort_at (logical file) q == 1) ≡ false → (if is_none found && (sort_at (logical file) q == 1) then length_at (logical file) q else 4) ≡ 4
    both None other = rw other refl
    both (Some x) other = refl

pub needed_data : (file : List ℕ) (s : Section) (q : ℕ) → packet_head_fault file s q ≡ None → sort_at (logical file) q ≡ 1 → needed_at file s q ≡ length_at (logical file) q
unfolding needed_at
needed_data file s q e one = let yes = eq-eqb (sort_at (logical file) q) 1 one in rw (e, yes) refl

pub needed_head : (file : List ℕ) (s : Section) (q : ℕ) (found : Fault) → packet_head_fault file s q ≡ Some found → needed_at file s q ≡ 4
unfolding needed_at
needed_head file s q found e = rw e refl

-- ---- the streams

pub sound_shape : (bytes : List ℕ) (fields : ℕ) → is_misshapen bytes fields ≡ false → (stream_count_at bytes 0 ≡ fields) × (6 + 2 * fields + sum (lengths_at bytes 6 fields) ≤ length bytes)
unfolding is_misshapen
sound_shape bytes fields e =
    let first = or_parts (nat_lt (length bytes) 6) _ e in
    let second = or_parts (not (stream_count_at bytes 0 == fields)) _ first.1 in
    (eqb-true (stream_count_at bytes 0) fields (not-false (stream_count_at bytes 0 == fields) second.0), ltb-false (length bytes) (6 + 2 * fields + sum (lengths_at bytes 6 fields)) second.1)

pub ends_within : (begin most : ℕ) (ns : List ℕ) → begin + sum ns ≤ most → EndsWithin begin most (stream_ends begin ns)
ends_within begin most [] h = omega arith
ends_within begin most (n ∷ ns) h =
    let split : sum (n ∷ ns) ≡ n + sum ns = sum_by-cons (λ x. x) n ns in
    (omega arith, ends_within (begin + n) most ns (omega (arith, h, split)))

pub pieces_are : (begin : ℕ) (ns bytes : List ℕ) → pieces begin (stream_ends begin ns) bytes ≡ streams_at bytes begin ns
unfolding streams_at
pieces_are begin [] bytes = refl
pieces_are begin (n ∷ ns) bytes =
    let here : begin + n - begin ≡ n = omega arith in
    rw (here, pieces_are (begin + n) ns bytes) refl

-- a piece within the first n bytes is a piece of those
piece_take : (xs : List ℕ) (k m n : ℕ) → k + m ≤ n → take m (drop k (take n xs)) ≡ take m (drop k xs)
piece_take xs k m n h =
    let split : n ≡ k + (n - k) = omega arith in
    subst (λ (j : ℕ). take m (drop k (take j xs)) ≡ take m (drop k xs)) (sym split) (ap (λ (l : List ℕ). take m l) (drop-take k (n - k) xs) ∙ take-take m (n - k) (drop k xs) (omega arith))

pub streams_take : (xs : List ℕ) (n begin : ℕ) (ns : List ℕ) → begin + sum ns ≤ n → streams_at (take n xs) begin ns ≡ streams_at xs begin ns
unfolding streams_at
streams_take xs n begin [] h = refl
streams_take xs n begin (m ∷ ns) h =
    let split : sum (m ∷ ns) ≡ m + sum ns = sum_by-cons (λ x. x) m ns in
    let first : take m (drop begin (take n xs)) ≡ take m (drop begin xs) = piece_take xs begin m n (omega (arith, h, split)) in
    rw (first, streams_take xs n (begin + m) ns (omega (arith, h, split))) refl

streams_drop : (b : List ℕ) (q begin : ℕ) (ns : List ℕ) → streams_at (drop q b) begin ns ≡ streams_at b (q + begin) ns
unfolding streams_at
streams_drop b q begin [] = refl
streams_drop b q begin (m ∷ ns) =
    let place : q + (begin + m) ≡ q + begin + m = omega arith in
    rw (drop-drop, streams_drop b q (begin + m) ns, place) refl

-- the streams of a packet that stands at place q
pub streams_piece : (b : List ℕ) (q n fields : ℕ) → is_misshapen (take n (drop q b)) fields ≡ false → length (take n (drop q b)) ≡ n → streams_at (take n (drop q b)) (6 + 2 * fields) (lengths_at (take n (drop q b)) 6 fields) ≡ streams_of b q
unfolding streams_of
streams_piece b q n fields sound long =
    let parts = sound_shape (take n (drop q b)) fields sound in
    let within = rw long at parts.1 in
    let six : 6 ≤ n = omega (arith, within) in
    let count : stream_count_at b q ≡ fields = sym (count-piece b q n six) ∙ parts.0 in
    let same = lengths-piece b q n 6 (q + 6) fields refl (omega (arith, within)) in
    let place : q + (6 + 2 * fields) ≡ q + 6 + 2 * fields = omega arith in
    streams_take (drop q b) n (6 + 2 * fields) (lengths_at (take n (drop q b)) 6 fields) within
    ∙ streams_drop b q (6 + 2 * fields) (lengths_at (take n (drop q b)) 6 fields)
    ∙ rw (same, count, place) refl

-- how many there are, and how many bytes they have
pub count_streams : (b : List ℕ) (begin : ℕ) (ns : List ℕ) → length (streams_at b begin ns) ≡ length ns
unfolding streams_at
count_streams b begin [] = refl
count_streams b begin (n ∷ ns) = ap (λ m. suc m) (count_streams b (begin + n) ns)

pub count_lengths : (b : List ℕ) (q k : ℕ) → length (lengths_at b q k) ≡ k
unfolding lengths_at
count_lengths b q zero = refl
count_lengths b q (suc k) = ap (λ m. suc m) (count_lengths b (q + 2) k)

total_streams : (b : List ℕ) (begin : ℕ) (ns : List ℕ) → total (streams_at b begin ns) ≤ sum ns
unfolding streams_at
total_streams b begin [] = omega arith
total_streams b begin (n ∷ ns) =
    let split : sum (n ∷ ns) ≡ n + sum ns = sum_by-cons (λ x. x) n ns in
    let more = total-cons (take n (drop begin b)) (streams_at b (begin + n) ns) in
    let rest = total_streams b (begin + n) ns in
    let first : length (take n (drop begin b)) ≤ n = rw length-take (omega arith) in
    omega (arith, split, more, rest, first)

pub size_streams : (b : List ℕ) (fields : ℕ) (ns : List ℕ) → length ns ≡ fields → data_size (streams_at b (6 + 2 * fields) ns) ≤ 6 + 2 * fields + sum ns
size_streams b fields ns long =
    let size = data_size_is (streams_at b (6 + 2 * fields) ns) in
    let count = count_streams b (6 + 2 * fields) ns in
    let sum_of = total_streams b (6 + 2 * fields) ns in
    omega (arith, size, count, sum_of, long)

-- Laws of how groups are put into packets: nothing is lost or turned round, each packet has a stream for each field, and
-- each is within a packet's limit.
use Rattle.std.proofs.Common.{◌≡◌, ℕ, zero, suc, ◌+◌, ◌-◌, ◌*◌, ◌<◌, ◌≤◌, ◌==◌, min, Bool, true, false, cond, List, [], ◌∷◌, ◌++◌, length, take, drop, get_or, Option, Some, None, refl, sym, ap, ◌∙◌, arith, length-append, length-take, length-drop, append_assoc, append-nil}
use Rattle.std.specs.List.{AllByRecursion}
use Rattle.std.proofs.lemmas.Bool.{leb-true, leb-false, eqb-true, cond_both}
use Rattle.std.proofs.lemmas.List.{take-append-drop}
use Rattle.std.proofs.lemmas.List.Concat.{flat_map-append}
use Rattle.e57_layout.specs.Packets.{total, data_size}
use Rattle.e57_layout.specs.Packing.{join_streams, stream_over, fits_packet, room_for, front, behind, pour, poured, flushed, packets_of}
use Rattle.e57_layout.proofs.Laws.Lists.{all-append}
use Rattle.e57_layout.proofs.Laws.Layouts.{total-cons, data_size_is}

-- n streams that are within one packet
pub record IsPacket (n : ℕ) (streams : List (List ℕ)) : Type 0 where
  pub count : length streams ≡ n
  pub fits : data_size streams ≤ 65536

-- a stream for each of n fields
abbrev pub HasStreams : ℕ → List (List ℕ) → Type 0
HasStreams n streams = length streams ≡ n

-- ---- streams after streams

pub length-join_streams : (n : ℕ) (a b : List (List ℕ)) → HasStreams n a → HasStreams n b → HasStreams n (join_streams a b)
unfolding join_streams
length-join_streams n [] b h g = g
length-join_streams zero (s ∷ a) b h g = absurd (omega arith)
length-join_streams (suc n) (s ∷ a) [] h g = h
length-join_streams (suc n) (s ∷ a) (t ∷ b) h g =
    let both : length (join_streams a b) ≡ n = length-join_streams n a b (omega arith) (omega arith) in
    omega arith

pub join_streams-stream : (a b : List (List ℕ)) (f : ℕ) → length a ≡ length b → get_or (join_streams a b) f [] ≡ get_or a f [] ++ get_or b f []
unfolding join_streams
join_streams-stream [] [] f h = refl
join_streams-stream [] (t ∷ b) f h = absurd (omega arith)
join_streams-stream (s ∷ a) [] f h = absurd (omega arith)
join_streams-stream (s ∷ a) (t ∷ b) zero h = refl
join_streams-stream (s ∷ a) (t ∷ b) (suc f) h = join_streams-stream a b f (omega arith)

-- ---- a group that is poured

pub length-front : (room : ℕ) (ss : List (List ℕ)) → length (front room ss) ≡ length ss
unfolding front
length-front room [] = refl
length-front room (s ∷ ss) = ap suc (length-front (room - length s) ss)

pub length-behind : (room : ℕ) (ss : List (List ℕ)) → length (behind room ss) ≡ length ss
unfolding behind
length-behind room [] = refl
length-behind room (s ∷ ss) = ap suc (length-behind (room - length s) ss)

pub total-front : (room : ℕ) (ss : List (List ℕ)) → total (front room ss) ≡ min room (total ss)
unfolding front
total-front room [] = omega arith
total-front room (s ∷ ss) =
    let rest : total (front (room - length s) ss) ≡ min (room - length s) (total ss) = total-front (room - length s) ss in
    let first : length (take room s) ≡ min room (length s) = length-take room s in
    let whole : total (s ∷ ss) ≡ length s + total ss = total-cons s ss in
    let cut : total (take room s ∷ front (room - length s) ss) ≡ length (take room s) + total (front (room - length s) ss) = total-cons (take room s) (front (room - length s) ss) in
    omega arith

pub total-behind : (room : ℕ) (ss : List (List ℕ)) → total (behind room ss) ≡ total ss - room
unfolding behind
total-behind room [] = omega arith
total-behind room (s ∷ ss) =
    let rest : total (behind (room - length s) ss) ≡ total ss - (room - length s) = total-behind (room - length s) ss in
    let first : length (drop room s) ≡ length s - room = length-drop room s in
    let whole : total (s ∷ ss) ≡ length s + total ss = total-cons s ss in
    let cut : total (drop room s ∷ behind (room - length s) ss) ≡ length (drop room s) + total (behind (room - length s) ss) = total-cons (drop room s) (behind (room - length s) ss) in
    omega arith

pub front-behind : (room : ℕ) (ss : List (List ℕ)) (f : ℕ) → get_or (front room ss) f [] ++ get_or (behind room ss) f [] ≡ get_or ss f []
unfolding front behind
front-behind room [] f = refl
front-behind room (s ∷ ss) zero = take-append-drop room s
front-behind room (s ∷ ss) (suc f) = front-behind (room - length s) ss f

-- streams of no bytes
total-none : (ss : List (List ℕ)) (f : ℕ) → total ss ≡ 0 → get_or ss f [] ≡ []
total-none [] f h = refl
total-none ([] ∷ ss) zero h = refl
total-none ((b ∷ s) ∷ ss) zero h = let e : total ((b ∷ s) ∷ ss) ≡ length (b ∷ s) + total ss = total-cons (b ∷ s) ss in absurd (omega arith)
total-none (s ∷ ss) (suc f) h = let e : total (s ∷ ss) ≡ length s + total ss = total-cons s ss in total-none ss f (omega arith)

pub pour-stream : (most room : ℕ) (ss : List (List ℕ)) (f : ℕ) → total ss ≤ most → 0 < room → stream_over f (pour most room ss) ≡ get_or ss f []
unfolding pour
pour-stream zero room ss f h g = sym (total-none ss f (omega arith))
pour-stream (suc most) room ss f h g =
    cond_both (total ss == 0) [] (front room ss ∷ pour most room (behind room ss)) (λ (parts : List (List (List ℕ))). stream_over f parts ≡ get_or ss f [])
    (λ none. sym (total-none ss f (eqb-true (total ss) 0 none)))
    (λ some.
    let left : total (behind room ss) ≡ total ss - room = total-behind room ss in
    let fewer : total (behind room ss) ≤ most = omega arith in
    ap (λ later. get_or (front room ss) f [] ++ later) (pour-stream most room (behind room ss) f fewer g) ∙ front-behind room ss f)

-- stream f of the packets is stream f of the group
pub poured-stream : (ss : List (List ℕ)) (f : ℕ) → length ss ≤ 512 → stream_over f (poured ss) ≡ get_or ss f []
unfolding poured
poured-stream ss f h = pour-stream (total ss) (room_for (length ss)) ss f (omega arith) (omega arith)

pour-packets : (n most : ℕ) (ss : List (List ℕ)) → length ss ≡ n → n ≤ 512 → AllByRecursion (IsPacket n) (pour most (room_for n) ss)
unfolding pour
pour-packets n zero ss h few = tt
pour-packets n (suc most) ss h few =
    cond_both (total ss == 0) [] (front (room_for n) ss ∷ pour most (room_for n) (behind (room_for n) ss)) (AllByRecursion (IsPacket n))
    (λ none. tt)
    (λ some.
    let count : length (front (room_for n) ss) ≡ length ss = length-front (room_for n) ss in
    let later : length (behind (room_for n) ss) ≡ length ss = length-behind (room_for n) ss in
    let size : data_size (front (room_for n) ss) ≡ 6 + 2 * length (front (room_for n) ss) + total (front (room_for n) ss) = data_size_is (front (room_for n) ss) in
    let within : total (front (room_for n) ss) ≡ min (room_for n) (total ss) = total-front (room_for n) ss in
    (record { count = omega arith; fits = omega arith }, pour-packets n most (behind (room_for n) ss) (omega arith) few))

pub poured-packets : (n : ℕ) (ss : List (List ℕ)) → HasStreams n ss → n ≤ 512 → AllByRecursion (IsPacket n) (poured ss)
unfolding poured
poured-packets n ss h few = rw h (pour-packets n (total ss) ss h few)

pour-some : (most room : ℕ) (ss : List (List ℕ)) → 0 < most → 0 < total ss → 0 < length (pour most room ss)
unfolding pour
pour-some zero room ss h g = absurd (omega arith)
pour-some (suc most) room ss h g =
    cond_both (total ss == 0) [] (front room ss ∷ pour most room (behind room ss)) (λ (parts : List (List (List ℕ))). 0 < length parts)
    (λ none. let e : total ss ≡ 0 = eqb-true (total ss) 0 none in absurd (omega arith))
    (λ some. omega arith)

fits-true : (ss : List (List ℕ)) → fits_packet ss ≡ true → data_size ss ≤ 65536
unfolding fits_packet
fits-true ss h = leb-true (data_size ss) 65536 h

fits-false : (ss : List (List ℕ)) → fits_packet ss ≡ false → 65536 < data_size ss
unfolding fits_packet
fits-false ss h = leb-false (data_size ss) 65536 h

-- a group that doesn't fit has bytes, so something is poured
pub poured-some : (n : ℕ) (ss : List (List ℕ)) → HasStreams n ss → n ≤ 512 → fits_packet ss ≡ false → 0 < length (poured ss)
unfolding poured
poured-some n ss h few large =
    let size : data_size ss ≡ 6 + 2 * length ss + total ss = data_size_is ss in
    let over : 65536 < data_size ss = fits-false ss large in
    pour-some (total ss) (room_for (length ss)) ss (omega arith) (omega arith)

-- ---- packets of groups

-- what is under way is a packet
abbrev pub IsRun : ℕ → Option (List (List ℕ)) → Type 0
IsRun n run = AllByRecursion (IsPacket n) (flushed run)

pub fits-run : (n : ℕ) (group : List (List ℕ)) → HasStreams n group → fits_packet group ≡ true → IsRun n (Some group)
fits-run n group h within = (record { count = h; fits = fits-true group within }, tt)

-- the three ways on
pub packets_of-nil : (run : Option (List (List ℕ))) → packets_of run [] ≡ flushed run
unfolding packets_of
packets_of-nil run = refl

pub packets_of-begun : (group : List (List ℕ)) (groups : List (List (List ℕ))) → packets_of None (group ∷ groups) ≡ cond (fits_packet group) (packets_of (Some group) groups) (poured group ++ packets_of None groups)
unfolding packets_of
packets_of-begun group groups = refl

pub packets_of-joined : (run group : List (List ℕ)) (groups : List (List (List ℕ))) → packets_of (Some run) (group ∷ groups) ≡ cond (fits_packet (join_streams run group)) (packets_of (Some (join_streams run group)) groups) (run ∷ packets_of None (group ∷ groups))
unfolding packets_of
packets_of-joined run group groups =
    ap (cond (fits_packet (join_streams run group)) (packets_of (Some (join_streams run group)) groups)) (moved (fits_packet group))
  where
    moved : (b : Bool) → cond b (run ∷ packets_of (Some group) groups) (run ∷ (poured group ++ packets_of None groups)) ≡ run ∷ cond b (packets_of (Some group) groups) (poured group ++ packets_of None groups)
    moved true = refl
    moved false = refl

-- stream f of the packets is that of the run under way, and then of the groups
begun-stream : (n f : ℕ) (group : List (List ℕ)) (groups : List (List (List ℕ))) → n ≤ 512 → HasStreams n group → ((run : Option (List (List ℕ))) → IsRun n run → stream_over f (packets_of run groups) ≡ stream_over f (flushed run) ++ stream_over f groups) → stream_over f (packets_of None (group ∷ groups)) ≡ get_or group f [] ++ stream_over f groups
begun-stream n f group groups few h later =
    rw packets_of-begun
    (cond_both (fits_packet group) (packets_of (Some group) groups) (poured group ++ packets_of None groups) (λ (parts : List (List (List ℕ))). stream_over f parts ≡ get_or group f [] ++ stream_over f groups)
    (λ within. later (Some group) (fits-run n group h within) ∙ ap (λ xs. xs ++ stream_over f groups) (append-nil (get_or group f [])))
    (λ large.
    let first : stream_over f (poured group) ≡ get_or group f [] = poured-stream group f (rw h few) in
    flat_map-append (λ (streams : List (List ℕ)). get_or streams f []) (poured group) (packets_of None groups) ∙ ap (λ xs. xs ++ stream_over f (packets_of None groups)) first ∙ ap (λ xs. get_or group f [] ++ xs) (later None tt)))

pub packets_of-stream : (n f : ℕ) (run : Option (List (List ℕ))) (groups : List (List (List ℕ))) → n ≤ 512 → IsRun n run → AllByRecursion (HasStreams n) groups → stream_over f (packets_of run groups) ≡ stream_over f (flushed run) ++ stream_over f groups
packets_of-stream n f run [] few r h = rw packets_of-nil (sym (append-nil (stream_over f (flushed run))))
packets_of-stream n f None (group ∷ groups) few r h =
    begun-stream n f group groups few h.0 (λ run r. packets_of-stream n f run groups few r h.1)
packets_of-stream n f (Some run) (group ∷ groups) few r h =
    let joint : get_or (join_streams run group) f [] ≡ get_or run f [] ++ get_or group f [] = join_streams-stream run group f (r.0.count ∙ sym h.0) in
    rw packets_of-joined
    (cond_both (fits_packet (join_streams run group)) (packets_of (Some (join_streams run group)) groups) (run ∷ packets_of None (group ∷ groups))
    (λ (parts : List (List (List ℕ))). stream_over f parts ≡ (get_or run f [] ++ []) ++ (get_or group f [] ++ stream_over f groups))
    (λ within. packets_of-stream n f (Some (join_streams run group)) groups few (fits-run n (join_streams run group) (length-join_streams n run group r.0.count h.0) within) h.1
    ∙ ap (λ xs. (xs ++ []) ++ stream_over f groups) joint
    ∙ regroup (get_or run f []) (get_or group f []) (stream_over f groups))
    (λ over. ap (λ xs. get_or run f [] ++ xs) (begun-stream n f group groups few h.0 (λ run r. packets_of-stream n f run groups few r h.1))
    ∙ ap (λ xs. xs ++ (get_or group f [] ++ stream_over f groups)) (sym (append-nil (get_or run f [])))))
  where
    regroup : (a b c : List ℕ) → ((a ++ b) ++ []) ++ c ≡ (a ++ []) ++ (b ++ c)
    regroup a b c = simp (append_assoc, append-nil)

-- each packet has a stream for each field, and is within a packet's limit
begun-packets : (n : ℕ) (group : List (List ℕ)) (groups : List (List (List ℕ))) → n ≤ 512 → HasStreams n group → ((run : Option (List (List ℕ))) → IsRun n run → AllByRecursion (IsPacket n) (packets_of run groups)) → AllByRecursion (IsPacket n) (packets_of None (group ∷ groups))
begun-packets n group groups few h later =
    rw packets_of-begun
    (cond_both (fits_packet group) (packets_of (Some group) groups) (poured group ++ packets_of None groups) (AllByRecursion (IsPacket n))
    (λ within. later (Some group) (fits-run n group h within))
    (λ large. all-append (IsPacket n) (poured group) (packets_of None groups) (poured-packets n group h few) (later None tt)))

pub packets_of-packets : (n : ℕ) (run : Option (List (List ℕ))) (groups : List (List (List ℕ))) → n ≤ 512 → IsRun n run → AllByRecursion (HasStreams n) groups → AllByRecursion (IsPacket n) (packets_of run groups)
packets_of-packets n run [] few r h = rw packets_of-nil r
packets_of-packets n None (group ∷ groups) few r h =
    begun-packets n group groups few h.0 (λ run r. packets_of-packets n run groups few r h.1)
packets_of-packets n (Some run) (group ∷ groups) few r h =
    rw packets_of-joined
    (cond_both (fits_packet (join_streams run group)) (packets_of (Some (join_streams run group)) groups) (run ∷ packets_of None (group ∷ groups)) (AllByRecursion (IsPacket n))
    (λ within. packets_of-packets n (Some (join_streams run group)) groups few (fits-run n (join_streams run group) (length-join_streams n run group r.0.count h.0) within) h.1)
    (λ over. (r.0, begun-packets n group groups few h.0 (λ run r. packets_of-packets n run groups few r h.1))))

-- a run under way is a packet, or begins one
pub packets_of-run_some : (run : List (List ℕ)) (groups : List (List (List ℕ))) → 0 < length (packets_of (Some run) groups)
packets_of-run_some run [] = rw packets_of-nil (omega arith)
packets_of-run_some run (group ∷ groups) =
    rw packets_of-joined
    (cond_both (fits_packet (join_streams run group)) (packets_of (Some (join_streams run group)) groups) (run ∷ packets_of None (group ∷ groups)) (λ (parts : List (List (List ℕ))). 0 < length parts)
    (λ within. packets_of-run_some (join_streams run group) groups)
    (λ over. omega arith))

-- some group, some packet
pub packets_of-some : (n : ℕ) (group : List (List ℕ)) (groups : List (List (List ℕ))) → n ≤ 512 → HasStreams n group → 0 < length (packets_of None (group ∷ groups))
packets_of-some n group groups few h =
    rw packets_of-begun
    (cond_both (fits_packet group) (packets_of (Some group) groups) (poured group ++ packets_of None groups) (λ (parts : List (List (List ℕ))). 0 < length parts)
    (λ within. packets_of-run_some group groups)
    (λ large.
    let some : 0 < length (poured group) = poured-some n group h few large in
    rw length-append (omega arith)))

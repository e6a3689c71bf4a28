-- Laws of a group that is larger than a packet, put packet by packet.
use Rattle.std.proofs.Common.{◌≡◌, ℕ, ◌+◌, ◌<◌, ◌≤◌, Bool, true, false, List, [], ◌∷◌, ◌++◌, length, refl, sym, ap, subst, ◌∙◌, arith}
use Rattle.std.proofs.lemmas.Bool.{leb-true}
use Rattle.std.proofs.lemmas.List.{append_assoc, append-nil, length-append}
use Rattle.e57_base.specs.Target.{TargetView}
use Rattle.e57_base.specs.declared.fault.PutFault.{PutFault}
use Rattle.e57_layout.specs.Packets.{total, data_size, data_packet}
use Rattle.e57_layout.specs.Packing.{front, behind, pour, poured, fits_packet, room_for}
use Rattle.e57_layout.specs.Written.{packet_bytes, packets_bytes, flagged}
use Rattle.e57_layout.proofs.Laws.Layouts.{data_size_is}
use Rattle.e57_layout.proofs.Laws.Packing.{total-behind}
use Rattle.e57_page_out.specs.Sequences.{Loses, Puts}
use Rattle.e57_page_out.specs.Writing.{Writing, IsBeingWritten, most_bytes}
use Rattle.e57_page_out.proofs.Sequences.{puts_both, puts_nothing, loses_part}
use Rattle.e57_chunk_out.specs.Cutting.{cut}
use Rattle.e57_chunk_out.proofs.Stepping.{pour-step, pour-none, behind-behind, behind-zero, front-all}

-- streams that fit are one packet's part of them
pub cut-all : (n : ℕ) (ss : List (List ℕ)) → length ss ≡ n → n ≤ 512 → fits_packet ss ≡ true → cut (room_for n) 0 ss ≡ ss
unfolding fits_packet
cut-all n ss h few fit =
    let size = data_size_is ss in
    let most : data_size ss ≤ 65536 = leb-true (data_size ss) 65536 fit in
    ap (front (room_for n)) (behind-zero ss) ∙ front-all (room_for n) ss (omega arith)

-- the packets of what is left behind the first `skip` bytes
abbrev pub left_over : ℕ → ℕ → List (List ℕ) → List (List (List ℕ))
left_over room skip ss = pour (total (behind skip ss)) room (behind skip ss)

pub flagged-bytes : (first : Bool) (p : List (List ℕ)) (ps : List (List (List ℕ))) → packets_bytes (flagged first (p ∷ ps)) ≡ data_packet first p ++ packets_bytes (flagged false ps)
unfolding flagged packet_bytes
flagged-bytes first p ps = refl

pub nothing-flagged : (first : Bool) → packets_bytes (flagged first []) ≡ []
unfolding flagged
nothing-flagged first = refl

module _ {T : Type 0} (view : T → TargetView) (old : Writing T) (room : ℕ) (ss : List (List ℕ)) (restart : Bool) where
  -- some packets were put, and the others are left
  pub record Pouring (skip : ℕ) (first : Bool) (out : Writing T) : Type 0 where
    pub so_far : List ℕ
    pub put : Puts view old so_far out
    pub rest : so_far ++ packets_bytes (flagged first (left_over room skip ss)) ≡ packets_bytes (flagged restart (pour (total ss) room ss))

  pub pouring_first : IsBeingWritten view old → Pouring 0 restart old
  pouring_first state = record {
    so_far = [];
    put = puts_nothing view old state;
    rest = ap (λ (xs : List (List ℕ)). packets_bytes (flagged restart (pour (total xs) room xs))) (behind-zero ss);
  }

  -- the next packet
  next-bytes : (skip : ℕ) (first : Bool) → 0 < room → skip < total ss → packets_bytes (flagged first (left_over room skip ss)) ≡ data_packet first (cut room skip ss) ++ packets_bytes (flagged false (left_over room (skip + room) ss))
  next-bytes skip first some more =
      let left = total-behind skip ss in
      ap (λ (ps : List (List (List ℕ))). packets_bytes (flagged first ps)) (pour-step room (behind skip ss) some (omega arith))
      ∙ flagged-bytes first (cut room skip ss) (pour (total (behind room (behind skip ss))) room (behind room (behind skip ss)))
      ∙ ap (λ (xs : List (List ℕ)). data_packet first (cut room skip ss) ++ packets_bytes (flagged false (pour (total xs) room xs))) (behind-behind skip room ss)

  pub pouring_next : (skip : ℕ) (first : Bool) (out new : Writing T) → 0 < room → skip < total ss → Pouring skip first out → Puts view out (data_packet first (cut room skip ss)) new → Pouring (skip + room) false new
  pouring_next skip first out new some more way puts = record {
    so_far = way.so_far ++ data_packet first (cut room skip ss);
    put = puts_both view old out new way.so_far (data_packet first (cut room skip ss)) way.put puts;
    rest = append_assoc way.so_far (data_packet first (cut room skip ss)) (packets_bytes (flagged false (left_over room (skip + room) ss)))
        ∙ ap (λ (xs : List ℕ). way.so_far ++ xs) (sym (next-bytes skip first some more))
        ∙ way.rest;
  }

  pub pouring_lost : (skip : ℕ) (first : Bool) (out : Writing T) (fault : PutFault) (now : TargetView) → 0 < room → skip < total ss → Pouring skip first out → Loses view out (most_bytes < out.size + length (data_packet first (cut room skip ss))) fault now
      → Loses view old (most_bytes < old.size + length (packets_bytes (flagged restart (pour (total ss) room ss)))) fault now
  pouring_lost skip first out fault now some more way lost =
      let packet = data_packet first (cut room skip ss) in
      let later = packets_bytes (flagged false (left_over room (skip + room) ss)) in
      let all = ap (λ (xs : List ℕ). length xs) (sym way.rest) ∙ ap (λ (xs : List ℕ). length (way.so_far ++ xs)) (next-bytes skip first some more) ∙ length-append way.so_far (packet ++ later) in
      loses_part view old out way.so_far (length packet) (length (packets_bytes (flagged restart (pour (total ss) room ss)))) fault now way.put (omega (arith, all, length-append packet later)) lost

  pub pouring_all : (skip : ℕ) (first : Bool) (out : Writing T) → total ss ≤ skip → Pouring skip first out → Puts view old (packets_bytes (flagged restart (pour (total ss) room ss))) out
  pouring_all skip first out none way =
      let left = total-behind skip ss in
      let nothing : left_over room skip ss ≡ [] = pour-none (total (behind skip ss)) room (behind skip ss) (omega arith) in
      subst (λ (bytes : List ℕ). Puts view old bytes out)
      (sym (append-nil way.so_far) ∙ ap (λ (xs : List ℕ). way.so_far ++ xs) (sym (ap (λ (ps : List (List (List ℕ))). packets_bytes (flagged first ps)) nothing ∙ nothing-flagged first)) ∙ way.rest)
      way.put

pub poured-is : (ss : List (List ℕ)) (n : ℕ) → length ss ≡ n → pour (total ss) (room_for n) ss ≡ poured ss
unfolding poured
poured-is ss n h = ap (λ m. pour (total ss) (room_for m) ss) (sym h)

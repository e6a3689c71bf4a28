-- The first fault of a packet's first four bytes, from those bytes.
use Rattle.std.specs.Prelude.{◌≡◌, ℕ, ◌+◌, ◌*◌, ◌%◌, ◌^◌, ◌<◌, ◌≤◌, ◌==◌, ◌||◌, not, nat_lt, Bool, true, false, if◌then◌else◌, List, take, drop, Option, Some, None, IfSome}
use Rattle.std.specs.Option.{option_or}
use Rattle.std.proofs.Common.{refl, subst, ap, ◌∙◌, arith, lit≤}
use Rattle.std.proofs.lemmas.Bool.{lt-ltb, le-ltb, ltb-false, eqb-true}
use Rattle.e57_bits.proofs.BitLaws.{number-lt}
use Rattle.e57_bits.specs.Bits.{number}
use Rattle.e57_base.specs.Fault.{fault}
use Rattle.e57_base.specs.Source.{SourceView}
use Rattle.e57_base.proofs.Told.{told_map, told_both}
use Rattle.e57_base.specs.declared.fault.Fault.{Fault}
use Rattle.e57_base.specs.declared.fault.ReadFault.{ReadFault}
use Rattle.e57_base.specs.declared.fault.ReadFault.TheVariants.{Refused, Source}
use Rattle.e57_base.specs.declared.kind.Kind.{Kind}
use Rattle.e57_base.specs.declared.kind.Kind.TheVariants.{PacketType, PacketLength}
use Rattle.e57_page.specs.File.{logical, span_fault}
use Rattle.e57_layout.specs.declared.section.Section.{Section}
use Rattle.e57_layout.specs.Packets.{sort_at, length_at, packet_head_at}
use Rattle.e57_packet.specs.Reading.{head_kind}
use Rattle.e57_cloud.specs.Section.{when}
use Rattle.e57_cloud.specs.Walk.{packet_head_fault}
use Rattle.e57_section.specs.Steps.{is_packet_kind, IsSpanCause, IsHeadCause}
use Rattle.e57_section.proofs.Moved.{sort-piece, length-piece, packet_head-piece}

-- a wrong page is the first fault
pub head_page : (old new : SourceView) (s : Section) (q : ℕ) (found : ReadFault) → IsSpanCause old q 4 found new → IsHeadCause old s q found new
unfolding packet_head_fault
head_page old new s q (Refused found) cause = (
  ap (λ (k : Kind). is_packet_kind k) cause.0,
  told_map (λ file. span_fault file q 4 ≡ Some found) (λ file. packet_head_fault file s q ≡ Some found) old.held (λ file e. rw e refl) cause.1,
)
head_page old new s q Source cause = cause

-- the fault of four bytes of right pages
abbrev head_rest : List ℕ → Section → ℕ → Option Fault
head_rest bytes s q =
    option_or (when (nat_lt 2 (sort_at bytes 0)) (fault PacketType s.node q))
    (when (not (length_at bytes 0 % 4 == 0) || nat_lt s.end (q + length_at bytes 0)) (fault PacketLength s.node q))

head_rest_is : (file bytes : List ℕ) (s : Section) (q : ℕ) → span_fault file q 4 ≡ None → bytes ≡ take 4 (drop q (logical file)) → packet_head_fault file s q ≡ head_rest bytes s q
unfolding packet_head_fault
head_rest_is file bytes s q right read =
    let sort = sort-piece (logical file) q 4 (lit≤ tt) in
    let length = length-piece (logical file) q 4 (lit≤ tt) in
    rw (right, read, sort, length) refl

of_kind : (a c d : Bool) (node q : ℕ) (kind : Kind) → ◌≡◌ {A = Option Kind} (if a then Some PacketType else if not c then Some PacketLength else None) (Some kind) → (option_or (when a (fault PacketType node q)) (when (not c || d) (fault PacketLength node q)) ≡ Some (fault kind node q)) × (is_packet_kind kind ≡ true)
of_kind true c d node q kind e = let same : PacketType ≡ kind = cc in subst (λ (k : Kind). (◌≡◌ {A = Option Fault} (Some (fault PacketType node q)) (Some (fault k node q))) × (is_packet_kind k ≡ true)) same (refl, refl)
of_kind false false d node q kind e = let same : PacketLength ≡ kind = cc in subst (λ (k : Kind). (◌≡◌ {A = Option Fault} (Some (fault PacketLength node q)) (Some (fault k node q))) × (is_packet_kind k ≡ true)) same (refl, refl)
of_kind false true d node q kind e = absurd cc

pub head_kind_found : (old : SourceView) (bytes : List ℕ) (s : Section) (q : ℕ) (kind : Kind) → head_kind bytes ≡ Some kind → IfSome old.held (λ file. span_fault file q 4 ≡ None) → IfSome old.held (λ file. bytes ≡ take 4 (drop q (logical file))) → (is_packet_kind kind ≡ true) × IfSome old.held (λ file. packet_head_fault file s q ≡ Some (fault kind s.node q))
head_kind_found old bytes s q kind e right read =
    let both = of_kind (nat_lt 2 (sort_at bytes 0)) (length_at bytes 0 % 4 == 0) (nat_lt s.end (q + length_at bytes 0)) s.node q kind e in (
      both.1,
      told_both (λ file. span_fault file q 4 ≡ None) (λ file. bytes ≡ take 4 (drop q (logical file))) (λ file. packet_head_fault file s q ≡ Some (fault kind s.node q)) old.held
          (λ file sound is. head_rest_is file bytes s q sound is ∙ both.0) right read,
    )

-- four bytes without a fault of their own
pub record IsSoundHead (bytes : List ℕ) : Type 0 where
  pub sort : nat_lt 2 (sort_at bytes 0) ≡ false
  pub whole : (length_at bytes 0 % 4 == 0) ≡ true

none_kind : (a c : Bool) → ◌≡◌ {A = Option Kind} (if a then Some PacketType else if not c then Some PacketLength else None) None → (a ≡ false) × (c ≡ true)
none_kind true c e = absurd cc
none_kind false false e = absurd cc
none_kind false true e = (refl, refl)

pub sound_head : (bytes : List ℕ) → head_kind bytes ≡ None → IsSoundHead bytes
sound_head bytes e = let both = none_kind (nat_lt 2 (sort_at bytes 0)) (length_at bytes 0 % 4 == 0) e in record { sort = both.0; whole = both.1 }

pub sound_sort : (bytes : List ℕ) → IsSoundHead bytes → sort_at bytes 0 ≤ 2
sound_sort bytes sound = ltb-false 2 (sort_at bytes 0) sound.sort

pub sound_whole : (bytes : List ℕ) → IsSoundHead bytes → length_at bytes 0 % 4 ≡ 0
sound_whole bytes sound = eqb-true (length_at bytes 0 % 4) 0 sound.whole

pub sound_some : (bytes : List ℕ) → IsSoundHead bytes → 4 ≤ length_at bytes 0
unfolding length_at
sound_some bytes sound = let whole = sound_whole bytes sound in omega (arith, whole)

pub length_most : (bytes : List ℕ) → length_at bytes 0 ≤ 65536
unfolding length_at
length_most bytes = let small : number bytes (8 * 0 + 16) 16 < 2 ^ 16 = number-lt bytes (8 * 0 + 16) 16 in omega arith

-- it passes the section's end
pub head_past : (old : SourceView) (bytes : List ℕ) (s : Section) (q : ℕ) → IsSoundHead bytes → s.end < q + length_at bytes 0 → IfSome old.held (λ file. span_fault file q 4 ≡ None) → IfSome old.held (λ file. bytes ≡ take 4 (drop q (logical file))) → IfSome old.held (λ file. packet_head_fault file s q ≡ Some (fault PacketLength s.node q))
head_past old bytes s q sound past right read =
    told_both (λ file. span_fault file q 4 ≡ None) (λ file. bytes ≡ take 4 (drop q (logical file))) (λ file. packet_head_fault file s q ≡ Some (fault PacketLength s.node q)) old.held
    (λ file right is. let over = lt-ltb s.end (q + length_at bytes 0) past in head_rest_is file bytes s q right is ∙ rw (sound.sort, sound.whole, over) refl) right read

-- it is within the section
pub head_within : (old : SourceView) (bytes : List ℕ) (s : Section) (q : ℕ) → IsSoundHead bytes → q + length_at bytes 0 ≤ s.end → IfSome old.held (λ file. span_fault file q 4 ≡ None) → IfSome old.held (λ file. bytes ≡ take 4 (drop q (logical file))) → IfSome old.held (λ file. packet_head_fault file s q ≡ None)
head_within old bytes s q sound within right read =
    told_both (λ file. span_fault file q 4 ≡ None) (λ file. bytes ≡ take 4 (drop q (logical file))) (λ file. packet_head_fault file s q ≡ None) old.held
    (λ file right is. let under = le-ltb s.end (q + length_at bytes 0) within in head_rest_is file bytes s q right is ∙ rw (sound.sort, sound.whole, under) refl) right read

-- the head that was read is that of the file
pub head_read : (old : SourceView) (bytes : List ℕ) (q : ℕ) → IfSome old.held (λ file. bytes ≡ take 4 (drop q (logical file))) → IfSome old.held (λ file. packet_head_at bytes 0 ≡ packet_head_at (logical file) q)
head_read old bytes q read =
    told_map (λ file. bytes ≡ take 4 (drop q (logical file))) (λ file. packet_head_at bytes 0 ≡ packet_head_at (logical file) q) old.held
    (λ file is. rw is (packet_head-piece (logical file) q)) read

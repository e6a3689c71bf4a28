-- What is answered of a packet, by the steps of its reading.
use Rattle.std.specs.Prelude.{◌≡◌, ℕ, ◌+◌, ◌*◌, ◌%◌, ◌≤◌, ◌==◌, ◌||◌, ◌&&◌, not, nat_lt, Bool, true, false, List, length, take, drop, Option, Some, None, is_none, IfSome, if◌then◌else◌}
use Rattle.std.proofs.Common.{refl, sym, subst, ap, ◌∙◌, arith}
use Rattle.std.proofs.lemmas.Bool.{eqb-true, eq-eqb, or_parts, not-false}
use Rattle.std.proofs.lemmas.List.{length-take-le, length-drop}
use Rattle.e57_base.proofs.CountLaws.{rose_before}
use Rattle.e57_base.specs.Fault.{fault}
use Rattle.e57_base.specs.Source.{SourceView}
use Rattle.e57_base.proofs.Told.{told_map, told_both, told_here}
use Rattle.e57_base.specs.declared.fault.Fault.{Fault}
use Rattle.e57_base.specs.declared.fault.ReadFault.{ReadFault}
use Rattle.e57_base.specs.declared.fault.ReadFault.TheVariants.{Refused, Source}
use Rattle.e57_base.specs.declared.kind.Kind.TheVariants.{PacketType, PacketLength}
use Rattle.e57_page.specs.File.{logical, logical_size, span_fault}
use Rattle.e57_page.proofs.FileLaws.{length-logical}
use Rattle.e57_layout.specs.declared.section.Section.{Section}
use Rattle.e57_layout.specs.declared.packet.PacketHead.{PacketHead}
use Rattle.e57_layout.specs.Packets.{sort_at, length_at, lengths_at, packet_head_at, restart_at, streams_at, data_size}
use Rattle.e57_layout.proofs.Laws.Layouts.{restart_at-flags}
use Rattle.e57_packet.specs.Reading.{is_misshapen, stream_ends}
use Rattle.e57_cloud.specs.Section.{when}
use Rattle.e57_cloud.specs.Walk.{packet_head_fault, packet_fault}
use Rattle.e57_cloud.specs.Met.{needed_at}
use Rattle.e57_cloud.proofs.Laws.Walks.{length_at-some}
use Rattle.e57_section.specs.declared.load.Loaded.TheVariants.{Stream, Index, Empty}
use Rattle.e57_section.specs.Steps.{ReadsHead, LosesHead, ReadsData, LosesData, data_fault, IsHeadCause, IsDataCause}
use Rattle.e57_section.specs.Streams.{first_stream, pieces, EndsWithin, IsBuffer}
use Rattle.e57_section.specs.Loading.{LoadsPacket, LosesPacket, IsPacketCause, IsLoaded}
use Rattle.e57_section.proofs.Packets.{fault_head, fault_other, fault_data, needed_data, sound_shape, ends_within, pieces_are, streams_take, streams_piece, count_streams, count_lengths, size_streams}
use Rattle.e57_section.proofs.Loads.{asks_head, asks_all, keeps_all, only_all}
use Rattle.e57_base.proofs.Options.{option_or_parts}

-- ---- how many bytes are needed

pub when_false : (b : Bool) (f : Fault) → when b f ≡ None → b ≡ false
when_false true f e = absurd cc
when_false false f e = refl

length_whole : (file : List ℕ) (s : Section) (q : ℕ) → packet_head_fault file s q ≡ None → 4 ≤ length_at (logical file) q
unfolding packet_head_fault
length_whole file s q none =
    let first = option_or_parts (span_fault file q 4) _ none in
    let second = option_or_parts (when (nat_lt 2 (sort_at (logical file) q)) (fault PacketType s.node q)) _ first.1 in
    let tests = or_parts (not (length_at (logical file) q % 4 == 0)) (nat_lt s.end (q + length_at (logical file) q)) (when_false (not (length_at (logical file) q % 4 == 0) || nat_lt s.end (q + length_at (logical file) q)) (fault PacketLength s.node q) second.1) in
    let whole = eqb-true (length_at (logical file) q % 4) 0 (not-false (length_at (logical file) q % 4 == 0) tests.0) in
    let some = length_at-some (logical file) q in
    omega (arith, whole, some)

-- a packet needs four bytes or more
pub needed_least : (file : List ℕ) (s : Section) (q : ℕ) → 4 ≤ needed_at file s q
unfolding needed_at
needed_least file s q = by_head (packet_head_fault file s q) (sort_at (logical file) q == 1) (λ none. length_whole file s q none)
  where
    by_head : (found : Option Fault) (one : Bool) → (found ≡ None → 4 ≤ length_at (logical file) q) → 4 ≤ (if is_none found && one then length_at (logical file) q else 4)
    by_head None true whole = whole refl
    by_head None false whole = omega arith
    by_head (Some x) one whole = omega arith

-- ---- refusals

head_cause : (old new : SourceView) (s : Section) (q : ℕ) (found : ReadFault) → IsHeadCause old s q found new → IsPacketCause old s q found new
head_cause old new s q (Refused found) cause = (cause.0, told_map (λ file. packet_head_fault file s q ≡ Some found) (λ file. packet_fault file s q ≡ Some found) old.held (λ file e. fault_head file s q found e) cause.1)
head_cause old new s q Source cause = cause

told_needed : (held : Option (List ℕ)) (s : Section) (q : ℕ) → IfSome held (λ file. 4 ≤ needed_at file s q)
told_needed None s q = tt
told_needed (Some file) s q = needed_least file s q

pub lost_head : (old new : SourceView) (kept now : List ℕ) (s : Section) (q : ℕ) (found : ReadFault) → q + 4 ≤ s.end → LosesHead old kept s q found new now → LosesPacket old kept s q found None new now
lost_head old new kept now s q found there lost =
    record {
      n = 4;
      some = omega arith;
      within = there;
      needed = told_needed old.held s q;
      source = asks_head kept q 4 old new lost.source;
      keeps = lost.keeps;
      empty = refl;
      cause = head_cause old new s q found lost.cause;
    }

-- ---- packets without streams

head_facts : (file : List ℕ) (q : ℕ) (head : PacketHead) → head ≡ packet_head_at (logical file) q → (head.sort ≡ sort_at (logical file) q) × (head.length ≡ length_at (logical file) q) × (head.flags ≡ (packet_head_at (logical file) q).flags)
unfolding packet_head_at
head_facts file q head is = (ap (λ (h : PacketHead). h.sort) is, ap (λ (h : PacketHead). h.length) is, ap (λ (h : PacketHead). h.flags) is)

sound_other : (old : SourceView) (s : Section) (q : ℕ) (head : PacketHead) → (head.sort ≡ 1 → ⊥) → IfSome old.held (λ file. packet_head_fault file s q ≡ None) → IfSome old.held (λ file. head ≡ packet_head_at (logical file) q) → IfSome old.held (λ file. packet_fault file s q ≡ None)
sound_other old s q head ne sound read =
    told_both (λ file. packet_head_fault file s q ≡ None) (λ file. head ≡ packet_head_at (logical file) q) (λ file. packet_fault file s q ≡ None) old.held
    (λ file none is. fault_other file s q none (λ e. ne ((head_facts file q head is).0 ∙ e))) sound read

pub loaded_index : (old new : SourceView) (kept now : List ℕ) (s : Section) (q : ℕ) (head : PacketHead) → ReadsHead old kept s q head new now → head.sort ≡ 0 → LoadsPacket old kept s q (Index head.length) None new now
loaded_index old new kept now s q head reads sort =
    record {
      source = asks_head kept q 4 old new reads.source;
      keeps = reads.keeps;
      some = reads.some;
      whole = reads.whole;
      within = reads.within;
      streams = refl;
      sound = sound_other old s q head (λ e. absurd (omega (arith, e, sort))) reads.sound reads.read;
      read = told_map (λ file. head ≡ packet_head_at (logical file) q) (λ file. IsLoaded (logical file) q (Index head.length) None) old.held (λ file is. let facts = head_facts file q head is in (sym facts.0 ∙ sort, facts.1, refl)) reads.read;
    }

pub loaded_empty : (old new : SourceView) (kept now : List ℕ) (s : Section) (q : ℕ) (head : PacketHead) → ReadsHead old kept s q head new now → (head.sort ≡ 0 → ⊥) → (head.sort ≡ 1 → ⊥) → LoadsPacket old kept s q (Empty head.length) None new now
loaded_empty old new kept now s q head reads zero one =
    let most = reads.sort in
    let sort : head.sort ≡ 2 = two head.sort most zero one in
    record {
      source = asks_head kept q 4 old new reads.source;
      keeps = reads.keeps;
      some = reads.some;
      whole = reads.whole;
      within = reads.within;
      streams = refl;
      sound = sound_other old s q head one reads.sound reads.read;
      read = told_map (λ file. head ≡ packet_head_at (logical file) q) (λ file. IsLoaded (logical file) q (Empty head.length) None) old.held (λ file is. let facts = head_facts file q head is in (sym facts.0 ∙ sort, facts.1, refl)) reads.read;
    }
  where
    two : (n : ℕ) → n ≤ 2 → (n ≡ 0 → ⊥) → (n ≡ 1 → ⊥) → n ≡ 2
    two n most zero one = omega (arith, zero, one)

-- ---- data packets

-- the bytes of a told file are there
piece_length : (file : List ℕ) (size q n : ℕ) → logical_size file ≡ size → q + n ≤ size → length (take n (drop q (logical file))) ≡ n
piece_length file size q n same within =
    let all = length-logical file in
    length-take-le n (drop q (logical file)) (rw length-drop (omega (arith, all, same, within)))

data_cause : (old mid new : SourceView) (s : Section) (q size : ℕ) (head : PacketHead) (found : ReadFault) → mid.held ≡ old.held → old.faults ≤ mid.faults → IfSome old.held (λ file. logical_size file ≡ size) → q + head.length ≤ size → head.sort ≡ 1 → IfSome old.held (λ file. packet_head_fault file s q ≡ None) → IfSome old.held (λ file. head ≡ packet_head_at (logical file) q) → IsDataCause mid s.node q head.length s.fields found new → IsPacketCause old s q found new
data_cause old mid new s q size head (Refused found) same faults told within one sound read cause = (
  cause.0,
  told_both (λ file. (logical_size file ≡ size) × (packet_head_fault file s q ≡ None)) (λ file. (head ≡ packet_head_at (logical file) q) × (data_fault file s.node q head.length s.fields ≡ Some found)) (λ file. packet_fault file s q ≡ Some found) old.held
      (λ file a b.
      let facts = head_facts file q head b.0 in
      fault_data file s q head.length (Some found) a.1 (sym facts.0 ∙ one) facts.1 (piece_length file size q head.length a.0 within) b.1)
      (told_both (λ file. logical_size file ≡ size) (λ file. packet_head_fault file s q ≡ None) (λ file. (logical_size file ≡ size) × (packet_head_fault file s q ≡ None)) old.held (λ file a b. (a, b)) told sound)
      (told_both (λ file. head ≡ packet_head_at (logical file) q) (λ file. data_fault file s.node q head.length s.fields ≡ Some found) (λ file. (head ≡ packet_head_at (logical file) q) × (data_fault file s.node q head.length s.fields ≡ Some found)) old.held (λ file a b. (a, b)) read
      (told_here (λ file. data_fault file s.node q head.length s.fields ≡ Some found) mid.held old.held (sym same) cause.1)),
)
data_cause old mid new s q size head Source same faults told within one sound read cause = rose_before old.faults mid.faults new.faults faults cause

needed_length : (old : SourceView) (s : Section) (q : ℕ) (head : PacketHead) → head.sort ≡ 1 → IfSome old.held (λ file. packet_head_fault file s q ≡ None) → IfSome old.held (λ file. head ≡ packet_head_at (logical file) q) → IfSome old.held (λ file. head.length ≤ needed_at file s q)
needed_length old s q head one sound read =
    told_both (λ file. packet_head_fault file s q ≡ None) (λ file. head ≡ packet_head_at (logical file) q) (λ file. head.length ≤ needed_at file s q) old.held
    (λ file none is. let facts = head_facts file q head is in let all = needed_data file s q none (sym facts.0 ∙ one) in let same = facts.1 in omega (arith, all, same)) sound read

pub lost_data : (old mid new : SourceView) (kept midkept now : List ℕ) (s : Section) (q size : ℕ) (head : PacketHead) (found : ReadFault) → IfSome old.held (λ file. logical_size file ≡ size) → s.end ≤ size → ReadsHead old kept s q head mid midkept → head.sort ≡ 1 → LosesData mid midkept s.node q head.length s.fields found new now → LosesPacket old kept s q found None new now
lost_data old mid new kept midkept now s q size head found told inside reads one lost =
    let asks = reads.source.3 in
    let within = reads.within in
    record {
      n = head.length;
      some = reads.some;
      within = reads.within;
      needed = needed_length old s q head one reads.sound reads.read;
      source = asks_all kept midkept q head.length old mid new reads.source reads.keeps lost.source;
      keeps = only_all kept midkept now q head.length reads.some reads.keeps lost.keeps;
      empty = refl;
      cause = data_cause old mid new s q size head found asks.same.held asks.faults told (omega (arith, within, inside)) one reads.sound reads.read lost.cause;
    }

-- the streams of the packet at the front of a buffer
front_streams : (bytes ends : List ℕ) (n fields : ℕ) → length (take n bytes) ≡ n → is_misshapen (take n bytes) fields ≡ false → take fields ends ≡ stream_ends (first_stream fields) (lengths_at (take n bytes) 6 fields) → pieces (first_stream fields) (take fields ends) bytes ≡ streams_at (take n bytes) (6 + 2 * fields) (lengths_at (take n bytes) 6 fields)
front_streams bytes ends n fields long sound set =
    let within = rw long at ((sound_shape (take n bytes) fields sound).1) in
    ap (λ (e : List ℕ). pieces (first_stream fields) e bytes) set
    ∙ pieces_are (first_stream fields) (lengths_at (take n bytes) 6 fields) bytes
    ∙ sym (streams_take bytes n (6 + 2 * fields) (lengths_at (take n bytes) 6 fields) within)

sound_data : (old : SourceView) (s : Section) (q : ℕ) (head : PacketHead) (piece : List ℕ) → head.sort ≡ 1 → length piece ≡ head.length → is_misshapen piece s.fields ≡ false → IfSome old.held (λ file. packet_head_fault file s q ≡ None) → IfSome old.held (λ file. head ≡ packet_head_at (logical file) q) → IfSome old.held (λ file. span_fault file q head.length ≡ None) → IfSome old.held (λ file. piece ≡ take head.length (drop q (logical file))) → IfSome old.held (λ file. packet_fault file s q ≡ None)
sound_data old s q head piece one long sound none is right read =
    told_both (λ file. (packet_head_fault file s q ≡ None) × (head ≡ packet_head_at (logical file) q)) (λ file. (span_fault file q head.length ≡ None) × (piece ≡ take head.length (drop q (logical file)))) (λ file. packet_fault file s q ≡ None) old.held
    (λ file a b.
    let facts = head_facts file q head a.1 in
    let long' : length (take head.length (drop q (logical file))) ≡ head.length = sym (ap (λ (l : List ℕ). length l) b.1) ∙ long in
    let shape : is_misshapen (take head.length (drop q (logical file))) s.fields ≡ false = subst (λ (l : List ℕ). is_misshapen l s.fields ≡ false) b.1 sound in
    fault_data file s q head.length None a.0 (sym facts.0 ∙ one) facts.1 long' (rw (b.0, shape) refl))
    (told_both (λ file. packet_head_fault file s q ≡ None) (λ file. head ≡ packet_head_at (logical file) q) (λ file. (packet_head_fault file s q ≡ None) × (head ≡ packet_head_at (logical file) q)) old.held (λ file a b. (a, b)) none is)
    (told_both (λ file. span_fault file q head.length ≡ None) (λ file. piece ≡ take head.length (drop q (logical file))) (λ file. (span_fault file q head.length ≡ None) × (piece ≡ take head.length (drop q (logical file)))) old.held (λ file a b. (a, b)) right read)

read_data_is : (old : SourceView) (q : ℕ) (head : PacketHead) (piece : List ℕ) (fields : ℕ) (held : Option (List (List ℕ))) → head.sort ≡ 1 → length piece ≡ head.length → is_misshapen piece fields ≡ false → held ≡ Some (streams_at piece (6 + 2 * fields) (lengths_at piece 6 fields)) → IfSome old.held (λ file. head ≡ packet_head_at (logical file) q) → IfSome old.held (λ file. piece ≡ take head.length (drop q (logical file))) → IfSome old.held (λ file. IsLoaded (logical file) q (Stream head.length (head.flags % 2 == 1)) held)
read_data_is old q head piece fields held one long sound held_is is read =
    told_both (λ file. head ≡ packet_head_at (logical file) q) (λ file. piece ≡ take head.length (drop q (logical file))) (λ file. IsLoaded (logical file) q (Stream head.length (head.flags % 2 == 1)) held) old.held
    (λ file a b.
    let facts = head_facts file q head a in
    let sort : sort_at (logical file) q ≡ 1 = sym facts.0 ∙ one in
    let long' : length (take head.length (drop q (logical file))) ≡ head.length = sym (ap (λ (l : List ℕ). length l) b) ∙ long in
    let shape : is_misshapen (take head.length (drop q (logical file))) fields ≡ false = subst (λ (l : List ℕ). is_misshapen l fields ≡ false) b sound in
    let streams = ap (λ (l : List ℕ). streams_at l (6 + 2 * fields) (lengths_at l 6 fields)) b ∙ streams_piece (logical file) q head.length fields shape long' in
    (sort, facts.1, flagged (logical file) q head.flags a one facts.2, held_is ∙ ap (λ (l : List (List ℕ)). Some l) streams))
    is read
  where
    flagged : (b : List ℕ) (q flags : ℕ) → head ≡ packet_head_at b q → head.sort ≡ 1 → flags ≡ (packet_head_at b q).flags → (flags % 2 == 1) ≡ restart_at b q
    flagged b q flags a one same =
        let yes : ((packet_head_at b q).sort == 1) ≡ true = eq-eqb (packet_head_at b q).sort 1 (sym (ap (λ (h : PacketHead). h.sort) a) ∙ one) in
        sym (restart_at-flags b q ∙ rw (yes, ← same) refl)

pub loaded_data : (old mid new : SourceView) (kept midkept now : List ℕ) (s : Section) (q : ℕ) (head : PacketHead) (bytes ends : List ℕ) → ReadsHead old kept s q head mid midkept → head.sort ≡ 1 → length bytes ≡ 65536 → ReadsData mid midkept q head.length s.fields (take head.length bytes) (take s.fields ends) new now → LoadsPacket old kept s q (Stream head.length (head.flags % 2 == 1)) (Some (pieces (first_stream s.fields) (take s.fields ends) bytes)) new now
loaded_data old mid new kept midkept now s q head bytes ends reads one room did =
    let asks = reads.source.3 in
    let most = reads.most in
    let piece = take head.length bytes in
    let long : length piece ≡ head.length = length-take-le head.length bytes (omega (arith, most, room)) in
    let front = front_streams bytes ends head.length s.fields long did.shape did.ends in
    let within = rw long at ((sound_shape piece s.fields did.shape).1) in
    let ns = lengths_at piece 6 s.fields in
    let right = told_here (λ file. span_fault file q head.length ≡ None) mid.held old.held (sym asks.same.held) did.right in
    let read = told_here (λ file. piece ≡ take head.length (drop q (logical file))) mid.held old.held (sym asks.same.held) did.read in
    let small = size_streams piece s.fields ns (count_lengths piece 6 s.fields) in
    record {
      source = asks_all kept midkept q head.length old mid new reads.source reads.keeps did.source;
      keeps = keeps_all kept midkept now q head.length reads.some reads.keeps did.keeps;
      some = reads.some;
      whole = reads.whole;
      within = reads.within;
      streams = subst (λ (l : List (List ℕ)). (length l ≡ s.fields) × (data_size l ≤ head.length)) (sym front) (count_streams piece (6 + 2 * s.fields) ns ∙ count_lengths piece 6 s.fields, omega (arith, small, within));
      sound = sound_data old s q head piece one long did.shape reads.sound reads.read right read;
      read = read_data_is old q head piece s.fields (Some (pieces (first_stream s.fields) (take s.fields ends) bytes)) one long did.shape (ap (λ (l : List (List ℕ)). Some l) front) reads.read read;
    }

-- the buffer afterwards
pub filled_buffer : (old new : SourceView) (midkept now : List ℕ) (q n fields : ℕ) (bytes ends : List ℕ) → fields ≤ 512 → n ≤ 65536 → length bytes ≡ 65536 → length ends ≡ 512 → ReadsData old midkept q n fields (take n bytes) (take fields ends) new now → IsBuffer (Some fields) ends bytes
filled_buffer old new midkept now q n fields bytes ends few most room places did =
    let long : length (take n bytes) ≡ n = length-take-le n bytes (omega (arith, most, room)) in
    let within = rw long at ((sound_shape (take n bytes) fields did.shape).1) in
    record {
      bytes_room = room;
      ends_room = places;
      held = (few, subst (λ (l : List ℕ). EndsWithin (first_stream fields) 65536 l) (sym did.ends) (ends_within (first_stream fields) 65536 (lengths_at (take n bytes) 6 fields) (omega (arith, within, most))));
    }

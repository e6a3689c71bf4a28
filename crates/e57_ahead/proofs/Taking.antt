-- One packet more, by what was loaded.
use Rattle.std.specs.Prelude.{◌≡◌, ℕ, zero, suc, ◌+◌, ◌<◌, ◌≤◌, ◌&&◌, Bool, true, false, List, [], ◌∷◌, length, get_or, Option, Some, None, IfSome, Result, Ok, Err, MatchResult}
use Rattle.std.proofs.Common.{refl, sym, subst, ap, ◌∙◌, arith}
use Rattle.std.proofs.lemmas.List.Sums.{sum-map, sum_by-cons}
use Rattle.e57_base.specs.Source.{SourceView}
use Rattle.e57_base.proofs.Told.{told_map, told_both}
use Rattle.e57_base.specs.declared.fault.Fault.{Fault}
use Rattle.e57_base.specs.declared.fault.ReadFault.{ReadFault}
use Rattle.e57_base.specs.declared.fault.ReadFault.TheVariants.{Refused, Source}
use Rattle.e57_base.specs.declared.kind.Kind.TheVariants.{RestartUnindexed}
use Rattle.e57_base.specs.Fault.{fault}
use Rattle.e57_page.specs.File.{logical}
use Rattle.e57_layout.specs.Packets.{total, data_size, restart_at}
use Rattle.e57_layout.specs.declared.field.Fixed.{Fixed}
use Rattle.e57_layout.specs.declared.section.Section.{Section}
use Rattle.e57_cloud.specs.Walk.{Packet, packet_at, packet_fault}
use Rattle.e57_cloud.specs.PathItem.{chunk_at}
use Rattle.e57_cloud.specs.Met.{InSpan, needed_at}
use Rattle.e57_section.specs.declared.load.Loaded.{Loaded}
use Rattle.e57_section.specs.declared.load.Loaded.TheVariants.{Stream, Index, Empty}
use Rattle.e57_section.specs.Steps.{is_packet_kind}
use Rattle.e57_section.specs.Loading.{loaded_length, needed_by, HoldsStreams, IsLoaded, loaded_as, LoadsPacket, LosesPacket}
use Rattle.e57_section.proofs.AskingLaws.{needed_loaded, loaded_packet}
use Rattle.e57_ahead.specs.declared.reached.Reached.{Reached}
use Rattle.e57_ahead.specs.Counting.{IsWithin, StandsIn, items, anew}
use Rattle.e57_ahead.specs.Finding.{AsksOf, OfPacket, Steps, IsBeyond, IsStepCause, StepsNot, is_found_kind}
use Rattle.e57_ahead.proofs.Standing.{faulty-chunk, empty-chunk, stands-more, stands-passed, stands-anew}
use Rattle.e57_ahead.proofs.Pages.{packet-asks, span-wider}
use Rattle.std.proofs.lemmas.Bool.{and_parts}
use Rattle.e57_section.proofs.Lengths.{needed-most}

same-span : (q n m p : ℕ) → n ≡ m → InSpan q n p → InSpan q m p
same-span q n m p same within = subst (λ (k : ℕ). InSpan q k p) same within

-- the pages of a packet that was loaded
pub loads-asks : (old new : SourceView) (kept now : List ℕ) (s : Section) (r : Reached) (high : ℕ) (answer : Loaded) (held : Option (List (List ℕ))) → r.taken + loaded_length answer ≤ high → LoadsPacket old kept s r.taken answer held new now
    → AsksOf (OfPacket s r) r.taken high old new
loads-asks old new kept now s r high answer held within loads =
    let most = needed-most answer loads.some in
    packet-asks (OfPacket s r) kept r.taken (needed_by answer) high old new most.0 (omega (arith, most.1, within))
    (told_both (λ file. packet_fault file s r.taken ≡ None) (λ file. IsLoaded (logical file) r.taken answer held) (λ file. (p : ℕ) → InSpan r.taken (needed_by answer) p → OfPacket s r file p) old.held
    (λ file sound is p. same-span r.taken (needed_by answer) (needed_at file s r.taken) p (needed_loaded file s r.taken answer held sound is)) loads.sound loads.read)
    loads.source

-- ---- refusals

found-kind : (found : Fault) → is_packet_kind found.kind ≡ true → is_found_kind found.kind ≡ true
found-kind found is = rw is refl

lost-cause : (old new : SourceView) (s : Section) (fixed : Fixed) (r : Reached) (found : ReadFault) (kept now : List ℕ) (held : Option (List (List ℕ))) → r.taken + 4 ≤ s.end → LosesPacket old kept s r.taken found held new now → IsStepCause old s fixed r found new
lost-cause old new s fixed r (Refused found) kept now held there loses =
    let cause = loses.cause in (
      found-kind found cause.0,
      told_map (λ file. packet_fault file s r.taken ≡ Some found) (λ file. StandsIn file s fixed r → (i : ℕ) → IsBeyond fixed r i → chunk_at file s (Some fixed) i ≡ Err found) old.held
          (λ file is stands i beyond. faulty-chunk file s fixed r found i stands there is beyond) cause.1,
    )
lost-cause old new s fixed r Source kept now held there loses = loses.cause

-- the packet wasn't loaded
pub lost-packet : (old new : SourceView) (s : Section) (fixed : Fixed) (r : Reached) (found : ReadFault) (kept now : List ℕ) (held : Option (List (List ℕ))) → r.taken + 4 ≤ s.end → LosesPacket old kept s r.taken found held new now → StepsNot old s fixed r found new
lost-packet old new s fixed r found kept now held there loses = record {
  source = packet-asks (OfPacket s r) kept r.taken loses.n s.end old new loses.some loses.within
      (told_map (λ file. loses.n ≤ needed_at file s r.taken) (λ file. (p : ℕ) → InSpan r.taken loses.n p → OfPacket s r file p) old.held (λ file most p. span-wider r.taken loses.n r.taken (needed_at file s r.taken) p (omega arith) (omega (arith, most))) loses.needed)
      loses.source;
  cause = lost-cause old new s fixed r found kept now held there loses;
}

-- ---- a packet without streams

pub passed-packet : (old new : SourceView) (s : Section) (fixed : Fixed) (r : Reached) (answer : Loaded) (kept now : List ℕ) (held : Option (List (List ℕ))) → (loaded_as r.taken answer held).is_data ≡ false → IsWithin s r → r.taken + 4 ≤ s.end
    → LoadsPacket old kept s r.taken answer held new now → Steps old s fixed r (record { first = r.first; place = r.place; taken = r.taken + loaded_length answer; bytes = r.bytes; has_data = r.has_data }) new
passed-packet old new s fixed r answer kept now held other within there loads =
    let counted = within.counted in
    let inside = loads.within in
    let some = loads.some in
    record {
      source = loads-asks old new kept now s r (r.taken + loaded_length answer) answer held (omega arith) loads;
      within = record { begins = within.begins; counted = omega (arith, counted); within = λ inner. inside };
      forward = omega (arith, some);
      first = omega arith;
      stands = told_both (λ file. packet_fault file s r.taken ≡ None) (λ file. IsLoaded (logical file) r.taken answer held) _ old.held
          (λ file sound is stands.
          let same = loaded_packet (logical file) r.taken answer held is in
          stands-passed file s fixed r (loaded_length answer) stands there sound (rw same other) (rw same (as-length r.taken answer held))) loads.sound loads.read;
    }
  where
    as-length : (q : ℕ) (answer : Loaded) (held : Option (List (List ℕ))) → loaded_length answer ≡ (loaded_as q answer held).length
    as-length q (Stream n restart) None = refl
    as-length q (Stream n restart) (Some streams) = refl
    as-length q (Index n) held = refl
    as-length q (Empty n) held = refl

-- ---- a data packet

pub total-cons : (x : List ℕ) (xs : List (List ℕ)) → total (x ∷ xs) ≡ length x + total xs
total-cons x xs =
    let size = λ (stream : List ℕ). length stream in
    sum-map size (x ∷ xs) ∙ sum_by-cons size x xs ∙ ap (λ (n : ℕ). length x + n) (sym (sum-map size xs))

pub get-total : (streams : List (List ℕ)) (f : ℕ) → length (get_or streams f []) ≤ total streams
get-total [] f = omega arith
get-total (x ∷ xs) zero =
    let first : get_or (x ∷ xs) 0 [] ≡ x = refl in
    let all = total-cons x xs in
    rw first (omega (arith, all))
get-total (x ∷ xs) (suc f) =
    let rest = get-total xs f in
    let later : get_or (x ∷ xs) (suc f) [] ≡ get_or xs f [] = refl in
    let all = total-cons x xs in
    rw later (omega (arith, all, rest))

-- a stream of a data packet is shorter than the packet
stream-size : (streams : List (List ℕ)) (f n : ℕ) → data_size streams ≤ n → length (get_or streams f []) ≤ n
unfolding data_size
stream-size streams f n size = let most = get-total streams f in omega (arith, most, size)

pub stream-short : (s : Section) (n : ℕ) (restart : Bool) (held : Option (List (List ℕ))) (f : ℕ) (stream : List ℕ) → HoldsStreams s (Stream n restart) held → IfSome held (λ streams. stream ≡ get_or streams f []) → length stream ≤ n
stream-short s n restart None f stream holds is = absurd holds
stream-short s n restart (Some streams) f stream holds is = rw is (stream-size streams f n holds.1)

-- the packet of a file that a data packet was loaded from
pub record IsData (file : List ℕ) (q n : ℕ) (restart : Bool) (f bytes : ℕ) : Type 0 where
  pub is_data : (packet_at (logical file) q).is_data ≡ true
  pub restarts : (packet_at (logical file) q).restart ≡ restart
  pub flag : restart_at (logical file) q ≡ restart
  pub size : n ≡ (packet_at (logical file) q).length
  pub stream : bytes ≡ length (get_or (packet_at (logical file) q).streams f [])

pub is-data : (file : List ℕ) (q n : ℕ) (restart : Bool) (held : Option (List (List ℕ))) (f : ℕ) (stream : List ℕ) → IfSome held (λ streams. stream ≡ get_or streams f []) → IsLoaded (logical file) q (Stream n restart) held → IsData file q n restart f (length stream)
is-data file q n restart None f stream are is = let none = is.3 in absurd cc
is-data file q n restart (Some streams) f stream are is =
    let same = loaded_packet (logical file) q (Stream n restart) (Some streams) is in
    record {
      is_data = ap (λ (p : Packet). p.is_data) same;
      restarts = ap (λ (p : Packet). p.restart) same;
      flag = sym is.2;
      size = sym (ap (λ (p : Packet). p.length) same);
      stream = ap (λ (l : List ℕ). length l) are ∙ sym (ap (λ (p : Packet). length (get_or p.streams f [])) same);
    }

-- a data packet of the chunk
pub more-packet : (old new : SourceView) (s : Section) (fixed : Fixed) (r : Reached) (n : ℕ) (restart : Bool) (kept now : List ℕ) (held : Option (List (List ℕ))) (stream : List ℕ) → (restart && r.has_data) ≡ false → IfSome held (λ streams. stream ≡ get_or streams fixed.field [])
    → IsWithin s r → r.taken + 4 ≤ s.end → LoadsPacket old kept s r.taken (Stream n restart) held new now → Steps old s fixed r (record { first = r.first; place = r.place; taken = r.taken + n; bytes = r.bytes + length stream; has_data = true }) new
more-packet old new s fixed r n restart kept now held stream off are within there loads =
    let counted = within.counted in
    let inside = loads.within in
    let some = loads.some in
    let short = stream-short s n restart held fixed.field stream loads.streams are in
    record {
      source = loads-asks old new kept now s r (r.taken + n) (Stream n restart) held (omega arith) loads;
      within = record { begins = within.begins; counted = omega (arith, counted, short); within = λ inner. inside };
      forward = omega (arith, some);
      first = omega arith;
      stands = told_both (λ file. packet_fault file s r.taken ≡ None) (λ file. IsLoaded (logical file) r.taken (Stream n restart) held) _ old.held
          (λ file sound is stands.
          let it = is-data file r.taken n restart held fixed.field stream are is in
          stands-more file s fixed r n (length stream) stands there sound it.is_data (rw it.restarts off) it.size it.stream) loads.sound loads.read;
    }

-- a data packet that begins another chunk
pub anew-packet : (old new : SourceView) (s : Section) (fixed : Fixed) (r : Reached) (n : ℕ) (restart : Bool) (kept now : List ℕ) (held : Option (List (List ℕ))) (stream : List ℕ) → (restart && r.has_data) ≡ true → IfSome held (λ streams. stream ≡ get_or streams fixed.field [])
    → 0 < items fixed r → IsWithin s r → r.taken + 4 ≤ s.end → LoadsPacket old kept s r.taken (Stream n restart) held new now → Steps old s fixed r (anew fixed r n (length stream)) new
anew-packet old new s fixed r n restart kept now held stream on are have within there loads =
    let begins = within.begins in
    let counted = within.counted in
    let inside = loads.within in
    let some = loads.some in
    let flags = and_parts restart r.has_data on in
    let short = stream-short s n restart held fixed.field stream loads.streams are in
    record {
      source = loads-asks old new kept now s r (r.taken + n) (Stream n restart) held (omega arith) loads;
      within = record { begins = omega (arith, begins, counted); counted = omega (arith, short); within = λ inner. inside };
      forward = omega (arith, some);
      first = omega arith;
      stands = told_both (λ file. packet_fault file s r.taken ≡ None) (λ file. IsLoaded (logical file) r.taken (Stream n restart) held) _ old.held
          (λ file sound is stands.
          let it = is-data file r.taken n restart held fixed.field stream are is in
          stands-anew file s fixed r n (length stream) stands there sound it.is_data (it.flag ∙ flags.0) flags.1 have it.size it.stream) loads.sound loads.read;
    }

-- the same, and the chunk before it has no item
pub empty-packet : (old new : SourceView) (s : Section) (fixed : Fixed) (r : Reached) (n : ℕ) (restart : Bool) (kept now : List ℕ) (held : Option (List (List ℕ))) (stream : List ℕ) → (restart && r.has_data) ≡ true → IfSome held (λ streams. stream ≡ get_or streams fixed.field [])
    → items fixed r ≡ 0 → r.taken + 4 ≤ s.end → LoadsPacket old kept s r.taken (Stream n restart) held new now → StepsNot old s fixed r (Refused (fault RestartUnindexed s.node r.taken)) new
empty-packet old new s fixed r n restart kept now held stream on are none there loads =
    let flags = and_parts restart r.has_data on in
    record {
      source = loads-asks old new kept now s r s.end (Stream n restart) held loads.within loads;
      cause = (
        refl,
        told_both (λ file. packet_fault file s r.taken ≡ None) (λ file. IsLoaded (logical file) r.taken (Stream n restart) held) (λ file. StandsIn file s fixed r → (i : ℕ) → IsBeyond fixed r i → chunk_at file s (Some fixed) i ≡ Err (fault RestartUnindexed s.node r.taken)) old.held
            (λ file sound is stands i beyond.
            let it = is-data file r.taken n restart held fixed.field stream are is in
            empty-chunk file s fixed r i stands there sound (it.flag ∙ flags.0) flags.1 none beyond.0) loads.sound loads.read,
      );
    }

-- a data packet that begins another chunk, by what is made of it
pub another-packet : (old new : SourceView) (s : Section) (fixed : Fixed) (r : Reached) (n : ℕ) (restart : Bool) (kept now : List ℕ) (held : Option (List (List ℕ))) (stream : List ℕ) (result : Result Reached ReadFault) → restart ≡ true → r.has_data ≡ true → IfSome held (λ streams. stream ≡ get_or streams fixed.field [])
    → IsWithin s r → r.taken + 4 ≤ s.end → LoadsPacket old kept s r.taken (Stream n restart) held new now
    → MatchResult result (λ next. (0 < items fixed r) × (next ≡ anew fixed r n (length stream))) (λ found. (items fixed r ≡ 0) × (found ≡ Refused (fault RestartUnindexed s.node r.taken)))
    → MatchResult result (λ next. Steps old s fixed r next new) (λ found. StepsNot old s fixed r found new)
another-packet old new s fixed r n restart kept now held stream (Ok next) on has are within there loads is = rw is.1 (anew-packet old new s fixed r n restart kept now held stream (rw (on, has) refl) are is.0 within there loads)
another-packet old new s fixed r n restart kept now held stream (Err found) on has are within there loads is = rw is.1 (empty-packet old new s fixed r n restart kept now held stream (rw (on, has) refl) are is.0 there loads)

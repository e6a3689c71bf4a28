-- What copying a blob does, piece by piece.
use Rattle.std.proofs.Common.{◌≡◌, ℕ, zero, suc, ◌+◌, ◌-◌, ◌*◌, ◌/◌, ◌<◌, ◌≤◌, Bool, true, false, nat_lt, List, [], ◌++◌, length, take, drop, Option, Some, None, IfSome, inl, refl, sym, ap, subst, ◌∙◌, arith, append_assoc, length-append, length-drop, min}
use Rattle.std.specs.Prelude.{if◌then◌else◌}
use Rattle.std.specs.Option.{option_map}
use Rattle.std.proofs.Math.Seq.{take-add}
use Rattle.std.proofs.lemmas.List.{length-take-le}
use Rattle.std.proofs.lemmas.Bool.{ltb-false}
use Rattle.std.proofs.lemmas.Bool.Decides.{nat_tests}
use Rattle.e57_base.proofs.CountLaws.{rose_before}
use Rattle.e57_base.specs.Source.{SourceView}
use Rattle.e57_base.specs.Target.{TargetView}
use Rattle.e57_base.proofs.Told.{told_map, told_both, told_here}
use Rattle.e57_base.specs.declared.fault.Fault.{Fault}
use Rattle.e57_base.specs.declared.fault.PutFault.{PutFault}
use Rattle.e57_base.specs.declared.fault.PutFault.TheVariants.{Target}
use Rattle.e57_base.specs.Fault.{fault as page_fault_of}
use Rattle.e57_base.specs.declared.fault.ReadFault.{ReadFault}
use Rattle.e57_base.specs.declared.fault.ReadFault.TheVariants.{Refused, Source}
use Rattle.e57_base.specs.declared.kind.Kind.TheVariants.{Page}
use Rattle.e57_page.specs.Kept.{KeepsTo}
use Rattle.e57_page.specs.Pages.{AsksUnkept, AsksWithin, IsStopped}
use Rattle.e57_page.specs.declared.pages.Cut.{Cut}
use Rattle.e57_page.proofs.PagesLaws.{asks_within_none, asks_within_on, asks_within_wider, asks_unkept_within, asks_unkept_from, cut_asks, cut_fault}
use Rattle.e57_elements.specs.declared.tree.RawNode.{RawNode}
use Rattle.e57_layout.specs.Headers.{blob_head}
use Rattle.e57_layout.specs.Packets.{whole_words}
use Rattle.e57_layout.specs.Written.{physical, blob_spelled}
use Rattle.e57_page.specs.Place.{place, span_end}
use Rattle.e57_page_out.specs.Sealed.{filled, pages_for}
use Rattle.e57_page_out.proofs.Places.{offset-place}
use Rattle.e57_page.specs.File.{span_fault}
use Rattle.e57_page_out.specs.Sequences.{Puts, Loses}
use Rattle.e57_page_out.specs.Writing.{Writing, Writes, IsBeingWritten, IsBrokenOff, IsNotPut, KeepsTarget, most_bytes}
use Rattle.e57_page_out.proofs.WritingLaws.{keeps_none, keeps_both}
use Rattle.e57_page_out.proofs.Sequences.{puts_nothing, puts_both, loses_part, loses_piece, loses_page, loses_later, spent_piece}
use Rattle.e57_tree.specs.declared.items.Blob.{Blob}
use Rattle.e57_file.specs.Blob.{blob_head as blob_head_place, blob_start, stated_blob_bytes, head_within, LiesIn, OfBlob}
use Rattle.e57_file.specs.BlobReading.{CutsBlob}
use Rattle.e57_file_out.specs.Copying.{ReadsFirst, KeepsLast, CopiesFirst, CopiesPart, LosesPart, IsPartCause, LosesBlob, IsCopyCause, LeavesWriter, StillWrites, BeginsSection, CopiesBlob, IsBlobOf, size_with}
use Rattle.e57_file_out.specs.declared.copy.CopyFault.{CopyFault}
use Rattle.e57_file_out.specs.declared.copy.CopyFault.TheVariants.{Read, Put}
use Rattle.e57_file_out.proofs.Spans.{spans-on, spans-none, span-longer, no_span}

-- ---- the pages of a piece

-- the page before the end of some bytes is the one that the next byte may lie in
before_end : (s at k : ℕ) → 0 < at → (s + at) / 1020 ≤ k → k < span_end s at → k + 1 ≡ span_end s at
before_end s at k some from below = grind (arith, nat_tests)

same_end : (s at count : ℕ) → 0 < count → span_end (s + at) count ≡ span_end s (at + count)
same_end s at count some = grind (arith, nat_tests)

first_end : (s : ℕ) → span_end s 0 ≡ s / 1020
first_end s = refl

low_end : (s at : ℕ) → (s + at) / 1020 ≤ span_end s at
low_end s at = grind (arith, nat_tests)

longer_span : (s a b : ℕ) → a ≤ b → span_end s a ≤ span_end s b
longer_span s a b within = grind (arith, nat_tests)

pub asks_part : (blob : Blob) (at count : ℕ) (kept : List ℕ) (old new : SourceView) → 0 < count → KeepsLast blob at kept → AsksUnkept kept ((blob_start blob + at) / 1020) (span_end (blob_start blob + at) count) old new → AsksWithin (span_end (blob_start blob) at) (span_end (blob_start blob) (at + count)) old new
asks_part blob zero count kept old new some keeps asks =
    let s = blob_start blob in
    let here : s + 0 ≡ s = omega arith in
    let end = same_end s 0 count some in
    asks_within_wider (span_end s 0) ((s + 0) / 1020) (span_end (s + 0) count) (span_end s (0 + count)) old new (let e = ap (λ i. i / 1020) here in omega arith) (omega arith) (asks_unkept_within kept ((s + 0) / 1020) (span_end (s + 0) count) old new asks)
asks_part blob (suc at) count kept old new some keeps asks =
    let s = blob_start blob in
    let end = same_end s (suc at) count some in
    let asked = asks_unkept_from kept ((s + suc at) / 1020) (span_end s (suc at)) (span_end (s + suc at) count) old new (λ k from below. keeps (omega arith) k (before_end s (suc at) k (omega arith) from below)) asks in
    asks_within_wider (span_end s (suc at)) (span_end s (suc at)) (span_end (s + suc at) count) (span_end s (suc at + count)) old new (omega arith) (omega arith) (asks_unkept_within kept (span_end s (suc at)) (span_end (s + suc at) count) old new asked)

last_of : (s at count k : ℕ) → 0 < count → k + 1 ≡ span_end s (at + count) → (k < span_end (s + at) count) × (span_end (s + at) count ≤ k + 144) × ((s + at) / 1020 ≤ k)
last_of s at count k some is = (grind (arith, nat_tests), grind (arith, nat_tests), grind (arith, nat_tests))

pub keeps_part : (blob : Blob) (at count : ℕ) (kept now : List ℕ) → 0 < count → KeepsTo kept ((blob_start blob + at) / 1020) (span_end (blob_start blob + at) count) (span_end (blob_start blob + at) count) now → KeepsLast blob (at + count) now
keeps_part blob at count kept now some keeps any k is =
    let here = last_of (blob_start blob) at count k some is in
    keeps.last k here.0 here.1 (inl here.2)

-- ---- the first bytes, and a piece more

pub first_none : {T : Type 0} (view : T → TargetView) (blob : Blob) (source : SourceView) (kept : List ℕ) (out : Writing T) → IsBeingWritten view out → CopiesFirst view blob 0 source source kept out out
first_none view blob source kept out state =
    record {
      bytes = [];
      reads = record {
        source = asks_within_none (blob_start blob / 1020) (span_end (blob_start blob) 0) source;
        long = refl;
        right = nothing source.held;
        read = no_bytes source.held;
      };
      keeps = λ any k is. absurd (omega arith);
      wrote = puts_nothing view out state;
    }
  where
    nothing : (held : Option (List ℕ)) → IfSome held (λ file. span_fault file (blob_start blob) 0 ≡ None)
    nothing None = tt
    nothing (Some file) = no_span file (blob_start blob)

    no_bytes : (held : Option (List ℕ)) → IfSome held (λ file. [] ≡ take 0 (stated_blob_bytes file blob))
    no_bytes None = tt
    no_bytes (Some file) = refl

-- some of the next bytes were read
both_read : (bytes : List ℕ) (at count : ℕ) (first next : List ℕ) → first ≡ take at bytes → next ≡ take count (drop at bytes) → first ++ next ≡ take (at + count) bytes
both_read bytes at count first next a b = rw (a, b) (sym (take-add at count bytes))

module _ {T : Type 0} (view : T → TargetView) (blob : Blob) (at count : ℕ) (old mid new : SourceView) (kept : List ℕ) (out out' out'' : Writing T) (first : CopiesFirst view blob at old mid kept out out') where
  asked : AsksWithin (span_end (blob_start blob) at) (span_end (blob_start blob) (at + count)) mid new → AsksWithin (blob_start blob / 1020) (span_end (blob_start blob) (at + count)) old new
  asked more =
      let s = blob_start blob in
      let low = low_first s at in
      asks_within_on (s / 1020) (span_end s at) (span_end s (at + count)) old mid new low (longer_span s at (at + count) (omega arith)) first.reads.source more
    where
      low_first : (s at : ℕ) → s / 1020 ≤ span_end s at
      low_first s at = grind (arith, nat_tests)

  held : mid.held ≡ old.held
  held = first.reads.source.2.same.held

  pub first_on : (now : List ℕ) → CopiesPart view blob at count mid new now out' out'' → CopiesFirst view blob (at + count) old new now out out''
  first_on now next =
      record {
        bytes = first.bytes ++ next.bytes;
        reads = record {
          source = asked next.source;
          long = let a = first.reads.long in let b = next.long in omega (arith, length-append first.bytes next.bytes);
          right = told_both (λ file. span_fault file (blob_start blob) at ≡ None) (λ file. span_fault file (blob_start blob + at) count ≡ None) (λ file. span_fault file (blob_start blob) (at + count) ≡ None) old.held
              (λ file a b. spans-none file (blob_start blob) at count a b) first.reads.right (told_here (λ file. span_fault file (blob_start blob + at) count ≡ None) mid.held old.held (sym held) next.right);
          read = told_both (λ file. first.bytes ≡ take at (stated_blob_bytes file blob)) (λ file. next.bytes ≡ take count (drop at (stated_blob_bytes file blob))) (λ file. first.bytes ++ next.bytes ≡ take (at + count) (stated_blob_bytes file blob)) old.held
              (λ file a b. both_read (stated_blob_bytes file blob) at count first.bytes next.bytes a b) first.reads.read (told_here (λ file. next.bytes ≡ take count (drop at (stated_blob_bytes file blob))) mid.held old.held (sym held) next.read);
        };
        keeps = next.keeps;
        wrote = puts_both view out out' out'' first.bytes next.bytes first.wrote next.wrote;
      }

  still : out'' ≡ out' → StillWrites view out out''
  still same = subst (λ (o : Writing T). StillWrites view out o) (sym same) (record { state = first.wrote.state; held = first.wrote.held; target = first.wrote.target })

  whole_fault : (found' : Fault) (file : List ℕ) → 0 < count → at + count ≤ blob.length → span_fault file (blob_start blob) at ≡ None → span_fault file (blob_start blob + at) count ≡ Some found' → span_fault file (blob_start blob) blob.length ≡ Some found'
  whole_fault found' file some within none wrong =
      span-longer file (blob_start blob) (at + count) blob.length found' within (spans-on file (blob_start blob) at count (Some found') some none wrong)

  pub part_lost : (fault : CopyFault) → 0 < count → at + count ≤ blob.length → LosesPart view blob at count mid new out' fault out'' → LosesBlob view blob (out.size + blob.length) old new out fault out''
  part_lost fault some within lost =
      record {
        source = asks_within_wider (blob_start blob / 1020) (blob_start blob / 1020) (span_end (blob_start blob) (at + count)) (span_end (blob_start blob) blob.length) old new (omega arith) (longer_span (blob_start blob) (at + count) blob.length within) (asked lost.source);
        cause = by_fault fault lost.cause;
      }
    where
      by_fault : (fault : CopyFault) → IsPartCause view blob at count mid new out' fault out'' → IsCopyCause view blob (out.size + blob.length) old new out fault out''
      by_fault (Read (Refused found)) (kind, wrong, same) = (
        kind,
        told_both (λ file. span_fault file (blob_start blob) at ≡ None) (λ file. span_fault file (blob_start blob + at) count ≡ Some found) (λ file. span_fault file (blob_start blob) blob.length ≡ Some found) old.held
            (λ file none wrong. whole_fault found file some within none wrong) first.reads.right (told_here (λ file. span_fault file (blob_start blob + at) count ≡ Some found) mid.held old.held (sym held) wrong),
        still same,
      )
      by_fault (Read Source) (rose, same) = (rose_before old.faults mid.faults new.faults first.reads.source.2.faults rose, still same)
      by_fault (Put fault) (spent, loses) =
          let long = first.reads.long in (
            spent,
            loses_part view out out' first.bytes count blob.length fault (view out''.target) first.wrote (omega arith) loses,
          )

-- ---- a piece

-- a page of it was not read
pub cut_part : {T : Type 0} (view : T → TargetView) (blob : Blob) (at : ℕ) (kept now before after : List ℕ) (cut : Cut) (old new : SourceView) (out : Writing T) (answer : CopyFault) → 0 < length before → KeepsLast blob at kept → CutsBlob old kept blob at before cut after new now → answer ≡ Read cut.fault → LosesPart view blob at (length before) old new out answer out
cut_part view blob at kept now before after cut old new out answer some keeps (n, is) same =
    record {
      source = asks_part blob at (length before) kept old new some keeps (cut_asks old new kept now (blob_start blob + at) n before after cut is);
      cause = subst (λ (f : CopyFault). IsPartCause view blob at (length before) old new out f out) (sym same) (by_fault cut.fault refl);
    }
  where
    by_fault : (failure : ReadFault) → cut.fault ≡ failure → IsPartCause view blob at (length before) old new out (Read failure) out
    by_fault (Refused found) e =
        let stopped = subst (λ (f : ReadFault). IsStopped old n f new) e is.cause in
        let is_page : found ≡ page_fault_of Page n 0 = stopped.0 in (
          ap (λ (f : Fault). f.kind) is_page,
          cut_fault old new kept now (blob_start blob + at) n before after cut found e is,
          refl,
        )
    by_fault Source e = (subst (λ (f : ReadFault). IsStopped old n f new) e is.cause, refl)

-- it was not put
pub put_lost : {T : Type 0} (view : T → TargetView) (blob : Blob) (at count : ℕ) (old new : SourceView) (out : Writing T) (bytes : List ℕ) (fault : PutFault) (out' : Writing T) → length bytes ≡ count → IsNotPut view out (length bytes) fault out' → IsPartCause view blob at count old new out (Put fault) out'
put_lost view blob at count old new out bytes fault out' long lost = (
  spent_piece view out (length bytes) fault out' lost,
  subst (λ n. Loses view out (most_bytes < out.size + n) fault (view out'.target)) long (loses_piece view out (length bytes) fault out' lost),
)

-- ---- the header

-- the page was ended, and a piece put
told_behind : (p : ℕ) (piece : List ℕ) (told : Option (List ℕ)) → option_map (λ (xs : List ℕ). xs ++ piece) (option_map (filled p) told) ≡ option_map (λ (xs : List ℕ). filled p xs ++ piece) told
told_behind p piece None = refl
told_behind p piece (Some bytes) = refl

module _ {T : Type 0} (view : T → TargetView) (blob : Blob) (a b c : Writing T) (page : Writes view a (option_map (filled (pages_for a.size)) a.told_bytes) (1020 * pages_for a.size) a.held b) where
  pub section_begun : (offset : ℕ) (head : List ℕ) → place offset ≡ Some b.size → head ≡ blob_head (16 + whole_words blob.length) → length head ≡ 16 → Puts view b head c → BeginsSection view blob a offset c
  section_begun offset head here is size put =
      record {
        begins = offset-place offset b.size here ∙ ap physical page.size;
        wrote = record {
          bytes = put.bytes ∙ ap (option_map (λ (xs : List ℕ). xs ++ head)) page.bytes ∙ told_behind (pages_for a.size) head a.told_bytes
              ∙ ap (λ (h : List ℕ). option_map (λ (xs : List ℕ). filled (pages_for a.size) xs ++ h) a.told_bytes) is;
          size = let first = page.size in let next = put.size in omega arith;
          held = put.held ∙ page.held;
          state = put.state;
          target = keeps_both (view a.target) (view b.target) (view c.target) page.target put.target;
        };
      }

  pub head_lost : (head : List ℕ) (fault : PutFault) → length head ≡ 16 → IsNotPut view b (length head) fault c → (c.is_spent ≡ true) × Loses view a (most_bytes < size_with a.size blob) fault (view c.target)
  head_lost head fault size lost =
      let first = page.size in (
        spent_piece view b (length head) fault c lost,
        loses_later view a b (option_map (filled (pages_for a.size)) a.told_bytes) (1020 * pages_for a.size) a.held (most_bytes < b.size + length head) (most_bytes < size_with a.size blob) fault (view c.target) page (loses_piece view b (length head) fault c lost) (λ past. omega arith),
      )

-- the page was not ended
pub page_lost : {T : Type 0} (view : T → TargetView) (blob : Blob) (a b : Writing T) (fault : PutFault) → (fault ≡ Target) × IsBrokenOff view a (pages_for a.size) b → (b.is_spent ≡ true) × Loses view a (most_bytes < size_with a.size blob) fault (view b.target)
page_lost view blob a b fault (same, broken) = (
  broken.spent,
  subst (λ f. Loses view a (most_bytes < size_with a.size blob) f (view b.target)) (sym same) (loses_page view a (pages_for a.size) (most_bytes < size_with a.size blob) b broken),
)

-- ---- the whole section

-- a blob that lies in a file is no longer than the file
pub lies_within : (size : ℕ) (blob : Blob) → LiesIn size blob → blob.length ≤ size
lies_within size blob lies = by_place (place blob.place) lies where
  by_test : (q : ℕ) (b : Bool) → nat_lt size (q + (16 + blob.length)) ≡ b → (if b then None else Some q) ≡ Some (blob_head_place blob) → blob.length ≤ size
  by_test q true is e = absurd cc
  by_test q false is e = let within = ltb-false size (q + (16 + blob.length)) is in omega arith

  by_place : (o : Option ℕ) → head_within size blob.length o ≡ Some (blob_head_place blob) → blob.length ≤ size
  by_place None e = absurd cc
  by_place (Some q) e = by_test q (nat_lt size (q + (16 + blob.length))) refl e

spelled : (bytes : List ℕ) → blob_spelled bytes ≡ blob_head (16 + whole_words (length bytes)) ++ bytes
unfolding blob_spelled
spelled bytes = refl

told_spelled : (p n : ℕ) (bytes : List ℕ) (told : Option (List ℕ)) → length bytes ≡ n → option_map (λ (xs : List ℕ). xs ++ bytes) (option_map (λ (xs : List ℕ). filled p xs ++ blob_head (16 + whole_words n)) told) ≡ option_map (λ (xs : List ℕ). filled p xs ++ blob_spelled bytes) told
told_spelled p n bytes None long = refl
told_spelled p n bytes (Some xs) long =
    ap Some (append_assoc (filled p xs) (blob_head (16 + whole_words n)) bytes
    ∙ ap (λ k. filled p xs ++ (blob_head (16 + whole_words k) ++ bytes)) (sym long)
    ∙ ap (λ (ys : List ℕ). filled p xs ++ ys) (sym (spelled bytes)))

module _ {T : Type 0} (view : T → TargetView) (blob : Blob) (old new : SourceView) (a b c : Writing T) (offset : ℕ) (begun : BeginsSection view blob a offset b) where
  pub blob_copied : (now : List ℕ) → CopiesFirst view blob blob.length old new now b c → CopiesBlob view blob old new a offset c
  blob_copied now all =
      let head = begun.wrote in
      let rest = all.wrote in
      record {
        begins = begun.begins;
        bytes = all.bytes;
        reads = all.reads;
        wrote = record {
          bytes = rest.bytes ∙ ap (option_map (λ (xs : List ℕ). xs ++ all.bytes)) head.bytes ∙ told_spelled (pages_for a.size) blob.length all.bytes a.told_bytes all.reads.long;
          size = let first = head.size in let next = rest.size in let long = all.reads.long in omega arith;
          held = rest.held ∙ head.held;
          state = rest.state;
          target = keeps_both (view a.target) (view b.target) (view c.target) head.target rest.target;
        };
      }

  still_begun : StillWrites view b c → StillWrites view a c
  still_begun still = record { state = still.state; held = still.held ∙ begun.wrote.held; target = keeps_both (view a.target) (view b.target) (view c.target) begun.wrote.target still.target }

  pub blob_lost : (fault : CopyFault) → LosesBlob view blob (b.size + blob.length) old new b fault c → LosesBlob view blob (size_with a.size blob) old new a fault c
  blob_lost fault lost = record { source = lost.source; cause = by_fault fault lost.cause } where
    by_fault : (fault : CopyFault) → IsCopyCause view blob (b.size + blob.length) old new b fault c → IsCopyCause view blob (size_with a.size blob) old new a fault c
    by_fault (Read (Refused found)) (kind, wrong, still) = (kind, wrong, still_begun still)
    by_fault (Read Source) (rose, still) = (rose, still_begun still)
    by_fault (Put fault) (spent, loses) =
        let first = begun.wrote.size in (
          spent,
          loses_later view a b (option_map (λ (xs : List ℕ). filled (pages_for a.size) xs ++ blob_head (16 + whole_words blob.length)) a.told_bytes) (1020 * pages_for a.size + 16) a.held (most_bytes < b.size + blob.length) (most_bytes < size_with a.size blob) fault (view c.target) begun.wrote loses (λ past. omega arith),
        )

-- the writer afterwards
pub copied_state : {T : Type 0} (view : T → TargetView) (blob : Blob) (old new : SourceView) (out : Writing T) (offset : ℕ) (out' : Writing T) → CopiesBlob view blob old new out offset out' → StillWrites view out out'
copied_state view blob old new out offset out' copied = record { state = copied.wrote.state; held = copied.wrote.held; target = copied.wrote.target }

pub lost_state : {T : Type 0} (view : T → TargetView) (blob : Blob) (size : ℕ) (old new : SourceView) (out : Writing T) (fault : CopyFault) (out' : Writing T) → LosesBlob view blob size old new out fault out' → LeavesWriter view out fault out'
lost_state view blob size old new out (Read (Refused found)) out' lost = lost.cause.2
lost_state view blob size old new out (Read Source) out' lost = lost.cause.1
lost_state view blob size old new out (Put fault) out' lost = lost.cause.0

-- what is so of the blob that was found is so of each that the tree states
pub of_blob : (nodes : List RawNode) (k : ℕ) (found : Blob) (P : Blob → Type 0) → IsBlobOf nodes k found → P found → OfBlob nodes k P
of_blob nodes k found P is p e same blob there =
    let here = is.there e same in
    let one : found ≡ blob = cc in
    subst P one p

pub blob_not_begun : {T : Type 0} (view : T → TargetView) (blob : Blob) (source : SourceView) (a b : Writing T) (fault : PutFault) → (b.is_spent ≡ true) × Loses view a (most_bytes < size_with a.size blob) fault (view b.target) → LosesBlob view blob (size_with a.size blob) source source a (Put fault) b
blob_not_begun view blob source a b fault lost =
    record {
      source = asks_within_none (blob_start blob / 1020) (span_end (blob_start blob) blob.length) source;
      cause = lost;
    }

-- ---- the buffer

-- a piece is as long as it was counted, and within the bytes that are left
pub counted_piece : (buffer : List ℕ) (left count : ℕ) → 0 < left → 0 < length buffer → count ≡ min left (length buffer) → (length (take count buffer) ≡ count) × (0 < count) × (count ≤ left) × (count ≤ length buffer)
counted_piece buffer left count some room is =
    let within : count ≤ length buffer = omega (arith, is) in
    (length-take-le count buffer within, omega (arith, is), omega (arith, is), within)

-- the buffer is as long as before
pub same_room : (piece buffer : List ℕ) (count room : ℕ) → length piece ≡ length (take count buffer) → length (take count buffer) ≡ count → count ≤ length buffer → length buffer ≡ room → length (piece ++ drop count buffer) ≡ room
same_room piece buffer count room is whole within same = rw (length-append, length-drop) (omega (arith, is, whole, within, same))

-- The bytes of a blob, from one piece after another.
use Rattle.std.proofs.Common.{◌≡◌, ℕ, zero, suc, ◌+◌, ◌-◌, ◌*◌, ◌/◌, ◌<◌, ◌≤◌, Bool, true, false, List, [], ◌++◌, length, take, drop, Option, Some, None, refl, sym, subst, ap, ◌∙◌, arith, add-zero, length-append, length-take, length-drop}
use Rattle.std.specs.Prelude.{IfSome, if◌then◌else◌, min}
use Rattle.std.specs.Option.{option_or}
use Rattle.std.proofs.Math.Seq.{take-add}
use Rattle.std.proofs.lemmas.Bool.Decides.{nat_tests}
use Rattle.std.proofs.lemmas.List.{take-take, length-take-le}
use Rattle.e57_base.proofs.CountLaws.{rose_before}
use Rattle.e57_base.specs.Source.{SourceView}
use Rattle.e57_base.specs.Sink.{SinkView, Grows, GrowsByFront}
use Rattle.e57_base.proofs.Told.{told_map, told_both, told_here}
use Rattle.e57_base.specs.Fault.{fault}
use Rattle.e57_base.specs.declared.fault.Fault.{Fault}
use Rattle.e57_base.specs.declared.fault.RunFault.{RunFault}
use Rattle.e57_base.specs.declared.fault.RunFault.TheVariants.{Refused, Source, Out, Memory, Ask}
use Rattle.e57_base.specs.declared.kind.Kind.TheVariants.{Page}
use Rattle.e57_page.specs.Place.{span_end}
use Rattle.e57_page.specs.File.{page_fault, pages_fault, span_fault}
use Rattle.e57_page.proofs.FileLaws.{pages_fault-zero, pages_fault-suc, pages_fault-on}
use Rattle.e57_page.proofs.PagesLaws.{asks_within_none, asks_within_on, asks_within_wider}
use Rattle.e57_tree.specs.declared.items.Blob.{Blob}
use Rattle.e57_file.specs.Blob.{blob_head, blob_start, stated_blob_bytes}
use Rattle.e57_show.specs.Blob.{length_before, right_bytes}
use Rattle.e57_show.specs.BlobPutting.{KeepsLast, AsksBetween, IsPart, PutsPart, PutsFirst, FailsPart, IsPartCause, IsBytesCause, PutsRightFront, PutsBytes, FailsBytes}
use Rattle.e57_show.proofs.Pieces.{no_span, grows_none}
use Rattle.e57_rows.proofs.Puts.{grows_on, front_on}
use Rattle.e57_base.proofs.Options.{option_or_parts}

-- ---- faults of pages in a row

-- of pages without a fault the first ones have none
pages-front : (file : List ℕ) (p few more : ℕ) → pages_fault file p (few + more) ≡ None → pages_fault file p few ≡ None
pages-front file p zero more none = pages_fault-zero file p
pages-front file p (suc few) more none =
    let sum : suc few + more ≡ suc (few + more) = omega arith in
    let both = option_or_parts (page_fault file p) (pages_fault file (p + 1) (few + more)) (rw (sum, pages_fault-suc) at none) in
    rw (pages_fault-suc file p few, both.0) (pages-front file (p + 1) few more both.1)

-- the first fault of some pages is that of more
pages-longer : (file : List ℕ) (p few more : ℕ) (found : Fault) → pages_fault file p few ≡ Some found → pages_fault file p (few + more) ≡ Some found
pages-longer file p zero more found some = let none = pages_fault-zero file p in absurd cc
pages-longer file p (suc few) more found some =
    let sum : suc few + more ≡ suc (few + more) = omega arith in
    rw (sum, pages_fault-suc file p (few + more)) (either (page_fault file p) (λ rest. pages-longer file (p + 1) few more found rest) (rw pages_fault-suc at some)) where
      either : (first : Option Fault) → (pages_fault file (p + 1) few ≡ Some found → pages_fault file (p + 1) (few + more) ≡ Some found) → option_or first (pages_fault file (p + 1) few) ≡ Some found → option_or first (pages_fault file (p + 1) (few + more)) ≡ Some found
      either None later rest = later rest
      either (Some x) later is = is

-- the fault of a page has its number
page-number : (file : List ℕ) (p : ℕ) (found : Fault) → page_fault file p ≡ Some found → found.a ≡ p
unfolding page_fault
page-number file p found some = tested _ some where
  tested : (b : Bool) → ◌≡◌ {A = Option Fault} (if b then None else Some (fault Page p 0)) (Some found) → found.a ≡ p
  tested true e = absurd cc
  tested false e = let same : fault Page p 0 ≡ found = cc in subst (λ (f : Fault). f.a ≡ p) same refl

-- the first fault is that of a page from the first one on
page-from : (file : List ℕ) (p count : ℕ) (found : Fault) → pages_fault file p count ≡ Some found → p ≤ found.a
page-from file p zero found some = let none = pages_fault-zero file p in absurd cc
page-from file p (suc count) found some = either (page_fault file p) refl (λ rest. page-from file (p + 1) count found rest) (rw pages_fault-suc at some) where
  either : (first : Option Fault) → page_fault file p ≡ first → (pages_fault file (p + 1) count ≡ Some found → p + 1 ≤ found.a) → option_or first (pages_fault file (p + 1) count) ≡ Some found → p ≤ found.a
  either None is later rest = let from = later rest in omega (arith, from)
  either (Some x) is later e =
      let same : x ≡ found = cc in
      let number = page-number file p found (is ∙ ap (λ (f : Fault). Some f) same) in
      omega (arith, number)

-- and from those on that have no fault
page-beyond : (file : List ℕ) (p right count : ℕ) (found : Fault) → pages_fault file p right ≡ None → pages_fault file p count ≡ Some found → p + right ≤ found.a
page-beyond file p zero count found none some = let from = page-from file p count found some in omega (arith, from)
page-beyond file p (suc right) zero found none some = let nothing = pages_fault-zero file p in absurd cc
page-beyond file p (suc right) (suc count) found none some =
    let both = option_or_parts (page_fault file p) (pages_fault file (p + 1) right) (rw pages_fault-suc at none) in
    let rest : pages_fault file (p + 1) count ≡ Some found = rw (pages_fault-suc, both.0) at some in
    let beyond = page-beyond file (p + 1) right count found both.1 rest in
    omega (arith, beyond)

-- ---- faults of spans

-- bytes without a fault, and then others
spans-on : (file : List ℕ) (s at count : ℕ) (outcome : Option Fault) → 0 < count → span_fault file s at ≡ None → span_fault file (s + at) count ≡ outcome → span_fault file s (at + count) ≡ outcome
spans-on file s at count outcome some none next =
    let p = s / 1020 in
    let m = (s + at) / 1020 in
    let first : span_end s at - p ≡ (m - p) + (span_end s at - m) = grind (arith, nat_tests) in
    let here : p + (m - p) ≡ m = grind arith in
    let all : span_end s (at + count) - p ≡ (m - p) + (span_end (s + at) count - m) = grind (arith, nat_tests) in
    let front = pages-front file p (m - p) (span_end s at - m) (rw first at none) in
    rw all (pages_fault-on file p (m - p) (span_end (s + at) count - m) outcome front (rw here next))

spans-none : (file : List ℕ) (s at count : ℕ) → span_fault file s at ≡ None → span_fault file (s + at) count ≡ None → span_fault file s (at + count) ≡ None
spans-none file s at zero none next = rw add-zero none
spans-none file s at (suc count) none next = spans-on file s at (suc count) None (omega arith) none next

span-longer : (file : List ℕ) (s few n : ℕ) (found : Fault) → few ≤ n → span_fault file s few ≡ Some found → span_fault file s n ≡ Some found
span-longer file s few n found within some =
    let all : span_end s n - s / 1020 ≡ (span_end s few - s / 1020) + ((span_end s n - s / 1020) - (span_end s few - s / 1020)) = grind (arith, nat_tests) in
    rw all (pages-longer file (s / 1020) (span_end s few - s / 1020) ((span_end s n - s / 1020) - (span_end s few - s / 1020)) found some)

-- the bytes without a fault lie before the page of the first fault
beyond : (s at a : ℕ) → s / 1020 + (span_end s at - s / 1020) ≤ a → 0 < at → s + at ≤ 1020 * a
beyond s at a h some = grind (arith, nat_tests)

span-beyond : (file : List ℕ) (s at n : ℕ) (found : Fault) → 0 < at → span_fault file s at ≡ None → span_fault file s n ≡ Some found → s + at ≤ 1020 * found.a
span-beyond file s at n found any none some =
    beyond s at found.a (page-beyond file (s / 1020) (span_end s at - s / 1020) (span_end s n - s / 1020) found none some) any

few-before : (file : List ℕ) (s at n : ℕ) → at ≤ n → span_fault file s at ≡ None → at ≤ length_before s n (span_fault file s n)
few-before file s zero n within none = omega arith
few-before file s (suc at) n within none = either (span_fault file s n) refl where
  either : (o : Option Fault) → span_fault file s n ≡ o → suc at ≤ length_before s n o
  either None is = within
  either (Some found) is = let here = span-beyond file s (suc at) n found (omega arith) none is in omega (arith, here)

-- a front of a front
front-of : (old new : Option (List ℕ)) (m : ℕ) (text : List ℕ) → GrowsByFront old (take m text) new → GrowsByFront old text new
front-of old new m text (k, within, grows) =
    let long : k ≤ min m (length text) = rw length-take at within in
    (k, omega (arith, long), subst (λ (t : List ℕ). Grows old t new) (take-take k m text (omega (arith, long))) grows)

-- ---- the first bytes, and a piece more

pub first_none : (blob : Blob) (source : SourceView) (kept : List ℕ) (out : SinkView) → KeepsLast (blob_head blob) 16 kept → PutsFirst blob 0 source source kept out out
first_none blob source kept out keeps =
    record {
      source = asks_within_none (span_end (blob_head blob) 16) (span_end (blob_head blob) 16) source;
      keeps = keeps;
      right = nothing source.held;
      text = [];
      read = no_text source.held;
      wrote = grows_none out;
      counts = omega arith;
    }
  where
    nothing : (held : Option (List ℕ)) → IfSome held (λ file. span_fault file (blob_start blob) 0 ≡ None)
    nothing None = tt
    nothing (Some file) = no_span file (blob_start blob)

    no_text : (held : Option (List ℕ)) → IfSome held (λ file. [] ≡ take 0 (stated_blob_bytes file blob))
    no_text None = tt
    no_text (Some file) = refl

longer_span : (h a b : ℕ) → a ≤ b → span_end h (16 + a) ≤ span_end h (16 + b)
longer_span h a b within = grind (arith, nat_tests)

-- some of the next bytes were read
both_read : (file : List ℕ) (blob : Blob) (at count : ℕ) (first next : List ℕ) → first ≡ take at (stated_blob_bytes file blob) → next ≡ take count (drop at (stated_blob_bytes file blob)) → first ++ next ≡ take (at + count) (stated_blob_bytes file blob)
both_read file blob at count first next a b = rw (a, b) (sym (take-add at count (stated_blob_bytes file blob)))

-- what is known of a part, of the source before the first bytes
part_told : (blob : Blob) (at count : ℕ) (old mid : SourceView) (text : List ℕ) → mid.held ≡ old.held → IsPart blob at count mid text → IsPart blob at count old text
part_told blob at count old mid text same part =
    record {
      right = told_here (λ file. span_fault file (blob_start blob + at) count ≡ None) mid.held old.held (sym same) part.right;
      read = told_here (λ file. text ≡ take count (drop at (stated_blob_bytes file blob))) mid.held old.held (sym same) part.read;
    }

-- the bytes that were read, and those of a part
pub record AreRead (blob : Blob) (count : ℕ) (old : SourceView) (text : List ℕ) : Type 0 where
  pub right : IfSome old.held (λ file. span_fault file (blob_start blob) count ≡ None)
  pub read : IfSome old.held (λ file. text ≡ take count (stated_blob_bytes file blob))

read_on : (blob : Blob) (at count : ℕ) (old mid new : SourceView) (kept : List ℕ) (out out' : SinkView) (text : List ℕ) → (first : PutsFirst blob at old mid kept out out') → IsPart blob at count mid text → AreRead blob (at + count) old (first.text ++ text)
read_on blob at count old mid new kept out out' text first part =
    let told = part_told blob at count old mid text first.source.2.same.held part in
    record {
      right = told_both (λ file. span_fault file (blob_start blob) at ≡ None) (λ file. span_fault file (blob_start blob + at) count ≡ None) (λ file. span_fault file (blob_start blob) (at + count) ≡ None) old.held
          (λ file a b. spans-none file (blob_start blob) at count a b) first.right told.right;
      read = told_both (λ file. first.text ≡ take at (stated_blob_bytes file blob)) (λ file. text ≡ take count (drop at (stated_blob_bytes file blob))) (λ file. first.text ++ text ≡ take (at + count) (stated_blob_bytes file blob)) old.held
          (λ file a b. both_read file blob at count first.text text a b) first.read told.read;
    }

pub first_on : (blob : Blob) (at count : ℕ) (old mid new : SourceView) (kept now : List ℕ) (out out' out'' : SinkView) → PutsFirst blob at old mid kept out out' → PutsPart blob at count mid new now out' out'' → PutsFirst blob (at + count) old new now out out''
first_on blob at count old mid new kept now out out' out'' first next =
    let read = read_on blob at count old mid new kept out out' next.text first next.part in
    let h = blob_head blob in
    record {
      source = asks_within_on (span_end h 16) (span_end h (16 + at)) (span_end h (16 + (at + count))) old mid new (longer_span h 0 at (omega arith)) (longer_span h at (at + count) (omega arith)) first.source next.source;
      keeps = next.keeps;
      right = read.right;
      text = first.text ++ next.text;
      read = read.read;
      wrote = grows_on out.written out'.written out''.written first.text next.text first.wrote next.wrote;
      counts = let a = first.counts in let b = next.counts in omega (arith, a, b);
    }

-- ---- all bytes

pub all_put : (blob : Blob) (old new : SourceView) (now : List ℕ) (out out' : SinkView) → PutsFirst blob blob.length old new now out out' → PutsBytes blob old new out out'
all_put blob old new now out out' first =
    record {
      source = first.source;
      right = first.right;
      wrote = (
        first.text,
        told_both (λ file. span_fault file (blob_start blob) blob.length ≡ None) (λ file. first.text ≡ take blob.length (stated_blob_bytes file blob)) (λ file. first.text ≡ right_bytes file blob) old.held
            (λ file none read. read ∙ rw none refl) first.right first.read,
        first.wrote,
      );
    }

-- ---- a piece that wasn't put as a whole

-- what was put is a prefix of the bytes before the first page with a wrong word
front_right : (file : List ℕ) (blob : Blob) (count : ℕ) (text : List ℕ) (old new : Option (List ℕ)) → count ≤ blob.length → span_fault file (blob_start blob) count ≡ None → text ≡ take count (stated_blob_bytes file blob) → GrowsByFront old text new → GrowsByFront old (right_bytes file blob) new
front_right file blob count text old new within none read grows =
    let few = few-before file (blob_start blob) count blob.length within none in
    let n = length_before (blob_start blob) blob.length (span_fault file (blob_start blob) blob.length) in
    let same : text ≡ take count (right_bytes file blob) = read ∙ sym (take-take count n (stated_blob_bytes file blob) few) in
    front-of old new count (right_bytes file blob) (subst (λ (t : List ℕ). GrowsByFront old t new) same grows)

fronts : (blob : Blob) (count : ℕ) (held : Option (List ℕ)) (text : List ℕ) (out out' : SinkView) → count ≤ blob.length → IfSome held (λ file. span_fault file (blob_start blob) count ≡ None) → IfSome held (λ file. text ≡ take count (stated_blob_bytes file blob)) → GrowsByFront out.written text out'.written → (right : List ℕ) × IfSome held (λ file. right ≡ right_bytes file blob) × GrowsByFront out.written right out'.written
fronts blob count None text out out' within right read grows = (text, tt, grows)
fronts blob count (Some file) text out out' within right read grows = (right_bytes file blob, refl, front_right file blob count text out.written out'.written within right read grows)

counted : (file : List ℕ) (s at n : ℕ) (found : Fault) → span_fault file s at ≡ None → span_fault file s n ≡ Some found → at + (1020 * found.a - (s + at)) ≡ 1020 * found.a - s
counted file s zero n found none some = omega arith
counted file s (suc at) n found none some = let here = span-beyond file s (suc at) n found (omega arith) none some in omega (arith, here)

-- up to the page of a fault these are all bytes before it
whole_right : (file : List ℕ) (blob : Blob) (at count done : ℕ) (first next : List ℕ) (found : Fault) → 0 < count → at + count ≤ blob.length → span_fault file (blob_start blob) at ≡ None → span_fault file (blob_start blob + at) count ≡ Some found → done ≡ 1020 * found.a - (blob_start blob + at) → first ++ next ≡ take (at + done) (stated_blob_bytes file blob) → (span_fault file (blob_start blob) blob.length ≡ Some found) × (first ++ next ≡ right_bytes file blob)
whole_right file blob at count done first next found some within none wrong is read =
    let s = blob_start blob in
    let all : span_fault file s blob.length ≡ Some found = span-longer file s (at + count) blob.length found within (spans-on file s at count (Some found) some none wrong) in
    let long : at + done ≡ 1020 * found.a - s = ap (λ (n : ℕ). at + n) is ∙ counted file s at blob.length found none all in
    (all, read ∙ rw (long, all) refl)

pub fails_whole : (blob : Blob) (at count : ℕ) (old mid new : SourceView) (kept : List ℕ) (out out' out'' : SinkView) (given : RunFault) → 0 < count → at + count ≤ blob.length → PutsFirst blob at old mid kept out out' → FailsPart blob at count mid new out' out'' given → FailsBytes blob old new out out'' given
fails_whole blob at count old mid new kept out out' out'' given some within first fails =
    record { source = asked; cause = by_fault given fails.cause }
  where
    h : ℕ
    h = blob_head blob

    asked : AsksBetween blob 0 blob.length old new
    asked =
        asks_within_wider (span_end h 16) (span_end h 16) (span_end h (16 + (at + count))) (span_end h (16 + blob.length)) old new (omega arith) (longer_span h (at + count) blob.length within)
        (asks_within_on (span_end h 16) (span_end h (16 + at)) (span_end h (16 + (at + count))) old mid new (longer_span h 0 at (omega arith)) (longer_span h at (at + count) (omega arith)) first.source fails.source)

    read : AreRead blob (at + fails.done) old (first.text ++ fails.text)
    read = read_on blob at fails.done old mid new kept out out' fails.text first fails.part

    front : PutsRightFront blob old out out''
    front =
        fronts blob (at + fails.done) old.held (first.text ++ fails.text) out out'' (let few = fails.within in omega (arith, few, within)) read.right read.read
        (front_on out.written out'.written out''.written first.text fails.text first.wrote fails.wrote)

    by_fault : (answer : RunFault) → IsPartCause blob at count mid new out' out'' fails.done fails.text answer → IsBytesCause blob old new out out'' answer
    by_fault (Refused found) (kind, grows, wrong) =
        let here = told_here (λ file. (span_fault file (blob_start blob + at) count ≡ Some found) × (fails.done ≡ 1020 * found.a - (blob_start blob + at))) mid.held old.held (sym first.source.2.same.held) wrong in
        let whole = told_both (λ file. (span_fault file (blob_start blob) at ≡ None) × (first.text ++ fails.text ≡ take (at + fails.done) (stated_blob_bytes file blob))) (λ file. (span_fault file (blob_start blob + at) count ≡ Some found) × (fails.done ≡ 1020 * found.a - (blob_start blob + at)))
        (λ file. (span_fault file (blob_start blob) blob.length ≡ Some found) × (first.text ++ fails.text ≡ right_bytes file blob)) old.held
        (λ file a b. whole_right file blob at count fails.done first.text fails.text found some within a.0 b.0 b.1 a.1)
        (told_both (λ file. span_fault file (blob_start blob) at ≡ None) (λ file. first.text ++ fails.text ≡ take (at + fails.done) (stated_blob_bytes file blob)) (λ file. (span_fault file (blob_start blob) at ≡ None) × (first.text ++ fails.text ≡ take (at + fails.done) (stated_blob_bytes file blob))) old.held (λ file a b. (a, b)) first.right read.read)
        here in (
          kind,
          told_map (λ file. (span_fault file (blob_start blob) blob.length ≡ Some found) × (first.text ++ fails.text ≡ right_bytes file blob)) (λ file. span_fault file (blob_start blob) blob.length ≡ Some found) old.held (λ file both. both.0) whole,
          (
            first.text ++ fails.text,
            told_map (λ file. (span_fault file (blob_start blob) blob.length ≡ Some found) × (first.text ++ fails.text ≡ right_bytes file blob)) (λ file. first.text ++ fails.text ≡ right_bytes file blob) old.held (λ file both. both.1) whole,
            grows_on out.written out'.written out''.written first.text fails.text first.wrote grows,
          ),
        )
    by_fault Source rose = (rose_before old.faults mid.faults new.faults first.source.2.faults rose, front)
    by_fault Out rose = (rose_before out.faults out'.faults out''.faults first.counts rose, front)
    by_fault Memory never = absurd never
    by_fault (Ask why) never = absurd never

-- a piece is as long as it was counted, and within the bytes that are left
pub counted_piece : (buffer : List ℕ) (left count : ℕ) → 0 < left → 0 < length buffer → count ≡ min left (length buffer) → (length (take count buffer) ≡ count) × (0 < count) × (count ≤ left) × (count ≤ length buffer)
counted_piece buffer left count some room is =
    let within : count ≤ length buffer = omega (arith, is) in
    (length-take-le count buffer within, omega (arith, is), omega (arith, is), within)

-- the buffer is as long as before
pub same_room : (piece buffer : List ℕ) (count room : ℕ) → length piece ≡ length (take count buffer) → length (take count buffer) ≡ count → count ≤ length buffer → length buffer ≡ room → length (piece ++ drop count buffer) ≡ room
same_room piece buffer count room is whole within same = rw (length-append, length-drop) (omega (arith, is, whole, within, same))

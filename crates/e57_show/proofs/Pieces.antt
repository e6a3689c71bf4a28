-- One piece of a blob's bytes: what was asked for, read and put.
use Rattle.std.proofs.Common.{◌≡◌, ℕ, ◌+◌, ◌-◌, ◌*◌, ◌/◌, ◌<◌, ◌≤◌, List, [], ◌++◌, length, take, drop, Option, Some, None, inl, refl, sym, subst, ap, ◌∙◌, arith, lit≤}
use Rattle.std.specs.Prelude.{IfSome}
use Rattle.std.specs.Option.{option_map}
use Rattle.std.proofs.Math.Seq.{take-length}
use Rattle.std.proofs.lemmas.Bool.Decides.{nat_tests}
use Rattle.std.proofs.lemmas.List.{append-nil, take-take, drop-drop, drop-take}
use Rattle.e57_base.specs.Source.{SourceView}
use Rattle.e57_base.specs.Sink.{SinkView, Grows, GrowsByFront}
use Rattle.e57_base.proofs.Told.{told_map}
use Rattle.e57_base.specs.Fault.{fault}
use Rattle.e57_base.specs.declared.fault.ReadFault.{ReadFault}
use Rattle.e57_base.specs.declared.fault.ReadFault.TheVariants as read
use Rattle.e57_base.specs.declared.fault.RunFault.{RunFault}
use Rattle.e57_base.specs.declared.fault.RunFault.TheVariants.{Refused, Source, Out, Memory, Ask}
use Rattle.e57_base.specs.declared.kind.Kind.TheVariants.{Page}
use Rattle.e57_page.specs.declared.pages.Cut.{Cut}
use Rattle.e57_page.specs.Place.{span_end}
use Rattle.e57_page.specs.Kept.{KeepsTo}
use Rattle.e57_page.specs.File.{logical, pages_fault, span_fault}
use Rattle.e57_page.proofs.FileLaws.{pages_fault-zero}
use Rattle.e57_page.specs.Pages.{AsksUnkept, IsStopped}
use Rattle.e57_page.proofs.PagesLaws.{asks_unkept_within, asks_unkept_from, asks_within_wider, cut_asks, cut_fault, cut_source}
use Rattle.e57_tree.specs.declared.items.Blob.{Blob}
use Rattle.e57_file.specs.Blob.{blob_head, blob_start, stated_blob_bytes}
use Rattle.e57_file.specs.BlobReading.{CutsBlob}
use Rattle.e57_show.specs.BlobPutting.{KeepsLast, AsksBetween, IsPart, PutsCut, FailsPart}

-- ---- pages

-- the page before the end of some bytes is the one that the next byte may lie in
before_end : (h at k : ℕ) → (h + 16 + at) / 1020 ≤ k → k < span_end h (16 + at) → k + 1 ≡ span_end h (16 + at)
before_end h at k from below = grind (arith, nat_tests)

same_end : (h at count : ℕ) → 0 < count → span_end (h + 16 + at) count ≡ span_end h (16 + (at + count))
same_end h at count some = grind (arith, nat_tests)

pub asks_part : (blob : Blob) (at count : ℕ) (kept : List ℕ) (old new : SourceView) → 0 < count → KeepsLast (blob_head blob) (16 + at) kept → AsksUnkept kept ((blob_start blob + at) / 1020) (span_end (blob_start blob + at) count) old new → AsksBetween blob at (at + count) old new
asks_part blob at count kept old new some keeps asks =
    let h = blob_head blob in
    let asked = asks_unkept_from kept ((h + 16 + at) / 1020) (span_end h (16 + at)) (span_end (h + 16 + at) count) old new (λ k from below. keeps k (before_end h at k from below)) asks in
    asks_within_wider (span_end h (16 + at)) (span_end h (16 + at)) (span_end (h + 16 + at) count) (span_end h (16 + (at + count))) old new (omega arith) (let e = same_end h at count some in omega (arith, e)) (asks_unkept_within kept (span_end h (16 + at)) (span_end (h + 16 + at) count) old new asked)

last_of : (h at count k : ℕ) → 0 < count → k + 1 ≡ span_end h (16 + (at + count)) → (k < span_end (h + 16 + at) count) × (span_end (h + 16 + at) count ≤ k + 144) × ((h + 16 + at) / 1020 ≤ k)
last_of h at count k some is = (grind (arith, nat_tests), grind (arith, nat_tests), grind (arith, nat_tests))

pub keeps_part : (blob : Blob) (at count : ℕ) (kept now : List ℕ) → 0 < count → KeepsTo kept ((blob_start blob + at) / 1020) (span_end (blob_start blob + at) count) (span_end (blob_start blob + at) count) now → KeepsLast (blob_head blob) (16 + (at + count)) now
keeps_part blob at count kept now some keeps k is =
    let here = last_of (blob_head blob) at count k some is in
    keeps.last k here.0 here.1 (inl here.2)

-- ---- bytes

pub no_span : (file : List ℕ) (q : ℕ) → span_fault file q 0 ≡ None
no_span file q = let none : q / 1020 - q / 1020 ≡ 0 = omega arith in rw none (pages_fault-zero file (q / 1020))

-- a part of a blob's bytes is a part of the logical bytes
pub part_of_bytes : (b : List ℕ) (s n at count : ℕ) → at + count ≤ n → take count (drop at (take n (drop s b))) ≡ take count (drop (s + at) b)
part_of_bytes b s n at count within =
    let whole : n ≡ at + (n - at) = omega arith in
    let few : count ≤ n - at = omega arith in
    ap (λ (m : ℕ). take count (drop at (take m (drop s b)))) whole
    ∙ ap (λ (xs : List ℕ). take count xs) (drop-take at (n - at) (drop s b))
    ∙ take-take count (n - at) (drop at (drop s b)) few
    ∙ ap (λ (xs : List ℕ). take count xs) (drop-drop at s b)

pub grows_all : (old new : Option (List ℕ)) (text : List ℕ) → Grows old text new → GrowsByFront old text new
grows_all old new text grows = (length text, omega arith, subst (λ (t : List ℕ). Grows old t new) (sym (take-length text)) grows)

map_same : (written : Option (List ℕ)) → written ≡ option_map (λ bytes. bytes ++ []) written
map_same None = refl
map_same (Some bytes) = ap (λ (b : List ℕ). Some b) (sym (append-nil bytes))

pub grows_none : (out : SinkView) → Grows out.written [] out.written
grows_none out = map_same out.written

-- ---- a piece that was cut

-- the pages before the one that stopped a read are those of the bytes that were read
right_before : (file : List ℕ) (q n done : ℕ) → done ≡ 1020 * n - q → n ≡ (q + done) / 1020 → pages_fault file (q / 1020) (n - q / 1020) ≡ None → span_fault file q done ≡ None
right_before file q n done is place right =
    let same : span_end q done - q / 1020 ≡ n - q / 1020 = grind (arith, nat_tests) in
    rw same right

pub cut_part : (blob : Blob) (at : ℕ) (kept now before after : List ℕ) (cut : Cut) (old new : SourceView) (out out' : SinkView) (given : RunFault) → 0 < length before → at + length before ≤ blob.length → KeepsLast (blob_head blob) (16 + at) kept → CutsBlob old kept blob at before cut after new now → PutsCut (take cut.done after) cut.fault out given out' → FailsPart blob at (length before) old new out out' given
cut_part blob at kept now before after cut old new out out' given some within keeps (n, is) puts = by_fault cut.fault given refl puts where
  asked : AsksBetween blob at (at + length before) old new
  asked = asks_part blob at (length before) kept old new some keeps (cut_asks old new kept now (blob_start blob + at) n before after cut is)

  part : IsPart blob at cut.done old (take cut.done after)
  part =
      record {
        right = told_map (λ file. pages_fault file ((blob_start blob + at) / 1020) (n - (blob_start blob + at) / 1020) ≡ None) (λ file. span_fault file (blob_start blob + at) cut.done ≡ None) old.held
            (λ file right. right_before file (blob_start blob + at) n cut.done is.done is.place right) is.right;
        read = told_map (λ file. take cut.done after ≡ take cut.done (drop (blob_start blob + at) (logical file))) (λ file. take cut.done after ≡ take cut.done (drop at (stated_blob_bytes file blob))) old.held
            (λ file read. read ∙ sym (part_of_bytes (logical file) (blob_start blob) blob.length at cut.done (let short = is.short in omega (arith, within, short)))) is.bytes;
      }

  none : IsPart blob at 0 old []
  none =
      record {
        right = always old.held (λ file. no_span file (blob_start blob + at));
        read = always_too old.held;
      }
    where
      always : (held : Option (List ℕ)) → ((file : List ℕ) → span_fault file (blob_start blob + at) 0 ≡ None) → IfSome held (λ file. span_fault file (blob_start blob + at) 0 ≡ None)
      always None f = tt
      always (Some file) f = f file

      always_too : (held : Option (List ℕ)) → IfSome held (λ file. [] ≡ take 0 (drop at (stated_blob_bytes file blob)))
      always_too None = tt
      always_too (Some file) = refl

  by_fault : (failure : ReadFault) (answer : RunFault) → cut.fault ≡ failure → PutsCut (take cut.done after) failure out answer out' → FailsPart blob at (length before) old new out out' answer
  by_fault (read.Refused found) (Refused same) e (eq, grows) =
      let stopped = subst (λ (f : ReadFault). IsStopped old n f new) e is.cause in
      let is_page : found ≡ fault Page n 0 = stopped.0 in
      record {
        source = asked;
        done = cut.done;
        within = let short = is.short in omega (arith, short);
        text = take cut.done after;
        part = part;
        wrote = grows_all out.written out'.written (take cut.done after) grows;
        cause = (
          rw (eq, is_page) refl,
          grows,
          told_map (λ file. span_fault file (blob_start blob + at) (length before) ≡ Some found) (λ file. (span_fault file (blob_start blob + at) (length before) ≡ Some same) × (cut.done ≡ 1020 * same.a - (blob_start blob + at))) old.held
              (λ file wrong. (rw eq wrong, is.done ∙ rw (eq, is_page) refl)) (cut_fault old new kept now (blob_start blob + at) n before after cut found e is),
        );
      }
  by_fault (read.Refused found) Out e (rose, grows) =
      record {
        source = asked;
        done = cut.done;
        within = let short = is.short in omega (arith, short);
        text = take cut.done after;
        part = part;
        wrote = grows;
        cause = rose;
      }
  by_fault (read.Refused found) Source e never = absurd never
  by_fault (read.Refused found) Memory e never = absurd never
  by_fault (read.Refused found) (Ask why) e never = absurd never
  by_fault read.Source Source e same =
      record {
        source = asked;
        done = 0;
        within = omega arith;
        text = [];
        part = none;
        wrote = (0, lit≤ tt, subst (λ (o : SinkView). Grows out.written [] o.written) (sym same) (grows_none out));
        cause = cut_source old new kept now (blob_start blob + at) n before after cut e is;
      }
  by_fault read.Source (Refused found) e never = absurd never
  by_fault read.Source Out e never = absurd never
  by_fault read.Source Memory e never = absurd never
  by_fault read.Source (Ask why) e never = absurd never

-- The section of a blob, opened in a file and put into a new one.
use Rattle.std.proofs.Common.{◌≡◌, ℕ, zero, suc, ◌+◌, ◌-◌, ◌*◌, ◌/◌, ◌%◌, ◌<◌, ◌≤◌, Bool, true, false, List, [], ◌∷◌, length, take, drop, Option, Some, None, Result, Ok, Err, refl, sym, subst, ap, ◌∙◌, arith}
use Rattle.std.specs.Prelude.{IfSome, MatchResult, nat_lt, if◌then◌else◌}
use Rattle.std.proofs.lemmas.Bool.{ltb-false}
use Rattle.std.proofs.lemmas.Bool.Decides.{nat_tests}
use Rattle.e57_base.specs.Fault.{read_as_open, read_as_run}
use Rattle.e57_base.specs.Source.{SourceView}
use Rattle.e57_base.specs.Target.{TargetView}
use Rattle.e57_base.specs.declared.fault.AskFault.TheVariants as of_ask
use Rattle.e57_base.specs.declared.fault.Fault.{Fault}
use Rattle.e57_base.specs.declared.fault.PutFault.TheVariants as of_put
use Rattle.e57_base.specs.declared.fault.ReadFault.{ReadFault}
use Rattle.e57_base.specs.declared.fault.ReadFault.TheVariants as of_read
use Rattle.e57_base.specs.declared.fault.RunFault.{RunFault}
use Rattle.e57_base.proofs.CountLaws.{rose_before}
use Rattle.e57_base.proofs.Options.{option_or_parts}
use Rattle.e57_base.proofs.Told.{told_both, told_here, told_map}
use Rattle.e57_layout.specs.Written.{physical, blob_spelled}
use Rattle.e57_layout.proofs.Laws.Written.{length-blob_spelled}
use Rattle.e57_page.specs.File.{logical, logical_size, page_fault, pages_fault, span_fault}
use Rattle.e57_page.specs.Pages.{AsksWithin}
use Rattle.e57_page.specs.Place.{place, span_end}
use Rattle.e57_page.proofs.FileLaws.{pages_fault-suc, pages_fault-zero}
use Rattle.e57_page_out.specs.Sequences.{Leaves, Puts}
use Rattle.e57_page_out.specs.Writing.{Writing, IsBeingWritten, most_bytes}
use Rattle.e57_page_out.proofs.Sequences.{leaves_still}
use Rattle.e57_elements.specs.Tree.{Element}
use Rattle.e57_nodes.specs.Items.{StatedItem, stated_blob}
use Rattle.e57_tree.specs.Held.{blob_in}
use Rattle.e57_tree.specs.declared.items.Blob.{Blob}
use Rattle.e57_tree.specs.declared.items.Item.TheVariants as item
use Rattle.e57_file.specs.Blob.{blob_head, blob_start, head_within, stated_blob_bytes, LiesIn}
use Rattle.e57_file.specs.BlobReading.{OpensBlob}
use Rattle.e57_file_out.specs.Copying.{size_with, CopiesBlob, IsCopyCause, LeavesWriter, LosesBlob, StillWrites}
use Rattle.e57_file_out.specs.declared.copy.CopyFault.{CopyFault}
use Rattle.e57_file_out.specs.declared.copy.CopyFault.TheVariants.{Read, Put}
use Rattle.e57_verdict.specs.Blob.{Blob as VerdictBlob, blob_bytes}
use Rattle.e57_verdict.specs.Things.{bytes_body, body_of, thing_fault}
use Rattle.e57_verdict.specs.Verdict.{all_pages_fault}
use Rattle.e57_plain.specs.Valid.{IsBody}
use Rattle.e57_plain.specs.Written.{body_section, section_offset}
use Rattle.e57_check.specs.Asking.{AsksWhere}
use Rattle.e57_check.specs.Checking.{thing_in, RefusesThing}
use Rattle.e57_check.proofs.AskingLaws.{asks_anywhere, asks_where_on, span_below, within_pages}
use Rattle.e57_check.proofs.Things.{blob-read}
use Rattle.e57_copy.specs.Items.{stated_in, IsItemCause, IsSoundThing, LosesItem, PassesItem}
use Rattle.e57_copy.specs.Sections.{copy_as_run, CopiesBlobOf, CopiesBody, LosesBlobOf}
use Rattle.e57_copy.proofs.Clouds.{offset_some}
use Rattle.e57_copy.proofs.Putting.{told_behind, whole_size}

-- ---- where all pages are right, those of some bytes are

pages_front : (file : List ℕ) (p few more : ℕ) → pages_fault file p (few + more) ≡ None → pages_fault file p few ≡ None
pages_front file p zero more none = pages_fault-zero file p
pages_front file p (suc few) more none =
    let sum : suc few + more ≡ suc (few + more) = omega arith in
    let both = option_or_parts (page_fault file p) (pages_fault file (p + 1) (few + more)) (rw (sum, pages_fault-suc) at none) in
    rw (pages_fault-suc file p few, both.0) (pages_front file (p + 1) few more both.1)

pages_behind : (file : List ℕ) (p before more : ℕ) → pages_fault file p (before + more) ≡ None → pages_fault file (p + before) more ≡ None
pages_behind file p zero more none =
    let same : 0 + more ≡ more = omega arith in
    let here : p + 0 ≡ p = omega arith in
    rw here (rw same at none)
pages_behind file p (suc before) more none =
    let sum : suc before + more ≡ suc (before + more) = omega arith in
    let here : p + suc before ≡ p + 1 + before = omega arith in
    let both = option_or_parts (page_fault file p) (pages_fault file (p + 1) (before + more)) (rw (sum, pages_fault-suc) at none) in
    rw here (pages_behind file (p + 1) before more both.1)

span_right : (file : List ℕ) (q n : ℕ) → all_pages_fault file ≡ None → q + n ≤ logical_size file → span_fault file q n ≡ None
span_right file q n none within =
    let p = q / 1020 in
    let k = span_end q n - p in
    let size = length file / 1024 in
    let inside : p + k ≤ size = bound q n size within in
    let sum : p + (k + (size - (p + k))) ≡ size = omega (arith, inside) in
    let from : pages_fault file (0 + p) (k + (size - (p + k))) ≡ None = pages_behind file 0 p (k + (size - (p + k))) (subst (λ m. pages_fault file 0 m ≡ None) (sym sum) none) in
    let here : 0 + p ≡ p = omega arith in
    pages_front file p k (size - (p + k)) (subst (λ m. pages_fault file m (k + (size - (p + k))) ≡ None) here from)
  where
    bound : (q n size : ℕ) → q + n ≤ size * 1020 → q / 1020 + (span_end q n - q / 1020) ≤ size
    bound q n size within = grind (arith, nat_tests)

fault_none : (o : Option Fault) (found : Fault) → o ≡ Some found → o ≡ None → ⊥
fault_none o found some none = cc

-- ---- a blob's bytes

if_head : (b : Bool) (q h : ℕ) → ◌≡◌ {A = Option ℕ} (if b then None else Some q) (Some h) → (b ≡ false) × (q ≡ h)
if_head true q h is = absurd cc
if_head false q h is = (refl, cc)

lies_bytes : (size : ℕ) (blob : Blob) → LiesIn size blob → blob_start blob + blob.length ≤ size
lies_bytes size blob lies = by_place (place blob.place) lies
  where
    by_place : (o : Option ℕ) → head_within size blob.length o ≡ Some (blob_head blob) → blob_head blob + 16 + blob.length ≤ size
    by_place None is = absurd cc
    by_place (Some q) is =
        let both = if_head (nat_lt size (q + (16 + blob.length))) q (blob_head blob) is in
        let same = both.1 in
        let low = ltb-false size (q + (16 + blob.length)) both.0 in
        omega (arith, same, low)

-- a blob as the verdict knows it
abbrev verdict_blob : Blob → VerdictBlob
verdict_blob blob = record { node = blob.node; offset = blob.place; length = blob.length }

take_twice : (n : ℕ) (xs : List ℕ) → take n (take n xs) ≡ take n xs
take_twice zero xs = refl
take_twice (suc n) [] = refl
take_twice (suc n) (x ∷ xs) = ap (λ (ys : List ℕ). x ∷ ys) (take_twice n xs)

bytes_same : (file : List ℕ) (blob : Blob) → take blob.length (stated_blob_bytes file blob) ≡ blob_bytes file (verdict_blob blob)
unfolding blob_bytes
bytes_same file blob = take_twice blob.length (drop (blob_start blob) (logical file))

section_blob : (n q node size : ℕ) (bytes : List ℕ) → body_section n q (stated_blob node size) (bytes_body bytes) ≡ blob_spelled bytes
unfolding body_section
section_blob n q node size bytes = refl

-- ---- a blob that wasn't opened

unopened : {T : Type 0} (view : T → TargetView) (e : Element) (k count : ℕ) (old new : SourceView) (out : Writing T) (found : ReadFault) → IsBeingWritten view out → RefusesThing count old e (item.Blob k) (read_as_open found) new → LosesBlobOf view e k count old new out (read_as_run found) out
unopened view e k count old new out (of_read.Refused f) state lost = λ n node. record {
  source = lost.source;
  left = leaves_still view out state;
  cause = told_map (λ file. thing_fault file (thing_in e (item.Blob k)) ≡ Some f)
      (λ file. all_pages_fault file ≡ None → IsSoundThing (thing_in e (item.Blob k)) file → IsBody (stated_blob node (blob_in e k).length) (body_of file (thing_in e (item.Blob k))) → ⊥) old.held
      (λ file is pages sound body. fault_none (thing_fault file (thing_in e (item.Blob k))) f is sound) lost.cause;
}
unopened view e k count old new out of_read.Source state lost = λ n node. record { source = lost.source; left = leaves_still view out state; cause = lost.cause }

pub blob_unopened : {T : Type 0} (view : T → TargetView) (e : Element) (k count : ℕ) (old new : SourceView) (out : Writing T) (found : ReadFault) (given : RunFault) → given ≡ read_as_run found → IsBeingWritten view out → RefusesThing count old e (item.Blob k) (read_as_open found) new
    → LosesBlobOf view e k count old new out given out
blob_unopened view e k count old new out found given is state lost = subst (λ (f : RunFault). LosesBlobOf view e k count old new out f out) (sym is) (unopened view e k count old new out found state lost)

-- ---- a blob that was opened, over plain variables

module _ {T : Type 0} (view : T → TargetView) (e : Element) (k count start : ℕ) (old mid new : SourceView) (kept now : List ℕ) (out out' : Writing T) (state : IsBeingWritten view out) (whole : out.size % 1020 ≡ 0) (opens : OpensBlob old kept (count * 1020) (blob_in e k) start mid now) where
  abbrev blob : Blob
  blob = blob_in e k

  asks_first : AsksWhere (λ file. Unit {0}) count old mid
  asks_first = (blob-read count old mid kept now e k start (record { clouds = 0; blobs = 0; records = 0 }) opens).none.source

  asks_all : AsksWithin (blob_start blob / 1020) (span_end (blob_start blob) blob.length) mid new → AsksWhere (λ file. Unit {0}) count old new
  asks_all asks =
      asks_where_on (λ file. Unit {0}) count old mid new asks_first
      (asks_anywhere (λ file. Unit {0}) count mid new (within_pages (blob_start blob / 1020) (span_end (blob_start blob) blob.length) count mid new (span_below (blob_start blob) blob.length count (lies_bytes (count * 1020) blob opens.lies)) asks))

  held : (P : List ℕ → Type 0) → IfSome mid.held P → IfSome old.held P
  held P told = told_here P mid.held old.held (sym asks_first.asks.same.held) told

  pub blob_put : (offset : ℕ) → CopiesBlob view blob mid new out offset out' → CopiesBlobOf view e k count old new out offset out'
  blob_put offset copies = λ n node.
      let bytes = copies.bytes in
      let reads = copies.reads in
      let size = whole_size out.size whole in
      let long = length-blob_spelled bytes in
      let total = copies.wrote.size in
      let many = reads.long in
      let section = section_blob n out.size node blob.length bytes in
      record {
        source = asks_all reads.source;
        body = bytes_body bytes;
        is_body = reads.long;
        of_file = told_map (λ file. bytes ≡ take blob.length (stated_blob_bytes file blob)) (λ file. IsSoundThing (thing_in e (item.Blob k)) file → bytes_body bytes ≡ body_of file (thing_in e (item.Blob k))) old.held
            (λ file is sound. ap bytes_body (is ∙ bytes_same file blob)) (held (λ file. bytes ≡ take blob.length (stated_blob_bytes file blob)) reads.read);
        puts = record {
          begins = copies.begins ∙ ap physical size ∙ sym (offset_some out.size (blob_spelled bytes) whole (omega (arith, long))) ∙ ap (section_offset (out.size / 1020)) (sym section);
          wrote = subst (λ (xs : List ℕ). Puts view out xs out') (sym section)
              (record {
                bytes = copies.wrote.bytes ∙ told_behind out.size out.told_bytes (blob_spelled bytes) whole state.bytes;
                size = omega (arith, total, size, long, many);
                held = copies.wrote.held;
                state = copies.wrote.state;
                target = copies.wrote.target;
              });
        };
      }

  still_left : StillWrites view out out' → Leaves view out (view out'.target)
  still_left still = record { unended = still.state.unended; unfinished = still.state.unfinished; target = still.target }

  -- a page of its bytes is wrong
  module _ (n node : ℕ) (sized : IfSome old.held (λ file. logical_size file ≡ count * 1020)) where
    abbrev stated : StatedItem
    stated = stated_blob node blob.length

    wrong_page : (found : Fault) → IfSome mid.held (λ file. span_fault file (blob_start blob) blob.length ≡ Some found) → IsItemCause view n stated (thing_in e (item.Blob k)) old new out (Rattle.e57_base.specs.declared.fault.RunFault.TheVariants.Refused found) out'
    wrong_page found wrong =
        told_both (λ file. logical_size file ≡ count * 1020) (λ file. span_fault file (blob_start blob) blob.length ≡ Some found)
        (λ file. all_pages_fault file ≡ None → IsSoundThing (thing_in e (item.Blob k)) file → IsBody stated (body_of file (thing_in e (item.Blob k))) → ⊥) old.held
        (λ file long is pages sound body.
        let within = lies_bytes (count * 1020) blob opens.lies in
        fault_none (span_fault file (blob_start blob) blob.length) found is (span_right file (blob_start blob) blob.length pages (omega (arith, long, within)))) sized
        (held (λ file. span_fault file (blob_start blob) blob.length ≡ Some found) wrong)

    too_large : most_bytes < size_with out.size blob → PassesItem n stated (thing_in e (item.Blob k)) old out of_ask.Large
    too_large past = by_told old.held
      where
        by_told : (o : Option (List ℕ)) → IfSome o (λ file. IsSoundThing (thing_in e (item.Blob k)) file → IsBody stated (body_of file (thing_in e (item.Blob k))) → most_bytes < out.size + length (body_section n out.size stated (body_of file (thing_in e (item.Blob k)))))
        by_told None = tt
        by_told (Some file) = λ sound body.
            let bytes = blob_bytes file (verdict_blob blob) in
            let long = length-blob_spelled bytes in
            let size = whole_size out.size whole in
            let many : length bytes ≡ blob.length = body in
            subst (λ (xs : List ℕ). most_bytes < out.size + length xs) (sym (section_blob n out.size node blob.length bytes)) (omega (arith, past, long, size, many))

    why_lost : (fault : CopyFault) → LeavesWriter view out fault out' → IsCopyCause view blob (size_with out.size blob) mid new out fault out' → Leaves view out (view out'.target) × IsItemCause view n stated (thing_in e (item.Blob k)) old new out (copy_as_run fault) out'
    why_lost (Read (of_read.Refused found)) still lost = (still_left still, wrong_page found lost.1)
    why_lost (Read of_read.Source) still lost = (still_left still, rose_before old.faults mid.faults new.faults asks_first.asks.faults lost.0)
    why_lost (Put of_put.Target) spent lost = (lost.1.0, lost.1.1)
    why_lost (Put of_put.Large) spent lost = (lost.1.0, too_large lost.1.1)

  pub blob_lost : (fault : CopyFault) (given : RunFault) → IfSome old.held (λ file. logical_size file ≡ count * 1020) → given ≡ copy_as_run fault → LeavesWriter view out fault out' → LosesBlob view blob (size_with out.size blob) mid new out fault out' → LosesBlobOf view e k count old new out given out'
  blob_lost fault given sized is left lost = subst (λ (f : RunFault). LosesBlobOf view e k count old new out f out') (sym is)
      (λ n node. let why = why_lost n node sized fault left lost.cause in record { source = asks_all lost.source; left = why.0; cause = why.1 })

-- ---- as that of another tree

pub of_blobs : {T : Type 0} (view : T → TargetView) (n : ℕ) (e d : Element) (k count : ℕ) (old new : SourceView) (out out' : Writing T) (result : Result ℕ RunFault) → (blob_in e k).length ≡ (blob_in d k).length
    → MatchResult result (λ offset. CopiesBlobOf view e k count old new out offset out') (λ fault. LosesBlobOf view e k count old new out fault out')
    → MatchResult result (λ offset. CopiesBody view n (stated_in d (item.Blob k)) (thing_in e (item.Blob k)) count old new out offset out') (λ fault. LosesItem view n (stated_in d (item.Blob k)) (thing_in e (item.Blob k)) count old new out fault out')
of_blobs view n e d k count old new out out' (Ok offset) same copies =
    subst (λ m. CopiesBody view n (stated_blob (blob_in d k).node m) (thing_in e (item.Blob k)) count old new out offset out') same (copies n (blob_in d k).node)
of_blobs view n e d k count old new out out' (Err fault) same loses =
    subst (λ m. LosesItem view n (stated_blob (blob_in d k).node m) (thing_in e (item.Blob k)) count old new out fault out') same (loses n (blob_in d k).node)
